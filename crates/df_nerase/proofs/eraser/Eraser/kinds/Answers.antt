use Rattle.std.proofs.Common.{arith, rules, map, ap, ◌∙◌}
use Rattle.std.proofs.lemmas.List.{take_all}
use Rattle.df_lang.specs.DeclView.{param_of}
use Rattle.df_lang.specs.Program.{Param}
use Rattle.df_nplain.specs.Kind as plain
use Rattle.df_nerase.specs.Eraser.{program_in}
use Rattle.df_nerase.specs.Erasing.{kind_of}
use Rattle.df_nerase.proofs.MadeViews.{made_more}
use Rattle.df_nerase.proofs.eraser.Eraser.kinds.Goals as goal

pub loop-param-preserved : goal.loop-param-preserved
loop-param-preserved c =
    let p = program_in c.args.self.now in
    let l = c.loop-param in
    made_more param_of plain.kind_of (λ (param : Param). kind_of p param.ty) c.args.params.now.items l.param-index c.param-item.result (omega arith) (search rules) l.erased.items c.push.new.self.items c.kind.result c.kind.ensures c.in_ok-push.ensures.items l.invariant

pub returns : goal.returns
returns c =
    let p = program_in c.args.self.now in
    let l = c.loop-param in
    l.invariant ∙ ap (λ xs. map (λ (param : Param). kind_of p param.ty) (map param_of xs)) (take_all l.param-index c.args.params.now.items (omega arith))
