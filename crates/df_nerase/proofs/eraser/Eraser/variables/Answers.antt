use Rattle.std.proofs.Common.{◌≡◌, get_or, false, arith, map, ap, ◌∙◌}
use Rattle.std.proofs.lemmas.List.{get_or_default, take_all}
use Rattle.df_lang.specs.StmtView.{variable_of}
use Rattle.df_lang.specs.declared.stmt.Variable.{Variable}
use Rattle.df_lang.specs.declared.ty.Ty.TheVariants as tys
use Rattle.df_nplain.specs.StmtView as plain
use Rattle.df_nerase.specs.Eraser.{program_in}
use Rattle.df_nerase.specs.Erasing.{erase_variable, kind_of}
use Rattle.df_nerase.proofs.MadeViews.{made_more}
use Rattle.df_nerase.proofs.eraser.Eraser.variables.Goals as goal

pub loop-variable-preserved : goal.loop-variable-preserved
loop-variable-preserved c =
    let p = program_in c.args.self.now in
    let l = c.loop-variable in
    let items = c.args.all.now.items in
    let nothing : Variable = record { local = 0; name = 0; pos = record { line = 0; col = 0 }; ty = tys.Newtype 0; is_ghost = false } in
    let x = get_or items l.variable-index nothing in
    let is : x ≡ get_or items l.variable-index x = get_or_default items l.variable-index nothing x (omega arith) in
    let same = c.deref-variable-items.ensures.value in
    made_more variable_of plain.variable_of (erase_variable p) items l.variable-index x (omega arith) is l.erased.items c.push.new.self.items _ (λ i. record { local = (get_or (same i) l.variable-index nothing).local; kind = (c.kind.ensures ∙ ap (λ xs. kind_of p (get_or xs l.variable-index nothing).ty) same) i }) c.in_ok-push.ensures.items l.invariant

pub returns : goal.returns
returns c =
    let p = program_in c.args.self.now in
    let l = c.loop-variable in
    l.invariant ∙ ap (λ xs. map (erase_variable p) (map variable_of xs)) (take_all l.variable-index c.args.all.now.items (omega arith))
