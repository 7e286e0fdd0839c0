use Rattle.std.proofs.Common.{arith, rules, map, sym, ap, ◌∙◌, ◌++◌, []}
use Rattle.std.specs.Prelude.{Vec, Option}
use Rattle.std.specs.List.{cons_option}
use Rattle.std.specs.declared.alloc.Global.{Global}
use Rattle.df_lang.specs.DeclView.{decl_of}
use Rattle.df_nplain.specs.MethodView.{method_of}
use Rattle.df_nplain.specs.declared.plain.Method.{Method}
use Rattle.df_nerase.specs.Eraser.{program_in}
use Rattle.df_nerase.proofs.Erased.{erase_decl, all_methods, one_erased, none_more}
use Rattle.df_nerase.proofs.eraser.Eraser.methods.Goals as goal
use Rattle.df_nerase.proofs.eraser.Eraser.methods.Goals.{in-Some+in_ok-push, in_default}

pub returns : goal.returns
returns c = all_methods decl_of (program_in c.args.self.now) c.args.self.now.program.now.decls.items c.loop-decl.decl-index (map method_of c.loop-decl.erased.items) c.loop-decl.invariant (omega arith)

pub loop-decl-preserved : goal.loop-decl-preserved
loop-decl-preserved c =
    let p = program_in c.args.self.now in
    let decls = c.args.self.now.program.now.decls.items in
    let kept = c.in_ok-method.field-0 in
    let made = c.loop-decl.erased.items in
    let new = c.match-branch-3.erased.items in
    elim c.match-branch-3.branch [
      | in-Some+in_ok-push w ↦
          let grown = ap (λ (v : Vec Method Global). v.items) w.erased-is ∙ w.in_ok-push.ensures.items ∙ ap (λ (o : Option Method). made ++ cons_option o []) (sym w.in-Some.is) in
          one_erased decl_of method_of (erase_decl p) decls c.loop-decl.decl-index c.decl-item.result made new kept (omega arith) (search rules) c.in_ok-method.ensures grown c.loop-decl.invariant
      | in_default w ↦
          let same = none_more made new kept w.in_default.is (ap (λ (v : Vec Method Global). v.items) w.erased-is) in
          one_erased decl_of method_of (erase_decl p) decls c.loop-decl.decl-index c.decl-item.result made new kept (omega arith) (search rules) c.in_ok-method.ensures same c.loop-decl.invariant
    ]
