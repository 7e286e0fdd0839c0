use Rattle.std.proofs.lemmas.Result.{err_from_is_err_and}
use Rattle.df_lang.specs.View.{program_of}
use Rattle.df_lang.specs.DeclView.{method_of}
use Rattle.df_nghost.proofs.Programs.{one_more, no_method, typed_at, method_here, newtype_here, counted_on, all_followed, told_of}
use Rattle.df_nghost.proofs.program.follow_all.Goals.{in-Newtype, in-Method+in_ok-follow-in-Method}
use Rattle.df_nghost.proofs.program.follow_all.Goals as goal

pub follow-requires : goal.follow-requires
follow-requires c =
    let less = rw c.deref-decl-items.ensures.value at c.loop-decl-test.true in
    let is = rw c.deref-decl-items.ensures.value at c.decl-item.is in
    typed_at c.args.program.now c.loop-decl.decl-index c.decl-item.result c.in-Method.method c.args.program.now.is_well_typed less is c.in-Method.is

pub returns-in_err-follow-in-Method-clause-refused : goal.returns-in_err-follow-in-Method-clause-refused
returns-in_err-follow-in-Method-clause-refused c =
    let less = rw c.deref-decl-items.ensures.value at c.loop-decl-test.true in
    let is = rw c.deref-decl-items.ensures.value at c.decl-item.is in
    let at = method_here c.args.program.now c.loop-decl.decl-index c.decl-item.result c.in-Method.method less is c.in-Method.is in
    let p = err_from_is_err_and c.from_residual.result c.from_residual.ensures.1 in
    rw (p.1, p.2) (told_of (program_of c.args.program.now) c.loop-decl.decl-index (method_of c.in-Method.method) c.in_err-follow-in-Method.field-0.0 at c.loop-decl.invariant c.in_err-follow-in-Method.ensures.refused)

pub loop-decl-preserved : goal.loop-decl-preserved
loop-decl-preserved c =
    let p = program_of c.args.program.now in
    let i = c.loop-decl.decl-index in
    let less = rw c.deref-decl-items.ensures.value at c.loop-decl-test.true in
    let is = rw c.deref-decl-items.ensures.value at c.decl-item.is in
    counted_on p i (elim c.match-decl.branch [
      | in-Newtype w ↦ no_method p i (newtype_here c.args.program.now i c.decl-item.result _ less is w.in-Newtype.is) c.loop-decl.invariant
      | in-Method+in_ok-follow-in-Method w ↦
          one_more p i (method_of w.in-Method.method) (method_here c.args.program.now i c.decl-item.result w.in-Method.method less is w.in-Method.is) w.in_ok-follow-in-Method.ensures.definite c.loop-decl.invariant
    ])

pub returns-clause-definite : goal.returns-clause-definite
returns-clause-definite c =
    let long = rw c.deref-decl-items.ensures.value at c.loop-decl-test.false in
    all_followed c.args.program.now c.loop-decl.decl-index long c.loop-decl.invariant
