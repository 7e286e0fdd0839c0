use Rattle.std.proofs.Common.{ℕ, Bool, not, ◌&&◌, get_or, refl, sym, ap, ◌∙◌, arith}
use Rattle.std.specs.Ordering.{nat_cmp}
use Rattle.std.specs.BTreeSet.{contains}
use Rattle.df_form.specs.declared.log.Lit.{Lit}
use Rattle.df_form.specs.Clause.{no}
use Rattle.df_kern.specs.ClassesView.{class_of}
use Rattle.df_rules.proofs.Scans.{any_found, any_next}
use Rattle.df_kern.proofs.opposite.has_opposite.Goals as goal

pub returns-then-branch-clause-opposite : goal.returns-then-branch-clause-opposite
returns-then-branch-clause-opposite c =
    let clause = c.args.clause.now in
    let i = c.loop-literal.literal-index in
    let x : Lit = get_or clause i (no 0) in
    let test : (ℕ → ℕ) → Lit → Bool = λ class l. not l.positive && contains nat_cmp c.args.positives.now (class l.node) in
    any_found clause i (no 0) x (omega arith) refl (test (class_of c.args.classes.now)) c.loop-literal.invariant.1
    (ap (λ f. test f x) (sym c.loop-literal.invariant.0) ∙ sym c.in_ok-is_opposite.ensures.opposite ∙ c.if-branch.true)

pub loop-literal-preserved : goal.loop-literal-preserved
loop-literal-preserved c =
    let clause = c.args.clause.now in
    let i = c.loop-literal.literal-index in
    let x : Lit = get_or clause i (no 0) in
    let test : (ℕ → ℕ) → Lit → Bool = λ class l. not l.positive && contains nat_cmp c.args.positives.now (class l.node) in (
      c.in_ok-is_opposite.ensures.same ∙ c.loop-literal.invariant.0,
      any_next clause i (no 0) x (omega arith) refl (test (class_of c.args.classes.now)) c.loop-literal.invariant.1
          (ap (λ f. test f x) (sym c.loop-literal.invariant.0) ∙ sym c.in_ok-is_opposite.ensures.opposite ∙ c.if-branch.false),
    )
