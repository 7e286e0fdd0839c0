use Rattle.std.proofs.Common.{ℕ, Bool, ◌==◌, ◌&&◌, ◌||◌, get_or, refl, ap, ◌∙◌, arith}
use Rattle.std.specs.Ordering.{nat_cmp}
use Rattle.std.specs.BTreeSet.{contains}
use Rattle.df_form.specs.declared.log.Lit.{Lit}
use Rattle.df_form.specs.Clause.{no}
use Rattle.df_kern.specs.ClassesView.{class_of}
use Rattle.df_rules.proofs.Scans.{any_added}
use Rattle.df_kern.proofs.opposite.positives.Goals as goal

pub loop-literal-preserved : goal.loop-literal-preserved
loop-literal-preserved c =
    let clause = c.args.clause.now in
    let i = c.loop-literal.literal-index in
    let x : Lit = get_or clause i (no 0) in
    let same = c.loop-literal.invariant.0 in
    let test : (ℕ → ℕ) → ℕ → Lit → Bool = λ class k l. l.positive && class l.node == k in (
      c.in_ok-add_positive.ensures.same ∙ same,
      λ k.
          any_added clause i (no 0) x (omega arith) refl (test (class_of c.args.classes.now) k) (contains nat_cmp c.loop-literal.set k) (contains nat_cmp c.add_positive.new.set k) (c.loop-literal.invariant.1 k)
          (c.in_ok-add_positive.ensures.more k ∙ ap (λ f. test f k x || contains nat_cmp c.loop-literal.set k) same),
    )
