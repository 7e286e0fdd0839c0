use Rattle.std.proofs.Common.{ℕ, Bool, get_or, refl, sym, ap, ◌∙◌, arith}
use Rattle.std.specs.Ordering.{nat_cmp}
use Rattle.std.specs.BTreeMap.{get}
use Rattle.df_rules.specs.CongruenceLine.{are_different, number_at}
use Rattle.df_kern.specs.ClassesView.{class_of}
use Rattle.df_rules.proofs.Scans.{any_found, any_next}
use Rattle.df_kern.proofs.number.has_other_number.Goals as goal

pub returns-then-branch-clause-other : goal.returns-then-branch-clause-other
returns-then-branch-clause-other c =
    let members = c.args.members.now in
    let i = c.loop-member.member-index in
    let x = get_or members i 0 in
    let test : (ℕ → ℕ) → ℕ → Bool = λ class n. are_different (number_at c.args.nodes.now n) (get nat_cmp c.args.numbers.now (class n)) in
    any_found members i 0 x (omega arith) refl (test (class_of c.args.classes.now)) c.loop-member.invariant.1
    (ap (λ f. test f x) (sym c.loop-member.invariant.0) ∙ sym c.in_ok-differs.ensures.differs ∙ c.if-branch.true)

pub loop-member-preserved : goal.loop-member-preserved
loop-member-preserved c =
    let members = c.args.members.now in
    let i = c.loop-member.member-index in
    let x = get_or members i 0 in
    let test : (ℕ → ℕ) → ℕ → Bool = λ class n. are_different (number_at c.args.nodes.now n) (get nat_cmp c.args.numbers.now (class n)) in (
      c.in_ok-differs.ensures.same ∙ c.loop-member.invariant.0,
      any_next members i 0 x (omega arith) refl (test (class_of c.args.classes.now)) c.loop-member.invariant.1
          (ap (λ f. test f x) (sym c.loop-member.invariant.0) ∙ sym c.in_ok-differs.ensures.differs ∙ c.if-branch.false),
    )
