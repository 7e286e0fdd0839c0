use Rattle.std.proofs.Common.{◌≡◌, ℕ, ◌+◌, ◌&&◌, if◌then◌else◌, sym, arith}
use Rattle.df_clause.proofs.clause_set.counted.Goals as goal

pub returns-in-true-true : goal.returns-in-true-true
returns-in-true-true c = sym (λ i. c.args.count + (if c.in-true-true.is-0 i && c.in-true-true.is-1 i then 1 else 0))

pub returns-in-true-false : goal.returns-in-true-false
returns-in-true-false c =
    let none : ◌≡◌ {A = ℕ} (if c.args.is_new && c.args.counts then 1 else 0) 0 = λ i. if c.in-true-false.is-0 i && c.in-true-false.is-1 i then 1 else 0 in
    omega (arith, none)

pub returns-in-false-true : goal.returns-in-false-true
returns-in-false-true c =
    let none : ◌≡◌ {A = ℕ} (if c.args.is_new && c.args.counts then 1 else 0) 0 = λ i. if c.in-false-true.is-0 i && c.in-false-true.is-1 i then 1 else 0 in
    omega (arith, none)

pub returns-in-false-false : goal.returns-in-false-false
returns-in-false-false c =
    let none : ◌≡◌ {A = ℕ} (if c.args.is_new && c.args.counts then 1 else 0) 0 = λ i. if c.in-false-false.is-0 i && c.in-false-false.is-1 i then 1 else 0 in
    omega (arith, none)
