use Rattle.std.proofs.Common.{◌≡◌, sym, ◌∙◌, ap, subst, ℕ, ℤ, ◌*ℤ◌, pos, int_le, true, List, Option, Some, rules, arith}
use Rattle.std.proofs.lemmas.Int.{to_z-of_z, ints}
use Rattle.std.proofs.lemmas.Result.{err_from_is_err_and}
use Rattle.df_row.specs.Row.{Row}
use Rattle.df_row.specs.RowView.{row_of, fitting_constant, Finds, Fails, narrow}
use Rattle.df_row.specs.Linear.{with_multiple}
use Rattle.df_row.proofs.Rows.{passed, if_narrow, constant_same}
use Rattle.df_row.proofs.RowSums.{IsSumming, sum_goes, product_fails, add_fails, sum_fails, multiple_some}
use Rattle.df_row.proofs.row.Row.add_multiple.Goals as goal

pub returns-in_err-more : goal.returns-in_err-more
returns-in_err-more c = λ count small within.
    let f = passed c.args.factor in
    let other = c.args.other.now in
    let all = other.coefficients.entries in
    let start = row_of c.args.self.now in
    let row = row_of c.loop-node.self in
    let v = c.in-Some.coefficient.now in
    let sorted = c.into_iter-node-iterator.ensures.into_iter_gives.5 in
    let P : List (ℕ × ℤ) → Type 0 = λ left. IsSumming f all left start row in
    let so_far = subst P c.in-Some.ensures.steps c.loop-node.invariant in
    let is : f *ℤ passed v ≡ f *ℤ v = search (rules, to_z-of_z) in
    let same : f ≡ c.args.factor = search (rules, to_z-of_z) in
    let fault = c.in_err-more.field-0.0 in
    let p = err_from_is_err_and c.from_residual.result c.from_residual.ensures.1 in
    let none = sum_fails fault f all other.constant start count sorted small within (product_fails f all start row c.in-Some.node.now v c.next.new.self (f *ℤ passed v) is so_far fault c.in_err-more.ensures) in
    let Q : ℤ → Type 0 = λ x. Fails fault (with_multiple count start x (Some (row_of other))) in
    rw (p.1, p.2) (subst Q same none)

pub loop-node-preserved : goal.loop-node-preserved
loop-node-preserved c =
    let f = passed c.args.factor in
    let all = c.args.other.now.coefficients.entries in
    let start = row_of c.args.self.now in
    let row = row_of c.loop-node.self in
    let v = c.in-Some.coefficient.now in
    let P : List (ℕ × ℤ) → Type 0 = λ left. IsSumming f all left start row in
    let so_far = subst P c.in-Some.ensures.steps c.loop-node.invariant in
    let is : f *ℤ passed v ≡ f *ℤ v = search (rules, to_z-of_z) in
    let more = c.in_ok-more.more in
    let same : passed more ≡ more = search (rules, to_z-of_z) in
    sum_goes f all start row c.in-Some.node.now v c.next.new.self (f *ℤ passed v) is so_far more (row_of c.add.new.self) c.in_ok-more.ensures same c.in_ok-add.ensures

pub returns-in_err-add : goal.returns-in_err-add
returns-in_err-add c = λ count small within.
    let f = passed c.args.factor in
    let other = c.args.other.now in
    let all = other.coefficients.entries in
    let start = row_of c.args.self.now in
    let row = row_of c.loop-node.self in
    let v = c.in-Some.coefficient.now in
    let sorted = c.into_iter-node-iterator.ensures.into_iter_gives.5 in
    let P : List (ℕ × ℤ) → Type 0 = λ left. IsSumming f all left start row in
    let so_far = subst P c.in-Some.ensures.steps c.loop-node.invariant in
    let is : f *ℤ passed v ≡ f *ℤ v = search (rules, to_z-of_z) in
    let more = c.in_ok-more.more in
    let passes : passed more ≡ more = search (rules, to_z-of_z) in
    let same : f ≡ c.args.factor = search (rules, to_z-of_z) in
    let fault = c.in_err-add.field-0.0 in
    let p = err_from_is_err_and c.from_residual-in_err-add.result c.from_residual-in_err-add.ensures.1 in
    let none = sum_fails fault f all other.constant start count sorted small within (add_fails f all start row c.in-Some.node.now v c.next.new.self (f *ℤ passed v) is so_far fault more c.in_ok-more.ensures passes c.in_err-add.ensures) in
    let Q : ℤ → Type 0 = λ x. Fails fault (with_multiple count start x (Some (row_of other))) in
    rw (p.1, p.2) (subst Q same none)

pub returns : goal.returns
returns c = λ count small within.
    let f = passed c.args.factor in
    let other = c.args.other.now in
    let all = other.coefficients.entries in
    let start = row_of c.args.self.now in
    let row = row_of c.loop-node.self in
    let sorted = c.into_iter-node-iterator.ensures.into_iter_gives.5 in
    let P : List (ℕ × ℤ) → Type 0 = λ left. IsSumming f all left start row in
    let so_far = subst P c.in-None.ensures.steps.0 c.loop-node.invariant in
    let same : f ≡ c.args.factor = search (rules, to_z-of_z) in
    let sign : int_le (pos 0) c.args.factor ≡ true = grind (arith, ints) in
    let passed_sign : int_le (pos 0) f ≡ true = ap (int_le (pos 0)) same ∙ sign in
    let more = c.in_ok-more-2.more in
    let passes : passed more ≡ more = search (rules, to_z-of_z) in
    let is : f *ℤ passed other.constant ≡ f *ℤ other.constant = search (rules, to_z-of_z) in
    let e = multiple_some f all other.constant start count row sorted small passed_sign (sym so_far.goes) so_far.constant in
    let step = if_narrow (f *ℤ other.constant) more (λ z. fitting_constant z row) (ap narrow (sym is) ∙ c.in_ok-more-2.ensures) in
    let whole : with_multiple count start c.args.factor (Some (row_of other)) ≡ fitting_constant (passed more) row = ap (λ x. with_multiple count start x (Some (row_of other))) (sym same) ∙ e ∙ step ∙ constant_same more row passes in
    let Q : Option Row → Type 0 = λ found. Finds (λ _. row_of c.add_constant.new.self) c.add_constant.result found in
    subst Q (sym whole) c.add_constant.ensures
