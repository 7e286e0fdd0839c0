use Rattle.std.proofs.Common.{◌≡◌, sym, ◌∙◌, ap, subst, ℕ, ℤ, pos, int_le, true, List, Some, rules, arith}
use Rattle.std.specs.Int.{int_div_euclid}
use Rattle.std.proofs.lemmas.Int.{to_z-of_z, ints}
use Rattle.std.proofs.lemmas.Result.{err_from_is_err_and}
use Rattle.df_row.specs.RowView.{row_of, exact, Fails}
use Rattle.df_row.specs.Linear.{divided, quotient}
use Rattle.df_row.proofs.Rows.{passed}
use Rattle.df_row.proofs.RowFold.{IsMaking, making_goes, making_fails}
use Rattle.df_row.proofs.RowQuotients.{divide_step, divided_some, divided_fails, rounded}
use Rattle.df_row.proofs.row.Row.divided.Goals as goal

pub returns-in_err-quotient : goal.returns-in_err-quotient
returns-in_err-quotient c = λ count within.
    let d = passed c.args.divisor in
    let row = c.args.self.now in
    let all = row.coefficients.entries in
    let sorted = c.into_iter-node-iterator.ensures.into_iter_gives.5 in
    let v = c.in-Some.coefficient.now in
    let quotients = c.loop-node.quotients.entries in
    let P : List (ℕ × ℤ) → Type 0 = λ left. IsMaking (divide_step d) all left quotients in
    let so_far = subst P c.in-Some.ensures.steps c.loop-node.invariant in
    let is : passed v ≡ v = search (rules, to_z-of_z) in
    let same : d ≡ c.args.divisor = search (rules, to_z-of_z) in
    let low : int_le (pos 1) c.args.divisor ≡ true = grind (arith, ints) in
    let passed_low : int_le (pos 1) d ≡ true = ap (int_le (pos 1)) same ∙ low in
    let fault = c.in_err-quotient.field-0.0 in
    let p = err_from_is_err_and c.from_residual.result c.from_residual.ensures.1 in
    let none = divided_fails d all row.constant passed_low sorted fault count within (making_fails (divide_step d) all c.next.new.self quotients c.in-Some.node.now v so_far fault (subst (λ (x : ℤ). Fails fault (exact x d)) is c.in_err-quotient.ensures)) in
    let Q : ℤ → Type 0 = λ x. Fails fault (divided count x (row_of row)) in
    rw (p.1, p.2) (subst Q same none)

pub loop-node-preserved : goal.loop-node-preserved
loop-node-preserved c =
    let d = passed c.args.divisor in
    let all = c.args.self.now.coefficients.entries in
    let v = c.in-Some.coefficient.now in
    let quotients = c.loop-node.quotients.entries in
    let P : List (ℕ × ℤ) → Type 0 = λ left. IsMaking (divide_step d) all left quotients in
    let so_far = subst P c.in-Some.ensures.steps c.loop-node.invariant in
    let is : passed v ≡ v = search (rules, to_z-of_z) in
    let w = c.in_ok-quotient.quotient in
    let passes : passed w ≡ w = search (rules, to_z-of_z) in
    making_goes (divide_step d) all c.next.new.self quotients c.in-Some.node.now v so_far c.insert.new.self.entries (passed w) (ap (λ x. exact x d) (sym is) ∙ c.in_ok-quotient.ensures ∙ ap Some (sym passes)) c.in_ok-insert.ensures.updates.0

pub returns : goal.returns
returns c = λ count within.
    let d = passed c.args.divisor in
    let row = c.args.self.now in
    let all = row.coefficients.entries in
    let sorted = c.into_iter-node-iterator.ensures.into_iter_gives.5 in
    let quotients = c.loop-node.quotients.entries in
    let P : List (ℕ × ℤ) → Type 0 = λ left. IsMaking (divide_step d) all left quotients in
    let so_far = subst P c.in-None.ensures.steps.0 c.loop-node.invariant in
    let same : d ≡ c.args.divisor = search (rules, to_z-of_z) in
    let low : int_le (pos 1) c.args.divisor ≡ true = grind (arith, ints) in
    let passed_low : int_le (pos 1) d ≡ true = ap (int_le (pos 1)) same ∙ low in
    let k : passed row.constant ≡ row.constant = search (rules, to_z-of_z) in
    let result : passed c.div_euclid.result ≡ c.div_euclid.result = search (rules, to_z-of_z) in
    let constant : passed c.div_euclid.result ≡ quotient row.constant d = result ∙ c.div_euclid.ensures ∙ ap (λ z. int_div_euclid z d) k ∙ rounded row.constant d passed_low in
    ap (λ x. divided count x (row_of row)) (sym same) ∙ divided_some d all row.constant passed_low sorted count quotients (passed c.div_euclid.result) (sym so_far.goes) constant
