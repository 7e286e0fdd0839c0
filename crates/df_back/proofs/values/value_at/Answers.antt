use Rattle.std.proofs.Common.{◌≡◌, ℤ, ◌+ℤ◌, ◌*ℤ◌, pos, get_or, drop, subst, ◌∙◌, to_z, of_z, rules}
use Rattle.std.proofs.lemmas.Int.{to_z-of_z}
use Rattle.std.specs.Int.{w128}
use Rattle.df_row.specs.RowView.{narrow}
use Rattle.df_level.specs.Row.{function_row}
use Rattle.df_back.proofs.Additions.{IsAdding, adding_begins, goes_at, product_wide_at, sum_wide_at, done_at, not_narrow, narrowed, tells_wide}
use Rattle.df_back.proofs.values.value_at.Goals as goal

pub loop-entry-init : goal.loop-entry-init
loop-entry-init g c = λ count within. adding_begins count (g.V.Valuation.numbers c.args.valuation.now) (function_row c.args.row.now) within _ _ c.entries-entry-items.ensures.ordered c.entries-entry-items.ensures.coefficients (search (rules, c.constant-value.ensures))

pub returns-in_err-term : goal.returns-in_err-term
returns-in_err-term g c = λ count within.
    let numbers = g.V.Valuation.numbers c.args.valuation.now in
    let row = function_row c.args.row.now in
    let all = c.entries-entry-items.result.now in
    let i = c.loop-entry.entry-index in
    let entry = get_or all i (0, pos 0) in
    let is : c.product.result ≡ narrow (entry.1 *ℤ numbers entry.0) = search (rules, to_z-of_z, c.product.ensures, c.number.ensures) in
    tells_wide count numbers row c.from_residual.result c.from_residual.ensures (product_wide_at count numbers row within all i _ (c.loop-entry.invariant count within) c.loop-entry-test.true (not_narrow (entry.1 *ℤ numbers entry.0) c.product.result is c.in_err-term.was))

pub returns-in_err-next : goal.returns-in_err-next
returns-in_err-next g c = λ count within.
    let numbers = g.V.Valuation.numbers c.args.valuation.now in
    let row = function_row c.args.row.now in
    let all = c.entries-entry-items.result.now in
    let i = c.loop-entry.entry-index in
    let entry = get_or all i (0, pos 0) in
    let term = c.in_ok-term.term in
    let is : c.product.result ≡ narrow (entry.1 *ℤ numbers entry.0) = search (rules, to_z-of_z, c.product.ensures, c.number.ensures) in
    let P : ℤ → Type 0 = λ z. IsAdding count numbers row (drop i all) z in
    let so_far = subst P c.loop-entry.value-is (c.loop-entry.invariant count within) in
    let added : c.sum.result ≡ narrow (c.loop-entry.value +ℤ term) = search (rules, to_z-of_z, c.sum.ensures) in
    tells_wide count numbers row c.from_residual-in_err-next.result c.from_residual-in_err-next.ensures (sum_wide_at count numbers row within all i c.loop-entry.value so_far c.loop-entry-test.true term (narrowed (entry.1 *ℤ numbers entry.0) term c.product.result is c.in_ok-term.was) (not_narrow (c.loop-entry.value +ℤ term) c.sum.result added c.in_err-next.was))

pub loop-entry-preserved : goal.loop-entry-preserved
loop-entry-preserved g c = λ count within.
    let numbers = g.V.Valuation.numbers c.args.valuation.now in
    let row = function_row c.args.row.now in
    let all = c.entries-entry-items.result.now in
    let i = c.loop-entry.entry-index in
    let entry = get_or all i (0, pos 0) in
    let term = c.in_ok-term.term in
    let is : c.product.result ≡ narrow (entry.1 *ℤ numbers entry.0) = search (rules, to_z-of_z, c.product.ensures, c.number.ensures) in
    let P : ℤ → Type 0 = λ z. IsAdding count numbers row (drop i all) z in
    let so_far = subst P c.loop-entry.value-is (c.loop-entry.invariant count within) in
    let added : c.sum.result ≡ narrow (c.loop-entry.value +ℤ term) = search (rules, to_z-of_z, c.sum.ensures) in
    let next : to_z w128 (of_z w128 c.in_ok-next.next) ≡ c.in_ok-next.next = search (rules, to_z-of_z) in
    goes_at count numbers row within all i c.loop-entry.value so_far c.loop-entry-test.true term _ (narrowed (entry.1 *ℤ numbers entry.0) term c.product.result is c.in_ok-term.was) (next ∙ narrowed (c.loop-entry.value +ℤ term) c.in_ok-next.next c.sum.result added c.in_ok-next.was)

pub returns : goal.returns
returns g c = λ count within. done_at count (g.V.Valuation.numbers c.args.valuation.now) (function_row c.args.row.now) within c.entries-entry-items.result.now c.loop-entry.entry-index _ (c.loop-entry.invariant count within) c.loop-entry-test.false
