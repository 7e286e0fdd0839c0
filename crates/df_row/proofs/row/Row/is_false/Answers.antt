use Rattle.std.proofs.Common.{◌≡◌, sym, ◌∙◌, ap, pos, negsuc, int_lt, int_le, true, false, ◌&&◌, rules}
use Rattle.std.specs.Ordering.{int_eq}
use Rattle.std.proofs.lemmas.Int.{to_z-of_z}
use Rattle.df_row.specs.RowView.{coefficient_at}
use Rattle.df_row.specs.Linear.{all_below}
use Rattle.df_row.proofs.Rows.{passed}
use Rattle.df_row.proofs.RowQuotients.{all_zero, negative}
use Rattle.df_row.proofs.row.Row.is_false.Goals as goal

pub returns-then-has_only_zeros : goal.returns-then-has_only_zeros
returns-then-has_only_zeros c = λ count within.
    let row = c.args.self.now in
    let all = row.coefficients.entries in
    let zeros : true ≡ all_below count (λ n. int_eq (coefficient_at all n) (pos 0)) = sym c.if-has_only_zeros.true ∙ c.has_only_zeros.ensures.zeros ∙ all_zero all row.constant count c.has_only_zeros.ensures.ordered within in
    let same : passed row.constant ≡ row.constant = search (rules, to_z-of_z) in
    ap (λ z. int_lt z (pos 0)) same ∙ negative row.constant ∙ ap (λ b. b && int_le row.constant (negsuc 0)) zeros

pub returns-else-has_only_zeros : goal.returns-else-has_only_zeros
returns-else-has_only_zeros c = λ count within.
    let row = c.args.self.now in
    let all = row.coefficients.entries in
    let zeros : false ≡ all_below count (λ n. int_eq (coefficient_at all n) (pos 0)) = sym c.if-has_only_zeros.false ∙ c.has_only_zeros.ensures.zeros ∙ all_zero all row.constant count c.has_only_zeros.ensures.ordered within in
    c.if-has_only_zeros.false ∙ ap (λ b. b && int_le row.constant (negsuc 0)) zeros
