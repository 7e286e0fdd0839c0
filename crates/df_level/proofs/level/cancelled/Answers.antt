use Rattle.std.proofs.Common.{◌≡◌, ◌∙◌, ◌/◌, ap, true, pos, rules}
use Rattle.std.proofs.lemmas.Int.{to_z-of_z}
use Rattle.std.proofs.lemmas.Result.{err_from_is_err_and}
use Rattle.std.specs.Int.RustNames.{unsigned_abs}
use Rattle.df_row.specs.Row.{fits}
use Rattle.df_row.proofs.Rows.{passed}
use Rattle.df_level.specs.Row.{function_row}
use Rattle.df_level.specs.Levels.{IsCancelling}
use Rattle.df_level.proofs.Eliminating.{cancelling, factor_fails, sum_gives, some_gcd}
use Rattle.df_level.proofs.level.cancelled.Goals as goal

pub factor_of-requires : goal.factor_of-requires
factor_of-requires c =
    let first = function_row c.args.first.now in
    let n = c.args.node in
    let a : c.unsigned_abs-own.result ≡ unsigned_abs (first.coefficient n) = search (rules, to_z-of_z) in
    some_gcd c.unsigned_abs-own.result c.unsigned_abs-others.result c.gcd-divisor.result (first.coefficient n) c.gcd-divisor.ensures a c.requires.positive

pub factor_of-requires-2 : goal.factor_of-requires-2
factor_of-requires-2 c =
    let first = function_row c.args.first.now in
    let n = c.args.node in
    let a : c.unsigned_abs-own.result ≡ unsigned_abs (first.coefficient n) = search (rules, to_z-of_z) in
    some_gcd c.unsigned_abs-own.result c.unsigned_abs-others.result c.gcd-divisor.result (first.coefficient n) c.gcd-divisor.ensures a c.requires.positive

pub returns-in_err-factor : goal.returns-in_err-factor
returns-in_err-factor c =
    let first = function_row c.args.first.now in
    let second = function_row c.args.second.now in
    let n = c.args.node in
    let own = c.unsigned_abs-own.result in
    let others = c.unsigned_abs-others.result in
    let d = c.gcd-divisor.result in
    let a : own ≡ unsigned_abs (first.coefficient n) = search (rules, to_z-of_z) in
    let b : others ≡ unsigned_abs (second.coefficient n) = search (rules, to_z-of_z) in
    let p = err_from_is_err_and c.from_residual.result c.from_residual.ensures.1 in
    rw (p.1, p.2) (factor_fails n first second c.in_err-factor.field-0.0 (others / d) (pos (own / d)) (cancelling n first second own others d (pos (others / d)) (pos (own / d)) c.requires.positive c.requires.negative a b c.gcd-divisor.ensures (λ i. pos (others / d)) (λ i. pos (own / d))) c.in_err-factor.ensures)

pub returns : goal.returns
returns c =
    let first = function_row c.args.first.now in
    let second = function_row c.args.second.now in
    let n = c.args.node in
    let own = c.unsigned_abs-own.result in
    let others = c.unsigned_abs-others.result in
    let d = c.gcd-divisor.result in
    let f = passed c.in_ok-factor.factor in
    let g = passed c.in_ok-other_factor.other_factor in
    let a : own ≡ unsigned_abs (first.coefficient n) = search (rules, to_z-of_z) in
    let b : others ≡ unsigned_abs (second.coefficient n) = search (rules, to_z-of_z) in
    let f_passes : f ≡ c.in_ok-factor.factor = search (rules, to_z-of_z) in
    let g_passes : g ≡ c.in_ok-other_factor.other_factor = search (rules, to_z-of_z) in
    let by : IsCancelling n first second f g = cancelling n first second own others d f g c.requires.positive c.requires.negative a b c.gcd-divisor.ensures (f_passes ∙ c.in_ok-factor.ensures.0) (g_passes ∙ c.in_ok-other_factor.ensures.0) in
    let fit : fits f ≡ true = ap fits (f_passes ∙ c.in_ok-factor.ensures.0) ∙ c.in_ok-factor.ensures.1 in
    let other_fit : fits g ≡ true = ap fits (g_passes ∙ c.in_ok-other_factor.ensures.0) ∙ c.in_ok-other_factor.ensures.1 in
    sum_gives n first second f g c.divided_sum.result by fit other_fit c.divided_sum.ensures
