-- No outcome has a failure where none is counted.
use Rattle.std.proofs.Common.{◌≡◌, ℕ, ◌+◌, ◌==◌, Bool, true, false, not, cond, ◌&&◌, List, [], ◌∷◌, fold, ◌∙◌, arith}
use Rattle.df_report.specs.Report.{Outcome, is_verified, count_unproved}
use Rattle.df_nverdict.specs.Verdict.{are_verified}

one_more : (verified rest : Bool) (count : ℕ) → ((count + cond (not verified) 1 0 == 0) && rest) ≡ ((count == 0) && (verified && rest))
one_more true true count = grind arith
one_more true false count = grind arith
one_more false true count = grind arith
one_more false false count = grind arith

counted : (count : ℕ) (outcomes : List Outcome) → (fold (λ n o. n + cond (not (is_verified o)) 1 0) count outcomes == 0) ≡ ((count == 0) && are_verified outcomes)
counted count [] = grind arith
counted count (o ∷ others) = counted (count + cond (not (is_verified o)) 1 0) others ∙ one_more (is_verified o) (are_verified others) count

pub none_unproved : (outcomes : List Outcome) → (count_unproved outcomes == 0) ≡ are_verified outcomes
none_unproved outcomes = counted 0 outcomes
