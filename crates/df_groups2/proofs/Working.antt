-- What is left to do becomes less.
use Rattle.std.proofs.Common.{◌≡◌, ℕ, zero, suc, ◌+◌, ◌<◌, Bool, true, false, List, [], ◌∷◌, length, get_or, set, arith}
use Rattle.df_groups2.specs.Work.{work}

-- a vertex is done
pub work_done : {A : Type 0} (is_done : A → Bool) (targets : ℕ → List ℕ) (from v n : ℕ) (xs : List A) (d y : A) → from + v ≡ n → v < length xs → is_done (get_or xs v d) ≡ false → is_done y ≡ true
    → work is_done targets from (set xs v y) + suc (length (targets n)) ≡ work is_done targets from xs
work_done is_done targets from v n [] d y e lt before after = absurd (omega arith)
work_done is_done targets from zero n (x ∷ xs) d y e lt before after =
    let same : n ≡ from = omega arith in
    rw (before, after, same) (omega arith)
work_done is_done targets from (suc v) n (x ∷ xs) d y e lt before after =
    let rest : work is_done targets (suc from) (set xs v y) + suc (length (targets n)) ≡ work is_done targets (suc from) xs = work_done is_done targets (suc from) v n xs d y (omega arith) (omega arith) before after in
    omega arith
