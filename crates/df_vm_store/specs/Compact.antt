-- What is kept of a list, where each element is marked or not.
use Rattle.std.specs.Prelude.{ℕ, zero, suc, ◌+◌, Bool, true, false, cond, List, [], ◌∷◌}
use Rattle.df_mach2.specs.Value.{Value}

-- the marked values
unfoldable pub kept : List Bool → List Value → List Value
kept [] vs = []
kept (b ∷ bs) [] = []
kept (true ∷ bs) (v ∷ vs) = v ∷ kept bs vs
kept (false ∷ bs) (v ∷ vs) = kept bs vs

-- how many of the first n are marked
unfoldable pub rank : List Bool → ℕ → ℕ
rank [] n = 0
rank (b ∷ bs) zero = 0
rank (b ∷ bs) (suc n) = cond b 1 0 + rank bs n

-- how many are marked before each one, and in all, where n were marked before the first
unfoldable pub ranks_from : ℕ → List Bool → List ℕ
ranks_from n [] = n ∷ []
ranks_from n (b ∷ bs) = n ∷ ranks_from (cond b (n + 1) n) bs
