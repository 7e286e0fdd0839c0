-- Lists of lines that grow at their end.
use Rattle.std.proofs.Common.{◌≡◌, ℕ, zero, suc, ◌+◌, List, [], ◌∷◌, ◌++◌, map, sym, ap, ◌∙◌, arith, append_assoc}
use Rattle.std.specs.List.{range_with_len}
use Rattle.std.proofs.lemmas.List.FromFn.{map-range_with_len_more}
use Rattle.df_form.specs.Log.{Step}

-- one more of a row of lines, after others
pub row_more : (f : ℕ → Step) (front : List Step) (n : ℕ) → (front ++ map f (range_with_len 0 n)) ++ f n ∷ [] ≡ front ++ map f (range_with_len 0 (n + 1))
row_more f front n = append_assoc front (map f (range_with_len 0 n)) (f n ∷ []) ∙ ap (λ (more : List Step). front ++ more) (sym (map-range_with_len_more f 0 n n (omega arith)))

numbers_suc : (a n : ℕ) → range_with_len a (suc n) ≡ range_with_len a n ++ (a + n) ∷ []
numbers_suc a zero = ap (λ (k : ℕ). k ∷ []) (omega arith)
numbers_suc a (suc n) =
    let e : a + 1 + n ≡ a + suc n = omega arith in
    ap (λ (ns : List ℕ). a ∷ ns) (numbers_suc (a + 1) n ∙ ap (λ (k : ℕ). range_with_len (a + 1) n ++ k ∷ []) e)

-- the numbers below one more
pub numbers_more : (a n : ℕ) → range_with_len a (n + 1) ≡ range_with_len a n ++ (a + n) ∷ []
numbers_more a n = let e : n + 1 ≡ suc n = omega arith in ap (range_with_len a) e ∙ numbers_suc a n
