-- Where a method begins: its arguments, and a term for each other local.
use Rattle.df_nflow.proofs.Words.{◌≡◌, ℕ, zero, suc, pos, List, [], ◌∷◌, ◌++◌, map, drop, length, slice_index_or, refl, sym, ap, ◌∙◌, Ty, Term, literal, sort_of_type, Environment, some_term, unset}

abbrev some : Ty → Term
some ty = some_term (sort_of_type ty)

unset_at : (types : List Ty) (n : ℕ) → slice_index_or (map some types) n (literal (pos 0)) ≡ unset types n
unset_at [] n = refl
unset_at (t ∷ types) zero = refl
unset_at (t ∷ types) (suc n) = unset_at types n

drop_none : {A : Type 0} (k : ℕ) → drop {A = A} k [] ≡ []
drop_none zero = refl
drop_none (suc k) = refl

-- the terms of the locals in order, and those of the arguments before all others
abbrev pub listed : List Term → List Ty → Environment
listed arguments types = λ n. slice_index_or (arguments ++ map some (drop (length arguments) types)) n (literal (pos 0))

abbrev pub begun : List Term → List Ty → Environment
begun arguments types = λ n. slice_index_or arguments n (unset types n)

begins_at : (arguments : List Term) (types : List Ty) (n : ℕ) → listed arguments types n ≡ begun arguments types n
begins_at [] types n = unset_at types n
begins_at (a ∷ others) types zero = refl
begins_at (a ∷ others) [] (suc n) = ap (λ (ts : List Ty). slice_index_or (others ++ map some ts) n (literal (pos 0))) (sym (drop_none (length others))) ∙ begins_at others [] n
begins_at (a ∷ others) (t ∷ types) (suc n) = begins_at others types n

pub begins : (arguments : List Term) (types : List Ty) → listed arguments types ≡ begun arguments types
begins arguments types = λ i n. begins_at arguments types n i
