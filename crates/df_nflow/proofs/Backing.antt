-- Locals that have again the terms that they had.
use Rattle.df_nflow.proofs.Words.{◌≡◌, ◌⊎◌, inl, inr, ℕ, List, [], ◌∷◌, ◌++◌, refl, sym, ap, eq-eqb, ne_eqb, is_or_not, Term, Environment, with_term, Kept, back}

pub back_append : (xs ys : List Kept) (env : Environment) → back (xs ++ ys) env ≡ back xs (back ys env)
back_append [] ys env = refl
back_append (x ∷ xs) ys env = ap (λ (e : Environment). with_term e x.local x.term) (back_append xs ys env)

pub with_other : (env : Environment) (k n : ℕ) (a : Term) → (n ≡ k → ⊥) → with_term env k a n ≡ env n
with_other env k n a h = rw (ne_eqb n k h) refl

with_again_at : (env : Environment) (k : ℕ) (a : Term) (n : ℕ) → (n ≡ k) ⊎ (n ≡ k → ⊥) → with_term (with_term env k a) k (env k) n ≡ env n
with_again_at env k a n (inl e) = rw (eq-eqb n k e) (ap env (sym e))
with_again_at env k a n (inr h) = rw (ne_eqb n k h) refl

-- a local that is given a term, and then the one that it had
pub with_again : (env : Environment) (k : ℕ) (a : Term) → with_term (with_term env k a) k (env k) ≡ env
with_again env k a = λ i n. with_again_at env k a n (is_or_not n k) i
