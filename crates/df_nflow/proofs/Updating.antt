-- A place that is named again was given last what it has.
use Rattle.df_nflow.proofs.Words.{◌≡◌, ◌⊎◌, inl, inr, ℕ, ◌==◌, Bool, true, if◌then◌else◌, List, [], ◌∷◌, Option, refl, sym, ap, subst, eq-eqb, ne_eqb, list_any, Target, is_or_not, Term, Environment, equal_in, with_term, assert, Taken, taken_by, assert_equal}
use Rattle.df_meaning.specs.declared.kind.Kind.TheVariants as kinds
use Rattle.df_nflow.proofs.Backing.{with_other}

-- the first of the list, if there is one, is this
abbrev pub HeadIs : List Term → Term → Type 0
HeadIs [] a = Unit {0}
HeadIs (b ∷ others) a = b ≡ a

-- each local that was given a term has the last one
abbrev pub AreLast : Environment → List Taken → Type 0
AreLast env earlier = (local : ℕ) → HeadIs (taken_by local earlier) (env local)

abbrev pub is_named : ℕ → List Taken → Bool
is_named local earlier = list_any (λ (taken : Taken). taken.local == local) earlier

pub last_none : (env : Environment) → AreLast env []
last_none env = λ local. tt

pub last_more : (env : Environment) (k : ℕ) (a : Term) (earlier : List Taken) → AreLast env earlier → AreLast (with_term env k a) (record { local = k; value = a } ∷ earlier)
last_more env k a earlier are = λ local. by_place local (is_or_not k local)
  where
    by_place : (local : ℕ) → (k ≡ local) ⊎ (k ≡ local → ⊥) → HeadIs (taken_by local (record { local = k; value = a } ∷ earlier)) (with_term env k a local)
    by_place local (inl e) = rw (eq-eqb k local e) (rw (eq-eqb local k (sym e)) refl)
    by_place local (inr h) = rw (ne_eqb k local h) (subst (HeadIs (taken_by local earlier)) (sym (with_other env k local a (λ e. h (sym e)))) (are local))

asked : (path : Option Term) (target : Target) (a b : Term) (named : Bool) (terms : List Term) → named ≡ list_any (λ (t : Term). true) terms → HeadIs terms b
    → assert_equal path target a terms ≡ (if named then assert path target.pos kinds.Distinct (equal_in target.ty a b) else [])
asked path target a b named [] e head = rw (e) refl
asked path target a b named (t ∷ ts) e head = rw (e) (ap (λ (x : Term). assert path target.pos kinds.Distinct (equal_in target.ty a x)) head)

named_here : (x : Taken) (xs : List Taken) (local : ℕ) → (x.local ≡ local) ⊎ (x.local ≡ local → ⊥) → is_named local xs ≡ list_any (λ (t : Term). true) (taken_by local xs)
    → is_named local (x ∷ xs) ≡ list_any (λ (t : Term). true) (taken_by local (x ∷ xs))
named_here x xs local (inl e) rest = rw (eq-eqb x.local local e) refl
named_here x xs local (inr h) rest = rw (ne_eqb x.local local h) rest

named_any : (local : ℕ) (earlier : List Taken) → is_named local earlier ≡ list_any (λ (t : Term). true) (taken_by local earlier)
named_any local [] = refl
named_any local (x ∷ xs) = named_here x xs local (is_or_not x.local local) (named_any local xs)

-- so what is owed of it is equality with the term that it has
pub named_again : (path : Option Term) (target : Target) (a : Term) (env : Environment) (earlier : List Taken) → AreLast env earlier
    → assert_equal path target a (taken_by target.local earlier) ≡ (if is_named target.local earlier then assert path target.pos kinds.Distinct (equal_in target.ty a (env target.local)) else [])
named_again path target a env earlier are = asked path target a (env target.local) (is_named target.local earlier) (taken_by target.local earlier) (named_any target.local earlier) (are target.local)
