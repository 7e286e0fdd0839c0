-- Terms of arguments and results: a method begins with their values.
use Rattle.df_npass.proofs.Words.{meaning, ◌≡◌, ℕ, zero, suc, true, false, List, [], ◌∷◌, ◌++◌, length, slice_get, Option, Some, refl, ap, ◌∙◌, subst, length-map, AllByRecursion, Ty, Param, types_of, same_type, are_same_types, Value, Store, begin, both, same_type_equal, Within, first_locals, begun_assigned, Term, Interpretation, IsSorted, SameBelow, value_same, Way, is_unset, over, env_of, any_values, Environment, literal, pos, slice_index_or}
use Rattle.df_npass.proofs.Lemmas.{path_true, Mode, values_at, AreOf, SortedAll, Sits, TermsBelow, free_set}
use Rattle.df_npass.proofs.Taking.{AllSorted}

pub of_moves : (n : ℕ) (i j : Interpretation) → SameBelow n i j → (tys : List Ty) (terms : List Term) → TermsBelow n terms → AreOf i tys terms → AreOf j tys terms
of_moves n i j same [] [] below h = tt
of_moves n i j same (ty ∷ tys) (a ∷ others) below h = (record { sorted = subst (λ v. IsSorted ty v) (value_same n i j same a below.0) h.0.sorted; set = h.0.set }, of_moves n i j same tys others below.1 h.1)
of_moves n i j same tys terms below h = absurd h

pub values_move : (n : ℕ) (i j : Interpretation) → SameBelow n i j → (terms : List Term) → TermsBelow n terms → values_at i terms ≡ values_at j terms
values_move n i j same [] below = refl
values_move n i j same (a ∷ others) below = λ k. value_same n i j same a below.0 k ∷ values_move n i j same others below.1 k

pub of_append : (i : Interpretation) (tys more : List Ty) (terms others : List Term) → AreOf i tys terms → AreOf i more others → AreOf i (tys ++ more) (terms ++ others)
of_append i [] more [] others h g = g
of_append i (ty ∷ tys) more (a ∷ terms) others h g = (h.0, of_append i tys more terms others h.1 g)
of_append i tys more terms others h g = absurd h

pub of_long : (i : Interpretation) (tys : List Ty) (terms : List Term) → AreOf i tys terms → length terms ≡ length tys
of_long i [] [] h = refl
of_long i (ty ∷ tys) (a ∷ terms) h = ap suc (of_long i tys terms h.1)
of_long i tys terms h = absurd h

abbrev TermsSet : List Term → Type 0
TermsSet terms = AllByRecursion (λ (a : Term). is_unset a ≡ false) terms

pub any_set : (path : Option Term) (params : List Param) (fresh : ℕ) → TermsSet (any_values path params fresh).terms
any_set path [] fresh = tt
any_set path (param ∷ others) fresh = (free_set param.ty fresh, any_set path others (suc fresh))

pub params_of : (i : Interpretation) (params : List Param) (terms : List Term) → AllSorted params (values_at i terms) → TermsSet terms → AreOf i (types_of params) terms
params_of i [] [] h set = tt
params_of i (param ∷ params) (a ∷ terms) h set = (record { sorted = h.0; set = set.0 }, params_of i params terms h.1 set.1)
params_of i params terms h set = absurd h

pub same_types_are : (as_types bs : List Ty) → are_same_types as_types bs ≡ true → as_types ≡ bs
same_types_are [] [] e = refl
same_types_are (a ∷ as_types) (b ∷ bs) e =
    let e = both (same_type a b) (are_same_types as_types bs) e in
    λ k. same_type_equal a b e.0 k ∷ same_types_are as_types bs e.1 k
same_types_are as_types bs e = cc

sorted_of : (i : Interpretation) (tys : List Ty) (terms : List Term) → AreOf i tys terms → SortedAll i tys (env_of terms)
sorted_of i [] [] h k ty e = cc
sorted_of i (t ∷ tys) (a ∷ terms) h zero ty e = let same : t ≡ ty = cc in subst (λ (x : Ty). IsSorted x (meaning i a)) same h.0.sorted
sorted_of i (t ∷ tys) (a ∷ terms) h (suc k) ty e = sorted_of i tys terms h.1 k ty e
sorted_of i tys terms h k ty e = absurd h

set_of : (i : Interpretation) (tys : List Ty) (terms : List Term) → AreOf i tys terms → (k : ℕ) → is_unset (env_of terms k) ≡ false
set_of i [] [] h k = refl
set_of i (t ∷ tys) (a ∷ terms) h zero = h.0.set
set_of i (t ∷ tys) (a ∷ terms) h (suc k) = set_of i tys terms h.1 k
set_of i tys terms h k = absurd h

pub over_value : (i : Interpretation) (terms : List Term) (env : Environment) (k : ℕ) (v : Value) → slice_get (values_at i terms) k ≡ Some v → meaning i (slice_index_or terms k (env k)) ≡ v
over_value i [] env k v e = cc
over_value i (a ∷ terms) env zero v e = cc
over_value i (a ∷ terms) env (suc k) v e = over_value i terms (λ x. env (suc x)) k v e

pub begun_sits : (mode : Mode) (i : Interpretation) (way : Way) (tys : List Ty) (terms : List Term) (store : Store) → path_true i way.path ≡ true → AreOf i tys terms
    → Sits mode i tys (over (env_of terms) way) (first_locals (length tys)) (begin (values_at i terms) store)
begun_sits mode i way tys terms store there h = record {
  there = there;
  sorted = sorted_of i tys terms h;
  holds = (tt, λ k v has e. over_value i terms (λ n. literal (pos 0)) k v e);
  set = λ k has. set_of i tys terms h k;
  present = λ e. begun_assigned (values_at i terms) store (length tys) (length-map terms (meaning i) ∙ of_long i tys terms h);
}

pub within_itself : (tys : List Ty) → Within tys tys
within_itself tys = record { at = λ n ty e. e }
