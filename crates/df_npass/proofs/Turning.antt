-- What is handed to a turn of a loop.
use Rattle.df_npass.proofs.Words.{◌≡◌, ℕ, zero, suc, pos, ◌==◌, Bool, true, false, ◌&&◌, ◌||◌, if◌then◌else◌, List, [], ◌∷◌, slice_get, is_some, Option, None, Some, refl, sym, ◌∙◌, subst, inl, inr, eqb-true, eq-eqb, cond_both, eqb-false, or_cases, or_from, or_left, or_right, list_all, list_any, option_and_then, Ty, Decl, NewtypeDecl, MethodDecl, Program, as_newtype, newtype_at, is_type, is_newtype, is_decl, is_well_typed, Value, has_type, Gives, Dismissed, State, Store, Locals, set_local, with_locals, with_store, Changed, may_have, turned, is_changed, both, joined, each_once, set_other, true_is_not_false}
use Rattle.df_lang.specs.declared.ty.Ty.TheVariants as types
use Rattle.df_lang.specs.Newtype.{Newtype}
use Rattle.df_meaning.specs.Value as values
use Rattle.df_npass.proofs.Playing.{by_bool}

-- ---- each type has a value

newtype_found : (p : Program) (decls : List Decl) (id : ℕ) (nt : Newtype) → list_all (is_decl p) decls ≡ true → option_and_then as_newtype (slice_get decls id) ≡ Some nt → is_newtype nt ≡ true
newtype_found p [] id nt are e = cc
newtype_found p (NewtypeDecl own ∷ ds) zero nt are e = let same : own ≡ nt = cc in subst (λ x. is_newtype x ≡ true) same (both (is_newtype own) (list_all (is_decl p) ds) are).0
newtype_found p (MethodDecl own ∷ ds) zero nt are e = cc
newtype_found p (d ∷ ds) (suc id) nt are e = newtype_found p ds id nt (both (is_decl p d) (list_all (is_decl p) ds) are).1 e

pub record Typed (p : Program) (ty : Ty) : Type 0 where
  pub value : Value
  pub is : has_type p ty value ≡ true

pub any_typed : (p : Program) (ty : Ty) → is_well_typed p ≡ true → is_type p ty ≡ true → Typed p ty
any_typed p types.Int well is = record { value = values.Number (pos 0); is = refl }
any_typed p types.Nat well is = record { value = values.Number (pos 0); is = refl }
any_typed p types.Bool well is = record { value = values.Truth true; is = refl }
any_typed p types.Char well is = record { value = values.Character 0; is = refl }
any_typed p (types.Newtype id) well is = found (newtype_at p id) refl is
  where
    found : (o : Option Newtype) → newtype_at p id ≡ o → is_some o ≡ true → Typed p (types.Newtype id)
    found None e s = cc
    found (Some nt) e s = record { value = values.Number nt.default; is = rw (e) (newtype_found p p.decls id nt well e) }

-- ---- what a turn is handed

abbrev pub turned_state : List Changed → Locals → State → State
turned_state [] handed s = s
turned_state (c ∷ others) handed s = turned_state others handed (with_locals s (set_local s.locals c.local (handed c.local)))

abbrev pub all_may : Program → List Changed → Locals → Bool
all_may p changed handed = list_all (λ (c : Changed). may_have p c.ty (handed c.local)) changed

pub turned_is : (p : Program) (changed : List Changed) (handed : Locals) (s : State) → turned p changed handed s ≡ (if all_may p changed handed then Gives (turned_state changed handed s) else Dismissed)
turned_is p [] handed s = refl
turned_is p (c ∷ others) handed s = by_test (may_have p c.ty (handed c.local)) (turned_is p others handed (with_locals s (set_local s.locals c.local (handed c.local))))
  where
    t : State
    t = with_locals s (set_local s.locals c.local (handed c.local))

    by_test : (b : Bool) → turned p others handed t ≡ (if all_may p others handed then Gives (turned_state others handed t) else Dismissed)
        → (if b then turned p others handed t else Dismissed) ≡ (if (b && all_may p others handed) then Gives (turned_state others handed t) else Dismissed)
    by_test true e = e
    by_test false e = refl

pub turned_store : (changed : List Changed) (handed : Locals) (s : State) (store : Store) → turned_state changed handed (with_store s store) ≡ with_store (turned_state changed handed s) store
turned_store [] handed s store = refl
turned_store (c ∷ others) handed s store = turned_store others handed (with_locals s (set_local s.locals c.local (handed c.local))) store

-- a changed local has what is handed in for it, another one what it had
pub turned_local : (changed : List Changed) (handed : Locals) (s : State) (k : ℕ) → (turned_state changed handed s).locals k ≡ (if is_changed changed k then handed k else s.locals k)
turned_local [] handed s k = refl
turned_local (c ∷ others) handed s k =
    turned_local others handed (with_locals s (set_local s.locals c.local (handed c.local))) k ∙ by_others (is_changed others k) (c.local == k) refl
  where
    by_others : (b d : Bool) → (c.local == k) ≡ d → (if b then handed k else set_local s.locals c.local (handed c.local) k) ≡ (if (d || b) then handed k else s.locals k)
    by_others true true e = refl
    by_others true false e = refl
    by_others false true e = let same : c.local ≡ k = eqb-true c.local k e in rw (← same, eq-eqb c.local c.local refl) refl
    by_others false false e = set_other s.locals c.local k (handed c.local) (λ same. eqb-false c.local k e (sym same))

-- ---- which locals are changed

pub list_once : (P : Changed → Bool) (out : List ℕ) (changed : List Changed) → list_all P changed ≡ true → list_all P (each_once out changed) ≡ true
list_once P out [] h = refl
list_once P out (c ∷ others) h =
    let h = both (P c) (list_all P others) h in
    cond_both (list_any (λ (k : ℕ). k == c.local) out) (each_once out others) (c ∷ each_once (c.local ∷ out) others) (λ (xs : List Changed). list_all P xs ≡ true)
    (λ e. list_once P out others h.1) (λ e. joined (P c) _ h.0 (list_once P (c.local ∷ out) others h.1))

-- each of them that is not left out
pub once_there : (out : List ℕ) (changed : List Changed) (k : ℕ) → list_any (λ (n : ℕ). n == k) out ≡ false → is_changed changed k ≡ true → is_changed (each_once out changed) k ≡ true
once_there out [] k apart h = h
once_there out (c ∷ others) k apart h =
    let cases = or_cases (c.local == k) (is_changed others k) h in
    cond_both (list_any (λ (n : ℕ). n == c.local) out) (each_once out others) (c ∷ each_once (c.local ∷ out) others) (λ (xs : List Changed). is_changed xs k ≡ true)
    (λ met. once_there out others k apart (elim cases [
      | inl e ↦ absurd (true_is_not_false (list_any (λ (n : ℕ). n == k) out) (subst (λ (x : ℕ). list_any (λ (n : ℕ). n == x) out ≡ true) (eqb-true c.local k e) met) apart)
      | inr r ↦ r
    ]))
    (λ anew. by_bool (c.local == k) (λ e. or_left (c.local == k) (is_changed (each_once (c.local ∷ out) others) k) e) (λ e. or_right (c.local == k) (is_changed (each_once (c.local ∷ out) others) k)
    (once_there (c.local ∷ out) others k (or_from (c.local == k) (list_any (λ (n : ℕ). n == k) out) e apart) (elim cases [ inl x ↦ absurd (true_is_not_false (c.local == k) x e) | inr r ↦ r ]))))
