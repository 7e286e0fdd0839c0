-- The row of a clause is one of those that are written.
use Rattle.std.proofs.Common.{◌≡◌, inl, inr, ℕ, zero, suc, ◌==◌, Bool, true, List, [], ◌∷◌, Some, slice_get, subst, eqb-true}
use Rattle.std.specs.List.{find, AllByRecursion}
use Rattle.std.proofs.lemmas.Option.{same_Some}
use Rattle.df_lemmas.proofs.Options.{map_some}
use Rattle.df_lemmas.proofs.Truths.{choice, three}
use Rattle.df_form.specs.declared.node.Op.{Op}
use Rattle.df_axiom.specs.Template.{Template, Entry}
use Rattle.df_axiom.specs.Schemas.{written, begins_with, is_entry, written_template}

-- what is found in a list stands in it, and passes the test
pub record IsFound {A : Type 0} (test : A → Bool) (xs : List A) (x : A) : Type 0 where
  pub place : ℕ
  pub at : slice_get xs place ≡ Some x
  pub passes : test x ≡ true

pub is_found : {A : Type 0} (test : A → Bool) (xs : List A) (x : A) → find test xs ≡ Some x → IsFound test xs x
is_found test [] x e = absurd cc
is_found test (y ∷ ys) x e =
    elim (choice (test y) (Some y) (find test ys) (Some x) e) [
      | inl p ↦ record { place = 0; at = p.1; passes = subst (λ z. test z ≡ true) (same_Some y x p.1) p.0 }
      | inr p ↦ (let later = is_found test ys x p.1 in record { place = suc later.place; at = later.at; passes = later.passes })
    ]

-- what holds of all holds of one
pub all_get : {A : Type 0} (P : A → Type 0) (xs : List A) (i : ℕ) (x : A) → AllByRecursion P xs → slice_get xs i ≡ Some x → P x
all_get P [] i x all e = absurd cc
all_get P (y ∷ ys) zero x all e = subst P (same_Some y x e) all.0
all_get P (y ∷ ys) (suc i) x all e = all_get P ys i x all.1 e

-- a template of a clause is that of its row
pub record IsWritten (op : Op) (schema k : ℕ) (t : Template) : Type 0 where
  pub e : Entry
  pub place : ℕ
  pub at : slice_get written place ≡ Some e
  pub of_schema : e.schema ≡ schema
  pub of_clause : e.clause ≡ k
  pub begins : begins_with op e ≡ true
  pub is : e.template ≡ t

pub is_written : (op : Op) (schema k : ℕ) (t : Template) → written_template op schema k ≡ Some t → IsWritten op schema k t
is_written op schema k t some =
    let one = map_some (λ (e : Entry). e.template) (find (is_entry op schema k) written) t some in
    let found = is_found (is_entry op schema k) written one.0 one.1 in
    let parts = three (one.0.schema == schema) (one.0.clause == k) (begins_with op one.0) found.passes in
    record {
      e = one.0;
      place = found.place;
      at = found.at;
      of_schema = eqb-true one.0.schema schema parts.0;
      of_clause = eqb-true one.0.clause k parts.1;
      begins = parts.2;
      is = one.2;
    }
