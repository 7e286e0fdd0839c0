-- What tables find, and how they grow.
use Rattle.std.proofs.Common.{◌≡◌, ℕ, Bool, true, false, cond, nat_eq, List, [], ◌∷◌, ◌++◌, map, Option, Some, None, refl, sym, ap, ◌∙◌}
use Rattle.std.specs.Prelude.{◌==◌, find, option_map}
use Rattle.std.specs.Map.{lookup}
use Rattle.std.proofs.lemmas.Bool.{eqb-true, eq-eqb, ne_eqb}
use Rattle.std.proofs.lemmas.List.{map-append}
use Rattle.indexmap.specs.IndexMap.{IndexMap, insert_entry}
use Rattle.indexmap.proofs.CallerLemmas.{insert_entry-new}
use Rattle.df_ntyping.specs.Table.{NamedType, NamedMethod, newtype_of, method_of}
use Rattle.df_nnames.specs.declared.tables.Method.{Method}
use Rattle.df_nnames.specs.Table.{named_type, named, named_method}

pub equal_either : (a b : ℕ) → (a == b) ≡ nat_eq b a
equal_either a b = by (nat_eq b a) refl where
  unequal : nat_eq b a ≡ false → a ≡ b → ⊥
  unequal p e = let q : nat_eq b a ≡ true = eq-eqb b a (sym e) in cc

  by : (x : Bool) → nat_eq b a ≡ x → (a == b) ≡ x
  by true p = eq-eqb a b (sym (eqb-true b a p))
  by false p = ne_eqb a b (unequal p)

pub newtypes_found : (es : List (ℕ × ℕ)) (name : ℕ) → newtype_of (map named_type es) name ≡ lookup (nat_eq name) es
newtypes_found [] name = refl
newtypes_found (e ∷ es) name = rw (equal_either e.0 name) (by (nat_eq name e.0) (newtypes_found es name)) where
  by : (b : Bool) → newtype_of (map named_type es) name ≡ lookup (nat_eq name) es
      → option_map (λ (newtype : NamedType). newtype.id) (cond b (Some (named_type e)) (find (λ (newtype : NamedType). newtype.name == name) (map named_type es))) ≡ cond b (Some e.1) (lookup (nat_eq name) es)
  by true h = refl
  by false h = h

pub methods_found : (es : List (ℕ × Method)) (name : ℕ) → option_map (named name) (lookup (nat_eq name) es) ≡ method_of (map named_method es) name
methods_found [] name = refl
methods_found (e ∷ es) name = rw (equal_either e.0 name) (by (nat_eq name e.0) refl (methods_found es name)) where
  by : (b : Bool) → nat_eq name e.0 ≡ b → option_map (named name) (lookup (nat_eq name) es) ≡ method_of (map named_method es) name
      → option_map (named name) (cond b (Some e.1) (lookup (nat_eq name) es)) ≡ cond b (Some (named_method e)) (find (λ (method : NamedMethod). method.name == name) (map named_method es))
  by true p h = ap (λ (n : ℕ). Some (named n e.1)) (eqb-true name e.0 p)
  by false p h = h

pub newtypes_grown : {S : Type 0} (m n : IndexMap ℕ ℕ S) (name id : ℕ) → newtype_of (map named_type m.entries) name ≡ None → n.entries ≡ insert_entry nat_eq m.entries name id
    → map named_type n.entries ≡ map named_type m.entries ++ record { name = name; id = id } ∷ []
newtypes_grown m n name id new is =
    ap (map named_type) (is ∙ insert_entry-new nat_eq m name id (sym (newtypes_found m.entries name) ∙ new)) ∙ map-append named_type m.entries ((name, id) ∷ [])

no_value : {A B : Type 0} (f : A → B) (o : Option A) → option_map f o ≡ None → o ≡ None
no_value f None e = refl
no_value f (Some x) e = absurd cc

pub methods_grown : {S : Type 0} (m n : IndexMap ℕ Method S) (name : ℕ) (made : Method) → method_of (map named_method m.entries) name ≡ None → n.entries ≡ insert_entry nat_eq m.entries name made
    → map named_method n.entries ≡ map named_method m.entries ++ named name made ∷ []
methods_grown m n name made new is =
    ap (map named_method) (is ∙ insert_entry-new nat_eq m name made (no_value (named name) (lookup (nat_eq name) m.entries) (methods_found m.entries name ∙ new))) ∙ map-append named_method m.entries ((name, made) ∷ [])
