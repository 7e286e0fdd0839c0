-- The last local of a name, found by its place among the names.
use Rattle.std.proofs.Common.{◌≡◌, ℕ, ◌<◌, Bool, true, false, List, [], ◌∷◌, ◌++◌, length, map, take, drop, slice_get, Option, Some, None, nat_eq, refl, sym, ap, subst, ◌∙◌, arith}
use Rattle.std.specs.Prelude.{option_map, if◌then◌else◌}
use Rattle.std.proofs.lemmas.List.{map-append, take-append-drop, length-map}
use Rattle.std.proofs.lemmas.Option.{slice_get_within}
use Rattle.df_ntyping.specs.Meaning.{last_local}
use Rattle.df_nnames.specs.Latest.{after_first, last_of}
use Rattle.df_nnames.proofs.Latest.{is_local}
use Rattle.df_nenv.specs.declared.environment.Local.{Local}
use Rattle.df_nenv.specs.Environments.{local_of, names_of}

-- none where there is no place, and else the local at it
abbrev pub Finds : List Local → ℕ → Option ℕ → Type 0
Finds locals name None = last_local (map local_of locals) name ≡ None
Finds locals name (Some place) = (local : Local) → slice_get locals place ≡ Some local → last_local (map local_of locals) name ≡ Some (local_of local)

first_found : (first : Local) (others : List Local) (name : ℕ) (b : Bool) → nat_eq first.name name ≡ b → last_local (map local_of others) name ≡ None → Finds (first ∷ others) name (if b then Some 0 else None)
first_found first others name true p h = λ local q. rw (h, p) (ap (λ (o : Option Local). option_map local_of o) q)
first_found first others name false p h = rw (h, p) refl

later_found : (first : Local) (others : List Local) (name : ℕ) (place : Option ℕ) → Finds others name place → Finds (first ∷ others) name (after_first first.name name place)
later_found first others name None h = first_found first others name (nat_eq first.name name) refl h
later_found first others name (Some place) h = λ local q. rw (h local q) refl

pub at_place : (locals : List Local) (name : ℕ) → Finds locals name (last_of (names_of locals) name)
at_place [] name = refl
at_place (first ∷ others) name = later_found first others name (last_of (names_of others) name) (at_place others name)

-- scopes around and the innermost one are all locals
pub all_of : (count : ℕ) (locals : List Local) → map local_of (take count locals) ++ map local_of (drop count locals) ≡ map local_of locals
all_of count locals = sym (map-append local_of (take count locals) (drop count locals)) ∙ ap (map local_of) (take-append-drop count locals)

-- ---- of a scope's names

pub not_there : (locals : List Local) (names : List ℕ) (name : ℕ) → names ≡ names_of locals → last_of names name ≡ None → last_local (map local_of locals) name ≡ None
not_there locals names name e p = subst (Finds locals name) (ap (λ (all : List ℕ). last_of all name) (sym e) ∙ p) (at_place locals name)

pub there : (locals : List Local) (names : List ℕ) (name place : ℕ) (local : Local) → names ≡ names_of locals → last_of names name ≡ Some place → slice_get locals place ≡ Some local → last_local (map local_of locals) name ≡ Some (local_of local)
there locals names name place local e p q = (subst (Finds locals name) (ap (λ (all : List ℕ). last_of all name) (sym e) ∙ p) (at_place locals name)) local q

pub within : (locals : List Local) (names : List ℕ) (name place : ℕ) → names ≡ names_of locals → last_of names name ≡ Some place → place < length locals
within locals names name place e p =
    let lt = slice_get_within names place name (is_local names name place p).there in
    omega (arith, ap length e, length-map locals (λ (local : Local). local.name))
