-- What a declaration knows, by the numbers of formulas, and the obligations of declarations, method by method.
use Rattle.std.specs.Prelude.{◌≡◌, ◌<◌, ℕ, suc, Bool, ◌==◌, if◌then◌else◌, List, [], ◌∷◌, ◌++◌, length, slice_index_or, slice_get, Option, None, Some, is_some}
use Rattle.std.specs.List.{list_any, AllByRecursion}
use Rattle.df_lang.specs.Program.{Decl, NewtypeDecl, MethodDecl, Program}
use Rattle.df_npass.specs.Methods.{obligations_of_method}
use Rattle.df_nowed.specs.Obligation.{Grouped}

abbrev pub is_among : List ℕ → ℕ → Bool
is_among known n = list_any (λ m. m == n) known

-- a formula is known once
abbrev pub known_once : List ℕ → ℕ → List ℕ
known_once known n = if is_among known n then known else known ++ n ∷ []

-- whether a formula is known, and at which place, stands at its number
pub record ArePlaces (places : List (Option ℕ)) (known : List ℕ) : Type 0 where
  pub below : AllByRecursion (λ n. n < length places) known
  pub at : (n : ℕ) → n < length places → is_some (slice_index_or places n None) ≡ is_among known n
  pub place : (n p : ℕ) → slice_get places n ≡ Some (Some p) → slice_get known p ≡ Some n

-- of a method one group, of another declaration none
abbrev pub group_of_decl : Program → List ℕ → ℕ → Decl → List Grouped
group_of_decl program groups number (NewtypeDecl newtype) = []
group_of_decl program groups number (MethodDecl method) = record { declaration = number; obligations = obligations_of_method program groups number method } ∷ []

-- of declarations from a number on, in order
abbrev pub groups_from : Program → List ℕ → ℕ → List Decl → List Grouped
groups_from program groups number [] = []
groups_from program groups number (decl ∷ others) = group_of_decl program groups number decl ++ groups_from program groups (suc number) others

-- one group for each method of the program
abbrev pub all_groups : Program → List ℕ → List Grouped
all_groups program groups = groups_from program groups 0 program.decls
