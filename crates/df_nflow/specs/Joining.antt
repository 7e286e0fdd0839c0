-- Where ways come together, by the terms that are kept of them.
use Rattle.std.specs.Prelude.{◌≡◌, ◌<◌, ℕ, suc, pos, Bool, Option, Some, if◌then◌else◌, List, [], ◌∷◌, ◌++◌, length, slice_index_or}
use Rattle.std.specs.List.{list_all, flat_map, AllByRecursion}
use Rattle.df_lang.specs.declared.ty.Ty.{Ty}
use Rattle.df_meaning.specs.Modular.{Changed}
use Rattle.df_nterm.specs.Term.{Sort, Term, literal, sort_of_type}
use Rattle.df_nterm.specs.Same.{same_term}
use Rattle.df_nterm.specs.Expressions.{Environment}
use Rattle.df_nenc.specs.Tree.{sort_of_term}
use Rattle.df_npass.specs.Rules.{Said, Moved, either_path, with_term, free_of}
use Rattle.df_npass.specs.Rules as rules
use Rattle.df_nflow.specs.Ways.{Arrival}

-- the term of the local at a place among those that are kept
abbrev pub term_at : Arrival → ℕ → Term
term_at arrival place = slice_index_or arrival.terms place (literal (pos 0))

abbrev pub are_same_at : Term → ℕ → List Arrival → Bool
are_same_at a place arrivals = list_all (λ (one : Arrival). same_term a (term_at one place)) arrivals

abbrev pub assume_joined_at : Ty → ℕ → Term → List Arrival → List Said
assume_joined_at ty place a arrivals = flat_map (λ (one : Arrival). rules.assume_there ty a one.path (term_at one place)) arrivals

-- the locals from a place on
abbrev pub join_locals_from : ℕ → List Changed → List Arrival → ℕ → Environment → Option Term → Moved
join_locals_from place [] arrivals fresh env path = record { said = []; fresh = fresh; way = record { env = env; path = path } }
join_locals_from place (changed ∷ others) arrivals fresh env path =
    if are_same_at (env changed.local) place arrivals then join_locals_from (suc place) others arrivals fresh env path
    else (
    let more = join_locals_from (suc place) others arrivals (suc fresh) (with_term env changed.local (free_of fresh changed.ty)) path in
    record { said = assume_joined_at changed.ty place (free_of fresh changed.ty) arrivals ++ more.said; fresh = more.fresh; way = more.way })

abbrev pub paths_in : List Arrival → Option (List Term)
paths_in [] = Some []
paths_in (one ∷ others) = either_path one.path (paths_in others)

-- the locals have these terms, the first of the list first
abbrev pub take_all : List Changed → List Term → Environment → Environment
take_all [] terms env = env
take_all (changed ∷ others) [] env = env
take_all (changed ∷ others) (a ∷ more) env = take_all others more (with_term env changed.local a)

-- the term of the local at a place is there on each way, and of the sort
pub record IsThere (place : ℕ) (sort : Sort) (one : Arrival) : Type 0 where
  pub within : place < length one.terms
  pub sort_is : sort_of_term (term_at one place) ≡ sort

abbrev pub AreThere : ℕ → Sort → List Arrival → Type 0
AreThere place sort arrivals = AllByRecursion (IsThere place sort) arrivals

-- from a place on, those of each of these locals
abbrev pub AllThere : ℕ → List Changed → List Arrival → Type 0
AllThere place [] arrivals = Unit {0}
AllThere place (changed ∷ others) arrivals = AreThere place (sort_of_type changed.ty) arrivals × AllThere (suc place) others arrivals
