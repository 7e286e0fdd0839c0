-- What numbers of nodes stand for.
use Rattle.std.specs.Prelude.{◌≡◌, ◌<◌, ℕ, Bool, true, false, List, length, slice_get, Option, None, Some}
use Rattle.std.specs.List.{AllByRecursion}
use Rattle.df_lang.specs.declared.ty.Ty.{Ty}
use Rattle.df_lang.specs.declared.ty.Ty.TheVariants as types
use Rattle.df_lang.specs.declared.expr.Comparison.{Comparison}
use Rattle.df_lang.specs.declared.expr.Comparison.TheVariants as comparisons
use Rattle.df_form.specs.Node.{Node}
use Rattle.df_nterm.specs.Term.{Term, Sort, Truths, sort_of_type}
use Rattle.df_nenc.specs.Tree.{sort_of_term, tree_at}

-- the number names a term of the sort
pub record IsTerm (sort : Sort) (nodes : List Node) (n : ℕ) : Type 0 where
  pub below : n < length nodes
  pub sort_is : sort_of_term (tree_at nodes n) ≡ sort

-- the number names this term
pub record Stands (nodes : List Node) (tree : Term) (n : ℕ) : Type 0 where
  pub below : n < length nodes
  pub tree_is : tree_at nodes n ≡ tree

-- the formula of a place, if not all runs come there
abbrev pub IsPath : List Node → Option ℕ → Type 0
IsPath nodes None = Unit {0}
IsPath nodes (Some path) = IsTerm Truths nodes path

-- the local has a term of the sort
pub record HasTerm (sort : Sort) (nodes : List Node) (terms : List ℕ) (local : ℕ) : Type 0 where
  pub number : ℕ
  pub at : slice_get terms local ≡ Some number
  pub is_term : IsTerm sort nodes number

-- each local of the types has a term of the sort of its type
pub record AreLocals (nodes : List Node) (types : List Ty) (terms : List ℕ) : Type 0 where
  pub below : AllByRecursion (λ n. n < length nodes) terms
  pub sorted : (local : ℕ) (ty : Ty) → slice_get types local ≡ Some ty → HasTerm (sort_of_type ty) nodes terms local

-- values of the type count as numbers, characters by their codes: all but the truths
abbrev pub counts_as_number : Ty → Bool
counts_as_number types.Bool = false
counts_as_number ty = true

abbrev pub may_compare : Ty → Comparison → Bool
may_compare ty comparisons.Equal = true
may_compare ty comparisons.NotEqual = true
may_compare ty comparison = counts_as_number ty

-- values of the one type are narrowed to the other
abbrev pub narrows : Ty → Ty → Bool
narrows types.Int types.Nat = true
narrows source target = false
