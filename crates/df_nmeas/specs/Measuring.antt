-- Measures in a table of nodes.
use Rattle.std.specs.Prelude.{◌≡◌, ℕ, suc, true, List, [], ◌∷◌, map, slice_index_or, Option, Some, Vec}
use Rattle.std.specs.declared.alloc.Global.{Global}
use Rattle.std.specs.Option.{option_map}
use Rattle.std.specs.List.{AllByRecursion}
use Rattle.df_lang.specs.declared.ty.Ty.{Ty}
use Rattle.df_lang.specs.declared.ty.Ty.TheVariants as tys
use Rattle.df_lang.specs.declared.stmt.Measure as declared_measure
use Rattle.df_lang.specs.Expr.{Expr}
use Rattle.df_lang.specs.Stmt.{Measure}
use Rattle.df_lang.specs.StmtView.{measure_of}
use Rattle.df_lang.specs.Program.{Param, Method, Program, types_of}
use Rattle.df_lang.specs.Typing.{is_expr, are_measures}
use Rattle.df_form.specs.Node.{Node}
use Rattle.df_nterm.specs.Term.{Term, Numbers, minus, both, either, sort_of_type}
use Rattle.df_nterm.specs.Expressions.{Environment, Condition, term_of}
use Rattle.df_nterm.specs.Measuring as trees
use Rattle.df_nenc.specs.declared.condition.Condition as declared_condition
use Rattle.df_nenc.specs.Tree.{tree_at, trees_in}
use Rattle.df_nenc.specs.Growing.{Grows}
use Rattle.df_nenc.specs.Standing.{IsTerm, AreLocals}
use Rattle.df_nenc.specs.Encoding.{Adds}
use Rattle.df_nmeas.specs.declared.measured.Measured as declared

-- ---- the code's measures, without where they lie in memory

abbrev pub measures_in : List declared_measure.Measure → List Measure
measures_in measures = map measure_of measures

abbrev pub decreases_in : Option (Vec declared_measure.Measure Global) → Option (List Measure)
decreases_in decreases = option_map (λ measures. measures_in measures.items) decreases

abbrev pub one_measured : List Node → declared.Measured → trees.Measured
one_measured nodes m = record { ty = m.ty; value = tree_at nodes m.value }

abbrev pub measured_in : List Node → List declared.Measured → List trees.Measured
measured_in nodes members = map (one_measured nodes) members

-- each member has a term of the sort of its type
abbrev pub IsMember : List Node → declared.Measured → Type 0
IsMember nodes m = IsTerm (sort_of_type m.ty) nodes m.value

abbrev pub AreMembers : List Node → List declared.Measured → Type 0
AreMembers nodes members = AllByRecursion (IsMember nodes) members

-- ---- well typed over locals that have terms

pub record AreOver (nodes : List Node) (terms : List ℕ) (measures : List Measure) : Type 0 where
  pub program : Program
  pub types : List Ty
  pub typed : are_measures program types (Some measures) ≡ true
  pub locals : AreLocals nodes types terms

-- the measure of a method, over the terms of its parameters
pub record IsMethodOver (nodes : List Node) (terms : List ℕ) (m : Method) : Type 0 where
  pub program : Program
  pub typed : are_measures program (types_of m.parameters) m.decreases ≡ true
  pub locals : AreLocals nodes (types_of m.parameters) terms

-- the measure of a loop
pub record IsLoopOver (nodes : List Node) (terms : List ℕ) (guard : Expr) (decreases : Option (List Measure)) : Type 0 where
  pub program : Program
  pub types : List Ty
  pub guard_typed : is_expr program types tys.Bool guard ≡ true
  pub typed : are_measures program types decreases ≡ true
  pub locals : AreLocals nodes types terms

-- a side of a comparison of values of the type
pub record IsSideOver (nodes : List Node) (terms : List ℕ) (ty : Ty) (e : Expr) : Type 0 where
  pub program : Program
  pub types : List Ty
  pub typed : is_expr program types ty e ≡ true
  pub locals : AreLocals nodes types terms

-- one whose values are numbers
pub record IsNumberOver (nodes : List Node) (terms : List ℕ) (e : Expr) : Type 0 where
  pub ty : Ty
  pub number : sort_of_type ty ≡ Numbers
  pub side : IsSideOver nodes terms ty e

-- how far the one number is below the other
abbrev pub distance_in : Environment → Expr → Expr → List trees.Measured
distance_in env low high = record { ty = tys.Int; value = minus (term_of env high) (term_of env low) } ∷ []

-- From one table to another these members were made, and the conditions of all were added.
pub record Measures (members : List trees.Measured) (conditions : List Condition) (old new : List Node) (made : List declared.Measured) (before after : List declared_condition.Condition) : Type 0 where
  pub grows : Grows old new
  pub are : AreMembers new made
  pub members_are : measured_in new made ≡ members
  pub adds : Adds new conditions before after

-- the members of the measure over the terms of locals, and its conditions
abbrev pub MakesMeasure : List Node → List Node → List ℕ → List Measure → List declared.Measured → List declared_condition.Condition → List declared_condition.Condition → Type 0
MakesMeasure old new terms measures made before after =
    Measures (trees.measured (trees_in old terms) measures) (trees.conditions_of_measure (trees_in old terms) measures) old new made before after

-- parameters by their numbers, each with the term of its local
abbrev pub members_from : ℕ → List Param → List ℕ → List declared.Measured
members_from from [] terms = []
members_from from (param ∷ others) terms = record { ty = param.ty; value = slice_index_or terms from 0 } ∷ members_from (suc from) others terms

-- ---- one measure below another

-- a pair of members in front of others
abbrev pub in_front_of : trees.Measured → trees.Measured → Term → Term
in_front_of a b others = either (trees.is_below a b) (both (trees.is_same a b) others)

-- how many pairs stand in front of the last pair of equally long lists, or of the end of the shorter one
abbrev pub pairs_before : {A : Type 0} → List A → List A → ℕ
pairs_before [] others = 0
pairs_before (a ∷ more) [] = 0
pairs_before (a ∷ []) (b ∷ []) = 0
pairs_before (a ∷ more) (b ∷ others) = suc (pairs_before more others)
