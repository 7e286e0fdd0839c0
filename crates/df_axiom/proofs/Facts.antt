-- What is known of the nodes at the places of an instance, by a value for each place, and for each place
-- the values and the sorts of the parts of its node.
use Rattle.std.proofs.Common.{◌≡◌, ℕ, suc, true, List, [], ◌∷◌, map, length}
use Rattle.std.specs.List.{list_any, AllByRecursion, AllZip}
use Rattle.df_form.specs.World.{World}
use Rattle.df_meaning.specs.Value.{Value, truth_of, same_truth}
use Rattle.df_form.specs.declared.log.Lit.{Lit}
use Rattle.df_form.specs.declared.log.Pair.{Pair}
use Rattle.df_form.specs.declared.node.Sort.{Sort}
use Rattle.df_form.specs.Node.{Node}
use Rattle.df_form.specs.Sorting.{takes}
use Rattle.df_form.specs.Truth.{Assignment, has_sort, value_at, apply}
use Rattle.df_axiom.specs.declared.templates.Piece.{Piece}
use Rattle.df_axiom.specs.declared.templates.Source.{Source}
use Rattle.df_axiom.specs.declared.templates.Source.TheVariants as sources
use Rattle.df_axiom.specs.declared.templates.Test.{Test}
use Rattle.df_axiom.specs.declared.templates.Test.TheVariants as tests
use Rattle.df_axiom.specs.Template.{Template}

-- a part has its place among the values of the parts
abbrev pub SourceFact : (ℕ → Value) → (ℕ → List Value) → ℕ → Source → Type 0
SourceFact w ps i (sources.Named term) = Unit {0}
SourceFact w ps i (sources.Part place part) = w i ≡ value_at (ps place) part

abbrev pub IsOf : Sort → Value → Type 0
IsOf sort v = has_sort sort v ≡ true

abbrev pub AreOf : List Sort → List Value → Type 0
AreOf sorts values = AllZip IsOf sorts values

module _ (depth : ℕ) (world : World) (assignment : Assignment) where
  -- an operation has the value that it gives, and takes the sorts of the parts
  abbrev pub TestFact : (ℕ → Value) → (ℕ → List Value) → (ℕ → List Sort) → ℕ → Test → Type 0
  TestFact w ps ss i tests.Any = Unit {0}
  TestFact w ps ss i tests.Literal = Unit {0}
  TestFact w ps ss i (tests.Of op) = (w i ≡ apply depth world assignment op (ps i)) × (takes op (ss i) ≡ true) × AreOf (ss i) (ps i)

  abbrev pub PieceFacts : (ℕ → Value) → (ℕ → List Value) → (ℕ → List Sort) → ℕ → List Piece → Type 0
  PieceFacts w ps ss i [] = Unit {0}
  PieceFacts w ps ss i (piece ∷ others) = SourceFact w ps i piece.source × TestFact w ps ss i piece.test × PieceFacts w ps ss (suc i) others

  abbrev pub NeededFacts : (ℕ → Value) → ℕ → List Node → Type 0
  NeededFacts w i [] = Unit {0}
  NeededFacts w i (need ∷ others) = (w i ≡ apply depth world assignment need.op (map w need.parts)) × NeededFacts w (suc i) others

  -- the clause of a template is true wherever these are so
  abbrev pub IsSound : Template → Type 0
  IsSound t = (w : ℕ → Value) (ps : ℕ → List Value) (ss : ℕ → List Sort)
      → PieceFacts w ps ss 0 t.pieces → AllByRecursion (λ (p : Pair). w p.left ≡ w p.right) t.same → NeededFacts w (length t.pieces) t.needed
      → list_any (λ (l : Lit). same_truth l.positive (truth_of (w l.node))) t.clause ≡ true
