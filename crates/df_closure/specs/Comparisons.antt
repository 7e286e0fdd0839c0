-- Literals of which rows speak.
use Rattle.std.specs.Prelude.{◌≡◌, ℕ, ℤ, Bool, true, List, [], ◌∷◌, slice_get, Some}
use Rattle.df_form.specs.World.{World}
use Rattle.df_form.specs.declared.log.Lit.{Lit}
use Rattle.df_form.specs.declared.node.Sort.TheVariants as sorts
use Rattle.df_form.specs.declared.node.Op.TheVariants as ops
use Rattle.df_form.specs.Node.{Node}
use Rattle.df_form.specs.Sorting.{sort_at}
use Rattle.df_form.specs.Truth.{Assignment, values, number_at}
use Rattle.df_form.specs.Clause.{is_among, literal_truth}

-- a comparison of numbers or its negation, or an equality of numbers
pub data IsComparison (nodes : List Node) (l : Lit) : Type 0 where
  at_most : (a b : ℕ) → slice_get nodes l.node ≡ Some (record { op = ops.AtMost; parts = a ∷ b ∷ [] }) → IsComparison nodes l
  equal : (a b : ℕ) → l.positive ≡ true → slice_get nodes l.node ≡ Some (record { op = ops.Equal; parts = a ∷ b ∷ [] }) → sort_at nodes a ≡ sorts.Number → IsComparison nodes l

-- the number of each node under an assignment
abbrev pub numbers_of : ℕ → World → Assignment → List Node → ℕ → ℤ
numbers_of depth world assignment nodes n = number_at (values depth world assignment nodes) n

-- each comparison among the literals is true
abbrev pub AreComparisonsTrue : List Node → (ℕ → Bool) → List Lit → Type 0
AreComparisonsTrue nodes t literals = (l : Lit) → is_among literals l ≡ true → IsComparison nodes l → literal_truth t l ≡ true
