-- Where literals, sums and constant multiples are exact, numbers are linear.
use Rattle.std.proofs.Common.{◌≡◌, ℕ, ◌<◌, ℤ, List, [], ◌∷◌, length, Some, slice_get, arith}
use Rattle.std.proofs.lemmas.Option.{slice_get_within}
use Rattle.df_form.specs.declared.node.Op.{Op}
use Rattle.df_form.specs.Node.{Node}
use Rattle.df_form.proofs.Values.{AreSorted, parts_below}
use Rattle.df_rules.proofs.SoundRows.{AreLinear}
use Rattle.df_closure.specs.Reading.{IsExact}
use Rattle.df_closure.proofs.Atoms.{two_below}

module _ (nodes : List Node) (sorted : AreSorted nodes) where
  -- the parts of a node of two stand there too
  pub both_inside : (n a b : ℕ) (op : Op) → slice_get nodes n ≡ Some (record { op = op; parts = a ∷ b ∷ [] }) → (a < length nodes) × (b < length nodes)
  both_inside n a b op at =
      let below = two_below n a b (parts_below nodes n (record { op = op; parts = a ∷ b ∷ [] }) sorted at) in
      let within = slice_get_within nodes n (record { op = op; parts = a ∷ b ∷ [] }) at in
      (omega (arith, below.0, within), omega (arith, below.1, within))

  pub exact_is_linear : (v : ℕ → ℤ) → IsExact nodes v → AreLinear nodes v
  exact_is_linear v exact = record { literal = exact.literal; plus = exact.plus; multiple = exact.multiple; inside = both_inside }
