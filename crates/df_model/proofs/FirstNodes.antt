-- More nodes do not change what the first ones mean.
use Rattle.std.proofs.Common.{◌≡◌, ℕ, ◌<◌, List, take, length, ap}
use Rattle.df_form.specs.World.{World}
use Rattle.df_meaning.specs.Value.{number_of, truth_of}
use Rattle.df_form.specs.Node.{Node}
use Rattle.df_form.specs.Truth.{Assignment, values, number_at, truth}
use Rattle.df_form.proofs.Values.{grown_value}
use Rattle.df_clause.proofs.Running.{grown_from}

module _ (depth : ℕ) (world : World) (assignment : Assignment) where
  pub same_truth_of_first : (nodes more : List Node) (n : ℕ) → take (length nodes) more ≡ nodes → n < length nodes → truth depth world assignment more n ≡ truth depth world assignment nodes n
  same_truth_of_first nodes more n first less = ap truth_of (grown_value depth world assignment nodes more (grown_from nodes more first) n less)

  pub same_number_of_first : (nodes more : List Node) (n : ℕ) → take (length nodes) more ≡ nodes → n < length nodes
      → number_at (values depth world assignment more) n ≡ number_at (values depth world assignment nodes) n
  same_number_of_first nodes more n first less = ap number_of (grown_value depth world assignment nodes more (grown_from nodes more first) n less)
