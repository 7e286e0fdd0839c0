-- The ground set of a sequent with so many rounds of instances.
use Rattle.std.specs.Prelude.{◌≡◌, ℕ, zero, suc, ◌-◌, ◌≤◌, length}
use Rattle.std.specs.List.{range_with_len}
use Rattle.df_form.specs.Sorting.{IsTable}
use Rattle.df_form.specs.Sequent.{Sequent}
use Rattle.df_clause.specs.declared.ground.Ground.{Ground}
use Rattle.df_clause.specs.Counting.{instance_count}
use Rattle.df_clause.specs.GroundSet.{GroundSet, with_lines, with_meanings, sequent_set}
use Rattle.df_clause.specs.GroundView.{set_of}
use Rattle.df_trig.specs.Matches.{round_lines}

-- with every match of a pattern against the terms that stand, equal ones once
abbrev pub with_matches : Sequent → GroundSet → GroundSet
with_matches s set = with_lines s set (round_lines s.world set.nodes)

-- with what the connectives of the nodes from this number on mean
abbrev pub with_meanings_from : Sequent → ℕ → GroundSet → GroundSet
with_meanings_from s first set = with_meanings s set (range_with_len first (length set.nodes - first))

-- A round adds every match, and what the connectives that came with them mean.
abbrev pub with_round : Sequent → GroundSet → GroundSet
with_round s set = with_meanings_from s (length set.nodes) (with_matches s set)

-- the clauses of the sequent and of its connectives, and then so many rounds
abbrev pub instances : Sequent → ℕ → GroundSet
instances s zero = sequent_set s
instances s (suc rounds) = with_round s (instances s rounds)

-- there are too many instances where there are so many
abbrev pub instance_limit : ℕ
instance_limit = 200000

pub record IsInstances (s : Sequent) (rounds : ℕ) (g : Ground) : Type 0 where
  pub set : set_of g ≡ instances s rounds
  pub table : IsTable g.nodes

-- after some of so many rounds, but not before the first one, the ground set has as many instances as the limit
pub record AreTooMany (s : Sequent) (rounds : ℕ) : Type 0 where
  pub round : ℕ
  pub within : suc round ≤ rounds
  pub many : instance_limit ≤ instance_count (instances s (suc round)).clauses
