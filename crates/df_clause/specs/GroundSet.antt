-- Ground sets: clauses, equal ones once, with the nodes that they are of and the lines of a log that add just these.
use Rattle.std.specs.Prelude.{◌≡◌, ℕ, List, [], ◌∷◌, ◌++◌, map, take, length, Option, if◌then◌else◌}
use Rattle.std.specs.Option.{option_map_or}
use Rattle.std.specs.List.{range_with_len}
use Rattle.df_form.specs.Node.{Node}
use Rattle.df_form.specs.Sequent.{Sequent}
use Rattle.df_form.specs.Log.{Step, Hypothesis, Goal}
use Rattle.df_rules.specs.Connective.{Added}
use Rattle.df_clause.specs.GroundClause.{GroundClause}
use Rattle.df_clause.specs.Counting.{stands}
use Rattle.df_clause.specs.Lines.{lines_at, bound_of}
use Rattle.df_clause.specs.Adding.{added_by}

pub record GroundSet : Type 0 where
  pub nodes : List Node
  pub clauses : List GroundClause
  pub lines : List Step

-- the sequent's nodes, and no clause
abbrev pub no_clauses : Sequent → GroundSet
no_clauses s = record { nodes = s.nodes; clauses = []; lines = [] }

abbrev pub ground_clause : Option ℕ → Added → GroundClause
ground_clause bound added = record { literals = added.clause; bound = bound }

-- with the clause that a line adds, unless the same one is there
abbrev pub with_added : GroundSet → Step → Option ℕ → Added → GroundSet
with_added set line bound added =
    if stands set.clauses (ground_clause bound added) then set
    else (record { nodes = added.nodes; clauses = set.clauses ++ ground_clause bound added ∷ []; lines = set.lines ++ line ∷ [] })

-- a line that adds no clause changes nothing
abbrev pub with_line : Sequent → GroundSet → Step → GroundSet
with_line s set line = option_map_or (with_added set line (bound_of set.nodes line)) (added_by s set.nodes line) set

abbrev pub with_lines : Sequent → GroundSet → List Step → GroundSet
with_lines s set [] = set
with_lines s set (line ∷ lines) = with_lines s (with_line s set line) lines

-- with what the connective of a node means
abbrev pub with_meaning : Sequent → GroundSet → ℕ → GroundSet
with_meaning s set n = with_lines s set (lines_at set.nodes n)

abbrev pub with_meanings : Sequent → GroundSet → List ℕ → GroundSet
with_meanings s set [] = set
with_meanings s set (n ∷ numbers) = with_meanings s (with_meaning s set n) numbers

abbrev pub hypothesis_lines : Sequent → List Step
hypothesis_lines s = map (λ i. Hypothesis i) (range_with_len 0 (length s.hypotheses))

-- the hypotheses, and the negated goal
abbrev pub with_claims : Sequent → GroundSet
with_claims s = with_line s (with_lines s (no_clauses s) (hypothesis_lines s)) Goal

-- The clauses of a sequent: its hypotheses, its negated goal, and what its connectives mean.
abbrev pub sequent_set : Sequent → GroundSet
sequent_set s = with_meanings s (with_claims s) (range_with_len 0 (length s.nodes))

-- the nodes, clauses and lines are the first ones of the other set
pub record IsFrontOf (set whole : GroundSet) : Type 0 where
  pub nodes : take (length set.nodes) whole.nodes ≡ set.nodes
  pub clauses : take (length set.clauses) whole.clauses ≡ set.clauses
  pub lines : take (length set.lines) whole.lines ≡ set.lines
