-- The lines of the instances of a round: for every pattern and all terms that stand. Where a pattern does not match terms
-- there is no clause, and such a line adds nothing.
use Rattle.std.specs.Prelude.{ℕ, zero, suc, ◌-◌, List, [], ◌∷◌, map, length, slice_get}
use Rattle.std.specs.Option.{option_map_or}
use Rattle.std.specs.List.{range_with_len, flat_map}
use Rattle.df_form.specs.World.{World}
use Rattle.df_form.specs.declared.node.Op.{Op}
use Rattle.df_form.specs.Node.{Node}
use Rattle.df_form.specs.Log.{Step, Schema}
use Rattle.df_axiom.specs.Template.{Template}
use Rattle.df_axiom.specs.Schemas.{template}
use Rattle.df_trig.specs.declared.pattern.Pattern.{Pattern}
use Rattle.df_trig.specs.Patterns.{patterns}

-- all lists of so many numbers below a count, in the order of their first numbers
abbrev pub tuples : ℕ → ℕ → List (List ℕ)
tuples count zero = [] ∷ []
tuples count (suc len) = flat_map (λ n. map (λ (others : List ℕ). n ∷ others) (tuples count len)) (range_with_len 0 count)

-- a pattern, for all terms below a count of which this is the first
abbrev pub template_lines : ℕ → ℕ → Pattern → Template → List Step
template_lines count first p t = map (λ others. Schema p.schema p.clause (first ∷ others)) (tuples count (t.terms - 1))

abbrev pub pattern_lines : World → ℕ → ℕ → Pattern → List Step
pattern_lines world count first p = option_map_or (template_lines count first p) (template world p.op p.schema p.clause) []

-- each pattern that begins with a term of the operation
abbrev pub node_lines : World → ℕ → ℕ → Op → List Step
node_lines world count first op = flat_map (pattern_lines world count first) (patterns op)

-- those of the node of a number, for terms below a count
abbrev pub first_lines : World → ℕ → List Node → ℕ → List Step
first_lines world count nodes first = option_map_or (λ (node : Node). node_lines world count first node.op) (slice_get nodes first) []

-- the lines of a round that begins with these nodes
abbrev pub round_lines : World → List Node → List Step
round_lines world nodes = flat_map (first_lines world (length nodes) nodes) (range_with_len 0 (length nodes))

-- a pattern, for two terms of which the second is one of these
abbrev pub pair_lines : Pattern → ℕ → List ℕ → List Step
pair_lines p first others = map (λ second. Schema p.schema p.clause (first ∷ second ∷ [])) others
