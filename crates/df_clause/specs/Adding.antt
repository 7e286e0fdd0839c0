-- What lines add to a ground set.
use Rattle.std.specs.Prelude.{List, [], ◌∷◌, slice_get, Option, None, Some}
use Rattle.std.specs.Option.{option_map}
use Rattle.df_form.specs.Node.{Node}
use Rattle.df_form.specs.Clause.{yes, no}
use Rattle.df_form.specs.Sequent.{Sequent}
use Rattle.df_form.specs.Log.{Step, Hypothesis, Goal, Connective, Schema}
use Rattle.df_rules.specs.Connective.{Added, connective_line}
use Rattle.df_axiom.specs.Line.{instance_line}
use Rattle.df_rules.specs.Derivation.{only_clause}

-- the clause of a hypothesis, of the negated goal, of a connective or of a schema, with the nodes that it makes
abbrev pub added_by : Sequent → List Node → Step → Option Added
added_by s nodes (Hypothesis i) = only_clause nodes (option_map (λ h. yes h ∷ []) (slice_get s.hypotheses i))
added_by s nodes Goal = only_clause nodes (Some (no s.goal ∷ []))
added_by s nodes (Connective n k) = connective_line nodes n k
added_by s nodes (Schema schema k terms) = instance_line s.world nodes schema k terms
added_by s nodes step = None
