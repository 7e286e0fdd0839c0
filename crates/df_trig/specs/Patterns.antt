-- Patterns: which clauses of schemas have one that begins with a term of an operation.
use Rattle.std.specs.Prelude.{ℕ, List, [], ◌∷◌, ◌++◌, map, filter}
use Rattle.df_form.specs.declared.node.Op.{Op}
use Rattle.df_form.specs.declared.node.Op.TheVariants as ops
use Rattle.df_form.specs.declared.symbol.Symbol.TheVariants as symbols
use Rattle.df_form.specs.declared.symbol.Payload.TheVariants as payloads
use Rattle.df_form.specs.Node.{test_of}
use Rattle.df_axiom.specs.Template.{Entry}
use Rattle.df_axiom.specs.Schemas.{written, begins_with}
use Rattle.df_trig.specs.declared.pattern.Pattern.{Pattern}

-- the pattern of a clause of a schema, by their numbers, where it begins with a term of the operation
abbrev pub of_schema : Op → ℕ → ℕ → Pattern
of_schema op schema clause = record { op = op; schema = schema; clause = clause }

-- what it is to be of a type
abbrev pub type_patterns : Op → List Pattern
type_patterns (ops.Of symbols.Is (payloads.Type ty)) = of_schema (test_of ty) 74 0 ∷ of_schema (test_of ty) 74 1 ∷ of_schema (test_of ty) 74 2 ∷ []
type_patterns op = []

abbrev pub of_entry : Op → Entry → Pattern
of_entry op e = of_schema op e.schema e.clause

abbrev pub of_entries : Op → List Entry → List Pattern
of_entries op entries = map (of_entry op) (filter (begins_with op) entries)

-- those of all clauses that begin so
abbrev pub patterns : Op → List Pattern
patterns op = type_patterns op ++ of_entries op written
