-- The schemas.
use Rattle.std.specs.Prelude.{ℕ, Bool, false, ◌&&◌, ◌==◌, List, [], ◌∷◌, map, Option, if◌then◌else◌}
use Rattle.std.specs.Option.{option_map}
use Rattle.std.specs.List.{find}
use Rattle.df_form.specs.World.{World}
use Rattle.df_form.specs.declared.node.Op.{Op}
use Rattle.df_form.specs.Node.{same_op}
use Rattle.df_axiom.specs.declared.templates.Piece.{Piece}
use Rattle.df_axiom.specs.declared.templates.Test.{Test}
use Rattle.df_axiom.specs.declared.templates.Test.TheVariants as tests
use Rattle.df_axiom.specs.declared.table.TheConstants.{WRITTEN}
use Rattle.df_axiom.specs.Template.{Template, Entry, entry}
use Rattle.df_axiom.specs.Types.{types_template}

-- the clauses of all schemas but that of types, as rows of the code
unfoldable pub written : List Entry
written = map entry WRITTEN.now

abbrev pub is_of : Op → Test → Bool
is_of op tests.Any = false
is_of op tests.Literal = false
is_of op (tests.Of wanted) = same_op wanted op

-- the first piece, which is the first term, is to be of the operation
abbrev pub begins : Op → List Piece → Bool
begins op [] = false
begins op (piece ∷ others) = is_of op piece.test

abbrev pub begins_with : Op → Entry → Bool
begins_with op e = begins op e.template.pieces

-- a clause of this number, of instances whose first term is of the operation
abbrev pub is_entry : Op → ℕ → ℕ → Entry → Bool
is_entry op schema k e = (e.schema == schema) && (e.clause == k) && begins_with op e

abbrev pub written_template : Op → ℕ → ℕ → Option Template
written_template op schema k = option_map (λ (e : Entry). e.template) (find (is_entry op schema k) written)

-- clause k of a schema, whose first term is of the operation; 74 is what it is to be of a type
abbrev pub template : World → Op → ℕ → ℕ → Option Template
template world op schema k = if schema == 74 then types_template world op k else written_template op schema k
