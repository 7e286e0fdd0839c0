-- The templates of what it is to be of a type.
use Rattle.std.specs.Prelude.{ℕ, zero, suc, ℤ, pos, List, [], ◌∷◌, Option, None, Some}
use Rattle.std.specs.Option.{option_and_then}
use Rattle.df_lang.specs.declared.ty.Ty.{Ty}
use Rattle.df_lang.specs.declared.ty.Ty.TheVariants as types
use Rattle.df_form.specs.World.{World, Ends, ends_at}
use Rattle.df_form.specs.declared.log.Lit.{Lit}
use Rattle.df_form.specs.declared.node.Op.{Op}
use Rattle.df_form.specs.declared.node.Op.TheVariants as ops
use Rattle.df_form.specs.declared.symbol.Symbol.TheVariants as symbols
use Rattle.df_form.specs.declared.symbol.Payload.TheVariants as payloads
use Rattle.df_form.specs.Node.{Node, test_of}
use Rattle.df_form.specs.Clause.{yes, no}
use Rattle.df_axiom.specs.declared.templates.Piece.{Piece}
use Rattle.df_axiom.specs.declared.templates.Source.TheVariants as sources
use Rattle.df_axiom.specs.declared.templates.Test.TheVariants as tests
use Rattle.df_axiom.specs.Template.{Template}

-- the named term, which is to be of the operation
abbrev pub whole : Op → Piece
whole op = record { source = sources.Named 0; test = tests.Of op }

-- its part
abbrev pub part : Piece
part = record { source = sources.Part 0 0; test = tests.Any }

abbrev pub number : ℤ → Node
number k = record { op = ops.Number k; parts = [] }

abbrev pub two : Op → ℕ → ℕ → Node
two op left right = record { op = op; parts = left ∷ right ∷ [] }

-- an operation on x, which is place 0; x is 1
abbrev pub of_one : Op → List Node → List Lit → Template
of_one op needed clause = record { terms = 1; pieces = whole op ∷ part ∷ []; same = []; needed = needed; clause = clause }

-- x is of a newtype exactly where its low end is at most x and x at most its high end
abbrev pub interval_template : Op → ℤ → ℤ → ℕ → Option Template
interval_template op low high zero = Some (of_one op (number low ∷ two ops.AtMost 2 1 ∷ []) (no 0 ∷ yes 3 ∷ []))
interval_template op low high (suc zero) = Some (of_one op (number high ∷ two ops.AtMost 1 2 ∷ []) (no 0 ∷ yes 3 ∷ []))
interval_template op low high (suc (suc zero)) =
    Some (of_one op (number low ∷ two ops.AtMost 2 1 ∷ number high ∷ two ops.AtMost 1 4 ∷ []) (yes 0 ∷ no 3 ∷ no 5 ∷ []))
interval_template op low high (suc (suc (suc k))) = None

-- a `nat` exactly where 0 <= x
abbrev pub natural_template : Op → ℕ → Option Template
natural_template op zero = Some (of_one op (number (pos 0) ∷ two ops.AtMost 2 1 ∷ []) (no 0 ∷ yes 3 ∷ []))
natural_template op (suc zero) = Some (of_one op (number (pos 0) ∷ two ops.AtMost 2 1 ∷ []) (yes 0 ∷ no 3 ∷ []))
natural_template op (suc (suc k)) = None

-- and of a type that has all values of its sort always
abbrev pub always_template : Op → ℕ → Option Template
always_template op zero = Some (of_one op [] (yes 0 ∷ []))
always_template op (suc k) = None

abbrev pub type_template : World → Ty → ℕ → Option Template
type_template world (types.Newtype t) k = option_and_then (λ (newtype : Ends). interval_template (test_of (types.Newtype t)) newtype.low newtype.high k) (ends_at world t)
type_template world types.Int k = always_template (test_of types.Int) k
type_template world types.Nat k = natural_template (test_of types.Nat) k
type_template world types.Bool k = always_template (test_of types.Bool) k
type_template world types.Char k = always_template (test_of types.Char) k

abbrev pub types_template : World → Op → ℕ → Option Template
types_template world (ops.Of symbols.Is (payloads.Type ty)) k = type_template world ty k
types_template world op k = None
