-- What the parser's functions read, one from the other.
use Rattle.std.proofs.Common.{◌≡◌, ℕ, zero, suc, ◌-◌, List, [], map, Option, None, refl, sym, ap, ◌∙◌, arith}
use Rattle.df_tok.specs.Token.{Token}
use Rattle.df_tok.specs.declared.word.Word.TheVariants as words
use Rattle.df_ntree.specs.declared.expr.Group.{Group}
use Rattle.df_ntree.specs.declared.expr.Level.{Level}
use Rattle.df_ntree.specs.declared.expr.Level.TheVariants as levels
use Rattle.df_ntree.specs.declared.expr.TreeType.{TreeType}
use Rattle.df_ntree.specs.declared.expr.Operation
use Rattle.df_ntree.specs.Operator.{rank, tighter}
use Rattle.df_ntree.specs.Expr.{Expr, Operation as PureOperation, operation_of}
use Rattle.df_ntree.specs.ExprSpelling.{spell_cast, IsCastTarget}
use Rattle.df_ntree.specs.mirror.Reading.{Reader, all_of, next_by, optionally, word_stands, after_word}
use Rattle.df_ntree.specs.mirror.ExprReading.{Part, next_operation, gathered, operations_at, level_by, cast_by, signed_by, primary_by, next_arguments, cast_target_at, expr_at}
use Rattle.df_ntree.proofs.Repeat.{Shrinks}
use Rattle.df_ntree.proofs.Readers.{Any, option_shrinks, comma_shrinks}
use Rattle.df_ntree.proofs.ExprTokens.{NoneContinues}
use Rattle.df_ntree.proofs.ExprTypes.{next_cast_reads}
use Rattle.df_ntree.proofs.ExprRows.{next_shrinks}
use Rattle.df_ntree.proofs.ExprLists.{IsPart, spell_part, part_reads}
use Rattle.df_ntree.proofs.ExprPrimary.{arguments_shrink}
use Rattle.df_ntree.proofs.ExprWhole.{exact}
use Rattle.df_npexpr.proofs.Loop.{Step}

-- ---- levels

pub level_is : (room : ℕ) (level : Level) (tokens : List Token) → (room ≡ 0 → ⊥) → (level ≡ levels.Primary → ⊥) → (level ≡ levels.Unary → ⊥) → (level ≡ levels.Cast → ⊥) → level_by room (expr_at room (tighter level)) level tokens ≡ expr_at room level tokens
unfolding expr_at
level_is zero level tokens some p u c = absurd (some refl)
level_is (suc room) levels.Primary tokens some p u c = absurd (p refl)
level_is (suc room) levels.Unary tokens some p u c = absurd (u refl)
level_is (suc room) levels.Cast tokens some p u c = absurd (c refl)
level_is (suc room) _ tokens some p u c = refl

cast_is : (room : ℕ) (tokens : List Token) → (room ≡ 0 → ⊥) → cast_by room (expr_at room levels.Unary) tokens ≡ expr_at room levels.Cast tokens
unfolding expr_at
cast_is zero tokens some = absurd (some refl)
cast_is (suc room) tokens some = refl

unary_is : (room : ℕ) (tokens : List Token) → (room ≡ 0 → ⊥) → signed_by room (expr_at (room - 1) levels.Unary) (expr_at room levels.Primary) tokens ≡ expr_at room levels.Unary tokens
unfolding expr_at
unary_is zero tokens some = absurd (some refl)
unary_is (suc room) tokens some = let e : suc room - 1 ≡ room = omega arith in ap (λ (n : ℕ). signed_by (suc room) (expr_at n levels.Unary) (expr_at (suc room) levels.Primary) tokens) e

primary_is : (room : ℕ) (tokens : List Token) → (room ≡ 0 → ⊥) → primary_by room (expr_at (room - 1) levels.Equivalence) tokens ≡ expr_at room levels.Primary tokens
unfolding expr_at
primary_is zero tokens some = absurd (some refl)
primary_is (suc room) tokens some = let e : suc room - 1 ≡ room = omega arith in ap (λ (n : ℕ). primary_by (suc room) (expr_at n levels.Equivalence) tokens) e

at_level : (room : ℕ) (level other : Level) (tokens : List Token) → level ≡ other → expr_at room other tokens ≡ expr_at room level tokens
at_level room level other tokens e = ap (λ (l : Level). expr_at room l tokens) (sym e)

pub cast_level : (room : ℕ) (level : Level) (tokens : List Token) → (room ≡ 0 → ⊥) → level ≡ levels.Cast → cast_by room (expr_at room levels.Unary) tokens ≡ expr_at room level tokens
cast_level room level tokens some e = cast_is room tokens some ∙ at_level room level levels.Cast tokens e

pub unary_level : (room : ℕ) (level : Level) (tokens : List Token) → (room ≡ 0 → ⊥) → level ≡ levels.Unary → signed_by room (expr_at (room - 1) levels.Unary) (expr_at room levels.Primary) tokens ≡ expr_at room level tokens
unary_level room level tokens some e = unary_is room tokens some ∙ at_level room level levels.Unary tokens e

pub primary_level : (room : ℕ) (level : Level) (tokens : List Token) → (room ≡ 0 → ⊥) → level ≡ levels.Primary → primary_by room (expr_at (room - 1) levels.Equivalence) tokens ≡ expr_at room level tokens
primary_level room level tokens some e = primary_is room tokens some ∙ at_level room level levels.Primary tokens e

pub no_room : (room : ℕ) (level : Level) (tokens : List Token) → room ≡ 0 → expr_at room level tokens ≡ None
unfolding expr_at
no_room zero level tokens h = refl
no_room (suc room) level tokens h = absurd (omega arith)

-- ---- rows

abbrev pub operand_of : ℕ → Level → Reader Part
operand_of room level = expr_at room (tighter level)

-- the step of a row's loop
abbrev pub row_step : Group → ℕ → Level → Step PureOperation
row_step group room level = next_operation group (operand_of room level)

pub row_shrinks : (group : Group) (room : ℕ) (level : Level) → Shrinks (row_step group room level)
row_shrinks group room level = next_shrinks group room (operand_of room level) (rank (tighter level)) (exact room (tighter level)).sound

pub row_begins : (group : Group) (operand : Reader Part) (h : ℕ) (items : List Operation.Operation) (tokens : List Token) → items ≡ [] → gathered (map operation_of items) h (all_of (next_operation group operand) tokens) ≡ operations_at group operand h tokens
unfolding operations_at
row_begins group operand h items tokens e = ap (λ (xs : List Operation.Operation). gathered (map operation_of xs) h (all_of (next_operation group operand) tokens)) e

-- ---- lists

abbrev pub part_step : ℕ → Level → Step Expr
part_step room level = next_by (expr_at room level)

pub part_shrinks : (room : ℕ) (level : Level) → Shrinks (part_step room level)
part_shrinks room level = comma_shrinks (expr_at room level) spell_part (IsPart (rank level) room) NoneContinues (part_reads (rank level) room (expr_at room level) (exact room level))

pub call_shrinks : (room : ℕ) → Shrinks (next_arguments (expr_at room levels.Equivalence))
call_shrinks room = arguments_shrink room (expr_at room levels.Equivalence) (exact room levels.Equivalence)

-- the step of the loop over the types after an operand
abbrev pub cast_step : Reader (Option TreeType)
cast_step = optionally (word_stands words.As) (after_word words.As cast_target_at)

pub cast_shrinks : Shrinks cast_step
cast_shrinks = option_shrinks (word_stands words.As) (after_word words.As cast_target_at) spell_cast IsCastTarget Any next_cast_reads (λ x is. omega arith)
