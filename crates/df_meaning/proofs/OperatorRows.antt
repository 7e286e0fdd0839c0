-- Truths, signs, characters, casts and literals, by computation.
use Rattle.std.proofs.Common.{◌≡◌, ℤ, pos, negsuc, true, false, [], ◌∷◌, codes, refl}
use Rattle.df_lang.specs.declared.ty.Ty.{Ty}
use Rattle.df_lang.specs.declared.ty.Ty.TheVariants as types
use Rattle.df_lang.specs.declared.expr.FactorOperator.TheVariants as factors
use Rattle.df_lang.specs.declared.expr.Comparison.{Comparison}
use Rattle.df_lang.specs.declared.expr.Arrow.TheVariants as arrows
use Rattle.df_lang.specs.declared.expr.Comparison.TheVariants as comparisons
use Rattle.df_lang.specs.Expr.{Expr, Number, Character, Negate, Not, Implies, Iff, Chain, As, Members, no_member, member, no_link, link}
use Rattle.df_lang.specs.Program.{Program, NewtypeDecl}
use Rattle.df_lang.proofs.Samples.{at, N, named, num, loc, truth_expr, compared, over}
use Rattle.df_meaning.specs.declared.kind.Kind.TheVariants as kinds
use Rattle.df_meaning.specs.Value as values
use Rattle.df_meaning.specs.Outcome.{Outcome, Gives, Wrong}
use Rattle.df_meaning.specs.Evaluation.{evaluate}
use Rattle.df_meaning.specs.Whole.{whole}
use Rattle.df_meaning.specs.Order.{are_below}
use Rattle.df_meaning.proofs.RowStates.{here, n, t, worth}

-- by 0: it has no value
abbrev undefined : Expr
undefined = compared (over factors.Divide (loc 0) (loc 3)) comparisons.Less (loc 0)

abbrev then_member : Expr → Members → Members
then_member e rest = member (at 8) e rest

-- ---- `==>`, also read from the right as `<==`

implied : worth (Implies arrows.Implies (truth_expr true) (then_member (truth_expr true) no_member)) ≡ Gives (t true)
implied = refl

not_implied : worth (Implies arrows.Implies (truth_expr true) (then_member (truth_expr false) no_member)) ≡ Gives (t false)
not_implied = refl

false_implies : worth (Implies arrows.Implies (truth_expr false) (then_member undefined no_member)) ≡ Gives (t true)
false_implies = refl

true_asks : worth (Implies arrows.Implies (truth_expr true) (then_member undefined no_member)) ≡ Wrong (at 6) kinds.Divisor
true_asks = refl

-- `a ==> (b ==> c)`: from the left it would be false
from_the_right : worth (Implies arrows.Implies (truth_expr false) (then_member (truth_expr true) (then_member (truth_expr false) no_member))) ≡ Gives (t true)
from_the_right = refl

all_true_but_the_last : worth (Implies arrows.Implies (truth_expr true) (then_member (truth_expr true) (then_member (truth_expr false) no_member))) ≡ Gives (t false)
all_true_but_the_last = refl

-- the member that is evaluated first is told: of `a <== b` this is b
premise_first : worth (Implies arrows.Implies (compared (num (pos 101)) comparisons.Less (loc 0)) (then_member undefined no_member)) ≡ Wrong (at 2) kinds.Range
premise_first = refl

-- ---- `<==>`, which evaluates all its members

both_false : worth (Iff (truth_expr false) (then_member (truth_expr false) no_member)) ≡ Gives (t true)
both_false = refl

one_false : worth (Iff (truth_expr true) (then_member (truth_expr false) no_member)) ≡ Gives (t false)
one_false = refl

two_false : worth (Iff (truth_expr false) (then_member (truth_expr true) (then_member (truth_expr false) no_member))) ≡ Gives (t true)
two_false = refl

asks_both : worth (Iff (truth_expr false) (then_member undefined no_member)) ≡ Wrong (at 6) kinds.Divisor
asks_both = refl

-- ---- `!`

not_true : worth (Not (at 8) (truth_expr true)) ≡ Gives (t false)
not_true = refl

not_false : worth (Not (at 8) (truth_expr false)) ≡ Gives (t true)
not_false = refl

-- ---- unary `-`, over the numbers from -128 to 127, and over those from 0 to 255

abbrev bytes : Program
bytes = record { decls = NewtypeDecl (record { declared = named (codes "i8"); low = negsuc 127; high = pos 127; default = pos 0 }) ∷ NewtypeDecl (record { declared = named (codes "u8"); low = pos 0; high = pos 255; default = pos 0 }) ∷ [] }

abbrev negated_in : Ty → Expr → Outcome values.Value
negated_in ty operand = evaluate (whole bytes 0) here (Negate ty (at 8) operand)

abbrev signed : ℤ → Expr
signed z = Number (types.Newtype 0) z (at 2)

abbrev unsigned : ℤ → Expr
unsigned z = Number (types.Newtype 1) z (at 2)

negates : negated_in (types.Newtype 0) (signed (pos 127)) ≡ Gives (n (negsuc 126))
negates = refl

negates_to_the_end : negated_in (types.Newtype 0) (signed (negsuc 126)) ≡ Gives (n (pos 127))
negates_to_the_end = refl

above_the_range : negated_in (types.Newtype 0) (signed (negsuc 127)) ≡ Wrong (at 8) kinds.Range
above_the_range = refl

negates_nothing : negated_in (types.Newtype 1) (unsigned (pos 0)) ≡ Gives (n (pos 0))
negates_nothing = refl

below_the_range : negated_in (types.Newtype 1) (unsigned (pos 1)) ≡ Wrong (at 8) kinds.Range
below_the_range = refl

-- ---- characters

abbrev ordered : Comparison → Outcome values.Value
ordered comparison = worth (Chain types.Char (Character 97 (at 2)) (link comparison (at 5) (Character 98 (at 2)) no_link))

a_below_b : ordered comparisons.Less ≡ Gives (t true)
a_below_b = refl

a_not_above_b : ordered comparisons.AtLeast ≡ Gives (t false)
a_not_above_b = refl

a_is_not_b : ordered comparisons.Equal ≡ Gives (t false)
a_is_not_b = refl

-- by their codes: a large letter stands below a small one
large_below_small : worth (Chain types.Char (Character 90 (at 2)) (link comparisons.Less (at 5) (Character 97 (at 2)) no_link)) ≡ Gives (t true)
large_below_small = refl

falls_by_codes : are_below (values.Character 97 ∷ []) (values.Character 98 ∷ []) ≡ true
falls_by_codes = refl

does_not_fall : are_below (values.Character 98 ∷ []) (values.Character 97 ∷ []) ≡ false
does_not_fall = refl

a_character : worth (As N types.Char (at 8) (num (pos 97))) ≡ Gives (values.Character 97)
a_character = refl

the_last_character : worth (As types.Int types.Char (at 8) (Number types.Int (pos 127) (at 2))) ≡ Gives (values.Character 127)
the_last_character = refl

past_the_last_character : worth (As types.Int types.Char (at 8) (Number types.Int (pos 128) (at 2))) ≡ Wrong (at 8) kinds.Range
past_the_last_character = refl

-- ---- literals

a_natural_literal : worth (Number types.Nat (pos 5) (at 2)) ≡ Gives (n (pos 5))
a_natural_literal = refl

no_natural_literal : worth (Number types.Nat (negsuc 0) (at 2)) ≡ Wrong (at 2) kinds.Range
no_natural_literal = refl

past_the_newtype : worth (num (pos 101)) ≡ Wrong (at 2) kinds.Range
past_the_newtype = refl

-- ---- chains

chain_goes_on : worth (Chain N (loc 0) (link comparisons.Less (at 5) (loc 1) (link comparisons.Less (at 5) (over factors.Divide (loc 0) (loc 3)) no_link))) ≡ Wrong (at 6) kinds.Divisor
chain_goes_on = refl
