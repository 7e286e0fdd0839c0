-- Types as operands meet. The type of a part that breaks a rule may not be known; what asks for it is then not broken by it.
use Rattle.std.specs.Prelude.{ℕ, Bool, true, false, ◌&&◌, ◌||◌, if◌then◌else◌, List, [], ◌∷◌, Option, Some, None, slice_get}
use Rattle.std.specs.Option.{option_flatten}
pub use Rattle.df_types.specs.Ty.{Ty, Newtype, Int, Nat, Boolean, Char, Seq, same_type}
use Rattle.df_types.specs.Printed.{has_text}
pub use Rattle.df_types.specs.Types.{is_number, is_ordered, fits, converts, casts}

-- where operands meet, `nat` counts as `int`
abbrev pub counted : Ty → Ty
counted Nat = Int
counted ty = ty

abbrev pub one_fits : Ty → Ty → Bool
one_fits left right = fits left right || fits right left

-- the same, where `nat` counts as `int`
abbrev pub are_alike : Ty → Ty → Bool
are_alike left right = same_type left right || same_type (counted left) (counted right)

abbrev pub are_one_number : Ty → Ty → Bool
are_one_number left right = is_number left && (is_number right && same_type (counted left) (counted right))

abbrev pub are_ordered : Ty → Ty → Bool
are_ordered left right = is_ordered left && (is_ordered right && same_type (counted left) (counted right))

-- no datatypes are printed yet, so none is asked for
abbrev pub is_printed : Ty → Bool
is_printed ty = has_text (λ decl. false) false ty

-- ---- types that may not be known

abbrev pub if_known : (Ty → Bool) → Option Ty → Bool
if_known test None = true
if_known test (Some ty) = test ty

abbrev pub if_both : (Ty → Ty → Bool) → Option Ty → Option Ty → Bool
if_both test None other = true
if_both test (Some ty) other = if_known (test ty) other

-- of operands of one integer type
abbrev pub arithmetic : Option Ty → Option Ty → Option Ty
arithmetic (Some left) (Some right) = if are_one_number left right then Some (counted left) else None
arithmetic left right = None

abbrev pub arithmetic_all : Option Ty → List (Option Ty) → Option Ty
arithmetic_all left [] = left
arithmetic_all left (right ∷ others) = arithmetic_all (arithmetic left right) others

-- what two types have in common
abbrev pub joined : Option Ty → Option Ty → Option Ty
joined (Some left) (Some right) = if same_type left right then Some left else (if are_alike left right then Some (counted left) else None)
joined left right = None

abbrev pub joined_all : Option Ty → List (Option Ty) → Option Ty
joined_all left [] = left
joined_all left (right ∷ others) = joined_all (joined left right) others

abbrev pub common : List (Option Ty) → Option Ty
common [] = None
common (ty ∷ others) = joined_all ty others

abbrev pub first : List (Option Ty) → Option Ty
first [] = None
first (ty ∷ others) = ty

abbrev pub others : List (Option Ty) → List (Option Ty)
others [] = []
others (ty ∷ rest) = rest

abbrev pub at_place : ℕ → List (Option Ty) → Option Ty
at_place k types = option_flatten (slice_get types k)

-- a literal takes the integer type that is expected, else it is an `int`
abbrev pub literal_type : Ty → Ty
literal_type ty = if is_number ty then ty else Int
