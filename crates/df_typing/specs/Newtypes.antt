-- The range of a newtype: `newtype N = x: int | low < x < high`, each sign `<` or `<=`, each end a literal with or without a minus. The range
-- holds the default, which is the witness, a literal, or 0.
use Rattle.std.specs.Prelude.{ℕ, ℤ, pos, neg_ℤ, ◌+ℤ◌, ◌-ℤ◌, int_le, Bool, true, false, ◌==◌, ◌&&◌, if◌then◌else◌, List, [], ◌∷◌, Option, Some, None}
use Rattle.std.specs.Option.{option_map, option_and_then}
use Rattle.df_tok.specs.declared.sign.Sign.TheVariants as signs
use Rattle.df_typing.specs.declared.form.Means.TheVariants as meanings
use Rattle.df_typing.specs.declared.form.Declares.TheVariants as declares
use Rattle.df_typing.specs.Tree.{Asts, Kept, Made, Nil, Next, Mark, Sign, Named, Signed, marks, name_in, signs_in, number_in}
use Rattle.df_typing.specs.Form.{form_of, Means, Declares}

pub record Bounds : Type 0 where
  pub low : ℤ
  pub high : ℤ
  pub default : ℤ

-- a sign of a range: whether it is strict
abbrev pub strictness : Sign → Option Bool
strictness signs.Less = Some true
strictness signs.AtMost = Some false
strictness sign = None

abbrev pub lowest : Bool → ℤ → ℤ
lowest true n = n +ℤ pos 1
lowest false n = n

abbrev pub highest : Bool → ℤ → ℤ
highest true n = n -ℤ pos 1
highest false n = n

-- a number, or a sign directly before one
abbrev pub magnitude_of : Means → List Mark → Option ℕ
magnitude_of meanings.Number tokens = Some (number_in tokens)
magnitude_of means tokens = None

abbrev pub magnitude_in : Asts → Option ℕ
magnitude_in Nil = None
magnitude_in (Next (Kept x) rest) = magnitude_in rest
magnitude_in (Next (Made label span inside) rest) = magnitude_of (form_of label).means (marks inside)

abbrev pub literal_of : Means → Asts → Option ℤ
literal_of meanings.Number inside = Some (pos (number_in (marks inside)))
literal_of meanings.Negation inside = option_map (λ n. neg_ℤ (pos n)) (magnitude_in inside)
literal_of means inside = None

-- a part of a predicate: an end, or the variable
pub data Member : Type 0 where
  End : ℤ → Member
  Variable : ℕ → Member
  Other : Member

abbrev pub end_of : Option ℤ → Member
end_of None = Other
end_of (Some n) = End n

abbrev pub variable_of : Option Named → Member
variable_of None = Other
variable_of (Some named) = Variable named.name

abbrev pub member_of : Means → Asts → Member
member_of meanings.Variable inside = variable_of (name_in (marks inside))
member_of means inside = end_of (literal_of means inside)

abbrev pub members_of : Asts → List Member
members_of Nil = []
members_of (Next (Kept x) rest) = members_of rest
members_of (Next (Made label span inside) rest) = member_of (form_of label).means inside ∷ members_of rest

abbrev pub strict_signs : List Signed → Option (Bool × Bool)
strict_signs (one ∷ other ∷ []) = option_and_then (λ low. option_map (λ high. (low, high)) (strictness other.sign)) (strictness one.sign)
strict_signs signs = None

pub record Ends : Type 0 where
  pub low : ℤ
  pub high : ℤ

abbrev pub ends_by : ℕ → List Member → Option (Bool × Bool) → Option Ends
ends_by name (End low ∷ Variable variable ∷ End high ∷ []) (Some strict) =
    if variable == name then Some (record { low = lowest strict.0 low; high = highest strict.1 high }) else None
ends_by name members strict = None

abbrev pub ends_of : ℕ → Means → Asts → Option Ends
ends_of name meanings.Comparison inside = ends_by name (members_of inside) (strict_signs (signs_in (marks inside)))
ends_of name means inside = None

-- ---- the parts of a declaration: the variable, the predicate, and the witness

abbrev pub first_literal : Asts → Option ℤ
first_literal Nil = None
first_literal (Next (Kept x) rest) = first_literal rest
first_literal (Next (Made label span inside) rest) = literal_of (form_of label).means inside

abbrev pub default_of : Asts → Option ℤ
default_of Nil = Some (pos 0)
default_of (Next (Kept x) rest) = default_of rest
default_of (Next (Made label span inside) rest) = first_literal inside

-- the default lies between the ends
abbrev pub inside_ends : Option Ends → Option ℤ → Option Bounds
inside_ends (Some ends) (Some default) =
    if int_le ends.low default && int_le default ends.high then Some (record { low = ends.low; high = ends.high; default = default }) else None
inside_ends ends default = None

abbrev pub bounds_behind : Option Named → Asts → Option Bounds
bounds_behind None rest = None
bounds_behind (Some variable) Nil = None
bounds_behind (Some variable) (Next (Kept x) rest) = bounds_behind (Some variable) rest
bounds_behind (Some variable) (Next (Made label span inside) rest) = inside_ends (ends_of variable.name (form_of label).means inside) (default_of rest)

-- of what stands in the declaration
abbrev pub bounds_in : Asts → Option Bounds
bounds_in Nil = None
bounds_in (Next (Kept x) rest) = bounds_in rest
bounds_in (Next (Made label span inside) rest) = bounds_behind (name_in (marks inside)) rest

abbrev pub bounds_of : Declares → Asts → Option Bounds
bounds_of declares.Newtype inside = bounds_in inside
bounds_of declares.Nothing inside = None
bounds_of declares.Function inside = None
bounds_of declares.Predicate inside = None
bounds_of declares.Method inside = None
bounds_of declares.Lemma inside = None
