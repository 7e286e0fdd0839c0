-- Which values are of a kind.
use Rattle.std.specs.Prelude.{ℤ, Bool, true, false, ◌&&◌, int_le, nat_lt, List, [], ◌∷◌}
use Rattle.df_meaning.specs.Value.{Value}
use Rattle.df_meaning.specs.Value as values
use Rattle.df_nplain.specs.Kind.{Range, Between, Unbounded, Kind}
use Rattle.df_nplain.specs.Kind as kinds

-- the number lies in the range
abbrev pub is_in : Range → ℤ → Bool
is_in (Between low high) n = int_le low n && int_le n high
is_in Unbounded n = true

-- the value may stand at a place of the kind
abbrev pub has_kind : Kind → Value → Bool
has_kind (kinds.Number range) (values.Number n) = is_in range n
has_kind kinds.Truth (values.Truth b) = true
has_kind kinds.Character (values.Character code) = nat_lt code 128
has_kind kind value = false

-- as many values as kinds, each of its kind
abbrev pub have_kinds : List Kind → List Value → Bool
have_kinds [] [] = true
have_kinds [] (value ∷ others) = false
have_kinds (kind ∷ more) [] = false
have_kinds (kind ∷ more) (value ∷ others) = has_kind kind value && have_kinds more others
