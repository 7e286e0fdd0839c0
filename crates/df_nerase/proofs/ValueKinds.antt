-- Values of types are of their kinds.
use Rattle.std.proofs.Common.{◌≡◌, ℕ, ℤ, int_le, int_lt, Bool, true, refl, sym, ap, ◌∙◌}
use Rattle.df_lang.specs.declared.ty.Ty.{Ty}
use Rattle.df_lang.specs.declared.ty.Ty.TheVariants as types
use Rattle.df_lang.specs.declared.expr.Comparison.{Comparison}
use Rattle.df_lang.specs.declared.expr.Comparison.TheVariants as comparisons
use Rattle.df_lang.specs.Program.{Program}
use Rattle.df_lang.specs.Typing.{is_integer, casts, compares}
use Rattle.df_meaning.specs.Value.{Value, number_of, truth_of, same_truth}
use Rattle.df_meaning.specs.Value as values
use Rattle.df_meaning.specs.Types.{has_type}
use Rattle.df_meaning.specs.Evaluation.{compare}
use Rattle.df_nplain.specs.Outcome.{Gives}
use Rattle.df_nplain.specs.Evaluation.{number_in, truth_in, number_from, of_kind, equivalent, ordered, compared}
use Rattle.df_nerase.specs.Erasing.{kind_of}

-- of an integer type are numbers alone
is_number : (p : Program) (ty : Ty) (v : Value) → is_integer p ty ≡ true → has_type p ty v ≡ true → v ≡ values.Number (number_of v)
is_number p ty (values.Number z) i h = refl
is_number p (types.Newtype id) (values.Truth b) i h = cc
is_number p types.Int (values.Truth b) i h = cc
is_number p types.Nat (values.Truth b) i h = cc
is_number p types.Bool (values.Truth b) i h = cc
is_number p types.Char (values.Truth b) i h = cc
is_number p (types.Newtype id) (values.Character c) i h = cc
is_number p types.Int (values.Character c) i h = cc
is_number p types.Nat (values.Character c) i h = cc
is_number p types.Bool (values.Character c) i h = cc
is_number p types.Char (values.Character c) i h = cc
is_number p (types.Newtype id) (values.Text cs) i h = cc
is_number p types.Int (values.Text cs) i h = cc
is_number p types.Nat (values.Text cs) i h = cc
is_number p types.Bool (values.Text cs) i h = cc
is_number p types.Char (values.Text cs) i h = cc

abbrev code_in : Value → ℕ
code_in (values.Character c) = c
code_in v = 0

is_character : (p : Program) (v : Value) → has_type p types.Char v ≡ true → v ≡ values.Character (code_in v)
is_character p (values.Number z) h = cc
is_character p (values.Truth b) h = cc
is_character p (values.Character c) h = refl
is_character p (values.Text cs) h = cc

pub number_known : (p : Program) (ty : Ty) (v : Value) → is_integer p ty ≡ true → has_type p ty v ≡ true → number_in v ≡ Gives (number_of v)
number_known p ty v i h = ap number_in (is_number p ty v i h)

pub truth_known : (p : Program) (v : Value) → has_type p types.Bool v ≡ true → truth_in v ≡ Gives (truth_of v)
truth_known p (values.Truth b) h = refl
truth_known p (values.Number z) h = cc
truth_known p (values.Character c) h = cc
truth_known p (values.Text cs) h = cc

pub kind_known : (p : Program) (ty : Ty) (v : Value) → has_type p ty v ≡ true → of_kind (kind_of p ty) v ≡ Gives v
kind_known p (types.Newtype id) (values.Number z) h = refl
kind_known p types.Int (values.Number z) h = refl
kind_known p types.Nat (values.Number z) h = refl
kind_known p types.Bool (values.Number z) h = cc
kind_known p types.Char (values.Number z) h = cc
kind_known p (types.Newtype id) (values.Truth b) h = cc
kind_known p types.Int (values.Truth b) h = cc
kind_known p types.Nat (values.Truth b) h = cc
kind_known p types.Bool (values.Truth b) h = refl
kind_known p types.Char (values.Truth b) h = cc
kind_known p (types.Newtype id) (values.Character c) h = cc
kind_known p types.Int (values.Character c) h = cc
kind_known p types.Nat (values.Character c) h = cc
kind_known p types.Bool (values.Character c) h = cc
kind_known p types.Char (values.Character c) h = refl
kind_known p (types.Newtype id) (values.Text cs) h = cc
kind_known p types.Int (values.Text cs) h = cc
kind_known p types.Nat (values.Text cs) h = cc
kind_known p types.Bool (values.Text cs) h = cc
kind_known p types.Char (values.Text cs) h = cc

from_number : (p : Program) (ty : Ty) (v : Value) → is_integer p ty ≡ true → has_type p ty v ≡ true → number_from (kind_of p ty) v ≡ Gives (number_of v)
from_number p (types.Newtype id) v i h = ap (number_from (kind_of p (types.Newtype id))) (is_number p (types.Newtype id) v i h)
from_number p types.Int v i h = ap (number_from (kind_of p types.Int)) (is_number p types.Int v i h)
from_number p types.Nat v i h = ap (number_from (kind_of p types.Nat)) (is_number p types.Nat v i h)
from_number p types.Bool v i h = cc
from_number p types.Char v i h = cc

from_character : (p : Program) (v : Value) → has_type p types.Char v ≡ true → number_from (kind_of p types.Char) v ≡ Gives (number_of v)
from_character p (values.Number z) h = cc
from_character p (values.Truth b) h = cc
from_character p (values.Character c) h = refl
from_character p (values.Text cs) h = cc

pub cast_known : (p : Program) (from target : Ty) (v : Value) → casts p from target ≡ true → has_type p from v ≡ true → number_from (kind_of p from) v ≡ Gives (number_of v)
cast_known p types.Char target v c h = from_character p v h
cast_known p types.Int target v c h = from_number p types.Int v refl h
cast_known p types.Nat target v c h = from_number p types.Nat v refl h
cast_known p types.Bool (types.Newtype b) v c h = cc
cast_known p types.Bool types.Int v c h = cc
cast_known p types.Bool types.Nat v c h = cc
cast_known p types.Bool types.Bool v c h = cc
cast_known p types.Bool types.Char v c h = cc
cast_known p (types.Newtype id) target (values.Number z) c h = refl
cast_known p (types.Newtype id) target (values.Truth b) c h = cc
cast_known p (types.Newtype id) target (values.Character code) c h = cc
cast_known p (types.Newtype id) target (values.Text cs) c h = cc

pub equivalent_known : (v w : Value) → truth_in v ≡ Gives (truth_of v) → truth_in w ≡ Gives (truth_of w) → equivalent v w ≡ Gives (values.Truth (same_truth (truth_of v) (truth_of w)))
equivalent_known v w h k = rw h (rw k refl)

ordered_numbers : (test : ℤ → ℤ → Bool) (p : Program) (ty : Ty) (v w : Value) → is_integer p ty ≡ true → has_type p ty v ≡ true → has_type p ty w ≡ true → ordered test v w ≡ Gives (test (number_of v) (number_of w))
ordered_numbers test p ty v w i h k = ap (λ (x : Value). ordered test x w) (is_number p ty v i h) ∙ ap (λ (x : Value). ordered test (values.Number (number_of v)) x) (is_number p ty w i k)

ordered_characters : (test : ℤ → ℤ → Bool) (p : Program) (v w : Value) → has_type p types.Char v ≡ true → has_type p types.Char w ≡ true → ordered test v w ≡ Gives (test (number_of v) (number_of w))
ordered_characters test p (values.Character c) (values.Character d) h k = refl
ordered_characters test p (values.Character c) (values.Number z) h k = cc
ordered_characters test p (values.Character c) (values.Truth b) h k = cc
ordered_characters test p (values.Character c) (values.Text cs) h k = cc
ordered_characters test p (values.Number z) w h k = cc
ordered_characters test p (values.Truth b) w h k = cc
ordered_characters test p (values.Text cs) w h k = cc

ordered_known : (test : ℤ → ℤ → Bool) (p : Program) (ty : Ty) (v w : Value) → compares p ty comparisons.Less ≡ true → has_type p ty v ≡ true → has_type p ty w ≡ true → ordered test v w ≡ Gives (test (number_of v) (number_of w))
ordered_known test p (types.Newtype id) v w c h k = ordered_numbers test p (types.Newtype id) v w c h k
ordered_known test p types.Int v w c h k = ordered_numbers test p types.Int v w refl h k
ordered_known test p types.Nat v w c h k = ordered_numbers test p types.Nat v w refl h k
ordered_known test p types.Bool v w c h k = cc
ordered_known test p types.Char v w c h k = ordered_characters test p v w h k

at_most_orders : (p : Program) (ty : Ty) → compares p ty comparisons.AtMost ≡ compares p ty comparisons.Less
at_most_orders p (types.Newtype id) = refl
at_most_orders p types.Int = refl
at_most_orders p types.Nat = refl
at_most_orders p types.Bool = refl
at_most_orders p types.Char = refl

greater_orders : (p : Program) (ty : Ty) → compares p ty comparisons.Greater ≡ compares p ty comparisons.Less
greater_orders p (types.Newtype id) = refl
greater_orders p types.Int = refl
greater_orders p types.Nat = refl
greater_orders p types.Bool = refl
greater_orders p types.Char = refl

at_least_orders : (p : Program) (ty : Ty) → compares p ty comparisons.AtLeast ≡ compares p ty comparisons.Less
at_least_orders p (types.Newtype id) = refl
at_least_orders p types.Int = refl
at_least_orders p types.Nat = refl
at_least_orders p types.Bool = refl
at_least_orders p types.Char = refl

pub compared_known : (p : Program) (ty : Ty) (comparison : Comparison) (v w : Value) → compares p ty comparison ≡ true → has_type p ty v ≡ true → has_type p ty w ≡ true → compared comparison v w ≡ Gives (compare comparison v w)
compared_known p ty comparisons.Equal v w c h k = refl
compared_known p ty comparisons.NotEqual v w c h k = refl
compared_known p ty comparisons.Less v w c h k = ordered_known int_lt p ty v w c h k
compared_known p ty comparisons.AtMost v w c h k = ordered_known int_le p ty v w (sym (at_most_orders p ty) ∙ c) h k
compared_known p ty comparisons.Greater v w c h k = ordered_known int_lt p ty w v (sym (greater_orders p ty) ∙ c) k h
compared_known p ty comparisons.AtLeast v w c h k = ordered_known int_le p ty w v (sym (at_least_orders p ty) ∙ c) k h
