-- The test of equality decides it.
use Rattle.std.proofs.Common.{◌≡◌, Bool, true, false, refl, ap}
use Rattle.std.proofs.lemmas.Bool.Decides.{Decides-int_eq}
use Rattle.std.proofs.lemmas.Bool.{eqb-true}
use Rattle.std.proofs.lemmas.Slice.Eq.{bytes_eq-Decides}
use Rattle.df_lemmas.proofs.Numbers.{equal_self}
use Rattle.df_nmach.specs.Value.{Value, Number, Truth, Char, Null, Reference, Text, same, same_truth}

truth_equal : (a b : Bool) → same_truth a b ≡ true → a ≡ b
truth_equal true true e = refl
truth_equal true false e = cc
truth_equal false true e = cc
truth_equal false false e = refl

truth-refl : (a : Bool) → same_truth a a ≡ true
truth-refl true = refl
truth-refl false = refl

pub same_equal : (v w : Value) → same v w ≡ true → v ≡ w
same_equal (Number a) (Number b) e = ap Number ((Decides-int_eq a b).0 e)
same_equal (Truth a) (Truth b) e = ap Truth (truth_equal a b e)
same_equal (Char a) (Char b) e = ap Char (eqb-true a b e)
same_equal Null Null e = refl
same_equal (Reference a) (Reference b) e = ap Reference (eqb-true a b e)
same_equal (Text a) (Text b) e = ap Text ((bytes_eq-Decides a b).0 e)
same_equal v w e = cc

pub same-refl : (v : Value) → same v v ≡ true
same-refl (Number a) = (Decides-int_eq a a).1 refl
same-refl (Truth a) = truth-refl a
same-refl (Char a) = equal_self a
same-refl Null = refl
same-refl (Reference a) = equal_self a
same-refl (Text a) = (bytes_eq-Decides a a).1 refl
