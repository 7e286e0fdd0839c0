-- The test of equality decides it.
use Rattle.std.proofs.Common.{◌≡◌, Bool, true, false, ◌&&◌, nat_eq, refl, sym, ap, ◌∙◌}
use Rattle.std.proofs.lemmas.Bool.Decides.{Decides-int_eq}
use Rattle.std.proofs.lemmas.Bool.{eqb-true, and_parts, and_from}
use Rattle.df_lemmas.proofs.Numbers.{equal_self}
use Rattle.df_mach2.specs.Value.{Value, Values, Number, Truth, Char, Null, Reference, Data, Sequence, no_value, value, same, all_same, same_truth}

truth_equal : (a b : Bool) → same_truth a b ≡ true → a ≡ b
truth_equal true b e = sym e
truth_equal false true e = cc
truth_equal false false e = refl

truth-refl : (a : Bool) → same_truth a a ≡ true
truth-refl true = refl
truth-refl false = refl

mutual
  pub same_equal : (v w : Value) → same v w ≡ true → v ≡ w
  same_equal (Number a) (Number b) e = ap Number ((Decides-int_eq a b).0 e)
  same_equal (Truth a) (Truth b) e = ap Truth (truth_equal a b e)
  same_equal (Char a) (Char b) e = ap Char (eqb-true a b e)
  same_equal Null Null e = refl
  same_equal (Reference a) (Reference b) e = ap Reference (eqb-true a b e)
  same_equal (Data a vs) (Data b ws) e = let es = and_parts (nat_eq a b) (all_same vs ws) e in ap (λ x. Data x vs) (eqb-true a b es.0) ∙ ap (Data b) (all_same_equal vs ws es.1)
  same_equal (Sequence vs) (Sequence ws) e = ap Sequence (all_same_equal vs ws e)
  same_equal v w e = cc

  pub all_same_equal : (vs ws : Values) → all_same vs ws ≡ true → vs ≡ ws
  all_same_equal no_value no_value e = refl
  all_same_equal no_value (value w ws) e = cc
  all_same_equal (value v vs) no_value e = cc
  all_same_equal (value v vs) (value w ws) e = let es = and_parts (same v w) (all_same vs ws) e in ap (λ x. value x vs) (same_equal v w es.0) ∙ ap (value w) (all_same_equal vs ws es.1)

mutual
  pub same-refl : (v : Value) → same v v ≡ true
  same-refl (Number a) = (Decides-int_eq a a).1 refl
  same-refl (Truth a) = truth-refl a
  same-refl (Char a) = equal_self a
  same-refl Null = refl
  same-refl (Reference a) = equal_self a
  same-refl (Data a vs) = and_from (nat_eq a a) (all_same vs vs) (equal_self a) (all_same-refl vs)
  same-refl (Sequence vs) = all_same-refl vs

  pub all_same-refl : (vs : Values) → all_same vs vs ≡ true
  all_same-refl no_value = refl
  all_same-refl (value v vs) = and_from (same v v) (all_same vs vs) (same-refl v) (all_same-refl vs)
