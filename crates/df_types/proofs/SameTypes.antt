-- The test of types is equality; and what stands for a type at types that themselves stand for others.
use Rattle.std.proofs.Common.{◌≡◌, ℕ, zero, suc, Bool, true, false, not, ◌==◌, refl, sym, ap, ◌∙◌}
use Rattle.std.proofs.lemmas.Bool.{eqb-true, and_parts, and_from}
use Rattle.df_lemmas.proofs.Numbers.{equal_self}
use Rattle.df_types.specs.Ty.{Ty, Newtype, Int, Nat, Boolean, Char, AnyObject, Class, Array, Seq, Set, Data, Parameter, Tys, no_ty, and_ty, same_type, same_types, argument_at, instance_of, instances_of}

is_false : (b : Bool) → not b ≡ true → b ≡ false
is_false true h = cc
is_false false h = refl

mutual
  pub same_type_equal : (t u : Ty) → same_type t u ≡ true → t ≡ u
  same_type_equal (Newtype d) (Newtype e) h = ap Newtype (eqb-true d e h)
  same_type_equal Int Int h = refl
  same_type_equal Nat Nat h = refl
  same_type_equal Boolean Boolean h = refl
  same_type_equal Char Char h = refl
  same_type_equal (AnyObject true) (AnyObject b) h = ap AnyObject (sym h)
  same_type_equal (AnyObject false) (AnyObject b) h = ap AnyObject (sym (is_false b h))
  same_type_equal (Class true d) (Class b e) h = let hs = and_parts b (d == e) h in ap (λ x. Class x d) (sym hs.0) ∙ ap (Class b) (eqb-true d e hs.1)
  same_type_equal (Class false d) (Class b e) h = let hs = and_parts (not b) (d == e) h in ap (λ x. Class x d) (sym (is_false b hs.0)) ∙ ap (Class b) (eqb-true d e hs.1)
  same_type_equal (Array true t) (Array b u) h = let hs = and_parts b (same_type t u) h in ap (λ x. Array x t) (sym hs.0) ∙ ap (Array b) (same_type_equal t u hs.1)
  same_type_equal (Array false t) (Array b u) h = let hs = and_parts (not b) (same_type t u) h in ap (λ x. Array x t) (sym (is_false b hs.0)) ∙ ap (Array b) (same_type_equal t u hs.1)
  same_type_equal (Seq t) (Seq u) h = ap Seq (same_type_equal t u h)
  same_type_equal (Set t) (Set u) h = ap Set (same_type_equal t u h)
  same_type_equal (Data d ts) (Data e us) h = let hs = and_parts (d == e) (same_types ts us) h in ap (λ x. Data x ts) (eqb-true d e hs.0) ∙ ap (Data e) (same_types_equal ts us hs.1)
  same_type_equal (Parameter n) (Parameter k) h = ap Parameter (eqb-true n k h)
  same_type_equal t u h = cc

  pub same_types_equal : (ts us : Tys) → same_types ts us ≡ true → ts ≡ us
  same_types_equal no_ty no_ty h = refl
  same_types_equal no_ty (and_ty u us) h = cc
  same_types_equal (and_ty t ts) no_ty h = cc
  same_types_equal (and_ty t ts) (and_ty u us) h = let hs = and_parts (same_type t u) (same_types ts us) h in ap (λ x. and_ty x ts) (same_type_equal t u hs.0) ∙ ap (and_ty u) (same_types_equal ts us hs.1)

mutual
  pub same_type_self : (t : Ty) → same_type t t ≡ true
  same_type_self (Newtype d) = equal_self d
  same_type_self Int = refl
  same_type_self Nat = refl
  same_type_self Boolean = refl
  same_type_self Char = refl
  same_type_self (AnyObject true) = refl
  same_type_self (AnyObject false) = refl
  same_type_self (Class true d) = equal_self d
  same_type_self (Class false d) = equal_self d
  same_type_self (Array true t) = same_type_self t
  same_type_self (Array false t) = same_type_self t
  same_type_self (Seq t) = same_type_self t
  same_type_self (Set t) = same_type_self t
  same_type_self (Data d ts) = and_from (d == d) (same_types ts ts) (equal_self d) (same_types_self ts)
  same_type_self (Parameter n) = equal_self n

  pub same_types_self : (ts : Tys) → same_types ts ts ≡ true
  same_types_self no_ty = refl
  same_types_self (and_ty t ts) = and_from (same_type t t) (same_types ts ts) (same_type_self t) (same_types_self ts)

-- ---- instances of instances

argument_twice : (a b : Tys) (n : ℕ) → instance_of a (argument_at b n) ≡ argument_at (instances_of a b) n
argument_twice a no_ty n = refl
argument_twice a (and_ty t ts) zero = refl
argument_twice a (and_ty t ts) (suc n) = argument_twice a ts n

mutual
  pub instance_twice : (a b : Tys) (t : Ty) → instance_of a (instance_of b t) ≡ instance_of (instances_of a b) t
  instance_twice a b (Newtype d) = refl
  instance_twice a b Int = refl
  instance_twice a b Nat = refl
  instance_twice a b Boolean = refl
  instance_twice a b Char = refl
  instance_twice a b (AnyObject nullable) = refl
  instance_twice a b (Class nullable d) = refl
  instance_twice a b (Array nullable t) = ap (Array nullable) (instance_twice a b t)
  instance_twice a b (Seq t) = ap Seq (instance_twice a b t)
  instance_twice a b (Set t) = ap Set (instance_twice a b t)
  instance_twice a b (Data d ts) = ap (Data d) (instances_twice a b ts)
  instance_twice a b (Parameter n) = argument_twice a b n

  pub instances_twice : (a b ts : Tys) → instances_of a (instances_of b ts) ≡ instances_of (instances_of a b) ts
  instances_twice a b no_ty = refl
  instances_twice a b (and_ty t ts) = ap (λ x. and_ty x (instances_of a (instances_of b ts))) (instance_twice a b t) ∙ ap (and_ty (instance_of (instances_of a b) t)) (instances_twice a b ts)
