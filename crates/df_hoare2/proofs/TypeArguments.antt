-- Types that a call gives for type parameters are closed where what stands for those of the caller is.
use Rattle.std.proofs.Common.{◌≡◌, ◌<◌, ℕ, zero, suc, Bool, true, false, not, ◌&&◌, ◌||◌, List, [], ◌∷◌, length, Option, None, Some, refl, arith}
use Rattle.std.specs.Option.{option_map_or}
use Rattle.std.proofs.lemmas.Bool.{and_parts, and_from, ltb-true}
use Rattle.df_types.specs.Ty.{Ty, Newtype, Int, Nat, Boolean, Char, AnyObject, Class, Array, Seq, Set, Data, Parameter, Tys, no_ty, and_ty, argument_at, instance_of, instances_of}
use Rattle.df_types.specs.Program.{Program, TypeParameter, Datatype, datatype_at}
use Rattle.df_types.specs.Types.{are_arguments, is_type, are_types}
use Rattle.df_types.specs.Equality.{has_equality, have_equality, is_equatable, is_marked_parameter, may_equate}

-- closed types for type parameters, with equality where it is asked
pub record Closed (p : Program) (marks : List TypeParameter) (types : Tys) : Type 0 where
  pub marked : are_arguments p [] marks types ≡ true
  pub closed : are_types p [] types ≡ true

or_from : (a b : Bool) → (a ≡ true → b ≡ true) → (not a || b) ≡ true
or_from true b h = h refl
or_from false b h = refl

or_right : (a b : Bool) → a ≡ true → (not a || b) ≡ true → b ≡ true
or_right true b e h = h
or_right false b e h = cc

module _ (p : Program) where
  -- ---- equality

  abbrev equatable : ℕ → Bool
  equatable = is_equatable p (length p.decls)

  argument_equates : (marks : List TypeParameter) (w : Tys) (n : ℕ) → are_arguments p [] marks w ≡ true → is_marked_parameter marks n ≡ true → has_equality equatable (is_marked_parameter []) (argument_at w n) ≡ true
  argument_equates [] w n h e = cc
  argument_equates (x ∷ xs) no_ty n h e = cc
  argument_equates (x ∷ xs) (and_ty t ts) zero h e = or_right x.has_equality (may_equate p [] t) e (and_parts (not x.has_equality || may_equate p [] t) (are_arguments p [] xs ts) h).0
  argument_equates (x ∷ xs) (and_ty t ts) (suc n) h e = argument_equates xs ts n (and_parts (not x.has_equality || may_equate p [] t) (are_arguments p [] xs ts) h).1 e

  module _ (marks : List TypeParameter) (w : Tys) (c : Closed p marks w) where
    mutual
      instance_equates : (t : Ty) → has_equality equatable (is_marked_parameter marks) t ≡ true → has_equality equatable (is_marked_parameter []) (instance_of w t) ≡ true
      instance_equates (Newtype d) h = refl
      instance_equates Int h = refl
      instance_equates Nat h = refl
      instance_equates Boolean h = refl
      instance_equates Char h = refl
      instance_equates (AnyObject nullable) h = refl
      instance_equates (Class nullable d) h = refl
      instance_equates (Array nullable t) h = refl
      instance_equates (Seq t) h = instance_equates t h
      instance_equates (Set t) h = cc
      instance_equates (Data d ts) h =
          let parts = and_parts (equatable d) (have_equality equatable (is_marked_parameter marks) ts) h in
          and_from (equatable d) (have_equality equatable (is_marked_parameter []) (instances_of w ts)) parts.0 (instances_equate ts parts.1)
      instance_equates (Parameter n) h = argument_equates marks w n c.marked h

      instances_equate : (ts : Tys) → have_equality equatable (is_marked_parameter marks) ts ≡ true → have_equality equatable (is_marked_parameter []) (instances_of w ts) ≡ true
      instances_equate no_ty h = refl
      instances_equate (and_ty t ts) h =
          let parts = and_parts (has_equality equatable (is_marked_parameter marks) t) (have_equality equatable (is_marked_parameter marks) ts) h in
          and_from (has_equality equatable (is_marked_parameter []) (instance_of w t)) (have_equality equatable (is_marked_parameter []) (instances_of w ts)) (instance_equates t parts.0) (instances_equate ts parts.1)

    arguments_marked : (xs : List TypeParameter) (ts : Tys) → are_arguments p marks xs ts ≡ true → are_arguments p [] xs (instances_of w ts) ≡ true
    arguments_marked [] no_ty h = refl
    arguments_marked [] (and_ty t ts) h = cc
    arguments_marked (x ∷ xs) no_ty h = cc
    arguments_marked (x ∷ xs) (and_ty t ts) h =
        let parts = and_parts (not x.has_equality || may_equate p marks t) (are_arguments p marks xs ts) h in
        and_from (not x.has_equality || may_equate p [] (instance_of w t)) (are_arguments p [] xs (instances_of w ts))
        (or_from x.has_equality (may_equate p [] (instance_of w t)) (λ e. instance_equates t (or_right x.has_equality (may_equate p marks t) e parts.0))) (arguments_marked xs ts parts.1)

    -- ---- types that there are

    argument_is : (xs : List TypeParameter) (ts : Tys) (n : ℕ) → are_arguments p [] xs ts ≡ true → are_types p [] ts ≡ true → n < length xs → is_type p [] (argument_at ts n) ≡ true
    argument_is [] ts n h k e = absurd (omega (arith, e))
    argument_is (x ∷ xs) no_ty n h k e = cc
    argument_is (x ∷ xs) (and_ty t ts) zero h k e = (and_parts (is_type p [] t) (are_types p [] ts) k).0
    argument_is (x ∷ xs) (and_ty t ts) (suc n) h k e =
        argument_is xs ts n (and_parts (not x.has_equality || may_equate p [] t) (are_arguments p [] xs ts) h).1 (and_parts (is_type p [] t) (are_types p [] ts) k).1 (let less : suc n < suc (length xs) = e in omega (arith, less))

    mutual
      instance_is : (t : Ty) → is_type p marks t ≡ true → is_type p [] (instance_of w t) ≡ true
      instance_is (Newtype d) h = h
      instance_is Int h = refl
      instance_is Nat h = refl
      instance_is Boolean h = refl
      instance_is Char h = refl
      instance_is (AnyObject nullable) h = refl
      instance_is (Class nullable d) h = h
      instance_is (Array nullable t) h = instance_is t h
      instance_is (Seq t) h = instance_is t h
      instance_is (Set t) h = instance_is t h
      instance_is (Data d ts) h = by_datatype (datatype_at p d) h (instances_are ts)
        where
          by_datatype : (o : Option Datatype) → (option_map_or (λ (x : Datatype). are_arguments p marks x.type_parameters ts) o false && are_types p marks ts) ≡ true → (are_types p marks ts ≡ true → are_types p [] (instances_of w ts) ≡ true)
              → (option_map_or (λ (x : Datatype). are_arguments p [] x.type_parameters (instances_of w ts)) o false && are_types p [] (instances_of w ts)) ≡ true
          by_datatype None h rest = cc
          by_datatype (Some x) h rest =
              let parts = and_parts (are_arguments p marks x.type_parameters ts) (are_types p marks ts) h in
              and_from (are_arguments p [] x.type_parameters (instances_of w ts)) (are_types p [] (instances_of w ts)) (arguments_marked x.type_parameters ts parts.0) (rest parts.1)
      instance_is (Parameter n) h = argument_is marks w n c.marked c.closed (ltb-true n (length marks) h)

      instances_are : (ts : Tys) → are_types p marks ts ≡ true → are_types p [] (instances_of w ts) ≡ true
      instances_are no_ty h = refl
      instances_are (and_ty t ts) h =
          let parts = and_parts (is_type p marks t) (are_types p marks ts) h in
          and_from (is_type p [] (instance_of w t)) (are_types p [] (instances_of w ts)) (instance_is t parts.0) (instances_are ts parts.1)

    pub closed_instances : (xs : List TypeParameter) (ts : Tys) → are_arguments p marks xs ts ≡ true → are_types p marks ts ≡ true → Closed p xs (instances_of w ts)
    closed_instances xs ts h k = record { marked = arguments_marked xs ts h; closed = instances_are ts k }
