-- A heap keeps its own objects.
use Rattle.std.proofs.Common.{◌≡◌, ◌==◌, ◌||◌, Bool, true, false, length, Option, None, Some, refl}
use Rattle.std.proofs.lemmas.Bool.{and_from}
use Rattle.df_lemmas.proofs.Numbers.{equal_self}
use Rattle.df_types.specs.Ty.{same_type}
use Rattle.df_types.proofs.SameTypes.{same_type_self}
use Rattle.df_meaning2.specs.Value.{Value, Reference, values_of, no_object, instance_at, elements_at}
use Rattle.df_meaning2.specs.Heap.{Object, Instance, Elements, slots_of, Heap, find, is_shaped, is_kept, keeps_each, keeps}
use Rattle.df_meaning2.proofs.Equality.{all_same_self}

shaped_self : (a : Object) → is_shaped a a ≡ true
shaped_self (Instance class slots) = and_from (class == class) _ (equal_self class) (equal_self (length slots))
shaped_self (Elements element slots) = and_from (same_type element element) _ (same_type_self element) (equal_self (length slots))

either_true : (a b : Bool) → b ≡ true → (a || b) ≡ true
either_true true b h = refl
either_true false b h = h

kept_self : (is_free : Bool) (o : Option Object) → is_kept is_free o o ≡ true
kept_self is_free None = refl
kept_self is_free (Some a) = and_from (is_shaped a a) _ (shaped_self a) (either_true is_free _ (all_same_self (values_of (slots_of a))))

each_kept : (free : Value → Bool) (heap objects : Heap) → keeps_each free heap heap objects ≡ true
each_kept free heap no_object = refl
each_kept free heap (instance_at r class slots rest) = and_from _ _ (kept_self (free (Reference r)) (find heap r)) (each_kept free heap rest)
each_kept free heap (elements_at r element slots rest) = and_from _ _ (kept_self (free (Reference r)) (find heap r)) (each_kept free heap rest)

pub keeps_itself : (free : Value → Bool) (heap : Heap) → keeps free heap heap ≡ true
keeps_itself free heap = each_kept free heap heap
