-- The sides of an equality are its parts.
use Rattle.std.proofs.Common.{◌≡◌, ℕ, List, [], ◌∷◌, Contains, Option, None, Some, slice_get, refl, subst, arith}
use Rattle.std.specs.Option.{option_and_then}
use Rattle.std.proofs.lemmas.Option.{same_Some}
use Rattle.df_form.specs.declared.log.Pair.{Pair}
use Rattle.df_form.specs.declared.node.Op.{Op}
use Rattle.df_form.specs.declared.node.Op.TheVariants as ops
use Rattle.df_form.specs.Node.{Node}
use Rattle.df_rules.specs.Congruence.{equality, sides_of}
use Rattle.df_classes.proofs.Covering.{HasSides}

abbrev pub ArePartsOf : List ℕ → Pair → Type 0
ArePartsOf parts pair = Contains parts pair.left × Contains parts pair.right

sides_there : (op : Op) (parts : List ℕ) (pair : Pair) → sides_of op parts ≡ Some pair → ArePartsOf parts pair
sides_there ops.Equal (a ∷ b ∷ []) pair e =
    let sides : Pair = record { left = a; right = b } in subst (ArePartsOf (a ∷ b ∷ [])) (same_Some sides pair e) ((0, omega arith, refl), (1, omega arith, refl))
sides_there ops.Equal [] pair e = absurd cc
sides_there ops.Equal (a ∷ []) pair e = absurd cc
sides_there ops.Equal (a ∷ b ∷ c ∷ others) pair e = absurd cc
sides_there (ops.Number k) parts pair e = absurd cc
sides_there (ops.Free free) parts pair e = absurd cc
sides_there ops.Plus parts pair e = absurd cc
sides_there ops.Times parts pair e = absurd cc
sides_there (ops.Of symbol payload) parts pair e = absurd cc
sides_there ops.AtMost parts pair e = absurd cc
sides_there ops.Not parts pair e = absurd cc
sides_there ops.And parts pair e = absurd cc
sides_there ops.Or parts pair e = absurd cc
sides_there ops.Implies parts pair e = absurd cc
sides_there ops.Iff parts pair e = absurd cc

pub sides_are : (nodes : List Node) (n : ℕ) (pair : Pair) → equality nodes n ≡ Some pair → HasSides nodes n pair
sides_are nodes n pair e = by (slice_get nodes n) refl e
  where
    by : (o : Option Node) → slice_get nodes n ≡ o → option_and_then (λ (node : Node). sides_of node.op node.parts) o ≡ Some pair → HasSides nodes n pair
    by None is f = absurd cc
    by (Some node) is f = let sides = sides_there node.op node.parts pair f in record { node = node; at = is; left = sides.0; right = sides.1 }
