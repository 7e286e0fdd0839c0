-- Congruence: a clause holds where it would make unequal what is equal.
use Rattle.std.specs.Prelude.{◌≡◌, ℕ, ℤ, true, List, [], ◌∷◌, ◌++◌, slice_get, Option, None, Some, Contains, if◌then◌else◌}
use Rattle.std.specs.Option.{option_and_then}
use Rattle.std.specs.List.{filter_map, AllZip}
use Rattle.df_form.specs.declared.log.Lit.{Lit}
use Rattle.df_form.specs.declared.log.Pair.{Pair}
use Rattle.df_form.specs.declared.node.Op.{Op}
use Rattle.df_form.specs.declared.node.Op.TheVariants as ops
use Rattle.df_form.specs.Node.{Node}
use Rattle.df_form.specs.Clause.{Clause, yes, no, are_literals}
use Rattle.df_row.specs.Row.{literal_number}
use Rattle.df_rules.specs.Classes.{InOneClass}

-- the sides of an equality
abbrev pub sides_of : Op → List ℕ → Option Pair
sides_of ops.Equal (a ∷ b ∷ []) = Some (record { left = a; right = b })
sides_of op parts = None

abbrev pub equality : List Node → ℕ → Option Pair
equality nodes n = option_and_then (λ (node : Node). sides_of node.op node.parts) (slice_get nodes n)

abbrev pub negative_equality : List Node → Lit → Option Pair
negative_equality nodes l = if l.positive then None else equality nodes l.node

-- the sides of the negative equalities of a clause: where it doesn't hold, they are equal
abbrev pub negative_equalities : List Node → Clause → List Pair
negative_equalities nodes clause = filter_map (negative_equality nodes) clause

-- two nodes of one operation, with arguments in one class of these pairs
pub record IsCongruent (nodes : List Node) (pairs : List Pair) (pair : Pair) : Type 0 where
  pub first : Node
  pub second : Node
  pub left : slice_get nodes pair.left ≡ Some first
  pub right : slice_get nodes pair.right ≡ Some second
  pub op : first.op ≡ second.op
  pub parts : AllZip (InOneClass pairs) first.parts second.parts

-- each pair is, by the classes of those before it
abbrev pub AreCongruent : List Node → List Pair → List Pair → Type 0
AreCongruent nodes before [] = Unit {0}
AreCongruent nodes before (pair ∷ others) = IsCongruent nodes before pair × AreCongruent nodes (before ++ pair ∷ []) others

-- The classes of these pairs hold a positive equality of the clause, or a negative and a positive literal
-- of it, or two different numbers.
pub data Closes (nodes : List Node) (clause : Clause) (pairs : List Pair) : Type 0 where
  equals : {n : ℕ} {pair : Pair} → Contains clause (yes n) → equality nodes n ≡ Some pair → InOneClass pairs pair.left pair.right → Closes nodes clause pairs
  opposites : {m n : ℕ} → Contains clause (no m) → Contains clause (yes n) → InOneClass pairs m n → Closes nodes clause pairs
  numbers : {m n : ℕ} {j k : ℤ} → literal_number (slice_get nodes m) ≡ Some j → literal_number (slice_get nodes n) ≡ Some k → (j ≡ k → ⊥) → InOneClass pairs m n → Closes nodes clause pairs

-- the clause holds by congruence, with these pairs in their order
pub record IsCongruence (nodes : List Node) (clause : Clause) (pairs : List Pair) : Type 0 where
  pub literals : are_literals nodes clause ≡ true
  pub congruent : AreCongruent nodes (negative_equalities nodes clause) pairs
  pub closes : Closes nodes clause (negative_equalities nodes clause ++ pairs)
