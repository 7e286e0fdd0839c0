-- The least congruence: which nodes equalities make equal.
use Rattle.std.specs.Prelude.{◌≡◌, ℕ, ℤ, List, [], ◌∷◌, slice_get, Some, Contains}
use Rattle.df_form.specs.declared.log.Pair.{Pair}
use Rattle.df_form.specs.Node.{Node}
use Rattle.df_form.specs.Clause.{Clause, yes, no}
use Rattle.df_row.specs.Row.{literal_number}
use Rattle.df_rules.specs.Congruence.{equality, negative_equalities}

mutual
  -- It is the least equivalence that has these pairs, and in which nodes of one operation with equal arguments are equal.
  pub data AreEqual (nodes : List Node) (pairs : List Pair) : ℕ → ℕ → Type 0 where
    named : {pair : Pair} → Contains pairs pair → AreEqual nodes pairs pair.left pair.right
    itself : {a : ℕ} → AreEqual nodes pairs a a
    turned : {a b : ℕ} → AreEqual nodes pairs a b → AreEqual nodes pairs b a
    through : {a b c : ℕ} → AreEqual nodes pairs a b → AreEqual nodes pairs b c → AreEqual nodes pairs a c
    applied : {a b : ℕ} {first second : Node} → slice_get nodes a ≡ Some first → slice_get nodes b ≡ Some second → first.op ≡ second.op → AreAllEqual nodes pairs first.parts second.parts → AreEqual nodes pairs a b

  -- place by place
  pub data AreAllEqual (nodes : List Node) (pairs : List Pair) : List ℕ → List ℕ → Type 0 where
    none : AreAllEqual nodes pairs [] []
    both : {a b : ℕ} {xs ys : List ℕ} → AreEqual nodes pairs a b → AreAllEqual nodes pairs xs ys → AreAllEqual nodes pairs (a ∷ xs) (b ∷ ys)

-- where none of a clause's literals is true, the sides of its negative equalities are equal
abbrev pub AreEqualBeside : List Node → Clause → ℕ → ℕ → Type 0
AreEqualBeside nodes clause = AreEqual nodes (negative_equalities nodes clause)

-- Then equal nodes are the sides of a positive equality of the clause, or a negative and a positive literal of it, or two
-- different numbers.
pub data IsContradicted (nodes : List Node) (clause : Clause) : Type 0 where
  equals : {n : ℕ} {pair : Pair} → Contains clause (yes n) → equality nodes n ≡ Some pair → AreEqualBeside nodes clause pair.left pair.right → IsContradicted nodes clause
  opposites : {m n : ℕ} → Contains clause (no m) → Contains clause (yes n) → AreEqualBeside nodes clause m n → IsContradicted nodes clause
  numbers : {m n : ℕ} {j k : ℤ} → literal_number (slice_get nodes m) ≡ Some j → literal_number (slice_get nodes n) ≡ Some k → (j ≡ k → ⊥) → AreEqualBeside nodes clause m n → IsContradicted nodes clause
