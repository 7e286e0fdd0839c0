-- Classes of equal nodes.
use Rattle.std.specs.Prelude.{ℕ, ◌==◌, Bool, nat_lt, List, [], ◌∷◌, Contains, if◌then◌else◌}
use Rattle.df_form.specs.declared.log.Pair.{Pair}

-- Two are in one class of these pairs: this is the least equivalence that has them.
pub data InOneClass (pairs : List Pair) : ℕ → ℕ → Type 0 where
  named : {pair : Pair} → Contains pairs pair → InOneClass pairs pair.left pair.right
  itself : {a : ℕ} → InOneClass pairs a a
  turned : {a b : ℕ} → InOneClass pairs a b → InOneClass pairs b a
  through : {a b c : ℕ} → InOneClass pairs a b → InOneClass pairs b c → InOneClass pairs a c

-- A class goes by the least of its nodes. Where no two are equal, each is a class of its own.
abbrev pub alone : ℕ → ℕ
alone n = n

abbrev pub lower : ℕ → ℕ → ℕ
lower a b = if nat_lt a b then a else b

abbrev pub higher : ℕ → ℕ → ℕ
higher a b = if nat_lt a b then b else a

-- with the classes of these two as one
abbrev pub joined : (ℕ → ℕ) → Pair → ℕ → ℕ
joined class pair n = if class n == higher (class pair.left) (class pair.right) then lower (class pair.left) (class pair.right) else class n

-- and so for pairs in their order
abbrev pub joined_all : (ℕ → ℕ) → List Pair → ℕ → ℕ
joined_all class [] = class
joined_all class (pair ∷ others) = joined_all (joined class pair) others

abbrev pub is_together : (ℕ → ℕ) → ℕ → ℕ → Bool
is_together class a b = class a == class b
