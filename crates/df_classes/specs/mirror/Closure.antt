-- Labels that are closed under operations, but for nodes that wait to be looked at.
use Rattle.std.specs.Prelude.{◌≡◌, ◌<◌, ◌⊎◌, ◌==◌, ◌&&◌, Bool, true, not, ℕ, ℤ, ◌*◌, ◌+◌, ◌%◌, ◌^◌, List, [], ◌∷◌, ◌++◌, length, slice_get, Some, Contains}
use Rattle.std.specs.List.{AllZip, list_any}
use Rattle.std.specs.Int.RustNames.{unsigned_abs}
use Rattle.df_form.specs.declared.log.Pair.{Pair}
use Rattle.df_form.specs.declared.node.Op.{Op}
use Rattle.df_form.specs.declared.node.Op.TheVariants as ops
use Rattle.df_form.specs.Node.{Node}
use Rattle.df_rules.specs.Classes.{InOneClass}
use Rattle.df_rules.specs.Congruence.{AreCongruent}
use Rattle.df_rules.specs.CongruenceLine.{is_congruent}
use Rattle.df_classes.specs.Labels.{HaveOneLabel}
use Rattle.df_classes.specs.mirror.State.{State, label_of, list_at, entered}
use Rattle.df_classes.specs.mirror.Partition.{IsPartition, IsJoined}

-- two nodes of one operation, on parts of the same labels
pub record AreAlike (nodes : List Node) (label : ℕ → ℕ) (p q : ℕ) : Type 0 where
  pub first : Node
  pub second : Node
  pub left : slice_get nodes p ≡ Some first
  pub right : slice_get nodes q ≡ Some second
  pub op : first.op ≡ second.op
  pub parts : AllZip (HaveOneLabel label) first.parts second.parts

abbrev pub low_bits : ℤ → ℕ
low_bits number = unsigned_abs number % 2 ^ 32

-- a number that the operation decides: numbers and free terms, which have no parts, have one each
abbrev pub seed_of : Op → ℕ
seed_of (ops.Number number) = low_bits number
seed_of (ops.Free free) = free.number
seed_of ops.Plus = 1
seed_of ops.Times = 2
seed_of (ops.Of symbol payload) = 3
seed_of ops.Equal = 8
seed_of ops.AtMost = 9
seed_of ops.Not = 10
seed_of ops.And = 11
seed_of ops.Or = 12
seed_of ops.Implies = 13
seed_of ops.Iff = 14

abbrev pub mixed_with : ℕ → ℕ → ℕ
mixed_with so_far label = (so_far * 6364136223846793005 + label) % 2 ^ 64

-- a number that this one and the labels of the parts decide
abbrev pub mixed : (ℕ → ℕ) → ℕ → List ℕ → ℕ
mixed label so_far [] = so_far
mixed label so_far (part ∷ others) = mixed label (mixed_with so_far (label part)) others

-- the bucket of a node's operation and of the labels of its parts
abbrev pub bucket_of : State → Node → ℕ
bucket_of s node = mixed (label_of s) (seed_of node.op) node.parts % length s.buckets

-- the bucket of a node
pub record IsBucketOf (nodes : List Node) (s : State) (p bucket : ℕ) : Type 0 where
  pub found : Node
  pub there : slice_get nodes p ≡ Some found
  pub bucket_is : bucket ≡ bucket_of s found

-- its bucket has a node like it, of its label
pub record HasTwin (nodes : List Node) (s : State) (p : ℕ) (node : Node) : Type 0 where
  pub twin : ℕ
  pub there : Contains (list_at s.buckets (bucket_of s node)) twin
  pub alike : AreAlike nodes (label_of s) p twin
  pub together : label_of s p ≡ label_of s twin

-- All nodes but those that wait have twins, and of them those that are alike have one label.
pub record IsClosedBut (nodes : List Node) (s : State) (waiting : List ℕ) : Type 0 where
  pub has_twin : (p : ℕ) (node : Node) → slice_get nodes p ≡ Some node → (Contains waiting p → ⊥) → HasTwin nodes s p node
  pub operations : (p q : ℕ) → (Contains waiting p → ⊥) → (Contains waiting q → ⊥) → AreAlike nodes (label_of s) p q → label_of s p ≡ label_of s q

-- The labels are those of some equalities and of pairs that are congruent in their order, and closed but for the nodes that wait.
pub record StandsBut (nodes : List Node) (equalities pairs : List Pair) (s : State) (waiting : List ℕ) : Type 0 where
  pub partition : IsPartition (length nodes) s
  pub buckets_long : length s.buckets ≡ length nodes
  pub closed : IsClosedBut nodes s waiting
  pub congruent : AreCongruent nodes equalities pairs
  pub equal : (n : ℕ) → InOneClass (equalities ++ pairs) n (label_of s n)
  pub sides : (pair : Pair) → Contains equalities pair → label_of s pair.left ≡ label_of s pair.right

-- the nodes that have a node among their parts
abbrev pub AreUsers : List Node → List (List ℕ) → Type 0
AreUsers nodes users = (p n : ℕ) (node : Node) → slice_get nodes p ≡ Some node → Contains node.parts n → Contains (list_at users n) p

-- two nodes of different classes
pub record CanJoin (pair : Pair) (s : State) : Type 0 where
  pub partition : IsPartition (length s.labels) s
  pub left_in : pair.left < length s.labels
  pub right_in : pair.right < length s.labels
  pub apart : label_of s pair.left ≡ label_of s pair.right → ⊥

-- two different labels
pub record CanAbsorb (winner loser : ℕ) (s : State) : Type 0 where
  pub partition : IsPartition (length s.labels) s
  pub wins : winner < length s.labels
  pub loses : loser < length s.labels
  pub winner_own : label_of s winner ≡ winner
  pub loser_own : label_of s loser ≡ loser
  pub apart : winner ≡ loser → ⊥

-- The class of one label has gone to that of another, and the nodes that have those of it among their parts wait.
pub record Absorbs (count : ℕ) (users : List (List ℕ)) (winner loser : ℕ) (old new : State) (waiting later : List ℕ) : Type 0 where
  pub joined : IsJoined count winner loser old new
  pub keeps : (p : ℕ) → Contains waiting p → Contains later p
  pub touched : (n p : ℕ) → label_of old n ≡ loser → Contains (list_at users n) p → Contains later p

-- of two labels, one or the other
abbrev pub Joins : ℕ → List (List ℕ) → ℕ → ℕ → State → State → List ℕ → List ℕ → Type 0
Joins count users first second old new waiting later = Absorbs count users first second old new waiting later ⊎ Absorbs count users second first old new waiting later

abbrev pub pair_of : ℕ → ℕ → Pair
pair_of p q = record { left = p; right = q }

-- another node is like this one
abbrev pub alike_to : List Node → (ℕ → ℕ) → ℕ → ℕ → Bool
alike_to nodes label p q = is_congruent nodes label (pair_of p q)

-- and has another label
abbrev pub apart_from : List Node → (ℕ → ℕ) → ℕ → ℕ → Bool
apart_from nodes label p q = not (label p == label q) && is_congruent nodes label (pair_of p q)

-- a node like it is in the bucket already, or it is put there
abbrev pub Enters : List Node → ℕ → ℕ → State → State → Type 0
Enters nodes p bucket old new = ((list_any (alike_to nodes (label_of old) p) (list_at old.buckets bucket) ≡ true) × (new ≡ old)) ⊎ (new ≡ entered bucket p old)
