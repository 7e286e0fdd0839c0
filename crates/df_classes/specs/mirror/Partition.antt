-- Labels of classes, with the nodes of each.
use Rattle.std.specs.Prelude.{◌≡◌, ℕ, suc, ◌+◌, ◌<◌, ◌==◌, List, [], ◌∷◌, length, Contains, if◌then◌else◌}
use Rattle.df_classes.specs.mirror.State.{State, label_of, list_at}

-- A label is that of a node of its class, and each class has its nodes.
pub record IsPartition (count : ℕ) (s : State) : Type 0 where
  pub labels_long : length s.labels ≡ count
  pub members_long : length s.members ≡ count
  pub within : (n : ℕ) → n < count → label_of s n < count
  pub own : (n : ℕ) → label_of s (label_of s n) ≡ label_of s n
  pub listed : (n : ℕ) → n < count → Contains (list_at s.members (label_of s n)) n
  pub only : (l n : ℕ) → label_of s l ≡ l → Contains (list_at s.members l) n → label_of s n ≡ l

abbrev pub renamed : ℕ → ℕ → ℕ → ℕ
renamed winner loser label = if label == loser then winner else label

-- The class of one label has gone to that of another.
pub record IsJoined (count winner loser : ℕ) (old new : State) : Type 0 where
  pub partition : IsPartition count new
  pub buckets : new.buckets ≡ old.buckets
  pub labels : (n : ℕ) → label_of new n ≡ renamed winner loser (label_of old n)

-- how many are their own labels, where the first has this number
abbrev pub roots : ℕ → List ℕ → ℕ
roots first [] = 0
roots first (l ∷ ls) = (if l == first then 1 else 0) + roots (suc first) ls

-- how many classes there are
abbrev pub class_count : State → ℕ
class_count s = roots 0 s.labels
