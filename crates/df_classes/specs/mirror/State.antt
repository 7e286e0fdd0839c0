-- A label for each node, the nodes of each label, and nodes in buckets; and the steps that change them.
use Rattle.std.specs.Prelude.{ℕ, zero, suc, ◌-◌, List, [], ◌∷◌, ◌++◌, length, get_or, take, set, replicate}
use Rattle.df_classes.specs.declared.partition.Change.{Change}
use Rattle.df_classes.specs.declared.partition.Change.TheVariants as changes

pub record State : Type 0 where
  pub labels : List ℕ
  pub members : List (List ℕ)
  pub buckets : List (List ℕ)

-- what is no node has a label of its own
abbrev pub label_of : State → ℕ → ℕ
label_of s n = get_or s.labels n n

abbrev pub list_at : List (List ℕ) → ℕ → List ℕ
list_at lists n = get_or lists n []

-- one more at the end of a list
abbrev pub pushed : List (List ℕ) → ℕ → ℕ → List (List ℕ)
pushed lists n x = set lists n (list_at lists n ++ x ∷ [])

abbrev pub without_last : List ℕ → List ℕ
without_last xs = take (length xs - 1) xs

-- one fewer
abbrev pub popped : List (List ℕ) → ℕ → List (List ℕ)
popped lists n = set lists n (without_last (list_at lists n))

-- a node with another label
abbrev pub moved : ℕ → ℕ → State → State
moved node label s = record { labels = set s.labels node label; members = pushed s.members label node; buckets = s.buckets }

abbrev pub moved_all : ℕ → List ℕ → State → State
moved_all label [] s = s
moved_all label (n ∷ ns) s = moved_all label ns (moved n label s)

-- a node in a bucket
abbrev pub entered : ℕ → ℕ → State → State
entered bucket node s = record { labels = s.labels; members = s.members; buckets = pushed s.buckets bucket node }

-- a change taken back
abbrev pub undone : Change → State → State
undone (changes.Moved node label) s = record { labels = set s.labels node label; members = popped s.members (label_of s node); buckets = s.buckets }
undone (changes.Entered bucket) s = record { labels = s.labels; members = s.members; buckets = popped s.buckets bucket }

-- changes in their order, taken back from the last to the first
abbrev pub back : List Change → State → State
back [] s = s
back (c ∷ cs) s = undone c (back cs s)

abbrev pub counted_from : ℕ → ℕ → List ℕ
counted_from first zero = []
counted_from first (suc n) = first ∷ counted_from (suc first) n

abbrev pub ones_from : ℕ → ℕ → List (List ℕ)
ones_from first zero = []
ones_from first (suc n) = (first ∷ []) ∷ ones_from (suc first) n

-- each node has its own label
abbrev pub alone : ℕ → State
alone count = record { labels = counted_from 0 count; members = ones_from 0 count; buckets = replicate count [] }
