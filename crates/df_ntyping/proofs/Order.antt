-- Nodes come in the order of where their texts end, and of two that end together the inner one comes first.
use Rattle.std.proofs.Common.{◌≡◌, ℕ, zero, suc, ◌<◌, ◌≤◌, Bool, true, false, List, [], ◌∷◌, ◌++◌, refl, subst, ◌⊎◌, inl, inr, arith}
use Rattle.std.specs.Prelude.{None, filter, cond, nat_lt, nat_le, ◌||◌, Contains}
use Rattle.std.specs.List.{AllByRecursion}
use Rattle.std.proofs.lemmas.Bool.{cases_lt, lt-ltb, le-leb}
use Rattle.df_lemmas.proofs.Numbers.{equal_self}
use Rattle.df_ntree.specs.Expr.{Expr}
use Rattle.df_ntyping.specs.Environment.{Environment}
use Rattle.df_ntyping.specs.Node.{Occurrence, node_name}
use Rattle.df_ntyping.specs.Least.{by_number}
use Rattle.df_ntyping.specs.Laws.{AreInOrder}
use Rattle.df_ntyping.proofs.AllNodes.{Alls, none, front}
use Rattle.df_ntyping.proofs.Alike.{AreToldAlike, IsApart, IsRoot}

-- it begins at a token or later, and ends behind one and not behind another
pub record IsWithin (low above high : ℕ) (one : Occurrence) : Type 0 where
  pub begins : low ≤ one.start
  pub behind : above < one.after
  pub ends : one.after ≤ high

-- it ends before the other, or with it and begins no earlier, and then the other is no name; at one place they are told alike
pub IsBefore : Occurrence → Occurrence → Type 0
IsBefore one other =
    (one.after ≤ other.after) × (other.after ≤ one.after → other.start ≤ one.start) × (other.after ≤ one.after → node_name other.node ≡ None)
    × (one.start ≡ other.start → one.after ≡ other.after → AreToldAlike one other)

pub AreWithin : ℕ → ℕ → ℕ → List Occurrence → Type 0
AreWithin low above high [] = Unit {0}
AreWithin low above high (one ∷ others) = IsWithin low above high one × AreWithin low above high others

pub AllBehind : Occurrence → List Occurrence → Type 0
AllBehind one [] = Unit {0}
AllBehind one (other ∷ others) = IsBefore one other × AllBehind one others

pub AreSorted : List Occurrence → Type 0
AreSorted [] = Unit {0}
AreSorted (one ∷ others) = AllBehind one others × AreSorted others

-- the nodes of a part of the text
pub record Segment (low above high : ℕ) (nodes : List Occurrence) : Type 0 where
  pub within : AreWithin low above high nodes
  pub sorted : AreSorted nodes

-- ---- lists

within_append : (low above high : ℕ) (xs ys : List Occurrence) → AreWithin low above high xs → AreWithin low above high ys → AreWithin low above high (xs ++ ys)
unfolding AreWithin
within_append low above high [] ys h k = k
within_append low above high (x ∷ xs) ys h k = (h.0, within_append low above high xs ys h.1 k)

within_weaker : (low above high lower under higher : ℕ) (xs : List Occurrence) → AreWithin low above high xs → lower ≤ low → under ≤ above → high ≤ higher → AreWithin lower under higher xs
unfolding AreWithin
within_weaker low above high lower under higher [] h p q r = tt
within_weaker low above high lower under higher (x ∷ xs) h p q r =
    let one = h.0 in
    let a : low ≤ x.start = one.begins in
    let b : above < x.after = one.behind in
    let c : x.after ≤ high = one.ends in
    (record { begins = omega arith; behind = omega arith; ends = omega arith }, within_weaker low above high lower under higher xs h.1 p q r)

behind_append : (one : Occurrence) (xs ys : List Occurrence) → AllBehind one xs → AllBehind one ys → AllBehind one (xs ++ ys)
unfolding AllBehind
behind_append one [] ys h k = k
behind_append one (x ∷ xs) ys h k = (h.0, behind_append one xs ys h.1 k)

-- what ends by a token comes before what ends behind it
all_behind : (one : Occurrence) (low above high : ℕ) (ys : List Occurrence) → one.after ≤ above → AreWithin low above high ys → AllBehind one ys
unfolding AllBehind AreWithin IsBefore
all_behind one low above high [] p h = tt
all_behind one low above high (y ∷ ys) p h =
    let node = h.0 in
    let b : above < y.after = node.behind in (
      (omega arith, λ (q : y.after ≤ one.after). absurd (omega arith), λ (q : y.after ≤ one.after). absurd (omega arith), λ (q : one.start ≡ y.start) (r : one.after ≡ y.after). absurd (omega (arith, r))),
      all_behind one low above high ys p h.1,
    )

sorted_append : (low above middle high : ℕ) (xs ys : List Occurrence) → AreWithin low above middle xs → AreWithin low middle high ys → AreSorted xs → AreSorted ys → AreSorted (xs ++ ys)
unfolding AreSorted AreWithin
sorted_append low above middle high [] ys h k p q = q
sorted_append low above middle high (x ∷ xs) ys h k p q =
    let node = h.0 in
    (behind_append x xs ys p.0 (all_behind x low middle high ys node.ends k), sorted_append low above middle high xs ys h.1 k p.1 q)

pub no_nodes : (low above high : ℕ) → Segment low above high []
unfolding AreWithin AreSorted
no_nodes low above high = record { within = tt; sorted = tt }

pub weaker : (low above high lower under higher : ℕ) (xs : List Occurrence) → Segment low above high xs → lower ≤ low → under ≤ above → high ≤ higher → Segment lower under higher xs
weaker low above high lower under higher xs h p q r = record { within = within_weaker low above high lower under higher xs h.within p q r; sorted = h.sorted }

-- one part, and then another
pub joined : (low above middle high : ℕ) (xs ys : List Occurrence) → Segment low above middle xs → Segment low middle high ys → above ≤ middle → middle ≤ high → Segment low above high (xs ++ ys)
joined low above middle high xs ys h k p q = record {
  within = within_append low above high xs ys (within_weaker low above middle low above high xs h.within (omega arith) (omega arith) q) (within_weaker low middle high low above high ys k.within (omega arith) p (omega arith));
  sorted = sorted_append low above middle high xs ys h.within k.within h.sorted k.sorted;
}

-- one node
pub alone : (low above high : ℕ) (one : Occurrence) → IsWithin low above high one → Segment low above high (one ∷ [])
unfolding AreWithin AreSorted AllBehind
alone low above high one h = record { within = (h, tt); sorted = (tt, tt) }

-- the whole behind its parts
behind_all : (low above high : ℕ) (xs : List Occurrence) (one : Occurrence) → AreWithin low above high xs → AreSorted xs → one.start ≡ low → one.after ≡ high → node_name one.node ≡ None → Alls (IsApart one) xs → AreSorted (xs ++ one ∷ [])
unfolding AreWithin AreSorted AllBehind IsBefore
behind_all low above high [] one h k p q n others = (tt, tt)
behind_all low above high (x ∷ xs) one h k p q n others =
    let node = h.0 in
    let a : low ≤ x.start = node.begins in
    let c : x.after ≤ high = node.ends in (
      behind_append x xs (one ∷ []) k.0 ((omega arith, λ (r : one.after ≤ x.after). omega arith, λ (r : one.after ≤ x.after). n, others.each.0.alike), tt),
      behind_all low above high xs one h.1 k.1 p q n (record { each = others.each.1 }),
    )

-- nodes that begin behind where the whole does stand elsewhere
pub later_apart : (low above high : ℕ) (xs : List Occurrence) (one : Occurrence) → Segment low above high xs → one.start < low → Alls (IsApart one) xs
unfolding AreWithin
later_apart low above high xs one h p = apart xs h.within where
  apart : (ys : List Occurrence) → AreWithin low above high ys → Alls (IsApart one) ys
  apart [] w = none
  apart (y ∷ ys) w = let a = w.0.begins in front (record { alike = λ q r. absurd (omega (arith, q, a, p)) }) (apart ys w.1)

-- so do those that end before it does
pub shorter_apart : (low above high : ℕ) (xs : List Occurrence) (one : Occurrence) → Segment low above high xs → high < one.after → Alls (IsApart one) xs
unfolding AreWithin
shorter_apart low above high xs one h p = apart xs h.within where
  apart : (ys : List Occurrence) → AreWithin low above high ys → Alls (IsApart one) ys
  apart [] w = none
  apart (y ∷ ys) w = let a = w.0.ends in front (record { alike = λ q r. absurd (omega (arith, r, a, p)) }) (apart ys w.1)

pub later_roots : (env : Environment) (e : Expr) (start after low above high : ℕ) (xs : List Occurrence) → Segment low above high xs → start < low → Alls (IsRoot env e start after) xs
unfolding AreWithin
later_roots env e start after low above high xs h p = roots xs h.within where
  roots : (ys : List Occurrence) → AreWithin low above high ys → Alls (IsRoot env e start after) ys
  roots [] w = none
  roots (y ∷ ys) w = let a = w.0.begins in front (record { breaks_so = λ q r rule n b. absurd (omega (arith, q, a, p)) }) (roots ys w.1)

pub shorter_roots : (env : Environment) (e : Expr) (start after low above high : ℕ) (xs : List Occurrence) → Segment low above high xs → high < after → Alls (IsRoot env e start after) xs
unfolding AreWithin
shorter_roots env e start after low above high xs h p = roots xs h.within where
  roots : (ys : List Occurrence) → AreWithin low above high ys → Alls (IsRoot env e start after) ys
  roots [] w = none
  roots (y ∷ ys) w = let a = w.0.ends in front (record { breaks_so = λ q r rule n b. absurd (omega (arith, r, a, p)) }) (roots ys w.1)

-- and the whole is no name
pub ended : (low above high : ℕ) (xs : List Occurrence) (one : Occurrence) → Segment low above high xs → above < high → one.start ≡ low → one.after ≡ high → node_name one.node ≡ None → Alls (IsApart one) xs
    → Segment low above high (xs ++ one ∷ [])
unfolding AreWithin
ended low above high xs one h p q r n a = record {
  within = within_append low above high xs (one ∷ []) h.within (record { begins = omega arith; behind = omega arith; ends = omega arith }, tt);
  sorted = behind_all low above high xs one h.within h.sorted q r n a;
}

-- each node lies within
each_within : (low above high : ℕ) (xs : List Occurrence) → AreWithin low above high xs → (one : Occurrence) → Contains xs one → IsWithin low above high one
unfolding AreWithin
each_within low above high [] h one (k, p, q) = absurd (omega arith)
each_within low above high (x ∷ xs) h one (zero, p, q) = subst (λ (y : Occurrence). IsWithin low above high y) q h.0
each_within low above high (x ∷ xs) h one (suc k, p, q) = each_within low above high xs h.1 one (k, omega arith, q)

pub lies_within : (low above high : ℕ) (xs : List Occurrence) → Segment low above high xs → (one : Occurrence) → Contains xs one → IsWithin low above high one
lies_within low above high xs h one c = each_within low above high xs h.within one c

-- ---- some of the nodes

keep_within : (low above high : ℕ) (b : Bool) (x : Occurrence) (xs : List Occurrence) → IsWithin low above high x → AreWithin low above high xs → AreWithin low above high (cond b (x ∷ xs) xs)
unfolding AreWithin
keep_within low above high true x xs h k = (h, k)
keep_within low above high false x xs h k = k

within_some : (low above high : ℕ) (test : Occurrence → Bool) (xs : List Occurrence) → AreWithin low above high xs → AreWithin low above high (filter test xs)
unfolding AreWithin
within_some low above high test [] h = tt
within_some low above high test (x ∷ xs) h = keep_within low above high (test x) x (filter test xs) h.0 (within_some low above high test xs h.1)

keep_behind : (one : Occurrence) (b : Bool) (x : Occurrence) (xs : List Occurrence) → IsBefore one x → AllBehind one xs → AllBehind one (cond b (x ∷ xs) xs)
unfolding AllBehind
keep_behind one true x xs h k = (h, k)
keep_behind one false x xs h k = k

behind_some : (one : Occurrence) (test : Occurrence → Bool) (xs : List Occurrence) → AllBehind one xs → AllBehind one (filter test xs)
unfolding AllBehind
behind_some one test [] h = tt
behind_some one test (x ∷ xs) h = keep_behind one (test x) x (filter test xs) h.0 (behind_some one test xs h.1)

keep_sorted : (b : Bool) (x : Occurrence) (xs : List Occurrence) → AllBehind x xs → AreSorted xs → AreSorted (cond b (x ∷ xs) xs)
unfolding AreSorted
keep_sorted true x xs h k = (h, k)
keep_sorted false x xs h k = k

sorted_some : (test : Occurrence → Bool) (xs : List Occurrence) → AreSorted xs → AreSorted (filter test xs)
unfolding AreSorted
sorted_some test [] h = tt
sorted_some test (x ∷ xs) h = keep_sorted (test x) x (filter test xs) (behind_some x test xs h.0) (sorted_some test xs h.1)

pub some_order : (low above high : ℕ) (test : Occurrence → Bool) (xs : List Occurrence) → Segment low above high xs → Segment low above high (filter test xs)
some_order low above high test xs h = record { within = within_some low above high test xs h.within; sorted = sorted_some test xs h.sorted }

-- ---- in the order of faults

or_true : (b : Bool) → (b || true) ≡ true
or_true true = refl
or_true false = refl

first_true : (a b : ℕ) (rest : Bool) → a ≤ b → (b ≤ a → rest ≡ true) → by_number a b rest ≡ true
first_true a b rest p q = by_cases (cases_lt a b) where
  by_cases : (a < b) ⊎ (b ≤ a) → by_number a b rest ≡ true
  by_cases (inl h) = rw (lt-ltb a b h) refl
  by_cases (inr h) = let same : a ≡ b = omega arith in rw (same, equal_self b, q h) (or_true (nat_lt b b))

ordered : (one : Occurrence) (others : List Occurrence) → AllBehind one others → AllByRecursion (λ (other : Occurrence). by_number one.after other.after (nat_le other.start one.start) ≡ true) others
unfolding AllBehind IsBefore
ordered one [] h = tt
ordered one (other ∷ others) h = (first_true one.after other.after (nat_le other.start one.start) h.0.0 (λ (p : other.after ≤ one.after). le-leb other.start one.start (h.0.1 p)), ordered one others h.1)

pub all_ordered : (all : List Occurrence) → AreSorted all → AreInOrder all
unfolding AreSorted
all_ordered [] h = tt
all_ordered (one ∷ others) h = (ordered one others h.0, all_ordered others h.1)

-- of two nodes at one place the later one is no name
unfoldable pub AreApart : List Occurrence → Type 0
AreApart [] = Unit {0}
AreApart (one ∷ others) = AllByRecursion (λ (other : Occurrence). other.after ≤ one.after → node_name other.node ≡ None) others × AreApart others

none_beside : (one : Occurrence) (others : List Occurrence) → AllBehind one others → AllByRecursion (λ (other : Occurrence). other.after ≤ one.after → node_name other.node ≡ None) others
unfolding AllBehind IsBefore
none_beside one [] h = tt
none_beside one (other ∷ others) h = (h.0.2, none_beside one others h.1)

pub all_apart : (all : List Occurrence) → AreSorted all → AreApart all
unfolding AreSorted AreApart
all_apart [] h = tt
all_apart (one ∷ others) h = (none_beside one others h.0, all_apart others h.1)

-- of two nodes at one place both are told alike
unfoldable pub AreAllAlike : List Occurrence → Type 0
AreAllAlike [] = Unit {0}
AreAllAlike (one ∷ others) = AllByRecursion (λ (other : Occurrence). one.start ≡ other.start → one.after ≡ other.after → AreToldAlike one other) others × AreAllAlike others

alike_behind : (one : Occurrence) (others : List Occurrence) → AllBehind one others → AllByRecursion (λ (other : Occurrence). one.start ≡ other.start → one.after ≡ other.after → AreToldAlike one other) others
unfolding AllBehind IsBefore
alike_behind one [] h = tt
alike_behind one (other ∷ others) h = (h.0.3, alike_behind one others h.1)

pub all_alike : (all : List Occurrence) → AreSorted all → AreAllAlike all
unfolding AreSorted AreAllAlike
all_alike [] h = tt
all_alike (one ∷ others) h = (alike_behind one others h.0, all_alike others h.1)
