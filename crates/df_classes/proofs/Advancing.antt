-- Looking at nodes that wait.
use Rattle.std.proofs.Common.{◌≡◌, ℕ, ◌+◌, ◌<◌, ◌≤◌, ◌==◌, ◌⊎◌, inl, inr, Bool, true, false, not, List, [], ◌∷◌, ◌++◌, length, get_or, take, find, cond, Contains, None, Some, slice_get, refl, sym, ap, ◌∙◌, subst, arith, append_assoc, append-nil, eqb-true, true≢false}
use Rattle.std.specs.List.{list_any}
use Rattle.std.proofs.lemmas.Bool.{and_parts, and_from, not-true, or_cases, eqb-false}
use Rattle.std.proofs.lemmas.Nat.{mod_below}
use Rattle.std.proofs.lemmas.Option.{same_Some, slice_get_within, none-some}
use Rattle.std.proofs.lemmas.List.{take_more, take_all, length-set}
use Rattle.df_form.specs.declared.log.Pair.{Pair}
use Rattle.df_form.specs.Node.{Node}
use Rattle.df_rules.specs.CongruenceLine.{is_congruent}
use Rattle.df_classes.specs.declared.partition.Partition.{Partition}
use Rattle.df_classes.specs.PartitionView.{state_of}
use Rattle.df_classes.specs.mirror.State.{State, label_of, list_at, entered}
use Rattle.df_classes.specs.mirror.Partition.{IsPartition, class_count}
use Rattle.df_classes.specs.mirror.Closure.{AreAlike, bucket_of, seed_of, mixed, HasTwin, IsBucketOf, StandsBut, AreUsers, CanJoin, Joins, pair_of, alike_to, apart_from, Enters}
use Rattle.df_classes.specs.mirror.Steps.{IsReady, Advances, Closes}
use Rattle.df_classes.proofs.Moving.{first_there, later_there, there_cases}
use Rattle.df_classes.proofs.Alike.{alike_tested, tested_alike}
use Rattle.df_classes.proofs.Roots.{fewer_classes}
use Rattle.df_classes.proofs.Standing.{merged, joins_beside, stands_without, stands_with, stands_entered}

-- ---- searches of a bucket

found_there : (test : ℕ → Bool) (xs : List ℕ) (x : ℕ) → find test xs ≡ Some x → test x ≡ true
found_there test [] x e = absurd cc
found_there test (y ∷ ys) x e = by (test y) refl e (found_there test ys x)
  where
    by : (b : Bool) → test y ≡ b → cond b (Some y) (find test ys) ≡ Some x → (find test ys ≡ Some x → test x ≡ true) → test x ≡ true
    by true f e rest = ap test (sym (same_Some y x e)) ∙ f
    by false f e rest = rest e

none_found : (test : ℕ → Bool) (xs : List ℕ) → find test xs ≡ None → (x : ℕ) → Contains xs x → test x ≡ false
none_found test [] e x (k, less, same) = absurd (omega (arith, less))
none_found test (y ∷ ys) e x there = by (test y) refl e (there_cases y ys x there) (λ none later. none_found test ys none x later)
  where
    by : (b : Bool) → test y ≡ b → cond b (Some y) (find test ys) ≡ None → (y ≡ x) ⊎ Contains ys x → (find test ys ≡ None → Contains ys x → test x ≡ false) → test x ≡ false
    by true f e there rest = absurd (none-some y (sym e))
    by false f e (inl same) rest = ap test (sym same) ∙ f
    by false f e (inr later) rest = rest e later

any_there : (test : ℕ → Bool) (xs : List ℕ) → list_any test xs ≡ true → (x : ℕ) × Contains xs x × (test x ≡ true)
any_there test [] e = absurd cc
any_there test (x ∷ xs) e = by (or_cases (test x) (list_any test xs) e) (any_there test xs)
  where
    by : (test x ≡ true) ⊎ (list_any test xs ≡ true) → (list_any test xs ≡ true → (y : ℕ) × Contains xs y × (test y ≡ true)) → (y : ℕ) × Contains (x ∷ xs) y × (test y ≡ true)
    by (inl here) rest = (x, first_there x xs, here)
    by (inr others) rest = let found = rest others in (found.0, later_there x xs found.0 found.1, found.2)

module _ (nodes : List Node) (old : State) (node : ℕ) where
  -- another node, alike and apart
  pub record IsApart (other : ℕ) : Type 0 where
    pub alike : AreAlike nodes (label_of old) node other
    pub apart : label_of old node ≡ label_of old other → ⊥
    pub here : node < length nodes
    pub there : other < length nodes

  pub found_apart : (bucket : List ℕ) (other : ℕ) → Some other ≡ find (apart_from nodes (label_of old) node) bucket → IsApart other
  found_apart bucket other e =
      let test = found_there (apart_from nodes (label_of old) node) bucket other (sym e) in
      let parts = and_parts (not (label_of old node == label_of old other)) (is_congruent nodes (label_of old) (pair_of node other)) test in
      let alike = alike_tested nodes (label_of old) (pair_of node other) parts.1 in
      record {
        alike = alike;
        apart = eqb-false (label_of old node) (label_of old other) (not-true (label_of old node == label_of old other) parts.0);
        here = slice_get_within nodes node alike.first alike.left;
        there = slice_get_within nodes other alike.second alike.right;
      }

  pub none_apart : (bucket : List ℕ) → None ≡ find (apart_from nodes (label_of old) node) bucket → (other : ℕ) → Contains bucket other → AreAlike nodes (label_of old) node other → label_of old node ≡ label_of old other
  none_apart bucket e other there alike = by (label_of old node == label_of old other) refl (none_found (apart_from nodes (label_of old) node) bucket (sym e) other there)
    where
      by : (b : Bool) → (label_of old node == label_of old other) ≡ b → apart_from nodes (label_of old) node other ≡ false → label_of old node ≡ label_of old other
      by true f g = eqb-true (label_of old node) (label_of old other) f
      by false f g =
          absurd (true≢false (sym (and_from (not (label_of old node == label_of old other)) (is_congruent nodes (label_of old) (pair_of node other)) (ap not f) (tested_alike nodes (label_of old) (pair_of node other) alike)) ∙ g))

-- ---- the bucket of a node

pub bucket_inside : (nodes : List Node) (s : State) (p : ℕ) (node : Node) → IsReady nodes s → slice_get nodes p ≡ Some node → bucket_of s node < length s.buckets
bucket_inside nodes s p node ready is =
    let inside : p < length nodes = slice_get_within nodes p node is in mod_below (mixed (label_of s) (seed_of node.op) node.parts) (length s.buckets) (omega (arith, inside, ready.buckets_long))

-- ---- one node

module _ (nodes : List Node) (users : List (List ℕ)) (users_are : AreUsers nodes users) (old new : Partition) (node : ℕ) (waiting later : List ℕ) (ready : IsReady nodes (state_of old)) where
  -- that is none
  pub looks_none : slice_get nodes node ≡ None → Advances nodes old old (node ∷ []) waiting waiting
  looks_none none = record {
    ready = ready;
    stands = λ equalities rest stands. stands_without nodes equalities old.pairs.items (state_of old) node (rest ++ waiting) none stands;
    counts = inr (refl, refl);
  }

  -- that is like another, with another label
  module _ (other : ℕ) (is : IsApart nodes (state_of old) node other)
      (joins : Joins (length (state_of old).labels) users (label_of (state_of old) node) (label_of (state_of old) other) (state_of old) (state_of new) (waiting ++ node ∷ []) later) (pairs : new.pairs.items ≡ old.pairs.items ++ pair_of node other ∷ []) where
    joins_nodes : Joins (length nodes) users (label_of (state_of old) node) (label_of (state_of old) other) (state_of old) (state_of new) (waiting ++ node ∷ []) later
    joins_nodes = subst (λ (n : ℕ). Joins n users (label_of (state_of old) node) (label_of (state_of old) other) (state_of old) (state_of new) (waiting ++ node ∷ []) later) ready.partition.labels_long joins

    ready_new : Joins (length nodes) users (label_of (state_of old) node) (label_of (state_of old) other) (state_of old) (state_of new) (waiting ++ node ∷ []) later → IsReady nodes (state_of new)
    ready_new (inl a) = record { partition = a.joined.partition; buckets_long = ap length a.joined.buckets ∙ ready.buckets_long }
    ready_new (inr a) = record { partition = a.joined.partition; buckets_long = ap length a.joined.buckets ∙ ready.buckets_long }

    fewer_new : Joins (length nodes) users (label_of (state_of old) node) (label_of (state_of old) other) (state_of old) (state_of new) (waiting ++ node ∷ []) later → class_count (state_of new) < class_count (state_of old)
    fewer_new (inl a) =
        fewer_classes (length nodes) (label_of (state_of old) node) (label_of (state_of old) other) (state_of old) (state_of new) ready.partition a.joined is.apart (ready.partition.within other is.there) (ready.partition.own node) (ready.partition.own other)
    fewer_new (inr a) =
        fewer_classes (length nodes) (label_of (state_of old) other) (label_of (state_of old) node) (state_of old) (state_of new) ready.partition a.joined (λ e. is.apart (sym e)) (ready.partition.within node is.here) (ready.partition.own other)
        (ready.partition.own node)

    pub looks_apart : Advances nodes old new (node ∷ []) waiting later
    looks_apart = record {
      ready = ready_new joins_nodes;
      stands = λ equalities rest stands.
          subst (λ (ps : List Pair). StandsBut nodes equalities ps (state_of new) (rest ++ later)) (sym pairs)
          (merged nodes users users_are equalities old.pairs.items (state_of old) (state_of new) (node ∷ (rest ++ waiting)) (rest ++ later) stands (pair_of node other)
          (joins_beside (length nodes) users (label_of (state_of old) node) (label_of (state_of old) other) (state_of old) (state_of new) node rest waiting later joins_nodes) is.alike);
      counts = inl (fewer_new joins_nodes);
    }

  -- that is like no node of another label
  module _ (n : Node) (at : slice_get nodes node ≡ Some n) (none : None ≡ find (apart_from nodes (label_of (state_of old)) node) (list_at (state_of old).buckets (bucket_of (state_of old) n))) (pairs : new.pairs.items ≡ old.pairs.items) where
    together : (other : ℕ) → Contains (list_at (state_of old).buckets (bucket_of (state_of old) n)) other → AreAlike nodes (label_of (state_of old)) node other → label_of (state_of old) node ≡ label_of (state_of old) other
    together = none_apart nodes (state_of old) node (list_at (state_of old).buckets (bucket_of (state_of old) n)) none

    twin_there : list_any (alike_to nodes (label_of (state_of old)) node) (list_at (state_of old).buckets (bucket_of (state_of old) n)) ≡ true → HasTwin nodes (state_of old) node n
    twin_there e =
        let found = any_there (alike_to nodes (label_of (state_of old)) node) (list_at (state_of old).buckets (bucket_of (state_of old) n)) e in
        let alike = alike_tested nodes (label_of (state_of old)) (pair_of node found.0) found.2 in
        record { twin = found.0; there = found.1; alike = alike; together = together found.0 found.1 alike }

    pub looks_together : Enters nodes node (bucket_of (state_of old) n) (state_of old) (state_of new) → Advances nodes old new (node ∷ []) waiting waiting
    looks_together (inl known) = record {
      ready = subst (IsReady nodes) (sym known.1) ready;
      stands = λ equalities rest stands.
          subst (λ (ps : List Pair). StandsBut nodes equalities ps (state_of new) (rest ++ waiting)) (sym pairs)
          (subst (λ (s : State). StandsBut nodes equalities old.pairs.items s (rest ++ waiting)) (sym known.1)
          (stands_with nodes equalities old.pairs.items (state_of old) node (rest ++ waiting) n at together (twin_there known.0) stands));
      counts = inr (ap class_count known.1, refl);
    }
    looks_together (inr e) = record {
      ready = subst (IsReady nodes) (sym e) ready_entered;
      stands = λ equalities rest stands.
          subst (λ (ps : List Pair). StandsBut nodes equalities ps (state_of new) (rest ++ waiting)) (sym pairs)
          (subst (λ (s : State). StandsBut nodes equalities old.pairs.items s (rest ++ waiting)) (sym e)
          (stands_entered nodes equalities old.pairs.items (state_of old) node (rest ++ waiting) n at together stands (bucket_inside nodes (state_of old) node n ready at)));
      counts = inr (ap class_count e, refl);
    }
      where
        s : State
        s = state_of old

        ready_entered : IsReady nodes (entered (bucket_of s n) node s)
        ready_entered = record {
          partition = record {
            labels_long = ready.partition.labels_long;
            members_long = ready.partition.members_long;
            within = ready.partition.within;
            own = ready.partition.own;
            listed = ready.partition.listed;
            only = ready.partition.only;
          };
          buckets_long = length-set s.buckets (bucket_of s n) (list_at s.buckets (bucket_of s n) ++ node ∷ []) ∙ ready.buckets_long;
        }

-- by its bucket
pub looks_into : (nodes : List Node) (users : List (List ℕ)) → AreUsers nodes users → (old new : Partition) (node bucket : ℕ) (waiting : List ℕ) → IsReady nodes (state_of old) → IsBucketOf nodes (state_of old) node bucket
    → None ≡ find (apart_from nodes (label_of (state_of old)) node) (list_at (state_of old).buckets bucket) → new.pairs.items ≡ old.pairs.items → Enters nodes node bucket (state_of old) (state_of new) → Advances nodes old new (node ∷ []) waiting waiting
looks_into nodes users users_are old new node bucket waiting ready is none pairs enters =
    looks_together nodes users users_are old new node waiting waiting ready is.found is.there
    (subst (λ (b : ℕ). None ≡ find (apart_from nodes (label_of (state_of old)) node) (list_at (state_of old).buckets b)) is.bucket_is none)
    pairs
    (subst (λ (b : ℕ). Enters nodes node b (state_of old) (state_of new)) is.bucket_is enters)

pub bucket_within : (nodes : List Node) (s : State) (p bucket : ℕ) → IsReady nodes s → IsBucketOf nodes s p bucket → bucket < length s.buckets
bucket_within nodes s p bucket ready is = subst (λ (b : ℕ). b < length s.buckets) (sym is.bucket_is) (bucket_inside nodes s p is.found ready is.there)

pub can_join_apart : (nodes : List Node) (s : State) (node other : ℕ) → IsReady nodes s → IsApart nodes s node other → CanJoin (pair_of node other) s
can_join_apart nodes s node other ready is = record {
  partition = subst (λ (n : ℕ). IsPartition n s) (sym ready.partition.labels_long) ready.partition;
  left_in = omega (arith, is.here, ready.partition.labels_long);
  right_in = omega (arith, is.there, ready.partition.labels_long);
  apart = is.apart;
}

-- ---- all that wait

pub advances_none : (nodes : List Node) (p : Partition) → IsReady nodes (state_of p) → Advances nodes p p [] [] []
advances_none nodes p ready = record { ready = ready; stands = λ equalities rest stands. stands; counts = inr (refl, refl) }

pub advances_more : (nodes : List Node) (old mid new : Partition) (looked : List ℕ) (node : ℕ) (later after : List ℕ) → Advances nodes old mid looked [] later → Advances nodes mid new (node ∷ []) later after → Advances nodes old new (looked ++ node ∷ []) [] after
advances_more nodes old mid new looked node later after h k = record {
  ready = k.ready;
  stands = λ equalities rest stands.
      k.stands equalities rest
      (h.stands equalities (node ∷ rest) (subst (StandsBut nodes equalities old.pairs.items (state_of old)) (append_assoc looked (node ∷ []) (rest ++ [])) stands));
  counts = by h.counts k.counts;
}
  where
    by : (class_count (state_of mid) < class_count (state_of old)) ⊎ ((class_count (state_of mid) ≡ class_count (state_of old)) × (later ≡ [])) → (class_count (state_of new) < class_count (state_of mid)) ⊎ ((class_count (state_of new) ≡ class_count (state_of mid)) × (after ≡ later))
        → (class_count (state_of new) < class_count (state_of old)) ⊎ ((class_count (state_of new) ≡ class_count (state_of old)) × (after ≡ []))
    by (inl fewer) (inl other) = inl (omega (arith, fewer, other))
    by (inl fewer) (inr same) = inl (omega (arith, fewer, same.0))
    by (inr same) (inl fewer) = inl (omega (arith, same.0, fewer))
    by (inr same) (inr other) = inr (other.0 ∙ same.0, other.1 ∙ same.1)

-- a step of the loop over them
pub advances_on : (nodes : List Node) (old mid new : Partition) (waiting : List ℕ) (i x : ℕ) (later after : List ℕ) → i < length waiting → get_or waiting i 0 ≡ x → Advances nodes old mid (take i waiting) [] later → Advances nodes mid new (x ∷ []) later after
    → Advances nodes old new (take (i + 1) waiting) [] after
advances_on nodes old mid new waiting i x later after less is h k =
    subst (λ (xs : List ℕ). Advances nodes old new xs [] after) (sym (take_more waiting i 0 less ∙ ap (λ (y : ℕ). take i waiting ++ y ∷ []) is)) (advances_more nodes old mid new (take i waiting) x later after h k)

pub advances_all : (nodes : List Node) (old new : Partition) (waiting : List ℕ) (i : ℕ) (later : List ℕ) → length waiting ≤ i → Advances nodes old new (take i waiting) [] later → Advances nodes old new waiting [] later
advances_all nodes old new waiting i later past h = subst (λ (xs : List ℕ). Advances nodes old new xs [] later) (take_all i waiting past) h

-- ---- until none waits

-- 1 where some wait, else 0
abbrev pub some_wait : List ℕ → ℕ
some_wait [] = 0
some_wait (x ∷ xs) = 1

pub some_less : (xs : List ℕ) → some_wait xs ≤ 1
some_less [] = omega arith
some_less (x ∷ xs) = omega arith

pub record IsClosing (nodes : List Node) (old now : Partition) (first waiting : List ℕ) : Type 0 where
  pub ready : IsReady nodes (state_of now)
  pub stands : (equalities : List Pair) → StandsBut nodes equalities old.pairs.items (state_of old) first → StandsBut nodes equalities now.pairs.items (state_of now) waiting

pub closing_begins : (nodes : List Node) (p : Partition) (waiting : List ℕ) → IsReady nodes (state_of p) → IsClosing nodes p p waiting waiting
closing_begins nodes p waiting ready = record { ready = ready; stands = λ equalities stands. stands }

pub closing_on : (nodes : List Node) (old now new : Partition) (first waiting later : List ℕ) → IsClosing nodes old now first waiting → Advances nodes now new waiting [] later → IsClosing nodes old new first later
closing_on nodes old now new first waiting later h k = record {
  ready = k.ready;
  stands = λ equalities stands.
      k.stands equalities [] (subst (StandsBut nodes equalities now.pairs.items (state_of now)) (sym (append-nil waiting)) (h.stands equalities stands));
}

pub closing_falls : (nodes : List Node) (now new : Partition) (waiting later : List ℕ) → (length waiting ≡ 0 → ⊥) → Advances nodes now new waiting [] later → class_count (state_of new) + some_wait later < class_count (state_of now) + some_wait waiting
closing_falls nodes now new [] later some h = absurd (some refl)
closing_falls nodes now new (x ∷ xs) later some h = by h.counts
  where
    by : (class_count (state_of new) < class_count (state_of now)) ⊎ ((class_count (state_of new) ≡ class_count (state_of now)) × (later ≡ [])) → class_count (state_of new) + some_wait later < class_count (state_of now) + 1
    by (inl fewer) = omega (arith, fewer, some_less later)
    by (inr same) = omega (arith, same.0, ap some_wait same.1)

pub closing_ends : (nodes : List Node) (old now : Partition) (first waiting : List ℕ) → length waiting ≡ 0 → IsClosing nodes old now first waiting → Closes nodes old now first
closing_ends nodes old now first [] none h = record { ready = h.ready; stands = h.stands }
closing_ends nodes old now first (x ∷ xs) none h = absurd (omega (arith, none))
