-- Labels that stand: from none to those of the least congruence.
use Rattle.std.proofs.Common.{◌≡◌, ℕ, ◌<◌, ◌≤◌, ◌%◌, ◌==◌, ◌⊎◌, inl, inr, Bool, true, false, if◌then◌else◌, List, [], ◌∷◌, ◌++◌, length, Contains, None, Some, slice_get, refl, sym, ap, ◌∙◌, subst, append_assoc}
use Rattle.std.proofs.lemmas.Option.{slice_get_within}
use Rattle.std.proofs.lemmas.Bool.{cases_eq, cases_lt}
use Rattle.std.proofs.lemmas.List.{get_or-set_same, get_or-set_other, get_or_past, length-set}
use Rattle.std.proofs.lemmas.List.Elements.{Contains-append_left, Contains-append_right, Contains-append_cases, Contains-push, Contains-push_cases}
use Rattle.df_lemmas.proofs.Alls.{none_there}
use Rattle.df_form.specs.declared.log.Pair.{Pair}
use Rattle.df_form.specs.Node.{Node}
use Rattle.df_rules.specs.Classes.{InOneClass, named, itself, turned, through}
use Rattle.df_rules.specs.Congruence.{AreCongruent}
use Rattle.df_rules.proofs.OneClass.{wider}
use Rattle.df_classes.specs.Labels.{AreLabels}
use Rattle.df_classes.specs.mirror.State.{State, label_of, list_at, entered, alone}
use Rattle.df_classes.specs.mirror.Partition.{renamed}
use Rattle.df_classes.specs.mirror.Closure.{AreAlike, seed_of, mixed, bucket_of, HasTwin, StandsBut, Absorbs, Joins}
use Rattle.df_classes.proofs.Pairs.{AllAmong, class_equal, pairs_equal, congruents_join, congruents_wider}
use Rattle.df_classes.proofs.Moving.{there_cases}
use Rattle.df_classes.proofs.Joining.{renamed_loser}
use Rattle.df_classes.proofs.Alike.{alike_itself}
use Rattle.df_classes.proofs.StillClosed.{closed_joined, missing, settled, congruent_alike, equal_joined, linked}
use Rattle.df_classes.proofs.Starting.{own_label, alone_is, buckets_long}

-- ---- the labels at the end are those of the least congruence

pub standing_labels : (nodes : List Node) (equalities pairs : List Pair) (s : State) → StandsBut nodes equalities pairs s [] → AreLabels nodes equalities (label_of s)
standing_labels nodes equalities pairs s stands = record {
  equal = λ a b e.
      class_equal nodes equalities (equalities ++ pairs) (pairs_equal nodes equalities pairs stands.congruent) a b (through (subst (InOneClass (equalities ++ pairs) a) e (stands.equal a)) (turned (stands.equal b)));
  sides = stands.sides;
  operations = λ a b first second left right op parts.
      stands.closed.operations a b (none_there a) (none_there b) (record { first = first; second = second; left = left; right = right; op = op; parts = parts });
}

-- labels that are one are in one class of the pairs
pub labels_together : (nodes : List Node) (equalities pairs : List Pair) (s : State) (waiting : List ℕ) → StandsBut nodes equalities pairs s waiting → (a b : ℕ) → label_of s a ≡ label_of s b → InOneClass (equalities ++ pairs) a b
labels_together nodes equalities pairs s waiting stands a b e = through (subst (InOneClass (equalities ++ pairs) a) e (stands.equal a)) (turned (stands.equal b))

-- ---- the start

pub starts : (nodes : List Node) (waiting : List ℕ) → ((p : ℕ) → p < length nodes → Contains waiting p) → StandsBut nodes [] [] (alone (length nodes)) waiting
starts nodes waiting all = record {
  partition = alone_is (length nodes);
  buckets_long = buckets_long (length nodes);
  closed = record {
    has_twin = λ p node is rests. absurd (rests (all p (slice_get_within nodes p node is)));
    operations = λ p q left right h. absurd (left (all p (slice_get_within nodes p h.first h.left)));
  };
  congruent = tt;
  equal = λ n. subst (InOneClass [] n) (sym (own_label (length nodes) n)) itself;
  sides = λ pair there. absurd (none_there pair there);
}

-- ---- a class goes to another

module _ (nodes : List Node) (users : List (List ℕ)) (users_are : (p n : ℕ) (node : Node) → slice_get nodes p ≡ Some node → Contains node.parts n → Contains (list_at users n) p) (equalities pairs : List Pair) (s new : State) (waiting later : List ℕ)
    (stands : StandsBut nodes equalities pairs s waiting) (winner loser : ℕ) (h : Absorbs (length nodes) users winner loser s new waiting later) where
  -- with more equalities and pairs, by which the two labels are in one class
  pub absorbed : (more_equalities more_pairs : List Pair) → AllAmong (equalities ++ pairs) (more_equalities ++ more_pairs) → AreCongruent nodes more_equalities more_pairs → InOneClass (more_equalities ++ more_pairs) loser winner
      → ((pair : Pair) → Contains more_equalities pair → label_of new pair.left ≡ label_of new pair.right) → StandsBut nodes more_equalities more_pairs new later
  absorbed more_equalities more_pairs among congruent link sides = record {
    partition = h.joined.partition;
    buckets_long = ap length h.joined.buckets ∙ stands.buckets_long;
    closed =
        closed_joined nodes s new winner loser waiting later h.joined.labels h.joined.buckets h.keeps (λ p n node is there e. h.touched n p e (users_are p n node is there))
        stands.closed;
    congruent = congruent;
    equal = equal_joined (equalities ++ pairs) (more_equalities ++ more_pairs) s new winner loser among stands.equal h.joined.labels link;
    sides = sides;
  }

  pub one_still : (m n : ℕ) → label_of s m ≡ label_of s n → label_of new m ≡ label_of new n
  one_still m n e = h.joined.labels m ∙ ap (renamed winner loser) e ∙ sym (h.joined.labels n)

  joined_sides : (pair : Pair) → Contains equalities pair → label_of new pair.left ≡ label_of new pair.right
  joined_sides pair there = one_still pair.left pair.right (stands.sides pair there)

renamed_winner : (winner loser : ℕ) → renamed winner loser winner ≡ winner
renamed_winner winner loser = by (winner == loser)
  where
    by : (b : Bool) → (if b then winner else winner) ≡ winner
    by true = refl
    by false = refl

module _ (nodes : List Node) (users : List (List ℕ)) (users_are : (p n : ℕ) (node : Node) → slice_get nodes p ≡ Some node → Contains node.parts n → Contains (list_at users n) p) (equalities pairs : List Pair) (s new : State) (waiting later : List ℕ)
    (stands : StandsBut nodes equalities pairs s waiting) (pair : Pair) (h : Joins (length nodes) users (label_of s pair.left) (label_of s pair.right) s new waiting later) where
  -- ---- by two nodes that are alike
  module _ (alike : AreAlike nodes (label_of s) pair.left pair.right) where
    abbrev more : List Pair
    more = pairs ++ pair ∷ []

    among : AllAmong (equalities ++ pairs) (equalities ++ more)
    among q there = subst (λ (ps : List Pair). Contains ps q) (append_assoc equalities pairs (pair ∷ [])) (Contains-append_left (equalities ++ pairs) (pair ∷ []) q there)

    here : InOneClass (equalities ++ more) pair.left pair.right
    here = named (Contains-append_right equalities more pair (Contains-push pairs pair))

    congruent : AreCongruent nodes equalities more
    congruent = congruents_join nodes equalities pairs (pair ∷ []) stands.congruent (congruent_alike nodes (equalities ++ pairs) s stands.equal pair alike, tt)

    pub merged : StandsBut nodes equalities more new later
    merged = by h
      where
        by : Joins (length nodes) users (label_of s pair.left) (label_of s pair.right) s new waiting later → StandsBut nodes equalities more new later
        by (inl a) =
            absorbed nodes users users_are equalities pairs s new waiting later stands (label_of s pair.left) (label_of s pair.right) a equalities more among congruent
            (linked (equalities ++ pairs) (equalities ++ more) s among stands.equal pair.right pair.left (turned here))
            (joined_sides nodes users users_are equalities pairs s new waiting later stands (label_of s pair.left) (label_of s pair.right) a)
        by (inr a) =
            absorbed nodes users users_are equalities pairs s new waiting later stands (label_of s pair.right) (label_of s pair.left) a equalities more among congruent
            (linked (equalities ++ pairs) (equalities ++ more) s among stands.equal pair.left pair.right here)
            (joined_sides nodes users users_are equalities pairs s new waiting later stands (label_of s pair.right) (label_of s pair.left) a)

  -- ---- by an equality
  abbrev wide : List Pair
  wide = equalities ++ pair ∷ []

  among_wide : AllAmong (equalities ++ pairs) (wide ++ pairs)
  among_wide q there = by (Contains-append_cases equalities pairs q there)
    where
      by : Contains equalities q ⊎ Contains pairs q → Contains (wide ++ pairs) q
      by (inl old) = Contains-append_left wide pairs q (Contains-append_left equalities (pair ∷ []) q old)
      by (inr old) = Contains-append_right wide pairs q old

  named_wide : InOneClass (wide ++ pairs) pair.left pair.right
  named_wide = named (Contains-append_left wide pairs pair (Contains-push equalities pair))

  congruent_wide : AreCongruent nodes wide pairs
  congruent_wide = congruents_wider nodes equalities wide (λ q there. Contains-append_left equalities (pair ∷ []) q there) pairs stands.congruent

  pub equated : StandsBut nodes wide pairs new later
  equated = by h
    where
      sides : (winner loser : ℕ) → Absorbs (length nodes) users winner loser s new waiting later → label_of new pair.left ≡ label_of new pair.right → (q : Pair) → Contains wide q → label_of new q.left ≡ label_of new q.right
      sides winner loser a last q there = one (Contains-push_cases equalities pair q there)
        where
          one : Contains equalities q ⊎ (pair ≡ q) → label_of new q.left ≡ label_of new q.right
          one (inl old) = joined_sides nodes users users_are equalities pairs s new waiting later stands winner loser a q old
          one (inr e) = subst (λ (p : Pair). label_of new p.left ≡ label_of new p.right) e last

      by : Joins (length nodes) users (label_of s pair.left) (label_of s pair.right) s new waiting later → StandsBut nodes wide pairs new later
      by (inl a) =
          absorbed nodes users users_are equalities pairs s new waiting later stands (label_of s pair.left) (label_of s pair.right) a wide pairs among_wide congruent_wide
          (linked (equalities ++ pairs) (wide ++ pairs) s among_wide stands.equal pair.right pair.left (turned named_wide))
          (sides (label_of s pair.left) (label_of s pair.right) a
          (a.joined.labels pair.left ∙ renamed_winner (label_of s pair.left) (label_of s pair.right) ∙ sym (a.joined.labels pair.right ∙ renamed_loser (label_of s pair.left) (label_of s pair.right))))
      by (inr a) =
          absorbed nodes users users_are equalities pairs s new waiting later stands (label_of s pair.right) (label_of s pair.left) a wide pairs among_wide congruent_wide
          (linked (equalities ++ pairs) (wide ++ pairs) s among_wide stands.equal pair.left pair.right named_wide)
          (sides (label_of s pair.right) (label_of s pair.left) a
          (a.joined.labels pair.left ∙ renamed_loser (label_of s pair.right) (label_of s pair.left) ∙ sym (a.joined.labels pair.right ∙ renamed_winner (label_of s pair.right) (label_of s pair.left))))

-- whose sides are together already
pub equated_already : (nodes : List Node) (equalities pairs : List Pair) (s : State) (waiting : List ℕ) (pair : Pair) → StandsBut nodes equalities pairs s waiting → label_of s pair.left ≡ label_of s pair.right
    → StandsBut nodes (equalities ++ pair ∷ []) pairs s waiting
equated_already nodes equalities pairs s waiting pair stands e = record {
  partition = stands.partition;
  buckets_long = stands.buckets_long;
  closed = stands.closed;
  congruent = congruents_wider nodes equalities (equalities ++ pair ∷ []) (λ q there. Contains-append_left equalities (pair ∷ []) q there) pairs stands.congruent;
  equal = λ n. wider (equalities ++ pairs) ((equalities ++ pair ∷ []) ++ pairs) among n (label_of s n) (stands.equal n);
  sides = λ q there. one q (Contains-push_cases equalities pair q there);
}
  where
    among : AllAmong (equalities ++ pairs) ((equalities ++ pair ∷ []) ++ pairs)
    among q there = by (Contains-append_cases equalities pairs q there)
      where
        by : Contains equalities q ⊎ Contains pairs q → Contains ((equalities ++ pair ∷ []) ++ pairs) q
        by (inl old) = Contains-append_left (equalities ++ pair ∷ []) pairs q (Contains-append_left equalities (pair ∷ []) q old)
        by (inr old) = Contains-append_right (equalities ++ pair ∷ []) pairs q old

    one : (q : Pair) → Contains equalities q ⊎ (pair ≡ q) → label_of s q.left ≡ label_of s q.right
    one q (inl old) = stands.sides q old
    one q (inr same) = subst (λ (p : Pair). label_of s p.left ≡ label_of s p.right) same e

-- ---- nodes that wait

-- beside others
pub absorbs_beside : (count : ℕ) (users : List (List ℕ)) (winner loser : ℕ) (old new : State) (node : ℕ) (rest waiting later : List ℕ) → Absorbs count users winner loser old new (waiting ++ node ∷ []) later
    → Absorbs count users winner loser old new (node ∷ (rest ++ waiting)) (rest ++ later)
absorbs_beside count users winner loser old new node rest waiting later h = record {
  joined = h.joined;
  keeps = λ p there. first p (there_cases node (rest ++ waiting) p there);
  touched = λ n p e there. Contains-append_right rest later p (h.touched n p e there);
}
  where
    second : (p : ℕ) → Contains rest p ⊎ Contains waiting p → Contains (rest ++ later) p
    second p (inl here) = Contains-append_left rest later p here
    second p (inr there) = Contains-append_right rest later p (h.keeps p (Contains-append_left waiting (node ∷ []) p there))

    first : (p : ℕ) → (node ≡ p) ⊎ Contains (rest ++ waiting) p → Contains (rest ++ later) p
    first p (inl e) = Contains-append_right rest later p (h.keeps p (subst (Contains (waiting ++ node ∷ [])) e (Contains-push waiting node)))
    first p (inr there) = second p (Contains-append_cases rest waiting p there)

pub joins_beside : (count : ℕ) (users : List (List ℕ)) (first second : ℕ) (old new : State) (node : ℕ) (rest waiting later : List ℕ) → Joins count users first second old new (waiting ++ node ∷ []) later
    → Joins count users first second old new (node ∷ (rest ++ waiting)) (rest ++ later)
joins_beside count users first second old new node rest waiting later (inl h) = inl (absorbs_beside count users first second old new node rest waiting later h)
joins_beside count users first second old new node rest waiting later (inr h) = inr (absorbs_beside count users second first old new node rest waiting later h)

-- a node that is none
pub stands_without : (nodes : List Node) (equalities pairs : List Pair) (s : State) (p : ℕ) (rest : List ℕ) → slice_get nodes p ≡ None → StandsBut nodes equalities pairs s (p ∷ rest) → StandsBut nodes equalities pairs s rest
stands_without nodes equalities pairs s p rest none stands = record {
  partition = stands.partition;
  buckets_long = stands.buckets_long;
  closed = missing nodes s s p rest refl refl (λ b n there. there) stands.closed none;
  congruent = stands.congruent;
  equal = stands.equal;
  sides = stands.sides;
}

-- a node with nothing alike and apart in its bucket, where it has a twin
pub stands_with : (nodes : List Node) (equalities pairs : List Pair) (s : State) (p : ℕ) (rest : List ℕ) (node : Node) → slice_get nodes p ≡ Some node
    → ((other : ℕ) → Contains (list_at s.buckets (bucket_of s node)) other → AreAlike nodes (label_of s) p other → label_of s p ≡ label_of s other) → HasTwin nodes s p node → StandsBut nodes equalities pairs s (p ∷ rest)
    → StandsBut nodes equalities pairs s rest
stands_with nodes equalities pairs s p rest node is none_apart twin stands = record {
  partition = stands.partition;
  buckets_long = stands.buckets_long;
  closed = settled nodes s s p rest refl refl (λ b n there. there) stands.closed node is none_apart twin;
  congruent = stands.congruent;
  equal = stands.equal;
  sides = stands.sides;
}

-- ---- a node is put into its bucket

module _ (nodes : List Node) (equalities pairs : List Pair) (s : State) (p : ℕ) (rest : List ℕ) (node : Node) (is : slice_get nodes p ≡ Some node)
    (none_apart : (other : ℕ) → Contains (list_at s.buckets (bucket_of s node)) other → AreAlike nodes (label_of s) p other → label_of s p ≡ label_of s other) (stands : StandsBut nodes equalities pairs s (p ∷ rest)) where
  abbrev bucket : ℕ
  bucket = bucket_of s node

  abbrev fuller : State
  fuller = entered bucket p s

  grown : (b n : ℕ) → Contains (list_at s.buckets b) n → Contains (list_at fuller.buckets b) n
  grown b n there = by (cases_eq b bucket)
    where
      by : (b ≡ bucket) ⊎ (b ≡ bucket → ⊥) → Contains (list_at fuller.buckets b) n
      by (inl e) = here (cases_lt bucket (length s.buckets))
        where
          here : (bucket < length s.buckets) ⊎ (length s.buckets ≤ bucket) → Contains (list_at fuller.buckets b) n
          here (inl less) =
              subst (λ (k : ℕ). Contains (list_at fuller.buckets k) n) (sym e)
              (subst (λ (xs : List ℕ). Contains xs n) (sym (get_or-set_same s.buckets bucket (list_at s.buckets bucket ++ p ∷ []) [] less)) (Contains-append_left (list_at s.buckets bucket) (p ∷ []) n (subst (λ (k : ℕ). Contains (list_at s.buckets k) n) e there)))
          here (inr past) = absurd (none_there n (subst (λ (xs : List ℕ). Contains xs n) (ap (list_at s.buckets) e ∙ get_or_past s.buckets bucket [] past) there))
      by (inr apart) = subst (λ (xs : List ℕ). Contains xs n) (sym (get_or-set_other s.buckets bucket b (list_at s.buckets bucket ++ p ∷ []) [] apart)) there

  long : length fuller.buckets ≡ length s.buckets
  long = length-set s.buckets bucket (list_at s.buckets bucket ++ p ∷ [])

  itself_there : bucket < length s.buckets → HasTwin nodes fuller p node
  itself_there less = record {
    twin = p;
    there =
        subst (λ (b : ℕ). Contains (list_at fuller.buckets b) p) (ap (λ (k : ℕ). mixed (label_of s) (seed_of node.op) node.parts % k) (sym long))
        (subst (λ (xs : List ℕ). Contains xs p) (sym (get_or-set_same s.buckets bucket (list_at s.buckets bucket ++ p ∷ []) [] less)) (Contains-push (list_at s.buckets bucket) p));
    alike = alike_itself nodes (label_of s) p node is;
    together = refl;
  }

  pub stands_entered : bucket < length s.buckets → StandsBut nodes equalities pairs fuller rest
  stands_entered less = record {
    partition = record {
      labels_long = stands.partition.labels_long;
      members_long = stands.partition.members_long;
      within = stands.partition.within;
      own = stands.partition.own;
      listed = stands.partition.listed;
      only = stands.partition.only;
    };
    buckets_long = long ∙ stands.buckets_long;
    closed = settled nodes s fuller p rest refl long grown stands.closed node is none_apart (itself_there less);
    congruent = stands.congruent;
    equal = stands.equal;
    sides = stands.sides;
  }
