-- The nodes of one label get another.
use Rattle.std.proofs.Common.{◌≡◌, ℕ, ◌+◌, ◌<◌, ◌≤◌, ◌⊎◌, inl, inr, List, [], ◌∷◌, ◌++◌, length, get_or, drop, Contains, refl, sym, ap, ◌∙◌, subst, arith, append_assoc, append-nil}
use Rattle.std.specs.List.{flat_map}
use Rattle.std.proofs.lemmas.List.{drop_more, drop_all, length-set}
use Rattle.std.proofs.lemmas.List.Elements.{Contains-append_left, Contains-append_right}
use Rattle.df_lemmas.proofs.Alls.{none_there}
use Rattle.df_form.specs.declared.log.Pair.{Pair}
use Rattle.df_classes.specs.declared.partition.Partition.{Partition}
use Rattle.df_classes.specs.PartitionView.{state_of, Extends}
use Rattle.df_classes.specs.mirror.State.{State, label_of, list_at, moved, moved_all}
use Rattle.df_classes.specs.mirror.Partition.{IsJoined}
use Rattle.df_classes.specs.mirror.Closure.{CanAbsorb, CanJoin, Absorbs, Joins}
use Rattle.df_classes.proofs.Moving.{AreNodes, first_there, there_cases, are_more}
use Rattle.df_classes.proofs.Joining.{inside, joins}
use Rattle.df_classes.proofs.Retreating.{extends_none, extends_then}

there_mapped : (f : ℕ → List ℕ) (xs : List ℕ) (n p : ℕ) → Contains xs n → Contains (f n) p → Contains (flat_map f xs) p
there_mapped f [] n p there is = absurd (none_there n there)
there_mapped f (x ∷ xs) n p there is = by (there_cases x xs n there) (λ later. there_mapped f xs n p later is)
  where
    by : (x ≡ n) ⊎ Contains xs n → (Contains xs n → Contains (flat_map f xs) p) → Contains (f x ++ flat_map f xs) p
    by (inl e) rest = Contains-append_left (f x) (flat_map f xs) p (subst (λ (k : ℕ). Contains (f k) p) (sym e) is)
    by (inr later) rest = Contains-append_right (f x) (flat_map f xs) p (rest later)

-- some have it, and the others are still to get it
pub record IsAbsorbing (users : List (List ℕ)) (winner : ℕ) (leaving : List ℕ) (old now : Partition) (first waiting : List ℕ) (i : ℕ) : Type 0 where
  pub state : moved_all winner leaving (state_of old) ≡ moved_all winner (drop i leaving) (state_of now)
  pub waits : first ++ flat_map (list_at users) leaving ≡ waiting ++ flat_map (list_at users) (drop i leaving)
  pub nodes : AreNodes (drop i leaving) (state_of now)
  pub winner_in : winner < length (state_of now).members
  pub pairs : now.pairs.items ≡ old.pairs.items
  pub extends : Extends old now

pub absorbing_begins : (users : List (List ℕ)) (winner loser : ℕ) (leaving : List ℕ) (old : Partition) (waiting : List ℕ) → leaving ≡ list_at (state_of old).members loser → CanAbsorb winner loser (state_of old)
    → IsAbsorbing users winner leaving old old waiting waiting 0
absorbing_begins users winner loser leaving old waiting same can = record {
  state = refl;
  waits = refl;
  nodes = λ n there. nodes_of n (subst (λ (xs : List ℕ). Contains xs n) same there);
  winner_in = omega (arith, can.wins, can.partition.members_long);
  pairs = refl;
  extends = extends_none old old refl refl refl;
}
  where
    nodes_of : AreNodes (list_at (state_of old).members loser) (state_of old)
    nodes_of n there = inside (length (state_of old).labels) (state_of old) can.partition loser can.loses n (can.partition.only loser n can.loser_own there)

pub node_in : (users : List (List ℕ)) (winner : ℕ) (leaving : List ℕ) (old now : Partition) (first waiting : List ℕ) (i : ℕ) → i < length leaving → IsAbsorbing users winner leaving old now first waiting i → get_or leaving i 0 < length (state_of now).labels
node_in users winner leaving old now first waiting i less is =
    is.nodes (get_or leaving i 0) (subst (λ (xs : List ℕ). Contains xs (get_or leaving i 0)) (sym (drop_more leaving i 0 less)) (first_there (get_or leaving i 0) (drop (i + 1) leaving)))

module _ (users : List (List ℕ)) (winner : ℕ) (leaving : List ℕ) (old now next : Partition) (first waiting later : List ℕ) (i x : ℕ) (less : i < length leaving) (at : get_or leaving i 0 ≡ x) (is : IsAbsorbing users winner leaving old now first waiting i) where
  here : drop i leaving ≡ x ∷ drop (i + 1) leaving
  here = drop_more leaving i 0 less ∙ ap (λ (y : ℕ). y ∷ drop (i + 1) leaving) at

  nodes_here : AreNodes (x ∷ drop (i + 1) leaving) (state_of now)
  nodes_here = subst (λ (xs : List ℕ). AreNodes xs (state_of now)) here is.nodes

  pub absorbing_on : state_of next ≡ moved x winner (state_of now) → next.pairs.items ≡ now.pairs.items → Extends now next → later ≡ waiting ++ list_at users x → IsAbsorbing users winner leaving old next first later (i + 1)
  absorbing_on state pairs extends more = record {
    state = is.state ∙ ap (λ (xs : List ℕ). moved_all winner xs (state_of now)) here ∙ ap (moved_all winner (drop (i + 1) leaving)) (sym state);
    waits =
        is.waits
        ∙ ap (λ (xs : List ℕ). waiting ++ flat_map (list_at users) xs) here
        ∙ sym (append_assoc waiting (list_at users x) (flat_map (list_at users) (drop (i + 1) leaving)))
        ∙ ap (λ (ws : List ℕ). ws ++ flat_map (list_at users) (drop (i + 1) leaving)) (sym more);
    nodes = subst (AreNodes (drop (i + 1) leaving)) (sym state) (are_more x (drop (i + 1) leaving) winner (state_of now) nodes_here);
    winner_in = subst (λ (s : State). winner < length s.members) (sym state) (omega (arith, is.winner_in, length-set (state_of now).members winner (list_at (state_of now).members winner ++ x ∷ [])));
    pairs = pairs ∙ is.pairs;
    extends = extends_then old now next is.extends extends;
  }

-- ---- all have it

pub absorbs : (users : List (List ℕ)) (winner loser : ℕ) (leaving : List ℕ) (old now : Partition) (first waiting : List ℕ) (i : ℕ) → leaving ≡ list_at (state_of old).members loser → CanAbsorb winner loser (state_of old) → length leaving ≤ i
    → IsAbsorbing users winner leaving old now first waiting i → Absorbs (length (state_of old).labels) users winner loser (state_of old) (state_of now) first waiting
absorbs users winner loser leaving old now first waiting i same can past h = record {
  joined = subst (IsJoined (length (state_of old).labels) winner loser (state_of old)) (sym end) (joins (length (state_of old).labels) (state_of old) can.partition winner loser can.wins can.loses can.winner_own can.loser_own can.apart);
  keeps = λ p there. subst (λ (ws : List ℕ). Contains ws p) waits (Contains-append_left first (flat_map (list_at users) leaving) p there);
  touched = λ n p e there.
      subst (λ (ws : List ℕ). Contains ws p) waits (Contains-append_right first (flat_map (list_at users) leaving) p (there_mapped (list_at users) leaving n p (subst (λ (xs : List ℕ). Contains xs n) (sym same) (among n e)) there));
}
  where
    among : (n : ℕ) → label_of (state_of old) n ≡ loser → Contains (list_at (state_of old).members loser) n
    among n e = subst (λ (l : ℕ). Contains (list_at (state_of old).members l) n) e (can.partition.listed n (inside (length (state_of old).labels) (state_of old) can.partition loser can.loses n e))

    waits : first ++ flat_map (list_at users) leaving ≡ waiting
    waits = h.waits ∙ ap (λ (xs : List ℕ). waiting ++ flat_map (list_at users) xs) (drop_all i leaving past) ∙ append-nil waiting

    end : state_of now ≡ moved_all winner (list_at (state_of old).members loser) (state_of old)
    end = sym (ap (λ (xs : List ℕ). moved_all winner xs (state_of old)) (sym same) ∙ h.state ∙ ap (λ (xs : List ℕ). moved_all winner xs (state_of now)) (drop_all i leaving past))

-- ---- one of two classes goes to the other

pub can_absorb : (s : State) (pair : Pair) → CanJoin pair s → CanAbsorb (label_of s pair.left) (label_of s pair.right) s
can_absorb s pair can = record {
  partition = can.partition;
  wins = can.partition.within pair.left can.left_in;
  loses = can.partition.within pair.right can.right_in;
  winner_own = can.partition.own pair.left;
  loser_own = can.partition.own pair.right;
  apart = can.apart;
}

pub can_absorb_back : (s : State) (pair : Pair) → CanJoin pair s → CanAbsorb (label_of s pair.right) (label_of s pair.left) s
can_absorb_back s pair can = record {
  partition = can.partition;
  wins = can.partition.within pair.right can.right_in;
  loses = can.partition.within pair.left can.left_in;
  winner_own = can.partition.own pair.right;
  loser_own = can.partition.own pair.left;
  apart = λ e. can.apart (sym e);
}

-- after what changes nothing
pub joins_after : (users : List (List ℕ)) (old mid new : State) (pair : Pair) (waiting before later : List ℕ) → mid ≡ old → before ≡ waiting ++ pair.left ∷ [] → Joins (length mid.labels) users (label_of mid pair.left) (label_of mid pair.right) mid new before later
    → Joins (length old.labels) users (label_of old pair.left) (label_of old pair.right) old new (waiting ++ pair.left ∷ []) later
joins_after users old mid new pair waiting before later same is h =
    subst (λ (ws : List ℕ). Joins (length old.labels) users (label_of old pair.left) (label_of old pair.right) old new ws later) is
    (subst (λ (s : State). Joins (length s.labels) users (label_of s pair.left) (label_of s pair.right) s new before later) same h)

-- labels that the code has read
pub absorbs_at : (s : State) (winner loser w l : ℕ) → w ≡ winner → l ≡ loser → CanAbsorb winner loser s → CanAbsorb w l s
absorbs_at s winner loser w l is its can = subst (λ (k : ℕ). CanAbsorb k l s) (sym is) (subst (λ (k : ℕ). CanAbsorb winner k s) (sym its) can)

pub joins_first : (count : ℕ) (users : List (List ℕ)) (winner loser w l : ℕ) (old new : State) (waiting later : List ℕ) → w ≡ winner → l ≡ loser → Absorbs count users w l old new waiting later → Joins count users winner loser old new waiting later
joins_first count users winner loser w l old new waiting later is its h =
    inl (subst (λ (k : ℕ). Absorbs count users k loser old new waiting later) is (subst (λ (k : ℕ). Absorbs count users w k old new waiting later) its h))

pub joins_second : (count : ℕ) (users : List (List ℕ)) (winner loser w l : ℕ) (old new : State) (waiting later : List ℕ) → w ≡ winner → l ≡ loser → Absorbs count users l w old new waiting later → Joins count users winner loser old new waiting later
joins_second count users winner loser w l old new waiting later is its h =
    inr (subst (λ (k : ℕ). Absorbs count users k winner old new waiting later) its (subst (λ (k : ℕ). Absorbs count users l k old new waiting later) is h))
