-- Pairs are joined in their order.
use Rattle.std.proofs.Common.{◌≡◌, ℕ, ◌+◌, ◌<◌, ◌≤◌, ◌⊎◌, inl, inr, true, List, [], ◌∷◌, ◌++◌, length, get_or, map, take, Contains, refl, sym, ap, ◌∙◌, subst, arith, append_assoc, append-nil}
use Rattle.std.proofs.lemmas.Bool.{and_from}
use Rattle.std.proofs.lemmas.Option.{slice_get_within}
use Rattle.std.proofs.lemmas.List.{take_more, take_all}
use Rattle.std.proofs.lemmas.List.Elements.{Contains-append_left, Contains-append_right, Contains-push, Contains-push_cases}
use Rattle.df_lemmas.proofs.Alls.{none_there}
use Rattle.df_form.specs.declared.log.Lit.{Lit}
use Rattle.df_form.specs.declared.log.Pair.{Pair}
use Rattle.df_form.specs.Node.{Node}
use Rattle.df_form.specs.Sorting.{is_formula}
use Rattle.df_form.specs.Clause.{negation, are_literals}
use Rattle.df_rules.specs.Classes.{InOneClass, named, itself, turned, through}
use Rattle.df_rules.specs.Congruence.{IsCongruence}
use Rattle.df_rules.specs.CongruenceLine.{is_congruent}
use Rattle.df_rules.proofs.OneClass.{wider}
use Rattle.df_classes.specs.HoldingView.{held_equalities, equality_held}
use Rattle.df_classes.specs.mirror.State.{State, label_of, alone}
use Rattle.df_classes.specs.mirror.Partition.{IsPartition}
use Rattle.df_classes.specs.mirror.Closure.{CanJoin, Joins}
use Rattle.df_classes.specs.mirror.Clash.{clash}
use Rattle.df_cong.specs.mirror.Replay.{AreFrom, AreTogether, CanUnite, Unites, UnitesAlike}
use Rattle.df_classes.proofs.Pairs.{AllAmong, congruents_join}
use Rattle.df_classes.proofs.Alike.{alike_tested}
use Rattle.df_classes.proofs.StillClosed.{congruent_alike, equal_joined, linked}
use Rattle.df_classes.proofs.Starting.{own_label}
use Rattle.df_classes.proofs.Levels.{equalities_pushed}
use Rattle.df_classes.proofs.Parts.{all_at}
use Rattle.df_classes.proofs.Clashes.{negations_are, clash_closes}

-- ---- literals that are among others

pub from_none : (many : List Lit) → AreFrom many []
from_none many = λ l there. absurd (none_there l there)

pub from_pushed : (many few more : List Lit) (x : Lit) → Contains many x → AreFrom many few → more ≡ few ++ x ∷ [] → AreFrom many more
from_pushed many few more x there among is = λ l at. by l (Contains-push_cases few x l (subst (λ (ls : List Lit). Contains ls l) is at))
  where
    by : (l : Lit) → Contains few l ⊎ (x ≡ l) → Contains many l
    by l (inl old) = among l old
    by l (inr e) = subst (Contains many) e there

pub literals_from : (nodes : List Node) (many few : List Lit) → are_literals nodes many ≡ true → AreFrom many few → are_literals nodes few ≡ true
literals_from nodes many [] e among = refl
literals_from nodes many (l ∷ others) e among =
    and_from (is_formula nodes l.node) (are_literals nodes others) (all_at (λ (m : Lit). is_formula nodes m.node) many l e (among l (0, omega arith, refl)))
    (literals_from nodes many others e (λ m there. among m (Contains-append_right (l ∷ []) others m there)))

-- ---- one pair

among_pushed : (pairs : List Pair) (pair : Pair) → AllAmong pairs (pairs ++ pair ∷ [])
among_pushed pairs pair q there = Contains-append_left pairs (pair ∷ []) q there

pushed_together : (pairs : List Pair) (pair : Pair) → InOneClass (pairs ++ pair ∷ []) pair.left pair.right
pushed_together pairs pair = named (Contains-push pairs pair)

pub unites_already : (s : State) (pair : Pair) → CanUnite pair s → Unites (length s.labels) s s (pair ∷ [])
unites_already s pair can = record {
  partition = can.partition;
  together = λ pairs h n. wider pairs (pairs ++ pair ∷ []) (among_pushed pairs pair) n (label_of s n) (h n);
}

pub can_join_united : (s : State) (pair : Pair) → CanUnite pair s → (label_of s pair.left ≡ label_of s pair.right → ⊥) → CanJoin pair s
can_join_united s pair can apart = record { partition = can.partition; left_in = can.left_in; right_in = can.right_in; apart = apart }

pub unites_joined : (users : List (List ℕ)) (old new : State) (pair : Pair) (waiting later : List ℕ) → Joins (length old.labels) users (label_of old pair.left) (label_of old pair.right) old new waiting later → Unites (length old.labels) old new (pair ∷ [])
unites_joined users old new pair waiting later (inl h) = record {
  partition = h.joined.partition;
  together = λ pairs is.
      equal_joined pairs (pairs ++ pair ∷ []) old new (label_of old pair.left) (label_of old pair.right) (among_pushed pairs pair) is h.joined.labels
      (linked pairs (pairs ++ pair ∷ []) old (among_pushed pairs pair) is pair.right pair.left (turned (pushed_together pairs pair)));
}
unites_joined users old new pair waiting later (inr h) = record {
  partition = h.joined.partition;
  together = λ pairs is.
      equal_joined pairs (pairs ++ pair ∷ []) old new (label_of old pair.right) (label_of old pair.left) (among_pushed pairs pair) is h.joined.labels
      (linked pairs (pairs ++ pair ∷ []) old (among_pushed pairs pair) is pair.left pair.right (pushed_together pairs pair));
}

-- ---- in a table

pub can_unite : (nodes : List Node) (s : State) (pair : Pair) → IsPartition (length nodes) s → pair.left < length nodes → pair.right < length nodes → CanUnite pair s
can_unite nodes s pair is left right = record {
  partition = subst (λ (n : ℕ). IsPartition n s) (sym is.labels_long) is;
  left_in = omega (arith, left, is.labels_long);
  right_in = omega (arith, right, is.labels_long);
}

pub can_unite_alike : (nodes : List Node) (s : State) (pair : Pair) → IsPartition (length nodes) s → is_congruent nodes (label_of s) pair ≡ true → CanUnite pair s
can_unite_alike nodes s pair is e =
    let alike = alike_tested nodes (label_of s) pair e in
    can_unite nodes s pair is (slice_get_within nodes pair.left alike.first alike.left) (slice_get_within nodes pair.right alike.second alike.right)

pub unites_nodes : (nodes : List Node) (s new : State) (added : List Pair) → IsPartition (length nodes) s → Unites (length s.labels) s new added → Unites (length nodes) s new added
unites_nodes nodes s new added is h = subst (λ (n : ℕ). Unites n s new added) is.labels_long h

-- ---- more

pub unites_none : (count : ℕ) (s : State) → IsPartition count s → Unites count s s []
unites_none count s is = record {
  partition = is;
  together = λ pairs h n. subst (λ (ps : List Pair). InOneClass ps n (label_of s n)) (sym (append-nil pairs)) (h n);
}

pub unites_then : (count : ℕ) (old mid new : State) (added others : List Pair) → Unites count old mid added → Unites count mid new others → Unites count old new (added ++ others)
unites_then count old mid new added others h k = record {
  partition = k.partition;
  together = λ pairs is. subst (λ (ps : List Pair). AreTogether ps new) (append_assoc pairs added others) (k.together (pairs ++ added) (h.together pairs is));
}

-- ---- the sides of equalities

module _ (nodes : List Node) (literals : List Lit) (i : ℕ) (d x : Lit) (old mid new : State) (less : i < length literals) (at : get_or literals i d ≡ x) where
  more_sides : held_equalities nodes (take (i + 1) literals) ≡ held_equalities nodes (take i literals) ++ equality_held nodes x
  more_sides = ap (held_equalities nodes) (take_more literals i d less ∙ ap (λ (y : Lit). take i literals ++ y ∷ []) at) ∙ equalities_pushed nodes (take i literals) x

  pub sides_on : Unites (length nodes) old mid (held_equalities nodes (take i literals)) → Unites (length nodes) mid new (equality_held nodes x) → Unites (length nodes) old new (held_equalities nodes (take (i + 1) literals))
  sides_on h k = subst (Unites (length nodes) old new) (sym more_sides) (unites_then (length nodes) old mid new (held_equalities nodes (take i literals)) (equality_held nodes x) h k)

pub sides_all : (nodes : List Node) (literals : List Lit) (i : ℕ) (old new : State) → length literals ≤ i → Unites (length nodes) old new (held_equalities nodes (take i literals)) → Unites (length nodes) old new (held_equalities nodes literals)
sides_all nodes literals i old new past h = subst (λ (ls : List Lit). Unites (length nodes) old new (held_equalities nodes ls)) (take_all i literals past) h

-- ---- pairs that are alike

pub alike_one : (nodes : List Node) (s new : State) (pair : Pair) → IsPartition (length nodes) s → is_congruent nodes (label_of s) pair ≡ true → Unites (length s.labels) s new (pair ∷ []) → UnitesAlike nodes s new (pair ∷ [])
alike_one nodes s new pair is e h = record {
  unites = unites_nodes nodes s new (pair ∷ []) is h;
  congruent = λ pairs together. (congruent_alike nodes pairs s together pair (alike_tested nodes (label_of s) pair e), tt);
}

pub alike_none : (nodes : List Node) (s : State) → IsPartition (length nodes) s → UnitesAlike nodes s s []
alike_none nodes s is = record { unites = unites_none (length nodes) s is; congruent = λ pairs together. tt }

alike_then : (nodes : List Node) (old mid new : State) (added others : List Pair) → UnitesAlike nodes old mid added → UnitesAlike nodes mid new others → UnitesAlike nodes old new (added ++ others)
alike_then nodes old mid new added others h k = record {
  unites = unites_then (length nodes) old mid new added others h.unites k.unites;
  congruent = λ pairs is. congruents_join nodes pairs added others (h.congruent pairs is) (k.congruent (pairs ++ added) (h.unites.together pairs is));
}

pub alike_on : (nodes : List Node) (pairs : List Pair) (i : ℕ) (d x : Pair) (old mid new : State) → i < length pairs → get_or pairs i d ≡ x → UnitesAlike nodes old mid (take i pairs) → UnitesAlike nodes mid new (x ∷ []) → UnitesAlike nodes old new (take (i + 1) pairs)
alike_on nodes pairs i d x old mid new less at h k =
    subst (UnitesAlike nodes old new) (sym (take_more pairs i d less ∙ ap (λ (y : Pair). take i pairs ++ y ∷ []) at)) (alike_then nodes old mid new (take i pairs) (x ∷ []) h k)

pub alike_all : (nodes : List Node) (pairs : List Pair) (i : ℕ) (old new : State) → length pairs ≤ i → UnitesAlike nodes old new (take i pairs) → UnitesAlike nodes old new pairs
alike_all nodes pairs i old new past h = subst (UnitesAlike nodes old new) (take_all i pairs past) h

-- ---- from each node alone to a line

module _ (nodes : List Node) (literals : List Lit) (pairs : List Pair) (ns : List ℕ) (count : ℕ) (start mid new : State) (state : start ≡ alone count) (h : Unites (length nodes) start mid (held_equalities nodes literals)) (k : UnitesAlike nodes mid new pairs) where
  at_start : AreTogether [] start
  at_start = λ n. subst (InOneClass [] n) (sym (ap (λ (s : State). label_of s n) state ∙ own_label count n)) itself

  at_mid : AreTogether (held_equalities nodes literals) mid
  at_mid = h.together [] at_start

  at_end : AreTogether (held_equalities nodes literals ++ pairs) new
  at_end = k.unites.together (held_equalities nodes literals) at_mid

  all_together : (a b : ℕ) → label_of new a ≡ label_of new b → InOneClass (held_equalities nodes literals ++ pairs) a b
  all_together a b e = through (subst (InOneClass (held_equalities nodes literals ++ pairs) a) e (at_end a)) (turned (at_end b))

  pub line_replayed : are_literals nodes literals ≡ true → clash nodes (label_of new) ns literals ≡ true → IsCongruence nodes (map negation literals) pairs
  line_replayed are e = record {
    literals = negations_are nodes literals are;
    congruent = k.congruent (held_equalities nodes literals) at_mid;
    closes = clash_closes nodes literals (held_equalities nodes literals ++ pairs) (label_of new) ns all_together e;
  }
