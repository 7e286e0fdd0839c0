-- Literals are held.
use Rattle.std.proofs.Common.{◌≡◌, ℕ, zero, suc, ◌+◌, ◌<◌, ◌≤◌, ◌⊎◌, inl, inr, Bool, true, false, not, List, [], ◌∷◌, ◌++◌, length, take, Contains, Option, None, slice_get, refl, sym, ap, ◌∙◌, subst, arith, append-nil, if◌then◌else◌}
use Rattle.std.specs.List.{cons_option}
use Rattle.std.proofs.lemmas.Bool.{cases_lt}
use Rattle.std.proofs.lemmas.List.{length_push, take_all, take_at}
use Rattle.std.proofs.lemmas.Option.{none-some}
use Rattle.df_lemmas.proofs.Lists.{get_below}
use Rattle.df_form.specs.declared.log.Lit.{Lit}
use Rattle.df_form.specs.declared.log.Pair.{Pair}
use Rattle.df_form.specs.Node.{Node}
use Rattle.df_rules.specs.Congruence.{equality}
use Rattle.df_classes.specs.declared.partition.Partition.{Partition}
use Rattle.df_classes.specs.declared.holding.Level.{Level}
use Rattle.df_classes.specs.declared.holding.Holding.{Holding}
use Rattle.df_classes.specs.PartitionView.{state_of, Extends}
use Rattle.df_classes.specs.HoldingView.{equality_held, Equates, AreLevels, IsHolding, level_of, Pushes, RetreatsTo, Cuts}
use Rattle.df_classes.specs.mirror.State.{State, label_of, alone, counted_from}
use Rattle.df_classes.specs.mirror.Partition.{IsPartition}
use Rattle.df_classes.specs.mirror.Closure.{StandsBut, AreUsers, CanJoin, Joins}
use Rattle.df_classes.specs.mirror.Steps.{IsReady, Closes}
use Rattle.df_classes.proofs.Moving.{first_there, later_there}
use Rattle.df_classes.proofs.Starting.{alone_is, buckets_long}
use Rattle.df_classes.proofs.Standing.{starts, equated, equated_already}
use Rattle.df_classes.proofs.Levels.{levels_stay, levels_pushed, held_on, retreated_holding}

-- ---- the start

pub ready_alone : (nodes : List Node) (s : State) (count : ℕ) → count ≡ length nodes → s ≡ alone count → IsReady nodes s
ready_alone nodes s count is state = subst (IsReady nodes) (sym state) (subst (λ (n : ℕ). IsReady nodes (alone n)) (sym is) (record { partition = alone_is (length nodes); buckets_long = buckets_long (length nodes) }))

counted_there : (first n k : ℕ) → k < n → Contains (counted_from first n) (first + k)
counted_there first zero k less = absurd (omega (arith, less))
counted_there first (suc n) zero less =
    let none : first ≡ first + 0 = omega arith in subst (Contains (counted_from first (suc n))) none (first_there first (counted_from (suc first) n))
counted_there first (suc n) (suc k) less =
    let next : suc first + k ≡ first + suc k = omega arith in
    later_there first (counted_from (suc first) n) (first + suc k) (subst (Contains (counted_from (suc first) n)) next (counted_there (suc first) n k (omega (arith, less))))

all_counted : (count k : ℕ) → k < count → Contains (counted_from 0 count) k
all_counted count k less = let none : 0 + k ≡ k = omega arith in subst (Contains (counted_from 0 count)) none (counted_there 0 count k less)

pub holding_none : (nodes : List Node) (old new : Partition) (waiting : List ℕ) (count : ℕ) → count ≡ length nodes → state_of old ≡ alone count → old.pairs.items ≡ [] → waiting ≡ counted_from 0 count → Closes nodes old new waiting → IsHolding nodes [] [] new
holding_none nodes old new waiting count is state pairs waits closes = record {
  levels_are = record {
    as_many = refl;
    each = λ i level at. absurd (none-some level at);
    rising = λ i j first second less at there. absurd (none-some first at);
  };
  stands = closes.stands [] begun;
}
  where
    all : (p : ℕ) → p < length nodes → Contains waiting p
    all p less = subst (λ (ws : List ℕ). Contains ws p) (sym waits) (all_counted count p (omega (arith, less, is)))

    begun : StandsBut nodes [] old.pairs.items (state_of old) waiting
    begun =
        subst (λ (ps : List Pair). StandsBut nodes [] ps (state_of old) waiting) (sym pairs)
        (subst (λ (s : State). StandsBut nodes [] [] s waiting) (sym (state ∙ ap alone is)) (starts nodes waiting all))

-- ---- equalities

pub equates_already : (nodes : List Node) (p : Partition) (pair : Pair) → IsReady nodes (state_of p) → label_of (state_of p) pair.left ≡ label_of (state_of p) pair.right → Equates nodes p p (pair ∷ [])
equates_already nodes p pair ready e = record { ready = ready; stands = λ equalities stands. equated_already nodes equalities p.pairs.items (state_of p) [] pair stands e }

pub equates_joined : (nodes : List Node) (users : List (List ℕ)) → AreUsers nodes users → (old mid new : Partition) (pair : Pair) (waiting : List ℕ) → IsReady nodes (state_of old)
    → Joins (length (state_of old).labels) users (label_of (state_of old) pair.left) (label_of (state_of old) pair.right) (state_of old) (state_of mid) [] waiting → mid.pairs.items ≡ old.pairs.items → Closes nodes mid new waiting → Equates nodes old new (pair ∷ [])
equates_joined nodes users users_are old mid new pair waiting ready joins pairs closes = record {
  ready = closes.ready;
  stands = λ equalities stands.
      closes.stands (equalities ++ pair ∷ [])
      (subst (λ (ps : List Pair). StandsBut nodes (equalities ++ pair ∷ []) ps (state_of mid) waiting) (sym pairs) (equated nodes users users_are equalities old.pairs.items (state_of old) (state_of mid) [] waiting stands pair joins_nodes));
}
  where
    joins_nodes : Joins (length nodes) users (label_of (state_of old) pair.left) (label_of (state_of old) pair.right) (state_of old) (state_of mid) [] waiting
    joins_nodes = subst (λ (n : ℕ). Joins n users (label_of (state_of old) pair.left) (label_of (state_of old) pair.right) (state_of old) (state_of mid) [] waiting) ready.partition.labels_long joins

pub ready_joined : (nodes : List Node) (users : List (List ℕ)) (first second : ℕ) (old new : State) (waiting later : List ℕ) → IsReady nodes old → Joins (length old.labels) users first second old new waiting later → IsReady nodes new
ready_joined nodes users first second old new waiting later ready (inl h) = record {
  partition = subst (λ (n : ℕ). IsPartition n new) ready.partition.labels_long h.joined.partition;
  buckets_long = ap length h.joined.buckets ∙ ready.buckets_long;
}
ready_joined nodes users first second old new waiting later ready (inr h) = record {
  partition = subst (λ (n : ℕ). IsPartition n new) ready.partition.labels_long h.joined.partition;
  buckets_long = ap length h.joined.buckets ∙ ready.buckets_long;
}

pub can_join : (nodes : List Node) (s : State) (pair : Pair) → IsReady nodes s → pair.left < length nodes → pair.right < length nodes → (label_of s pair.left ≡ label_of s pair.right → ⊥) → CanJoin pair s
can_join nodes s pair ready left right apart = record {
  partition = subst (λ (n : ℕ). IsPartition n s) (sym ready.partition.labels_long) ready.partition;
  left_in = omega (arith, left, ready.partition.labels_long);
  right_in = omega (arith, right, ready.partition.labels_long);
  apart = apart;
}

pub equates_none : (nodes : List Node) (p : Partition) (added : List Pair) → IsReady nodes (state_of p) → added ≡ [] → Equates nodes p p added
equates_none nodes p added ready none = record {
  ready = ready;
  stands = λ equalities stands.
      subst (λ (es : List Pair). StandsBut nodes es p.pairs.items (state_of p) []) (sym (ap (λ (ps : List Pair). equalities ++ ps) none ∙ append-nil equalities)) stands;
}

-- what a literal puts in
pub negative_none : (nodes : List Node) (l : Lit) → l.positive ≡ false → equality_held nodes l ≡ []
negative_none nodes l e = ap (λ (b : Bool). cons_option (if not b then None else equality nodes l.node) []) e

pub positive_puts : (nodes : List Node) (l : Lit) (o : Option Pair) → l.positive ≡ true → o ≡ equality nodes l.node → equality_held nodes l ≡ cons_option o []
positive_puts nodes l o e is = (λ i. cons_option (if not (e i) then None else equality nodes l.node) []) ∙ ap (λ (p : Option Pair). cons_option p []) (sym is)

-- ---- fewer literals

pub cut_back : (nodes : List Node) (old new : Holding) (count : ℕ) → AreLevels nodes old.held.items old.levels.items old.partition → count < length old.held.items → Cuts old new count → IsHolding nodes new.held.items new.levels.items new.partition
cut_back nodes old new count are less cuts =
    let found = get_below old.levels.items count (omega (arith, less, are.as_many)) in
    subst (λ (ls : List Lit). IsHolding nodes ls new.levels.items new.partition) (sym cuts.held)
    (subst (λ (ls : List Level). IsHolding nodes (take count old.held.items) ls new.partition) (sym cuts.levels)
    (retreated_holding nodes old.held.items old.levels.items old.partition new.partition are count found.0 found.1 (subst (RetreatsTo old.partition new.partition) found.1 cuts.retreats)))

pub cut_none : (nodes : List Node) (old new : Holding) (count : ℕ) → IsHolding nodes old.held.items old.levels.items old.partition → length old.held.items ≤ count → Cuts old new count → IsHolding nodes new.held.items new.levels.items new.partition
cut_none nodes old new count is past cuts =
    subst (λ (ls : List Lit). IsHolding nodes ls new.levels.items new.partition) (sym (cuts.held ∙ take_all count old.held.items past))
    (subst (λ (ls : List Level). IsHolding nodes old.held.items ls new.partition) (sym (cuts.levels ∙ take_all count old.levels.items (omega (arith, past, is.levels_are.as_many))))
    (subst (IsHolding nodes old.held.items old.levels.items) (sym (subst (RetreatsTo old.partition new.partition) (past_none old.levels.items count (omega (arith, past, is.levels_are.as_many))) cuts.retreats)) is))
  where
    past_none : (xs : List Level) (n : ℕ) → length xs ≤ n → slice_get xs n ≡ None
    past_none [] n past = refl
    past_none (x ∷ xs) zero past = absurd (omega (arith, past))
    past_none (x ∷ xs) (suc n) past = past_none xs n (omega (arith, past))

pub cut_holds : (nodes : List Node) (old new : Holding) (count : ℕ) → IsHolding nodes old.held.items old.levels.items old.partition → Cuts old new count → IsHolding nodes new.held.items new.levels.items new.partition
cut_holds nodes old new count is cuts = by (cases_lt count (length old.held.items))
  where
    by : (count < length old.held.items) ⊎ (length old.held.items ≤ count) → IsHolding nodes new.held.items new.levels.items new.partition
    by (inl less) = cut_back nodes old new count is.levels_are less cuts
    by (inr past) = cut_none nodes old new count is past cuts

-- the last literal goes
pub cut_last : (old new : Holding) (before : List Lit) (l : Lit) (count : ℕ) → count ≡ length before → old.held.items ≡ before ++ l ∷ [] → Cuts old new count → new.held.items ≡ before
cut_last old new before l count long is cuts = cuts.held ∙ ap (take count) is ∙ take_at before (l ∷ []) count (sym long)

-- ---- one more literal

pub ready_of : (nodes : List Node) (held : List Lit) (levels : List Level) (p : Partition) → IsHolding nodes held levels p → IsReady nodes (state_of p)
ready_of nodes held levels p is = record { partition = is.stands.partition; buckets_long = is.stands.buckets_long }

-- it is held, and its equality is in the classes
pub hold_on : (nodes : List Node) (old mid new : Holding) (l : Lit) → IsHolding nodes old.held.items old.levels.items old.partition → Pushes old mid l → mid.partition ≡ old.partition → Extends mid.partition new.partition → new.held.items ≡ mid.held.items
    → new.levels.items ≡ mid.levels.items → Equates nodes mid.partition new.partition (equality_held nodes l) → IsHolding nodes new.held.items new.levels.items new.partition
hold_on nodes old mid new l is pushes same extends held levels equates =
    subst (λ (ls : List Lit). IsHolding nodes ls new.levels.items new.partition) (sym (held ∙ pushes.held))
    (subst (λ (ls : List Level). IsHolding nodes (old.held.items ++ l ∷ []) ls new.partition) (sym (levels ∙ pushes.levels))
    (held_on nodes old.held.items old.levels.items old.partition new.partition l is (subst (λ (p : Partition). Extends p new.partition) same extends) (subst (λ (p : Partition). Equates nodes p new.partition (equality_held nodes l)) same equates)))

-- it is taken away again
pub hold_back : (nodes : List Node) (old mid now new : Holding) (l : Lit) → IsHolding nodes old.held.items old.levels.items old.partition → Pushes old mid l → mid.partition ≡ old.partition → Extends mid.partition now.partition → now.held.items ≡ mid.held.items
    → now.levels.items ≡ mid.levels.items → (count : ℕ) → count ≡ length old.held.items → Cuts now new count → IsHolding nodes new.held.items new.levels.items new.partition
hold_back nodes old mid now new l is pushes same extends held levels count long cuts = cut_back nodes now new count are (omega (arith, long, ap length (held ∙ pushes.held), length_push old.held.items l)) cuts
  where
    grown : AreLevels nodes (old.held.items ++ l ∷ []) (old.levels.items ++ level_of old.partition ∷ []) now.partition
    grown =
        levels_stay nodes (old.held.items ++ l ∷ []) (old.levels.items ++ level_of old.partition ∷ []) old.partition now.partition (subst (λ (p : Partition). Extends p now.partition) same extends)
        (levels_pushed nodes old.held.items old.levels.items old.partition l is)

    are : AreLevels nodes now.held.items now.levels.items now.partition
    are =
        subst (λ (ls : List Lit). AreLevels nodes ls now.levels.items now.partition) (sym (held ∙ pushes.held))
        (subst (λ (ls : List Level). AreLevels nodes (old.held.items ++ l ∷ []) ls now.partition) (sym (levels ∙ pushes.levels)) grown)

-- nothing has changed
pub same_holding : (nodes : List Node) (old new : Holding) → IsHolding nodes old.held.items old.levels.items old.partition → new.held.items ≡ old.held.items → new.levels.items ≡ old.levels.items → new.partition ≡ old.partition
    → IsHolding nodes new.held.items new.levels.items new.partition
same_holding nodes old new is held levels same =
    subst (λ (ls : List Lit). IsHolding nodes ls new.levels.items new.partition) (sym held)
    (subst (λ (ls : List Level). IsHolding nodes old.held.items ls new.partition) (sym levels) (subst (IsHolding nodes old.held.items old.levels.items) (sym same) is))
