-- Nodes that come later are parts of none before: they make no others equal, and contradict nothing more.
use Rattle.std.proofs.Common.{◌≡◌, ℕ, ℤ, ◌<◌, Bool, true, false, nat_lt, List, [], ◌∷◌, ◌++◌, map, take, length, Contains, Option, None, Some, slice_get, refl, sym, ap, subst, ◌∙◌, arith, append-nil, append_assoc, ltb-true, if◌then◌else◌}
use Rattle.std.specs.Option.{option_and_then}
use Rattle.std.specs.List.{cons_option}
use Rattle.std.proofs.lemmas.Bool.{and_parts}
use Rattle.std.proofs.lemmas.List.{length_push}
use Rattle.std.proofs.lemmas.List.Elements.{Contains-append_right}
use Rattle.std.proofs.lemmas.Option.{same_Some, slice_get_within}
use Rattle.df_lemmas.proofs.Lists.{get_below, get_grown, get_last}
use Rattle.df_lemmas.proofs.Options.{then_some}
use Rattle.df_form.specs.declared.log.Lit.{Lit}
use Rattle.df_form.specs.declared.log.Pair.{Pair}
use Rattle.df_form.specs.declared.node.Op.{Op}
use Rattle.df_form.specs.declared.node.Op.TheVariants as ops
use Rattle.df_form.specs.declared.node.Sort.TheVariants as sorts
use Rattle.df_form.specs.Node.{Node, same_sort}
use Rattle.df_form.specs.Clause.{Clause, yes, no, negation, are_literals}
use Rattle.df_form.specs.Sorting.{IsTable, is_formula, sort_at}
use Rattle.df_form.proofs.Values.{Grows, parts_below}
use Rattle.df_row.specs.Row.{number_of_op, literal_number}
use Rattle.df_rules.specs.Congruence.{sides_of, equality, negative_equality, negative_equalities}
use Rattle.df_classes.specs.Equal.{AreEqual, turned, IsContradicted, equals, opposites, numbers}
use Rattle.df_cong.specs.Laws.{LaterNodesAddNone}
use Rattle.df_classes.proofs.Clashes.{negations_are}
use Rattle.df_cong.proofs.Growing.{there_filtered, begins_grows}
use Rattle.df_cong.proofs.OneLater.{PartsAre, IsLike, Meets, same, old, left, right, old_of, meets}
use Rattle.df_classes.proofs.Parts.{all_at}

-- the sides of an equality are its parts
sides_are : (op : Op) (parts : List ℕ) (pair : Pair) → sides_of op parts ≡ Some pair → Contains parts pair.left × Contains parts pair.right
sides_are ops.Equal (a ∷ b ∷ []) pair e = let is = same_Some _ pair e in ((0, omega arith, ap (λ (p : Pair). p.left) is), (1, omega arith, ap (λ (p : Pair). p.right) is))
sides_are op parts pair e = absurd cc

-- the literals are of these nodes
abbrev pub AreOf : ℕ → Clause → Type 0
AreOf count clause = (l : Lit) → Contains clause l → l.node < count

-- ---- one more node

module _ (nodes : List Node) (x : Node) (parts : PartsAre (nodes ++ x ∷ []) (length nodes)) where
  abbrev more : List Node
  more = nodes ++ x ∷ []

  stays : (n : ℕ) → n < length nodes → slice_get more n ≡ slice_get nodes n
  stays n less = let found = get_below nodes n less in get_grown nodes (x ∷ []) n found.0 found.1 ∙ sym found.1

  equality_before : (n : ℕ) → n < length nodes → equality more n ≡ equality nodes n
  equality_before n less = ap (option_and_then (λ (node : Node). sides_of node.op node.parts)) (stays n less)

  negative_before : (l : Lit) → l.node < length nodes → negative_equality more l ≡ negative_equality nodes l
  negative_before l less = ap (λ (o : Option Pair). if l.positive then None else o) (equality_before l.node less)

  equalities_before : (clause : Clause) → AreOf (length nodes) clause → negative_equalities more clause ≡ negative_equalities nodes clause
  equalities_before [] of = refl
  equalities_before (l ∷ others) of =
      let first = negative_before l (of l (0, omega arith, refl)) in
      let rest = equalities_before others (λ m there. of m (Contains-append_right (l ∷ []) others m there)) in
      λ i. cons_option (first i) (rest i)

  -- the sides of equalities that were there
  ends : (n : ℕ) (pair : Pair) → equality nodes n ≡ Some pair → (pair.left < length nodes) × (pair.right < length nodes)
  ends n pair e =
      let found = then_some (λ (node : Node). sides_of node.op node.parts) (slice_get nodes n) pair e in
      let at = get_grown nodes (x ∷ []) n found.0 found.1 in
      let sides = sides_are found.0.op found.0.parts pair found.2 in
      (parts n found.0 at pair.left sides.0, parts n found.0 at pair.right sides.1)

  inside : (clause : Clause) (pair : Pair) → Contains (negative_equalities nodes clause) pair → (pair.left < length nodes) × (pair.right < length nodes)
  inside clause pair there = let found = there_filtered (negative_equality nodes) clause pair there in by found.0 found.0.positive found.2
    where
      by : (l : Lit) (b : Bool) → (if b then None else equality nodes l.node) ≡ Some pair → (pair.left < length nodes) × (pair.right < length nodes)
      by l true e = absurd cc
      by l false e = ends l.node pair e

  module _ (clause : Clause) (of : AreOf (length nodes) clause) where
    abbrev pairs : List Pair
    pairs = negative_equalities nodes clause

    meeting : (a b : ℕ) → AreEqual more (negative_equalities more clause) a b → Meets nodes x parts pairs (inside clause) a b
    meeting a b h = meets nodes x parts pairs (inside clause) a b (subst (λ (ps : List Pair). AreEqual more ps a b) (equalities_before clause of) h)

    before : (a b : ℕ) → a < length nodes → b < length nodes → AreEqual more (negative_equalities more clause) a b → AreEqual nodes pairs a b
    before a b l r h = old_of nodes x parts pairs (inside clause) a b l r (meeting a b h)

    number_before : (n : ℕ) (k : ℤ) → n < length nodes → literal_number (slice_get more n) ≡ Some k → literal_number (slice_get nodes n) ≡ Some k
    number_before n k less e = ap literal_number (sym (stays n less)) ∙ e

    -- a number that is new was there
    twin_number : (n b : ℕ) (k : ℤ) → n ≡ length nodes → literal_number (slice_get more n) ≡ Some k → (h : IsLike nodes x parts pairs (inside clause) b) → literal_number (slice_get nodes h.twin) ≡ Some k
    twin_number n b k last e h =
        let new : literal_number (slice_get more n) ≡ number_of_op x.op = ap (λ (i : ℕ). literal_number (slice_get more i)) last ∙ ap literal_number (get_last nodes x) in
        ap literal_number h.there ∙ ap number_of_op h.op ∙ sym new ∙ e

    two_numbers : (m n : ℕ) (j k : ℤ) → literal_number (slice_get more m) ≡ Some j → literal_number (slice_get more n) ≡ Some k → (j ≡ k → ⊥) → Meets nodes x parts pairs (inside clause) m n → IsContradicted nodes clause
    two_numbers m n j k first second differ (same e) = absurd (differ (same_Some j k (sym first ∙ ap (λ (i : ℕ). literal_number (slice_get more i)) e ∙ second)))
    two_numbers m n j k first second differ (old l r h) = numbers (number_before m j l first) (number_before n k r second) differ h
    two_numbers m n j k first second differ (left e h) = numbers (twin_number m n j e first h) (number_before n k h.below second) differ h.equal
    two_numbers m n j k first second differ (right e h) = numbers (number_before m j h.below first) (twin_number n m k e second h) differ (turned h.equal)

    pub contradicted_before : IsContradicted more clause → IsContradicted nodes clause
    contradicted_before (equals {n} {pair} there is h) =
        let here : equality nodes n ≡ Some pair = sym (equality_before n (of (yes n) there)) ∙ is in
        let sides = ends n pair here in
        equals there here (before pair.left pair.right sides.0 sides.1 h)
    contradicted_before (opposites {m} {n} negative positive h) = opposites negative positive (before m n (of (no m) negative) (of (yes n) positive) h)
    contradicted_before (numbers {m} {n} {j} {k} first second differ h) = two_numbers m n j k first second differ (meeting m n h)

-- ---- more nodes

-- the parts of each node stand before it
abbrev pub AreBefore : List Node → Type 0
AreBefore nodes = (n : ℕ) (node : Node) → slice_get nodes n ≡ Some node → (p : ℕ) → Contains node.parts p → p < n

-- those of one more among the nodes before
parts_are : (nodes : List Node) (x : Node) → AreBefore (nodes ++ x ∷ []) → PartsAre (nodes ++ x ∷ []) (length nodes)
parts_are nodes x before n node at p there =
    let low = before n node at p there in
    let within = slice_get_within (nodes ++ x ∷ []) n node at in
    omega (arith, low, within, length_push nodes x)

fewer_before : (nodes added : List Node) → AreBefore (nodes ++ added) → AreBefore nodes
fewer_before nodes added before n node at p there = before n node (get_grown nodes added n node at) p there

contradicted_front : (nodes added : List Node) (clause : Clause) → AreBefore (nodes ++ added) → AreOf (length nodes) clause → IsContradicted (nodes ++ added) clause → IsContradicted nodes clause
contradicted_front nodes [] clause before of h = subst (λ (ns : List Node). IsContradicted ns clause) (append-nil nodes) h
contradicted_front nodes (x ∷ added) clause before of h =
    let more : List Node = nodes ++ x ∷ [] in
    let regrouped : more ++ added ≡ nodes ++ x ∷ added = append_assoc nodes (x ∷ []) added in
    let its = subst AreBefore (sym regrouped) before in
    let on = contradicted_front more added clause its (λ l there. let less = of l there in omega (arith, less, length_push nodes x)) (subst (λ (ns : List Node). IsContradicted ns clause) (sym regrouped) h) in
    contradicted_before nodes x (parts_are nodes x (fewer_before more added its)) clause of on

equal_front : (nodes added : List Node) (pairs : List Pair) → AreBefore (nodes ++ added) → ((pair : Pair) → Contains pairs pair → (pair.left < length nodes) × (pair.right < length nodes)) → (a b : ℕ) → a < length nodes → b < length nodes → AreEqual (nodes ++ added) pairs a b → AreEqual nodes pairs a b
equal_front nodes [] pairs before inside a b l r h = subst (λ (ns : List Node). AreEqual ns pairs a b) (append-nil nodes) h
equal_front nodes (x ∷ added) pairs before inside a b l r h =
    let more : List Node = nodes ++ x ∷ [] in
    let long = length_push nodes x in
    let regrouped : more ++ added ≡ nodes ++ x ∷ added = append_assoc nodes (x ∷ []) added in
    let its = subst AreBefore (sym regrouped) before in
    let on : AreEqual more pairs a b = equal_front more added pairs its (λ pair there. let ends = inside pair there in (omega (arith, ends.0, long), omega (arith, ends.1, long))) a b (omega (arith, l, long)) (omega (arith, r, long)) (subst (λ (ns : List Node). AreEqual ns pairs a b) (sym regrouped) h) in
    let parts = parts_are nodes x (fewer_before more added its) in
    old_of nodes x parts pairs inside a b l r (meets nodes x parts pairs inside a b on)

-- ---- tables

table_before : (nodes : List Node) → IsTable nodes → AreBefore nodes
table_before nodes table n node at p there = ltb-true p n (all_at (λ part. nat_lt part n) node.parts p (parts_below nodes n node (record { sorted = table.sorted }) at) there)

literals_of : (nodes : List Node) (clause : Clause) → are_literals nodes clause ≡ true → AreOf (length nodes) clause
literals_of nodes clause e l there =
    let formula = all_at (λ (m : Lit). is_formula nodes m.node) clause l e there in
    ltb-true l.node (length nodes) (and_parts (nat_lt l.node (length nodes)) (same_sort (sort_at nodes l.node) sorts.Truth) formula).0

-- nodes that come later contradict no literals of those before
pub contradicted_fewer_nodes : (nodes more : List Node) (clause : Clause) → IsTable more → take (length nodes) more ≡ nodes → are_literals nodes clause ≡ true → IsContradicted more clause → IsContradicted nodes clause
contradicted_fewer_nodes nodes more clause table begins literals h =
    let grown : Grows nodes more = begins_grows nodes more begins in
    contradicted_front nodes grown.more clause (subst AreBefore grown.is (table_before more table)) (literals_of nodes clause literals) (subst (λ (ns : List Node). IsContradicted ns clause) grown.is h)

pub later_nodes_add_none : LaterNodesAddNone
later_nodes_add_none nodes more literals table begins are h = contradicted_fewer_nodes nodes more (map negation literals) table begins (negations_are nodes literals are) h

-- and make none of them equal
pub equal_fewer_nodes : (nodes more : List Node) (pairs : List Pair) → IsTable more → take (length nodes) more ≡ nodes → ((pair : Pair) → Contains pairs pair → (pair.left < length nodes) × (pair.right < length nodes)) → (a b : ℕ) → a < length nodes → b < length nodes
    → AreEqual more pairs a b → AreEqual nodes pairs a b
equal_fewer_nodes nodes more pairs table begins inside a b l r h =
    let grown : Grows nodes more = begins_grows nodes more begins in
    equal_front nodes grown.more pairs (subst AreBefore grown.is (table_before more table)) inside a b l r (subst (λ (ns : List Node). AreEqual ns pairs a b) grown.is h)
