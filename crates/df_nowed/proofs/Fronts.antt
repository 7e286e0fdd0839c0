-- The nodes of the first formulas that a declaration knows.
use Rattle.df_nowed.proofs.Words.{◌≡◌, ◌⊎◌, inl, inr, ℕ, zero, suc, ◌<◌, ◌≤◌, ◌+◌, true, nat_lt, List, [], ◌∷◌, ◌++◌, length, take, drop, slice_get, Some, refl, sym, ap, ◌∙◌, arith, subst, ltb-true, and_parts, and_from, length-append, append-nil, take-append-drop, same_Some, slice_get_within, list_all, Node, IsTable, is_formula, sort_at, same_sort, Term, tree_at, trees_at, Grows, map-append, AllByRecursion, IsTerm, Truths, get_below}
use Rattle.std.proofs.lemmas.List.{take-append-le, length-take-le}
use Rattle.std.proofs.lemmas.List.Folds.{list_all-append}
use Rattle.std.specs.Prelude.{get_or, max}
use Rattle.std.proofs.Math.ListN.{get_or-append}
use Rattle.std.proofs.Math.Logic.{∥∥₁_map}
use Rattle.std.proofs.Math.Nat.{eq-or-lt_of_le}
use Rattle.std.proofs.Math.Seq.{take-length, take-suc, get_or-append_seam}
use Rattle.df_form.specs.declared.node.Sort.TheVariants as sorts
use Rattle.df_form.specs.Sequent.{Walk, again, ends}
use Rattle.std.proofs.lemmas.Option.{get_or_from_slice_get}
use Rattle.df_nenc.proofs.Siblings.{drop_next}
use Rattle.df_form.proofs.Walks.{walk-append}
use Rattle.df_nowed.specs.Counts.{IsFront, AreCounts}
use Rattle.df_nowed.specs.Owed.{IsOwed}
use Rattle.df_nowed.specs.declared.obligation.Obligation.{Obligation}
use Rattle.df_nowed.proofs.Parameters.{formulas_stay}
use Rattle.df_nowed.proofs.Visits.{take_more}

-- all nodes are those of all formulas
whole_front : (nodes : List Node) (formulas : List ℕ) → list_all (is_formula nodes) formulas ≡ true → ∥ Walk nodes 0 formulas (length nodes) ∥₁ → IsFront nodes formulas (length nodes)
whole_front nodes formulas are walked = record {
  within = omega arith;
  are_formulas = ap (λ (ns : List Node). list_all (is_formula ns) formulas) (take-length nodes) ∙ are;
  walked = subst (λ (ns : List Node). ∥ Walk ns 0 formulas (length nodes) ∥₁) (sym (take-length nodes)) walked;
}

-- so they are where none waits
pub assumed_front : (nodes : List Node) (formulas stack : List ℕ) → stack ≡ [] → list_all (is_formula nodes) formulas ≡ true → ∥ Walk nodes 0 (formulas ++ stack) (length nodes) ∥₁ → IsFront nodes formulas (length nodes)
assumed_front nodes formulas stack none are walked =
    whole_front nodes formulas are (subst (λ (hs : List ℕ). ∥ Walk nodes 0 hs (length nodes) ∥₁) (ap (λ (waiting : List ℕ). formulas ++ waiting) none ∙ append-nil formulas) walked)

front_is : (nodes : List Node) (formulas others : List ℕ) (count other : ℕ) → others ≡ formulas → other ≡ count → IsFront nodes formulas count → IsFront nodes others other
front_is nodes formulas others count other e f is = subst (λ (hs : List ℕ). IsFront nodes hs other) (sym e) (subst (IsFront nodes formulas) (sym f) is)

-- they stay so where nodes are added
front_stays : (nodes now : List Node) (formulas : List ℕ) (count : ℕ) → Grows nodes now → IsFront nodes formulas count → IsFront now formulas count
front_stays nodes now formulas count grows is =
    let same : take count now ≡ take count nodes = ap (take count) grows.is ∙ take-append-le count nodes grows.more is.within in
    let long = ap (λ (ns : List Node). length ns) grows.is ∙ length-append nodes grows.more in
    record {
      within = omega (arith, is.within, long);
      are_formulas = ap (λ (ns : List Node). list_all (is_formula ns) formulas) same ∙ is.are_formulas;
      walked = subst (λ (ns : List Node). ∥ Walk ns 0 formulas count ∥₁) (sym same) is.walked;
    }

abbrev none_known : List ℕ
none_known = []

take_none : (n : ℕ) → take n none_known ≡ none_known
take_none zero = refl
take_none (suc n) = refl

-- no formulas
pub no_counts : (nodes : List Node) (formulas counts : List ℕ) → IsTable nodes → formulas ≡ [] → counts ≡ 0 ∷ [] → AreCounts nodes formulas counts
no_counts nodes formulas counts table f g = record {
  table = table;
  long = (λ i. length (g i)) ∙ sym (λ i. suc (length (f i)));
  at = λ n within. front_is nodes [] (take n formulas) 0 (get_or counts n 0) (none n) (zero_at n within) at_none;
}
  where
    none : (n : ℕ) → take n formulas ≡ []
    none n = ap (take n) f ∙ take_none n

    zero_at : (n : ℕ) → n ≤ length formulas → get_or counts n 0 ≡ 0
    zero_at zero within = ap (λ (cs : List ℕ). get_or cs 0 0) g
    zero_at (suc n) within = absurd (omega (arith, within, ap (λ (hs : List ℕ). length hs) f))

    at_none : IsFront nodes [] 0
    at_none = record { within = omega arith; are_formulas = refl; walked = ∣ ends ∣₁ }

-- one formula more
pub counts_grow : (nodes now : List Node) (formulas more counts : List ℕ) (one : ℕ) → Grows nodes now → IsTable now → more ≡ formulas ++ one ∷ [] → AreCounts nodes formulas counts → IsFront now more (length now) → AreCounts now more (counts ++ length now ∷ [])
counts_grow nodes now formulas more counts one grows table e are last = record {
  table = table;
  long = omega (arith, length-append counts (length now ∷ []), are.long, size);
  at = λ n within. by n (eq-or-lt_of_le within);
}
  where
    size : length more ≡ length formulas + 1
    size = ap (λ (hs : List ℕ). length hs) e ∙ length-append formulas (one ∷ [])

    by : (n : ℕ) → (n ≡ length more) ⊎ (n < length more) → IsFront now (take n more) (get_or (counts ++ length now ∷ []) n 0)
    by n (inl same) =
        let place : n ≡ length counts = omega (arith, same, size, are.long) in
        front_is now more (take n more) (length now) (get_or (counts ++ length now ∷ []) n 0)
        (ap (λ (k : ℕ). take k more) same ∙ take-length more)
        (ap (λ (k : ℕ). get_or (counts ++ length now ∷ []) k 0) place ∙ get_or-append_seam counts (length now) [] 0) last
    by n (inr less) =
        let within : n ≤ length formulas = omega (arith, less, size) in
        let inside : n < length counts = omega (arith, within, are.long) in
        front_is now (take n formulas) (take n more) (get_or counts n 0) (get_or (counts ++ length now ∷ []) n 0)
        (ap (take n) e ∙ take-append-le n formulas (one ∷ []) within)
        (get_or-append counts (length now ∷ []) 0 n inside)
        (front_stays nodes now (take n formulas) (get_or counts n 0) grows (are.at n within))

-- the next formula of a list
pub one_taken : (table : List Node) (formulas : List ℕ) (i : ℕ) (before after : List Term) → i < length formulas → before ≡ trees_at table (take i formulas) → after ≡ before ++ tree_at table (get_or formulas i 0) ∷ [] → after ≡ trees_at table (take (i + 1) formulas)
one_taken table formulas i before after less e f =
    let next : suc i ≡ i + 1 = omega arith in
    f ∙ ap (λ (ts : List Term). ts ++ tree_at table (get_or formulas i 0) ∷ []) e
    ∙ sym (map-append (tree_at table) (take i formulas) (get_or formulas i 0 ∷ []))
    ∙ ap (trees_at table) (sym (take-suc formulas i 0 less)) ∙ ap (λ (k : ℕ). trees_at table (take k formulas)) next

pub one_dropped : (table : List Node) (formulas : List ℕ) (i : ℕ) → i < length formulas → AllByRecursion (IsTerm Truths table) (drop i formulas) → AllByRecursion (IsTerm Truths table) (drop (i + 1) formulas)
one_dropped table formulas i less all =
    let found = get_below formulas i less in
    (subst (AllByRecursion (IsTerm Truths table)) (drop_next formulas i found.0 (sym (get_or_from_slice_get formulas i found.0 found.0 found.1)) less) all).1

-- ---- the nodes of an obligation

formula_there : (nodes : List Node) (formulas : List ℕ) (n x : ℕ) → list_all (is_formula nodes) formulas ≡ true → slice_get formulas n ≡ Some x → is_formula nodes x ≡ true
formula_there nodes [] n x all at = absurd cc
formula_there nodes (h ∷ others) zero x all at = ap (is_formula nodes) (sym (same_Some h x at)) ∙ (and_parts (is_formula nodes h) (list_all (is_formula nodes) others) all).0
formula_there nodes (h ∷ others) (suc n) x all at = formula_there nodes others n x (and_parts (is_formula nodes h) (list_all (is_formula nodes) others) all).1 at

get_front : (xs : List ℕ) (k n x : ℕ) → n < k → slice_get xs n ≡ Some x → slice_get (take k xs) n ≡ Some x
get_front [] k n x less at = absurd cc
get_front (y ∷ ys) zero n x less at = absurd (omega (arith, less))
get_front (y ∷ ys) (suc k) zero x less at = at
get_front (y ∷ ys) (suc k) (suc n) x less at = get_front ys k n x (omega (arith, less)) at

-- a formula among them once more
front_again : (nodes : List Node) (formulas : List ℕ) (goal count : ℕ) → is_formula (take count nodes) goal ≡ true → IsFront nodes formulas count → IsFront nodes (formulas ++ goal ∷ []) count
front_again nodes formulas goal count is front =
    let now = take count nodes in
    let long : length now ≡ count = length-take-le count nodes front.within in
    let below : goal < length now = ltb-true goal (length now) (and_parts (nat_lt goal (length now)) (same_sort (sort_at now goal) sorts.Truth) is).0 in
    record {
      within = front.within;
      are_formulas = list_all-append (is_formula now) formulas (goal ∷ []) ∙ and_from (list_all (is_formula now) formulas) (list_all (is_formula now) (goal ∷ [])) front.are_formulas (and_from (is_formula now goal) true is refl);
      walked = ∥∥₁_map front.walked (λ (walk : Walk now 0 formulas count). walk-append now 0 formulas (goal ∷ []) count count walk (again (omega (arith, below, long)) ends));
    }

pub owed_front : (nodes : List Node) (known counts : List ℕ) (o : Obligation) (front : ℕ) → AreCounts nodes known counts → IsOwed known o → front ≡ max o.hypothesis_count (o.place + 1) → IsFront nodes (take o.hypothesis_count known ++ o.goal ∷ []) (get_or counts front 0)
owed_front nodes known counts o front are owed e = by (eq-or-lt_of_le owed.1)
  where
    there : o.place < length known
    there = slice_get_within known o.place o.goal owed.2

    by : (o.place ≡ o.hypothesis_count) ⊎ (o.place < o.hypothesis_count) → IsFront nodes (take o.hypothesis_count known ++ o.goal ∷ []) (get_or counts front 0)
    by (inl same) =
        let is : front ≡ suc o.hypothesis_count = omega (arith, e, same) in
        let at : slice_get known o.hypothesis_count ≡ Some o.goal = ap (slice_get known) (sym same) ∙ owed.2 in
        front_is nodes (take (suc o.hypothesis_count) known) (take o.hypothesis_count known ++ o.goal ∷ []) (get_or counts (suc o.hypothesis_count) 0) (get_or counts front 0)
        (sym (take_more known o.hypothesis_count o.goal at)) (ap (λ (k : ℕ). get_or counts k 0) is)
        (are.at (suc o.hypothesis_count) (omega (arith, same, there)))
    by (inr less) =
        let is : front ≡ o.hypothesis_count = omega (arith, e, less) in
        let base = are.at o.hypothesis_count owed.0 in
        let goal = formula_there (take (get_or counts o.hypothesis_count 0) nodes) (take o.hypothesis_count known) o.place o.goal base.are_formulas (get_front known o.hypothesis_count o.place o.goal less owed.2) in
        front_is nodes (take o.hypothesis_count known ++ o.goal ∷ []) (take o.hypothesis_count known ++ o.goal ∷ []) (get_or counts o.hypothesis_count 0) (get_or counts front 0) refl (ap (λ (k : ℕ). get_or counts k 0) is)
        (front_again nodes (take o.hypothesis_count known) o.goal (get_or counts o.hypothesis_count 0) goal base)

-- formulas over their own nodes have the trees that they have over all
pub trees_in_front : (nodes : List Node) (formulas : List ℕ) (count : ℕ) → IsFront nodes formulas count → trees_at (take count nodes) formulas ≡ trees_at nodes formulas
trees_in_front nodes formulas count front =
    sym (formulas_stay (take count nodes) nodes formulas (record { more = drop count nodes; is = sym (take-append-drop count nodes) }) front.are_formulas)
