-- One way through the clauses.
use Rattle.std.proofs.Common.{◌≡◌, ℕ, zero, suc, map, get_or, ◌+◌, ◌<◌, ◌≤◌, ◌⊎◌, inl, inr, Bool, true, false, ◌||◌, cond, List, [], ◌∷◌, ◌++◌, length, Option, Some, None, slice_get, refl, sym, ap, ◌∙◌, subst, arith, true≢false}
use Rattle.std.proofs.lemmas.Option.{same_Some, slice_get_within}
use Rattle.df_form.specs.declared.log.Lit.{Lit}
use Rattle.df_form.specs.Clause.{same_literal, is_among}
use Rattle.df_rules.specs.Propagation.{left, only, is_empty}
use Rattle.df_rules.specs.Known.{knows, IsSetOf}
use Rattle.df_closure.specs.declared.closing.Teaching.{Teaching}
use Rattle.df_closure.specs.declared.closing.Teaching.TheVariants as teachings
use Rattle.df_closure.specs.declared.closing.Closing.{Closing}
use Rattle.df_closure.specs.Closure.{GroundClause, counts_for, Refutes, Taught, nothing, after, IsClosed}
use Rattle.df_closure.specs.Closing.{teaching_left, teaching, unknown, IsClosing, IsSettled}
use Rattle.df_closure.proofs.Lists.{after_more, taught_more, taught_is_of, fewer}

-- the clause of an index
pub found : {A B : Type 0} (f : A → B) (xs : List A) (n : ℕ) (x : A) → n < length xs → x ≡ get_or xs n x → slice_get (map f xs) n ≡ Some (f x)
found f [] n x less e = absurd (omega arith)
found f (y ∷ ys) zero x less e = ap (λ z. Some (f z)) (sym e)
found f (y ∷ ys) (suc n) x less e = found f ys n x (omega arith) e

pub length_mapped : {A B : Type 0} (f : A → B) (xs : List A) → length (map f xs) ≡ length xs
length_mapped f [] = refl
length_mapped f (x ∷ xs) = ap suc (length_mapped f xs)

-- nothing is learned yet
pub begun : (clauses : List GroundClause) (list : List Lit) (closing : Closing) → IsSetOf list closing.known → closing.learned.items ≡ [] → closing.reasons.items ≡ [] → IsClosing clauses list closing
begun clauses list closing set learned reasons = record {
  taught = subst (λ (ns : List ℕ). Taught clauses list ns closing.learned.items) (sym reasons) (subst (λ (ls : List Lit). Taught clauses list [] ls) (sym learned) nothing);
  set = subst (λ (ls : List Lit). IsSetOf (after list ls) closing.known) (sym learned) set;
}

-- what a clause that teaches nothing says
pub record IsQuiet (known : List Lit) (clause : GroundClause) : Type 0 where
  pub settled : (l : Lit) → counts_for known clause.bound ≡ true → only (left known clause.literals) ≡ Some l → is_among known l ≡ true
  pub stands : counts_for known clause.bound ≡ true → is_empty (left known clause.literals) ≡ true → ⊥

-- what one that teaches a literal says
pub record IsNew (known : List Lit) (clause : GroundClause) (l : Lit) : Type 0 where
  pub counts : counts_for known clause.bound ≡ true
  pub left : only (left known clause.literals) ≡ Some l
  pub new : is_among known l ≡ false

pub quiet : (known : List Lit) (clause : GroundClause) → teachings.Nothing ≡ teaching known clause → IsQuiet known clause
quiet known clause e = record {
  settled = λ l counts one. first (counts_for known clause.bound) (is_empty (left known clause.literals)) (only (left known clause.literals)) l e counts one;
  stands = λ counts empty. second (counts_for known clause.bound) (is_empty (left known clause.literals)) (teaching_left known (only (left known clause.literals))) e counts empty;
}
  where
    among : (l : Lit) (b : Bool) → teachings.Nothing ≡ cond b teachings.Nothing (teachings.Literal l) → b ≡ true
    among l true e = refl
    among l false e = absurd cc

    first : (counts empty : Bool) (one : Option Lit) (l : Lit) → teachings.Nothing ≡ cond counts (cond empty teachings.Refuted (teaching_left known one)) teachings.Nothing → counts ≡ true → one ≡ Some l → is_among known l ≡ true
    first true true one l e c o = absurd cc
    first true false None l e c o = absurd cc
    first true false (Some m) l e c o = subst (λ (q : Lit). is_among known q ≡ true) (same_Some m l o) (among m (is_among known m) e)
    first false empty one l e c o = absurd (true≢false (sym c))

    second : (counts empty : Bool) (rest : Teaching) → teachings.Nothing ≡ cond counts (cond empty teachings.Refuted rest) teachings.Nothing → counts ≡ true → empty ≡ true → ⊥
    second true true rest e c m = cc
    second true false rest e c m = true≢false (sym m)
    second false empty rest e c m = true≢false (sym c)

pub is_new : (known : List Lit) (clause : GroundClause) (l : Lit) → teachings.Literal l ≡ teaching known clause → IsNew known clause l
is_new known clause l e = by (counts_for known clause.bound) refl (is_empty (left known clause.literals)) (only (left known clause.literals)) refl e
  where
    among : (m : Lit) (b : Bool) → is_among known m ≡ b → teachings.Literal l ≡ cond b teachings.Nothing (teachings.Literal m) → (m ≡ l) × (b ≡ false)
    among m true is e = absurd cc
    among m false is e = (cc, refl)

    by : (counts : Bool) → counts_for known clause.bound ≡ counts → (empty : Bool) (one : Option Lit) → only (left known clause.literals) ≡ one
        → teachings.Literal l ≡ cond counts (cond empty teachings.Refuted (teaching_left known one)) teachings.Nothing → IsNew known clause l
    by true is true one left_is e = absurd cc
    by true is false None left_is e = absurd cc
    by true is false (Some m) left_is e =
        let found = among m (is_among known m) refl e in
        record { counts = is; left = left_is ∙ ap (λ (q : Lit). Some q) found.0; new = subst (λ (q : Lit). is_among known q ≡ false) found.0 found.1 }
    by false is empty one left_is e = absurd cc

pub is_refuted : (known : List Lit) (clause : GroundClause) → teachings.Refuted ≡ teaching known clause → (counts_for known clause.bound ≡ true) × (is_empty (left known clause.literals) ≡ true)
is_refuted known clause e = by (counts_for known clause.bound) (is_empty (left known clause.literals)) (only (left known clause.literals)) e
  where
    among : (m : Lit) (b : Bool) → teachings.Refuted ≡ cond b teachings.Nothing (teachings.Literal m) → ⊥
    among m true e = cc
    among m false e = cc

    by : (counts empty : Bool) (one : Option Lit) → teachings.Refuted ≡ cond counts (cond empty teachings.Refuted (teaching_left known one)) teachings.Nothing → (counts ≡ true) × (empty ≡ true)
    by true true one e = (refl, refl)
    by true false None e = absurd cc
    by true false (Some m) e = absurd (among m (is_among known m) e)
    by false empty one e = absurd cc

-- so far in one way through the clauses
pub record IsSoFar (clauses : List GroundClause) (list : List Lit) (begin : Closing) (count : ℕ) (grown : Bool) (closing : Closing) : Type 0 where
  pub closing_is : IsClosing clauses list closing
  pub quiet_so_far : grown ≡ false → (n : ℕ) (clause : GroundClause) → n < count → slice_get clauses n ≡ Some clause → IsQuiet (after list closing.learned.items) clause
  pub fewer_unknown : grown ≡ true → unknown (knows closing.known) clauses < unknown (knows begin.known) clauses
  pub as_before : grown ≡ false → unknown (knows closing.known) clauses ≡ unknown (knows begin.known) clauses

-- whatever list was begun with
pub record RoundSoFar (clauses : List GroundClause) (begin : Closing) (count : ℕ) (grown : Bool) (closing : Closing) : Type 0 where
  pub so_far : (list : List Lit) → IsClosing clauses list begin → IsSoFar clauses list begin count grown closing

pub begins : (clauses : List GroundClause) (begin : Closing) → RoundSoFar clauses begin 0 false begin
begins clauses begin = record {
  so_far = λ list is. record { closing_is = is; quiet_so_far = λ e n clause less at. absurd (omega arith); fewer_unknown = λ e. absurd (true≢false (sym e)); as_before = λ e. refl };
}

module _ (clauses : List GroundClause) (begin closing : Closing) (i : ℕ) (clause : GroundClause) (at : slice_get clauses i ≡ Some clause) (grown : Bool) (so_far : RoundSoFar clauses begin i grown closing) where
  split : (n i : ℕ) → n < i + 1 → (n < i) ⊎ (n ≡ i)
  split n i less = grind arith

  module _ (nothing : (literals : List Lit) → IsSetOf literals closing.known → teachings.Nothing ≡ teaching literals clause) where
    still_quiet : (list : List Lit) → IsSetOf (after list closing.learned.items) closing.known → (n : ℕ) (c : GroundClause) → (n < i) ⊎ (n ≡ i) → slice_get clauses n ≡ Some c
        → ((n : ℕ) (clause : GroundClause) → n < i → slice_get clauses n ≡ Some clause → IsQuiet (after list closing.learned.items) clause) → IsQuiet (after list closing.learned.items) c
    still_quiet list set n c (inl less) there before = before n c less there
    still_quiet list set n c (inr here) there before =
        let same = same_Some clause c (sym at ∙ sym (ap (λ (m : ℕ). slice_get clauses m) here) ∙ there) in
        subst (IsQuiet (after list closing.learned.items)) same (quiet (after list closing.learned.items) clause (nothing (after list closing.learned.items) set))

    pub goes_quiet : RoundSoFar clauses begin (i + 1) grown closing
    goes_quiet = record {
      so_far = λ list is. let before = so_far.so_far list is in
          record {
            closing_is = before.closing_is;
            quiet_so_far = λ e n c less there. still_quiet list before.closing_is.set n c (split n i less) there (before.quiet_so_far e);
            fewer_unknown = before.fewer_unknown;
            as_before = before.as_before;
          };
    }

  module _ (l : Lit) (now : Closing) (teaches : (literals : List Lit) → IsSetOf literals closing.known → teachings.Literal l ≡ teaching literals clause)
      (known : (q : Lit) → knows now.known q ≡ (same_literal q l || knows closing.known q))
      (learned : now.learned.items ≡ closing.learned.items ++ l ∷ []) (reasons : now.reasons.items ≡ closing.reasons.items ++ i ∷ []) where
    new : (list : List Lit) → IsClosing clauses list closing → IsNew (after list closing.learned.items) clause l
    new list is = is_new (after list closing.learned.items) clause l (teaches (after list closing.learned.items) is.set)

    still_closing : (list : List Lit) → IsClosing clauses list closing → IsClosing clauses list now
    still_closing list is =
        let one = new list is in
        let taught = taught_more clauses list closing.reasons.items closing.learned.items i l is.taught (record { clause = clause; there = at; counts = one.counts; left = one.left }) in
        let among = after_more list closing.learned.items l in
        record {
          taught = subst (λ (ns : List ℕ). Taught clauses list ns now.learned.items) (sym reasons) (subst (λ (ls : List Lit). Taught clauses list (closing.reasons.items ++ i ∷ []) ls) (sym learned) taught);
          set = λ q. known q ∙ ap (λ b. same_literal q l || b) (is.set q) ∙ ap (λ (ls : List Lit). is_among ls q) (sym (ap (after list) learned ∙ among));
        }

    shrinks : (list : List Lit) → IsClosing clauses list closing → unknown (knows now.known) clauses < unknown (knows closing.known) clauses
    shrinks list is =
        let one = new list is in
        fewer (knows closing.known) (knows now.known) l known clauses i clause at (taught_is_of (after list closing.learned.items) clause.literals l one.left) (is.set l ∙ one.new)

    less : (g : Bool) (m n k : ℕ) → (g ≡ true → m < k) → (g ≡ false → m ≡ k) → n < m → n < k
    less true m n k f g h = let e = f refl in omega arith
    less false m n k f g h = let e = g refl in omega arith

    pub goes_on : RoundSoFar clauses begin (i + 1) true now
    goes_on = record {
      so_far = λ list is. let before = so_far.so_far list is in
          record {
            closing_is = still_closing list before.closing_is;
            quiet_so_far = λ e. absurd (true≢false e);
            fewer_unknown = λ e. less grown (unknown (knows closing.known) clauses) (unknown (knows now.known) clauses) (unknown (knows begin.known) clauses) before.fewer_unknown before.as_before (shrinks list before.closing_is);
            as_before = λ e. absurd (true≢false e);
          };
    }

-- a whole way in which nothing was learned
pub settles : (clauses : List GroundClause) (begin closing : Closing) (count : ℕ) (grown : Bool) → length clauses ≤ count → grown ≡ false → RoundSoFar clauses begin count grown closing → (list : List Lit) → IsClosing clauses list begin
    → IsClosing clauses list closing × IsSettled clauses (after list closing.learned.items)
settles clauses begin closing count grown whole not_grown so_far list is =
    let all = so_far.so_far list is in (
      all.closing_is,
      record {
        settled = λ n l teaches. (all.quiet_so_far not_grown n teaches.clause (below n (slice_get_within clauses n teaches.clause teaches.there)) teaches.there).settled l teaches.counts teaches.left;
        stands = λ n refutes. (all.quiet_so_far not_grown n refutes.clause (below n (slice_get_within clauses n refutes.clause refutes.there)) refutes.there).stands refutes.counts refutes.left;
      },
    )
  where
    below : (n : ℕ) → n < length clauses → n < count
    below n less = omega arith

-- the list is closed
pub closes : (clauses : List GroundClause) (list : List Lit) (closing : Closing) → IsClosing clauses list closing → IsSettled clauses (after list closing.learned.items)
    → IsClosed clauses list closing.reasons.items closing.learned.items × IsSetOf (after list closing.learned.items) closing.known
closes clauses list closing is settled = (record { taught = is.taught; settled = settled.settled; stands = settled.stands }, is.set)

pub refuted : (clauses : List GroundClause) (begin closing : Closing) (i : ℕ) (clause : GroundClause) (grown : Bool) → slice_get clauses i ≡ Some clause → RoundSoFar clauses begin i grown closing
    → ((literals : List Lit) → IsSetOf literals closing.known → teachings.Refuted ≡ teaching literals clause) → (list : List Lit) → IsClosing clauses list begin
    → IsClosing clauses list closing × Refutes clauses (after list closing.learned.items) i
refuted clauses begin closing i clause grown at so_far false_there list is =
    let all = so_far.so_far list is in
    let known = after list closing.learned.items in
    let parts = is_refuted known clause (false_there known all.closing_is.set) in
    (all.closing_is, record { clause = clause; there = at; counts = parts.0; left = parts.1 })
