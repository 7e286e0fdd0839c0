-- Lists that hold all literals of others: what closes these is known there.
use Rattle.std.proofs.Common.{◌≡◌, ◌⊎◌, inl, inr, ⊎_elim, ℕ, map, Bool, true, false, not, ◌&&◌, cond, List, [], ◌∷◌, ◌++◌, slice_get, Option, None, Some, refl, sym, ap, ◌∙◌, subst}
use Rattle.std.specs.Option.{option_and_then, option_map}
use Rattle.std.specs.List.{list_all}
use Rattle.df_form.specs.declared.log.Lit.{Lit}
use Rattle.df_form.specs.Node.{Node}
use Rattle.df_form.specs.Clause.{Clause, yes, no, negation, same_literal, is_among}
use Rattle.df_row.specs.Row.{Row}
use Rattle.df_row.specs.Linear.{rows_of, rows_of_node}
use Rattle.df_rules.specs.Propagation.{left, only, is_empty}
use Rattle.df_closure.specs.Closure.{GroundClause, counts_for, Teaches, Refutes, Taught, nothing, more, after, IsClosed}
use Rattle.df_closure.specs.Closing.{IsSettled}
use Rattle.df_classes.specs.Equal.{IsContradicted}
use Rattle.df_level.specs.Levels.{Stands}
use Rattle.df_elim.specs.Elimination.{AreAmong}
use Rattle.df_cong.proofs.Growing.{contradicted_more_literals}
use Rattle.df_branch.specs.Evidence.{IsShut, by_clauses, by_congruence, by_rows, IsUnshut}
use Rattle.df_branch.specs.Next.{IsQuiet}
use Rattle.df_branch.proofs.Gaps.{literal_rows}
use Rattle.std.proofs.lemmas.Option.{same_Some}
use Rattle.std.proofs.lemmas.Bool.{or_cases, or_left, or_right, and_parts}
use Rattle.df_form.proofs.Literals.{same_self}
use Rattle.df_lemmas.proofs.Truths.{true_is_not_false}
use Rattle.df_lemmas.proofs.Options.{then_some, map_some}
use Rattle.df_rules.proofs.SoundClauses.{same_literal_is}
use Rattle.df_level.proofs.Sets.{stands_left, stands_right}
use Rattle.df_search.proofs.Members.{contained_among, among_contained}

-- the one list holds all that the other does
pub record Covers (wide known : List Lit) : Type 0 where
  pub has : (l : Lit) → is_among known l ≡ true → is_among wide l ≡ true

pub counts_more : (wide known : List Lit) → Covers wide known → (bound : Option ℕ) → counts_for known bound ≡ true → counts_for wide bound ≡ true
counts_more wide known covers None e = refl
counts_more wide known covers (Some node) e =
    ⊎_elim (λ here. or_left (is_among wide (yes node)) (is_among wide (no node)) (covers.has (yes node) here))
    (λ there. or_right (is_among wide (yes node)) (is_among wide (no node)) (covers.has (no node) there))
    (or_cases (is_among known (yes node)) (is_among known (no node)) e)

module _ (wide known : List Lit) (covers : Covers wide known) where
  none_left : (clause : Clause) → is_empty (left known clause) ≡ true → is_empty (left wide clause) ≡ true
  none_left [] e = refl
  none_left (q ∷ others) e = by (is_among known (negation q)) (is_among wide (negation q)) (covers.has (negation q)) (none_left others) e
    where
      by : (b c : Bool) → (b ≡ true → c ≡ true) → (is_empty (left known others) ≡ true → is_empty (left wide others) ≡ true) → is_empty (cond (not b) (q ∷ left known others) (left known others)) ≡ true → is_empty (cond (not c) (q ∷ left wide others) (left wide others)) ≡ true
      by true true h go e = go e
      by true false h go e = absurd (true_is_not_false true refl (sym (h refl)))
      by false c h go e = absurd (true_is_not_false true refl (sym e))

  same_left : (l : Lit) (clause : Clause) → list_all (same_literal l) (left known clause) ≡ true → list_all (same_literal l) (left wide clause) ≡ true
  same_left l [] e = refl
  same_left l (q ∷ others) e = by (is_among known (negation q)) (is_among wide (negation q)) (covers.has (negation q)) (same_left l others) e
    where
      by : (b c : Bool) → (b ≡ true → c ≡ true) → (list_all (same_literal l) (left known others) ≡ true → list_all (same_literal l) (left wide others) ≡ true) → list_all (same_literal l) (cond (not b) (q ∷ left known others) (left known others)) ≡ true → list_all (same_literal l) (cond (not c) (q ∷ left wide others) (left wide others)) ≡ true
      by true true h go e = go e
      by true false h go e = absurd (true_is_not_false true refl (sym (h refl)))
      by false true h go e = go (and_parts (same_literal l q) (list_all (same_literal l) (left known others)) e).1
      by false false h go e = let parts = and_parts (same_literal l q) (list_all (same_literal l) (left known others)) e in rw (parts.0, go parts.1) refl

only_same : (l : Lit) (literals : List Lit) → only literals ≡ Some l → list_all (same_literal l) literals ≡ true
only_same l [] e = absurd cc
only_same l (m ∷ others) e = by (list_all (same_literal m) others) refl e
  where
    by : (b : Bool) → list_all (same_literal m) others ≡ b → cond b (Some m) None ≡ Some l → list_all (same_literal l) (m ∷ others) ≡ true
    by true is e = subst (λ (q : Lit). (same_literal q m && list_all (same_literal q) others) ≡ true) (same_Some m l e) (rw (same_self m, is) refl)
    by false is e = absurd cc

same_only : (l : Lit) (literals : List Lit) → list_all (same_literal l) literals ≡ true → (is_empty literals ≡ true) ⊎ (only literals ≡ Some l)
same_only l [] e = inl refl
same_only l (m ∷ others) e =
    let parts = and_parts (same_literal l m) (list_all (same_literal l) others) e in
    let is = same_literal_is l m parts.0 in
    inr (ap (λ b. cond b (Some m) None) (subst (λ (q : Lit). list_all (same_literal q) others ≡ true) is parts.1) ∙ ap (λ (q : Lit). Some q) (sym is))

covers_one : (wide known : List Lit) (l : Lit) → Covers wide known → is_among wide l ≡ true → Covers wide (l ∷ known)
covers_one wide known l covers there = record {
  has = λ q e. ⊎_elim (λ same. subst (λ (p : Lit). is_among wide p ≡ true) (sym (same_literal_is q l same)) there) (λ rest. covers.has q rest) (or_cases (same_literal q l) (is_among known q) e);
}

pub covers_after : (known learned : List Lit) → Covers (after known learned) known
covers_after known [] = record { has = λ l e. e }
covers_after known (m ∷ learned) = record { has = λ l e. (covers_after (m ∷ known) learned).has l (or_right (same_literal l m) (is_among known l) e) }

-- what is taught beside fewer literals is known beside more
module _ (clauses : List GroundClause) (more_known : List Lit) (settled : IsSettled clauses more_known) where
  taught_known : (known : List Lit) (n : ℕ) (l : Lit) → Covers more_known known → Teaches clauses known n l → is_among more_known l ≡ true
  taught_known known n l covers teaches =
      ⊎_elim
      (λ empty. absurd (settled.stands n (record { clause = teaches.clause; there = teaches.there; counts = counts; left = empty })))
      (λ one. settled.settled n l (record { clause = teaches.clause; there = teaches.there; counts = counts; left = one }))
      (same_only l (left more_known teaches.clause.literals) (same_left more_known known covers l teaches.clause.literals (only_same l (left known teaches.clause.literals) teaches.left)))
    where
      counts : counts_for more_known teaches.clause.bound ≡ true
      counts = counts_more more_known known covers teaches.clause.bound teaches.counts

  covers_taught : (known : List Lit) (numbers : List ℕ) (literals : List Lit) → Covers more_known known → Taught clauses known numbers literals → Covers more_known (after known literals)
  covers_taught known numbers literals covers nothing = covers
  covers_taught known numbers literals covers (more {number = n} {numbers = ns} {literal = l} {literals = ls} first rest) =
      covers_taught (l ∷ known) ns ls (covers_one more_known known l covers (taught_known known n l covers first)) rest

  none_refuted : (known : List Lit) (n : ℕ) → Covers more_known known → Refutes clauses known n → ⊥
  none_refuted known n covers refutes = settled.stands n (record {
    clause = refutes.clause;
    there = refutes.there;
    counts = counts_more more_known known covers refutes.clause.bound refutes.counts;
    left = none_left more_known known covers refutes.clause.literals refutes.left;
  })

-- a row of literals is one of a literal's
record IsRowOf (nodes : List Node) (known : List Lit) (row : Row) : Type 0 where
  literal : Lit
  there : is_among known literal ≡ true
  rows : List Row
  rows_are : rows_of_node nodes literal.positive (slice_get nodes literal.node) ≡ Some rows
  stands : Stands row rows

stands_split : (x : Row) (a b : List Row) → Stands x (a ++ b) → Stands x a ⊎ Stands x b
stands_split x [] b h = inr h
stands_split x (r ∷ a) b (inl e) = inl (inl e)
stands_split x (r ∷ a) b (inr h) = ⊎_elim (λ k. inl (inr k)) (λ k. inr k) (stands_split x a b h)

find_row : (nodes : List Node) (known : List Lit) (rows : List Row) (row : Row) → rows_of nodes known ≡ Some rows → Stands row rows → IsRowOf nodes known row
find_row nodes [] rows row e stands = absurd (subst (Stands row) (sym (some_list e)) stands)
  where
    some_list : Some [] ≡ Some rows → [] ≡ rows
    some_list e = cc
find_row nodes (l ∷ others) rows row e stands =
    let first = then_some (λ rows. option_map (λ more. rows ++ more) (rows_of nodes others)) (rows_of_node nodes l.positive (slice_get nodes l.node)) rows e in
    let rest = map_some (λ more. first.0 ++ more) (rows_of nodes others) rows first.2 in
    by first.0 rest.0 first.1 (λ k. find_row nodes others rest.0 row rest.1 k) (stands_split row first.0 rest.0 (subst (Stands row) (sym rest.2) stands))
  where
    by : (here there : List Row) → rows_of_node nodes l.positive (slice_get nodes l.node) ≡ Some here → (Stands row there → IsRowOf nodes others row) → Stands row here ⊎ Stands row there → IsRowOf nodes (l ∷ others) row
    by here there is go (inl k) = record { literal = l; there = or_left (same_literal l l) (is_among others l) (same_self l); rows = here; rows_are = is; stands = k }
    by here there is go (inr k) =
        let found = go k in
        record { literal = found.literal; there = or_right (same_literal found.literal l) (is_among others found.literal) found.there; rows = found.rows; rows_are = found.rows_are; stands = found.stands }

put_row : (nodes : List Node) (known : List Lit) (rows : List Row) (row : Row) (l : Lit) (own : List Row) → rows_of nodes known ≡ Some rows → is_among known l ≡ true → rows_of_node nodes l.positive (slice_get nodes l.node) ≡ Some own → Stands row own → Stands row rows
put_row nodes [] rows row l own e there is stands = absurd (true_is_not_false true refl (sym there))
put_row nodes (m ∷ others) rows row l own e there is stands =
    let first = then_some (λ rows. option_map (λ more. rows ++ more) (rows_of nodes others)) (rows_of_node nodes m.positive (slice_get nodes m.node)) rows e in
    let rest = map_some (λ more. first.0 ++ more) (rows_of nodes others) rows first.2 in
    subst (Stands row) rest.2 (by first.0 rest.0 first.1 (λ k. put_row nodes others rest.0 row l own rest.1 k is stands) (or_cases (same_literal l m) (is_among others l) there))
  where
    same_rows : (here : List Row) → rows_of_node nodes m.positive (slice_get nodes m.node) ≡ Some here → l ≡ m → own ≡ here
    same_rows here at same = some_lists (sym is ∙ ap (λ (q : Lit). rows_of_node nodes q.positive (slice_get nodes q.node)) same ∙ at)
      where
        some_lists : Some own ≡ Some here → own ≡ here
        some_lists e = cc

    by : (here after_it : List Row) → rows_of_node nodes m.positive (slice_get nodes m.node) ≡ Some here → (is_among others l ≡ true → Stands row after_it) → (same_literal l m ≡ true) ⊎ (is_among others l ≡ true) → Stands row (here ++ after_it)
    by here after_it at go (inl same) = stands_left row here after_it (subst (Stands row) (same_rows here at (same_literal_is l m same)) stands)
    by here after_it at go (inr rest) = stands_right row here after_it (go rest)

rows_among : (nodes : List Node) (more_known known : List Lit) (rows more_rows : List Row) → Covers more_known known → rows_of nodes known ≡ Some rows → rows_of nodes more_known ≡ Some more_rows → AreAmong rows more_rows
rows_among nodes more_known known rows more_rows covers e f row stands =
    let found = find_row nodes known rows row e stands in
    put_row nodes more_known more_rows row found.literal found.rows f (covers.has found.literal found.there) found.rows_are found.stands

-- literals have rows where more literals do
pub rows_covered : (nodes : List Node) (more_known known : List Lit) (more_rows : List Row) → Covers more_known known → rows_of nodes more_known ≡ Some more_rows → (rows : List Row) × (rows_of nodes known ≡ Some rows)
rows_covered nodes more_known [] more_rows covers e = ([], refl)
rows_covered nodes more_known (l ∷ others) more_rows covers e =
    let own = literal_rows nodes more_known more_rows l e (covers.has l (or_left (same_literal l l) (is_among others l) (same_self l))) in
    let rest = rows_covered nodes more_known others more_rows (record { has = λ q there. covers.has q (or_right (same_literal q l) (is_among others q) there) }) e in (
      own.these ++ rest.0,
      ap (option_and_then (λ (rows : List Row). option_map (λ (more : List Row). rows ++ more) (rows_of nodes others))) own.are ∙ ap (option_map (λ (more : List Row). own.these ++ more)) rest.1,
    )

-- an unshut list is quiet
pub quiet_of : {nodes : List Node} {clauses : List GroundClause} {list learned : List Lit} → IsUnshut nodes clauses list learned → IsQuiet nodes clauses list learned
quiet_of unshut = record { reasons = unshut.reasons; closed = unshut.closed; formulas = unshut.formulas; quiet = unshut.quiet }

module _ (nodes : List Node) (clauses : List GroundClause) where
  -- what closes a list that a closed one holds is known there
  covers_closed : (before learned : List Lit) (before_reasons : List ℕ) → IsClosed clauses before before_reasons learned → (list taught : List Lit) (reasons : List ℕ) → Covers before list → IsClosed clauses list reasons taught → Covers (after before learned) (after list taught)
  covers_closed before learned before_reasons is list taught reasons covers closed =
      covers_taught clauses (after before learned) (record { settled = is.settled; stands = is.stands }) list reasons taught (record { has = λ l e. (covers_after before learned).has l (covers.has l e) }) closed.taught

  -- congruence contradicts no list that a quiet one holds
  pub quiet_before : (before learned : List Lit) → IsQuiet nodes clauses before learned → (list taught : List Lit) (reasons : List ℕ) → Covers before list → IsClosed clauses list reasons taught → IsContradicted nodes (map negation (after list taught)) → ⊥
  quiet_before before learned quiet list taught reasons covers closed contradicted =
      let covered = covers_closed before learned quiet.reasons quiet.closed list taught reasons covers closed in
      quiet.quiet (contradicted_more_literals nodes (after list taught) (after before learned) (λ l there. among_contained (after before learned) l (covered.has l (contained_among (after list taught) l there))) contradicted)

  -- a quiet list that an unshut one holds is not shut either
  pub unshut_before : (before learned : List Lit) → IsUnshut nodes clauses before learned → (list taught : List Lit) → Covers before list → IsQuiet nodes clauses list taught → IsUnshut nodes clauses list taught
  unshut_before before learned unshut list taught covers quiet =
      let covered = covers_closed before learned unshut.reasons unshut.closed list taught quiet.reasons covers quiet.closed in
      let found = rows_covered nodes (after before learned) (after list taught) unshut.rows covered unshut.rows_are in
      record {
        reasons = quiet.reasons;
        closed = quiet.closed;
        formulas = quiet.formulas;
        quiet = quiet.quiet;
        rows = found.0;
        rows_are = found.1;
        unrefuted = λ some among refuted. unshut.unrefuted some (λ row there. rows_among nodes (after before learned) (after list taught) found.0 unshut.rows covered found.1 unshut.rows_are row (among row there)) refuted;
      }

  -- a list that an unshut one holds is not shut
  pub covered_unshut : (before learned list : List Lit) → IsUnshut nodes clauses before learned → Covers before list → IsShut nodes clauses list → ⊥
  covered_unshut before learned list unshut covers shut = by shut
    where
      settled : IsSettled clauses (after before learned)
      settled = record { settled = unshut.closed.settled; stands = unshut.closed.stands }

      whole : Covers (after before learned) list
      whole = record { has = λ l e. (covers_after before learned).has l (covers.has l e) }

      by : IsShut nodes clauses list → ⊥
      by (by_clauses numbers is) = none_refuted clauses (after before learned) settled (after list is.learned) is.last (covers_taught clauses (after before learned) settled list is.reasons is.learned whole is.taught) is.refutes
      by (by_congruence reasons taught closed formulas contradicted) =
          let covered = covers_taught clauses (after before learned) settled list reasons taught whole closed.taught in
          unshut.quiet (contradicted_more_literals nodes (after list taught) (after before learned) (λ l there. among_contained (after before learned) l (covered.has l (contained_among (after list taught) l there))) contradicted)
      by (by_rows reasons taught rows closed formulas rows_are refuted) =
          unshut.unrefuted rows (rows_among nodes (after before learned) (after list taught) rows unshut.rows (covers_taught clauses (after before learned) settled list reasons taught whole closed.taught) rows_are unshut.rows_are) refuted
