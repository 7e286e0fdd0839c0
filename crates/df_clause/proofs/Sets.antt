-- Ground sets that grow line by line.
use Rattle.std.proofs.Common.{◌≡◌, ℕ, ◌+◌, ◌≤◌, Bool, true, false, List, [], ◌∷◌, ◌++◌, take, drop, length, Option, None, Some, if◌then◌else◌, refl, sym, ap, ◌∙◌, arith, append_assoc, length-append}
use Rattle.std.specs.Option.{option_map_or}
use Rattle.std.specs.List.{list_all}
use Rattle.std.proofs.Math.Seq.{take-append_seam, take-length}
use Rattle.std.proofs.lemmas.List.{map-append, take-append-drop}
use Rattle.std.proofs.lemmas.Bool.{and_from, and_parts}
use Rattle.df_lemmas.proofs.Lists.{all_weaker}
use Rattle.df_form.specs.Clause.{are_literals}
use Rattle.df_form.specs.Log.{Step}
use Rattle.df_form.specs.Sequent.{Sequent, IsSequent}
use Rattle.df_form.proofs.Values.{Grows, grows_not, grows_twice, AreSorted}
use Rattle.df_rules.specs.Connective.{Added}
use Rattle.df_rules.specs.Derivation.{State, begin, with_clause, after_all}
use Rattle.df_clause.specs.GroundClause.{GroundClause}
use Rattle.df_clause.specs.Counting.{stands, instance_count}
use Rattle.df_clause.specs.Lines.{lines_at, bound_of}
use Rattle.df_clause.specs.Adding.{added_by}
use Rattle.df_clause.specs.GroundSet.{GroundSet, no_clauses, ground_clause, with_added, with_line, with_lines, with_meaning, with_meanings, IsFrontOf}
use Rattle.df_clause.specs.GroundView.{literals_of, state_with}
use Rattle.df_clause.proofs.Joined.{count_joined, count_one}
use Rattle.df_clause.proofs.Literals.{literals_grown, added_fits}
use Rattle.df_clause.proofs.Running.{is_addition, added_after, one_more, first_of}

-- ---- first parts

pub whole : {A : Type 0} (front all : List A) → take (length front) all ≡ front → all ≡ front ++ drop (length front) all
whole front all first = sym (take-append-drop (length front) all) ∙ ap (λ xs. xs ++ drop (length front) all) first

pub first_twice : {A : Type 0} (a b c : List A) → take (length a) b ≡ a → take (length b) c ≡ b → take (length a) c ≡ a
first_twice a b c f g =
    ap (take (length a)) (whole b c g ∙ ap (λ xs. xs ++ drop (length b) c) (whole a b f) ∙ append_assoc a (drop (length a) b) (drop (length b) c))
    ∙ take-append_seam a (drop (length a) b ++ drop (length b) c)

pub front_itself : (set : GroundSet) → IsFrontOf set set
front_itself set = record { nodes = take-length set.nodes; clauses = take-length set.clauses; lines = take-length set.lines }

pub front_twice : (a b c : GroundSet) → IsFrontOf a b → IsFrontOf b c → IsFrontOf a c
front_twice a b c f g = record {
  nodes = first_twice a.nodes b.nodes c.nodes f.nodes g.nodes;
  clauses = first_twice a.clauses b.clauses c.clauses f.clauses g.clauses;
  lines = first_twice a.lines b.lines c.lines f.lines g.lines;
}

-- ---- how many instances

pub front_fewer : (set all : GroundSet) → IsFrontOf set all → instance_count set.clauses ≤ instance_count all.clauses
front_fewer set all f =
    let joined = ap instance_count (whole set.clauses all.clauses f.clauses) ∙ count_joined set.clauses (drop (length set.clauses) all.clauses) in
    omega (arith, joined)

-- ---- lines one after another

pub lines_more : (s : Sequent) (set : GroundSet) (xs ys : List Step) → with_lines s set (xs ++ ys) ≡ with_lines s (with_lines s set xs) ys
lines_more s set [] ys = refl
lines_more s set (x ∷ xs) ys = lines_more s (with_line s set x) xs ys

pub meanings_more : (s : Sequent) (set : GroundSet) (ms ns : List ℕ) → with_meanings s set (ms ++ ns) ≡ with_meanings s (with_meanings s set ms) ns
meanings_more s set [] ns = refl
meanings_more s set (m ∷ ms) ns = meanings_more s (with_meaning s set m) ms ns

-- ---- what each ground set keeps

tests_joined : (test : GroundClause → Bool) (xs ys : List GroundClause) → list_all test xs ≡ true → list_all test ys ≡ true → list_all test (xs ++ ys) ≡ true
tests_joined test [] ys e f = f
tests_joined test (x ∷ xs) ys e f =
    let parts = and_parts (test x) (list_all test xs) e in
    and_from (test x) (list_all test (xs ++ ys)) parts.0 (tests_joined test xs ys parts.1 f)

pub record Stands (s : Sequent) (set : GroundSet) : Type 0 where
  pub sorted : AreSorted set.nodes
  pub grows : Grows s.nodes set.nodes
  pub run : after_all s (begin s) set.lines ≡ Some (state_with set.nodes set.clauses)
  pub long : length set.clauses ≡ length set.lines
  pub literals : list_all (λ (clause : GroundClause). are_literals set.nodes clause.literals) set.clauses ≡ true

pub begun : (s : Sequent) → IsSequent s → Stands s (no_clauses s)
begun s valid = record { sorted = record { sorted = valid.table.sorted }; grows = grows_not s.nodes; run = refl; long = refl; literals = refl }

module _ (s : Sequent) (set : GroundSet) (line : Step) where
  abbrev new : Added → GroundClause
  new added = ground_clause (bound_of set.nodes line) added

  abbrev more : Added → GroundSet
  more added = record { nodes = added.nodes; clauses = set.clauses ++ new added ∷ []; lines = set.lines ++ line ∷ [] }

  -- whatever holds of the set and of the one with the clause holds of what the line makes
  pub line_either : (P : GroundSet → Type 0) → P set → ((added : Added) → added_by s set.nodes line ≡ Some added → P (more added)) → P (with_line s set line)
  line_either P old made = by (added_by s set.nodes line) refl
    where
      chosen : (added : Added) → added_by s set.nodes line ≡ Some added → (b : Bool) → P (if b then set else more added)
      chosen added e true = old
      chosen added e false = made added e

      by : (o : Option Added) → added_by s set.nodes line ≡ o → P (option_map_or (with_added set line (bound_of set.nodes line)) o set)
      by None e = old
      by (Some added) e = chosen added e (stands set.clauses (new added))

  -- a line adds one instance at most
  pub line_counts : instance_count (with_line s set line).clauses ≤ instance_count set.clauses + 1
  line_counts = line_either (λ (to : GroundSet). instance_count to.clauses ≤ instance_count set.clauses + 1) (omega arith) (λ added e. (let joined = count_joined set.clauses (new added ∷ []) in let one = count_one (new added) in omega (arith, joined, one)))

  module _ (sorted : AreSorted set.nodes) where
    pub line_sorted : AreSorted (with_line s set line).nodes
    line_sorted = line_either (λ (to : GroundSet). AreSorted to.nodes) sorted (λ added e. (is_addition s set.nodes line added sorted e).sorted)

    more_front : (added : Added) → added_by s set.nodes line ≡ Some added → IsFrontOf set (more added)
    more_front added e = record {
      nodes = first_of set.nodes added.nodes (is_addition s set.nodes line added sorted e).grows;
      clauses = take-append_seam set.clauses (new added ∷ []);
      lines = take-append_seam set.lines (line ∷ []);
    }

    pub line_front : IsFrontOf set (with_line s set line)
    line_front = line_either (IsFrontOf set) (front_itself set) more_front

  module _ (valid : IsSequent s) (st : Stands s set) where
    more_stands : (added : Added) → added_by s set.nodes line ≡ Some added → Stands s (more added)
    more_stands added e =
        let addition = is_addition s set.nodes line added st.sorted e in
        let fits = added_fits s set.nodes line added valid st.sorted st.grows e in
        let state = state_with set.nodes set.clauses in
        let next : with_clause state added ≡ state_with added.nodes (set.clauses ++ new added ∷ []) =
        λ i. record { nodes = added.nodes; clauses = sym (map-append literals_of set.clauses (new added ∷ [])) i } in
        let kept = all_weaker (λ (clause : GroundClause). are_literals set.nodes clause.literals) (λ (clause : GroundClause). are_literals added.nodes clause.literals) set.clauses
        (λ clause. literals_grown set.nodes added.nodes addition.grows clause.literals) st.literals in
        record {
          sorted = addition.sorted;
          grows = grows_twice s.nodes set.nodes added.nodes st.grows addition.grows;
          run = one_more s (begin s) set.lines line state (state_with added.nodes (set.clauses ++ new added ∷ [])) st.run (added_after s state line added e ∙ ap (λ (to : State). Some to) next);
          long = let one = length-append set.clauses (new added ∷ []) in let other = length-append set.lines (line ∷ []) in let same = st.long in omega (arith, one, other, same);
          literals = tests_joined (λ (clause : GroundClause). are_literals added.nodes clause.literals) set.clauses (new added ∷ []) kept (and_from (are_literals added.nodes added.clause) true fits refl);
        }

    pub line_stands : Stands s (with_line s set line)
    line_stands = line_either (Stands s) st more_stands

-- ---- many lines

pub lines_sorted : (s : Sequent) (lines : List Step) (set : GroundSet) → AreSorted set.nodes → AreSorted (with_lines s set lines).nodes
lines_sorted s [] set sorted = sorted
lines_sorted s (line ∷ lines) set sorted = lines_sorted s lines (with_line s set line) (line_sorted s set line sorted)

pub lines_front : (s : Sequent) (lines : List Step) (set : GroundSet) → AreSorted set.nodes → IsFrontOf set (with_lines s set lines)
lines_front s [] set sorted = front_itself set
lines_front s (line ∷ lines) set sorted =
    let next = with_line s set line in
    front_twice set next (with_lines s next lines) (line_front s set line sorted) (lines_front s lines next (line_sorted s set line sorted))

pub meanings_sorted : (s : Sequent) (numbers : List ℕ) (set : GroundSet) → AreSorted set.nodes → AreSorted (with_meanings s set numbers).nodes
meanings_sorted s [] set sorted = sorted
meanings_sorted s (n ∷ numbers) set sorted = meanings_sorted s numbers (with_meaning s set n) (lines_sorted s (lines_at set.nodes n) set sorted)

pub meanings_front : (s : Sequent) (numbers : List ℕ) (set : GroundSet) → AreSorted set.nodes → IsFrontOf set (with_meanings s set numbers)
meanings_front s [] set sorted = front_itself set
meanings_front s (n ∷ numbers) set sorted =
    let next = with_meaning s set n in
    front_twice set next (with_meanings s next numbers) (lines_front s (lines_at set.nodes n) set sorted) (meanings_front s numbers next (lines_sorted s (lines_at set.nodes n) set sorted))

pub lines_stand : (s : Sequent) (valid : IsSequent s) (lines : List Step) (set : GroundSet) → Stands s set → Stands s (with_lines s set lines)
lines_stand s valid [] set st = st
lines_stand s valid (line ∷ lines) set st = lines_stand s valid lines (with_line s set line) (line_stands s set line valid st)

pub meanings_stand : (s : Sequent) (valid : IsSequent s) (numbers : List ℕ) (set : GroundSet) → Stands s set → Stands s (with_meanings s set numbers)
meanings_stand s valid [] set st = st
meanings_stand s valid (n ∷ numbers) set st = meanings_stand s valid numbers (with_meaning s set n) (lines_stand s valid (lines_at set.nodes n) set st)
