-- Lines and meanings on the way to a ground set.
use Rattle.std.proofs.Common.{◌≡◌, ◌⊎◌, inl, inr, ℕ, zero, suc, ◌<◌, Bool, true, false, List, [], ◌∷◌, ◌++◌, take, drop, length, length-append, Option, Some, slice_get, if◌then◌else◌, refl, sym, ap, subst, arith, true≢false}
use Rattle.std.specs.Option.{option_map_or}
use Rattle.std.proofs.lemmas.Option.{same_Some}
use Rattle.std.proofs.lemmas.Bool.{or_cases}
use Rattle.df_form.specs.Node.{Node}
use Rattle.df_form.specs.Log.{Step}
use Rattle.df_form.specs.Sequent.{Sequent, IsSequent}
use Rattle.df_rules.specs.Connective.{Added}
use Rattle.df_clause.specs.Among.{Among}
use Rattle.df_clause.specs.GroundClause.{GroundClause, same_clause}
use Rattle.df_clause.specs.Counting.{stands}
use Rattle.df_clause.specs.Lines.{lines_at, bound_of}
use Rattle.df_clause.specs.Adding.{added_by}
use Rattle.df_clause.specs.GroundSet.{GroundSet, ground_clause, with_added, with_line, with_lines, with_meaning, with_meanings, IsFrontOf}
use Rattle.df_clause.proofs.Keys.{same_clause_is}
use Rattle.df_clause.proofs.Complete.{in_left, in_right}
use Rattle.df_clause.proofs.Sets.{whole, front_itself, front_twice, Stands, line_stands, line_front, lines_stand, lines_front, meanings_front}

-- ---- clauses

-- a clause that stands is among them
pub stands_among : (clauses : List GroundClause) (clause : GroundClause) → stands clauses clause ≡ true → Among clauses clause
stands_among [] clause e = absurd (true≢false (sym e))
stands_among (c ∷ clauses) clause e = by (or_cases (same_clause clause c) (stands clauses clause) e) (λ later. stands_among clauses clause later)
  where
    by : (same_clause clause c ≡ true) ⊎ (stands clauses clause ≡ true) → (stands clauses clause ≡ true → Among clauses clause) → Among (c ∷ clauses) clause
    by (inl same) among = (zero, ap (λ (x : GroundClause). Some x) (sym (same_clause_is clause c same)))
    by (inr later) among = let there = among later in (suc there.0, there.1)

-- what is among the first ones is among all
pub among_front : (front all : List GroundClause) (clause : GroundClause) → take (length front) all ≡ front → Among front clause → Among all clause
among_front front all clause first there = subst (λ (cs : List GroundClause). Among cs clause) (sym (whole front all first)) (in_left front (drop (length front) all) clause there)

-- ---- lines

-- on the way to the set stood one from which the line went on
pub record Passes (s : Sequent) (from all : GroundSet) (line : Step) : Type 0 where
  pub mid : GroundSet
  pub stands : Stands s mid
  pub begins : IsFrontOf from mid
  pub goes_on : IsFrontOf (with_line s mid line) all

-- what the connective of a node means was added on the way, where the node stood
pub record Means (s : Sequent) (all : GroundSet) (n : ℕ) : Type 0 where
  pub mid : GroundSet
  pub stands : Stands s mid
  pub inside : n < length mid.nodes
  pub begins : IsFrontOf mid all
  pub goes_on : IsFrontOf (with_meaning s mid n) all

pub means_wider : (s : Sequent) (all wider : GroundSet) (n : ℕ) → IsFrontOf all wider → Means s all n → Means s wider n
means_wider s all wider n f m = record {
  mid = m.mid;
  stands = m.stands;
  inside = m.inside;
  begins = front_twice m.mid all wider m.begins f;
  goes_on = front_twice (with_meaning s m.mid n) all wider m.goes_on f;
}

module _ (s : Sequent) (valid : IsSequent s) where
  pub passed : (lines : List Step) (set : GroundSet) (i : ℕ) (line : Step) → Stands s set → slice_get lines i ≡ Some line → Passes s set (with_lines s set lines) line
  passed [] set i line st at = absurd cc
  passed (x ∷ lines) set zero line st at =
      let next = with_line s set x in
      let is : x ≡ line = same_Some x line at in
      record {
        mid = set;
        stands = st;
        begins = front_itself set;
        goes_on = subst (λ (y : Step). IsFrontOf (with_line s set y) (with_lines s next lines)) is (lines_front s lines next (line_stands s set x valid st).sorted);
      }
  passed (x ∷ lines) set (suc i) line st at =
      let next = with_line s set x in
      let later = passed lines next i line (line_stands s set x valid st) at in
      record { mid = later.mid; stands = later.stands; begins = front_twice set next later.mid (line_front s set x st.sorted) later.begins; goes_on = later.goes_on }

  pub meant : (numbers : List ℕ) (set : GroundSet) (i n : ℕ) → Stands s set → slice_get numbers i ≡ Some n → n < length set.nodes → Means s (with_meanings s set numbers) n
  meant [] set i n st at less = absurd cc
  meant (m ∷ numbers) set zero n st at less =
      let next = with_meaning s set m in
      let is : m ≡ n = same_Some m n at in
      let st_next = lines_stand s valid (lines_at set.nodes m) set st in
      let rest = meanings_front s numbers next st_next.sorted in
      record {
        mid = set;
        stands = st;
        inside = less;
        begins = front_twice set next (with_meanings s next numbers) (lines_front s (lines_at set.nodes m) set st.sorted) rest;
        goes_on = subst (λ (k : ℕ). IsFrontOf (with_meaning s set k) (with_meanings s next numbers)) is rest;
      }
  meant (m ∷ numbers) set (suc i) n st at less =
      let next = with_meaning s set m in
      let st_next = lines_stand s valid (lines_at set.nodes m) set st in
      let grown = lines_front s (lines_at set.nodes m) set st.sorted in
      meant numbers next i n st_next at (longer set.nodes next.nodes grown.nodes less)
    where
      longer : (a b : List Node) → take (length a) b ≡ a → n < length a → n < length b
      longer a b first less = let joined = ap (λ (xs : List Node). length xs) (whole a b first) in let sum = length-append a (drop (length a) b) in omega (arith, joined, sum, less)

-- the clause of a line is there after it
pub line_among : (s : Sequent) (set : GroundSet) (line : Step) (added : Added) → added_by s set.nodes line ≡ Some added → Among (with_line s set line).clauses (ground_clause (bound_of set.nodes line) added)
line_among s set line added e = subst (λ (to : GroundSet). Among to.clauses clause) (sym (ap (λ (o : Option Added). option_map_or (with_added set line (bound_of set.nodes line)) o set) e)) (chosen (stands set.clauses clause) refl)
  where
    clause : GroundClause
    clause = ground_clause (bound_of set.nodes line) added

    more : GroundSet
    more = record { nodes = added.nodes; clauses = set.clauses ++ clause ∷ []; lines = set.lines ++ line ∷ [] }

    chosen : (b : Bool) → stands set.clauses clause ≡ b → Among (if b then set else more).clauses clause
    chosen true stood = stands_among set.clauses clause stood
    chosen false new = in_right set.clauses (clause ∷ []) clause (0, refl)
