-- Lines that say that a branch is not.
use Rattle.std.proofs.Common.{◌≡◌, ℕ, Bool, true, if◌then◌else◌, List, [], ◌∷◌, ◌++◌, map, length, Some, None, slice_get, sym, ap, ◌∙◌, subst}
use Rattle.std.specs.Option.{option_and_then}
use Rattle.df_trail.proofs.Retreated.{decided_grown}
use Rattle.df_trail.proofs.Joined.{left_none, negations_are_literals}
use Rattle.df_form.proofs.Literals.{all_negated_twice}
use Rattle.df_form.specs.declared.log.Lit.{Lit}
use Rattle.df_form.specs.Node.{Node}
use Rattle.df_form.specs.Clause.{Clause, negation, is_among, are_literals}
use Rattle.df_form.specs.Log.{Combination}
use Rattle.df_form.specs.Sequent.{Sequent}
use Rattle.df_row.specs.Row.{Row}
use Rattle.df_row.specs.Linear.{rows_of, refutes, linear_of, linear_line}
use Rattle.df_rules.specs.Propagation.{left, is_empty, propagation_line}
use Rattle.df_clause.specs.declared.clause.GroundClause as declared
use Rattle.df_closure.specs.Closure.{GroundClause, ground_of, Taught, after, IsRefuted}
use Rattle.df_closure.specs.Closes.{Closes}
use Rattle.df_closure.specs.declared.closure.Closure.{Closure}
use Rattle.df_logbuild.specs.declared.derivation.Derivation.{Derivation}
use Rattle.df_logbuild.specs.Runs.{Runs}
use Rattle.df_trail.specs.declared.decision.Conflict.{Conflict}
use Rattle.df_trail.specs.Trail.{branch_of, HasAll}
use Rattle.df_clause.specs.Among.{Among}
use Rattle.df_cong.specs.declared.answer.Reason.{Reason}
use Rattle.df_classes.specs.Equal.{IsContradicted}
use Rattle.df_cong.proofs.Growing.{reason_contradicts}
use Rattle.df_branch.specs.Evidence.{IsOfEquality, IsShut, by_congruence, by_rows}
use Rattle.df_branch.specs.Place.{IsPlace}
use Rattle.df_branch.specs.Leaf.{IsUnsolvable, IsIncongruent}
use Rattle.df_search.specs.declared.searching.State.{State}
use Rattle.df_search.specs.Searching.{clauses_of, branches_of, AreCounted, IsPath, IsSearching, IsFinished}
use Rattle.df_search.specs.Places.{place_in, AreIn}
use Rattle.df_search.proofs.Lines.{refuted_is_line, closed_is_line}
use Rattle.df_search.proofs.Members.{contained_among, among_contained}
use Rattle.df_search.proofs.Turning.{in_longer}

module _ (s : Sequent) (rounds : ℕ) (all : List Clause) (old : State) (is : IsSearching s rounds all old) (derivation : Derivation) (nodes : derivation.nodes ≡ old.derivation.nodes) where
  place_there : IsPlace old.set (clauses_of old) derivation.nodes (branch_of old.trail)
  place_there = subst (λ (ns : List Node). IsPlace old.set (clauses_of old) ns (branch_of old.trail)) (sym nodes) is.standing.place

  equalities_there : (clause : GroundClause) → Among is.standing.more clause → IsOfEquality derivation.nodes clause
  equalities_there clause there = subst (λ (ns : List Node). IsOfEquality ns clause) (sym nodes) (is.standing.of_equalities clause there)

  -- a log of the same nodes that adds these clauses
  pub with_log : Runs s derivation all → IsSearching s rounds all (record old { derivation = derivation })
  with_log runs = record {
    standing = record {
      ground_set = is.standing.ground_set;
      is_of = is.standing.is_of;
      set_is = is.standing.set_is;
      more = is.standing.more;
      clauses_are = is.standing.clauses_are;
      of_equalities = equalities_there;
      lines = is.standing.lines;
      place = place_there;
      trail = is.standing.trail;
      path = subst (λ (ns : List Node). IsPath old.set ns (clauses_of old) old.trail) (sym nodes) is.standing.path;
      counted = subst (λ (ns : List Node). AreCounted s old.set ns (clauses_of old) (branches_of old)) (sym nodes) is.standing.counted;
    };
    runs = runs;
    leave = is.leave;
  }

  -- a further clause of the log
  pub one_more_clause : (clause : Clause) → Runs s derivation (all ++ clause ∷ []) → IsSearching s rounds (all ++ clause ∷ []) (record old { derivation = derivation })
  one_more_clause clause runs = record {
    standing = record {
      ground_set = is.standing.ground_set;
      is_of = is.standing.is_of;
      set_is = is.standing.set_is;
      more = is.standing.more;
      clauses_are = is.standing.clauses_are;
      of_equalities = equalities_there;
      lines = in_longer (clauses_of old) old.places.items all (clause ∷ []) is.standing.lines;
      place = place_there;
      trail = decided_grown all (clause ∷ []) [] old.trail.decisions.items is.standing.trail;
      path = subst (λ (ns : List Node). IsPath old.set ns (clauses_of old) old.trail) (sym nodes) is.standing.path;
      counted = subst (λ (ns : List Node). AreCounted s old.set ns (clauses_of old) (branches_of old)) (sym nodes) is.standing.counted;
    };
    runs = runs;
    leave = is.leave;
  }

  -- a clause that literals of the branch are not all true
  pub list_refuted : (list : List Lit) (conflict : Conflict) → HasAll (branch_of old.trail) list → IsShut old.derivation.nodes (clauses_of old) (branch_of old.trail) → Runs s derivation (all ++ map negation list ∷ []) → conflict.number ≡ old.derivation.clauses → conflict.needed.items ≡ list
      → IsFinished s rounds all (record old { derivation = derivation }) conflict
  list_refuted list conflict held shut runs number_is needed_is = record {
    standing = record {
      ground_set = is.standing.ground_set;
      is_of = is.standing.is_of;
      set_is = is.standing.set_is;
      more = is.standing.more;
      clauses_are = is.standing.clauses_are;
      of_equalities = equalities_there;
      lines = is.standing.lines;
      place = place_there;
      trail = is.standing.trail;
      path = subst (λ (ns : List Node). IsPath old.set ns (clauses_of old) old.trail) (sym nodes) is.standing.path;
      counted = subst (λ (ns : List Node). AreCounted s old.set ns (clauses_of old) (branches_of old)) (sym nodes) is.standing.counted;
    };
    closed = record {
      runs = subst (λ (ls : List Lit). Runs s derivation (all ++ map negation ls ∷ [])) (sym needed_is) runs;
      number_is = number_is ∙ sym is.runs.count;
      held = subst (HasAll (branch_of old.trail)) (sym needed_is) held;
      trail = is.standing.trail;
      formulas = place_there.formulas;
    };
    shut = subst (λ (ns : List Node). IsShut ns (clauses_of old) (branch_of old.trail)) (sym nodes) shut;
    leave = is.leave;
  }

pub linear_is : (nodes : List Node) (facts : List Lit) (rows : List Row) (combinations : List Combination) → are_literals nodes facts ≡ true → rows_of nodes facts ≡ Some rows → refutes (length nodes) rows combinations ≡ true
    → linear_line nodes (map negation facts) combinations ≡ Some (map negation facts)
linear_is nodes facts rows combinations formulas rows_are refuted =
    ap (λ (b : Bool). if b then option_and_then (linear_of nodes (map negation facts) combinations) (rows_of nodes (map negation (map negation facts))) else None) (negations_are_literals nodes facts formulas)
    ∙ ap (option_and_then (linear_of nodes (map negation facts) combinations)) (ap (rows_of nodes) (all_negated_twice facts) ∙ rows_are)
    ∙ ap (λ (b : Bool). if b then Some (map negation facts) else None) refuted

pub unsolvable_shut : (clauses : List GroundClause) (nodes : List Node) (branch reasons_facts : List Lit) (reasons : List ℕ) (rows : List Row) → IsUnsolvable clauses nodes branch reasons reasons_facts rows → IsShut nodes clauses branch
unsolvable_shut clauses nodes branch facts reasons rows is =
    by_rows reasons is.learned rows is.closed (subst (λ (ls : List Lit). are_literals nodes ls ≡ true) is.facts_are is.formulas) (subst (λ (ls : List Lit). rows_of nodes ls ≡ Some rows) is.facts_are is.rows_are) is.refuted

-- nothing is left of the clause that some facts are not all true
pub unsolvable_left : (clauses : List GroundClause) (nodes : List Node) (branch facts some : List Lit) (reasons : List ℕ) (rows : List Row) → (is : IsUnsolvable clauses nodes branch reasons facts rows) → HasAll facts some → is_empty (left (after branch is.learned) (map negation some)) ≡ true
unsolvable_left clauses nodes branch facts some reasons rows is held = ap is_empty (left_none (after branch is.learned) some (subst (λ (ls : List Lit). HasAll ls some) is.facts_are held))

-- congruence contradicts the closed list
module _ (clauses : List GroundClause) (nodes : List Node) (branch facts : List Lit) (reasons : List ℕ) (reason : Reason) (is : IsIncongruent clauses nodes branch reasons facts reason) where
  pub incongruent_shut : IsShut nodes clauses branch
  incongruent_shut =
      by_congruence reasons is.learned is.closed (subst (λ (ls : List Lit). are_literals nodes ls ≡ true) is.facts_are is.formulas)
      (subst (λ (ls : List Lit). IsContradicted nodes (map negation ls)) is.facts_are (reason_contradicts nodes facts reason is.is_reason))

  pub incongruent_left : is_empty (left (after branch is.learned) (map negation reason.literals.items)) ≡ true
  incongruent_left =
      ap is_empty (left_none (after branch is.learned) reason.literals.items (record {
        has = λ l there. subst (λ (ls : List Lit). is_among ls l ≡ true) is.facts_are (contained_among facts l (is.is_reason.from_held l (among_contained reason.literals.items l there)));
      }))

pub refuted_line : (nodes : List Node) (clauses : List GroundClause) (places : List ℕ) (all : List Clause) (branch : List Lit) (numbers : List ℕ) → AreIn clauses places all → are_literals nodes branch ≡ true → IsRefuted clauses branch numbers
    → propagation_line nodes all (map (place_in places) numbers) (map negation branch) ≡ Some (map negation branch)
refuted_line nodes clauses places all branch numbers are formulas is = refuted_is_line nodes clauses places all are branch (negations_are_literals nodes branch formulas) numbers is

pub taught_line : (nodes : List Node) (clauses : List GroundClause) (places : List ℕ) (all : List Clause) (list : List Lit) (reasons : List ℕ) (learned : List Lit) (last : ℕ) (clause : Clause) → AreIn clauses places all → are_literals nodes list ≡ true
    → Taught clauses list reasons learned → slice_get all last ≡ Some clause → is_empty (left (after list learned) clause) ≡ true → propagation_line nodes all (map (place_in places) reasons ++ last ∷ []) (map negation list) ≡ Some (map negation list)
taught_line nodes clauses places all list reasons learned last clause are formulas taught there empty = closed_is_line nodes clauses places all are list (negations_are_literals nodes list formulas) reasons learned last clause taught there empty

-- what closing a lent list answers
pub lent_closes : (lent clauses : List declared.GroundClause) (lent_list list : List Lit) (answer other : Closure) → Closes (map ground_of lent) lent_list answer → lent ≡ clauses → lent_list ≡ list → answer ≡ other → Closes (map ground_of clauses) list other
lent_closes lent clauses lent_list list answer other closes clauses_are list_is is =
    subst (λ (cs : List declared.GroundClause). Closes (map ground_of cs) list other) clauses_are (subst (λ (ls : List Lit). Closes (map ground_of lent) ls other) list_is (subst (Closes (map ground_of lent) lent_list) is closes))
