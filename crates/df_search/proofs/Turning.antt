-- A branch that is closed, counted, and left.
use Rattle.std.proofs.Common.{◌≡◌, ℕ, true, List, [], ◌∷◌, ◌++◌, map, length, take, Vec, Option, Some, refl, sym, ap, ◌∙◌, subst, arith}
use Rattle.std.specs.Option.{option_and_then}
use Rattle.std.proofs.lemmas.List.{map-append}
use Rattle.std.proofs.lemmas.Option.{none-some}
use Rattle.std.specs.declared.alloc.Global.{Global}
use Rattle.df_lemmas.proofs.Lists.{get_grown, get_last}
use Rattle.df_form.specs.declared.log.Lit.{Lit}
use Rattle.df_form.specs.Node.{Node}
use Rattle.df_form.specs.Clause.{Clause, negation, are_literals}
use Rattle.df_form.specs.Sequent.{Sequent}
use Rattle.df_form.specs.Log.{Propagation, step_of}
use Rattle.df_rules.specs.Derivation.{begin, only_clause, adds, after_all, Derives}
use Rattle.df_rules.specs.Propagation.{is_empty, propagation_line}
use Rattle.df_rules.proofs.Logs.{after_all-append}
use Rattle.df_closure.specs.Closure.{GroundClause, nothing}
use Rattle.df_closure.specs.Full.{IsConsistent}
use Rattle.df_logbuild.specs.declared.derivation.Derivation.{Derivation}
use Rattle.df_logbuild.specs.Runs.{state_of}
use Rattle.df_trail.specs.declared.decision.Conflict.{Conflict}
use Rattle.df_trail.specs.declared.trail.Trail.{Trail}
use Rattle.df_trail.specs.Trail.{branch_of, IsTurned, HasTurned, HasEnded}
use Rattle.df_branch.specs.Evidence.{IsOfEquality, IsGroundIn, HasLog, IsClosedBranch, AreClosedBranches}
use Rattle.df_branch.specs.Place.{IsPlace}
use Rattle.df_branch.proofs.Equalities.{equalities_of}
use Rattle.df_search.specs.Places.{place_in, AreIn}
use Rattle.df_search.specs.declared.searching.State.{State}
use Rattle.df_search.specs.Found.{AreSpent}
use Rattle.df_search.specs.Searching.{clauses_of, branches_of, AreCounted, AllApart, AllLeaveOr, IsPath, IsStanding, IsSearching, IsFinished, HasBranch, IsCounted}
use Rattle.df_closure.proofs.Rounds.{length_mapped}
use Rattle.df_logbuild.proofs.Added.{finished}
use Rattle.df_search.proofs.Consistent.{trail_consistent}
use Rattle.df_trail.proofs.Joined.{left_none, negations_are_literals}
use Rattle.df_search.proofs.Lines.{closed_is_line}
use Rattle.df_search.proofs.Leaving.{counted_last, closed_of, leave_or, leave_or_last, all_leave}
use Rattle.df_search.proofs.Paths.{path_turned}

pub in_longer : (clauses : List GroundClause) (places : List ℕ) (log more : List Clause) → AreIn clauses places log → AreIn clauses places (log ++ more)
in_longer clauses places log more are = record { long = are.long; at = λ n clause there. get_grown log more (place_in places n) clause.literals (are.at n clause there) }

-- a place is one for another branch, where its literals are of formulas
pub place_for : (set : List Node) (clauses : List GroundClause) (nodes : List Node) (branch other : List Lit) → IsPlace set clauses nodes branch → are_literals nodes other ≡ true → IsConsistent other → IsPlace set clauses nodes other
place_for set clauses nodes branch other place formulas consistent = record { table = place.table; begins = place.begins; formulas = formulas; consistent = consistent; clause_formulas = place.clause_formulas; meanings = place.meanings }

module _ (s : Sequent) (rounds : ℕ) (front : List Clause) (conflict : Conflict) (old : State) (is : IsFinished s rounds front old conflict) where
  pub counts_not : HasBranch old → IsCounted s rounds front old conflict
  counts_not is_branch = record { standing = is.standing; closed = is.closed; branch = is_branch; leave = leave_or old.trail.decisions.items (branches_of old) is.leave }

  abbrev clauses_now : List Clause
  clauses_now = front ++ map negation conflict.needed.items ∷ []

  -- the branch is not, since some of its literals are not all true
  branch_line : propagation_line old.derivation.nodes clauses_now (length front ∷ []) (map negation (branch_of old.trail)) ≡ Some (map negation (branch_of old.trail))
  branch_line =
      closed_is_line old.derivation.nodes [] [] clauses_now (record { long = refl; at = λ n clause there. absurd (none-some clause there) }) (branch_of old.trail) (negations_are_literals old.derivation.nodes (branch_of old.trail) is.closed.formulas)
      [] [] (length front) (map negation conflict.needed.items) nothing (get_last front (map negation conflict.needed.items)) (ap is_empty (left_none (branch_of old.trail) conflict.needed.items is.closed.held))

  -- a log that says so, with one line more
  has_log : HasLog s old.derivation.nodes (branch_of old.trail)
  has_log = record {
    log = map step_of old.derivation.lines.items ++ Propagation (length front ∷ []) (map negation (branch_of old.trail)) ∷ [];
    clauses = clauses_now ++ map negation (branch_of old.trail) ∷ [];
    run =
        after_all-append s (begin s) (map step_of old.derivation.lines.items) (Propagation (length front ∷ []) (map negation (branch_of old.trail)) ∷ [])
        ∙ ap (option_and_then (λ next. after_all s next (Propagation (length front ∷ []) (map negation (branch_of old.trail)) ∷ []))) is.closed.runs.run
        ∙ ap (λ (o : Option Clause). option_and_then (λ next. after_all s next []) (adds (state_of old.derivation clauses_now) (only_clause old.derivation.nodes o))) branch_line;
    number = length clauses_now;
    there = get_last clauses_now (map negation (branch_of old.trail));
  }

  closed_branch : HasBranch old → IsClosedBranch s old.set old.derivation.nodes (clauses_of old) (branch_of old.trail)
  closed_branch is_branch = record { branch_is = is_branch; shut = is.shut; has_log = has_log }

  pub counts_it : HasBranch old → (branch : Vec Lit Global) (closed : Vec (Vec Lit Global) Global) → branch.items ≡ branch_of old.trail → AllApart branch.items (branches_of old) → closed.items ≡ old.closed.items ++ branch ∷ [] → IsCounted s rounds front (record old { closed = closed }) conflict
  counts_it is_branch branch closed branch_is apart closed_is =
      let same : map (λ (b : Vec Lit Global). b.items) closed.items ≡ branches_of old ++ branch.items ∷ [] = ap (map (λ (b : Vec Lit Global). b.items)) closed_is ∙ map-append (λ (b : Vec Lit Global). b.items) old.closed.items (branch ∷ []) in
      record {
        standing = record {
          ground_set = is.standing.ground_set;
          is_of = is.standing.is_of;
          set_is = is.standing.set_is;
          more = is.standing.more;
          clauses_are = is.standing.clauses_are;
          of_equalities = is.standing.of_equalities;
          lines = is.standing.lines;
          place = is.standing.place;
          trail = is.standing.trail;
          path = is.standing.path;
          counted = subst (AreCounted s old.set old.derivation.nodes (clauses_of old)) (sym same)
              (counted_last s old.set old.derivation.nodes (clauses_of old) old.trail.decisions.items branch.items branch_is (subst (IsClosedBranch s old.set old.derivation.nodes (clauses_of old)) (sym branch_is) (closed_branch is_branch)) (branches_of old) is.leave apart is.standing.counted);
        };
        closed = is.closed;
        branch = is_branch;
        leave = subst (AllLeaveOr old.trail.decisions.items) (sym same) (leave_or_last old.trail.decisions.items (branches_of old) branch.items branch_is is.leave);
      }

module _ (s : Sequent) (rounds : ℕ) (front : List Clause) (conflict : Conflict) (mid : State) (is : IsCounted s rounds front mid conflict) (derivation : Derivation) (trail : Trail) (nodes : derivation.nodes ≡ mid.derivation.nodes) where
  pub turned_searches : (has : HasTurned s derivation trail front) → IsTurned mid.trail trail → IsSearching s rounds (front ++ has.more) (record mid { derivation = derivation; trail = trail })
  turned_searches has turned_it = record {
    standing = record {
      ground_set = is.standing.ground_set;
      is_of = is.standing.is_of;
      set_is = is.standing.set_is;
      more = is.standing.more;
      clauses_are = is.standing.clauses_are;
      of_equalities = λ clause there. subst (λ (ns : List Node). IsOfEquality ns clause) (sym nodes) (is.standing.of_equalities clause there);
      lines = in_longer (clauses_of mid) mid.places.items front has.more is.standing.lines;
      place = place_for mid.set (clauses_of mid) derivation.nodes (branch_of mid.trail) (branch_of trail) (subst (λ (ns : List Node). IsPlace mid.set (clauses_of mid) ns (branch_of mid.trail)) (sym nodes) is.standing.place) has.formulas (trail_consistent (front ++ has.more) trail has.trail);
      trail = has.trail;
      path = subst (λ (ns : List Node). IsPath mid.set ns (clauses_of mid) trail) (sym nodes) (path_turned mid.set mid.derivation.nodes (clauses_of mid) mid.trail trail turned_it is.standing.path is.branch);
      counted = subst (λ (ns : List Node). AreCounted s mid.set ns (clauses_of mid) (branches_of mid)) (sym nodes) is.standing.counted;
    };
    runs = has.runs;
    leave = all_leave mid.trail.decisions.items trail.decisions.items turned_it.kept turned_it.decision turned_it.taken turned_it.conflict turned_it.old_is turned_it.side_open turned_it.new_is (branches_of mid) is.leave;
  }

pub ended_derives : (s : Sequent) (front : List Clause) (derivation : Derivation) → HasEnded s derivation front → Derives s (map step_of derivation.lines.items)
ended_derives s front derivation has = finished s derivation (front ++ has.more) has.runs

abbrev pub ground_in : (s : Sequent) (rounds : ℕ) (all : List Clause) (state : State) → IsStanding s rounds all state → IsGroundIn s rounds state.derivation.nodes (clauses_of state)
ground_in s rounds all state is = record {
  set = is.ground_set;
  own = rounds;
  within = omega arith;
  is_of = is.is_of;
  more = is.more;
  clauses_are = is.clauses_are;
  of_equalities = is.of_equalities;
  equalities = equalities_of state.derivation.nodes (clauses_of state) is.place.meanings;
  table = is.place.table;
  begins = subst (λ (ns : List Node). take (length ns) state.derivation.nodes ≡ ns) is.set_is is.place.begins;
}

pub spent : (s : Sequent) (rounds : ℕ) (all : List Clause) (state : State) (steps : ℕ) → IsSearching s rounds all state → length state.closed.items ≡ steps → AreSpent s steps rounds (branches_of state)
spent s rounds all state steps is count = record {
  nodes = state.derivation.nodes;
  clauses = clauses_of state;
  of_sequent = ground_in s rounds all state is.standing;
  closed = subst (λ (set : List Node). AreClosedBranches s set state.derivation.nodes (clauses_of state) (branches_of state)) is.standing.set_is (closed_of s state.set state.derivation.nodes (clauses_of state) (branches_of state) is.standing.counted);
  count = length_mapped (λ (b : Vec Lit Global). b.items) state.closed.items ∙ count;
}
