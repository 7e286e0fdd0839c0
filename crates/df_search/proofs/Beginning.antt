-- A search begins.
use Rattle.std.proofs.Common.{◌≡◌, ℕ, ◌+◌, ◌<◌, true, List, [], map, length, take, Vec, Some, slice_get, sym, ap, ◌∙◌, subst, arith, append-nil}
use Rattle.std.proofs.lemmas.List.{take_all}
use Rattle.std.specs.List.{list_all, range_with_len}
use Rattle.df_clause.specs.Among.{Among}
use Rattle.std.specs.declared.alloc.Global.{Global}
use Rattle.std.proofs.lemmas.Option.{slice_get_within, slice_get-map}
use Rattle.std.specs.Option.{option_map}
use Rattle.df_form.specs.declared.log.Lit.{Lit}
use Rattle.df_form.specs.Node.{Node}
use Rattle.df_form.specs.Clause.{Clause, are_literals}
use Rattle.df_form.specs.Sorting.{IsTable}
use Rattle.df_form.specs.Sequent.{Sequent, IsSequent}
use Rattle.df_form.specs.Log.{step_of}
use Rattle.df_rules.specs.Derivation.{begin, after_all}
use Rattle.df_clause.specs.declared.ground.Ground.{Ground}
use Rattle.df_clause.specs.GroundView.{IsGround, literals_of as clause_literals, state_of}
use Rattle.df_trig.specs.Instances.{IsInstances}
use Rattle.df_closure.specs.Closure.{GroundClause}
use Rattle.df_closure.specs.Full.{IsConsistent}
use Rattle.df_trail.specs.declared.decision.Decision.{Decision}
use Rattle.df_trail.specs.Trail.{literals_of, branch_of, AreDecided}
use Rattle.df_branch.specs.Place.{HaveMeanings, IsPlace}
use Rattle.df_branch.proofs.GroundMeanings.{have_meanings}
use Rattle.df_search.specs.Places.{place_in}
use Rattle.df_search.specs.declared.searching.State.{State}
use Rattle.df_search.specs.Searching.{clauses_of, AreCounted, AllLeave, IsPathAfter, Searches}
use Rattle.df_search.proofs.Consistent.{none_consistent}
use Rattle.std.proofs.lemmas.List.FromFn.{length-range_with_len, get_or-range_with_len}
use Rattle.df_closure.proofs.Rounds.{length_mapped}

pub begins : (s : Sequent) (rounds : ℕ) (g : Ground) (state : State) → IsSequent s → IsInstances s rounds g → IsGround s g → state.set ≡ g.nodes → clauses_of state ≡ g.clauses → state.places.items ≡ range_with_len 0 (length g.clauses) → state.derivation.nodes ≡ g.nodes → state.derivation.lines ≡ g.lines → state.derivation.clauses ≡ length g.clauses
    → state.trail.decisions.items ≡ [] → state.closed.items ≡ [] → Searches s rounds state
begins s rounds g state valid own is set_is clauses_are places_are nodes_are lines_are count_is trail_is closed_is = record {
  all = all;
  is = record {
    standing = record {
      ground_set = g;
      is_of = own;
      set_is = set_is;
      more = [];
      clauses_are = clauses_are ∙ sym (append-nil g.clauses);
      of_equalities = λ clause there. absurd (none_among clause there);
      lines = record { long = long; at = λ n clause there. at_place n clause there };
      place = place;
      trail = subst (AreDecided all []) (sym trail_is) tt;
      path = subst (IsPathAfter state.set state.derivation.nodes (clauses_of state) []) (sym trail_is) tt;
      counted = subst (λ (vs : List (Vec Lit Global)). AreCounted s state.set state.derivation.nodes (clauses_of state) (map (λ (v : Vec Lit Global). v.items) vs)) (sym closed_is) tt;
    };
    runs = record {
      run = (λ i. after_all s (begin s) (map step_of (lines_are i).items)) ∙ is.run ∙ (λ i. Some (record { nodes = sym nodes_are i; clauses = all }));
      count = length_mapped clause_literals g.clauses ∙ sym count_is;
    };
    leave = subst (λ (vs : List (Vec Lit Global)). AllLeave state.trail.decisions.items (map (λ (v : Vec Lit Global). v.items) vs)) (sym closed_is) tt;
  };
}
  where
    all : List Clause
    all = (state_of g).clauses

    none_among : (clause : GroundClause) → Among [] clause → ⊥
    none_among clause (n, at) = absurd cc

    long : length state.places.items ≡ length (clauses_of state)
    long = ap length places_are ∙ length-range_with_len 0 (length g.clauses) ∙ sym (ap length clauses_are)

    at_place : (n : ℕ) (clause : GroundClause) → slice_get (clauses_of state) n ≡ Some clause → slice_get all (place_in state.places.items n) ≡ Some clause.literals
    at_place n clause there =
        let here = sym (ap (λ (cs : List GroundClause). slice_get cs n) clauses_are) ∙ there in
        let less : n < length g.clauses = slice_get_within g.clauses n clause here in
        let from_zero : 0 + n ≡ n = omega arith in
        let own : place_in state.places.items n ≡ n = ap (λ (ns : List ℕ). place_in ns n) places_are ∙ get_or-range_with_len 0 (length g.clauses) n 0 less ∙ from_zero in
        ap (slice_get all) own ∙ slice_get-map clause_literals g.clauses n ∙ ap (option_map clause_literals) here

    formulas : list_all (λ (clause : GroundClause). are_literals state.derivation.nodes clause.literals) (clauses_of state) ≡ true
    formulas = (λ i. list_all (λ (clause : GroundClause). are_literals (nodes_are i) clause.literals) (clauses_are i)) ∙ is.literals

    place : IsPlace state.set (clauses_of state) state.derivation.nodes (branch_of state.trail)
    place = record {
      table = subst IsTable (sym nodes_are) is.table;
      begins = (λ i. take (length (set_is i)) (nodes_are i)) ∙ take_all (length g.nodes) g.nodes (omega arith) ∙ sym set_is;
      formulas = ap (λ (ds : List Decision). are_literals state.derivation.nodes (literals_of ds)) trail_is;
      consistent = subst IsConsistent (sym (ap literals_of trail_is)) none_consistent;
      clause_formulas = formulas;
      meanings = subst (λ (ns : List Node). HaveMeanings ns (clauses_of state)) (sym nodes_are) (subst (HaveMeanings g.nodes) (sym clauses_are) (have_meanings s g is));
    }
