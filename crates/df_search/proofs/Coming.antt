-- What comes at a leaf.
use Rattle.std.proofs.Common.{◌≡◌, inl, ⊎_elim, ℕ, zero, suc, true, false, List, [], ◌∷◌, ◌++◌, Some, slice_get, refl, sym, ap, ◌∙◌, subst}
use Rattle.std.specs.List.{list_all, list_any}
use Rattle.std.proofs.lemmas.Option.{same_Some}
use Rattle.std.proofs.lemmas.Bool.{and_from, or_cases, or_parts, cases_Bool, and_parts}
use Rattle.df_lemmas.proofs.Truths.{true_is_not_false}
use Rattle.df_table.specs.declared.table.Table.{Table}
use Rattle.df_form.specs.declared.log.Lit.{Lit}
use Rattle.df_form.specs.Node.{Node}
use Rattle.df_form.specs.Sorting.{is_formula}
use Rattle.df_form.specs.Clause.{Clause, negation, same_literal, is_among, are_literals}
use Rattle.df_form.specs.Sequent.{Sequent, IsSequent}
use Rattle.df_closure.specs.Closure.{GroundClause, after}
use Rattle.df_closure.specs.Full.{IsConsistent}
use Rattle.df_trail.specs.declared.decision.Decision.{Decision}
use Rattle.df_trail.specs.declared.trail.Trail.{Trail}
use Rattle.df_trail.specs.Trail.{literals_of, branch_of, decided, IsUndecided, AreDecided}
use Rattle.df_branch.specs.Evidence.{of_clause, IsBranch, AreClosedBranches}
use Rattle.df_branch.specs.Next.{ComesNext}
use Rattle.df_branch.specs.Leaf.{IsOpenLeaf, IsWideLeaf, IsManyLeaf, IsModelOf}
use Rattle.df_search.specs.declared.searching.State.{State}
use Rattle.df_search.specs.Found.{HasModel, AllExclude, IsStop, IsTooWide, HasManyRows}
use Rattle.df_search.specs.Searching.{clauses_of, branches_of, AllLeave, HasBranch, IsSearching}
use Rattle.df_rules.proofs.SoundClauses.{same_literal_is}
use Rattle.df_trail.proofs.Retreated.{put_last}
use Rattle.df_search.proofs.Covering.{Covers, covers_after}
use Rattle.df_search.proofs.Paths.{path_decided}
use Rattle.df_search.proofs.Consistent.{consistent_more}
use Rattle.df_branch.proofs.Consistency.{consistent_after}
use Rattle.df_search.proofs.Leaving.{literals_split, all_leave_decided, incompatible, closed_of}
use Rattle.df_trig.proofs.Grounds.{instances_ground}
use Rattle.df_search.proofs.Turning.{place_for, ground_in}

uncovered : (wide known : List Lit) (l : Lit) → Covers wide known → is_among wide l ≡ false → is_among known l ≡ false
uncovered wide known l covers e = ⊎_elim (λ there. absurd (true_is_not_false (is_among wide l) (covers.has l there) e)) (λ not_there. not_there) (cases_Bool (is_among known l))

formulas_more : (nodes : List Node) (literals : List Lit) (l : Lit) → are_literals nodes literals ≡ true → is_formula nodes l.node ≡ true → are_literals nodes (literals ++ l ∷ []) ≡ true
formulas_more nodes [] l e f = and_from (is_formula nodes l.node) true f refl
formulas_more nodes (m ∷ literals) l e f =
    let parts = and_parts (is_formula nodes m.node) (are_literals nodes literals) e in
    and_from (is_formula nodes m.node) (are_literals nodes (literals ++ l ∷ [])) parts.0 (formulas_more nodes literals l parts.1 f)

-- a further decision
pub decides : (s : Sequent) (rounds : ℕ) (all : List Clause) (old : State) → IsSearching s rounds all old → (l : Lit) → ComesNext old.set old.derivation.nodes (clauses_of old) (branch_of old.trail) l → is_formula old.derivation.nodes l.node ≡ true
    → (trail : Trail) → trail.decisions.items ≡ old.trail.decisions.items ++ decided l ∷ [] → IsSearching s rounds all (record old { trail = trail })
decides s rounds all old is l follows formula trail trail_is = record {
  standing = record {
    ground_set = is.standing.ground_set;
    is_of = is.standing.is_of;
    set_is = is.standing.set_is;
    more = is.standing.more;
    clauses_are = is.standing.clauses_are;
    of_equalities = is.standing.of_equalities;
    lines = is.standing.lines;
    place = place_for old.set (clauses_of old) old.derivation.nodes branch (branch_of trail) is.standing.place
        (ap (are_literals old.derivation.nodes) branch_is ∙ formulas_more old.derivation.nodes branch l is.standing.place.formulas formula)
        (subst IsConsistent (sym branch_is) (consistent_more branch l undecided is.standing.place.consistent));
    trail = subst (AreDecided all []) (sym trail_is) (put_last all [] old.trail.decisions.items (decided l) (record { others = is.standing.trail; undecided = undecided; closed = tt }));
    path = path_decided old.set old.derivation.nodes (clauses_of old) old.trail.decisions.items trail.decisions.items l trail_is is.standing.path follows;
    counted = is.standing.counted;
  };
  runs = is.runs;
  leave = all_leave_decided old.trail.decisions.items trail.decisions.items (decided l) (branches_of old) trail_is is.leave;
}
  where
    branch : List Lit
    branch = branch_of old.trail

    branch_is : branch_of trail ≡ branch ++ l ∷ []
    branch_is = ap literals_of trail_is ∙ literals_split old.trail.decisions.items (decided l ∷ [])

    undecided : IsUndecided branch l
    undecided = record {
      not_true = uncovered (after branch follows.learned) branch l (covers_after branch follows.learned) follows.not_true;
      not_false = uncovered (after branch follows.learned) branch (negation l) (covers_after branch follows.learned) follows.not_false;
    }

-- a literal of an open clause
none_among : (known clause : List Lit) (l : Lit) → list_any (is_among known) clause ≡ false → is_among clause l ≡ true → is_among known l ≡ false
none_among known [] l none there = absurd (true_is_not_false false there refl)
none_among known (m ∷ others) l none there =
    let parts = or_parts (is_among known m) (list_any (is_among known) others) none in
    ⊎_elim (λ here. subst (λ (q : Lit). is_among known q ≡ false) (sym (same_literal_is l m here)) parts.0) (λ rest. none_among known others l parts.1 rest) (or_cases (same_literal l m) (is_among others l) there)

pub literal_formula : (nodes : List Node) (clause : Clause) (l : Lit) → are_literals nodes clause ≡ true → is_among clause l ≡ true → is_formula nodes l.node ≡ true
literal_formula nodes [] l e there = absurd (true_is_not_false false there refl)
literal_formula nodes (m ∷ others) l e there =
    let parts = and_parts (is_formula nodes m.node) (are_literals nodes others) e in
    ⊎_elim (λ here. subst (λ (q : Lit). is_formula nodes q.node ≡ true) (sym (same_literal_is l m here)) parts.0) (λ rest. literal_formula nodes others l parts.1 rest) (or_cases (same_literal l m) (is_among others l) there)

clause_formulas : (nodes : List Node) (clauses : List GroundClause) (n : ℕ) (clause : GroundClause) → list_all (λ (c : GroundClause). are_literals nodes c.literals) clauses ≡ true → slice_get clauses n ≡ Some clause → are_literals nodes clause.literals ≡ true
clause_formulas nodes [] n clause e there = absurd cc
clause_formulas nodes (c ∷ others) zero clause e there =
    subst (λ (g : GroundClause). are_literals nodes g.literals ≡ true) (same_Some c clause there) (and_parts (are_literals nodes c.literals) (list_all (λ (c : GroundClause). are_literals nodes c.literals) others) e).0
clause_formulas nodes (c ∷ others) (suc n) clause e there = clause_formulas nodes others n clause (and_parts (are_literals nodes c.literals) (list_all (λ (c : GroundClause). are_literals nodes c.literals) others) e).1 there

pub open_follows : (clauses : List GroundClause) (set nodes : List Node) (branch : List Lit) (l : Lit) → IsOpenLeaf clauses nodes branch l → ComesNext set nodes clauses branch l
open_follows clauses set nodes branch l leaf = record {
  learned = leaf.learned;
  quiet = leaf.quiet;
  not_true = none_among (after branch leaf.learned) leaf.member.clause.literals l leaf.member.is_open.none leaf.member.in_clause;
  not_false = leaf.member.not_false;
  decision = inl (of_clause leaf.member.clause leaf.member.is_open leaf.member.in_clause);
}

-- the branch of the decisions is incompatible with what leaves them
pub all_exclude : (decisions : List Decision) (branches : List (List Lit)) → AllLeave decisions branches → AllExclude branches (literals_of decisions)
all_exclude decisions [] all = tt
all_exclude decisions (branch ∷ others) all = (incompatible decisions branch all.0, all_exclude decisions others all.1)

module _ (s : Sequent) (rounds : ℕ) (all : List Clause) (state : State) (is : IsSearching s rounds all state) where
  pub open_formula : (l : Lit) → IsOpenLeaf (clauses_of state) state.derivation.nodes (branch_of state.trail) l → is_formula state.derivation.nodes l.node ≡ true
  open_formula l leaf =
      literal_formula state.derivation.nodes leaf.member.clause.literals l
      (clause_formulas state.derivation.nodes (clauses_of state) leaf.member.is_open.number leaf.member.clause is.standing.place.clause_formulas leaf.member.is_open.there)
      leaf.member.in_clause

  pub open_decides : (l : Lit) → IsOpenLeaf (clauses_of state) state.derivation.nodes (branch_of state.trail) l → (trail : Trail) → trail.decisions.items ≡ state.trail.decisions.items ++ decided l ∷ [] → IsSearching s rounds all (record state { trail = trail })
  open_decides l leaf trail trail_is = decides s rounds all state is l (open_follows (clauses_of state) state.set state.derivation.nodes (branch_of state.trail) l leaf) (open_formula l leaf) trail trail_is

  pub modelled : (table : Table) → IsModelOf state.set (clauses_of state) table → IsSequent s → HasModel s rounds table
  modelled table model sequent = record {
    set = is.standing.ground_set;
    is_of = is.standing.is_of;
    model = model s is.standing.ground_set is.standing.more sequent (instances_ground s rounds is.standing.ground_set sequent is.standing.is_of) (sym is.standing.set_is) (sym is.standing.clauses_are);
  }

  -- where no list of the first decisions is shut
  module _ (branch : HasBranch state) where
    abbrev pub stop : IsStop s rounds state.derivation.nodes (clauses_of state) (branches_of state) (branch_of state.trail)
    stop = record {
      of_sequent = ground_in s rounds all state is.standing;
      are_closed = subst (λ (set : List Node). AreClosedBranches s set state.derivation.nodes (clauses_of state) (branches_of state)) is.standing.set_is (closed_of s state.set state.derivation.nodes (clauses_of state) (branches_of state) is.standing.counted);
      excluded = all_exclude state.trail.decisions.items (branches_of state) is.leave;
      is_branch = subst (λ (set : List Node). IsBranch set state.derivation.nodes (clauses_of state) (branch_of state.trail)) is.standing.set_is branch;
    }

    pub too_wide : IsWideLeaf state.set (clauses_of state) state.derivation.nodes (branch_of state.trail) → IsTooWide s rounds (branches_of state) (branch_of state.trail)
    too_wide wide = there (subst (λ (ns : List Node). IsWideLeaf ns (clauses_of state) state.derivation.nodes (branch_of state.trail)) is.standing.set_is wide)
      where
        there : IsWideLeaf is.standing.ground_set.nodes (clauses_of state) state.derivation.nodes (branch_of state.trail) → IsTooWide s rounds (branches_of state) (branch_of state.trail)
        there here = record {
          nodes = state.derivation.nodes;
          clauses = clauses_of state;
          stop = stop;
          wide = here;
          consistent = consistent_after (clauses_of state) (branch_of state.trail) here.reasons here.learned here.closed.taught is.standing.place.consistent;
        }

    pub many_rows : (count : ℕ) → IsManyLeaf (clauses_of state) state.derivation.nodes (branch_of state.trail) count → HasManyRows s rounds (branches_of state) (branch_of state.trail) count
    many_rows count many = record {
      nodes = state.derivation.nodes;
      clauses = clauses_of state;
      stop = stop;
      many = many;
      consistent = consistent_after (clauses_of state) (branch_of state.trail) many.reasons many.learned many.closed.taught is.standing.place.consistent;
    }
