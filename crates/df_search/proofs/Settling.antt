-- Branches that end: their last decisions are taken back, as long as the list before the last one may be shut.
use Rattle.std.proofs.Common.{◌≡◌, ℕ, ℤ, true, List, [], ◌∷◌, ◌++◌, map, Vec, refl, sym, ap, ◌∙◌, subst}
use Rattle.std.specs.declared.alloc.Global.{Global}
use Rattle.std.proofs.lemmas.Bool.{and_from, and_parts}
use Rattle.df_form.specs.declared.log.Lit.{Lit}
use Rattle.df_form.specs.Node.{Node}
use Rattle.df_form.specs.Sorting.{is_formula}
use Rattle.df_form.specs.Clause.{Clause, negation, are_literals}
use Rattle.df_form.specs.Sequent.{Sequent}
use Rattle.df_row.specs.Row.{Row}
use Rattle.df_closure.specs.Closure.{GroundClause, IsRefuted}
use Rattle.df_trail.specs.declared.decision.Conflict.{Conflict}
use Rattle.df_trail.specs.declared.decision.Decision.{Decision}
use Rattle.df_trail.specs.declared.trail.Trail.{Trail}
use Rattle.df_trail.specs.Trail.{literal_of, literals_of, branch_of, decided, none_there, last_turned, IsKept, AreDecided}
use Rattle.df_trail.proofs.Retreated.{take_last, decided_grown}
use Rattle.df_logbuild.proofs.Added.{mapped_append}
use Rattle.df_branch.specs.Evidence.{IsUnshut, IsBranch}
use Rattle.df_branch.specs.Next.{IsQuiet, ComesNext}
use Rattle.df_branch.specs.Overflow.{of_rows}
use Rattle.df_branch.specs.Leaf.{IsUnsolvable, IsWideLeaf, IsManyLeaf}
use Rattle.df_branch.specs.Standing.{HasStanding, IsWideList, IsManyList}
use Rattle.df_search.specs.declared.searching.State.{State}
use Rattle.df_search.specs.declared.searching.End.{End}
use Rattle.df_search.specs.declared.searching.End.TheVariants as ends
use Rattle.df_search.specs.Searching.{clauses_of, branches_of, AllLeave, IsPathAfter, IsStanding, IsFinished, HasBranch, Searches, EndsAt, HasBefore}
use Rattle.df_search.proofs.Consistent.{trail_consistent}
use Rattle.df_search.proofs.Covering.{quiet_before}
use Rattle.df_search.proofs.Leaving.{all_leave_shorter}
use Rattle.df_search.proofs.Paths.{covers_self, path_at, follows_from, path_is_branch}
use Rattle.df_search.proofs.Turning.{in_longer, place_for}

pub formulas_front : (nodes : List Node) (first others : List Lit) → are_literals nodes (first ++ others) ≡ true → are_literals nodes first ≡ true
formulas_front nodes [] others e = refl
formulas_front nodes (l ∷ first) others e =
    let parts = and_parts (is_formula nodes l.node) (are_literals nodes (first ++ others)) e in
    and_from (is_formula nodes l.node) (are_literals nodes first) parts.0 (formulas_front nodes first others parts.1)

-- ---- what the rows of a quiet list say

module _ (nodes : List Node) (clauses : List GroundClause) (list learned : List Lit) (quiet : IsQuiet nodes clauses list learned) where
  pub unshut_here : (is : HasStanding clauses nodes list) → IsUnshut nodes clauses list is.learned
  unshut_here is = record {
    reasons = is.reasons;
    closed = is.closed;
    formulas = is.formulas;
    quiet = quiet_before nodes clauses list learned quiet list is.learned is.reasons (covers_self list) is.closed;
    rows = is.rows;
    rows_are = is.rows_are;
    unrefuted = is.unrefuted;
  }

  pub wide_here : (set : List Node) → IsWideList clauses nodes list → IsWideLeaf set clauses nodes list
  wide_here set is = record {
    reasons = is.reasons;
    learned = is.learned;
    closed = is.closed;
    formulas = is.formulas;
    quiet = quiet_before nodes clauses list learned quiet list is.learned is.reasons (covers_self list) is.closed;
    overflows = of_rows is.overflows;
  }

  pub many_here : (count : ℕ) → IsManyList clauses nodes list count → IsManyLeaf clauses nodes list count
  many_here count is = record {
    is = is.is;
    reasons = is.reasons;
    learned = is.learned;
    closed = is.closed;
    formulas = is.formulas;
    quiet = quiet_before nodes clauses list learned quiet list is.learned is.reasons (covers_self list) is.closed;
    rows = is.rows;
    rows_are = is.rows_are;
    many = is.many;
  }

-- ---- a search whose branch ends

module _ (s : Sequent) (rounds : ℕ) where
  finished_searches : (front : List Clause) (state : State) (conflict : Conflict) → IsFinished s rounds front state conflict → Searches s rounds state
  finished_searches front state conflict is = record {
    all = front ++ map negation conflict.needed.items ∷ [];
    is = record {
      standing = record {
        ground_set = is.standing.ground_set;
        is_of = is.standing.is_of;
        set_is = is.standing.set_is;
        more = is.standing.more;
        clauses_are = is.standing.clauses_are;
        of_equalities = is.standing.of_equalities;
        lines = in_longer (clauses_of state) state.places.items front (map negation conflict.needed.items ∷ []) is.standing.lines;
        place = is.standing.place;
        trail = decided_grown front (map negation conflict.needed.items ∷ []) [] state.trail.decisions.items is.standing.trail;
        path = is.standing.path;
        counted = is.standing.counted;
      };
      runs = is.closed.runs;
      leave = is.leave;
    };
  }

  pub ends_searches : (state : State) (ending : End) → EndsAt s rounds state ending → Searches s rounds state
  ends_searches state (ends.Closed conflict) h = finished_searches h.front state conflict h.is
  ends_searches state ends.Wide h = h.0
  ends_searches state (ends.Many count) h = h.0

  -- where other numbers are kept as a point
  module _ (old : State) (point : Vec ℤ Global) where
    abbrev pointed : State
    pointed = record old { point = point }

    standing_pointed : (all : List Clause) → IsStanding s rounds all old → IsStanding s rounds all pointed
    standing_pointed all is = record {
      ground_set = is.ground_set;
      is_of = is.is_of;
      set_is = is.set_is;
      more = is.more;
      clauses_are = is.clauses_are;
      of_equalities = is.of_equalities;
      lines = is.lines;
      place = is.place;
      trail = is.trail;
      path = is.path;
      counted = is.counted;
    }

    searches_pointed : Searches s rounds old → Searches s rounds pointed
    searches_pointed h = record { all = h.all; is = record { standing = standing_pointed h.all h.is.standing; runs = h.is.runs; leave = h.is.leave } }

    pub ends_pointed : (ending : End) → EndsAt s rounds old ending → EndsAt s rounds pointed ending
    ends_pointed (ends.Closed conflict) h = record { front = h.front; is = record { standing = standing_pointed h.front h.is.standing; closed = h.is.closed; shut = h.is.shut; leave = h.is.leave } }
    ends_pointed ends.Wide h = (searches_pointed h.0, h.1)
    ends_pointed (ends.Many count) h = (searches_pointed h.0, h.1)

  -- where no list of the first decisions is shut, since the last one was turned
  pub kept_branch : (state : State) → IsKept state.trail → Searches s rounds state → HasBranch state
  kept_branch state (none_there none) h = subst (λ (ds : List Decision). IsBranch state.set state.derivation.nodes (clauses_of state) (literals_of ds)) (sym none) tt
  kept_branch state (last_turned kept last is closed) h =
      let there = path_at state.set state.derivation.nodes (clauses_of state) [] kept last [] (subst (IsPathAfter state.set state.derivation.nodes (clauses_of state) []) is h.is.standing.path) in
      path_is_branch state.set state.derivation.nodes (clauses_of state) state.trail kept last is h.is.standing.path (there.follows closed)

  -- ---- the branch without its last decision, whose other side is open

  module _ (old : State) (before : List Lit) (has : HasBefore old before) where
    abbrev kept : List Decision
    kept = has.0.kept

    abbrev last : Decision
    last = decided has.0.literal

    path_there : Searches s rounds old → IsPathAfter old.set old.derivation.nodes (clauses_of old) [] (kept ++ last ∷ [])
    path_there h = subst (IsPathAfter old.set old.derivation.nodes (clauses_of old) []) has.0.is h.is.standing.path

    next_there : Searches s rounds old → ComesNext old.set old.derivation.nodes (clauses_of old) (literals_of kept) has.0.literal
    next_there h = (path_at old.set old.derivation.nodes (clauses_of old) [] kept last [] (path_there h)).next

    pub stands_branch : HasStanding (clauses_of old) old.derivation.nodes before → Searches s rounds old → HasBranch old
    stands_branch stands h =
        let next = next_there h in
        let here = subst (λ (ls : List Lit). HasStanding (clauses_of old) old.derivation.nodes ls) has.1 stands in
        let unshut = unshut_here old.derivation.nodes (clauses_of old) (literals_of kept) next.learned next.quiet here in
        path_is_branch old.set old.derivation.nodes (clauses_of old) old.trail kept last has.0.is h.is.standing.path (follows_from old.set old.derivation.nodes (clauses_of old) (literals_of kept) has.0.literal here.learned unshut next)

    module _ (trail : Trail) (taken : trail.decisions.items ≡ kept) where
      abbrev shorter : State
      shorter = record old { trail = trail }

      branch_is : branch_of trail ≡ before
      branch_is = ap literals_of taken ∙ sym has.1

      formulas : are_literals old.derivation.nodes (branch_of old.trail) ≡ true → are_literals old.derivation.nodes (branch_of trail) ≡ true
      formulas e =
          ap (λ (ds : List Decision). are_literals old.derivation.nodes (literals_of ds)) taken
          ∙ formulas_front old.derivation.nodes (literals_of kept) (has.0.literal ∷ []) (ap (are_literals old.derivation.nodes) (sym (ap literals_of has.0.is ∙ mapped_append literal_of kept last)) ∙ e)

      pub shorter_searches : Searches s rounds old → Searches s rounds shorter
      shorter_searches h =
          let decisions = subst (AreDecided h.all []) (sym taken) (take_last h.all [] kept last (subst (AreDecided h.all []) has.0.is h.is.standing.trail)).others in
          record {
            all = h.all;
            is = record {
              standing = record {
                ground_set = h.is.standing.ground_set;
                is_of = h.is.standing.is_of;
                set_is = h.is.standing.set_is;
                more = h.is.standing.more;
                clauses_are = h.is.standing.clauses_are;
                of_equalities = h.is.standing.of_equalities;
                lines = h.is.standing.lines;
                place = place_for old.set (clauses_of old) old.derivation.nodes (branch_of old.trail) (branch_of trail) h.is.standing.place (formulas h.is.standing.place.formulas) (trail_consistent h.all trail decisions);
                trail = decisions;
                path = subst (IsPathAfter old.set old.derivation.nodes (clauses_of old) []) (sym taken) (path_at old.set old.derivation.nodes (clauses_of old) [] kept last [] (path_there h)).path;
                counted = h.is.standing.counted;
              };
              runs = h.is.runs;
              leave = subst (λ (ds : List Decision). AllLeave ds (branches_of old)) (sym taken) (all_leave_shorter old.trail.decisions.items kept last (branches_of old) has.0.is refl h.is.leave);
            };
          }

      quiet_there : (h : Searches s rounds old) → IsQuiet old.derivation.nodes (clauses_of old) before (next_there h).learned
      quiet_there h = subst (λ (ls : List Lit). IsQuiet old.derivation.nodes (clauses_of old) ls (next_there h).learned) (sym has.1) (next_there h).quiet

      pub wide_there : IsWideList (clauses_of old) old.derivation.nodes before → Searches s rounds old → EndsAt s rounds shorter ends.Wide
      wide_there wide h = (
        shorter_searches h,
        subst (λ (ls : List Lit). IsWideLeaf old.set (clauses_of old) old.derivation.nodes ls) (sym branch_is) (wide_here old.derivation.nodes (clauses_of old) before (next_there h).learned (quiet_there h) old.set wide),
      )

      pub many_there : (count : ℕ) → IsManyList (clauses_of old) old.derivation.nodes before count → Searches s rounds old → EndsAt s rounds shorter (ends.Many count)
      many_there count many h = (
        shorter_searches h,
        subst (λ (ls : List Lit). IsManyLeaf (clauses_of old) old.derivation.nodes ls count) (sym branch_is) (many_here old.derivation.nodes (clauses_of old) before (next_there h).learned (quiet_there h) count many),
      )

      pub refuted_there : (numbers : List ℕ) → IsRefuted (clauses_of old) before numbers → IsRefuted (clauses_of old) (branch_of trail) numbers
      refuted_there numbers is = subst (λ (ls : List Lit). IsRefuted (clauses_of old) ls numbers) (sym branch_is) is

      pub unsolvable_there : (reasons : List ℕ) (facts : List Lit) (rows : List Row) → IsUnsolvable (clauses_of old) old.derivation.nodes before reasons facts rows → IsUnsolvable (clauses_of old) old.derivation.nodes (branch_of trail) reasons facts rows
      unsolvable_there reasons facts rows is = subst (λ (ls : List Lit). IsUnsolvable (clauses_of old) old.derivation.nodes ls reasons facts rows) (sym branch_is) is
