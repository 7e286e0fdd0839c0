-- Trails shorter by one decision, and turned ones.
use Rattle.std.proofs.Common.{◌≡◌, Bool, true, false, ◌&&◌, List, [], ◌∷◌, ◌++◌, map, length, Option, Some, None, slice_get, refl, sym, ap, ◌∙◌, subst, append_assoc, append-nil}
use Rattle.std.specs.List.{list_all}
use Rattle.std.proofs.lemmas.Bool.{and_from, and_parts}
use Rattle.df_form.proofs.Literals.{negated_twice}
use Rattle.df_lemmas.proofs.Lists.{get_grown, get_last}
use Rattle.df_form.specs.declared.log.Lit.{Lit}
use Rattle.df_form.specs.Node.{Node}
use Rattle.df_form.specs.Sorting.{is_formula}
use Rattle.df_form.specs.Sequent.{Sequent}
use Rattle.df_form.specs.Clause.{Clause, negation, is_among, are_literals}
use Rattle.df_logbuild.specs.declared.derivation.Derivation.{Derivation}
use Rattle.df_logbuild.specs.Runs.{Runs}
use Rattle.df_trail.specs.declared.decision.Conflict.{Conflict}
use Rattle.df_trail.specs.declared.decision.Decision.{Decision}
use Rattle.df_trail.specs.declared.trail.Trail.{Trail}
use Rattle.df_trail.specs.Trail.{literal_of, literals_of, branch_of, turned, IsUndecided, HasAll, IsClosedBy, AreDecided, IsTrail, IsClosed, HasTurned, HasEnded, JoinsSides}
use Rattle.df_logbuild.proofs.Added.{mapped_append}
use Rattle.df_trail.proofs.Held.{all_but_last, all_of_none}

-- the last decision, after those before it
pub record IsLast (clauses : List Clause) (before : List Lit) (decisions : List Decision) (last : Decision) : Type 0 where
  pub others : AreDecided clauses before decisions
  pub undecided : IsUndecided (before ++ literals_of decisions) last.literal
  pub closed : IsClosedBy clauses (before ++ literals_of decisions) last.literal last.closed

pub take_last : (clauses : List Clause) (before : List Lit) (decisions : List Decision) (last : Decision) → AreDecided clauses before (decisions ++ last ∷ []) → IsLast clauses before decisions last
take_last clauses before [] last all = record {
  others = tt;
  undecided = subst (λ (ls : List Lit). IsUndecided ls last.literal) (sym (append-nil before)) all.0;
  closed = subst (λ (ls : List Lit). IsClosedBy clauses ls last.literal last.closed) (sym (append-nil before)) all.1;
}
take_last clauses before (d ∷ others) last all =
    let rest = take_last clauses (before ++ d.literal ∷ []) others last all.2 in
    let same = append_assoc before (d.literal ∷ []) (literals_of others) in
    record {
      others = (all.0, all.1, rest.others);
      undecided = subst (λ (ls : List Lit). IsUndecided ls last.literal) same rest.undecided;
      closed = subst (λ (ls : List Lit). IsClosedBy clauses ls last.literal last.closed) same rest.closed;
    }

pub put_last : (clauses : List Clause) (before : List Lit) (decisions : List Decision) (last : Decision) → IsLast clauses before decisions last → AreDecided clauses before (decisions ++ last ∷ [])
put_last clauses before [] last is =
    (subst (λ (ls : List Lit). IsUndecided ls last.literal) (append-nil before) is.undecided, subst (λ (ls : List Lit). IsClosedBy clauses ls last.literal last.closed) (append-nil before) is.closed, tt)
put_last clauses before (d ∷ others) last is =
    let same = append_assoc before (d.literal ∷ []) (literals_of others) in
    let rest : IsLast clauses (before ++ d.literal ∷ []) others last = record {
      others = is.others.2;
      undecided = subst (λ (ls : List Lit). IsUndecided ls last.literal) (sym same) is.undecided;
      closed = subst (λ (ls : List Lit). IsClosedBy clauses ls last.literal last.closed) (sym same) is.closed;
    } in
    (is.others.0, is.others.1, put_last clauses (before ++ d.literal ∷ []) others last rest)

pub closed_grown : (clauses more : List Clause) (before : List Lit) (l : Lit) (closed : Option Conflict) → IsClosedBy clauses before l closed → IsClosedBy (clauses ++ more) before l closed
closed_grown clauses more before l None is = tt
closed_grown clauses more before l (Some conflict) is = (record { there = get_grown clauses more conflict.number (map negation conflict.needed.items) is.0.there; held = is.0.held }, is.1)

pub decided_grown : (clauses more : List Clause) (before : List Lit) (decisions : List Decision) → AreDecided clauses before decisions → AreDecided (clauses ++ more) before decisions
decided_grown clauses more before [] all = tt
decided_grown clauses more before (d ∷ others) all = (all.0, closed_grown clauses more before d.literal d.closed all.1, decided_grown clauses more (before ++ d.literal ∷ []) others all.2)

all_front : {A : Type 0} (test : A → Bool) (xs ys : List A) → list_all test (xs ++ ys) ≡ true → list_all test xs ≡ true
all_front test [] ys e = refl
all_front test (x ∷ xs) ys e = let parts = and_parts (test x) (list_all test (xs ++ ys)) e in and_from (test x) (list_all test xs) parts.0 (all_front test xs ys parts.1)

-- the other side of an undecided literal is undecided
turned_undecided : (before : List Lit) (l : Lit) → IsUndecided before l → IsUndecided before (negation l)
turned_undecided before l is = record { not_true = is.not_false; not_false = ap (is_among before) (negated_twice l) ∙ is.not_true }

-- the branch is closed still, by a later clause
pub record StillClosed (s : Sequent) (d : Derivation) (t : Trail) (front : List Clause) (conflict : Conflict) : Type 0 where
  pub more : List Clause
  pub is : IsClosed s d t (front ++ more) conflict

pub begins_closed : (s : Sequent) (d : Derivation) (t : Trail) (front : List Clause) (conflict : Conflict) → IsClosed s d t front conflict → StillClosed s d t front conflict
begins_closed s d t front conflict is = record { more = []; is = subst (λ (cs : List Clause). IsClosed s d t cs conflict) (sym (append-nil front)) is }

module _ (s : Sequent) (d : Derivation) (t : Trail) (front : List Clause) (conflict : Conflict) (still : StillClosed s d t front conflict) where
  abbrev all_now : List Clause
  all_now = front ++ still.more

  abbrev needed : List Lit
  needed = conflict.needed.items

  abbrev clause_now : Clause
  clause_now = map negation needed

  pub ends_closed : t.decisions.items ≡ [] → HasEnded s d front
  ends_closed none =
      let nothing : needed ≡ [] = all_of_none needed (subst (λ (ds : List Decision). HasAll (literals_of ds) needed) none still.is.held) in
      record { more = still.more; runs = subst (λ (ls : List Lit). Runs s d (all_now ++ map negation ls ∷ [])) nothing still.is.runs }

  module _ (decisions : List Decision) (last : Decision) (split : t.decisions.items ≡ decisions ++ last ∷ []) where
    branch_is : branch_of t ≡ literals_of decisions ++ last.literal ∷ []
    branch_is = ap literals_of split ∙ mapped_append literal_of decisions last

    held_now : HasAll (literals_of decisions ++ last.literal ∷ []) needed
    held_now = subst (λ (ls : List Lit). HasAll ls needed) branch_is still.is.held

    last_now : IsLast all_now [] decisions last
    last_now = take_last all_now [] decisions last (subst (AreDecided all_now []) split still.is.trail)

    same_now : all_now ++ clause_now ∷ [] ≡ front ++ (still.more ++ clause_now ∷ [])
    same_now = append_assoc front still.more (clause_now ∷ [])

    formulas_now : are_literals d.nodes (literals_of decisions ++ last.literal ∷ []) ≡ true
    formulas_now = ap (are_literals d.nodes) (sym branch_is) ∙ still.is.formulas

    formulas_before : are_literals d.nodes (literals_of decisions) ≡ true
    formulas_before = all_front (λ (l : Lit). is_formula d.nodes l.node) (literals_of decisions) (last.literal ∷ []) formulas_now

    at_end : slice_get (all_now ++ clause_now ∷ []) conflict.number ≡ Some clause_now
    at_end = ap (slice_get (all_now ++ clause_now ∷ [])) still.is.number_is ∙ get_last all_now clause_now

    -- a decision that is not needed
    pub skips : (new : Trail) → is_among needed last.literal ≡ false → new.decisions.items ≡ decisions → StillClosed s d new front conflict
    skips new none is = record {
      more = still.more;
      is = record {
        runs = still.is.runs;
        number_is = still.is.number_is;
        held = subst (λ (ds : List Decision). HasAll (literals_of ds) needed) (sym is) (all_but_last (literals_of decisions) needed last.literal held_now none);
        trail = subst (AreDecided all_now []) (sym is) last_now.others;
        formulas = ap (λ (ds : List Decision). are_literals d.nodes (literals_of ds)) is ∙ formulas_before;
      };
    }

    pub turns : (new : Trail) → is_among needed last.literal ≡ true → new.decisions.items ≡ decisions ++ turned last.literal conflict ∷ [] → HasTurned s d new front
    turns new needs is =
        let before = literals_of decisions in
        let other = negation last.literal in
        let closed : IsClosedBy (all_now ++ clause_now ∷ []) before other (Some conflict) =
        (record { there = at_end; held = subst (λ (l : Lit). HasAll (before ++ l ∷ []) needed) (sym (negated_twice last.literal)) held_now }, ap (is_among needed) (negated_twice last.literal) ∙ needs) in
        let decided = put_last (all_now ++ clause_now ∷ []) [] decisions (turned last.literal conflict) (record {
          others = decided_grown all_now (clause_now ∷ []) [] decisions last_now.others;
          undecided = turned_undecided before last.literal last_now.undecided;
          closed = closed;
        }) in
        record {
          more = still.more ++ clause_now ∷ [];
          runs = subst (Runs s d) same_now still.is.runs;
          trail = subst (λ (cs : List Clause). IsTrail cs new) same_now (subst (AreDecided (all_now ++ clause_now ∷ []) []) (sym is) decided);
          formulas = ap (λ (ds : List Decision). are_literals d.nodes (literals_of ds)) is ∙ ap (are_literals d.nodes) (mapped_append literal_of decisions (turned last.literal conflict)) ∙ same_formulas d.nodes before last.literal ∙ formulas_now;
        }
      where
        same_formulas : (nodes : List Node) (before : List Lit) (l : Lit) → are_literals nodes (before ++ negation l ∷ []) ≡ are_literals nodes (before ++ l ∷ [])
        same_formulas nodes [] l = refl
        same_formulas nodes (m ∷ others) l = ap (λ (b : Bool). is_formula nodes m.node && b) (same_formulas nodes others l)

    pub joins_on : (other : Conflict) (new_log : Derivation) (new : Trail) (joined : Conflict) → last.closed ≡ Some other → new.decisions.items ≡ decisions → new_log.nodes ≡ d.nodes → joined.number ≡ d.clauses → JoinsSides last.literal other conflict d new_log joined
        → StillClosed s new_log new front joined
    joins_on other new_log new joined other_is is nodes number_is joins =
        let before = literals_of decisions in
        let first = closed_grown all_now (clause_now ∷ []) before last.literal (Some other) (subst (IsClosedBy all_now before last.literal) other_is last_now.closed) in
        let both = joins s (all_now ++ clause_now ∷ []) before still.is.runs formulas_before (record { undecided = last_now.undecided; first = first.0; needs = first.1; second = record { there = at_end; held = held_now } }) in
        record {
          more = still.more ++ clause_now ∷ [];
          is = record {
            runs = subst (λ (cs : List Clause). Runs s new_log (cs ++ map negation joined.needed.items ∷ [])) same_now both.0;
            number_is = number_is ∙ sym still.is.runs.count ∙ ap length same_now;
            held = subst (λ (ds : List Decision). HasAll (literals_of ds) joined.needed.items) (sym is) both.1;
            trail = subst (λ (cs : List Clause). IsTrail cs new) same_now (subst (AreDecided (all_now ++ clause_now ∷ []) []) (sym is) (decided_grown all_now (clause_now ∷ []) [] decisions last_now.others));
            formulas = ap (λ (ns : List Node). are_literals ns (branch_of new)) nodes ∙ ap (λ (ds : List Decision). are_literals d.nodes (literals_of ds)) is ∙ formulas_before;
          };
        }

-- whatever log it began with
pub record IsRetreating (old_log : Derivation) (old : Trail) (first : Conflict) (d : Derivation) (t : Trail) (conflict : Conflict) : Type 0 where
  pub so_far : (s : Sequent) (front : List Clause) → IsClosed s old_log old front first → StillClosed s d t front conflict
