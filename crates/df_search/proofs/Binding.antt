-- Clauses that are bound to an equality, one after another.
use Rattle.std.proofs.Common.{◌≡◌, ◌⊎◌, inl, inr, ℕ, List, [], ◌∷◌, ◌++◌, map, length, Some, slice_get, sym, ap, ◌∙◌, subst, arith, append_assoc}
use Rattle.std.proofs.lemmas.List.{get_or_append_left, map-append, length_push}
use Rattle.std.proofs.lemmas.Option.{slice_get_within, get_or_from_slice_get}
use Rattle.df_lemmas.proofs.Lists.{get_grown, get_last, get_pushed}
use Rattle.df_form.specs.Node.{Node}
use Rattle.df_form.specs.Clause.{Clause, yes, no}
use Rattle.df_form.specs.Sequent.{Sequent}
use Rattle.df_closure.specs.Closure.{GroundClause}
use Rattle.df_logbuild.specs.Runs.{Runs}
use Rattle.df_branch.specs.Place.{equality_clauses}
use Rattle.df_search.specs.declared.searching.State.{State}
use Rattle.df_search.specs.Places.{place_in, AreIn}
use Rattle.df_search.specs.Searching.{clauses_of}
use Rattle.df_search.specs.Moves.{literals_in, HasLine, AreLines, AreBound, IsBound, IsDefined}

-- one more clause, at the end of the log
pub one_in : (clauses : List GroundClause) (places : List ℕ) (log : List Clause) (clause : GroundClause) (number : ℕ) → number ≡ length log → AreIn clauses places log → AreIn (clauses ++ clause ∷ []) (places ++ number ∷ []) (log ++ clause.literals ∷ [])
one_in clauses places log clause number is are = record {
  long = omega (arith, are.long, length_push places number, length_push clauses clause);
  at = λ n c there. by n c (get_pushed clauses clause n c there);
}
  where
    by : (n : ℕ) (c : GroundClause) → (slice_get clauses n ≡ Some c) ⊎ ((n ≡ length clauses) × (clause ≡ c)) → slice_get (log ++ clause.literals ∷ []) (place_in (places ++ number ∷ []) n) ≡ Some c.literals
    by n c (inl there) =
        let less = slice_get_within clauses n c there in
        ap (slice_get (log ++ clause.literals ∷ [])) (get_or_append_left places (number ∷ []) 0 n (omega (arith, less, are.long))) ∙ get_grown log (clause.literals ∷ []) (place_in places n) c.literals (are.at n c there)
    by n c (inr last) =
        let own : place_in (places ++ number ∷ []) n ≡ length log =
        ap (place_in (places ++ number ∷ [])) (last.0 ∙ sym are.long) ∙ get_or_from_slice_get (places ++ number ∷ []) (length places) number 0 (get_last places number) ∙ is in
        ap (slice_get (log ++ clause.literals ∷ [])) own ∙ get_last log clause.literals ∙ ap (λ (g : GroundClause). Some g.literals) last.1

-- what was added, where less is asked for
pub bound_where : (old : State) (added : List GroundClause) (lines more : Type 0) (new : State) → (more → lines) → AreBound old added lines new → AreBound old added more new
bound_where old added lines more new given is = record {
  alloc = is.alloc;
  set = is.set;
  trail = is.trail;
  closed = is.closed;
  nodes = is.nodes;
  clauses_are = is.clauses_are;
  adds = λ s all runs are h. is.adds s all runs are (given h);
}

pub bound_twice : (old middle new : State) (first second : List GroundClause) (lines more : Type 0) → AreBound old first lines middle → AreBound middle second more new → AreBound old (first ++ second) (lines × more) new
bound_twice old middle new first second lines more one two = record {
  alloc = two.alloc ∙ one.alloc;
  set = two.set ∙ one.set;
  trail = two.trail ∙ one.trail;
  closed = two.closed ∙ one.closed;
  nodes = two.nodes ∙ one.nodes;
  clauses_are = two.clauses_are ∙ ap (λ (cs : List GroundClause). cs ++ second) one.clauses_are ∙ append_assoc (clauses_of old) first second;
  adds = λ s all runs are h.
      let between = one.adds s all runs are h.0 in
      let last = two.adds s (all ++ map literals_in first) between.0 between.1 h.1 in
      let same : (all ++ map literals_in first) ++ map literals_in second ≡ all ++ map literals_in (first ++ second) =
      append_assoc all (map literals_in first) (map literals_in second) ∙ ap (λ (cs : List Clause). all ++ cs) (sym (map-append literals_in first second)) in
      (subst (Runs s new.derivation) same last.0, subst (AreIn (clauses_of new) new.places.items) same last.1);
}

-- one clause, with its line and its place
pub bound_one : (old new : State) (n k number : ℕ) (literals : Clause) → new.alloc ≡ old.alloc → new.set ≡ old.set → new.trail ≡ old.trail → new.closed ≡ old.closed → new.derivation.nodes ≡ old.derivation.nodes
    → clauses_of new ≡ clauses_of old ++ record { literals = literals; bound = Some n } ∷ [] → new.places.items ≡ old.places.items ++ number ∷ [] → number ≡ old.derivation.clauses
    → ((s : Sequent) (all : List Clause) (clause : Clause) → Runs s old.derivation all → HasLine old.derivation.nodes n k clause → Runs s new.derivation (all ++ clause ∷ [])) → IsBound old n k literals new
bound_one old new n k number literals alloc set trail closed nodes clauses places number_is adds = record {
  alloc = alloc;
  set = set;
  trail = trail;
  closed = closed;
  nodes = nodes;
  clauses_are = clauses;
  adds = λ s all runs are line. (
    adds s all literals runs line,
    subst (λ (cs : List GroundClause). AreIn cs new.places.items (all ++ literals ∷ [])) (sym clauses)
        (subst (λ (ns : List ℕ). AreIn (clauses_of old ++ record { literals = literals; bound = Some n } ∷ []) ns (all ++ literals ∷ [])) (sym places)
        (one_in (clauses_of old) old.places.items all (record { literals = literals; bound = Some n }) number (number_is ∙ sym runs.count) are)),
  );
}

-- the three clauses of an equality
pub defined_by : (old first second new : State) (n up down : ℕ) → IsBound old n 0 (no n ∷ yes up ∷ []) first → IsBound first n 1 (no n ∷ yes down ∷ []) second → IsBound second n 2 (yes n ∷ no up ∷ no down ∷ []) new → IsDefined old n up down new
defined_by old first second new n up down one two three =
    let nodes = old.derivation.nodes in
    let here : Type 0 = HasLine nodes n 0 (no n ∷ yes up ∷ []) in
    let next : Type 0 = HasLine nodes n 1 (no n ∷ yes down ∷ []) in
    let last : Type 0 = HasLine nodes n 2 (yes n ∷ no up ∷ no down ∷ []) in
    let second_clause : List GroundClause = record { literals = no n ∷ yes down ∷ []; bound = Some n } ∷ [] in
    let third_clause : List GroundClause = record { literals = yes n ∷ no up ∷ no down ∷ []; bound = Some n } ∷ [] in
    let its = bound_where first second_clause (HasLine first.derivation.nodes n 1 (no n ∷ yes down ∷ [])) next second (subst (λ (ns : List Node). HasLine ns n 1 (no n ∷ yes down ∷ [])) (sym one.nodes)) two in
    let end = bound_where second third_clause (HasLine second.derivation.nodes n 2 (yes n ∷ no up ∷ no down ∷ [])) last new (subst (λ (ns : List Node). HasLine ns n 2 (yes n ∷ no up ∷ no down ∷ [])) (sym (two.nodes ∙ one.nodes))) three in
    let both = bound_twice old first second (record { literals = no n ∷ yes up ∷ []; bound = Some n } ∷ []) second_clause here next one its in
    bound_where old (equality_clauses n up down) ((here × next) × last) (AreLines nodes n up down) new (λ h. ((h.0, h.1), h.2)) (bound_twice old second new (record { literals = no n ∷ yes up ∷ []; bound = Some n } ∷ second_clause) third_clause (here × next) last both end)
