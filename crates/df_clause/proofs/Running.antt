-- Lines of ground sets are lines of a log.
use Rattle.std.proofs.Common.{◌≡◌, List, [], ◌∷◌, ◌++◌, take, drop, length, Option, Some, slice_get, sym, ap, ◌∙◌, subst}
use Rattle.std.specs.Option.{option_map, option_and_then}
use Rattle.std.proofs.Math.Seq.{take-append_seam}
use Rattle.std.proofs.lemmas.List.{take-append-drop}
use Rattle.std.proofs.lemmas.Option.{same_Some}
use Rattle.df_lemmas.proofs.Options.{then_some, map_some}
use Rattle.df_form.specs.Node.{Node}
use Rattle.df_form.specs.Sequent.{Sequent}
use Rattle.df_form.specs.Clause.{Clause, yes, no}
use Rattle.df_form.specs.Log.{Step, Hypothesis, Goal, Connective, Schema, Propagation, Congruence, Linear, Split, Make}
use Rattle.df_form.proofs.Values.{Grows, grows_not, AreSorted}
use Rattle.df_rules.specs.Connective.{Added}
use Rattle.df_rules.specs.Derivation.{State, only_clause, with_clause, after, after_all}
use Rattle.df_rules.proofs.SoundConnectives.{connective_is_line}
use Rattle.df_rules.proofs.SoundBounds.{schema_is_line}
use Rattle.df_clause.specs.Adding.{added_by}
use Rattle.df_clause.proofs.Assignments.{some_assignment}

-- what a line adds keeps the nodes, and their sorts
pub record IsAddition (nodes : List Node) (added : Added) : Type 0 where
  pub grows : Grows nodes added.nodes
  pub sorted : AreSorted added.nodes

only_added : (nodes : List Node) (o : Option Clause) (added : Added) → AreSorted nodes → only_clause nodes o ≡ Some added → IsAddition nodes added
only_added nodes o added sorted e =
    let found = map_some (λ (clause : Clause). record { nodes = nodes; clause = clause }) o added e in
    subst (IsAddition nodes) found.2 (record { grows = grows_not nodes; sorted = sorted })

pub is_addition : (s : Sequent) (nodes : List Node) (step : Step) (added : Added) → AreSorted nodes → added_by s nodes step ≡ Some added → IsAddition nodes added
is_addition s nodes (Hypothesis i) added sorted e = only_added nodes (option_map (λ h. yes h ∷ []) (slice_get s.hypotheses i)) added sorted e
is_addition s nodes Goal added sorted e = only_added nodes (Some (no s.goal ∷ [])) added sorted e
is_addition s nodes (Connective n k) added sorted e =
    let line = connective_is_line 0 s.world some_assignment nodes n k added sorted e in
    record { grows = line.grows; sorted = line.sorted }
is_addition s nodes (Schema schema k terms) added sorted e =
    let line = schema_is_line 0 s.world some_assignment nodes schema k terms added sorted e in
    record { grows = line.grows; sorted = line.sorted }
is_addition s nodes (Propagation numbers conclusion) added sorted e = absurd cc
is_addition s nodes (Congruence conclusion pairs) added sorted e = absurd cc
is_addition s nodes (Linear conclusion combinations) added sorted e = absurd cc
is_addition s nodes (Split n k) added sorted e = absurd cc
is_addition s nodes (Make node) added sorted e = absurd cc

-- the line is one of a log
pub added_after : (s : Sequent) (state : State) (step : Step) (added : Added) → added_by s state.nodes step ≡ Some added → after s state step ≡ Some (with_clause state added)
added_after s state (Hypothesis i) added e = ap (option_map (with_clause state)) e
added_after s state Goal added e = ap (option_map (with_clause state)) e
added_after s state (Connective n k) added e = ap (option_map (with_clause state)) e
added_after s state (Schema schema k terms) added e = ap (option_map (with_clause state)) e
added_after s state (Propagation numbers conclusion) added e = absurd cc
added_after s state (Congruence conclusion pairs) added e = absurd cc
added_after s state (Linear conclusion combinations) added e = absurd cc
added_after s state (Split n k) added e = absurd cc
added_after s state (Make node) added e = absurd cc

-- one more line at the end of a log
pub one_more : (s : Sequent) (state : State) (xs : List Step) (step : Step) (middle next : State) → after_all s state xs ≡ Some middle → after s middle step ≡ Some next → after_all s state (xs ++ step ∷ []) ≡ Some next
one_more s state [] step middle next e line =
    let is = same_Some state middle e in
    ap (option_and_then (λ last. after_all s last [])) (subst (λ (from : State). after s from step ≡ Some next) (sym is) line)
one_more s state (x ∷ xs) step middle next e line =
    let found = then_some (λ last. after_all s last xs) (after s state x) middle e in
    ap (option_and_then (λ last. after_all s last (xs ++ step ∷ []))) found.1 ∙ one_more s found.0 xs step middle next found.2 line

-- the first nodes are these
pub grown_from : (before now : List Node) → take (length before) now ≡ before → Grows before now
grown_from before now first = record { more = drop (length before) now; is = sym (take-append-drop (length before) now) ∙ ap (λ (front : List Node). front ++ drop (length before) now) first }

pub first_of : (before now : List Node) → Grows before now → take (length before) now ≡ before
first_of before now g = ap (take (length before)) g.is ∙ take-append_seam before g.more
