-- The instances of a sound template are true.
use Rattle.std.proofs.Common.{◌≡◌, ℕ, true, ◌==◌, List, [], map, length, Some, refl, sym, ap, ◌∙◌, subst}
use Rattle.std.specs.Option.{option_and_then}
use Rattle.std.specs.List.{list_all}
use Rattle.std.proofs.lemmas.Option.{same_Some}
use Rattle.df_lemmas.proofs.Lists.{any_mapped}
use Rattle.df_lemmas.proofs.Options.{then_some, test_some}
use Rattle.df_form.specs.World.{World}
use Rattle.df_form.specs.Node.{Node}
use Rattle.df_form.specs.Truth.{Assignment, truth}
use Rattle.df_form.specs.Clause.{Clause, are_literals, literal_truth, clause_truth}
use Rattle.df_form.proofs.Values.{Grows, AreSorted}
use Rattle.df_axiom.specs.Template.{Template}
use Rattle.df_axiom.specs.Instance.{found_from, agree, agreeing, found, Built, built, literal_at, Added, with_clause, instantiated}
use Rattle.df_axiom.proofs.Facts.{IsSound}
use Rattle.df_axiom.proofs.Finding.{found_front, w, ps, ss, pieces_hold, same_hold}
use Rattle.df_axiom.proofs.Needing.{built_keeps, needed_hold}

-- an instance by its steps
pub record Instance (nodes : List Node) (terms : List ℕ) (t : Template) (added : Added) : Type 0 where
  pub places : List ℕ
  pub b : Built
  pub finds : found_from nodes terms [] t.pieces ≡ Some places
  pub same : list_all (agree places) t.same ≡ true
  pub builds : built nodes places t.needed ≡ Some b
  pub formulas : are_literals b.nodes (map (literal_at b.places) t.clause) ≡ true
  pub is : record { nodes = b.nodes; clause = map (literal_at b.places) t.clause } ≡ added

pub steps_of : (nodes : List Node) (terms : List ℕ) (t : Template) (added : Added) → instantiated nodes terms t ≡ Some added → Instance nodes terms t added
steps_of nodes terms t added e =
    let last = then_some (with_clause t) (option_and_then (λ places. built nodes places t.needed) (found nodes terms t)) added e in
    let building = then_some (λ places. built nodes places t.needed) (found nodes terms t) last.0 last.1 in
    let counted = test_some (length terms == t.terms) (option_and_then (agreeing t.same) (found_from nodes terms [] t.pieces)) building.0 building.1 in
    let agreed = then_some (agreeing t.same) (found_from nodes terms [] t.pieces) building.0 counted.1 in
    let one = test_some (list_all (agree agreed.0) t.same) (Some agreed.0) building.0 agreed.2 in
    let same : agreed.0 ≡ building.0 = same_Some agreed.0 building.0 one.1 in
    let clause : Clause = map (literal_at last.0.places) t.clause in
    let whole : Added = record { nodes = last.0.nodes; clause = clause } in
    let tested = test_some (are_literals last.0.nodes clause) (Some whole) added last.2 in
    record {
      places = building.0;
      b = last.0;
      finds = agreed.1 ∙ ap (λ (l : List ℕ). Some l) same;
      same = subst (λ (l : List ℕ). list_all (agree l) t.same ≡ true) same one.0;
      builds = building.2;
      formulas = tested.0;
      is = same_Some whole added tested.1;
    }

-- what an instance keeps and adds
pub record IsKept (depth : ℕ) (world : World) (assignment : Assignment) (nodes : List Node) (added : Added) : Type 0 where
  pub grows : Grows nodes added.nodes
  pub sorted : AreSorted added.nodes
  pub formulas : are_literals added.nodes added.clause ≡ true
  pub holds : clause_truth (truth depth world assignment added.nodes) added.clause ≡ true

pub instance_kept : (depth : ℕ) (world : World) (assignment : Assignment) (nodes : List Node) (terms : List ℕ) (t : Template) (added : Added) → AreSorted nodes → IsSound depth world assignment t → instantiated nodes terms t ≡ Some added
    → IsKept depth world assignment nodes added
instance_kept depth world assignment nodes terms t added sorted sound e =
    let i = steps_of nodes terms t added e in
    let keeps = built_keeps nodes i.places t.needed i.b sorted i.builds in
    let front = found_front nodes terms [] t.pieces i.places i.finds in
    let long : length t.pieces ≡ length i.places = sym (ap (λ (l : List ℕ). length l) front.is ∙ front.long) in
    let all = i.b.places in
    let now = i.b.nodes in
    let value = w depth world assignment now keeps.sorted all in
    let pieces = pieces_hold depth world assignment now keeps.sorted all nodes keeps.grows terms [] t.pieces 0 i.places keeps.rest refl keeps.front i.finds in
    let same = same_hold depth world assignment now keeps.sorted all i.places keeps.rest t.same keeps.front i.same in
    let needed = needed_hold depth world assignment i.b nodes i.places t.needed (length t.pieces) long sorted i.builds in
    let holds = sound value (ps depth world assignment now keeps.sorted all) (ss depth world assignment now keeps.sorted all) pieces same needed in
    subst (IsKept depth world assignment nodes) i.is (record {
      grows = keeps.grows;
      sorted = keeps.sorted;
      formulas = i.formulas;
      holds = any_mapped (literal_truth (truth depth world assignment now)) (literal_at all) t.clause ∙ holds;
    })
