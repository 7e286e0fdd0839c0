-- The nodes that are needed have the values of their operations.
use Rattle.std.proofs.Common.{◌≡◌, ℕ, suc, List, [], ◌∷◌, ◌++◌, map, length, Some, slice_get, sym, ap, ◌∙◌, subst, arith, append-nil, append_assoc, length-append}
use Rattle.std.proofs.lemmas.List.{map-append}
use Rattle.std.proofs.lemmas.Option.{same_Some}
use Rattle.df_lemmas.proofs.Options.{then_some, test_some}
use Rattle.df_form.specs.World.{World}
use Rattle.df_meaning.specs.Value.{Value}
use Rattle.df_form.specs.Node.{Node}
use Rattle.df_form.specs.Sorting.{is_well_sorted}
use Rattle.df_form.specs.Made.{Made, made}
use Rattle.df_form.specs.Truth.{Assignment, apply}
use Rattle.df_form.proofs.Making.{Stands, made_stands}
use Rattle.df_form.proofs.Values.{Grows, grows_not, grows_twice, grown_get, AreSorted, worth, value_is}
use Rattle.df_axiom.specs.Instance.{place_at, numbers_at, made_if, placed, Built, built}
use Rattle.df_axiom.proofs.Facts.{NeededFacts}
use Rattle.df_axiom.proofs.Places.{kept_place, last_place, place_is}

-- a node that was made of places
pub record IsPlaced (nodes : List Node) (places : List ℕ) (need : Node) (m : Made) : Type 0 where
  pub parts : List ℕ
  pub numbers : numbers_at places [] need.parts ≡ Some parts
  pub stands : Stands nodes (record { op = need.op; parts = parts }) m

is_placed : (nodes : List Node) (places : List ℕ) (need : Node) (m : Made) → AreSorted nodes → placed nodes places need ≡ Some m → IsPlaced nodes places need m
is_placed nodes places need m sorted e =
    let found = then_some (λ parts. made_if nodes (record { op = need.op; parts = parts })) (numbers_at places [] need.parts) m e in
    let node : Node = record { op = need.op; parts = found.0 } in
    let tested = test_some (is_well_sorted nodes node) (Some (made nodes node)) m found.2 in
    record { parts = found.0; numbers = found.1; stands = subst (Stands nodes node) (same_Some (made nodes node) m tested.1) (made_stands nodes node sorted tested.0) }

pub record Keeps (nodes : List Node) (places : List ℕ) (b : Built) : Type 0 where
  pub grows : Grows nodes b.nodes
  pub sorted : AreSorted b.nodes
  pub rest : List ℕ
  pub front : b.places ≡ places ++ rest

pub built_keeps : (nodes : List Node) (places : List ℕ) (needed : List Node) (b : Built) → AreSorted nodes → built nodes places needed ≡ Some b → Keeps nodes places b
built_keeps nodes places [] b sorted e = subst (Keeps nodes places) (same_Some (record { nodes = nodes; places = places }) b e) (record { grows = grows_not nodes; sorted = sorted; rest = []; front = sym (append-nil places) })
built_keeps nodes places (need ∷ others) b sorted e =
    let step = then_some (λ (m : Made). built m.nodes (places ++ m.number ∷ []) others) (placed nodes places need) b e in
    let one = is_placed nodes places need step.0 sorted step.1 in
    let later = built_keeps step.0.nodes (places ++ step.0.number ∷ []) others b one.stands.sorted step.2 in
    record {
      grows = grows_twice nodes step.0.nodes b.nodes one.stands.grows later.grows;
      sorted = later.sorted;
      rest = step.0.number ∷ later.rest;
      front = later.front ∙ append_assoc places (step.0.number ∷ []) later.rest;
    }

module _ (depth : ℕ) (world : World) (assignment : Assignment) (b : Built) where
  abbrev value : ℕ → Value
  value n = worth depth world assignment b.nodes n

  abbrev at_place : ℕ → Value
  at_place i = value (place_at b.places i)

  numbers_hold : (places rest before wanted parts : List ℕ) → b.places ≡ places ++ rest → numbers_at places before wanted ≡ Some parts → map value parts ≡ map value before ++ map at_place wanted
  numbers_hold places rest before [] parts front e = ap (map value) (sym (same_Some before parts e)) ∙ sym (append-nil (map value before))
  numbers_hold places rest before (j ∷ others) parts front e =
      let step = then_some (λ n. numbers_at places (before ++ n ∷ []) others) (slice_get places j) parts e in
      let later = numbers_hold places rest (before ++ step.0 ∷ []) others parts front step.2 in
      let here : value step.0 ≡ at_place j = ap value (sym (place_is b.places j step.0 (kept_place b.places places rest j step.0 front step.1))) in
      later ∙ ap (λ (vs : List Value). vs ++ map at_place others) (map-append value before (step.0 ∷ []))
      ∙ append_assoc (map value before) (value step.0 ∷ []) (map at_place others) ∙ ap (λ (v : Value). map value before ++ v ∷ map at_place others) here

  pub needed_hold : (nodes : List Node) (places : List ℕ) (needed : List Node) (i : ℕ) → i ≡ length places → AreSorted nodes → built nodes places needed ≡ Some b → NeededFacts depth world assignment at_place i needed
  needed_hold nodes places [] i is sorted e = tt
  needed_hold nodes places (need ∷ others) i is sorted e =
      let step = then_some (λ (m : Made). built m.nodes (places ++ m.number ∷ []) others) (placed nodes places need) b e in
      let one = is_placed nodes places need step.0 sorted step.1 in
      let later = built_keeps step.0.nodes (places ++ step.0.number ∷ []) others b one.stands.sorted step.2 in
      let node : Node = record { op = need.op; parts = one.parts } in
      let there : slice_get b.nodes step.0.number ≡ Some node = grown_get step.0.nodes b.nodes later.grows step.0.number node one.stands.there in
      let here : slice_get b.places i ≡ Some step.0.number = ap (slice_get b.places) is ∙ last_place b.places places later.rest step.0.number later.front in
      let place : place_at b.places i ≡ step.0.number = place_is b.places i step.0.number here in
      let values : map value one.parts ≡ map at_place need.parts = numbers_hold places (step.0.number ∷ later.rest) [] need.parts one.parts (later.front ∙ append_assoc places (step.0.number ∷ []) later.rest) one.numbers in
      let long : suc i ≡ length (places ++ step.0.number ∷ []) = omega (arith, is, length-append places (step.0.number ∷ [])) in (
        ap value place ∙ value_is depth world assignment b.nodes step.0.number node later.sorted there ∙ ap (apply depth world assignment need.op) values,
        needed_hold step.0.nodes (places ++ step.0.number ∷ []) others (suc i) long one.stands.sorted step.2,
      )
