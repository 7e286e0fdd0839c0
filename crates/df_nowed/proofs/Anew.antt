-- Obligations over formulas that are numbered anew.
use Rattle.df_nowed.proofs.Words.{◌≡◌, ℕ, ◌<◌, ◌≤◌, List, [], ◌∷◌, length, map, take, slice_get, slice_index, Some, refl, sym, ap, ◌∙◌, arith, length-map, take-map, same_Some, slice_get_within, AllByRecursion, Node, Term, tree_at, trees_at, obligation_in, with_goal}
use Rattle.std.specs.Option.{option_map}
use Rattle.std.proofs.lemmas.Option.{slice_get-get_or, slice_get-map}
use Rattle.df_nowed.specs.Owed.{IsOwed}
use Rattle.df_nowed.specs.declared.obligation.Obligation.{Obligation as DeclaredObligation}

abbrev pub HasPlace : List ℕ → DeclaredObligation → Type 0
HasPlace known o = (o.hypothesis_count ≤ length known) × (o.place ≤ o.hypothesis_count) × (o.place < length known)

-- with the goals that stand at their places they are owed
pub goals_owed : (known : List ℕ) (all : List DeclaredObligation) → AllByRecursion (HasPlace known) all → AllByRecursion (IsOwed known) (map (with_goal known) all)
goals_owed known [] are = tt
goals_owed known (o ∷ others) are = ((are.0.0, are.0.1, slice_get-get_or known o.place 0 are.0.2), goals_owed known others are.1)

module _ (table nodes : List Node) (known formulas : List ℕ) (same : trees_at nodes formulas ≡ trees_at table known) where
  long : length formulas ≡ length known
  long = sym (length-map formulas (tree_at nodes)) ∙ ap (λ (ts : List Term). length ts) same ∙ length-map known (tree_at table)

  pub have_places : (all : List DeclaredObligation) → AllByRecursion (IsOwed known) all → AllByRecursion (HasPlace formulas) all
  have_places [] are = tt
  have_places (o ∷ others) are =
      let there = slice_get_within known o.place o.goal are.0.2 in
      let one : HasPlace formulas o = (omega (arith, long, are.0.0), are.0.1, omega (arith, long, there)) in
      (one, have_places others are.1)

  front_same : (count : ℕ) → trees_at nodes (take count formulas) ≡ trees_at table (take count known)
  front_same count = sym (take-map (tree_at nodes) count formulas) ∙ ap (take count) same ∙ take-map (tree_at table) count known

  goal_same : (place goal : ℕ) → slice_get known place ≡ Some goal → tree_at nodes (slice_index formulas place) ≡ tree_at table goal
  goal_same place goal at =
      let there = slice_get_within known place goal at in
      same_Some (tree_at nodes (slice_index formulas place)) (tree_at table goal)
      (
      ap (option_map (tree_at nodes)) (sym (slice_get-get_or formulas place 0 (omega (arith, long, there))))
      ∙ sym (slice_get-map (tree_at nodes) formulas place)
      ∙ ap (λ (ts : List Term). slice_get ts place) same
      ∙ slice_get-map (tree_at table) known place
      ∙ ap (option_map (tree_at table)) at
      )

  -- and stand for the same trees
  pub same_obligations : (number : ℕ) (all : List DeclaredObligation) → AllByRecursion (IsOwed known) all → map (obligation_in number nodes formulas) (map (with_goal formulas) all) ≡ map (obligation_in number table known) all
  same_obligations number [] are = refl
  same_obligations number (o ∷ others) are =
      let hypotheses = front_same o.hypothesis_count in
      let goal = goal_same o.place o.goal are.0.2 in
      let first : obligation_in number nodes formulas (with_goal formulas o) ≡ obligation_in number table known o = λ i. record { declaration = number; pos = o.pos; kind = o.kind; hypotheses = hypotheses i; goal = goal i } in
      let rest = same_obligations number others are.1 in
      λ i. first i ∷ rest i
