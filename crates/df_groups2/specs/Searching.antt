-- What a depth-first search knows on its way.
use Rattle.std.specs.Prelude.{◌≡◌, ◌<◌, ◌+◌, ◌⊎◌, ℕ, Bool, true, false, List, [], ◌∷◌, ◌++◌, length, reverse, Contains, slice_index_or}
use Rattle.df_groups2.specs.declared.finishing.Step.{Step}
use Rattle.df_groups2.specs.declared.finishing.Step.TheVariants.{Enter, Leave}
use Rattle.df_groups2.specs.declared.finishing.Search.{Search}
use Rattle.df_groups2.specs.Graph.{Path}
use Rattle.df_groups2.specs.Finishing.{IsFinishingOrder}
use Rattle.df_groups2.specs.Work.{work}

abbrev pub vertex_of : Step → ℕ
vertex_of (Enter vertex) = vertex
vertex_of (Leave vertex) = vertex

-- whether a vertex was entered; one past the last counts as entered
abbrev pub is_entered : List Bool → ℕ → Bool
is_entered entered vertex = slice_index_or entered vertex true

-- A vertex was entered and is still to be left, after the steps above it: each of its edges was followed or is to be, what was left since is
-- reached from it, and what was left before has no edge to it or to what was entered since.
pub record IsOpen (targets : ℕ → List ℕ) (entered : List Bool) (finished : List ℕ) (vertex : ℕ) (above : List Step) : Type 0 where
  -- what had been entered before it, and what was left then and since
  pub earlier : ℕ → Bool
  pub late : List ℕ
  pub early : List ℕ
  pub split : finished ≡ late ++ early
  pub stays : (other : ℕ) → earlier other ≡ true → is_entered entered other ≡ true
  pub fresh : earlier vertex ≡ false
  pub late_fresh : (other : ℕ) → Contains late other → earlier other ≡ false
  pub late_reached : (other : ℕ) → Contains late other → Path targets vertex other
  pub early_shut : (one other : ℕ) → Contains early one → Contains (targets one) other → earlier other ≡ true
  pub above_fresh : (other : ℕ) → Contains above (Leave other) → earlier other ≡ false
  pub above_reached : (step : Step) → Contains above step → Path targets vertex (vertex_of step)
  pub edges : (other : ℕ) → Contains (targets vertex) other → (is_entered entered other ≡ true) ⊎ Contains above (Enter other)

abbrev pub IsStep : (ℕ → List ℕ) → List Bool → List ℕ → Step → List Step → Type 0
IsStep targets entered finished (Enter vertex) above = Unit {0}
IsStep targets entered finished (Leave vertex) above = IsOpen targets entered finished vertex above

-- each element with those behind it
abbrev pub EachWithRest : {A : Type 0} → (A → List A → Type 0) → List A → Type 0
EachWithRest P [] = Unit {0}
EachWithRest P (x ∷ xs) = P x xs × EachWithRest P xs

-- What is known on the way: which of so many vertices were entered, the steps to be taken, the next one last, and the vertices that were left, the
-- last one first.
pub record IsSearching (targets : ℕ → List ℕ) (count : ℕ) (entered : List Bool) (steps : List Step) (finished : List ℕ) : Type 0 where
  pub each : length entered ≡ count
  pub opened : EachWithRest (IsStep targets entered finished) steps
  pub shut : (one other : ℕ) → Contains finished one → Contains (targets one) other → is_entered entered other ≡ true
  pub kept : (vertex : ℕ) → vertex < count → is_entered entered vertex ≡ true → Contains finished vertex ⊎ Contains steps (Leave vertex)
  pub awaited : (vertex : ℕ) → vertex < count → (is_entered entered vertex ≡ true) ⊎ Contains steps (Enter vertex)
  pub order : IsFinishingOrder targets finished

abbrev pub IsSearch : (ℕ → List ℕ) → ℕ → Search → Type 0
IsSearch targets count search = IsSearching targets count search.entered.items search.steps.items (reverse search.finished.items)

-- before a step is taken
abbrev pub IsSearchBefore : (ℕ → List ℕ) → ℕ → Step → Search → Type 0
IsSearchBefore targets count step search = IsSearching targets count search.entered.items (search.steps.items ++ step ∷ []) (reverse search.finished.items)

abbrev pub search_work : (ℕ → List ℕ) → Search → ℕ
search_work targets search = work (λ is_done. is_done) targets 0 search.entered.items + length search.steps.items

-- steps that enter vertices, each of so many
pub record EnterEach (count : ℕ) (steps : List Step) : Type 0 where
  pub only : (step : Step) → Contains steps step → step ≡ Enter (vertex_of step)
  pub all : (vertex : ℕ) → vertex < count → Contains steps (Enter vertex)
