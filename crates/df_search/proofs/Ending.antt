-- The ends of a branch, one after another.
use Rattle.std.proofs.Common.{◌≡◌, ℕ, ℤ, Result, Ok, Err, IfOk, ◌+◌, ◌<◌, ◌≤◌, inl, true, List, [], ◌∷◌, ◌++◌, length, Vec, None, Some, refl, sym, ap, ◌∙◌, subst, arith}
use Rattle.std.specs.declared.alloc.Global.{Global}
use Rattle.std.specs.declared.alloc.AllocError.{AllocError}
use Rattle.std.proofs.lemmas.List.{length_push}
use Rattle.df_form.specs.declared.log.Lit.{Lit}
use Rattle.df_form.specs.Clause.{negation, are_literals}
use Rattle.df_form.specs.Sequent.{Sequent}
use Rattle.df_closure.specs.Full.{IsConsistent}
use Rattle.df_trail.specs.declared.decision.Conflict.{Conflict}
use Rattle.df_trail.specs.declared.decision.Decision.{Decision}
use Rattle.df_trail.specs.declared.trail.Trail.{Trail}
use Rattle.df_trail.specs.Trail.{literal_of, literals_of, branch_of, decided, IsKept}
use Rattle.df_logbuild.specs.declared.derivation.Derivation.{Derivation}
use Rattle.df_logbuild.proofs.Added.{mapped_append}
use Rattle.df_branch.specs.Standing.{HasStanding, IsWideList, IsManyList}
use Rattle.df_search.specs.declared.searching.State.{State}
use Rattle.df_search.specs.declared.searching.End.{End}
use Rattle.df_search.specs.declared.searching.End.TheVariants as ends
use Rattle.df_search.specs.declared.searching.Turn.{Turn}
use Rattle.df_search.specs.declared.searching.Turn.TheVariants as turns
use Rattle.df_search.specs.Searching.{clauses_of, EndsAt, IsPlaced, Shortens, Grown, HasBefore, owed, lines_at, Comes, Ends, GoesFrom, GoesOn}
use Rattle.df_search.proofs.Paths.{covers_first}
use Rattle.df_search.proofs.Settling.{formulas_front, ends_searches, ends_pointed, kept_branch, stands_branch, wide_there, many_there}
use Rattle.df_search.proofs.Turning.{place_for}

-- ---- places of shorter branches

pub placed_pointed : (old : State) (point : Vec ℤ Global) → IsPlaced old → IsPlaced (record old { point = point })
placed_pointed old point is = record { place = is.place; places = is.places }

module _ (old : State) (before : List Lit) (has : HasBefore old before) where
  joined : branch_of old.trail ≡ literals_of has.0.kept ++ has.0.literal ∷ []
  joined = ap literals_of has.0.is ∙ mapped_append literal_of has.0.kept (decided has.0.literal)

  pub formulas_before : IsPlaced old → are_literals old.derivation.nodes before ≡ true
  formulas_before is =
      ap (are_literals old.derivation.nodes) has.1 ∙ formulas_front old.derivation.nodes (literals_of has.0.kept) (has.0.literal ∷ []) (ap (are_literals old.derivation.nodes) (sym joined) ∙ is.place.formulas)

  consistent_before : IsPlaced old → IsConsistent (literals_of has.0.kept)
  consistent_before is l here there =
      let all = covers_first (literals_of has.0.kept) (has.0.literal ∷ []) (branch_of old.trail) joined in
      is.place.consistent l (all.has l here) (all.has (negation l) there)

  module _ (trail : Trail) (taken : trail.decisions.items ≡ has.0.kept) where
    pub placed_shorter : IsPlaced old → IsPlaced (record old { trail = trail })
    placed_shorter is = record {
      place = place_for old.set (clauses_of old) old.derivation.nodes (branch_of old.trail) (branch_of trail) is.place
          (ap (λ (ds : List Decision). are_literals old.derivation.nodes (literals_of ds)) taken ∙ ap (are_literals old.derivation.nodes) (sym has.1) ∙ formulas_before is)
          (subst IsConsistent (sym (ap literals_of taken)) (consistent_before is));
      places = is.places;
    }

    pub fewer : length trail.decisions.items < length old.trail.decisions.items
    fewer = omega (arith, ap length taken, ap length has.0.is, length_push has.0.kept (decided has.0.literal))

-- ---- what the answers say

pub shortens_kept : (old : State) → IsKept old.trail → Shortens old old None
shortens_kept old kept s rounds ending h = (h, kept_branch s rounds old kept (ends_searches s rounds old ending h))

pub shortens_not : (old : State) (before : List Lit) → HasBefore old before → HasStanding (clauses_of old) old.derivation.nodes before → Shortens old old None
shortens_not old before has stands s rounds ending h = (h, stands_branch s rounds old before has stands (ends_searches s rounds old ending h))

pub shortens_pointed : (old : State) (before : List Lit) (point : Vec ℤ Global) → HasBefore old before → HasStanding (clauses_of old) old.derivation.nodes before → Shortens old (record old { point = point }) None
shortens_pointed old before point has stands s rounds ending h = (ends_pointed s rounds old point ending h, stands_branch s rounds old before has stands (ends_searches s rounds old ending h))

pub shortens_wide : (old : State) (before : List Lit) (has : HasBefore old before) (trail : Trail) → trail.decisions.items ≡ has.0.kept → IsWideList (clauses_of old) old.derivation.nodes before → Shortens old (record old { trail = trail }) (Some ends.Wide)
shortens_wide old before has trail taken wide s rounds ending h = wide_there s rounds old before has trail taken wide (ends_searches s rounds old ending h)

pub shortens_many : (old : State) (before : List Lit) (has : HasBefore old before) (trail : Trail) → trail.decisions.items ≡ has.0.kept → (count : ℕ) → IsManyList (clauses_of old) old.derivation.nodes before count → Shortens old (record old { trail = trail }) (Some (ends.Many count))
shortens_many old before has trail taken count many s rounds ending h = many_there s rounds old before has trail taken count many (ends_searches s rounds old ending h)

-- ---- from the end of the whole branch on

pub record IsSettling (old : State) (first : End) (now : State) (ending : End) : Type 0 where
  pub so_far : (s : Sequent) (rounds : ℕ) → EndsAt s rounds old first → EndsAt s rounds now ending
  pub placed : IsPlaced now
  pub closed : now.closed.items ≡ old.closed.items
  pub grown : lines_at old first ≤ lines_at now ending

pub settling_begins : (old : State) (first : End) → IsPlaced old → IsSettling old first old first
settling_begins old first placed = record { so_far = λ s rounds h. h; placed = placed; closed = refl; grown = omega arith }

owed_least : (ending : End) → owed ending ≤ 1
owed_least (ends.Closed conflict) = omega arith
owed_least ends.Wide = omega arith
owed_least (ends.Many count) = omega arith

pub settling_goes : (old : State) (first : End) (now : State) (ending : End) (new : State) (shorter : End) → IsSettling old first now ending → Shortens now new (Some shorter) → IsPlaced new → new.closed.items ≡ now.closed.items → Grown now new (Some shorter) → IsSettling old first new shorter
settling_goes old first now ending new shorter is shortens placed closed grown = record {
  so_far = λ s rounds h. shortens s rounds ending (is.so_far s rounds h);
  placed = placed;
  closed = closed ∙ is.closed;
  grown = omega (arith, is.grown, owed_least ending, grown);
}

pub settling_ends : (old : State) (first : End) (now : State) (ending : End) (new : State) (steps : ℕ) (last : State) (turn : Turn) → IsSettling old first now ending → Shortens now new None → new.closed.items ≡ now.closed.items → Ends new ending steps last turn
    → (s : Sequent) (rounds : ℕ) → EndsAt s rounds old first → length old.closed.items < steps → Comes s steps rounds last turn
settling_ends old first now ending new steps last turn is shortens closed finishes s rounds h few =
    let both = shortens s rounds ending (is.so_far s rounds h) in
    let still_few : length new.closed.items < steps = omega (arith, ap length (closed ∙ is.closed), few) in
    finishes s rounds both.0 both.1 still_few

-- ---- how the log grows

pub goes_less : (few many : ℕ) (new : State) (turn : Turn) → few ≤ many → GoesFrom many new turn → GoesFrom few new turn
goes_less few many new turns.On le h = omega (arith, le, h)
goes_less few many new turns.Proved le h = tt
goes_less few many new turns.Spent le h = tt
goes_less few many new (turns.Modelled table) le h = tt
goes_less few many new turns.Wide le h = tt
goes_less few many new (turns.Many count) le h = tt

pub settling_grows : (old : State) (first : End) (now : State) (ending : End) (new last : State) (turn : Turn) → IsSettling old first now ending → Grown now new None → GoesFrom (lines_at new ending) last turn → GoesFrom (lines_at old first) last turn
settling_grows old first now ending new last turn is same h = goes_less (lines_at old first) (lines_at new ending) last turn (omega (arith, is.grown, ap (λ (d : Derivation). length d.lines.items) same)) h

pub on_longer : (old new : State) (count : ℕ) (turn : Turn) → length old.derivation.lines.items < count → GoesFrom count new turn → GoesOn old new turn
on_longer old new count turns.On less h = inl (omega (arith, less, h))
on_longer old new count turns.Proved less h = tt
on_longer old new count turns.Spent less h = tt
on_longer old new count (turns.Modelled table) less h = tt
on_longer old new count turns.Wide less h = tt
on_longer old new count (turns.Many rows) less h = tt

-- a closed branch adds no line that is owed
pub closed_from : (old : State) (conflict : Conflict) (new : State) (turn : Result Turn AllocError) → length old.derivation.lines.items ≤ length new.derivation.lines.items → IfOk turn (GoesFrom (lines_at old (ends.Closed conflict)) new)
closed_from old conflict new (Err fault) le = tt
closed_from old conflict new (Ok turns.On) le = omega (arith, le)
closed_from old conflict new (Ok turns.Proved) le = tt
closed_from old conflict new (Ok turns.Spent) le = tt
closed_from old conflict new (Ok (turns.Modelled table)) le = tt
closed_from old conflict new (Ok turns.Wide) le = tt
closed_from old conflict new (Ok (turns.Many count)) le = tt
