-- Locals that are joined, or taken of one way, one after the other.
use Rattle.df_nflow.proofs.Words.{◌≡◌, ℕ, ◌+◌, ◌<◌, true, List, [], ◌∷◌, drop, get_or, length, Option, Some, sym, ap, ◌∙◌, subst, add-one, get_or_default, same_Some, Ty, Changed, Term, sort_of_type, Environment, drop_next, Way, Moved, over, with_term, saying, AreThere, AllThere, join_locals_from, take_all, Standing, at_path, Moves, is_at, are_at, changed_of, changed_in, Arrival, DeclaredChanged}
use Rattle.df_lang.specs.declared.ty.Ty.TheVariants as tys
use Rattle.df_nflow.proofs.Changes.{at_first, at_rest}
use Rattle.df_nflow.proofs.Flowing.{moves_on}
use Rattle.df_nflow.proofs.Going.{Moving, moving_join}

-- what is read beside a list of locals
abbrev pub no_change : DeclaredChanged
no_change = record { local = 0; ty = tys.Newtype 0 }

module _ (xs : List DeclaredChanged) (i : ℕ) (lt : i < length xs) where
  abbrev pub here_changed : DeclaredChanged
  here_changed = get_or xs i no_change

  abbrev pub behind_changed : List Changed
  behind_changed = changed_in (drop (i + 1) xs)

  pub changed_next : changed_in (drop i xs) ≡ changed_of here_changed ∷ behind_changed
  changed_next = ap changed_in (drop_next xs i here_changed (get_or_default xs i no_change here_changed lt) lt)

  pub at_next : (types : List Ty) → are_at types (changed_in (drop i xs)) ≡ true → (is_at types here_changed.local here_changed.ty ≡ true) × (are_at types behind_changed ≡ true)
  at_next types at = let at = sym (ap (are_at types) changed_next) ∙ at in (at_first types (changed_of here_changed) behind_changed at, at_rest types (changed_of here_changed) behind_changed at)

  pub there_next : (arrivals : List Arrival) → AllThere i (changed_in (drop i xs)) arrivals → AreThere i (sort_of_type here_changed.ty) arrivals × AllThere (i + 1) behind_changed arrivals
  there_next arrivals there =
      let there = subst (λ (cs : List Changed). AllThere i cs arrivals) changed_next there in
      (there.0, subst (λ (n : ℕ). AllThere n behind_changed arrivals) (sym (add-one i)) there.1)

  module _ (first here next : Standing) (whole : Moved) where
    pub joining_next : (arrivals seen : List Arrival) → seen ≡ arrivals → Moving first whole here (join_locals_from i (changed_in (drop i xs)) arrivals here.fresh here.way.env here.way.path)
        → Moves here (join_locals_from i (changed_of here_changed ∷ []) seen here.fresh here.way.env here.way.path) next → Moving first whole next (join_locals_from (i + 1) behind_changed arrivals next.fresh next.way.env next.way.path)
    joining_next arrivals seen same moving p =
        let moving = subst (λ (cs : List Changed). Moving first whole here (join_locals_from i cs arrivals here.fresh here.way.env here.way.path)) changed_next moving in
        let p = subst (λ (as_seen : List Arrival). Moves here (join_locals_from i (changed_of here_changed ∷ []) as_seen here.fresh here.way.env here.way.path) next) same p in
        subst (λ (n : ℕ). Moving first whole next (join_locals_from n behind_changed arrivals next.fresh next.way.env next.way.path)) (sym (add-one i))
        (moving_join first here next whole i (changed_of here_changed) behind_changed arrivals moving p)

    -- the first of the terms goes to the first of the locals
    pub taking_next : (a b : Term) (terms more : List Term) → terms ≡ b ∷ more → a ≡ b → Moving first whole here (saying [] here.fresh (over (take_all (changed_in (drop i xs)) terms here.way.env) here.way))
        → Moves here (saying [] here.fresh (over (with_term here.way.env here_changed.local a) here.way)) next → Moving first whole next (saying [] next.fresh (over (take_all behind_changed more next.way.env) next.way))
    taking_next a b terms more e same moving p =
        let moving = subst (λ (cs : List Changed). Moving first whole here (saying [] here.fresh (over (take_all cs terms here.way.env) here.way))) changed_next moving in
        let moving = subst (λ (ts : List Term). Moving first whole here (saying [] here.fresh (over (take_all (changed_of here_changed ∷ behind_changed) ts here.way.env) here.way))) e moving in
        let p = subst (λ (t : Term). Moves here (saying [] here.fresh (over (with_term here.way.env here_changed.local t) here.way)) next) same p in
        let go = λ (fresh : ℕ) (way : Way). saying [] fresh (over (take_all behind_changed more way.env) way) in
        record { by = λ last q. moving.by last (moves_on here next last (saying [] here.fresh (over (with_term here.way.env here_changed.local b) here.way)) go p q) }

-- on another path
pub moves_on_path : (a b : Standing) (env : Environment) (path other : Option Term) → Moves a (saying [] a.fresh (record { env = env; path = path })) b → Moves a (saying [] a.fresh (record { env = env; path = other })) (at_path other b)
moves_on_path a b env path other p = record {
  types = p.types;
  entry = p.entry;
  said = p.said;
  fresh = p.fresh;
  way = ap (λ (way : Way). Some (record { env = way.env; path = other })) (same_Some (record { env = env; path = path }) b.way p.way);
  loses = p.loses;
  kept = p.kept;
  trail = p.trail;
  back = p.back;
  breaks = p.breaks;
  returns = p.returns;
  sorted_breaks = p.sorted_breaks;
  sorted_returns = p.sorted_returns;
}
