-- Locals one after the other: havoc, updates and joins.
use Rattle.df_nflow.proofs.Words.{◌≡◌, ℕ, suc, Bool, true, false, if◌then◌else◌, List, [], ◌∷◌, ◌++◌, subst, append-nil, Target, Changed, Term, Said, Way, Moved, over, with_term, free_of, assume_type, havoc, saying, Taken, taken_by, assert_equal, give_all, Arrival, Standing, Moves, are_same_at, assume_joined_at, join_locals_from}
use Rattle.df_nflow.proofs.Flowing.{moves_on}

-- one local takes any value of its type
abbrev pub one_havoc : Changed → ℕ → Way → Moved
one_havoc c fresh way = saying (assume_type way.path c.ty (free_of fresh c.ty)) (suc fresh) (over (with_term way.env c.local (free_of fresh c.ty)) way)

pub havoc_step : (a b d : Standing) (c : Changed) (others : List Changed) → Moves a (one_havoc c a.fresh a.way) b → Moves b (havoc others b.fresh b.way) d → Moves a (havoc (c ∷ others) a.fresh a.way) d
havoc_step a b d c others p q = moves_on a b d (one_havoc c a.fresh a.way) (havoc others) p q

-- one place takes its term
abbrev pub one_give : List Taken → Target → Term → ℕ → Way → Moved
one_give earlier t x fresh way = saying (assert_equal way.path t x (taken_by t.local earlier)) fresh (over (with_term way.env t.local x) way)

pub give_step : (a b d : Standing) (earlier : List Taken) (t : Target) (ts : List Target) (x : Term) (xs : List Term) → Moves a (one_give earlier t x a.fresh a.way) b
    → Moves b (give_all (record { local = t.local; value = x } ∷ earlier) ts xs b.fresh b.way) d → Moves a (give_all earlier (t ∷ ts) (x ∷ xs) a.fresh a.way) d
give_step a b d earlier t ts x xs p q = moves_on a b d (one_give earlier t x a.fresh a.way) (give_all (record { local = t.local; value = x } ∷ earlier) ts xs) p q

module _ (a b d : Standing) (place : ℕ) (c : Changed) (others : List Changed) (arrivals : List Arrival) where
  abbrev kept : Moved
  kept = record { said = []; fresh = a.fresh; way = record { env = a.way.env; path = a.way.path } }

  abbrev made : Moved
  made = record { said = assume_joined_at c.ty place (free_of a.fresh c.ty) arrivals ++ []; fresh = suc a.fresh; way = record { env = with_term a.way.env c.local (free_of a.fresh c.ty); path = a.way.path } }

  abbrev rest : ℕ → Way → Moved
  rest fresh way = join_locals_from (suc place) others arrivals fresh way.env way.path

  abbrev after : Moved
  after = let more = rest (suc a.fresh) (record { env = with_term a.way.env c.local (free_of a.fresh c.ty); path = a.way.path }) in
      record { said = assume_joined_at c.ty place (free_of a.fresh c.ty) arrivals ++ more.said; fresh = more.fresh; way = more.way }

  join_by : (same : Bool) → Moves a (if same then kept else made) b → Moves b (rest b.fresh b.way) d → Moves a (if same then rest a.fresh a.way else after) d
  join_by true p q = moves_on a b d kept rest p q
  join_by false p q =
      let said = assume_joined_at c.ty place (free_of a.fresh c.ty) arrivals in
      let none : (assume_joined_at c.ty place (free_of a.fresh c.ty) arrivals ++ []) ≡ assume_joined_at c.ty place (free_of a.fresh c.ty) arrivals = append-nil (assume_joined_at c.ty place (free_of a.fresh c.ty) arrivals) in
      subst (λ (s : List Said). Moves a (saying (s ++ (rest made.fresh made.way).said) (rest made.fresh made.way).fresh (rest made.fresh made.way).way) d) none (moves_on a b d made rest p q)

  -- one local is joined
  pub join_step : Moves a (join_locals_from place (c ∷ []) arrivals a.fresh a.way.env a.way.path) b → Moves b (join_locals_from (suc place) others arrivals b.fresh b.way.env b.way.path) d
      → Moves a (join_locals_from place (c ∷ others) arrivals a.fresh a.way.env a.way.path) d
  join_step p q = join_by (are_same_at (a.way.env c.local) place arrivals) p q
