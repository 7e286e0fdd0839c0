-- Ways that come together, of which one is taken.
use Rattle.df_nflow.proofs.Words.{◌≡◌, ◌⊎◌, inl, inr, ℕ, ◌==◌, if◌then◌else◌, List, [], ◌∷◌, map, refl, sym, ap, ◌∙◌, ◌<◌, ◌≤◌, suc, Bool, true, false, ◌++◌, get_or, length, Option, subst, append-nil, arith, eq-eqb, Changed, is_or_not, Term, Environment, with_term, changed_alone, Said, Way, Moved, over, free_of, join_locals, join, join_branches, saying, take_all, are_same_at, assume_joined_at, join_locals_from, Arrival, arrival, Arrive, Standing, also, at_path, Moves, Joins, Ended, AreEnded, head_same}
use Rattle.df_nflow.proofs.Backing.{with_other}
use Rattle.df_nflow.proofs.Arriving.{ended_arrive}
use Rattle.df_nflow.proofs.Changes.{said_given, locals_joined}
use Rattle.df_nflow.proofs.Flowing.{passes_none}
use Rattle.df_nflow.proofs.Standings.{also_fresh}

module _ (now : Environment) where
  abbrev terms : List Changed → List Term
  terms changed = map (λ (c : Changed). now c.local) changed

  by_one : (e : Environment) (k n : ℕ) → (n ≡ k) ⊎ (n ≡ k → ⊥) → e n ≡ now n → with_term e k (now k) n ≡ now n
  by_one e k n (inl s) is = rw (eq-eqb n k s) (ap now (sym s))
  by_one e k n (inr h) is = with_other e k n (now k) h ∙ is

  -- where a local has the term of the way it keeps it
  taken_same : (changed : List Changed) (env : Environment) (n : ℕ) → env n ≡ now n → take_all changed (terms changed) env n ≡ now n
  taken_same [] env n e = e
  taken_same (c ∷ others) env n e = taken_same others (with_term env c.local (now c.local)) n (by_one env c.local n (is_or_not n c.local) e)

  alike : (n : ℕ) (cs : List Changed) (d e : Environment) → d n ≡ e n → take_all cs (terms cs) d n ≡ take_all cs (terms cs) e n
  alike n [] d e same = same
  alike n (k ∷ ks) d e same = alike n ks (with_term d k.local (now k.local)) (with_term e k.local (now k.local)) (ap (λ (t : Term). if n == k.local then now k.local else t) same)

  at_once : (e : Environment) (k n : ℕ) → n ≡ k → with_term e k (now k) n ≡ now n
  at_once e k n s = rw (eq-eqb n k s) (ap now (sym s))

  taken_here : (c : Changed) (others : List Changed) (env : Environment) (n : ℕ) → (n ≡ c.local) ⊎ (n ≡ c.local → ⊥) → take_all others (terms others) env n ≡ changed_alone others env now n
      → take_all others (terms others) (with_term env c.local (now c.local)) n ≡ with_term (changed_alone others env now) c.local (now c.local) n
  taken_here c others env n (inl s) rest = taken_same others (with_term env c.local (now c.local)) n (at_once env c.local n s) ∙ sym (at_once (changed_alone others env now) c.local n s)
  taken_here c others env n (inr h) rest =
      alike n others (with_term env c.local (now c.local)) env (with_other env c.local n (now c.local) h) ∙ rest ∙ sym (with_other (changed_alone others env now) c.local n (now c.local) h)

  -- each local has after both the same term
  taken_at : (changed : List Changed) (env : Environment) (n : ℕ) → take_all changed (terms changed) env n ≡ changed_alone changed env now n
  taken_at [] env n = refl
  taken_at (c ∷ others) env n = taken_here c others env n (is_or_not n c.local) (taken_at others env n)

  pub taken_alone : (changed : List Changed) (env : Environment) → take_all changed (terms changed) env ≡ changed_alone changed env now
  taken_alone changed env = λ i n. taken_at changed env n i

module _ (a b : Standing) (path : Option Term) (changed : List Changed) where
  -- of one way the changed locals are taken
  pub joins_one : (way : Way) → Moves a (saying [] a.fresh (record { env = take_all changed (map (λ (c : Changed). way.env c.local) changed) a.way.env; path = way.path })) b
      → Joins a (join path a.way.env changed (way ∷ []) a.fresh) b true
  joins_one way p = subst (λ (env : Environment). Moves a (saying [] a.fresh (record { env = env; path = way.path })) b) (taken_alone way.env changed a.way.env) p

  -- several ways
  pub joins_more : (way other : Way) (others : List Way)
      → Moves (at_path path a) (join_locals_from 0 changed (map (arrival changed) (way ∷ other ∷ others)) a.fresh a.way.env path) b
      → Joins a (join path a.way.env changed (way ∷ other ∷ others) a.fresh) b true
  joins_more way other others p =
      let p : Moves (at_path path a) (join_locals changed (way ∷ other ∷ others) a.fresh a.way.env path) b =
      subst (λ (m : Moved). Moves (at_path path a) m b) (locals_joined changed (way ∷ other ∷ others) a.fresh a.way.env path) p in
      record {
        types = p.types;
        entry = p.entry;
        said = p.said;
        fresh = p.fresh;
        way = p.way;
        loses = p.loses;
        kept = p.kept;
        trail = p.trail;
        back = p.back;
        breaks = p.breaks;
        returns = p.returns;
        sorted_breaks = p.sorted_breaks;
        sorted_returns = p.sorted_returns;
      }

  -- by what is kept of the ways
  pub joins_one_kept : (kept : List Arrival) (one : Arrival) (ways : List Way) → kept ≡ one ∷ [] → Arrive changed kept ways → Moves a (saying [] a.fresh (record { env = take_all changed one.terms a.way.env; path = one.path })) b
      → Joins a (join path a.way.env changed ways a.fresh) b true
  joins_one_kept kept one [] e arrive p = absurd (let clash : one ∷ [] ≡ [] = sym e ∙ arrive.are in cc)
  joins_one_kept kept one (way ∷ []) e arrive p = joins_one way (subst (λ (x : Arrival). Moves a (saying [] a.fresh (record { env = take_all changed x.terms a.way.env; path = x.path })) b) (head_same one (arrival changed way) [] [] (sym e ∙ arrive.are)) p)
  joins_one_kept kept one (way ∷ other ∷ others) e arrive p = absurd (let clash : one ∷ [] ≡ map (arrival changed) (way ∷ other ∷ others) = sym e ∙ arrive.are in cc)

  pub joins_more_kept : (kept : List Arrival) (ways : List Way) → 2 ≤ length kept → Arrive changed kept ways → Moves (at_path path a) (join_locals_from 0 changed kept a.fresh a.way.env path) b → Joins a (join path a.way.env changed ways a.fresh) b true
  joins_more_kept kept [] long arrive p = absurd (omega (arith, ap (λ (xs : List Arrival). length xs) arrive.are))
  joins_more_kept kept (way ∷ []) long arrive p = absurd (omega (arith, ap (λ (xs : List Arrival). length xs) arrive.are))
  joins_more_kept kept (way ∷ other ∷ others) long arrive p = joins_more way other others (subst (λ (xs : List Arrival). Moves (at_path path a) (join_locals_from 0 changed xs a.fresh a.way.env path) b) arrive.are p)

  -- at the ends of several branches
  pub joins_more_ended : (kept : List Arrival) (ended : List Ended) (ways : List Way) (on : Bool) → map (λ (e : Ended). e.arrival) ended ≡ kept → 2 ≤ length kept → AreEnded changed a.way.env ended ways
      → ((some : List Way) → Arrive changed kept some → Joins a (join path a.way.env changed some a.fresh) b on) → Joins a (join_branches path a.way.env changed ways a.fresh) b on
  joins_more_ended kept ended ways on same long are all = by ways (subst (λ (xs : List Arrival). Arrive changed xs ways) same (ended_arrive changed a.way.env ended ways are))
    where
      by : (ways : List Way) → Arrive changed kept ways → Joins a (join_branches path a.way.env changed ways a.fresh) b on
      by [] arrive = all [] arrive
      by (way ∷ []) arrive = absurd (omega (arith, ap (λ (xs : List Arrival). length xs) arrive.are))
      by (way ∷ other ∷ others) arrive = all (way ∷ other ∷ others) arrive

-- a list of one element
pub one_alone : {A : Type 0} (xs : List A) (x : A) → 1 ≤ length xs → length xs < 2 → x ≡ get_or xs 0 x → xs ≡ x ∷ []
one_alone [] x long short e = absurd (omega arith)
one_alone (y ∷ []) x long short e = ap (λ z. z ∷ []) (sym e)
one_alone (y ∷ z ∷ xs) x long short e = absurd (omega arith)

-- ---- one local

module _ (s : Standing) (place : ℕ) (c : Changed) (arrivals : List Arrival) where
  abbrev joined_if : Bool → Moved
  joined_if same =
      if same then record { said = []; fresh = s.fresh; way = s.way }
      else record { said = assume_joined_at c.ty place (free_of s.fresh c.ty) arrivals ++ []; fresh = suc s.fresh; way = over (with_term s.way.env c.local (free_of s.fresh c.ty)) s.way }

  -- one that has its term on each way
  pub join_kept : are_same_at (s.way.env c.local) place arrivals ≡ true → Moves s (join_locals_from place (c ∷ []) arrivals s.fresh s.way.env s.way.path) s
  join_kept e = subst (λ (b : Bool). Moves s (joined_if b) s) (sym e) (passes_none s)

  -- one that is a new free term
  pub join_new : (fresh mid next : Standing) (seen : List Arrival) (a b : Term) → are_same_at (s.way.env c.local) place arrivals ≡ false → fresh ≡ also_fresh [] (suc s.fresh) s → seen ≡ arrivals
      → a ≡ free_of s.fresh c.ty → b ≡ free_of s.fresh c.ty → mid ≡ also (assume_joined_at c.ty place a seen) fresh → Moves mid (saying [] mid.fresh (over (with_term mid.way.env c.local b) mid.way)) next
      → Moves s (join_locals_from place (c ∷ []) arrivals s.fresh s.way.env s.way.path) next
  join_new fresh mid next seen a b e made same f g said p =
      let all = assume_joined_at c.ty place (free_of s.fresh c.ty) arrivals in
      let step : mid ≡ also_fresh all (suc s.fresh) s =
      said ∙ (λ i. also (assume_joined_at c.ty place (f i) (same i)) (made i))
      ∙ (λ i. record { types = s.types; entry = s.entry; said = append-nil s.said i ++ all; fresh = suc s.fresh; way = s.way; trail = s.trail; breaks = s.breaks; returns = s.returns }) in
      let q = said_given s mid next all (suc s.fresh) c.local b (free_of s.fresh c.ty) step g p in
      subst (λ (same : Bool). Moves s (joined_if same) next) (sym e)
      (subst (λ (said : List Said). Moves s (saying said (suc s.fresh) (over (with_term s.way.env c.local (free_of s.fresh c.ty)) s.way)) next) (sym (append-nil all)) q)
