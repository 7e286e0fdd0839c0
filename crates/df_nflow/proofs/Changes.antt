-- What statements change, and the locals that come together.
use Rattle.df_nflow.proofs.Words.{◌≡◌, ℕ, true, List, [], ◌∷◌, slice_get, Some, sym, ap, ◌∙◌, subst, append-nil, zero, suc, pos, Bool, ◌&&◌, ◌++◌, map, drop, slice_index_or, Option, refl, list_all, and_parts, same_Some, slice_get_within, Ty, Node, Changed, Term, sort_of_type, literal, same_term, Environment, IsTerm, Said, over, with_term, Way, Moved, either_path, paths_of, assume_there, free_of, are_same, assume_joined, join_locals, saying, Standing, Moves, is_at, are_at, IsKept, arrival, term_at, are_same_at, assume_joined_at, join_locals_from, paths_in, head_same, tail_same}
use Rattle.df_npass.proofs.Turns.{type_there}
use Rattle.df_nflow.proofs.Flowing.{moves_then}
use Rattle.df_nflow.proofs.Standings.{also_fresh, moves_with}
use Rattle.df_nlocals.proofs.Once.{same_when}

pub at_first : (types : List Ty) (c : Changed) (others : List Changed) → are_at types (c ∷ others) ≡ true → is_at types c.local c.ty ≡ true
at_first types c others is = (and_parts (is_at types c.local c.ty) (list_all (λ (d : Changed). is_at types d.local d.ty) others) is).0

pub at_rest : (types : List Ty) (c : Changed) (others : List Changed) → are_at types (c ∷ others) ≡ true → are_at types others ≡ true
at_rest types c others is = (and_parts (is_at types c.local c.ty) (list_all (λ (d : Changed). is_at types d.local d.ty) others) is).1

pub type_at : (types : List Ty) (local : ℕ) (ty : Ty) → is_at types local ty ≡ true → slice_get types local ≡ Some ty
type_at types local ty is = type_there types (record { local = local; ty = ty }) is

-- a term of the local's type may be given to it
pub kept_of : (nodes : List Node) (types : List Ty) (local : ℕ) (ty : Ty) (n : ℕ) → is_at types local ty ≡ true → IsTerm (sort_of_type ty) nodes n → IsKept nodes types local n
kept_of nodes types local ty n is term =
    let there = type_at types local ty is in
    record {
      within = slice_get_within types local ty there;
      below = term.below;
      sorted = λ own e. term.sort_is ∙ ap sort_of_type (same_Some ty own (sym there ∙ e));
    }

-- something is said, and then a local is given a term
module _ (here mid next : Standing) (said : List Said) (fresh local : ℕ) (a b : Term) where
  pub said_given : mid ≡ also_fresh said fresh here → a ≡ b → Moves mid (saying [] mid.fresh (over (with_term mid.way.env local a) mid.way)) next
      → Moves here (saying said fresh (over (with_term here.way.env local b) here.way)) next
  said_given e same p =
      let q = subst (λ (s : Standing). Moves s (saying [] s.fresh (over (with_term s.way.env local a) s.way)) next) e p in
      let r = subst (λ (t : Term). Moves (also_fresh said fresh here) (saying [] fresh (over (with_term here.way.env local t) here.way)) next) same q in
      subst (λ (all : List Said). Moves here (saying all fresh (over (with_term here.way.env local b) here.way)) next) (append-nil said)
      (moves_then here (also_fresh said fresh here) next (saying said fresh here.way) (saying [] fresh (over (with_term here.way.env local b) here.way)) (moves_with here said fresh) r)

-- what stands behind a place
pub rest_behind : {A : Type 0} (xs : List A) (n : ℕ) (x : A) (others : List A) → drop n xs ≡ x ∷ others → drop (suc n) xs ≡ others
rest_behind [] zero x others e = absurd cc
rest_behind [] (suc n) x others e = absurd cc
rest_behind (y ∷ ys) zero x others e = tail_same y x ys others e
rest_behind (y ∷ ys) (suc n) x others e = rest_behind ys n x others e

pub mapped_there : {A : Type 0} (f : A → Term) (xs : List A) (n : ℕ) (x : A) (others : List A) (d : Term) → drop n xs ≡ x ∷ others → slice_index_or (map f xs) n d ≡ f x
mapped_there f [] zero x others d e = absurd cc
mapped_there f [] (suc n) x others d e = absurd cc
mapped_there f (y ∷ ys) zero x others d e = ap f (head_same y x ys others e)
mapped_there f (y ∷ ys) (suc n) x others d e = mapped_there f ys n x others d e

module _ (whole : List Changed) (place : ℕ) (c : Changed) (others : List Changed) (is : drop place whole ≡ c ∷ others) where
  pub term_there : (way : Way) → term_at (arrival whole way) place ≡ way.env c.local
  term_there way = mapped_there (λ (c : Changed). way.env c.local) whole place c others (literal (pos 0)) is

  pub same_there : (a : Term) (ways : List Way) → are_same_at a place (map (arrival whole) ways) ≡ are_same a ways c.local
  same_there a [] = refl
  same_there a (way ∷ ways) =
      ap (λ (t : Term). same_term a t && are_same_at a place (map (arrival whole) ways)) (term_there way)
      ∙ ap (λ (b : Bool). same_term a (way.env c.local) && b) (same_there a ways)

  pub joined_there : (ty : Ty) (a : Term) (ways : List Way) → assume_joined_at ty place a (map (arrival whole) ways) ≡ assume_joined ty c.local a ways
  joined_there ty a [] = refl
  joined_there ty a (way ∷ ways) =
      ap (λ (t : Term). assume_there ty a way.path t ++ assume_joined_at ty place a (map (arrival whole) ways)) (term_there way)
      ∙ ap (λ (said : List Said). assume_there ty a way.path (way.env c.local) ++ said) (joined_there ty a ways)

abbrev behind : List Said → Moved → Moved
behind said more = record { said = said ++ more.said; fresh = more.fresh; way = more.way }

module _ (whole : List Changed) (ways : List Way) where
  pub locals_from : (place : ℕ) (left : List Changed) (fresh : ℕ) (env : Environment) (path : Option Term) → drop place whole ≡ left
      → join_locals_from place left (map (arrival whole) ways) fresh env path ≡ join_locals left ways fresh env path
  locals_from place [] fresh env path e = refl
  locals_from place (c ∷ others) fresh env path e =
      let rest = rest_behind whole place c others e in
      let free = free_of fresh c.ty in
      same_when (are_same_at (env c.local) place (map (arrival whole) ways)) (are_same (env c.local) ways c.local)
      (join_locals_from (suc place) others (map (arrival whole) ways) fresh env path)
      (behind (assume_joined_at c.ty place free (map (arrival whole) ways)) (join_locals_from (suc place) others (map (arrival whole) ways) (suc fresh) (with_term env c.local free) path))
      (join_locals others ways fresh env path)
      (behind (assume_joined c.ty c.local free ways) (join_locals others ways (suc fresh) (with_term env c.local free) path))
      (same_there whole place c others e (env c.local) ways)
      (locals_from (suc place) others fresh env path rest)
      (ap (λ (said : List Said). behind said (join_locals_from (suc place) others (map (arrival whole) ways) (suc fresh) (with_term env c.local free) path)) (joined_there whole place c others e c.ty free ways)
      ∙ ap (behind (assume_joined c.ty c.local free ways)) (locals_from (suc place) others (suc fresh) (with_term env c.local free) path rest))

  -- locals of several ways
  pub locals_joined : (fresh : ℕ) (env : Environment) (path : Option Term) → join_locals_from 0 whole (map (arrival whole) ways) fresh env path ≡ join_locals whole ways fresh env path
  locals_joined fresh env path = locals_from 0 whole fresh env path refl

pub paths_joined : (whole : List Changed) (ways : List Way) → paths_in (map (arrival whole) ways) ≡ paths_of ways
paths_joined whole [] = refl
paths_joined whole (way ∷ ways) = ap (either_path way.path) (paths_joined whole ways)
