-- Where no run comes by any of some ways, none comes behind their join.
use Rattle.df_npass.proofs.Words.{all_joined, ◌≡◌, ℕ, true, false, List, [], ◌∷◌, Option, ap, ◌∙◌, Ty, Assigned, State, Changed, Term, Interpretation, Environment, Way, free_of, assume_joined, join_locals, paths_of, any_path, join, join_branches, ways_of}
use Rattle.df_npass.proofs.Lemmas.{AllTrue, path_true, Mode, off_any, AllOff, OneSits, by_locals, renewed}
use Rattle.df_npass.proofs.Joining.{joined_off, any_path_true, sole_of, sole_any, join_path, Many}

-- one of the paths
pub no_path : (i : Interpretation) (ways : List Way) → AllOff i ways → path_true i (any_path (paths_of ways)) ≡ false
no_path i ways off = any_path_true i (paths_of ways) ∙ off_any i ways off

pub one_path : (mode : Mode) (i : Interpretation) (all : List Ty) (ways : List Way) (before : Assigned) (s : State) → OneSits mode i all ways before s → path_true i (any_path (paths_of ways)) ≡ true
one_path mode i all ways before s one = let sole = sole_of mode i all ways before s one in any_path_true i (paths_of ways) ∙ sole_any i sole.way ways sole.is

locals_off : (i : Interpretation) (ways : List Way) → AllOff i ways → (path : Option Term) (changed : List Changed) (fresh : ℕ) (env : Environment) → AllTrue i (join_locals changed ways fresh env path).said
locals_off i ways off path = by_locals ways path (λ changed fresh env moved. AllTrue i moved.said) (λ fresh env. tt) (λ c others fresh env same h. h)
    (λ c others fresh env h. all_joined _ (assume_joined c.ty c.local (free_of fresh c.ty) ways) (renewed ways path c others fresh env).said (joined_off i c.ty c.local (free_of fresh c.ty) ways off) h)

pub join_off_said : (i : Interpretation) (path : Option Term) (env : Environment) (changed : List Changed) (ways : List Way) (fresh : ℕ) → AllOff i ways → AllTrue i (join path env changed ways fresh).said
join_off_said i path env changed [] fresh off = tt
join_off_said i path env changed (way ∷ []) fresh off = tt
join_off_said i path env changed (way ∷ other ∷ others) fresh off = locals_off i (way ∷ other ∷ others) off path changed fresh env

pub join_off_way : (i : Interpretation) (path : Option Term) (env : Environment) (changed : List Changed) (ways : List Way) (fresh : ℕ) → AllOff i ways → (Many ways → path_true i path ≡ false) → AllOff i (ways_of (join path env changed ways fresh).way)
join_off_way i path env changed [] fresh off away = tt
join_off_way i path env changed (way ∷ []) fresh off away = off
join_off_way i path env changed (way ∷ other ∷ others) fresh off away = (ap (path_true i) (join_path (way ∷ other ∷ others) path changed fresh env) ∙ away tt, tt)

-- ---- the same of branches

pub branches_off_said : (i : Interpretation) (path : Option Term) (env : Environment) (changed : List Changed) (ways : List Way) (fresh : ℕ) → AllOff i ways → AllTrue i (join_branches path env changed ways fresh).said
branches_off_said i path env changed (way ∷ []) fresh off = tt
branches_off_said i path env changed ways fresh off = join_off_said i path env changed ways fresh off

pub branches_off_way : (i : Interpretation) (path : Option Term) (env : Environment) (changed : List Changed) (ways : List Way) (fresh : ℕ) → AllOff i ways → (Many ways → path_true i path ≡ false) → AllOff i (ways_of (join_branches path env changed ways fresh).way)
branches_off_way i path env changed (way ∷ []) fresh off away = off
branches_off_way i path env changed ways fresh off away = join_off_way i path env changed ways fresh off away
