-- What is said of expressions, clauses and measures tells of their evaluation, and of what goes on from there.
use Rattle.df_npass.proofs.Words.{Requires, meaning, ◌≡◌, inl, inr, ℕ, Bool, true, false, if◌then◌else◌, List, [], ◌∷◌, ◌++◌, map, slice_get, Option, Some, refl, sym, ap, ◌∙◌, subst, append_assoc, flat_map, list_all, Pos, Ty, Expr, Clause, Measure, Program, is_expr, are_exprs, are_clauses, Use, Assigned, Unreached, Reached, reads, reads_of_clauses, reads_of_measures, unassigned, Kind, Value, truth_of, Outcome, Gives, Wrong, Dismissed, after, Handed, State, store_with, with_store, AreAssigned, Meaning, evaluate, evaluate_all, check_all, check_call, assume_each, or_dismissed, measure_values, both, Within, parted, use_has, evaluate_counts, not_dismissed, Term, sort_of_type, Interpretation, truth, has_sort, Environment, Condition, term_of, conditions_of, Measured, measured, told, AreMeasured, IsOr, told_after, IsSorted, HoldsOn, term_sorted, IsBelow, AreBelow, term_below, conditions_below, Said, Known, Owed, Way, is_unset, on_path, assume_all, assert_all, assume, assert, at_clause, assert_clauses, assume_clauses, assert_expr, assert_exprs, assert_measure, require_all, has_value}
use Rattle.df_meaning.proofs.Same.{evaluate_same, after_same}
use Rattle.df_lang.specs.declared.ty.Ty.TheVariants as types
use Rattle.df_meaning.specs.Outcome as outcomes
use Rattle.df_nterm.proofs.Laws.{evaluation_or_dismissed}
use Rattle.df_npass.proofs.Saying.{path_true, on_it, PathBelow, EnvBelow, on_path_below}
use Rattle.df_npass.proofs.Playing.{Mode, Following, Taking, is_taking, Play, play_as, play_silent, said_then, not_wrong}
use Rattle.df_npass.proofs.Unset.{SetAll, AllHold, is_set}

-- the state with this still to be handed in
abbrev pub with_handed : State → List Handed → State
with_handed s handed = with_store s (store_with s.store.text handed)

-- runs come there by the flow
abbrev pub IsReached : Assigned → Type 0
IsReached Unreached = ⊥
IsReached (Reached set) = Unit {0}

-- and the term of each local that has a value by it has this value
abbrev pub HoldAll : Interpretation → Environment → Assigned → State → Type 0
HoldAll i env before s = IsReached before × ((local : ℕ) (v : Value) → has_value before local ≡ true → s.locals local ≡ Some v → meaning i (env local) ≡ v)

-- that of each local, also of one without a value, is of the sort of its type
abbrev pub SortedAll : Interpretation → List Ty → Environment → Type 0
SortedAll i all env = (local : ℕ) (ty : Ty) → slice_get all local ≡ Some ty → IsSorted ty (meaning i (env local))

-- Runs come to a way with a state. Where what is handed in is read from the interpretation, locals have the values that the flow says.
pub record Sits (mode : Mode) (i : Interpretation) (all : List Ty) (way : Way) (before : Assigned) (s : State) : Type 0 where
  pub there : path_true i way.path ≡ true
  pub sorted : SortedAll i all way.env
  pub holds : HoldAll i way.env before s
  pub set : SetAll way.env before
  pub present : is_taking mode ≡ false → AreAssigned before s

pub sits_as : (a b : Mode) (i : Interpretation) (all : List Ty) (way : Way) (before : Assigned) (s : State) → is_taking a ≡ is_taking b → Sits a i all way before s → Sits b i all way before s
sits_as a b i all way before s kind h = record { there = h.there; sorted = h.sorted; holds = h.holds; set = h.set; present = λ following. h.present (kind ∙ following) }

hold_on : (i : Interpretation) (locals all : List Ty) (env : Environment) (s : State) → SortedAll i all env → Within locals all → (before : Assigned) → HoldAll i env before s → (uses : List Use) → unassigned before uses ≡ [] → HoldsOn i locals env s uses
hold_on i locals all env s sorted within before h [] e = tt
hold_on i locals all env s sorted within before h (u ∷ uses) e = (
  record { sorted = λ ty there. sorted u.local ty (within.at u.local ty there); term = λ v there. h.1 u.local v (use_has before u uses e) there },
  hold_on i locals all env s sorted within before h uses ((parted before (u ∷ []) uses e).1),
)

abbrev pub values_at : Interpretation → List Term → List Value
values_at i terms = map (meaning i) terms

-- the term has a value of the sort of the type, and is not that of a local without one
pub record IsGiven (i : Interpretation) (ty : Ty) (a : Term) : Type 0 where
  pub sorted : IsSorted ty (meaning i a)
  pub set : is_unset a ≡ false

-- so of each
abbrev pub AreOf : Interpretation → List Ty → List Term → Type 0
AreOf i [] [] = Unit {0}
AreOf i (ty ∷ tys) (a ∷ others) = IsGiven i ty a × AreOf i tys others
AreOf i tys terms = ⊥

-- the value of the term, of the sort of the type
pub record IsTerm (i : Interpretation) (env : Environment) (e : Expr) (ty : Ty) (v : Value) : Type 0 where
  pub value : v ≡ meaning i (term_of env e)
  pub sorted : has_sort (sort_of_type ty) v ≡ true

-- of four parts the first two and the third
pub three_parts : {A : Type 0} (xs ys zs ws : List A) → ((xs ++ ys) ++ zs) ++ ws ≡ xs ++ (ys ++ (zs ++ ws))
three_parts xs ys zs ws = append_assoc (xs ++ ys) zs ws ∙ append_assoc xs ys (zs ++ ws)

-- ---- outcomes

pub after_after : {A B C : Type 0} (o : Outcome A) (f : A → Outcome B) (g : B → Outcome C) → after (after o f) g ≡ after o (λ a. after (f a) g)
after_after (Gives a) f g = refl
after_after (Wrong at kind) f g = refl
after_after outcomes.TooDeep f g = refl
after_after outcomes.NoChoice f g = refl
after_after Dismissed f g = refl

pub then_same : {A B : Type 0} (o : Outcome A) (f g : A → Outcome B) → ((a : A) → f a ≡ g a) → after o f ≡ after o g
then_same o f g h = after_same o o f g refl h

pub after_either : {A B : Type 0} (b : Bool) (p q : Outcome A) (f : A → Outcome B) (r : Outcome B) → after q f ≡ r → after (if b then p else q) f ≡ (if b then after p f else r)
after_either true p q f r e = refl
after_either false p q f r e = e

-- what is decided by a value is gone on from
pub after_if : {A B : Type 0} (o : Outcome Value) (p q : Outcome A) (f : A → Outcome B) (r : Outcome B) → after q f ≡ r → after (after o (λ v. if truth_of v then p else q)) f ≡ after o (λ v. if truth_of v then after p f else r)
after_if o p q f r e = after_after o (λ v. if truth_of v then p else q) f ∙ then_same o _ _ (λ v. after_either (truth_of v) p q f r e)

-- a value and then the others
pub after_listed : {B : Type 0} (o : Outcome Value) (p : Outcome (List Value)) (f : List Value → Outcome B) → after (after o (λ v. after p (λ vs. Gives (v ∷ vs)))) f ≡ after o (λ v. after p (λ vs. f (v ∷ vs)))
after_listed o p f = after_after o (λ v. after p (λ vs. Gives (v ∷ vs))) f ∙ then_same o _ _ (λ v. after_after p (λ vs. Gives (v ∷ vs)) f)

module _ (B : Type 0) (mode : Mode) (i : Interpretation) (n : ℕ) where
  abbrev Plays : List Said → (List Handed → Outcome B) → Type 0
  Plays said run = Play B mode i n said run

  module _ (path : Option Term) (there : path_true i path ≡ true) (path_is : PathBelow n path) where
    -- conditions tell where a run is wrong
    pub told_all : (cs : List Condition) (more : List Said) (run : List Handed → Outcome B) → AreBelow n cs → (AllHold i cs → Plays more run) → Plays (assert_all path cs ++ more) (λ handed. told i cs (run handed))
    told_all [] more run below h = h tt
    told_all (c ∷ cs) more run below h =
        said_then B mode i n (Owed c.pos c.kind (on_path path c.formula)) (assert_all path cs ++ more) (λ handed. told i (c ∷ cs) (run handed)) (on_path_below n path c.formula path_is below.0)
        (λ e. let is : truth i c.formula ≡ true = sym (on_it i path c.formula there) ∙ e in
        play_as B mode i n (assert_all path cs ++ more) _ (λ handed. told i cs (run handed)) (λ handed. ap (λ b. if b then told i cs (run handed) else Wrong c.pos c.kind) is) (told_all cs more run below.1 (λ all. h (is, all))))
        (λ e handed. ap (λ b. if b then told i cs (run handed) else Wrong c.pos c.kind) (sym (on_it i path c.formula there) ∙ e))

    -- a formula decides between going on, where it is true, and being wrong
    pub checked_true : (at : Pos) (kind : Kind) (formula : Term) (b : Bool) (more : List Said) (run : List Handed → Outcome B) → IsBelow n formula → b ≡ truth i formula → (b ≡ true → Plays more run)
        → Plays (Owed at kind (on_path path formula) ∷ more) (λ handed. if b then run handed else Wrong at kind)
    checked_true at kind formula b more run below same h =
        said_then B mode i n (Owed at kind (on_path path formula)) more (λ handed. if b then run handed else Wrong at kind) (on_path_below n path formula path_is below)
        (λ e. let is : b ≡ true = same ∙ sym (on_it i path formula there) ∙ e in play_as B mode i n more _ run (λ handed. ap (λ c. if c then run handed else Wrong at kind) is) (h is))
        (λ e handed. ap (λ c. if c then run handed else Wrong at kind) (same ∙ sym (on_it i path formula there) ∙ e))

    pub checked_then : (at : Pos) (kind : Kind) (formula : Term) (b : Bool) (more : List Said) (run : List Handed → Outcome B) → IsBelow n formula → b ≡ truth i formula → Plays more run
        → Plays (Owed at kind (on_path path formula) ∷ more) (λ handed. if b then run handed else Wrong at kind)
    checked_then at kind formula b more run below same h = checked_true at kind formula b more run below same (λ e. h)

    -- or between going on and a run that does not count
    pub known_then : (formula : Term) (b : Bool) (more : List Said) (run : List Handed → Outcome B) → IsBelow n formula → b ≡ truth i formula → Plays more run
        → Plays (Known (on_path path formula) ∷ more) (λ handed. if b then run handed else Dismissed)
    known_then formula b more run below same h =
        said_then B mode i n (Known (on_path path formula)) more (λ handed. if b then run handed else Dismissed) (on_path_below n path formula path_is below)
        (λ e. play_as B mode i n more _ run (λ handed. ap (λ c. if c then run handed else Dismissed) (same ∙ sym (on_it i path formula there) ∙ e)) h)
        (λ e handed. ap (λ c. if c then run handed else Dismissed) (same ∙ sym (on_it i path formula there) ∙ e))

  module _ (p : Program) (m : Meaning) (m_is : m.program ≡ p) (i_is : i.program ≡ p) (locals all : List Ty) (within : Within locals all) (before : Assigned) (way : Way) (s : State) (sits : Sits mode i all way before s) (env_is : EnvBelow n way.env) (path_is : PathBelow n way.path) where
    pub is_term : (e : Expr) (ty : Ty) → is_expr p locals ty e ≡ true → unassigned before (reads e) ≡ [] → IsTerm i way.env e ty (meaning i (term_of way.env e))
    is_term e ty is read = record { value = refl; sorted = term_sorted i p locals way.env s e ty is (hold_on i locals all way.env s sits.sorted within before sits.holds (reads e) read) }

    -- what is still to be handed in is no matter
    evaluated : (e : Expr) (handed : List Handed) → evaluate m (with_handed s handed) e ≡ evaluate m s e
    evaluated e handed = evaluate_same m m (with_handed s handed) s (record { program = refl; locals = λ local. refl }) e

    told_or : (e : Expr) (ty : Ty) → is_expr p locals ty e ≡ true → unassigned before (reads e) ≡ [] → IsOr (evaluate m s e) (told i (conditions_of way.env e) (Gives (meaning i (term_of way.env e))))
    told_or e ty is read =
        evaluation_or_dismissed m i locals way.env s ty e (i_is ∙ sym m_is) (subst (λ q. is_expr q locals ty e ≡ true) (sym m_is) is) (hold_on i locals all way.env s sits.sorted within before sits.holds (reads e) read)

    -- an expression, and what goes on from its value
    pub expr_set_then : (e : Expr) (ty : Ty) (more : List Said) (go : List Handed → Value → Outcome B) → is_expr p locals ty e ≡ true → unassigned before (reads e) ≡ []
        → (IsTerm i way.env e ty (meaning i (term_of way.env e)) → is_unset (term_of way.env e) ≡ false → Plays more (λ handed. go handed (meaning i (term_of way.env e))))
        → Plays (assert_expr way e ++ more) (λ handed. after (evaluate m (with_handed s handed) e) (go handed))
    expr_set_then e ty more go is read h = by_told (told_or e ty is read) mode refl
      where
        by_told : IsOr (evaluate m s e) (told i (conditions_of way.env e) (Gives (meaning i (term_of way.env e)))) → (k : Mode) → mode ≡ k → Plays (assert_expr way e ++ more) (λ handed. after (evaluate m (with_handed s handed) e) (go handed))
        by_told (inr t) k is_mode =
            play_as B mode i n (assert_expr way e ++ more) _ (λ handed. told i (conditions_of way.env e) (go handed (meaning i (term_of way.env e))))
            (λ handed. ap (λ o. after o (go handed)) (evaluated e handed ∙ t) ∙ told_after i (conditions_of way.env e) (Gives (meaning i (term_of way.env e))) (go handed))
            (told_all way.path sits.there path_is (conditions_of way.env e) more (λ handed. go handed (meaning i (term_of way.env e))) (conditions_below n way.env env_is e) (λ holds. h (is_term e ty is read) (is_set i way.env before sits.set e read holds)))
        by_told (inl d) (Taking handed) is_mode =
            subst (λ k. Play B k i n (assert_expr way e ++ more) (λ handed. after (evaluate m (with_handed s handed) e) (go handed))) (sym is_mode)
            (play_silent B i n _ _ (λ at kind w. not_wrong at kind (ap (λ o. after o (go handed)) (evaluated e handed ∙ d)) w))
        by_told (inl d) (Following handed) is_mode = absurd (not_dismissed _ (evaluate m s e) (evaluate_counts m before s (sits.present (ap is_taking is_mode)) e read) d)

    pub expr_then : (e : Expr) (ty : Ty) (more : List Said) (go : List Handed → Value → Outcome B) → is_expr p locals ty e ≡ true → unassigned before (reads e) ≡ []
        → (IsTerm i way.env e ty (meaning i (term_of way.env e)) → Plays more (λ handed. go handed (meaning i (term_of way.env e))))
        → Plays (assert_expr way e ++ more) (λ handed. after (evaluate m (with_handed s handed) e) (go handed))
    expr_then e ty more go is read h = expr_set_then e ty more go is read (λ one set. h one)

    -- the truth of a condition
    condition_is : (e : Expr) (v : Value) → IsTerm i way.env e types.Bool v → truth_of v ≡ truth i (term_of way.env e)
    condition_is e v h = ap truth_of h.value

    pub check_then : (kind : Kind) (clauses : List Clause) (more : List Said) (go : List Handed → State → Outcome B) → are_clauses p locals clauses ≡ true → unassigned before (reads_of_clauses clauses) ≡ []
        → Plays more (λ handed. go handed (with_handed s handed)) → Plays (assert_clauses at_clause kind way clauses ++ more) (λ handed. after (check_all m (with_handed s handed) kind clauses) (go handed))
    check_then kind [] more go are read h = h
    check_then kind (clause ∷ others) more go are read h =
        let are = both (is_expr p locals types.Bool clause.condition) (are_clauses p locals others) are in
        let read = parted before (reads clause.condition) (reads_of_clauses others) read in
        let rest = check_then kind others more go are.1 read.1 h in
        subst (λ said. Plays said (λ handed. after (check_all m (with_handed s handed) kind (clause ∷ others)) (go handed)))
        (sym (three_parts (assert_expr way clause.condition) (assert way.path clause.pos kind (term_of way.env clause.condition)) (assert_clauses at_clause kind way others) more))
        (play_as B mode i n _ _ (λ handed. after (evaluate m (with_handed s handed) clause.condition) (λ v. if truth_of v then after (check_all m (with_handed s handed) kind others) (go handed) else Wrong clause.pos kind))
        (λ handed. after_if (evaluate m (with_handed s handed) clause.condition) (check_all m (with_handed s handed) kind others) (Wrong clause.pos kind) (go handed) (Wrong clause.pos kind) refl)
        (expr_then clause.condition types.Bool (assert way.path clause.pos kind (term_of way.env clause.condition) ++ (assert_clauses at_clause kind way others ++ more)) _ are.0 read.0 (λ h.
        checked_then way.path sits.there path_is clause.pos kind (term_of way.env clause.condition) _ (assert_clauses at_clause kind way others ++ more) _ (term_below n way.env env_is clause.condition) (condition_is clause.condition _ h) rest)))

    pub call_then : (at : Pos) (clauses : List Clause) (more : List Said) (go : List Handed → State → Outcome B) → are_clauses p locals clauses ≡ true → unassigned before (reads_of_clauses clauses) ≡ []
        → Plays more (λ handed. go handed (with_handed s handed)) → Plays (assert_clauses (λ clause. at) Requires way clauses ++ more) (λ handed. after (check_call m (with_handed s handed) at clauses) (go handed))
    call_then at [] more go are read h = h
    call_then at (clause ∷ others) more go are read h =
        let are = both (is_expr p locals types.Bool clause.condition) (are_clauses p locals others) are in
        let read = parted before (reads clause.condition) (reads_of_clauses others) read in
        let rest = call_then at others more go are.1 read.1 h in
        subst (λ said. Plays said (λ handed. after (check_call m (with_handed s handed) at (clause ∷ others)) (go handed)))
        (sym (three_parts (assert_expr way clause.condition) (assert way.path at Requires (term_of way.env clause.condition)) (assert_clauses (λ clause. at) Requires way others) more))
        (play_as B mode i n _ _ (λ handed. after (evaluate m (with_handed s handed) clause.condition) (λ v. if truth_of v then after (check_call m (with_handed s handed) at others) (go handed) else Wrong at Requires))
        (λ handed. after_if (evaluate m (with_handed s handed) clause.condition) (check_call m (with_handed s handed) at others) (Wrong at Requires) (go handed) (Wrong at Requires) refl)
        (expr_then clause.condition types.Bool (assert way.path at Requires (term_of way.env clause.condition) ++ (assert_clauses (λ clause. at) Requires way others ++ more)) _ are.0 read.0 (λ h.
        checked_then way.path sits.there path_is at Requires (term_of way.env clause.condition) _ (assert_clauses (λ clause. at) Requires way others ++ more) _ (term_below n way.env env_is clause.condition) (condition_is clause.condition _ h) rest)))

    pub require_then : (clauses : List Clause) (more : List Said) (go : List Handed → State → Outcome B) → are_clauses p locals clauses ≡ true → unassigned before (reads_of_clauses clauses) ≡ []
        → Plays more (λ handed. go handed (with_handed s handed)) → Plays (require_all way clauses ++ more) (λ handed. after (assume_each m (with_handed s handed) clauses) (go handed))
    require_then [] more go are read h = h
    require_then (clause ∷ others) more go are read h =
        let are = both (is_expr p locals types.Bool clause.condition) (are_clauses p locals others) are in
        let read = parted before (reads clause.condition) (reads_of_clauses others) read in
        let rest = require_then others more go are.1 read.1 h in
        subst (λ said. Plays said (λ handed. after (assume_each m (with_handed s handed) (clause ∷ others)) (go handed)))
        (sym (three_parts (assert_expr way clause.condition) (assume way.path (term_of way.env clause.condition)) (require_all way others) more))
        (play_as B mode i n _ _ (λ handed. after (evaluate m (with_handed s handed) clause.condition) (λ v. if truth_of v then after (assume_each m (with_handed s handed) others) (go handed) else Dismissed))
        (λ handed. after_if (evaluate m (with_handed s handed) clause.condition) (assume_each m (with_handed s handed) others) Dismissed (go handed) Dismissed refl)
        (expr_then clause.condition types.Bool (assume way.path (term_of way.env clause.condition) ++ (require_all way others ++ more)) _ are.0 read.0 (λ h.
        known_then way.path sits.there path_is (term_of way.env clause.condition) _ (require_all way others ++ more) _ (term_below n way.env env_is clause.condition) (condition_is clause.condition _ h) rest)))

    -- clauses of what is handed in; what they read may be without a value
    pub assume_then : (clauses : List Clause) (more : List Said) (go : List Handed → State → Outcome B) → are_clauses p locals clauses ≡ true → unassigned before (reads_of_clauses clauses) ≡ []
        → Plays more (λ handed. go handed (with_handed s handed)) → Plays (assume_clauses way clauses ++ more) (λ handed. after (or_dismissed (assume_each m (with_handed s handed) clauses)) (go handed))
    assume_then [] more go are read h = h
    assume_then (clause ∷ others) more go are read h =
        let are = both (is_expr p locals types.Bool clause.condition) (are_clauses p locals others) are in
        let read = parted before (reads clause.condition) (reads_of_clauses others) read in
        by_told others are.0 read.0 (assume_then others more go are.1 read.1 h) (told_or clause.condition types.Bool are.0 read.0) mode refl
      where
        e : Expr
        e = clause.condition

        v : Value
        v = meaning i (term_of way.env e)

        by_told : (others : List Clause) → is_expr p locals types.Bool e ≡ true → unassigned before (reads e) ≡ [] → Plays (assume_clauses way others ++ more) (λ handed. after (or_dismissed (assume_each m (with_handed s handed) others)) (go handed))
            → IsOr (evaluate m s e) (told i (conditions_of way.env e) (Gives v)) → (k : Mode) → mode ≡ k
            → Plays (assume_clauses way (clause ∷ others) ++ more) (λ handed. after (or_dismissed (assume_each m (with_handed s handed) (clause ∷ others))) (go handed))
        by_told others is read rest (inr t) k is_mode =
            subst (λ said. Plays said (λ handed. after (or_dismissed (assume_each m (with_handed s handed) (clause ∷ others))) (go handed)))
            (sym (three_parts (assume_all way.path (conditions_of way.env e)) (assume way.path (term_of way.env e)) (assume_clauses way others) more))
            (play_as B mode i n _ _ (λ handed. after (or_dismissed (told i (conditions_of way.env e) (if truth_of v then assume_each m (with_handed s handed) others else Dismissed))) (go handed))
            (λ handed. ap (λ o. after (or_dismissed (after o (λ w. if truth_of w then assume_each m (with_handed s handed) others else Dismissed))) (go handed)) (evaluated e handed ∙ t) ∙ ap (λ o. after (or_dismissed o) (go handed)) (told_after i (conditions_of way.env e) (Gives v) _))
            (conditions_then (conditions_of way.env e) (assume way.path (term_of way.env e) ++ (assume_clauses way others ++ more)) (λ handed. if truth_of v then assume_each m (with_handed s handed) others else Dismissed) (conditions_below n way.env env_is e)
            (play_as B mode i n _ _ (λ handed. if truth_of v then after (or_dismissed (assume_each m (with_handed s handed) others)) (go handed) else Dismissed) (λ handed. if_dismissed handed (truth_of v) (assume_each m (with_handed s handed) others))
            (known_then way.path sits.there path_is (term_of way.env e) (truth_of v) (assume_clauses way others ++ more) (λ handed. after (or_dismissed (assume_each m (with_handed s handed) others)) (go handed)) (term_below n way.env env_is e)
            (condition_is e v (is_term e types.Bool is read)) rest))))
          where
            if_dismissed : (handed : List Handed) (b : Bool) (o : Outcome State) → after (or_dismissed (if b then o else Dismissed)) (go handed) ≡ (if b then after (or_dismissed o) (go handed) else Dismissed)
            if_dismissed handed true o = refl
            if_dismissed handed false o = refl

            conditions_then : (cs : List Condition) (more : List Said) (run : List Handed → Outcome State) → AreBelow n cs → Plays more (λ handed. after (or_dismissed (run handed)) (go handed)) → Plays (assume_all way.path cs ++ more) (λ handed. after (or_dismissed (told i cs (run handed))) (go handed))
            conditions_then [] more run below h = h
            conditions_then (c ∷ cs) more run below h =
                said_then B mode i n (Known (on_path way.path c.formula)) (assume_all way.path cs ++ more) (λ handed. after (or_dismissed (told i (c ∷ cs) (run handed))) (go handed)) (on_path_below n way.path c.formula path_is below.0)
                (λ f. play_as B mode i n (assume_all way.path cs ++ more) _ (λ handed. after (or_dismissed (told i cs (run handed))) (go handed)) (λ handed. ap (λ b. after (or_dismissed (if b then told i cs (run handed) else Wrong c.pos c.kind)) (go handed)) (sym (on_it i way.path c.formula sits.there) ∙ f)) (conditions_then cs more run below.1 h))
                (λ f handed. ap (λ b. after (or_dismissed (if b then told i cs (run handed) else Wrong c.pos c.kind)) (go handed)) (sym (on_it i way.path c.formula sits.there) ∙ f))
        by_told others is read rest (inl d) (Taking handed) is_mode =
            subst (λ k. Play B k i n (assume_clauses way (clause ∷ others) ++ more) (λ handed. after (or_dismissed (assume_each m (with_handed s handed) (clause ∷ others))) (go handed))) (sym is_mode)
            (play_silent B i n _ _ (λ at kind w. not_wrong at kind (ap (λ o. after (or_dismissed (after o (λ w. if truth_of w then assume_each m (with_handed s handed) others else Dismissed))) (go handed)) (evaluated e handed ∙ d)) w))
        by_told others is read rest (inl d) (Following handed) is_mode = absurd (not_dismissed _ (evaluate m s e) (evaluate_counts m before s (sits.present (ap is_taking is_mode)) e read) d)

    -- ---- expressions in order

    pub exprs_then : (tys : List Ty) (es : List Expr) (more : List Said) (go : List Handed → List Value → Outcome B) → are_exprs p locals tys es ≡ true → unassigned before (flat_map reads es) ≡ []
        → (AreOf i tys (map (term_of way.env) es) → Plays more (λ handed. go handed (values_at i (map (term_of way.env) es)))) → Plays (assert_exprs way es ++ more) (λ handed. after (evaluate_all m (with_handed s handed) es) (go handed))
    exprs_then [] [] more go are read h = h tt
    exprs_then (ty ∷ tys) (e ∷ es) more go are read h =
        let are = both (is_expr p locals ty e) (are_exprs p locals tys es) are in
        let read = parted before (reads e) (flat_map reads es) read in
        subst (λ said. Plays said (λ handed. after (evaluate_all m (with_handed s handed) (e ∷ es)) (go handed))) (sym (append_assoc (assert_expr way e) (assert_exprs way es) more))
        (play_as B mode i n _ _ (λ handed. after (evaluate m (with_handed s handed) e) (λ v. after (evaluate_all m (with_handed s handed) es) (λ vs. go handed (v ∷ vs)))) (λ handed. after_listed (evaluate m (with_handed s handed) e) (evaluate_all m (with_handed s handed) es) (go handed))
        (expr_set_then e ty (assert_exprs way es ++ more) _ are.0 read.0 (λ one set. exprs_then tys es more (λ handed vs. go handed (meaning i (term_of way.env e) ∷ vs)) are.1 read.1 (λ others. h (record { sorted = one.sorted; set = set }, others)))))
    exprs_then tys es more go are read h = cc

    -- ---- measures

    abbrev pub measure_at : List Measure → List Value
    measure_at measures = map (λ (one : Measured). meaning i one.value) (measured way.env measures)

    pub measures_then : (measures : List Measure) (more : List Said) (go : List Handed → List Value → Outcome B) → list_all (λ (measure : Measure). is_expr p locals measure.ty measure.value) measures ≡ true
        → unassigned before (reads_of_measures (Some measures)) ≡ []
        → (AreMeasured i (measured way.env measures) → Plays more (λ handed. go handed (measure_at measures))) → Plays (assert_measure way measures ++ more) (λ handed. after (measure_values m (with_handed s handed) measures) (go handed))
    measures_then [] more go are read h = h tt
    measures_then (measure ∷ others) more go are read h =
        let are = both (is_expr p locals measure.ty measure.value) (list_all (λ (measure : Measure). is_expr p locals measure.ty measure.value) others) are in
        let read = parted before (reads measure.value) (reads_of_measures (Some others)) read in
        subst (λ said. Plays said (λ handed. after (measure_values m (with_handed s handed) (measure ∷ others)) (go handed))) (sym (append_assoc (assert_expr way measure.value) (assert_measure way others) more))
        (play_as B mode i n _ _ (λ handed. after (evaluate m (with_handed s handed) measure.value) (λ v. after (measure_values m (with_handed s handed) others) (λ vs. go handed (v ∷ vs)))) (λ handed. after_listed (evaluate m (with_handed s handed) measure.value) (measure_values m (with_handed s handed) others) (go handed))
        (expr_then measure.value measure.ty (assert_measure way others ++ more) _ are.0 read.0 (λ one. measures_then others more (λ handed vs. go handed (meaning i (term_of way.env measure.value) ∷ vs)) are.1 read.1 (λ more. h (one.sorted, more)))))
