-- Behind an `if` each local that has a value has the term that it had before, or is joined.
use Rattle.df_npass.proofs.Words.{append_assoc, ◌≡◌, ◌<◌, ℕ, ◌==◌, Bool, true, false, List, [], ◌∷◌, ◌++◌, map, length, Option, None, Some, refl, sym, ◌∙◌, arith, subst, ne_eqb, and_right, Ty, Target, Update, Variable, Stmt, Block, Var, Assign, If, While, Break, Return, Stmts, done, next, Branches, no_branch, branch, Method, Program, is_expr, locals_after_all, locals_after_branches, are_stmts, are_branches, Assigned, Unreached, Reached, has_value, meet, mark, declare, assign, assign_all, flow, flow_all, flow_branches, AreDeclared, Changed, changed_by, changed_by_all, changed_by_branches, changed_by_update, changed_by_variables, is_changed, three, choice, place, all_grow, branches_grow, Term, negation, Environment, term_of, Way, narrowed, join_branches, Setting, Flow, followed_by, ways_of, declared_by_all, each_once, changed_outside, changed_in_branches, changed_outside_if, pass_stmt, pass_all, pass_branches, append-nil, none-some, true_is_not_false}
use Rattle.df_lang.specs.declared.ty.Ty.TheVariants as types
use Rattle.df_npass.proofs.Runs.{AllStay, neither, in_both, unchanged, all_stay, branches_stay, reached_mark, reached_left, reached_right, join_left, join_right, once_there, is_declared, all_declare, by_bool, by_option, IsReached, Many, declared_less}

-- ---- what has no value keeps none

none_left : (a b : Assigned) (k : ℕ) → IsReached a → has_value a k ≡ false → has_value (meet a b) k ≡ false
none_left Unreached b k r e = absurd r
none_left (Reached set) Unreached k r e = e
none_left (Reached set) (Reached other) k r e = rw (e) refl

none_right : (a b : Assigned) (k : ℕ) → IsReached b → has_value b k ≡ false → has_value (meet a b) k ≡ false
none_right Unreached b k r e = e
none_right (Reached set) Unreached k r e = absurd r
none_right (Reached set) (Reached other) k r e = and_right (set k) (other k) e

none_marked : (a : Assigned) (local k : ℕ) → IsReached a → (k == local) ≡ false → has_value a k ≡ false → has_value (mark true a local) k ≡ false
none_marked Unreached local k r e h = absurd r
none_marked (Reached set) local k r e h = rw (e) h

none_unmarked : (a : Assigned) (local k : ℕ) → IsReached a → has_value a k ≡ false → has_value (mark false a local) k ≡ false
none_unmarked Unreached local k r h = absurd r
none_unmarked (Reached set) local k r h = choice (λ (b : Bool). b ≡ false) (k == local) false (set k) refl h

-- where runs go on, the flow does too; and what is neither declared nor assigned gains no value
pub record Gains (k : ℕ) (before behind : Assigned) (changed : List Changed) : Type 0 where
  pub reached : IsReached behind
  pub none : has_value before k ≡ false → is_changed changed k ≡ false → has_value behind k ≡ false

gains_same : (k : ℕ) (before : Assigned) (changed : List Changed) → IsReached before → Gains k before before changed
gains_same k before changed r = record { reached = r; none = λ h e. h }

declare_gains : (variables : List Variable) (a : Assigned) (k : ℕ) → IsReached a → Gains k a (declare a variables) []
declare_gains [] a k r = gains_same k a [] r
declare_gains (v ∷ vs) a k r =
    let rest = declare_gains vs (mark false a v.local) k (reached_mark false a v.local r) in record { reached = rest.reached; none = λ h e. rest.none (none_unmarked a v.local k r h) e }

assign_gains : (targets : List Target) (a : Assigned) (k : ℕ) → IsReached a → Gains k a (assign a targets) (map (λ (t : Target). record { local = t.local; ty = t.ty }) targets)
assign_gains [] a k r = gains_same k a [] r
assign_gains (t ∷ ts) a k r =
    let rest = assign_gains ts (mark true a t.local) k (reached_mark true a t.local r) in
    record { reached = rest.reached; none = λ h e. let u = unchanged (record { local = t.local; ty = t.ty }) (map (λ (x : Target). record { local = x.local; ty = x.ty }) ts) k e in rest.none (none_marked a t.local k r (ne_eqb k t.local u.0) h) u.1 }

update_gains : (update : Option Update) (a : Assigned) (k : ℕ) → IsReached a → Gains k a (assign_all a update) (changed_by_update update)
update_gains None a k r = gains_same k a [] r
update_gains (Some update) a k r = assign_gains update.targets a k r

not_empty : (path : Option Term) (env : Environment) (changed : List Changed) (ways : List Way) (fresh : ℕ) (w : Way) → (join_branches path env changed ways fresh).way ≡ Some w → ways ≡ [] → ⊥
not_empty path env changed [] fresh w e f = none-some w e
not_empty path env changed (way ∷ ways) fresh w e f = cc

-- both ways, or the second alone
met_left : (k : ℕ) (before a b : Assigned) (changed more : List Changed) → Gains k before a changed → Gains k before (meet a b) (changed ++ more)
met_left k before a b changed more g = record { reached = reached_left a b g.reached; none = λ h e. none_left a b k g.reached (g.none h (neither changed more k e).0) }

met_right : (k : ℕ) (before a b : Assigned) (changed more : List Changed) → Gains k before b more → Gains k before (meet a b) (changed ++ more)
met_right k before a b changed more g = record { reached = reached_right a b g.reached; none = λ h e. none_right a b k g.reached (g.none h (neither changed more k e).1) }

-- the way that may be there, or the others
way_or_others : {P : Type 0} (o : Option Way) (others : List Way) → (ways_of o ++ others ≡ [] → ⊥) → ((w : Way) → o ≡ Some w → P) → ((others ≡ [] → ⊥) → P) → P
way_or_others None others some one rest = rest some
way_or_others (Some w) others some one rest = one w refl

-- and where they are more than one
way_with_others : {P : Type 0} (o : Option Way) (others : List Way) → Many (ways_of o ++ others) → ((w : Way) → o ≡ Some w → (others ≡ [] → ⊥) → P) → (Many others → P) → P
way_with_others None others many one rest = rest many
way_with_others (Some w) [] many one rest = absurd many
way_with_others (Some w) (x ∷ others) many one rest = one w refl (λ e. cc)

module _ (set : Setting) (own : Method) (k : ℕ) where
  mutual
    stmt_gains : (stmt : Stmt) (way : Way) (n : ℕ) (before : Assigned) (w : Way) → IsReached before → (pass_stmt set way stmt n).way ≡ Some w → Gains k before (flow own before stmt).behind (changed_by stmt)
    stmt_gains (Block at body) way n before w r e = all_gains body way n before w r e
    stmt_gains (Var at variables update) way n before w r e =
        let declared = declare_gains variables before k r in
        let updated = update_gains update (declare before variables) k declared.reached in
        record { reached = updated.reached; none = λ h f. updated.none (declared.none h refl) (neither (changed_by_variables variables) (changed_by_update update) k f).1 }
    stmt_gains (Assign at update) way n before w r e = update_gains (Some update) before k r
    stmt_gains (If branches otherwise) way n before w r e =
        branches_gains branches otherwise way n before r (λ last more w f. all_gains otherwise last more before w r f) (not_empty _ way.env (changed_outside_if branches otherwise) (pass_branches set way branches (λ last. pass_all set last otherwise) n).ways _ w e)
    stmt_gains (While at guard invariants decreases body) way n before w r e = record { reached = reached_left before (flow_all own before body).breaks r; none = λ h f. none_left before (flow_all own before body).breaks k r h }
    stmt_gains (Break at) way n before w r e = cc
    stmt_gains (Return at update) way n before w r e = cc
    stmt_gains stmt way n before w r e = gains_same k before [] r

    pub all_gains : (stmts : Stmts) (way : Way) (n : ℕ) (before : Assigned) (w : Way) → IsReached before → (pass_all set way stmts n).way ≡ Some w → Gains k before (flow_all own before stmts).behind (changed_by_all stmts)
    all_gains done way n before w r e = gains_same k before [] r
    all_gains (next stmt others) way n before w r e =
        let first = pass_stmt set way stmt n in
        let between = (flow own before stmt).behind in
        by_option (λ (last : Flow). last.way ≡ Some w → Gains k before (flow_all own before (next stmt others)).behind (changed_by stmt ++ changed_by_all others)) (λ on. followed_by first (pass_all set on others first.fresh)) first.way first
        (λ f e. absurd (none-some w (sym f ∙ e))) (λ on f e.
        let one = stmt_gains stmt way n before on r f in
        let rest = all_gains others on first.fresh between w one.reached e in
        record { reached = rest.reached; none = λ x y. let parts = neither (changed_by stmt) (changed_by_all others) k y in rest.none (one.none x parts.0) parts.1 }) e

    pub branches_gains : (branches : Branches) (otherwise : Stmts) (way : Way) (n : ℕ) (before : Assigned) → IsReached before
        → ((last : Way) (more : ℕ) (w : Way) → (pass_all set last otherwise more).way ≡ Some w → Gains k before (flow_all own before otherwise).behind (changed_by_all otherwise)) → ((pass_branches set way branches (λ last. pass_all set last otherwise) n).ways ≡ [] → ⊥)
        → Gains k before (flow_branches own before branches (flow_all own before otherwise)).behind (changed_by_branches branches ++ changed_by_all otherwise)
    branches_gains no_branch otherwise way n before r last some =
        let o = (pass_all set way otherwise n).way in
        way_or_others o [] (λ e. some (sym (append-nil (ways_of o)) ∙ e)) (λ w e. last way n w e) (λ none. absurd (none refl))
    branches_gains (branch at guard body rest) otherwise way n before r last some =
        let taken = narrowed way (term_of way.env guard) in
        let passed = narrowed way (negation (term_of way.env guard)) in
        let flow = pass_all set taken body n in
        let first = (flow_all own before body).behind in
        let second = (flow_branches own before rest (flow_all own before otherwise)).behind in
        let others = changed_by_branches rest ++ changed_by_all otherwise in
        subst (Gains k before (meet first second)) (sym (append_assoc (changed_by_all body) (changed_by_branches rest) (changed_by_all otherwise)))
        (way_or_others flow.way (pass_branches set passed rest (λ last. pass_all set last otherwise) flow.fresh).ways some (λ w e. met_left k before first second (changed_by_all body) others (all_gains body taken n before w r e))
        (λ more. met_right k before first second (changed_by_all body) others (branches_gains rest otherwise passed flow.fresh before r last more)))

  -- ---- what is left out of the list is declared inside

  pub outside_is : (body : Stmts) → is_declared (declared_by_all body) k ≡ false → is_changed (changed_outside body) k ≡ false → is_changed (changed_by_all body) k ≡ false
  outside_is body none e = by_bool (is_changed (changed_by_all body) k) (λ h. absurd (true_is_not_false (is_changed (changed_outside body) k) (once_there (declared_by_all body) (changed_by_all body) k none h) e)) (λ h. h)

  declared_is : (body : Stmts) → is_changed (changed_by_all body) k ≡ true → is_changed (changed_outside body) k ≡ false → is_declared (declared_by_all body) k ≡ true
  declared_is body h e = by_bool (is_declared (declared_by_all body) k) (λ d. d) (λ d. absurd (true_is_not_false (is_changed (changed_outside body) k) (once_there (declared_by_all body) (changed_by_all body) k d h) e))

  module _ (program : Program) where
    branches_outside : (branches : Branches) (locals : List Ty) (in_loop : Bool) → are_branches (place program locals own in_loop) branches ≡ true → k < length locals → is_changed (changed_in_branches branches) k ≡ false → is_changed (changed_by_branches branches) k ≡ false
    branches_outside no_branch locals in_loop is less e = refl
    branches_outside (branch at guard body rest) locals in_loop is less e =
        let is = three (is_expr program locals types.Bool guard) (are_stmts (place program locals own in_loop) body) (are_branches (place program (locals_after_all locals body) own in_loop) rest) is in
        let parts = neither (changed_outside body) (changed_in_branches rest) k e in
        in_both (changed_by_all body) (changed_by_branches rest) k (outside_is body ((all_declare program own k body locals in_loop is.1).past less) parts.0)
        (branches_outside rest (locals_after_all locals body) in_loop is.2 (let le = all_grow locals body in omega (arith, less, le)) parts.1)

    -- where more than one way goes on, what had no value before has none
    lone : (branches : Branches) (otherwise : Stmts) (way : Way) (n : ℕ) (locals : List Ty) (in_loop : Bool) (before : Assigned) → are_branches (place program locals own in_loop) branches ≡ true
        → are_stmts (place program (locals_after_branches locals branches) own in_loop) otherwise ≡ true → IsReached before → has_value before k ≡ false
        → has_value (flow_branches own before branches (flow_all own before otherwise)).behind k ≡ true → is_changed (changed_in_branches branches ++ changed_outside otherwise) k ≡ false
        → Many (pass_branches set way branches (λ last. pass_all set last otherwise) n).ways → ⊥
    lone no_branch otherwise way n locals in_loop before is also r h has e many =
        let o = (pass_all set way otherwise n).way in
        way_with_others o [] (subst Many (sym (append-nil (ways_of o))) many) (λ w f some. some refl) (λ none. none)
    lone (branch at guard body rest) otherwise way n locals in_loop before is also r h has e many =
        let is = three (is_expr program locals types.Bool guard) (are_stmts (place program locals own in_loop) body) (are_branches (place program (locals_after_all locals body) own in_loop) rest) is in
        let inside = neither (changed_in_branches (branch at guard body rest)) (changed_outside otherwise) k e in
        let parts = neither (changed_outside body) (changed_in_branches rest) k inside.0 in
        let taken = narrowed way (term_of way.env guard) in
        let passed = narrowed way (negation (term_of way.env guard)) in
        let flow = pass_all set taken body n in
        let more = pass_branches set passed rest (λ last. pass_all set last otherwise) flow.fresh in
        let first = (flow_all own before body).behind in
        let second = (flow_branches own before rest (flow_all own before otherwise)).behind in
        let gains = (λ (some : more.ways ≡ [] → ⊥). branches_gains rest otherwise passed flow.fresh before r (λ last more w f. all_gains otherwise last more before w r f) some) in
        way_with_others flow.way more.ways many (λ w f some.
        let gained = all_gains body taken n before w r f in
        let changed = by_bool (is_changed (changed_by_all body) k) (λ c. c) (λ c. absurd (true_is_not_false (has_value first k) (join_left first second k gained.reached has) (gained.none h c))) in
        let less = (all_declare program own k body locals in_loop is.1).there (declared_is body changed parts.0) in
        let past = branches_outside rest (locals_after_all locals body) in_loop is.2 less parts.1 in
        let le = branches_grow (locals_after_all locals body) rest in
        let also_past = outside_is otherwise ((all_declare program own k otherwise (locals_after_branches (locals_after_all locals body) rest) in_loop also).past (omega (arith, less, le))) inside.1 in
        true_is_not_false (has_value second k) (join_right first second k (gains some).reached has) ((gains some).none h (in_both (changed_by_branches rest) (changed_by_all otherwise) k past also_past)))
        (λ several. lone rest otherwise passed flow.fresh (locals_after_all locals body) in_loop before is.2 also r h (join_right first second k (gains (λ e. subst Many e several)).reached has)
        (in_both (changed_in_branches rest) (changed_outside otherwise) k parts.1 inside.1) several)

    pub if_covers : (branches : Branches) (otherwise : Stmts) (way : Way) (n : ℕ) (locals : List Ty) (in_loop : Bool) (before : Assigned) → are_branches (place program locals own in_loop) branches ≡ true
        → are_stmts (place program (locals_after_branches locals branches) own in_loop) otherwise ≡ true → AreDeclared (length locals) before → IsReached before
        → Many (pass_branches set way branches (λ last. pass_all set last otherwise) n).ways
        → has_value (flow_branches own before branches (flow_all own before otherwise)).behind k ≡ true → is_changed (changed_outside_if branches otherwise) k ≡ false
        → AllStay k way.env (pass_branches set way branches (λ last. pass_all set last otherwise) n).ways
    if_covers branches otherwise way n locals in_loop before is also declared r many has e =
        let whole = changed_in_branches branches ++ changed_outside otherwise in
        let e = by_bool (is_changed whole k) (λ h. absurd (true_is_not_false (is_changed (each_once [] whole) k) (once_there [] whole k refl h) e)) (λ h. h) in
        by_bool (has_value before k) (λ h.
        let less = declared_less before (length locals) k declared r h in
        let parts = neither (changed_in_branches branches) (changed_outside otherwise) k e in
        let le = branches_grow locals branches in
        let also_past = outside_is otherwise ((all_declare program own k otherwise (locals_after_branches locals branches) in_loop also).past (omega (arith, less, le))) parts.1 in
        (branches_stay set way branches (λ last. pass_all set last otherwise) n k (branches_outside branches locals in_loop is less parts.0) (λ last more. all_stay set last otherwise more k also_past)).ways)
        (λ h. absurd (lone branches otherwise way n locals in_loop before is also r h has e many))
