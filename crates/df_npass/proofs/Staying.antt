-- Locals that a statement neither declares nor assigns keep their terms.
use Rattle.df_npass.proofs.Words.{◌≡◌, ℕ, suc, ◌==◌, true, false, List, [], ◌∷◌, ◌++◌, map, Option, None, Some, refl, sym, ◌∙◌, subst, AllByRecursion, list_any, Target, Update, Stmt, Block, Var, Assign, If, While, Break, Return, Stmts, done, next, Branches, no_branch, branch, Changed, changed_by, changed_by_all, changed_by_branches, changed_by_update, changed_by_variables, is_changed, Term, negation, Environment, term_of, Way, narrowed, over, with_term, free_of, Moved, havoc, join_locals, are_same, assume_joined, paths_of, any_path, changed_alone, join, join_branches, Setting, Flow, followed_by, then_next, Taken, give_all, pass_sources, pass_optional, each_once, changed_outside, changed_in_branches, changed_outside_if, declared_by_all, Parted, ways_of, path_behind, pass_stmt, pass_all, pass_branches, last_of, all_joined, cond-false, cond_both, eqb-false, ne_eqb, or_from, or_parts, list_any-append}
use Rattle.df_npass.proofs.Saying.{all_weaken, by_option}

abbrev Stays : ℕ → Environment → Way → Type 0
Stays n env way = way.env n ≡ env n

abbrev pub AllStay : ℕ → Environment → List Way → Type 0
AllStay n env ways = AllByRecursion (Stays n env) ways

stay_as : (n : ℕ) (env other : Environment) (ways : List Way) → other n ≡ env n → AllStay n other ways → AllStay n env ways
stay_as n env other ways e = all_weaken (Stays n other) (Stays n env) (λ way h. h ∙ e) ways

-- another number
pub other_term : (env : Environment) (local : ℕ) (a : Term) (n : ℕ) → (n ≡ local → ⊥) → with_term env local a n ≡ env n
other_term env local a n apart = cond-false (n == local) a (env n) (ne_eqb n local apart)

pub unchanged : (c : Changed) (others : List Changed) (n : ℕ) → is_changed (c ∷ others) n ≡ false → (n ≡ c.local → ⊥) × (is_changed others n ≡ false)
unchanged c others n e = let parts = or_parts (c.local == n) (is_changed others n) e in (λ same. eqb-false c.local n parts.0 (sym same), parts.1)

pub havoc_stays : (changed : List Changed) (fresh : ℕ) (way : Way) (n : ℕ) → is_changed changed n ≡ false → (havoc changed fresh way).way.env n ≡ way.env n
havoc_stays [] fresh way n e = refl
havoc_stays (c ∷ others) fresh way n e =
    let u = unchanged c others n e in
    havoc_stays others (suc fresh) (over (with_term way.env c.local (free_of fresh c.ty)) way) n u.1 ∙ other_term way.env c.local (free_of fresh c.ty) n u.0

-- ---- joins, by each local

-- a local with different terms
abbrev pub anew : Changed → List Way → ℕ → Moved → Moved
anew c ways fresh more = record { said = assume_joined c.ty c.local (free_of fresh c.ty) ways ++ more.said; fresh = more.fresh; way = more.way }

module _ (ways : List Way) (path : Option Term) where
  abbrev pub kept : List Changed → ℕ → Environment → Moved
  kept others fresh env = join_locals others ways fresh env path

  abbrev pub renewed : Changed → List Changed → ℕ → Environment → Moved
  renewed c others fresh env = join_locals others ways (suc fresh) (with_term env c.local (free_of fresh c.ty)) path

  -- what holds where there are none, and of one more whether it keeps its term or not
  pub by_locals : (P : List Changed → ℕ → Environment → Moved → Type 0) → ((fresh : ℕ) (env : Environment) → P [] fresh env (kept [] fresh env))
      → ((c : Changed) (others : List Changed) (fresh : ℕ) (env : Environment) → are_same (env c.local) ways c.local ≡ true → P others fresh env (kept others fresh env) → P (c ∷ others) fresh env (kept others fresh env))
      → ((c : Changed) (others : List Changed) (fresh : ℕ) (env : Environment) → P others (suc fresh) (with_term env c.local (free_of fresh c.ty)) (renewed c others fresh env) → P (c ∷ others) fresh env (anew c ways fresh (renewed c others fresh env)))
      → (changed : List Changed) (fresh : ℕ) (env : Environment) → P changed fresh env (join_locals changed ways fresh env path)
  by_locals P none same apart [] fresh env = none fresh env
  by_locals P none same apart (c ∷ others) fresh env =
      cond_both (are_same (env c.local) ways c.local) (kept others fresh env) (anew c ways fresh (renewed c others fresh env)) (P (c ∷ others) fresh env)
      (λ e. same c others fresh env e (by_locals P none same apart others fresh env)) (λ e. apart c others fresh env (by_locals P none same apart others (suc fresh) (with_term env c.local (free_of fresh c.ty))))

pub join_locals_stay : (changed : List Changed) (ways : List Way) (fresh : ℕ) (env : Environment) (path : Option Term) (n : ℕ) → is_changed changed n ≡ false → (join_locals changed ways fresh env path).way.env n ≡ env n
join_locals_stay changed ways fresh env path n =
    by_locals ways path (λ changed fresh env moved. is_changed changed n ≡ false → moved.way.env n ≡ env n) (λ fresh env e. refl) (λ c others fresh env same h e. h (unchanged c others n e).1)
    (λ c others fresh env h e. let u = unchanged c others n e in h u.1 ∙ other_term env c.local (free_of fresh c.ty) n u.0) changed fresh env

pub alone_stays : (changed : List Changed) (env now : Environment) (n : ℕ) → is_changed changed n ≡ false → changed_alone changed env now n ≡ env n
alone_stays [] env now n e = refl
alone_stays (c ∷ others) env now n e = let u = unchanged c others n e in other_term (changed_alone others env now) c.local (now c.local) n u.0 ∙ alone_stays others env now n u.1

pub join_stays : (path : Option Term) (env : Environment) (changed : List Changed) (ways : List Way) (fresh : ℕ) (n : ℕ) (first : Environment) → is_changed changed n ≡ false → env n ≡ first n → AllStay n first ways → AllStay n first (ways_of (join path env changed ways fresh).way)
join_stays path env changed [] fresh n first e same h = tt
join_stays path env changed (way ∷ []) fresh n first e same h = (alone_stays changed env way.env n e ∙ same, tt)
join_stays path env changed (way ∷ other ∷ others) fresh n first e same h = (join_locals_stay changed (way ∷ other ∷ others) fresh env path n e ∙ same, tt)

pub branches_join_stays : (path : Option Term) (env : Environment) (changed : List Changed) (ways : List Way) (fresh : ℕ) (n : ℕ) (first : Environment) → is_changed changed n ≡ false → env n ≡ first n → AllStay n first ways → AllStay n first (ways_of (join_branches path env changed ways fresh).way)
branches_join_stays path env changed (way ∷ []) fresh n first e same h = h
branches_join_stays path env changed ways fresh n first e same h = join_stays path env changed ways fresh n first e same h

pub once_less : (out : List ℕ) (changed : List Changed) (n : ℕ) → is_changed changed n ≡ false → is_changed (each_once out changed) n ≡ false
once_less out [] n e = refl
once_less out (c ∷ others) n e =
    let parts = or_parts (c.local == n) (is_changed others n) e in
    cond_both (list_any (λ (k : ℕ). k == c.local) out) (each_once out others) (c ∷ each_once (c.local ∷ out) others) (λ (xs : List Changed). is_changed xs n ≡ false)
    (λ met. once_less out others n parts.1) (λ anew. or_from (c.local == n) (is_changed (each_once (c.local ∷ out) others) n) parts.0 (once_less (c.local ∷ out) others n parts.1))

-- neither in the one list nor in the other
pub neither : (cs ds : List Changed) (n : ℕ) → is_changed (cs ++ ds) n ≡ false → (is_changed cs n ≡ false) × (is_changed ds n ≡ false)
neither cs ds n e = or_parts (is_changed cs n) (is_changed ds n) (sym (list_any-append (λ (c : Changed). c.local == n) cs ds) ∙ e)

pub in_both : (cs ds : List Changed) (n : ℕ) → is_changed cs n ≡ false → is_changed ds n ≡ false → is_changed (cs ++ ds) n ≡ false
in_both cs ds n h g = list_any-append (λ (c : Changed). c.local == n) cs ds ∙ or_from (is_changed cs n) (is_changed ds n) h g

give_stays : (earlier : List Taken) (targets : List Target) (terms : List Term) (fresh : ℕ) (way : Way) (n : ℕ) → is_changed (map (λ (t : Target). record { local = t.local; ty = t.ty }) targets) n ≡ false
    → (give_all earlier targets terms fresh way).way.env n ≡ way.env n
give_stays earlier [] terms fresh way n e = refl
give_stays earlier (t ∷ ts) [] fresh way n e = refl
give_stays earlier (t ∷ ts) (a ∷ others) fresh way n e =
    let u = unchanged (record { local = t.local; ty = t.ty }) (map (λ (x : Target). record { local = x.local; ty = x.ty }) ts) n e in
    give_stays (record { local = t.local; value = a } ∷ earlier) ts others fresh (over (with_term way.env t.local a) way) n u.1 ∙ other_term way.env t.local a n u.0

-- behind a statement and out of its loop
pub record PartsStay (n : ℕ) (env : Environment) (parted : Parted) : Type 0 where
  pub ways : AllStay n env parted.ways
  pub breaks : AllStay n env parted.breaks

abbrev pub FlowStays : ℕ → Environment → Flow → Type 0
FlowStays n env flow = PartsStay n env (last_of flow)

then_stays : (n : ℕ) (env : Environment) (flow : Flow) (go : ℕ → Way → Flow) → FlowStays n env flow → ((way : Way) → Stays n env way → FlowStays n env (go flow.fresh way)) → FlowStays n env (then_next flow go)
then_stays n env flow go h g = by_option (FlowStays n env) (λ way. followed_by flow (go flow.fresh way)) flow.way flow (λ e. h) (λ way e.
    let there : AllStay n env (ways_of (Some way)) = subst (λ o. AllStay n env (ways_of o)) e h.ways in
    let more = g way there.0 in
    record { ways = more.ways; breaks = all_joined _ flow.breaks (go flow.fresh way).breaks h.breaks more.breaks })

-- none of all branches is none of what each changes outside
pub fewer_in_branches : (branches : Branches) (n : ℕ) → is_changed (changed_by_branches branches) n ≡ false → is_changed (changed_in_branches branches) n ≡ false
fewer_in_branches no_branch n e = refl
fewer_in_branches (branch at guard body rest) n e =
    let parts = neither (changed_by_all body) (changed_by_branches rest) n e in
    in_both (changed_outside body) (changed_in_branches rest) n (once_less (declared_by_all body) (changed_by_all body) n parts.0) (fewer_in_branches rest n parts.1)

module _ (setting : Setting) where
  pub update_stays : (update : Option Update) (way : Way) (fresh : ℕ) (n : ℕ) → is_changed (changed_by_update update) n ≡ false → (pass_optional setting update way fresh).way.env n ≡ way.env n
  update_stays None way fresh n e = refl
  update_stays (Some update) way fresh n e = let given = pass_sources setting update.sources way fresh in give_stays [] update.targets given.terms given.fresh way n e

  mutual
    pub stmt_stays : (way : Way) (stmt : Stmt) (fresh n : ℕ) → is_changed (changed_by stmt) n ≡ false → FlowStays n way.env (pass_stmt setting way stmt fresh)
    stmt_stays way (Block at body) fresh n e = all_stay way body fresh n e
    stmt_stays way (Var at variables update) fresh n e =
        let parts = neither (changed_by_variables variables) (changed_by_update update) n e in
        record { ways = (update_stays update way fresh n parts.1, tt); breaks = tt }
    stmt_stays way (Assign at update) fresh n e = record { ways = (update_stays (Some update) way fresh n e, tt); breaks = tt }
    stmt_stays way (If branches otherwise) fresh n e =
        let parts = neither (changed_by_branches branches) (changed_by_all otherwise) n e in
        let stay = branches_stay way branches (λ last. pass_all setting last otherwise) fresh n parts.0 (λ last more. all_stay last otherwise more n parts.1) in
        let parted = pass_branches setting way branches (λ last. pass_all setting last otherwise) fresh in
        record {
          ways = branches_join_stays (path_behind way parted) way.env (changed_outside_if branches otherwise) parted.ways parted.fresh n way.env (once_less [] (changed_in_branches branches ++ changed_outside otherwise) n (in_both (changed_in_branches branches) (changed_outside otherwise) n (fewer_in_branches branches n parts.0) (once_less (declared_by_all otherwise) (changed_by_all otherwise) n parts.1))) refl stay.ways;
          breaks = stay.breaks;
        }
    stmt_stays way (While at guard invariants decreases body) fresh n e =
        let changed = changed_outside body in
        let any = havoc changed fresh way in
        let inside = narrowed any.way (term_of any.way.env guard) in
        let outside = narrowed any.way (negation (term_of any.way.env guard)) in
        let flow = pass_all setting inside body any.fresh in
        let less = once_less (declared_by_all body) (changed_by_all body) n e in
        let same = havoc_stays changed fresh way n less in
        let turned = all_stay inside body any.fresh n e in
        record {
          ways = join_stays (any_path (paths_of (outside ∷ flow.breaks))) outside.env changed (outside ∷ flow.breaks) flow.fresh n way.env less same (same, stay_as n way.env any.way.env flow.breaks same turned.breaks);
          breaks = tt;
        }
    stmt_stays way (Break at) fresh n e = record { ways = tt; breaks = (refl, tt) }
    stmt_stays way (Return at update) fresh n e = record { ways = tt; breaks = tt }
    stmt_stays way stmt fresh n e = record { ways = (refl, tt); breaks = tt }

    pub all_stay : (way : Way) (stmts : Stmts) (fresh n : ℕ) → is_changed (changed_by_all stmts) n ≡ false → FlowStays n way.env (pass_all setting way stmts fresh)
    all_stay way done fresh n e = record { ways = (refl, tt); breaks = tt }
    all_stay way (next stmt others) fresh n e =
        let parts = neither (changed_by stmt) (changed_by_all others) n e in
        then_stays n way.env (pass_stmt setting way stmt fresh) (λ more on. pass_all setting on others more) (stmt_stays way stmt fresh n parts.0)
        (λ on same.
        let more = all_stay on others (pass_stmt setting way stmt fresh).fresh n parts.1 in
        record { ways = stay_as n way.env on.env _ same more.ways; breaks = stay_as n way.env on.env _ same more.breaks })

    pub branches_stay : (way : Way) (branches : Branches) (otherwise : Way → ℕ → Flow) (fresh n : ℕ) → is_changed (changed_by_branches branches) n ≡ false → ((last : Way) (more : ℕ) → FlowStays n last.env (otherwise last more))
        → PartsStay n way.env (pass_branches setting way branches otherwise fresh)
    branches_stay way no_branch otherwise fresh n e g = g way fresh
    branches_stay way (branch at guard body rest) otherwise fresh n e g =
        let parts = neither (changed_by_all body) (changed_by_branches rest) n e in
        let taken = narrowed way (term_of way.env guard) in
        let first = all_stay taken body fresh n parts.0 in
        let flow = pass_all setting taken body fresh in
        let more = branches_stay (narrowed way (negation (term_of way.env guard))) rest otherwise flow.fresh n parts.1 g in
        record { ways = all_joined _ (ways_of flow.way) _ first.ways more.ways; breaks = all_joined _ flow.breaks _ first.breaks more.breaks }
