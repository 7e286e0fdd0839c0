-- Statements lead on.
use Rattle.df_npass.proofs.Words.{all_joined, ℕ, List, [], ◌∷◌, Option, None, Some, refl, subst, le_trans, option_map_or, Pos, Clause, Measure, Stmt, Block, Var, Assign, CallOf, If, While, Break, Return, Assert, Print, Stmts, done, next, Branches, no_branch, branch, loop_measure, Changed, Term, negation, term_of, Measured, measured, term_below, Said, Way, narrowed, Moved, havoc, paths_of, any_path, join, join_branches, Setting, Flow, saying, goes_on, followed_by, then_next, at_clause, assert_clauses, assume_clauses, assert_expr, assert_measure, changed_outside, changed_outside_if, Parted, ways_of, first_of, path_behind, rejoined, assert_turn, behind_loop, pass_stmt, pass_all, pass_branches, last_of, choice, assert_operand}
use Rattle.df_meaning.specs.declared.kind.Kind.TheVariants as kinds
use Rattle.df_npass.proofs.Saying.{PathBelow, EnvBelow, Proper, path_grows, env_grows, proper_grows, nothing_proper, append_proper, owed_proper, expr_proper, clauses_proper, handed_proper, measure_proper, each_proper, MeasureBelow, measured_below, measure_grows, order_below, by_option, operand_proper}
use Rattle.df_npass.proofs.Leading.{Leads, AllLead, lead_grows, all_lead_grow, itself, farther, farther_proper, narrowed_leads, Going, havoc_going, Reaches, join_going, branches_going, any_path_reaches, call_giving, update_going, optional_going, Says, says, says_nothing, says_then}

pub record Parts (fresh : ℕ) (path : Option Term) (parted : Parted) : Type 0 where
  pub made : Says fresh path parted.said parted.fresh
  pub ways : AllLead parted.fresh path parted.ways
  pub breaks : AllLead parted.fresh path parted.breaks
  pub returns : AllLead parted.fresh path parted.returns

abbrev pub Flows : ℕ → Option Term → Flow → Type 0
Flows fresh path flow = Parts fresh path (last_of flow)

moved_flows : (fresh : ℕ) (path : Option Term) (moved : Moved) → Going fresh path moved → Flows fresh path (goes_on moved)
moved_flows fresh path moved h = record { made = h.made; ways = (h.way, tt); breaks = tt; returns = tt }

said_flows : (fresh : ℕ) (way : Way) (said : List Said) → EnvBelow fresh way.env → PathBelow fresh way.path → Proper fresh way.path said → Flows fresh way.path (goes_on (saying said fresh way))
said_flows fresh way said env path h = record { made = says fresh way.path said h; ways = (itself fresh way env path, tt); breaks = tt; returns = tt }

-- what flows on a narrower path does on a wider one
pub farther_parts : (fresh : ℕ) (path : Option Term) (way : Way) (parted : Parted) → Leads fresh path way → Parts fresh way.path parted → Parts fresh path parted
farther_parts fresh path way parted h g =
    let led = lead_grows fresh parted.fresh path way g.made.grows h in
    record {
      made = record { grows = g.made.grows; said = farther_proper parted.fresh path way parted.said h.off g.made.said };
      ways = farther parted.fresh path way parted.ways led g.ways;
      breaks = farther parted.fresh path way parted.breaks led g.breaks;
      returns = farther parted.fresh path way parted.returns led g.returns;
    }

-- the next statement from where the first leads
then_flows : (fresh : ℕ) (path : Option Term) (flow : Flow) (go : ℕ → Way → Flow) → Flows fresh path flow → ((way : Way) → Leads flow.fresh path way → Flows flow.fresh path (go flow.fresh way)) → Flows fresh path (then_next flow go)
then_flows fresh path flow go h g = by_option (Flows fresh path) (λ way. followed_by flow (go flow.fresh way)) flow.way flow (λ e. h) (λ way e.
    let led : AllLead flow.fresh path (ways_of (Some way)) = subst (λ o. AllLead flow.fresh path (ways_of o)) e h.ways in
    let more = g way led.0 in
    let last = go flow.fresh way in
    record {
      made = says_then fresh flow.fresh last.fresh path flow.said last.said h.made more.made;
      ways = more.ways;
      breaks = all_joined _ flow.breaks last.breaks (all_lead_grow flow.fresh last.fresh path flow.breaks more.made.grows h.breaks) more.breaks;
      returns = all_joined _ flow.returns last.returns (all_lead_grow flow.fresh last.fresh path flow.returns more.made.grows h.returns) more.returns;
    })

-- ---- `if`

pub behind_reaches : (fresh : ℕ) (before : Way) (parted : Parted) → PathBelow fresh before.path → Parts fresh before.path parted → Reaches parted.fresh before.path (path_behind before parted)
behind_reaches fresh before parted path h =
    choice (Reaches parted.fresh before.path) parted.loses (any_path (paths_of parted.ways)) before.path (any_path_reaches parted.fresh before.path parted.ways h.ways)
    (record { path_is = path_grows fresh parted.fresh before.path h.made.grows path; off = λ i e. e })

rejoined_flows : (fresh : ℕ) (changed : List Changed) (before : Way) (parted : Parted) → EnvBelow fresh before.env → PathBelow fresh before.path → Parts fresh before.path parted → Flows fresh before.path (rejoined changed before parted)
rejoined_flows fresh changed before parted env path h =
    let joined = join_branches (path_behind before parted) before.env changed parted.ways parted.fresh in
    let going = branches_going (path_behind before parted) before.env changed parted.ways parted.fresh before.path (env_grows fresh parted.fresh before.env h.made.grows env) h.ways (behind_reaches fresh before parted path h) in
    record {
      made = says_then fresh parted.fresh joined.fresh before.path parted.said joined.said h.made going.made;
      ways = going.way;
      breaks = all_lead_grow parted.fresh joined.fresh before.path parted.breaks going.made.grows h.breaks;
      returns = all_lead_grow parted.fresh joined.fresh before.path parted.returns going.made.grows h.returns;
    }

-- a guard, a branch and the others
first_parts : (fresh : ℕ) (path : Option Term) (asked : List Said) (flow : Flow) (rest : ℕ → Parted) → Proper fresh path asked → Flows fresh path flow → Parts flow.fresh path (rest flow.fresh) → Parts fresh path (first_of asked flow rest)
first_parts fresh path asked flow rest a h g =
    let more = rest flow.fresh in
    record {
      made = says_then fresh fresh more.fresh path asked _ (says fresh path asked a) (says_then fresh flow.fresh more.fresh path flow.said more.said h.made g.made);
      ways = all_joined _ (ways_of flow.way) more.ways (all_lead_grow flow.fresh more.fresh path (ways_of flow.way) g.made.grows h.ways) g.ways;
      breaks = all_joined _ flow.breaks more.breaks (all_lead_grow flow.fresh more.fresh path flow.breaks g.made.grows h.breaks) g.breaks;
      returns = all_joined _ flow.returns more.returns (all_lead_grow flow.fresh more.fresh path flow.returns g.made.grows h.returns) g.returns;
    }

-- ---- `while`

pub turn_proper : (n : ℕ) (at : Pos) (invariants : List Clause) (measures : List Measure) (before : List Measured) (way : Way) → PathBelow n way.path → EnvBelow n way.env → MeasureBelow n before → Proper n way.path (assert_turn at invariants measures before way)
turn_proper n at invariants measures before way path env h =
    append_proper n way.path (assert_clauses at_clause kinds.Turn way invariants) _ (clauses_proper n way path env at_clause kinds.Turn invariants)
    (append_proper n way.path (assert_measure way measures) _ (measure_proper n way path env measures) (owed_proper n way.path at kinds.Decreases _ path (order_below n (measured way.env measures) before (measured_below n way.env env measures) h)))

loop_flows : (fresh : ℕ) (path : Option Term) (at : Pos) (invariants : List Clause) (measures : List Measure) (before : List Measured) (changed : List Changed) (outside : Way) (flow : Flow)
    → MeasureBelow fresh before → Leads fresh path outside → Flows fresh path flow → Flows fresh path (behind_loop at invariants measures before changed outside flow)
loop_flows fresh path at invariants measures before changed outside flow m out h =
    let ways : List Way = outside ∷ flow.breaks in
    let led : AllLead flow.fresh path ways = (lead_grows fresh flow.fresh path outside h.made.grows out, h.breaks) in
    let joined = join (any_path (paths_of ways)) outside.env changed ways flow.fresh in
    let going = join_going (any_path (paths_of ways)) outside.env changed ways flow.fresh path led.0.env led (any_path_reaches flow.fresh path ways led) in
    record {
      made = says_then fresh flow.fresh joined.fresh path flow.said _ h.made (says_then flow.fresh flow.fresh joined.fresh path _ joined.said (says flow.fresh path _ (turned flow.way h.ways)) going.made);
      ways = going.way;
      breaks = tt;
      returns = all_lead_grow flow.fresh joined.fresh path flow.returns going.made.grows h.returns;
    }
  where
    turned : (o : Option Way) → AllLead flow.fresh path (ways_of o) → Proper flow.fresh path (option_map_or (assert_turn at invariants measures before) o [])
    turned None led = nothing_proper flow.fresh path
    turned (Some way) led = farther_proper flow.fresh path way _ led.0.off (turn_proper flow.fresh at invariants measures before way led.0.path_is led.0.env (measure_grows fresh flow.fresh before h.made.grows m))

module _ (setting : Setting) where
  mutual
    pub stmt_flows : (way : Way) (stmt : Stmt) (fresh : ℕ) → EnvBelow fresh way.env → PathBelow fresh way.path → MeasureBelow fresh setting.entry → Flows fresh way.path (pass_stmt setting way stmt fresh)
    stmt_flows way (Block at body) fresh env path entry = all_flows way body fresh env path entry
    stmt_flows way (Var at variables update) fresh env path entry = moved_flows fresh way.path _ (optional_going setting update way fresh path env entry)
    stmt_flows way (Assign at update) fresh env path entry = moved_flows fresh way.path _ (update_going setting update way fresh path env entry)
    stmt_flows way (CallOf call) fresh env path entry =
        let given = call_giving setting call way fresh path env entry in
        record { made = given.made; ways = (itself _ way (env_grows fresh _ way.env given.made.grows env) (path_grows fresh _ way.path given.made.grows path), tt); breaks = tt; returns = tt }
    stmt_flows way (If branches otherwise) fresh env path entry =
        rejoined_flows fresh (changed_outside_if branches otherwise) way _ env path
        (branches_flow way branches (λ last. pass_all setting last otherwise) fresh env path entry (λ last more led grown. all_flows last otherwise more led.env led.path_is grown))
    stmt_flows way (While at guard invariants decreases body) fresh env path entry =
        let changed = changed_outside body in
        let any = havoc changed fresh way in
        let going = havoc_going changed fresh way env path in
        let turning = any.way in
        let measures = loop_measure guard decreases in
        let inside = narrowed turning (term_of turning.env guard) in
        let in_it = narrowed_leads any.fresh turning (term_of turning.env guard) going.way.env going.way.path_is (term_below any.fresh turning.env going.way.env guard) in
        let out = narrowed_leads any.fresh turning (negation (term_of turning.env guard)) going.way.env going.way.path_is (rw (term_below any.fresh turning.env going.way.env guard) refl) in
        let grown = measure_grows fresh any.fresh setting.entry going.made.grows entry in
        let turned = farther_parts any.fresh turning.path inside (last_of (pass_all setting inside body any.fresh)) in_it (all_flows inside body any.fresh in_it.env in_it.path_is grown) in
        let loop = loop_flows any.fresh turning.path at invariants measures (measured inside.env measures) changed (narrowed turning (negation (term_of turning.env guard))) (pass_all setting inside body any.fresh)
        (measured_below any.fresh inside.env in_it.env measures) out turned in
        let here = farther_parts any.fresh way.path turning _ going.way loop in
        let asked = append_proper any.fresh way.path (assert_clauses at_clause kinds.Entry way invariants) _ (proper_grows fresh any.fresh way.path _ going.made.grows (clauses_proper fresh way path env at_clause kinds.Entry invariants))
        (append_proper any.fresh way.path any.said _ going.made.said
        (farther_proper any.fresh way.path turning _ going.way.off
        (append_proper any.fresh turning.path (assume_clauses turning invariants) _ (handed_proper any.fresh turning going.way.path_is going.way.env invariants)
        (append_proper any.fresh turning.path (assert_expr turning guard) _ (expr_proper any.fresh turning going.way.path_is going.way.env guard)
        (farther_proper any.fresh turning.path inside _ in_it.off (measure_proper any.fresh inside in_it.path_is in_it.env measures)))))) in
        let made = says_then any.fresh any.fresh _ way.path _ _ (says any.fresh way.path _ asked) here.made in
        record { made = record { grows = le_trans going.made.grows made.grows; said = made.said }; ways = here.ways; breaks = here.breaks; returns = here.returns }
    stmt_flows way (Break at) fresh env path entry = record { made = says_nothing fresh way.path; ways = tt; breaks = (itself fresh way env path, tt); returns = tt }
    stmt_flows way (Return at update) fresh env path entry =
        let going = optional_going setting update way fresh path env entry in
        record { made = going.made; ways = tt; breaks = tt; returns = (going.way, tt) }
    stmt_flows way (Assert at condition) fresh env path entry =
        said_flows fresh way _ env path (append_proper fresh way.path (assert_expr way condition) _ (expr_proper fresh way path env condition) (owed_proper fresh way.path at kinds.Assert (term_of way.env condition) path (term_below fresh way.env env condition)))
    stmt_flows way (Print at operands) fresh env path entry = said_flows fresh way _ env path (each_proper fresh way.path (assert_operand way) (operand_proper fresh way path env) operands)

    pub all_flows : (way : Way) (stmts : Stmts) (fresh : ℕ) → EnvBelow fresh way.env → PathBelow fresh way.path → MeasureBelow fresh setting.entry → Flows fresh way.path (pass_all setting way stmts fresh)
    all_flows way done fresh env path entry = said_flows fresh way [] env path (nothing_proper fresh way.path)
    all_flows way (next stmt others) fresh env path entry =
        let first = stmt_flows way stmt fresh env path entry in
        then_flows fresh way.path (pass_stmt setting way stmt fresh) (λ more on. pass_all setting on others more) first (λ on led.
        farther_parts _ way.path on _ led (all_flows on others _ led.env led.path_is (measure_grows fresh _ setting.entry first.made.grows entry)))

    pub branches_flow : (way : Way) (branches : Branches) (otherwise : Way → ℕ → Flow) (fresh : ℕ) → EnvBelow fresh way.env → PathBelow fresh way.path → MeasureBelow fresh setting.entry
        → ((last : Way) (more : ℕ) → Leads more last.path last → MeasureBelow more setting.entry → Flows more last.path (otherwise last more)) → Parts fresh way.path (pass_branches setting way branches otherwise fresh)
    branches_flow way no_branch otherwise fresh env path entry g = g way fresh (itself fresh way env path) entry
    branches_flow way (branch at guard body rest) otherwise fresh env path entry g =
        let term_is = term_below fresh way.env env guard in
        let taken = narrowed way (term_of way.env guard) in
        let passed = narrowed way (negation (term_of way.env guard)) in
        let in_it = narrowed_leads fresh way (term_of way.env guard) env path term_is in
        let first = farther_parts fresh way.path taken _ in_it (all_flows taken body fresh in_it.env in_it.path_is entry) in
        let more = (pass_all setting taken body fresh).fresh in
        let out = lead_grows fresh more way.path passed first.made.grows (narrowed_leads fresh way (negation (term_of way.env guard)) env path (rw (term_is) refl)) in
        first_parts fresh way.path (assert_expr way guard) (pass_all setting taken body fresh) (pass_branches setting passed rest otherwise) (expr_proper fresh way path env guard) first
        (farther_parts more way.path passed _ out (branches_flow passed rest otherwise more out.env out.path_is (measure_grows fresh more setting.entry first.made.grows entry) g))
