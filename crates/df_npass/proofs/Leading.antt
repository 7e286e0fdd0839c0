-- Passing over statements leads on: numbers of free terms grow, and what is said and where it leads is proper.
use Rattle.df_npass.proofs.Words.{Decreases, Distinct, Requires, ◌≡◌, ℕ, zero, suc, ◌≤◌, nat_lt, ◌==◌, Bool, true, false, List, [], ◌∷◌, ◌++◌, map, filter, Option, None, Some, refl, sym, ◌∙◌, arith, le_trans, le_refl, AllByRecursion, list_any, Pos, Ty, Expr, Target, Call, Conversion, Source, Single, Results, Update, Param, Method, method_at, method_measure, truth_of, Changed, and_joined, choice, Term, Terms, no_term, term, terms_of, disjunction, Interpretation, truth, Environment, term_of, equal_in, narrowing, measured, IsBelow, below, all_below, below_grows, equal_below, disjunction_below, narrowing_below, term_below, Said, Way, narrowed, over, with_term, assume, assert_all, assume_type, free_of, Moved, havoc, is_unset, assume_there, assume_joined, join_locals, either_path, paths_of, any_path, Joined, changed_alone, join, join_branches, Setting, assert_measure, env_of, Given, any_values, assert_decrease, pass_method_call, pass_call, assert_conversions, pass_source, pass_sources, Taken, taken_by, assert_equal, give_all, pass_update, pass_optional, ways_of, all_joined, literal, pos, slice_index_or, assert_expr}
use Rattle.df_lang.specs.declared.ty.Ty.TheVariants as types
use Rattle.df_nterm.specs.Meaning as meanings
use Rattle.df_npass.proofs.Saying.{path_true, narrowed_false, all_weaken, by_option, PathBelow, EnvBelow, Proper, path_grows, env_grows, proper_grows, nothing_proper, append_proper, narrowed_below, known_proper, owed_proper, asserted_proper, expr_proper, each_proper, clauses_proper, handed_proper, measure_proper, MeasureBelow, measured_below, measure_grows, order_below}
use Rattle.df_npass.proofs.Staying.{by_locals, renewed}
use Rattle.std.proofs.Math.Bool.{or-false}

-- a way that runs on a path come to
pub record Leads (n : ℕ) (path : Option Term) (way : Way) : Type 0 where
  pub env : EnvBelow n way.env
  pub path_is : PathBelow n way.path
  pub off : (i : Interpretation) → path_true i path ≡ false → path_true i way.path ≡ false

abbrev pub AllLead : ℕ → Option Term → List Way → Type 0
AllLead n path ways = AllByRecursion (Leads n path) ways

pub lead_grows : (n m : ℕ) (path : Option Term) (way : Way) → n ≤ m → Leads n path way → Leads m path way
lead_grows n m path way more h = record { env = env_grows n m way.env more h.env; path_is = path_grows n m way.path more h.path_is; off = h.off }

pub all_lead_grow : (n m : ℕ) (path : Option Term) (ways : List Way) → n ≤ m → AllLead n path ways → AllLead m path ways
all_lead_grow n m path ways more = all_weaken (Leads n path) (Leads m path) (λ way. lead_grows n m path way more) ways

-- a way leads to itself, and on to others
pub itself : (n : ℕ) (way : Way) → EnvBelow n way.env → PathBelow n way.path → Leads n way.path way
itself n way env path = record { env = env; path_is = path; off = λ i e. e }

pub farther : (n : ℕ) (path : Option Term) (way : Way) (others : List Way) → Leads n path way → AllLead n way.path others → AllLead n path others
farther n path way others h = all_weaken (Leads n way.path) (Leads n path) (λ other g. record { env = g.env; path_is = g.path_is; off = λ i e. g.off i (h.off i e) }) others

pub farther_proper : (n : ℕ) (path : Option Term) (way : Way) (said : List Said) → ((i : Interpretation) → path_true i path ≡ false → path_true i way.path ≡ false) → Proper n way.path said → Proper n path said
farther_proper n path way said off h = record { below = h.below; off = λ i e. h.off i (off i e) }

pub narrowed_leads : (n : ℕ) (way : Way) (formula : Term) → EnvBelow n way.env → PathBelow n way.path → IsBelow n formula → Leads n way.path (narrowed way formula)
narrowed_leads n way formula env path h = record { env = env; path_is = narrowed_below n way.path formula path h; off = λ i e. narrowed_false i way.path formula e }

-- what is said from the one number of a free term to the other
pub record Says (fresh : ℕ) (path : Option Term) (formulas : List Said) (last : ℕ) : Type 0 where
  pub grows : fresh ≤ last
  pub said : Proper last path formulas

pub says : (n : ℕ) (path : Option Term) (said : List Said) → Proper n path said → Says n path said n
says n path said h = record { grows = le_refl n; said = h }

pub says_nothing : (n : ℕ) (path : Option Term) → Says n path [] n
says_nothing n path = says n path [] (nothing_proper n path)

pub says_then : (n m k : ℕ) (path : Option Term) (said more : List Said) → Says n path said m → Says m path more k → Says n path (said ++ more) k
says_then n m k path said more h g = record { grows = le_trans h.grows g.grows; said = append_proper k path said more (proper_grows m k path said g.grows h.said) g.said }

pub record Going (fresh : ℕ) (path : Option Term) (moved : Moved) : Type 0 where
  pub made : Says fresh path moved.said moved.fresh
  pub way : Leads moved.fresh path moved.way

-- ---- free terms

pub free_below : (fresh : ℕ) (ty : Ty) → IsBelow (suc fresh) (free_of fresh ty)
free_below fresh ty = and_joined (nat_lt fresh (suc fresh)) true (grind arith) refl

type_proper : (n : ℕ) (path : Option Term) (ty : Ty) (a : Term) → PathBelow n path → IsBelow n a → Proper n path (assume_type path ty a)
type_proper n path (types.Newtype id) a h g = known_proper n path _ h (rw (g) refl)
type_proper n path types.Nat a h g = known_proper n path _ h (rw (g) refl)
type_proper n path ty a h g = nothing_proper n path

pub with_below : (n : ℕ) (env : Environment) (local : ℕ) (a : Term) → EnvBelow n env → IsBelow n a → EnvBelow n (with_term env local a)
with_below n env local a h g k = choice (IsBelow n) (k == local) a (env k) g (h k)

pub suc_more : (n : ℕ) → n ≤ suc n
suc_more n = omega arith

free_says : (fresh : ℕ) (path : Option Term) (ty : Ty) → PathBelow fresh path → Says fresh path (assume_type path ty (free_of fresh ty)) (suc fresh)
free_says fresh path ty h = record { grows = suc_more fresh; said = type_proper (suc fresh) path ty (free_of fresh ty) (path_grows fresh (suc fresh) path (suc_more fresh) h) (free_below fresh ty) }

pub havoc_going : (changed : List Changed) (fresh : ℕ) (way : Way) → EnvBelow fresh way.env → PathBelow fresh way.path → Going fresh way.path (havoc changed fresh way)
havoc_going [] fresh way env path = record { made = says_nothing fresh way.path; way = itself fresh way env path }
havoc_going (c ∷ others) fresh way env path =
    let more = havoc_going others (suc fresh) (over (with_term way.env c.local (free_of fresh c.ty)) way)
    (with_below (suc fresh) way.env c.local (free_of fresh c.ty) (env_grows fresh (suc fresh) way.env (suc_more fresh) env) (free_below fresh c.ty)) (path_grows fresh (suc fresh) way.path (suc_more fresh) path) in
    record { made = says_then fresh (suc fresh) _ way.path _ _ (free_says fresh way.path c.ty path) more.made; way = more.way }

-- ---- joins

there_proper : (n : ℕ) (path : Option Term) (ty : Ty) (a b : Term) → IsBelow n a → IsBelow n b → PathBelow n path → Proper n path (assume_there ty a path b)
there_proper n path ty a b g h is = choice (Proper n path) (is_unset b) [] (assume path (equal_in ty a b)) (nothing_proper n path) (known_proper n path (equal_in ty a b) is (equal_below n ty a b g h))

joined_proper : (n : ℕ) (path : Option Term) (ty : Ty) (local : ℕ) (a : Term) (ways : List Way) → IsBelow n a → AllLead n path ways → Proper n path (assume_joined ty local a ways)
joined_proper n path ty local a [] g h = nothing_proper n path
joined_proper n path ty local a (way ∷ ways) g h =
    append_proper n path (assume_there ty a way.path (way.env local)) (assume_joined ty local a ways)
    (farther_proper n path way _ h.0.off (there_proper n way.path ty a (way.env local) g (h.0.env local) h.0.path_is)) (joined_proper n path ty local a ways g h.1)

-- behind the join is a path that is off where the one before is
pub record Reaches (n : ℕ) (path : Option Term) (after : Option Term) : Type 0 where
  pub path_is : PathBelow n after
  pub off : (i : Interpretation) → path_true i path ≡ false → path_true i after ≡ false

pub reach_grows : (n m : ℕ) (path after : Option Term) → n ≤ m → Reaches n path after → Reaches m path after
reach_grows n m path after more h = record { path_is = path_grows n m after more h.path_is; off = h.off }

join_locals_going : (changed : List Changed) (ways : List Way) (fresh : ℕ) (env : Environment) (path after : Option Term) → EnvBelow fresh env → AllLead fresh path ways → Reaches fresh path after → Going fresh path (join_locals changed ways fresh env after)
join_locals_going changed ways fresh env path after = by_locals ways after (λ changed fresh env moved. EnvBelow fresh env → AllLead fresh path ways → Reaches fresh path after → Going fresh path moved)
    (λ fresh env h g r. record { made = says_nothing fresh path; way = record { env = h; path_is = r.path_is; off = r.off } }) (λ c others fresh env same more. more)
    (λ c others fresh env more h g r.
    let lead = all_lead_grow fresh (suc fresh) path ways (suc_more fresh) g in
    let next = renewed ways after c others fresh env in
    let going = more (with_below (suc fresh) env c.local (free_of fresh c.ty) (env_grows fresh (suc fresh) env (suc_more fresh) h) (free_below fresh c.ty)) lead (reach_grows fresh (suc fresh) path after (suc_more fresh) r) in
    let joined : Says fresh path (assume_joined c.ty c.local (free_of fresh c.ty) ways) (suc fresh) = record { grows = suc_more fresh; said = joined_proper (suc fresh) path c.ty c.local (free_of fresh c.ty) ways (free_below fresh c.ty) lead } in
    record { made = says_then fresh (suc fresh) next.fresh path _ next.said joined going.made; way = going.way })
    changed fresh env

pub record JoinGoing (fresh : ℕ) (path : Option Term) (joined : Joined) : Type 0 where
  pub made : Says fresh path joined.said joined.fresh
  pub way : AllLead joined.fresh path (ways_of joined.way)

alone_below : (n : ℕ) (changed : List Changed) (env now : Environment) → EnvBelow n env → EnvBelow n now → EnvBelow n (changed_alone changed env now)
alone_below n [] env now h g = h
alone_below n (c ∷ others) env now h g = with_below n (changed_alone others env now) c.local (now c.local) (alone_below n others env now h g) (g c.local)

pub join_going : (after : Option Term) (env : Environment) (changed : List Changed) (ways : List Way) (fresh : ℕ) (path : Option Term) → EnvBelow fresh env → AllLead fresh path ways → Reaches fresh path after → JoinGoing fresh path (join after env changed ways fresh)
join_going after env changed [] fresh path below h r = record { made = says_nothing fresh path; way = tt }
join_going after env changed (way ∷ []) fresh path below h r =
    record { made = says_nothing fresh path; way = (record { env = alone_below fresh changed env way.env below h.0.env; path_is = h.0.path_is; off = h.0.off }, tt) }
join_going after env changed (way ∷ other ∷ others) fresh path below h r =
    let going = join_locals_going changed (way ∷ other ∷ others) fresh env path after below h r in record { made = going.made; way = (going.way, tt) }

pub branches_going : (after : Option Term) (env : Environment) (changed : List Changed) (ways : List Way) (fresh : ℕ) (path : Option Term) → EnvBelow fresh env → AllLead fresh path ways → Reaches fresh path after → JoinGoing fresh path (join_branches after env changed ways fresh)
branches_going after env changed (way ∷ []) fresh path below h r = record { made = says_nothing fresh path; way = h }
branches_going after env changed ways fresh path below h r = join_going after env changed ways fresh path below h r

-- one of the paths
pub disjunction_truth : (i : Interpretation) (parts : Terms) → truth i (disjunction parts) ≡ list_any truth_of (meanings.values i parts)
disjunction_truth i no_term = refl
disjunction_truth i (term a no_term) = sym (or-false (truth i a))
disjunction_truth i (term a (term b others)) = refl

abbrev PathsBelow : ℕ → Option (List Term) → Type 0
PathsBelow n None = Unit {0}
PathsBelow n (Some paths) = all_below n (terms_of paths) ≡ true

abbrev pub any_true : Interpretation → Option (List Term) → Bool
any_true i None = true
any_true i (Some paths) = list_any truth_of (meanings.values i (terms_of paths))

paths_below : (n : ℕ) (path : Option Term) (ways : List Way) → AllLead n path ways → PathsBelow n (paths_of ways)
paths_below n path [] h = refl
paths_below n path (way ∷ ways) h = one way.path (paths_of ways) h.0.path_is (paths_below n path ways h.1)
  where
    one : (p : Option Term) (ps : Option (List Term)) → PathBelow n p → PathsBelow n ps → PathsBelow n (either_path p ps)
    one None ps g k = tt
    one (Some p) None g k = tt
    one (Some p) (Some ps) g k = and_joined (below n p) (all_below n (terms_of ps)) g k

-- ways by which no run comes
abbrev pub AllOff : Interpretation → List Way → Type 0
AllOff i ways = AllByRecursion (λ (way : Way). path_true i way.path ≡ false) ways

-- behind a path that is off
pub off_lead : (i : Interpretation) (n : ℕ) (path : Option Term) (ways : List Way) → AllLead n path ways → path_true i path ≡ false → AllOff i ways
off_lead i n path ways lead e = all_weaken (Leads n path) (λ (way : Way). path_true i way.path ≡ false) (λ way h. h.off i e) ways lead

off_paths : (i : Interpretation) (path : Option Term) (paths : Option (List Term)) → path_true i path ≡ false → any_true i paths ≡ false → any_true i (either_path path paths) ≡ false
off_paths i None paths e f = e
off_paths i (Some path) None e f = cc
off_paths i (Some path) (Some paths) e f = rw (e) f

pub off_any : (i : Interpretation) (ways : List Way) → AllOff i ways → any_true i (paths_of ways) ≡ false
off_any i [] off = refl
off_any i (way ∷ ways) off = off_paths i way.path (paths_of ways) off.0 (off_any i ways off.1)

pub any_path_reaches : (n : ℕ) (path : Option Term) (ways : List Way) → AllLead n path ways → Reaches n path (any_path (paths_of ways))
any_path_reaches n path ways h = record { path_is = is (paths_of ways) (paths_below n path ways h); off = λ i e. off i (paths_of ways) (off_any i ways (off_lead i n path ways h e)) }
  where
    is : (ps : Option (List Term)) → PathsBelow n ps → PathBelow n (any_path ps)
    is None g = tt
    is (Some ps) g = disjunction_below n (terms_of ps) g

    off : (i : Interpretation) (ps : Option (List Term)) → any_true i ps ≡ false → path_true i (any_path ps) ≡ false
    off i None g = g
    off i (Some ps) g = disjunction_truth i (terms_of ps) ∙ g

-- ---- calls and right sides

abbrev pub TermsBelow : ℕ → List Term → Type 0
TermsBelow n terms = AllByRecursion (IsBelow n) terms

pub terms_grow : (n m : ℕ) (terms : List Term) → n ≤ m → TermsBelow n terms → TermsBelow m terms
terms_grow n m terms more = all_weaken (IsBelow n) (IsBelow m) (below_grows n m more) terms

pub over_below : (n : ℕ) (terms : List Term) (env : Environment) → TermsBelow n terms → EnvBelow n env → (k : ℕ) → IsBelow n (slice_index_or terms k (env k))
over_below n [] env below h k = h k
over_below n (a ∷ terms) env below h zero = below.0
over_below n (a ∷ terms) env below h (suc k) = over_below n terms (λ x. env (suc x)) below.1 (λ x. h (suc x)) k

pub env_of_below : (n : ℕ) (terms : List Term) → TermsBelow n terms → EnvBelow n (env_of terms)
env_of_below n terms below = over_below n terms (λ k. literal (pos 0)) below (λ k. refl)

pub record Giving (fresh : ℕ) (path : Option Term) (given : Given) : Type 0 where
  pub made : Says fresh path given.said given.fresh
  pub terms : TermsBelow given.fresh given.terms

pub any_giving : (path : Option Term) (params : List Param) (fresh : ℕ) → PathBelow fresh path → Giving fresh path (any_values path params fresh)
any_giving path [] fresh h = record { made = says_nothing fresh path; terms = tt }
any_giving path (param ∷ others) fresh h =
    let more = any_giving path others (suc fresh) (path_grows fresh (suc fresh) path (suc_more fresh) h) in
    record { made = says_then fresh (suc fresh) _ path _ _ (free_says fresh path param.ty h) more.made; terms = (below_grows (suc fresh) _ more.made.grows (free_of fresh param.ty) (free_below fresh param.ty), more.terms) }

pub exprs_below : (n : ℕ) (env : Environment) → EnvBelow n env → (es : List Expr) → TermsBelow n (map (term_of env) es)
exprs_below n env h [] = tt
exprs_below n env h (e ∷ es) = (term_below n env h e, exprs_below n env h es)

module _ (setting : Setting) where
  decrease_proper : (n : ℕ) (call : Call) (method : Method) (way : Way) → PathBelow n way.path → EnvBelow n way.env → MeasureBelow n setting.entry → Proper n way.path (assert_decrease setting call method way)
  decrease_proper n call method way path env entry =
      choice (Proper n way.path) (setting.in_group call.callee) _ []
      (append_proper n way.path (assert_measure way (method_measure method)) _ (measure_proper n way path env (method_measure method))
      (owed_proper n way.path call.pos Decreases _ path (order_below n (measured way.env (method_measure method)) setting.entry (measured_below n way.env env (method_measure method)) entry)))
      (nothing_proper n way.path)

  method_call_giving : (call : Call) (method : Method) (arguments : List Term) (way : Way) (fresh : ℕ) → PathBelow fresh way.path → TermsBelow fresh arguments → MeasureBelow fresh setting.entry → Giving fresh way.path (pass_method_call setting call method arguments way fresh)
  method_call_giving call method arguments way fresh path terms entry =
      let inside = over (env_of arguments) way in
      let env = env_of_below fresh arguments terms in
      let results = any_values way.path method.results fresh in
      let any = any_giving way.path method.results fresh path in
      let ensured = over (env_of (arguments ++ results.terms)) way in
      let ensured_env = env_of_below results.fresh (arguments ++ results.terms) (all_joined _ arguments results.terms (terms_grow fresh results.fresh arguments any.made.grows terms) any.terms) in
      record {
        made = says_then fresh fresh results.fresh way.path _ _ (says fresh way.path _ (clauses_proper fresh inside path env (λ clause. call.pos) Requires method.preconditions))
            (says_then fresh fresh results.fresh way.path _ _ (says fresh way.path _ (decrease_proper fresh call method inside path env entry))
            (says_then fresh results.fresh results.fresh way.path results.said _ any.made (says results.fresh way.path _ (handed_proper results.fresh ensured (path_grows fresh results.fresh way.path any.made.grows path) ensured_env method.postconditions))));
        terms = any.terms;
      }

  pub call_giving : (call : Call) (way : Way) (fresh : ℕ) → PathBelow fresh way.path → EnvBelow fresh way.env → MeasureBelow fresh setting.entry → Giving fresh way.path (pass_call setting call way fresh)
  call_giving call way fresh path env entry =
      let terms = map (term_of way.env) call.arguments in
      let given = by_option (Giving fresh way.path) (λ (method : Method). pass_method_call setting call method terms way fresh) (method_at setting.program call.callee) (record { said = []; fresh = fresh; terms = [] })
      (λ e. record { made = says_nothing fresh way.path; terms = tt }) (λ method e. method_call_giving call method terms way fresh path (exprs_below fresh way.env env call.arguments) entry) in
      record { made = says_then fresh fresh _ way.path _ _ (says fresh way.path _ (each_proper fresh way.path (assert_expr way) (expr_proper fresh way path env) call.arguments)) given.made; terms = given.terms }

  conversions_proper : (n : ℕ) (at : Pos) (way : Way) (cs : List Conversion) (terms : List Term) → PathBelow n way.path → TermsBelow n terms → Proper n way.path (assert_conversions at way cs terms)
  conversions_proper n at way [] terms path h = nothing_proper n way.path
  conversions_proper n at way (c ∷ cs) [] path h = nothing_proper n way.path
  conversions_proper n at way (c ∷ cs) (a ∷ others) path h =
      append_proper n way.path (assert_all way.path (narrowing c.source c.target at a)) _ (asserted_proper n way.path (narrowing c.source c.target at a) path (narrowing_below n c.source c.target at a h.0)) (conversions_proper n at way cs others path h.1)

  pub source_giving : (source : Source) (way : Way) (fresh : ℕ) → PathBelow fresh way.path → EnvBelow fresh way.env → MeasureBelow fresh setting.entry → Giving fresh way.path (pass_source setting source way fresh)
  source_giving (Single ty value) way fresh path env entry = record { made = says fresh way.path _ (expr_proper fresh way path env value); terms = (term_below fresh way.env env value, tt) }
  source_giving (Results call results) way fresh path env entry =
      let given = call_giving call way fresh path env entry in
      let inner = pass_call setting call way fresh in
      let owed = conversions_proper inner.fresh call.pos way results inner.terms (path_grows fresh inner.fresh way.path given.made.grows path) given.terms in
      record { made = says_then fresh inner.fresh inner.fresh way.path inner.said _ given.made (says inner.fresh way.path _ owed); terms = given.terms }

  pub sources_giving : (sources : List Source) (way : Way) (fresh : ℕ) → PathBelow fresh way.path → EnvBelow fresh way.env → MeasureBelow fresh setting.entry → Giving fresh way.path (pass_sources setting sources way fresh)
  sources_giving [] way fresh path env entry = record { made = says_nothing fresh way.path; terms = tt }
  sources_giving (source ∷ others) way fresh path env entry =
      let one = source_giving source way fresh path env entry in
      let given = pass_source setting source way fresh in
      let grows = one.made.grows in
      let more = sources_giving others way given.fresh (path_grows fresh given.fresh way.path grows path) (env_grows fresh given.fresh way.env grows env) (measure_grows fresh given.fresh setting.entry grows entry) in
      let rest = pass_sources setting others way given.fresh in
      record { made = says_then fresh given.fresh rest.fresh way.path given.said rest.said one.made more.made; terms = all_joined _ given.terms rest.terms (terms_grow given.fresh rest.fresh given.terms more.made.grows one.terms) more.terms }

  -- ---- assignment

  abbrev TakenBelow : ℕ → List Taken → Type 0
  TakenBelow n earlier = AllByRecursion (λ (taken : Taken). IsBelow n taken.value) earlier

  taken_below : (n local : ℕ) (earlier : List Taken) → TakenBelow n earlier → TermsBelow n (taken_by local earlier)
  taken_below n local [] h = tt
  taken_below n local (taken ∷ earlier) h =
      let others = filter (λ (one : Taken). one.local == local) earlier in
      choice (λ (some : List Taken). TermsBelow n (map (λ (one : Taken). one.value) some)) (taken.local == local) (taken ∷ others) others (h.0, taken_below n local earlier h.1) (taken_below n local earlier h.1)

  equal_proper : (n : ℕ) (path : Option Term) (target : Target) (a : Term) (others : List Term) → PathBelow n path → IsBelow n a → TermsBelow n others → Proper n path (assert_equal path target a others)
  equal_proper n path target a [] p h g = nothing_proper n path
  equal_proper n path target a (b ∷ others) p h g = owed_proper n path target.pos Distinct _ p (equal_below n target.ty a b h g.0)

  give_going : (earlier : List Taken) (targets : List Target) (terms : List Term) (fresh : ℕ) (way : Way) → PathBelow fresh way.path → EnvBelow fresh way.env → TakenBelow fresh earlier → TermsBelow fresh terms → Going fresh way.path (give_all earlier targets terms fresh way)
  give_going earlier [] terms fresh way path env taken h = record { made = says_nothing fresh way.path; way = itself fresh way env path }
  give_going earlier (t ∷ ts) [] fresh way path env taken h = record { made = says_nothing fresh way.path; way = itself fresh way env path }
  give_going earlier (t ∷ ts) (a ∷ others) fresh way path env taken h =
      let more = give_going (record { local = t.local; value = a } ∷ earlier) ts others fresh (over (with_term way.env t.local a) way) path (with_below fresh way.env t.local a env h.0) (h.0, taken) h.1 in
      record { made = says_then fresh fresh _ way.path _ _ (says fresh way.path _ (equal_proper fresh way.path t a (taken_by t.local earlier) path h.0 (taken_below fresh t.local earlier taken))) more.made; way = more.way }

  pub update_going : (update : Update) (way : Way) (fresh : ℕ) → PathBelow fresh way.path → EnvBelow fresh way.env → MeasureBelow fresh setting.entry → Going fresh way.path (pass_update setting update way fresh)
  update_going update way fresh path env entry =
      let given = pass_sources setting update.sources way fresh in
      let one = sources_giving update.sources way fresh path env entry in
      let moved = give_all [] update.targets given.terms given.fresh way in
      let more = give_going [] update.targets given.terms given.fresh way (path_grows fresh given.fresh way.path one.made.grows path) (env_grows fresh given.fresh way.env one.made.grows env) tt one.terms in
      record { made = says_then fresh given.fresh moved.fresh way.path given.said moved.said one.made more.made; way = more.way }

  pub optional_going : (update : Option Update) (way : Way) (fresh : ℕ) → PathBelow fresh way.path → EnvBelow fresh way.env → MeasureBelow fresh setting.entry → Going fresh way.path (pass_optional setting update way fresh)
  optional_going None way fresh path env entry = record { made = says_nothing fresh way.path; way = itself fresh way env path }
  optional_going (Some update) way fresh path env entry = update_going update way fresh path env entry
