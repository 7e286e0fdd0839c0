-- Passing over statements: what is owed in the order of evaluation, and what is known then.
use Rattle.std.specs.Prelude.{ℕ, suc, pos, nat_lt, Bool, true, false, ◌==◌, ◌&&◌, ◌||◌, if◌then◌else◌, List, [], ◌∷◌, ◌++◌, length, map, filter, slice_index_or, Option, None, Some}
use Rattle.std.specs.Option.{option_map_or}
use Rattle.std.specs.List.{list_any, flat_map}
use Rattle.df_base.specs.declared.pos.Pos.{Pos}
use Rattle.df_lang.specs.Expr.{Expr}
use Rattle.df_lang.specs.Stmt.{Operand, Text, Value, Target, Call, Conversion, Source, Single, Results, Update, Clause, Measure, Stmt, Block, Var, Assign, CallOf, If, While, Break, Return, Assert, Print, Stmts, done, next, Branches, no_branch, branch}
use Rattle.df_lang.specs.Program.{Param, Method, Program, method_at}
use Rattle.df_lang.specs.Typing.{variable_numbers}
use Rattle.df_lang.specs.Measures.{loop_measure, method_measure}
use Rattle.df_lang.specs.Groups.{group_at}
use Rattle.df_meaning.specs.declared.kind.Kind.{Kind}
use Rattle.df_meaning.specs.declared.kind.Kind.TheVariants as kinds
use Rattle.df_meaning.specs.Modular.{Changed, changed_by_all}
use Rattle.df_nterm.specs.Term.{Term, literal, negation}
use Rattle.df_nterm.specs.Expressions.{Environment, term_of, conditions_of, equal_in, narrowing}
use Rattle.df_nterm.specs.Measuring.{Measured, measured, are_below}
use Rattle.df_npass.specs.Rules.{Said, Way, Moved, narrowed, over, with_term, assume, assert, assert_all, assume_all, assume_type, free_of, havoc, paths_of, any_path, join, join_branches}

-- what is passed over: a program, which of its declarations are in the group of the one that is passed over, and the
-- measure of this one on entry
pub record Setting : Type 0 where
  pub program : Program
  pub in_group : ℕ → Bool
  pub entry : List Measured

-- by the group of each declaration, those that are in the group of one
abbrev pub grouped_with : Program → List ℕ → ℕ → ℕ → Bool
grouped_with program groups number other = nat_lt other (length program.decls) && (group_at groups number == group_at groups other)

-- What a statement says, and where it leads: the way to the next one, if any run goes on there; the ways out of the
-- loop around it; and those out of the method. Some runs that came may not go on: they leave, or end in a loop.
pub record Flow : Type 0 where
  pub said : List Said
  pub fresh : ℕ
  pub way : Option Way
  pub breaks : List Way
  pub returns : List Way
  pub loses : Bool

abbrev pub goes_on : Moved → Flow
goes_on moved = record { said = moved.said; fresh = moved.fresh; way = Some moved.way; breaks = []; returns = []; loses = false }

-- it says this, and goes on where it is
abbrev pub saying : List Said → ℕ → Way → Moved
saying said fresh way = record { said = said; fresh = fresh; way = way }

-- behind what was said
abbrev pub behind : List Said → Flow → Flow
behind said flow = record { said = said ++ flow.said; fresh = flow.fresh; way = flow.way; breaks = flow.breaks; returns = flow.returns; loses = flow.loses }

-- both, where the first leads to the second
abbrev pub followed_by : Flow → Flow → Flow
followed_by flow more = record { said = flow.said ++ more.said; fresh = more.fresh; way = more.way; breaks = flow.breaks ++ more.breaks; returns = flow.returns ++ more.returns; loses = flow.loses || more.loses }

-- the next statement, where a run goes on to it
abbrev pub then_next : Flow → (ℕ → Way → Flow) → Flow
then_next flow go = option_map_or (λ way. followed_by flow (go flow.fresh way)) flow.way flow

-- ---- clauses

-- each clause has a value and is true
abbrev pub assert_clauses : (Clause → Pos) → Kind → Way → List Clause → List Said
assert_clauses place kind way clauses =
    flat_map (λ (clause : Clause). assert_all way.path (conditions_of way.env clause.condition) ++ assert way.path (place clause) kind (term_of way.env clause.condition)) clauses

-- where the clause's expression begins
abbrev pub at_clause : Clause → Pos
at_clause clause = clause.pos

-- each clause has a value and is true of what is handed in
abbrev pub assume_clauses : Way → List Clause → List Said
assume_clauses way clauses =
    flat_map (λ (clause : Clause). assume_all way.path (conditions_of way.env clause.condition) ++ assume way.path (term_of way.env clause.condition)) clauses

-- an expression has a value
abbrev pub assert_expr : Way → Expr → List Said
assert_expr way e = assert_all way.path (conditions_of way.env e)

abbrev pub assert_exprs : Way → List Expr → List Said
assert_exprs way exprs = flat_map (assert_expr way) exprs

abbrev pub assert_measure : Way → List Measure → List Said
assert_measure way measures = flat_map (λ (measure : Measure). assert_expr way measure.value) measures

-- ---- calls

-- terms for the first locals
abbrev pub env_of : List Term → Environment
env_of terms = λ n. slice_index_or terms n (literal (pos 0))

-- what a right side says, and the terms that it gives
pub record Given : Type 0 where
  pub said : List Said
  pub fresh : ℕ
  pub terms : List Term

-- places have any values of their types
abbrev pub any_values : Option Term → List Param → ℕ → Given
any_values path [] fresh = record { said = []; fresh = fresh; terms = [] }
any_values path (param ∷ others) fresh =
    let more = any_values path others (suc fresh) in
    record { said = assume_type path param.ty (free_of fresh param.ty) ++ more.said; fresh = more.fresh; terms = free_of fresh param.ty ∷ more.terms }

-- inside the group the callee's measure is below that of the declaration
abbrev pub assert_decrease : Setting → Call → Method → Way → List Said
assert_decrease setting call method way =
    if setting.in_group call.callee
    then assert_measure way (method_measure method) ++ assert way.path call.pos kinds.Decreases (are_below (measured way.env (method_measure method)) setting.entry)
    else []

-- on arguments, what the callee asks is owed; of its results what it ensures is known
abbrev pub pass_method_call : Setting → Call → Method → List Term → Way → ℕ → Given
pass_method_call setting call method arguments way fresh =
    let inside = over (env_of arguments) way in
    let results = any_values way.path method.results fresh in
    record {
      said = assert_clauses (λ clause. call.pos) kinds.Requires inside method.preconditions
          ++ (assert_decrease setting call method inside
          ++ (results.said ++ assume_clauses (over (env_of (arguments ++ results.terms)) way) method.postconditions));
      fresh = results.fresh;
      terms = results.terms;
    }

-- behind what was said
abbrev pub given_behind : List Said → Given → Given
given_behind said given = record { said = said ++ given.said; fresh = given.fresh; terms = given.terms }

abbrev pub pass_call : Setting → Call → Way → ℕ → Given
pass_call setting call way fresh =
    given_behind (assert_exprs way call.arguments)
    (option_map_or (λ (method : Method). pass_method_call setting call method (map (term_of way.env) call.arguments) way fresh)
    (method_at setting.program call.callee)
    (record { said = []; fresh = fresh; terms = [] }))

-- each result goes to a place of another type
abbrev pub assert_conversions : Pos → Way → List Conversion → List Term → List Said
assert_conversions at way [] terms = []
assert_conversions at way (c ∷ cs) [] = []
assert_conversions at way (c ∷ cs) (a ∷ others) = assert_all way.path (narrowing c.source c.target at a) ++ assert_conversions at way cs others

abbrev pub converted : Pos → Way → List Conversion → Given → Given
converted at way results given = record { said = given.said ++ assert_conversions at way results given.terms; fresh = given.fresh; terms = given.terms }

abbrev pub pass_source : Setting → Source → Way → ℕ → Given
pass_source setting (Single ty value) way fresh = record { said = assert_expr way value; fresh = fresh; terms = term_of way.env value ∷ [] }
pass_source setting (Results call results) way fresh = converted call.pos way results (pass_call setting call way fresh)

-- right sides in order
abbrev pub pass_sources : Setting → List Source → Way → ℕ → Given
pass_sources setting [] way fresh = record { said = []; fresh = fresh; terms = [] }
pass_sources setting (source ∷ others) way fresh =
    let given = pass_source setting source way fresh in
    let more = pass_sources setting others way given.fresh in
    record { said = given.said ++ more.said; fresh = more.fresh; terms = given.terms ++ more.terms }

-- ---- assignment

-- a term that a local was given
pub record Taken : Type 0 where
  pub local : ℕ
  pub value : Term

-- those of the local
abbrev pub taken_by : ℕ → List Taken → List Term
taken_by local earlier = map (λ (taken : Taken). taken.value) (filter (λ (taken : Taken). taken.local == local) earlier)

-- a place that is named again is to be given what it was given last: by then all before it are known to be equal
abbrev pub assert_equal : Option Term → Target → Term → List Term → List Said
assert_equal path target a [] = []
assert_equal path target a (b ∷ others) = assert path target.pos kinds.Distinct (equal_in target.ty a b)

-- terms go to their places
abbrev pub give_all : List Taken → List Target → List Term → ℕ → Way → Moved
give_all earlier [] terms fresh way = saying [] fresh way
give_all earlier (t ∷ ts) [] fresh way = saying [] fresh way
give_all earlier (t ∷ ts) (a ∷ others) fresh way =
    let more = give_all (record { local = t.local; value = a } ∷ earlier) ts others fresh (over (with_term way.env t.local a) way) in
    saying (assert_equal way.path t a (taken_by t.local earlier) ++ more.said) more.fresh more.way

abbrev pub moved_behind : List Said → Moved → Moved
moved_behind said moved = saying (said ++ moved.said) moved.fresh moved.way

-- all right sides are evaluated before any place takes its value
abbrev pub pass_update : Setting → Update → Way → ℕ → Moved
pass_update setting update way fresh =
    let given = pass_sources setting update.sources way fresh in
    moved_behind given.said (give_all [] update.targets given.terms given.fresh way)

abbrev pub pass_optional : Setting → Option Update → Way → ℕ → Moved
pass_optional setting None way fresh = saying [] fresh way
pass_optional setting (Some update) way fresh = pass_update setting update way fresh

abbrev pub assert_operand : Way → Operand → List Said
assert_operand way (Text characters) = []
assert_operand way (Value ty value) = assert_expr way value

-- ---- which locals statements change that stand before them

abbrev mutual
  pub declared_by : Stmt → List ℕ
  declared_by (Block at body) = declared_by_all body
  declared_by (Var at variables update) = variable_numbers variables
  declared_by (Assign at update) = []
  declared_by (CallOf call) = []
  declared_by (If branches otherwise) = declared_by_branches branches ++ declared_by_all otherwise
  declared_by (While at guard invariants decreases body) = declared_by_all body
  declared_by (Break at) = []
  declared_by (Return at update) = []
  declared_by (Assert at condition) = []
  declared_by (Print at operands) = []

  pub declared_by_all : Stmts → List ℕ
  declared_by_all done = []
  declared_by_all (next stmt others) = declared_by stmt ++ declared_by_all others

  pub declared_by_branches : Branches → List ℕ
  declared_by_branches no_branch = []
  declared_by_branches (branch at guard body rest) = declared_by_all body ++ declared_by_branches rest

-- the first of each local, but for those that are left out
abbrev pub each_once : List ℕ → List Changed → List Changed
each_once out [] = []
each_once out (changed ∷ others) =
    if list_any (λ n. n == changed.local) out then each_once out others else changed ∷ each_once (changed.local ∷ out) others

abbrev pub changed_outside : Stmts → List Changed
changed_outside body = each_once (declared_by_all body) (changed_by_all body)

abbrev pub changed_in_branches : Branches → List Changed
changed_in_branches no_branch = []
changed_in_branches (branch at guard body rest) = changed_outside body ++ changed_in_branches rest

abbrev pub changed_outside_if : Branches → Stmts → List Changed
changed_outside_if branches otherwise = each_once [] (changed_in_branches branches ++ changed_outside otherwise)

-- ---- `if`: the ways of the branches

-- what the branches say; the ways that go on, and those that leave
pub record Parted : Type 0 where
  pub said : List Said
  pub fresh : ℕ
  pub ways : List Way
  pub breaks : List Way
  pub returns : List Way
  pub loses : Bool

abbrev pub ways_of : Option Way → List Way
ways_of None = []
ways_of (Some way) = way ∷ []

abbrev pub last_of : Flow → Parted
last_of flow = record { said = flow.said; fresh = flow.fresh; ways = ways_of flow.way; breaks = flow.breaks; returns = flow.returns; loses = flow.loses }

-- behind a guard, its branch and the others
abbrev pub first_of : List Said → Flow → (ℕ → Parted) → Parted
first_of asked flow rest =
    let more = rest flow.fresh in
    record { said = asked ++ (flow.said ++ more.said); fresh = more.fresh; ways = ways_of flow.way ++ more.ways; breaks = flow.breaks ++ more.breaks; returns = flow.returns ++ more.returns; loses = flow.loses || more.loses }

-- where all runs go on, all that came there come behind the `if`
abbrev pub path_behind : Way → Parted → Option Term
path_behind before parted = if parted.loses then any_path (paths_of parted.ways) else before.path

abbrev pub rejoined : List Changed → Way → Parted → Flow
rejoined changed before parted =
    let joined = join_branches (path_behind before parted) before.env changed parted.ways parted.fresh in
    record { said = parted.said ++ joined.said; fresh = joined.fresh; way = joined.way; breaks = parted.breaks; returns = parted.returns; loses = parted.loses }

-- ---- `while`

-- behind the body the invariants are owed again, and that the measure has fallen
abbrev pub assert_turn : Pos → List Clause → List Measure → List Measured → Way → List Said
assert_turn at invariants measures before way =
    assert_clauses at_clause kinds.Turn way invariants
    ++ (assert_measure way measures ++ assert way.path at kinds.Decreases (are_below (measured way.env measures) before))

-- behind the loop the guard is false, or a `break` has come there
abbrev pub behind_loop : Pos → List Clause → List Measure → List Measured → List Changed → Way → Flow → Flow
behind_loop at invariants measures before changed outside flow =
    let joined = join (any_path (paths_of (outside ∷ flow.breaks))) outside.env changed (outside ∷ flow.breaks) flow.fresh in
    record {
      said = flow.said ++ (option_map_or (assert_turn at invariants measures before) flow.way [] ++ joined.said);
      fresh = joined.fresh;
      way = joined.way;
      breaks = [];
      returns = flow.returns;
      loses = true;
    }

-- ---- statements

abbrev mutual
  pub pass_stmt : Setting → Way → Stmt → ℕ → Flow
  pass_stmt setting way (Block at body) fresh = pass_all setting way body fresh
  pass_stmt setting way (Var at variables update) fresh = goes_on (pass_optional setting update way fresh)
  pass_stmt setting way (Assign at update) fresh = goes_on (pass_update setting update way fresh)
  pass_stmt setting way (CallOf call) fresh = (let given = pass_call setting call way fresh in goes_on (saying given.said given.fresh way))
  pass_stmt setting way (If branches otherwise) fresh =
      rejoined (changed_outside_if branches otherwise) way (pass_branches setting way branches (λ last. pass_all setting last otherwise) fresh)
  pass_stmt setting way (While at guard invariants decreases body) fresh =
      let changed = changed_outside body in
      let any = havoc changed fresh way in
      let measures = loop_measure guard decreases in
      let inside = narrowed any.way (term_of any.way.env guard) in
      behind (assert_clauses at_clause kinds.Entry way invariants ++ (any.said ++ (assume_clauses any.way invariants ++ (assert_expr any.way guard ++ assert_measure inside measures))))
      (behind_loop at invariants measures (measured inside.env measures) changed
      (narrowed any.way (negation (term_of any.way.env guard)))
      (pass_all setting inside body any.fresh))
  pass_stmt setting way (Break at) fresh = record { said = []; fresh = fresh; way = None; breaks = way ∷ []; returns = []; loses = true }
  pass_stmt setting way (Return at update) fresh =
      (let moved = pass_optional setting update way fresh in record { said = moved.said; fresh = moved.fresh; way = None; breaks = []; returns = moved.way ∷ []; loses = true })
  pass_stmt setting way (Assert at condition) fresh = goes_on (saying (assert_expr way condition ++ assert way.path at kinds.Assert (term_of way.env condition)) fresh way)
  pass_stmt setting way (Print at operands) fresh = goes_on (saying (flat_map (assert_operand way) operands) fresh way)

  -- statements in order, as far as a run goes on
  pub pass_all : Setting → Way → Stmts → ℕ → Flow
  pass_all setting way done fresh = goes_on (saying [] fresh way)
  pass_all setting way (next stmt others) fresh = then_next (pass_stmt setting way stmt fresh) (λ more on. pass_all setting on others more)

  -- each branch where its guard is true and those before it are false, and what is done where all are
  pub pass_branches : Setting → Way → Branches → (Way → ℕ → Flow) → ℕ → Parted
  pass_branches setting way no_branch otherwise fresh = last_of (otherwise way fresh)
  pass_branches setting way (branch at guard body rest) otherwise fresh =
      first_of (assert_expr way guard)
      (pass_all setting (narrowed way (term_of way.env guard)) body fresh)
      (pass_branches setting (narrowed way (negation (term_of way.env guard))) rest otherwise)
