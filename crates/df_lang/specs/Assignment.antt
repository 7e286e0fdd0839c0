-- Definite assignment: a flow rule by which each local has a value where it is read, and each result where its method returns.
use Rattle.std.specs.Prelude.{◌≡◌, ℕ, suc, ◌==◌, nat_lt, Bool, true, ◌&&◌, if◌then◌else◌, List, [], ◌∷◌, ◌++◌, length, Option, None, Some, false}
use Rattle.std.specs.List.{flat_map}
use Rattle.df_base.specs.declared.pos.Pos.{Pos}
use Rattle.df_lang.specs.Expr.{Expr, Number, Truth, Character, Local, Negate, Not, Sum, Product, Junction, Implies, Iff, Chain, As, Convert, Addends, no_addend, addend, Factors, no_factor, factor, Members, no_member, member, Links, no_link, link}
use Rattle.df_lang.specs.Stmt.{Operand, Text, Value, Target, Call, Source, Single, Results, Update, Variable, Clause, Measure, Stmt, Block, Var, Assign, CallOf, If, While, Break, Return, Assert, Print, Stmts, done, next, Branches, no_branch, branch}
use Rattle.df_lang.specs.Program.{Param, Method, Program, method_at}

-- a local that must have a value, and where: where it is read, or for a result where its method returns
pub record Use : Type 0 where
  pub local : ℕ
  pub name : ℕ
  pub pos : Pos

-- ---- What is read, in the order of evaluation.

abbrev mutual
  -- the locals that an expression reads, also those that it may pass by
  pub reads : Expr → List Use
  reads (Number ty value pos) = []
  reads (Truth value pos) = []
  reads (Character code pos) = []
  reads (Local local name pos) = record { local = local; name = name; pos = pos } ∷ []
  reads (Negate ty pos operand) = reads operand
  reads (Not pos operand) = reads operand
  reads (Sum ty first rest) = reads first ++ reads_of_addends rest
  reads (Product ty first rest) = reads first ++ reads_of_factors rest
  reads (Junction junction first rest) = reads first ++ reads_of_members rest
  reads (Implies arrow first rest) = reads first ++ reads_of_members rest
  reads (Iff first rest) = reads first ++ reads_of_members rest
  reads (Chain ty first rest) = reads first ++ reads_of_links rest
  reads (As source target pos operand) = reads operand
  reads (Convert source target pos operand) = reads operand

  pub reads_of_addends : Addends → List Use
  reads_of_addends no_addend = []
  reads_of_addends (addend operator pos operand rest) = reads operand ++ reads_of_addends rest

  pub reads_of_factors : Factors → List Use
  reads_of_factors no_factor = []
  reads_of_factors (factor operator pos operand rest) = reads operand ++ reads_of_factors rest

  pub reads_of_members : Members → List Use
  reads_of_members no_member = []
  reads_of_members (member pos operand rest) = reads operand ++ reads_of_members rest

  pub reads_of_links : Links → List Use
  reads_of_links no_link = []
  reads_of_links (link comparison pos operand rest) = reads operand ++ reads_of_links rest

abbrev pub reads_of_operand : Operand → List Use
reads_of_operand (Text characters) = []
reads_of_operand (Value ty value) = reads value

abbrev pub reads_of_call : Call → List Use
reads_of_call call = flat_map reads call.arguments

abbrev pub reads_of_source : Source → List Use
reads_of_source (Single ty value) = reads value
reads_of_source (Results call results) = reads_of_call call

abbrev pub reads_of_update : Option Update → List Use
reads_of_update None = []
reads_of_update (Some update) = flat_map reads_of_source update.sources

abbrev pub reads_of_clauses : List Clause → List Use
reads_of_clauses clauses = flat_map (λ (clause : Clause). reads clause.condition) clauses

abbrev pub reads_of_measures : Option (List Measure) → List Use
reads_of_measures None = []
reads_of_measures (Some measures) = flat_map (λ (measure : Measure). reads measure.value) measures

-- ---- Which locals have a value at a point of the flow.

-- No path comes there; or on each path that does, the locals of the set have a value. Unreached code counts as assigned.
pub data Assigned : Type 0 where
  Unreached : Assigned
  Reached : (set : ℕ → Bool) → Assigned

abbrev pub has_value : Assigned → ℕ → Bool
has_value Unreached local = true
has_value (Reached set) local = set local

-- where two ways join: what has a value on both
abbrev pub join : Assigned → Assigned → Assigned
join Unreached other = other
join (Reached set) Unreached = Reached set
join (Reached set) (Reached other) = Reached (λ local. set local && other local)

-- the local has a value from here on, or has none
abbrev pub mark : Bool → Assigned → ℕ → Assigned
mark value Unreached local = Unreached
mark value (Reached set) local = Reached (λ k. if k == local then value else set k)

abbrev pub declare : Assigned → List Variable → Assigned
declare before [] = before
declare before (variable ∷ others) = declare (mark false before variable.local) others

abbrev pub assign : Assigned → List Target → Assigned
assign before [] = before
assign before (target ∷ others) = assign (mark true before target.local) others

abbrev pub assign_all : Assigned → Option Update → Assigned
assign_all before None = before
assign_all before (Some update) = assign before update.targets

-- the uses of locals that have none there
abbrev pub unassigned : Assigned → List Use → List Use
unassigned before [] = []
unassigned before (u ∷ others) = if has_value before u.local then unassigned before others else u ∷ unassigned before others

-- ---- The flow through statements.

-- What is known behind a statement; what each `break` in it carries behind the loop around it; and the uses in it of
-- locals without a value, among them what each `return` carries: the results that it leaves without one.
pub record Flowing : Type 0 where
  pub behind : Assigned
  pub breaks : Assigned
  pub missing : List Use

-- goes on behind the statement; no `break`
abbrev pub goes_to : Assigned → List Use → Flowing
goes_to behind missing = record { behind = behind; breaks = Unreached; missing = missing }

-- the results of a method, used where it returns: their numbers follow those of the parameters
abbrev pub results_from : Pos → ℕ → List Param → List Use
results_from pos from [] = []
results_from pos from (result ∷ others) = record { local = from; name = result.declared.name; pos = pos } ∷ results_from pos (suc from) others

abbrev pub results_at : Method → Pos → List Use
results_at m pos = results_from pos (length m.parameters) m.results

abbrev mutual
  pub flow : Method → Assigned → Stmt → Flowing
  flow m before (Block pos body) = flow_all m before body
  flow m before (Var pos variables update) =
      let declared = declare before variables in goes_to (assign_all declared update) (unassigned declared (reads_of_update update))
  flow m before (Assign pos update) = goes_to (assign before update.targets) (unassigned before (reads_of_update (Some update)))
  flow m before (CallOf call) = goes_to before (unassigned before (reads_of_call call))
  flow m before (If branches otherwise) = flow_branches m before branches (flow_all m before otherwise)
  -- behind a loop its guard was false, as before it, or a `break` came there; a guard that never is false isn't looked at
  flow m before (While pos guard invariants decreases body) =
      let turn = flow_all m before body in
      goes_to (join before turn.breaks) (unassigned before (reads guard ++ reads_of_clauses invariants ++ reads_of_measures decreases) ++ turn.missing)
  flow m before (Break pos) = record { behind = Unreached; breaks = before; missing = [] }
  flow m before (Return pos update) =
      goes_to Unreached (unassigned before (reads_of_update update) ++ unassigned (assign_all before update) (results_at m pos))
  flow m before (Assert pos condition) = goes_to before (unassigned before (reads condition))
  flow m before (Print pos operands) = goes_to before (unassigned before (flat_map reads_of_operand operands))

  pub flow_all : Method → Assigned → Stmts → Flowing
  flow_all m before done = goes_to before []
  flow_all m before (next stmt others) =
      let first = flow m before stmt in
      let rest = flow_all m first.behind others in
      record { behind = rest.behind; breaks = join first.breaks rest.breaks; missing = first.missing ++ rest.missing }

  -- on each branch, or on the way without any
  pub flow_branches : Method → Assigned → Branches → Flowing → Flowing
  flow_branches m before no_branch otherwise = otherwise
  flow_branches m before (branch pos guard body rest) otherwise =
      let taken = flow_all m before body in
      let others = flow_branches m before rest otherwise in
      record { behind = join taken.behind others.behind; breaks = join taken.breaks others.breaks; missing = unassigned before (reads guard) ++ taken.missing ++ others.missing }

-- ---- Methods.

-- the parameters have values, and the results have none yet
abbrev pub at_entry : Method → Assigned
at_entry m = Reached (λ local. nat_lt local (length m.parameters))

-- the uses of locals without a value; a result that has none at the end is used where the body opens
abbrev pub unassigned_in : Method → List Use
unassigned_in m = let body = flow_all m (at_entry m) m.body in body.missing ++ unassigned body.behind (results_at m m.pos)

abbrev pub IsDefinitelyAssigned : Program → Type 0
IsDefinitelyAssigned program = (number : ℕ) (method : Method) → method_at program number ≡ Some method → unassigned_in method ≡ []
