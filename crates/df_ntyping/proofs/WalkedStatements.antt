-- A walk through statements that break nothing leaves no type missing.
use Rattle.std.proofs.Common.{◌≡◌, ◌≢◌, ℕ, suc, ◌+◌, ◌<◌, ◌≤◌, true, List, [], ◌∷◌, ◌++◌, length, Option, Some, refl, sym, ap, subst, ◌∙◌, ◌⊎◌, inl, inr, arith}
use Rattle.std.proofs.lemmas.List.{length-map}
use Rattle.std.specs.Prelude.{slice_get}
use Rattle.std.specs.List.{AllByRecursion, flat_map}
use Rattle.std.proofs.lemmas.Bool.{cases_lt}
use Rattle.df_base.specs.declared.pos.Pos.{Pos}
use Rattle.df_lang.specs.declared.ty.Ty.{Ty}
use Rattle.df_ntree.specs.declared.file.Local as declared_local
use Rattle.df_ntree.specs.Expr.{Expr}
use Rattle.df_ntree.specs.ExprSpelling.{IsExpr}
use Rattle.df_ntree.specs.File as file
use Rattle.df_ntree.specs.File.{Statement, Nested, Var, Assign, Expression, If, While, Return, Break, Assert, Print, Statements, done, next, Branches, Otherwise, without, otherwise}
use Rattle.df_ntree.specs.FileSpelling as grammar
use Rattle.df_ntree.specs.FileSpelling.{spell_statement, spell_statements, spell_branches}
use Rattle.df_ntyping.specs.Table.{Table}
use Rattle.df_ntyping.specs.Environment as scope_local
use Rattle.df_ntyping.specs.Environment.{Inferred, Fixed, Environment, local_type, enter, inside_loop, past, behind, locals_in, locals_in_all, locals_in_branches, locals_in_otherwise}
use Rattle.df_ntyping.specs.Places.{beginning_of_first}
use Rattle.df_ntyping.specs.LocalTypes.{names_in, used_names, used, types_of_values, used_inside, taken_all, inferred_all, used_in_clause, used_in_operand, over, inferred_behind, inferred_behind_all, inferred_behind_branches, inferred_behind_otherwise, are_enough, place_type, place_types, types_of_locals}
use Rattle.df_ntyping.specs.Node.{Owner}
use Rattle.df_ntyping.specs.Rule.{Typing, Assigned}
use Rattle.df_ntyping.specs.ExprNodes.{width, condition_nodes}
use Rattle.df_ntyping.specs.StatementNodes.{widths, local_widths, clause_widths, all_places, sources_nodes, variable_nodes, declared_by, update_nodes, clauses_nodes, statement_nodes, statements_nodes, branches_nodes, otherwise_nodes}
use Rattle.df_ntyping.proofs.KeptTypes.{Kept, kept_then, kept_grown, takens_kept, all_behind_kept, branches_kept, otherwise_kept}
use Rattle.df_ntyping.proofs.SameBehind.{same_behind, next_behind}
use Rattle.df_ntyping.proofs.ScopedLocals.{enter_scoped, past_scoped, behind_scoped}
use Rattle.df_ntyping.proofs.WholeTypes.{AreWhole, whole_joined, names_whole, takens_whole, names_length}
use Rattle.df_ntyping.proofs.BehindLengths.{used_length, behind_length, all_behind_length, branches_behind_length}
use Rattle.df_ntyping.proofs.LikeEnvironments.{AreLike, enter_like, past_like, behind_like}
use Rattle.df_ntyping.proofs.DeclaredLocals.{declared_from, declared_are, declared_count}
use Rattle.df_ntyping.proofs.AllNodes.{head, left, right}
use Rattle.df_ntyping.proofs.FaultlessNodes.{AllFaultless, TableKnown, holds_of}
use Rattle.df_ntyping.proofs.WalkedTypes.{AreFixed, Walks, among_right, values_typed}
use Rattle.df_ntyping.proofs.WalkedVariables.{opens_whole, values_whole, fixed_ahead}

-- behind the statements
pub record Walked (all types : List Inferred) (count : ℕ) : Type 0 where
  pub known_types : AreWhole all
  pub ahead : AreFixed types count

no_more_fixed : {types : List Inferred} {count : ℕ} → AreFixed types count → AreFixed types (count + 0)
no_more_fixed h = record { fixed = λ k lt. h.fixed k (omega arith) }

-- ---- where a walk goes on

over_like : {one whole : Environment} {types : List Inferred} → AreLike one whole → AreLike (over one types) whole
over_like h = record { table = h.table; outer = h.outer; inner = h.inner; next = h.next }

pub over_walks : (one whole : Environment) (types : List Inferred) → Walks one whole → AreWhole types → length types ≡ length one.types → Walks (over one types) whole
over_walks one whole types w h p = record { table = w.table; like = over_like w.like; size = p ∙ w.size; known_types = h; scoped = w.scoped; ahead = w.ahead }

pub enter_walks : (one whole : Environment) → Walks one whole → Walks (enter one) (enter whole)
enter_walks one whole w = record { table = w.table; like = enter_like w.like; size = w.size; known_types = w.known_types; scoped = enter_scoped 0 whole w.scoped; ahead = w.ahead }

pub loop_walks : (one whole : Environment) → Walks one whole → Walks one (inside_loop whole)
loop_walks one whole w = record {
  table = w.table;
  like = record { table = w.like.table; outer = w.like.outer; inner = w.like.inner; next = w.like.next };
  size = w.size;
  known_types = w.known_types;
  scoped = record { outer = w.scoped.outer; inner = w.scoped.inner };
  ahead = w.ahead;
}

pub past_walks : (one whole : Environment) (count : ℕ) (types : List Inferred) → Walks one whole → length types ≡ length one.types + count → Walked types whole.types (whole.next + count) → Walks (over (past one count) types) (past whole count)
past_walks one whole count types w p h = record {
  table = w.table;
  like = over_like (past_like count w.like);
  size = omega (arith, p, w.size);
  known_types = h.known_types;
  scoped = past_scoped 0 whole count w.scoped;
  ahead = h.ahead;
}

pub behind_walks : (one whole : Environment) (s : Statement) → Walks one whole → Walked (inferred_behind one s) whole.types (whole.next + locals_in s) → Walks (over (behind one s) (inferred_behind one s)) (behind whole s)
behind_walks one whole s w h =
    let same = same_behind whole s in
    let next = next_behind whole s in
    record {
      table = subst (λ (table : Table). TableKnown table) (sym same.table) w.table;
      like = over_like (behind_like one whole s w.like);
      size = omega (arith, behind_length one s, w.size, next);
      known_types = h.known_types;
      scoped = behind_scoped 0 whole s (omega arith) w.scoped;
      ahead = subst (λ (n : ℕ). AreFixed (behind whole s).types n) (sym next) (subst (λ (types : List Inferred). AreFixed types (whole.next + locals_in s)) (sym same.types) h.ahead);
    }

-- ---- sides

-- as many values as places
enough_there : (env : Environment) (start sign after : ℕ) (pos : Option Pos) (places : List (Option Ty)) (value : Expr) (values : List Expr) → AllFaultless (update_nodes env start sign after pos places (value ∷ values))
    → are_enough env (length places) (value ∷ values) ≡ true
enough_there env start sign after pos places value values h =
    holds_of (are_enough env (length places) (value ∷ values)) (λ b. (head (right (sources_nodes env (suc sign) places (value ∷ values)) _ h)).holds (Typing Assigned) b)

sources_there : (env : Environment) (start sign after : ℕ) (pos : Option Pos) (places : List (Option Ty)) (value : Expr) (values : List Expr) → AllFaultless (update_nodes env start sign after pos places (value ∷ values))
    → AllFaultless (sources_nodes env (suc sign) places (value ∷ values))
sources_there env start sign after pos places value values h = left (sources_nodes env (suc sign) places (value ∷ values)) _ h

assigned_whole : (one whole : Environment) (start sign after : ℕ) (pos : Option Pos) (targets values : List Expr) → Walks one whole → Kept (inferred_behind one (Assign targets values)) whole.types → values ≢ [] → AllByRecursion IsExpr values
    → AllFaultless (update_nodes whole start sign after pos (place_types whole targets) values) → AreWhole (inferred_behind one (Assign targets values))
assigned_whole one whole start sign after pos targets [] w kept some g h = absurd (some refl)
assigned_whole one whole start sign after pos targets (value ∷ values) w kept some g h =
    let names = flat_map used_inside targets ++ flat_map names_in (value ∷ values) in
    let marks = used_names one names one.types in
    let places = place_types whole targets in
    let typed = values_typed one whole names (suc sign) places (length places) (value ∷ values) w
    (kept_then (takens_kept one targets (types_of_values one (value ∷ values)) marks) kept) (among_right (flat_map used_inside targets) (flat_map names_in (value ∷ values))) g
    (sources_there whole start sign after pos places value values h) (enough_there whole start sign after pos places value values h) in
    subst (λ (given : List (Option Ty)). AreWhole (taken_all one targets given marks)) (sym typed.types)
    (takens_whole one targets typed.tys marks (typed.counted ∙ length-map targets (place_type whole)) (names_whole one names one.types w.known_types))

locals_length : (env : Environment) (locals : List declared_local.Local) → length (types_of_locals env (declared_by env locals)) ≡ length locals
locals_length env locals =
    ap (λ (xs : List scope_local.Local). length (types_of_locals env xs)) (declared_are env locals) ∙ length-map (declared_from env.next locals) (λ (local : scope_local.Local). local_type env local.number) ∙ declared_count env.next locals

variables_whole : (one whole : Environment) (start sign after : ℕ) (pos : Option Pos) (locals : List declared_local.Local) (values : List Expr) → Walks one whole
    → Kept (used one values ++ inferred_all one locals values (types_of_values one values)) whole.types → AllByRecursion IsExpr values → AllFaultless (variable_nodes whole (suc start) values locals)
    → AllFaultless (update_nodes whole start sign after pos (types_of_locals whole (declared_by whole locals)) values) → AreWhole (inferred_all one locals values (types_of_values one values))
variables_whole one whole start sign after pos locals [] w kept g v h = opens_whole one whole (suc start) locals (types_of_values one []) w.like.table v
variables_whole one whole start sign after pos locals (value ∷ values) w kept g v h =
    let names = flat_map names_in (value ∷ values) in
    let places = types_of_locals whole (declared_by whole locals) in
    let typed = values_typed one whole names (suc sign) places (length places) (value ∷ values) w
    (kept_then (kept_grown (used one (value ∷ values)) (inferred_all one locals (value ∷ values) (types_of_values one (value ∷ values)))) kept) (λ name c. c) g
    (sources_there whole start sign after pos places value values h) (enough_there whole start sign after pos places value values h) in
    subst (λ (given : List (Option Ty)). AreWhole (inferred_all one locals (value ∷ values) given)) (sym typed.types)
    (values_whole one whole (suc start) locals value values typed.tys w.like.table (typed.counted ∙ locals_length whole locals) v)

var_walked : (one whole : Environment) (start : ℕ) (pos : Pos) (locals : List declared_local.Local) (values : List Expr) → Walks one whole → Kept (inferred_behind one (Var pos locals values)) whole.types → AllByRecursion IsExpr values
    → whole.next + length locals ≤ length whole.types → AllFaultless (statement_nodes whole start (Var pos locals values)) → Walked (inferred_behind one (Var pos locals values)) whole.types (whole.next + length locals)
var_walked one whole start pos locals values w kept g room h =
    let sign = start + 1 + local_widths locals in
    let after = start + length (spell_statement (Var pos locals values)) in
    let v = left (variable_nodes whole (suc start) values locals) _ h in
    let u = right (variable_nodes whole (suc start) values locals) _ h in
    record {
      known_types = whole_joined (names_whole one (flat_map names_in values) one.types w.known_types) (variables_whole one whole start sign after (Some pos) locals values w kept g v u);
      ahead = record { fixed = λ k lt. by_place k lt v (cases_lt k whole.next) };
    } where
      by_place : (k : ℕ) → k < whole.next + length locals → AllFaultless (variable_nodes whole (suc start) values locals) → (k < whole.next) ⊎ (whole.next ≤ k) → (x : Option Ty) × (slice_get whole.types k ≡ Some (Fixed x))
      by_place k lt v (inl p) = w.ahead.fixed k p
      by_place k lt v (inr p) =
          fixed_ahead one whole (suc start) locals values (types_of_values one values) (used one values) (used_length one values ∙ w.size) kept room v k p lt

-- names are used, and nothing else
marks_walked : (one whole : Environment) (names : List ℕ) → Walks one whole → Walked (used_names one names one.types) whole.types (whole.next + 0)
marks_walked one whole names w = record { known_types = names_whole one names one.types w.known_types; ahead = no_more_fixed w.ahead }

pub marks_walks : (one whole : Environment) (names : List ℕ) → Walks one whole → Walks (over one (used_names one names one.types)) whole
marks_walks one whole names w = over_walks one whole (used_names one names one.types) w (names_whole one names one.types w.known_types) (names_length one names one.types)

-- ---- statements

mutual
  pub statement_walked : (one whole : Environment) (start : ℕ) (s : Statement) → Walks one whole → Kept (inferred_behind one s) whole.types → grammar.IsStatement s → whole.next + locals_in s ≤ length whole.types
      → AllFaultless (statement_nodes whole start s) → Walked (inferred_behind one s) whole.types (whole.next + locals_in s)
  statement_walked one whole start (Nested pos body) w kept g room h = statements_walked (enter one) (enter whole) (suc start) body (enter_walks one whole w) kept g room h
  statement_walked one whole start (Var pos locals values) w kept g room h = var_walked one whole start pos locals values w kept g.1 room h
  statement_walked one whole start (Assign targets values) w kept g room h = record {
    known_types = assigned_whole one whole start (start + widths targets) (start + length (spell_statement (Assign targets values))) (beginning_of_first targets) targets values w kept g.1.0 g.1.1 (right (all_places whole start targets) _ h);
    ahead = no_more_fixed w.ahead;
  }
  statement_walked one whole start (Expression value) w kept g room h = marks_walked one whole (flat_map names_in (value ∷ [])) w
  statement_walked one whole start (If pos guard opens body others last) w kept g room h =
      let opening = start + 1 + width guard in
      let behind_body = opening + 2 + length (spell_statements body) in
      let count = locals_in_all body in
      let more = locals_in_branches others in
      let names = flat_map names_in (guard ∷ []) in
      let inside = over (enter one) (used one (guard ∷ [])) in
      let first = over (past one count) (inferred_behind_all inside body) in
      let second = over (past first more) (inferred_behind_branches first others) in
      let guard_nodes = condition_nodes whole (suc start) guard in
      let body_nodes = statements_nodes (enter whole) (suc opening) body in
      let others_nodes = branches_nodes (past whole count) behind_body others in
      let three = left (guard_nodes ++ body_nodes ++ others_nodes) _ h in
      let two = left (guard_nodes ++ body_nodes) _ three in
      let kept_second = kept_then (otherwise_kept second last) kept in
      let kept_first = kept_then (branches_kept first others) kept_second in
      let at_body = statements_walked inside (enter whole) (suc opening) body (enter_walks (over one (used one (guard ∷ []))) whole (marks_walks one whole names w)) kept_first g.1 (omega arith) (right guard_nodes body_nodes two) in
      let at_first = past_walks one whole count (inferred_behind_all inside body) w (omega (arith, all_behind_length inside body, used_length one (guard ∷ []))) at_body in
      let at_others = branches_walked first (past whole count) behind_body others at_first kept_second g.2 (omega arith) (right (guard_nodes ++ body_nodes) others_nodes three) in
      let at_second = past_walks first (past whole count) more (inferred_behind_branches first others) at_first (branches_behind_length first others) at_others in
      let at_last = otherwise_walked second (past (past whole count) more) (behind_body + length (spell_branches others)) last at_second kept g.3 (omega arith) (right (guard_nodes ++ body_nodes ++ others_nodes) _ h) in
      record { known_types = at_last.known_types; ahead = record { fixed = λ k lt. at_last.ahead.fixed k (omega arith) } }
  statement_walked one whole start (While pos guard clauses opens body) w kept g room h =
      let at_clauses = start + 1 + width guard in
      let opening = at_clauses + clause_widths clauses in
      let names = names_in guard ++ flat_map used_in_clause clauses in
      let guard_nodes = condition_nodes whole (suc start) guard in
      let the_clauses = clauses_nodes whole Owner.OfLoop at_clauses clauses in
      let body_nodes = statements_nodes (inside_loop (enter whole)) (suc opening) body in
      let three = left (guard_nodes ++ the_clauses ++ body_nodes) _ h in
      statements_walked (over (enter one) (used_names one names one.types)) (inside_loop (enter whole)) (suc opening) body
      (loop_walks (over (enter one) (used_names one names one.types)) (enter whole) (enter_walks (over one (used_names one names one.types)) whole (marks_walks one whole names w))) kept g.2 room (right (guard_nodes ++ the_clauses) body_nodes three)
  statement_walked one whole start (Return pos values) w kept g room h = marks_walked one whole (flat_map names_in values) w
  statement_walked one whole start (Break pos) w kept g room h = record { known_types = w.known_types; ahead = no_more_fixed w.ahead }
  statement_walked one whole start (Assert pos condition) w kept g room h = marks_walked one whole (flat_map names_in (condition ∷ [])) w
  statement_walked one whole start (Print pos operands) w kept g room h = marks_walked one whole (flat_map used_in_operand operands) w

  pub statements_walked : (one whole : Environment) (start : ℕ) (s : Statements) → Walks one whole → Kept (inferred_behind_all one s) whole.types → grammar.AreStatements s → whole.next + locals_in_all s ≤ length whole.types
      → AllFaultless (statements_nodes whole start s) → Walked (inferred_behind_all one s) whole.types (whole.next + locals_in_all s)
  statements_walked one whole start done w kept g room h = record { known_types = w.known_types; ahead = no_more_fixed w.ahead }
  statements_walked one whole start (next statement others) w kept g room h =
      let behind_one = over (behind one statement) (inferred_behind one statement) in
      let same = same_behind whole statement in
      let number = next_behind whole statement in
      let here = statement_nodes whole start statement in
      let later = start + length (spell_statement statement) in
      let at_first = statement_walked one whole start statement w (kept_then (all_behind_kept behind_one others) kept) g.0 (omega arith) (left here _ h) in
      let at_others = statements_walked behind_one (behind whole statement) later others (behind_walks one whole statement w at_first)
      (subst (λ (types : List Inferred). Kept (inferred_behind_all behind_one others) types) (sym same.types) kept) g.1 (rw (same.types) (omega (arith, number))) (right here _ h) in
      let fixed_there = subst (λ (types : List Inferred). AreFixed types ((behind whole statement).next + locals_in_all others)) same.types at_others.ahead in
      record { known_types = at_others.known_types; ahead = record { fixed = λ k lt. fixed_there.fixed k (omega (arith, number)) } }

  pub branches_walked : (one whole : Environment) (start : ℕ) (branches : Branches) → Walks one whole → Kept (inferred_behind_branches one branches) whole.types → grammar.AreBranches branches → whole.next + locals_in_branches branches ≤ length whole.types
      → AllFaultless (branches_nodes whole start branches) → Walked (inferred_behind_branches one branches) whole.types (whole.next + locals_in_branches branches)
  branches_walked one whole start file.end w kept g room h = record { known_types = w.known_types; ahead = no_more_fixed w.ahead }
  branches_walked one whole start (file.more pos guard opens body others) w kept g room h =
      let opening = start + 2 + width guard in
      let count = locals_in_all body in
      let names = flat_map names_in (guard ∷ []) in
      let inside = over (enter one) (used one (guard ∷ [])) in
      let first = over (past one count) (inferred_behind_all inside body) in
      let guard_nodes = condition_nodes whole (start + 2) guard in
      let body_nodes = statements_nodes (enter whole) (suc opening) body in
      let two = left (guard_nodes ++ body_nodes) _ h in
      let at_body = statements_walked inside (enter whole) (suc opening) body (enter_walks (over one (used one (guard ∷ []))) whole (marks_walks one whole names w)) (kept_then (branches_kept first others) kept) g.0.1 (omega arith) (right guard_nodes body_nodes two) in
      let at_first = past_walks one whole count (inferred_behind_all inside body) w (omega (arith, all_behind_length inside body, used_length one (guard ∷ []))) at_body in
      let at_others = branches_walked first (past whole count) (opening + 2 + length (spell_statements body)) others at_first kept g.1 (omega arith) (right (guard_nodes ++ body_nodes) _ h) in
      record { known_types = at_others.known_types; ahead = record { fixed = λ k lt. at_others.ahead.fixed k (omega arith) } }

  pub otherwise_walked : (one whole : Environment) (start : ℕ) (last : Otherwise) → Walks one whole → Kept (inferred_behind_otherwise one last) whole.types → grammar.IsOtherwise last → whole.next + locals_in_otherwise last ≤ length whole.types
      → AllFaultless (otherwise_nodes whole start last) → Walked (inferred_behind_otherwise one last) whole.types (whole.next + locals_in_otherwise last)
  otherwise_walked one whole start without w kept g room h = record { known_types = w.known_types; ahead = no_more_fixed w.ahead }
  otherwise_walked one whole start (otherwise opens body) w kept g room h = statements_walked (enter one) (enter whole) (start + 2) body (enter_walks one whole w) kept g room h
