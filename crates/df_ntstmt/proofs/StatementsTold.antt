-- The walk over statements: it tells the least rule that is broken, or what it makes elaborates.
use Rattle.std.proofs.Common.{ℕ, suc, ◌+◌, ◌≤◌, List, [], ◌∷◌, ◌++◌, length, Ok, refl, sym, subst, inl, arith}
use Rattle.std.specs.List.{flat_map}
use Rattle.df_lang.specs.Stmt as typed
use Rattle.df_ntree.specs.Spelling.{separated}
use Rattle.df_ntree.specs.ExprSpelling.{spell}
use Rattle.df_ntree.specs.File as file
use Rattle.df_ntree.specs.File.{Clause, PrintOperand, Statement, Nested, Var, Assign, Expression, If, While, Return, Break, Assert, Print, Statements, done, next, Branches, Otherwise, without, otherwise}
use Rattle.df_ntree.specs.FileSpelling as grammar
use Rattle.df_ntree.specs.FileSpelling.{spell_local, spell_values, spell_clause, spell_operand, spell_statement, spell_statements, spell_branches, spell_otherwise, braces}
use Rattle.df_ntyping.specs.Literals.{AreInRange}
use Rattle.df_ntyping.specs.Environment.{Inferred, Environment, enter, inside_loop, past, behind, locals_in, locals_in_all, locals_in_branches, locals_in_otherwise}
use Rattle.df_ntyping.specs.Node.{Occurrence, OfLoop}
use Rattle.df_ntyping.specs.ExprNodes.{width, condition_nodes}
use Rattle.df_ntyping.specs.StatementNodes.{clause_widths, clauses_nodes, operand_nodes, statement_nodes, statements_nodes, branches_nodes, otherwise_nodes}
use Rattle.df_ntyping.specs.LocalTypes.{names_in, used_names, used, types_of_values, used_inside, used_in_clause, used_in_operand, inferred_all, over, inferred_behind, inferred_behind_all, inferred_behind_branches, inferred_behind_otherwise}
use Rattle.df_ntyping.specs.StatementElaboration.{AreOperands, AreStatements, AreBranches, IsOtherwise}
use Rattle.df_ntyping.specs.Wanted as wanteds
use Rattle.df_ntyping.specs.mirror.Parts.{Typed}
use Rattle.df_ntexpr.specs.Replies.{Reply}
use Rattle.df_ntyping.proofs.BehindLengths.{used_length, all_behind_length, branches_behind_length}
use Rattle.df_ntyping.proofs.ElaboratedSides.{IsReady}
use Rattle.df_ntyping.proofs.ElaboratedStatements.{enter_ready, loop_ready, past_ready, behind_ready}
use Rattle.df_ntyping.proofs.FaultlessNodes.{faultless_of}
use Rattle.df_ntyping.proofs.FirstFault.{NoNames, named_left, named_right}
use Rattle.df_ntyping.proofs.Found.{beyond_one, beyond_both, beyond_segment}
use Rattle.df_ntyping.proofs.KeptTypes.{Kept, kept_then, kept_grown, takens_kept, all_behind_kept, branches_kept, otherwise_kept}
use Rattle.df_ntyping.proofs.PartOrder.{clauses_order}
use Rattle.df_ntyping.proofs.Ranges.{inside_braces, separated_parts, each_part}
use Rattle.df_ntyping.proofs.SameBehind.{same_behind, next_behind}
use Rattle.df_ntyping.proofs.SideOrder.{condition_order}
use Rattle.df_ntyping.proofs.StatementOrder.{while_width, statement_order, statements_order, branches_order, otherwise_order}
use Rattle.df_ntyping.proofs.TypedIsWellTyped.{all_left, all_right}
use Rattle.df_ntyping.proofs.Verdict.{HaveTypes, types_left, types_right}
use Rattle.df_ntyping.proofs.WalkedTypes.{Walks, used_typed}
use Rattle.df_ntyping.proofs.WalkedStatements.{statement_walked, statements_walked, branches_walked, enter_walks, loop_walks, past_walks, behind_walks, marks_walks}
use Rattle.df_ntstmt.specs.mirror.Steps.{and_then, typed_in}
use Rattle.df_ntstmt.specs.mirror.Clauses.{Clauses, clauses_in, operands_in}
use Rattle.df_ntstmt.specs.mirror.Statements.{statement_in, statements_in, branches_in, otherwise_in}
use Rattle.df_ntstmt.proofs.Judging.{Judged, judged_then, judged_step, judged_map, judged_as, judged_grouped, judged_none}
use Rattle.df_ntstmt.proofs.ExprsTold.{IsTyped, expr_told}
use Rattle.df_ntstmt.proofs.ClausesTold.{AreSaid, clauses_told, operands_told}
use Rattle.df_ntstmt.proofs.SimpleTold.{semicolon, IsRight, var_told, assign_told, whole_told, give_back_told, break_told}
use Rattle.df_ntstmt.proofs.LoopsTold.{loop_at, measured, measured_told, loop_nodes, loop_types}
use Rattle.df_ntstmt.proofs.LoopsMade.{in_parts, loop_is}

-- ---- names that are used have types

have_types : (one whole : Environment) (names : List ℕ) → Walks one whole → Kept (used_names one names one.types) whole.types → HaveTypes whole names
have_types one whole names w kept name local c means = let (ty, p, q) = used_typed one whole names w kept name local c means in (ty, q)

abbrev pub AreRight : Environment → Statements → typed.Stmts → Type 0
AreRight env s stmts = IsReady env → env.next + locals_in_all s ≤ length env.types → AreStatements env s stmts

abbrev AreRightBranches : Environment → Branches → typed.Branches → Type 0
AreRightBranches env branches all = IsReady env → env.next + locals_in_branches branches ≤ length env.types → AreBranches env branches all

abbrev IsRightLast : Environment → Otherwise → typed.Stmts → Type 0
IsRightLast env last stmts = IsReady env → env.next + locals_in_otherwise last ≤ length env.types → IsOtherwise env last stmts

-- ---- statements

mutual
  pub statement_told : (one whole : Environment) (start : ℕ) (s : Statement) → Walks one whole → Kept (inferred_behind one s) whole.types → grammar.IsStatement s → AreInRange (spell_statement s) → whole.next + locals_in s ≤ length whole.types
      → NoNames (statement_nodes whole start s) → Judged (statement_nodes whole start s) (IsRight whole s) (statement_in whole s)
  statement_told one whole start (Nested pos body) w kept g r room n =
      judged_map (statements_nodes (enter whole) (suc start) body) (AreRight (enter whole) body) (IsRight whole (Nested pos body)) (statements_in (enter whole) body) (λ (inner : typed.Stmts). typed.Block pos inner)
      (statements_told (enter one) (enter whole) (suc start) body (enter_walks one whole w) kept g (inside_braces pos (spell_statements body) r) room n) (λ inner h ready there. (inner, h (enter_ready whole ready) there, refl))
  statement_told one whole start (Var pos locals values) w kept g r room n =
      var_told whole start pos locals values g.1 r
      (have_types one whole (flat_map names_in values) w (kept_then (kept_grown (used one values) (inferred_all one locals values (types_of_values one values))) kept)) n
  statement_told one whole start (Assign targets []) w kept g r room n = absurd (g.1.0 refl)
  statement_told one whole start (Assign targets (value ∷ values)) w kept g r room n =
      let names = flat_map used_inside targets ++ flat_map names_in (value ∷ values) in
      assign_told whole start targets value values g.0.0 g.0.1 g.1.1 r
      (have_types one whole names w (kept_then (takens_kept one targets (types_of_values one (value ∷ values)) (used_names one names one.types)) kept)) n
  statement_told one whole start (Expression e) w kept g r room n =
      whole_told whole start e g (all_left (spell e) semicolon r) (types_left whole (names_in e) [] (have_types one whole (flat_map names_in (e ∷ [])) w kept)) n
  statement_told one whole start (If pos guard opens body others last) w kept g r room n =
      let statement = If pos guard opens body others last in
      let opening = start + 1 + width guard in
      let inner = length (spell_statements body) in
      let behind_body = opening + 2 + inner in
      let at_last = behind_body + length (spell_branches others) in
      let count = locals_in_all body in
      let more = locals_in_branches others in
      let names = flat_map names_in (guard ∷ []) in
      let inside = over (enter one) (used one (guard ∷ [])) in
      let first = over (past one count) (inferred_behind_all inside body) in
      let second = over (past first more) (inferred_behind_branches first others) in
      let guard_nodes = condition_nodes whole (suc start) guard in
      let body_nodes = statements_nodes (enter whole) (suc opening) body in
      let others_nodes = branches_nodes (past whole count) behind_body others in
      let last_nodes = otherwise_nodes (past (past whole count) more) at_last last in
      let three = named_left (guard_nodes ++ body_nodes ++ others_nodes) last_nodes n in
      let two = named_left (guard_nodes ++ body_nodes) others_nodes three in
      let kept_second = kept_then (otherwise_kept second last) kept in
      let kept_first = kept_then (branches_kept first others) kept_second in
      let front = all_left (spell guard ++ braces opens (spell_statements body)) _ r in
      let back = all_right (spell guard ++ braces opens (spell_statements body)) _ r in
      let body_range = inside_braces opens (spell_statements body) (all_right (spell guard) _ front) in
      let at_inside = enter_walks (over one (used one (guard ∷ []))) whole (marks_walks one whole names w) in
      let body_order = statements_order (enter whole) (suc opening) body g.1 in
      let others_order = branches_order (past whole count) behind_body others g.2 in
      let last_order = otherwise_order (past (past whole count) more) at_last last g.3 in
      let behind_others = beyond_segment behind_body at_last at_last at_last (at_last + length (spell_otherwise last)) last_nodes last_order (omega arith) in
      let behind_the_body = beyond_both (suc opening) (suc opening + inner) others_nodes last_nodes
      (beyond_segment (suc opening) (suc opening + inner) behind_body behind_body at_last others_nodes others_order (omega arith))
      (beyond_segment (suc opening) (suc opening + inner) at_last at_last (at_last + length (spell_otherwise last)) last_nodes last_order (omega arith)) in
      let behind_guard = beyond_both (suc start) (suc start + width guard) body_nodes (others_nodes ++ last_nodes)
      (beyond_segment (suc start) (suc start + width guard) (suc opening) (suc opening) (suc opening + inner) body_nodes body_order (omega arith))
      (beyond_both (suc start) (suc start + width guard) others_nodes last_nodes
      (beyond_segment (suc start) (suc start + width guard) behind_body behind_body at_last others_nodes others_order (omega arith))
      (beyond_segment (suc start) (suc start + width guard) at_last at_last (at_last + length (spell_otherwise last)) last_nodes last_order (omega arith))) in
      judged_grouped (guard_nodes ++ body_nodes) others_nodes last_nodes (IsRight whole statement) (statement_in whole statement)
      (judged_grouped guard_nodes body_nodes (others_nodes ++ last_nodes) (IsRight whole statement) (statement_in whole statement)
      (judged_then (suc start) (suc start) (suc start + width guard) guard_nodes (body_nodes ++ (others_nodes ++ last_nodes)) (IsTyped whole wanteds.Truth guard) (IsRight whole statement) (typed_in whole wanteds.Truth guard)
      (λ (condition : Typed).
      and_then (statements_in (enter whole) body) (λ (stmts : typed.Stmts).
      and_then (branches_in (past whole count) others) (λ (rest : typed.Branches).
      and_then (otherwise_in (past (past whole count) more) last) (λ (final : typed.Stmts). Ok (typed.If (typed.branch pos condition.expr stmts rest) final)))))
      (condition_order whole (suc start) guard g.0) behind_guard
      (expr_told whole (suc start) wanteds.Truth guard g.0 (all_left (spell guard) _ front) (types_left whole (names_in guard) [] (have_types one whole names w (kept_then (all_behind_kept inside body) kept_first))) (named_left guard_nodes body_nodes two))
      (λ condition truth.
      judged_step (suc opening) (suc opening) (suc opening + inner) body_nodes (others_nodes ++ last_nodes) (AreRight (enter whole) body) (IsRight whole statement) (statements_in (enter whole) body)
      (λ (stmts : typed.Stmts).
      and_then (branches_in (past whole count) others) (λ (rest : typed.Branches).
      and_then (otherwise_in (past (past whole count) more) last) (λ (final : typed.Stmts). Ok (typed.If (typed.branch pos condition.expr stmts rest) final))))
      body_order behind_the_body (statements_told inside (enter whole) (suc opening) body at_inside kept_first g.1 body_range (omega arith) (named_right guard_nodes body_nodes two))
      (λ stmts quiet right.
      let at_body = statements_walked inside (enter whole) (suc opening) body at_inside kept_first g.1 (omega arith) (faultless_of body_nodes quiet.none) in
      let at_first = past_walks one whole count (inferred_behind_all inside body) w (omega (arith, all_behind_length inside body, used_length one (guard ∷ []))) at_body in
      judged_step behind_body behind_body at_last others_nodes last_nodes (AreRightBranches (past whole count) others) (IsRight whole statement) (branches_in (past whole count) others)
      (λ (rest : typed.Branches). and_then (otherwise_in (past (past whole count) more) last) (λ (final : typed.Stmts). Ok (typed.If (typed.branch pos condition.expr stmts rest) final)))
      others_order behind_others (branches_told first (past whole count) behind_body others at_first kept_second g.2 (all_left (spell_branches others) _ back) (omega arith) (named_right (guard_nodes ++ body_nodes) others_nodes three))
      (λ rest silent rights.
      let at_others = branches_walked first (past whole count) behind_body others at_first kept_second g.2 (omega arith) (faultless_of others_nodes silent.none) in
      let at_second = past_walks first (past whole count) more (inferred_behind_branches first others) at_first (branches_behind_length first others) at_others in
      judged_map last_nodes (IsRightLast (past (past whole count) more) last) (IsRight whole statement) (otherwise_in (past (past whole count) more) last) (λ (final : typed.Stmts). typed.If (typed.branch pos condition.expr stmts rest) final)
      (otherwise_told second (past (past whole count) more) at_last last at_second kept g.3 (all_right (spell_branches others) _ back) (omega arith) (named_right (guard_nodes ++ body_nodes ++ others_nodes) last_nodes n))
      (λ final finals ready there. (
        condition.expr,
        stmts,
        rest,
        final,
        truth.0,
        right (enter_ready whole ready) (omega arith),
        rights (past_ready whole count (omega arith) ready) (omega arith),
        finals (past_ready (past whole count) more (omega arith) (past_ready whole count (omega arith) ready)) (omega arith),
        refl,
      )))))))
  statement_told one whole start (While pos guard clauses opens body) w kept g r room n =
      let statement = While pos guard clauses opens body in
      let at_clauses = start + 1 + width guard in
      let opening = at_clauses + clause_widths clauses in
      let inner = length (spell_statements body) in
      let after = start + length (spell_statement statement) in
      let size = while_width pos opens guard clauses body in
      let names = names_in guard ++ flat_map used_in_clause clauses in
      let loop_env = inside_loop (enter whole) in
      let guard_nodes = condition_nodes whole (suc start) guard in
      let the_clauses = clauses_nodes whole OfLoop at_clauses clauses in
      let body_nodes = statements_nodes loop_env (suc opening) body in
      let whole_loop = loop_at whole start pos guard clauses opens body in
      let three = named_left (guard_nodes ++ the_clauses ++ body_nodes) (whole_loop ∷ []) n in
      let two = named_left (guard_nodes ++ the_clauses) body_nodes three in
      let guard_range = all_left (spell guard) _ r in
      let rest_range = all_right (spell guard) _ r in
      let clauses_range = each_part spell_clause clauses (all_left (flat_map spell_clause clauses) _ rest_range) in
      let body_range = inside_braces opens (spell_statements body) (all_right (flat_map spell_clause clauses) _ rest_range) in
      let types = have_types one whole names w (kept_then (all_behind_kept (over (enter one) (used_names one names one.types)) body) kept) in
      let body_order = statements_order loop_env (suc opening) body g.2 in
      let clauses_are = clauses_order whole OfLoop at_clauses clauses g.1 in
      let same = loop_nodes whole at_clauses clauses in
      let behind_body = beyond_one (suc opening) (suc opening + inner) whole_loop (inl (omega (arith, size))) in
      let behind_clauses = beyond_both at_clauses opening body_nodes (whole_loop ∷ []) (beyond_segment at_clauses opening (suc opening) (suc opening) (suc opening + inner) body_nodes body_order (omega arith)) (beyond_one at_clauses opening whole_loop (inl (omega (arith, size)))) in
      let behind_guard = beyond_both (suc start) (suc start + width guard) the_clauses (body_nodes ++ whole_loop ∷ [])
      (beyond_segment (suc start) (suc start + width guard) at_clauses at_clauses opening the_clauses clauses_are (omega arith))
      (beyond_both (suc start) (suc start + width guard) body_nodes (whole_loop ∷ [])
      (beyond_segment (suc start) (suc start + width guard) (suc opening) (suc opening) (suc opening + inner) body_nodes body_order (omega arith))
      (beyond_one (suc start) (suc start + width guard) whole_loop (inl (omega (arith, size))))) in
      let parts = in_parts whole pos guard clauses opens body in
      subst (λ (reply : Reply typed.Stmt). Judged (statement_nodes whole start statement) (IsRight whole statement) reply) (loop_is whole pos guard clauses opens body)
      (judged_grouped (guard_nodes ++ the_clauses) body_nodes (whole_loop ∷ []) (IsRight whole statement) parts
      (judged_grouped guard_nodes the_clauses (body_nodes ++ whole_loop ∷ []) (IsRight whole statement) parts
      (judged_then (suc start) (suc start) (suc start + width guard) guard_nodes (the_clauses ++ (body_nodes ++ whole_loop ∷ [])) (IsTyped whole wanteds.Truth guard) (IsRight whole statement) (typed_in whole wanteds.Truth guard)
      (λ (condition : Typed).
      and_then (clauses_in whole whole OfLoop clauses) (λ (all : Clauses).
      and_then (statements_in loop_env body) (λ (stmts : typed.Stmts).
      and_then (measured whole pos guard clauses) (λ (held : Unit {0}). Ok (typed.While pos condition.expr all.invariants all.decreases stmts)))))
      (condition_order whole (suc start) guard g.0) behind_guard
      (expr_told whole (suc start) wanteds.Truth guard g.0 guard_range (types_left whole (names_in guard) (flat_map used_in_clause clauses) types) (named_left guard_nodes the_clauses two))
      (λ condition truth.
      judged_then at_clauses at_clauses opening the_clauses (body_nodes ++ whole_loop ∷ []) (AreSaid whole whole OfLoop clauses) (IsRight whole statement) (clauses_in whole whole OfLoop clauses)
      (λ (all : Clauses).
      and_then (statements_in loop_env body) (λ (stmts : typed.Stmts).
      and_then (measured whole pos guard clauses) (λ (held : Unit {0}). Ok (typed.While pos condition.expr all.invariants all.decreases stmts))))
      clauses_are behind_clauses
      (subst (λ (xs : List Occurrence). Judged xs (AreSaid whole whole OfLoop clauses) (clauses_in whole whole OfLoop clauses)) same
      (clauses_told whole whole OfLoop at_clauses clauses g.1 clauses_range (loop_types whole clauses (types_right whole (names_in guard) (flat_map used_in_clause clauses) types)) (subst NoNames (sym same) (named_right guard_nodes the_clauses two))))
      (λ all said.
      judged_then (suc opening) (suc opening) (suc opening + inner) body_nodes (whole_loop ∷ []) (AreRight loop_env body) (IsRight whole statement) (statements_in loop_env body)
      (λ (stmts : typed.Stmts). and_then (measured whole pos guard clauses) (λ (held : Unit {0}). Ok (typed.While pos condition.expr all.invariants all.decreases stmts)))
      body_order behind_body
      (statements_told (over (enter one) (used_names one names one.types)) loop_env (suc opening) body
      (loop_walks (over (enter one) (used_names one names one.types)) (enter whole) (enter_walks (over one (used_names one names one.types)) whole (marks_walks one whole names w))) kept g.2 body_range room (named_right (guard_nodes ++ the_clauses) body_nodes three))
      (λ stmts right.
      measured_told (IsRight whole statement) (typed.While pos condition.expr all.invariants all.decreases stmts) whole start pos guard clauses opens body (named_right (guard_nodes ++ the_clauses ++ body_nodes) (whole_loop ∷ []) n)
      (λ has ready there. (condition.expr, all.invariants, all.decreases, stmts, truth.0, said.belong, said.invariants, said.decreases, has, right (loop_ready (enter whole) (enter_ready whole ready)) there, refl))))))))
  statement_told one whole start (Return pos values) w kept g r room n = give_back_told whole start pos values g r (have_types one whole (flat_map names_in values) w kept) n
  statement_told one whole start (Break pos) w kept g r room n = break_told whole start pos n
  statement_told one whole start (Assert pos condition) w kept g r room n =
      judged_map (condition_nodes whole (suc start) condition) (IsTyped whole wanteds.Truth condition) (IsRight whole (Assert pos condition)) (typed_in whole wanteds.Truth condition) (λ (t : Typed). typed.Assert pos t.expr)
      (expr_told whole (suc start) wanteds.Truth condition g (all_left (spell condition) semicolon r) (types_left whole (names_in condition) [] (have_types one whole (flat_map names_in (condition ∷ [])) w kept)) n)
      (λ t h ready there. (t.expr, h.0, refl))
  statement_told one whole start (Print pos operands) w kept g r room n =
      judged_map (operand_nodes whole (suc start) operands) (AreOperands whole operands) (IsRight whole (Print pos operands)) (operands_in whole operands) (λ (all : List typed.Operand). typed.Print pos all)
      (operands_told whole (suc start) operands g.1 (separated_parts spell_operand operands (all_left (separated spell_operand operands) semicolon r)) (have_types one whole (flat_map used_in_operand operands) w kept) n)
      (λ all h ready there. (all, h, refl))

  pub statements_told : (one whole : Environment) (start : ℕ) (s : Statements) → Walks one whole → Kept (inferred_behind_all one s) whole.types → grammar.AreStatements s → AreInRange (spell_statements s) → whole.next + locals_in_all s ≤ length whole.types
      → NoNames (statements_nodes whole start s) → Judged (statements_nodes whole start s) (AreRight whole s) (statements_in whole s)
  statements_told one whole start done w kept g r room n = judged_none (AreRight whole done) typed.done (λ ready there. refl)
  statements_told one whole start (next statement others) w kept g r room n =
      let behind_one = over (behind one statement) (inferred_behind one statement) in
      let same = same_behind whole statement in
      let number = next_behind whole statement in
      let here = statement_nodes whole start statement in
      let later_start = start + length (spell_statement statement) in
      let behind_here = statements_nodes (behind whole statement) later_start others in
      let kept_here = kept_then (all_behind_kept behind_one others) kept in
      judged_step start start later_start here behind_here (IsRight whole statement) (AreRight whole (next statement others)) (statement_in whole statement)
      (λ (one_stmt : typed.Stmt). and_then (statements_in (behind whole statement) others) (λ (rest : typed.Stmts). Ok (typed.next one_stmt rest)))
      (statement_order whole start statement g.0)
      (beyond_segment start later_start later_start later_start (later_start + length (spell_statements others)) behind_here (statements_order (behind whole statement) later_start others g.1) (omega arith))
      (statement_told one whole start statement w kept_here g.0 (all_left (spell_statement statement) _ r) (omega arith) (named_left here behind_here n))
      (λ one_stmt quiet right.
      let at_first = statement_walked one whole start statement w kept_here g.0 (omega arith) (faultless_of here quiet.none) in
      judged_map behind_here (AreRight (behind whole statement) others) (AreRight whole (next statement others)) (statements_in (behind whole statement) others) (λ (rest : typed.Stmts). typed.next one_stmt rest)
      (statements_told behind_one (behind whole statement) later_start others (behind_walks one whole statement w at_first)
      (subst (λ (types : List Inferred). Kept (inferred_behind_all behind_one others) types) (sym same.types) kept) g.1 (all_right (spell_statement statement) _ r) (rw (same.types) (omega (arith, number))) (named_right here behind_here n))
      (λ rest rights ready there. (one_stmt, rest, right ready (omega arith), rights (behind_ready whole statement (omega arith) ready) (rw (same.types) (omega (arith, number))), refl)))

  branches_told : (one whole : Environment) (start : ℕ) (branches : Branches) → Walks one whole → Kept (inferred_behind_branches one branches) whole.types → grammar.AreBranches branches → AreInRange (spell_branches branches) → whole.next + locals_in_branches branches ≤ length whole.types
      → NoNames (branches_nodes whole start branches) → Judged (branches_nodes whole start branches) (AreRightBranches whole branches) (branches_in whole branches)
  branches_told one whole start file.end w kept g r room n = judged_none (AreRightBranches whole file.end) typed.no_branch (λ ready there. refl)
  branches_told one whole start (file.more pos guard opens body others) w kept g r room n =
      let branches = file.more pos guard opens body others in
      let opening = start + 2 + width guard in
      let inner = length (spell_statements body) in
      let behind_body = opening + 2 + inner in
      let count = locals_in_all body in
      let names = flat_map names_in (guard ∷ []) in
      let inside = over (enter one) (used one (guard ∷ [])) in
      let first = over (past one count) (inferred_behind_all inside body) in
      let guard_nodes = condition_nodes whole (start + 2) guard in
      let body_nodes = statements_nodes (enter whole) (suc opening) body in
      let others_nodes = branches_nodes (past whole count) behind_body others in
      let two = named_left (guard_nodes ++ body_nodes) others_nodes n in
      let kept_first = kept_then (branches_kept first others) kept in
      let front = all_left (spell guard ++ braces opens (spell_statements body)) (spell_branches others) r in
      let back = all_right (spell guard ++ braces opens (spell_statements body)) (spell_branches others) r in
      let body_range = inside_braces opens (spell_statements body) (all_right (spell guard) _ front) in
      let at_inside = enter_walks (over one (used one (guard ∷ []))) whole (marks_walks one whole names w) in
      let body_order = statements_order (enter whole) (suc opening) body g.0.1 in
      let others_order = branches_order (past whole count) behind_body others g.1 in
      let finish = behind_body + length (spell_branches others) in
      judged_grouped guard_nodes body_nodes others_nodes (AreRightBranches whole branches) (branches_in whole branches)
      (judged_then (start + 2) (start + 2) (start + 2 + width guard) guard_nodes (body_nodes ++ others_nodes) (IsTyped whole wanteds.Truth guard) (AreRightBranches whole branches) (typed_in whole wanteds.Truth guard)
      (λ (condition : Typed).
      and_then (statements_in (enter whole) body) (λ (stmts : typed.Stmts).
      and_then (branches_in (past whole count) others) (λ (rest : typed.Branches). Ok (typed.branch pos condition.expr stmts rest))))
      (condition_order whole (start + 2) guard g.0.0)
      (beyond_both (start + 2) (start + 2 + width guard) body_nodes others_nodes
      (beyond_segment (start + 2) (start + 2 + width guard) (suc opening) (suc opening) (suc opening + inner) body_nodes body_order (omega arith))
      (beyond_segment (start + 2) (start + 2 + width guard) behind_body behind_body finish others_nodes others_order (omega arith)))
      (expr_told whole (start + 2) wanteds.Truth guard g.0.0 (all_left (spell guard) _ front) (types_left whole (names_in guard) [] (have_types one whole names w (kept_then (all_behind_kept inside body) kept_first))) (named_left guard_nodes body_nodes two))
      (λ condition truth.
      judged_step (suc opening) (suc opening) (suc opening + inner) body_nodes others_nodes (AreRight (enter whole) body) (AreRightBranches whole branches) (statements_in (enter whole) body)
      (λ (stmts : typed.Stmts). and_then (branches_in (past whole count) others) (λ (rest : typed.Branches). Ok (typed.branch pos condition.expr stmts rest)))
      body_order (beyond_segment (suc opening) (suc opening + inner) behind_body behind_body finish others_nodes others_order (omega arith))
      (statements_told inside (enter whole) (suc opening) body at_inside kept_first g.0.1 body_range (omega arith) (named_right guard_nodes body_nodes two))
      (λ stmts quiet right.
      let at_body = statements_walked inside (enter whole) (suc opening) body at_inside kept_first g.0.1 (omega arith) (faultless_of body_nodes quiet.none) in
      let at_first = past_walks one whole count (inferred_behind_all inside body) w (omega (arith, all_behind_length inside body, used_length one (guard ∷ []))) at_body in
      judged_map others_nodes (AreRightBranches (past whole count) others) (AreRightBranches whole branches) (branches_in (past whole count) others) (λ (rest : typed.Branches). typed.branch pos condition.expr stmts rest)
      (branches_told first (past whole count) behind_body others at_first kept g.1 back (omega arith) (named_right (guard_nodes ++ body_nodes) others_nodes n))
      (λ rest rights ready there. (condition.expr, stmts, rest, truth.0, right (enter_ready whole ready) (omega arith), rights (past_ready whole count (omega arith) ready) (omega arith), refl)))))

  otherwise_told : (one whole : Environment) (start : ℕ) (last : Otherwise) → Walks one whole → Kept (inferred_behind_otherwise one last) whole.types → grammar.IsOtherwise last → AreInRange (spell_otherwise last) → whole.next + locals_in_otherwise last ≤ length whole.types
      → NoNames (otherwise_nodes whole start last) → Judged (otherwise_nodes whole start last) (IsRightLast whole last) (otherwise_in whole last)
  otherwise_told one whole start without w kept g r room n = judged_none (IsRightLast whole without) typed.done (λ ready there. refl)
  otherwise_told one whole start (otherwise opens body) w kept g r room n =
      judged_as (statements_nodes (enter whole) (start + 2) body) (AreRight (enter whole) body) (IsRightLast whole (otherwise opens body)) (statements_in (enter whole) body)
      (statements_told (enter one) (enter whole) (start + 2) body (enter_walks one whole w) kept g (inside_braces opens (spell_statements body) r) room n) (λ stmts h ready there. h (enter_ready whole ready) there)
