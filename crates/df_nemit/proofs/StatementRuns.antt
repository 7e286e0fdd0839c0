-- The machine follows statements.
use Rattle.std.proofs.Common.{◌≡◌, ℕ, ◌+◌, ◌<◌, ◌==◌, Bool, true, false, cond, List, [], ◌∷◌, ◌++◌, length, map, replicate, Some, None, refl, sym, ap, ◌∙◌, subst, arith, length-append}
use Rattle.std.specs.Prelude.{slice_get}
use Rattle.std.specs.List.{list_all}
use Rattle.std.proofs.lemmas.List.{length-replicate}
use Rattle.df_meaning.specs.Value.{Value}
use Rattle.df_meaning.specs.Value as values
use Rattle.df_nplain.specs.Expr.{Expr}
use Rattle.df_nplain.specs.Stmt.{Variable, Stmt, Block, Var, Assign, CallOf, If, While, Break, Return, Print, Stmts, done, next, Branches, no_branch, branch}
use Rattle.df_nplain.specs.Plain as plain
use Rattle.df_nplain.specs.Bounded.{is_bounded, is_bounded_variable, is_bounded_update, is_bounded_stmt, are_bounded_stmts, are_bounded_branches}
use Rattle.df_nplain.specs.Plain.{results_at}
use Rattle.df_nplain.specs.Counts.{is_stmt, are_stmts, are_branches}
use Rattle.df_nplain.specs.Short.{is_short_stmt, are_short_stmts, are_short_branches}
use Rattle.df_nplain.specs.Outcome.{Outcome, Wrong, TooDeep, Stuck, after}
use Rattle.df_nplain.specs.Outcome as outcomes
use Rattle.df_nplain.specs.State.{State, without_local}
use Rattle.df_nplain.specs.Meaning.{Meaning, Flow, Loop}
use Rattle.df_nplain.specs.Meaning as flows
use Rattle.df_nplain.specs.Evaluation.{truth_in, evaluate}
use Rattle.df_nplain.specs.Execution.{Values, declare_all, execute_call, execute_update, execute_optional, execute, execute_all, execute_branches, print_all}
use Rattle.df_nmach.specs.declared.instruction.Instruction.{Instruction}
use Rattle.df_nmach.specs.declared.instruction.Instruction.TheVariants as i
use Rattle.df_nmach.specs.Value as mach
use Rattle.df_nmach.specs.Step.{Goes, demand}
use Rattle.df_nemit.specs.Code.{Behind, Ending, To, Exits, with_behind, ending_at, fixed, expr_code, call_code, update_code, optional_code, operands_code, stmt_marks, stmts_marks, branches_marks}
use Rattle.df_nemit.proofs.Fills.{instructions_of, fixed_long, ending_long, ending_filled}
use Rattle.df_nemit.proofs.Reach.{HasAt, has_front, has_back, has_moved, HasMarks, marks_front, marks_back, marks_fixed, World, instructions, point, frame, Leads, leads_none, Still, still_one, Simple, Carries, still_carries, carries_on}
use Rattle.df_nemit.proofs.OperatorRuns.{below}
use Rattle.df_nemit.proofs.ExpressionRuns.{both, three, expr_runs}
use Rattle.df_nemit.proofs.Places.{pushed}
use Rattle.df_nemit.proofs.Lifts.{Comes, comes_after, Brings, Flows, flows_to, flows_then, flows_on, Takes, flows_value, takes_after, Calls}
use Rattle.df_nemit.proofs.UpdateRuns.{Of, call_runs, update_runs, optional_runs, dropped_runs}
use Rattle.df_nemit.proofs.PrintRuns.{operands_run}

-- the exits lie in the method
pub record Inside (w : World) (x : Exits) : Type 0 where
  pub outside : x.outside < length (instructions w)
  pub ending : x.ending < length (instructions w)

-- what a loop's turns come to, the machine does from its guard on
pub record Turns (program : plain.Plain) (m : Meaning) : Type 0 where
  pub by : (w : World) → Of program w → (guard : Expr) (body : Stmts) → is_bounded guard ≡ true → are_bounded_stmts body ≡ true → are_stmts program body ≡ true → are_short_stmts body ≡ true → (s : State) → Simple s → (p : ℕ) (x : Exits) → Inside w x
      → HasMarks (instructions w) p x (stmt_marks program w.scratch p (While guard body)) → p + length (stmt_marks program w.scratch p (While guard body)) < length (instructions w)
      → Flows w p s x (p + length (stmt_marks program w.scratch p (While guard body))) (m.turns (record { guard = guard; body = body }) s)

-- ---- jumps

pub jumps : (w : World) (p to : ℕ) (o : List mach.Value) → slice_get (instructions w) p ≡ Some (i.Jump to) → to < length (instructions w) → Still w p o to o
jumps w p to o h there = still_one w p to o o (i.Jump to) h (λ l. ap (λ (b : Bool). demand b (Goes w.heap (frame w to l o) [])) (below to (length (instructions w)) there))

pub goes_in : (w : World) (p to : ℕ) → slice_get (instructions w) p ≡ Some (i.Unless to) → to < length (instructions w) → Still w p (mach.Truth true ∷ []) (p + 1) []
goes_in w p to h there = still_one w p (p + 1) (mach.Truth true ∷ []) [] (i.Unless to) h (λ l. ap (λ (b : Bool). demand b (Goes w.heap (frame w (p + 1) l []) [])) (below to (length (instructions w)) there))

pub goes_by : (w : World) (p to : ℕ) → slice_get (instructions w) p ≡ Some (i.Unless to) → to < length (instructions w) → Still w p (mach.Truth false ∷ []) to []
goes_by w p to h there = still_one w p to (mach.Truth false ∷ []) [] (i.Unless to) h (λ l. ap (λ (b : Bool). demand b (Goes w.heap (frame w to l []) [])) (below to (length (instructions w)) there))

-- where a statement goes on, it goes on further
pub flows_further : (w : World) (p n k : ℕ) (s : State) (x : Exits) (r : Outcome Flow) → Still w n [] k [] → Flows w p s x n r → Flows w p s x k r
flows_further w p n k s x (outcomes.Gives (flows.Next t)) still a = (a.0, carries_on w p n k s t t [] [] [] a.1 (still_carries w n t [] k [] still))
flows_further w p n k s x (outcomes.Gives (flows.Return t)) still a = a
flows_further w p n k s x (outcomes.Gives (flows.Break t)) still a = a
flows_further w p n k s x (Wrong fault) still a = tt
flows_further w p n k s x TooDeep still a = tt
flows_further w p n k s x Stuck still a = tt

-- by a guard
pub guard_takes : (w : World) (q to n : ℕ) (s : State) (x : Exits) (taken passed : Outcome Flow) → slice_get (instructions w) q ≡ Some (i.Unless to) → to < length (instructions w)
    → Flows w (q + 1) s x n taken → Flows w to s x n passed → (v : Value) → Takes w q s v x n (after (truth_in v) (λ b. cond b taken passed))
guard_takes w q to n s x taken passed h there a b (values.Truth true) = takes_after w q (q + 1) n s (values.Truth true) x taken (still_carries w q s (mach.Truth true ∷ []) (q + 1) [] (goes_in w q to h there)) a
guard_takes w q to n s x taken passed h there a b (values.Truth false) = takes_after w q to n s (values.Truth false) x passed (still_carries w q s (mach.Truth false ∷ []) to [] (goes_by w q to h there)) b
guard_takes w q to n s x taken passed h there a b v = tt

-- a return leads to where the results are returned
returns_flow : (w : World) (p q n : ℕ) (s : State) (x : Exits) (r : Outcome State) → Comes w p s [] q [] r → Still w q [] x.ending [] → Flows w p s x n (after r (λ t. outcomes.Gives (flows.Return t)))
returns_flow w p q n s x (outcomes.Gives t) a still = (a.0, carries_on w p q x.ending s t t [] [] [] a.1 (still_carries w q t [] x.ending [] still))
returns_flow w p q n s x (Wrong fault) a still = tt
returns_flow w p q n s x TooDeep a still = tt
returns_flow w p q n s x Stuck a still = tt

-- the results of a call are dropped
drops_flow : (w : World) (p q count : ℕ) (s : State) (x : Exits) (r : Outcome Values) → Brings w p s [] q count r → HasAt (instructions w) q (replicate count i.Drop) → Flows w p s x (q + count) (after r (λ given. outcomes.Gives (flows.Next given.state)))
drops_flow w p q count s x (outcomes.Gives g) a has = (a.2, carries_on w p q (q + count) s g.state g.state [] (pushed g.values []) [] a.3 (dropped_runs w q count g [] a.1 has))
drops_flow w p q count s x (Wrong fault) a has = tt
drops_flow w p q count s x TooDeep a has = tt
drops_flow w p q count s x Stuck a has = tt

replicate_long : (n : ℕ) → length (replicate n i.Drop) ≡ n
replicate_long n = length-replicate n i.Drop

abbrev Reached : World → ℕ → List mach.Value → List ℕ → List ℕ → Type 0
Reached w p l t t' = Leads w (point p l [] t) (point p l [] t')

abbrev Moved : World → ℕ → ℕ → List mach.Value → List ℕ → Type 0
Moved w p n l t = Leads w (point p l [] t) (point n l [] t)

-- ---- declared locals

none_some : {A : Type 0} (x : A) → None ≡ Some x → ⊥
none_some x e = cc

less : (s : State) (n k : ℕ) (v : Value) → (without_local s n).locals k ≡ Some v → s.locals k ≡ Some v
less s n k v e = by_cases (k == n) refl
  where
    by_cases : (b : Bool) → (k == n) ≡ b → s.locals k ≡ Some v
    by_cases true is = absurd (none_some v (sym (ap (λ (b : Bool). cond b None (s.locals k)) is) ∙ e))
    by_cases false is = sym (ap (λ (b : Bool). cond b None (s.locals k)) is) ∙ e

declared_less : (variables : List Variable) (s : State) (k : ℕ) (v : Value) → (declare_all s variables).locals k ≡ Some v → s.locals k ≡ Some v
declared_less [] s k v e = e
declared_less (variable ∷ variables) s k v e = less s variable.local k v (declared_less variables (without_local s variable.local) k v e)

declared_text : (variables : List Variable) (s : State) → (declare_all s variables).text ≡ s.text
declared_text [] s = refl
declared_text (variable ∷ variables) s = declared_text variables (without_local s variable.local)

declared_simple : (variables : List Variable) (s : State) → Simple s → Simple (declare_all s variables)
declared_simple variables s simple = record { each = λ n v e. simple.each n v (declared_less variables s n v e) }

declared_carries : (w : World) (variables : List Variable) (s : State) (p : ℕ) → Carries w p s [] p (declare_all s variables) []
declared_carries w variables s p = record {
  by = λ l c. record {
    locals = l;
    covers = record { each = λ n v e. c.each n v (declared_less variables s n v e); long = c.long };
    leads = subst (λ (t : List ℕ). Reached w p l s.text t) (sym (declared_text variables s)) (leads_none w (point p l [] s.text));
  };
}

-- ---- statements

fixed_flow : (w : World) (p : ℕ) (s : State) (x : Exits) (code : List Instruction) (r : Outcome Flow) → Flows w p s x (p + length code) r → Flows w p s x (p + length (fixed code)) r
fixed_flow w p s x code r a = flows_to w p (p + length code) (p + length (fixed code)) s x r (ap (λ (n : ℕ). p + n) (sym (fixed_long code))) a

fixed_room : (w : World) (p : ℕ) (code : List Instruction) → p + length (fixed code) < length (instructions w) → p + length code < length (instructions w)
fixed_room w p code room = omega (arith, room, fixed_long code)

mutual
  pub stmt_runs : (program : plain.Plain) (w : World) → Of program w → (m : Meaning) → Calls program m → Turns program m → (stmt : Stmt) → is_bounded_stmt stmt ≡ true → is_stmt program stmt ≡ true → is_short_stmt stmt ≡ true → (s : State) → Simple s → (p : ℕ) (x : Exits) → Inside w x
      → HasMarks (instructions w) p x (stmt_marks program w.scratch p stmt) → p + length (stmt_marks program w.scratch p stmt) < length (instructions w)
      → Flows w p s x (p + length (stmt_marks program w.scratch p stmt)) (execute m s stmt)
  stmt_runs program w of m calls turns (Block body) bounded counted short s simple p x inside has room = stmts_run program w of m calls turns body bounded counted short s simple p x inside has room
  stmt_runs program w of m calls turns (Var variables update) bounded counted short s simple p x inside has room =
      let k = both (list_all is_bounded_variable variables) (is_bounded_update update) bounded in
      let code = optional_code w.scratch p update in
      let t = declare_all s variables in
      fixed_flow w p s x code (execute m s (Var variables update))
      (flows_on w p (p + length code) s x (execute_optional m t update)
      (comes_after w p p (p + length code) s t [] [] [] (execute_optional m t update) (declared_carries w variables s p)
      (optional_runs program w of m calls update k.1 counted t (declared_simple variables s simple) p [] (marks_fixed (instructions w) p x code has) (fixed_room w p code room))))
  stmt_runs program w of m calls turns (Assign update) bounded counted short s simple p x inside has room =
      let code = update_code w.scratch p update in
      fixed_flow w p s x code (execute m s (Assign update))
      (flows_on w p (p + length code) s x (execute_update m s update) (update_runs program w of m calls update bounded counted s simple p [] (marks_fixed (instructions w) p x code has) (fixed_room w p code room)))
  stmt_runs program w of m calls turns (CallOf call) bounded counted short s simple p x inside has room =
      let count = results_at program call.callee in
      let front = call_code w.scratch p call in
      let drops = replicate count i.Drop in
      let code = front ++ drops in
      let q = p + length front in
      let at_code = marks_fixed (instructions w) p x code has in
      let inner = fixed_room w p code room in
      let ends : q + count ≡ p + length code = omega (arith, length-append front drops, replicate_long count) in
      fixed_flow w p s x code (execute m s (CallOf call))
      (flows_to w p (q + count) (p + length code) s x (execute m s (CallOf call)) ends
      (drops_flow w p q count s x (execute_call m s call) (call_runs program w of m calls s simple call bounded counted p [] (has_front (instructions w) p front drops at_code) (omega (arith, inner, ends))) (has_back (instructions w) p front drops at_code)))
  stmt_runs program w of m calls turns (If branches otherwise) bounded counted short s simple p x inside has room =
      let k = both (are_bounded_branches branches) (are_bounded_stmts otherwise) bounded in
      let c = both (are_branches program branches) (are_stmts program otherwise) counted in
      let h = both (are_short_branches branches) (are_short_stmts otherwise) short in
      let choices = branches_marks program w.scratch p branches in
      let q = p + length choices in
      let others = stmts_marks program w.scratch q otherwise in
      let t = q + length others in
      let y = with_behind t x in
      let size : p + length (map (ending_at t) (choices ++ others)) ≡ t = omega (arith, ending_long t (choices ++ others), length-append choices others) in
      let there : t < length (instructions w) = omega (arith, size, room) in
      let has' = subst (λ (l : List Instruction). HasAt (instructions w) p l) (sym (ending_filled t x (choices ++ others))) has in
      let last = stmts_run program w of m calls turns otherwise k.1 c.1 h.1 s simple q y (record { outside = inside.outside; ending = inside.ending }) (marks_back (instructions w) p y choices others has') there in
      flows_to w p t (p + length (map (ending_at t) (choices ++ others))) s x (execute m s (If branches otherwise)) (sym size)
      (branches_run program w of m calls turns branches k.0 c.0 h.0 s simple p q y (record { outside = inside.outside; ending = inside.ending }) there (marks_front (instructions w) p y choices others has') refl (omega (arith, there)) (execute_all m s otherwise) last)
  stmt_runs program w of m calls turns (While guard body) bounded counted short s simple p x inside has room =
      let k = both (is_bounded guard) (are_bounded_stmts body) bounded in
      turns.by w of guard body k.0 k.1 counted short s simple p x inside has room
  stmt_runs program w of m calls turns Break bounded counted short s simple p x inside has room = (simple, still_carries w p s [] x.outside [] (jumps w p x.outside [] has.0 inside.outside))
  stmt_runs program w of m calls turns (Return update) bounded counted short s simple p x inside has room =
      let code = optional_code w.scratch p update in
      let q = p + length code in
      let ends : p + length (fixed code ++ To Ending ∷ []) ≡ q + 1 = omega (arith, length-append (fixed code) (To Ending ∷ []), fixed_long code) in
      let behind = marks_back (instructions w) p x (fixed code) (To Ending ∷ []) has in
      let at_jump = has_moved (instructions w) (p + length (fixed code)) q (i.Jump x.ending ∷ []) (ap (λ (n : ℕ). p + n) (fixed_long code)) behind in
      returns_flow w p q (p + length (fixed code ++ To Ending ∷ [])) s x (execute_optional m s update)
      (optional_runs program w of m calls update bounded counted s simple p [] (marks_fixed (instructions w) p x code (marks_front (instructions w) p x (fixed code) (To Ending ∷ []) has)) (omega (arith, ends, room)))
      (jumps w q x.ending [] at_jump.0 inside.ending)
  stmt_runs program w of m calls turns (Print operands) bounded counted short s simple p x inside has room =
      let code = operands_code w.scratch p operands in
      fixed_flow w p s x code (execute m s (Print operands))
      (flows_on w p (p + length code) s x (print_all m s operands) (operands_run w m operands bounded short s simple p (marks_fixed (instructions w) p x code has) (fixed_room w p code room)))

  pub stmts_run : (program : plain.Plain) (w : World) → Of program w → (m : Meaning) → Calls program m → Turns program m → (stmts : Stmts) → are_bounded_stmts stmts ≡ true → are_stmts program stmts ≡ true → are_short_stmts stmts ≡ true → (s : State) → Simple s → (p : ℕ) (x : Exits) → Inside w x
      → HasMarks (instructions w) p x (stmts_marks program w.scratch p stmts) → p + length (stmts_marks program w.scratch p stmts) < length (instructions w)
      → Flows w p s x (p + length (stmts_marks program w.scratch p stmts)) (execute_all m s stmts)
  stmts_run program w of m calls turns done bounded counted short s simple p x inside has room = (simple, record { by = λ l c. record { locals = l; covers = c; leads = subst (λ (n : ℕ). Moved w p n l s.text) (let e : p ≡ p + 0 = omega arith in e) (leads_none w (point p l [] s.text)) } })
  stmts_run program w of m calls turns (next stmt others) bounded counted short s simple p x inside has room =
      let k = both (is_bounded_stmt stmt) (are_bounded_stmts others) bounded in
      let c = both (is_stmt program stmt) (are_stmts program others) counted in
      let h = both (is_short_stmt stmt) (are_short_stmts others) short in
      let head = stmt_marks program w.scratch p stmt in
      let q = p + length head in
      let rest = stmts_marks program w.scratch q others in
      let ends : q + length rest ≡ p + length (head ++ rest) = omega (arith, length-append head rest) in
      flows_to w p (q + length rest) (p + length (head ++ rest)) s x (execute_all m s (next stmt others)) ends
      (flows_then w p q (q + length rest) s x (execute m s stmt) (λ t. execute_all m t others)
      (stmt_runs program w of m calls turns stmt k.0 c.0 h.0 s simple p x inside (marks_front (instructions w) p x head rest has) (omega (arith, ends, room)))
      (λ t st. stmts_run program w of m calls turns others k.1 c.1 h.1 t st q x inside (marks_back (instructions w) p x head rest has) (omega (arith, ends, room))))

  -- the branches of a choice that ends behind it, the last statements of which begin at the place
  branches_run : (program : plain.Plain) (w : World) → Of program w → (m : Meaning) → Calls program m → Turns program m → (branches : Branches) → are_bounded_branches branches ≡ true → are_branches program branches ≡ true → are_short_branches branches ≡ true → (s : State) → Simple s → (p q : ℕ) (x : Exits) → Inside w x
      → x.behind < length (instructions w) → HasMarks (instructions w) p x (branches_marks program w.scratch p branches) → p + length (branches_marks program w.scratch p branches) ≡ q → q < length (instructions w)
      → (otherwise : Outcome Flow) → Flows w q s x x.behind otherwise → Flows w p s x x.behind (execute_branches m s branches otherwise)
  branches_run program w of m calls turns no_branch bounded counted short s simple p q x inside there has ends room otherwise last =
      let e : q ≡ p = omega (arith, ends) in subst (λ (n : ℕ). Flows w n s x x.behind otherwise) e last
  branches_run program w of m calls turns (branch guard body rest) bounded counted short s simple p q x inside there has ends room otherwise last =
      let k = three (is_bounded guard) (are_bounded_stmts body) (are_bounded_branches rest) bounded in
      let c = both (are_stmts program body) (are_branches program rest) counted in
      let h = both (are_short_stmts body) (are_short_branches rest) short in
      let test = expr_code w.scratch p guard in
      let z = p + length test in
      let inner = stmts_marks program w.scratch (z + 1) body in
      let e = z + 1 + length inner in
      let past = e + 1 in
      let front = test ++ i.Unless past ∷ [] in
      let others = branches_marks program w.scratch past rest in
      let tail = inner ++ (To Behind ∷ others) in
      let many : p + length (fixed front) ≡ z + 1 = omega (arith, fixed_long front, length-append test (i.Unless past ∷ [])) in
      let whole : past + length others ≡ q = omega (arith, ends, many, length-append (fixed front) tail, length-append inner (To Behind ∷ others)) in
      let at_front = marks_fixed (instructions w) p x front (marks_front (instructions w) p x (fixed front) tail has) in
      let at_tail = has_moved (instructions w) (p + length (fixed front)) (z + 1) (instructions_of x tail) many (marks_back (instructions w) p x (fixed front) tail has) in
      let behind = marks_back (instructions w) (z + 1) x inner (To Behind ∷ others) at_tail in
      let unless = (has_back (instructions w) p test (i.Unless past ∷ []) at_front).0 in
      flows_value w p z x.behind s x (evaluate m s guard) (λ v. after (truth_in v) (λ b. cond b (execute_all m s body) (execute_branches m s rest otherwise)))
      (expr_runs w m s simple guard k.0 p [] (has_front (instructions w) p test (i.Unless past ∷ []) at_front) (omega (arith, whole, room)))
      (guard_takes w z past x.behind s x (execute_all m s body) (execute_branches m s rest otherwise) unless (omega (arith, whole, room))
      (flows_further w (z + 1) e x.behind s x (execute_all m s body) (jumps w e x.behind [] behind.0 there)
      (stmts_run program w of m calls turns body k.1 c.0 h.0 s simple (z + 1) x inside (marks_front (instructions w) (z + 1) x inner (To Behind ∷ others) at_tail) (omega (arith, whole, room))))
      (branches_run program w of m calls turns rest k.2 c.1 h.1 s simple past q x inside there behind.1 whole room otherwise last))
