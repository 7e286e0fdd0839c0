-- Runs change the locals that they assign and declare, and no others.
use Rattle.std.proofs.Common.{◌≡◌, ℕ, Bool, true, false, ◌&&◌, zero, suc, List, [], ◌∷◌, Option, Some, None, refl, sym, subst, ◌∙◌}
use Rattle.std.specs.List.{list_all}
use Rattle.df_base.specs.declared.pos.Pos.{Pos}
use Rattle.df_lang.specs.Stmt.{Operand, Target, Call, Source, Single, Results, Update, Variable, Stmt, Block, Var, Assign, CallOf, If, While, Break, Return, Assert, Print, Stmts, done, next, Branches, no_branch, branch}
use Rattle.df_meaning.specs.declared.kind.Kind.TheVariants as kinds
use Rattle.df_meaning.specs.Value.{truth_of}
use Rattle.df_meaning.specs.Value as values
use Rattle.df_meaning.specs.Outcome.{Outcome, Gives, Wrong, TooDeep, NoChoice, Dismissed}
use Rattle.df_meaning.specs.State.{Store, State, value_at, with_local, without_local, printed}
use Rattle.df_meaning.specs.Meaning.{Meaning, Flow, Returned, Loop}
use Rattle.df_meaning.specs.Meaning as flows
use Rattle.df_meaning.specs.Evaluation.{evaluate}
use Rattle.df_meaning.specs.Execution.{Values, Taken, goes, then_next, evaluate_all, check_all, convert_all, execute_call, execute_source, execute_sources, is_distinct, give_all, execute_update, execute_optional, declare_all, evaluate_operand, print_all, go_on, execute, execute_all, execute_branches}
use Rattle.df_lang.specs.Program.{Program}
use Rattle.df_meaning.specs.Whole.{behind_turn, turn_by, turns_with, call_by, by_depth, whole}
use Rattle.df_meaning.proofs.Cases.{IfGives, after_gives, after_any, choice, both}
use Rattle.df_meaning.proofs.Stating.{set_other, checked_same}

-- the locals that may not change are the same
abbrev pub AgreesBut : (ℕ → Bool) → State → State → Type 0
AgreesBut may s t = (n : ℕ) → may n ≡ false → value_at t n ≡ value_at s n

-- behind a statement, and where a method returns
abbrev pub FlowAgrees : (ℕ → Bool) → (ℕ → Bool) → State → Flow → Type 0
FlowAgrees may back s (flows.Next t) = AgreesBut may s t
FlowAgrees may back s (flows.Return t) = AgreesBut back s t
FlowAgrees may back s (flows.Break t) = AgreesBut may s t

-- ---- Which locals a statement changes; a `return` may change others.

abbrev pub update_within : (ℕ → Bool) → Option Update → Bool
update_within may None = true
update_within may (Some update) = list_all (λ (t : Target). may t.local) update.targets

abbrev mutual
  pub stmt_within : (ℕ → Bool) → (ℕ → Bool) → Stmt → Bool
  stmt_within may back (Block at body) = all_within may back body
  stmt_within may back (Var at variables update) = list_all (λ (v : Variable). may v.local) variables && update_within may update
  stmt_within may back (Assign at update) = update_within may (Some update)
  stmt_within may back (CallOf call) = true
  stmt_within may back (If branches otherwise) = branches_within may back branches && all_within may back otherwise
  stmt_within may back (While at guard invariants decreases body) = all_within may back body
  stmt_within may back (Break at) = true
  stmt_within may back (Return at update) = update_within back update
  stmt_within may back (Assert at condition) = true
  stmt_within may back (Print at operands) = true

  pub all_within : (ℕ → Bool) → (ℕ → Bool) → Stmts → Bool
  all_within may back done = true
  all_within may back (next stmt others) = stmt_within may back stmt && all_within may back others

  pub branches_within : (ℕ → Bool) → (ℕ → Bool) → Branches → Bool
  branches_within may back no_branch = true
  branches_within may back (branch at guard body rest) = all_within may back body && branches_within may back rest

-- what a statement may not change where it goes on it may not change where it returns
abbrev pub Covers : (ℕ → Bool) → (ℕ → Bool) → Type 0
Covers may back = (n : ℕ) → back n ≡ false → may n ≡ false

-- turns change what the body of their loop changes
pub record KeepsTurns (m : Meaning) : Type 0 where
  pub turns : (may back : ℕ → Bool) → Covers may back → (loop : Loop) (s : State) → all_within may back loop.body ≡ true → IfGives (FlowAgrees may back s) (m.turns loop s)

-- ---- states

excluded : (may : ℕ → Bool) (n local : ℕ) → may local ≡ true → may n ≡ false → n ≡ local → ⊥
excluded may n local is not_n e = let a : may local ≡ false = subst (λ (k : ℕ). may k ≡ false) e not_n in let b : true ≡ false = sym is ∙ a in cc

set_agrees : (may : ℕ → Bool) (s : State) (local : ℕ) (value : values.Value) → may local ≡ true → AgreesBut may s (with_local s local value)
set_agrees may s local value is n not_n = set_other s.locals local n (Some value) (excluded may n local is not_n)

unset_agrees : (may : ℕ → Bool) (s : State) (local : ℕ) → may local ≡ true → AgreesBut may s (without_local s local)
unset_agrees may s local is n not_n = set_other s.locals local n None (excluded may n local is not_n)

pub then_agrees : (may : ℕ → Bool) (s t u : State) → AgreesBut may s t → AgreesBut may t u → AgreesBut may s u
then_agrees may s t u a b n not_n = b n not_n ∙ a n not_n

then_flow_agrees : (may back : ℕ → Bool) → Covers may back → (s t : State) (flow : Flow) → AgreesBut may s t → FlowAgrees may back t flow → FlowAgrees may back s flow
then_flow_agrees may back covers s t (flows.Next u) a b = then_agrees may s t u a b
then_flow_agrees may back covers s t (flows.Return u) a b = then_agrees back s t u (λ n not_n. a n (covers n not_n)) b
then_flow_agrees may back covers s t (flows.Break u) a b = then_agrees may s t u a b

-- what agrees with the state that another agrees with
onward : (may back : ℕ → Bool) → Covers may back → (s t : State) (o : Outcome Flow) → AgreesBut may s t → IfGives (FlowAgrees may back t) o → IfGives (FlowAgrees may back s) o
onward may back covers s t (Gives flow) a h = then_flow_agrees may back covers s t flow a h
onward may back covers s t (Wrong at kind) a h = tt
onward may back covers s t TooDeep a h = tt
onward may back covers s t NoChoice a h = tt
onward may back covers s t Dismissed a h = tt

onward_state : (may : ℕ → Bool) (s t : State) (o : Outcome State) → AgreesBut may s t → IfGives (AgreesBut may t) o → IfGives (AgreesBut may s) o
onward_state may s t (Gives u) a h = then_agrees may s t u a h
onward_state may s t (Wrong at kind) a h = tt
onward_state may s t TooDeep a h = tt
onward_state may s t NoChoice a h = tt
onward_state may s t Dismissed a h = tt

-- ---- parts of statements

given_agrees : (may : ℕ → Bool) (targets : List Target) (vs : List values.Value) (s : State) (earlier : List Taken) → list_all (λ (t : Target). may t.local) targets ≡ true → IfGives (AgreesBut may s) (give_all s earlier targets vs)
given_agrees may [] vs s earlier are = λ n not_n. refl
given_agrees may (t ∷ ts) [] s earlier are = λ n not_n. refl
given_agrees may (t ∷ ts) (v ∷ vs) s earlier are =
    let are = both (may t.local) (list_all (λ (x : Target). may x.local) ts) are in
    choice (IfGives (AgreesBut may s)) (is_distinct earlier t.local v) (Wrong t.pos kinds.Distinct) _ tt
    (onward_state may s (with_local s t.local v) _ (set_agrees may s t.local v are.0) (given_agrees may ts vs (with_local s t.local v) (record { local = t.local; value = v } ∷ earlier) are.1))

-- right sides change the store alone
abbrev pub StaysAt : State → Values → Type 0
StaysAt s given = (n : ℕ) → value_at given.state n ≡ value_at s n

pub call_stays : (m : Meaning) (s : State) (call : Call) → IfGives (StaysAt s) (execute_call m s call)
call_stays m s call = after_any (StaysAt s) (evaluate_all m s call.arguments) _ (λ arguments. after_any (StaysAt s) (m.call call.pos call.callee arguments s.store) _ (λ returned n. refl))

pub source_stays : (m : Meaning) (s : State) (source : Source) → IfGives (StaysAt s) (execute_source m s source)
source_stays m s (Single ty value) = after_any (StaysAt s) (evaluate m s value) _ (λ v n. refl)
source_stays m s (Results call results) =
    after_gives (StaysAt s) (StaysAt s) (execute_call m s call) _ (call_stays m s call) (λ given h. after_any (StaysAt s) (convert_all m call.pos results given.values) _ (λ vs. h))

pub sources_stay : (m : Meaning) (s : State) (sources : List Source) → IfGives (StaysAt s) (execute_sources m s sources)
sources_stay m s [] = λ n. refl
sources_stay m s (source ∷ others) =
    after_gives (StaysAt s) (StaysAt s) (execute_source m s source) _ (source_stays m s source) (λ given h.
    after_gives (StaysAt given.state) (StaysAt s) (execute_sources m given.state others) _ (sources_stay m given.state others) (λ more k n. k n ∙ h n))

update_agrees : (m : Meaning) (may : ℕ → Bool) (s : State) (update : Update) → update_within may (Some update) ≡ true → IfGives (AgreesBut may s) (execute_update m s update)
update_agrees m may s update are =
    after_gives (StaysAt s) (AgreesBut may s) (execute_sources m s update.sources) _ (sources_stay m s update.sources) (λ given h.
    onward_state may s given.state _ (λ n not_n. h n) (given_agrees may update.targets given.values given.state [] are))

optional_agrees : (m : Meaning) (may : ℕ → Bool) (s : State) (update : Option Update) → update_within may update ≡ true → IfGives (AgreesBut may s) (execute_optional m s update)
optional_agrees m may s None are = λ n not_n. refl
optional_agrees m may s (Some update) are = update_agrees m may s update are

declared_agrees : (may : ℕ → Bool) (variables : List Variable) (s : State) → list_all (λ (v : Variable). may v.local) variables ≡ true → AgreesBut may s (declare_all s variables)
declared_agrees may [] s are = λ n not_n. refl
declared_agrees may (v ∷ vs) s are =
    let are = both (may v.local) (list_all (λ (x : Variable). may x.local) vs) are in
    then_agrees may s (without_local s v.local) (declare_all (without_local s v.local) vs) (unset_agrees may s v.local are.0) (declared_agrees may vs (without_local s v.local) are.1)

printed_agrees : (m : Meaning) (may : ℕ → Bool) (operands : List Operand) (s : State) → IfGives (AgreesBut may s) (print_all m s operands)
printed_agrees m may [] s = λ n not_n. refl
printed_agrees m may (operand ∷ others) s = after_any (AgreesBut may s) (evaluate_operand m s operand) _ (λ v. onward_state may s (printed s v) _ (λ n not_n. refl) (printed_agrees m may others (printed s v)))

next_agrees : (may back : ℕ → Bool) (s : State) (o : Outcome State) → IfGives (AgreesBut may s) o → IfGives (FlowAgrees may back s) (go_on o)
next_agrees may back s o h = after_gives (AgreesBut may s) (FlowAgrees may back s) o _ h (λ t k. k)

then_kept : (may back : ℕ → Bool) → Covers may back → (s : State) (o : Outcome Flow) (go : State → Outcome Flow) → IfGives (FlowAgrees may back s) o → ((t : State) → IfGives (FlowAgrees may back t) (go t))
    → IfGives (FlowAgrees may back s) (then_next o go)
then_kept may back covers s o go h k = after_gives (FlowAgrees may back s) (FlowAgrees may back s) o (goes go) h by_flow
  where
    by_flow : (flow : Flow) → FlowAgrees may back s flow → IfGives (FlowAgrees may back s) (goes go flow)
    by_flow (flows.Next t) a = onward may back covers s t (go t) a (k t)
    by_flow (flows.Return t) a = a
    by_flow (flows.Break t) a = a

-- ---- statements

module _ (m : Meaning) (keeps : KeepsTurns m) (may back : ℕ → Bool) (covers : Covers may back) where
  mutual
    pub stmt_kept : (stmt : Stmt) (s : State) → stmt_within may back stmt ≡ true → IfGives (FlowAgrees may back s) (execute m s stmt)
    stmt_kept (Block at body) s are = all_kept body s are
    stmt_kept (Var at variables update) s are =
        let are = both (list_all (λ (v : Variable). may v.local) variables) (update_within may update) are in
        next_agrees may back s _ (onward_state may s (declare_all s variables) _ (declared_agrees may variables s are.0) (optional_agrees m may (declare_all s variables) update are.1))
    stmt_kept (Assign at update) s are = next_agrees may back s _ (update_agrees m may s update are)
    stmt_kept (CallOf call) s are = after_gives (StaysAt s) (FlowAgrees may back s) (execute_call m s call) _ (call_stays m s call) (λ given h n not_n. h n)
    stmt_kept (If branches otherwise) s are =
        let are = both (branches_within may back branches) (all_within may back otherwise) are in
        branches_kept branches s (execute_all m s otherwise) are.0 (all_kept otherwise s are.1)
    stmt_kept (While at guard invariants decreases body) s are =
        after_gives (λ (t : State). t ≡ s) (FlowAgrees may back s) (check_all m s kinds.Entry invariants) _ (checked_same m s kinds.Entry invariants) (λ t e.
        let loop : Loop = record { pos = at; guard = guard; invariants = invariants; decreases = decreases; body = body } in
        subst (λ (x : State). IfGives (FlowAgrees may back x) (m.turns loop t)) e (keeps.turns may back covers loop t are))
    stmt_kept (Break at) s are = λ n not_n. refl
    stmt_kept (Return at update) s are = after_gives (AgreesBut back s) (FlowAgrees may back s) (execute_optional m s update) _ (optional_agrees m back s update are) (λ t k. k)
    stmt_kept (Assert at condition) s are =
        after_any (FlowAgrees may back s) (evaluate m s condition) _ (λ v. choice (IfGives (FlowAgrees may back s)) (truth_of v) (Gives (flows.Next s)) (Wrong at kinds.Assert) (λ n not_n. refl) tt)
    stmt_kept (Print at operands) s are = next_agrees may back s _ (printed_agrees m may operands s)

    pub all_kept : (stmts : Stmts) (s : State) → all_within may back stmts ≡ true → IfGives (FlowAgrees may back s) (execute_all m s stmts)
    all_kept done s are = λ n not_n. refl
    all_kept (next stmt others) s are =
        let are = both (stmt_within may back stmt) (all_within may back others) are in
        then_kept may back covers s (execute m s stmt) _ (stmt_kept stmt s are.0) (λ t. all_kept others t are.1)

    branches_kept : (branches : Branches) (s : State) (o : Outcome Flow) → branches_within may back branches ≡ true → IfGives (FlowAgrees may back s) o → IfGives (FlowAgrees may back s) (execute_branches m s branches o)
    branches_kept no_branch s o are e = e
    branches_kept (branch at guard body rest) s o are e =
        let are = both (all_within may back body) (branches_within may back rest) are in
        after_any (FlowAgrees may back s) (evaluate m s guard) _ (λ v. choice (IfGives (FlowAgrees may back s)) (truth_of v) (execute_all m s body) (execute_branches m s rest o) (all_kept body s are.0) (branches_kept rest s o are.1 e))

-- ---- turns

behind_kept : (m : Meaning) → KeepsTurns m → (may back : ℕ → Bool) → Covers may back → (loop : Loop) (s : State) (flow : Flow) → all_within may back loop.body ≡ true → FlowAgrees may back s flow
    → IfGives (FlowAgrees may back s) (behind_turn m loop flow)
behind_kept m keeps may back covers loop s (flows.Next t) are a =
    after_gives (λ (u : State). u ≡ t) (FlowAgrees may back s) (check_all m t kinds.Turn loop.invariants) _ (checked_same m t kinds.Turn loop.invariants) (λ u e.
    onward may back covers s u (m.turns loop u) (subst (λ (x : State). AgreesBut may s x) (sym e) a) (keeps.turns may back covers loop u are))
behind_kept m keeps may back covers loop s (flows.Return t) are a = a
behind_kept m keeps may back covers loop s (flows.Break t) are a = a

pub turn_kept : (m : Meaning) → KeepsTurns m → (may back : ℕ → Bool) → Covers may back → (loop : Loop) (s : State) → all_within may back loop.body ≡ true → IfGives (FlowAgrees may back s) (turn_by m loop s)
turn_kept m keeps may back covers loop s are =
    after_gives (FlowAgrees may back s) (FlowAgrees may back s) (execute_all m s loop.body) _ (all_kept m keeps may back covers loop.body s are) (λ flow a. behind_kept m keeps may back covers loop s flow are a)

pub guard_kept : (may back : ℕ → Bool) (s : State) (o : Outcome values.Value) (turn : Outcome Flow) → IfGives (FlowAgrees may back s) turn → IfGives (FlowAgrees may back s) (turns_with o s turn)
guard_kept may back s o turn h = after_any (FlowAgrees may back s) o _ (λ v. choice (IfGives (FlowAgrees may back s)) (truth_of v) turn (Gives (flows.Next s)) h (λ n not_n. refl))

-- ---- calls and turns by depth

pub by_depth_keeps : (call : Meaning → Pos → ℕ → List values.Value → Store → Outcome Returned) (turn : Meaning → Loop → State → Outcome Flow)
    → ((m : Meaning) → KeepsTurns m → (may back : ℕ → Bool) → Covers may back → (loop : Loop) (s : State) → all_within may back loop.body ≡ true → IfGives (FlowAgrees may back s) (turn m loop s))
    → (program : Program) (depth : ℕ) → KeepsTurns (by_depth call turn program depth)
by_depth_keeps call turn turns program zero = record { turns = λ may back covers loop s are. guard_kept may back s _ TooDeep tt }
by_depth_keeps call turn turns program (suc depth) = record {
  turns = λ may back covers loop s are. guard_kept may back s _ (turn (by_depth call turn program depth) loop s)
      (turns (by_depth call turn program depth) (by_depth_keeps call turn turns program depth) may back covers loop s are);
}

pub wholes_keep : (program : Program) (depth : ℕ) → KeepsTurns (whole program depth)
wholes_keep program depth = by_depth_keeps call_by turn_by turn_kept program depth
