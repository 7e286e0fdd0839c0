-- Related meanings give related executions, for each relation of outcomes that binding keeps.
use Rattle.std.proofs.Common.{◌≡◌, ℕ, Bool, true, false, List, [], ◌∷◌, Option, None, Some, if◌then◌else◌, ap, subst}
use Rattle.std.specs.Option.{option_map_or}
use Rattle.df_base.specs.declared.pos.Pos.{Pos}
use Rattle.df_lang.specs.Expr.{Expr}
use Rattle.df_lang.specs.Stmt.{Operand, Text, Value, Call, Conversion, Source, Single, Results, Update, Clause, Stmt, Block, Var, Assign, CallOf, If, While, Break, Return, Assert, Print, Stmts, done, next, Branches, no_branch, branch}
use Rattle.df_lang.specs.Program.{Method, Program, method_at}
use Rattle.df_meaning.specs.declared.kind.Kind.{Kind}
use Rattle.df_meaning.specs.declared.kind.Kind.TheVariants as kinds
use Rattle.df_meaning.specs.Value.{truth_of}
use Rattle.df_meaning.specs.Value as values
use Rattle.df_meaning.specs.Outcome.{Outcome, Dismissed, after}
use Rattle.df_meaning.specs.State.{Store, State, begin, printed}
use Rattle.df_meaning.specs.Meaning.{Meaning, Flow, Loop, Returned}
use Rattle.df_meaning.specs.Meaning as flows
use Rattle.df_meaning.specs.Evaluation.{converted, evaluate}
use Rattle.df_meaning.specs.Execution.{Values, goes, evaluate_all, check_all, convert_all, execute_call, execute_source, execute_sources, execute_update, execute_optional, declare_all, evaluate_operand, print_all, execute, execute_all, execute_branches}
use Rattle.df_meaning.specs.Whole.{check_call, results_of, end_of, run_body, run_method, behind_turn, turn_by, turns_with}

-- what two meanings say of expressions, calls and turns is related
pub record AreRelated (R : (A : Type 0) → Outcome A → Outcome A → Type 0) (m n : Meaning) : Type 0 where
  pub program : m.program ≡ n.program
  pub value : (s : State) (e : Expr) → R values.Value (evaluate m s e) (evaluate n s e)
  pub call : (pos : Pos) (callee : ℕ) (arguments : List values.Value) (store : Store) → R Returned (m.call pos callee arguments store) (n.call pos callee arguments store)
  pub turns : (loop : Loop) (s : State) → R Flow (m.turns loop s) (n.turns loop s)

module _ (R : (A : Type 0) → Outcome A → Outcome A → Type 0) (same : (A : Type 0) (o : Outcome A) → R A o o)
    (bound : (A B : Type 0) (o p : Outcome A) (f g : A → Outcome B) → R A o p → ((a : A) → R B (f a) (g a)) → R B (after o f) (after p g)) where
  pub equal : (A : Type 0) (o p : Outcome A) → o ≡ p → R A o p
  equal A o p e = subst (λ x. R A o x) e (same A o)

  pub chosen : (A : Type 0) (b : Bool) (x y x' y' : Outcome A) → R A x x' → R A y y' → R A (if b then x else y) (if b then x' else y')
  chosen A true x y x' y' h k = h
  chosen A false x y x' y' h k = k

  pub found : (A : Type 0) (p q : Program) (callee : ℕ) (f g : Method → Outcome A) → p ≡ q → ((method : Method) → R A (f method) (g method))
      → R A (option_map_or f (method_at p callee) Dismissed) (option_map_or g (method_at q callee) Dismissed)
  found A p q callee f g e h = subst (λ (x : Program). R A (option_map_or f (method_at p callee) Dismissed) (option_map_or g (method_at x callee) Dismissed)) e (by_method (method_at p callee))
    where
      by_method : (o : Option Method) → R A (option_map_or f o Dismissed) (option_map_or g o Dismissed)
      by_method None = same A Dismissed
      by_method (Some method) = h method

  pub turns_related : (o p : Outcome values.Value) (s : State) (x y : Outcome Flow) → R values.Value o p → R Flow x y → R Flow (turns_with o s x) (turns_with p s y)
  turns_related o p s x y e h = bound _ _ _ _ _ _ e (λ v. chosen _ (truth_of v) _ _ _ _ h (same _ _))

  module _ (m n : Meaning) (h : AreRelated R m n) where
    pub all_values : (s : State) (es : List Expr) → R (List values.Value) (evaluate_all m s es) (evaluate_all n s es)
    all_values s [] = same _ _
    all_values s (e ∷ others) = bound _ _ _ _ _ _ (h.value s e) (λ v. bound _ _ _ _ _ _ (all_values s others) (λ vs. same _ _))

    pub checks : (s : State) (kind : Kind) (clauses : List Clause) → R State (check_all m s kind clauses) (check_all n s kind clauses)
    checks s kind [] = same _ _
    checks s kind (clause ∷ others) = bound _ _ _ _ _ _ (h.value s clause.condition) (λ v. chosen _ (truth_of v) _ _ _ _ (checks s kind others) (same _ _))

    pub owed : (s : State) (at : Pos) (clauses : List Clause) → R State (check_call m s at clauses) (check_call n s at clauses)
    owed s at [] = same _ _
    owed s at (clause ∷ others) = bound _ _ _ _ _ _ (h.value s clause.condition) (λ v. chosen _ (truth_of v) _ _ _ _ (owed s at others) (same _ _))

    pub called : (s : State) (call : Call) → R Values (execute_call m s call) (execute_call n s call)
    called s call = bound _ _ _ _ _ _ (all_values s call.arguments) (λ arguments. bound _ _ _ _ _ _ (h.call call.pos call.callee arguments s.store) (λ returned. same _ _))

    pub conversions : (at : Pos) (cs : List Conversion) (vs : List values.Value) → R (List values.Value) (convert_all m at cs vs) (convert_all n at cs vs)
    conversions at [] vs = same _ _
    conversions at (c ∷ cs) [] = same _ _
    conversions at (c ∷ cs) (v ∷ vs) =
        bound _ _ _ _ _ _ (equal _ _ _ (ap (λ p. converted p c.source c.target at v) h.program)) (λ w. bound _ _ _ _ _ _ (conversions at cs vs) (λ ws. same _ _))

    pub from_source : (s : State) (source : Source) → R Values (execute_source m s source) (execute_source n s source)
    from_source s (Single ty value) = bound _ _ _ _ _ _ (h.value s value) (λ v. same _ _)
    from_source s (Results call results) = bound _ _ _ _ _ _ (called s call) (λ given. bound _ _ _ _ _ _ (conversions call.pos results given.values) (λ vs. same _ _))

    pub from_sources : (s : State) (sources : List Source) → R Values (execute_sources m s sources) (execute_sources n s sources)
    from_sources s [] = same _ _
    from_sources s (source ∷ others) = bound _ _ _ _ _ _ (from_source s source) (λ given. bound _ _ _ _ _ _ (from_sources given.state others) (λ more. same _ _))

    pub updated : (s : State) (update : Update) → R State (execute_update m s update) (execute_update n s update)
    updated s update = bound _ _ _ _ _ _ (from_sources s update.sources) (λ given. same _ _)

    pub maybe_updated : (s : State) (update : Option Update) → R State (execute_optional m s update) (execute_optional n s update)
    maybe_updated s None = same _ _
    maybe_updated s (Some update) = updated s update

    pub of_operand : (s : State) (operand : Operand) → R values.Value (evaluate_operand m s operand) (evaluate_operand n s operand)
    of_operand s (Text characters) = same _ _
    of_operand s (Value ty value) = h.value s value

    pub prints : (s : State) (operands : List Operand) → R State (print_all m s operands) (print_all n s operands)
    prints s [] = same _ _
    prints s (operand ∷ others) = bound _ _ _ _ _ _ (of_operand s operand) (λ v. prints (printed s v) others)

    goes_on : (flow : Flow) (f g : State → Outcome Flow) → ((s : State) → R Flow (f s) (g s)) → R Flow (goes f flow) (goes g flow)
    goes_on (flows.Next s) f g k = k s
    goes_on (flows.Return s) f g k = same _ _
    goes_on (flows.Break s) f g k = same _ _

    mutual
      pub statement : (s : State) (stmt : Stmt) → R Flow (execute m s stmt) (execute n s stmt)
      statement s (Block at body) = statements s body
      statement s (Var at variables update) = bound _ _ _ _ _ _ (maybe_updated (declare_all s variables) update) (λ t. same _ _)
      statement s (Assign at update) = bound _ _ _ _ _ _ (updated s update) (λ t. same _ _)
      statement s (CallOf call) = bound _ _ _ _ _ _ (called s call) (λ given. same _ _)
      statement s (If branches otherwise) = among s branches _ _ (statements s otherwise)
      statement s (While at guard invariants decreases body) = bound _ _ _ _ _ _ (checks s kinds.Entry invariants) (λ t. h.turns _ t)
      statement s (Break at) = same _ _
      statement s (Return at update) = bound _ _ _ _ _ _ (maybe_updated s update) (λ t. same _ _)
      statement s (Assert at condition) = bound _ _ _ _ _ _ (h.value s condition) (λ v. same _ _)
      statement s (Print at operands) = bound _ _ _ _ _ _ (prints s operands) (λ t. same _ _)

      pub statements : (s : State) (all : Stmts) → R Flow (execute_all m s all) (execute_all n s all)
      statements s done = same _ _
      statements s (next stmt others) = bound _ _ _ _ _ _ (statement s stmt) (λ flow. goes_on flow _ _ (λ t. statements t others))

      pub among : (s : State) (branches : Branches) (o p : Outcome Flow) → R Flow o p → R Flow (execute_branches m s branches o) (execute_branches n s branches p)
      among s no_branch o p e = e
      among s (branch at guard body rest) o p e = bound _ _ _ _ _ _ (h.value s guard) (λ v. chosen _ (truth_of v) _ _ _ _ (statements s body) (among s rest o p e))

    -- ---- methods and turns

    pub body_related : (method : Method) (s : State) → R State (run_body m method s) (run_body n method s)
    body_related method s = bound _ _ _ _ _ _ (statements s method.body) (λ flow. bound _ _ _ _ _ _ (same _ (end_of flow)) (λ t. checks t kinds.Ensures method.postconditions))

    pub method_related : (at : Pos) (method : Method) (arguments : List values.Value) (store : Store) → R Returned (run_method m at method arguments store) (run_method n at method arguments store)
    method_related at method arguments store =
        bound _ _ _ _ _ _ (owed (begin arguments store) at method.preconditions) (λ s.
        bound _ _ _ _ _ _ (body_related method s) (λ t.
        bound _ _ _ _ _ _ (same _ (results_of method t)) (λ vs. same _ _)))

    behind_related : (loop : Loop) (flow : Flow) → R Flow (behind_turn m loop flow) (behind_turn n loop flow)
    behind_related loop (flows.Next t) = bound _ _ _ _ _ _ (checks t kinds.Turn loop.invariants) (λ u. h.turns loop u)
    behind_related loop (flows.Return t) = same _ _
    behind_related loop (flows.Break t) = same _ _

    pub turn_related : (loop : Loop) (s : State) → R Flow (turn_by m loop s) (turn_by n loop s)
    turn_related loop s = bound _ _ _ _ _ _ (statements s loop.body) (λ flow. behind_related loop flow)
