-- More depth keeps what functions, calls, loops and proofs do.
use Rattle.std.proofs.Common.{◌≤◌, ℕ, zero, suc, Bool, List, [], ◌∷◌, map, refl, subst, arith}
use Rattle.std.specs.Option.{option_map_or}
use Rattle.df_base.specs.declared.pos.Pos.{Pos}
use Rattle.df_types.specs.declared.kind.Kind.TheVariants as kinds
use Rattle.df_types.specs.Ty.{Tys, instances_of}
use Rattle.df_types.specs.Stmt.{CallOf, Stmt, Declare, Assign, Choose, Branch, While, Break, Return, Check, Prove, Print, Publish, Ghost}
use Rattle.df_types.specs.Program.{Head, Function, Method, Program, function_at, method_at}
use Rattle.df_types.specs.Measures.{frame_objects}
use Rattle.df_meaning2.specs.Value.{Value, truth_of}
use Rattle.df_meaning2.specs.Heap.{lies_in_readable, lies_in_changeable}
use Rattle.df_meaning2.specs.Outcome.{Outcome, Dismissed, ◌⊑◌}
use Rattle.df_meaning2.specs.State.{State, with_bound, with_store}
use Rattle.df_meaning2.specs.Meaning.{Meaning, as_kind, asked_at}
use Rattle.df_meaning2.specs.Execution.{Flow, Next, Returned, Broken, Given, Loop, Actions}
use Rattle.df_meaning2.specs.Whole.{entered, apply_function, apply_by, end_of, run_body, run_method, call_by, behind_turn, turn_of_loop, turn_by, pick_next, prove_each, prove_all, meaning_with, acting, apply_at, whole, call_at, turn_at, doing}
use Rattle.df_meaning2.specs.Growing.{MeansLess, RangesBelow, LoopBelow, DoesLess}
use Rattle.df_meaning2.proofs.Outcomes.{same_grows, after_grows, choice_grows, found_grows}
use Rattle.df_meaning2.proofs.Evaluating.{evaluate_grows, check_all_grows}
use Rattle.df_meaning2.proofs.Executing.{stmts_grow, loop_grows}

-- ---- what is the same at each depth

pub pick_grows : (f g : List Value → Outcome Bool) → ((vs : List Value) → f vs ⊑ g vs) → (choices : List (List Value)) (s : State) → pick_next f choices s ⊑ pick_next g choices s
pick_grows f g h [] s = refl
pick_grows f g h (vs ∷ rest) s = after_grows _ _ _ _ (h vs) (λ b. same_grows _)

each_proof_grows : (f g : State → Outcome State) → ((s : State) → f s ⊑ g s) → (s : State) (vs : List Value) → prove_each f s vs ⊑ prove_each g s vs
each_proof_grows f g h s [] = refl
each_proof_grows f g h s (v ∷ vs) = after_grows _ _ _ _ (h (with_bound s v)) (λ t. each_proof_grows f g h (with_store s t.store) vs)

pub proofs_grow : (ranges others : List (State → Outcome (List Value))) (f g : State → Outcome State) → RangesBelow ranges others → ((s : State) → f s ⊑ g s) → (s : State) → prove_all ranges f s ⊑ prove_all others g s
proofs_grow [] [] f g r h s = h s
proofs_grow [] (y ∷ ys) f g r h s = absurd r
proofs_grow (x ∷ xs) [] f g r h s = absurd r
proofs_grow (x ∷ xs) (y ∷ ys) f g r h s = after_grows _ _ _ _ (r.0 s) (λ vs. each_proof_grows _ _ (proofs_grow xs ys f g r.1 h) s vs)

-- ---- functions

module _ (m n : Meaning) (h : MeansLess m n) where
  pub entered_grows : (at : Pos) (types : Tys) (head : Head) (vs : List Value) (s : State) (f g : State → Outcome Value) → ((t : State) → f t ⊑ g t) → entered m at types head vs s f ⊑ entered n at types head vs s g
  entered_grows at types head vs s f g e =
      after_grows _ _ _ _ (check_all_grows m n h _ (map (asked_at at kinds.Requires) head.preconditions)) (λ t.
      after_grows _ _ _ _ (evaluate_grows m n h _ (frame_objects head)) (λ frame.
      after_grows _ _ _ _ (check_all_grows m n h _ (map (asked_at at kinds.Requires) head.preconditions)) (λ u.
      after_grows _ _ _ _ (evaluate_grows m n h _ (frame_objects head)) (λ again.
      choice_grows (lies_in_readable s.readable frame) _ _ _ _ (e _) refl))))

  function_grows : (at : Pos) (types : Tys) (vs : List Value) (s : State) (f : Function) → apply_function m at types vs s f ⊑ apply_function n at types vs s f
  function_grows at types vs s f = entered_grows at types f.head vs s _ _ (λ t. evaluate_grows m n h t f.value)

  pub applied_grows : (at : Pos) (callee : ℕ) (types : Tys) (vs : List Value) (s : State) → apply_by m at callee types vs s ⊑ apply_by n at callee types vs s
  applied_grows at callee types vs s = subst (λ (p : Program). apply_by m at callee types vs s ⊑ option_map_or (apply_function n at types vs s) (function_at p callee) Dismissed) h.program
      (found_grows (function_at m.program callee) _ _ Dismissed (function_grows at types vs s))

-- ---- methods and loops

module _ (m n : Actions) (h : DoesLess m n) where
  body_grows : (method : Method) (s : State) → run_body m method s ⊑ run_body n method s
  body_grows method s =
      after_grows _ _ _ _ (stmts_grow m n h s method.body) (λ flow.
      after_grows _ _ _ _ (same_grows (end_of flow)) (λ t.
      check_all_grows m.meaning n.meaning h.meaning t (map (as_kind kinds.Ensures) method.head.postconditions)))

  pub method_grows : (at : Pos) (types : Tys) (vs : List Value) (s : State) (method : Method) → run_method m at types vs s method ⊑ run_method n at types vs s method
  method_grows at types vs s method =
      after_grows _ _ _ _ (check_all_grows m.meaning n.meaning h.meaning _ (map (asked_at at kinds.Requires) method.head.preconditions)) (λ t.
      after_grows _ _ _ _ (evaluate_grows m.meaning n.meaning h.meaning _ (frame_objects method.head)) (λ frame.
      choice_grows (lies_in_changeable s.changeable s.entry frame) _ _ _ _
      (after_grows _ _ _ _ (body_grows method _) (λ u. same_grows _)) refl))

  pub called_grows : (call : CallOf) (vs : List Value) (s : State) → call_by m call vs s ⊑ call_by n call vs s
  called_grows call vs s = subst (λ (p : Program). call_by m call vs s ⊑ option_map_or (run_method n call.pos (instances_of s.types call.types) vs s) (method_at p call.callee) Dismissed) h.meaning.program
      (found_grows (method_at m.meaning.program call.callee) _ _ Dismissed (method_grows call.pos (instances_of s.types call.types) vs s))

  behind_grows : (text : Stmt) (l k : Loop) → LoopBelow l k → (flow : Flow) → behind_turn m text l flow ⊑ behind_turn n text k flow
  behind_grows text l k e (Next s) = after_grows _ _ _ _ (e.check kinds.Turn s) (λ t. h.loop text l k e t)
  behind_grows text l k e (Returned s) = refl
  behind_grows text l k e (Broken s) = refl

  of_loop_grows : (text : Stmt) (l k : Loop) → LoopBelow l k → (s : State) → turn_of_loop m text l s ⊑ turn_of_loop n text k s
  of_loop_grows text l k e s = after_grows _ _ _ _ (e.body s) (behind_grows text l k e)

  pub turn_grows : (stmt : Stmt) (s : State) → turn_by m stmt s ⊑ turn_by n stmt s
  turn_grows (Declare locals) s = refl
  turn_grows (Assign update) s = refl
  turn_grows (Choose site at targets ranges condition) s = refl
  turn_grows (Branch branches otherwise) s = refl
  turn_grows (While site at guard invariants decreases body) s = of_loop_grows (While site at guard invariants decreases body) _ _ (loop_grows m n h site at guard invariants decreases body) s
  turn_grows (Break at) s = refl
  turn_grows (Return at update) s = refl
  turn_grows (Check demand) s = refl
  turn_grows (Prove site at aim body) s = refl
  turn_grows (Print at operands) s = refl
  turn_grows (Publish site at class fields this) s = refl
  turn_grows (Ghost body) s = refl

-- ---- by depth

-- two ways to act that differ in what functions, calls and turns do
acting_grows : (p : Program) (f g : Pos → ℕ → Tys → List Value → State → Outcome Value) (c d : CallOf → List Value → State → Outcome Given) (t u : Stmt → State → Outcome Flow)
    → ((at : Pos) (callee : ℕ) (types : Tys) (vs : List Value) (s : State) → f at callee types vs s ⊑ g at callee types vs s)
    → ((call : CallOf) (vs : List Value) (s : State) → c call vs s ⊑ d call vs s) → ((text : Stmt) (s : State) → t text s ⊑ u text s)
    → DoesLess (acting (meaning_with p f) c t) (acting (meaning_with p g) d u)
acting_grows p f g c d t u functions calls turns = record {
  meaning = record { program = refl; first = λ site. refl; apply = functions };
  call = calls;
  loop = λ text l k h s. after_grows _ _ _ _ (h.guard s) (λ v. choice_grows (truth_of v) _ _ _ _ (turns text s) refl);
  pick = λ site count x y h s. pick_grows x y h s.store.choices s;
  new = λ site s. refl;
  elements = λ site element size s. same_grows _;
  prove = λ site xs ys x y known and_known r h e s. proofs_grow xs ys x y r h s;
}

module _ (p : Program) where
  applies_grow : (depth more : ℕ) → depth ≤ more → (at : Pos) (callee : ℕ) (types : Tys) (vs : List Value) (s : State) → apply_at p depth at callee types vs s ⊑ apply_at p more at callee types vs s
  applies_grow zero more le at callee types vs s = tt
  applies_grow (suc depth) zero le at callee types vs s = absurd (omega (arith, le))
  applies_grow (suc depth) (suc more) le at callee types vs s =
      applied_grows (whole p depth) (whole p more) (record { program = refl; first = λ site. refl; apply = applies_grow depth more (omega (arith, le)) }) at callee types vs s

  mutual
    calls_grow : (depth more : ℕ) → depth ≤ more → (call : CallOf) (vs : List Value) (s : State) → call_at p depth call vs s ⊑ call_at p more call vs s
    calls_grow zero more le call vs s = tt
    calls_grow (suc depth) zero le call vs s = absurd (omega (arith, le))
    calls_grow (suc depth) (suc more) le call vs s =
        let less : depth ≤ more = omega (arith, le) in
        called_grows (doing p depth) (doing p more) (acting_grows p _ _ _ _ _ _ (applies_grow depth more less) (calls_grow depth more less) (turns_grow depth more less)) call vs s

    turns_grow : (depth more : ℕ) → depth ≤ more → (text : Stmt) (s : State) → turn_at p depth text s ⊑ turn_at p more text s
    turns_grow zero more le text s = tt
    turns_grow (suc depth) zero le text s = absurd (omega (arith, le))
    turns_grow (suc depth) (suc more) le text s =
        let less : depth ≤ more = omega (arith, le) in
        turn_grows (doing p depth) (doing p more) (acting_grows p _ _ _ _ _ _ (applies_grow depth more less) (calls_grow depth more less) (turns_grow depth more less)) text s

  pub deeper : (depth more : ℕ) → depth ≤ more → DoesLess (doing p depth) (doing p more)
  deeper depth more le = acting_grows p _ _ _ _ _ _ (applies_grow depth more le) (calls_grow depth more le) (turns_grow depth more le)

  pub methods_deeper : (depth more : ℕ) → depth ≤ more → (at : Pos) (types : Tys) (vs : List Value) (s : State) (m : Method) → run_method (doing p depth) at types vs s m ⊑ run_method (doing p more) at types vs s m
  methods_deeper depth more le at types vs s m = method_grows (doing p depth) (doing p more) (deeper depth more le) at types vs s m
