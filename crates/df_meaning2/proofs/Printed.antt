-- What was printed stays in front.
use Rattle.std.proofs.Common.{◌≡◌, ℕ, zero, suc, Bool, List, [], ◌∷◌, ◌++◌, map, length, Option, None, Some, refl, sym, ap, ◌∙◌}
use Rattle.std.specs.Option.{option_map_or}
use Rattle.std.proofs.lemmas.List.{append_assoc, append-nil}
use Rattle.df_base.specs.declared.pos.Pos.{Pos}
use Rattle.df_types.specs.declared.kind.Kind.{Kind}
use Rattle.df_types.specs.declared.kind.Kind.TheVariants as kinds
use Rattle.df_types.specs.Ty.{Tys, instance_of, instances_of}
use Rattle.df_types.specs.Expr.{Expr}
use Rattle.df_types.specs.Stmt.{Demand, Typed, Target, CallOf, Source, Single, Results, NewArray, Update, Range, Stmt, Declare, Assign, Choose, Branch, While, Break, Return, Check, Prove, Print, Publish, Ghost, Stmts, done, next, Branches, no_branch, branch}
use Rattle.df_types.specs.Program.{Program, Method, method_at}
use Rattle.df_types.specs.Measures.{frame_objects}
use Rattle.df_types.specs.Aims.{known_behind}
use Rattle.df_meaning2.specs.Value.{Value, same, truth_of, number_of}
use Rattle.df_meaning2.specs.Heap.{lies_in_changeable}
use Rattle.df_meaning2.specs.Outcome.{Outcome, Gives, Wrong, TooDeep, NoChoice, Dismissed, after, Each}
use Rattle.df_meaning2.specs.Printing.{text_of}
use Rattle.df_meaning2.specs.State.{State, with_local, with_bound, with_text, with_store, entering}
use Rattle.df_meaning2.specs.Meaning.{Meaning, evaluate, check, check_all, as_kind, asked_at, assume_all}
use Rattle.df_meaning2.specs.Execution.{Flow, Next, Returned, Broken, state_of, Given, Loop, Actions, Place, NoPlace, LocalPlace, SlotPlace, Placed, convert_all, first_elements, execute_source, execute_sources, places_of, put, same_place, if_equal, put_all, execute_update, execute_optional, some_meet, meet, execute_choice, declare_all, print_all, values_in, execute_publish, where_true, goes, dropped, execute, execute_all, execute_branches, loop_of}
use Rattle.df_meaning2.specs.Whole.{results_in, end_of, run_body, run_method, call_by, behind_turn, turn_by, pick_next, prove_each, prove_all, call_at, turn_at, doing}
use Rattle.df_meaning2.specs.Texts.{Extends, FlowExtends, GivenExtends}
use Rattle.df_meaning2.proofs.ExprTypes.{after_each, any_after, choice_each}

-- ---- the relation

pub stays : (s t : State) → t.store.text ≡ s.store.text → Extends s t
stays s t e = record { more = []; by = e ∙ sym (append-nil s.store.text) }

pub then_extends : (s t u : State) → Extends s t → Extends t u → Extends s u
then_extends s t u h k = record { more = h.more ++ k.more; by = k.by ∙ (ap (λ x. x ++ k.more) h.by ∙ append_assoc s.store.text h.more k.more) }

pub extends_self : (s : State) → Extends s s
extends_self s = stays s s refl

-- what goes on from one that extends it, and gives one that extends that
flows_on : (s t : State) (o : Outcome Flow) → Extends s t → Each (FlowExtends t) o → Each (FlowExtends s) o
flows_on s t (Gives flow) h k = then_extends s t (state_of flow) h k
flows_on s t (Wrong at kind) h k = tt
flows_on s t TooDeep h k = tt
flows_on s t NoChoice h k = tt
flows_on s t Dismissed h k = tt

goes_on_state : (s t : State) (o : Outcome State) → Extends s t → Each (Extends t) o → Each (Extends s) o
goes_on_state s t (Gives u) h k = then_extends s t u h k
goes_on_state s t (Wrong at kind) h k = tt
goes_on_state s t TooDeep h k = tt
goes_on_state s t NoChoice h k = tt
goes_on_state s t Dismissed h k = tt

gives_on : (s t : State) (o : Outcome Given) → Extends s t → Each (GivenExtends t) o → Each (GivenExtends s) o
gives_on s t (Gives given) h k = then_extends s t given.state h k
gives_on s t (Wrong at kind) h k = tt
gives_on s t TooDeep h k = tt
gives_on s t NoChoice h k = tt
gives_on s t Dismissed h k = tt

-- ---- checks leave the state

one_check : (m : Meaning) (s : State) (d : Demand) → Each (Extends s) (check m s d)
one_check m s d = any_after (Extends s) (evaluate m s d.condition) _ (λ v. choice_each (Extends s) (truth_of v) _ _ (extends_self s) tt)

checks_stay : (m : Meaning) (s : State) (ds : List Demand) → Each (Extends s) (check_all m s ds)
checks_stay m s [] = extends_self s
checks_stay m s (d ∷ ds) = after_each (Extends s) (Extends s) (check m s d) _ (one_check m s d) (λ t h. goes_on_state s t _ h (checks_stay m t ds))

assumed_stays : (m : Meaning) (s : State) (es : List Expr) → Each (Extends s) (assume_all m s es)
assumed_stays m s [] = extends_self s
assumed_stays m s (e ∷ es) = any_after (Extends s) (evaluate m s e) _ (λ v. choice_each (Extends s) (truth_of v) _ _ (assumed_stays m s es) tt)

-- ---- places

put_extends : (s : State) (place : Place) (v : Value) → Extends s (put s place v)
put_extends s NoPlace v = extends_self s
put_extends s (LocalPlace n) v = stays s _ refl
put_extends s (SlotPlace x n) v = stays s _ refl

equal_extends : (s : State) (x : Placed) (v : Value) (earlier : List (Place × Value)) (o : Outcome State) → Each (Extends s) o → Each (Extends s) (if_equal x v earlier o)
equal_extends s x v [] o h = h
equal_extends s x v (one ∷ earlier) o h =
    choice_each (Extends s) (same_place one.0 x.place) _ _
    (choice_each (Extends s) (same one.1 v) _ _ (equal_extends s x v earlier o h) tt)
    (equal_extends s x v earlier o h)

puts_extend : (s : State) (earlier : List (Place × Value)) (xs : List Placed) (vs : List Value) → Each (Extends s) (put_all s earlier xs vs)
puts_extend s earlier [] vs = extends_self s
puts_extend s earlier (x ∷ xs) [] = extends_self s
puts_extend s earlier (x ∷ xs) (v ∷ vs) = equal_extends s x v earlier _ (goes_on_state s (put s x.place v) _ (put_extends s x.place v) (puts_extend (put s x.place v) ((x.place, v) ∷ earlier) xs vs))

declares_extend : (s : State) (locals : List ℕ) → Extends s (declare_all s locals)
declares_extend s [] = extends_self s
declares_extend s (n ∷ ns) = then_extends s (with_local s n None) _ (stays s _ refl) (declares_extend (with_local s n None) ns)

prints_extend : (m : Meaning) (s : State) (xs : List Typed) → Each (Extends s) (print_all m s xs)
prints_extend m s [] = extends_self s
prints_extend m s (x ∷ xs) = any_after (Extends s) (evaluate m s x.value) _ (λ v.
    let t = with_text s (text_of m.program (instance_of s.types x.ty) v) in
    goes_on_state s t _ (record { more = text_of m.program (instance_of s.types x.ty) v; by = refl }) (prints_extend m t xs))

-- ---- over actions that keep it

pub record KeepsText (m : Actions) : Type 0 where
  pub call : (call : CallOf) (vs : List Value) (s : State) → Each (GivenExtends s) (m.call call vs s)
  pub loop : (text : Stmt) (l : Loop) → ((kind : Kind) (s : State) → Each (Extends s) (l.check kind s)) → ((s : State) → Each (FlowExtends s) (l.body s)) → (s : State) → Each (FlowExtends s) (m.loop text l s)
  pub pick : (site count : ℕ) (fits : List Value → Outcome Bool) (s : State) → Each (GivenExtends s) (m.pick site count fits s)
  pub prove : (site : ℕ) (ranges : List (State → Outcome (List Value))) (go known : State → Outcome State)
      → ((s : State) → Each (Extends s) (go s)) → ((s : State) → Each (Extends s) (known s)) → (s : State) → Each (Extends s) (m.prove site ranges go known s)

module _ (m : Actions) (h : KeepsText m) where
  source_extends : (s : State) (source : Source) → Each (GivenExtends s) (execute_source m s source)
  source_extends s (Single ty value) = any_after (GivenExtends s) (evaluate m.meaning s value) _ (λ v. extends_self s)
  source_extends s (Results call conversions) = any_after (GivenExtends s) _ _ (λ vs.
      after_each (GivenExtends s) (GivenExtends s) (m.call call vs s) _ (h.call call vs s) (λ given k. any_after {A = List Value} (GivenExtends s) (convert_all m.meaning given.state call.pos conversions given.values) (λ ws. Gives (record { values = ws; state = given.state })) (λ ws. k)))
  source_extends s (NewArray site element at size elements) = any_after (GivenExtends s) (evaluate m.meaning s size) _ (λ n.
      any_after (GivenExtends s) (first_elements m s site element at (number_of n) elements) _ (λ vs. any_after (GivenExtends s) (m.new site s) _ (λ v. stays s _ refl)))

  sources_extend : (s : State) (sources : List Source) → Each (GivenExtends s) (execute_sources m s sources)
  sources_extend s [] = extends_self s
  sources_extend s (source ∷ others) =
      after_each (GivenExtends s) (GivenExtends s) (execute_source m s source) _ (source_extends s source) (λ given k.
      after_each (GivenExtends given.state) (GivenExtends s) (execute_sources m given.state others) _ (sources_extend given.state others) (λ more l. then_extends s given.state more.state k l))

  update_extends : (s : State) (update : Update) → Each (Extends s) (execute_update m s update)
  update_extends s update = after_each (GivenExtends s) (Extends s) (execute_sources m s update.sources) _ (sources_extend s update.sources) (λ given k.
      any_after (Extends s) (places_of m.meaning given.state update.targets) _ (λ places. goes_on_state s given.state _ k (puts_extend given.state [] places given.values)))

  optional_extends : (s : State) (update : Option Update) → Each (Extends s) (execute_optional m s update)
  optional_extends s None = extends_self s
  optional_extends s (Some update) = update_extends s update

  choice_extends : (s : State) (site : ℕ) (at : Pos) (targets : List Target) (ranges : List Range) (condition : Expr) → Each (Extends s) (execute_choice m s site at targets ranges condition)
  choice_extends s site at targets ranges condition = any_after (Extends s) (evaluate m.meaning s (some_meet site at ranges condition)) _ (λ some.
      choice_each (Extends s) (truth_of some) _ _
      (after_each (GivenExtends s) (Extends s) (m.pick site (length ranges) (meet m.meaning s ranges condition) s) _ (h.pick site (length ranges) _ s) (λ given k.
      any_after (Extends s) (places_of m.meaning given.state targets) _ (λ places. goes_on_state s given.state _ k (puts_extend given.state [] places given.values)))) tt)

  publish_extends : (s : State) (site class : ℕ) (fields : List ℕ) (this : ℕ) → Each (Extends s) (execute_publish m s site class fields this)
  publish_extends s site class fields this = any_after (Extends s) (values_in fields s.locals) _ (λ slots. any_after (Extends s) (m.new site s) _ (λ v. stays s _ refl))

  goes_extends : (s : State) (go : State → Outcome Flow) → ((t : State) → Each (FlowExtends t) (go t)) → (flow : Flow) → FlowExtends s flow → Each (FlowExtends s) (goes go flow)
  goes_extends s go e (Next t) k = flows_on s t (go t) k (e t)
  goes_extends s go e (Returned t) k = k
  goes_extends s go e (Broken t) k = k

  where_extends : (given : Option Expr) (go : State → Outcome State) → ((s : State) → Each (Extends s) (go s)) → (s : State) → Each (Extends s) (where_true m.meaning given go s)
  where_extends None go e s = e s
  where_extends (Some given) go e s = any_after (Extends s) (evaluate m.meaning s given) _ (λ v. choice_each (Extends s) (truth_of v) _ _ (e s) (extends_self s))

  next_extends : (s : State) (o : Outcome State) → Each (Extends s) o → Each (FlowExtends s) (after o (λ t. Gives (Next t)))
  next_extends s o k = after_each (Extends s) (FlowExtends s) o _ k (λ t l. l)

  -- a proof drops what it prints
  claims_extend : (t : State) (body : Outcome Flow) (claims : List Demand) → Each (Extends t) (after body (λ flow. check_all m.meaning (dropped t (state_of flow)) claims))
  claims_extend t body claims = any_after (Extends t) body _ (λ flow. goes_on_state t (dropped t (state_of flow)) _ (stays t (dropped t (state_of flow)) refl) (checks_stay m.meaning (dropped t (state_of flow)) claims))

  mutual
    pub executed_extends : (s : State) (stmt : Stmt) → Each (FlowExtends s) (execute m s stmt)
    executed_extends s (Declare locals) = declares_extend s locals
    executed_extends s (Assign update) = next_extends s _ (update_extends s update)
    executed_extends s (Choose site at targets ranges condition) = next_extends s _ (choice_extends s site at targets ranges condition)
    executed_extends s (Branch branches otherwise) = branches_extend s branches _ (all_extend s otherwise)
    executed_extends s (While site at guard invariants decreases body) =
        after_each (Extends s) (FlowExtends s) (check_all m.meaning s (map (as_kind kinds.Entry) invariants)) _ (checks_stay m.meaning s (map (as_kind kinds.Entry) invariants)) (λ u k.
        flows_on s u _ k (h.loop (While site at guard invariants decreases body) _ (λ kind t. checks_stay m.meaning t (map (as_kind kind) invariants)) (λ t. all_extend t body) u))
    executed_extends s (Break at) = extends_self s
    executed_extends s (Return at update) = after_each (Extends s) (FlowExtends s) (execute_optional m s update) _ (optional_extends s update) (λ t k. k)
    executed_extends s (Check demand) = next_extends s _ (one_check m.meaning s demand)
    executed_extends s (Prove site at aim body) = next_extends s _ (h.prove site _ _ _
        (where_extends aim.given _ (λ t. claims_extend t (execute_all m t body) aim.claims)) (λ t. assumed_stays m.meaning t (known_behind site at aim)) s)
    executed_extends s (Print at operands) = next_extends s _ (prints_extend m.meaning s operands)
    executed_extends s (Publish site at class fields this) = next_extends s _ (publish_extends s site class fields this)
    executed_extends s (Ghost body) = all_extend s body

    pub all_extend : (s : State) (stmts : Stmts) → Each (FlowExtends s) (execute_all m s stmts)
    all_extend s done = extends_self s
    all_extend s (next stmt others) = after_each (FlowExtends s) (FlowExtends s) (execute m s stmt) _ (executed_extends s stmt) (goes_extends s _ (λ t. all_extend t others))

    branches_extend : (s : State) (branches : Branches) (o : Outcome Flow) → Each (FlowExtends s) o → Each (FlowExtends s) (execute_branches m s branches o)
    branches_extend s no_branch o k = k
    branches_extend s (branch guard body rest) o k = any_after (FlowExtends s) (evaluate m.meaning s guard) _ (λ v. choice_each (FlowExtends s) (truth_of v) _ _ (all_extend s body) (branches_extend s rest o k))

-- ---- whole runs

end_extends : (s : State) (flow : Flow) → FlowExtends s flow → Each (Extends s) (end_of flow)
end_extends s (Next t) k = k
end_extends s (Returned t) k = k
end_extends s (Broken t) k = tt

module _ (m : Actions) (h : KeepsText m) where
  body_extends : (method : Method) (s : State) → Each (Extends s) (run_body m method s)
  body_extends method s =
      after_each (FlowExtends s) (Extends s) (execute_all m s method.body) _ (all_extend m h s method.body) (λ flow k.
      after_each (Extends s) (Extends s) (end_of flow) _ (end_extends s flow k) (λ t l.
      goes_on_state s t _ l (checks_stay m.meaning t (map (as_kind kinds.Ensures) method.head.postconditions))))

  pub method_extends : (at : Pos) (types : Tys) (vs : List Value) (s : State) (method : Method) → Each (GivenExtends s) (run_method m at types vs s method)
  method_extends at types vs s method =
      any_after (GivenExtends s) (check_all m.meaning (entering types method.head.parameters vs s) (map (asked_at at kinds.Requires) method.head.preconditions)) _ (λ t.
      any_after (GivenExtends s) (evaluate m.meaning (entering types method.head.parameters vs s) (frame_objects method.head)) _ (λ frame.
      choice_each (GivenExtends s) (lies_in_changeable s.changeable s.entry frame) _ _
      (after_each (Extends s) (GivenExtends s) (run_body m method (record (entering types method.head.parameters vs s) { changeable = frame })) _
      (begun_extends s types vs method frame (run_body m method (record (entering types method.head.parameters vs s) { changeable = frame })) (body_extends method (record (entering types method.head.parameters vs s) { changeable = frame })))
      (λ u k. any_after (GivenExtends s) (results_in method.head.results u.locals) _ (λ ws. record { more = k.more; by = k.by }))) tt))
    where
      begun_extends : (s : State) (types : Tys) (vs : List Value) (method : Method) (frame : Value) (o : Outcome State)
          → Each (Extends (record (entering types method.head.parameters vs s) { changeable = frame })) o → Each (Extends s) o
      begun_extends s types vs method frame (Gives u) k = record { more = k.more; by = k.by }
      begun_extends s types vs method frame (Wrong spot kind) k = tt
      begun_extends s types vs method frame TooDeep k = tt
      begun_extends s types vs method frame NoChoice k = tt
      begun_extends s types vs method frame Dismissed k = tt

  called_extends : (call : CallOf) (vs : List Value) (s : State) → Each (GivenExtends s) (call_by m call vs s)
  called_extends call vs s = by_method (method_at m.meaning.program call.callee)
    where
      by_method : (o : Option Method) → Each (GivenExtends s) (option_map_or (run_method m call.pos (instances_of s.types call.types) vs s) o Dismissed)
      by_method None = tt
      by_method (Some method) = method_extends call.pos (instances_of s.types call.types) vs s method

  turn_extends : (text : Stmt) (s : State) → Each (FlowExtends s) (turn_by m text s)
  turn_extends (Declare locals) s = tt
  turn_extends (Assign update) s = tt
  turn_extends (Choose site at targets ranges condition) s = tt
  turn_extends (Branch branches otherwise) s = tt
  turn_extends (While site at guard invariants decreases body) s = after_each (FlowExtends s) (FlowExtends s) (execute_all m s body) _ (all_extend m h s body) behind
    where
      behind : (flow : Flow) → FlowExtends s flow → Each (FlowExtends s) (behind_turn m (While site at guard invariants decreases body) (loop_of m site at guard invariants decreases body) flow)
      behind (Next t) k = after_each (Extends s) (FlowExtends s) (check_all m.meaning t (map (as_kind kinds.Turn) invariants)) _
          (goes_on_state s t _ k (checks_stay m.meaning t (map (as_kind kinds.Turn) invariants))) (λ u l.
          flows_on s u _ l (h.loop (While site at guard invariants decreases body) _ (λ kind x. checks_stay m.meaning x (map (as_kind kind) invariants)) (λ x. all_extend m h x body) u))
      behind (Returned t) k = k
      behind (Broken t) k = k
  turn_extends (Break at) s = tt
  turn_extends (Return at update) s = tt
  turn_extends (Check demand) s = tt
  turn_extends (Prove site at aim body) s = tt
  turn_extends (Print at operands) s = tt
  turn_extends (Publish site at class fields this) s = tt
  turn_extends (Ghost body) s = tt

pick_extends : (fits : List Value → Outcome Bool) (choices : List (List Value)) (s : State) → Each (GivenExtends s) (pick_next fits choices s)
pick_extends fits [] s = tt
pick_extends fits (vs ∷ rest) s = any_after (GivenExtends s) (fits vs) _ (λ b. choice_each (GivenExtends s) b _ _ (stays s _ refl) tt)

each_extends : (go : State → Outcome State) → ((s : State) → Each (Extends s) (go s)) → (s : State) (vs : List Value) → Each (Extends s) (prove_each go s vs)
each_extends go e s [] = extends_self s
each_extends go e s (v ∷ vs) = after_each (Extends (with_bound s v)) (Extends s) (go (with_bound s v)) _ (e (with_bound s v)) (λ t k.
    goes_on_state s (with_store s t.store) _ (record { more = k.more; by = k.by }) (each_extends go e (with_store s t.store) vs))

proofs_extend : (ranges : List (State → Outcome (List Value))) (go : State → Outcome State) → ((s : State) → Each (Extends s) (go s)) → (s : State) → Each (Extends s) (prove_all ranges go s)
proofs_extend [] go e s = e s
proofs_extend (range ∷ ranges) go e s = any_after (Extends s) (range s) _ (λ vs. each_extends (prove_all ranges go) (proofs_extend ranges go e) s vs)

module _ (p : Program) where
  keeps_at : (n : ℕ) → ((call : CallOf) (vs : List Value) (s : State) → Each (GivenExtends s) (call_at p n call vs s)) → ((text : Stmt) (s : State) → Each (FlowExtends s) (turn_at p n text s)) → KeepsText (doing p n)
  keeps_at n calls turns = record {
    call = calls;
    loop = λ text l checks body s. any_after (FlowExtends s) (l.guard s) _ (λ v. choice_each (FlowExtends s) (truth_of v) _ _ (turns text s) (extends_self s));
    pick = λ site count fits s. pick_extends fits s.store.choices s;
    prove = λ site ranges go known e k s. proofs_extend ranges go e s;
  }

  mutual
    calls_extend : (n : ℕ) (call : CallOf) (vs : List Value) (s : State) → Each (GivenExtends s) (call_at p n call vs s)
    calls_extend zero call vs s = tt
    calls_extend (suc n) call vs s = called_extends (doing p n) (keeps_at n (calls_extend n) (turns_extend n)) call vs s

    turns_extend : (n : ℕ) (text : Stmt) (s : State) → Each (FlowExtends s) (turn_at p n text s)
    turns_extend zero text s = tt
    turns_extend (suc n) text s = turn_extends (doing p n) (keeps_at n (calls_extend n) (turns_extend n)) text s

  pub keeps_text : (n : ℕ) → KeepsText (doing p n)
  keeps_text n = keeps_at n (calls_extend n) (turns_extend n)

pub statements_keep_text : (p : Program) (depth : ℕ) (s : State) (stmt : Stmt) → Each (FlowExtends s) (execute (doing p depth) s stmt)
statements_keep_text p depth s stmt = executed_extends (doing p depth) (keeps_text p depth) s stmt

pub methods_keep_text : (p : Program) (depth : ℕ) (at : Pos) (types : Tys) (vs : List Value) (s : State) (m : Method) → Each (GivenExtends s) (run_method (doing p depth) at types vs s m)
methods_keep_text p depth at types vs s m = method_extends (doing p depth) (keeps_text p depth) at types vs s m
