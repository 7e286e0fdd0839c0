-- More depth keeps what statements do.
use Rattle.std.proofs.Common.{ℕ, ℤ, pos, int_le, List, [], ◌∷◌, map, length, Option, None, Some, refl, ap, subst}
use Rattle.df_base.specs.declared.pos.Pos.{Pos}
use Rattle.df_types.specs.declared.kind.Kind.TheVariants as kinds
use Rattle.df_types.specs.Ty.{Ty, instance_of}
use Rattle.df_types.specs.Op.{Op}
use Rattle.df_types.specs.Expr.{Expr, Exprs}
use Rattle.df_types.specs.Stmt.{Demand, Typed, Target, Nowhere, LocalAt, FieldAt, ElementAt, Source, Single, Results, NewArray, Update, Range, Stmt, Declare, Assign, Choose, Branch, While, Break, Return, Check, Prove, Print, Publish, Ghost, Stmts, done, next, Branches, no_branch, branch}
use Rattle.df_types.specs.Program.{Program}
use Rattle.df_types.specs.Aims.{known_behind}
use Rattle.df_types.specs.Measures.{loop_measure}
use Rattle.df_meaning2.specs.Value.{Value, is_among, truth_of, number_of}
use Rattle.df_meaning2.specs.Outcome.{Outcome, Gives, ◌⊑◌}
use Rattle.df_meaning2.specs.Printing.{text_of}
use Rattle.df_meaning2.specs.State.{State, with_bound, with_text}
use Rattle.df_meaning2.specs.Meaning.{Meaning, as_kind}
use Rattle.df_meaning2.specs.Execution.{Flow, Next, Returned, Broken, state_of, Actions, touched_by_all, convert_all, new_array, first_elements, execute_source, execute_sources, place_of, places_of, execute_update, execute_optional, some_meet, holds, meet, execute_choice, print_all, values_in, execute_publish, values_of_range, where_true, goes, dropped, conditions, execute, execute_all, execute_branches, loop_of}
use Rattle.df_meaning2.specs.Growing.{MeansLess, RangesBelow, LoopBelow, DoesLess}
use Rattle.df_meaning2.proofs.Outcomes.{same_grows, after_grows, choice_grows}
use Rattle.df_meaning2.proofs.Evaluating.{row_grows, evaluate_grows, all_grow, range_grows, of_type_grows, check_grows, check_all_grows, assume_all_grows, measured_grows}

module _ (m n : Meaning) (h : MeansLess m n) where
  convert_grows : (s : State) (at : Pos) (ops : List Op) (vs : List Value) → convert_all m s at ops vs ⊑ convert_all n s at ops vs
  convert_grows s at [] vs = refl
  convert_grows s at (op ∷ ops) [] = refl
  convert_grows s at (op ∷ ops) (v ∷ vs) = after_grows _ _ _ _ (row_grows m n h s op at (v ∷ [])) (λ w. after_grows _ _ _ _ (convert_grows s at ops vs) (λ ws. refl))

  place_grows : (s : State) (outer : Pos) (target : Target) → place_of m s outer target ⊑ place_of n s outer target
  place_grows s outer (Nowhere ty) = refl
  place_grows s outer (LocalAt local name at ty) = refl
  place_grows s outer (FieldAt object class field at ty) = after_grows _ _ _ _ (evaluate_grows m n h s object) (λ v. same_grows _)
  place_grows s outer (ElementAt array index at ty) = after_grows _ _ _ _ (evaluate_grows m n h s array) (λ v. after_grows _ _ _ _ (evaluate_grows m n h s index) (λ k. same_grows _))

  places_grow : (s : State) (targets : List Target) → places_of m s targets ⊑ places_of n s targets
  places_grow s [] = refl
  places_grow s (target ∷ others) = after_grows _ _ _ _ (place_grows s _ target) (λ place. after_grows _ _ _ _ (places_grow s others) (λ places. refl))

  holds_grows : (s : State) (condition : Expr) → holds m s condition ⊑ holds n s condition
  holds_grows s condition = after_grows _ _ _ _ (evaluate_grows m n h s condition) (λ v. refl)

  range_values_grow : (r : Range) (s : State) → values_of_range m r s ⊑ values_of_range n r s
  range_values_grow r s = after_grows _ _ _ _ (range_grows m n h s r.extent) (λ vs. of_type_grows m n h s r.variable.ty vs (λ ws. Gives ws))

  ranges_grow : (ranges : List Range) → RangesBelow (map (values_of_range m) ranges) (map (values_of_range n) ranges)
  ranges_grow [] = tt
  ranges_grow (r ∷ rs) = (range_values_grow r, ranges_grow rs)

  meet_grows : (s : State) (ranges : List Range) (condition : Expr) (vs : List Value) → meet m s ranges condition vs ⊑ meet n s ranges condition vs
  meet_grows s [] condition [] = holds_grows s condition
  meet_grows s [] condition (v ∷ vs) = refl
  meet_grows s (r ∷ rs) condition [] = refl
  meet_grows s (r ∷ rs) condition (v ∷ vs) = after_grows _ _ _ _ (range_values_grow r s) (λ items. choice_grows (is_among v items) _ _ _ _ (meet_grows (with_bound s v) rs condition vs) refl)

  where_grows : (given : Option Expr) (f g : State → Outcome State) → ((s : State) → f s ⊑ g s) → (s : State) → where_true m given f s ⊑ where_true n given g s
  where_grows None f g e s = e s
  where_grows (Some given) f g e s = after_grows _ _ _ _ (evaluate_grows m n h s given) (λ v. choice_grows (truth_of v) _ _ _ _ (e s) refl)

  print_grows : (s : State) (xs : List Typed) → print_all m s xs ⊑ print_all n s xs
  print_grows s [] = refl
  print_grows s (x ∷ xs) = after_grows _ _ _ _ (evaluate_grows m n h s x.value) (λ v.
      subst (λ (p : Program). print_all m (with_text s (text_of m.program (instance_of s.types x.ty) v)) xs ⊑ print_all n (with_text s (text_of p (instance_of s.types x.ty) v)) xs) h.program
      (print_grows (with_text s (text_of m.program (instance_of s.types x.ty) v)) xs))

goes_grows : (f g : State → Outcome Flow) → ((s : State) → f s ⊑ g s) → (flow : Flow) → goes f flow ⊑ goes g flow
goes_grows f g e (Next s) = e s
goes_grows f g e (Returned s) = refl
goes_grows f g e (Broken s) = refl

module _ (m n : Actions) (h : DoesLess m n) where
  array_grows : (s : State) (site : ℕ) (element : Ty) (vs : List Value) → new_array m s site element vs ⊑ new_array n s site element vs
  array_grows s site element vs = after_grows _ _ _ _ (h.new site s) (λ v. refl)

  elements_grow : (s : State) (site : ℕ) (element : Ty) (at : Pos) (size : ℤ) (es : Option Exprs) → first_elements m s site element at size es ⊑ first_elements n s site element at size es
  elements_grow s site element at size None = choice_grows (int_le (pos 0) size) _ _ _ _ (h.elements site element size s) refl
  elements_grow s site element at size (Some es) = after_grows _ _ _ _ (all_grow m.meaning n.meaning h.meaning s es) (λ vs. same_grows _)

  source_grows : (s : State) (source : Source) → execute_source m s source ⊑ execute_source n s source
  source_grows s (Single ty value) = after_grows _ _ _ _ (evaluate_grows m.meaning n.meaning h.meaning s value) (λ v. refl)
  source_grows s (Results call conversions) =
      after_grows _ _ _ _ (all_grow m.meaning n.meaning h.meaning s call.arguments) (λ vs.
      after_grows _ _ _ _ (h.call call vs s) (λ given.
      after_grows _ _ _ _ (convert_grows m.meaning n.meaning h.meaning given.state call.pos conversions given.values) (λ ws. refl)))
  source_grows s (NewArray site element at size elements) =
      after_grows _ _ _ _ (evaluate_grows m.meaning n.meaning h.meaning s size) (λ k.
      after_grows _ _ _ _ (elements_grow s site element at (number_of k) elements) (λ vs. array_grows s site element vs))

  sources_grow : (s : State) (sources : List Source) → execute_sources m s sources ⊑ execute_sources n s sources
  sources_grow s [] = refl
  sources_grow s (source ∷ others) = after_grows _ _ _ _ (source_grows s source) (λ given. after_grows _ _ _ _ (sources_grow given.state others) (λ more. refl))

  update_grows : (s : State) (update : Update) → execute_update m s update ⊑ execute_update n s update
  update_grows s update = after_grows _ _ _ _ (sources_grow s update.sources) (λ given. after_grows _ _ _ _ (places_grow m.meaning n.meaning h.meaning given.state update.targets) (λ places. same_grows _))

  optional_grows : (s : State) (update : Option Update) → execute_optional m s update ⊑ execute_optional n s update
  optional_grows s None = refl
  optional_grows s (Some update) = update_grows s update

  choose_grows : (s : State) (site : ℕ) (at : Pos) (targets : List Target) (ranges : List Range) (condition : Expr) → execute_choice m s site at targets ranges condition ⊑ execute_choice n s site at targets ranges condition
  choose_grows s site at targets ranges condition =
      after_grows _ _ _ _ (evaluate_grows m.meaning n.meaning h.meaning s (some_meet site at ranges condition)) (λ some.
      choice_grows (truth_of some) _ _ _ _
      (after_grows _ _ _ _ (h.pick site (length ranges) _ _ (meet_grows m.meaning n.meaning h.meaning s ranges condition) s) (λ given.
      after_grows _ _ _ _ (places_grow m.meaning n.meaning h.meaning given.state targets) (λ places. same_grows _))) refl)

  publish_grows : (s : State) (site class : ℕ) (fields : List ℕ) (this : ℕ) → execute_publish m s site class fields this ⊑ execute_publish n s site class fields this
  publish_grows s site class fields this = after_grows _ _ _ _ (same_grows (values_in fields s.locals)) (λ slots. after_grows _ _ _ _ (h.new site s) (λ v. refl))

  mutual
    pub execute_grows : (s : State) (stmt : Stmt) → execute m s stmt ⊑ execute n s stmt
    execute_grows s (Declare locals) = refl
    execute_grows s (Assign update) = after_grows _ _ _ _ (update_grows s update) (λ t. refl)
    execute_grows s (Choose site at targets ranges condition) = after_grows _ _ _ _ (choose_grows s site at targets ranges condition) (λ t. refl)
    execute_grows s (Branch branches otherwise) = branches_grow s branches _ _ (stmts_grow s otherwise)
    execute_grows s (While site at guard invariants decreases body) = after_grows _ _ _ _ (check_all_grows m.meaning n.meaning h.meaning s (map (as_kind kinds.Entry) invariants)) (λ u.
        h.loop (While site at guard invariants decreases body) _ _ (record {
          site = refl;
          pos = refl;
          assigned = refl;
          touches = ap (λ (p : Program). touched_by_all p body) h.meaning.program;
          guard = λ t. evaluate_grows m.meaning n.meaning h.meaning t guard;
          check = λ kind t. check_all_grows m.meaning n.meaning h.meaning t (map (as_kind kind) invariants);
          assume = λ t. assume_all_grows m.meaning n.meaning h.meaning t (conditions invariants);
          measure = λ t. measured_grows m.meaning n.meaning h.meaning t (loop_measure at guard decreases);
          body = λ t. stmts_grow t body;
        }) u)
    execute_grows s (Break at) = refl
    execute_grows s (Return at update) = after_grows _ _ _ _ (optional_grows s update) (λ t. refl)
    execute_grows s (Check demand) = after_grows _ _ _ _ (check_grows m.meaning n.meaning h.meaning s demand) (λ t. refl)
    execute_grows s (Prove site at aim body) = after_grows _ _ _ _
        (h.prove site _ _ _ _ _ _ (ranges_grow m.meaning n.meaning h.meaning aim.ranges)
        (where_grows m.meaning n.meaning h.meaning aim.given _ _ (λ t. after_grows _ _ _ _ (stmts_grow t body) (λ flow. check_all_grows m.meaning n.meaning h.meaning (dropped t (state_of flow)) aim.claims)))
        (λ t. assume_all_grows m.meaning n.meaning h.meaning t (known_behind site at aim)) s)
        (λ t. refl)
    execute_grows s (Print at operands) = after_grows _ _ _ _ (print_grows m.meaning n.meaning h.meaning s operands) (λ t. refl)
    execute_grows s (Publish site at class fields this) = after_grows _ _ _ _ (publish_grows s site class fields this) (λ t. refl)
    execute_grows s (Ghost body) = stmts_grow s body

    pub stmts_grow : (s : State) (stmts : Stmts) → execute_all m s stmts ⊑ execute_all n s stmts
    stmts_grow s done = refl
    stmts_grow s (next stmt others) = after_grows _ _ _ _ (execute_grows s stmt) (goes_grows _ _ (λ t. stmts_grow t others))

    branches_grow : (s : State) (branches : Branches) (o p : Outcome Flow) → o ⊑ p → execute_branches m s branches o ⊑ execute_branches n s branches p
    branches_grow s no_branch o p e = e
    branches_grow s (branch guard body rest) o p e = after_grows _ _ _ _ (evaluate_grows m.meaning n.meaning h.meaning s guard) (λ v. choice_grows (truth_of v) _ _ _ _ (stmts_grow s body) (branches_grow s rest o p e))

  pub loop_grows : (site : ℕ) (at : Pos) (guard : Expr) (invariants : List Demand) (decreases : Option (List Typed)) (body : Stmts) → LoopBelow (loop_of m site at guard invariants decreases body) (loop_of n site at guard invariants decreases body)
  loop_grows site at guard invariants decreases body = record {
    site = refl;
    pos = refl;
    assigned = refl;
    touches = ap (λ (p : Program). touched_by_all p body) h.meaning.program;
    guard = λ t. evaluate_grows m.meaning n.meaning h.meaning t guard;
    check = λ kind t. check_all_grows m.meaning n.meaning h.meaning t (map (as_kind kind) invariants);
    assume = λ t. assume_all_grows m.meaning n.meaning h.meaning t (conditions invariants);
    measure = λ t. measured_grows m.meaning n.meaning h.meaning t (loop_measure at guard decreases);
    body = λ t. stmts_grow t body;
  }
