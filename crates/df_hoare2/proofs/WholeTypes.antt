-- Functions give values of their types in whole runs.
use Rattle.std.proofs.Common.{◌≡◌, ℕ, zero, suc, true, List, map, Option, None, refl, sym, subst}
use Rattle.std.specs.Option.{option_map_or}
use Rattle.std.specs.List.{list_all}
use Rattle.df_lemmas.proofs.Lists.{all_parts}
use Rattle.df_base.specs.declared.pos.Pos.{Pos}
use Rattle.df_types.specs.declared.kind.Kind.TheVariants as kinds
use Rattle.df_types.specs.Ty.{Tys}
use Rattle.df_types.specs.Program.{Head, Function, Program, types_of, result_type}
use Rattle.df_types.specs.Typing.{is_program, is_param, numbers_of, entry_scope}
use Rattle.df_types.specs.Measures.{frame_objects}
use Rattle.df_meaning2.specs.Value.{Value}
use Rattle.df_meaning2.specs.Heap.{lies_in_readable}
use Rattle.df_meaning2.specs.Outcome.{Outcome, Dismissed, Each}
use Rattle.df_meaning2.specs.State.{State, given, reading_inside, entering}
use Rattle.df_meaning2.specs.Meaning.{Meaning, evaluate, check_all, asked_at}
use Rattle.df_meaning2.specs.Whole.{entered, apply_function, whole}
use Rattle.df_meaning2.specs.Typed.{IsOf, AreOf, Agrees, CallsAreTyped}
use Rattle.df_meaning2.proofs.ExprTypes.{any_after, choice_each, typed}
use Rattle.df_hoare2.proofs.Heads.{HeadIs, FunctionIs, function_is, AreTyped, none_typed, given_typed, scope_agrees}

pub entered_each : (P : Value → Type 0) (m : Meaning) (at : Pos) (types : Tys) (head : Head) (vs : List Value) (s : State) (go : State → Outcome Value) → ((frame : Value) → Each P (go (reading_inside (entering types head.parameters vs s) frame))) → Each P (entered m at types head vs s go)
entered_each P m at types head vs s go h =
    any_after P (check_all m (entering types head.parameters vs s) (map (asked_at at kinds.Requires) head.preconditions)) _ (λ t.
    any_after P (evaluate m (entering types head.parameters vs s) (frame_objects head)) _ (λ frame.
    any_after P (check_all m (reading_inside (entering types head.parameters vs s) frame) (map (asked_at at kinds.Requires) head.preconditions)) _ (λ u.
    any_after P (evaluate m (reading_inside (entering types head.parameters vs s) frame) (frame_objects head)) _ (λ again.
    choice_each P (lies_in_readable s.readable frame) _ _ (h frame) tt))))

pub parameters_are : (head : Head) (p : Program) → HeadIs p head → list_all (is_param head) head.parameters ≡ true
parameters_are head p is = (all_parts (is_param head) head.parameters head.results is.params).0

pub results_are : (head : Head) (p : Program) → HeadIs p head → list_all (is_param head) head.results ≡ true
results_are head p is = (all_parts (is_param head) head.parameters head.results is.params).1

pub begun_typed : (p : Program) (head : Head) → HeadIs p head → (types : Tys) (vs : List Value) → AreOf p types (types_of head.parameters) vs → AreTyped p head types (given head.parameters vs (λ n. None))
begun_typed p head is types vs k = given_typed p head types head.parameters vs (λ n. None) (parameters_are head p is) k.by (none_typed p head types)

pub begun_agrees : (p : Program) (head : Head) → HeadIs p head → (types : Tys) (vs : List Value) (s : State) → AreOf p types (types_of head.parameters) vs → Agrees p (entry_scope head) (entering types head.parameters vs s)
begun_agrees p head is types vs s k = scope_agrees p head (numbers_of head.parameters) (entering types head.parameters vs s) refl (begun_typed p head is types vs k)

module _ (p : Program) (well : is_program p ≡ true) where
  pub whole_typed : (n : ℕ) → CallsAreTyped (whole p n)
  whole_typed zero at callee f types vs s e k = tt
  whole_typed (suc n) at callee f types vs s e k =
      let is = function_is p well callee f e in
      subst (λ (o : Option Function). Each (IsOf p types (result_type f.head.results)) (option_map_or (apply_function (whole p n) at types vs s) o Dismissed)) (sym e)
      (entered_each (IsOf p types (result_type f.head.results)) (whole p n) at types f.head vs s (λ t. evaluate (whole p n) t f.value) (λ frame.
      typed (whole p n) (whole_typed n) f.value (entry_scope f.head) (reading_inside (entering types f.head.parameters vs s) frame) (result_type f.head.results) (begun_inside frame is) is.value))
    where
      begun_inside : (frame : Value) → FunctionIs p f → Agrees p (entry_scope f.head) (reading_inside (entering types f.head.parameters vs s) frame)
      begun_inside frame is = scope_agrees p f.head (numbers_of f.head.parameters) (reading_inside (entering types f.head.parameters vs s) frame) refl (begun_typed p f.head is.head types vs k)
