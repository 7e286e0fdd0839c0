-- What is known where a function begins: that it is required, and what it reads.
use Rattle.std.proofs.Common.{◌≡◌, ℕ, suc, true, false, if◌then◌else◌, List, [], ◌∷◌, map, Some, refl, sym, ap, ◌∙◌}
use Rattle.std.specs.Option.{option_map_or}
use Rattle.df_base.specs.declared.pos.Pos.{Pos}
use Rattle.df_types.specs.declared.kind.Kind.TheVariants as kinds
use Rattle.df_types.specs.Ty.{Tys}
use Rattle.df_types.specs.Stmt.{Typed}
use Rattle.df_types.specs.Expr.{Expr}
use Rattle.df_types.specs.Program.{Head, Function, Program, function_at}
use Rattle.df_types.specs.Measures.{frame_objects}
use Rattle.df_meaning2.specs.Value.{Value}
use Rattle.df_meaning2.specs.Heap.{Heap, lies_in_readable}
use Rattle.df_meaning2.specs.Outcome.{Outcome, Gives, Wrong, Dismissed}
use Rattle.df_meaning2.specs.State.{State, reading_inside, entering}
use Rattle.df_meaning2.specs.Meaning.{Meaning, evaluate, check_all, asked_at, measured}
use Rattle.df_meaning2.specs.Execution.{conditions}
use Rattle.df_meaning2.specs.Whole.{entered, apply_function, whole}
use Rattle.df_meaning2.specs.Modular.{leaving}
use Rattle.df_meaning2.specs.Correct.{beginning}
use Rattle.df_hoare2.proofs.Depths.{IsWrong, wrong_after, then_gives}
use Rattle.df_hoare2.proofs.Judging.{judge, check_true, check_false, asked_conditions}
use Rattle.df_hoare2.proofs.Agreeing.{Respects, rest_of, agrees_itself, judge_itself, measured_itself, whole_respects}

pub record Enters (m : Meaning) (head : Head) (types : Tys) (arguments : List Value) (heap : Heap) (frame : Value) : Type 0 where
  pub needs : judge m (beginning head types arguments heap) (conditions head.preconditions) ≡ Gives true
  pub named : evaluate m (beginning head types arguments heap) (frame_objects head) ≡ Gives frame
  pub needs_inside : judge m (reading_inside (beginning head types arguments heap) frame) (conditions head.preconditions) ≡ Gives true
  pub again : Value
  pub named_inside : evaluate m (reading_inside (beginning head types arguments heap) frame) (frame_objects head) ≡ Gives again

-- what holds where a declaration begins holds where it is entered from any state of the heap
module _ (m : Meaning) (respects : Respects m) (head : Head) (types : Tys) (arguments : List Value) (s : State) where
  abbrev free : State
  free = entering types head.parameters arguments s

  abbrev begun : State
  begun = beginning head types arguments s.store.heap

  pub judge_free : (es : List Expr) → judge m free es ≡ judge m begun es
  judge_free es = sym (judge_itself m respects (rest_of s) begun es)

  pub judge_inside : (frame : Value) (es : List Expr) → judge m (reading_inside free frame) es ≡ judge m (reading_inside begun frame) es
  judge_inside frame es = sym (judge_itself m respects (rest_of s) (reading_inside begun frame) es)

  pub evaluate_free : (e : Expr) → evaluate m free e ≡ evaluate m begun e
  evaluate_free e = sym (agrees_itself m respects (rest_of s) begun e)

  pub evaluate_inside : (frame : Value) (e : Expr) → evaluate m (reading_inside free frame) e ≡ evaluate m (reading_inside begun frame) e
  evaluate_inside frame e = sym (agrees_itself m respects (rest_of s) (reading_inside begun frame) e)

  pub measured_free : (xs : List Typed) → measured m free xs ≡ measured m begun xs
  measured_free xs = sym (measured_itself m respects (rest_of s) begun xs)

  pub judge_leaving : (v : Value) (es : List Expr) → judge m (leaving head.results (v ∷ []) free) es ≡ judge m (leaving head.results (v ∷ []) begun) es
  judge_leaving v es = sym (judge_itself m respects (rest_of s) (leaving head.results (v ∷ []) begun) es)

  pub enters_here : (frame : Value) → Enters m head types arguments s.store.heap frame → (at : Pos) (go : State → Outcome Value)
      → entered m at types head arguments s go ≡ (if lies_in_readable s.readable frame then go (reading_inside free frame) else Wrong at kinds.Reads)
  enters_here frame en at go =
      let needs : judge m free (conditions (map (asked_at at kinds.Requires) head.preconditions)) ≡ Gives true = ap (judge m free) (asked_conditions at kinds.Requires head.preconditions) ∙ judge_free (conditions head.preconditions) ∙ en.needs in
      let inside : judge m (reading_inside free frame) (conditions (map (asked_at at kinds.Requires) head.preconditions)) ≡ Gives true =
      ap (judge m (reading_inside free frame)) (asked_conditions at kinds.Requires head.preconditions) ∙ judge_inside frame (conditions head.preconditions) ∙ en.needs_inside
      in
      then_gives (check_all m free (map (asked_at at kinds.Requires) head.preconditions)) _ free _ (check_true m free (map (asked_at at kinds.Requires) head.preconditions) needs)
      (then_gives (evaluate m free (frame_objects head)) _ frame _ (evaluate_free (frame_objects head) ∙ en.named)
      (then_gives (check_all m (reading_inside free frame) (map (asked_at at kinds.Requires) head.preconditions)) _ (reading_inside free frame) _ (check_true m (reading_inside free frame) (map (asked_at at kinds.Requires) head.preconditions) inside)
      (then_gives (evaluate m (reading_inside free frame) (frame_objects head)) _ en.again _ (evaluate_inside frame (frame_objects head) ∙ en.named_inside) refl)))

  pub refused_here : judge m begun (conditions head.preconditions) ≡ Gives false → (at : Pos) (go : State → Outcome Value) → IsWrong (entered m at types head arguments s go)
  refused_here h at go = wrong_after (check_all m free (map (asked_at at kinds.Requires) head.preconditions)) _
      (check_false m free (map (asked_at at kinds.Requires) head.preconditions) (ap (judge m free) (asked_conditions at kinds.Requires head.preconditions) ∙ judge_free (conditions head.preconditions) ∙ h))

-- ---- the value of a whole call

pub whole_gives : (p : Program) (n number : ℕ) (f : Function) (types : Tys) (arguments : List Value) (frame v : Value) (at : Pos) (s : State) → function_at p number ≡ Some f → Enters (whole p n) f.head types arguments s.store.heap frame
    → evaluate (whole p n) (reading_inside (beginning f.head types arguments s.store.heap) frame) f.value ≡ Gives v → lies_in_readable s.readable frame ≡ true → (whole p (suc n)).apply at number types arguments s ≡ Gives v
whole_gives p n number f types arguments frame v at s e en value may =
    ap (λ o. option_map_or (apply_function (whole p n) at types arguments s) o Dismissed) e
    ∙ enters_here (whole p n) (whole_respects p n) f.head types arguments s frame en at (λ t. evaluate (whole p n) t f.value)
    ∙ ap (λ b. if b then evaluate (whole p n) (reading_inside (entering types f.head.parameters arguments s) frame) f.value else Wrong at kinds.Reads) may
    ∙ evaluate_inside (whole p n) (whole_respects p n) f.head types arguments s frame f.value ∙ value
