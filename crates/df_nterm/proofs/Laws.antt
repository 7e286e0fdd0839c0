-- The laws of terms.
use Rattle.std.proofs.Common.{◌≡◌, inl, inr, true, List, [], ◌∷◌, ◌++◌, map, is_some, None, Some, refl, sym, ap, subst, ◌∙◌}
use Rattle.std.specs.List.{list_all, flat_map}
use Rattle.df_lang.specs.declared.ty.Ty.{Ty}
use Rattle.df_lang.specs.Expr.{Expr}
use Rattle.df_lang.specs.Stmt.{Measure}
use Rattle.df_lang.specs.Typing.{is_expr}
use Rattle.df_lang.specs.Assignment.{Use, Reached, reads, unassigned}
use Rattle.df_meaning.specs.Value.{Value}
use Rattle.df_meaning.specs.Outcome.{Outcome, Gives, after}
use Rattle.df_meaning.specs.State.{State}
use Rattle.df_meaning.specs.Meaning.{Meaning}
use Rattle.df_meaning.specs.Evaluation.{evaluate}
use Rattle.df_meaning.specs.Modular.{measure_values}
use Rattle.df_meaning.proofs.Cases.{both}
use Rattle.df_meaning.proofs.Same.{evaluate_same}
use Rattle.df_meaning.proofs.Counting.{evaluate_counts, not_dismissed, use_there}
use Rattle.df_nterm.specs.Meaning.{Interpretation, value}
use Rattle.df_nterm.specs.Expressions.{Environment, term_of, conditions_of}
use Rattle.df_nterm.specs.Measuring.{Measured, measured, conditions_of_measure}
use Rattle.df_nterm.specs.Laws.{AgreesOn, told, EvaluationIsAnswered, MeasuresAreAnswered, BelowIsOrder}
use Rattle.df_nterm.proofs.Told.{IsOr, told_appended, told_after}
use Rattle.df_nterm.proofs.Sorted.{HoldsOn, term_sorted}
use Rattle.df_nterm.proofs.Answering.{over, evaluation_told}
use Rattle.df_nterm.proofs.Ordering.{below_orders}

-- whatever locals have values
pub evaluation_or_dismissed : (m : Meaning) (i : Interpretation) (locals : List Ty) (env : Environment) (s : State) (ty : Ty) (e : Expr)
    → i.program ≡ m.program → is_expr m.program locals ty e ≡ true → HoldsOn i locals env s (reads e)
    → IsOr (evaluate m s e) (told i (conditions_of env e) (Gives (value i (term_of env e))))
evaluation_or_dismissed m i locals env s ty e same is holds =
    let is_there = subst (λ p. is_expr p locals ty e ≡ true) (sym same) is in
    subst (λ o. IsOr o (told i (conditions_of env e) (Gives (value i (term_of env e))))) (sym (evaluate_same m (over i m locals env s) s s (record { program = sym same; locals = λ local. refl }) e))
    (evaluation_told i m locals env s e ty None refl is_there holds)

agrees_holds : (i : Interpretation) (locals : List Ty) (env : Environment) (s : State) (uses : List Use) → AgreesOn i locals env s uses → HoldsOn i locals env s uses
agrees_holds i locals env s [] h = tt
agrees_holds i locals env s (u ∷ uses) h =
    (record { sorted = λ ty there. rw (h.0.term) (h.0.sorted ty there); term = λ v there. h.0.term ∙ same there }, agrees_holds i locals env s uses h.1)
  where
    same : {v : Value} → s.locals u.local ≡ Some v → h.0.value ≡ v
    same there = let e : Some h.0.value ≡ Some _ = sym h.0.read ∙ there in cc

all_read : (i : Interpretation) (locals : List Ty) (env : Environment) (s : State) (uses : List Use) → AgreesOn i locals env s uses → unassigned (Reached (λ n. is_some (s.locals n))) uses ≡ []
all_read i locals env s [] h = refl
all_read i locals env s (u ∷ uses) h = use_there (Reached (λ n. is_some (s.locals n))) u uses (ap is_some h.0.read) (all_read i locals env s uses h.1)

pub evaluation_is_answered : EvaluationIsAnswered
evaluation_is_answered m i locals env s ty e same is agrees = counted (evaluation_or_dismissed m i locals env s ty e same is (agrees_holds i locals env s (reads e) agrees))
  where
    counted : IsOr (evaluate m s e) (told i (conditions_of env e) (Gives (value i (term_of env e)))) → evaluate m s e ≡ told i (conditions_of env e) (Gives (value i (term_of env e)))
    counted (inl d) = absurd (not_dismissed _ (evaluate m s e) (evaluate_counts m (Reached (λ n. is_some (s.locals n))) s (λ n has. has) e (all_read i locals env s (reads e) agrees)) d)
    counted (inr h) = h

pub below_is_order : BelowIsOrder
below_is_order = below_orders

-- ---- measures

agrees_split : (i : Interpretation) (locals : List Ty) (env : Environment) (s : State) (uses more : List Use) → AgreesOn i locals env s (uses ++ more) → AgreesOn i locals env s uses × AgreesOn i locals env s more
agrees_split i locals env s [] more h = (tt, h)
agrees_split i locals env s (u ∷ uses) more h = let rest = agrees_split i locals env s uses more h.1 in ((h.0, rest.0), rest.1)

pub measures_are_answered : MeasuresAreAnswered
measures_are_answered m i locals env s [] same are agrees = (refl, tt)
measures_are_answered m i locals env s (measure ∷ others) same are agrees =
    let are = both (is_expr m.program locals measure.ty measure.value) (list_all (λ (one : Measure). is_expr m.program locals one.ty one.value) others) are in
    let agrees = agrees_split i locals env s (reads measure.value) (flat_map (λ (one : Measure). reads one.value) others) agrees in
    let v = value i (term_of env measure.value) in
    let vs = map (λ (one : Measured). value i one.value) (measured env others) in
    let conditions = conditions_of env measure.value in
    let more = conditions_of_measure env others in
    let first = evaluation_is_answered m i locals env s measure.ty measure.value same are.0 agrees.0 in
    let rest = measures_are_answered m i locals env s others same are.1 agrees.1 in
    let on : Value → Outcome (List Value) = (λ w. after (measure_values m s others) (λ ws. Gives (w ∷ ws))) in
    let told_is : measure_values m s (measure ∷ others) ≡ told i (conditions ++ more) (Gives (v ∷ vs)) =
    ap (λ o. after o on) first ∙ (told_after i conditions (Gives v) on ∙ (ap (λ o. told i conditions (after o (λ ws. Gives (v ∷ ws)))) rest.0
    ∙ (ap (told i conditions) (told_after i more (Gives vs) (λ ws. Gives (v ∷ ws))) ∙ sym (told_appended i conditions more (Gives (v ∷ vs)))))) in
    (told_is, (term_sorted i m.program locals env s measure.value measure.ty are.0 (agrees_holds i locals env s (reads measure.value) agrees.0), rest.1))
