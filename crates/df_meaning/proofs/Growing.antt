-- More depth keeps an answer.
use Rattle.std.proofs.Common.{neg_ℤ, refl, sym, ap}
use Rattle.df_lang.specs.declared.ty.Ty.{Ty}
use Rattle.df_lang.specs.declared.expr.Junction.{Junction as JunctionKind}
use Rattle.df_lang.specs.Expr.{Expr, Number, Truth, Character, Local, Negate, Not, Sum, Product, Junction, Implies, Iff, Chain, As, Convert, Addends, no_addend, addend, Factors, no_factor, factor, Members, no_member, member, Links, no_link, link}
use Rattle.df_meaning.specs.Value.{Value, number_of, truth_of}
use Rattle.df_meaning.specs.State.{State}
use Rattle.df_meaning.specs.Meaning.{Meaning}
use Rattle.df_meaning.specs.Evaluation.{in_range, as_type, converted, summed, multiplied, compare, decides, evaluate, evaluate_addends, evaluate_factors, evaluate_junction, evaluate_implications, evaluate_equivalences, evaluate_links}
use Rattle.df_meaning.specs.Growing.{◌⊑◌, Below}
use Rattle.df_meaning.proofs.Outcomes.{same_grows, equal_grows, after_grows, choice_grows}

mutual
  pub evaluate_grows : (m n : Meaning) → Below m n → (s : State) (e : Expr) → evaluate m s e ⊑ evaluate n s e
  evaluate_grows m n h s (Number ty value at) = equal_grows _ _ (ap (λ p. in_range p ty at value) (sym h.program))
  evaluate_grows m n h s (Truth value at) = refl
  evaluate_grows m n h s (Character code at) = refl
  evaluate_grows m n h s (Local local name at) = same_grows _
  evaluate_grows m n h s (Negate ty at operand) = after_grows _ _ _ _ (evaluate_grows m n h s operand) (λ v. equal_grows _ _ (ap (λ p. in_range p ty at (neg_ℤ (number_of v))) (sym h.program)))
  evaluate_grows m n h s (Not at operand) = after_grows _ _ _ _ (evaluate_grows m n h s operand) (λ v. refl)
  evaluate_grows m n h s (Sum ty first rest) = after_grows _ _ _ _ (evaluate_grows m n h s first) (λ v. addends_grow m n h s ty v rest)
  evaluate_grows m n h s (Product ty first rest) = after_grows _ _ _ _ (evaluate_grows m n h s first) (λ v. factors_grow m n h s ty v rest)
  evaluate_grows m n h s (Junction junction first rest) = after_grows _ _ _ _ (evaluate_grows m n h s first) (λ v. junction_grows m n h s junction v rest)
  evaluate_grows m n h s (Implies arrow first rest) = after_grows _ _ _ _ (evaluate_grows m n h s first) (λ v. implications_grow m n h s v rest)
  evaluate_grows m n h s (Iff first rest) = after_grows _ _ _ _ (evaluate_grows m n h s first) (λ v. equivalences_grow m n h s v rest)
  evaluate_grows m n h s (Chain ty first rest) = after_grows _ _ _ _ (evaluate_grows m n h s first) (λ v. links_grow m n h s v rest)
  evaluate_grows m n h s (As source target at operand) = after_grows _ _ _ _ (evaluate_grows m n h s operand) (λ v. equal_grows _ _ (ap (λ p. as_type p target at (number_of v)) (sym h.program)))
  evaluate_grows m n h s (Convert source target at operand) = after_grows _ _ _ _ (evaluate_grows m n h s operand) (λ v. equal_grows _ _ (ap (λ p. converted p source target at v) (sym h.program)))

  addends_grow : (m n : Meaning) → Below m n → (s : State) (ty : Ty) (v : Value) (rest : Addends) → evaluate_addends m s ty v rest ⊑ evaluate_addends n s ty v rest
  addends_grow m n h s ty v no_addend = refl
  addends_grow m n h s ty v (addend operator at operand rest) = after_grows _ _ _ _ (evaluate_grows m n h s operand) (λ w.
      after_grows _ _ _ _ (equal_grows _ _ (ap (λ p. in_range p ty at (summed operator (number_of v) (number_of w))) (sym h.program))) (λ u. addends_grow m n h s ty u rest))

  factors_grow : (m n : Meaning) → Below m n → (s : State) (ty : Ty) (v : Value) (rest : Factors) → evaluate_factors m s ty v rest ⊑ evaluate_factors n s ty v rest
  factors_grow m n h s ty v no_factor = refl
  factors_grow m n h s ty v (factor operator at operand rest) = after_grows _ _ _ _ (evaluate_grows m n h s operand) (λ w.
      after_grows _ _ _ _ (equal_grows _ _ (ap (λ p. multiplied p operator ty at (number_of v) (number_of w)) (sym h.program))) (λ u. factors_grow m n h s ty u rest))

  junction_grows : (m n : Meaning) → Below m n → (s : State) (junction : JunctionKind) (v : Value) (rest : Members) → evaluate_junction m s junction v rest ⊑ evaluate_junction n s junction v rest
  junction_grows m n h s junction v no_member = refl
  junction_grows m n h s junction v (member at operand rest) =
      choice_grows (decides junction (truth_of v)) _ _ _ _ refl (after_grows _ _ _ _ (evaluate_grows m n h s operand) (λ w. junction_grows m n h s junction w rest))

  implications_grow : (m n : Meaning) → Below m n → (s : State) (v : Value) (rest : Members) → evaluate_implications m s v rest ⊑ evaluate_implications n s v rest
  implications_grow m n h s v no_member = refl
  implications_grow m n h s v (member at operand rest) =
      choice_grows (truth_of v) _ _ _ _ (after_grows _ _ _ _ (evaluate_grows m n h s operand) (λ w. implications_grow m n h s w rest)) refl

  equivalences_grow : (m n : Meaning) → Below m n → (s : State) (v : Value) (rest : Members) → evaluate_equivalences m s v rest ⊑ evaluate_equivalences n s v rest
  equivalences_grow m n h s v no_member = refl
  equivalences_grow m n h s v (member at operand rest) = after_grows _ _ _ _ (evaluate_grows m n h s operand) (λ w. equivalences_grow m n h s _ rest)

  links_grow : (m n : Meaning) → Below m n → (s : State) (v : Value) (rest : Links) → evaluate_links m s v rest ⊑ evaluate_links n s v rest
  links_grow m n h s v no_link = refl
  links_grow m n h s v (link comparison at operand rest) = after_grows _ _ _ _ (evaluate_grows m n h s operand) (λ w.
      choice_grows (compare comparison v w) _ _ _ _ (links_grow m n h s w rest) refl)
