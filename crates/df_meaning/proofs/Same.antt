-- The value of an expression depends on the program and the locals alone.
use Rattle.std.proofs.Common.{◌≡◌, ℕ, neg_ℤ, Bool, true, false, if◌then◌else◌, refl, ap, ◌∙◌}
use Rattle.df_lang.specs.declared.ty.Ty.{Ty}
use Rattle.df_lang.specs.declared.expr.Junction.{Junction as JunctionKind}
use Rattle.df_lang.specs.Expr.{Expr, Number, Truth, Character, Local, Negate, Not, Sum, Product, Junction, Implies, Iff, Chain, As, Convert, Addends, no_addend, addend, Factors, no_factor, factor, Members, no_member, member, Links, no_link, link}
use Rattle.df_meaning.specs.Value.{Value, number_of, truth_of, same_truth}
use Rattle.df_meaning.specs.Value as values
use Rattle.df_meaning.specs.Outcome.{Outcome, Gives, Wrong, TooDeep, NoChoice, Dismissed, after}
use Rattle.df_meaning.specs.State.{State, value_at}
use Rattle.df_meaning.specs.Meaning.{Meaning}
use Rattle.df_meaning.specs.Evaluation.{in_range, as_type, converted, summed, multiplied, compare, decides, value_of_local, evaluate, evaluate_addends, evaluate_factors, evaluate_junction, evaluate_implications, evaluate_equivalences, evaluate_links}

pub after_same : {A B : Type 0} (o p : Outcome A) (f g : A → Outcome B) → o ≡ p → ((a : A) → f a ≡ g a) → after o f ≡ after p g
after_same o p f g e h = ap (λ x. after x f) e ∙ by_cases p
  where
    by_cases : (p : Outcome _) → after p f ≡ after p g
    by_cases (Gives a) = h a
    by_cases (Wrong pos kind) = refl
    by_cases TooDeep = refl
    by_cases NoChoice = refl
    by_cases Dismissed = refl

pub choice_same : {A : Type 0} (b : Bool) (x y x' y' : Outcome A) → x ≡ x' → y ≡ y' → (if b then x else y) ≡ (if b then x' else y')
choice_same true x y x' y' h k = h
choice_same false x y x' y' h k = k

-- what expressions see of a meaning and a state is the same
pub record SeesSame (m n : Meaning) (s t : State) : Type 0 where
  pub program : m.program ≡ n.program
  pub locals : (local : ℕ) → value_at s local ≡ value_at t local

mutual
  pub evaluate_same : (m n : Meaning) (s t : State) → SeesSame m n s t → (e : Expr) → evaluate m s e ≡ evaluate n t e
  evaluate_same m n s t h (Number ty value at) = ap (λ p. in_range p ty at value) h.program
  evaluate_same m n s t h (Truth value at) = refl
  evaluate_same m n s t h (Character code at) = refl
  evaluate_same m n s t h (Local local name at) = ap value_of_local (h.locals local)
  evaluate_same m n s t h (Negate ty at operand) = after_same (evaluate m s operand) (evaluate n t operand) _ _ (evaluate_same m n s t h operand) (λ v. ap (λ p. in_range p ty at (neg_ℤ (number_of v))) h.program)
  evaluate_same m n s t h (Not at operand) = after_same (evaluate m s operand) (evaluate n t operand) _ _ (evaluate_same m n s t h operand) (λ v. refl)
  evaluate_same m n s t h (Sum ty first rest) = after_same (evaluate m s first) (evaluate n t first) _ _ (evaluate_same m n s t h first) (λ v. addends_same m n s t h ty v rest)
  evaluate_same m n s t h (Product ty first rest) = after_same (evaluate m s first) (evaluate n t first) _ _ (evaluate_same m n s t h first) (λ v. factors_same m n s t h ty v rest)
  evaluate_same m n s t h (Junction junction first rest) = after_same (evaluate m s first) (evaluate n t first) _ _ (evaluate_same m n s t h first) (λ v. junction_same m n s t h junction v rest)
  evaluate_same m n s t h (Implies arrow first rest) = after_same (evaluate m s first) (evaluate n t first) _ _ (evaluate_same m n s t h first) (λ v. implications_same m n s t h v rest)
  evaluate_same m n s t h (Iff first rest) = after_same (evaluate m s first) (evaluate n t first) _ _ (evaluate_same m n s t h first) (λ v. equivalences_same m n s t h v rest)
  evaluate_same m n s t h (Chain ty first rest) = after_same (evaluate m s first) (evaluate n t first) _ _ (evaluate_same m n s t h first) (λ v. links_same m n s t h v rest)
  evaluate_same m n s t h (As source target at operand) = after_same (evaluate m s operand) (evaluate n t operand) _ _ (evaluate_same m n s t h operand) (λ v. ap (λ p. as_type p target at (number_of v)) h.program)
  evaluate_same m n s t h (Convert source target at operand) = after_same (evaluate m s operand) (evaluate n t operand) _ _ (evaluate_same m n s t h operand) (λ v. ap (λ p. converted p source target at v) h.program)

  addends_same : (m n : Meaning) (s t : State) → SeesSame m n s t → (ty : Ty) (v : Value) (rest : Addends) → evaluate_addends m s ty v rest ≡ evaluate_addends n t ty v rest
  addends_same m n s t h ty v no_addend = refl
  addends_same m n s t h ty v (addend operator at operand rest) = after_same (evaluate m s operand) (evaluate n t operand) _ _ (evaluate_same m n s t h operand) (λ w.
      after_same (in_range m.program ty at (summed operator (number_of v) (number_of w))) (in_range n.program ty at (summed operator (number_of v) (number_of w))) _ _ (ap (λ p. in_range p ty at (summed operator (number_of v) (number_of w))) h.program) (λ u. addends_same m n s t h ty u rest))

  factors_same : (m n : Meaning) (s t : State) → SeesSame m n s t → (ty : Ty) (v : Value) (rest : Factors) → evaluate_factors m s ty v rest ≡ evaluate_factors n t ty v rest
  factors_same m n s t h ty v no_factor = refl
  factors_same m n s t h ty v (factor operator at operand rest) = after_same (evaluate m s operand) (evaluate n t operand) _ _ (evaluate_same m n s t h operand) (λ w.
      after_same (multiplied m.program operator ty at (number_of v) (number_of w)) (multiplied n.program operator ty at (number_of v) (number_of w)) _ _ (ap (λ p. multiplied p operator ty at (number_of v) (number_of w)) h.program) (λ u. factors_same m n s t h ty u rest))

  junction_same : (m n : Meaning) (s t : State) → SeesSame m n s t → (junction : JunctionKind) (v : Value) (rest : Members) → evaluate_junction m s junction v rest ≡ evaluate_junction n t junction v rest
  junction_same m n s t h junction v no_member = refl
  junction_same m n s t h junction v (member at operand rest) =
      choice_same (decides junction (truth_of v)) _ _ _ _ refl (after_same (evaluate m s operand) (evaluate n t operand) _ _ (evaluate_same m n s t h operand) (λ w. junction_same m n s t h junction w rest))

  implications_same : (m n : Meaning) (s t : State) → SeesSame m n s t → (v : Value) (rest : Members) → evaluate_implications m s v rest ≡ evaluate_implications n t v rest
  implications_same m n s t h v no_member = refl
  implications_same m n s t h v (member at operand rest) =
      choice_same (truth_of v) _ _ _ _ (after_same (evaluate m s operand) (evaluate n t operand) _ _ (evaluate_same m n s t h operand) (λ w. implications_same m n s t h w rest)) refl

  equivalences_same : (m n : Meaning) (s t : State) → SeesSame m n s t → (v : Value) (rest : Members) → evaluate_equivalences m s v rest ≡ evaluate_equivalences n t v rest
  equivalences_same m n s t h v no_member = refl
  equivalences_same m n s t h v (member at operand rest) = after_same (evaluate m s operand) (evaluate n t operand) _ _ (evaluate_same m n s t h operand) (λ w. equivalences_same m n s t h (values.Truth (same_truth (truth_of v) (truth_of w))) rest)

  links_same : (m n : Meaning) (s t : State) → SeesSame m n s t → (v : Value) (rest : Links) → evaluate_links m s v rest ≡ evaluate_links n t v rest
  links_same m n s t h v no_link = refl
  links_same m n s t h v (link comparison at operand rest) = after_same (evaluate m s operand) (evaluate n t operand) _ _ (evaluate_same m n s t h operand) (λ w.
      choice_same (compare comparison v w) _ _ _ _ (links_same m n s t h w rest) refl)
