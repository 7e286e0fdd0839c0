-- The value of a well-typed expression depends on the program and on the locals that have a type there.
use Rattle.std.proofs.Common.{◌≡◌, ℕ, neg_ℤ, true, false, List, slice_get, Option, Some, None, refl, ap}
use Rattle.std.specs.Option.{option_map_or}
use Rattle.df_lang.specs.declared.ty.Ty.{Ty}
use Rattle.df_lang.specs.declared.ty.Ty.TheVariants as types
use Rattle.df_lang.specs.declared.expr.Junction.{Junction as JunctionKind}
use Rattle.df_lang.specs.Expr.{Expr, Number, Truth, Character, Local, Negate, Not, Sum, Product, Junction, Implies, Iff, Chain, As, Convert, Addends, no_addend, addend, Factors, no_factor, factor, Members, no_member, member, Links, no_link, link}
use Rattle.df_lang.specs.Newtype.{same_type}
use Rattle.df_lang.specs.Typing.{is_arithmetic, casts, converts, compares, is_expr, are_addends, are_factors, are_members, are_links}
use Rattle.df_meaning.specs.Value.{Value, number_of, truth_of, same_truth}
use Rattle.df_meaning.specs.Value as values
use Rattle.df_meaning.specs.State.{State, value_at}
use Rattle.df_meaning.specs.Meaning.{Meaning}
use Rattle.df_meaning.specs.Evaluation.{in_range, as_type, converted, summed, multiplied, compare, decides, value_of_local, evaluate, evaluate_addends, evaluate_factors, evaluate_junction, evaluate_implications, evaluate_equivalences, evaluate_links}
use Rattle.df_meaning.proofs.Cases.{both, three, four}
use Rattle.df_meaning.proofs.Same.{after_same, choice_same}

-- what expressions over these locals see of a meaning and a state is the same
pub record ReadsSame (locals : List Ty) (m n : Meaning) (s t : State) : Type 0 where
  pub program : m.program ≡ n.program
  pub local : (k : ℕ) (ty : Ty) → slice_get locals k ≡ Some ty → value_at s k ≡ value_at t k

module _ (locals : List Ty) (m n : Meaning) (s t : State) (h : ReadsSame locals m n s t) where
  local_read : (ty : Ty) (k : ℕ) (o : Option Ty) → slice_get locals k ≡ o → option_map_or (same_type ty) o false ≡ true → value_at s k ≡ value_at t k
  local_read ty k None there is = cc
  local_read ty k (Some own) there is = h.local k own there

  mutual
    pub evaluate_reads : (e : Expr) (ty : Ty) → is_expr m.program locals ty e ≡ true → evaluate m s e ≡ evaluate n t e
    evaluate_reads (Number own value at) ty is = ap (λ p. in_range p own at value) h.program
    evaluate_reads (Truth value at) ty is = refl
    evaluate_reads (Character code at) ty is = refl
    evaluate_reads (Local local name at) ty is = ap value_of_local (local_read ty local (slice_get locals local) refl is)
    evaluate_reads (Negate own at operand) ty is =
        let is = three (same_type own ty) (is_arithmetic m.program ty) (is_expr m.program locals ty operand) is in
        after_same (evaluate m s operand) (evaluate n t operand) _ _ (evaluate_reads operand ty is.2) (λ v. ap (λ p. in_range p own at (neg_ℤ (number_of v))) h.program)
    evaluate_reads (Not at operand) ty is =
        let is = both (same_type ty types.Bool) (is_expr m.program locals types.Bool operand) is in
        after_same (evaluate m s operand) (evaluate n t operand) _ _ (evaluate_reads operand types.Bool is.1) (λ v. refl)
    evaluate_reads (Sum own first rest) ty is =
        let is = four (same_type own ty) (is_arithmetic m.program ty) (is_expr m.program locals ty first) (are_addends m.program locals ty rest) is in
        after_same (evaluate m s first) (evaluate n t first) _ _ (evaluate_reads first ty is.2) (λ v. addends_read rest own ty v is.3)
    evaluate_reads (Product own first rest) ty is =
        let is = four (same_type own ty) (is_arithmetic m.program ty) (is_expr m.program locals ty first) (are_factors m.program locals ty rest) is in
        after_same (evaluate m s first) (evaluate n t first) _ _ (evaluate_reads first ty is.2) (λ v. factors_read rest own ty v is.3)
    evaluate_reads (Junction junction first rest) ty is =
        let is = three (same_type ty types.Bool) (is_expr m.program locals types.Bool first) (are_members m.program locals rest) is in
        after_same (evaluate m s first) (evaluate n t first) _ _ (evaluate_reads first types.Bool is.1) (λ v. junction_read rest junction v is.2)
    evaluate_reads (Implies arrow first rest) ty is =
        let is = three (same_type ty types.Bool) (is_expr m.program locals types.Bool first) (are_members m.program locals rest) is in
        after_same (evaluate m s first) (evaluate n t first) _ _ (evaluate_reads first types.Bool is.1) (λ v. implications_read rest v is.2)
    evaluate_reads (Iff first rest) ty is =
        let is = three (same_type ty types.Bool) (is_expr m.program locals types.Bool first) (are_members m.program locals rest) is in
        after_same (evaluate m s first) (evaluate n t first) _ _ (evaluate_reads first types.Bool is.1) (λ v. equivalences_read rest v is.2)
    evaluate_reads (Chain own first rest) ty is =
        let is = three (same_type ty types.Bool) (is_expr m.program locals own first) (are_links m.program locals own rest) is in
        after_same (evaluate m s first) (evaluate n t first) _ _ (evaluate_reads first own is.1) (λ v. links_read rest own v is.2)
    evaluate_reads (As source target at operand) ty is =
        let is = three (same_type target ty) (casts m.program source target) (is_expr m.program locals source operand) is in
        after_same (evaluate m s operand) (evaluate n t operand) _ _ (evaluate_reads operand source is.2) (λ v. ap (λ p. as_type p target at (number_of v)) h.program)
    evaluate_reads (Convert source target at operand) ty is =
        let is = three (same_type target ty) (converts source target) (is_expr m.program locals source operand) is in
        after_same (evaluate m s operand) (evaluate n t operand) _ _ (evaluate_reads operand source is.2) (λ v. ap (λ p. converted p source target at v) h.program)

    addends_read : (rest : Addends) (own ty : Ty) (v : Value) → are_addends m.program locals ty rest ≡ true → evaluate_addends m s own v rest ≡ evaluate_addends n t own v rest
    addends_read no_addend own ty v are = refl
    addends_read (addend operator at operand rest) own ty v are =
        let are = both (is_expr m.program locals ty operand) (are_addends m.program locals ty rest) are in
        after_same (evaluate m s operand) (evaluate n t operand) _ _ (evaluate_reads operand ty are.0) (λ w.
        after_same (in_range m.program own at (summed operator (number_of v) (number_of w))) (in_range n.program own at (summed operator (number_of v) (number_of w))) _ _
        (ap (λ p. in_range p own at (summed operator (number_of v) (number_of w))) h.program) (λ u. addends_read rest own ty u are.1))

    factors_read : (rest : Factors) (own ty : Ty) (v : Value) → are_factors m.program locals ty rest ≡ true → evaluate_factors m s own v rest ≡ evaluate_factors n t own v rest
    factors_read no_factor own ty v are = refl
    factors_read (factor operator at operand rest) own ty v are =
        let are = both (is_expr m.program locals ty operand) (are_factors m.program locals ty rest) are in
        after_same (evaluate m s operand) (evaluate n t operand) _ _ (evaluate_reads operand ty are.0) (λ w.
        after_same (multiplied m.program operator own at (number_of v) (number_of w)) (multiplied n.program operator own at (number_of v) (number_of w)) _ _
        (ap (λ p. multiplied p operator own at (number_of v) (number_of w)) h.program) (λ u. factors_read rest own ty u are.1))

    junction_read : (rest : Members) (junction : JunctionKind) (v : Value) → are_members m.program locals rest ≡ true → evaluate_junction m s junction v rest ≡ evaluate_junction n t junction v rest
    junction_read no_member junction v are = refl
    junction_read (member at operand rest) junction v are =
        let are = both (is_expr m.program locals types.Bool operand) (are_members m.program locals rest) are in
        choice_same (decides junction (truth_of v)) _ _ _ _ refl (after_same (evaluate m s operand) (evaluate n t operand) _ _ (evaluate_reads operand types.Bool are.0) (λ w. junction_read rest junction w are.1))

    implications_read : (rest : Members) (v : Value) → are_members m.program locals rest ≡ true → evaluate_implications m s v rest ≡ evaluate_implications n t v rest
    implications_read no_member v are = refl
    implications_read (member at operand rest) v are =
        let are = both (is_expr m.program locals types.Bool operand) (are_members m.program locals rest) are in
        choice_same (truth_of v) _ _ _ _ (after_same (evaluate m s operand) (evaluate n t operand) _ _ (evaluate_reads operand types.Bool are.0) (λ w. implications_read rest w are.1)) refl

    equivalences_read : (rest : Members) (v : Value) → are_members m.program locals rest ≡ true → evaluate_equivalences m s v rest ≡ evaluate_equivalences n t v rest
    equivalences_read no_member v are = refl
    equivalences_read (member at operand rest) v are =
        let are = both (is_expr m.program locals types.Bool operand) (are_members m.program locals rest) are in
        after_same (evaluate m s operand) (evaluate n t operand) _ _ (evaluate_reads operand types.Bool are.0) (λ w. equivalences_read rest (values.Truth (same_truth (truth_of v) (truth_of w))) are.1)

    links_read : (rest : Links) (own : Ty) (v : Value) → are_links m.program locals own rest ≡ true → evaluate_links m s v rest ≡ evaluate_links n t v rest
    links_read no_link own v are = refl
    links_read (link comparison at operand rest) own v are =
        let are = three (compares m.program own comparison) (is_expr m.program locals own operand) (are_links m.program locals own rest) are in
        after_same (evaluate m s operand) (evaluate n t operand) _ _ (evaluate_reads operand own are.1) (λ w.
        choice_same (compare comparison v w) _ _ _ _ (links_read rest own w are.2) refl)
