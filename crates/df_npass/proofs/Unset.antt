-- Locals without a value: no expression with a value has the term of one.
use Rattle.df_npass.proofs.Words.{◌≡◌, ℕ, pos, negsuc, Bool, true, false, ◌&&◌, ◌||◌, List, [], None, refl, ap, subst, AllByRecursion, Pos, Ty, Comparison, Expr, Local, Negate, Not, Sum, Product, Junction, Implies, Iff, Chain, As, Convert, Addends, no_addend, addend, Factors, no_factor, factor, Members, no_member, member, Links, no_link, link, Assigned, has_value, reads, reads_of_addends, reads_of_factors, reads_of_members, unassigned, parted, use_has, Term, term, of_one, literal, iff, at_most, conjunction, same_term, Interpretation, truth, Environment, Condition, term_of, sum_of, product_of, members_of, implication_of, equivalence_of, comparisons_of, summed, multiplied, number_in, value_in, equal_in, compared, under, in_range, narrowing, conditions_of, conditions_of_addends, conditions_of_factors, conditions_of_junction, conditions_of_implication, conditions_of_members, term_is, all_left, all_right, some_term, is_unset, free_of, false_from_ne_true, false≢true, or_parts}
use Rattle.df_lang.specs.declared.ty.Ty.TheVariants as types
use Rattle.df_lang.specs.declared.expr.AddendOperator.{AddendOperator}
use Rattle.df_lang.specs.declared.expr.AddendOperator.TheVariants as addends
use Rattle.df_lang.specs.declared.expr.FactorOperator.{FactorOperator}
use Rattle.df_lang.specs.declared.expr.FactorOperator.TheVariants as factors
use Rattle.df_lang.specs.declared.expr.Junction.{Junction as JunctionKind}
use Rattle.df_lang.specs.declared.expr.Junction.TheVariants as junctions
use Rattle.df_lang.specs.declared.expr.Comparison.TheVariants as comparisons
use Rattle.df_lang.specs.Expr.{Number, Truth, Character}
use Rattle.df_nterm.specs.Term.{both}
use Rattle.df_nterm.specs.Term as ops
use Rattle.df_nterm.specs.Expressions.{joined}

-- each local that has a value by the flow has another term
abbrev pub SetAll : Environment → Assigned → Type 0
SetAll env before = (k : ℕ) → has_value before k ≡ true → is_unset (env k) ≡ false

abbrev pub AllHold : Interpretation → List Condition → Type 0
AllHold i cs = AllByRecursion (λ (c : Condition). truth i c.formula ≡ true) cs

pub free_set : (ty : Ty) (n : ℕ) → is_unset (free_of n ty) ≡ false
free_set ty n = refl

-- ---- characters

no_code : (i : Interpretation) (a : Term) → a ≡ literal (negsuc 0) → truth i (both (at_most (literal (pos 0)) a) (at_most a (literal (pos 127)))) ≡ true → ⊥
no_code i a e h = false≢true (subst (λ (x : Term). truth i (both (at_most (literal (pos 0)) x) (at_most x (literal (pos 127)))) ≡ true) e h)

chr_set : (a : Term) → same_term a (literal (negsuc 0)) ≡ false → is_unset (of_one ops.Chr a) ≡ false
chr_set a e = ap (λ (b : Bool). b && true) e

code_set : (a : Term) → is_unset a ≡ false → is_unset (of_one ops.Code a) ≡ false
code_set a h = ap (λ (b : Bool). ((b && true) || false) || false) (or_parts (same_term a (some_term ops.Numbers) || same_term a (some_term ops.Truths)) (same_term a (some_term ops.Characters)) h).1

number_set : (source : Ty) (a : Term) → is_unset a ≡ false → is_unset (number_in source a) ≡ false
number_set types.Char a h = code_set a h
number_set source a h = h

value_set : (i : Interpretation) (target : Ty) (at : Pos) (a : Term) → is_unset a ≡ false → AllHold i (under None (in_range target at a)) → is_unset (value_in target a) ≡ false
value_set i types.Char at a h holds = chr_set a (false_from_ne_true (same_term a (literal (negsuc 0))) (λ e. no_code i a (term_is a (literal (negsuc 0)) e) holds.0))
value_set i target at a h holds = h

-- ---- operators

summed_set : (operator : AddendOperator) (a b : Term) → is_unset (summed operator a b) ≡ false
summed_set addends.Plus a b = refl
summed_set addends.Minus a b = refl

multiplied_set : (operator : FactorOperator) (a b : Term) → is_unset (multiplied operator a b) ≡ false
multiplied_set factors.Times a b = refl
multiplied_set operator a b = refl

equal_set : (ty : Ty) (a b : Term) → is_unset (equal_in ty a b) ≡ false
equal_set types.Bool a b = refl
equal_set ty a b = refl

compared_set : (ty : Ty) (comparison : Comparison) (a b : Term) → is_unset (compared ty comparison a b) ≡ false
compared_set ty comparisons.Equal a b = equal_set ty a b
compared_set ty comparison a b = refl

module _ (env : Environment) where
  sum_set : (a : Term) (rest : Addends) → is_unset a ≡ false → is_unset (sum_of env a rest) ≡ false
  sum_set a no_addend h = h
  sum_set a (addend operator at operand rest) h = sum_set (summed operator a (term_of env operand)) rest (summed_set operator a (term_of env operand))

  product_set : (a : Term) (rest : Factors) → is_unset a ≡ false → is_unset (product_of env a rest) ≡ false
  product_set a no_factor h = h
  product_set a (factor operator at operand rest) h = product_set (multiplied operator a (term_of env operand)) rest (multiplied_set operator a (term_of env operand))

  junction_set : (junction : JunctionKind) (a : Term) (rest : Members) → is_unset a ≡ false → is_unset (joined junction (term a (members_of env rest))) ≡ false
  junction_set junctions.And a no_member h = h
  junction_set junctions.Or a no_member h = h
  junction_set junction a rest h = refl

  implication_set : (a : Term) (rest : Members) → is_unset a ≡ false → is_unset (implication_of env a rest) ≡ false
  implication_set a no_member h = h
  implication_set a (member at operand rest) h = refl

  equivalence_set : (a : Term) (rest : Members) → is_unset a ≡ false → is_unset (equivalence_of env a rest) ≡ false
  equivalence_set a no_member h = h
  equivalence_set a (member at operand rest) h = equivalence_set (iff a (term_of env operand)) rest refl

  chain_set : (ty : Ty) (a : Term) (rest : Links) → is_unset (conjunction (comparisons_of env ty a rest)) ≡ false
  chain_set ty a no_link = refl
  chain_set ty a (link comparison at operand no_link) = compared_set ty comparison a (term_of env operand)
  chain_set ty a (link comparison at operand (link more there other rest)) = refl

-- ---- expressions

module _ (i : Interpretation) (env : Environment) (before : Assigned) (set : SetAll env before) where
  pub is_set : (e : Expr) → unassigned before (reads e) ≡ [] → AllHold i (conditions_of env e) → is_unset (term_of env e) ≡ false
  is_set (Number ty value at) read h = refl
  is_set (Truth true at) read h = refl
  is_set (Truth false at) read h = refl
  is_set (Character code at) read h = chr_set (literal (pos code)) refl
  is_set (Local local name at) read h = set local (use_has before (record { local = local; name = name; pos = at }) [] read)
  is_set (Negate ty at operand) read h = refl
  is_set (Not at operand) read h = refl
  is_set (Sum ty first rest) read h =
      sum_set env (term_of env first) rest (is_set first (parted before (reads first) (reads_of_addends rest) read).0 (all_left _ (conditions_of env first) (conditions_of_addends env None ty (term_of env first) rest) h))
  is_set (Product ty first rest) read h =
      product_set env (term_of env first) rest (is_set first (parted before (reads first) (reads_of_factors rest) read).0 (all_left _ (conditions_of env first) (conditions_of_factors env None ty (term_of env first) rest) h))
  is_set (Junction junction first rest) read h =
      junction_set env junction (term_of env first) rest (is_set first (parted before (reads first) (reads_of_members rest) read).0 (all_left _ (conditions_of env first) (conditions_of_junction env None junction (term_of env first) rest) h))
  is_set (Implies arrow first rest) read h =
      implication_set env (term_of env first) rest (is_set first (parted before (reads first) (reads_of_members rest) read).0 (all_left _ (conditions_of env first) (conditions_of_implication env None (term_of env first) rest) h))
  is_set (Iff first rest) read h =
      equivalence_set env (term_of env first) rest (is_set first (parted before (reads first) (reads_of_members rest) read).0 (all_left _ (conditions_of env first) (conditions_of_members env None rest) h))
  is_set (Chain ty first rest) read h = chain_set env ty (term_of env first) rest
  is_set (As source target at operand) read h =
      let a = term_of env operand in
      let asked = in_range target at (number_in source a) in
      value_set i target at (number_in source a) (number_set source a (is_set operand read (all_left _ (conditions_of env operand) (under None asked) h))) (all_right _ (conditions_of env operand) (under None asked) h)
  is_set (Convert source target at operand) read h =
      is_set operand read (all_left _ (conditions_of env operand) (under None (narrowing source target at (term_of env operand))) h)
