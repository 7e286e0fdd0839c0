-- Terms whose free terms have numbers below one: their values depend on these alone.
use Rattle.std.proofs.Common.{◌≡◌, ℕ, ◌≤◌, pos, nat_lt, Bool, true, false, ◌&&◌, List, [], ◌∷◌, ◌++◌, Option, None, Some, slice_index_or, refl, ap, ◌∙◌, arith}
use Rattle.std.specs.List.{AllByRecursion}
use Rattle.df_base.specs.declared.pos.Pos.{Pos}
use Rattle.df_lang.specs.declared.ty.Ty.{Ty}
use Rattle.df_lang.specs.declared.ty.Ty.TheVariants as types
use Rattle.df_lang.specs.declared.expr.AddendOperator.{AddendOperator}
use Rattle.df_lang.specs.declared.expr.AddendOperator.TheVariants as addends
use Rattle.df_lang.specs.declared.expr.FactorOperator.{FactorOperator}
use Rattle.df_lang.specs.declared.expr.FactorOperator.TheVariants as factors
use Rattle.df_lang.specs.declared.expr.Junction.{Junction as JunctionKind}
use Rattle.df_lang.specs.declared.expr.Junction.TheVariants as junctions
use Rattle.df_lang.specs.declared.expr.Comparison.{Comparison}
use Rattle.df_lang.specs.declared.expr.Comparison.TheVariants as comparisons
use Rattle.df_lang.specs.Expr.{Expr, Number, Truth, Character, Local, Negate, Not, Sum, Product, Junction, Implies, Iff, Chain, As, Convert, Addends, no_addend, addend, Factors, no_factor, factor, Members, no_member, member, Links, no_link, link}
use Rattle.df_meaning.specs.Value.{Value, Number as NumberValue}
use Rattle.df_meaning.specs.Value as values
use Rattle.df_meaning.specs.Types.{has_type}
use Rattle.df_nterm.specs.Term.{Free, Op, Term, node, Terms, no_term, term, conjunction, disjunction, truth_term, literal, negative, iff}
use Rattle.df_nterm.specs.Term as ops
use Rattle.df_nterm.specs.Meaning.{Interpretation, apply, value}
use Rattle.df_nterm.specs.Meaning as meanings
use Rattle.df_nterm.specs.Expressions.{Environment, Condition, term_of, sum_of, product_of, members_of, implication_of, equivalence_of, comparisons_of, summed, multiplied, number_in, value_in, compared, equal_in, joined, goes_on, on_path, narrowed_path, under, in_range, divides, narrowing, conditions_under, conditions_of, conditions_of_addends, conditions_of_factors, conditions_of_junction, conditions_of_implication, conditions_of_members, conditions_of_links}
use Rattle.df_meaning.proofs.Cases.{both, joined as and_joined}

abbrev pub op_below : ℕ → Op → Bool
op_below n (ops.FreeTerm free) = nat_lt free.number n
op_below n op = true

abbrev mutual
  pub below : ℕ → Term → Bool
  below n (node op parts) = op_below n op && all_below n parts

  pub all_below : ℕ → Terms → Bool
  all_below n no_term = true
  all_below n (term a others) = below n a && all_below n others

abbrev pub IsBelow : ℕ → Term → Type 0
IsBelow n a = below n a ≡ true

-- the two give free terms below a number the same values
pub record SameBelow (n : ℕ) (i j : Interpretation) : Type 0 where
  pub program : i.program ≡ j.program
  pub free : (free : Free) → nat_lt free.number n ≡ true → i.value free ≡ j.value free

module _ (n : ℕ) (i j : Interpretation) (same : SameBelow n i j) where
  apply_same : (op : Op) (vs : List Value) → op_below n op ≡ true → apply i op vs ≡ apply j op vs
  apply_same (ops.FreeTerm free) vs h = same.free free h
  apply_same (ops.Is ty) vs h = ap (λ p. values.Truth (has_type p ty (slice_index_or vs 0 (NumberValue (pos 0))))) same.program
  apply_same (ops.Number z) vs h = refl
  apply_same ops.Plus vs h = refl
  apply_same ops.Times vs h = refl
  apply_same ops.Div vs h = refl
  apply_same ops.Mod vs h = refl
  apply_same ops.Code vs h = refl
  apply_same ops.Chr vs h = refl
  apply_same ops.Equal vs h = refl
  apply_same ops.AtMost vs h = refl
  apply_same ops.Not vs h = refl
  apply_same ops.And vs h = refl
  apply_same ops.Or vs h = refl
  apply_same ops.Implies vs h = refl
  apply_same ops.Iff vs h = refl

  mutual
    pub value_same : (a : Term) → IsBelow n a → value i a ≡ value j a
    value_same (node op parts) h =
        let h = both (op_below n op) (all_below n parts) h in
        apply_same op (meanings.values i parts) h.0 ∙ ap (apply j op) (values_same parts h.1)

    values_same : (parts : Terms) → all_below n parts ≡ true → meanings.values i parts ≡ meanings.values j parts
    values_same no_term h = refl
    values_same (term a others) h =
        let h = both (below n a) (all_below n others) h in
        ap (λ v. v ∷ meanings.values i others) (value_same a h.0) ∙ ap (λ vs. value j a ∷ vs) (values_same others h.1)

module _ (n m : ℕ) (more : n ≤ m) where
  op_grows : (op : Op) → op_below n op ≡ true → op_below m op ≡ true
  op_grows (ops.FreeTerm free) h = grind (arith, more)
  op_grows (ops.Is ty) h = refl
  op_grows (ops.Number z) h = refl
  op_grows ops.Plus h = refl
  op_grows ops.Times h = refl
  op_grows ops.Div h = refl
  op_grows ops.Mod h = refl
  op_grows ops.Code h = refl
  op_grows ops.Chr h = refl
  op_grows ops.Equal h = refl
  op_grows ops.AtMost h = refl
  op_grows ops.Not h = refl
  op_grows ops.And h = refl
  op_grows ops.Or h = refl
  op_grows ops.Implies h = refl
  op_grows ops.Iff h = refl

  mutual
    pub below_grows : (a : Term) → IsBelow n a → IsBelow m a
    below_grows (node op parts) h =
        let h = both (op_below n op) (all_below n parts) h in and_joined (op_below m op) (all_below m parts) (op_grows op h.0) (all_grow parts h.1)

    all_grow : (parts : Terms) → all_below n parts ≡ true → all_below m parts ≡ true
    all_grow no_term h = refl
    all_grow (term a others) h =
        let h = both (below n a) (all_below n others) h in and_joined (below m a) (all_below m others) (below_grows a h.0) (all_grow others h.1)

module _ (n : ℕ) where
  abbrev pub AreBelow : List Condition → Type 0
  AreBelow conditions = AllByRecursion (λ (c : Condition). IsBelow n c.formula) conditions

  pub append_below : (cs ds : List Condition) → AreBelow cs → AreBelow ds → AreBelow (cs ++ ds)
  append_below [] ds h g = g
  append_below (c ∷ cs) ds h g = (h.0, append_below cs ds h.1 g)

  -- of two terms
  pub two_below : (a b : Term) → IsBelow n a → IsBelow n b → (below n a && (below n b && true)) ≡ true
  two_below a b h g = rw (h, g) refl

  abbrev pub PathBelow : Option Term → Type 0
  PathBelow None = Unit {0}
  PathBelow (Some path) = IsBelow n path

  pub on_path_below : (path : Option Term) (formula : Term) → PathBelow path → IsBelow n formula → IsBelow n (on_path path formula)
  on_path_below None formula h g = g
  on_path_below (Some path) formula h g = two_below path formula h g

  pub narrowed_below : (path : Option Term) (formula : Term) → PathBelow path → IsBelow n formula → IsBelow n (narrowed_path path formula)
  narrowed_below None formula h g = g
  narrowed_below (Some path) formula h g = two_below path formula h g

  pub under_below : (path : Option Term) (cs : List Condition) → PathBelow path → AreBelow cs → AreBelow (under path cs)
  under_below path [] h g = tt
  under_below path (c ∷ cs) h g = (on_path_below path c.formula h g.0, under_below path cs h g.1)

  one_below : (a : Term) → IsBelow n a → (below n a && true) ≡ true
  one_below a h = rw (h) refl

  truth_below : (b : Bool) → IsBelow n (truth_term b)
  truth_below true = refl
  truth_below false = refl

  summed_below : (o : AddendOperator) (a b : Term) → IsBelow n a → IsBelow n b → IsBelow n (summed o a b)
  summed_below addends.Plus a b h g = two_below a b h g
  summed_below addends.Minus a b h g = rw (h, g) refl

  multiplied_below : (o : FactorOperator) (a b : Term) → IsBelow n a → IsBelow n b → IsBelow n (multiplied o a b)
  multiplied_below factors.Times a b h g = two_below a b h g
  multiplied_below factors.Divide a b h g = two_below a b h g
  multiplied_below factors.Modulo a b h g = two_below a b h g

  number_below : (ty : Ty) (a : Term) → IsBelow n a → IsBelow n (number_in ty a)
  number_below types.Char a h = one_below a h
  number_below types.Int a h = h
  number_below types.Nat a h = h
  number_below types.Bool a h = h
  number_below (types.Newtype id) a h = h

  cast_below : (ty : Ty) (a : Term) → IsBelow n a → IsBelow n (value_in ty a)
  cast_below types.Char a h = one_below a h
  cast_below types.Int a h = h
  cast_below types.Nat a h = h
  cast_below types.Bool a h = h
  cast_below (types.Newtype id) a h = h

  pub equal_below : (ty : Ty) (a b : Term) → IsBelow n a → IsBelow n b → IsBelow n (equal_in ty a b)
  equal_below types.Bool a b h g = two_below a b h g
  equal_below types.Char a b h g = two_below a b h g
  equal_below types.Int a b h g = two_below a b h g
  equal_below types.Nat a b h g = two_below a b h g
  equal_below (types.Newtype id) a b h g = two_below a b h g

  -- the negation of what compares two terms
  less_below : (a b : Term) → IsBelow n a → IsBelow n b → ((below n b && (below n a && true)) && true) ≡ true
  less_below a b h g = rw (h, g) refl

  compared_below : (ty : Ty) (c : Comparison) (a b : Term) → IsBelow n a → IsBelow n b → IsBelow n (compared ty c a b)
  compared_below ty comparisons.Equal a b h g = equal_below ty a b h g
  compared_below ty comparisons.NotEqual a b h g = one_below (equal_in ty a b) (equal_below ty a b h g)
  compared_below ty comparisons.Less a b h g = less_below (number_in ty a) (number_in ty b) (number_below ty a h) (number_below ty b g)
  compared_below ty comparisons.AtMost a b h g = two_below (number_in ty a) (number_in ty b) (number_below ty a h) (number_below ty b g)
  compared_below ty comparisons.Greater a b h g = less_below (number_in ty b) (number_in ty a) (number_below ty b g) (number_below ty a h)
  compared_below ty comparisons.AtLeast a b h g = two_below (number_in ty b) (number_in ty a) (number_below ty b g) (number_below ty a h)

  pub conjunction_below : (parts : Terms) → all_below n parts ≡ true → IsBelow n (conjunction parts)
  conjunction_below no_term h = refl
  conjunction_below (term a no_term) h = (both (below n a) true h).0
  conjunction_below (term a (term b others)) h = h

  pub disjunction_below : (parts : Terms) → all_below n parts ≡ true → IsBelow n (disjunction parts)
  disjunction_below no_term h = refl
  disjunction_below (term a no_term) h = (both (below n a) true h).0
  disjunction_below (term a (term b others)) h = h

  joined_below : (j : JunctionKind) (parts : Terms) → all_below n parts ≡ true → IsBelow n (joined j parts)
  joined_below junctions.And parts h = conjunction_below parts h
  joined_below junctions.Or parts h = disjunction_below parts h

  goes_on_below : (j : JunctionKind) (a : Term) → IsBelow n a → IsBelow n (goes_on j a)
  goes_on_below junctions.And a h = h
  goes_on_below junctions.Or a h = one_below a h

  range_below : (ty : Ty) (at : Pos) (a : Term) → IsBelow n a → AreBelow (in_range ty at a)
  range_below (types.Newtype id) at a h = (one_below a h, tt)
  range_below types.Nat at a h = (one_below a h, tt)
  range_below types.Char at a h = (rw (h) refl, tt)
  range_below types.Int at a h = tt
  range_below types.Bool at a h = tt

  divides_below : (o : FactorOperator) (at : Pos) (b : Term) → IsBelow n b → AreBelow (divides o at b)
  divides_below factors.Times at b h = tt
  divides_below factors.Divide at b h = (rw (h) refl, tt)
  divides_below factors.Modulo at b h = (rw (h) refl, tt)

  pub narrowing_below : (source target : Ty) (at : Pos) (a : Term) → IsBelow n a → AreBelow (narrowing source target at a)
  narrowing_below types.Int types.Nat at a h = (one_below a h, tt)
  narrowing_below types.Int types.Int at a h = tt
  narrowing_below types.Int types.Bool at a h = tt
  narrowing_below types.Int types.Char at a h = tt
  narrowing_below types.Int (types.Newtype id) at a h = tt
  narrowing_below types.Nat target at a h = tt
  narrowing_below types.Bool target at a h = tt
  narrowing_below types.Char target at a h = tt
  narrowing_below (types.Newtype id) target at a h = tt

module _ (n : ℕ) (env : Environment) (h : (local : ℕ) → IsBelow n (env local)) where
  mutual
    pub term_below : (e : Expr) → IsBelow n (term_of env e)
    term_below (Number ty z at) = refl
    term_below (Truth b at) = truth_below n b
    term_below (Character code at) = refl
    term_below (Local local name at) = h local
    term_below (Negate ty at operand) = rw (term_below operand) refl
    term_below (Not at operand) = one_below n (term_of env operand) (term_below operand)
    term_below (Sum ty first rest) = sum_below (term_of env first) rest (term_below first)
    term_below (Product ty first rest) = product_below (term_of env first) rest (term_below first)
    term_below (Junction junction first rest) = joined_below n junction (term (term_of env first) (members_of env rest)) (and_joined _ _ (term_below first) (members_below rest))
    term_below (Implies arrow first rest) = implication_below (term_of env first) rest (term_below first)
    term_below (Iff first rest) = equivalence_below (term_of env first) rest (term_below first)
    term_below (Chain ty first rest) = conjunction_below n (comparisons_of env ty (term_of env first) rest) (comparisons_below ty (term_of env first) rest (term_below first))
    term_below (As source target at operand) = cast_below n target (number_in source (term_of env operand)) (number_below n source (term_of env operand) (term_below operand))
    term_below (Convert source target at operand) = term_below operand

    sum_below : (a : Term) (rest : Addends) → IsBelow n a → IsBelow n (sum_of env a rest)
    sum_below a no_addend g = g
    sum_below a (addend o at operand rest) g = sum_below (summed o a (term_of env operand)) rest (summed_below n o a (term_of env operand) g (term_below operand))

    product_below : (a : Term) (rest : Factors) → IsBelow n a → IsBelow n (product_of env a rest)
    product_below a no_factor g = g
    product_below a (factor o at operand rest) g = product_below (multiplied o a (term_of env operand)) rest (multiplied_below n o a (term_of env operand) g (term_below operand))

    members_below : (rest : Members) → all_below n (members_of env rest) ≡ true
    members_below no_member = refl
    members_below (member at operand rest) = and_joined _ _ (term_below operand) (members_below rest)

    implication_below : (a : Term) (rest : Members) → IsBelow n a → IsBelow n (implication_of env a rest)
    implication_below a no_member g = g
    implication_below a (member at operand rest) g = two_below n a (implication_of env (term_of env operand) rest) g (implication_below (term_of env operand) rest (term_below operand))

    equivalence_below : (a : Term) (rest : Members) → IsBelow n a → IsBelow n (equivalence_of env a rest)
    equivalence_below a no_member g = g
    equivalence_below a (member at operand rest) g = equivalence_below (iff a (term_of env operand)) rest (two_below n a (term_of env operand) g (term_below operand))

    comparisons_below : (ty : Ty) (a : Term) (rest : Links) → IsBelow n a → all_below n (comparisons_of env ty a rest) ≡ true
    comparisons_below ty a no_link g = refl
    comparisons_below ty a (link c at operand rest) g = and_joined _ _ (compared_below n ty c a (term_of env operand) g (term_below operand)) (comparisons_below ty (term_of env operand) rest (term_below operand))

  mutual
    path_conditions_below : (e : Expr) (path : Option Term) → PathBelow n path → AreBelow n (conditions_under env path e)
    path_conditions_below (Number ty z at) path p = under_below n path _ p (range_below n ty at (literal z) refl)
    path_conditions_below (Truth b at) path p = tt
    path_conditions_below (Character code at) path p = tt
    path_conditions_below (Local local name at) path p = tt
    path_conditions_below (Negate ty at operand) path p =
        append_below n (conditions_under env path operand) _ (path_conditions_below operand path p) (under_below n path _ p (range_below n ty at (negative (term_of env operand)) (rw (term_below operand) refl)))
    path_conditions_below (Not at operand) path p = path_conditions_below operand path p
    path_conditions_below (Sum ty first rest) path p = append_below n (conditions_under env path first) _ (path_conditions_below first path p) (addends_below ty (term_of env first) rest path p (term_below first))
    path_conditions_below (Product ty first rest) path p = append_below n (conditions_under env path first) _ (path_conditions_below first path p) (factors_below ty (term_of env first) rest path p (term_below first))
    path_conditions_below (Junction junction first rest) path p = append_below n (conditions_under env path first) _ (path_conditions_below first path p) (junction_below junction (term_of env first) rest path p (term_below first))
    path_conditions_below (Implies arrow first rest) path p = append_below n (conditions_under env path first) _ (path_conditions_below first path p) (implications_below (term_of env first) rest path p (term_below first))
    path_conditions_below (Iff first rest) path p = append_below n (conditions_under env path first) _ (path_conditions_below first path p) (equivalences_below rest path p)
    path_conditions_below (Chain ty first rest) path p = append_below n (conditions_under env path first) _ (path_conditions_below first path p) (links_below ty (term_of env first) rest path p (term_below first))
    path_conditions_below (As source target at operand) path p =
        append_below n (conditions_under env path operand) _ (path_conditions_below operand path p)
        (under_below n path _ p (range_below n target at (number_in source (term_of env operand)) (number_below n source (term_of env operand) (term_below operand))))
    path_conditions_below (Convert source target at operand) path p =
        append_below n (conditions_under env path operand) _ (path_conditions_below operand path p) (under_below n path _ p (narrowing_below n source target at (term_of env operand) (term_below operand)))

    addends_below : (ty : Ty) (a : Term) (rest : Addends) (path : Option Term) → PathBelow n path → IsBelow n a → AreBelow n (conditions_of_addends env path ty a rest)
    addends_below ty a no_addend path p g = tt
    addends_below ty a (addend o at operand rest) path p g =
        let total = summed_below n o a (term_of env operand) g (term_below operand) in
        append_below n (conditions_under env path operand) _ (path_conditions_below operand path p)
        (append_below n (under path (in_range ty at (summed o a (term_of env operand)))) _ (under_below n path _ p (range_below n ty at (summed o a (term_of env operand)) total)) (addends_below ty (summed o a (term_of env operand)) rest path p total))

    factors_below : (ty : Ty) (a : Term) (rest : Factors) (path : Option Term) → PathBelow n path → IsBelow n a → AreBelow n (conditions_of_factors env path ty a rest)
    factors_below ty a no_factor path p g = tt
    factors_below ty a (factor o at operand rest) path p g =
        let result = multiplied_below n o a (term_of env operand) g (term_below operand) in
        append_below n (conditions_under env path operand) _ (path_conditions_below operand path p)
        (append_below n (under path (divides o at (term_of env operand) ++ in_range ty at (multiplied o a (term_of env operand)))) _
        (under_below n path _ p (append_below n (divides o at (term_of env operand)) _ (divides_below n o at (term_of env operand) (term_below operand)) (range_below n ty at (multiplied o a (term_of env operand)) result)))
        (factors_below ty (multiplied o a (term_of env operand)) rest path p result))

    junction_below : (j : JunctionKind) (a : Term) (rest : Members) (path : Option Term) → PathBelow n path → IsBelow n a → AreBelow n (conditions_of_junction env path j a rest)
    junction_below j a no_member path p g = tt
    junction_below j a (member at operand rest) path p g =
        let on : Option Term = Some (narrowed_path path (goes_on j a)) in
        let is = narrowed_below n path (goes_on j a) p (goes_on_below n j a g) in
        append_below n (conditions_under env on operand) _ (path_conditions_below operand on is) (junction_below j (term_of env operand) rest on is (term_below operand))

    implications_below : (a : Term) (rest : Members) (path : Option Term) → PathBelow n path → IsBelow n a → AreBelow n (conditions_of_implication env path a rest)
    implications_below a no_member path p g = tt
    implications_below a (member at operand rest) path p g =
        let on : Option Term = Some (narrowed_path path a) in
        let is = narrowed_below n path a p g in
        append_below n (conditions_under env on operand) _ (path_conditions_below operand on is) (implications_below (term_of env operand) rest on is (term_below operand))

    equivalences_below : (rest : Members) (path : Option Term) → PathBelow n path → AreBelow n (conditions_of_members env path rest)
    equivalences_below no_member path p = tt
    equivalences_below (member at operand rest) path p = append_below n (conditions_under env path operand) _ (path_conditions_below operand path p) (equivalences_below rest path p)

    links_below : (ty : Ty) (a : Term) (rest : Links) (path : Option Term) → PathBelow n path → IsBelow n a → AreBelow n (conditions_of_links env path ty a rest)
    links_below ty a no_link path p g = tt
    links_below ty a (link c at operand rest) path p g =
        append_below n (conditions_under env path operand) _ (path_conditions_below operand path p)
        (links_below ty (term_of env operand) rest (Some (narrowed_path path (compared ty c a (term_of env operand))))
        (narrowed_below n path (compared ty c a (term_of env operand)) p (compared_below n ty c a (term_of env operand) g (term_below operand))) (term_below operand))

  pub conditions_below : (e : Expr) → AreBelow n (conditions_of env e)
  conditions_below e = path_conditions_below e None tt
