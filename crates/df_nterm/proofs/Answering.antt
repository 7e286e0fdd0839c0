-- Evaluation is what conditions and terms say.
use Rattle.std.proofs.Common.{◌≡◌, inl, inr, ℕ, ℤ, pos, negsuc, neg_ℤ, ◌+ℤ◌, ◌-ℤ◌, ◌*ℤ◌, int_le, int_lt, nat_lt, Bool, true, false, not, ◌&&◌, ◌||◌, if◌then◌else◌, List, [], ◌∷◌, ◌++◌, Option, None, Some, refl, sym, ap, subst, ◌∙◌, arith}
use Rattle.std.specs.Ordering.{int_eq}
use Rattle.std.proofs.lemmas.Int.{ints}
use Rattle.std.specs.Int.{int_div_euclid, int_rem_euclid}
use Rattle.std.specs.List.{list_all, list_any}
use Rattle.df_base.specs.declared.pos.Pos.{Pos}
use Rattle.df_lang.specs.declared.ty.Ty.{Ty}
use Rattle.df_lang.specs.declared.ty.Ty.TheVariants as types
use Rattle.df_lang.specs.declared.expr.AddendOperator.{AddendOperator}
use Rattle.df_lang.specs.declared.expr.AddendOperator.TheVariants as addends
use Rattle.df_lang.specs.declared.expr.FactorOperator.{FactorOperator}
use Rattle.df_lang.specs.declared.expr.FactorOperator.TheVariants as factors
use Rattle.df_lang.specs.declared.expr.Junction.{Junction as JunctionKind}
use Rattle.df_lang.specs.declared.expr.Junction.TheVariants as junctions
use Rattle.df_lang.specs.declared.expr.Comparison.{Comparison}
use Rattle.df_lang.specs.declared.expr.Comparison.TheVariants as comparisons
use Rattle.df_lang.specs.Expr.{Expr, Number, Truth, Character, Local, Negate, Not, Sum, Product, Junction, Implies, Iff, Chain, As, Convert, Addends, no_addend, addend, Factors, no_factor, factor, Members, no_member, member, Links, no_link, link}
use Rattle.df_lang.specs.Newtype.{same_type}
use Rattle.df_lang.specs.Typing.{is_integer, is_arithmetic, casts, converts, compares, is_expr, are_addends, are_factors, are_members, are_links}
use Rattle.df_lang.specs.Assignment.{reads, reads_of_addends, reads_of_factors, reads_of_members, reads_of_links}
use Rattle.df_meaning.specs.declared.kind.Kind.TheVariants as kinds
use Rattle.df_meaning.specs.Value.{Value, number_of, truth_of, same_truth, same_value}
use Rattle.df_meaning.specs.Value as values
use Rattle.df_meaning.specs.Types.{is_in}
use Rattle.df_meaning.specs.Outcome.{Outcome, Gives, Wrong, after}
use Rattle.df_meaning.specs.State.{State}
use Rattle.df_meaning.specs.Meaning.{Meaning}
use Rattle.df_meaning.specs.Evaluation as meant
use Rattle.df_meaning.specs.Evaluation.{as_type, converted, compare, decides, value_of_local, evaluate, evaluate_addends, evaluate_factors, evaluate_junction, evaluate_implications, evaluate_equivalences, evaluate_links}
use Rattle.df_meaning.proofs.Cases.{both, three, four}
use Rattle.df_meaning.proofs.Types.{same_type_equal}
use Rattle.df_nterm.specs.Term.{Term, Terms, no_term, term, literal, negative, iff, sort_of_type, Numbers, Truths}
use Rattle.df_nterm.specs.Meaning.{Interpretation, has_sort, value, truth, number}
use Rattle.df_nterm.specs.Meaning as meanings
use Rattle.df_nterm.specs.Expressions.{Environment, Condition, term_of, sum_of, product_of, members_of, implication_of, equivalence_of, comparisons_of, summed, multiplied, number_in, value_in, compared, joined, goes_on, narrowed_path, under, in_range, divides, narrowing, conditions_under, conditions_of_addends, conditions_of_factors, conditions_of_junction, conditions_of_implication, conditions_of_members, conditions_of_links}
use Rattle.df_nterm.specs.Laws.{told}
use Rattle.df_nterm.proofs.Told.{all_left, all_right, IsOr, or_as, or_on, or_step}
use Rattle.df_nterm.proofs.Paths.{path_true, narrowed_true, told_on, told_true, true_append, conditions_off, junction_off, implication_off, links_off}
use Rattle.df_nterm.proofs.Sorted.{Holds, HoldsOn, IsSorted, truth_form, number_form, integer_sort, arithmetic_integer, compared_form, conjunction_form, implication_sorted, number_sorted, truth_term_form, term_sorted}

if_same : {A : Type 0} (b c : Bool) (x y z : A) → b ≡ c → (b ≡ true → x ≡ y) → (if b then x else z) ≡ (if c then y else z)
if_same true c x y z e h = rw (← e) (h refl)
if_same false c x y z e h = rw (← e) refl

and_true : (b : Bool) → (b && true) ≡ b
and_true true = refl
and_true false = refl

or_false : (b : Bool) → (b || false) ≡ b
or_false true = refl
or_false false = refl

module _ (i : Interpretation) where
  -- ---- what is asked of numbers

  -- a number of an integer type
  range_told : (ty : Ty) (at : Pos) (a : Term) (z : ℤ) → sort_of_type ty ≡ Numbers → value i a ≡ values.Number z
      → meant.in_range i.program ty at z ≡ told i (in_range ty at a) (Gives (values.Number z))
  range_told (types.Newtype id) at a z sort e = rw (e) refl
  range_told types.Int at a z sort e = refl
  range_told types.Nat at a z sort e = rw (e) refl
  range_told types.Bool at a z sort e = cc
  range_told types.Char at a z sort e = cc

  code_value : (z : ℤ) → is_in i.program types.Char z ≡ true → meant.value_in types.Char z ≡ meanings.character_of z
  code_value (pos c) e = rw (e) refl
  code_value (negsuc n) e = cc

  cast_told : (source target : Ty) (at : Pos) (a : Term) (z : ℤ) → casts i.program source target ≡ true → value i a ≡ values.Number z
      → as_type i.program target at z ≡ told i (in_range target at a) (Gives (value i (value_in target a)))
  cast_told source (types.Newtype id) at a z c e = rw (e) refl
  cast_told source types.Int at a z c e = rw (e) refl
  cast_told source types.Nat at a z c e = rw (e) refl
  cast_told source types.Char at a z c e = rw (e) (if_same _ _ _ _ _ (ap (λ b. int_le (pos 0) z && b) (sym (and_true (int_le z (pos 127))))) (λ in_it. ap Gives (code_value z in_it)))
  cast_told types.Char types.Bool at a z c e = cc
  cast_told types.Int types.Bool at a z c e = cc
  cast_told types.Nat types.Bool at a z c e = cc
  cast_told types.Bool types.Bool at a z c e = cc
  cast_told (types.Newtype id) types.Bool at a z c e = absurd (no_cast (is_integer i.program (types.Newtype id)) c)
    where
      no_cast : (b : Bool) → (b && false) ≡ true → ⊥
      no_cast true e = cc
      no_cast false e = cc

  pub conversion_told : (source target : Ty) (at : Pos) (a : Term) → IsSorted source (value i a)
      → converted i.program source target at (value i a) ≡ told i (narrowing source target at a) (Gives (value i a))
  conversion_told types.Int types.Nat at a h = rw (number_form (value i a) h) refl
  conversion_told types.Int (types.Newtype id) at a h = refl
  conversion_told types.Int types.Int at a h = refl
  conversion_told types.Int types.Bool at a h = refl
  conversion_told types.Int types.Char at a h = refl
  conversion_told (types.Newtype id) target at a h = refl
  conversion_told types.Nat target at a h = refl
  conversion_told types.Bool target at a h = refl
  conversion_told types.Char target at a h = refl

  number_value : (source : Ty) (target : Ty) (a : Term) → casts i.program source target ≡ true → IsSorted source (value i a) → value i (number_in source a) ≡ values.Number (number i a)
  number_value types.Char target a c h = refl
  number_value types.Int target a c h = number_form (value i a) h
  number_value types.Nat target a c h = number_form (value i a) h
  number_value (types.Newtype id) target a c h = number_form (value i a) h
  number_value types.Bool target a c h = number_form (value i a) (number_sorted i i.program types.Bool target a c h)

  negative_value : (a : Term) → value i (negative a) ≡ values.Number (neg_ℤ (number i a))
  negative_value a = ap values.Number (by_one (number i a))
    where
      by_one : (z : ℤ) → (negsuc 0 *ℤ z) ≡ neg_ℤ z
      by_one z = omega (arith, ints)

  summed_value : (o : AddendOperator) (a b : Term) → value i (summed o a b) ≡ values.Number (meant.summed o (number i a) (number i b))
  summed_value addends.Plus a b = refl
  summed_value addends.Minus a b = ap values.Number (by_minus (number i a) (number i b))
    where
      by_minus : (y z : ℤ) → (y +ℤ (negsuc 0 *ℤ z)) ≡ (y -ℤ z)
      by_minus y z = omega (arith, ints)

  -- a product, a quotient or a remainder
  factor_told : (o : FactorOperator) (ty : Ty) (at : Pos) (a b : Term) → sort_of_type ty ≡ Numbers → has_sort Numbers (value i b) ≡ true
      → meant.multiplied i.program o ty at (number i a) (number i b) ≡ told i (divides o at b ++ in_range ty at (multiplied o a b)) (Gives (value i (multiplied o a b)))
  factor_told factors.Times ty at a b sort h = range_told ty at (multiplied factors.Times a b) _ sort refl
  factor_told factors.Divide ty at a b sort h = divided (int_eq (number i b) (pos 0)) refl
    where
      divided : (zero : Bool) → int_eq (number i b) (pos 0) ≡ zero
          → (if zero then Wrong at kinds.Divisor else meant.in_range i.program ty at (int_div_euclid (number i a) (number i b))) ≡ told i (divides factors.Divide at b ++ in_range ty at (multiplied factors.Divide a b)) (Gives (value i (multiplied factors.Divide a b)))
      divided true e = rw (number_form (value i b) h, e) refl
      divided false e = rw (number_form (value i b) h, e) (range_told ty at (multiplied factors.Divide a b) _ sort (rw (e) refl))
  factor_told factors.Modulo ty at a b sort h = divided (int_eq (number i b) (pos 0)) refl
    where
      divided : (zero : Bool) → int_eq (number i b) (pos 0) ≡ zero
          → (if zero then Wrong at kinds.Divisor else meant.in_range i.program ty at (int_rem_euclid (number i a) (number i b))) ≡ told i (divides factors.Modulo at b ++ in_range ty at (multiplied factors.Modulo a b)) (Gives (value i (multiplied factors.Modulo a b)))
      divided true e = rw (number_form (value i b) h, e) refl
      divided false e = rw (number_form (value i b) h, e) (range_told ty at (multiplied factors.Modulo a b) _ sort (rw (e) refl))

  -- ---- comparisons

  less_value : (y z : ℤ) → int_lt y z ≡ not (int_le z y)
  less_value y z = grind (arith, ints)

  number_in_value : (ty : Ty) (a : Term) → number i (number_in ty a) ≡ number i a
  number_in_value types.Char a = refl
  number_in_value types.Int a = refl
  number_in_value types.Nat a = refl
  number_in_value types.Bool a = refl
  number_in_value (types.Newtype id) a = refl

  pub equal_told : (ty : Ty) (a b : Term) → IsSorted ty (value i a) → IsSorted ty (value i b) → same_value (value i a) (value i b) ≡ truth i (compared ty comparisons.Equal a b)
  equal_told types.Bool a b h g = rw (truth_form (value i a) h, truth_form (value i b) g) refl
  equal_told types.Char a b h g = refl
  equal_told types.Int a b h g = refl
  equal_told types.Nat a b h g = refl
  equal_told (types.Newtype id) a b h g = refl

  compared_told : (ty : Ty) (c : Comparison) (a b : Term) → IsSorted ty (value i a) → IsSorted ty (value i b) → compare c (value i a) (value i b) ≡ truth i (compared ty c a b)
  compared_told ty comparisons.Equal a b h g = equal_told ty a b h g
  compared_told ty comparisons.NotEqual a b h g = ap not (equal_told ty a b h g)
  compared_told ty comparisons.Less a b h g = rw (number_in_value ty a, number_in_value ty b) (less_value (number i a) (number i b))
  compared_told ty comparisons.AtMost a b h g = rw (number_in_value ty a, number_in_value ty b) refl
  compared_told ty comparisons.Greater a b h g = rw (number_in_value ty a, number_in_value ty b) (less_value (number i b) (number i a))
  compared_told ty comparisons.AtLeast a b h g = rw (number_in_value ty a, number_in_value ty b) refl

  -- ---- junctions

  -- all are true, or one is
  abbrev connected : JunctionKind → List Value → Bool
  connected junctions.And vs = list_all truth_of vs
  connected junctions.Or vs = list_any truth_of vs

  one_value : (j : JunctionKind) (v : Value) → has_sort Truths v ≡ true → v ≡ values.Truth (connected j (v ∷ []))
  one_value junctions.And v h = truth_form v h ∙ ap values.Truth (sym (and_true (truth_of v)))
  one_value junctions.Or v h = truth_form v h ∙ ap values.Truth (sym (or_false (truth_of v)))

  joined_value : (j : JunctionKind) (a : Term) (parts : Terms) → has_sort Truths (value i a) ≡ true → value i (joined j (term a parts)) ≡ values.Truth (connected j (value i a ∷ meanings.values i parts))
  joined_value junctions.And a no_term h = one_value junctions.And (value i a) h
  joined_value junctions.And a (term b others) h = refl
  joined_value junctions.Or a no_term h = one_value junctions.Or (value i a) h
  joined_value junctions.Or a (term b others) h = refl

  decided : (j : JunctionKind) (a : Term) → truth i (goes_on j a) ≡ not (decides j (truth i a))
  decided junctions.And a = twice (truth i a)
    where
      twice : (b : Bool) → b ≡ not (not b)
      twice true = refl
      twice false = refl
  decided junctions.Or a = refl

  -- what decides a junction is its value
  decided_value : (j : JunctionKind) (v : Value) (others : List Value) → has_sort Truths v ≡ true → decides j (truth_of v) ≡ true → v ≡ values.Truth (connected j (v ∷ others))
  decided_value junctions.And v others h d = truth_form v h ∙ ap values.Truth (by_false (truth_of v) (list_all truth_of others) d)
    where
      by_false : (b c : Bool) → not b ≡ true → b ≡ (b && c)
      by_false true c e = cc
      by_false false c e = refl
  decided_value junctions.Or v others h d = truth_form v h ∙ ap values.Truth (by_true (truth_of v) (list_any truth_of others) d)
    where
      by_true : (b c : Bool) → b ≡ true → b ≡ (b || c)
      by_true true c e = refl
      by_true false c e = cc

  -- and what does not leaves it to the others
  undecided_value : (j : JunctionKind) (v : Value) (others : List Value) → decides j (truth_of v) ≡ false → connected j others ≡ connected j (v ∷ others)
  undecided_value junctions.And v others d = by_true (truth_of v) (list_all truth_of others) d
    where
      by_true : (b c : Bool) → not b ≡ false → c ≡ (b && c)
      by_true true c e = refl
      by_true false c e = cc
  undecided_value junctions.Or v others d = by_false (truth_of v) (list_any truth_of others) d
    where
      by_false : (b c : Bool) → b ≡ false → c ≡ (b || c)
      by_false true c e = cc
      by_false false c e = refl

-- a chain whose first neighbours are apart is false, else its others decide
chained : (b : Bool) (c : Bool) → (if b then c else false) ≡ (b && c)
chained true c = refl
chained false c = refl

module _ (i : Interpretation) (m : Meaning) (locals : List Ty) (env : Environment) (s : State) where
  abbrev pub over : Meaning
  over = record { program = i.program; call = m.call; turns = m.turns }

  sorted_there : (e : Expr) (ty : Ty) → is_expr i.program locals ty e ≡ true → HoldsOn i locals env s (reads e) → IsSorted ty (value i (term_of env e))
  sorted_there e ty is h = term_sorted i i.program locals env s e ty is h

  local_told : (local : ℕ) (o : Option Value) → s.locals local ≡ o → Holds i locals env s local → IsOr (value_of_local o) (Gives (value i (env local)))
  local_told local None e h = inl refl
  local_told local (Some v) e h = inr (ap Gives (sym (h.term v e)))

  -- a number is in range, and then what goes on from it
  ranged_told : {A : Type 0} (path : Option Term) → path_true i path ≡ true → (ty : Ty) (at : Pos) (a : Term) (z : ℤ) (f : Value → Outcome A) (ds : List Condition) (r : Outcome A) → sort_of_type ty ≡ Numbers → value i a ≡ values.Number z → IsOr (f (value i a)) (told i ds r)
      → IsOr (after (meant.in_range i.program ty at z) f) (told i (under path (in_range ty at a) ++ ds) r)
  ranged_told path p ty at a z f ds r sort e h =
      or_step i (under path (in_range ty at a)) ds (meant.in_range i.program ty at z) (value i a) f r
      (inr (range_told i ty at a z sort e ∙ (ap (told i (in_range ty at a)) (ap Gives (sym e)) ∙ sym (told_on i path (in_range ty at a) (Gives (value i a)) p)))) h

  mutual
    pub evaluation_told : (e : Expr) (ty : Ty) (path : Option Term) → path_true i path ≡ true → is_expr i.program locals ty e ≡ true → HoldsOn i locals env s (reads e) → IsOr (evaluate over s e) (told i (conditions_under env path e) (Gives (value i (term_of env e))))
    evaluation_told (Number own z at) ty path p is h =
        let is = both (same_type own ty) (is_integer i.program ty) is in
        inr (range_told i own at (literal z) z (rw (same_type_equal own ty is.0) (integer_sort i.program ty is.1)) refl ∙ sym (told_on i path (in_range own at (literal z)) (Gives (values.Number z)) p))
    evaluation_told (Truth b at) ty path p is h = inr (ap Gives (sym (truth_term_form i b)))
    evaluation_told (Character code at) ty path p is h =
        let is = both (same_type ty types.Char) (nat_lt code 128) is in
        inr (ap Gives (code_value i (pos code) (by_code code is.1)))
      where
        by_code : (c : ℕ) → nat_lt c 128 ≡ true → (int_le (pos 0) (pos c) && int_le (pos c) (pos 127)) ≡ true
        by_code c e = grind (arith, ints)
    evaluation_told (Local local name at) ty path p is h = local_told local (s.locals local) refl h.0
    evaluation_told (Negate own at operand) ty path p is h =
        let is = three (same_type own ty) (is_arithmetic i.program ty) (is_expr i.program locals ty operand) is in
        or_step i (conditions_under env path operand) (under path (in_range own at (negative (term_of env operand)))) (evaluate over s operand) (value i (term_of env operand)) (λ v. meant.in_range i.program own at (neg_ℤ (number_of v))) _
        (evaluation_told operand ty path p is.2 h)
        (inr (range_told i own at (negative (term_of env operand)) _ (rw (same_type_equal own ty is.0) (integer_sort i.program ty (arithmetic_integer i.program ty is.1))) (negative_value i (term_of env operand))
        ∙ (ap (told i (in_range own at (negative (term_of env operand)))) (ap Gives (sym (negative_value i (term_of env operand))))
        ∙ sym (told_on i path (in_range own at (negative (term_of env operand))) (Gives (value i (negative (term_of env operand)))) p))))
    evaluation_told (Not at operand) ty path p is h =
        let is = both (same_type ty types.Bool) (is_expr i.program locals types.Bool operand) is in
        or_on i (conditions_under env path operand) (evaluate over s operand) (value i (term_of env operand)) (λ v. Gives (values.Truth (not (truth_of v)))) _ (evaluation_told operand types.Bool path p is.1 h) (inr refl)
    evaluation_told (Sum own first rest) ty path p is h =
        let is = four (same_type own ty) (is_arithmetic i.program ty) (is_expr i.program locals ty first) (are_addends i.program locals ty rest) is in
        or_step i (conditions_under env path first) (conditions_of_addends env path own (term_of env first) rest) (evaluate over s first) (value i (term_of env first)) (λ v. evaluate_addends over s own v rest) _
        (evaluation_told first ty path p is.2 (all_left _ (reads first) _ h)) (addends_told rest own ty (term_of env first) path p is.0 (arithmetic_integer i.program ty is.1) is.3 (all_right _ (reads first) _ h))
    evaluation_told (Product own first rest) ty path p is h =
        let is = four (same_type own ty) (is_arithmetic i.program ty) (is_expr i.program locals ty first) (are_factors i.program locals ty rest) is in
        or_step i (conditions_under env path first) (conditions_of_factors env path own (term_of env first) rest) (evaluate over s first) (value i (term_of env first)) (λ v. evaluate_factors over s own v rest) _
        (evaluation_told first ty path p is.2 (all_left _ (reads first) _ h)) (factors_told rest own ty (term_of env first) path p is.0 (arithmetic_integer i.program ty is.1) is.3 (all_right _ (reads first) _ h))
    evaluation_told (Junction junction first rest) ty path p is h =
        let is = three (same_type ty types.Bool) (is_expr i.program locals types.Bool first) (are_members i.program locals rest) is in
        let sorted = sorted_there first types.Bool is.1 (all_left _ (reads first) _ h) in
        or_step i (conditions_under env path first) (conditions_of_junction env path junction (term_of env first) rest) (evaluate over s first) (value i (term_of env first)) (λ v. evaluate_junction over s junction v rest) _
        (evaluation_told first types.Bool path p is.1 (all_left _ (reads first) _ h))
        (or_as _ _ _ (junction_told rest junction (term_of env first) path p is.2 sorted (all_right _ (reads first) _ h))
        (ap (told i (conditions_of_junction env path junction (term_of env first) rest)) (ap Gives (sym (joined_value i junction (term_of env first) (members_of env rest) sorted)))))
    evaluation_told (Implies arrow first rest) ty path p is h =
        let is = three (same_type ty types.Bool) (is_expr i.program locals types.Bool first) (are_members i.program locals rest) is in
        or_step i (conditions_under env path first) (conditions_of_implication env path (term_of env first) rest) (evaluate over s first) (value i (term_of env first)) (λ v. evaluate_implications over s v rest) _
        (evaluation_told first types.Bool path p is.1 (all_left _ (reads first) _ h)) (implication_told rest (term_of env first) path p is.2 (all_right _ (reads first) _ h))
    evaluation_told (Iff first rest) ty path p is h =
        let is = three (same_type ty types.Bool) (is_expr i.program locals types.Bool first) (are_members i.program locals rest) is in
        or_step i (conditions_under env path first) (conditions_of_members env path rest) (evaluate over s first) (value i (term_of env first)) (λ v. evaluate_equivalences over s v rest) _
        (evaluation_told first types.Bool path p is.1 (all_left _ (reads first) _ h)) (equivalence_told rest (term_of env first) path p is.2 (all_right _ (reads first) _ h))
    evaluation_told (Chain own first rest) ty path p is h =
        let is = three (same_type ty types.Bool) (is_expr i.program locals own first) (are_links i.program locals own rest) is in
        let sorted = sorted_there first own is.1 (all_left _ (reads first) _ h) in
        or_step i (conditions_under env path first) (conditions_of_links env path own (term_of env first) rest) (evaluate over s first) (value i (term_of env first)) (λ v. evaluate_links over s v rest) _
        (evaluation_told first own path p is.1 (all_left _ (reads first) _ h))
        (or_as _ _ _ (links_told rest own (term_of env first) path p is.2 sorted (all_right _ (reads first) _ h))
        (ap (told i (conditions_of_links env path own (term_of env first) rest)) (ap Gives (sym (conjunction_form i (comparisons_of env own (term_of env first) rest) (one_compared own (term_of env first) rest))))))
    evaluation_told (As source target at operand) ty path p is h =
        let is = three (same_type target ty) (casts i.program source target) (is_expr i.program locals source operand) is in
        let sorted = sorted_there operand source is.2 h in
        or_step i (conditions_under env path operand) (under path (in_range target at (number_in source (term_of env operand)))) (evaluate over s operand) (value i (term_of env operand)) (λ v. as_type i.program target at (number_of v)) _
        (evaluation_told operand source path p is.2 h)
        (inr (cast_told i source target at (number_in source (term_of env operand)) (number i (term_of env operand)) is.1 (number_value i source target (term_of env operand) is.1 sorted)
        ∙ sym (told_on i path (in_range target at (number_in source (term_of env operand))) (Gives (value i (value_in target (number_in source (term_of env operand))))) p)))
    evaluation_told (Convert source target at operand) ty path p is h =
        let is = three (same_type target ty) (converts source target) (is_expr i.program locals source operand) is in
        or_step i (conditions_under env path operand) (under path (narrowing source target at (term_of env operand))) (evaluate over s operand) (value i (term_of env operand)) (converted i.program source target at) _
        (evaluation_told operand source path p is.2 h) (inr (conversion_told i source target at (term_of env operand) (sorted_there operand source is.2 h)
        ∙ sym (told_on i path (narrowing source target at (term_of env operand)) (Gives (value i (term_of env operand))) p)))

    one_compared : (ty : Ty) (a : Term) (rest : Links) (b : Term) → comparisons_of env ty a rest ≡ term b no_term → value i b ≡ values.Truth (truth i b)
    one_compared ty a no_link b e = cc
    one_compared ty a (link c at operand no_link) b e = subst (λ x. value i x ≡ values.Truth (truth i x)) (first_same e) (compared_form i ty c a (term_of env operand))
      where
        first_of : Terms → Term
        first_of no_term = b
        first_of (term x others) = x

        first_same : term (compared ty c a (term_of env operand)) no_term ≡ term b no_term → compared ty c a (term_of env operand) ≡ b
        first_same e = ap first_of e
    one_compared ty a (link c at operand (link d next other rest)) b e = cc

    addends_told : (rest : Addends) (own ty : Ty) (a : Term) (path : Option Term) → path_true i path ≡ true → same_type own ty ≡ true → is_integer i.program ty ≡ true → are_addends i.program locals ty rest ≡ true → HoldsOn i locals env s (reads_of_addends rest)
        → IsOr (evaluate_addends over s own (value i a) rest) (told i (conditions_of_addends env path own a rest) (Gives (value i (sum_of env a rest))))
    addends_told no_addend own ty a path p same integer are h = inr refl
    addends_told (addend o at operand rest) own ty a path p same integer are h =
        let are = both (is_expr i.program locals ty operand) (are_addends i.program locals ty rest) are in
        let total = summed o a (term_of env operand) in
        let sort : sort_of_type own ≡ Numbers = rw (same_type_equal own ty same) (integer_sort i.program ty integer) in
        or_step i (conditions_under env path operand) (under path (in_range own at total) ++ conditions_of_addends env path own total rest) (evaluate over s operand) (value i (term_of env operand))
        (λ w. after (meant.in_range i.program own at (meant.summed o (number i a) (number_of w))) (λ u. evaluate_addends over s own u rest)) (Gives (value i (sum_of env total rest)))
        (evaluation_told operand ty path p are.0 (all_left _ (reads operand) _ h))
        (ranged_told path p own at total _ (λ u. evaluate_addends over s own u rest) (conditions_of_addends env path own total rest) _ sort (summed_value i o a (term_of env operand))
        (addends_told rest own ty total path p same integer are.1 (all_right _ (reads operand) _ h)))

    factors_told : (rest : Factors) (own ty : Ty) (a : Term) (path : Option Term) → path_true i path ≡ true → same_type own ty ≡ true → is_integer i.program ty ≡ true → are_factors i.program locals ty rest ≡ true → HoldsOn i locals env s (reads_of_factors rest)
        → IsOr (evaluate_factors over s own (value i a) rest) (told i (conditions_of_factors env path own a rest) (Gives (value i (product_of env a rest))))
    factors_told no_factor own ty a path p same integer are h = inr refl
    factors_told (factor o at operand rest) own ty a path p same integer are h =
        let are = both (is_expr i.program locals ty operand) (are_factors i.program locals ty rest) are in
        let result = multiplied o a (term_of env operand) in
        let asked = divides o at (term_of env operand) ++ in_range own at result in
        let numbers = integer_sort i.program ty integer in
        let sort : sort_of_type own ≡ Numbers = rw (same_type_equal own ty same) numbers in
        let sorted : has_sort Numbers (value i (term_of env operand)) ≡ true = rw (← numbers) (sorted_there operand ty are.0 (all_left _ (reads operand) _ h)) in
        or_step i (conditions_under env path operand) (under path asked ++ conditions_of_factors env path own result rest) (evaluate over s operand) (value i (term_of env operand))
        (λ w. after (meant.multiplied i.program o own at (number i a) (number_of w)) (λ u. evaluate_factors over s own u rest)) (Gives (value i (product_of env result rest)))
        (evaluation_told operand ty path p are.0 (all_left _ (reads operand) _ h))
        (or_step i (under path asked) (conditions_of_factors env path own result rest) _ (value i result) (λ u. evaluate_factors over s own u rest) _
        (inr (factor_told i o own at a (term_of env operand) sort sorted ∙ sym (told_on i path asked (Gives (value i result)) p))) (factors_told rest own ty result path p same integer are.1 (all_right _ (reads operand) _ h)))

    junction_told : (rest : Members) (j : JunctionKind) (a : Term) (path : Option Term) → path_true i path ≡ true → are_members i.program locals rest ≡ true → has_sort Truths (value i a) ≡ true → HoldsOn i locals env s (reads_of_members rest)
        → IsOr (evaluate_junction over s j (value i a) rest) (told i (conditions_of_junction env path j a rest) (Gives (values.Truth (connected i j (value i a ∷ meanings.values i (members_of env rest))))))
    junction_told no_member j a path p are sorted h = inr (ap Gives (one_value i j (value i a) sorted))
    junction_told (member at operand rest) j a path p are sorted h =
        let are = both (is_expr i.program locals types.Bool operand) (are_members i.program locals rest) are in
        by_decision (decides j (truth i a)) refl (λ come.
        or_step i (conditions_under env on operand) (conditions_of_junction env on j (term_of env operand) rest) (evaluate over s operand) (value i (term_of env operand)) (λ w. evaluate_junction over s j w rest) _
        (evaluation_told operand types.Bool on come are.0 (all_left _ (reads operand) _ h))
        (junction_told rest j (term_of env operand) on come are.1 (sorted_there operand types.Bool are.0 (all_left _ (reads operand) _ h)) (all_right _ (reads operand) _ h)))
      where
        on : Option Term
        on = Some (narrowed_path path (goes_on j a))

        others : List Value
        others = meanings.values i (members_of env (member at operand rest))

        inner : List Condition
        inner = conditions_under env on operand ++ conditions_of_junction env on j (term_of env operand) rest

        by_decision : (d : Bool) → decides j (truth i a) ≡ d
            → (path_true i on ≡ true → IsOr (after (evaluate over s operand) (λ w. evaluate_junction over s j w rest)) (told i inner (Gives (values.Truth (connected i j others)))))
            → IsOr (if d then Gives (value i a) else after (evaluate over s operand) (λ w. evaluate_junction over s j w rest)) (told i inner (Gives (values.Truth (connected i j (value i a ∷ others)))))
        by_decision true e rest_told =
            let off = narrowed_true i path (goes_on j a) p ∙ (decided i j a ∙ ap not e) in
            inr (ap Gives (decided_value i j (value i a) others sorted e)
            ∙ sym (told_true i inner (Gives (values.Truth (connected i j (value i a ∷ others)))) (true_append i (conditions_under env on operand) _ (conditions_off i env operand on off) (junction_off i env j (term_of env operand) rest on off))))
        by_decision false e rest_told =
            or_as _ _ _ (rest_told (narrowed_true i path (goes_on j a) p ∙ (decided i j a ∙ ap not e))) (ap (told i inner) (ap Gives (ap values.Truth (undecided_value i j (value i a) others e))))

    implication_told : (rest : Members) (a : Term) (path : Option Term) → path_true i path ≡ true → are_members i.program locals rest ≡ true → HoldsOn i locals env s (reads_of_members rest)
        → IsOr (evaluate_implications over s (value i a) rest) (told i (conditions_of_implication env path a rest) (Gives (value i (implication_of env a rest))))
    implication_told no_member a path p are h = inr refl
    implication_told (member at operand rest) a path p are h =
        let are = both (is_expr i.program locals types.Bool operand) (are_members i.program locals rest) are in
        by_truth (truth i a) refl (implication_sorted i env (term_of env operand) rest (sorted_there operand types.Bool are.0 (all_left _ (reads operand) _ h))) (λ come.
        or_step i (conditions_under env on operand) (conditions_of_implication env on (term_of env operand) rest) (evaluate over s operand) (value i (term_of env operand)) (λ w. evaluate_implications over s w rest) _
        (evaluation_told operand types.Bool on come are.0 (all_left _ (reads operand) _ h)) (implication_told rest (term_of env operand) on come are.1 (all_right _ (reads operand) _ h)))
      where
        on : Option Term
        on = Some (narrowed_path path a)

        last : Term
        last = implication_of env (term_of env operand) rest

        inner : List Condition
        inner = conditions_under env on operand ++ conditions_of_implication env on (term_of env operand) rest

        by_truth : (b : Bool) → truth i a ≡ b → has_sort Truths (value i last) ≡ true
            → (path_true i on ≡ true → IsOr (after (evaluate over s operand) (λ w. evaluate_implications over s w rest)) (told i inner (Gives (value i last))))
            → IsOr (if b then after (evaluate over s operand) (λ w. evaluate_implications over s w rest) else Gives (values.Truth true)) (told i inner (Gives (values.Truth (not (truth i a) || truth i last))))
        by_truth true e sorted rest_told =
            or_as _ _ _ (rest_told (narrowed_true i path a p ∙ e)) (ap (told i inner) (ap Gives (truth_form (value i last) sorted ∙ ap values.Truth (sym (ap (λ x. not x || truth i last) e)))))
        by_truth false e sorted rest_told =
            let off = narrowed_true i path a p ∙ e in
            inr (ap Gives (ap values.Truth (sym (ap (λ x. not x || truth i last) e)))
            ∙ sym (told_true i inner (Gives (values.Truth (not (truth i a) || truth i last))) (true_append i (conditions_under env on operand) _ (conditions_off i env operand on off) (implication_off i env (term_of env operand) rest on off))))

    equivalence_told : (rest : Members) (a : Term) (path : Option Term) → path_true i path ≡ true → are_members i.program locals rest ≡ true → HoldsOn i locals env s (reads_of_members rest)
        → IsOr (evaluate_equivalences over s (value i a) rest) (told i (conditions_of_members env path rest) (Gives (value i (equivalence_of env a rest))))
    equivalence_told no_member a path p are h = inr refl
    equivalence_told (member at operand rest) a path p are h =
        let are = both (is_expr i.program locals types.Bool operand) (are_members i.program locals rest) are in
        or_step i (conditions_under env path operand) (conditions_of_members env path rest) (evaluate over s operand) (value i (term_of env operand)) (λ w. evaluate_equivalences over s (values.Truth (same_truth (truth i a) (truth_of w))) rest)
        (Gives (value i (equivalence_of env (iff a (term_of env operand)) rest)))
        (evaluation_told operand types.Bool path p are.0 (all_left _ (reads operand) _ h)) (equivalence_told rest (iff a (term_of env operand)) path p are.1 (all_right _ (reads operand) _ h))

    links_told : (rest : Links) (own : Ty) (a : Term) (path : Option Term) → path_true i path ≡ true → are_links i.program locals own rest ≡ true → IsSorted own (value i a) → HoldsOn i locals env s (reads_of_links rest)
        → IsOr (evaluate_links over s (value i a) rest) (told i (conditions_of_links env path own a rest) (Gives (values.Truth (list_all truth_of (meanings.values i (comparisons_of env own a rest))))))
    links_told no_link own a path p are sorted h = inr refl
    links_told (link c at operand rest) own a path p are sorted h =
        let are = three (compares i.program own c) (is_expr i.program locals own operand) (are_links i.program locals own rest) are in
        let next_sorted = sorted_there operand own are.1 (all_left _ (reads operand) _ h) in
        or_step i (conditions_under env path operand) inner (evaluate over s operand) (value i (term_of env operand))
        (λ w. if compare c (value i a) w then evaluate_links over s w rest else Gives (values.Truth false)) _
        (evaluation_told operand own path p are.1 (all_left _ (reads operand) _ h))
        (subst (λ b. IsOr (if b then evaluate_links over s (value i (term_of env operand)) rest else Gives (values.Truth false)) (told i inner (Gives (values.Truth (truth i first && list_all truth_of (meanings.values i others))))))
        (sym (compared_told i own c a (term_of env operand) sorted next_sorted))
        (by_truth (truth i first) refl (λ come. links_told rest own (term_of env operand) on come are.2 next_sorted (all_right _ (reads operand) _ h))))
      where
        first : Term
        first = compared own c a (term_of env operand)

        on : Option Term
        on = Some (narrowed_path path first)

        others : Terms
        others = comparisons_of env own (term_of env operand) rest

        inner : List Condition
        inner = conditions_of_links env on own (term_of env operand) rest

        by_truth : (b : Bool) → truth i first ≡ b → (path_true i on ≡ true → IsOr (evaluate_links over s (value i (term_of env operand)) rest) (told i inner (Gives (values.Truth (list_all truth_of (meanings.values i others))))))
            → IsOr (if b then evaluate_links over s (value i (term_of env operand)) rest else Gives (values.Truth false)) (told i inner (Gives (values.Truth (truth i first && list_all truth_of (meanings.values i others)))))
        by_truth true e rest_told =
            or_as _ _ _ (rest_told (narrowed_true i path first p ∙ e)) (ap (told i inner) (ap Gives (ap values.Truth (sym (ap (λ x. x && list_all truth_of (meanings.values i others)) e)))))
        by_truth false e rest_told =
            inr (ap Gives (ap values.Truth (sym (ap (λ x. x && list_all truth_of (meanings.values i others)) e)))
            ∙ sym (told_true i inner (Gives (values.Truth (truth i first && list_all truth_of (meanings.values i others)))) (links_off i env own (term_of env operand) rest on (narrowed_true i path first p ∙ e))))
