-- Terms of expressions: the term of an expression over a term for each local, and the conditions under which the
-- expression has a value, in the order in which it is evaluated.
use Rattle.std.specs.Prelude.{ℕ, pos, List, [], ◌∷◌, ◌++◌, map, Option, None, Some}
use Rattle.df_base.specs.declared.pos.Pos.{Pos}
use Rattle.df_lang.specs.declared.ty.Ty.{Ty}
use Rattle.df_lang.specs.declared.ty.Ty.TheVariants as types
use Rattle.df_lang.specs.declared.expr.AddendOperator.{AddendOperator}
use Rattle.df_lang.specs.declared.expr.AddendOperator.TheVariants as addends
use Rattle.df_lang.specs.declared.expr.FactorOperator.{FactorOperator}
use Rattle.df_lang.specs.declared.expr.FactorOperator.TheVariants as factors
use Rattle.df_lang.specs.declared.expr.Junction.{Junction as JunctionKind}
use Rattle.df_lang.specs.declared.expr.Junction.TheVariants as junctions
use Rattle.df_lang.specs.declared.expr.Comparison.{Comparison}
use Rattle.df_lang.specs.declared.expr.Comparison.TheVariants as comparisons
use Rattle.df_lang.specs.Expr.{Expr, Number, Truth, Character, Local, Negate, Not, Sum, Product, Junction, Implies, Iff, Chain, As, Convert, Addends, no_addend, addend, Factors, no_factor, factor, Members, no_member, member, Links, no_link, link}
use Rattle.df_meaning.specs.declared.kind.Kind.{Kind}
use Rattle.df_meaning.specs.declared.kind.Kind.TheVariants as kinds
use Rattle.df_nterm.specs.Term.{Term, Terms, no_term, term, of_one, of_two, literal, plus, times, negative, minus, equal, at_most, less, negation, implies, iff, both, truth_term, conjunction, disjunction}
use Rattle.df_nterm.specs.Term as ops

-- a term for each local, by its number
abbrev pub Environment : Type 0
Environment = ℕ → Term

-- ---- terms

abbrev pub summed : AddendOperator → Term → Term → Term
summed addends.Plus a b = plus a b
summed addends.Minus a b = minus a b

abbrev pub multiplied : FactorOperator → Term → Term → Term
multiplied factors.Times a b = times a b
multiplied factors.Divide a b = of_two ops.Div a b
multiplied factors.Modulo a b = of_two ops.Mod a b

-- the number that a value of the type counts as: of a character its code
abbrev pub number_in : Ty → Term → Term
number_in types.Char a = of_one ops.Code a
number_in ty a = a

-- the value of the type that a number is: a character by its code
abbrev pub value_in : Ty → Term → Term
value_in types.Char a = of_one ops.Chr a
value_in ty a = a

-- two values of the type are equal
abbrev pub equal_in : Ty → Term → Term → Term
equal_in types.Bool a b = iff a b
equal_in ty a b = equal a b

-- two neighbours of a chain compare so; characters by their codes
abbrev pub compared : Ty → Comparison → Term → Term → Term
compared ty comparisons.Equal a b = equal_in ty a b
compared ty comparisons.NotEqual a b = negation (equal_in ty a b)
compared ty comparisons.Less a b = less (number_in ty a) (number_in ty b)
compared ty comparisons.AtMost a b = at_most (number_in ty a) (number_in ty b)
compared ty comparisons.Greater a b = less (number_in ty b) (number_in ty a)
compared ty comparisons.AtLeast a b = at_most (number_in ty b) (number_in ty a)

abbrev pub joined : JunctionKind → Terms → Term
joined junctions.And parts = conjunction parts
joined junctions.Or parts = disjunction parts

abbrev mutual
  -- lazy operators are their connectives: where the expression has a value, it is that of its term
  pub term_of : Environment → Expr → Term
  term_of env (Number ty value at) = literal value
  term_of env (Truth value at) = truth_term value
  term_of env (Character code at) = of_one ops.Chr (literal (pos code))
  term_of env (Local local name at) = env local
  term_of env (Negate ty at operand) = negative (term_of env operand)
  term_of env (Not at operand) = negation (term_of env operand)
  term_of env (Sum ty first rest) = sum_of env (term_of env first) rest
  term_of env (Product ty first rest) = product_of env (term_of env first) rest
  term_of env (Junction junction first rest) = joined junction (term (term_of env first) (members_of env rest))
  term_of env (Implies arrow first rest) = implication_of env (term_of env first) rest
  term_of env (Iff first rest) = equivalence_of env (term_of env first) rest
  term_of env (Chain ty first rest) = conjunction (comparisons_of env ty (term_of env first) rest)
  term_of env (As source target at operand) = value_in target (number_in source (term_of env operand))
  term_of env (Convert source target at operand) = term_of env operand

  -- from the left
  pub sum_of : Environment → Term → Addends → Term
  sum_of env a no_addend = a
  sum_of env a (addend operator at operand rest) = sum_of env (summed operator a (term_of env operand)) rest

  pub product_of : Environment → Term → Factors → Term
  product_of env a no_factor = a
  product_of env a (factor operator at operand rest) = product_of env (multiplied operator a (term_of env operand)) rest

  pub members_of : Environment → Members → Terms
  members_of env no_member = no_term
  members_of env (member at operand rest) = term (term_of env operand) (members_of env rest)

  -- from the right
  pub implication_of : Environment → Term → Members → Term
  implication_of env a no_member = a
  implication_of env a (member at operand rest) = implies a (implication_of env (term_of env operand) rest)

  -- from the left
  pub equivalence_of : Environment → Term → Members → Term
  equivalence_of env a no_member = a
  equivalence_of env a (member at operand rest) = equivalence_of env (iff a (term_of env operand)) rest

  -- each neighbour pair of a chain
  pub comparisons_of : Environment → Ty → Term → Links → Terms
  comparisons_of env ty a no_link = no_term
  comparisons_of env ty a (link comparison at operand rest) =
      term (compared ty comparison a (term_of env operand)) (comparisons_of env ty (term_of env operand) rest)

-- ---- conditions

-- what is to be true for a value to be there, by the node that asks for it
pub record Condition : Type 0 where
  pub pos : Pos
  pub kind : Kind
  pub formula : Term

abbrev pub condition : Pos → Kind → Term → List Condition
condition at kind formula = record { pos = at; kind = kind; formula = formula } ∷ []

-- what is asked only of the runs that come to a place: those of which a formula is true, or all
abbrev pub on_path : Option Term → Term → Term
on_path None formula = formula
on_path (Some path) formula = implies path formula

-- further on, of which another one is true too
abbrev pub narrowed_path : Option Term → Term → Term
narrowed_path None formula = formula
narrowed_path (Some path) formula = both path formula

abbrev pub under : Option Term → List Condition → List Condition
under path conditions = map (λ (c : Condition). record { pos = c.pos; kind = c.kind; formula = on_path path c.formula }) conditions

-- the number is one of the type: any number is an `int`; of a character it is the code
abbrev pub in_range : Ty → Pos → Term → List Condition
in_range (types.Newtype id) at a = condition at kinds.Range (of_one (ops.Is (types.Newtype id)) a)
in_range types.Nat at a = condition at kinds.Range (of_one (ops.Is types.Nat) a)
in_range types.Char at a = condition at kinds.Range (both (at_most (literal (pos 0)) a) (at_most a (literal (pos 127))))
in_range types.Int at a = []
in_range types.Bool at a = []

abbrev pub divides : FactorOperator → Pos → Term → List Condition
divides factors.Times at b = []
divides factors.Divide at b = condition at kinds.Divisor (negation (equal b (literal (pos 0))))
divides factors.Modulo at b = condition at kinds.Divisor (negation (equal b (literal (pos 0))))

-- at a place of another type: from `int` to `nat` it must be one
abbrev pub narrowing : Ty → Ty → Pos → Term → List Condition
narrowing types.Int types.Nat at a = in_range types.Nat at a
narrowing source target at a = []

-- where a member does not decide a junction the next one is evaluated
abbrev pub goes_on : JunctionKind → Term → Term
goes_on junctions.And a = a
goes_on junctions.Or a = negation a

-- A place inside an expression has the formula that is true where evaluation comes there: one more `and` for each
-- member that was passed, so a condition is one implication however many members stand before it.
abbrev mutual
  pub conditions_under : Environment → Option Term → Expr → List Condition
  conditions_under env path (Number ty value at) = under path (in_range ty at (literal value))
  conditions_under env path (Truth value at) = []
  conditions_under env path (Character code at) = []
  conditions_under env path (Local local name at) = []
  conditions_under env path (Negate ty at operand) = conditions_under env path operand ++ under path (in_range ty at (negative (term_of env operand)))
  conditions_under env path (Not at operand) = conditions_under env path operand
  conditions_under env path (Sum ty first rest) = conditions_under env path first ++ conditions_of_addends env path ty (term_of env first) rest
  conditions_under env path (Product ty first rest) = conditions_under env path first ++ conditions_of_factors env path ty (term_of env first) rest
  conditions_under env path (Junction junction first rest) = conditions_under env path first ++ conditions_of_junction env path junction (term_of env first) rest
  conditions_under env path (Implies arrow first rest) = conditions_under env path first ++ conditions_of_implication env path (term_of env first) rest
  conditions_under env path (Iff first rest) = conditions_under env path first ++ conditions_of_members env path rest
  conditions_under env path (Chain ty first rest) = conditions_under env path first ++ conditions_of_links env path ty (term_of env first) rest
  conditions_under env path (As source target at operand) = conditions_under env path operand ++ under path (in_range target at (number_in source (term_of env operand)))
  conditions_under env path (Convert source target at operand) = conditions_under env path operand ++ under path (narrowing source target at (term_of env operand))

  pub conditions_of_addends : Environment → Option Term → Ty → Term → Addends → List Condition
  conditions_of_addends env path ty a no_addend = []
  conditions_of_addends env path ty a (addend operator at operand rest) =
      let total = summed operator a (term_of env operand) in
      conditions_under env path operand ++ (under path (in_range ty at total) ++ conditions_of_addends env path ty total rest)

  pub conditions_of_factors : Environment → Option Term → Ty → Term → Factors → List Condition
  conditions_of_factors env path ty a no_factor = []
  conditions_of_factors env path ty a (factor operator at operand rest) =
      let result = multiplied operator a (term_of env operand) in
      conditions_under env path operand ++ (under path (divides operator at (term_of env operand) ++ in_range ty at result) ++ conditions_of_factors env path ty result rest)

  pub conditions_of_junction : Environment → Option Term → JunctionKind → Term → Members → List Condition
  conditions_of_junction env path junction a no_member = []
  conditions_of_junction env path junction a (member at operand rest) =
      let on = Some (narrowed_path path (goes_on junction a)) in
      conditions_under env on operand ++ conditions_of_junction env on junction (term_of env operand) rest

  pub conditions_of_implication : Environment → Option Term → Term → Members → List Condition
  conditions_of_implication env path a no_member = []
  conditions_of_implication env path a (member at operand rest) =
      let on = Some (narrowed_path path a) in
      conditions_under env on operand ++ conditions_of_implication env on (term_of env operand) rest

  pub conditions_of_members : Environment → Option Term → Members → List Condition
  conditions_of_members env path no_member = []
  conditions_of_members env path (member at operand rest) = conditions_under env path operand ++ conditions_of_members env path rest

  -- a chain ends at its first false neighbours; the first member and the second are always evaluated
  pub conditions_of_links : Environment → Option Term → Ty → Term → Links → List Condition
  conditions_of_links env path ty a no_link = []
  conditions_of_links env path ty a (link comparison at operand rest) =
      conditions_under env path operand ++ conditions_of_links env (Some (narrowed_path path (compared ty comparison a (term_of env operand)))) ty (term_of env operand) rest

-- the first that is false tells where evaluation fails
abbrev pub conditions_of : Environment → Expr → List Condition
conditions_of env e = conditions_under env None e
