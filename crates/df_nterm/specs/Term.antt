-- Terms and formulas as trees: an operation on terms. A formula is a term whose value is a truth.
use Rattle.std.specs.Prelude.{ℕ, ℤ, negsuc, Bool, true, false, List, [], ◌∷◌}
use Rattle.df_lang.specs.declared.ty.Ty.{Ty}
use Rattle.df_lang.specs.declared.ty.Ty.TheVariants as types

-- the kind of value that a term has
pub data Sort : Type 0 where
  Numbers : Sort
  Truths : Sort
  Characters : Sort

-- a term that an interpretation gives a value of its sort
pub record Free : Type 0 where
  pub number : ℕ
  pub sort : Sort

-- what is done with the values of the parts
pub data Op : Type 0 where
  Number : ℤ → Op
  FreeTerm : Free → Op
  -- sums, products, Euclidean quotients and remainders of two numbers
  Plus : Op
  Times : Op
  Div : Op
  Mod : Op
  -- the code of a character, and the character of a code
  Code : Op
  Chr : Op
  -- the value is one of the type
  Is : Ty → Op
  -- two values of one sort are equal; the first number is at most the second
  Equal : Op
  AtMost : Op
  -- connectives of truths: `and` and `or` of any number of them
  Not : Op
  And : Op
  Or : Op
  Implies : Op
  Iff : Op

mutual
  pub data Term : Type 0 where
    node : Op → Terms → Term

  pub data Terms : Type 0 where
    no_term : Terms
    term : Term → Terms → Terms

-- ---- terms by their operations

abbrev pub of_one : Op → Term → Term
of_one op a = node op (term a no_term)

abbrev pub of_two : Op → Term → Term → Term
of_two op a b = node op (term a (term b no_term))

abbrev pub literal : ℤ → Term
literal n = node (Number n) no_term

abbrev pub free : ℕ → Sort → Term
free number sort = node (FreeTerm (record { number = number; sort = sort })) no_term

abbrev pub plus : Term → Term → Term
plus a b = of_two Plus a b

abbrev pub times : Term → Term → Term
times a b = of_two Times a b

-- the number of the other sign is a constant multiple
abbrev pub negative : Term → Term
negative a = times (literal (negsuc 0)) a

abbrev pub minus : Term → Term → Term
minus a b = plus a (negative b)

abbrev pub equal : Term → Term → Term
equal a b = of_two Equal a b

abbrev pub at_most : Term → Term → Term
at_most a b = of_two AtMost a b

abbrev pub negation : Term → Term
negation a = of_one Not a

abbrev pub less : Term → Term → Term
less a b = negation (at_most b a)

abbrev pub implies : Term → Term → Term
implies a b = of_two Implies a b

abbrev pub iff : Term → Term → Term
iff a b = of_two Iff a b

abbrev pub both : Term → Term → Term
both a b = of_two And a b

abbrev pub either : Term → Term → Term
either a b = of_two Or a b

-- the conjunction of none is true, the disjunction of none false
abbrev pub truth_term : Bool → Term
truth_term true = node And no_term
truth_term false = node Or no_term

-- of one formula it is that formula
abbrev pub conjunction : Terms → Term
conjunction (term a no_term) = a
conjunction parts = node And parts

abbrev pub disjunction : Terms → Term
disjunction (term a no_term) = a
disjunction parts = node Or parts

abbrev pub terms_of : List Term → Terms
terms_of [] = no_term
terms_of (a ∷ others) = term a (terms_of others)

-- the values of a type have the sort
abbrev pub sort_of_type : Ty → Sort
sort_of_type types.Bool = Truths
sort_of_type types.Char = Characters
sort_of_type ty = Numbers
