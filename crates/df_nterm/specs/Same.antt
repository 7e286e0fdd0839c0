-- Equal terms.
use Rattle.std.specs.Prelude.{ℕ, ℤ, pos, Bool, true, false, ◌==◌, ◌&&◌}
use Rattle.std.specs.Ordering.{int_eq}
use Rattle.df_lang.specs.declared.ty.Ty.{Ty}
use Rattle.df_lang.specs.declared.ty.Ty.TheVariants as types
use Rattle.df_lang.specs.Newtype.{same_type}
use Rattle.df_nterm.specs.Term.{Sort, Numbers, Truths, Characters, Free, Op, Number, FreeTerm, Plus, Times, Div, Mod, Code, Chr, Is, Equal, AtMost, Not, And, Or, Implies, Iff, Term, node, Terms, no_term, term}

abbrev pub same_sort : Sort → Sort → Bool
same_sort Numbers Numbers = true
same_sort Truths Truths = true
same_sort Characters Characters = true
same_sort a b = false

abbrev pub same_free : Free → Free → Bool
same_free a b = a.number == b.number && same_sort a.sort b.sort

-- each operation has its number; and what it holds besides, or a fixed one where it holds none
abbrev pub number_of_op : Op → ℕ
number_of_op (Number n) = 0
number_of_op (FreeTerm free) = 1
number_of_op (Is ty) = 2
number_of_op Plus = 3
number_of_op Times = 4
number_of_op Div = 5
number_of_op Mod = 6
number_of_op Code = 7
number_of_op Chr = 8
number_of_op Equal = 9
number_of_op AtMost = 10
number_of_op Not = 11
number_of_op And = 12
number_of_op Or = 13
number_of_op Implies = 14
number_of_op Iff = 15

abbrev pub literal_in : Op → ℤ
literal_in (Number n) = n
literal_in op = pos 0

abbrev pub free_in : Op → Free
free_in (FreeTerm free) = free
free_in op = record { number = 0; sort = Numbers }

abbrev pub type_in : Op → Ty
type_in (Is ty) = ty
type_in op = types.Int

abbrev pub same_op : Op → Op → Bool
same_op a b = number_of_op a == number_of_op b && int_eq (literal_in a) (literal_in b) && same_free (free_in a) (free_in b) && same_type (type_in a) (type_in b)

abbrev mutual
  pub same_term : Term → Term → Bool
  same_term (node op parts) (node other others) = same_op op other && same_terms parts others

  pub same_terms : Terms → Terms → Bool
  same_terms no_term no_term = true
  same_terms no_term (term b others) = false
  same_terms (term a more) no_term = false
  same_terms (term a more) (term b others) = same_term a b && same_terms more others
