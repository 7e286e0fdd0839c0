-- Terms that are found equal are.
use Rattle.std.proofs.Common.{◌≡◌, ℕ, ℤ, ◌==◌, true, [], ◌∷◌, slice_index_or, int_eq, refl, sym, ◌∙◌}
use Rattle.std.proofs.lemmas.Bool.{eqb-true}
use Rattle.std.proofs.lemmas.Bool.Decides.{Decides-int_eq}
use Rattle.df_lang.specs.declared.ty.Ty.{Ty}
use Rattle.df_lang.specs.Newtype.{same_type}
use Rattle.df_meaning.proofs.Cases.{both, four}
use Rattle.df_meaning.proofs.Types.{same_type_equal}
use Rattle.df_nterm.specs.Term.{Sort, Numbers, Truths, Characters, Free, Op, Number, FreeTerm, Plus, Times, Div, Mod, Code, Chr, Is, Equal, AtMost, Not, And, Or, Implies, Iff, Term, node, Terms, no_term, term}
use Rattle.df_nterm.specs.Same.{same_sort, same_free, number_of_op, literal_in, free_in, type_in, same_op, same_term, same_terms}

pub sort_is : (a b : Sort) → same_sort a b ≡ true → a ≡ b
sort_is Numbers Numbers e = refl
sort_is Truths Truths e = refl
sort_is Characters Characters e = refl
sort_is Numbers Truths e = cc
sort_is Numbers Characters e = cc
sort_is Truths Numbers e = cc
sort_is Truths Characters e = cc
sort_is Characters Numbers e = cc
sort_is Characters Truths e = cc

pub same_int : (a b : ℤ) → int_eq a b ≡ true → a ≡ b
same_int a b = (Decides-int_eq a b).0

abbrev free_of : ℕ → Sort → Free
free_of number sort = record { number = number; sort = sort }

same_parts : (n m : ℕ) (s t : Sort) → n ≡ m → s ≡ t → free_of n s ≡ free_of m t
same_parts n m s t e f = rw (e, f) refl

free_is : (a b : Free) → same_free a b ≡ true → a ≡ b
free_is a b e = let e = both (a.number == b.number) (same_sort a.sort b.sort) e in same_parts a.number b.number a.sort b.sort (eqb-true a.number b.number e.0) (sort_is a.sort b.sort e.1)

-- the operation of a number, that holds these
abbrev op_of : ℕ → ℤ → Free → Ty → Op
op_of number n free ty =
    slice_index_or (Number n ∷ FreeTerm free ∷ Is ty ∷ Plus ∷ Times ∷ Div ∷ Mod ∷ Code ∷ Chr ∷ Equal ∷ AtMost ∷ Not ∷ And ∷ Or ∷ Implies ∷ Iff ∷ []) number Plus

op_again : (a : Op) → op_of (number_of_op a) (literal_in a) (free_in a) (type_in a) ≡ a
op_again (Number n) = refl
op_again (FreeTerm free) = refl
op_again (Is ty) = refl
op_again Plus = refl
op_again Times = refl
op_again Div = refl
op_again Mod = refl
op_again Code = refl
op_again Chr = refl
op_again Equal = refl
op_again AtMost = refl
op_again Not = refl
op_again And = refl
op_again Or = refl
op_again Implies = refl
op_again Iff = refl

op_same : (k l : ℕ) (n m : ℤ) (free other : Free) (ty own : Ty) → k ≡ l → n ≡ m → free ≡ other → ty ≡ own → op_of k n free ty ≡ op_of l m other own
op_same k l n m free other ty own a b c d = rw (a, b, c, d) refl

pub op_is : (a b : Op) → same_op a b ≡ true → a ≡ b
op_is a b e =
    let e = four (number_of_op a == number_of_op b) (int_eq (literal_in a) (literal_in b)) (same_free (free_in a) (free_in b)) (same_type (type_in a) (type_in b)) e in
    sym (op_again a) ∙ (op_same (number_of_op a) (number_of_op b) (literal_in a) (literal_in b) (free_in a) (free_in b) (type_in a) (type_in b) (eqb-true (number_of_op a) (number_of_op b) e.0) (same_int (literal_in a) (literal_in b) e.1)
    (free_is (free_in a) (free_in b) e.2) (same_type_equal (type_in a) (type_in b) e.3) ∙ op_again b)

node_same : (a b : Op) (parts others : Terms) → a ≡ b → parts ≡ others → node a parts ≡ node b others
node_same a b parts others e f = cc

term_same : (a b : Term) (parts others : Terms) → a ≡ b → parts ≡ others → term a parts ≡ term b others
term_same a b parts others e f = cc

mutual
  pub term_is : (a b : Term) → same_term a b ≡ true → a ≡ b
  term_is (node op parts) (node other others) e =
      let e = both (same_op op other) (same_terms parts others) e in node_same op other parts others (op_is op other e.0) (terms_are parts others e.1)

  terms_are : (parts others : Terms) → same_terms parts others ≡ true → parts ≡ others
  terms_are no_term no_term e = refl
  terms_are no_term (term b others) e = cc
  terms_are (term a more) no_term e = cc
  terms_are (term a more) (term b others) e = let e = both (same_term a b) (same_terms more others) e in term_same a b more others (term_is a b e.0) (terms_are more others e.1)
