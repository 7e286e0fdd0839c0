-- Terms are told apart by the numbers of their nodes.
use Rattle.df_nledger.proofs.Words.{◌≡◌, ℕ, ◌<◌, Bool, true, false, List, [], length, Option, append-nil, assume, assume_there, saying, refl, sym, ap, ◌∙◌, subst, Node, Term, Sort, Truths, sort_of_type, sort_of_term, tree_at, IsTerm, Stands, Ty, some_term, is_unset}
use Rattle.std.proofs.Common.{◌⊎◌, inl, inr, ◌==◌, ◌||◌, if◌then◌else◌}
use Rattle.std.proofs.lemmas.Bool.{eq-eqb, ne_eqb, and_from}
use Rattle.std.proofs.lemmas.Bool.Decides.{Decides-int_eq}
use Rattle.df_meaning.proofs.Stating.{is_or_not, same_self}
use Rattle.df_form.specs.Sorting.{IsTable}
use Rattle.df_nterm.specs.Term.{Numbers, Characters, Op, node, Terms, no_term, term}
use Rattle.df_nterm.specs.Same.{same_sort, number_of_op, literal_in, free_in, type_in, same_op, same_term, same_terms}
use Rattle.df_nterm.specs.Expressions.{equal_in}
use Rattle.df_nterm.proofs.Equal.{term_is}
use Rattle.df_nledger.specs.Ledger.{Ledger}
use Rattle.df_nenc.proofs.Different.{trees_differ}

sort_self : (s : Sort) → same_sort s s ≡ true
sort_self Numbers = refl
sort_self Truths = refl
sort_self Characters = refl

op_self : (op : Op) → same_op op op ≡ true
op_self op =
    rw (eq-eqb (number_of_op op) (number_of_op op) refl, (Decides-int_eq (literal_in op) (literal_in op)).1 refl, eq-eqb (free_in op).number (free_in op).number refl, sort_self (free_in op).sort, same_self (type_in op)) refl

mutual
  term_self : (a : Term) → same_term a a ≡ true
  term_self (node op parts) = and_from (same_op op op) (same_terms parts parts) (op_self op) (terms_self parts)

  terms_self : (parts : Terms) → same_terms parts parts ≡ true
  terms_self no_term = refl
  terms_self (term a more) = and_from (same_term a a) (same_terms more more) (term_self a) (terms_self more)

not_so : (b : Bool) → (b ≡ true → ⊥) → false ≡ b
not_so true h = absurd (h refl)
not_so false h = refl

pub same_tree : (nodes : List Node) (a n : ℕ) → IsTable nodes → a < length nodes → n < length nodes → (n == a) ≡ same_term (tree_at nodes a) (tree_at nodes n)
same_tree nodes a n table at_a at_n = by (is_or_not n a)
  where
    by : (n ≡ a) ⊎ (n ≡ a → ⊥) → (n == a) ≡ same_term (tree_at nodes a) (tree_at nodes n)
    by (inl s) = eq-eqb n a s ∙ sym (ap (λ (k : ℕ). same_term (tree_at nodes a) (tree_at nodes k)) s ∙ term_self (tree_at nodes a))
    by (inr h) = ne_eqb n a h ∙ not_so (same_term (tree_at nodes a) (tree_at nodes n)) (λ e. h (sym (trees_differ nodes a n table at_a at_n (term_is (tree_at nodes a) (tree_at nodes n) e))))

-- ---- the terms of locals without a value

some_sort : (sort : Sort) → sort_of_term (some_term sort) ≡ sort
some_sort Numbers = refl
some_sort Truths = refl
some_sort Characters = refl

no_truth : (b : Bool) → b ≡ true → b ≡ false → ⊥
no_truth true e f = cc
no_truth false e f = cc

-- that of another sort is none of this one
other_sort : (a : Term) (sort other : Sort) → sort_of_term a ≡ sort → same_sort sort other ≡ false → same_term a (some_term other) ≡ false
other_sort a sort other is apart = sym (not_so (same_term a (some_term other)) (λ e.
    let same : sort ≡ other = sym is ∙ ap sort_of_term (term_is a (some_term other) e) ∙ some_sort other in
    no_truth (same_sort other other) (sort_self other) (subst (λ (s : Sort). same_sort s other ≡ false) same apart)))

none_first : (p q r : Bool) → p ≡ false → q ≡ false → (p || q || r) ≡ r
none_first p q r e f = rw (e, f) refl

none_last : (p q r : Bool) → q ≡ false → r ≡ false → (p || q || r) ≡ p
none_last true q r e f = refl
none_last false q r e f = rw (e, f) refl

none_around : (p q r : Bool) → p ≡ false → r ≡ false → (p || q || r) ≡ q
none_around p true r e f = rw (e) refl
none_around p false r e f = rw (e, f) refl

-- a term of a sort is one of a local without a value where it is that of its sort
pub unset_sorted : (a : Term) (sort : Sort) → sort_of_term a ≡ sort → is_unset a ≡ same_term a (some_term sort)
unset_sorted a Numbers is =
    none_last (same_term a (some_term Numbers)) (same_term a (some_term Truths)) (same_term a (some_term Characters)) (other_sort a Numbers Truths is refl) (other_sort a Numbers Characters is refl)
unset_sorted a Truths is =
    none_around (same_term a (some_term Numbers)) (same_term a (some_term Truths)) (same_term a (some_term Characters)) (other_sort a Truths Numbers is refl) (other_sort a Truths Characters is refl)
unset_sorted a Characters is =
    none_first (same_term a (some_term Numbers)) (same_term a (some_term Truths)) (same_term a (some_term Characters)) (other_sort a Characters Numbers is refl) (other_sort a Characters Truths is refl)

-- by their numbers
pub unset_told : (nodes : List Node) (ty : Ty) (unset n : ℕ) → IsTable nodes → Stands nodes (some_term (sort_of_type ty)) unset → IsTerm (sort_of_type ty) nodes n → is_unset (tree_at nodes n) ≡ (unset == n)
unset_told nodes ty unset n table stands is =
    unset_sorted (tree_at nodes n) (sort_of_type ty) is.sort_is ∙ ap (same_term (tree_at nodes n)) (sym stands.tree_is) ∙ sym (same_tree nodes n unset table is.below stands.below)

-- what is said of a path on which a local has no value, or has one
module _ (ty : Ty) (a b : Term) (path : Option Term) (l : Ledger) where
  pub there_unset : is_unset b ≡ true → l ≡ saying (assume_there ty a path b) l
  there_unset e =
      (λ i. record { said = sym (append-nil l.said) i; fresh = l.fresh; path = l.path }) ∙ ap (λ (unset : Bool). saying (if unset then [] else assume path (equal_in ty a b)) l) (sym e)

  pub there_known : is_unset b ≡ false → saying (assume path (equal_in ty a b)) l ≡ saying (assume_there ty a path b) l
  there_known e = ap (λ (unset : Bool). saying (if unset then [] else assume path (equal_in ty a b)) l) (sym e)
