-- Terms of measures, and that one is below another.
use Rattle.std.specs.Prelude.{pos, true, false, List, [], ◌∷◌, map}
use Rattle.std.specs.List.{flat_map}
use Rattle.df_lang.specs.declared.ty.Ty.{Ty}
use Rattle.df_lang.specs.Stmt.{Measure}
use Rattle.df_nterm.specs.Term.{Sort, Numbers, Truths, Characters, Term, of_one, literal, equal, at_most, less, negation, iff, both, either, truth_term, sort_of_type}
use Rattle.df_nterm.specs.Term as ops
use Rattle.df_nterm.specs.Expressions.{Environment, Condition, term_of, conditions_of}

-- a member of a measure: its value, of a type
pub record Measured : Type 0 where
  pub ty : Ty
  pub value : Term

abbrev pub measured : Environment → List Measure → List Measured
measured env measures = map (λ (measure : Measure). record { ty = measure.ty; value = term_of env measure.value }) measures

-- under which its members have values, in order
abbrev pub conditions_of_measure : Environment → List Measure → List Condition
conditions_of_measure env measures = flat_map (λ (measure : Measure). conditions_of env measure.value) measures

-- The one value is below the other: numbers only below one from 0 on, `false` below `true`, characters by their
-- codes. Values of different sorts are not ordered.
abbrev pub below_of : Sort → Sort → Term → Term → Term
below_of Truths Truths a b = both (negation a) b
below_of Characters Characters a b = less (of_one ops.Code a) (of_one ops.Code b)
below_of Numbers Numbers a b = both (less a b) (at_most (literal (pos 0)) b)
below_of one other a b = truth_term false

abbrev pub same_of : Sort → Sort → Term → Term → Term
same_of Truths Truths a b = iff a b
same_of Characters Characters a b = equal a b
same_of Numbers Numbers a b = equal a b
same_of one other a b = truth_term false

abbrev pub is_below : Measured → Measured → Term
is_below a b = below_of (sort_of_type a.ty) (sort_of_type b.ty) a.value b.value

abbrev pub is_same : Measured → Measured → Term
is_same a b = same_of (sort_of_type a.ty) (sort_of_type b.ty) a.value b.value

-- The one list is below the other: at the first place where they differ; behind a shorter list stands a top above
-- every value.
abbrev pub are_below : List Measured → List Measured → Term
are_below [] others = truth_term false
are_below (a ∷ more) [] = truth_term true
are_below (a ∷ []) (b ∷ []) = is_below a b
are_below (a ∷ more) (b ∷ others) = either (is_below a b) (both (is_same a b) (are_below more others))
