-- Literals that are needed, and lines of some facts.
use Rattle.std.proofs.Common.{◌≡◌, ◌<◌, ⊎_elim, ℕ, zero, suc, Bool, true, false, cond, List, [], ◌∷◌, ◌++◌, map, filter, length, get_or, Option, Some, None, refl, sym, ap, ◌∙◌, subst, arith, true≢false, if◌then◌else◌}
use Rattle.std.specs.Option.{is_some, option_and_then}
use Rattle.std.proofs.lemmas.Bool.{or_cases, or_left, or_right}
use Rattle.df_form.specs.declared.log.Lit.{Lit}
use Rattle.df_form.specs.declared.log.Combination as declared
use Rattle.df_form.specs.Node.{Node}
use Rattle.df_form.specs.Clause.{Clause, negation, same_literal, is_among, are_literals}
use Rattle.df_form.specs.Log.{Combination, combination_of}
use Rattle.df_row.specs.Row.{Row}
use Rattle.df_row.specs.Linear.{rows_of, linear_of, linear_line}
use Rattle.df_trail.specs.Trail.{HasAll}
use Rattle.df_form.proofs.Literals.{same_self}
use Rattle.df_search.proofs.Consistent.{among_last}
use Rattle.df_search.specs.declared.lessening.Linear.{Linear}
use Rattle.df_search.specs.Lessening.{RefuteRows, IsLine, IsLess}

-- a list has all of its literals that pass a test
pub filter_held : (test : Lit → Bool) (list : List Lit) → HasAll list (filter test list)
filter_held test list = record { has = λ l e. among list l e }
  where
    among : (list : List Lit) (l : Lit) → is_among (filter test list) l ≡ true → is_among list l ≡ true
    among [] l e = e
    among (m ∷ others) l e = by (test m) e (among others l)
      where
        by : (b : Bool) → is_among (cond b (m ∷ filter test others) (filter test others)) l ≡ true → (is_among (filter test others) l ≡ true → is_among others l ≡ true) → is_among (m ∷ others) l ≡ true
        by true e go = ⊎_elim (λ here. or_left (same_literal l m) (is_among others l) here) (λ rest. or_right (same_literal l m) (is_among others l) (go rest)) (or_cases (same_literal l m) (is_among (filter test others) l) e)
        by false e go = or_right (same_literal l m) (is_among others l) (go e)

-- a list has what it has at a place
pub among_at : (list : List Lit) (i : ℕ) (d : Lit) → i < length list → is_among list (get_or list i d) ≡ true
among_at [] i d less = absurd (omega (arith, less))
among_at (m ∷ others) zero d less = or_left (same_literal m m) (is_among others m) (same_self m)
among_at (m ∷ others) (suc i) d less = or_right (same_literal (get_or others i d) m) (is_among others (get_or others i d)) (among_at others i d (omega (arith, less)))

pub none_held : (list some : List Lit) → some ≡ [] → HasAll list some
none_held list some none = record { has = λ l e. absurd (true≢false (sym e ∙ ap (λ (ls : List Lit). is_among ls l) none)) }

pub has_more : (list old new : List Lit) (fact : Lit) → new ≡ old ++ fact ∷ [] → HasAll list old → is_among list fact ≡ true → HasAll list new
has_more list old new fact new_is all there = record {
  has = λ l e. ⊎_elim (λ before. all.has l before) (λ same. subst (λ (q : Lit). is_among list q ≡ true) (sym same) there) (among_last old fact l (sym (ap (λ (ls : List Lit). is_among ls l) new_is) ∙ e));
}

-- a line gives its own conclusion
own_conclusion : (nodes : List Node) (conclusion : Clause) (combinations : List Combination) → is_some (linear_line nodes conclusion combinations) ≡ true → linear_line nodes conclusion combinations ≡ Some conclusion
own_conclusion nodes conclusion combinations e = by (are_literals nodes conclusion) (rows_of nodes (map negation conclusion)) e
  where
    last : (b : Bool) → is_some (if b then Some conclusion else None) ≡ true → (if b then Some conclusion else None) ≡ Some conclusion
    last true e = refl
    last false e = absurd (true≢false (sym e))

    by : (b : Bool) (rows : Option (List Row)) → is_some (if b then option_and_then (linear_of nodes conclusion combinations) rows else None) ≡ true → (if b then option_and_then (linear_of nodes conclusion combinations) rows else None) ≡ Some conclusion
    by true (Some rows) e = last _ e
    by true None e = absurd (true≢false (sym e))
    by false rows e = absurd (true≢false (sym e))

pub seen_line : (nodes : List Node) (linear : Linear) (conclusion : List Lit) (combinations : List declared.Combination) → conclusion ≡ map negation linear.facts.items → combinations ≡ linear.combinations.items → is_some (linear_line nodes conclusion (map combination_of combinations)) ≡ true
    → RefuteRows nodes linear.facts.items (map combination_of linear.combinations.items)
seen_line nodes linear conclusion combinations conclusion_is combinations_are e =
    own_conclusion nodes (map negation linear.facts.items) (map combination_of linear.combinations.items)
    ((λ i. is_some (linear_line nodes (sym conclusion_is i) (map combination_of (sym combinations_are i)))) ∙ e)

pub line_of : (nodes : List Node) (lent facts : List Lit) (combinations : List Combination) (linear : Linear) → lent ≡ facts → IsLine nodes lent linear → IsLess nodes facts combinations linear
line_of nodes lent facts combinations linear same is = (subst (λ (ls : List Lit). HasAll ls linear.facts.items) same is.0, λ given. is.1)
