-- What two closed sides need, but for the literal between them, is not all true.
use Rattle.std.proofs.Common.{◌≡◌, ◌⊎◌, inl, inr, ⊎_elim, ℕ, Bool, true, false, not, ◌&&◌, cond, if◌then◌else◌, List, [], ◌∷◌, ◌++◌, map, Option, Some, None, slice_get, refl, sym, ap, ◌∙◌, subst, true≢false}
use Rattle.std.specs.Option.{option_and_then, option_map}
use Rattle.std.specs.List.{list_all}
use Rattle.std.proofs.lemmas.Bool.{and_from, and_parts, or_cases, or_left, or_right}
use Rattle.df_form.proofs.Literals.{negated_twice, all_negated_twice, same_self}
use Rattle.df_form.specs.declared.log.Lit.{Lit}
use Rattle.df_form.specs.Node.{Node}
use Rattle.df_form.specs.Sorting.{is_formula}
use Rattle.df_form.specs.Clause.{Clause, negation, same_literal, is_among, are_literals}
use Rattle.df_rules.specs.Propagation.{left, only, is_empty, if_some, propagates, clauses_at, propagation_of, propagation_line}
use Rattle.df_rules.proofs.SoundClauses.{same_literal_is}
use Rattle.df_trail.specs.Trail.{IsUndecided, HasAll, others_of}
use Rattle.df_trail.proofs.Held.{among_split, among_last, others_among, others_lack, others_have, held_formulas}

-- negations are of the same formulas
pub negations_are_literals : (nodes : List Node) (literals : List Lit) → are_literals nodes literals ≡ true → are_literals nodes (map negation literals) ≡ true
negations_are_literals nodes [] e = e
negations_are_literals nodes (l ∷ others) e = by (is_formula nodes l.node) (are_literals nodes others) e (negations_are_literals nodes others)
  where
    by : (a b : Bool) → (a && b) ≡ true → (b ≡ true → are_literals nodes (map negation others) ≡ true) → (a && are_literals nodes (map negation others)) ≡ true
    by true b e go = go e
    by false b e go = absurd (true≢false (sym e))

-- ---- what is left of clauses of negations

-- nothing, where all is known
pub left_none : (known some : List Lit) → HasAll known some → left known (map negation some) ≡ []
left_none known [] all = refl
left_none known (l ∷ some) all =
    let here : is_among known (negation (negation l)) ≡ true = ap (is_among known) (negated_twice l) ∙ all.has l (or_left (same_literal l l) (is_among some l) (same_self l)) in
    ap (λ (b : Bool). cond (not b) (negation l ∷ left known (map negation some)) (left known (map negation some))) here
    ∙ left_none known some (record { has = λ q e. all.has q (or_right (same_literal q l) (is_among some q) e) })

-- one literal alone, where all else is known
left_same : (known some : List Lit) (m : Lit) → ((q : Lit) → is_among some q ≡ true → (q ≡ negation m) ⊎ (is_among known q ≡ true)) → list_all (same_literal m) (left known (map negation some)) ≡ true
left_same known [] m all = refl
left_same known (l ∷ some) m all = by (is_among known (negation (negation l))) refl (left_same known some m (λ q e. all q (or_right (same_literal q l) (is_among some q) e)))
  where
    own : (l ≡ negation m) ⊎ (is_among known l ≡ true)
    own = all l (or_left (same_literal l l) (is_among some l) (same_self l))

    by : (b : Bool) → is_among known (negation (negation l)) ≡ b → list_all (same_literal m) (left known (map negation some)) ≡ true → list_all (same_literal m) (cond (not b) (negation l ∷ left known (map negation some)) (left known (map negation some))) ≡ true
    by true is rest = rest
    by false is rest =
        ⊎_elim
        (λ same. and_from (same_literal m (negation l)) (list_all (same_literal m) (left known (map negation some))) (subst (λ (q : Lit). same_literal m q ≡ true) (sym (ap negation same ∙ negated_twice m)) (same_self m)) rest)
        (λ there. absurd (true≢false (sym there ∙ ap (is_among known) (sym (negated_twice l)) ∙ is))) own

-- where nothing is left all is known
none_left : (known some : List Lit) → is_empty (left known (map negation some)) ≡ true → (q : Lit) → is_among some q ≡ true → is_among known q ≡ true
none_left known [] empty q e = absurd (true≢false (sym e))
none_left known (l ∷ some) empty q e = by (is_among known (negation (negation l))) refl empty (or_cases (same_literal q l) (is_among some q) e) (none_left known some)
  where
    by : (b : Bool) → is_among known (negation (negation l)) ≡ b → is_empty (cond (not b) (negation l ∷ left known (map negation some)) (left known (map negation some))) ≡ true → (same_literal q l ≡ true) ⊎ (is_among some q ≡ true)
        → (is_empty (left known (map negation some)) ≡ true → (p : Lit) → is_among some p ≡ true → is_among known p ≡ true) → is_among known q ≡ true
    by true is empty (inl here) go = ap (is_among known) (same_literal_is q l here ∙ sym (negated_twice l)) ∙ is
    by true is empty (inr rest) go = go empty q rest
    by false is empty there go = absurd (true≢false (sym empty))

only_one : (m : Lit) (literals : List Lit) → list_all (same_literal m) literals ≡ true → (is_empty literals ≡ true) ⊎ (only literals ≡ Some m)
only_one m [] e = inl refl
only_one m (l ∷ others) e =
    let parts = and_parts (same_literal m l) (list_all (same_literal m) others) e in
    let is = same_literal_is m l parts.0 in
    inr (ap (λ (b : Bool). if b then Some l else None) (subst (λ (q : Lit). list_all (same_literal q) others ≡ true) is parts.1) ∙ ap (λ (q : Lit). Some q) (sym is))

-- ---- the line

module _ (branch : List Lit) (l : Lit) (other conflict : List Lit) (undecided : IsUndecided branch l) (first : HasAll (branch ++ negation l ∷ []) other) (needs : is_among other (negation l) ≡ true) (second : HasAll (branch ++ l ∷ []) conflict) where
  abbrev needed : List Lit
  needed = others_of (negation l) other ++ others_of l conflict

  pub needed_held : HasAll branch needed
  needed_held = record {
    has = λ q e.
        ⊎_elim
        (λ one. ⊎_elim (λ there. there) (λ same. absurd (true≢false (sym one ∙ ap (is_among (others_of (negation l) other)) same ∙ others_lack (negation l) other))) (among_last branch (negation l) q (first.has q (others_among (negation l) other q one))))
        (λ two. ⊎_elim (λ there. there) (λ same. absurd (true≢false (sym two ∙ ap (is_among (others_of l conflict)) same ∙ others_lack l conflict))) (among_last branch l q (second.has q (others_among l conflict q two))))
        (among_split (others_of (negation l) other) (others_of l conflict) q e);
  }

  among_first : (xs ys : List Lit) (q : Lit) → is_among xs q ≡ true → is_among (xs ++ ys) q ≡ true
  among_first [] ys q e = absurd (true≢false (sym e))
  among_first (x ∷ xs) ys q e = ⊎_elim (λ here. or_left (same_literal q x) (is_among (xs ++ ys) q) here) (λ rest. or_right (same_literal q x) (is_among (xs ++ ys) q) (among_first xs ys q rest)) (or_cases (same_literal q x) (is_among xs q) e)

  among_second : (xs ys : List Lit) (q : Lit) → is_among ys q ≡ true → is_among (xs ++ ys) q ≡ true
  among_second [] ys q e = e
  among_second (x ∷ xs) ys q e = or_right (same_literal q x) (is_among (xs ++ ys) q) (among_second xs ys q e)

  -- the first clause leaves the literal
  first_left : only (left needed (map negation other)) ≡ Some l
  first_left =
      let same = left_same needed other l (λ q e. ⊎_elim (λ is. inl is) (λ there. inr (among_first (others_of (negation l) other) (others_of l conflict) q there)) (others_have (negation l) other q e)) in
      ⊎_elim
      (λ empty. absurd (true≢false (sym (needed_held.has (negation l) (none_left needed other empty (negation l) needs)) ∙ undecided.not_false)))
      (λ one. one) (only_one l (left needed (map negation other)) same)

  -- which leaves nothing of the second
  second_left : left (l ∷ needed) (map negation conflict) ≡ []
  second_left = left_none (l ∷ needed) conflict (record {
    has = λ q e.
        ⊎_elim (λ is. or_left (same_literal q l) (is_among needed q) (subst (λ (p : Lit). same_literal p l ≡ true) (sym is) (same_self l)))
        (λ there. or_right (same_literal q l) (is_among needed q) (among_second (others_of (negation l) other) (others_of l conflict) q there))
        (others_have l conflict q e);
  })

  propagated : propagates needed (map negation other ∷ map negation conflict ∷ []) ≡ true
  propagated = ap (λ (o : Option Lit). if_some o (λ m. is_empty (left (m ∷ needed) (map negation conflict)))) first_left ∙ ap is_empty second_left

  pub join_is_line : (nodes : List Node) (all : List Clause) (one two : ℕ) → are_literals nodes branch ≡ true → slice_get all one ≡ Some (map negation other) → slice_get all two ≡ Some (map negation conflict)
      → propagation_line nodes all (one ∷ two ∷ []) (map negation needed) ≡ Some (map negation needed)
  join_is_line nodes all one two formulas at_one at_two =
      let clauses : clauses_at all (one ∷ two ∷ []) ≡ Some (map negation other ∷ map negation conflict ∷ []) =
      ap (λ (o : Option Clause). option_and_then (λ clause. option_map (λ rest. clause ∷ rest) (clauses_at all (two ∷ []))) o) at_one
      ∙ ap (λ (o : Option Clause). option_map (λ rest. map negation other ∷ rest) (option_and_then (λ clause. option_map (λ rest. clause ∷ rest) (Some [])) o)) at_two in
      let found : propagates (map negation (map negation needed)) (map negation other ∷ map negation conflict ∷ []) ≡ true =
      ap (λ (known : List Lit). propagates known (map negation other ∷ map negation conflict ∷ [])) (all_negated_twice needed) ∙ propagated in
      ap (λ (b : Bool). if b then option_and_then (propagation_of (map negation needed)) (clauses_at all (one ∷ two ∷ [])) else None) (negations_are_literals nodes needed (held_formulas nodes branch needed needed_held formulas))
      ∙ ap (option_and_then (propagation_of (map negation needed))) clauses
      ∙ ap (λ (b : Bool). if b then Some (map negation needed) else None) found
