-- Rows of comparisons of an atom with a literal number.
use Rattle.std.proofs.Common.{◌≡◌, ◌⊎◌, inl, inr, ℕ, zero, suc, ◌+◌, ◌-◌, ◌<◌, ◌≤◌, ℤ, pos, negsuc, ◌+ℤ◌, ◌-ℤ◌, ◌*ℤ◌, Bool, true, false, cond, nat_eq, List, [], ◌∷◌, ◌++◌, length, Some, None, Option, slice_get, refl, sym, ap, ◌∙◌, subst, arith}
use Rattle.std.proofs.lemmas.Int.{ints}
use Rattle.std.specs.Option.{is_none, option_map}
use Rattle.df_form.specs.declared.log.Lit.{Lit}
use Rattle.df_form.specs.declared.node.Op.{Op}
use Rattle.df_form.specs.declared.node.Op.TheVariants as ops
use Rattle.df_form.specs.declared.node.Sort.TheVariants as sorts
use Rattle.df_form.specs.Node.{Node}
use Rattle.df_form.specs.Sorting.{sort_at}
use Rattle.df_form.specs.Clause.{same_literal, is_among, yes, no}
use Rattle.df_rules.specs.Bound.{number, at_most}
use Rattle.df_rules.proofs.SoundClauses.{same_literal_is}
use Rattle.df_row.specs.Row.{Row, constant_row, with_more, with_coefficient, without, literal_number, with_product, expanded_parts, expanded_at, expanded_below, expanded_difference, difference}
use Rattle.df_row.specs.Linear.{one_row, rows_by_sort, rows_of_node, rows_of}
use Rattle.df_row.proofs.Rows.{at_zero, narrow_row_is}
use Rattle.df_closure.specs.Atoms.{is_atom}
use Rattle.std.proofs.Math.Nat.{one-dvd}
use Rattle.std.specs.Int.{◌∣◌}
use Rattle.std.specs.Int.RustNames.{unsigned_abs}
use Rattle.std.proofs.lemmas.Bool.{or_cases, ne_eqb, eqb-true}
use Rattle.df_level.proofs.Ways.{row_by_one}
use Rattle.df_level.proofs.Sets.{stands_left, stands_right}
use Rattle.df_lemmas.proofs.Numbers.{equal_self}
use Rattle.df_lemmas.proofs.Options.{then_some, map_some}
use Rattle.df_level.specs.Division.{IsDivided}
use Rattle.df_level.specs.Levels.{Stands, IsFirstLevel}
use Rattle.df_back.specs.BackView.{at_most_row, at_least_row}

-- the rows of a literal are among those of the list
pub record HasRows (nodes : List Node) (rows : List Row) (l : Lit) : Type 0 where
  pub these : List Row
  pub are : rows_of_node nodes l.positive (slice_get nodes l.node) ≡ Some these
  pub stand : (r : Row) → Stands r these → Stands r rows

pub literal_rows : (nodes : List Node) (literals : List Lit) (rows : List Row) (l : Lit) → rows_of nodes literals ≡ Some rows → is_among literals l ≡ true → HasRows nodes rows l
literal_rows nodes [] rows l e among = absurd cc
literal_rows nodes (m ∷ ms) rows l e among = by (or_cases (same_literal l m) (is_among ms l) among) (λ rest rest_is h. literal_rows nodes ms rest l rest_is h)
  where
    first : (these : List Row) × (rows_of_node nodes m.positive (slice_get nodes m.node) ≡ Some these) × (option_map (λ more. these ++ more) (rows_of nodes ms) ≡ Some rows)
    first = then_some (λ rows. option_map (λ more. rows ++ more) (rows_of nodes ms)) (rows_of_node nodes m.positive (slice_get nodes m.node)) rows e

    rest : (more : List Row) × (rows_of nodes ms ≡ Some more) × (first.0 ++ more ≡ rows)
    rest = map_some (λ more. first.0 ++ more) (rows_of nodes ms) rows first.2

    by : (same_literal l m ≡ true) ⊎ (is_among ms l ≡ true) → ((more : List Row) → rows_of nodes ms ≡ Some more → is_among ms l ≡ true → HasRows nodes more l) → HasRows nodes rows l
    by (inl here) go = subst (λ (k : Lit). HasRows nodes rows k) (sym (same_literal_is l m here)) (record { these = first.0; are = first.1; stand = λ r h. subst (Stands r) rest.2 (stands_left r first.0 rest.0 h) })
    by (inr later) go =
        let found = go rest.0 rest.1 later in
        record { these = found.these; are = found.are; stand = λ r h. subst (Stands r) rest.2 (stands_right r first.0 rest.0 (found.stand r h)) }

atom_stays : (nodes : List Node) (c : ℤ) (op : Op) (parts : List ℕ) (row taken : Row) → is_atom nodes op parts ≡ true → expanded_parts nodes c op parts row taken ≡ row
atom_stays nodes c (ops.Number k) parts row taken e = absurd cc
atom_stays nodes c ops.Plus (a ∷ b ∷ []) row taken e = absurd cc
atom_stays nodes c ops.Times (a ∷ b ∷ []) row taken e = by (literal_number (slice_get nodes a)) e
  where
    by : (o : Option ℤ) → is_none o ≡ true → with_product c b o row taken ≡ row
    by None h = refl
    by (Some k) h = absurd cc
atom_stays nodes c op parts row taken e = refl

module _ (nodes : List Node) (term place : ℕ) (bound : ℤ) (term_less : term < length nodes) (place_less : place < length nodes) (atom : (node : Node) → slice_get nodes term ≡ Some node → is_atom nodes node.op node.parts ≡ true) (at_place : slice_get nodes place ≡ Some (number bound)) where
  apart : term ≡ place → ⊥
  apart same =
      let e : false ≡ true = atom (number bound) (ap (slice_get nodes) same ∙ at_place) in
      absurd cc

  term_stays : (row : Row) → expanded_at nodes term (slice_get nodes term) row ≡ row
  term_stays row = by (slice_get nodes term) refl
    where
      by : (o : Option Node) → slice_get nodes term ≡ o → expanded_at nodes term o row ≡ row
      by None e = refl
      by (Some node) e = atom_stays nodes (row.coefficient term) node.op node.parts row (without term row) (atom node e)

  one_stays : (n : ℕ) (row : Row) → ((n ≡ term → ⊥) → row.coefficient n ≡ pos 0) → expanded_at nodes n (slice_get nodes n) row ≡ row
  one_stays n row zero_there = by (nat_eq n term) refl
    where
      by : (b : Bool) → nat_eq n term ≡ b → expanded_at nodes n (slice_get nodes n) row ≡ row
      by true e = subst (λ (m : ℕ). expanded_at nodes m (slice_get nodes m) row ≡ row) (sym (eqb-true n term e)) (term_stays row)
      by false e = at_zero nodes n row (zero_there (λ same. let no_two : false ≡ true = sym e ∙ ap (nat_eq n) (sym same) ∙ equal_self n in absurd cc))

  -- only the term has a coefficient from a node on
  stays_to : (more low : ℕ) (row : Row) → ((m : ℕ) → low ≤ m → (m ≡ term → ⊥) → row.coefficient m ≡ pos 0) → expanded_below nodes (more + low) row ≡ expanded_below nodes low row
  stays_to zero low row zeros = let e : 0 + low ≡ low = omega arith in ap (λ x. expanded_below nodes x row) e
  stays_to (suc more) low row zeros =
      let e : suc more + low ≡ suc (more + low) = omega arith in
      ap (λ x. expanded_below nodes x row) e ∙ ap (expanded_below nodes (more + low)) (one_stays (more + low) row (zeros (more + low) (omega arith))) ∙ stays_to more low row zeros

  -- the literal number joins the constant
  abbrev joined : Row → Row
  joined row = record { coefficient = with_coefficient row.coefficient place (pos 0); constant = row.constant +ℤ (row.coefficient place *ℤ bound) }

  expands : (row : Row) → ((m : ℕ) → (m ≡ term → ⊥) → (m ≡ place → ⊥) → row.coefficient m ≡ pos 0) → expanded_below nodes (length nodes) row ≡ joined row
  expands row zeros =
      let more = length nodes - suc place in
      let count : more + suc place ≡ length nodes = omega (arith, place_less) in
      let down = ap (λ x. expanded_below nodes x row) (sym count) ∙ stays_to more (suc place) row (λ m le other. zeros m other (λ same. absurd (omega (arith, le, same)))) in
      let at : expanded_at nodes place (slice_get nodes place) row ≡ joined row = ap (λ o. expanded_at nodes place o row) at_place in
      let start : place ≡ place + 0 = omega arith in
      let rest = ap (λ x. expanded_below nodes x (joined row)) start ∙ stays_to place 0 (joined row) (λ m le other. now (nat_eq m place) m refl other) in
      down ∙ ap (expanded_below nodes place) at ∙ rest
    where
      now : (b : Bool) (m : ℕ) → nat_eq m place ≡ b → (m ≡ term → ⊥) → cond (nat_eq m place) (pos 0) (row.coefficient m) ≡ pos 0
      now true m here other = ap (λ t. cond t (pos 0) (row.coefficient m)) here
      now false m here other = ap (λ t. cond t (pos 0) (row.coefficient m)) here ∙ zeros m other (λ same. let no_two : false ≡ true = sym here ∙ ap (nat_eq m) (sym same) ∙ equal_self m in absurd cc)

  abbrev lower_begun : Row
  lower_begun = with_more place (pos 1) (constant_row (pos 0))

  abbrev lower : Row
  lower = with_more term (negsuc 0) lower_begun

  -- where the node is at most the bound
  at_most_is : (d : Row) → difference nodes (length nodes) term place (pos 0) ≡ Some d → d ≡ at_most_row term bound
  at_most_is d e =
      (narrow_row_is (length nodes) (expanded_difference nodes (length nodes) term place (pos 0)) d e).0
      ∙ expands lower (λ m a b. ap (λ t. cond t (lower_begun.coefficient term +ℤ negsuc 0) (lower_begun.coefficient m)) (ne_eqb m term a) ∙ ap (λ t. cond t (pos 0 +ℤ pos 1) (pos 0)) (ne_eqb m place b))
      ∙ (λ i. record { coefficient = λ m. each m i; constant = constants i })
    where
      at_term : lower_begun.coefficient term +ℤ negsuc 0 ≡ negsuc 0
      at_term = ap (λ t. cond t (pos 0 +ℤ pos 1) (pos 0) +ℤ negsuc 0) (ne_eqb term place apart)

      at_place_one : lower.coefficient place ≡ pos 1
      at_place_one = ap (λ t. cond t (lower_begun.coefficient term +ℤ negsuc 0) (lower_begun.coefficient place)) (ne_eqb place term (λ same. apart (sym same))) ∙ ap (λ t. cond t (pos 0 +ℤ pos 1) (pos 0)) (equal_self place)

      one_time : (z : ℤ) → pos 0 +ℤ (pos 1 *ℤ z) ≡ z
      one_time z = omega (arith, ints)

      constants : pos 0 +ℤ (lower.coefficient place *ℤ bound) ≡ bound
      constants = ap (λ z. pos 0 +ℤ (z *ℤ bound)) at_place_one ∙ one_time bound

      each : (m : ℕ) → with_coefficient lower.coefficient place (pos 0) m ≡ cond (nat_eq m term) (negsuc 0) (pos 0)
      each m = by (nat_eq m place) (nat_eq m term) refl refl
        where
          by : (b t : Bool) → nat_eq m place ≡ b → nat_eq m term ≡ t → cond b (pos 0) (cond t (lower_begun.coefficient term +ℤ negsuc 0) (cond b (pos 0 +ℤ pos 1) (pos 0))) ≡ cond t (negsuc 0) (pos 0)
          by true true e f = absurd (apart (sym (eqb-true m term f) ∙ eqb-true m place e))
          by true false e f = refl
          by false true e f = at_term
          by false false e f = refl

  abbrev upper_begun : Row
  upper_begun = with_more term (pos 1) (constant_row (negsuc 0))

  abbrev upper : Row
  upper = with_more place (negsuc 0) upper_begun

  -- where it is at least the next number
  at_least_is : (d : Row) → difference nodes (length nodes) place term (negsuc 0) ≡ Some d → d ≡ at_least_row term (bound +ℤ pos 1)
  at_least_is d e =
      (narrow_row_is (length nodes) (expanded_difference nodes (length nodes) place term (negsuc 0)) d e).0
      ∙ expands upper (λ m a b. ap (λ t. cond t (upper_begun.coefficient place +ℤ negsuc 0) (upper_begun.coefficient m)) (ne_eqb m place b) ∙ ap (λ t. cond t (pos 0 +ℤ pos 1) (pos 0)) (ne_eqb m term a))
      ∙ (λ i. record { coefficient = λ m. each m i; constant = constants i })
    where
      at_place_less : upper.coefficient place ≡ negsuc 0
      at_place_less = ap (λ t. cond t (upper_begun.coefficient place +ℤ negsuc 0) (upper_begun.coefficient place)) (equal_self place) ∙ ap (λ t. cond t (pos 0 +ℤ pos 1) (pos 0) +ℤ negsuc 0) (ne_eqb place term (λ same. apart (sym same)))

      less_time : (z : ℤ) → negsuc 0 +ℤ (negsuc 0 *ℤ z) ≡ pos 0 -ℤ (z +ℤ pos 1)
      less_time z = omega (arith, ints)

      constants : negsuc 0 +ℤ (upper.coefficient place *ℤ bound) ≡ pos 0 -ℤ (bound +ℤ pos 1)
      constants = ap (λ z. negsuc 0 +ℤ (z *ℤ bound)) at_place_less ∙ less_time bound

      each : (m : ℕ) → with_coefficient upper.coefficient place (pos 0) m ≡ cond (nat_eq m term) (pos 1) (pos 0)
      each m = by (nat_eq m place) (nat_eq m term) refl refl
        where
          by : (b t : Bool) → nat_eq m place ≡ b → nat_eq m term ≡ t → cond b (pos 0) (cond b (upper_begun.coefficient place +ℤ negsuc 0) (cond t (pos 0 +ℤ pos 1) (pos 0))) ≡ cond t (pos 1) (pos 0)
          by true true e f = absurd (apart (sym (eqb-true m term f) ∙ eqb-true m place e))
          by true false e f = refl
          by false true e f = refl
          by false false e f = refl

  module _ (rows : List Row) (literals : List Lit) (found : rows_of nodes literals ≡ Some rows) (sort : sort_at nodes term ≡ sorts.Number) (m : ℕ) (at_m : slice_get nodes m ≡ Some (at_most term place)) where
    pub known_at_most : is_among literals (yes m) ≡ true → Stands (at_most_row term bound) rows
    known_at_most among =
        let has = literal_rows nodes literals rows (yes m) found among in
        let are : one_row (difference nodes (length nodes) term place (pos 0)) ≡ Some has.these = sym (ap (rows_of_node nodes true) at_m ∙ ap (λ s. rows_by_sort s nodes true ops.AtMost term place) sort) ∙ has.are in
        let one = map_some (λ r. r ∷ []) (difference nodes (length nodes) term place (pos 0)) has.these are in
        has.stand (at_most_row term bound) (subst (Stands (at_most_row term bound)) one.2 (inl (sym (at_most_is one.0 one.1))))

    pub known_at_least : is_among literals (no m) ≡ true → Stands (at_least_row term (bound +ℤ pos 1)) rows
    known_at_least among =
        let has = literal_rows nodes literals rows (no m) found among in
        let are : one_row (difference nodes (length nodes) place term (negsuc 0)) ≡ Some has.these = sym (ap (rows_of_node nodes false) at_m ∙ ap (λ s. rows_by_sort s nodes false ops.AtMost term place) sort) ∙ has.are in
        let one = map_some (λ r. r ∷ []) (difference nodes (length nodes) place term (negsuc 0)) has.these are in
        has.stand (at_least_row term (bound +ℤ pos 1)) (subst (Stands (at_least_row term (bound +ℤ pos 1))) one.2 (inl (sym (at_least_is one.0 one.1))))

-- such rows are divided by 1
own_divided : (r : Row) (term : ℕ) → unsigned_abs (r.coefficient term) ≡ 1 → IsDivided r r
own_divided r term e = record {
  content = 1;
  is_content = record { each = λ n. one-dvd (unsigned_abs (r.coefficient n)); greatest = λ d all. subst (λ (x : ℕ). d ∣ x) e (all term) };
  is = sym (row_by_one r);
}

pub first_at_most : (rows first : List Row) (term : ℕ) (bound : ℤ) → IsFirstLevel rows first → Stands (at_most_row term bound) rows → Stands (at_most_row term bound) first
first_at_most rows first term bound is stands = is.all (at_most_row term bound) (at_most_row term bound) stands (own_divided (at_most_row term bound) term (ap (λ t. unsigned_abs (cond t (negsuc 0) (pos 0))) (equal_self term)))

pub first_at_least : (rows first : List Row) (term : ℕ) (bound : ℤ) → IsFirstLevel rows first → Stands (at_least_row term bound) rows → Stands (at_least_row term bound) first
first_at_least rows first term bound is stands = is.all (at_least_row term bound) (at_least_row term bound) stands (own_divided (at_least_row term bound) term (ap (λ t. unsigned_abs (cond t (pos 1) (pos 0))) (equal_self term)))
