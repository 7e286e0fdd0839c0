-- Each clause of a connective is added by one of its lines.
use Rattle.std.proofs.Common.{◌≡◌, ℕ, zero, suc, ◌+◌, ◌<◌, List, [], ◌∷◌, ◌++◌, map, length, Option, Some, None, slice_get, refl, ap, ◌∙◌, subst, arith}
use Rattle.std.specs.Option.{option_map, option_map_or, option_and_then}
use Rattle.std.specs.List.{range_with_len}
use Rattle.std.proofs.lemmas.Option.{slice_get-map}
use Rattle.df_lemmas.proofs.Lists.{get_grown}
use Rattle.df_form.specs.declared.node.Sort.{Sort}
use Rattle.df_form.specs.declared.node.Sort.TheVariants as sorts
use Rattle.df_form.specs.declared.node.Op.{Op}
use Rattle.df_form.specs.declared.node.Op.TheVariants as ops
use Rattle.df_form.specs.Node.{Node}
use Rattle.df_form.specs.Sorting.{sort_at}
use Rattle.df_form.specs.Clause.{Clause}
use Rattle.df_form.specs.Log.{Connective}
use Rattle.df_rules.specs.Connective.{chosen, not_clauses, and_clauses, or_clauses, implies_clauses, iff_clauses, equal_clause, equal_by_sort, connective_clause, connective_line}
use Rattle.df_clause.specs.Lines.{sides_count, connective_count, connective_lines, lines_at}
use Rattle.df_clause.specs.Among.{Among}
use Rattle.df_clause.proofs.Counts.{and_length, or_length}

pub in_left : {A : Type 0} (xs ys : List A) (x : A) → Among xs x → Among (xs ++ ys) x
in_left xs ys x h = (h.0, get_grown xs ys h.0 x h.1)

pub in_right : {A : Type 0} (xs ys : List A) (x : A) → Among ys x → Among (xs ++ ys) x
in_right [] ys x h = h
in_right (y ∷ xs) ys x h = let r = in_right xs ys x h in (suc r.0, r.1)

pub in_mapped : {A B : Type 0} (f : A → B) (xs : List A) (x : A) → Among xs x → Among (map f xs) (f x)
in_mapped f xs x h = (h.0, slice_get-map f xs h.0 ∙ ap (option_map f) h.1)

pub in_numbers : (a n i : ℕ) → i < n → Among (range_with_len a n) (a + i)
in_numbers a zero i less = absurd (omega arith)
in_numbers a (suc n) zero less = let e : a ≡ a + 0 = omega arith in (0, ap (λ (k : ℕ). Some k) e)
in_numbers a (suc n) (suc i) less =
    let r = in_numbers (a + 1) n i (omega (arith, less)) in
    let e : a + 1 + i ≡ a + suc i = omega arith in
    (suc r.0, r.1 ∙ ap (λ (k : ℕ). Some k) e)

pub below : (n k : ℕ) → k < n → Among (range_with_len 0 n) k
below n k less = let e : 0 + k ≡ k = omega arith in subst (λ (k : ℕ). Among (range_with_len 0 n) k) e (in_numbers 0 n k less)

chosen_within : (nodes : List Node) (clauses : List Clause) (k : ℕ) → (chosen nodes clauses k ≡ None → ⊥) → k < length clauses
chosen_within nodes [] k there = absurd (there refl)
chosen_within nodes (clause ∷ clauses) zero there = omega arith
chosen_within nodes (clause ∷ clauses) (suc k) there = let rest = chosen_within nodes clauses k there in omega (arith, rest)

equal_counted : (nodes : List Node) (n a b k : ℕ) → (equal_clause nodes n a b k ≡ None → ⊥) → k < 3
equal_counted nodes n a b zero there = omega arith
equal_counted nodes n a b (suc zero) there = omega arith
equal_counted nodes n a b (suc (suc zero)) there = omega arith
equal_counted nodes n a b (suc (suc (suc k))) there = absurd (there refl)

sides_counted : (sort : Sort) (nodes : List Node) (n a b k : ℕ) → (equal_by_sort sort nodes n a b k ≡ None → ⊥) → k < sides_count sort
sides_counted sorts.Number nodes n a b k there = equal_counted nodes n a b k there
sides_counted sorts.Truth nodes n a b k there = absurd (there refl)
sides_counted sorts.Character nodes n a b k there = absurd (there refl)

op_counted : (nodes : List Node) (n k : ℕ) (op : Op) (parts : List ℕ) → (connective_clause nodes n k op parts ≡ None → ⊥) → k < connective_count nodes op parts
op_counted nodes n k ops.Not [] there = absurd (there refl)
op_counted nodes n k ops.Not (p ∷ []) there = chosen_within nodes (not_clauses n p) k there
op_counted nodes n k ops.Not (p ∷ q ∷ others) there = absurd (there refl)
op_counted nodes n k ops.And parts there = let less = chosen_within nodes (and_clauses n parts) k there in omega (arith, less, and_length n parts)
op_counted nodes n k ops.Or parts there = let less = chosen_within nodes (or_clauses n parts) k there in omega (arith, less, or_length n parts)
op_counted nodes n k ops.Implies [] there = absurd (there refl)
op_counted nodes n k ops.Implies (a ∷ []) there = absurd (there refl)
op_counted nodes n k ops.Implies (a ∷ b ∷ []) there = chosen_within nodes (implies_clauses n a b) k there
op_counted nodes n k ops.Implies (a ∷ b ∷ c ∷ others) there = absurd (there refl)
op_counted nodes n k ops.Iff [] there = absurd (there refl)
op_counted nodes n k ops.Iff (a ∷ []) there = absurd (there refl)
op_counted nodes n k ops.Iff (a ∷ b ∷ []) there = chosen_within nodes (iff_clauses n a b) k there
op_counted nodes n k ops.Iff (a ∷ b ∷ c ∷ others) there = absurd (there refl)
op_counted nodes n k ops.Equal [] there = absurd (there refl)
op_counted nodes n k ops.Equal (a ∷ []) there = absurd (there refl)
op_counted nodes n k ops.Equal (a ∷ b ∷ []) there = sides_counted (sort_at nodes a) nodes n a b k there
op_counted nodes n k ops.Equal (a ∷ b ∷ c ∷ others) there = absurd (there refl)
op_counted nodes n k (ops.Number value) parts there = absurd (there refl)
op_counted nodes n k (ops.Free free) parts there = absurd (there refl)
op_counted nodes n k ops.Plus parts there = absurd (there refl)
op_counted nodes n k ops.Times parts there = absurd (there refl)
op_counted nodes n k (ops.Of symbol payload) parts there = absurd (there refl)
op_counted nodes n k ops.AtMost parts there = absurd (there refl)

pub connective_among : (nodes : List Node) (n k : ℕ) → (connective_line nodes n k ≡ None → ⊥) → Among (lines_at nodes n) (Connective n k)
connective_among nodes n k there = by (slice_get nodes n) there
  where
    by : (o : Option Node) → (option_and_then (λ (node : Node). connective_clause nodes n k node.op node.parts) o ≡ None → ⊥) → Among (option_map_or (connective_lines nodes n) o []) (Connective n k)
    by None there = absurd (there refl)
    by (Some node) there =
        let own = range_with_len 0 (connective_count nodes node.op node.parts) in
        in_mapped (λ k. Connective n k) own k (below (connective_count nodes node.op node.parts) k (op_counted nodes n k node.op node.parts there))
