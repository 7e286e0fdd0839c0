-- Back substitution, one variable after the other.
use Rattle.std.proofs.Common.{◌≡◌, ℕ, zero, suc, ◌<◌, ◌≤◌, ℤ, pos, true, false, Bool, cond, nat_eq, List, [], length, drop, set, get_or, refl, sym, ap, subst, ◌∙◌, arith}
use Rattle.std.proofs.Math.ListN.{replicate}
use Rattle.std.proofs.lemmas.List.{length-replicate, drop_all, get_or-set_same, get_or-set_other, length-set}
use Rattle.std.proofs.lemmas.Bool.{eq-eqb, eqb-true}
use Rattle.df_row.specs.Row.{Row}
use Rattle.df_row.specs.RowView.{IsWithin}
use Rattle.df_level.specs.Levels.{Stands, HasFalse}
use Rattle.df_level.specs.Elimination.{Eliminates, last_level}
use Rattle.df_back.specs.declared.range.Choice.{Choice}
use Rattle.df_back.specs.BackSubstitution.{with_number, BackSubstitution, IsNearest, IsStrictlyBetween, HaveWideBound, IsBetween, IsPastWidth}
use Rattle.df_back.specs.BackSubstitution as definitions
use Rattle.df_back.specs.BackView.{numbers_of, IsPoint, IsGap}
use Rattle.df_back.specs.Ranges.{level_at, AreInside, IsBetweenBounds, TellsChoice}
use Rattle.df_back.proofs.Chains.{IsChain, same_lengths, all_hold}
use Rattle.df_back.proofs.Freshness.{at_most_new, at_least_new}
use Rattle.df_back.proofs.Places.{chain_at, node_below, zero_here, back_here, between_here, wide_here, between_up, wide_up}

pub the_chain : (count : ℕ) (first : List Row) (variables : List ℕ) (levels : List (List Row)) → Eliminates 0 first variables levels → (HasFalse (last_level first levels) → ⊥) → ((row : Row) → Stands row first → IsWithin count row) → IsChain count 0 first variables levels
the_chain count first variables levels e stands within = record { eliminates = e; free = λ row m there less. absurd (omega arith); inside = record { each = within }; stands = stands }

-- the numbers of the variables from a place on
pub record IsBack (count : ℕ) (first : List Row) (variables : List ℕ) (levels : List (List Row)) (i : ℕ) (numbers : List ℤ) : Type 0 where
  pub size : length numbers ≡ count
  pub at_most : i ≤ length variables
  pub so_far : BackSubstitution count (level_at first levels i) (drop i variables) (drop i levels) (numbers_of numbers)

-- zeros
zero_read : (k n : ℕ) → get_or (replicate k (pos 0)) n (pos 0) ≡ pos 0
zero_read zero n = refl
zero_read (suc k) zero = refl
zero_read (suc k) (suc n) = zero_read k n

pub zeros : (count : ℕ) (numbers : List ℤ) → numbers ≡ replicate count (pos 0) → numbers_of numbers ≡ (λ n. pos 0)
zeros count numbers e = ap numbers_of e ∙ (λ i n. zero_read count n i)

pub zeros_length : (count : ℕ) (numbers : List ℤ) → numbers ≡ replicate count (pos 0) → length numbers ≡ count
zeros_length count numbers e = ap length e ∙ length-replicate count (pos 0)

-- one number more
pub numbers_set : (numbers : List ℤ) (n : ℕ) (v : ℤ) → n < length numbers → numbers_of (set numbers n v) ≡ with_number (numbers_of numbers) n v
numbers_set numbers n v less = λ i m. by m (nat_eq m n) refl i
  where
    by : (m : ℕ) (b : Bool) → nat_eq m n ≡ b → numbers_of (set numbers n v) m ≡ with_number (numbers_of numbers) n v m
    by m true e = ap (numbers_of (set numbers n v)) (eqb-true m n e) ∙ get_or-set_same numbers n v (pos 0) less ∙ sym (ap (λ t. cond t v (numbers_of numbers m)) e)
    by m false e = get_or-set_other numbers n m v (pos 0) (λ is. not_both (sym (eq-eqb m n is) ∙ e)) ∙ sym (ap (λ t. cond t v (numbers_of numbers m)) e)
      where
        not_both : true ≡ false → ⊥
        not_both e = cc

module _ (count : ℕ) (first : List Row) (variables : List ℕ) (levels : List (List Row)) (whole : IsChain count 0 first variables levels) where
  pub back_begins : (numbers : List ℤ) → length numbers ≡ count → numbers_of numbers ≡ (λ n. pos 0) → IsBack count first variables levels (length variables) numbers
  back_begins numbers size zeros = record { size = size; at_most = omega arith; so_far = there }
    where
      there : BackSubstitution count (level_at first levels (length variables)) (drop (length variables) variables) (drop (length variables) levels) (numbers_of numbers)
      there =
          let same = same_lengths whole.eliminates in
          let level = level_at first levels (length variables) in
          let P : List ℕ → Type 0 = λ vs. BackSubstitution count level vs (drop (length variables) levels) (numbers_of numbers) in
          let Q : List (List Row) → Type 0 = λ ls. BackSubstitution count level [] ls (numbers_of numbers) in
          let R : (ℕ → ℤ) → Type 0 = λ f. BackSubstitution count level [] [] f in
          subst P (sym (drop_all (length variables) variables (omega arith))) (subst Q (sym (drop_all (length variables) levels (omega (arith, same)))) (subst R (sym zeros) definitions.ends))

  pub back_ends : (i : ℕ) (numbers : List ℤ) → i ≡ 0 → IsBack count first variables levels i numbers → IsPoint count first variables levels numbers
  back_ends i numbers e h =
      let P : ℕ → Type 0 = λ j. BackSubstitution count (level_at first levels j) (drop j variables) (drop j levels) (numbers_of numbers) in
      let whole_back : BackSubstitution count first variables levels (numbers_of numbers) = subst P e h.so_far in
      record { size = h.size; is = whole_back; holds = all_hold count 0 first variables levels (numbers_of numbers) whole_back whole }

  module _ (j i n : ℕ) (numbers : List ℤ) (so_far : IsBack count first variables levels j numbers) (next : j ≡ suc i) (is : n ≡ get_or variables i 0) where
    less : i < length variables
    less = let le = so_far.at_most in omega (arith, le, next)

    after : BackSubstitution count (level_at first levels (suc i)) (drop (suc i) variables) (drop (suc i) levels) (numbers_of numbers)
    after = let P : ℕ → Type 0 = λ k. BackSubstitution count (level_at first levels k) (drop k variables) (drop k levels) (numbers_of numbers) in subst P next so_far.so_far

    pub variable_inside : n < count
    variable_inside = let Q : ℕ → Type 0 = λ m. m < count in subst Q (sym is) (node_below count 0 first variables levels whole i less)

    variable_zero : numbers_of numbers n ≡ pos 0
    variable_zero = ap (numbers_of numbers) is ∙ zero_here count 0 first variables levels whole i less (numbers_of numbers) after

    rows_inside : AreInside count (level_at first levels i)
    rows_inside = (chain_at count 0 first variables levels i whole (omega (arith, less))).chain.inside

    -- What is chosen at the numbers and the level that the code saw, is chosen there.
    pub choice_there : (seen : List ℤ) (given : List Row) (choice : Choice) → seen ≡ numbers → given ≡ level_at first levels i
        → ((count : ℕ) → AreInside count given → numbers_of seen n ≡ pos 0 → TellsChoice count given (numbers_of seen) n choice) → TellsChoice count (level_at first levels i) (numbers_of numbers) n choice
    choice_there seen given choice e same h =
        let P : List Row → Type 0 = λ l. AreInside count l in
        let Q : List ℤ → Type 0 = λ l. numbers_of l n ≡ pos 0 in
        let R : List Row → Type 0 = λ l. TellsChoice count l (numbers_of seen) n choice in
        let S : List ℤ → Type 0 = λ l. TellsChoice count (level_at first levels i) (numbers_of l) n choice in
        subst S e (subst R same (h count (subst P (sym same) rows_inside) (subst Q (sym e) variable_zero)))

    pub back_goes : (v : ℤ) (new : List ℤ) → new ≡ set numbers n v → IsNearest count (level_at first levels i) (numbers_of numbers) n v → IsBack count first variables levels i new
    back_goes v new e nearest = record { size = ap length e ∙ length-set numbers n v ∙ so_far.size; at_most = omega (arith, less); so_far = there }
      where
        there : BackSubstitution count (level_at first levels i) (drop i variables) (drop i levels) (numbers_of new)
        there =
            let level = level_at first levels i in
            let P : ℕ → Type 0 = λ m. IsNearest count level (numbers_of numbers) m v in
            let Q : (ℕ → ℤ) → Type 0 = λ f. BackSubstitution count level (drop i variables) (drop i levels) f in
            let R : ℕ → Type 0 = λ m. BackSubstitution count level (drop i variables) (drop i levels) (with_number (numbers_of numbers) m v) in
            let set_there : numbers_of new ≡ with_number (numbers_of numbers) n v = ap numbers_of e ∙ numbers_set numbers n v (let inside = variable_inside in let size = so_far.size in omega (arith, inside, size)) in
            subst Q (sym set_there) (subst R (sym is) (back_here count 0 first variables levels whole i less (numbers_of numbers) after v (subst P is nearest)))

    pub gap_found : (k : ℤ) → IsBetweenBounds count (level_at first levels i) (numbers_of numbers) n k → IsGap count first variables levels n k
    gap_found k h =
        let P : ℕ → Type 0 = λ m. IsStrictlyBetween count (level_at first levels i) (numbers_of numbers) m k in
        let Q : ℕ → Type 0 = λ m. IsBetween count first variables levels m k in
        let there = between_here count 0 first variables levels whole i less (numbers_of numbers) after k (subst P is h.between) in
        let between : IsBetween count first variables levels n k = subst Q (sym is) (between_up count first variables levels (get_or variables i 0) k i (same_lengths whole.eliminates) (omega (arith, less)) there) in
        record {
          between = between;
          inside = variable_inside;
          next_fits = h.next_fits;
          new_at_most = λ stands. at_most_new count 0 first variables levels n k between whole stands;
          new_at_least = λ stands. at_least_new count 0 first variables levels n k between whole stands;
        }

    pub wide_found : HaveWideBound count (level_at first levels i) (numbers_of numbers) n → IsPastWidth count first variables levels
    wide_found h =
        let P : ℕ → Type 0 = λ m. HaveWideBound count (level_at first levels i) (numbers_of numbers) m in
        let there = wide_here count 0 first variables levels whole i less (numbers_of numbers) after (subst P is h) in
        wide_up count first variables levels i (same_lengths whole.eliminates) (omega (arith, less)) there
