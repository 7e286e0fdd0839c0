-- Back substitution, one variable after the other.
use Rattle.std.proofs.Common.{◌≡◌, ℕ, zero, suc, ◌<◌, ◌≤◌, ℤ, pos, List, [], ◌∷◌, length, drop, get_or, slice_get, Some, refl, sym, ap, subst, ◌∙◌, arith}
use Rattle.std.proofs.lemmas.List.{drop_all}
use Rattle.df_row.specs.Row.{Row}
use Rattle.df_level.specs.declared.row.Row as declared
use Rattle.df_level.specs.Levels.{HasFalse, rows_of}
use Rattle.df_level.specs.Elimination.{Eliminates, last_level}
use Rattle.df_elim.proofs.Telling.{first_tells}
use Rattle.df_back.specs.declared.range.Choice.{Choice}
use Rattle.df_back.specs.declared.range.Choice.TheVariants as choices
use Rattle.df_back.specs.BackSubstitution.{with_number, BackSubstitution, IsNearest}
use Rattle.df_back.specs.BackSubstitution as definitions
use Rattle.df_back.specs.Ranges.{level_at, AreInside, TellsChoice}
use Rattle.df_back.proofs.Chains.{IsChain, same_lengths, all_hold}
use Rattle.df_back.proofs.Places.{chain_at, zero_here, back_here}
use Rattle.df_back.proofs.Steps.{the_chain}
use Rattle.df_lin.specs.Verdict.{HaveLevels, IsPoint, IsNextBack, IsGap, IsWideAt}
use Rattle.df_lin.proofs.Counts.{some_count}
use Rattle.df_lin.proofs.Whole.{first_inside}

-- the numbers of the variables from a place on, whatever the count of nodes
pub record IsBackTo (first : List Row) (variables : List ℕ) (levels : List (List Row)) (place : ℕ) (numbers : ℕ → ℤ) : Type 0 where
  pub at_most : place ≤ length variables
  pub so_far : (count : ℕ) → AreInside count first → BackSubstitution count (level_at first levels place) (drop place variables) (drop place levels) numbers

module _ (first : List Row) (variables : List ℕ) (levels : List (List Row)) (e : Eliminates 0 first variables levels) (stands : HasFalse (last_level first levels) → ⊥) where
  chain : (count : ℕ) → AreInside count first → IsChain count 0 first variables levels
  chain count within = the_chain count first variables levels e stands within.each

  pub begins : (numbers : ℕ → ℤ) (place : ℕ) → numbers ≡ (λ n. pos 0) → place ≡ length variables → IsBackTo first variables levels place numbers
  begins numbers place zeros at = record { at_most = omega (arith, at); so_far = λ count within. there count }
    where
      there : (count : ℕ) → BackSubstitution count (level_at first levels place) (drop place variables) (drop place levels) numbers
      there count =
          let same = same_lengths e in
          let level = level_at first levels place in
          let P : List ℕ → Type 0 = λ vs. BackSubstitution count level vs (drop place levels) numbers in
          let Q : List (List Row) → Type 0 = λ ls. BackSubstitution count level [] ls numbers in
          let R : (ℕ → ℤ) → Type 0 = λ f. BackSubstitution count level [] [] f in
          subst P (sym (drop_all place variables (omega (arith, at)))) (subst Q (sym (drop_all place levels (omega (arith, same, at)))) (subst R (sym zeros) definitions.ends))

  pub ends : (rows : List Row) (place : ℕ) (numbers : ℕ → ℤ) → HaveLevels rows first variables levels → place ≡ 0 → IsBackTo first variables levels place numbers → IsPoint rows numbers
  ends rows place numbers have at h = record {
    first = first;
    variables = variables;
    levels = levels;
    have = have;
    back = λ count inside. back count (first_inside count rows first have.elimination.is_first inside);
    meets = λ count inside. first_tells count numbers rows first have.elimination.is_first (all_hold count 0 first variables levels numbers (back count (first_inside count rows first have.elimination.is_first inside)) (chain count (first_inside count rows first have.elimination.is_first inside)));
  }
    where
      back : (count : ℕ) → AreInside count first → BackSubstitution count first variables levels numbers
      back count within = let P : ℕ → Type 0 = λ j. BackSubstitution count (level_at first levels j) (drop j variables) (drop j levels) numbers in subst P at (h.so_far count within)

  module _ (j i n : ℕ) (numbers : ℕ → ℤ) (so_far : IsBackTo first variables levels j numbers) (next : j ≡ suc i) (is : n ≡ get_or variables i 0) where
    less : i < length variables
    less = let le = so_far.at_most in omega (arith, le, next)

    after : (count : ℕ) → AreInside count first → BackSubstitution count (level_at first levels (suc i)) (drop (suc i) variables) (drop (suc i) levels) numbers
    after count within = let P : ℕ → Type 0 = λ k. BackSubstitution count (level_at first levels k) (drop k variables) (drop k levels) numbers in subst P next (so_far.so_far count within)

    none : (count : ℕ) → AreInside count first → numbers n ≡ pos 0
    none count within = ap numbers is ∙ zero_here count 0 first variables levels (chain count within) i less numbers (after count within)

    inside : (count : ℕ) → AreInside count first → AreInside count (level_at first levels i)
    inside count within = (chain_at count 0 first variables levels i (chain count within) (omega (arith, less))).chain.inside

    -- what is chosen there
    abbrev pub Chosen : Choice → Type 0
    Chosen choice = (count : ℕ) → AreInside count first → TellsChoice count (level_at first levels i) numbers n choice

    pub chosen : (given : List Row) (choice : Choice) → given ≡ level_at first levels i → ((count : ℕ) → AreInside count given → numbers n ≡ pos 0 → TellsChoice count given numbers n choice) → (count : ℕ) → AreInside count first → TellsChoice count (level_at first levels i) numbers n choice
    chosen given choice same h = λ count within.
        let P : List Row → Type 0 = λ l. AreInside count l in
        let Q : List Row → Type 0 = λ l. TellsChoice count l numbers n choice in
        subst Q same (h count (subst P (sym same) (inside count within)) (none count within))

    pub goes : (v : ℤ) (new : ℕ → ℤ) → new ≡ with_number numbers n v → Chosen (choices.Value v) → IsBackTo first variables levels i new
    goes v new set h = record { at_most = omega (arith, less); so_far = there }
      where
        there : (count : ℕ) → AreInside count first → BackSubstitution count (level_at first levels i) (drop i variables) (drop i levels) new
        there count within =
            let P : ℕ → Type 0 = λ m. IsNearest count (level_at first levels i) numbers m v in
            let Q : (ℕ → ℤ) → Type 0 = λ f. BackSubstitution count (level_at first levels i) (drop i variables) (drop i levels) f in
            let R : ℕ → Type 0 = λ m. BackSubstitution count (level_at first levels i) (drop i variables) (drop i levels) (with_number numbers m v) in
            subst Q (sym set) (subst R (sym is) (back_here count 0 first variables levels (chain count within) i less numbers (after count within) v (subst P is (h count within))))

    module _ (rows : List Row) (have : HaveLevels rows first variables levels) where
      within_first : (count : ℕ) → AreInside count rows → AreInside count first
      within_first count = first_inside count rows first have.elimination.is_first

      there_is : (variables : List ℕ) (i n : ℕ) → i < length variables → n ≡ get_or variables i 0 → slice_get variables i ≡ Some n
      there_is [] i n less is = absurd (omega (arith, less))
      there_is (m ∷ ms) zero n less is = ap Some (sym is)
      there_is (m ∷ ms) (suc i) n less is = there_is ms i n (omega (arith, less)) is

      next_back : IsNextBack rows numbers n (level_at first levels i)
      next_back = record {
        first = first;
        variables = variables;
        levels = levels;
        have = have;
        place = i;
        is_variable = there_is variables i n less is;
        is_level = refl;
        back = λ count within. after count (within_first count within);
      }

      pub gap : (given : List declared.Row) (k : ℤ) → first ≡ rows_of given → Chosen (choices.Between k) → IsGap rows n k numbers
      gap given k seen h =
          let some = some_count given in
          let P : List Row → Type 0 = AreInside some.0 in
          record {
            level = level_at first levels i;
            next = next_back;
            between = λ count within. (h count (within_first count within)).between;
            next_fits = (h some.0 (subst P (sym seen) some.1)).next_fits;
          }

      pub wide : Chosen choices.Wide → IsWideAt rows n numbers
      wide h = record { level = level_at first levels i; next = next_back; wide = λ count within. h count (within_first count within) }
