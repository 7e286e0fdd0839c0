-- The levels and variables from a place on.
use Rattle.std.proofs.Common.{◌≡◌, ℕ, zero, suc, ◌<◌, ◌≤◌, ℤ, pos, List, [], ◌∷◌, length, drop, get_or, refl, sym, subst, arith}
use Rattle.std.proofs.Math.Seq.{drop-cons}
use Rattle.df_row.specs.Row.{Row}
use Rattle.df_back.specs.BackSubstitution.{with_number, BackSubstitution, IsNearest, IsStrictlyBetween, HaveWideBound, IsBetween, IsPastWidth}
use Rattle.df_back.specs.BackSubstitution as definitions
use Rattle.df_back.specs.Ranges.{level_at}
use Rattle.df_back.proofs.Chains.{IsChain, chain_on, same_lengths, variable_below, zero_before}

-- the chain from a place on
pub record IsChainAt (count : ℕ) (rows : List Row) (variables : List ℕ) (levels : List (List Row)) : Type 0 where
  pub low : ℕ
  pub chain : IsChain count low rows variables levels

drop_levels : (first : List Row) (levels : List (List Row)) (i : ℕ) → i < length levels → drop i levels ≡ level_at first levels (suc i) ∷ drop (suc i) levels
drop_levels first [] i less = absurd (omega arith)
drop_levels first (level ∷ levels) zero less = refl
drop_levels first (level ∷ levels) (suc i) less = drop_levels level levels i (omega arith)

pub chain_at : (count low : ℕ) (first : List Row) (variables : List ℕ) (levels : List (List Row)) (i : ℕ) → IsChain count low first variables levels → i ≤ length variables → IsChainAt count (level_at first levels i) (drop i variables) (drop i levels)
chain_at count low first variables levels zero h le = record { low = low; chain = h }
chain_at count low first [] levels (suc i) h le = absurd (omega arith)
chain_at count low first (n ∷ variables) [] (suc i) h le = let same = same_lengths h.eliminates in absurd (omega arith)
chain_at count low first (n ∷ variables) (after ∷ levels) (suc i) h le = chain_at count (suc n) after variables levels i (chain_on h) (omega arith)

module _ (count low : ℕ) (first : List Row) (variables : List ℕ) (levels : List (List Row)) (whole : IsChain count low first variables levels) where
  same : length variables ≡ length levels
  same = same_lengths whole.eliminates

  module _ (i : ℕ) (less : i < length variables) where
    abbrev pub rows : List Row
    rows = level_at first levels i

    abbrev pub after : List Row
    after = level_at first levels (suc i)

    abbrev pub node : ℕ
    node = get_or variables i 0

    opened_variables : drop i variables ≡ node ∷ drop (suc i) variables
    opened_variables = drop-cons variables i 0 less

    opened_levels : drop i levels ≡ after ∷ drop (suc i) levels
    opened_levels = drop_levels first levels i (omega (arith, same))

    -- what holds of the opened lists holds of the others
    open_at : (P : List ℕ → List (List Row) → Type 0) → P (drop i variables) (drop i levels) → P (node ∷ drop (suc i) variables) (after ∷ drop (suc i) levels)
    open_at P h =
        let Q : List ℕ → Type 0 = λ vs. P vs (drop i levels) in
        let R : List (List Row) → Type 0 = λ ls. P (node ∷ drop (suc i) variables) ls in
        subst R opened_levels (subst Q opened_variables h)

    close_at : (P : List ℕ → List (List Row) → Type 0) → P (node ∷ drop (suc i) variables) (after ∷ drop (suc i) levels) → P (drop i variables) (drop i levels)
    close_at P h =
        let Q : List ℕ → Type 0 = λ vs. P vs (drop i levels) in
        let R : List (List Row) → Type 0 = λ ls. P (node ∷ drop (suc i) variables) ls in
        subst Q (sym opened_variables) (subst R (sym opened_levels) h)

    chain_here : IsChainAt count rows (node ∷ drop (suc i) variables) (after ∷ drop (suc i) levels)
    chain_here = open_at (IsChainAt count rows) (chain_at count low first variables levels i whole (omega (arith, less)))

    pub node_below : node < count
    node_below = variable_below count chain_here.low node rows after (drop (suc i) variables) (drop (suc i) levels) chain_here.chain

    chain_after : IsChain count (suc node) after (drop (suc i) variables) (drop (suc i) levels)
    chain_after = chain_on chain_here.chain

    module _ (numbers : ℕ → ℤ) (so_far : BackSubstitution count after (drop (suc i) variables) (drop (suc i) levels) numbers) where
      pub zero_here : numbers node ≡ pos 0
      zero_here = zero_before count (suc node) after (drop (suc i) variables) (drop (suc i) levels) numbers so_far chain_after.eliminates node (omega arith)

      pub back_here : (v : ℤ) → IsNearest count rows numbers node v → BackSubstitution count rows (drop i variables) (drop i levels) (with_number numbers node v)
      back_here v nearest = close_at (λ vs ls. BackSubstitution count rows vs ls (with_number numbers node v)) (definitions.back so_far nearest)

      pub between_here : (k : ℤ) → IsStrictlyBetween count rows numbers node k → IsBetween count rows (drop i variables) (drop i levels) node k
      between_here k between = close_at (λ vs ls. IsBetween count rows vs ls node k) (definitions.IsBetween.here numbers so_far between)

      pub wide_here : HaveWideBound count rows numbers node → IsPastWidth count rows (drop i variables) (drop i levels)
      wide_here wide = close_at (λ vs ls. IsPastWidth count rows vs ls) (definitions.IsPastWidth.here numbers so_far wide)

-- up to the first level
pub between_up : (count : ℕ) (first : List Row) (variables : List ℕ) (levels : List (List Row)) (n : ℕ) (k : ℤ) (i : ℕ) → length variables ≡ length levels → i ≤ length variables → IsBetween count (level_at first levels i) (drop i variables) (drop i levels) n k → IsBetween count first variables levels n k
between_up count first variables levels n k zero same le h = h
between_up count first [] levels n k (suc i) same le h = absurd (omega arith)
between_up count first (m ∷ variables) [] n k (suc i) same le h = absurd (omega arith)
between_up count first (m ∷ variables) (after ∷ levels) n k (suc i) same le h = definitions.IsBetween.later (between_up count after variables levels n k i (omega arith) (omega arith) h)

pub wide_up : (count : ℕ) (first : List Row) (variables : List ℕ) (levels : List (List Row)) (i : ℕ) → length variables ≡ length levels → i ≤ length variables → IsPastWidth count (level_at first levels i) (drop i variables) (drop i levels) → IsPastWidth count first variables levels
wide_up count first variables levels zero same le h = h
wide_up count first [] levels (suc i) same le h = absurd (omega arith)
wide_up count first (m ∷ variables) [] (suc i) same le h = absurd (omega arith)
wide_up count first (m ∷ variables) (after ∷ levels) (suc i) same le h = definitions.IsPastWidth.later (wide_up count after variables levels i (omega arith) (omega arith) h)
