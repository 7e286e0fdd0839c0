-- Terms that are apart are numbers.
use Rattle.std.proofs.Common.{◌≡◌, ℕ, zero, suc, ◌<◌, ℤ, pos, true, ◌&&◌, ◌==◌, List, [], ◌∷◌, map, length, Some, slice_get, nat_lt, refl, sym, ap, ◌∙◌, arith, ltb-true}
use Rattle.std.specs.List.{list_any}
use Rattle.std.specs.Option.{option_map}
use Rattle.std.proofs.lemmas.Bool.{and_parts}
use Rattle.std.proofs.lemmas.Option.{slice_get-map, same_Some, slice_get_within}
use Rattle.df_lemmas.proofs.Lists.{get_below}
use Rattle.df_form.specs.declared.log.Lit.{Lit}
use Rattle.df_form.specs.declared.node.Sort.{Sort}
use Rattle.df_form.specs.declared.node.Sort.TheVariants as sorts
use Rattle.df_form.specs.declared.node.Op.{Op}
use Rattle.df_form.specs.declared.node.Op.TheVariants as ops
use Rattle.df_form.specs.declared.symbol.Symbol.{Symbol}
use Rattle.df_form.specs.declared.symbol.Payload.{Payload}
use Rattle.df_form.specs.Symbol.{filled, given_by}
use Rattle.df_form.specs.Node.{Node, same_sort}
use Rattle.df_form.specs.Sorting.{sort_at, are_none, are_two, takes}
use Rattle.df_form.proofs.Drafts.{sort_here}
use Rattle.df_form.proofs.Same.{same_sort_equal}
use Rattle.df_form.proofs.Tested.{parts_alike}
use Rattle.df_form.proofs.Values.{Grows, grown_get, AreSorted, parts_below, parts_taken}
use Rattle.df_cong.specs.Congruence.{label_at}
use Rattle.df_classes.specs.Labels.{HaveOneLabel}
use Rattle.df_table.specs.TableModel.{number_at}
use Rattle.df_model.specs.TableNumbers.{number_of_truth, Basis, basis_of, free_number, first_factor, number_by}
use Rattle.df_model.specs.Tabulation.{IsWholeTable}
use Rattle.df_model.specs.Solution.{IsSolution}
use Rattle.df_model.proofs.Tests.{passes_at}
use Rattle.df_model.proofs.TableReadings.{number_is, character_is}
use Rattle.df_model.proofs.SolvedTables.{same_codes}

nothing_at : (sort : ℕ → Sort) (parts : List ℕ) (place p : ℕ) → are_none (map sort parts) ≡ true → slice_get parts place ≡ Some p → ⊥
nothing_at sort [] place p none at = absurd cc
nothing_at sort (x ∷ xs) place p none at = absurd cc

no_parts : (sort : ℕ → Sort) (parts : List ℕ) → are_none (map sort parts) ≡ true → parts ≡ []
no_parts sort [] none = refl
no_parts sort (x ∷ xs) none = absurd cc

two_sorts : (sort : ℕ → Sort) (s : Sort) (parts : List ℕ) (place p : ℕ) → are_two s (map sort parts) ≡ true → slice_get parts place ≡ Some p → sort p ≡ s
two_sorts sort s (x ∷ y ∷ []) zero p two at = ap sort (sym (same_Some x p at)) ∙ same_sort_equal (sort x) s (and_parts (same_sort (sort x) s) (same_sort (sort y) s) two).0
two_sorts sort s (x ∷ y ∷ []) (suc zero) p two at = ap sort (sym (same_Some y p at)) ∙ same_sort_equal (sort y) s (and_parts (same_sort (sort x) s) (same_sort (sort y) s) two).1
two_sorts sort s (x ∷ y ∷ []) (suc (suc place)) p two at = absurd cc
two_sorts sort s [] place p two at = absurd cc
two_sorts sort s (x ∷ []) place p two at = absurd cc
two_sorts sort s (x ∷ y ∷ z ∷ others) place p two at = absurd cc

module _ (nodes : List Node) (known : List Lit) (numbers : List ℤ) (labels : List ℕ) (s : IsSolution nodes known numbers labels) (set : List Node) (grows : Grows set nodes) (set_sorted : AreSorted set) (table : List ℤ)
    (whole : IsWholeTable (basis_of numbers labels known) set table) where
  abbrev basis : Basis
  basis = basis_of numbers labels known

  abbrev pub label : ℕ → ℕ
  label n = label_at labels n

  abbrev pub v : ℕ → ℤ
  v n = number_at table n

  -- two nodes of one operation
  abbrev pub Pair : Op → List ℕ → List ℕ → ℕ → ℕ → Type 0
  Pair op xs ys m n = (slice_get set m ≡ Some (record { op = op; parts = xs })) × (slice_get set n ≡ Some (record { op = op; parts = ys })) × (map v xs ≡ map v ys) × (v m ≡ v n → ⊥)

  -- an operation that gives both the same number
  agreed : (op : Op) (xs ys : List ℕ) (m n : ℕ) → Pair op xs ys m n → number_by basis m (first_factor set xs) op (map v xs) ≡ number_by basis n (first_factor set ys) op (map v xs) → ⊥
  agreed op xs ys m n p e =
      p.3 (number_is basis set set_sorted table whole m (record { op = op; parts = xs }) p.0 ∙ e ∙ ap (number_by basis n (first_factor set ys) op) p.2 ∙ sym (number_is basis set set_sorted table whole n (record { op = op; parts = ys }) p.1))

  taken : (op : Op) (xs : List ℕ) (m : ℕ) → slice_get set m ≡ Some (record { op = op; parts = xs }) → takes op (map (sort_at set) xs) ≡ true
  taken op xs m at = parts_taken set m (record { op = op; parts = xs }) set_sorted at

  -- a free term is itself
  one_free : (op : Op) (xs ys : List ℕ) (m n : ℕ) → Pair op xs ys m n → xs ≡ [] → ys ≡ [] → ⊥
  one_free op xs ys m n p none other =
      let here = grown_get set nodes grows m (record { op = op; parts = [] }) (p.0 ∙ (λ i. Some (record { op = op; parts = none i }))) in
      let there = grown_get set nodes grows n (record { op = op; parts = [] }) (p.1 ∙ (λ i. Some (record { op = op; parts = other i }))) in
      p.3 (ap v (s.table.distinct m n (record { op = op; parts = [] }) here there))

  pub inside : (m place p : ℕ) (node : Node) → slice_get set m ≡ Some node → slice_get node.parts place ≡ Some p → p < length set
  inside m place p node at part =
      let less = ltb-true p m (passes_at (λ q. nat_lt q m) node.parts place p (parts_below set m node set_sorted at) part) in
      let within = slice_get_within set m node at in
      omega (arith, less, within)

  -- the numbers of two parts at one place are equal
  pub numbers_equal : (xs ys : List ℕ) (place x y : ℕ) → map v xs ≡ map v ys → slice_get xs place ≡ Some x → slice_get ys place ≡ Some y → v x ≡ v y
  numbers_equal xs ys place x y e at other =
      same_Some (v x) (v y) (sym (slice_get-map v xs place ∙ ap (option_map v) at) ∙ ap (λ (zs : List ℤ). slice_get zs place) e ∙ slice_get-map v ys place ∙ ap (option_map v) other)

  character_number : (p : ℕ) → p < length set → sort_at set p ≡ sorts.Character → v p ≡ pos (label p)
  character_number p less sort = let at = get_below set p less in character_is basis set set_sorted table whole p at.0 at.1 sort

  module _ (m n place left right : ℕ) (xs ys : List ℕ) (at : slice_get xs place ≡ Some left) (other : slice_get ys place ≡ Some right) (unlike : HaveOneLabel (λ k. label k) left right → ⊥) where
    abbrev pub AreNumbers : Type 0
    AreNumbers = (sort_at set left ≡ sorts.Number) × (sort_at set right ≡ sorts.Number)

    -- characters of equal numbers have one label
    no_characters : (op : Op) → Pair op xs ys m n → sort_at set left ≡ sorts.Character → sort_at set right ≡ sorts.Character → ⊥
    no_characters op p is_left is_right =
        let first = character_number left (inside m place left (record { op = op; parts = xs }) p.0 at) is_left in
        let second = character_number right (inside n place right (record { op = op; parts = ys }) p.1 other) is_right in
        unlike (same_codes (label left) (label right) (sym first ∙ numbers_equal xs ys place left right p.2 at other ∙ second))

    -- parts of a symbol at one place are numbers, or characters
    of_symbol : (symbol : Symbol) (payload : Payload) → Pair (ops.Of symbol payload) xs ys m n → AreNumbers
    of_symbol symbol payload p = by (sort_at set left) refl
      where
        alike : (sort_at set left ≡ sort_at set right) × (sort_at set left ≡ sorts.Truth → ⊥)
        alike = parts_alike (sort_at set) symbol payload xs ys place left right (taken (ops.Of symbol payload) xs m p.0) (taken (ops.Of symbol payload) ys n p.1) at other

        by : (sort : Sort) → sort_at set left ≡ sort → AreNumbers
        by sorts.Number is = (is, sym alike.0 ∙ is)
        by sorts.Character is = absurd (no_characters (ops.Of symbol payload) p is (sym alike.0 ∙ is))
        by sorts.Truth is = absurd (alike.1 is)

    pub part_numbers : (op : Op) → Pair op xs ys m n → AreNumbers
    part_numbers (ops.Free free) p = absurd (nothing_at (sort_at set) xs place left (taken (ops.Free free) xs m p.0) at)
    part_numbers ops.Times p = (two_sorts (sort_at set) sorts.Number xs place left (taken ops.Times xs m p.0) at, two_sorts (sort_at set) sorts.Number ys place right (taken ops.Times ys n p.1) other)
    part_numbers (ops.Of symbol payload) p = of_symbol symbol payload p
    part_numbers (ops.Number k) p = absurd (agreed (ops.Number k) xs ys m n p refl)
    part_numbers ops.Plus p = absurd (agreed ops.Plus xs ys m n p refl)
    part_numbers ops.Equal p = absurd (agreed ops.Equal xs ys m n p refl)
    part_numbers ops.AtMost p = absurd (agreed ops.AtMost xs ys m n p refl)
    part_numbers ops.Not p = absurd (agreed ops.Not xs ys m n p refl)
    part_numbers ops.And p = absurd (agreed ops.And xs ys m n p refl)
    part_numbers ops.Or p = absurd (agreed ops.Or xs ys m n p refl)
    part_numbers ops.Implies p = absurd (agreed ops.Implies xs ys m n p refl)
    part_numbers ops.Iff p = absurd (agreed ops.Iff xs ys m n p refl)

  -- nodes of one label whose numbers differ are numbers
  pub term_number : (op : Op) (xs ys : List ℕ) (m n : ℕ) → Pair op xs ys m n → label m ≡ label n → sort_at set m ≡ sorts.Number
  term_number (ops.Free free) xs ys m n p e =
      absurd (one_free (ops.Free free) xs ys m n p (no_parts (sort_at set) xs (taken (ops.Free free) xs m p.0)) (no_parts (sort_at set) ys (taken (ops.Free free) ys n p.1)))
  term_number ops.Times xs ys m n p e = sort_here set m (record { op = ops.Times; parts = xs }) p.0
  term_number (ops.Of symbol payload) xs ys m n p e = by (filled payload (given_by symbol)) refl
    where
      same : (s : Sort) → filled payload (given_by symbol) ≡ s → free_number basis m s ≡ free_number basis n s → ⊥
      same s is equal = agreed (ops.Of symbol payload) xs ys m n p (ap (free_number basis m) is ∙ equal ∙ sym (ap (free_number basis n) is))

      by : (s : Sort) → filled payload (given_by symbol) ≡ s → sort_at set m ≡ sorts.Number
      by sorts.Number is = sort_here set m (record { op = ops.Of symbol payload; parts = xs }) p.0 ∙ is
      by sorts.Character is = absurd (same sorts.Character is (ap (λ (k : ℕ). pos k) e))
      by sorts.Truth is = absurd (same sorts.Truth is (ap (λ (k : ℕ). number_of_truth (list_any (λ (l : Lit). l.positive && label l.node == k) known)) e))
  term_number (ops.Number k) xs ys m n p e = sort_here set m (record { op = ops.Number k; parts = xs }) p.0
  term_number ops.Plus xs ys m n p e = sort_here set m (record { op = ops.Plus; parts = xs }) p.0
  term_number ops.Equal xs ys m n p e = absurd (agreed ops.Equal xs ys m n p refl)
  term_number ops.AtMost xs ys m n p e = absurd (agreed ops.AtMost xs ys m n p refl)
  term_number ops.Not xs ys m n p e = absurd (agreed ops.Not xs ys m n p refl)
  term_number ops.And xs ys m n p e = absurd (agreed ops.And xs ys m n p refl)
  term_number ops.Or xs ys m n p e = absurd (agreed ops.Or xs ys m n p refl)
  term_number ops.Implies xs ys m n p e = absurd (agreed ops.Implies xs ys m n p refl)
  term_number ops.Iff xs ys m n p e = absurd (agreed ops.Iff xs ys m n p refl)
