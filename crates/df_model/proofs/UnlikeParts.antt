-- Arguments that have two labels.
use Rattle.std.proofs.Common.{◌≡◌, ◌==◌, ◌≤◌, ℕ, zero, suc, ℤ, Bool, true, false, List, [], ◌∷◌, drop, length, Option, Some, None, slice_get, refl, sym, ap, ◌∙◌, arith, subst, cond, eqb-true}
use Rattle.std.specs.List.{AllZip}
use Rattle.std.specs.Option.{unwrap_or}
use Rattle.std.proofs.lemmas.Bool.{eqb-false}
use Rattle.std.proofs.lemmas.List.{length-map}
use Rattle.std.proofs.lemmas.Option.{same_Some, none-some}
use Rattle.df_form.specs.declared.log.Pair.{Pair}
use Rattle.df_form.specs.Node.{Node}
use Rattle.df_classes.specs.Labels.{HaveOneLabel}
use Rattle.df_table.specs.TableModel.{number_at}
use Rattle.df_table.specs.Disagreement.{Disagree}
use Rattle.df_model.specs.Tabulation.{IsApart, of_parts, of_terms, unlike}

module _ (label : ℕ → ℕ) where
  abbrev AreUnlike : List ℕ → List ℕ → Pair → Type 0
  AreUnlike xs ys p = (place : ℕ) × (slice_get xs place ≡ Some p.left) × (slice_get ys place ≡ Some p.right) × (HaveOneLabel label p.left p.right → ⊥)

  unlike_some : (xs ys : List ℕ) (p : Pair) → unlike label xs ys ≡ Some p → AreUnlike xs ys p
  unlike_some [] ys p e = absurd cc
  unlike_some (x ∷ xs) [] p e = absurd cc
  unlike_some (x ∷ xs) (y ∷ ys) p e = by (label x == label y) refl e (unlike_some xs ys p)
    where
      by : (b : Bool) → (label x == label y) ≡ b → cond b (unlike label xs ys) (Some (record { left = x; right = y })) ≡ Some p → (unlike label xs ys ≡ Some p → AreUnlike xs ys p) → AreUnlike (x ∷ xs) (y ∷ ys) p
      by true same e go = let found = go e in (suc found.0, found.1, found.2, found.3)
      by false other e go =
          let is = same_Some (record { left = x; right = y }) p e in
          (0, ap (λ (q : Pair). Some q.left) is, ap (λ (q : Pair). Some q.right) is, λ same. eqb-false (label x) (label y) other (ap (λ (q : Pair). label q.left) is ∙ same ∙ sym (ap (λ (q : Pair). label q.right) is)))

  unlike_none : (xs ys : List ℕ) → unlike label xs ys ≡ None → length xs ≡ length ys → AllZip (HaveOneLabel label) xs ys
  unlike_none [] [] e long = tt
  unlike_none [] (y ∷ ys) e long = absurd (omega (arith, long))
  unlike_none (x ∷ xs) [] e long = absurd (omega (arith, long))
  unlike_none (x ∷ xs) (y ∷ ys) e long = by (label x == label y) refl e (unlike_none xs ys)
    where
      by : (b : Bool) → (label x == label y) ≡ b → cond b (unlike label xs ys) (Some (record { left = x; right = y })) ≡ None → (unlike label xs ys ≡ None → length xs ≡ length ys → AllZip (HaveOneLabel label) xs ys) → AllZip (HaveOneLabel label) (x ∷ xs) (y ∷ ys)
      by true same e go = (eqb-true (label x) (label y) same, go e (omega (arith, long)))
      by false other e go = absurd (none-some (record { left = x; right = y }) (sym e))

  nothing_unlike : (xs : List ℕ) → unlike label xs [] ≡ None
  nothing_unlike [] = refl
  nothing_unlike (x ∷ xs) = refl

  -- past the end of one list nothing is unlike
  pub none_past : (place : ℕ) (xs ys : List ℕ) → length ys ≤ place → unlike label (drop place xs) (drop place ys) ≡ None
  none_past zero [] ys past = refl
  none_past zero (x ∷ xs) [] past = refl
  none_past zero (x ∷ xs) (y ∷ ys) past = absurd (omega (arith, past))
  none_past (suc place) [] ys past = refl
  none_past (suc place) (x ∷ xs) [] past = nothing_unlike (drop place xs)
  none_past (suc place) (x ∷ xs) (y ∷ ys) past = none_past place xs ys (omega (arith, past))

  module _ (nodes : List Node) (table : List ℤ) (pair : Pair) (d : Disagree nodes table pair.left pair.right) where
    same_length : length d.first.parts ≡ length d.second.parts
    same_length = sym (length-map d.first.parts (number_at table)) ∙ ap (λ (zs : List ℤ). length zs) d.parts ∙ length-map d.second.parts (number_at table)

    apart_by : (found : Option Pair) → unlike label d.first.parts d.second.parts ≡ found → (result : Pair) → result ≡ unwrap_or found pair → IsApart nodes label table result.left result.right
    apart_by (Some p) e result is =
        let found = unlike_some d.first.parts d.second.parts p e in
        subst (λ (q : Pair). IsApart nodes label table q.left q.right) (sym is) (of_parts found.0 d found.1 found.2 found.3)
    apart_by None e result is = subst (λ (q : Pair). IsApart nodes label table q.left q.right) (sym is) (of_terms d (unlike_none d.first.parts d.second.parts e same_length))

    pub apart_of : (first second : Node) (found : Option Pair) (result : Pair) → slice_get nodes pair.left ≡ Some first → slice_get nodes pair.right ≡ Some second → found ≡ unlike label first.parts second.parts → result ≡ unwrap_or found pair → IsApart nodes label table result.left result.right
    apart_of first second found result at other e is =
        let left = same_Some d.first first (sym d.left ∙ at) in
        let right = same_Some d.second second (sym d.right ∙ other) in
        apart_by found ((λ i. unlike label (left i).parts (right i).parts) ∙ sym e) result is
