-- Nodes that are alike.
use Rattle.std.proofs.Common.{◌≡◌, ℕ, ◌==◌, true, List, [], ◌∷◌, Contains, Option, None, Some, slice_get, refl, sym, ap, ◌∙◌, subst, eqb-true}
use Rattle.std.specs.List.{AllZip}
use Rattle.std.specs.Cmp.Lexicographic.{pointwise}
use Rattle.std.proofs.lemmas.Bool.{and_parts, and_from}
use Rattle.std.proofs.lemmas.Option.{same_Some}
use Rattle.df_form.specs.declared.log.Pair.{Pair}
use Rattle.df_form.specs.Node.{Node, same_op}
use Rattle.df_form.proofs.Same.{same_op_equal, same_op-refl}
use Rattle.df_lemmas.proofs.Numbers.{equal_self}
use Rattle.df_rules.specs.Classes.{is_together}
use Rattle.df_rules.specs.CongruenceLine.{are_congruent, is_congruent}
use Rattle.df_classes.specs.Labels.{HaveOneLabel}
use Rattle.df_classes.specs.mirror.Closure.{AreAlike, mixed_with, mixed}
use Rattle.df_classes.proofs.Moving.{first_there, later_there}

-- ---- parts

module _ (label : ℕ → ℕ) where
  zip_itself : (xs : List ℕ) → AllZip (HaveOneLabel label) xs xs
  zip_itself [] = tt
  zip_itself (x ∷ xs) = (refl, zip_itself xs)

  zip_turned : (xs ys : List ℕ) → AllZip (HaveOneLabel label) xs ys → AllZip (HaveOneLabel label) ys xs
  zip_turned [] [] all = tt
  zip_turned [] (y ∷ ys) all = absurd all
  zip_turned (x ∷ xs) [] all = absurd all
  zip_turned (x ∷ xs) (y ∷ ys) all = (sym all.0, zip_turned xs ys all.1)

  zip_through : (xs ys zs : List ℕ) → AllZip (HaveOneLabel label) xs ys → AllZip (HaveOneLabel label) ys zs → AllZip (HaveOneLabel label) xs zs
  zip_through [] [] zs all more = more
  zip_through [] (y ∷ ys) zs all more = absurd all
  zip_through (x ∷ xs) [] zs all more = absurd all
  zip_through (x ∷ xs) (y ∷ ys) [] all more = absurd more
  zip_through (x ∷ xs) (y ∷ ys) (z ∷ zs) all more = (all.0 ∙ more.0, zip_through xs ys zs all.1 more.1)

  pub same_mixed : (xs ys : List ℕ) (so_far : ℕ) → AllZip (HaveOneLabel label) xs ys → mixed label so_far xs ≡ mixed label so_far ys
  same_mixed [] [] so_far all = refl
  same_mixed [] (y ∷ ys) so_far all = absurd all
  same_mixed (x ∷ xs) [] so_far all = absurd all
  same_mixed (x ∷ xs) (y ∷ ys) so_far all =
      ap (λ (k : ℕ). mixed label (mixed_with so_far k) xs) all.0 ∙ same_mixed xs ys (mixed_with so_far (label y)) all.1

  zip_tested : (xs ys : List ℕ) → pointwise (is_together label) xs ys ≡ true → AllZip (HaveOneLabel label) xs ys
  zip_tested [] [] e = tt
  zip_tested [] (y ∷ ys) e = absurd cc
  zip_tested (x ∷ xs) [] e = absurd cc
  zip_tested (x ∷ xs) (y ∷ ys) e =
      let parts = and_parts (is_together label x y) (pointwise (is_together label) xs ys) e in
      (eqb-true (label x) (label y) parts.0, zip_tested xs ys parts.1)

  tested_zip : (xs ys : List ℕ) → AllZip (HaveOneLabel label) xs ys → pointwise (is_together label) xs ys ≡ true
  tested_zip [] [] all = refl
  tested_zip [] (y ∷ ys) all = absurd all
  tested_zip (x ∷ xs) [] all = absurd all
  tested_zip (x ∷ xs) (y ∷ ys) all =
      and_from (is_together label x y) (pointwise (is_together label) xs ys) (ap (λ (k : ℕ). label x == k) (sym all.0) ∙ equal_self (label x)) (tested_zip xs ys all.1)

-- labels that agree where one list of parts has members
module _ (label other : ℕ → ℕ) where
  pub mixed_elsewhere : (xs : List ℕ) (so_far : ℕ) → ((n : ℕ) → Contains xs n → other n ≡ label n) → mixed other so_far xs ≡ mixed label so_far xs
  mixed_elsewhere [] so_far same = refl
  mixed_elsewhere (x ∷ xs) so_far same =
      ap (λ (k : ℕ). mixed other (mixed_with so_far k) xs) (same x (first_there x xs)) ∙ mixed_elsewhere xs (mixed_with so_far (label x)) (λ n there. same n (later_there x xs n there))

  pub zip_weaker : (xs ys : List ℕ) → ((m n : ℕ) → label m ≡ label n → other m ≡ other n) → AllZip (HaveOneLabel label) xs ys → AllZip (HaveOneLabel other) xs ys
  zip_weaker [] [] goes all = tt
  zip_weaker [] (y ∷ ys) goes all = absurd all
  zip_weaker (x ∷ xs) [] goes all = absurd all
  zip_weaker (x ∷ xs) (y ∷ ys) goes all = (goes x y all.0, zip_weaker xs ys goes all.1)

  pub zip_elsewhere : (xs ys : List ℕ) → ((n : ℕ) → Contains xs n → other n ≡ label n) → ((n : ℕ) → Contains ys n → other n ≡ label n) → AllZip (HaveOneLabel other) xs ys → AllZip (HaveOneLabel label) xs ys
  zip_elsewhere [] [] left right all = tt
  zip_elsewhere [] (y ∷ ys) left right all = absurd all
  zip_elsewhere (x ∷ xs) [] left right all = absurd all
  zip_elsewhere (x ∷ xs) (y ∷ ys) left right all = (
    sym (left x (first_there x xs)) ∙ all.0 ∙ right y (first_there y ys),
    zip_elsewhere xs ys (λ n there. left n (later_there x xs n there)) (λ n there. right n (later_there y ys n there)) all.1,
  )

-- ---- nodes

module _ (nodes : List Node) (label : ℕ → ℕ) where
  pub alike_itself : (p : ℕ) (node : Node) → slice_get nodes p ≡ Some node → AreAlike nodes label p p
  alike_itself p node is = record { first = node; second = node; left = is; right = is; op = refl; parts = zip_itself label node.parts }

  pub alike_turned : (p q : ℕ) → AreAlike nodes label p q → AreAlike nodes label q p
  alike_turned p q h = record { first = h.second; second = h.first; left = h.right; right = h.left; op = sym h.op; parts = zip_turned label h.first.parts h.second.parts h.parts }

  pub alike_through : (p q r : ℕ) → AreAlike nodes label p q → AreAlike nodes label q r → AreAlike nodes label p r
  alike_through p q r h k =
      let same : h.second ≡ k.first = same_Some h.second k.first (sym h.right ∙ k.left) in
      record {
        first = h.first;
        second = k.second;
        left = h.left;
        right = k.right;
        op = h.op ∙ ap (λ (node : Node). node.op) same ∙ k.op;
        parts = zip_through label h.first.parts h.second.parts k.second.parts h.parts (subst (λ (node : Node). AllZip (HaveOneLabel label) node.parts k.second.parts) (sym same) k.parts);
      }

  pub alike_tested : (pair : Pair) → is_congruent nodes label pair ≡ true → AreAlike nodes label pair.left pair.right
  alike_tested pair e = by (slice_get nodes pair.left) (slice_get nodes pair.right) refl refl e
    where
      by : (l r : Option Node) → slice_get nodes pair.left ≡ l → slice_get nodes pair.right ≡ r → are_congruent label l r ≡ true → AreAlike nodes label pair.left pair.right
      by (Some a) (Some b) left right e =
          let parts = and_parts (same_op a.op b.op) (pointwise (is_together label) a.parts b.parts) e in
          record { first = a; second = b; left = left; right = right; op = same_op_equal a.op b.op parts.0; parts = zip_tested label a.parts b.parts parts.1 }
      by (Some a) None left right e = absurd cc
      by None (Some b) left right e = absurd cc
      by None None left right e = absurd cc

  pub tested_alike : (pair : Pair) → AreAlike nodes label pair.left pair.right → is_congruent nodes label pair ≡ true
  tested_alike pair h =
      (λ i. are_congruent label (h.left i) (h.right i))
      ∙ and_from (same_op h.first.op h.second.op) (pointwise (is_together label) h.first.parts h.second.parts) (subst (λ o. same_op h.first.op o ≡ true) h.op (same_op-refl h.first.op))
      (tested_zip label h.first.parts h.second.parts h.parts)
