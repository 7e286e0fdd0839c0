-- Of the equality of terms that are apart nothing is known.
use Rattle.std.proofs.Common.{◌≡◌, ℕ, ◌+◌, ◌<◌, ℤ, Bool, true, false, not, ◌||◌, List, [], ◌∷◌, length, Some, slice_get, refl, sym, ap, ◌∙◌, arith, true≢false}
use Rattle.std.specs.List.{AllZip}
use Rattle.std.specs.Ordering.{int_eq}
use Rattle.std.proofs.lemmas.Bool.Decides.{Decides-int_eq}
use Rattle.std.proofs.lemmas.Option.{slice_get_within}
use Rattle.df_form.specs.declared.node.Sort.TheVariants as sorts
use Rattle.df_form.specs.declared.node.Op.TheVariants as ops
use Rattle.df_form.specs.declared.log.Lit.{Lit}
use Rattle.df_form.specs.Node.{Node}
use Rattle.df_form.specs.Sorting.{sort_at}
use Rattle.df_form.specs.Clause.{yes, no, is_among}
use Rattle.df_form.proofs.Values.{Grows, grown_get, grown_length, grown_sort, AreSorted}
use Rattle.df_cong.specs.Congruence.{label_at}
use Rattle.df_classes.specs.Labels.{HaveOneLabel}
use Rattle.df_closure.specs.Comparisons.{equal}
use Rattle.df_table.specs.TableModel.{number_at, is_true}
use Rattle.df_table.specs.Disagreement.{Disagree}
use Rattle.df_model.specs.TableNumbers.{basis_of}
use Rattle.df_model.specs.Tabulation.{IsWholeTable, IsApart, of_parts, of_terms}
use Rattle.df_model.specs.Solution.{IsSolution, AreUndecided}
use Rattle.df_model.proofs.TableReadings.{equality_read}
use Rattle.df_model.proofs.SolvedTables.{sorted, known_equal, known_unequal, compared, solved, all, same_number}
use Rattle.df_model.proofs.ApartTerms.{Pair, inside, numbers_equal, part_numbers, term_number}

neither : (a b : Bool) → (a ≡ true → ⊥) → (b ≡ true → ⊥) → (a || b) ≡ false
neither true b x y = absurd (x refl)
neither false true x y = absurd (y refl)
neither false false x y = refl

module _ (nodes : List Node) (known : List Lit) (numbers : List ℤ) (labels : List ℕ) (s : IsSolution nodes known numbers labels) (set : List Node) (grows : Grows set nodes) (set_sorted : AreSorted set) (table : List ℤ)
    (whole : IsWholeTable (basis_of numbers labels known) set table) where
  abbrev label : ℕ → ℕ
  label n = label_at labels n

  abbrev v : ℕ → ℤ
  v n = number_at table n

  -- the table of all nodes
  abbrev more : List ℤ
  more = (all nodes known numbers labels s set grows set_sorted table whole).0

  more_whole : IsWholeTable (basis_of numbers labels known) nodes more
  more_whole = (all nodes known numbers labels s set grows set_sorted table whole).1

  same : (n : ℕ) → n < length set → number_at more n ≡ v n
  same n less = same_number nodes known numbers labels s set grows set_sorted table whole n less

  equality_more : (n a b : ℕ) → slice_get nodes n ≡ Some (record { op = ops.Equal; parts = a ∷ b ∷ [] }) → is_true more n ≡ int_eq (number_at more a) (number_at more b)
  equality_more n a b at = equality_read (basis_of numbers labels known) nodes (sorted nodes known numbers labels s) more more_whole n a b at

  -- a known equality is true, and one that is denied is not
  true_equal : (n a b : ℕ) → slice_get nodes n ≡ Some (record { op = ops.Equal; parts = a ∷ b ∷ [] }) → a < length set → b < length set → sort_at nodes a ≡ sorts.Number → is_among known (yes n) ≡ true → v a ≡ v b
  true_equal n a b at x y sort e =
      let holds = compared nodes known numbers labels s more more_whole (yes n) e (equal a b refl at sort) in
      sym (same a x) ∙ (Decides-int_eq (number_at more a) (number_at more b)).0 (sym (equality_more n a b at) ∙ holds) ∙ same b y

  false_equal : (n a b : ℕ) → slice_get nodes n ≡ Some (record { op = ops.Equal; parts = a ∷ b ∷ [] }) → a < length set → b < length set → v a ≡ v b → is_among known (no n) ≡ true → ⊥
  false_equal n a b at x y e denied =
      let holds = solved nodes known numbers labels s more more_whole (no n) denied in
      let true_there = equality_more n a b at ∙ (Decides-int_eq (number_at more a) (number_at more b)).1 (same a x ∙ e ∙ sym (same b y)) in
      true≢false (sym holds ∙ ap not true_there)

  pair : (m n : ℕ) (d : Disagree set table m n) → Pair nodes known numbers labels s set grows set_sorted table whole d.first.op d.first.parts d.second.parts m n
  pair m n d = (d.left, d.right ∙ (λ i. Some (record { op = sym d.op i; parts = d.second.parts })), d.parts, d.unequal)

  longer : length set < length nodes + 1
  longer = let more_nodes = grown_length set nodes grows in omega (arith, more_nodes)

  below : (n : ℕ) → n < length set → n < length nodes
  below n less = omega (arith, less, longer)

  parts_undecided : (m n place left right : ℕ) (d : Disagree set table m n) → slice_get d.first.parts place ≡ Some left → slice_get d.second.parts place ≡ Some right → (label left ≡ label right → ⊥) → AreUndecided nodes known left right
  parts_undecided m n place left right d at other unlike =
      let p = pair m n d in
      let are = part_numbers nodes known numbers labels s set grows set_sorted table whole m n place left right d.first.parts d.second.parts at other unlike d.first.op p in
      let x = inside nodes known numbers labels s set grows set_sorted table whole m place left d.first d.left at in
      let y = inside nodes known numbers labels s set grows set_sorted table whole n place right d.second d.right other in
      let e = numbers_equal nodes known numbers labels s set grows set_sorted table whole d.first.parts d.second.parts place left right d.parts at other in
      record {
        different = λ one. unlike (ap (label_at labels) one);
        left_below = below left x;
        right_below = below right y;
        left_number = grown_sort set nodes grows left x ∙ are.0;
        right_number = grown_sort set nodes grows right y ∙ are.1;
        unknown = λ k there. neither (is_among known (yes k)) (is_among known (no k)) (λ holds. unlike (known_equal nodes known numbers labels s k left right there holds)) (false_equal k left right there x y e);
      }

  terms_undecided : (m n : ℕ) (d : Disagree set table m n) → AllZip (HaveOneLabel (label_at labels)) d.first.parts d.second.parts → AreUndecided nodes known m n
  terms_undecided m n d zip =
      let p = pair m n d in
      let one = s.labels_are.labels_are.operations m n d.first d.second (grown_get set nodes grows m d.first d.left) (grown_get set nodes grows n d.second d.right) d.op zip in
      let x = slice_get_within set m d.first d.left in
      let y = slice_get_within set n d.second d.right in
      let first = term_number nodes known numbers labels s set grows set_sorted table whole d.first.op d.first.parts d.second.parts m n p one in
      let turned : Pair nodes known numbers labels s set grows set_sorted table whole d.first.op d.second.parts d.first.parts n m = (p.1, p.0, sym p.2, λ e. p.3 (sym e)) in
      let second = term_number nodes known numbers labels s set grows set_sorted table whole d.first.op d.second.parts d.first.parts n m turned (sym one) in
      record {
        different = λ e. d.unequal (ap (number_at table) e);
        left_below = below m x;
        right_below = below n y;
        left_number = grown_sort set nodes grows m x ∙ first;
        right_number = grown_sort set nodes grows n y ∙ second;
        unknown = λ k there.
            neither (is_among known (yes k)) (is_among known (no k)) (λ holds. d.unequal (true_equal k m n there x y (grown_sort set nodes grows m x ∙ first) holds))
            (λ denied. known_unequal nodes known numbers labels s k m n there denied one);
      }

  pub undecided : (left right : ℕ) → IsApart set (label_at labels) table left right → AreUndecided nodes known left right
  undecided left right (of_parts {m} {n} place d at other unlike) = parts_undecided m n place left right d at other unlike
  undecided left right (of_terms d zip) = terms_undecided left right d zip
