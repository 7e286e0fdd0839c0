-- A table of all nodes reads sums, constant multiples, comparisons and connectives as they are.
use Rattle.std.proofs.Common.{◌≡◌, ℕ, ℤ, pos, int_le, Bool, true, false, not, ◌||◌, List, [], ◌∷◌, map, Option, None, Some, slice_get, refl, sym, ap, ◌∙◌, arith}
use Rattle.std.specs.Option.{is_none}
use Rattle.std.specs.List.{list_all, list_any}
use Rattle.std.specs.Ordering.{int_eq}
use Rattle.std.proofs.lemmas.List.Folds.{list_all-map}
use Rattle.std.proofs.lemmas.Option.{slice_get_within}
use Rattle.df_lemmas.proofs.Lists.{any_mapped}
use Rattle.df_form.specs.declared.node.Sort.TheVariants as sorts
use Rattle.df_form.specs.declared.node.Op.{Op}
use Rattle.df_form.specs.declared.node.Op.TheVariants as ops
use Rattle.df_form.specs.Node.{Node}
use Rattle.df_form.specs.Sorting.{sort_at, sort_of, takes}
use Rattle.df_form.proofs.Drafts.{sort_here}
use Rattle.df_form.proofs.Values.{AreSorted, parts_taken}
use Rattle.df_meaning.specs.Value.{same_truth}
use Rattle.df_row.specs.Row.{literal_number}
use Rattle.df_closure.specs.Atoms.{is_atom, AreAlikeNumbers}
use Rattle.df_closure.specs.Reading.{IsReading}
use Rattle.df_table.specs.TableModel.{number_at, is_true}
use Rattle.df_model.specs.TableNumbers.{number_of_truth, counts_as_true, Basis, free_number, product_number, number_in}
use Rattle.df_model.specs.Tabulation.{IsWholeTable}

pub truth_read : (b : Bool) → counts_as_true (number_of_truth b) ≡ b
truth_read true = refl
truth_read false = refl

product_own : (factor : Option ℤ) (x own : ℤ) → is_none factor ≡ true → product_number factor x own ≡ own
product_own None x own e = refl
product_own (Some k) x own e = absurd cc

module _ (basis : Basis) (nodes : List Node) (sorted : AreSorted nodes) (table : List ℤ) (whole : IsWholeTable basis nodes table) where
  abbrev v : ℕ → ℤ
  v n = number_at table n

  abbrev t : ℕ → Bool
  t n = is_true table n

  pub number_is : (n : ℕ) (node : Node) → slice_get nodes n ≡ Some node → v n ≡ number_in basis nodes table n node
  number_is n node at = whole.tabulated.numbers n node (let within = slice_get_within nodes n node at in let covers = whole.covers in omega (arith, within, covers)) at

  -- a truth is read as it is
  pub read : (n : ℕ) (b : Bool) → v n ≡ number_of_truth b → t n ≡ b
  read n b e = ap counts_as_true e ∙ truth_read b

  pub equality_read : (n a b : ℕ) → slice_get nodes n ≡ Some (record { op = ops.Equal; parts = a ∷ b ∷ [] }) → t n ≡ int_eq (v a) (v b)
  equality_read n a b at = read n (int_eq (v a) (v b)) (number_is n (record { op = ops.Equal; parts = a ∷ b ∷ [] }) at)

  pub table_reads : IsReading nodes v t
  table_reads = record {
    exact = record {
      literal = λ n k parts at. number_is n (record { op = ops.Number k; parts = parts }) at;
      plus = λ n a b at. number_is n (record { op = ops.Plus; parts = a ∷ b ∷ [] }) at;
      multiple = λ n a b k at factor. number_is n (record { op = ops.Times; parts = a ∷ b ∷ [] }) at ∙ ap (λ (o : Option ℤ). product_number o (v b) (basis.number n)) factor;
    };
    at_most = λ n a b at. read n (int_le (v a) (v b)) (number_is n (record { op = ops.AtMost; parts = a ∷ b ∷ [] }) at);
    equal = λ n a b at sort. equality_read n a b at;
    negated = λ n p at. read n (not (t p)) (number_is n (record { op = ops.Not; parts = p ∷ [] }) at);
    all = λ n parts at. read n (list_all counts_as_true (map v parts)) (number_is n (record { op = ops.And; parts = parts }) at) ∙ list_all-map counts_as_true v parts;
    any = λ n parts at. read n (list_any counts_as_true (map v parts)) (number_is n (record { op = ops.Or; parts = parts }) at) ∙ any_mapped counts_as_true v parts;
    implied = λ n p q at. read n (not (t p) || t q) (number_is n (record { op = ops.Implies; parts = p ∷ q ∷ [] }) at);
    alike = λ n p q at. read n (same_truth (t p) (t q)) (number_is n (record { op = ops.Iff; parts = p ∷ q ∷ [] }) at);
  }

  -- a character has its label
  pub character_is : (n : ℕ) (node : Node) → slice_get nodes n ≡ Some node → sort_at nodes n ≡ sorts.Character → v n ≡ pos (basis.label n)
  character_is n node at sort = by node.op node.parts at (sym (sort_here nodes n node at) ∙ sort)
    where
      by : (op : Op) (parts : List ℕ) → slice_get nodes n ≡ Some (record { op = op; parts = parts }) → sort_of op ≡ sorts.Character → v n ≡ pos (basis.label n)
      by (ops.Free free) parts at sort = number_is n (record { op = ops.Free free; parts = parts }) at ∙ ap (free_number basis n) sort
      by (ops.Of symbol payload) parts at sort = number_is n (record { op = ops.Of symbol payload; parts = parts }) at ∙ ap (free_number basis n) sort
      by op parts at sort = absurd cc

  -- an atom that is a number has the number that is given
  pub atoms_alike : AreAlikeNumbers nodes basis.number v
  atoms_alike n node at atom sort = by node.op node.parts at atom (sym (sort_here nodes n node at) ∙ sort) (parts_taken nodes n node sorted at)
    where
      by : (op : Op) (parts : List ℕ) → slice_get nodes n ≡ Some (record { op = op; parts = parts }) → is_atom nodes op parts ≡ true → sort_of op ≡ sorts.Number → takes op (map (sort_at nodes) parts) ≡ true → basis.number n ≡ v n
      by (ops.Number k) parts at atom sort taken = absurd cc
      by (ops.Free free) parts at atom sort taken = sym (number_is n (record { op = ops.Free free; parts = parts }) at ∙ ap (free_number basis n) sort)
      by ops.Plus (a ∷ b ∷ []) at atom sort taken = absurd cc
      by ops.Plus parts at atom sort taken = absurd cc
      by ops.Times (a ∷ b ∷ []) at atom sort taken = sym (number_is n (record { op = ops.Times; parts = a ∷ b ∷ [] }) at ∙ product_own (literal_number (slice_get nodes a)) (v b) (basis.number n) atom)
      by ops.Times parts at atom sort taken = absurd cc
      by (ops.Of symbol payload) parts at atom sort taken = sym (number_is n (record { op = ops.Of symbol payload; parts = parts }) at ∙ ap (free_number basis n) sort)
      by op parts at atom sort taken = absurd cc
