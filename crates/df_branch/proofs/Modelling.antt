-- What the table of a point comes to: a model, or two numbers whose equality is undecided.
use Rattle.std.proofs.Common.{◌≡◌, ℕ, ◌<◌, ℤ, Bool, true, false, ◌||◌, nat_lt, List, map, take, length, Some, slice_get, refl, sym, ap, ◌∙◌, subst, lt-ltb, true≢false}
use Rattle.std.proofs.lemmas.Bool.{and_from}
use Rattle.std.proofs.lemmas.Option.{slice_get_within}
use Rattle.df_lemmas.proofs.Lists.{get_grown}
use Rattle.df_form.specs.declared.log.Lit.{Lit}
use Rattle.df_form.specs.declared.node.Sort.TheVariants as sorts
use Rattle.df_form.specs.Node.{Node, same_sort}
use Rattle.df_form.specs.Sorting.{IsTable, sort_at}
use Rattle.df_form.specs.Clause.{yes, no, is_among}
use Rattle.df_form.proofs.Tables.{table-take}
use Rattle.df_form.proofs.Values.{grown_sort, AreSorted}
use Rattle.df_rules.specs.Derivation.{is_number}
use Rattle.df_clause.proofs.Running.{grown_from}
use Rattle.df_closure.specs.Closure.{GroundClause, after}
use Rattle.df_closure.specs.Filled.{IsFilled}
use Rattle.df_closure.specs.Full.{knows_of}
use Rattle.df_cong.specs.Congruence.{label_at}
use Rattle.df_level.specs.Levels.{Stands, level_rows}
use Rattle.df_row.specs.Row.{Row}
use Rattle.df_row.specs.RowView.{IsWithin}
use Rattle.df_elim.specs.declared.elimination.Levels.{Levels}
use Rattle.df_back.specs.BackView.{IsPoint}
use Rattle.df_table.specs.TableModel.{Agree}
use Rattle.df_model.specs.TableNumbers.{basis_of}
use Rattle.df_model.specs.Tabulation as tables
use Rattle.df_model.specs.Tabulation.{IsWholeTable, IsWideTable, IsApart}
use Rattle.df_model.specs.Solution.{AreUndecided}
use Rattle.df_model.proofs.TableModels.{table_is_model}
use Rattle.df_model.proofs.UndecidedTerms.{undecided}
use Rattle.df_branch.specs.TermPair.{IsTermPair, of_parts, of_numbers}
use Rattle.df_branch.specs.Overflow.{at_node}
use Rattle.df_branch.specs.Leaf.{IsApartLeaf, IsModelOf, IsWideLeaf}
use Rattle.df_branch.specs.FilledPlace.{IsFilledPlace}
use Rattle.df_branch.proofs.Solutions.{labels_are, formulas, solution}
use Rattle.df_branch.proofs.Unrefuted.{eliminated_unrefuted}

-- terms that are apart stand at one place of one operation, or are terms of one that are numbers
pair_of : (set nodes : List Node) (label : ℕ → ℕ) (table : List ℤ) (left right : ℕ) → take (length set) nodes ≡ set → sort_at nodes left ≡ sorts.Number → IsApart set label table left right → IsTermPair set left right
pair_of set nodes label table left right begins number (tables.of_parts {m} {n} place d at_left at_right differ) = of_parts m n place d.first d.second d.left d.right d.op at_left at_right
pair_of set nodes label table left right begins number (tables.of_terms d alike) =
    of_numbers d.first d.second d.left d.right d.op (sym (grown_sort set nodes (grown_from set nodes begins) left (slice_get_within set left d.first d.left)) ∙ number)

-- of a node of which nothing is known
unknown : (known : List Lit) (n : ℕ) → knows_of known n ≡ false → (is_among known (yes n) ≡ false) × (is_among known (no n) ≡ false)
unknown known n e = by (is_among known (yes n)) (is_among known (no n)) e
  where
    by : (a b : Bool) → (a || b) ≡ false → (a ≡ false) × (b ≡ false)
    by true b h = absurd (true≢false h)
    by false b h = (refl, h)

is_number_at : (nodes : List Node) (n : ℕ) → n < length nodes → sort_at nodes n ≡ sorts.Number → is_number nodes n ≡ true
is_number_at nodes n less sort = and_from (nat_lt n (length nodes)) (same_sort (sort_at nodes n) sorts.Number) (lt-ltb n (length nodes) less) (ap (λ s. same_sort s sorts.Number) sort)

module _ (set : List Node) (clauses : List GroundClause) (nodes : List Node) (branch : List Lit) (levels : Levels) (labels : List ℕ) (facts : List Lit) (p : IsFilledPlace set clauses nodes branch levels labels facts)
    (numbers : List ℤ) (point : IsPoint (length nodes) (level_rows levels.first) levels.variables.items (map level_rows levels.others.items) numbers) where
  abbrev known : List Lit
  known = after branch p.learned

  known_table : (table : List ℤ) → IsWholeTable (basis_of numbers labels facts) set table → IsWholeTable (basis_of numbers labels known) set table
  known_table table whole = subst (λ (l : List Lit). IsWholeTable (basis_of numbers labels l) set table) p.facts_are whole

  pub modelled : (table : List ℤ) → IsWholeTable (basis_of numbers labels facts) set table → ((m n : ℕ) → Agree set table m n) → IsModelOf set clauses table
  modelled table whole agree s g more valid is same_set same_clauses =
      table_is_model s g is nodes (grown_from g.nodes nodes (subst (λ (ns : List Node). take (length ns) nodes ≡ ns) (sym same_set) p.place.begins)) known filled numbers labels (solution set clauses nodes branch levels labels facts p numbers point) table
      (subst (λ (ns : List Node). IsWholeTable (basis_of numbers labels known) ns table) (sym same_set) (known_table table whole))
      (subst (λ (ns : List Node). (m n : ℕ) → Agree ns table m n) (sym same_set) agree)
    where
      filled : IsFilled (g.clauses) known
      filled clause o =
          p.filled clause (record { number = o.number; there = subst (λ (cs : List GroundClause). slice_get cs o.number ≡ Some clause) same_clauses (get_grown (g.clauses) more o.number clause o.there); counts = o.counts; none = o.none })

  pub wide_node : ((row : Row) → Stands row (level_rows levels.first) → IsWithin (length nodes) row) → IsWideTable (basis_of numbers labels facts) set → IsWideLeaf set clauses nodes branch
  wide_node within wide = record {
    reasons = p.reasons;
    learned = p.learned;
    closed = p.closed;
    formulas = formulas set clauses nodes branch levels labels facts p;
    quiet = (labels_are set clauses nodes branch levels labels facts p).quiet;
    overflows = at_node p.rows (level_rows levels.first) levels.variables.items (map level_rows levels.others.items) (length nodes) numbers labels p.rows_are p.whole.elimination within point.is
        (labels_are set clauses nodes branch levels labels facts p) (subst (λ (l : List Lit). IsWideTable (basis_of numbers labels l) set) p.facts_are wide);
  }

  pub apart : (table : List ℤ) (left right : ℕ) → IsWholeTable (basis_of numbers labels facts) set table → IsApart set (label_at labels) table left right → IsApartLeaf set clauses nodes branch left right
  apart table left right whole is =
      let set_sorted : AreSorted set = record { sorted = (subst IsTable p.place.begins (table-take nodes (length set) p.place.table)).sorted } in
      let found : AreUndecided nodes known left right =
      undecided nodes known numbers labels (solution set clauses nodes branch levels labels facts p numbers point) set (grown_from set nodes p.place.begins) set_sorted table (known_table table whole) left right is in
      record {
        learned = p.learned;
        unshut = record {
          reasons = p.reasons;
          closed = p.closed;
          formulas = formulas set clauses nodes branch levels labels facts p;
          quiet = (labels_are set clauses nodes branch levels labels facts p).quiet;
          rows = p.rows;
          rows_are = p.rows_are;
          unrefuted = eliminated_unrefuted p.rows (level_rows levels.first) levels.variables.items (map level_rows levels.others.items) p.whole.elimination;
        };
        filled = p.filled;
        different = found.different;
        pair = pair_of set nodes (label_at labels) table left right p.place.begins found.left_number is;
        left_number = is_number_at nodes left found.left_below found.left_number;
        right_number = is_number_at nodes right found.right_below found.right_number;
        not_true = λ n at. (unknown known n (found.unknown n at)).0;
        not_false = λ n at. (unknown known n (found.unknown n at)).1;
      }
