-- An equality of numbers is the `and` of its two comparisons: what it means as clauses.
use Rattle.std.proofs.Common.{◌≡◌, ◌⊎◌, inl, inr, ℕ, zero, suc, ◌≤◌, List, [], ◌∷◌, take, length, None, Some, slice_get, refl, sym, ap, ◌∙◌, subst, arith}
use Rattle.std.specs.Option.{option_and_then}
use Rattle.std.proofs.lemmas.Option.{same_Some, slice_get_within}
use Rattle.df_form.specs.declared.node.Sort.{Sort}
use Rattle.df_form.specs.declared.node.Sort.TheVariants as sorts
use Rattle.df_form.specs.Node.{Node}
use Rattle.df_form.specs.Made.{Made, made}
use Rattle.df_form.specs.Sorting.{IsTable, sort_at}
use Rattle.df_form.specs.Clause.{yes, no}
use Rattle.df_form.proofs.Tables.{made_old, number_of_at, table-take}
use Rattle.df_form.proofs.Values.{Grows, grown_get, grown_sort, AreSorted, parts_below}
use Rattle.df_rules.specs.Bound.{at_most}
use Rattle.df_rules.specs.Connective.{Added, equal_clause, equal_by_sort, connective_clause, connective_line}
use Rattle.df_clause.specs.Among.{Among}
use Rattle.df_clause.specs.Lines.{bound_by}
use Rattle.df_clause.proofs.Parts.{first_below}
use Rattle.df_clause.proofs.Running.{grown_from}
use Rattle.df_closure.specs.Closure.{GroundClause}
use Rattle.df_closure.specs.Filled.{AreComparing}
use Rattle.df_clause.proofs.SameClauses.{connective_again}
use Rattle.df_branch.specs.TermPair.{equal}
use Rattle.df_branch.specs.Evidence.{IsOfEquality, HaveEqualities}
use Rattle.df_branch.specs.Place.{HaveMeanings, equality_clauses}
use Rattle.df_clause.proofs.KeptNodes.{no_connective}
use Rattle.df_branch.proofs.LaterClauses.{AreLater}
use Rattle.df_branch.proofs.LaterMeanings.{HaveMeaningsFrom}

-- what all connectives mean is there, so what equalities mean
pub equalities_of : (nodes : List Node) (clauses : List GroundClause) → HaveMeanings nodes clauses → HaveEqualities nodes clauses
equalities_of nodes clauses meanings node of number added at equality line =
    let has = meanings.connectives node number of added at line in
    (has.0, (has.1.0, has.1.1 ∙ ap (λ op. Some (record { literals = added.clause; bound = bound_by node op })) equality))

-- a clause that an equality means stays one
pub of_equality_later : (nodes more : List Node) → IsTable more → take (length nodes) more ≡ nodes → (clause : GroundClause) → IsOfEquality nodes clause → IsOfEquality more clause
of_equality_later nodes more table begins clause is = record {
  node = is.node;
  of = is.of;
  there = there;
  equality = is.equality;
  bound = is.bound;
  number = is.number;
  line =
      ap (option_and_then (λ (node : Node). connective_clause more is.node is.number node.op node.parts)) there
      ∙ connective_again more table nodes is.node is.number is.of.op is.of.parts (record { nodes = nodes; clause = clause.literals }) alike
      (sym (ap (option_and_then (λ (node : Node). connective_clause nodes is.node is.number node.op node.parts)) is.there) ∙ is.line) grows;
}
  where
    grows : Grows nodes more
    grows = grown_from nodes more begins

    there : slice_get more is.node ≡ Some is.of
    there = grown_get nodes more grows is.node is.of is.there

    sorted : AreSorted nodes
    sorted = record { sorted = (subst IsTable begins (table-take more (length nodes) table)).sorted }

    alike : (a : ℕ) (others : List ℕ) → is.of.parts ≡ a ∷ others → sort_at more a ≡ sort_at nodes a
    alike a others e =
        let less = first_below is.node is.of.parts a others (parts_below nodes is.node is.of sorted is.there) e in
        let within = slice_get_within nodes is.node is.of is.there in
        grown_sort nodes more grows a (omega (arith, less, within))

pub equality_clauses_later : (count n up down : ℕ) → count ≤ n → AreLater count (equality_clauses n up down)
equality_clauses_later count n up down past clause (zero, at) = (n, ap (λ (c : GroundClause). c.bound) (same_Some clause _ (sym at)), past)
equality_clauses_later count n up down past clause (suc zero, at) = (n, ap (λ (c : GroundClause). c.bound) (same_Some clause _ (sym at)), past)
equality_clauses_later count n up down past clause (suc (suc zero), at) = (n, ap (λ (c : GroundClause). c.bound) (same_Some clause _ (sym at)), past)
equality_clauses_later count n up down past clause (suc (suc (suc m)), at) = absurd cc

-- an equality of numbers with its two comparisons
module _ (nodes : List Node) (table : IsTable nodes) (n a b up down : ℕ) (at : slice_get nodes n ≡ Some (equal a b)) (sort : sort_at nodes a ≡ sorts.Number)
    (up_at : slice_get nodes up ≡ Some (at_most a b)) (down_at : slice_get nodes down ≡ Some (at_most b a)) where
  up_is : made nodes (at_most a b) ≡ record { nodes = nodes; number = up }
  up_is = made_old nodes (at_most a b) up (number_of_at nodes (at_most a b) up table.distinct up_at)

  down_is : made nodes (at_most b a) ≡ record { nodes = nodes; number = down }
  down_is = made_old nodes (at_most b a) down (number_of_at nodes (at_most b a) down table.distinct down_at)

  opened : (k : ℕ) → connective_line nodes n k ≡ equal_clause nodes n a b k
  opened k = ap (option_and_then (λ (node : Node). connective_clause nodes n k node.op node.parts)) at ∙ ap (λ (s : Sort). equal_by_sort s nodes n a b k) sort

  pub first_line : connective_line nodes n 0 ≡ Some (record { nodes = nodes; clause = no n ∷ yes up ∷ [] })
  first_line = opened 0 ∙ ap (λ (m : Made). Some (record { nodes = m.nodes; clause = no n ∷ yes m.number ∷ [] })) up_is

  pub second_line : connective_line nodes n 1 ≡ Some (record { nodes = nodes; clause = no n ∷ yes down ∷ [] })
  second_line = opened 1 ∙ ap (λ (m : Made). Some (record { nodes = m.nodes; clause = no n ∷ yes m.number ∷ [] })) down_is

  pub third_line : connective_line nodes n 2 ≡ Some (record { nodes = nodes; clause = yes n ∷ no up ∷ no down ∷ [] })
  third_line =
      opened 2
      ∙ ap (λ (m : Made). Some (record { nodes = (made m.nodes (at_most b a)).nodes; clause = yes n ∷ no m.number ∷ no (made m.nodes (at_most b a)).number ∷ [] })) up_is
      ∙ ap (λ (m : Made). Some (record { nodes = m.nodes; clause = yes n ∷ no up ∷ no m.number ∷ [] })) down_is

  -- it means just these clauses
  pub each_of_equality : (clause : GroundClause) → Among (equality_clauses n up down) clause → IsOfEquality nodes clause
  each_of_equality clause (zero, there) =
      subst (IsOfEquality nodes) (same_Some (record { literals = no n ∷ yes up ∷ []; bound = Some n }) clause there) (record { node = n; of = equal a b; there = at; equality = refl; bound = refl; number = 0; line = first_line })
  each_of_equality clause (suc zero, there) =
      subst (IsOfEquality nodes) (same_Some (record { literals = no n ∷ yes down ∷ []; bound = Some n }) clause there) (record { node = n; of = equal a b; there = at; equality = refl; bound = refl; number = 1; line = second_line })
  each_of_equality clause (suc (suc zero), there) =
      subst (IsOfEquality nodes) (same_Some (record { literals = yes n ∷ no up ∷ no down ∷ []; bound = Some n }) clause there) (record { node = n; of = equal a b; there = at; equality = refl; bound = refl; number = 2; line = third_line })
  each_of_equality clause (suc (suc (suc m)), there) = absurd cc

  abbrev Has : Added → Type 0
  Has added = (added.nodes ≡ nodes) × Among (equality_clauses n up down) (record { literals = added.clause; bound = Some n })

  is_line : (k : ℕ) (added : Added) → connective_line nodes n k ≡ Some added → Has added
  is_line zero added e =
      let same = same_Some (record { nodes = nodes; clause = no n ∷ yes up ∷ [] }) added (sym first_line ∙ e) in
      (ap (λ (x : Added). x.nodes) (sym same), (0, ap (λ (x : Added). Some (record { literals = x.clause; bound = Some n })) same))
  is_line (suc zero) added e =
      let same = same_Some (record { nodes = nodes; clause = no n ∷ yes down ∷ [] }) added (sym second_line ∙ e) in
      (ap (λ (x : Added). x.nodes) (sym same), (1, ap (λ (x : Added). Some (record { literals = x.clause; bound = Some n })) same))
  is_line (suc (suc zero)) added e =
      let same = same_Some (record { nodes = nodes; clause = yes n ∷ no up ∷ no down ∷ [] }) added (sym third_line ∙ e) in
      (ap (λ (x : Added). x.nodes) (sym same), (2, ap (λ (x : Added). Some (record { literals = x.clause; bound = Some n })) same))
  is_line (suc (suc (suc k))) added e = let none : None ≡ Some added = sym (opened (suc (suc (suc k)))) ∙ e in absurd cc

  -- where it is the first of some nodes, and only comparisons follow, these have what they mean
  pub equality_meanings : AreComparing (suc n) nodes → HaveMeaningsFrom n nodes (equality_clauses n up down)
  equality_meanings comparing = record { connectives = λ m k node added le there line. connective m k node added there line (split m n le) }
    where
      split : (m k : ℕ) → k ≤ m → (m ≡ k) ⊎ (suc k ≤ m)
      split m k le = grind arith

      connective : (m k : ℕ) (node : Node) (added : Added) → slice_get nodes m ≡ Some node → connective_line nodes m k ≡ Some added → (m ≡ n) ⊎ (suc n ≤ m) → (added.nodes ≡ nodes) × Among (equality_clauses n up down) (record { literals = added.clause; bound = bound_by m node.op })
      connective m k node added there line (inl same) =
          let has = is_line k added (ap (λ (j : ℕ). connective_line nodes j k) (sym same) ∙ line) in
          let is : node ≡ equal a b = same_Some node (equal a b) (sym there ∙ ap (slice_get nodes) same ∙ at) in
          (has.0, (has.1.0, has.1.1 ∙ (λ i. Some (record { literals = added.clause; bound = bound_by (sym same i) (sym is i).op }))))
      connective m k node added there line (inr past) =
          absurd (no_connective nodes m k node.op node.parts added (comparing m node past there) (sym (ap (option_and_then (λ (node : Node). connective_clause nodes m k node.op node.parts)) there) ∙ line))
