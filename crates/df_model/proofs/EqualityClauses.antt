-- The clauses of equalities of numbers are true wherever nodes are read as they are.
use Rattle.std.proofs.Common.{◌≡◌, ℕ, zero, suc, ℤ, int_le, Bool, true, false, not, ◌&&◌, ◌||◌, List, [], ◌∷◌, Some, slice_get, refl, sym, ap, ◌∙◌, arith, subst}
use Rattle.std.specs.Option.{option_and_then}
use Rattle.std.proofs.lemmas.Option.{same_Some, slice_get_within}
use Rattle.df_form.specs.declared.node.Sort.{Sort}
use Rattle.df_form.specs.declared.node.Sort.TheVariants as sorts
use Rattle.df_form.specs.declared.node.Op.{Op}
use Rattle.df_form.specs.declared.node.Op.TheVariants as ops
use Rattle.df_form.specs.Node.{Node}
use Rattle.df_form.specs.Made.{made}
use Rattle.df_form.specs.Sorting.{sort_at}
use Rattle.df_form.specs.Sequent.{Sequent}
use Rattle.df_form.specs.Clause.{yes, no, clause_truth}
use Rattle.df_form.proofs.Making.{made_stands, IsNumber, grown_number}
use Rattle.df_form.proofs.Same.{values_alike}
use Rattle.df_form.proofs.Values.{grown_get, AreSorted, parts_below, parts_taken}
use Rattle.df_rules.specs.Bound.{at_most}
use Rattle.df_rules.specs.Connective.{Added, equal_clause, equal_by_sort, connective_clause}
use Rattle.df_rules.proofs.SoundNodes.{at_most_sorted}
use Rattle.df_clause.specs.declared.ground.Ground.{Ground}
use Rattle.df_clause.specs.GroundClause.{GroundClause}
use Rattle.df_clause.specs.GroundView.{IsGround}
use Rattle.df_closure.specs.Reading.{IsReading}
use Rattle.df_closure.proofs.Atoms.{two_below}
use Rattle.df_closure.proofs.Readings.{equal_is_both}

-- n is the `and` of p and q
first_true : (n p q : Bool) → n ≡ (p && q) → (not n || (p || false)) ≡ true
first_true n true true e = ap (λ b. not b || (true || false)) e
first_true n true false e = ap (λ b. not b || (true || false)) e
first_true n false q e = ap (λ b. not b || (false || false)) e

second_true : (n p q : Bool) → n ≡ (p && q) → (not n || (q || false)) ≡ true
second_true n true true e = ap (λ b. not b || (true || false)) e
second_true n true false e = ap (λ b. not b || (false || false)) e
second_true n false q e = ap (λ b. not b || (q || false)) e

either_true : (n p q : Bool) → n ≡ (p && q) → (n || (not p || (not q || false))) ≡ true
either_true n true true e = ap (λ b. b || (false || (false || false))) e
either_true n true false e = ap (λ b. b || (false || (true || false))) e
either_true n false q e = ap (λ b. b || (true || (not q || false))) e

module _ (nodes : List Node) (sorted : AreSorted nodes) (v : ℕ → ℤ) (t : ℕ → Bool) (reading : IsReading nodes v t) where
  module _ (n a b : ℕ) (at : slice_get nodes n ≡ Some (record { op = ops.Equal; parts = a ∷ b ∷ [] })) (is_a : IsNumber nodes a) (is_b : IsNumber nodes b) where
    abbrev le : ℕ → ℕ → Bool
    le x y = int_le (v x) (v y)

    is_both : t n ≡ (le a b && le b a)
    is_both = reading.equal n a b at is_a.sort ∙ equal_is_both (v a) (v b)

    clause_true : (k : ℕ) (added : Added) → equal_clause nodes n a b k ≡ Some added → added.nodes ≡ nodes → clause_truth t added.clause ≡ true
    clause_true zero added e stands =
        let up = made nodes (at_most a b) in
        let same = same_Some (record { nodes = up.nodes; clause = no n ∷ yes up.number ∷ [] }) added e in
        let there = subst (λ (ns : List Node). slice_get ns up.number ≡ Some (at_most a b)) (ap (λ (x : Added). x.nodes) same ∙ stands) (made_stands nodes (at_most a b) sorted (at_most_sorted nodes a b is_a is_b)).there in
        ap (λ (x : Added). clause_truth t x.clause) (sym same) ∙ ap (λ c. not (t n) || (c || false)) (reading.at_most up.number a b there) ∙ first_true (t n) (le a b) (le b a) is_both
    clause_true (suc zero) added e stands =
        let down = made nodes (at_most b a) in
        let same = same_Some (record { nodes = down.nodes; clause = no n ∷ yes down.number ∷ [] }) added e in
        let there = subst (λ (ns : List Node). slice_get ns down.number ≡ Some (at_most b a)) (ap (λ (x : Added). x.nodes) same ∙ stands) (made_stands nodes (at_most b a) sorted (at_most_sorted nodes b a is_b is_a)).there in
        ap (λ (x : Added). clause_truth t x.clause) (sym same) ∙ ap (λ c. not (t n) || (c || false)) (reading.at_most down.number b a there) ∙ second_true (t n) (le a b) (le b a) is_both
    clause_true (suc (suc zero)) added e stands =
        let up = made nodes (at_most a b) in
        let down = made up.nodes (at_most b a) in
        let same = same_Some (record { nodes = down.nodes; clause = yes n ∷ no up.number ∷ no down.number ∷ [] }) added e in
        let up_stands = made_stands nodes (at_most a b) sorted (at_most_sorted nodes a b is_a is_b) in
        let down_stands = made_stands up.nodes (at_most b a) up_stands.sorted (at_most_sorted up.nodes b a (grown_number nodes up.nodes up_stands.grows b is_b) (grown_number nodes up.nodes up_stands.grows a is_a)) in
        let last = ap (λ (x : Added). x.nodes) same ∙ stands in
        let up_there = subst (λ (ns : List Node). slice_get ns up.number ≡ Some (at_most a b)) last (grown_get up.nodes down.nodes down_stands.grows up.number (at_most a b) up_stands.there) in
        let down_there = subst (λ (ns : List Node). slice_get ns down.number ≡ Some (at_most b a)) last down_stands.there in
        ap (λ (x : Added). clause_truth t x.clause) (sym same)
        ∙ (λ i. t n || (not (reading.at_most up.number a b up_there i) || (not (reading.at_most down.number b a down_there i) || false)))
        ∙ either_true (t n) (le a b) (le b a) is_both
    clause_true (suc (suc (suc k))) added e stands = absurd cc

  sides_true : (sort : Sort) (n a b k : ℕ) (added : Added) → slice_get nodes n ≡ Some (record { op = ops.Equal; parts = a ∷ b ∷ [] }) → sort_at nodes a ≡ sort → equal_by_sort sort nodes n a b k ≡ Some added → added.nodes ≡ nodes → clause_truth t added.clause ≡ true
  sides_true sorts.Number n a b k added at sort e stands =
      let node : Node = record { op = ops.Equal; parts = a ∷ b ∷ [] } in
      let below = two_below n a b (parts_below nodes n node sorted at) in
      let within = slice_get_within nodes n node at in
      let alike = values_alike (sort_at nodes a) (sort_at nodes b) (parts_taken nodes n node sorted at) in
      clause_true n a b at (record { below = omega (arith, below.0, within); sort = sort }) (record { below = omega (arith, below.1, within); sort = sym alike ∙ sort }) k added e stands
  sides_true sorts.Truth n a b k added at sort e stands = absurd cc
  sides_true sorts.Character n a b k added at sort e stands = absurd cc

  pub equality_clause_true : (n k : ℕ) (op : Op) (parts : List ℕ) (added : Added) → slice_get nodes n ≡ Some (record { op = op; parts = parts }) → op ≡ ops.Equal → connective_clause nodes n k op parts ≡ Some added → added.nodes ≡ nodes → clause_truth t added.clause ≡ true
  equality_clause_true n k ops.Equal (a ∷ b ∷ []) added at is e stands = sides_true (sort_at nodes a) n a b k added at refl e stands
  equality_clause_true n k ops.Equal [] added at is e stands = absurd cc
  equality_clause_true n k ops.Equal (a ∷ []) added at is e stands = absurd cc
  equality_clause_true n k ops.Equal (a ∷ b ∷ c ∷ others) added at is e stands = absurd cc
  equality_clause_true n k op parts added at is e stands = absurd cc

module _ (s : Sequent) (g : Ground) (is : IsGround s g) (v : ℕ → ℤ) (t : ℕ → Bool) (reading : IsReading g.nodes v t) where
  -- a bound clause is true
  pub bound_true : (i n : ℕ) (clause : GroundClause) → slice_get g.clauses i ≡ Some clause → clause.bound ≡ Some n → clause_truth t clause.literals ≡ true
  bound_true i n clause at bound =
      let of = is.bounds n clause (i, at) bound in
      let read = ap (option_and_then (λ (node : Node). connective_clause g.nodes n of.number node.op node.parts)) of.there in
      equality_clause_true g.nodes (record { sorted = is.table.sorted }) v t reading n of.number of.of.op of.of.parts (record { nodes = g.nodes; clause = clause.literals }) of.there of.equality (sym read ∙ of.line) refl
