-- Two products whose second parts are two nodes have no instance together.
use Rattle.std.proofs.Common.{◌≡◌, ℕ, ◌==◌, true, ◌&&◌, List, [], ◌∷◌, map, Option, None, Some, slice_get, refl, sym, ap, ◌∙◌, subst, true≢false}
use Rattle.std.specs.List.{list_all, range_with_len, flat_map}
use Rattle.std.proofs.lemmas.Option.{same_Some}
use Rattle.std.proofs.lemmas.Bool.{and_parts, eqb-true}
use Rattle.df_form.specs.declared.node.Op.TheVariants as ops
use Rattle.df_form.specs.Node.{Node}
use Rattle.df_form.specs.Sorting.{takes, sort_at}
use Rattle.df_form.proofs.Values.{AreSorted, parts_taken}
use Rattle.df_axiom.specs.declared.templates.Piece.{Piece}
use Rattle.df_axiom.specs.declared.templates.Source.TheVariants as sources
use Rattle.df_axiom.specs.declared.templates.Test.TheVariants as tests
use Rattle.df_axiom.specs.Instance.{Added, part_at, agree, instantiated}
use Rattle.df_axiom.proofs.Finding.{step_of, passed_op}
use Rattle.df_axiom.proofs.Sound.{steps_of}
use Rattle.df_trig.specs.Endings.{last_part, last_of}
use Rattle.df_trig.specs.Matches.{tuples}
use Rattle.df_trig.specs.Rounds.{of_products}

-- one further term is any of the numbers below the count
pub singles : (count : ℕ) → tuples count 1 ≡ map (λ (n : ℕ). n ∷ []) (range_with_len 0 count)
singles count = by (range_with_len 0 count)
  where
    by : (ns : List ℕ) → flat_map (λ n. map (λ (others : List ℕ). n ∷ others) ([] ∷ [])) ns ≡ map (λ (n : ℕ). n ∷ []) ns
    by [] = refl
    by (n ∷ ns) = ap (λ (rest : List (List ℕ)). (n ∷ []) ∷ rest) (by ns)

-- lines for all these lists are lines for all numbers
pub lines_of_singles : {A : Type 0} (f : List ℕ → A) (ns : List ℕ) → map f (map (λ (n : ℕ). n ∷ []) ns) ≡ map (λ (n : ℕ). f (n ∷ [])) ns
lines_of_singles f [] = refl
lines_of_singles f (n ∷ ns) = ap (λ rest. f (n ∷ []) ∷ rest) (lines_of_singles f ns)

-- the last part of a product is its second one
product_last : (nodes : List Node) (n z : ℕ) (node : Node) → AreSorted nodes → slice_get nodes n ≡ Some node → ops.Times ≡ node.op → part_at nodes n 1 ≡ Some z → last_part nodes n ≡ Some z
product_last nodes n z node sorted at op second = by node.parts refl taken
  where
    taken : takes ops.Times (map (sort_at nodes) node.parts) ≡ true
    taken = ap (λ o. takes o (map (sort_at nodes) node.parts)) op ∙ parts_taken nodes n node sorted at

    read : slice_get node.parts 1 ≡ Some z
    read = sym (ap (λ (o : Option Node). part_of o) at) ∙ second
      where
        part_of : Option Node → Option ℕ
        part_of None = None
        part_of (Some m) = slice_get m.parts 1

    here : last_part nodes n ≡ last_of node.parts
    here = ap (λ (o : Option Node). last_in o) at
      where
        last_in : Option Node → Option ℕ
        last_in None = None
        last_in (Some m) = last_of m.parts

    by : (parts : List ℕ) → node.parts ≡ parts → takes ops.Times (map (sort_at nodes) node.parts) ≡ true → last_part nodes n ≡ Some z
    by [] is e = absurd (true≢false (sym e ∙ ap (λ (ps : List ℕ). takes ops.Times (map (sort_at nodes) ps)) is))
    by (a ∷ []) is e = absurd (true≢false (sym e ∙ ap (λ (ps : List ℕ). takes ops.Times (map (sort_at nodes) ps)) is))
    by (a ∷ b ∷ []) is e = here ∙ ap last_of is ∙ sym (ap (λ (ps : List ℕ). slice_get ps 1) is) ∙ read
    by (a ∷ b ∷ c ∷ others) is e = absurd (true≢false (sym e ∙ ap (λ (ps : List ℕ). takes ops.Times (map (sort_at nodes) ps)) is))

-- the pieces that are to be one node are
one_end : (a b c d e f : ℕ) (places : List ℕ) → a ∷ b ∷ c ∷ d ∷ e ∷ f ∷ [] ≡ places → list_all (agree places) of_products.same ≡ true → c ≡ f
one_end a b c d e f places all agrees =
    let same : (c == f && true) ≡ true = subst (λ (ps : List ℕ). list_all (agree ps) of_products.same ≡ true) (sym all) agrees in
    eqb-true c f (and_parts (c == f) true same).0

abbrev product : ℕ → Piece
product term = record { source = sources.Named term; test = tests.Of ops.Times }

abbrev factor : ℕ → ℕ → Piece
factor place part = record { source = sources.Part place part; test = tests.Any }

-- two products, whose second parts are one node
pub record Compared (nodes : List Node) (n m : ℕ) : Type 0 where
  pub first : Node
  pub first_at : slice_get nodes n ≡ Some first
  pub first_op : ops.Times ≡ first.op
  pub second : Node
  pub second_at : slice_get nodes m ≡ Some second
  pub second_op : ops.Times ≡ second.op
  pub last : ℕ
  pub first_last : part_at nodes n 1 ≡ Some last
  pub second_last : part_at nodes m 1 ≡ Some last

pub compared : (nodes : List Node) (n m : ℕ) (added : Added) → instantiated nodes (n ∷ m ∷ []) of_products ≡ Some added → Compared nodes n m
compared nodes n m added e =
    let terms : List ℕ = n ∷ m ∷ [] in
    let found = steps_of nodes terms of_products added e in
    let one = step_of nodes terms [] (product 0) (factor 0 0 ∷ factor 0 1 ∷ product 1 ∷ factor 3 0 ∷ factor 3 1 ∷ []) found.places found.finds in
    let two = step_of nodes terms (one.n ∷ []) (factor 0 0) (factor 0 1 ∷ product 1 ∷ factor 3 0 ∷ factor 3 1 ∷ []) found.places one.later in
    let three = step_of nodes terms (one.n ∷ two.n ∷ []) (factor 0 1) (product 1 ∷ factor 3 0 ∷ factor 3 1 ∷ []) found.places two.later in
    let four = step_of nodes terms (one.n ∷ two.n ∷ three.n ∷ []) (product 1) (factor 3 0 ∷ factor 3 1 ∷ []) found.places three.later in
    let five = step_of nodes terms (one.n ∷ two.n ∷ three.n ∷ four.n ∷ []) (factor 3 0) (factor 3 1 ∷ []) found.places four.later in
    let six = step_of nodes terms (one.n ∷ two.n ∷ three.n ∷ four.n ∷ five.n ∷ []) (factor 3 1) [] found.places five.later in
    let all = same_Some (one.n ∷ two.n ∷ three.n ∷ four.n ∷ five.n ∷ six.n ∷ []) found.places six.later in
    let same = one_end one.n two.n three.n four.n five.n six.n found.places all found.same in
    let first = passed_op nodes one.n ops.Times one.passed in
    let second = passed_op nodes four.n ops.Times four.passed in
    let is_n : n ≡ one.n = same_Some n one.n one.at in
    let is_m : m ≡ four.n = same_Some m four.n four.at in
    record {
      first = first.node;
      first_at = ap (slice_get nodes) is_n ∙ first.at;
      first_op = first.same;
      second = second.node;
      second_at = ap (slice_get nodes) is_m ∙ second.at;
      second_op = second.same;
      last = three.n;
      first_last = ap (λ (k : ℕ). part_at nodes k 1) is_n ∙ three.at;
      second_last = ap (λ (k : ℕ). part_at nodes k 1) is_m ∙ six.at ∙ ap (λ (k : ℕ). Some k) (sym same);
    }

-- where there is an instance, both have one last part
pub joined : (nodes : List Node) (n m : ℕ) (added : Added) → AreSorted nodes → instantiated nodes (n ∷ m ∷ []) of_products ≡ Some added → (z : ℕ) × (last_part nodes n ≡ Some z) × (last_part nodes m ≡ Some z)
joined nodes n m added sorted e =
    let both = compared nodes n m added e in
    (both.last, product_last nodes n both.last both.first sorted both.first_at both.first_op both.first_last, product_last nodes m both.last both.second sorted both.second_at both.second_op both.second_last)
