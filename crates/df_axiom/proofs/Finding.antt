-- The pieces that are found have the values of their nodes.
use Rattle.std.proofs.Common.{◌≡◌, ℕ, suc, ◌<◌, ◌≤◌, true, false, List, [], ◌∷◌, ◌++◌, map, length, Option, Some, None, slice_get, nat_lt, refl, sym, ap, ◌∙◌, subst, arith, ltb-true, eqb-true, append-nil, append_assoc, length-append}
use Rattle.std.specs.Option.{option_map_or}
use Rattle.std.specs.List.{list_all, AllByRecursion}
use Rattle.std.proofs.lemmas.Option.{same_Some, slice_get_within}
use Rattle.std.proofs.lemmas.Bool.{and_parts}
use Rattle.df_lemmas.proofs.Options.{then_some, test_some}
use Rattle.df_form.specs.World.{World}
use Rattle.df_meaning.specs.Value.{Value}
use Rattle.df_form.specs.declared.log.Pair.{Pair}
use Rattle.df_form.specs.declared.node.Sort.{Sort}
use Rattle.df_form.specs.declared.node.Op.{Op}
use Rattle.df_form.specs.Node.{Node}
use Rattle.df_form.specs.Sorting.{sort_at, takes}
use Rattle.df_form.specs.Truth.{Assignment, value_at, apply}
use Rattle.df_form.proofs.Same.{same_op_equal}
use Rattle.df_form.proofs.Sorts.{worth_sorted}
use Rattle.df_form.proofs.Values.{Grows, grown_get, AreSorted, parts_below, parts_taken, worth, value_is}
use Rattle.df_axiom.specs.declared.templates.Piece.{Piece}
use Rattle.df_axiom.specs.declared.templates.Source.{Source}
use Rattle.df_axiom.specs.declared.templates.Source.TheVariants as sources
use Rattle.df_axiom.specs.declared.templates.Test.{Test}
use Rattle.df_axiom.specs.declared.templates.Test.TheVariants as tests
use Rattle.df_axiom.specs.Instance.{place_at, part_at, source_at, suits, passes, found_from, are_one, agree}
use Rattle.df_axiom.proofs.Facts.{SourceFact, TestFact, PieceFacts, AreOf}
use Rattle.df_axiom.proofs.Places.{kept_place, last_place, place_is, part_value}

-- one more piece is found, and then the others
pub record Step (nodes : List Node) (terms before : List ℕ) (piece : Piece) (others : List Piece) (found : List ℕ) : Type 0 where
  pub n : ℕ
  pub at : source_at nodes terms before piece.source ≡ Some n
  pub passed : passes nodes piece.test n ≡ true
  pub later : found_from nodes terms (before ++ n ∷ []) others ≡ Some found

pub step_of : (nodes : List Node) (terms before : List ℕ) (piece : Piece) (others : List Piece) (found : List ℕ) → found_from nodes terms before (piece ∷ others) ≡ Some found → Step nodes terms before piece others found
step_of nodes terms before piece others found e =
    let step = then_some _ (source_at nodes terms before piece.source) found e in
    let tested = test_some (passes nodes piece.test step.0) (found_from nodes terms (before ++ step.0 ∷ []) others) found step.2 in
    record { n = step.0; at = step.1; passed = tested.0; later = tested.1 }

pub record Front (before found : List ℕ) (count : ℕ) : Type 0 where
  pub rest : List ℕ
  pub is : found ≡ before ++ rest
  pub long : length rest ≡ count

pub found_front : (nodes : List Node) (terms before : List ℕ) (pieces : List Piece) (found : List ℕ) → found_from nodes terms before pieces ≡ Some found → Front before found (length pieces)
found_front nodes terms before [] found e = record { rest = []; is = sym (same_Some before found e) ∙ sym (append-nil before); long = refl }
found_front nodes terms before (piece ∷ others) found e =
    let step = step_of nodes terms before piece others found e in
    let later = found_front nodes terms (before ++ step.n ∷ []) others found step.later in
    record { rest = step.n ∷ later.rest; is = later.is ∙ append_assoc before (step.n ∷ []) later.rest; long = ap suc later.long }

pub record Passed (nodes : List Node) (n : ℕ) (op : Op) : Type 0 where
  pub node : Node
  pub at : slice_get nodes n ≡ Some node
  pub same : op ≡ node.op

pub passed_op : (nodes : List Node) (n : ℕ) (op : Op) → passes nodes (tests.Of op) n ≡ true → Passed nodes n op
passed_op nodes n op e = by (slice_get nodes n) refl e
  where
    by : (o : Option Node) → slice_get nodes n ≡ o → option_map_or (λ (node : Node). suits (tests.Of op) node.op) o false ≡ true → Passed nodes n op
    by None at e = absurd cc
    by (Some node) at e = record { node = node; at = at; same = same_op_equal op node.op e }

-- where all nodes stand, and all places are known
module _ (depth : ℕ) (world : World) (assignment : Assignment) (now : List Node) (sorted : AreSorted now) (all : List ℕ) where
  abbrev pub w : ℕ → Value
  w i = worth depth world assignment now (place_at all i)

  abbrev pub parts_in : ℕ → List ℕ
  parts_in n = option_map_or (λ (node : Node). node.parts) (slice_get now n) []

  abbrev pub ps : ℕ → List Value
  ps i = map (worth depth world assignment now) (parts_in (place_at all i))

  abbrev pub ss : ℕ → List Sort
  ss i = map (sort_at now) (parts_in (place_at all i))

  source_holds : (nodes : List Node) → Grows nodes now → (terms before rest : List ℕ) (source : Source) (i n : ℕ) → all ≡ before ++ rest → place_at all i ≡ n → source_at nodes terms before source ≡ Some n → SourceFact w ps i source
  source_holds nodes g terms before rest (sources.Named term) i n front place at = tt
  source_holds nodes g terms before rest (sources.Part parent part) i n front place at =
      let step = then_some (λ m. part_at nodes m part) (slice_get before parent) n at in
      let found = then_some (λ (node : Node). slice_get node.parts part) (slice_get nodes step.0) n step.2 in
      let there : slice_get now step.0 ≡ Some found.0 = grown_get nodes now g step.0 found.0 found.1 in
      let above : place_at all parent ≡ step.0 = place_is all parent step.0 (kept_place all before rest parent step.0 front step.1) in
      let parts : parts_in (place_at all parent) ≡ found.0.parts = ap parts_in above ∙ ap (λ (o : Option Node). option_map_or (λ (node : Node). node.parts) o []) there in
      ap (worth depth world assignment now) place
      ∙ sym (ap (λ (xs : List ℕ). value_at (map (worth depth world assignment now) xs) part) parts ∙ part_value (worth depth world assignment now) found.0.parts part n found.2)

  zipped : (xs : List ℕ) (k : ℕ) → k ≤ length now → list_all (λ p. nat_lt p k) xs ≡ true → AreOf (map (sort_at now) xs) (map (worth depth world assignment now) xs)
  zipped [] k le e = tt
  zipped (x ∷ xs) k le e =
      let both = and_parts (nat_lt x k) (list_all (λ p. nat_lt p k) xs) e in
      let less : x < length now = omega (arith, ltb-true x k both.0, le) in
      (worth_sorted depth world assignment now sorted x less, zipped xs k le both.1)

  test_holds : (nodes : List Node) → Grows nodes now → (test : Test) (i n : ℕ) → place_at all i ≡ n → passes nodes test n ≡ true → TestFact depth world assignment w ps ss i test
  test_holds nodes g tests.Any i n place passed = tt
  test_holds nodes g tests.Literal i n place passed = tt
  test_holds nodes g (tests.Of op) i n place passed =
      let found = passed_op nodes n op passed in
      let there : slice_get now n ≡ Some found.node = grown_get nodes now g n found.node found.at in
      let parts : parts_in (place_at all i) ≡ found.node.parts = ap parts_in place ∙ ap (λ (o : Option Node). option_map_or (λ (node : Node). node.parts) o []) there in
      let within = slice_get_within now n found.node there in
      let le : n ≤ length now = omega (arith, within) in (
        ap (worth depth world assignment now) place ∙ value_is depth world assignment now n found.node sorted there
            ∙ (λ j. apply depth world assignment (sym found.same j) (map (worth depth world assignment now) (sym parts j))),
        (λ j. takes (found.same j) (map (sort_at now) (parts j))) ∙ parts_taken now n found.node sorted there,
        subst (λ (xs : List ℕ). AreOf (map (sort_at now) xs) (map (worth depth world assignment now) xs)) (sym parts) (zipped found.node.parts n le (parts_below now n found.node sorted there)),
      )

  pub pieces_hold : (nodes : List Node) → Grows nodes now → (terms before : List ℕ) (pieces : List Piece) (i : ℕ) (found more : List ℕ) → i ≡ length before → all ≡ found ++ more → found_from nodes terms before pieces ≡ Some found → PieceFacts depth world assignment w ps ss i pieces
  pieces_hold nodes g terms before [] i found more is front e = tt
  pieces_hold nodes g terms before (piece ∷ others) i found more is front e =
      let step = step_of nodes terms before piece others found e in
      let later = found_front nodes terms (before ++ step.n ∷ []) others found step.later in
      let here : slice_get all i ≡ Some step.n = ap (slice_get all) is ∙ kept_place all found more (length before) step.n front (last_place found before later.rest step.n later.is) in
      let place : place_at all i ≡ step.n = place_is all i step.n here in
      let whole : all ≡ before ++ ((step.n ∷ later.rest) ++ more) =
      front ∙ ap (λ (l : List ℕ). l ++ more) (later.is ∙ append_assoc before (step.n ∷ []) later.rest) ∙ append_assoc before (step.n ∷ later.rest) more in
      let long : suc i ≡ length (before ++ step.n ∷ []) = omega (arith, is, length-append before (step.n ∷ [])) in (
        source_holds nodes g terms before ((step.n ∷ later.rest) ++ more) piece.source i step.n whole place step.at,
        test_holds nodes g piece.test i step.n place step.passed,
        pieces_hold nodes g terms (before ++ step.n ∷ []) others (suc i) found more long front step.later,
      )

  one_node : (found more : List ℕ) (l r : ℕ) (m n : Option ℕ) → all ≡ found ++ more → slice_get found l ≡ m → slice_get found r ≡ n → are_one m n ≡ true → w l ≡ w r
  one_node found more l r (Some m) (Some n) front at_l at_r e =
      let left = place_is all l m (kept_place all found more l m front at_l) in
      let right = place_is all r n (kept_place all found more r n front at_r) in
      ap (worth depth world assignment now) (left ∙ eqb-true m n e ∙ sym right)
  one_node found more l r None n front at_l at_r e = absurd cc
  one_node found more l r (Some m) None front at_l at_r e = absurd cc

  pub same_hold : (found more : List ℕ) (same : List Pair) → all ≡ found ++ more → list_all (agree found) same ≡ true → AllByRecursion (λ (p : Pair). w p.left ≡ w p.right) same
  same_hold found more [] front e = tt
  same_hold found more (p ∷ others) front e =
      let both = and_parts (agree found p) (list_all (agree found) others) e in
      (one_node found more p.left p.right (slice_get found p.left) (slice_get found p.right) front refl refl both.0, same_hold found more others front both.1)
