-- The lines of patterns, by how many terms they name.
use Rattle.std.proofs.Common.{◌≡◌, inl, inr, ℕ, ◌+◌, ◌-◌, ◌==◌, ◌<◌, Bool, true, false, List, [], ◌∷◌, map, filter, take, length, Option, None, Some, slice_get, get_or, if◌then◌else◌, refl, sym, ap, ◌∙◌, subst, arith, eqb-true, true≢false}
use Rattle.std.specs.Option.{option_map, option_map_or}
use Rattle.std.specs.List.{range_with_len, flat_map, AllByRecursion}
use Rattle.std.proofs.lemmas.Bool.{eq-eqb}
use Rattle.std.proofs.lemmas.Option.{slice_get-get_or, slice_get-map}
use Rattle.std.proofs.lemmas.List.FromFn.{length-range_with_len, get_or-range_with_len}
use Rattle.df_lemmas.proofs.Alls.{all_joined}
use Rattle.df_lemmas.proofs.Lists.{get_below}
use Rattle.df_lemmas.proofs.Options.{map_some}
use Rattle.df_form.specs.World.{World}
use Rattle.df_form.specs.declared.node.Op.{Op}
use Rattle.df_form.specs.declared.node.Op.TheVariants as ops
use Rattle.df_form.specs.declared.symbol.Symbol.TheVariants as symbols
use Rattle.df_form.specs.declared.symbol.Payload.TheVariants as payloads
use Rattle.df_form.specs.Node.{Node}
use Rattle.df_form.specs.Log.{Step, Schema}
use Rattle.df_form.specs.Sequent.{Sequent}
use Rattle.df_form.proofs.Values.{grown_get}
use Rattle.df_axiom.specs.Line.{first_op}
use Rattle.df_axiom.specs.declared.table.TheConstants.{PRODUCTS_COMPARE}
use Rattle.df_axiom.specs.Template.{Template, Entry}
use Rattle.df_axiom.specs.Schemas.{written, begins_with, template}
use Rattle.df_axiom.proofs.Chosen.{all_get}
use Rattle.df_clause.specs.Among.{Among}
use Rattle.df_clause.specs.GroundSet.{GroundSet, with_line, with_lines}
use Rattle.df_clause.proofs.Running.{grown_from}
use Rattle.df_trig.specs.declared.pattern.Pattern.{Pattern}
use Rattle.df_trig.specs.declared.pattern.Named.{Named}
use Rattle.df_trig.specs.declared.pattern.Named.TheVariants as named
use Rattle.df_trig.specs.Patterns.{type_patterns, of_entry, of_entries, patterns}
use Rattle.df_trig.specs.Matches.{tuples, template_lines, pattern_lines, node_lines, first_lines, pair_lines}
use Rattle.df_trig.specs.Rounds.{named_by, Names, of_products}
use Rattle.df_trig.proofs.Templates.{IsFew, few_terms, only_products}
use Rattle.df_trig.proofs.Pairs.{singles, lines_of_singles}

-- ---- how many terms a template names

module _ (world : World) (op : Op) (schema k : ℕ) (t : Template) (found : Some t ≡ template world op schema k) where
  few : IsFew t
  few = few_terms world op schema k t (sym found)

  by_schema : (t.terms == 1) ≡ false → (b : Bool) → (schema == PRODUCTS_COMPARE.schema) ≡ b → Names (if b then named.Products else named.Two) (template world op schema k)
  by_schema more true ten = sym found ∙ ap (λ (x : Template). Some x) (only_products world op schema k t (eqb-true schema 10 ten) (sym found))
  by_schema more false other = by few
    where
      by : IsFew t → Names named.Two (template world op schema k)
      by (inl one) = absurd (true≢false (sym (eq-eqb t.terms 1 one) ∙ more))
      by (inr two) = (t, sym found, two.0)

  by_terms : (b : Bool) → (t.terms == 1) ≡ b → Names (if b then named.One else (if schema == PRODUCTS_COMPARE.schema then named.Products else named.Two)) (template world op schema k)
  by_terms true one = (t, sym found, eqb-true t.terms 1 one)
  by_terms false more = by_schema more (schema == PRODUCTS_COMPARE.schema) refl

  pub names_are : (n : Named) → n ≡ named_by schema t.terms → Names n (template world op schema k)
  names_are n e = subst (λ (m : Named). Names m (template world op schema k)) (sym e) (by_terms (t.terms == 1) refl)

-- ---- the lines of one pattern

module _ (s : Sequent) (set : GroundSet) (count first : ℕ) (p : Pattern) where
  abbrev all : GroundSet
  all = with_lines s set (pattern_lines s.world count first p)

  abbrev all_by : Option Template → GroundSet
  all_by found = with_lines s set (option_map_or (template_lines count first p) found [])

  pub no_line : Names named.Nothing (template s.world p.op p.schema p.clause) → all ≡ set
  no_line none = ap all_by none

  pub one_line : Names named.One (template s.world p.op p.schema p.clause) → all ≡ with_line s set (Schema p.schema p.clause (first ∷ []))
  one_line (t, found, one) = ap all_by found ∙ ap (λ (n : ℕ). with_lines s set (map (λ others. Schema p.schema p.clause (first ∷ others)) (tuples count (n - 1)))) one

  abbrev all_pairs : GroundSet
  all_pairs = with_lines s set (pair_lines p first (range_with_len 0 count))

  pub two_lines : Names named.Two (template s.world p.op p.schema p.clause) → all ≡ all_pairs
  two_lines (t, found, two) =
      let f : List ℕ → Step = λ others. Schema p.schema p.clause (first ∷ others) in
      ap all_by found
      ∙ ap (λ (n : ℕ). with_lines s set (map f (tuples count (n - 1)))) two
      ∙ ap (λ (lists : List (List ℕ)). with_lines s set (map f lists)) (singles count)
      ∙ ap (with_lines s set) (lines_of_singles f (range_with_len 0 count))

  pub product_lines : Names named.Products (template s.world p.op p.schema p.clause) → all ≡ all_pairs
  product_lines found = two_lines (of_products, found, refl)

-- ---- the lines of all patterns that begin with a node

-- a pattern begins with its operation
rows_begin : (op : Op) (entries : List Entry) → AllByRecursion (λ (p : Pattern). p.op ≡ op) (map (of_entry op) entries)
rows_begin op [] = tt
rows_begin op (e ∷ others) = (refl, rows_begin op others)

types_begin : (op : Op) → AllByRecursion (λ (p : Pattern). p.op ≡ op) (type_patterns op)
types_begin (ops.Of symbols.Is (payloads.Type ty)) = (refl, (refl, (refl, tt)))
types_begin op = tt

pub pattern_op : (op : Op) (p : Pattern) → Among (patterns op) p → p.op ≡ op
pattern_op op p (i, at) =
    let P : Pattern → Type 0 = λ x. x.op ≡ op in
    all_get P (patterns op) i p (all_joined P (type_patterns op) (of_entries op written) (types_begin op) (rows_begin op (filter (begins_with op) written))) at

-- the operation of a node is the same among more nodes
pub op_stays : (old new : List Node) (first : ℕ) → take (length old) new ≡ old → first < length old → first_op new (first ∷ []) ≡ first_op old (first ∷ [])
op_stays old new first front less =
    let found = get_below old first less in
    ap (option_map (λ (node : Node). node.op)) (grown_get old new (grown_from old new front) first found.0 found.1 ∙ sym found.1)

module _ (world : World) (count : ℕ) where
  pub first_lines_are : (nodes : List Node) (first : ℕ) (op : Op) → Some op ≡ option_map (λ (node : Node). node.op) (slice_get nodes first) → first_lines world count nodes first ≡ flat_map (pattern_lines world count first) (patterns op)
  first_lines_are nodes first op e =
      let found = map_some (λ (node : Node). node.op) (slice_get nodes first) op (sym e) in
      ap (λ (o : Option Node). option_map_or (λ (node : Node). node_lines world count first node.op) o []) found.1 ∙ ap (node_lines world count first) found.2

  pub no_first_lines : (nodes : List Node) (first : ℕ) → None ≡ option_map (λ (node : Node). node.op) (slice_get nodes first) → first_lines world count nodes first ≡ []
  no_first_lines nodes first e = by (slice_get nodes first) e
    where
      by : (o : Option Node) → None ≡ option_map (λ (node : Node). node.op) o → option_map_or (λ (node : Node). node_lines world count first node.op) o [] ≡ []
      by None e = refl
      by (Some node) e = absurd cc

  -- they are the same among more nodes
  pub first_lines_stay : (old new : List Node) (first : ℕ) → take (length old) new ≡ old → first < length old → first_lines world count new first ≡ first_lines world count old first
  first_lines_stay old new first front less =
      let found = get_below old first less in
      ap (λ (o : Option Node). option_map_or (λ (node : Node). node_lines world count first node.op) o []) (grown_get old new (grown_from old new front) first found.0 found.1 ∙ sym found.1)

-- the number at a place in a range from 0
pub number_at_place : (count n : ℕ) → n < count → slice_get (range_with_len 0 count) n ≡ Some n
number_at_place count n less =
    let long = length-range_with_len 0 count in
    let from_zero : 0 + n ≡ n = omega arith in
    slice_get-get_or (range_with_len 0 count) n 0 (omega (arith, long, less)) ∙ ap (λ (k : ℕ). Some k) (get_or-range_with_len 0 count n 0 less ∙ from_zero)

-- what stands at a place of a list
pub element_at : {A : Type 0} (xs : List A) (n : ℕ) (x : A) → n < length xs → x ≡ get_or xs n x → slice_get xs n ≡ Some x
element_at xs n x less is = slice_get-get_or xs n x less ∙ ap (λ y. Some y) (sym is)

pub pair_at : (p : Pattern) (first : ℕ) (others : List ℕ) (n : ℕ) → n < length others → slice_get (pair_lines p first others) n ≡ Some (Schema p.schema p.clause (first ∷ get_or others n 0 ∷ []))
pair_at p first others n less =
    let f : ℕ → Step = λ second. Schema p.schema p.clause (first ∷ second ∷ []) in
    slice_get-map f others n ∙ ap (option_map f) (slice_get-get_or others n 0 less)
