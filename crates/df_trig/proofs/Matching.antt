-- Wherever a schema has a clause for terms that stand, its line is one of a round.
use Rattle.std.proofs.Common.{◌≡◌, inl, inr, ℕ, zero, suc, ◌-◌, ◌==◌, ◌<◌, Bool, true, false, List, [], ◌∷◌, ◌++◌, filter, length, Option, None, Some, slice_get, if◌then◌else◌, refl, sym, ap, ◌∙◌, subst, arith, eqb-true}
use Rattle.std.specs.Option.{option_map_or, option_and_then}
use Rattle.std.specs.List.{range_with_len, flat_map}
use Rattle.std.proofs.lemmas.Bool.{or_cases}
use Rattle.std.proofs.lemmas.Option.{same_Some, slice_get_within}
use Rattle.df_lemmas.proofs.Options.{then_some, map_some, test_some}
use Rattle.df_lemmas.proofs.Truths.{choice}
use Rattle.df_lang.specs.declared.ty.Ty.{Ty}
use Rattle.df_lang.specs.declared.ty.Ty.TheVariants as types
use Rattle.df_form.specs.World.{World, Ends, ends_at}
use Rattle.df_form.specs.declared.node.Op.{Op}
use Rattle.df_form.specs.declared.node.Op.TheVariants as ops
use Rattle.df_form.specs.declared.symbol.Symbol.TheVariants as symbols
use Rattle.df_form.specs.declared.symbol.Payload.TheVariants as payloads
use Rattle.df_form.specs.Node.{test_of, Node}
use Rattle.df_form.specs.Log.{Step, Schema}
use Rattle.df_axiom.specs.declared.templates.Piece.{Piece}
use Rattle.df_axiom.specs.declared.templates.Source.{Source}
use Rattle.df_axiom.specs.declared.templates.Source.TheVariants as sources
use Rattle.df_axiom.specs.declared.templates.Test.{Test}
use Rattle.df_axiom.specs.Template.{Template}
use Rattle.df_axiom.specs.Instance.{Added, source_at, suits, passes, found_from, agreeing, found, built, with_clause, instantiated}
use Rattle.df_axiom.specs.Line.{first_op, line_by, instance_line}
use Rattle.df_axiom.specs.Types.{interval_template, natural_template, always_template, type_template, types_template}
use Rattle.df_axiom.specs.Schemas.{written, begins_with, written_template, template}
use Rattle.df_axiom.proofs.Chosen.{is_written}
use Rattle.df_axiom.proofs.Finding.{step_of}
use Rattle.df_axiom.proofs.Sound.{steps_of}
use Rattle.df_clause.specs.Among.{Among}
use Rattle.df_clause.proofs.Complete.{in_left, in_right, in_mapped, below}
use Rattle.df_trig.specs.declared.pattern.Pattern.{Pattern}
use Rattle.df_trig.specs.Patterns.{of_schema, type_patterns, of_entry, of_entries, patterns}
use Rattle.df_trig.specs.Matches.{tuples, template_lines, pattern_lines, node_lines, first_lines, round_lines}
use Rattle.df_trig.proofs.Templates.{is_named, names, IsFew, few_terms}
use Rattle.df_trig.proofs.Pairs.{singles}

-- what is in one of the lists is in all of them
in_flat : {A B : Type 0} (f : A → List B) (xs : List A) (x : A) (y : B) → Among xs x → Among (f x) y → Among (flat_map f xs) y
in_flat f [] x y there within = absurd (none there.0 there.1)
  where
    none : (i : ℕ) → slice_get [] i ≡ Some x → ⊥
    none i e = cc
in_flat f (z ∷ xs) x y (zero, at) inside = in_left (f z) (flat_map f xs) y (subst (λ w. Among (f w) y) (sym (same_Some z x at)) inside)
in_flat f (z ∷ xs) x y (suc i, at) inside = in_right (f z) (flat_map f xs) y (in_flat f xs x y (i, at) inside)

-- ---- a clause has a pattern

abbrev HasPattern : Op → ℕ → ℕ → Type 0
HasPattern op schema k = Among (patterns op) (of_schema op schema k)

-- those of a type are the first three clauses at most
interval_below : (op : Op) (ends : Ends) (k : ℕ) (t : Template) → interval_template op ends.low ends.high k ≡ Some t → k < 3
interval_below op ends zero t e = omega arith
interval_below op ends (suc zero) t e = omega arith
interval_below op ends (suc (suc zero)) t e = omega arith
interval_below op ends (suc (suc (suc k))) t e = absurd cc

natural_below : (op : Op) (k : ℕ) (t : Template) → natural_template op k ≡ Some t → k < 3
natural_below op zero t e = omega arith
natural_below op (suc zero) t e = omega arith
natural_below op (suc (suc k)) t e = absurd cc

always_below : (op : Op) (k : ℕ) (t : Template) → always_template op k ≡ Some t → k < 3
always_below op zero t e = omega arith
always_below op (suc k) t e = absurd cc

type_below : (world : World) (ty : Ty) (k : ℕ) (t : Template) → type_template world ty k ≡ Some t → k < 3
type_below world (types.Newtype number) k t e =
    let ends = then_some (λ (newtype : Ends). interval_template (test_of (types.Newtype number)) newtype.low newtype.high k) (ends_at world number) t e in
    interval_below (test_of (types.Newtype number)) ends.0 k t ends.2
type_below world types.Int k t e = always_below (test_of types.Int) k t e
type_below world types.Nat k t e = natural_below (test_of types.Nat) k t e
type_below world types.Bool k t e = always_below (test_of types.Bool) k t e
type_below world types.Char k t e = always_below (test_of types.Char) k t e

is_type_pattern : (ty : Ty) (k : ℕ) → k < 3 → Among (type_patterns (test_of ty)) (of_schema (test_of ty) 74 k)
is_type_pattern ty zero less = (0, refl)
is_type_pattern ty (suc zero) less = (1, refl)
is_type_pattern ty (suc (suc zero)) less = (2, refl)
is_type_pattern ty (suc (suc (suc k))) less = absurd (omega (arith, less))

types_have : (world : World) (op : Op) (k : ℕ) (t : Template) → types_template world op k ≡ Some t → HasPattern op 74 k
types_have world (ops.Of symbols.Is (payloads.Type ty)) k t e = in_left (type_patterns (test_of ty)) (of_entries (test_of ty) written) (of_schema (test_of ty) 74 k) (is_type_pattern ty k (type_below world ty k t e))
types_have world op k t e = absurd cc

-- what passes the test stays
in_filter : {A : Type 0} (test : A → Bool) (xs : List A) (x : A) → Among xs x → test x ≡ true → Among (filter test xs) x
in_filter test [] x (i, at) e = absurd cc
in_filter test (y ∷ xs) x (zero, at) e = subst (λ ys. Among ys x) (sym (ap (λ (b : Bool). if b then y ∷ filter test xs else filter test xs) (ap test (same_Some y x at) ∙ e))) (0, at)
in_filter test (y ∷ xs) x (suc i, at) e = by (test y) (in_filter test xs x (i, at) e)
  where
    by : (b : Bool) → Among (filter test xs) x → Among (if b then y ∷ filter test xs else filter test xs) x
    by true there = (suc there.0, there.1)
    by false there = there

rows_have : (op : Op) (schema k : ℕ) (t : Template) → written_template op schema k ≡ Some t → HasPattern op schema k
rows_have op schema k t e =
    let row = is_written op schema k t e in
    let stays = in_filter (begins_with op) written row.e (row.place, row.at) row.begins in
    let there = in_right (type_patterns op) (of_entries op written) (of_entry op row.e) (in_mapped (of_entry op) (filter (begins_with op) written) row.e stays) in
    subst (λ (p : Pattern). Among (patterns op) p) (λ i. of_schema op (row.of_schema i) (row.of_clause i)) there

has_pattern : (world : World) (op : Op) (schema k : ℕ) (t : Template) → template world op schema k ≡ Some t → HasPattern op schema k
has_pattern world op schema k t e =
    elim (choice (schema == 74) (types_template world op k) (written_template op schema k) (Some t) e) [
      | inl p ↦ subst (λ (n : ℕ). HasPattern op n k) (sym (eqb-true schema 74 p.0)) (types_have world op k t p.1)
      | inr p ↦ rows_have op schema k t p.1
    ]

-- ---- where there is a clause

module _ (nodes : List Node) (terms : List ℕ) (t : Template) (added : Added) (is : instantiated nodes terms t ≡ Some added) where
  -- so many terms are named
  named_all : length terms ≡ t.terms
  named_all =
      let last = then_some (with_clause t) (option_and_then (λ places. built nodes places t.needed) (found nodes terms t)) added is in
      let building = then_some (λ places. built nodes places t.needed) (found nodes terms t) last.0 last.1 in
      eqb-true (length terms) t.terms (test_some (length terms == t.terms) (option_and_then (agreeing t.same) (found_from nodes terms [] t.pieces)) building.0 building.1).0

-- a piece that is found is a node that stands
passed_stands : (nodes : List Node) (test : Test) (n : ℕ) → passes nodes test n ≡ true → n < length nodes
passed_stands nodes test n e = by (slice_get nodes n) refl e
  where
    by : (o : Option Node) → slice_get nodes n ≡ o → option_map_or (λ (node : Node). suits test node.op) o false ≡ true → n < length nodes
    by None at e = absurd cc
    by (Some node) at e = slice_get_within nodes n node at

named_here : (nodes : List Node) (terms before : List ℕ) (source : Source) (term n m : ℕ) → is_named term source ≡ true → source_at nodes terms before source ≡ Some m → slice_get terms term ≡ Some n → m ≡ n
named_here nodes terms before (sources.Named other) term n m same e at = same_Some m n (sym e ∙ ap (slice_get terms) (eqb-true other term same) ∙ at)
named_here nodes terms before (sources.Part place part) term n m same e at = absurd cc

named_stands : (nodes : List Node) (terms before : List ℕ) (pieces : List Piece) (found : List ℕ) (term n : ℕ) → found_from nodes terms before pieces ≡ Some found → names term pieces ≡ true → slice_get terms term ≡ Some n → n < length nodes
named_stands nodes terms before [] found term n e any at = absurd cc
named_stands nodes terms before (piece ∷ others) found term n e any at =
    let step = step_of nodes terms before piece others found e in
    elim (or_cases (is_named term piece.source) (names term others) any) [
      | inl here ↦ subst (λ (m : ℕ). m < length nodes) (named_here nodes terms before piece.source term n step.n here step.at at) (passed_stands nodes piece.test step.n step.passed)
      | inr later ↦ named_stands nodes terms (before ++ step.n ∷ []) others found term n step.later later at
    ]

-- the further terms are among the lists that a round goes through
others_among : (nodes : List Node) (n : ℕ) (others : List ℕ) (t : Template) (added : Added) → IsFew t → instantiated nodes (n ∷ others) t ≡ Some added → Among (tuples (length nodes) (t.terms - 1)) others
others_among nodes n others t added (inl one) e = by others (named_all nodes (n ∷ others) t added e)
  where
    by : (ns : List ℕ) → length (n ∷ ns) ≡ t.terms → Among (tuples (length nodes) (t.terms - 1)) ns
    by [] long = subst (λ (k : ℕ). Among (tuples (length nodes) (k - 1)) []) (sym one) (0, refl)
    by (m ∷ ns) long = absurd (omega (arith, long, one))
others_among nodes n others t added (inr (two, second)) e =
    let steps = steps_of nodes (n ∷ others) t added e in
    by others steps.places (named_all nodes (n ∷ others) t added e) steps.finds
  where
    by : (ns places : List ℕ) → length (n ∷ ns) ≡ t.terms → found_from nodes (n ∷ ns) [] t.pieces ≡ Some places → Among (tuples (length nodes) (t.terms - 1)) ns
    by [] places long finds = absurd (omega (arith, long, two))
    by (m ∷ []) places long finds =
        let less = named_stands nodes (n ∷ m ∷ []) [] t.pieces places 1 m finds second refl in
        let among = in_mapped (λ (k : ℕ). k ∷ []) (range_with_len 0 (length nodes)) m (below (length nodes) m less) in
        subst (λ (k : ℕ). Among (tuples (length nodes) (k - 1)) (m ∷ [])) (sym two) (subst (λ (lists : List (List ℕ)). Among lists (m ∷ [])) (sym (singles (length nodes))) among)
    by (m ∷ o ∷ ns) places long finds = absurd (omega (arith, long, two))

pub none_left_out : (world : World) (nodes : List Node) (schema k : ℕ) (terms : List ℕ) (added : Added) → instance_line world nodes schema k terms ≡ Some added → Among (round_lines world nodes) (Schema schema k terms)
none_left_out world nodes schema k [] added e = absurd cc
none_left_out world nodes schema k (n ∷ others) added e =
    let terms = n ∷ others in
    let by_op = then_some (line_by world nodes schema k terms) (first_op nodes terms) added e in
    let op = by_op.0 in
    let by_template = then_some (instantiated nodes terms) (template world op schema k) added by_op.2 in
    let t = by_template.0 in
    let pattern = has_pattern world op schema k t by_template.1 in
    let at = map_some (λ (node : Node). node.op) (slice_get nodes n) op by_op.1 in
    let others_there = others_among nodes n others t added (few_terms world op schema k t by_template.1) by_template.2 in
    let count = length nodes in
    let line : Step = Schema schema k terms in
    let in_template : Among (template_lines count n (of_schema op schema k) t) line = in_mapped (λ (ns : List ℕ). Schema schema k (n ∷ ns)) (tuples count (t.terms - 1)) others others_there in
    let in_pattern : Among (pattern_lines world count n (of_schema op schema k)) line =
    subst (λ (o : Option Template). Among (option_map_or (template_lines count n (of_schema op schema k)) o []) line) (sym by_template.1) in_template in
    let in_node : Among (node_lines world count n op) line = in_flat (pattern_lines world count n) (patterns op) (of_schema op schema k) line pattern in_pattern in
    let in_first : Among (first_lines world count nodes n) line =
    subst (λ (o : Option Node). Among (option_map_or (λ (node : Node). node_lines world count n node.op) o []) line) (sym at.1)
    (subst (λ (o : Op). Among (node_lines world count n o) line) (sym at.2) in_node) in
    in_flat (first_lines world count nodes) (range_with_len 0 count) n line (below count n (slice_get_within nodes n at.0 at.1)) in_first
