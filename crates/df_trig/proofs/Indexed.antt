-- Of a pattern of two products only those with one last part count, which the lists of endings have.
use Rattle.std.proofs.Common.{◌≡◌, ℕ, ◌<◌, ◌≤◌, nat_lt, true, false, List, [], ◌∷◌, ◌++◌, take, length, None, Some, slice_get, refl, sym, ap, ◌∙◌, subst, arith, ltb-true}
use Rattle.std.specs.Option.{option_map, option_and_then}
use Rattle.std.specs.List.{list_all, range_with_len}
use Rattle.std.proofs.lemmas.Bool.{and_parts}
use Rattle.std.proofs.lemmas.List.{take-append-le}
use Rattle.std.proofs.lemmas.List.FromFn.{length-range_with_len, get_or-range_with_len}
use Rattle.std.proofs.lemmas.Option.{same_Some, slice_get_within, get_or_from_slice_get}
use Rattle.df_lemmas.proofs.Lists.{get_below}
use Rattle.df_lemmas.proofs.Options.{then_some}
use Rattle.df_form.specs.Node.{Node}
use Rattle.df_form.specs.Log.{Step, Schema}
use Rattle.df_form.specs.Sequent.{Sequent}
use Rattle.df_form.proofs.Values.{Grows, AreSorted, parts_below, grown_get}
use Rattle.df_axiom.specs.Line.{first_op}
use Rattle.df_axiom.specs.Schemas.{template}
use Rattle.df_classes.specs.mirror.State.{list_at}
use Rattle.df_clause.specs.Among.{Among}
use Rattle.df_clause.specs.GroundSet.{GroundSet, with_line, with_lines}
use Rattle.df_clause.proofs.Running.{grown_from}
use Rattle.df_trig.specs.declared.pattern.Pattern.{Pattern}
use Rattle.df_trig.specs.Matches.{pair_lines}
use Rattle.df_trig.specs.Endings.{last_of, last_part, ends_in, ending_in, AreEndings, IndexFronts}
use Rattle.df_trig.specs.Rounds.{of_products}
use Rattle.df_trig.proofs.Skipping.{skips, none_added, adds_nothing}

-- ---- the lists beside more nodes

pub index_begins : (nodes : List Node) (lists : List (List ℕ)) → AreEndings nodes (length nodes) lists → IndexFronts nodes lists
index_begins nodes lists are =
    let all : take (length lists) nodes ≡ nodes = ap (λ (n : ℕ). take n nodes) are.long ∙ whole nodes in
    record {
      within = omega (arith, are.long);
      are = record {
        long = are.long ∙ sym (ap (λ (ns : List Node). length ns) all);
        at = λ part less. are.at part (subst (λ (ns : List Node). part < length ns) all less) ∙ (λ i. ending_in (sym all i) (sym are.long i) part);
      };
    }
  where
    whole : (ns : List Node) → take (length ns) ns ≡ ns
    whole [] = refl
    whole (n ∷ ns) = ap (λ (rest : List Node). n ∷ rest) (whole ns)

pub index_stays : (old new : List Node) (lists : List (List ℕ)) → take (length old) new ≡ old → IndexFronts old lists → IndexFronts new lists
index_stays old new lists first index =
    let g = grown_from old new first in
    let same : take (length lists) new ≡ take (length lists) old = ap (take (length lists)) g.is ∙ take-append-le (length lists) old g.more index.within in
    let long = ap (λ (ns : List Node). length ns) g.is in
    let joined = length_joined old g.more in
    record {
      within = omega (arith, index.within, long, joined);
      are = subst (λ (ns : List Node). AreEndings ns (length lists) lists) (sym same) index.are;
    }
  where
    length_joined : (xs ys : List Node) → length xs ≤ length (xs ++ ys)
    length_joined [] ys = omega arith
    length_joined (x ∷ xs) ys = let rest = length_joined xs ys in omega (arith, rest)

-- ---- what the last part is

-- the numbers below a count
in_range : (count m : ℕ) → Among (range_with_len 0 count) m → m < count
in_range count m there =
    let numbers = range_with_len 0 count in
    let within = slice_get_within numbers there.0 m there.1 in
    let long = length-range_with_len 0 count in
    let less : there.0 < count = omega (arith, within, long) in
    let read = sym (get_or_from_slice_get numbers there.0 m 0 there.1) ∙ get_or-range_with_len 0 count there.0 0 less in
    omega (arith, read, less)

-- it is an earlier node
last_below : (nodes : List Node) (first last : ℕ) → AreSorted nodes → last_part nodes first ≡ Some last → last < first
last_below nodes first last sorted e =
    let found = then_some (λ (node : Node). last_of node.parts) (slice_get nodes first) last e in
    below found.0.parts (parts_below nodes first found.0 sorted found.1) found.2
  where
    below : (parts : List ℕ) → list_all (λ part. nat_lt part first) parts ≡ true → last_of parts ≡ Some last → last < first
    below [] all is = absurd cc
    below (n ∷ []) all is = subst (λ (k : ℕ). k < first) (same_Some n last is) (ltb-true n first (and_parts (nat_lt n first) true all).0)
    below (m ∷ n ∷ others) all is = below (n ∷ others) (and_parts (nat_lt m first) (list_all (λ part. nat_lt part first) (n ∷ others)) all).1 is

-- ---- all pairs of which this is the first

module _ (s : Sequent) (p : Pattern) (set : GroundSet) (lists : List (List ℕ)) (first : ℕ) (sorted : AreSorted set.nodes) (index : IndexFronts set.nodes lists) (inside : first < length lists)
    (is_op : first_op set.nodes (first ∷ []) ≡ Some p.op) (two : template s.world p.op p.schema p.clause ≡ Some of_products) where
  abbrev start : List Node
  start = take (length lists) set.nodes

  start_long : length start ≡ length lists
  start_long = sym index.are.long

  from_start : Grows start set.nodes
  from_start = grown_from start set.nodes (subst (λ (n : ℕ). take n set.nodes ≡ start) (sym start_long) refl)

  start_inside : first < length start
  start_inside = omega (arith, inside, start_long)

  read : (n : ℕ) → n < length start → slice_get set.nodes n ≡ slice_get start n
  read n less = let found = get_below start n less in grown_get start set.nodes from_start n found.0 found.1 ∙ sym found.1

  op_at_start : first_op start (first ∷ []) ≡ Some p.op
  op_at_start = sym (ap (option_map (λ (node : Node). node.op)) (read first start_inside)) ∙ is_op

  last_at_start : last_part start first ≡ last_part set.nodes first
  last_at_start = sym (ap (option_and_then (λ (node : Node). last_of node.parts)) (read first start_inside))

  all_inside : (m : ℕ) → Among (range_with_len 0 (length lists)) m → m < length start
  all_inside m there = omega (arith, in_range (length lists) m there, start_long)

  abbrev f : ℕ → Step
  f m = Schema p.schema p.clause (first ∷ m ∷ [])

  -- without a last part there are none
  pub no_pairs : last_part set.nodes first ≡ None → with_lines s set (pair_lines p first (range_with_len 0 (length lists))) ≡ set
  no_pairs none = none_added s f set (range_with_len 0 (length lists)) (λ m there.
      adds_nothing s p.schema p.clause p.op start first None start_inside op_at_start (last_at_start ∙ none) two set m (all_inside m there) sorted from_start (λ z wrong. absurd cc))

  -- with one, those of its list are enough
  pub pairs_of_list : (last : ℕ) → last_part set.nodes first ≡ Some last → with_lines s set (pair_lines p first (range_with_len 0 (length lists))) ≡ with_lines s set (pair_lines p first (list_at lists last))
  pairs_of_list last is =
      let less = last_below set.nodes first last sorted is in
      let listed : list_at lists last ≡ ending_in start (length lists) last = index.are.at last (omega (arith, less, start_inside)) in
      let nothing : (from : GroundSet) (m : ℕ) → m < length start → AreSorted from.nodes → Grows start from.nodes → ends_in start last m ≡ false → with_line s from (f m) ≡ from =
      λ from m below ok grows other. adds_nothing s p.schema p.clause p.op start first (Some last) start_inside op_at_start (last_at_start ∙ is) two from m below ok grows
      (λ z same. subst (λ (y : ℕ). ends_in start y m ≡ false) (same_Some last z same) other) in
      skips s f (ends_in start last) start nothing (range_with_len 0 (length lists)) set all_inside sorted from_start
      ∙ sym (ap (λ (ms : List ℕ). with_lines s set (pair_lines p first ms)) listed)
