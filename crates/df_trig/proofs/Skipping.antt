-- Lines that add nothing may be left out.
use Rattle.std.proofs.Common.{◌≡◌, ℕ, suc, ◌<◌, ◌==◌, Bool, true, false, List, [], ◌∷◌, map, filter, length, Option, None, Some, if◌then◌else◌, refl, sym, ap, ◌∙◌, true≢false}
use Rattle.std.specs.Option.{option_and_then, option_map, option_map_or}
use Rattle.std.proofs.lemmas.Bool.{eq-eqb}
use Rattle.df_lemmas.proofs.Lists.{get_below}
use Rattle.df_form.specs.declared.node.Op.{Op}
use Rattle.df_form.specs.Node.{Node}
use Rattle.df_form.specs.Log.{Step, Schema}
use Rattle.df_form.specs.Sequent.{Sequent}
use Rattle.df_form.proofs.Values.{Grows, grows_twice, grown_get, AreSorted}
use Rattle.df_axiom.specs.Instance.{Added, instantiated}
use Rattle.df_axiom.specs.Line.{first_op, line_by, instance_line}
use Rattle.df_axiom.specs.Schemas.{template}
use Rattle.df_clause.specs.Among.{Among}
use Rattle.df_clause.specs.GroundSet.{GroundSet, with_added, with_line, with_lines}
use Rattle.df_clause.proofs.Running.{grown_from}
use Rattle.df_clause.proofs.Sets.{line_sorted, line_front}
use Rattle.df_trig.specs.Endings.{last_of, last_part, is_part, ends_in}
use Rattle.df_trig.specs.Rounds.{of_products}
use Rattle.df_trig.proofs.Pairs.{joined}

-- where a line that the test refuses adds nothing to any set that goes on from the start, these lines may be left out
module _ (s : Sequent) (f : ℕ → Step) (test : ℕ → Bool) (start : List Node)
    (nothing : (set : GroundSet) (m : ℕ) → m < length start → AreSorted set.nodes → Grows start set.nodes → test m ≡ false → with_line s set (f m) ≡ set) where
  pub skips : (ns : List ℕ) (set : GroundSet) → ((m : ℕ) → Among ns m → m < length start) → AreSorted set.nodes → Grows start set.nodes → with_lines s set (map f ns) ≡ with_lines s set (map f (filter test ns))
  skips [] set inside sorted grows = refl
  skips (m ∷ ns) set inside sorted grows = by (λ to within ok more. skips ns to within ok more) (test m) refl
    where
      others : (n : ℕ) → Among ns n → n < length start
      others n there = inside n (suc there.0, there.1)

      next : GroundSet
      next = with_line s set (f m)

      grown : Grows start next.nodes
      grown = grows_twice start set.nodes next.nodes grows (grown_from set.nodes next.nodes (line_front s set (f m) sorted).nodes)

      kept : (b : Bool) → test m ≡ b → filter test (m ∷ ns) ≡ if b then m ∷ filter test ns else filter test ns
      kept b e = ap (λ (c : Bool). if c then m ∷ filter test ns else filter test ns) e

      by : ((to : GroundSet) → ((n : ℕ) → Among ns n → n < length start) → AreSorted to.nodes → Grows start to.nodes → with_lines s to (map f ns) ≡ with_lines s to (map f (filter test ns))) → (b : Bool) → test m ≡ b
          → with_lines s next (map f ns) ≡ with_lines s set (map f (filter test (m ∷ ns)))
      by again true e = again next others (line_sorted s set (f m) sorted) grown ∙ sym (ap (λ (ms : List ℕ). with_lines s set (map f ms)) (kept true e))
      by again false e =
          ap (λ (x : GroundSet). with_lines s x (map f ns)) (nothing set m (inside m (0, refl)) sorted grows e)
          ∙ again set others sorted grows
          ∙ sym (ap (λ (ms : List ℕ). with_lines s set (map f ms)) (kept false e))

-- the last part of a node is the same among more nodes
last_grown : (start nodes : List Node) → Grows start nodes → (n : ℕ) → n < length start → last_part nodes n ≡ last_part start n
last_grown start nodes g n less =
    let found = get_below start n less in
    ap (λ (o : Option Node). option_and_then (λ (node : Node). last_of node.parts) o) (grown_get start nodes g n found.0 found.1) ∙ sym (ap (λ (o : Option Node). option_and_then (λ (node : Node). last_of node.parts) o) found.1)

-- where none adds anything, all may be left out
pub none_added : (s : Sequent) (f : ℕ → Step) (set : GroundSet) (ns : List ℕ) → ((m : ℕ) → Among ns m → with_line s set (f m) ≡ set) → with_lines s set (map f ns) ≡ set
none_added s f set [] nothing = refl
none_added s f set (m ∷ ns) nothing =
    ap (λ (x : GroundSet). with_lines s x (map f ns)) (nothing m (0, refl)) ∙ none_added s f set ns (λ n there. nothing n (suc there.0, there.1))

-- Two terms of which the second has another last part, or the first has none, have no clause by the template of two products.
module _ (s : Sequent) (schema k : ℕ) (op : Op) (start : List Node) (first : ℕ) (last : Option ℕ) (inside : first < length start) (is_op : first_op start (first ∷ []) ≡ Some op) (is_last : last_part start first ≡ last)
    (two : template s.world op schema k ≡ Some of_products) where
  -- where there is a clause, the second one ends in this last part
  alike : (nodes : List Node) (m : ℕ) (added : Added) → AreSorted nodes → Grows start nodes → m < length start → instance_line s.world nodes schema k (first ∷ m ∷ []) ≡ Some added → (z : ℕ) × (last ≡ Some z) × (last_part start m ≡ Some z)
  alike nodes m added sorted g less e =
      let terms = first ∷ m ∷ [] in
      let op_now : first_op nodes terms ≡ Some op =
      (let found = get_below start first inside in
      ap (option_map (λ (node : Node). node.op)) (grown_get start nodes g first found.0 found.1) ∙ sym (ap (option_map (λ (node : Node). node.op)) found.1) ∙ is_op) in
      let by_op = sym (ap (option_and_then (line_by s.world nodes schema k terms)) op_now) ∙ e in
      let by_template = sym (ap (option_and_then (instantiated nodes terms)) two) ∙ by_op in
      let both = joined nodes first m added sorted by_template in
      (both.0, sym is_last ∙ sym (last_grown start nodes g first inside) ∙ both.1, sym (last_grown start nodes g m less) ∙ both.2)

  pub adds_nothing : (set : GroundSet) (m : ℕ) → m < length start → AreSorted set.nodes → Grows start set.nodes → ((z : ℕ) → last ≡ Some z → ends_in start z m ≡ false) → with_line s set (Schema schema k (first ∷ m ∷ [])) ≡ set
  adds_nothing set m less sorted g other = by (instance_line s.world set.nodes schema k (first ∷ m ∷ [])) refl
    where
      none : (added : Added) → instance_line s.world set.nodes schema k (first ∷ m ∷ []) ≡ Some added → ⊥
      none added e =
          let same = alike set.nodes m added sorted g less e in
          let ends : ends_in start same.0 m ≡ (same.0 == same.0) = ap (λ (o : Option ℕ). is_part o same.0) same.2 in
          let itself : (same.0 == same.0) ≡ true = eq-eqb same.0 same.0 refl in
          true≢false (sym (ends ∙ itself) ∙ other same.0 same.1)

      by : (o : Option Added) → instance_line s.world set.nodes schema k (first ∷ m ∷ []) ≡ o → option_map_or (with_added set (Schema schema k (first ∷ m ∷ [])) None) o set ≡ set
      by None e = refl
      by (Some added) e = absurd (none added e)
