-- Each node of a ground set has what its connective means, or compares numbers.
use Rattle.std.proofs.Common.{◌≡◌, ◌⊎◌, inl, inr, ℕ, ◌<◌, ◌≤◌, true, List, [], ◌∷◌, map, length, Option, None, Some, slice_get, refl, sym, ap, ◌∙◌, arith}
use Rattle.std.specs.Option.{option_map, option_map_or}
use Rattle.std.specs.List.{range_with_len}
use Rattle.std.proofs.lemmas.Option.{same_Some, slice_get_within}
use Rattle.std.proofs.lemmas.Bool.{cases_lt}
use Rattle.df_lemmas.proofs.Lists.{get_below}
use Rattle.df_lemmas.proofs.Options.{then_some, map_some}
use Rattle.df_form.specs.Node.{Node}
use Rattle.df_form.specs.Clause.{Clause, yes, no}
use Rattle.df_form.specs.Log.{Hypothesis, Goal, Connective}
use Rattle.df_form.specs.Sequent.{Sequent, IsSequent}
use Rattle.df_form.proofs.Values.{grown_get}
use Rattle.df_rules.specs.Connective.{Added, connective_clause}
use Rattle.df_rules.specs.Derivation.{only_clause}
use Rattle.df_clause.specs.Among.{Among}
use Rattle.df_clause.specs.Comparing.{is_comparing, AreComparing}
use Rattle.df_clause.specs.Lines.{connective_count, connective_lines, lines_at}
use Rattle.df_clause.specs.GroundSet.{GroundSet, no_clauses, with_line, with_lines, with_meaning, with_meanings, hypothesis_lines, with_claims, sequent_set, IsFrontOf}
use Rattle.df_clause.proofs.Complete.{below}
use Rattle.df_clause.proofs.KeptNodes.{op_kept}
use Rattle.df_clause.proofs.Making.{made_comparing}
use Rattle.df_clause.proofs.Running.{grown_from}
use Rattle.df_clause.proofs.Sets.{Stands, begun, line_either, line_stands, lines_stand, meanings_stand, meanings_front}
use Rattle.df_clause.proofs.Passing.{Means, means_wider, meant}

abbrev pub Covered : Sequent → GroundSet → Type 0
Covered s set = (n : ℕ) (node : Node) → slice_get set.nodes n ≡ Some node → Means s set n ⊎ (is_comparing node.op ≡ true)

module _ (s : Sequent) (valid : IsSequent s) where
  -- ---- connectives make comparisons

  line_comparing : (count n k : ℕ) (set : GroundSet) → Stands s set → AreComparing count set.nodes → AreComparing count (with_line s set (Connective n k)).nodes
  line_comparing count n k set st all = line_either s set (Connective n k) (λ (to : GroundSet). AreComparing count to.nodes) all (λ added e.
      (let found = then_some (λ (node : Node). connective_clause set.nodes n k node.op node.parts) (slice_get set.nodes n) added e in
      op_kept (AreComparing count) (made_comparing count) set.nodes n k found.0.op found.0.parts added all found.2))

  row_comparing : (count n : ℕ) (ks : List ℕ) (set : GroundSet) → Stands s set → AreComparing count set.nodes → AreComparing count (with_lines s set (map (λ k. Connective n k) ks)).nodes
  row_comparing count n [] set st all = all
  row_comparing count n (k ∷ ks) set st all = row_comparing count n ks (with_line s set (Connective n k)) (line_stands s set (Connective n k) valid st) (line_comparing count n k set st all)

  meaning_comparing : (count n : ℕ) (set : GroundSet) → Stands s set → AreComparing count set.nodes → AreComparing count (with_meaning s set n).nodes
  meaning_comparing count n set st all = by (slice_get set.nodes n)
    where
      by : (o : Option Node) → AreComparing count (with_lines s set (option_map_or (connective_lines set.nodes n) o [])).nodes
      by None = all
      by (Some node) = row_comparing count n (range_with_len 0 (connective_count set.nodes node.op node.parts)) set st all

  meanings_comparing : (count : ℕ) (numbers : List ℕ) (set : GroundSet) → Stands s set → AreComparing count set.nodes → AreComparing count (with_meanings s set numbers).nodes
  meanings_comparing count [] set st all = all
  meanings_comparing count (n ∷ numbers) set st all =
      meanings_comparing count numbers (with_meaning s set n) (lines_stand s valid (lines_at set.nodes n) set st) (meaning_comparing count n set st all)

  none_later : (set : GroundSet) → AreComparing (length set.nodes) set.nodes
  none_later set n node le at = let less = slice_get_within set.nodes n node at in absurd (omega (arith, less, le))

  -- ---- all is covered

  -- where each node is covered or among the numbers, the meanings of these cover all
  pub meanings_cover : (numbers : List ℕ) (set : GroundSet) → Stands s set → ((n : ℕ) (node : Node) → slice_get set.nodes n ≡ Some node → (Means s set n ⊎ (is_comparing node.op ≡ true)) ⊎ Among numbers n) → Covered s (with_meanings s set numbers)
  meanings_cover numbers set st each n node at = by (cases_lt n (length set.nodes))
    where
      all : GroundSet
      all = with_meanings s set numbers

      front : IsFrontOf set all
      front = meanings_front s numbers set st.sorted

      covered : n < length set.nodes → (Means s set n ⊎ (is_comparing node.op ≡ true)) ⊎ Among numbers n → Means s all n ⊎ (is_comparing node.op ≡ true)
      covered less (inl (inl means)) = inl (means_wider s set all n front means)
      covered less (inl (inr compares)) = inr compares
      covered less (inr among) = inl (meant s valid numbers set among.0 n st among.1 less)

      by : (n < length set.nodes) ⊎ (length set.nodes ≤ n) → Means s all n ⊎ (is_comparing node.op ≡ true)
      by (inl less) =
          let found = get_below set.nodes n less in
          let there = grown_get set.nodes all.nodes (grown_from set.nodes all.nodes front.nodes) n found.0 found.1 in
          let same : found.0 ≡ node = same_Some found.0 node (sym there ∙ at) in
          covered less (each n node (found.1 ∙ ap (λ (x : Node). Some x) same))
      by (inr le) = inr (meanings_comparing (length set.nodes) numbers set st (none_later set) n node le at)

  -- ---- the sequent's own set

  -- lines of hypotheses and of the goal make no nodes
  only_nodes : (set : GroundSet) (o : Option Clause) (added : Added) → only_clause set.nodes o ≡ Some added → added.nodes ≡ set.nodes
  only_nodes set o added e =
      let found = map_some (λ (clause : Clause). record { nodes = set.nodes; clause = clause }) o added e in
      ap (λ (x : Added). x.nodes) (sym found.2)

  hypotheses_nodes : (is : List ℕ) (set : GroundSet) → Stands s set → (with_lines s set (map (λ i. Hypothesis i) is)).nodes ≡ set.nodes
  hypotheses_nodes [] set st = refl
  hypotheses_nodes (i ∷ is) set st =
      hypotheses_nodes is (with_line s set (Hypothesis i)) (line_stands s set (Hypothesis i) valid st)
      ∙ line_either s set (Hypothesis i) (λ (to : GroundSet). to.nodes ≡ set.nodes) refl (λ added e. only_nodes set (option_map (λ h. yes h ∷ []) (slice_get s.hypotheses i)) added e)

  abbrev pub hypotheses_set : GroundSet
  hypotheses_set = with_lines s (no_clauses s) (hypothesis_lines s)

  pub hypotheses_stand : Stands s hypotheses_set
  hypotheses_stand = lines_stand s valid (hypothesis_lines s) (no_clauses s) (begun s valid)

  pub claims_stand : Stands s (with_claims s)
  claims_stand = line_stands s hypotheses_set Goal valid hypotheses_stand

  claims_nodes : (with_claims s).nodes ≡ s.nodes
  claims_nodes =
      line_either s hypotheses_set Goal (λ (to : GroundSet). to.nodes ≡ hypotheses_set.nodes) refl (λ added e. only_nodes hypotheses_set (Some (no s.goal ∷ [])) added e)
      ∙ hypotheses_nodes (range_with_len 0 (length s.hypotheses)) (no_clauses s) (begun s valid)

  pub sequent_stands : Stands s (sequent_set s)
  sequent_stands = meanings_stand s valid (range_with_len 0 (length s.nodes)) (with_claims s) claims_stand

  pub sequent_covered : Covered s (sequent_set s)
  sequent_covered = meanings_cover (range_with_len 0 (length s.nodes)) (with_claims s) claims_stand (λ n node at.
      (let within = slice_get_within (with_claims s).nodes n node at in
      let long = ap (λ (ns : List Node). length ns) claims_nodes in
      inr (below (length s.nodes) n (omega (arith, within, long)))))
