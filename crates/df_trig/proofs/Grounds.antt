-- The ground set of a sequent with any number of rounds has what every ground set has.
use Rattle.std.proofs.Common.{◌≡◌, ◌⊎◌, inl, inr, ℕ, zero, suc, ◌+◌, ◌-◌, ◌<◌, ◌≤◌, true, List, [], ◌∷◌, length, Option, None, Some, slice_get, refl, sym, ap, ◌∙◌, subst, arith}
use Rattle.std.specs.Option.{option_map, option_and_then}
use Rattle.std.specs.List.{range_with_len}
use Rattle.std.proofs.lemmas.List.{length-map}
use Rattle.std.proofs.lemmas.Option.{same_Some, slice_get_within}
use Rattle.std.proofs.lemmas.Bool.{cases_lt}
use Rattle.df_lemmas.proofs.Lists.{get_below}
use Rattle.df_form.specs.Node.{Node}
use Rattle.df_form.specs.Clause.{yes, no}
use Rattle.df_form.specs.Log.{Hypothesis, Goal, step_of}
use Rattle.df_form.specs.Sequent.{Sequent, IsSequent}
use Rattle.df_form.proofs.Values.{grown_get}
use Rattle.df_rules.specs.Connective.{Added, connective_clause, connective_line}
use Rattle.df_rules.specs.Derivation.{only_clause}
use Rattle.df_clause.specs.Among.{Among}
use Rattle.df_clause.specs.Comparing.{is_comparing}
use Rattle.df_clause.specs.GroundClause.{GroundClause}
use Rattle.df_clause.specs.GroundSet.{GroundSet, no_clauses, with_line, with_meanings, hypothesis_lines, with_claims, IsFrontOf}
use Rattle.df_clause.specs.declared.ground.Ground.{Ground}
use Rattle.df_clause.specs.GroundView.{set_of, IsGround}
use Rattle.df_clause.proofs.Complete.{in_mapped, in_numbers, below}
use Rattle.df_clause.proofs.KeptNodes.{no_connective}
use Rattle.df_clause.proofs.Running.{grown_from, first_of}
use Rattle.df_clause.proofs.Sets.{Stands, begun, front_twice, line_front, lines_stand, lines_front, meanings_stand, meanings_front}
use Rattle.df_clause.proofs.Passing.{Means, means_wider, passed, among_front, line_among}
use Rattle.df_clause.proofs.Covered.{Covered, meanings_cover, claims_stand, hypotheses_set, hypotheses_stand, sequent_stands, sequent_covered}
use Rattle.df_clause.proofs.Meanings.{IsThere, meaning_there}
use Rattle.df_clause.proofs.Bounds.{Bounds, none_bound, lines_bounds, meanings_bounds, bound_to}
use Rattle.df_trig.specs.Matches.{round_lines}
use Rattle.df_trig.specs.Instances.{with_matches, instances, IsInstances}

module _ (s : Sequent) (valid : IsSequent s) where
  -- the numbers of the nodes that came with the matches of a round
  abbrev new_numbers : GroundSet → List ℕ
  new_numbers set = range_with_len (length set.nodes) (length (with_matches s set).nodes - length set.nodes)

  matched_stands : (set : GroundSet) → Stands s set → Stands s (with_matches s set)
  matched_stands set st = lines_stand s valid (round_lines s.world set.nodes) set st

  matched_front : (set : GroundSet) → Stands s set → IsFrontOf set (with_matches s set)
  matched_front set st = lines_front s (round_lines s.world set.nodes) set st.sorted

  pub instances_stand : (rounds : ℕ) → Stands s (instances s rounds)
  instances_stand zero = sequent_stands s valid
  instances_stand (suc rounds) =
      let set = instances s rounds in
      meanings_stand s valid (new_numbers set) (with_matches s set) (matched_stands set (instances_stand rounds))

  pub round_front : (rounds : ℕ) → IsFrontOf (instances s rounds) (instances s (suc rounds))
  round_front rounds =
      let set = instances s rounds in
      let st = instances_stand rounds in
      front_twice set (with_matches s set) (instances s (suc rounds)) (matched_front set st) (meanings_front s (new_numbers set) (with_matches s set) (matched_stands set st).sorted)

  claims_front : (rounds : ℕ) → IsFrontOf (with_claims s) (instances s rounds)
  claims_front zero = meanings_front s (range_with_len 0 (length s.nodes)) (with_claims s) (claims_stand s valid).sorted
  claims_front (suc rounds) = front_twice (with_claims s) (instances s rounds) (instances s (suc rounds)) (claims_front rounds) (round_front rounds)

  -- ---- each node is covered

  round_covered : (set : GroundSet) → Stands s set → Covered s set → Covered s (with_meanings s (with_matches s set) (new_numbers set))
  round_covered set st covered = meanings_cover s valid (new_numbers set) matched (matched_stands set st) (λ n node at. each n node at (cases_lt n (length set.nodes)))
    where
      matched : GroundSet
      matched = with_matches s set

      front : IsFrontOf set matched
      front = matched_front set st

      each : (n : ℕ) (node : Node) → slice_get matched.nodes n ≡ Some node → (n < length set.nodes) ⊎ (length set.nodes ≤ n) → (Means s matched n ⊎ (is_comparing node.op ≡ true)) ⊎ Among (new_numbers set) n
      each n node at (inl less) =
          let found = get_below set.nodes n less in
          let there = grown_get set.nodes matched.nodes (grown_from set.nodes matched.nodes front.nodes) n found.0 found.1 in
          let same : found.0 ≡ node = same_Some found.0 node (sym there ∙ at) in
          inl (old (covered n node (found.1 ∙ ap (λ (x : Node). Some x) same)))
        where
          old : Means s set n ⊎ (is_comparing node.op ≡ true) → Means s matched n ⊎ (is_comparing node.op ≡ true)
          old (inl means) = inl (means_wider s set matched n front means)
          old (inr compares) = inr compares
      each n node at (inr le) =
          let within = slice_get_within matched.nodes n node at in
          let first = length set.nodes in
          let less : n - first < length matched.nodes - first = omega (arith, within, le) in
          let is : first + (n - first) ≡ n = omega (arith, le) in
          inr (subst (Among (new_numbers set)) is (in_numbers first (length matched.nodes - first) (n - first) less))

  pub instances_covered : (rounds : ℕ) → Covered s (instances s rounds)
  instances_covered zero = sequent_covered s valid
  instances_covered (suc rounds) = round_covered (instances s rounds) (instances_stand rounds) (instances_covered rounds)

  -- ---- bound clauses

  pub instances_bounds : (rounds : ℕ) → Bounds (instances s rounds)
  instances_bounds zero =
      let claims = lines_bounds s valid (Goal ∷ []) (hypotheses_set s valid) (hypotheses_stand s valid) (lines_bounds s valid (hypothesis_lines s) (no_clauses s) (begun s valid) (none_bound s)) in
      meanings_bounds s valid (range_with_len 0 (length s.nodes)) (with_claims s) (claims_stand s valid) claims
  instances_bounds (suc rounds) =
      let set = instances s rounds in
      let st = instances_stand rounds in
      meanings_bounds s valid (new_numbers set) (with_matches s set) (matched_stands set st) (lines_bounds s valid (round_lines s.world set.nodes) set st (instances_bounds rounds))

  -- ---- hypotheses and goal

  goal_among : Among (with_claims s).clauses (record { literals = no s.goal ∷ []; bound = None })
  goal_among = line_among s (hypotheses_set s valid) Goal (record { nodes = (hypotheses_set s valid).nodes; clause = no s.goal ∷ [] }) refl

  hypothesis_among : (i h : ℕ) → slice_get s.hypotheses i ≡ Some h → Among (with_claims s).clauses (record { literals = yes h ∷ []; bound = None })
  hypothesis_among i h at =
      let numbers = range_with_len 0 (length s.hypotheses) in
      let line = in_mapped (λ i. Hypothesis i) numbers i (below (length s.hypotheses) i (slice_get_within s.hypotheses i h at)) in
      let p = passed s valid (hypothesis_lines s) (no_clauses s) line.0 (Hypothesis i) (begun s valid) line.1 in
      let clause : GroundClause = record { literals = yes h ∷ []; bound = None } in
      let added = ap (λ (o : Option ℕ). only_clause p.mid.nodes (option_map (λ h. yes h ∷ []) o)) at in
      let here = line_among s p.mid (Hypothesis i) (record { nodes = p.mid.nodes; clause = yes h ∷ [] }) added in
      let all = hypotheses_set s valid in
      let so_far = among_front (with_line s p.mid (Hypothesis i)).clauses all.clauses clause p.goes_on.clauses here in
      among_front all.clauses (with_claims s).clauses clause (line_front s all Goal (hypotheses_stand s valid).sorted).clauses so_far

  -- ---- all of it

  module _ (rounds : ℕ) (g : Ground) (own : IsInstances s rounds g) where
    st : Stands s (set_of g)
    st = subst (Stands s) (sym own.set) (instances_stand rounds)

    covered : Covered s (set_of g)
    covered = subst (Covered s) (sym own.set) (instances_covered rounds)

    bounds : Bounds (set_of g)
    bounds = subst Bounds (sym own.set) (instances_bounds rounds)

    claim : (clause : GroundClause) → Among (with_claims s).clauses clause → Among g.clauses clause
    claim clause there = subst (λ (set : GroundSet). Among set.clauses clause) (sym own.set) (among_front (with_claims s).clauses (instances s rounds).clauses clause (claims_front rounds).clauses there)

    connectives : (n k : ℕ) (node : Node) (added : Added) → slice_get g.nodes n ≡ Some node → connective_line g.nodes n k ≡ Some added → IsThere (set_of g) n node added
    connectives n k node added at line = by (covered n node at)
      where
        by : Means s (set_of g) n ⊎ (is_comparing node.op ≡ true) → IsThere (set_of g) n node added
        by (inl means) = meaning_there s valid (set_of g) own.table n k node added at line means
        by (inr compares) = absurd (no_connective g.nodes n k node.op node.parts added compares (sym (ap (option_and_then (λ (node : Node). connective_clause g.nodes n k node.op node.parts)) at) ∙ line))

    ground : IsGround s g
    ground = record {
      run = st.run;
      long = st.long ∙ length-map g.lines.items step_of;
      table = own.table;
      grows = first_of s.nodes g.nodes st.grows;
      literals = st.literals;
      hypotheses = λ i h at. claim (record { literals = yes h ∷ []; bound = None }) (hypothesis_among i h at);
      goal = claim (record { literals = no s.goal ∷ []; bound = None }) goal_among;
      connectives = connectives;
      bounds = λ n clause among bound. bound_to g.nodes n clause own.table (bounds n clause among bound);
    }

pub instances_ground : (s : Sequent) (rounds : ℕ) (g : Ground) → IsSequent s → IsInstances s rounds g → IsGround s g
instances_ground s rounds g valid own = ground s valid rounds g own
