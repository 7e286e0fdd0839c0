-- Whole rounds, and any number of them.
use Rattle.std.proofs.Common.{◌≡◌, ◌⊎◌, inl, inr, ℕ, suc, ◌+◌, ◌-◌, ◌<◌, ◌≤◌, List, take, length, Result, Ok, Err, refl, sym, ap, ◌∙◌, subst, arith}
use Rattle.std.specs.List.{range_with_len}
use Rattle.std.proofs.lemmas.Bool.{cases_lt}
use Rattle.std.proofs.lemmas.List.{length-take}
use Rattle.df_form.specs.Sequent.{Sequent, IsSequent}
use Rattle.df_form.proofs.Values.{AreSorted}
use Rattle.df_clause.specs.Counting.{instance_count}
use Rattle.df_clause.specs.GroundSet.{GroundSet, with_meanings, IsFrontOf}
use Rattle.df_clause.proofs.Sets.{front_itself, front_twice, front_fewer, lines_sorted, lines_front, meanings_front}
use Rattle.df_trig.specs.declared.fault.TrigFault.{TrigFault}
use Rattle.df_trig.specs.declared.fault.TrigFault.TheVariants.{Many, Memory}
use Rattle.df_trig.specs.Matches.{round_lines}
use Rattle.df_trig.specs.Instances.{with_matches, with_round, instances, instance_limit, AreTooMany}
use Rattle.df_trig.specs.Rounds.{AreFew, Reaches, Rounds, TellsFew, Instantiates}
use Rattle.df_trig.proofs.Grounds.{instances_stand}
use Rattle.df_trig.proofs.Reaching.{reaches_wider, reaches_from}

no_shorter : {A : Type 0} (front all : List A) → take (length front) all ≡ front → length front ≤ length all
no_shorter front all e = let long = ap length e in let most = length-take (length front) all in omega (arith, long, most)

module _ (s : Sequent) (set : GroundSet) (sorted : AreSorted set.nodes) where
  abbrev matched : GroundSet
  matched = with_matches s set

  pub matches_sorted : AreSorted matched.nodes
  matches_sorted = lines_sorted s (round_lines s.world set.nodes) set sorted

  pub matches_front : IsFrontOf set matched
  matches_front = lines_front s (round_lines s.world set.nodes) set sorted

  rest_front : IsFrontOf matched (with_round s set)
  rest_front = meanings_front s (range_with_len (length set.nodes) (length matched.nodes - length set.nodes)) matched matches_sorted

  pub whole_front : IsFrontOf set (with_round s set)
  whole_front = front_twice set matched (with_round s set) matches_front rest_front

  -- a fault at the matches is one of the round
  pub matches_end_early : (new : GroundSet) (fault : TrigFault) → Reaches {A = Unit {0}} set matched new (Err fault) → Reaches {A = Unit {0}} set (with_round s set) new (Err fault)
  matches_end_early new fault reaches = reaches_wider set set matched (with_round s set) new fault (front_itself set) rest_front reaches

  pub more_nodes : (now : GroundSet) → now ≡ matched → length set.nodes ≤ length now.nodes
  more_nodes now is = subst (λ (x : GroundSet). length set.nodes ≤ length x.nodes) (sym is) (no_shorter set.nodes matched.nodes matches_front.nodes)

  -- after them come the meanings of the nodes that they made
  pub round_is : (now : GroundSet) (first count : ℕ) → now ≡ matched → first ≡ length set.nodes → count ≡ length now.nodes - first → with_meanings s now (range_with_len first count) ≡ with_round s set
  round_is now first count now_is first_is count_is =
      let counted : count ≡ length matched.nodes - length set.nodes = count_is ∙ (λ i. length (now_is i).nodes - first_is i) in
      λ i. with_meanings s (now_is i) (range_with_len (first_is i) (counted i))

  -- what comes after them comes after the set
  pub after_matches : (now whole new : GroundSet) (result : Result (Unit {0}) TrigFault) → now ≡ matched → Reaches now whole new result → Reaches set whole new result
  after_matches now whole new result is reaches = reaches_from set now whole new result (subst (IsFrontOf set) (sym is) matches_front) reaches

  -- ---- what a round answers

  -- there are too many to begin with
  pub round_full : (fault : TrigFault) → TellsFew set (Err fault) → Rounds s set set (Err fault)
  round_full (Many count) tells = record {
    kept = front_itself set;
    few = λ few. (let many = tells.1 in absurd (omega (arith, few, many)));
    full = λ many. (ap (λ (n : ℕ). Err (Many n)) tells.0, refl);
    counted = tt;
  }
  round_full Memory tells = absurd tells

  module _ (new : GroundSet) (few : AreFew set) where
    no_more : instance_limit ≤ instance_count set.clauses → ⊥
    no_more many = omega (arith, few, many)

    pub round_ends : (fault : TrigFault) → Reaches {A = Unit {0}} set (with_round s set) new (Err fault) → Rounds s set new (Err fault)
    round_ends (Many count) reaches = record { kept = reaches.0.begins; few = λ h. reaches; full = λ many. absurd (no_more many); counted = tt }
    round_ends Memory reaches = record { kept = reaches.begins; few = λ h. reaches; full = λ many. absurd (no_more many); counted = tt }

    -- there are no fewer instances than before
    pub no_fewer : Reaches {A = Unit {0}} set (with_round s set) new (Ok tt) → instance_count set.clauses ≤ instance_count new.clauses
    no_fewer reaches = subst (λ (x : GroundSet). instance_count set.clauses ≤ instance_count x.clauses) (sym reaches.0) (front_fewer set (with_round s set) whole_front)

    pub round_adds : (count : ℕ) → Reaches {A = Unit {0}} set (with_round s set) new (Ok tt) → instance_count new.clauses ≡ instance_count set.clauses + count → Rounds s set new (Ok count)
    round_adds count reaches counted = record {
      kept = subst (IsFrontOf set) (sym reaches.0) whole_front;
      few = λ h. (reaches.0, reaches.1);
      full = λ many. absurd (no_more many);
      counted = counted;
    }

-- ---- so many rounds

same_count : (count : ℕ) (told : Result ℕ TrigFault) → told ≡ Err (Many count) → told ≡ Err (Many instance_limit) → count ≡ instance_limit
same_count count told own is = cc

module _ (s : Sequent) (valid : IsSequent s) where
  sorted_at : (rounds : ℕ) → AreSorted (instances s rounds).nodes
  sorted_at rounds = (instances_stand s valid rounds).sorted

  -- one more
  pub one_more : (rounds : ℕ) (old new : GroundSet) (count : ℕ) → old ≡ instances s rounds → Rounds s old new (Ok count) → new ≡ instances s (rounds + 1)
  one_more rounds old new count is h = by (cases_lt (instance_count old.clauses) instance_limit)
    where
      by : (instance_count old.clauses < instance_limit) ⊎ (instance_limit ≤ instance_count old.clauses) → new ≡ instances s (rounds + 1)
      by (inl few) =
          let next : suc rounds ≡ rounds + 1 = omega arith in
          (h.few few).0 ∙ ap (with_round s) is ∙ ap (instances s) next
      by (inr many) = let wrong = (h.full many).0 in absurd cc

  -- a round has too many
  pub too_many : (done rounds : ℕ) (old new : GroundSet) (fault : TrigFault) → done < rounds → old ≡ instances s done → Rounds s old new (Err fault) → Instantiates s rounds (Err fault)
  too_many done rounds old new Memory less is h = tt
  too_many done rounds old new (Many count) less is h = by (cases_lt (instance_count old.clauses) instance_limit)
    where
      sorted : AreSorted old.nodes
      sorted = subst (λ (x : GroundSet). AreSorted x.nodes) (sym is) (sorted_at done)

      told : count ≡ instance_limit → instance_limit ≤ instance_count (with_round s old).clauses → (count ≡ instance_limit) × AreTooMany s rounds
      told e many = (
        e,
        record {
          round = done;
          within = omega (arith, less);
          many = subst (λ (x : GroundSet). instance_limit ≤ instance_count (with_round s x).clauses) is many;
        },
      )

      by : (instance_count old.clauses < instance_limit) ⊎ (instance_limit ≤ instance_count old.clauses) → (count ≡ instance_limit) × AreTooMany s rounds
      by (inl few) =
          let reaches = h.few few in
          let fewer = front_fewer new (with_round s old) reaches.0.goes_on in
          let so_many = reaches.2 in
          told reaches.1 (omega (arith, fewer, so_many))
      by (inr many) =
          let fewer = front_fewer old (with_round s old) (whole_front s old sorted) in
          told (same_count count (Err (Many count)) refl (h.full many).0) (omega (arith, fewer, many))
