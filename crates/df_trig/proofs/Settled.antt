-- A round that adds no clause adds nothing, and so do all further ones.
use Rattle.std.proofs.Common.{◌≡◌, ◌⊎◌, inl, inr, ℕ, zero, suc, ◌+◌, ◌-◌, ◌<◌, ◌≤◌, List, [], ◌∷◌, length, length-append, Ok, refl, sym, ap, ◌∙◌, subst, arith}
use Rattle.std.specs.List.{range_with_len}
use Rattle.std.proofs.lemmas.Bool.{cases_lt}
use Rattle.df_form.specs.Log.{Step}
use Rattle.df_form.specs.Sequent.{Sequent}
use Rattle.df_clause.specs.GroundSet.{GroundSet, ground_clause, with_line, with_lines, with_meaning, with_meanings}
use Rattle.df_clause.specs.Counting.{instance_count}
use Rattle.df_clause.specs.Lines.{lines_at, bound_of}
use Rattle.df_clause.proofs.Sets.{line_either}
use Rattle.df_trig.specs.Matches.{round_lines}
use Rattle.df_trig.specs.Instances.{with_matches, with_round, instances, instance_limit}
use Rattle.df_trig.specs.Rounds.{Rounds}

-- nothing is added, or there are more clauses
abbrev Same : GroundSet → GroundSet → Type 0
Same set to = (to ≡ set) ⊎ (length set.clauses < length to.clauses)

same_twice : (a b c : GroundSet) → Same a b → Same b c → Same a c
same_twice a b c (inl e) (inl f) = inl (f ∙ e)
same_twice a b c (inl e) (inr more) = inr (subst (λ (x : GroundSet). length x.clauses < length c.clauses) e more)
same_twice a b c (inr more) (inl f) = inr (subst (λ (x : GroundSet). length a.clauses < length x.clauses) (sym f) more)
same_twice a b c (inr less) (inr more) = inr (omega (arith, less, more))

module _ (s : Sequent) where
  line_same : (set : GroundSet) (line : Step) → Same set (with_line s set line)
  line_same set line = line_either s set line (Same set) (inl refl) (λ added e. inr (let long = length-append set.clauses (ground_clause (bound_of set.nodes line) added ∷ []) in omega (arith, long)))

  lines_same : (lines : List Step) (set : GroundSet) → Same set (with_lines s set lines)
  lines_same [] set = inl refl
  lines_same (line ∷ lines) set = let next = with_line s set line in same_twice set next (with_lines s next lines) (line_same set line) (lines_same lines next)

  meanings_same : (numbers : List ℕ) (set : GroundSet) → Same set (with_meanings s set numbers)
  meanings_same [] set = inl refl
  meanings_same (n ∷ numbers) set = let next = with_meaning s set n in same_twice set next (with_meanings s next numbers) (lines_same (lines_at set.nodes n) set) (meanings_same numbers next)

  pub same_size : (set : GroundSet) → length (with_round s set).clauses ≡ length set.clauses → with_round s set ≡ set
  same_size set long = by (same_twice set matched (with_round s set) (lines_same (round_lines s.world set.nodes) set) (meanings_same (range_with_len (length set.nodes) (length matched.nodes - length set.nodes)) matched))
    where
      matched : GroundSet
      matched = with_matches s set

      by : Same set (with_round s set) → with_round s set ≡ set
      by (inl same) = same
      by (inr more) = absurd (omega (arith, more, long))

  -- with any number of further rounds
  pub settled : (rounds : ℕ) → with_round s (instances s rounds) ≡ instances s rounds → (more all : ℕ) → all ≡ more + rounds → instances s all ≡ instances s rounds
  settled rounds same zero all is = let none : all ≡ rounds = omega (arith, is) in ap (instances s) none
  settled rounds same (suc more) all is =
      let before = more + rounds in
      let next : all ≡ suc before = omega (arith, is) in
      ap (instances s) next ∙ ap (with_round s) (settled rounds same more before refl) ∙ same

  -- so does a round that was gone through, where there are as many clauses as before
  pub round_adds_nothing : (old new : GroundSet) (count : ℕ) → Rounds s old new (Ok count) → length new.clauses ≡ length old.clauses → with_round s old ≡ old
  round_adds_nothing old new count rounds long = by (cases_lt (instance_count old.clauses) instance_limit)
    where
      by : (instance_count old.clauses < instance_limit) ⊎ (instance_limit ≤ instance_count old.clauses) → with_round s old ≡ old
      by (inl few) = same_size old (ap (λ (x : GroundSet). length x.clauses) (sym (rounds.few few).0) ∙ long)
      by (inr full) = let wrong = (rounds.full full).0 in absurd cc
