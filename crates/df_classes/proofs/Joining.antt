-- One class goes to another.
use Rattle.std.proofs.Common.{◌≡◌, ℕ, ◌<◌, ◌≤◌, ◌⊎◌, inl, inr, Bool, List, ◌++◌, length, Contains, sym, ap, ◌∙◌, subst, arith, if◌then◌else◌}
use Rattle.std.proofs.lemmas.List.{get_or_past}
use Rattle.std.proofs.lemmas.List.Elements.{Contains-append_left, Contains-append_right, Contains-append_cases}
use Rattle.std.proofs.lemmas.Bool.{cases_eq, cases_lt, ne_eqb}
use Rattle.df_lemmas.proofs.Numbers.{equal_self}
use Rattle.df_classes.specs.mirror.State.{State, label_of, list_at, moved_all}
use Rattle.df_classes.specs.mirror.Partition.{IsPartition, renamed, IsJoined}
use Rattle.df_classes.proofs.Moving.{AreNodes, moved_lengths, moved_in, moved_out, others_stay, label_gets}

pub renamed_loser : (winner loser : ℕ) → renamed winner loser loser ≡ winner
renamed_loser winner loser = ap (λ (b : Bool). if b then winner else loser) (equal_self loser)

pub renamed_other : (winner loser l : ℕ) → (l ≡ loser → ⊥) → renamed winner loser l ≡ l
renamed_other winner loser l apart = ap (λ (b : Bool). if b then winner else l) (ne_eqb l loser apart)

-- what is past the nodes is its own label
pub past_own : (count : ℕ) (s : State) → length s.labels ≡ count → (n : ℕ) → count ≤ n → label_of s n ≡ n
past_own count s long n past = get_or_past s.labels n n (omega (arith, long, past))

-- what has the label of a node is one
pub inside : (count : ℕ) (s : State) (is : IsPartition count s) (loser : ℕ) → loser < count → (n : ℕ) → label_of s n ≡ loser → n < count
inside count s is loser loses n e = by (cases_lt n count)
  where
    by : (n < count) ⊎ (count ≤ n) → n < count
    by (inl less) = less
    by (inr past) = absurd (omega (arith, loses, past, sym (past_own count s is.labels_long n past) ∙ e))

module _ (count : ℕ) (s : State) (is : IsPartition count s) (winner loser : ℕ) (wins : winner < count) (loses : loser < count) (winner_own : label_of s winner ≡ winner) (loser_own : label_of s loser ≡ loser) (apart : winner ≡ loser → ⊥) where
  abbrev leaving : List ℕ
  leaving = list_at s.members loser

  abbrev new : State
  new = moved_all winner leaving s

  are_nodes : AreNodes leaving s
  are_nodes n there =
      let less = inside count s is loser loses n (is.only loser n loser_own there) in omega (arith, less, is.labels_long)

  pub labels_new : (n : ℕ) → label_of new n ≡ renamed winner loser (label_of s n)
  labels_new n = by (cases_eq (label_of s n) loser)
    where
      by : (label_of s n ≡ loser) ⊎ (label_of s n ≡ loser → ⊥) → label_of new n ≡ renamed winner loser (label_of s n)
      by (inl e) =
          let there : Contains leaving n = subst (λ (l : ℕ). Contains (list_at s.members l) n) e (is.listed n (inside count s is loser loses n e)) in
          moved_in winner leaving s n are_nodes there ∙ sym (ap (renamed winner loser) e ∙ renamed_loser winner loser)
      by (inr other) = moved_out winner leaving s n (λ there. other (is.only loser n loser_own there)) ∙ sym (renamed_other winner loser (label_of s n) other)

  went : (n : ℕ) → label_of s n ≡ loser → label_of new n ≡ winner
  went n e = labels_new n ∙ ap (renamed winner loser) e ∙ renamed_loser winner loser

  stayed : (n : ℕ) → (label_of s n ≡ loser → ⊥) → label_of new n ≡ label_of s n
  stayed n other = labels_new n ∙ renamed_other winner loser (label_of s n) other

  winner_stays : label_of new winner ≡ winner
  winner_stays = stayed winner (λ e. apart (sym winner_own ∙ e)) ∙ winner_own

  winners : list_at new.members winner ≡ list_at s.members winner ++ leaving
  winners = label_gets winner leaving s (omega (arith, wins, is.members_long))

  within_new : (n : ℕ) → n < count → label_of new n < count
  within_new n less = by (cases_eq (label_of s n) loser)
    where
      by : (label_of s n ≡ loser) ⊎ (label_of s n ≡ loser → ⊥) → label_of new n < count
      by (inl e) = omega (arith, wins, went n e)
      by (inr other) = omega (arith, is.within n less, stayed n other)

  own_new : (n : ℕ) → label_of new (label_of new n) ≡ label_of new n
  own_new n = by (cases_eq (label_of s n) loser)
    where
      by : (label_of s n ≡ loser) ⊎ (label_of s n ≡ loser → ⊥) → label_of new (label_of new n) ≡ label_of new n
      by (inl e) = ap (label_of new) (went n e) ∙ winner_stays ∙ sym (went n e)
      by (inr other) = ap (label_of new) (stayed n other) ∙ stayed (label_of s n) (λ e. other (sym (is.own n) ∙ e)) ∙ is.own n ∙ sym (stayed n other)

  listed_new : (n : ℕ) → n < count → Contains (list_at new.members (label_of new n)) n
  listed_new n less = by (cases_eq (label_of s n) loser) (cases_eq (label_of s n) winner)
    where
      here : label_of new n ≡ winner → Contains (list_at s.members winner ++ leaving) n → Contains (list_at new.members (label_of new n)) n
      here e there = subst (λ (l : ℕ). Contains (list_at new.members l) n) (sym e) (subst (λ (xs : List ℕ). Contains xs n) (sym winners) there)

      by : (label_of s n ≡ loser) ⊎ (label_of s n ≡ loser → ⊥) → (label_of s n ≡ winner) ⊎ (label_of s n ≡ winner → ⊥) → Contains (list_at new.members (label_of new n)) n
      by (inl e) f = here (went n e) (Contains-append_right (list_at s.members winner) leaving n (subst (λ (l : ℕ). Contains (list_at s.members l) n) e (is.listed n less)))
      by (inr other) (inl e) = here (stayed n other ∙ e) (Contains-append_left (list_at s.members winner) leaving n (subst (λ (l : ℕ). Contains (list_at s.members l) n) e (is.listed n less)))
      by (inr other) (inr third) =
          subst (λ (l : ℕ). Contains (list_at new.members l) n) (sym (stayed n other)) (subst (λ (xs : List ℕ). Contains xs n) (sym (others_stay winner leaving s (label_of s n) third)) (is.listed n less))

  only_new : (l n : ℕ) → label_of new l ≡ l → Contains (list_at new.members l) n → label_of new n ≡ l
  only_new l n own there = by (cases_eq l winner) (cases_eq (label_of s l) loser)
    where
      of_winner : Contains (list_at s.members winner) n ⊎ Contains leaving n → label_of new n ≡ winner
      of_winner (inl old) =
          let e = is.only winner n winner_own old in stayed n (λ f. apart (sym e ∙ f)) ∙ e
      of_winner (inr came) = went n (is.only loser n loser_own came)

      by : (l ≡ winner) ⊎ (l ≡ winner → ⊥) → (label_of s l ≡ loser) ⊎ (label_of s l ≡ loser → ⊥) → label_of new n ≡ l
      by (inl e) f =
          of_winner (Contains-append_cases (list_at s.members winner) leaving n (subst (λ (xs : List ℕ). Contains xs n) winners (subst (λ (k : ℕ). Contains (list_at new.members k) n) e there))) ∙ sym e
      by (inr third) (inl e) = absurd (third (sym own ∙ went l e))
      by (inr third) (inr other) =
          let old_own : label_of s l ≡ l = sym (stayed l other) ∙ own in
          let e = is.only l n old_own (subst (λ (xs : List ℕ). Contains xs n) (others_stay winner leaving s l third) there) in
          stayed n (λ f. other (old_own ∙ sym e ∙ f)) ∙ e

  pub joins : IsJoined count winner loser s new
  joins =
      let lengths = moved_lengths winner leaving s in
      record {
        partition = record {
          labels_long = lengths.0 ∙ is.labels_long;
          members_long = lengths.1 ∙ is.members_long;
          within = within_new;
          own = own_new;
          listed = listed_new;
          only = only_new;
        };
        buckets = lengths.2;
        labels = labels_new;
      }
