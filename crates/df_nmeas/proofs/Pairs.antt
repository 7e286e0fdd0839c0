-- Pairs of members of two measures.
use Rattle.df_nmeas.proofs.Words.{◌≡◌, ℕ, suc, ◌-◌, ◌<◌, ◌≤◌, List, [], ◌∷◌, length, min, drop, refl, ap, arith, ◌++◌, sym, ◌∙◌, append_assoc, append-nil, map-append, pairs_before, one_measured, measured_in, IsMember, AreMembers, Measures, DeclaredMeasured, Measure, Node, sort_of_type, Environment, Condition, term_of, conditions_of, Measured, conditions_of_measure, measured, Grows, IsFront, IsTerm, Adds, Gives, DeclaredCondition, grows_not, grows_then, term_stays, adds_none, adds_as, adds_then}
use Rattle.df_lemmas.proofs.Alls.{all_joined}
use Rattle.df_nenc.proofs.Trees.{grown_tree}
use Rattle.df_nenc.proofs.Reaching.{front_not, front_then, adds_front}

-- of equally long lists all pairs but the last
pub equal_pairs : {A : Type 0} (xs ys : List A) → length xs ≡ length ys → pairs_before xs ys ≡ length xs - 1
equal_pairs (x ∷ []) (y ∷ []) e = refl
equal_pairs (x ∷ w ∷ xs) (y ∷ z ∷ ys) e = let rest = equal_pairs (w ∷ xs) (z ∷ ys) (omega arith) in omega arith
equal_pairs xs ys e = omega arith

-- of lists that are not equally long as many as the shorter one has
pub unequal_pairs : {A : Type 0} (xs ys : List A) → (length xs ≡ length ys → ⊥) → pairs_before xs ys ≡ min (length xs) (length ys)
unequal_pairs [] [] ne = absurd (ne refl)
unequal_pairs (x ∷ []) (y ∷ []) ne = absurd (ne refl)
unequal_pairs (x ∷ w ∷ xs) (y ∷ z ∷ ys) ne = let rest = unequal_pairs (w ∷ xs) (z ∷ ys) (λ e. ne (ap suc e)) in omega arith
unequal_pairs xs ys ne = omega arith

pub pairs_fit : {A : Type 0} (xs ys : List A) → (pairs_before xs ys ≤ length xs) × (pairs_before xs ys ≤ length ys)
pairs_fit (x ∷ []) (y ∷ []) = (omega arith, omega arith)
pairs_fit (x ∷ w ∷ xs) (y ∷ z ∷ ys) = let rest = pairs_fit (w ∷ xs) (z ∷ ys) in let first = rest.0 in let second = rest.1 in (omega arith, omega arith)
pairs_fit xs ys = (omega arith, omega arith)

-- behind them there are no more
pub pairs_end : {A : Type 0} (xs ys : List A) → pairs_before (drop (pairs_before xs ys) xs) (drop (pairs_before xs ys) ys) ≡ 0
pairs_end (x ∷ []) (y ∷ []) = refl
pairs_end (x ∷ w ∷ xs) (y ∷ z ∷ ys) = pairs_end (w ∷ xs) (z ∷ ys)
pairs_end xs ys = refl

pub pairs_left : {A : Type 0} (x y : A) (xs ys : List A) (k : ℕ) → suc k < pairs_before (x ∷ xs) (y ∷ ys) → k < pairs_before xs ys
pairs_left x y (w ∷ xs) (z ∷ ys) k lt = omega arith
pairs_left x y xs ys k lt = let fit = pairs_fit (x ∷ xs) (y ∷ ys) in let first = fit.0 in let second = fit.1 in omega arith

pub members_stay : (before now : List Node) (ms : List DeclaredMeasured) → Grows before now → AreMembers before ms → AreMembers now ms
members_stay before now [] g all = tt
members_stay before now (m ∷ ms) g all = (term_stays (sort_of_type m.ty) before now m.value g all.0, members_stay before now ms g all.1)

pub members_same : (before now : List Node) (ms : List DeclaredMeasured) → Grows before now → AreMembers before ms → measured_in now ms ≡ measured_in before ms
members_same before now [] g all = refl
members_same before now (m ∷ ms) g all =
    let head = grown_tree before now g m.value all.0.below in
    let others = members_same before now ms g all.1 in
    λ i. record { ty = m.ty; value = head i } ∷ others i

-- what was made so far, and then the rest, is all
pub record Measuring (env : Environment) (old now : List Node) (members : List DeclaredMeasured) (before after : List DeclaredCondition) (all rest : List Measure) : Type 0 where
  pub grows : Grows old now
  pub begins : IsFront before after
  pub are : AreMembers now members
  pub members_are : measured_in now members ++ measured env rest ≡ measured env all
  pub added : List Condition
  pub adds : Adds now added before after
  pub conditions_are : added ++ conditions_of_measure env rest ≡ conditions_of_measure env all

pub measure_begins : (env : Environment) (nodes : List Node) (cs : List DeclaredCondition) (all : List Measure) → Measuring env nodes nodes [] cs cs all all
measure_begins env nodes cs all = record { grows = grows_not nodes; begins = front_not cs; are = tt; members_are = refl; added = []; adds = adds_none nodes cs; conditions_are = refl }

pub measure_goes : (env : Environment) (old now next : List Node) (members : List DeclaredMeasured) (before after then : List DeclaredCondition) (all rest : List Measure) (m : Measure) (n : ℕ)
    → Measuring env old now members before after all (m ∷ rest) → Gives (term_of env m.value) (conditions_of env m.value) now next n after then → IsTerm (sort_of_type m.ty) next n
    → Measuring env old next (members ++ record { ty = m.ty; value = n } ∷ []) before then all rest
measure_goes env old now next members before after then all rest m n s g is = record {
  grows = grows_then old now next s.grows g.grows;
  begins = front_then before after then s.begins (adds_front next (conditions_of env m.value) after then g.adds);
  are = all_joined (IsMember next) members (record { ty = m.ty; value = n } ∷ []) (members_stay now next members g.grows s.are) (is, tt);
  members_are =
      (let kept = members_same now next members g.grows s.are in
      let tree = g.stands.tree_is in
      let one : Measured = record { ty = m.ty; value = term_of env m.value } in
      ap (λ z. z ++ measured env rest) (map-append (one_measured next) members (record { ty = m.ty; value = n } ∷ []))
      ∙ (λ i. (kept i ++ record { ty = m.ty; value = tree i } ∷ []) ++ measured env rest)
      ∙ append_assoc (measured_in now members) (one ∷ []) (measured env rest) ∙ s.members_are);
  added = s.added ++ conditions_of env m.value;
  adds = adds_then now next s.added (conditions_of env m.value) before after then g.grows s.adds g.adds;
  conditions_are = append_assoc s.added (conditions_of env m.value) (conditions_of_measure env rest) ∙ s.conditions_are;
}

pub measure_ends : (env : Environment) (old now : List Node) (members : List DeclaredMeasured) (before after : List DeclaredCondition) (all : List Measure) → Measuring env old now members before after all []
    → Measures (measured env all) (conditions_of_measure env all) old now members before after
measure_ends env old now members before after all s = record {
  grows = s.grows;
  are = s.are;
  members_are = sym (append-nil (measured_in now members)) ∙ s.members_are;
  adds = adds_as now s.added _ before after (sym (append-nil s.added) ∙ s.conditions_are) s.adds;
}
