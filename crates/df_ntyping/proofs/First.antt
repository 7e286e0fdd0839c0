-- The least fault of nodes that are in order, found from the first on: a walk that tells the first fault that it meets tells
-- the least of its stage. Nodes that are at one place with the first are the only ones that are still to be looked at.
use Rattle.std.proofs.Common.{◌≡◌, ℕ, zero, suc, ◌<◌, ◌≤◌, true, false, List, [], ◌∷◌, ◌++◌, refl, sym, subst, ◌∙◌, ◌⊎◌, inl, inr, arith}
use Rattle.std.specs.Prelude.{Contains, nat_le, nat_lt}
use Rattle.std.specs.List.{AllByRecursion}
use Rattle.std.proofs.lemmas.Bool.{leb-true}
use Rattle.std.proofs.lemmas.List.Elements.{Contains-append_left, Contains-append_right, Contains-append_cases}
use Rattle.df_base.specs.declared.refusal.Refusal.{Refusal}
use Rattle.df_ntyping.specs.Node.{Occurrence}
use Rattle.df_ntyping.specs.Rule.{Rule, stage_of, code_number, rule_number}
use Rattle.df_ntyping.specs.Breaks.{Breaks}
use Rattle.df_ntyping.specs.Laws.{AreInOrder}
use Rattle.df_ntyping.specs.Least.{Fault, IsLeast, IsFault, IsLeastBroken, Tells, IsToldIn, IsFaultIn, BreaksNoneIn, by_number, comes_before}
use Rattle.df_ntyping.proofs.LeastExists.{by_self, by_greater, three, true_not_false}

-- the least of a stage
abbrev pub IsLeastIn : ℕ → List Occurrence → Fault → Type 0
IsLeastIn stage nodes fault = IsLeast (IsFaultIn stage nodes) comes_before fault

-- both stand at one place
abbrev pub AreAtOnePlace : Fault → Fault → Type 0
AreAtOnePlace one other = (one.at.after ≡ other.at.after) × (one.at.start ≡ other.at.start)

-- ---- parts of nodes in order

all_left : {X : Type 0} (P : X → Type 0) (xs ys : List X) → AllByRecursion P (xs ++ ys) → AllByRecursion P xs
all_left P [] ys h = tt
all_left P (x ∷ xs) ys h = (h.0, all_left P xs ys h.1)

all_right : {X : Type 0} (P : X → Type 0) (xs ys : List X) → AllByRecursion P (xs ++ ys) → AllByRecursion P ys
all_right P [] ys h = h
all_right P (x ∷ xs) ys h = all_right P xs ys h.1

pub left_in_order : (xs ys : List Occurrence) → AreInOrder (xs ++ ys) → AreInOrder xs
left_in_order [] ys h = tt
left_in_order (x ∷ xs) ys h = (all_left _ xs ys h.0, left_in_order xs ys h.1)

pub right_in_order : (xs ys : List Occurrence) → AreInOrder (xs ++ ys) → AreInOrder ys
right_in_order [] ys h = h
right_in_order (x ∷ xs) ys h = right_in_order xs ys h.1

-- what holds of all holds of each
pub each_of : {X : Type 0} (P : X → Type 0) (xs : List X) (y : X) → AllByRecursion P xs → Contains xs y → P y
each_of P [] y h c = absurd (none_there c) where
  none_there : Contains [] y → ⊥
  none_there (k, p, q) = omega arith
each_of P (x ∷ xs) y h c = by_cases (λ d. each_of P xs y h.1 d) (Contains-append_cases (x ∷ []) xs y c) where
  only : Contains (x ∷ []) y → x ≡ y
  only (zero, p, q) = q
  only (suc k, p, q) = absurd (omega arith)

  by_cases : (Contains xs y → P y) → Contains (x ∷ []) y ⊎ Contains xs y → P y
  by_cases rest (inl d) = subst P (only d) h.0
  by_cases rest (inr d) = rest d

abbrev IsOrdered : Occurrence → Occurrence → Type 0
IsOrdered one other = by_number one.after other.after (nat_le other.start one.start) ≡ true

ordered_across : (xs ys : List Occurrence) (one other : Occurrence) → AreInOrder (xs ++ ys) → Contains xs one → Contains ys other → IsOrdered one other
ordered_across [] ys one other h c d = absurd (none_there c) where
  none_there : Contains [] one → ⊥
  none_there (k, p, q) = omega arith
ordered_across (x ∷ xs) ys one other h c d = by_cases (λ e. ordered_across xs ys one other h.1 e d) (Contains-append_cases (x ∷ []) xs one c) where
  only : Contains (x ∷ []) one → x ≡ one
  only (zero, p, q) = q
  only (suc k, p, q) = absurd (omega arith)

  by_cases : (Contains xs one → IsOrdered one other) → Contains (x ∷ []) one ⊎ Contains xs one → IsOrdered one other
  by_cases rest (inl e) = subst (λ (o : Occurrence). IsOrdered o other) (only e) (each_of (IsOrdered x) (xs ++ ys) other h.0 (Contains-append_right xs ys other d))
  by_cases rest (inr e) = rest e

-- ---- a fault comes before those behind it

-- unless they stand at one place, where the rules decide
pub comes_first : (one other : Fault) → IsOrdered one.at other.at → stage_of one.rule ≡ stage_of other.rule → (AreAtOnePlace other one → comes_before other one ≡ false) → comes_before other one ≡ false
comes_first one other ordered stage beside = by_place (three one.at.after other.at.after) where
  within_stage : by_number other.at.after one.at.after (by_number one.at.start other.at.start (by_number (code_number other.rule) (code_number one.rule) (nat_lt (rule_number other.rule) (rule_number one.rule)))) ≡ false → comes_before other one ≡ false
  within_stage p = rw (← stage) (by_self (stage_of one.rule) _ ∙ p)

  by_start : one.at.after ≡ other.at.after → (one.at.start < other.at.start) ⊎ ((one.at.start ≡ other.at.start) ⊎ (other.at.start < one.at.start)) → comes_before other one ≡ false
  by_start same (inl p) =
      let later : nat_le other.at.start one.at.start ≡ true = sym (by_self other.at.after _) ∙ subst (λ (x : ℕ). by_number x other.at.after (nat_le other.at.start one.at.start) ≡ true) same ordered in
      let q : other.at.start ≤ one.at.start = leb-true other.at.start one.at.start later in
      absurd (omega arith)
  by_start same (inr (inl p)) = beside (sym same, sym p)
  by_start same (inr (inr p)) = within_stage (rw same (by_self other.at.after _ ∙ by_greater one.at.start other.at.start _ p))

  by_place : (one.at.after < other.at.after) ⊎ ((one.at.after ≡ other.at.after) ⊎ (other.at.after < one.at.after)) → comes_before other one ≡ false
  by_place (inl p) = within_stage (by_greater other.at.after one.at.after _ p)
  by_place (inr (inl p)) = by_start p (three one.at.start other.at.start)
  by_place (inr (inr p)) = absurd (true_not_false _ ordered (by_greater one.at.after other.at.after _ p))

-- ---- from the first on

pub none_in_none : (stage : ℕ) → BreaksNoneIn stage []
none_in_none stage fault (((k, p, q), b), s) = omega arith

pub none_in_both : (stage : ℕ) (xs ys : List Occurrence) → BreaksNoneIn stage xs → BreaksNoneIn stage ys → BreaksNoneIn stage (xs ++ ys)
none_in_both stage xs ys h k fault ((c, b), s) = by_cases (Contains-append_cases xs ys fault.at c) where
  by_cases : Contains xs fault.at ⊎ Contains ys fault.at → ⊥
  by_cases (inl d) = h fault ((d, b), s)
  by_cases (inr d) = k fault ((d, b), s)

pub none_in_left : (stage : ℕ) (xs ys : List Occurrence) → BreaksNoneIn stage (xs ++ ys) → BreaksNoneIn stage xs
none_in_left stage xs ys h fault ((c, b), s) = h fault ((Contains-append_left xs ys fault.at c, b), s)

pub none_in_right : (stage : ℕ) (xs ys : List Occurrence) → BreaksNoneIn stage (xs ++ ys) → BreaksNoneIn stage ys
none_in_right stage xs ys h fault ((c, b), s) = h fault ((Contains-append_right xs ys fault.at c, b), s)

-- where the first nodes break nothing, the least of the rest is the least
pub least_behind : (stage : ℕ) (xs ys : List Occurrence) (fault : Fault) → BreaksNoneIn stage xs → IsLeastIn stage ys fault → IsLeastIn stage (xs ++ ys) fault
least_behind stage xs ys fault none h = record {
  broken = let ((c, b), s) = h.broken in ((Contains-append_right xs ys fault.at c, b), s);
  least = least;
} where
  least : (other : Fault) → IsFaultIn stage (xs ++ ys) other → comes_before other fault ≡ false
  least other ((c, b), s) = by_cases (Contains-append_cases xs ys other.at c) where
    by_cases : Contains xs other.at ⊎ Contains ys other.at → comes_before other fault ≡ false
    by_cases (inl d) = absurd (none other ((d, b), s))
    by_cases (inr d) = h.least other ((d, b), s)

-- the least of the first nodes is the least of all, unless a node behind them stands at its place and breaks a lower rule
pub least_before : (stage : ℕ) (xs ys : List Occurrence) (fault : Fault) → AreInOrder (xs ++ ys) → IsLeastIn stage xs fault
    → ((other : Fault) → IsFaultIn stage ys other → AreAtOnePlace other fault → comes_before other fault ≡ false) → IsLeastIn stage (xs ++ ys) fault
least_before stage xs ys fault ordered h beside = record {
  broken = let ((c, b), s) = h.broken in ((Contains-append_left xs ys fault.at c, b), s);
  least = least;
} where
  least : (other : Fault) → IsFaultIn stage (xs ++ ys) other → comes_before other fault ≡ false
  least other ((c, b), s) = by_cases (Contains-append_cases xs ys other.at c) where
    by_cases : Contains xs other.at ⊎ Contains ys other.at → comes_before other fault ≡ false
    by_cases (inl d) = h.least other ((d, b), s)
    by_cases (inr d) =
        let ((e, p), q) = h.broken in
        comes_first fault other (ordered_across xs ys fault.at other.at ordered e d) (q ∙ sym s) (beside other ((d, b), s))

-- of one node it is the lowest rule
pub least_at : (stage : ℕ) (one : Occurrence) (rule : Rule) → Breaks one.env one.node rule → stage_of rule ≡ stage
    → ((other : Rule) → Breaks one.env one.node other → stage_of other ≡ stage → comes_before (record { at = one; rule = other }) (record { at = one; rule = rule }) ≡ false)
    → IsLeastIn stage (one ∷ []) (record { at = one; rule = rule })
least_at stage one rule broken of_stage lowest = record { broken = (((0, omega arith, refl), broken), of_stage); least = least } where
  only : (other : Occurrence) → Contains (one ∷ []) other → one ≡ other
  only other (zero, p, q) = q
  only other (suc k, p, q) = absurd (omega arith)

  least : (other : Fault) → IsFaultIn stage (one ∷ []) other → comes_before other (record { at = one; rule = rule }) ≡ false
  least other ((c, b), s) =
      let same : one ≡ other.at = only other.at c in
      subst (λ (at : Occurrence). comes_before (record { at = at; rule = other.rule }) (record { at = one; rule = rule }) ≡ false) same
      (lowest other.rule (subst (λ (at : Occurrence). Breaks at.env at.node other.rule) (sym same) b) s)

-- ---- stages

-- where nothing of an earlier stage is broken, the least of a stage is the least of all
pub least_of_all : (stage : ℕ) (nodes : List Occurrence) (fault : Fault) → IsLeastIn stage nodes fault → ((other : Fault) → IsFault nodes other → stage ≤ stage_of other.rule) → IsLeastBroken nodes fault
least_of_all stage nodes fault h earliest = record { broken = h.broken.0; least = least } where
  least : (other : Fault) → IsFault nodes other → comes_before other fault ≡ false
  least other broken = by_stage (three stage (stage_of other.rule)) where
    by_stage : (stage < stage_of other.rule) ⊎ ((stage ≡ stage_of other.rule) ⊎ (stage_of other.rule < stage)) → comes_before other fault ≡ false
    by_stage (inl p) = by_greater (stage_of other.rule) (stage_of fault.rule) _ (omega (arith, h.broken.1))
    by_stage (inr (inl p)) = h.least other (broken, sym p)
    by_stage (inr (inr p)) = let q = earliest other broken in absurd (omega arith)

-- a refusal that tells the least of a stage is told, where nothing of an earlier stage is broken
pub told_in : (stage : ℕ) (nodes : List Occurrence) (fault : Fault) (refusal : Refusal) → IsLeastIn stage nodes fault → ((other : Fault) → IsFault nodes other → stage ≤ stage_of other.rule) → Tells fault refusal → IsToldIn stage nodes refusal
told_in stage nodes fault refusal h earliest tells = (record { fault = fault; least = least_of_all stage nodes fault h earliest; tells = tells }, h.broken.1)
