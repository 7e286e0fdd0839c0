-- The first fault of nodes, told as one of the walk.
use Rattle.std.proofs.Common.{◌≡◌, ℕ, ◌<◌, ◌≤◌, Bool, true, false, List, [], ◌∷◌, ◌++◌, Some, refl, subst, ◌⊎◌, inl, inr, arith}
use Rattle.std.specs.Prelude.{Contains}
use Rattle.std.proofs.lemmas.Bool.{cases_lt}
use Rattle.std.proofs.lemmas.List.Elements.{Contains-append_cases}
use Rattle.df_base.specs.declared.pos.Pos.{Pos}
use Rattle.df_ntyping.specs.Node.{Occurrence, node_pos}
use Rattle.df_ntyping.specs.Rule.{Typing}
use Rattle.df_ntyping.specs.Breaks.{breaks}
use Rattle.df_ntyping.specs.Least.{Fault}
use Rattle.df_ntyping.proofs.Order.{Segment, lies_within}
use Rattle.df_ntyping.specs.Rule.{TypingRule as Own}
use Rattle.df_ntyping.specs.mirror.Parts.{Breach}
use Rattle.df_ntyping.specs.mirror.Parts.{breach}
use Rattle.df_ntyping.proofs.FirstFault.{Silent, Only, IsFirst, IsBehind, is_lower, first_one, first_later, first_ahead, first_or_rest, none_there}
use Rattle.df_ntyping.specs.Rule.{stage_of}

-- where a fault stands in the whole
abbrev pub Stands : Bool → ℕ → ℕ → Occurrence → Type 0
Stands true low high at = (at.start ≡ low) × (at.after ≡ high)
Stands false low high at = (low ≤ at.start) × (at.after ≤ high) × ((low < at.start) ⊎ (at.after < high))

pub record Found (nodes : List Occurrence) (low high : ℕ) (broken : Breach) : Type 0 where
  pub fault : Fault
  pub first : IsFirst nodes fault
  pub rule : fault.rule ≡ Typing broken.rule
  pub pos : node_pos fault.at.node ≡ Some broken.pos
  pub place : Stands broken.is_whole low high fault.at

-- ---- nodes behind a part

-- it ends behind the part, or with it and begins earlier
abbrev pub Beyond : ℕ → ℕ → Occurrence → Type 0
Beyond low high one = (high < one.after) ⊎ ((high ≤ one.after) × (one.start < low))

pub record AllBeyond (low high : ℕ) (nodes : List Occurrence) : Type 0 where
  pub each : (one : Occurrence) → Contains nodes one → Beyond low high one

pub beyond_none : (low high : ℕ) → AllBeyond low high []
beyond_none low high = record { each = λ one h. absurd (none_there one h) }

pub beyond_one : (low high : ℕ) (one : Occurrence) → Beyond low high one → AllBeyond low high (one ∷ [])
beyond_one low high one h = record { each = λ other k. by_cases other (first_or_rest one [] other k) } where
  by_cases : (other : Occurrence) → (one ≡ other) ⊎ Contains [] other → Beyond low high other
  by_cases other (inl p) = subst (λ (x : Occurrence). Beyond low high x) p h
  by_cases other (inr p) = absurd (none_there other p)

pub beyond_both : (low high : ℕ) (xs ys : List Occurrence) → AllBeyond low high xs → AllBeyond low high ys → AllBeyond low high (xs ++ ys)
beyond_both low high xs ys h k = record { each = λ other l. by_cases other (Contains-append_cases xs ys other l) } where
  by_cases : (other : Occurrence) → Contains xs other ⊎ Contains ys other → Beyond low high other
  by_cases other (inl p) = h.each other p
  by_cases other (inr p) = k.each other p

pub beyond_then : (low high : ℕ) (one : Occurrence) (xs : List Occurrence) → Beyond low high one → AllBeyond low high xs → AllBeyond low high (one ∷ xs)
beyond_then low high one xs h k = beyond_both low high (one ∷ []) xs (beyond_one low high one h) k

pub beyond_segment : (low high begin above after : ℕ) (xs : List Occurrence) → Segment begin above after xs → high ≤ above → AllBeyond low high xs
beyond_segment low high begin above after xs h p = record { each = λ other k. let within = lies_within begin above after xs h other k in let q : above < other.after = within.behind in inl (omega arith) }

behind_it : (low high : ℕ) (at one : Occurrence) → low ≤ at.start → at.after ≤ high → Beyond low high one → IsBehind at one
behind_it low high at one p q (inl r) = inl (omega arith)
behind_it low high at one p q (inr (r, s)) = by_cases (cases_lt at.after one.after) where
  by_cases : (at.after < one.after) ⊎ (one.after ≤ at.after) → IsBehind at one
  by_cases (inl t) = inl t
  by_cases (inr t) = inr (omega arith, omega arith)

-- what is behind a part changes nothing
pub first_in_part : (low above high : ℕ) (xs ys : List Occurrence) (fault : Fault) → IsFirst xs fault → Segment low above high xs → AllBeyond low high ys → IsFirst (xs ++ ys) fault
first_in_part low above high xs ys fault h s b =
    let within = lies_within low above high xs s fault.at h.is.broken.0.0 in
    first_ahead xs ys fault h (λ other k. behind_it low high fault.at other within.begins within.ends (b.each other k))

-- ---- a part of a whole

pub found_in_part : (low high begin above after l h : ℕ) (xs all : List Occurrence) (broken : Breach) (found : Found xs l h broken) → IsFirst all found.fault → Segment begin above after xs
    → low ≤ begin → after ≤ high → (low < begin) ⊎ (after < high) → Found all low high (breach broken.rule broken.pos false)
found_in_part low high begin above after l h xs all broken found first s p q r =
    let within = lies_within begin above after xs s found.fault.at found.first.is.broken.0.0 in
    let a : begin ≤ found.fault.at.start = within.begins in
    let b : found.fault.at.after ≤ after = within.ends in
    record { fault = found.fault; first = first; rule = found.rule; pos = found.pos; place = (omega arith, omega arith, outside a b r) } where
      outside : begin ≤ found.fault.at.start → found.fault.at.after ≤ after → (low < begin) ⊎ (after < high) → (low < found.fault.at.start) ⊎ (found.fault.at.after < high)
      outside a b (inl c) = inl (omega arith)
      outside a b (inr c) = inr (omega arith)

-- with nodes before and behind
pub found_between : (low high begin above after l h : ℕ) (before xs behind : List Occurrence) (broken : Breach) → Silent before → Found xs l h broken → Segment begin above after xs → AllBeyond begin after behind
    → low ≤ begin → after ≤ high → (low < begin) ⊎ (after < high) → Found (before ++ (xs ++ behind)) low high (breach broken.rule broken.pos false)
found_between low high begin above after l h before xs behind broken silent found s b p q r =
    found_in_part low high begin above after l h xs (before ++ (xs ++ behind)) broken found
    (first_later before (xs ++ behind) found.fault silent (first_in_part begin above after xs behind found.fault found.first s b)) s p q r

-- what is found stays found where more is silent before it, or beyond the whole
pub found_later : (low high : ℕ) (before xs : List Occurrence) (broken : Breach) → Silent before → Found xs low high broken → Found (before ++ xs) low high broken
found_later low high before xs broken silent found = record { fault = found.fault; first = first_later before xs found.fault silent found.first; rule = found.rule; pos = found.pos; place = found.place }

pub found_before : (low high begin above after : ℕ) (xs behind : List Occurrence) (broken : Breach) → Found xs low high broken → Segment begin above after xs → AllBeyond begin after behind → Found (xs ++ behind) low high broken
found_before low high begin above after xs behind broken found s b =
    record { fault = found.fault; first = first_in_part begin above after xs behind found.fault found.first s b; rule = found.rule; pos = found.pos; place = found.place }

-- one node that breaks a rule
pub found_one : (low high : ℕ) (one : Occurrence) (rule : Own) (pos : Pos) (is_whole : Bool) → breaks one.env one.node (Typing rule) ≡ true
    → Only one (λ other. stage_of other ≡ 1 → is_lower other (Typing rule) ≡ false) → node_pos one.node ≡ Some pos → Stands is_whole low high one → Found (one ∷ []) low high (breach rule pos is_whole)
found_one low high one rule pos is_whole p only q s =
    record { fault = record { at = one; rule = Typing rule }; first = first_one one rule p only; rule = refl; pos = q; place = s }
