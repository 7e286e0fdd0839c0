-- At most one use without a value is told of a program.
use Rattle.std.proofs.Common.{◌≡◌, ℕ, ◌<◌, Bool, false, sym, ◌∙◌, ap, subst, ◌⊎◌, inl, inr}
use Rattle.std.specs.Prelude.{nat_lt}
use Rattle.std.proofs.lemmas.Bool.{lt-ltb}
use Rattle.df_base.specs.declared.refusal.Detail.TheVariants as details
use Rattle.df_ntyping.specs.Laws.{OneMissingTold}
use Rattle.df_ntyping.specs.Least.{by_number}
use Rattle.df_ntyping.specs.Unassigned.{Missing, end_number, comes_before}
use Rattle.df_ntyping.proofs.LeastExists.{true_not_false, by_self, by_less, three}

pub by_equal : (a b : ℕ) (r s : Bool) → by_number a b r ≡ false → by_number b a s ≡ false → (a ≡ b) × (r ≡ false) × (s ≡ false)
by_equal a b r s p q = by_cases (three a b) where
  by_cases : (a < b) ⊎ ((a ≡ b) ⊎ (b < a)) → (a ≡ b) × (r ≡ false) × (s ≡ false)
  by_cases (inl x) = absurd (true_not_false (by_number a b r) (by_less a b r x) p)
  by_cases (inr (inl x)) = (x, sym (by_self b r) ∙ subst (λ (z : ℕ). by_number z b r ≡ false) x p, sym (by_self b s) ∙ subst (λ (z : ℕ). by_number b z s ≡ false) x q)
  by_cases (inr (inr x)) = absurd (true_not_false (by_number b a s) (by_less b a s x) q)

pub less_equal : (a b : ℕ) → nat_lt a b ≡ false → nat_lt b a ≡ false → a ≡ b
less_equal a b p q = by_cases (three a b) where
  by_cases : (a < b) ⊎ ((a ≡ b) ⊎ (b < a)) → a ≡ b
  by_cases (inl x) = absurd (true_not_false (nat_lt a b) (lt-ltb a b x) p)
  by_cases (inr (inl x)) = x
  by_cases (inr (inr x)) = absurd (true_not_false (nat_lt b a) (lt-ltb b a x) q)

-- ---- what decides behind the place, the end, ..

abbrev by_name : Missing → Missing → Bool
by_name one other = nat_lt one.of.name other.of.name

abbrev by_local : Missing → Missing → Bool
by_local one other = by_number one.of.local other.of.local (by_name one other)

abbrev by_column : Missing → Missing → Bool
by_column one other = by_number one.of.pos.col other.of.pos.col (by_local one other)

abbrev by_line : Missing → Missing → Bool
by_line one other = by_number one.of.pos.line other.of.pos.line (by_column one other)

abbrev by_end : Missing → Missing → Bool
by_end one other = by_number (end_number one.at_end) (end_number other.at_end) (by_line one other)

-- neither comes before the other
same_use : (one other : Missing) → comes_before one other ≡ false → comes_before other one ≡ false → (one.of.pos ≡ other.of.pos) × (one.of.name ≡ other.of.name)
same_use one other p q =
    let (method, p1, q1) = by_equal one.method other.method (by_end one other) (by_end other one) p q in
    let (at_end, p2, q2) = by_equal (end_number one.at_end) (end_number other.at_end) (by_line one other) (by_line other one) p1 q1 in
    let (line, p3, q3) = by_equal one.of.pos.line other.of.pos.line (by_column one other) (by_column other one) p2 q2 in
    let (col, p4, q4) = by_equal one.of.pos.col other.of.pos.col (by_local one other) (by_local other one) p3 q3 in
    let (number, p5, q5) = by_equal one.of.local other.of.local (by_name one other) (by_name other one) p4 q4 in
    (λ i. record { line = line i; col = col i }, less_equal one.of.name other.of.name p5 q5)

pub one_missing_told : OneMissingTold
one_missing_told program first second told other =
    let same = same_use told.missing other.missing (other.least.least told.missing told.least.broken) (told.least.least other.missing other.least.broken) in
    let code = told.code ∙ sym other.code in
    let pos = told.pos ∙ same.0 ∙ sym other.pos in
    let detail = told.detail ∙ ap details.Word same.1 ∙ sym other.detail in
    λ i. record { code = code i; pos = pos i; detail = detail i }
