-- Where a rule is broken, a least one is.
use Rattle.std.proofs.Common.{◌≡◌, ℕ, zero, suc, ◌<◌, ◌≤◌, Bool, true, false, List, [], ◌∷◌, refl, sym, ◌∙◌, subst, ◌⊎◌, inl, inr, arith}
use Rattle.std.specs.Prelude.{Contains, nat_lt, ◌==◌}
use Rattle.std.proofs.lemmas.Bool.{ltb-true, ltb-false, lt-ltb, cases_lt}
use Rattle.std.proofs.Math.Nat.{eq-or-lt_of_le}
use Rattle.df_lemmas.proofs.Numbers.{equal_self, more_unequal}
use Rattle.df_ntyping.specs.Node.{Occurrence}
use Rattle.df_ntyping.specs.Rule.{Rule, Unknown, Twice, Typing, Uninferred, Range, Given, Arithmetic, Order, Equality, Direction, Truths, ArgumentCount, Calls, Casts, Assigned, Returned, Broken, Clauses, stage_of, code_number, rule_number}
use Rattle.df_ntyping.specs.Breaks.{breaks}
use Rattle.df_ntyping.specs.Laws.{LeastExists}
use Rattle.df_ntyping.specs.Least.{Fault, IsLeast, IsFault, IsLeastBroken, by_number, comes_before}

-- ---- orders

pub not_true : (b : Bool) → (b ≡ true → ⊥) → b ≡ false
not_true true h = absurd (h refl)
not_true false h = refl

pub true_not_false : (b : Bool) → b ≡ true → b ≡ false → ⊥
true_not_false b p q = let same : true ≡ false = sym p ∙ q in cc

pub less_asym : (a b : ℕ) → nat_lt a b ≡ true → nat_lt b a ≡ false
less_asym a b p = not_true (nat_lt b a) (λ q. let x : a < b = ltb-true a b p in let y : b < a = ltb-true b a q in omega arith)

pub less_neg : (a b c : ℕ) → nat_lt a b ≡ false → nat_lt b c ≡ false → nat_lt a c ≡ false
less_neg a b c p q = not_true (nat_lt a c) (λ r. let x : b ≤ a = ltb-false a b p in let y : c ≤ b = ltb-false b c q in let z : a < c = ltb-true a c r in omega arith)

pub by_self : (a : ℕ) (r : Bool) → by_number a a r ≡ r
by_self a r = rw (less_self, equal_self a) refl where
  less_self : nat_lt a a ≡ false
  less_self = not_true (nat_lt a a) (λ q. let x : a < a = ltb-true a a q in omega arith)

pub by_greater : (a b : ℕ) (r : Bool) → b < a → by_number a b r ≡ false
by_greater a b r p = rw (not_less, not_equal) refl where
  not_less : nat_lt a b ≡ false
  not_less = not_true (nat_lt a b) (λ q. let x : a < b = ltb-true a b q in omega arith)

  not_equal : (a == b) ≡ false
  not_equal = more_unequal a b p

pub by_less : (a b : ℕ) (r : Bool) → a < b → by_number a b r ≡ true
by_less a b r p = rw (lt-ltb a b p) refl

-- a and b are in one of three orders
pub three : (a b : ℕ) → (a < b) ⊎ ((a ≡ b) ⊎ (b < a))
three a b = by_one (cases_lt a b) where
  by_two : b ≤ a → (b ≡ a) ⊎ (b < a) → (a < b) ⊎ ((a ≡ b) ⊎ (b < a))
  by_two h (inl p) = inr (inl (sym p))
  by_two h (inr p) = inr (inr p)

  by_one : (a < b) ⊎ (b ≤ a) → (a < b) ⊎ ((a ≡ b) ⊎ (b < a))
  by_one (inl p) = inl p
  by_one (inr p) = by_two p (eq-or-lt_of_le p)

pub by_asym : (a b : ℕ) (r s : Bool) → (r ≡ true → s ≡ false) → by_number a b r ≡ true → by_number b a s ≡ false
by_asym a b r s h p = by_cases (three a b) where
  by_cases : (a < b) ⊎ ((a ≡ b) ⊎ (b < a)) → by_number b a s ≡ false
  by_cases (inl q) = by_greater b a s q
  by_cases (inr (inl q)) = rw (← q) (by_self a s ∙ h (sym (by_self a r) ∙ subst (λ (x : ℕ). by_number a x r ≡ true) (sym q) p))
  by_cases (inr (inr q)) = absurd (true_not_false (by_number a b r) p (by_greater a b r q))

pub by_neg : (a b c : ℕ) (r s t : Bool) → (r ≡ false → s ≡ false → t ≡ false) → by_number a b r ≡ false → by_number b c s ≡ false → by_number a c t ≡ false
by_neg a b c r s t h p q = by_cases (three a b) (three b c) where
  by_cases : (a < b) ⊎ ((a ≡ b) ⊎ (b < a)) → (b < c) ⊎ ((b ≡ c) ⊎ (c < b)) → by_number a c t ≡ false
  by_cases (inl x) y = absurd (true_not_false (by_number a b r) (by_less a b r x) p)
  by_cases (inr x) (inl y) = absurd (true_not_false (by_number b c s) (by_less b c s y) q)
  by_cases (inr (inr x)) (inr (inr y)) = by_greater a c t (omega arith)
  by_cases (inr (inr x)) (inr (inl y)) = by_greater a c t (omega (arith, y))
  by_cases (inr (inl x)) (inr (inr y)) = by_greater a c t (omega (arith, x))
  by_cases (inr (inl x)) (inr (inl y)) =
      rw (x, y) (by_self c t ∙ h (sym (by_self b r) ∙ subst (λ (z : ℕ). by_number z b r ≡ false) x p) (sym (by_self b s) ∙ subst (λ (z : ℕ). by_number b z s ≡ false) (sym y) q))

asym : (f g : Fault) → comes_before f g ≡ true → comes_before g f ≡ false
asym f g =
    by_asym (stage_of f.rule) (stage_of g.rule) _ _ (by_asym f.at.after g.at.after _ _ (by_asym g.at.start f.at.start _ _ (by_asym (code_number f.rule) (code_number g.rule) _ _ (less_asym (rule_number f.rule) (rule_number g.rule)))))

pub neg : (f g h : Fault) → comes_before f g ≡ false → comes_before g h ≡ false → comes_before f h ≡ false
neg f g h =
    by_neg (stage_of f.rule) (stage_of g.rule) (stage_of h.rule) _ _ _ (by_neg f.at.after g.at.after h.at.after _ _ _ (starts (by_neg (code_number f.rule) (code_number g.rule) (code_number h.rule) _ _ _ (less_neg (rule_number f.rule) (rule_number g.rule) (rule_number h.rule))))) where
      starts : {r s t : Bool} → (r ≡ false → s ≡ false → t ≡ false) → by_number g.at.start f.at.start r ≡ false → by_number h.at.start g.at.start s ≡ false → by_number h.at.start f.at.start t ≡ false
      starts {r} {s} {t} k p q = by_neg h.at.start g.at.start f.at.start s r t (λ a b. k b a) q p

pub irreflexive : (f : Fault) → comes_before f f ≡ false
irreflexive f = not_true (comes_before f f) (λ p. true_not_false (comes_before f f) p (asym f f p))

-- ---- none or a least

Outcome : (Fault → Type 0) → Type 0
Outcome P = ((f : Fault) → P f → ⊥) ⊎ ((m : Fault) × IsLeast P comes_before m)

none_in : {A B : Type 0} → (A → ⊥) → (B → ⊥) → A ⊎ B → ⊥
none_in np nq (inl h) = np h
none_in np nq (inr h) = nq h

either : {A B : Type 0} (C : Type 0) → (A → C) → (B → C) → A ⊎ B → C
either C f g (inl h) = f h
either C f g (inr h) = g h

least_of_two : (P Q R : Fault → Type 0) → ((f : Fault) → P f → R f) → ((f : Fault) → Q f → R f) → ((f : Fault) → R f → P f ⊎ Q f) → (m n : Fault) → IsLeast P comes_before m → IsLeast Q comes_before n
    → (b : Bool) → comes_before n m ≡ b → (k : Fault) × IsLeast R comes_before k
least_of_two P Q R to from part m n lm ln true p =
    (n, record { broken = from n ln.broken; least = λ f h. either (comes_before f n ≡ false) (λ q. neg f m n (lm.least f q) (asym n m p)) (λ q. ln.least f q) (part f h) })
least_of_two P Q R to from part m n lm ln false p =
    (m, record { broken = to m lm.broken; least = λ f h. either (comes_before f m ≡ false) (λ q. lm.least f q) (λ q. neg f n m (ln.least f q) p) (part f h) })

union : (P Q R : Fault → Type 0) → ((f : Fault) → P f → R f) → ((f : Fault) → Q f → R f) → ((f : Fault) → R f → P f ⊎ Q f) → Outcome P → Outcome Q → Outcome R
unfolding Outcome
union P Q R to from part (inl np) (inl nq) = inl (λ f h. none_in (np f) (nq f) (part f h))
union P Q R to from part (inl np) (inr (n, ln)) =
    inr (n, record { broken = from n ln.broken; least = λ f h. either (comes_before f n ≡ false) (λ q. absurd (np f q)) (λ q. ln.least f q) (part f h) })
union P Q R to from part (inr (m, lm)) (inl nq) =
    inr (m, record { broken = to m lm.broken; least = λ f h. either (comes_before f m ≡ false) (λ q. lm.least f q) (λ q. absurd (nq f q)) (part f h) })
union P Q R to from part (inr (m, lm)) (inr (n, ln)) = inr (least_of_two P Q R to from part m n lm ln (comes_before n m) refl)

-- ---- one rule at a node, some rules, and all nodes

AtRule : Occurrence → Rule → Fault → Type 0
AtRule one rule f = (f.at ≡ one) × (f.rule ≡ rule) × (breaks f.at.env f.at.node f.rule ≡ true)

AtRules : Occurrence → List Rule → Fault → Type 0
AtRules one rules f = (f.at ≡ one) × Contains rules f.rule × (breaks f.at.env f.at.node f.rule ≡ true)

at_rule : (one : Occurrence) (rule : Rule) (b : Bool) → breaks one.env one.node rule ≡ b → Outcome (AtRule one rule)
unfolding Outcome AtRule
at_rule one rule true p = inr (record { at = one; rule = rule }, record { broken = (refl, refl, p); least = λ f h. rw (h.0, h.1) (irreflexive (record { at = one; rule = rule })) })
at_rule one rule false p = inl (λ f h. true_not_false (breaks one.env one.node rule) (rw (h.0, h.1) at h.2) p)

pub first_or_rest : {X : Type 0} (x : X) (xs : List X) (y : X) → Contains (x ∷ xs) y → (x ≡ y) ⊎ Contains xs y
first_or_rest x xs y (zero, p, q) = inl q
first_or_rest x xs y (suc k, p, q) = inr (k, omega arith, q)

pub is_first : {X : Type 0} (x : X) (xs : List X) → Contains (x ∷ xs) x
is_first x xs = (zero, omega arith, refl)

pub is_later : {X : Type 0} (x : X) (xs : List X) (y : X) → Contains xs y → Contains (x ∷ xs) y
is_later x xs y (k, p, q) = (suc k, omega arith, q)

at_rules : (one : Occurrence) (rules : List Rule) → Outcome (AtRules one rules)
unfolding Outcome AtRules AtRule
at_rules one [] = inl (λ f h. let (k, p, q) = h.1 in absurd (omega arith))
at_rules one (rule ∷ others) =
    union (AtRule one rule) (AtRules one others) (AtRules one (rule ∷ others))
    (λ f h. (h.0, subst (λ (r : Rule). Contains (rule ∷ others) r) (sym h.1) (is_first rule others), h.2))
    (λ f h. (h.0, is_later rule others f.rule h.1, h.2))
    (λ f h. either (AtRule one rule f ⊎ AtRules one others f) (λ q. inl (h.0, sym q, h.2)) (λ q. inr (h.0, q, h.2)) (first_or_rest rule others f.rule h.1))
    (at_rule one rule (breaks one.env one.node rule) refl) (at_rules one others)

all_rules : List Rule
all_rules = Unknown ∷ Twice ∷ Typing Given ∷ Typing Arithmetic ∷ Typing Order ∷ Typing Equality ∷ Typing Direction ∷ Typing Truths ∷ Typing ArgumentCount ∷ Typing Calls
    ∷ Typing Casts ∷ Typing Assigned ∷ Typing Returned ∷ Typing Broken ∷ Typing Clauses ∷ Uninferred ∷ Range ∷ []

any_rule : (rule : Rule) → Contains all_rules rule
unfolding all_rules
any_rule Unknown = (0, omega arith, refl)
any_rule Twice = (1, omega arith, refl)
any_rule (Typing Given) = (2, omega arith, refl)
any_rule (Typing Arithmetic) = (3, omega arith, refl)
any_rule (Typing Order) = (4, omega arith, refl)
any_rule (Typing Equality) = (5, omega arith, refl)
any_rule (Typing Direction) = (6, omega arith, refl)
any_rule (Typing Truths) = (7, omega arith, refl)
any_rule (Typing ArgumentCount) = (8, omega arith, refl)
any_rule (Typing Calls) = (9, omega arith, refl)
any_rule (Typing Casts) = (10, omega arith, refl)
any_rule (Typing Assigned) = (11, omega arith, refl)
any_rule (Typing Returned) = (12, omega arith, refl)
any_rule (Typing Broken) = (13, omega arith, refl)
any_rule (Typing Clauses) = (14, omega arith, refl)
any_rule Uninferred = (15, omega arith, refl)
any_rule Range = (16, omega arith, refl)

in_nodes : (nodes : List Occurrence) → Outcome (IsFault nodes)
unfolding Outcome AtRules
in_nodes [] = inl (λ f h. let (k, p, q) = h.0 in absurd (omega arith))
in_nodes (one ∷ others) =
    union (AtRules one all_rules) (IsFault others) (IsFault (one ∷ others))
    (λ f h. (subst (λ (o : Occurrence). Contains (one ∷ others) o) (sym h.0) (is_first one others), h.2))
    (λ f h. (is_later one others f.at h.0, h.1))
    (λ f h. either (AtRules one all_rules f ⊎ IsFault others f) (λ q. inl (sym q, any_rule f.rule, h.1)) (λ q. inr (q, h.1)) (first_or_rest one others f.at h.0))
    (at_rules one all_rules) (in_nodes others)

pub least_exists : LeastExists
unfolding Outcome
least_exists nodes fault h = by_cases (in_nodes nodes) where
  by_cases : ((f : Fault) → IsFault nodes f → ⊥) ⊎ ((m : Fault) × IsLeast (IsFault nodes) comes_before m) → (told : Fault) × IsLeastBroken nodes told
  by_cases (inl none) = absurd (none fault h)
  by_cases (inr least) = least
