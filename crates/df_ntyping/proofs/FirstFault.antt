-- Nodes that break nothing, and the first fault of typing among nodes.
use Rattle.std.proofs.Common.{◌≡◌, ℕ, zero, suc, ◌<◌, Bool, true, false, List, [], ◌∷◌, ◌++◌, refl, sym, ◌∙◌, subst, ◌⊎◌, inl, inr, arith}
use Rattle.std.specs.Prelude.{Contains, nat_lt}
use Rattle.std.proofs.lemmas.Bool.{ltb-true}
use Rattle.std.proofs.lemmas.List.Elements.{Contains-append_left, Contains-append_cases}
use Rattle.df_ntyping.specs.Node.{Occurrence}
use Rattle.df_ntyping.specs.Rule.{Rule, Typing, TypingRule, stage_of, code_number, rule_number}
use Rattle.df_ntyping.specs.Breaks.{breaks}
use Rattle.df_ntyping.specs.Least.{Fault, IsFault, IsFaultIn, BreaksNoneIn, by_number, comes_before}
use Rattle.df_ntyping.proofs.LeastExists.{by_self, by_greater}
use Rattle.df_ntyping.proofs.First.{IsLeastIn, none_in_left, none_in_right, none_in_both, least_behind, least_at}

-- ---- nodes that break nothing

pub record Silent (nodes : List Occurrence) : Type 0 where
  pub none : (fault : Fault) → IsFault nodes fault → ⊥

-- all names in them have meanings
pub record NoNames (nodes : List Occurrence) : Type 0 where
  pub none : BreaksNoneIn 0 nodes

-- what the rules are that may be broken at the node
abbrev pub Only : Occurrence → (Rule → Type 0) → Type 0
Only one P = (rule : Rule) → breaks one.env one.node rule ≡ true → P rule

pub none_there : {X : Type 0} (x : X) → Contains [] x → ⊥
none_there x (k, p, q) = absurd (omega arith)

pub first_or_rest : {X : Type 0} (x : X) (xs : List X) (y : X) → Contains (x ∷ xs) y → (x ≡ y) ⊎ Contains xs y
first_or_rest x xs y (zero, p, q) = inl q
first_or_rest x xs y (suc k, p, q) = inr (k, omega arith, q)

pub is_first : {X : Type 0} (x : X) (xs : List X) → Contains (x ∷ xs) x
is_first x xs = (zero, omega arith, refl)

pub silent_none : Silent []
silent_none = record { none = λ fault h. none_there fault.at h.0 }

at_one : (one : Occurrence) (fault : Fault) → (one ≡ fault.at) ⊎ Contains [] fault.at → one ≡ fault.at
at_one one fault (inl p) = p
at_one one fault (inr p) = absurd (none_there fault.at p)

broken_at : (one at : Occurrence) (rule : Rule) → one ≡ at → breaks at.env at.node rule ≡ true → breaks one.env one.node rule ≡ true
broken_at one at rule p h = subst (λ (x : Occurrence). breaks x.env x.node rule ≡ true) (sym p) h

pub silent_one : (one : Occurrence) → Only one (λ rule. ⊥) → Silent (one ∷ [])
silent_one one only = record { none = λ fault h. only fault.rule (broken_at one fault.at fault.rule (at_one one fault (first_or_rest one [] fault.at h.0)) h.1) }

pub silent_both : (xs ys : List Occurrence) → Silent xs → Silent ys → Silent (xs ++ ys)
silent_both xs ys p q = record { none = λ fault h. by_cases fault h (Contains-append_cases xs ys fault.at h.0) } where
  by_cases : (fault : Fault) → IsFault (xs ++ ys) fault → Contains xs fault.at ⊎ Contains ys fault.at → ⊥
  by_cases fault h (inl a) = p.none fault (a, h.1)
  by_cases fault h (inr a) = q.none fault (a, h.1)

pub silent_then : (one : Occurrence) (xs : List Occurrence) → Only one (λ rule. ⊥) → Silent xs → Silent (one ∷ xs)
silent_then one xs p q = silent_both (one ∷ []) xs (silent_one one p) q

pub silent_left : (xs ys : List Occurrence) → Silent (xs ++ ys) → Silent xs
silent_left xs ys p = record { none = λ fault h. p.none fault (Contains-append_left xs ys fault.at h.0, h.1) }

pub named_left : (xs ys : List Occurrence) → NoNames (xs ++ ys) → NoNames xs
named_left xs ys p = record { none = none_in_left 0 xs ys p.none }

pub named_right : (xs ys : List Occurrence) → NoNames (xs ++ ys) → NoNames ys
named_right xs ys p = record { none = none_in_right 0 xs ys p.none }

pub named_both : (xs ys : List Occurrence) → NoNames xs → NoNames ys → NoNames (xs ++ ys)
named_both xs ys p q = record { none = none_in_both 0 xs ys p.none q.none }

pub named_one : (one : Occurrence) → Only one (λ rule. stage_of rule ≡ 0 → ⊥) → NoNames (one ∷ [])
named_one one only = record { none = λ fault h. only fault.rule (broken_at one fault.at fault.rule (at_one one fault (first_or_rest one [] fault.at h.0.0)) h.0.1) h.1 }

pub named_here : (one : Occurrence) (xs : List Occurrence) (rule : Rule) → NoNames (one ∷ xs) → stage_of rule ≡ 0 → breaks one.env one.node rule ≡ false
named_here one xs rule p q = by_cases (breaks one.env one.node rule) refl where
  by_cases : (b : Bool) → breaks one.env one.node rule ≡ b → breaks one.env one.node rule ≡ false
  by_cases true h = absurd (p.none (record { at = one; rule = rule }) ((is_first one xs, h), q))
  by_cases false h = h

-- ---- the first fault

pub record IsFirst (nodes : List Occurrence) (fault : Fault) : Type 0 where
  pub is : IsLeastIn 1 nodes fault

-- of two rules that are broken at one place
abbrev pub is_lower : Rule → Rule → Bool
is_lower one other = by_number (code_number one) (code_number other) (nat_lt (rule_number one) (rule_number other))

pub at_one_place : (one other : Fault) → stage_of one.rule ≡ stage_of other.rule → one.at.after ≡ other.at.after → one.at.start ≡ other.at.start → comes_before one other ≡ is_lower one.rule other.rule
at_one_place one other p q r =
    rw (p, q, r)
    (by_self (stage_of other.rule) _ ∙ by_self other.at.after _ ∙ by_self other.at.start _)

less_self : (n : ℕ) → nat_lt n n ≡ false
less_self n = by_cases (nat_lt n n) refl where
  by_cases : (b : Bool) → nat_lt n n ≡ b → nat_lt n n ≡ false
  by_cases true h = let x : n < n = ltb-true n n h in absurd (omega arith)
  by_cases false h = h

pub lower_self : (rule : Rule) → is_lower rule rule ≡ false
lower_self rule = by_self (code_number rule) _ ∙ less_self (rule_number rule)

-- it ends before the other, or with it and begins later
abbrev pub IsBehind : Occurrence → Occurrence → Type 0
IsBehind one other = (one.after < other.after) ⊎ ((one.after ≡ other.after) × (other.start < one.start))

pub comes_behind : (one other : Fault) → stage_of one.rule ≡ stage_of other.rule → IsBehind one.at other.at → comes_before other one ≡ false
comes_behind one other p (inl q) = rw p (by_self (stage_of other.rule) _ ∙ by_greater other.at.after one.at.after _ q)
comes_behind one other p (inr q) = rw (p, q.0) (by_self (stage_of other.rule) _ ∙ by_self other.at.after _ ∙ by_greater one.at.start other.at.start _ q.1)

pub first_one : (one : Occurrence) (rule : TypingRule) → breaks one.env one.node (Typing rule) ≡ true → Only one (λ other. stage_of other ≡ 1 → is_lower other (Typing rule) ≡ false)
    → IsFirst (one ∷ []) (record { at = one; rule = Typing rule })
first_one one rule p only = record {
  is = least_at 1 one (Typing rule) p refl
      (λ other h q. at_one_place (record { at = one; rule = other }) (record { at = one; rule = Typing rule }) q refl refl ∙ only other h q);
}

-- nothing is broken before it
pub first_later : (xs ys : List Occurrence) (fault : Fault) → Silent xs → IsFirst ys fault → IsFirst (xs ++ ys) fault
first_later xs ys fault p h = record { is = least_behind 1 xs ys fault (λ other k. p.none other k.0) h.is }

-- what is broken behind it comes no earlier
pub first_before : (xs ys : List Occurrence) (fault : Fault) → IsFirst xs fault → ((other : Fault) → IsFault ys other → stage_of other.rule ≡ 1 → comes_before other fault ≡ false) → IsFirst (xs ++ ys) fault
first_before xs ys fault h p = record {
  is = record {
    broken = ((Contains-append_left xs ys fault.at h.is.broken.0.0, h.is.broken.0.1), h.is.broken.1);
    least = λ other k. by_cases other k (Contains-append_cases xs ys other.at k.0.0);
  };
} where
  by_cases : (other : Fault) → IsFaultIn 1 (xs ++ ys) other → Contains xs other.at ⊎ Contains ys other.at → comes_before other fault ≡ false
  by_cases other k (inl a) = h.is.least other ((a, k.0.1), k.1)
  by_cases other k (inr a) = p other (a, k.0.1) k.1

-- each of these is behind it
pub first_ahead : (xs ys : List Occurrence) (fault : Fault) → IsFirst xs fault → ((other : Occurrence) → Contains ys other → IsBehind fault.at other) → IsFirst (xs ++ ys) fault
first_ahead xs ys fault h p = first_before xs ys fault h (λ other k q. comes_behind fault other (h.is.broken.1 ∙ sym q) (p other.at k.0))
