-- What a walk over nodes answers: a form, where they break nothing, or how their first fault is told.
use Rattle.std.proofs.Common.{◌≡◌, ℕ, ◌≤◌, true, false, List, [], ◌∷◌, ◌++◌, Some, Ok, Err, refl, sym, ap, ◌∙◌, subst, ◌⊎◌, inl, inr, arith, append_assoc}
use Rattle.std.specs.Prelude.{Contains}
use Rattle.df_base.specs.declared.pos.Pos.{Pos}
use Rattle.df_base.specs.declared.refusal.Refusal.{Refusal}
use Rattle.df_ntyping.specs.Node.{Occurrence, node_pos, node_name}
use Rattle.df_ntyping.specs.Rule.{Rule, TypingRule, Unknown, Twice, Typing, Uninferred, Range, stage_of, code_of, detail_of}
use Rattle.df_ntyping.specs.Breaks.{breaks}
use Rattle.df_ntyping.specs.Least.{Fault, IsFault, IsFaultIn, Tells, IsToldIn, comes_before}
use Rattle.df_ntyping.specs.mirror.Parts.{Breach, refusal_of}
use Rattle.df_ntyping.proofs.AllNodes.{there}
use Rattle.df_ntyping.proofs.First.{told_in, least_at}
use Rattle.df_ntyping.proofs.FirstFault.{Silent, NoNames, Only, IsFirst, is_lower, none_there, first_or_rest, silent_none, silent_both, at_one_place, lower_self, first_later, first_before}
use Rattle.df_ntyping.proofs.Found.{Found, AllBeyond, first_in_part}
use Rattle.df_ntyping.proofs.Order.{Segment}
use Rattle.df_ntyping.proofs.SoundNodes.{AllSound}
use Rattle.df_ntexpr.specs.Replies.{Reply}
use Rattle.df_ntstmt.specs.mirror.Steps.{and_then, broken}

-- ---- the first fault

pub record Met (nodes : List Occurrence) (refusal : Refusal) : Type 0 where
  pub fault : Fault
  pub first : IsFirst nodes fault
  pub tells : Tells fault refusal

pub met_found : (nodes : List Occurrence) (low high : ℕ) (breach : Breach) → Found nodes low high breach → Met nodes (refusal_of breach)
met_found nodes low high breach found = record {
  fault = found.fault;
  first = found.first;
  tells = record { code = sym (ap code_of found.rule); pos = found.pos; detail = ap (λ (rule : Rule). detail_of rule (node_name found.fault.at.node)) found.rule };
}

-- behind nodes that break nothing
pub met_later : (xs ys : List Occurrence) (refusal : Refusal) → Silent xs → Met ys refusal → Met (xs ++ ys) refusal
met_later xs ys refusal s m = record { fault = m.fault; first = first_later xs ys m.fault s m.first; tells = m.tells }

-- before nodes that break nothing
pub met_ahead : (xs ys : List Occurrence) (refusal : Refusal) → Met xs refusal → Silent ys → Met (xs ++ ys) refusal
met_ahead xs ys refusal m s = record { fault = m.fault; first = first_before xs ys m.fault m.first (λ other h q. absurd (s.none other h)); tells = m.tells }

-- before nodes that stand behind them
pub met_before : (low above high : ℕ) (xs ys : List Occurrence) (refusal : Refusal) → Segment low above high xs → AllBeyond low high ys → Met xs refusal → Met (xs ++ ys) refusal
met_before low above high xs ys refusal s b m = record { fault = m.fault; first = first_in_part low above high xs ys m.fault m.first s b; tells = m.tells }

-- ---- one node

pub first_rule : (one : Occurrence) (rule : Rule) → breaks one.env one.node rule ≡ true → stage_of rule ≡ 1 → Only one (λ other. other ≡ rule) → IsFirst (one ∷ []) (record { at = one; rule = rule })
first_rule one rule b p only = record {
  is = least_at 1 one rule b p
      (λ other h q. at_one_place (record { at = one; rule = other }) (record { at = one; rule = rule }) (q ∙ sym p) refl refl ∙ subst (λ (r : Rule). is_lower r rule ≡ false) (sym (only other h)) (lower_self rule));
}

pub met_typing : (one : Occurrence) (rule : TypingRule) (pos : Pos) → breaks one.env one.node (Typing rule) ≡ true → Only one (λ other. other ≡ Typing rule) → node_pos one.node ≡ Some pos → Met (one ∷ []) (broken rule pos)
met_typing one rule pos b only p = record { fault = record { at = one; rule = Typing rule }; first = first_rule one (Typing rule) b refl only; tells = record { code = refl; pos = p; detail = refl } }

-- a node, and another at its place that breaks a lower rule
pub met_lower : (one other : Occurrence) (rule : TypingRule) (pos : Pos) → one.after ≡ other.after → one.start ≡ other.start → breaks other.env other.node (Typing rule) ≡ true
    → Only one (λ r. stage_of r ≡ 1 → is_lower r (Typing rule) ≡ false) → Only other (λ r. r ≡ Typing rule) → node_pos other.node ≡ Some pos → Met (one ∷ other ∷ []) (broken rule pos)
met_lower one other rule pos ends begins b lower only p = record {
  fault = told;
  first = record { is = record { broken = (((1, omega arith, refl), b), refl); least = λ fault h. by_node fault h (first_or_rest one (other ∷ []) fault.at h.0.0) } };
  tells = record { code = refl; pos = p; detail = refl };
} where
  told : Fault
  told = record { at = other; rule = Typing rule }

  at_first : (fault : Fault) → IsFaultIn 1 (one ∷ other ∷ []) fault → one ≡ fault.at → comes_before fault told ≡ false
  at_first fault h same =
      at_one_place fault told h.1 (sym (ap (λ (x : Occurrence). x.after) same) ∙ ends) (sym (ap (λ (x : Occurrence). x.start) same) ∙ begins)
      ∙ lower fault.rule (subst (λ (x : Occurrence). breaks x.env x.node fault.rule ≡ true) (sym same) h.0.1) h.1

  at_second : (fault : Fault) → IsFaultIn 1 (one ∷ other ∷ []) fault → other ≡ fault.at → comes_before fault told ≡ false
  at_second fault h same =
      at_one_place fault told h.1 (sym (ap (λ (x : Occurrence). x.after) same)) (sym (ap (λ (x : Occurrence). x.start) same))
      ∙ subst (λ (r : Rule). is_lower r (Typing rule) ≡ false) (sym (only fault.rule (subst (λ (x : Occurrence). breaks x.env x.node fault.rule ≡ true) (sym same) h.0.1))) (lower_self (Typing rule))

  by_rest : (fault : Fault) → IsFaultIn 1 (one ∷ other ∷ []) fault → (other ≡ fault.at) ⊎ Contains [] fault.at → comes_before fault told ≡ false
  by_rest fault h (inl same) = at_second fault h same
  by_rest fault h (inr c) = absurd (none_there fault.at c)

  by_node : (fault : Fault) → IsFaultIn 1 (one ∷ other ∷ []) fault → (one ≡ fault.at) ⊎ Contains (other ∷ []) fault.at → comes_before fault told ≡ false
  by_node fault h (inl same) = at_first fault h same
  by_node fault h (inr c) = by_rest fault h (first_or_rest other [] fault.at c)

-- ---- answers

-- nodes that break nothing, and a form that is right, or how the first fault is told
abbrev pub Judged : {A : Type 0} → List Occurrence → (A → Type 0) → Reply A → Type 0
Judged nodes P (Ok a) = Silent nodes × P a
Judged nodes P (Err refusal) = Met nodes refusal

pub judged_behind : {A : Type 0} (xs ys : List Occurrence) (P : A → Type 0) (answer : Reply A) → Silent xs → Judged ys P answer → Judged (xs ++ ys) P answer
judged_behind xs ys P (Ok a) s j = (silent_both xs ys s j.0, j.1)
judged_behind xs ys P (Err refusal) s j = met_later xs ys refusal s j

pub judged_ahead : {A : Type 0} (xs ys : List Occurrence) (P : A → Type 0) (answer : Reply A) → Judged xs P answer → Silent ys → Judged (xs ++ ys) P answer
judged_ahead xs ys P (Ok a) j s = (silent_both xs ys j.0 s, j.1)
judged_ahead xs ys P (Err refusal) j s = met_ahead xs ys refusal j s

-- a part, and then nodes that stand behind it
pub judged_then : {A B : Type 0} (low above high : ℕ) (xs ys : List Occurrence) (P : A → Type 0) (Q : B → Type 0) (answer : Reply A) (f : A → Reply B) → Segment low above high xs → AllBeyond low high ys
    → Judged xs P answer → ((a : A) → P a → Judged ys Q (f a)) → Judged (xs ++ ys) Q (and_then answer f)
judged_then low above high xs ys P Q (Ok a) f s b j g = judged_behind xs ys Q (f a) j.0 (g a j.1)
judged_then low above high xs ys P Q (Err refusal) f s b j g = met_before low above high xs ys refusal s b j

-- the same, where what breaks nothing is known to
pub judged_step : {A B : Type 0} (low above high : ℕ) (xs ys : List Occurrence) (P : A → Type 0) (Q : B → Type 0) (answer : Reply A) (f : A → Reply B) → Segment low above high xs → AllBeyond low high ys
    → Judged xs P answer → ((a : A) → Silent xs → P a → Judged ys Q (f a)) → Judged (xs ++ ys) Q (and_then answer f)
judged_step low above high xs ys P Q (Ok a) f s b j g = judged_behind xs ys Q (f a) j.0 (g a j.0 j.1)
judged_step low above high xs ys P Q (Err refusal) f s b j g = met_before low above high xs ys refusal s b j

-- a form of another
pub judged_map : {A B : Type 0} (nodes : List Occurrence) (P : A → Type 0) (Q : B → Type 0) (answer : Reply A) (f : A → B) → Judged nodes P answer → ((a : A) → P a → Q (f a)) → Judged nodes Q (and_then answer (λ (a : A). Ok (f a)))
judged_map nodes P Q (Ok a) f j g = (j.0, g a j.1)
judged_map nodes P Q (Err refusal) f j g = j

-- a form of another, where what breaks nothing is known to
pub judged_last : {A B : Type 0} (nodes : List Occurrence) (P : A → Type 0) (Q : B → Type 0) (answer : Reply A) (f : A → B) → Judged nodes P answer → ((a : A) → Silent nodes → P a → Q (f a)) → Judged nodes Q (and_then answer (λ (a : A). Ok (f a)))
judged_last nodes P Q (Ok a) f j g = (j.0, g a j.0 j.1)
judged_last nodes P Q (Err refusal) f j g = j

-- right in another way
pub judged_as : {A : Type 0} (nodes : List Occurrence) (P Q : A → Type 0) (answer : Reply A) → Judged nodes P answer → ((a : A) → P a → Q a) → Judged nodes Q answer
judged_as nodes P Q (Ok a) j g = (j.0, g a j.1)
judged_as nodes P Q (Err refusal) j g = j

-- parts in another grouping
pub judged_grouped : {A : Type 0} (xs ys zs : List Occurrence) (P : A → Type 0) (answer : Reply A) → Judged (xs ++ (ys ++ zs)) P answer → Judged ((xs ++ ys) ++ zs) P answer
judged_grouped xs ys zs P answer j = subst (λ (all : List Occurrence). Judged all P answer) (sym (append_assoc xs ys zs)) j

pub judged_none : {A : Type 0} (P : A → Type 0) (a : A) → P a → Judged [] P (Ok a)
judged_none P a p = (silent_none, p)

-- ---- nodes that break no rule of types, in which all names have meanings

pub stages : (rule : Rule) → (stage_of rule ≡ 0) ⊎ (stage_of rule ≡ 1)
stages Unknown = inl refl
stages Twice = inl refl
stages (Typing rule) = inr refl
stages Uninferred = inr refl
stages Range = inr refl

pub silent_sound : (nodes : List Occurrence) → AllSound nodes → NoNames nodes → Silent nodes
silent_sound nodes h n = record { none = λ fault f. by_stage fault f (stages fault.rule) } where
  by_stage : (fault : Fault) → IsFault nodes fault → (stage_of fault.rule ≡ 0) ⊎ (stage_of fault.rule ≡ 1) → ⊥
  by_stage fault f (inl p) = n.none fault (f, p)
  by_stage fault f (inr p) = (there nodes fault.at h f.0).holds fault.rule (λ q. let wrong : 1 ≡ 0 = sym p ∙ q in omega (arith, wrong)) f.1

-- what is met is told, where all names have meanings
pub met_told : (nodes : List Occurrence) (refusal : Refusal) → NoNames nodes → Met nodes refusal → IsToldIn 1 nodes refusal
met_told nodes refusal n m = told_in 1 nodes m.fault refusal m.first.is (λ other h. earliest other h (stages other.rule)) m.tells where
  earliest : (other : Fault) → IsFault nodes other → (stage_of other.rule ≡ 0) ⊎ (stage_of other.rule ≡ 1) → 1 ≤ stage_of other.rule
  earliest other h (inl p) = absurd (n.none other (h, p))
  earliest other h (inr p) = omega arith
