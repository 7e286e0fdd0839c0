-- A file has one refusal.
use Rattle.std.proofs.Common.{◌≡◌, ◌≤◌, Bool, true, false, List, [], ◌∷◌, Some, None, refl, sym, ap, subst, ◌∙◌, ◌⊎◌, inl, inr, arith}
use Rattle.std.specs.Prelude.{Contains, nat_lt}
use Rattle.std.proofs.lemmas.Option.{same_Some}
use Rattle.df_lemmas.proofs.Alls.{all_at, none_there}
use Rattle.df_base.specs.declared.refusal.Refusal.{Refusal}
use Rattle.df_lang.specs.Program.{Program}
use Rattle.df_ntree.specs.File.{File}
use Rattle.df_ntree.specs.FileSpelling.{IsFile}
use Rattle.df_ntyping.specs.Environment.{Environment}
use Rattle.df_ntyping.specs.Node as nodes
use Rattle.df_ntyping.specs.Node.{Node, Occurrence, node_pos, node_name}
use Rattle.df_ntyping.specs.Rule.{TypingRule, Given, Arithmetic, Order, Equality, Direction, Truths, ArgumentCount, Calls, Casts, Assigned, Returned, Broken, Clauses, Rule, Unknown, Twice, Typing, Uninferred, Range, typing_number, code_of, code_number, rule_number, stage_of, detail_of}
use Rattle.df_ntyping.specs.Breaks.{breaks, Breaks}
use Rattle.df_ntyping.specs.FileNodes.{file_nodes}
use Rattle.df_ntyping.specs.Least.{Fault, IsTold, by_number, comes_before}
use Rattle.df_ntyping.specs.Unassigned.{IsToldMissing}
use Rattle.df_ntyping.specs.Stages.{rules, values}
use Rattle.df_ntyping.specs.Laws.{OneRefusal}
use Rattle.df_ntyping.proofs.LeastExists.{first_or_rest}
use Rattle.df_ntyping.proofs.OneMissing.{by_equal, less_equal, one_missing_told}
use Rattle.df_ntyping.proofs.CompleteStatements.{one_program}
use Rattle.df_ntyping.proofs.Alike.{AreToldAlike}
use Rattle.df_ntyping.proofs.Order.{AreApart, AreAllAlike}
use Rattle.df_ntyping.proofs.FileOrder.{names_are_apart, nodes_are_alike}
use Rattle.df_ntyping.proofs.SoundFiles.{elaborated_is_faultless}

-- ---- two that are least

same_typing : (one other : TypingRule) → typing_number one ≡ typing_number other → one ≡ other
same_typing Given Given p = refl
same_typing Arithmetic Arithmetic p = refl
same_typing Order Order p = refl
same_typing Equality Equality p = refl
same_typing Direction Direction p = refl
same_typing Truths Truths p = refl
same_typing ArgumentCount ArgumentCount p = refl
same_typing Calls Calls p = refl
same_typing Casts Casts p = refl
same_typing Assigned Assigned p = refl
same_typing Returned Returned p = refl
same_typing Broken Broken p = refl
same_typing Clauses Clauses p = refl
same_typing one other p = absurd (omega (arith, p))

same_rule : (one other : Rule) → code_number one ≡ code_number other → rule_number one ≡ rule_number other → one ≡ other
same_rule Unknown Unknown p q = refl
same_rule Twice Twice p q = refl
same_rule (Typing one) (Typing other) p q = ap Typing (same_typing one other q)
same_rule Uninferred Uninferred p q = refl
same_rule Range Range p q = refl
same_rule one other p q = absurd (omega (arith, p))

record AreTogether (one other : Fault) : Type 0 where
  start : one.at.start ≡ other.at.start
  after : one.at.after ≡ other.at.after
  same : one.rule ≡ other.rule

abbrev by_rule : Fault → Fault → Bool
by_rule one other = nat_lt (rule_number one.rule) (rule_number other.rule)

abbrev by_code : Fault → Fault → Bool
by_code one other = by_number (code_number one.rule) (code_number other.rule) (by_rule one other)

abbrev by_start : Fault → Fault → Bool
by_start one other = by_number other.at.start one.at.start (by_code one other)

abbrev by_after : Fault → Fault → Bool
by_after one other = by_number one.at.after other.at.after (by_start one other)

-- neither comes before the other
together : (one other : Fault) → comes_before one other ≡ false → comes_before other one ≡ false → AreTogether one other
together one other p q =
    let (stage, p1, q1) = by_equal (stage_of one.rule) (stage_of other.rule) (by_after one other) (by_after other one) p q in
    let (after, p2, q2) = by_equal one.at.after other.at.after (by_start one other) (by_start other one) p1 q1 in
    let (start, p3, q3) = by_equal other.at.start one.at.start (by_code one other) (by_code other one) p2 q2 in
    let (code, p4, q4) = by_equal (code_number one.rule) (code_number other.rule) (by_rule one other) (by_rule other one) p3 q3 in
    record { start = sym start; after = after; same = same_rule one.rule other.rule code (less_equal (rule_number one.rule) (rule_number other.rule) p4 q4) }

-- ---- of rules of types

alike_there : (all : List Occurrence) (one other : Occurrence) → AreAllAlike all → Contains all one → Contains all other → one.start ≡ other.start → one.after ≡ other.after → (rule : Rule) → (stage_of rule ≡ 0 → ⊥)
    → breaks one.env one.node rule ≡ true → breaks other.env other.node rule ≡ true → node_pos one.node ≡ node_pos other.node
unfolding AreAllAlike
alike_there [] one other h c d p q rule n b e = absurd (none_there one c)
alike_there (x ∷ xs) one other h c d p q rule n b e =
    by_place (first_or_rest x xs one c) (first_or_rest x xs other d) (λ c_rest d_rest. alike_there xs one other h.1 c_rest d_rest p q rule n b e) where
      behind : (y z : Occurrence) → x ≡ y → Contains xs z → y.start ≡ z.start → y.after ≡ z.after → breaks y.env y.node rule ≡ true → breaks z.env z.node rule ≡ true → node_pos y.node ≡ node_pos z.node
      behind y z first there s a yb zb =
          let alike = all_at (λ (o : Occurrence). x.start ≡ o.start → x.after ≡ o.after → AreToldAlike x o) xs z h.0 there in
          let moved = subst (λ (o : Occurrence). o.start ≡ z.start → o.after ≡ z.after → AreToldAlike o z) first alike in
          (moved s a).same rule n yb zb

      by_place : (x ≡ one) ⊎ Contains xs one → (x ≡ other) ⊎ Contains xs other → (Contains xs one → Contains xs other → node_pos one.node ≡ node_pos other.node) → node_pos one.node ≡ node_pos other.node
      by_place (inl f) (inl g) rest = ap (λ (o : Occurrence). node_pos o.node) (sym f ∙ g)
      by_place (inl f) (inr g) rest = behind one other f g p q b e
      by_place (inr f) (inl g) rest = sym (behind other one g f (sym p) (sym q) e b)
      by_place (inr f) (inr g) rest = rest f g

-- ---- of rules of names

named : (env : Environment) (node : Node) (rule : Rule) → stage_of rule ≡ 0 → breaks env node rule ≡ true → node_name node ≡ None → ⊥
named env (nodes.UsedName ident) Unknown s b p = let q : Some ident.name ≡ None = p in absurd cc
named env (nodes.UsedType ident) Unknown s b p = let q : Some ident.name ≡ None = p in absurd cc
named env (nodes.NewName before ident) Twice s b p = let q : Some ident.name ≡ None = p in absurd cc
named env node Unknown s b p = absurd cc
named env node Twice s b p = absurd cc
named env node (Typing rule) s b p = absurd (omega (arith, s))
named env node Uninferred s b p = absurd (omega (arith, s))
named env node Range s b p = absurd (omega (arith, s))

-- two that break a rule of names at one place are one
one_name : (all : List Occurrence) (one other : Occurrence) → AreApart all → Contains all one → Contains all other → one.after ≡ other.after → (rule : Rule) → stage_of rule ≡ 0
    → breaks one.env one.node rule ≡ true → breaks other.env other.node rule ≡ true → one ≡ other
unfolding AreApart
one_name [] one other h c d q rule s b e = absurd (none_there one c)
one_name (x ∷ xs) one other h c d q rule s b e =
    by_place (first_or_rest x xs one c) (first_or_rest x xs other d) (λ c_rest d_rest. one_name xs one other h.1 c_rest d_rest q rule s b e) where
      behind : (y z : Occurrence) → x ≡ y → Contains xs z → y.after ≡ z.after → breaks z.env z.node rule ≡ true → ⊥
      behind y z first there a zb =
          let none_later = all_at (λ (o : Occurrence). o.after ≤ x.after → node_name o.node ≡ None) xs z h.0 there in
          named z.env z.node rule s zb (none_later (omega (arith, a, ap (λ (o : Occurrence). o.after) first)))

      by_place : (x ≡ one) ⊎ Contains xs one → (x ≡ other) ⊎ Contains xs other → (Contains xs one → Contains xs other → one ≡ other) → one ≡ other
      by_place (inl f) (inl g) rest = sym f ∙ g
      by_place (inl f) (inr g) rest = absurd (behind one other f g q e)
      by_place (inr f) (inl g) rest = absurd (behind other one g f (sym q) b)
      by_place (inr f) (inr g) rest = rest f g

-- ---- what is told

-- both tell one position, and one name where a rule of names is broken
record AreAlike (one other : Fault) : Type 0 where
  pos : node_pos one.at.node ≡ node_pos other.at.node
  detail : detail_of one.rule (node_name one.at.node) ≡ detail_of one.rule (node_name other.at.node)

faults_alike : (file : File) (one other : Fault) → IsFile file → Contains (file_nodes file) one.at → Contains (file_nodes file) other.at → one.at.start ≡ other.at.start → one.at.after ≡ other.at.after
    → Breaks one.at.env one.at.node one.rule → Breaks other.at.env other.at.node one.rule → AreAlike one other
faults_alike file one other g c d p q b e = by_stage one.rule refl where
  by_names : stage_of one.rule ≡ 0 → AreAlike one other
  by_names s =
      let same = one_name (file_nodes file) one.at other.at (names_are_apart file g) c d q one.rule s b e in
      record { pos = ap (λ (o : Occurrence). node_pos o.node) same; detail = ap (λ (o : Occurrence). detail_of one.rule (node_name o.node)) same }

  by_types : (stage_of one.rule ≡ 0 → ⊥) → detail_of one.rule (node_name one.at.node) ≡ detail_of one.rule (node_name other.at.node) → AreAlike one other
  by_types n same = record { pos = alike_there (file_nodes file) one.at other.at (nodes_are_alike file g) c d p q one.rule n b e; detail = same }

  by_stage : (rule : Rule) → one.rule ≡ rule → AreAlike one other
  by_stage Unknown r = by_names (ap stage_of r)
  by_stage Twice r = by_names (ap stage_of r)
  by_stage (Typing rule) r = by_types (λ s. let q : 1 ≡ 0 = sym (ap stage_of r) ∙ s in omega (arith, q)) (rw r refl)
  by_stage Uninferred r = by_types (λ s. let q : 1 ≡ 0 = sym (ap stage_of r) ∙ s in omega (arith, q)) (rw r refl)
  by_stage Range r = by_types (λ s. let q : 1 ≡ 0 = sym (ap stage_of r) ∙ s in omega (arith, q)) (rw r refl)

one_told : (file : File) (first second : Refusal) → IsFile file → IsTold (file_nodes file) first → IsTold (file_nodes file) second → first ≡ second
one_told file first second g told other =
    let one = told.fault in
    let two = other.fault in
    let both = together one two (other.least.least one told.least.broken) (told.least.least two other.least.broken) in
    let broken : Breaks two.at.env two.at.node one.rule = subst (λ (rule : Rule). Breaks two.at.env two.at.node rule) (sym both.same) other.least.broken.1 in
    let alike = faults_alike file one two g told.least.broken.0 other.least.broken.0 both.start both.after told.least.broken.1 broken in
    let code = told.tells.code ∙ ap code_of both.same ∙ sym other.tells.code in
    let pos = same_Some first.pos second.pos (sym told.tells.pos ∙ alike.pos ∙ other.tells.pos) in
    let detail = same_Some first.detail second.detail (sym told.tells.detail ∙ alike.detail ∙ ap (λ (rule : Rule). detail_of rule (node_name two.at.node)) both.same ∙ other.tells.detail) in
    λ i. record { code = code i; pos = pos i; detail = detail i }

pub one_refusal : OneRefusal
one_refusal names file first second g (rules told) (rules other) = one_told file first second g told other
one_refusal names file first second g (rules told) (values one h missing) = absurd (elaborated_is_faultless names file one h told.fault told.least.broken)
one_refusal names file first second g (values one h missing) (rules told) = absurd (elaborated_is_faultless names file one h told.fault told.least.broken)
one_refusal names file first second g (values one h missing) (values two k other) =
    one_missing_told two first second (subst (λ (program : Program). IsToldMissing program first) (one_program names file one two h k) missing) other
