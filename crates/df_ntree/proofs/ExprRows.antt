-- Rows of operators: what is read is an expression that the tokens spell, and what they spell is read.
use Rattle.std.proofs.Common.{◌≡◌, ℕ, ◌+◌, ◌<◌, ◌≤◌, max, nat_lt, Bool, true, false, cond, List, [], ◌∷◌, ◌++◌, map, length, Option, Some, None, inl, inr, refl, sym, ap, subst, ◌∙◌, arith}
use Rattle.std.proofs.lemmas.Bool.{ltb-true, lt-ltb}
use Rattle.df_lemmas.proofs.Truths.{choice}
use Rattle.df_base.specs.declared.pos.Pos.{Pos}
use Rattle.df_tok.specs.declared.token.Kind.TheVariants as kinds
use Rattle.df_tok.specs.Token.{Token}
use Rattle.df_ntree.specs.declared.expr.BinaryOperator.{BinaryOperator}
use Rattle.df_ntree.specs.declared.expr.Group.{Group}
use Rattle.df_ntree.specs.declared.expr.Level.{Level}
use Rattle.df_ntree.specs.declared.expr.Level.TheVariants as levels
use Rattle.df_ntree.specs.Operator.{sign_of, group_of, level_of, rank}
use Rattle.df_ntree.specs.Spelling.{Begins, sign_there}
use Rattle.df_ntree.specs.Expr.{Expr, Number, Operations, Leading, Members, end, more, Operation, members_of}
use Rattle.df_ntree.specs.ExprSpelling.{spell, spell_members, rank_of_number, rank_of, BeginsWith, IsExpr, AreOf, height, deepest, Continuation, WithOperator, WithType, WithArguments, continued_level, GoesOn}
use Rattle.df_ntree.specs.mirror.Reading.{◌>>=◌, Reader, all_of, made_if, kind_at}
use Rattle.df_ntree.specs.mirror.ExprReading.{Part, operator_at, operator_in, leading, optional_operator, deeper, leading_of, operations_of, operation_after, next_operation, highest, gathered, operations_at, after_first, level_from, level_by, rows_by}
use Rattle.df_ntree.proofs.Repeat.{Shrinks, Run, sound, all_of-step, bind_some, got, finish, found, pair, some_is, differ, no_end, no_find, finish_some}
use Rattle.df_ntree.proofs.Tokens.{Begins-then, Begins-parts, Begins-length}
use Rattle.df_ntree.proofs.Readers.{made_if_sound, made_if_complete}
use Rattle.df_ntree.proofs.ExprTokens.{in_sound, in_complete, none_in, optional_sound, optional_none, optional_complete, optional_stays, at_sound, at_complete, operator_there, rank_one, rank_begins, same_or_less, one_way, Continues, Ends, ends_more, barred_rank, not_barred}
use Rattle.df_ntree.proofs.ExprFirst.{no_lead}

-- ---- heights

pub deeper_sound : (room h k : ℕ) → deeper room h ≡ Some k → (k ≡ h + 1) × (k ≤ room)
unfolding deeper
deeper_sound room h k e = elim (choice (nat_lt h room) (found (h + 1)) None (found k) e) [
  | inl p ↦ let l = ltb-true h room p.0 in let q : k ≡ h + 1 = sym (some_is (h + 1) k p.1) in (q, omega arith)
  | inr p ↦ absurd (differ k p.1)
]

deeper_complete : (room h : ℕ) → h + 1 ≤ room → deeper room h ≡ Some (h + 1)
unfolding deeper
deeper_complete room h l = ap (λ (b : Bool). cond b (found (h + 1)) None) (lt-ltb h room (omega arith))

-- a node over parts of this height
pub record IsNode (room h : ℕ) (e : Expr) (x : Part) : Type 0 where
  pub tree : e ≡ x.0
  pub tall : x.1 ≡ h + 1
  pub low : x.1 ≤ room

pub node_sound : (room h : ℕ) (e : Expr) (x : Part) → (deeper room h >>= λ k. found (pair e k)) ≡ Some x → IsNode room h e x
node_sound room h e x r =
    let b = bind_some (deeper room h) (λ k. found (pair e k)) x r in
    let d = deeper_sound room h b.0 b.1 in
    let same = some_is (pair e b.0) x b.2 in
    let at = ap (λ (z : Part). z.1) same in
    record { tree = ap (λ (z : Part). z.0) same; tall = subst (λ (n : ℕ). n ≡ h + 1) at d.0; low = subst (λ (n : ℕ). n ≤ room) at d.1 }

pub node_complete : (room h : ℕ) (e : Expr) → h + 1 ≤ room → (deeper room h >>= λ k. found (pair e k)) ≡ Some (e, h + 1)
node_complete room h e l = ap (λ (o : Option ℕ). o >>= λ k. found (pair e k)) (deeper_complete room h l)

-- ---- what a reader finds

pub record IsRead (n room : ℕ) (x : Part) (tokens rest : List Token) : Type 0 where
  pub eats : Begins (spell x.0) tokens rest
  pub is : IsExpr x.0
  pub tight : n ≤ rank_of x.0
  pub tall : x.1 ≡ height x.0
  pub low : x.1 ≤ room
  pub ends : Ends n x.0 rest

-- what a reader finds is an expression of this rank or above, up to where it ends
pub record Sound (room : ℕ) (read : Reader Part) (n : ℕ) : Type 0 where
  pub reads : (tokens : List Token) (x : Part) (rest : List Token) → read tokens ≡ Some (x, rest) → IsRead n room x tokens rest

-- and such an expression is found
pub record Complete (room : ℕ) (read : Reader Part) (n : ℕ) : Type 0 where
  pub finds : (e : Expr) (tokens rest : List Token) → Begins (spell e) tokens rest → IsExpr e → n ≤ rank_of e → height e ≤ room → Ends n e rest → read tokens ≡ Some ((e, height e), rest)

pub record Exact (room : ℕ) (read : Reader Part) (n : ℕ) : Type 0 where
  pub sound : Sound room read n
  pub complete : Complete room read n

-- ---- operations that are read

pub record IsFound (group : Group) (room : ℕ) (x : Operation × ℕ) (tokens rest : List Token) : Type 0 where
  pub of_group : group_of x.0.operator ≡ group
  pub eats : Begins (sign_there (sign_of x.0.operator) x.0.pos ∷ spell x.0.operand) tokens rest
  pub is : IsExpr x.0.operand
  pub tight : rank (level_of group) < rank_of x.0.operand
  pub tall : x.1 ≡ height x.0.operand
  pub low : x.1 ≤ room
  pub ends : Ends (rank (level_of group) + 1) x.0.operand rest

next_by : (group : Group) (room : ℕ) (operand : Reader Part) → Sound room operand (rank (level_of group) + 1) → (o : Option (BinaryOperator × Pos) × List Token) (tokens : List Token) (x : Operation × ℕ) (rest : List Token)
    → optional_operator group tokens ≡ o → operation_after operand o ≡ Some (Some x, rest) → IsFound group room x tokens rest
next_by group room operand s (None, after) tokens x rest h e = absurd (no_end x after rest e)
next_by group room operand s (Some p, after) tokens x rest h e =
    let b = bind_some (operand after) (λ y. got (found (pair {A = Operation} (record { operator = p.0; pos = p.1; operand = y.0.0 }) y.0.1)) y.1) (Some x, rest) e in
    let r = s.reads after b.0.0 b.0.1 b.1 in
    let q = optional_sound group tokens p.0 p.1 after h in
    let tight : rank (level_of group) < rank_of b.0.0.0 = let l = r.tight in omega arith in
    finish_some (λ (y : Operation × ℕ) (ts : List Token). IsFound group room y tokens ts) (record { operator = p.0; pos = p.1; operand = b.0.0.0 }, b.0.0.1) x b.0.1 rest b.2
    (record { of_group = q.0; eats = Begins-then (sign_there (sign_of p.0) p.1 ∷ []) (spell b.0.0.0) tokens after b.0.1 q.1 r.eats; is = r.is; tight = tight; tall = r.tall; low = r.low; ends = r.ends })

next_sound : (group : Group) (room : ℕ) (operand : Reader Part) → Sound room operand (rank (level_of group) + 1) → (tokens : List Token) (x : Operation × ℕ) (rest : List Token)
    → next_operation group operand tokens ≡ Some (Some x, rest) → IsFound group room x tokens rest
unfolding next_operation
next_sound group room operand s tokens x rest e = next_by group room operand s (optional_operator group tokens) tokens x rest refl e

no_next_by : (group : Group) (operand : Reader Part) (o : Option (BinaryOperator × Pos) × List Token) (tokens rest : List Token) → optional_operator group tokens ≡ o → operation_after operand o ≡ Some (None, rest)
    → (tokens ≡ rest) × (optional_operator group tokens ≡ (None, rest))
no_next_by group operand (None, after) tokens rest h e =
    let q = ap (λ (z : Option (Operation × ℕ) × List Token). z.1) (some_is (None, after) (None, rest) e) in
    (optional_none group tokens after h ∙ q, h ∙ ap (λ (ts : List Token). pair None ts) q)
no_next_by group operand (Some p, after) tokens rest h e =
    let b = bind_some (operand after) (λ y. got (found (pair {A = Operation} (record { operator = p.0; pos = p.1; operand = y.0.0 }) y.0.1)) y.1) (None, rest) e in
    absurd (no_find (pair {A = Operation} (record { operator = p.0; pos = p.1; operand = b.0.0.0 }) b.0.0.1) b.0.1 rest b.2)

no_next_sound : (group : Group) (operand : Reader Part) (tokens rest : List Token) → next_operation group operand tokens ≡ Some (None, rest) → (tokens ≡ rest) × (optional_operator group tokens ≡ (None, rest))
unfolding next_operation
no_next_sound group operand tokens rest e = no_next_by group operand (optional_operator group tokens) tokens rest refl e

falls_by : (group : Group) (room : ℕ) (operand : Reader Part) (n : ℕ) → Sound room operand n → (o : Option (BinaryOperator × Pos) × List Token) (tokens : List Token) (x : Operation × ℕ) (rest : List Token)
    → optional_operator group tokens ≡ o → operation_after operand o ≡ Some (Some x, rest) → length rest < length tokens
falls_by group room operand n s (None, after) tokens x rest h e = absurd (no_end x after rest e)
falls_by group room operand n s (Some p, after) tokens x rest h e =
    let b = bind_some (operand after) (λ y. got (found (pair {A = Operation} (record { operator = p.0; pos = p.1; operand = y.0.0 }) y.0.1)) y.1) (Some x, rest) e in
    let r = s.reads after b.0.0 b.0.1 b.1 in
    let q = optional_sound group tokens p.0 p.1 after h in
    let l = Begins-length (sign_there (sign_of p.0) p.1 ∷ []) tokens after q.1 in
    let m = Begins-length (spell b.0.0.0) after b.0.1 r.eats in
    finish_some (λ (y : Operation × ℕ) (ts : List Token). length ts < length tokens) (record { operator = p.0; pos = p.1; operand = b.0.0.0 }, b.0.0.1) x b.0.1 rest b.2 (omega arith)

falls_next : (group : Group) (room : ℕ) (operand : Reader Part) (n : ℕ) → Sound room operand n → (tokens rest : List Token) (x : Operation × ℕ) → next_operation group operand tokens ≡ Some (Some x, rest) → length rest < length tokens
unfolding next_operation
falls_next group room operand n s tokens rest x e = falls_by group room operand n s (optional_operator group tokens) tokens x rest refl e

pub next_shrinks : (group : Group) (room : ℕ) (operand : Reader Part) (n : ℕ) → Sound room operand n → Shrinks (next_operation group operand)
next_shrinks group room operand n s = record { falls = falls_next group room operand n s }

-- the operations of a row
abbrev row : List (Operation × ℕ) → Members
row xs = members_of (map (λ (x : Operation × ℕ). x.0) xs)

record IsRow (group : Group) (xs : List (Operation × ℕ)) (tokens rest : List Token) : Type 0 where
  eats : Begins (spell_members (row xs)) tokens rest
  are : AreOf (row xs) group
  tall : highest xs ≡ deepest (row xs)
  begins : (o : BinaryOperator) → operator_at tokens ≡ Some o → group_of o ≡ group → BeginsWith group (row xs)
  ends : BeginsWith group (row xs) → Ends (rank (level_of group)) (Leading (row xs)) rest

abbrev NoMore : Group → List Token → List Token → Type 0
NoMore group tokens rest = (tokens ≡ rest) × (optional_operator group tokens ≡ (None, rest))

no_operator : (group : Group) (tokens rest : List Token) → optional_operator group tokens ≡ (None, rest) → (o : BinaryOperator) → operator_at tokens ≡ Some o → group_of o ≡ group → ⊥
no_operator group [] rest h o e g = absurd (differ (kinds.Sign (sign_of o)) (at_sound [] o e))
no_operator group (t ∷ tokens) rest h o e g =
    let same = some_is t.kind (kinds.Sign (sign_of o)) (at_sound (t ∷ tokens) o e) in
    let c = optional_complete group o t.pos (t ∷ tokens) tokens g ((same, refl), refl) in
    differ (pair o t.pos) (ap (λ (z : Option (BinaryOperator × Pos) × List Token). z.0) (sym h ∙ c))

-- what follows a row does not continue it
row_ends : (group : Group) (room : ℕ) (x : Operation × ℕ) (xs : List (Operation × ℕ)) (between rest : List Token) → group_of x.0.operator ≡ group → Ends (rank (level_of group) + 1) x.0.operand between → Run (IsFound group room) (NoMore group) xs between rest → IsRow group xs between rest
    → Ends (rank (level_of group)) (Leading (row (x ∷ xs))) rest
row_ends group room x [] between rest of_group f run others = record {
  stops = λ c k l.
      let there : Continues c between = ap kind_at run.0 ∙ k in
      elim (same_or_less (rank (level_of group)) (rank (continued_level c)) l) [
        | inl q ↦ inl (rank_one (continued_level c) (level_of group) (sym q) ∙ ap level_of (sym of_group), goes_on c there)
        | inr q ↦ inr (f.stops c there (omega arith))
      ];
}
  where
    goes_on : (c : Continuation) → Continues c between → GoesOn (group_of x.0.operator) c → ⊥
    goes_on (WithOperator o) k g = no_operator group between rest run.1 o (at_complete between o k) (g ∙ of_group)
    goes_on WithType k g = g
    goes_on WithArguments k g = g
row_ends group room x (y ∷ ys) between rest of_group f run others = record { stops = (others.ends (ap Some others.are.0)).stops }

is_row : (group : Group) (room : ℕ) (xs : List (Operation × ℕ)) (tokens rest : List Token) → Run (IsFound group room) (NoMore group) xs tokens rest → IsRow group xs tokens rest
is_row group room [] tokens rest run = record { eats = run.0; are = tt; tall = refl; begins = λ o e g. absurd (no_operator group tokens rest run.1 o e g); ends = λ h. absurd (differ group h) }
is_row group room (x ∷ xs) tokens rest run =
    let others = is_row group room xs run.0 rest run.2 in
    record {
      eats = Begins-then (sign_there (sign_of x.0.operator) x.0.pos ∷ spell x.0.operand) (spell_members (row xs)) tokens run.0 rest run.1.eats others.eats;
      are = (run.1.of_group, run.1.is, run.1.tight, others.are);
      tall = let e = run.1.tall in let f = others.tall in rw (e, f) refl;
      begins = λ o e g. ap Some run.1.of_group;
      ends = λ h. row_ends group room x xs run.0 rest run.1.of_group run.1.ends run.2 others;
    }

pub record AreRead (group : Group) (h : ℕ) (y : List Operation × ℕ) (tokens rest : List Token) : Type 0 where
  pub eats : Begins (spell_members (members_of y.0)) tokens rest
  pub are : AreOf (members_of y.0) group
  pub tall : y.1 ≡ max h (deepest (members_of y.0))
  pub begins : (o : BinaryOperator) → operator_at tokens ≡ Some o → group_of o ≡ group → BeginsWith group (members_of y.0)
  pub ends : BeginsWith group (members_of y.0) → Ends (rank (level_of group)) (Leading (members_of y.0)) rest

operations_sound : (group : Group) (room : ℕ) (operand : Reader Part) → Sound room operand (rank (level_of group) + 1) → (h : ℕ) (tokens : List Token) (y : List Operation × ℕ) (rest : List Token)
    → operations_at group operand h tokens ≡ Some (y, rest) → AreRead group h y tokens rest
unfolding operations_at
operations_sound group room operand s h tokens y rest e =
    let b = bind_some (all_of (next_operation group operand) tokens) (λ all. got (pair (map (λ (x : Operation × ℕ). x.0) all.0) (max h (highest all.0))) all.1) (y, rest) e in
    let run = sound (next_operation group operand) (IsFound group room) (NoMore group) (λ x ts r k. next_sound group room operand s ts x r k) (λ ts r k. no_next_sound group operand ts r k) tokens b.0.0 b.0.1 b.1 in
    let r = is_row group room b.0.0 tokens b.0.1 run in
    finish (λ (z : List Operation × ℕ) (ts : List Token). AreRead group h z tokens ts) (map (λ (x : Operation × ℕ). x.0) b.0.0, max h (highest b.0.0)) y b.0.1 rest b.2
    (record { eats = r.eats; are = r.are; tall = ap (max h) r.tall; begins = r.begins; ends = r.ends })

-- ---- levels that are read

leading_is : (level : Level) (tokens : List Token) (o : BinaryOperator) → leading level tokens ≡ Some o → (level ≡ levels.Junction) × (operator_at tokens ≡ Some o) × (level_of (group_of o) ≡ levels.Junction)
unfolding leading
leading_is levels.Junction tokens o e = let p = in_sound levels.Junction tokens o e in (refl, p.0, p.1)
leading_is _ tokens o e = absurd (differ o e)

of_rank : (room : ℕ) (operand : Reader Part) (level other : Level) → level ≡ other → Sound room operand (rank other + 1) → Sound room operand (rank level + 1)
of_rank room operand level other e s = subst (λ (l : Level). Sound room operand (rank l + 1)) (sym e) s

leading_sound : (room : ℕ) (operand : Reader Part) (level : Level) → Sound room operand (rank level + 1) → (o : BinaryOperator) (tokens : List Token) → leading level tokens ≡ Some o → (x : Part) (rest : List Token)
    → made_if (leading_of room) (operations_at (group_of o) operand 0) tokens ≡ Some (x, rest) → IsRead (rank level) room x tokens rest
unfolding leading_of
leading_sound room operand level s o tokens l x rest e =
    let p = leading_is level tokens o l in
    let same : level_of (group_of o) ≡ level = p.2 ∙ sym p.0 in
    let a = made_if_sound (leading_of room) (operations_at (group_of o) operand 0) x tokens rest e in
    let n = node_sound room a.0.1 (Leading (members_of a.0.0)) x a.2 in
    let r = operations_sound (group_of o) room operand (of_rank room operand (level_of (group_of o)) level same s) 0 tokens a.0 rest a.1 in
    let loose : rank level ≤ 2 = subst (λ (k : Level). rank k ≤ 2) (sym p.0) (omega arith) in
    let t = r.tall in
    let tall = n.tall in
    subst (λ (y : Expr). IsRead (rank level) room (y, x.1) tokens rest) n.tree
    (record {
      eats = r.eats;
      is = (group_of o, r.begins o p.1 refl, p.2, r.are);
      tight = loose;
      tall = omega arith;
      low = n.low;
      ends = subst (λ (k : Level). Ends (rank k) (Leading (members_of a.0.0)) rest) same (r.ends (r.begins o p.1 refl));
    })

-- no operator of the level follows the first operand
first_ends : (level : Level) → rank level < 6 → (e : Expr) (between : List Token) → operator_in level between ≡ None → Ends (rank level + 1) e between → Ends (rank level) e between
first_ends level low e between k f = record {
  stops = λ c h l. elim (same_or_less (rank level) (rank (continued_level c)) l) [
    | inl q ↦ absurd (none_there c h (rank_one (continued_level c) level (sym q)))
    | inr q ↦ f.stops c h (omega arith)
  ];
}
  where
    none_there : (c : Continuation) → Continues c between → continued_level c ≡ level → ⊥
    none_there (WithOperator o) h q = differ o (sym k ∙ in_complete level between o (at_complete between o h) q)
    none_there WithType h q = let r : 6 ≡ rank level = ap rank q in omega arith
    none_there WithArguments h q = let r : 8 ≡ rank level = ap rank q in omega arith

after_sound : (room : ℕ) (operand : Reader Part) (level : Level) → rank level < 6 → Sound room operand (rank level + 1) → (first : Part) (tokens between : List Token) → IsRead (rank level + 1) room first tokens between → (o : Option BinaryOperator) → operator_in level between ≡ o
    → (x : Part) (rest : List Token) → after_first room operand first o between ≡ Some (x, rest) → IsRead (rank level) room x tokens rest
unfolding operations_of
after_sound room operand level loose s first tokens between f None k x rest e =
    finish (λ (y : Part) (ts : List Token). IsRead (rank level) room y tokens ts) first x between rest e
    (record { eats = f.eats; is = f.is; tight = let t = f.tight in omega arith; tall = f.tall; low = f.low; ends = first_ends level loose first.0 between k f.ends })
after_sound room operand level loose s first tokens between f (Some o) k x rest e =
    let p = in_sound level between o k in
    let a = made_if_sound (operations_of room first.0) (operations_at (group_of o) operand first.1) x between rest e in
    let n = node_sound room a.0.1 (Operations first.0 (members_of a.0.0)) x a.2 in
    let r = operations_sound (group_of o) room operand (of_rank room operand (level_of (group_of o)) level p.1 s) first.1 between a.0 rest a.1 in
    let start = r.begins o p.0 refl in
    let same : rank (level_of (group_of o)) ≡ rank level = ap rank p.1 in
    let here = rank_begins (group_of o) (members_of a.0.0) start in
    let below : rank (level_of (group_of o)) < rank_of first.0 = let t = f.tight in omega arith in
    let tall : x.1 ≡ max (height first.0) (deepest (members_of a.0.0)) + 1 = n.tall ∙ ap (λ (h : ℕ). h + 1) (r.tall ∙ ap (λ (h : ℕ). max h (deepest (members_of a.0.0))) f.tall) in
    subst (λ (y : Expr). IsRead (rank level) room (y, x.1) tokens rest) n.tree
    (record {
      eats = Begins-then (spell first.0) (spell_members (members_of a.0.0)) tokens between rest f.eats r.eats;
      is = (group_of o, start, f.is, below, r.are);
      tight = omega arith;
      tall = tall;
      low = n.low;
      ends = record { stops = (subst (λ (l : Level). Ends (rank l) (Leading (members_of a.0.0)) rest) p.1 (r.ends start)).stops };
    })

from_sound : (room : ℕ) (operand : Reader Part) (level : Level) → rank level < 6 → Sound room operand (rank level + 1) → (o : Option BinaryOperator) (tokens : List Token) → leading level tokens ≡ o → (x : Part) (rest : List Token)
    → level_from room operand level o tokens ≡ Some (x, rest) → IsRead (rank level) room x tokens rest
from_sound room operand level loose s (Some o) tokens l x rest e = leading_sound room operand level s o tokens l x rest e
from_sound room operand level loose s None tokens l x rest e =
    let a = bind_some (operand tokens) (λ first. after_first room operand first.0 (operator_in level first.1) first.1) (x, rest) e in
    after_sound room operand level loose s a.0.0 tokens a.0.1 (s.reads tokens a.0.0 a.0.1 a.1) (operator_in level a.0.1) refl x rest a.2

level_reads : (room : ℕ) (operand : Reader Part) (level : Level) → rank level < 6 → Sound room operand (rank level + 1) → (tokens : List Token) (x : Part) (rest : List Token) → level_by room operand level tokens ≡ Some (x, rest) → IsRead (rank level) room x tokens rest
unfolding level_by
level_reads room operand level loose s tokens x rest e = from_sound room operand level loose s (leading level tokens) tokens refl x rest e

-- ---- operations that are spelled

-- what is read of a row
list_of : Members → List (Operation × ℕ)
list_of end = []
list_of (more o p e m) = (record { operator = o; pos = p; operand = e }, height e) ∷ list_of m

row_is : (m : Members) → row (list_of m) ≡ m
unfolding list_of
row_is end = refl
row_is (more o p e m) = ap (more o p e) (row_is m)

highest_is : (m : Members) → highest (list_of m) ≡ deepest m
unfolding list_of
highest_is end = refl
highest_is (more o p e m) = ap (max (height e)) (highest_is m)

-- an operand before a row of operators ends there
before_row : (group : Group) (e : Expr) (m : Members) (tokens rest : List Token) → AreOf m group → BeginsWith group m → Begins (spell_members m) tokens rest → Ends (rank (level_of group) + 1) e tokens
before_row group e end tokens rest are h b = absurd (differ group h)
before_row group e (more o p x m) tokens rest are h b = record {
  stops = λ c k l.
      let there = at_sound tokens o (operator_there o p (spell x ++ spell_members m) tokens rest b) in
      let same : c ≡ WithOperator o = one_way c (WithOperator o) tokens k there in
      let here : rank (continued_level c) ≡ rank (level_of group) = ap (λ (d : Continuation). rank (continued_level d)) same ∙ ap (λ (g : Group). rank (level_of g)) are.0 in
      absurd (omega arith);
}

-- so does an operand of a row
in_row : (group : Group) (o : BinaryOperator) (p : Pos) (e : Expr) (m : Members) (tokens rest : List Token) → AreOf (more o p e m) group → Begins (spell_members m) tokens rest → Ends (rank (level_of group)) (Leading (more o p e m)) rest → Ends (rank (level_of group) + 1) e tokens
in_row group o p e end tokens rest are b h = record {
  stops = λ c k l. elim (h.stops c (ap kind_at (sym b) ∙ k) (omega arith)) [
    | inl z ↦
        let here : rank (continued_level c) ≡ rank (level_of group) = ap rank z.0 ∙ ap (λ (g : Group). rank (level_of g)) are.0 in
        absurd (omega arith)
    | inr z ↦ z
  ];
}
in_row group o p e (more x q y m) tokens rest are b h = before_row group e (more x q y m) tokens rest are.3 (ap Some are.3.0) b

-- what ends a row ends its last members
rest_ends : (group : Group) (n : ℕ) (o : BinaryOperator) (p : Pos) (e : Expr) (m : Members) (rest : List Token) → BeginsWith group m → Ends n (Leading (more o p e m)) rest → Ends n (Leading m) rest
rest_ends group n o p e end rest b h = absurd (differ group b)
rest_ends group n o p e (more x q y m) rest b h = record { stops = h.stops }

-- no operator of the row's group follows it
row_over : (group : Group) (m : Members) (rest : List Token) → AreOf m group → Ends (rank (level_of group)) (Leading m) rest → (o : BinaryOperator) → operator_at rest ≡ Some o → group_of o ≡ group → ⊥
row_over group m rest are h o k own =
    let same : rank (level_of (group_of o)) ≡ rank (level_of group) = ap (λ (g : Group). rank (level_of g)) own in
    not_barred o m group are own (h.stops (WithOperator o) (at_sound rest o k) (omega arith))

no_next : (group : Group) (operand : Reader Part) (tokens rest : List Token) → tokens ≡ rest → ((o : BinaryOperator) → operator_at rest ≡ Some o → group_of o ≡ group → ⊥) → next_operation group operand tokens ≡ Some (None, rest)
unfolding next_operation
no_next group operand tokens rest e h =
    ap (λ (ts : List Token). operation_after operand (optional_operator group ts)) e
    ∙ ap (operation_after operand) (optional_stays group rest h)

next_is : (group : Group) (operand : Reader Part) (o : BinaryOperator) (p : Pos) (e : Expr) (h : ℕ) (tokens between after : List Token) → optional_operator group tokens ≡ (Some (o, p), between) → operand between ≡ Some ((e, h), after)
    → next_operation group operand tokens ≡ Some (Some (record { operator = o; pos = p; operand = e }, h), after)
unfolding next_operation
next_is group operand o p e h tokens between after k r =
    ap (operation_after operand) k
    ∙ ap (λ (z : Option (Part × List Token)). z >>= λ y. got (found (pair {A = Operation} (record { operator = o; pos = p; operand = y.0.0 }) y.0.1)) y.1) r

row_complete : (group : Group) (room : ℕ) (operand : Reader Part) → Sound room operand (rank (level_of group) + 1) → Complete room operand (rank (level_of group) + 1) → (m : Members) (tokens rest : List Token) → AreOf m group → deepest m ≤ room
    → Begins (spell_members m) tokens rest → ((o : BinaryOperator) → operator_at rest ≡ Some o → group_of o ≡ group → ⊥) → (BeginsWith group m → Ends (rank (level_of group)) (Leading m) rest) → all_of (next_operation group operand) tokens ≡ Some (list_of m, rest)
unfolding list_of
row_complete group room operand s c end tokens rest are low b over h =
    all_of-step (next_operation group operand) (next_shrinks group room operand (rank (level_of group) + 1) s) tokens ∙ rw (no_next group operand tokens rest b over) refl
row_complete group room operand s c (more o p e m) tokens rest are low b over h =
    let first = Begins-parts (sign_there (sign_of o) p ∷ []) (spell e ++ spell_members m) tokens rest b in
    let second = Begins-parts (spell e) (spell_members m) first.between rest first.second in
    let mine = h (ap Some are.0) in
    let after = in_row group o p e m second.between rest are second.second mine in
    let tight : rank (level_of group) + 1 ≤ rank_of e = let t = are.2 in omega arith in
    let one = c.finds e first.between second.between second.first are.1 tight (omega arith) after in
    let step = next_is group operand o p e (height e) tokens first.between second.between (optional_complete group o p tokens first.between are.0 first.first) one in
    let others = row_complete group room operand s c m second.between rest are.3 (omega arith) second.second over (λ k. rest_ends group (rank (level_of group)) o p e m rest k mine) in
    all_of-step (next_operation group operand) (next_shrinks group room operand (rank (level_of group) + 1) s) tokens ∙ rw (step, others) refl

operations_complete : (group : Group) (room : ℕ) (operand : Reader Part) → Sound room operand (rank (level_of group) + 1) → Complete room operand (rank (level_of group) + 1) → (h : ℕ) (m : Members) (tokens rest : List Token) → AreOf m group → deepest m ≤ room
    → Begins (spell_members m) tokens rest → Ends (rank (level_of group)) (Leading m) rest → operations_at group operand h tokens ≡ Some ((map (λ (x : Operation × ℕ). x.0) (list_of m), max h (highest (list_of m))), rest)
unfolding operations_at
operations_complete group room operand s c h m tokens rest are low b ends = ap (gathered [] h) (row_complete group room operand s c m tokens rest are low b (row_over group m rest are ends) (λ k. ends))

-- ---- levels that are spelled

leading_none : (level : Level) (e : Expr) (tokens rest : List Token) → IsExpr e → rank level < rank_of e → Begins (spell e) tokens rest → leading level tokens ≡ None
unfolding leading
leading_none levels.Junction e tokens rest is t b = none_in levels.Junction tokens (no_lead e tokens rest is t b)
leading_none _ e tokens rest is t b = refl

-- an operand that no operator of the level follows
operand_finds : (room : ℕ) (operand : Reader Part) (level : Level) → Complete room operand (rank level + 1) → (e : Expr) (tokens rest : List Token) → Begins (spell e) tokens rest → IsExpr e → rank level < rank_of e → height e ≤ room → Ends (rank level) e rest
    → level_by room operand level tokens ≡ Some ((e, height e), rest)
unfolding level_by
operand_finds room operand level c e tokens rest b is t low h =
    let one = c.finds e tokens rest b is (omega arith) low (ends_more (rank level) (rank level + 1) e rest (omega arith) h) in
    let none = none_in level rest (λ x k l.
    let same = ap rank l in
    let m = barred_rank (WithOperator x) e is (h.stops (WithOperator x) (at_sound rest x k) (omega arith)) in
    absurd (omega arith)) in
    ap (λ (o : Option BinaryOperator). level_from room operand level o tokens) (leading_none level e tokens rest is t b)
    ∙ ap (λ (z : Option (Part × List Token)). z >>= λ first. after_first room operand first.0 (operator_in level first.1) first.1) one
    ∙ ap (λ (o : Option BinaryOperator). after_first room operand (e, height e) o rest) none

operations_made : (room : ℕ) (first : Expr) (m other : Members) (n h : ℕ) → other ≡ m → h ≡ deepest m → n ≡ max (height first) h → max (height first) (deepest m) + 1 ≤ room
    → (deeper room n >>= λ k. found (pair (Operations first other) k)) ≡ Some (Operations first m, max (height first) (deepest m) + 1)
operations_made room first m other n h e k j l =
    ap (λ (z : Members). deeper room n >>= λ i. found (pair (Operations first z) i)) e
    ∙ ap (λ (z : ℕ). deeper room z >>= λ i. found (pair (Operations first m) i)) (j ∙ ap (max (height first)) k)
    ∙ node_complete room (max (height first) (deepest m)) (Operations first m) l

leading_made : (room : ℕ) (m other : Members) (h : ℕ) → other ≡ m → h ≡ deepest m → deepest m + 1 ≤ room
    → (deeper room (max 0 h) >>= λ k. found (pair (Leading other) k)) ≡ Some (Leading m, deepest m + 1)
leading_made room m other h e k l =
    let same : max 0 h ≡ deepest m = omega arith in
    ap (λ (z : Members). deeper room (max 0 h) >>= λ j. found (pair (Leading z) j)) e
    ∙ ap (λ (n : ℕ). deeper room n >>= λ j. found (pair (Leading m) j)) same
    ∙ node_complete room (deepest m) (Leading m) l

-- operations of this group after an operand
operations_find : (room : ℕ) (operand : Reader Part) (first : Expr) (o : BinaryOperator) (p : Pos) (e : Expr) (m : Members) → Sound room operand (rank (level_of (group_of o)) + 1) → Complete room operand (rank (level_of (group_of o)) + 1)
    → (tokens rest : List Token) → IsExpr first → rank (level_of (group_of o)) < rank_of first → AreOf (more o p e m) (group_of o) → max (height first) (deepest (more o p e m)) + 1 ≤ room
    → Begins (spell first ++ spell_members (more o p e m)) tokens rest → Ends (rank (level_of (group_of o))) (Leading (more o p e m)) rest
    → level_by room operand (level_of (group_of o)) tokens ≡ Some ((Operations first (more o p e m), max (height first) (deepest (more o p e m)) + 1), rest)
unfolding level_by operations_of
operations_find room operand first o p e m s c tokens rest is tight are low b h =
    let q = Begins-parts (spell first) (spell_members (more o p e m)) tokens rest b in
    let after = before_row (group_of o) first (more o p e m) q.between rest are refl q.second in
    let one = c.finds first tokens q.between q.first is (omega arith) (omega arith) after in
    let at = in_complete (level_of (group_of o)) q.between o (operator_there o p (spell e ++ spell_members m) q.between rest q.second) refl in
    let all = operations_complete (group_of o) room operand s c (height first) (more o p e m) q.between rest are (omega arith) q.second h in
    ap (λ (k : Option BinaryOperator). level_from room operand (level_of (group_of o)) k tokens) (leading_none (level_of (group_of o)) first tokens q.between is tight q.first)
    ∙ ap (λ (z : Option (Part × List Token)). z >>= λ x. after_first room operand x.0 (operator_in (level_of (group_of o)) x.1) x.1) one
    ∙ ap (λ (k : Option BinaryOperator). after_first room operand (first, height first) k q.between) at
    ∙ made_if_complete (operations_of room first) (operations_at (group_of o) operand (height first)) (pair (map (λ (x : Operation × ℕ). x.0) (list_of (more o p e m))) (max (height first) (highest (list_of (more o p e m))))) (Operations first (more o p e m), max (height first) (deepest (more o p e m)) + 1) q.between rest all
    (operations_made room first (more o p e m) (row (list_of (more o p e m))) (max (height first) (highest (list_of (more o p e m)))) (highest (list_of (more o p e m))) (row_is (more o p e m)) (highest_is (more o p e m)) refl low)

-- operands that each have their operator before them
leading_find : (room : ℕ) (operand : Reader Part) (o : BinaryOperator) (p : Pos) (e : Expr) (m : Members) → Sound room operand (rank (level_of (group_of o)) + 1) → Complete room operand (rank (level_of (group_of o)) + 1)
    → (tokens rest : List Token) → level_of (group_of o) ≡ levels.Junction → AreOf (more o p e m) (group_of o) → deepest (more o p e m) + 1 ≤ room
    → Begins (spell_members (more o p e m)) tokens rest → Ends (rank (level_of (group_of o))) (Leading (more o p e m)) rest
    → level_by room operand levels.Junction tokens ≡ Some ((Leading (more o p e m), deepest (more o p e m) + 1), rest)
unfolding level_by leading leading_of
leading_find room operand o p e m s c tokens rest j are low b h =
    let at = in_complete levels.Junction tokens o (operator_there o p (spell e ++ spell_members m) tokens rest b) j in
    let all = operations_complete (group_of o) room operand s c 0 (more o p e m) tokens rest are (omega arith) b h in
    ap (λ (k : Option BinaryOperator). level_from room operand levels.Junction k tokens) at
    ∙ made_if_complete (leading_of room) (operations_at (group_of o) operand 0) (pair (map (λ (x : Operation × ℕ). x.0) (list_of (more o p e m))) (max 0 (highest (list_of (more o p e m))))) (Leading (more o p e m), deepest (more o p e m) + 1) tokens rest all
    (leading_made room (more o p e m) (row (list_of (more o p e m))) (highest (list_of (more o p e m))) (row_is (more o p e m)) (highest_is (more o p e m)) low)

own_group : (group : Group) (o : BinaryOperator) (p : Pos) (e : Expr) (m : Members) → BeginsWith group (more o p e m) → AreOf (more o p e m) group → AreOf (more o p e m) (group_of o)
own_group group o p e m h are = subst (λ (g : Group). AreOf (more o p e m) g) (sym (some_is (group_of o) group h)) are

operations_case : (room : ℕ) (operand : Reader Part) (level : Level) → Sound room operand (rank level + 1) → Complete room operand (rank level + 1) → (first : Expr) (m : Members) (tokens rest : List Token) → Begins (spell (Operations first m)) tokens rest → IsExpr (Operations first m)
    → rank level ≤ rank_of (Operations first m) → height (Operations first m) ≤ room → Ends (rank level) (Operations first m) rest → level_by room operand level tokens ≡ Some ((Operations first m, height (Operations first m)), rest)
operations_case room operand level s c first end tokens rest b is t low h = absurd (differ is.0 is.1)
operations_case room operand level s c first (more o p e m) tokens rest b is t low h = elim (same_or_less (rank level) (rank (level_of (group_of o))) t) [
  | inl q ↦
      let same : level_of (group_of o) ≡ level = rank_one (level_of (group_of o)) level (sym q) in
      let mine : group_of o ≡ is.0 = some_is (group_of o) is.0 is.1 in
      let tight : rank (level_of (group_of o)) < rank_of first = subst (λ (g : Group). rank (level_of g) < rank_of first) (sym mine) is.3 in
      let sounds = subst (λ (l : Level). Sound room operand (rank l + 1)) (sym same) s in
      let completes = subst (λ (l : Level). Complete room operand (rank l + 1)) (sym same) c in
      let before = subst (λ (l : Level). Ends (rank l) (Leading (more o p e m)) rest) (sym same) (record { stops = h.stops }) in
      subst (λ (l : Level). level_by room operand l tokens ≡ Some ((Operations first (more o p e m), max (height first) (deepest (more o p e m)) + 1), rest)) same
      (operations_find room operand first o p e m sounds completes tokens rest is.2 tight (own_group is.0 o p e m is.1 is.4) low b before)
  | inr q ↦ operand_finds room operand level c (Operations first (more o p e m)) tokens rest b is q low h
]

leading_case : (room : ℕ) (operand : Reader Part) (level : Level) → Sound room operand (rank level + 1) → Complete room operand (rank level + 1) → (m : Members) (tokens rest : List Token) → Begins (spell (Leading m)) tokens rest → IsExpr (Leading m)
    → rank level ≤ rank_of (Leading m) → height (Leading m) ≤ room → Ends (rank level) (Leading m) rest → level_by room operand level tokens ≡ Some ((Leading m, height (Leading m)), rest)
leading_case room operand level s c end tokens rest b is t low h = absurd (differ is.0 is.1)
leading_case room operand level s c (more o p e m) tokens rest b is t low h = elim (same_or_less (rank level) 2 t) [
  | inl q ↦
      let same : levels.Junction ≡ level = rank_one levels.Junction level (sym q) in
      let mine : group_of o ≡ is.0 = some_is (group_of o) is.0 is.1 in
      let of_junction : level_of (group_of o) ≡ levels.Junction = ap level_of mine ∙ is.2 in
      let there : level_of (group_of o) ≡ level = of_junction ∙ same in
      let sounds = subst (λ (l : Level). Sound room operand (rank l + 1)) (sym there) s in
      let completes = subst (λ (l : Level). Complete room operand (rank l + 1)) (sym there) c in
      let before = subst (λ (l : Level). Ends (rank l) (Leading (more o p e m)) rest) (sym there) h in
      subst (λ (l : Level). level_by room operand l tokens ≡ Some ((Leading (more o p e m), deepest (more o p e m) + 1), rest)) same
      (leading_find room operand o p e m sounds completes tokens rest of_junction (own_group is.0 o p e m is.1 is.3) low b before)
  | inr q ↦ operand_finds room operand level c (Leading (more o p e m)) tokens rest b is q low h
]

pub number_rank : (negative : Bool) → 7 ≤ rank_of_number negative
number_rank true = omega arith
number_rank false = omega arith

level_finds : (room : ℕ) (operand : Reader Part) (level : Level) → rank level < 6 → Sound room operand (rank level + 1) → Complete room operand (rank level + 1) → (e : Expr) (tokens rest : List Token) → Begins (spell e) tokens rest → IsExpr e
    → rank level ≤ rank_of e → height e ≤ room → Ends (rank level) e rest → level_by room operand level tokens ≡ Some ((e, height e), rest)
level_finds room operand level loose s c (Operations first m) tokens rest b is t low h = operations_case room operand level s c first m tokens rest b is t low h
level_finds room operand level loose s c (Leading m) tokens rest b is t low h = leading_case room operand level s c m tokens rest b is t low h
level_finds room operand level loose s c (Number literal) tokens rest b is t low h = let r = number_rank literal.negative in operand_finds room operand level c (Number literal) tokens rest b is (omega arith) low h
level_finds room operand level loose s c e tokens rest b is t low h = operand_finds room operand level c e tokens rest b is (omega arith) low h

pub level_exact : (room : ℕ) (operand : Reader Part) (level : Level) → rank level < 6 → Exact room operand (rank level + 1) → Exact room (level_by room operand level) (rank level)
level_exact room operand level loose x = record {
  sound = record { reads = level_reads room operand level loose x.sound };
  complete = record { finds = level_finds room operand level loose x.sound x.complete };
}

-- ---- a run of levels

-- the rank of the first level, or of the operands
abbrev pub first_rank : List Level → ℕ
first_rank [] = 6
first_rank (level ∷ tighter) = rank level

-- each level is one looser than the next
abbrev pub AreLinked : List Level → Type 0
AreLinked [] = Unit {0}
AreLinked (level ∷ tighter) = (first_rank tighter ≡ rank level + 1) × AreLinked tighter

first_low : (all : List Level) → AreLinked all → first_rank all ≤ 6
first_low [] h = omega arith
first_low (level ∷ tighter) h = let l = first_low tighter h.1 in let e = h.0 in omega arith

pub rows_exact : (room : ℕ) (operand : Reader Part) → Exact room operand 6 → (all : List Level) → AreLinked all → Exact room (rows_by room operand all) (first_rank all)
rows_exact room operand x [] h = x
rows_exact room operand x (level ∷ tighter) h =
    let l = first_low tighter h.1 in
    let e = h.0 in
    level_exact room (rows_by room operand tighter) level (omega arith) (subst (λ (n : ℕ). Exact room (rows_by room operand tighter) n) h.0 (rows_exact room operand x tighter h.1))
