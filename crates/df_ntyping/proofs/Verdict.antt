-- What the walk over an expression answers is right: of parts with one operand.
use Rattle.std.proofs.Common.{◌≡◌, ◌≢◌, ℕ, ℤ, suc, ◌+◌, ◌<◌, ◌≤◌, Bool, true, false, not, List, [], ◌∷◌, ◌++◌, length, Option, Some, None, Ok, Err, refl, sym, ap, ◌∙◌, subst, ◌⊎◌, inl, inr, arith}
use Rattle.std.specs.Prelude.{Contains, is_some, option_map}
use Rattle.std.proofs.lemmas.List.Elements.{Contains-append_left, Contains-append_right}
use Rattle.df_base.specs.declared.pos.Pos.{Pos}
use Rattle.df_lang.specs.declared.ty.Ty.{Ty}
use Rattle.df_lang.specs.declared.ty.Ty.TheVariants as types
use Rattle.df_lang.specs.Expr as typed
use Rattle.df_ntree.specs.declared.tree.Ident.{Ident}
use Rattle.df_ntree.specs.declared.tree.Literal.{Literal}
use Rattle.df_ntree.specs.declared.expr.UnaryOperator.TheVariants as unary
use Rattle.df_ntree.specs.declared.expr.TreeType.{TreeType}
use Rattle.df_ntree.specs.declared.expr.TreeType.TheVariants as trees
use Rattle.df_ntree.specs.Expr.{Expr, Name, Parentheses, Unary, Cast}
use Rattle.df_ntree.specs.ExprSpelling.{IsExpr}
use Rattle.df_ntyping.specs.Types.{counted, is_integer, casts, arithmetic, literal_type}
use Rattle.df_ntyping.specs.Table.{newtype_of, type_of}
use Rattle.df_ntyping.specs.Environment.{Local, Environment, local_type}
use Rattle.df_ntyping.specs.Meaning.{Meaning, TheLocal, TheMethod, Means, meaning_of}
use Rattle.df_ntyping.specs.Places.{beginning_of, pos_of}
use Rattle.df_ntyping.specs.ExprTypes.{value_of, is_open, open_type, own_type, type_in}
use Rattle.df_ntyping.specs.ExprNodes.{width, occurrence, token_at, type_nodes, cast_nodes, expr_nodes}
use Rattle.df_ntyping.specs.ExprElaboration.{AreCasts, Elaborates}
use Rattle.df_ntyping.specs.Node as nodes
use Rattle.df_ntyping.specs.Node.{Occurrence}
use Rattle.df_ntyping.specs.Rule.{Unknown, stage_of}
use Rattle.df_ntyping.specs.rules.Truths.{is_truth}
use Rattle.df_ntyping.proofs.Order.{alone}
use Rattle.df_ntyping.proofs.ExprOrder.{expr_order, cast_order, some_width, width_parentheses, width_cast}
use Rattle.df_ntyping.proofs.Types.{one_type}
use Rattle.df_ntyping.specs.Rule.{TypingRule as Own}
use Rattle.df_ntyping.specs.Rule as own
use Rattle.df_ntyping.specs.mirror.Parts.{Breach}
use Rattle.df_ntyping.specs.mirror.Parts.{Typed, Answer, and_then, inside, breach, or_start}
use Rattle.df_ntyping.specs.mirror.Literals.{opened_by}
use Rattle.df_ntyping.specs.mirror.Signs.{converted_to}
use Rattle.df_ntyping.specs.mirror.Looking.{local_meant, typed_local, named, negated, denied, finished_by, is_none_left, cast_to, cast_all, cast_by, outer_type}
use Rattle.df_ntyping.proofs.FirstFault.{Silent, NoNames, silent_none, silent_one, named_left, named_right, named_here}
use Rattle.df_ntyping.proofs.Breaking.{used_only, plain_broken, minus_broken, negation_broken, conversion_only, conversion_broken}
use Rattle.df_ntyping.proofs.MeetingTypes.{integer_no_truth, truth_equal}
use Rattle.df_ntyping.proofs.OpenExprs.{Holds, opened_typed}
use Rattle.df_ntyping.proofs.Silent.{silent_of, open_integer, all_hold, type_silent}
use Rattle.df_ntyping.proofs.Standing.{begins_there, converts_there}
use Rattle.df_ntyping.proofs.Found.{Stands, Found, AllBeyond, beyond_one, beyond_segment, found_between, found_in_part, found_later, found_before, found_one}

-- ---- what is known

-- the locals of these names have types
abbrev pub HaveTypes : Environment → List ℕ → Type 0
HaveTypes env names = (name : ℕ) (local : Local) → Contains names name → Means env name (TheLocal local) → (ty : Ty) × (local_type env local.number ≡ Some ty)

pub types_left : (env : Environment) (xs ys : List ℕ) → HaveTypes env (xs ++ ys) → HaveTypes env xs
types_left env xs ys h name local c = h name local (Contains-append_left xs ys name c)

pub types_right : (env : Environment) (xs ys : List ℕ) → HaveTypes env (xs ++ ys) → HaveTypes env ys
types_right env xs ys h name local c = h name local (Contains-append_right xs ys name c)

-- ---- what is answered

-- one that breaks a rule as a whole has this type, if it is known
abbrev pub IsOuter : Environment → Expr → Breach → Type 0
IsOuter env e broken = broken.is_whole ≡ true → own_type env e ≡ outer_type env e

-- it is made of literals, or elaborates
abbrev pub Looked : Environment → Expr → Option Typed → Type 0
Looked env e None = is_open e ≡ true
Looked env e (Some t) = (is_open e ≡ false) × Elaborates env None e t.ty t.expr

-- or the first fault is found
abbrev pub Verdict : Environment → ℕ → Expr → Answer (Option Typed) → Type 0
Verdict env start e (Ok o) = Looked env e o
Verdict env start e (Err broken) = Found (expr_nodes env start e) start (start + width e) broken × IsOuter env e broken

-- an operand that was looked at breaks nothing
pub looked_silent : (env : Environment) (start : ℕ) (e : Expr) (o : Option Typed) → IsExpr e → Looked env e o → Silent (expr_nodes env start e)
looked_silent env start e None g v = let u = opened_by value_of (literal_type None) e in silent_of env start e u.ty u.expr g (opened_typed value_of env None e v (all_hold e))
looked_silent env start e (Some t) g v = silent_of env start e t.ty t.expr g v.1

pub not_outer : (env : Environment) (e : Expr) (rule : Own) (pos : Pos) → IsOuter env e (breach rule pos false)
not_outer env e rule pos p = absurd cc

-- an inner fault of one operand behind which the whole ends
inner_found : (env : Environment) (low high start : ℕ) (operand : Expr) (behind : List Occurrence) (broken : Breach) → IsExpr operand → Found (expr_nodes env start operand) start (start + width operand) broken
    → AllBeyond start (start + width operand) behind → low ≤ start → start + width operand ≤ high → (low < start) ⊎ (start + width operand < high) → Found (expr_nodes env start operand ++ behind) low high (breach broken.rule broken.pos false)
inner_found env low high start operand behind broken g found b p q r =
    found_between low high start start (start + width operand) start (start + width operand) [] (expr_nodes env start operand) behind broken silent_none found (expr_order env start operand g) b p q r

-- ---- names

pub used_alone : (env : Environment) (ident : Ident) (start : ℕ) → NoNames (token_at env (nodes.UsedName ident) start ∷ []) → is_some (meaning_of env ident.name) ≡ true
used_alone env ident start n = by_cases (is_some (meaning_of env ident.name)) (named_here (token_at env (nodes.UsedName ident) start) [] Unknown n refl) where
  by_cases : (b : Bool) → not b ≡ false → b ≡ true
  by_cases true p = refl
  by_cases false p = absurd cc

used_meant : (env : Environment) (ident : Ident) (start : ℕ) → NoNames (expr_nodes env start (Name ident)) → is_some (meaning_of env ident.name) ≡ true
used_meant env ident start n = by_cases (is_some (meaning_of env ident.name)) (named_here (token_at env (nodes.UsedName ident) start) (token_at env (nodes.Plain ident) start ∷ []) Unknown n refl) where
  by_cases : (b : Bool) → not b ≡ false → b ≡ true
  by_cases true p = refl
  by_cases false p = absurd cc

pub name_judged : (env : Environment) (start : ℕ) (ident : Ident) → HaveTypes env (ident.name ∷ []) → NoNames (expr_nodes env start (Name ident)) → (m : Option Meaning) → meaning_of env ident.name ≡ m
    → Verdict env start (Name ident) (named (local_meant env m) ident)
name_judged env start ident h n None p = let wrong : false ≡ true = ap is_some (sym p) ∙ used_meant env ident start n in absurd cc
name_judged env start ident h n (Some (TheLocal local)) p = by_type (h ident.name local (0, omega arith, refl) p) where
  by_type : (ty : Ty) × (local_type env local.number ≡ Some ty) → Verdict env start (Name ident) (typed_local local.number (local_type env local.number) ident)
  by_type (ty, known) = rw known (refl, (local, p, known, refl))
name_judged env start ident h n (Some (TheMethod id signature)) p = (
  found_later start (start + width (Name ident)) (token_at env (nodes.UsedName ident) start ∷ []) (token_at env (nodes.Plain ident) start ∷ []) (breach own.Calls ident.pos true)
      (silent_one _ (used_only env ident start (suc start) (used_meant env ident start n)))
      (found_one start (start + width (Name ident)) (token_at env (nodes.Plain ident) start) own.Calls ident.pos true (rw p refl) (plain_broken env ident start (suc start)) refl (refl, omega arith)),
  λ q. rw p refl,
)

-- ---- parentheses

pub parentheses_judged : (env : Environment) (start : ℕ) (at : Pos) (e : Expr) (answer : Answer (Option Typed)) → IsExpr e → Verdict env (suc start) e answer → Verdict env start (Parentheses at e) (inside answer)
parentheses_judged env start at e (Ok None) g v = v
parentheses_judged env start at e (Ok (Some t)) g v = v
parentheses_judged env start at e (Err broken) g v = (
  found_in_part start (start + width (Parentheses at e)) (suc start) (suc start) (suc start + width e) (suc start) (suc start + width e) (expr_nodes env (suc start) e) (expr_nodes env (suc start) e) broken v.0 v.0.first
      (expr_order env (suc start) e g) (omega arith) (omega (arith, width_parentheses at e)) (inl (omega arith)),
  not_outer env (Parentheses at e) broken.rule broken.pos,
)

-- ---- minus

no_sum : (ty : Ty) → is_integer ty ≡ false → arithmetic (Some ty) (Some ty) ≡ None
no_sum ty p = rw p refl

closed_type : (env : Environment) (expected : Option Ty) (e : Expr) → is_open e ≡ false → type_in env expected e ≡ own_type env e
closed_type env expected e p = rw p refl

pub own_of : (env : Environment) (e : Expr) (t : Typed) → IsExpr e → Looked env e (Some t) → own_type env e ≡ Some t.ty
own_of env e t g v = sym (closed_type env None e v.0) ∙ one_type env None e t.ty t.expr g v.1

whole_end : (start width_of : ℕ) → start + 1 + width_of ≡ start + suc width_of
whole_end start width_of = omega arith

abbrev minus_at : Environment → ℕ → Pos → Expr → Occurrence
minus_at env start at e = occurrence env (nodes.Minus (type_in env None e) at) start (start + 1 + width e)

abbrev negation_at : Environment → ℕ → Pos → Expr → Occurrence
negation_at env start at e = occurrence env (nodes.Negation (type_in env None e) at) start (start + 1 + width e)

pub minus_judged : (env : Environment) (start : ℕ) (at : Pos) (e : Expr) (answer : Answer (Option Typed)) → IsExpr e → Verdict env (suc start) e answer
    → Verdict env start (Unary unary.Negate at e) (and_then (inside answer) (negated at e))
minus_judged env start at e (Ok None) g v = v
minus_judged env start at e (Ok (Some t)) g v = by_cases (is_integer t.ty) refl where
  by_cases : (b : Bool) → is_integer t.ty ≡ b → Verdict env start (Unary unary.Negate at e) (negated at e (Some t))
  by_cases true p = rw p (v.0, (t.ty, t.expr, converted_to (counted t.ty) (or_start (pos_of e)) t, v.1, p, converts_there (counted t.ty) e t g, refl, refl))
  by_cases false p =
      let own_is = own_of env e t g v in
      let known : type_in env None e ≡ Some t.ty = one_type env None e t.ty t.expr g v.1 in
      let one = occurrence env (nodes.Minus (type_in env None e) at) start (start + 1 + width e) in
      rw p (
        found_later start (start + width (Unary unary.Negate at e)) (expr_nodes env (suc start) e) (one ∷ []) (breach own.Arithmetic at true) (looked_silent env (suc start) e (Some t) g v)
            (found_one start (start + width (Unary unary.Negate at e)) one own.Arithmetic at true (rw (known, p) refl) (minus_broken env (type_in env None e) at start (start + 1 + width e)) refl (refl, whole_end start (width e))),
        λ q. rw (own_is, p) refl,
      )
minus_judged env start at e (Err broken) g v = (
  inner_found env start (start + width (Unary unary.Negate at e)) (suc start) e (minus_at env start at e ∷ []) broken g v.0 (beyond_one (suc start) (suc start + width e) (minus_at env start at e) (inr (omega arith, omega arith))) (omega arith) (omega arith) (inl (omega arith)),
  not_outer env (Unary unary.Negate at e) broken.rule broken.pos,
)

-- ---- `!`

pub denied_judged : (env : Environment) (start : ℕ) (at : Pos) (e : Expr) (answer : Answer (Option Typed)) → IsExpr e → Verdict env (suc start) e answer
    → Verdict env start (Unary unary.Not at e) (and_then (inside answer) (denied at))
denied_judged env start at e answer g v = by_answer answer v where
  refused : (ty : Ty) (o : Option Typed) → type_in env None e ≡ Some ty → is_truth ty ≡ false → Looked env e o
      → Found (expr_nodes env start (Unary unary.Not at e)) start (start + width (Unary unary.Not at e)) (breach own.Truths at true) × IsOuter env (Unary unary.Not at e) (breach own.Truths at true)
  refused ty o known p w = (
    found_later start (start + width (Unary unary.Not at e)) (expr_nodes env (suc start) e) (negation_at env start at e ∷ []) (breach own.Truths at true) (looked_silent env (suc start) e o g w)
        (found_one start (start + width (Unary unary.Not at e)) (negation_at env start at e) own.Truths at true (rw (known, p) refl) (negation_broken env (type_in env None e) at start (start + 1 + width e)) refl (refl, whole_end start (width e))),
    λ q. refl,
  )

  by_truth : (t : Typed) (b : Bool) → is_truth t.ty ≡ b → Looked env e (Some t) → Verdict env start (Unary unary.Not at e) (denied at (Some t))
  by_truth t true p w =
      let bool : t.ty ≡ types.Bool = truth_equal t.ty p in
      rw p (refl, (t.expr, subst (λ (u : Ty). Elaborates env None e u t.expr) bool w.1, refl, refl))
  by_truth t false p w = rw p (refused t.ty (Some t) (one_type env None e t.ty t.expr g w.1) p w)

  by_answer : (a : Answer (Option Typed)) → Verdict env (suc start) e a → Verdict env start (Unary unary.Not at e) (and_then (inside a) (denied at))
  by_answer (Ok None) w = refused (open_type None e) None (rw w refl) (integer_no_truth (open_type None e) (open_integer None e)) w
  by_answer (Ok (Some t)) w = by_truth t (is_truth t.ty) refl w
  by_answer (Err broken) w = (
    inner_found env start (start + width (Unary unary.Not at e)) (suc start) e (negation_at env start at e ∷ []) broken g w.0 (beyond_one (suc start) (suc start + width e) (negation_at env start at e) (inr (omega arith, omega arith))) (omega arith) (omega arith) (inl (omega arith)),
    not_outer env (Unary unary.Not at e) broken.rule broken.pos,
  )

-- ---- `as`

no_target : (env : Environment) (start : ℕ) (tree : TreeType) → NoNames (type_nodes env start tree) → type_of env.table.newtypes tree ≡ None → ⊥
no_target env start (trees.Basic basic pos) n p = cc
no_target env start (trees.Named ident) n p = by_cases (newtype_of env.table.newtypes ident.name) p (named_here (token_at env (nodes.UsedType ident) start) [] Unknown n refl) where
  by_cases : (o : Option ℕ) → option_map types.Newtype o ≡ None → not (is_some o) ≡ false → ⊥
  by_cases None q r = cc
  by_cases (Some id) q r = cc

abbrev pub CastVerdict : Environment → ℕ → Pos → ℕ → Typed → List TreeType → Answer Typed → Type 0
CastVerdict env start at word t all (Ok done) = AreCasts env at t.ty t.expr all done.ty done.expr
CastVerdict env start at word t all (Err broken) = Found (cast_nodes env start (Some at) word (Some t.ty) all) start (word + (length all + length all)) broken

-- the first of the row is as long as the whole where it is the last
cast_stands : (env : Environment) (start word : ℕ) (source target : Option Ty) (pos : Option Pos) (others : List TreeType) → start ≤ word
    → Stands (is_none_left others) start (word + (suc (length others) + suc (length others))) (occurrence env (nodes.Conversion source target pos) start (word + 2))
cast_stands env start word source target pos [] p = (refl, omega arith)
cast_stands env start word source target pos (tree ∷ others) p = (omega arith, omega arith, inr (omega arith))

abbrev pub cast_step : Pos → Typed → Ty → Typed
cast_step at t target = record { ty = target; expr = typed.As t.ty target at t.expr }

cast_later : (env : Environment) (start : ℕ) (at : Pos) (word : ℕ) (t : Typed) (tree : TreeType) (others : List TreeType) (target : Ty) → type_of env.table.newtypes tree ≡ Some target → casts t.ty target ≡ true → (answer : Answer Typed)
    → CastVerdict env start at (word + 2) (cast_step at t target) others answer → CastVerdict env start at word t (tree ∷ others) answer
cast_later env start at word t tree others target known c (Ok done) v = (target, known, c, v)
cast_later env start at word t tree others target known c (Err broken) v =
    let high = word + 2 + (length others + length others) in
    let one = occurrence env (nodes.Conversion (Some t.ty) (Some target) (Some at)) start (word + 2) in
    let all : Found (type_nodes env (suc word) tree ++ one ∷ cast_nodes env start (Some at) (word + 2) (Some target) others) start high broken =
    found_later start high (type_nodes env (suc word) tree) (one ∷ cast_nodes env start (Some at) (word + 2) (Some target) others) broken (type_silent env (suc word) tree target known)
    (found_later start high (one ∷ []) (cast_nodes env start (Some at) (word + 2) (Some target) others) broken (silent_one one (conversion_only env (Some t.ty) (Some target) (Some at) start (word + 2) c)) v) in
    let same : high ≡ word + (suc (length others) + suc (length others)) = omega arith in
    rw known (subst (λ (h : ℕ). Found (type_nodes env (suc word) tree ++ one ∷ cast_nodes env start (Some at) (word + 2) (Some target) others) start h broken) same all)

cast_refused : (env : Environment) (start : ℕ) (at : Pos) (word : ℕ) (t : Typed) (tree : TreeType) (others : List TreeType) (target : Ty) → start < word → type_of env.table.newtypes tree ≡ Some target → casts t.ty target ≡ false
    → CastVerdict env start at word t (tree ∷ others) (Err (breach own.Casts at (is_none_left others)))
cast_refused env start at word t tree others target p known c =
    let high = word + (suc (length others) + suc (length others)) in
    let one = occurrence env (nodes.Conversion (Some t.ty) (Some target) (Some at)) start (word + 2) in
    let rest = cast_nodes env start (Some at) (word + 2) (Some target) others in
    let here : Found (one ∷ []) start high (breach own.Casts at (is_none_left others)) =
    found_one start high one own.Casts at (is_none_left others) (rw c refl) (conversion_broken env (Some t.ty) (Some target) (Some at) start (word + 2)) refl (cast_stands env start word (Some t.ty) (Some target) (Some at) others (omega arith)) in
    let more : Found (one ∷ rest) start high (breach own.Casts at (is_none_left others)) =
    found_before start high start word (word + 2) (one ∷ []) rest (breach own.Casts at (is_none_left others)) here
    (alone start word (word + 2) one (record { begins = omega arith; behind = omega arith; ends = omega arith }))
    (beyond_segment start (word + 2) start (word + 2) (word + 2 + (length others + length others)) rest (cast_order env start (Some at) (word + 2) (Some target) others (omega arith)) (omega arith)) in
    rw known (found_later start high (type_nodes env (suc word) tree) (one ∷ rest) (breach own.Casts at (is_none_left others)) (type_silent env (suc word) tree target known) more)

cast_one : (env : Environment) (start : ℕ) (at : Pos) (word : ℕ) (t : Typed) (tree : TreeType) (others : List TreeType) → start < word → NoNames (cast_nodes env start (Some at) word (Some t.ty) (tree ∷ others))
    → ((target : Ty) → NoNames (cast_nodes env start (Some at) (word + 2) (Some target) others) → CastVerdict env start at (word + 2) (cast_step at t target) others (cast_all env at (cast_step at t target) others))
    → (known : Option Ty) → type_of env.table.newtypes tree ≡ known
    → CastVerdict env start at word t (tree ∷ others) (and_then (cast_to at t known (is_none_left others)) (λ (one : Typed). cast_all env at one others))
cast_one env start at word t tree others p n rec None known = absurd (no_target env (suc word) tree (named_left (type_nodes env (suc word) tree) _ n) known)
cast_one env start at word t tree others p n rec (Some target) known = by_casts (casts t.ty target) refl where
  inner : NoNames (cast_nodes env start (Some at) (word + 2) (Some target) others)
  inner =
      let one = occurrence env (nodes.Conversion (Some t.ty) (Some target) (Some at)) start (word + 2) in
      let all : NoNames (type_nodes env (suc word) tree ++ one ∷ cast_nodes env start (Some at) (word + 2) (Some target) others) = rw known at n in
      named_right (one ∷ []) (cast_nodes env start (Some at) (word + 2) (Some target) others) (named_right (type_nodes env (suc word) tree) (one ∷ cast_nodes env start (Some at) (word + 2) (Some target) others) all)

  by_casts : (b : Bool) → casts t.ty target ≡ b
      → CastVerdict env start at word t (tree ∷ others) (and_then (cast_to at t (Some target) (is_none_left others)) (λ (one : Typed). cast_all env at one others))
  by_casts true c = rw c (cast_later env start at word t tree others target known c (cast_all env at (cast_step at t target) others) (rec target inner))
  by_casts false c = rw c (cast_refused env start at word t tree others target p known c)

pub casts_judged : (env : Environment) (start : ℕ) (at : Pos) (word : ℕ) (t : Typed) (all : List TreeType) → start < word → NoNames (cast_nodes env start (Some at) word (Some t.ty) all) → CastVerdict env start at word t all (cast_all env at t all)
casts_judged env start at word t [] p n = (refl, refl)
casts_judged env start at word t (tree ∷ others) p n =
    cast_one env start at word t tree others p n (λ target m. casts_judged env start at (word + 2) (cast_step at t target) others (omega arith) m) (type_of env.table.newtypes tree) refl

-- an operand, as an `int` where it is made of literals
pub finished_typed : (value : Literal → ℤ) (env : Environment) (e : Expr) (o : Option Typed) → Holds value e → Looked env e o → Elaborates env None e (finished_by value types.Int e o).ty (finished_by value types.Int e o).expr
finished_typed value env e None h v = opened_typed value env None e v h
finished_typed value env e (Some t) h v = v.1

cast_whole : (env : Environment) (start : ℕ) (e : Expr) (all : List TreeType) (t : Typed) (answer : Answer Typed) → IsExpr e → Elaborates env None e t.ty t.expr
    → CastVerdict env start (or_start (beginning_of e)) (start + width e) t all answer → Verdict env start (Cast e all) (and_then answer (λ (done : Typed). Ok (Some done)))
cast_whole env start e all t (Ok done) g h v = (refl, (t.ty, t.expr, or_start (beginning_of e), h, begins_there e g, v))
cast_whole env start e all t (Err broken) g h v =
    let known : type_in env None e ≡ Some t.ty = one_type env None e t.ty t.expr g h in
    let same : start + width e + (length all + length all) ≡ start + width (Cast e all) = omega (arith, width_cast e all) in
    let found : Found (cast_nodes env start (Some (or_start (beginning_of e))) (start + width e) (Some t.ty) all) start (start + width (Cast e all)) broken =
    subst (λ (h : ℕ). Found (cast_nodes env start (Some (or_start (beginning_of e))) (start + width e) (Some t.ty) all) start h broken) same v in
    (rw (known, begins_there e g) (found_later start (start + width (Cast e all)) (expr_nodes env start e) _ broken (silent_of env start e t.ty t.expr g h) found), λ q. refl)

some_types : (all : List TreeType) → all ≢ [] → 0 < length all
some_types [] p = absurd (p refl)
some_types (tree ∷ all) p = omega arith

pub cast_judged : (value : Literal → ℤ) (env : Environment) (start : ℕ) (e : Expr) (all : List TreeType) (answer : Answer (Option Typed)) → all ≢ [] → IsExpr e → Holds value e → NoNames (expr_nodes env start (Cast e all)) → Verdict env start e answer
    → Verdict env start (Cast e all) (and_then (inside answer) (cast_by value env e all))
cast_judged value env start e all (Ok o) some g h n v =
    let t = finished_by value types.Int e o in
    let k = finished_typed value env e o h v in
    let known : type_in env None e ≡ Some t.ty = one_type env None e t.ty t.expr g k in
    let named : NoNames (cast_nodes env start (Some (or_start (beginning_of e))) (start + width e) (Some t.ty) all) =
    rw (known, begins_there e g) at (named_right (expr_nodes env start e) (cast_nodes env start (beginning_of e) (start + width e) (type_in env None e) all) n) in
    cast_whole env start e all t (cast_all env (or_start (beginning_of e)) t all) g k
    (casts_judged env start (or_start (beginning_of e)) (start + width e) t all (omega (arith, some_width e g)) named)
cast_judged value env start e all (Err broken) some g h n v = (
  inner_found env start (start + width (Cast e all)) start e (cast_nodes env start (beginning_of e) (start + width e) (type_in env None e) all) broken g v.0
      (beyond_segment start (start + width e) start (start + width e) (start + width e + (length all + length all)) _ (cast_order env start (beginning_of e) (start + width e) (type_in env None e) all (omega arith)) (omega arith))
      (omega arith) (omega (arith, width_cast e all)) (inr (omega (arith, width_cast e all, some_types all some))),
  not_outer env (Cast e all) broken.rule broken.pos,
)
