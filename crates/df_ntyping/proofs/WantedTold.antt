-- What is asked of a whole expression is told, and the laws of typing.
use Rattle.std.proofs.Common.{◌≡◌, ℕ, ℤ, ◌+◌, ◌^◌, ◌≤◌, arith, Bool, true, false, List, Option, Some, None, Ok, Err, refl, sym, ap, ◌∙◌, subst, ◌⊎◌, inl, inr}
use Rattle.std.specs.Prelude.{nat_lt}
use Rattle.std.proofs.lemmas.Bool.{and_parts}
use Rattle.df_lang.specs.declared.ty.Ty.{Ty}
use Rattle.df_lang.specs.declared.ty.Ty.TheVariants as types
use Rattle.df_lang.specs.Expr as typed
use Rattle.df_ntree.specs.declared.tree.Literal.{Literal}
use Rattle.df_ntree.specs.Expr.{Expr, Number, Character, Truth, Name, Parentheses, Call, Unary, Cast, Operations, Leading, Members, end, more, Arguments, no_more, argument}
use Rattle.df_ntree.specs.ExprSpelling.{spell, spell_number, spell_members, spell_arguments, spell_further, IsExpr}
use Rattle.df_ntyping.specs.Literals.{AreInRange}
use Rattle.df_ntyping.specs.Types.{fits_or_narrows, if_known, literal_type}
use Rattle.df_ntyping.specs.Environment.{Environment}
use Rattle.df_ntyping.specs.ExprTypes.{value_of}
use Rattle.df_ntyping.specs.ExprNodes.{width, expr_nodes}
use Rattle.df_ntyping.specs.ExprElaboration.{Elaborates, ElaboratesAt}
use Rattle.df_ntyping.specs.LocalTypes.{names_in}
use Rattle.df_ntyping.specs.Node.{Occurrence, node_name}
use Rattle.df_ntyping.specs.Rule.{Rule, Unknown, Twice, Typing, Uninferred, Range, stage_of, code_of, detail_of}
use Rattle.df_ntyping.specs.Least.{Fault, IsFault, Tells, IsTold}
use Rattle.df_ntyping.specs.Wanted as wanteds
use Rattle.df_ntyping.specs.Wanted.{Wanted, IsWanted, wanted_nodes}
use Rattle.df_ntyping.specs.Laws.{FaultlessIsTyped, FaultlessIsWanted, WantedIsFaultless}
use Rattle.df_ntyping.proofs.First.{told_in}
use Rattle.df_ntyping.proofs.Types.{one_type}
use Rattle.df_ntyping.proofs.TypedIsWellTyped.{all_left, all_right}
use Rattle.df_ntyping.specs.mirror.Parts.{Breach}
use Rattle.df_ntyping.specs.mirror.Parts.{Typed, Answer, and_then, refusal_of, type_of_operand}
use Rattle.df_ntyping.specs.mirror.Literals.{limited_value, opened_by}
use Rattle.df_ntyping.specs.mirror.Signs.{is_truth_side, settled_by}
use Rattle.df_ntyping.specs.mirror.Looking.{finished_by, goes_to, given, asked, look_by}
use Rattle.df_ntyping.specs.mirror.Wanting.{wanted_by}
use Rattle.df_ntyping.proofs.FirstFault.{Silent, NoNames, silent_one, silent_both, silent_left, named_both, named_one}
use Rattle.df_ntyping.proofs.Breaking.{value_only, value_rule, condition_only, condition_rule}
use Rattle.df_ntyping.proofs.MeetingTypes.{literal_of_integer, truth_equal}
use Rattle.df_ntyping.proofs.OpenExprs.{Holds, HoldAll, HoldArguments, opened_typed, any_expected}
use Rattle.df_ntyping.proofs.Silent.{silent_of, none_expected, all_hold}
use Rattle.df_ntyping.proofs.Standing.{converts_there}
use Rattle.df_ntyping.proofs.Found.{Found}
use Rattle.df_ntyping.proofs.Verdict.{HaveTypes, Looked, Verdict, finished_typed}
use Rattle.df_ntyping.proofs.Giving.{GivenVerdict, AskedVerdict, value_judged, condition_judged, goes_so}
use Rattle.df_ntyping.proofs.Judged.{judged}

-- ---- literals that tokens spell have their values

limited : (literal : Literal) (b : Bool) → nat_lt literal.magnitude (2 ^ 127) ≡ b → b ≡ true → limited_value literal ≡ value_of literal
limited literal true p q = rw p refl
limited literal false p q = absurd cc

number_limited : (literal : Literal) (b : Bool) → literal.negative ≡ b → AreInRange (spell_number literal) → limited_value literal ≡ value_of literal
number_limited literal true p r =
    let parts = and_parts (nat_lt literal.magnitude (2 ^ 127)) true (rw p at r) in
    limited literal (nat_lt literal.magnitude (2 ^ 127)) refl parts.0
number_limited literal false p r =
    let parts = and_parts (nat_lt literal.magnitude (2 ^ 127)) true (rw p at r) in
    limited literal (nat_lt literal.magnitude (2 ^ 127)) refl parts.0

mutual
  pub limits : (e : Expr) → AreInRange (spell e) → Holds limited_value e
  limits (Number literal) r = number_limited literal literal.negative refl r
  limits (Character code at) r = tt
  limits (Truth b at) r = tt
  limits (Name ident) r = tt
  limits (Parentheses at inner) r = limits inner (all_left (spell inner) _ r)
  limits (Call callee arguments) r = (limits callee (all_left (spell callee) _ r), argument_limits arguments (all_left (spell_arguments arguments) _ (all_right (spell callee) _ r)))
  limits (Unary operator at operand) r = limits operand r
  limits (Cast operand all) r = limits operand (all_left (spell operand) _ r)
  limits (Operations first rest) r = (limits first (all_left (spell first) (spell_members rest) r), member_limits rest (all_right (spell first) (spell_members rest) r))
  limits (Leading operations) r = member_limits operations r

  member_limits : (rest : Members) → AreInRange (spell_members rest) → HoldAll limited_value rest
  member_limits end r = tt
  member_limits (more operator at operand rest) r = (limits operand (all_left (spell operand) (spell_members rest) r), member_limits rest (all_right (spell operand) (spell_members rest) r))

  argument_limits : (arguments : Arguments) → AreInRange (spell_arguments arguments) → HoldArguments limited_value arguments
  argument_limits no_more r = tt
  argument_limits (argument e rest) r = (limits e (all_left (spell e) (spell_further rest) r), further_limits rest (all_right (spell e) (spell_further rest) r))

  further_limits : (arguments : Arguments) → AreInRange (spell_further arguments) → HoldArguments limited_value arguments
  further_limits no_more r = tt
  further_limits (argument e rest) r = (limits e (all_left (spell e) (spell_further rest) r), further_limits rest (all_right (spell e) (spell_further rest) r))

-- ---- what is asked of the whole

abbrev pub WantedVerdict : Environment → ℕ → Wanted → Expr → Answer Typed → Type 0
WantedVerdict env start wanted e (Ok t) = IsWanted env wanted e t.ty t.expr
WantedVerdict env start wanted e (Err broken) = Found (wanted_nodes env start wanted e) start (start + width e) broken

nothing_wanted : (value : Literal → ℤ) (env : Environment) (start : ℕ) (e : Expr) (answer : Answer (Option Typed)) → Holds value e → Verdict env start e answer → WantedVerdict env start wanteds.Nothing e (and_then answer (λ (o : Option Typed). Ok (finished_by value types.Int e o)))
nothing_wanted value env start e (Ok o) h v = finished_typed value env e o h v
nothing_wanted value env start e (Err broken) h v = v.0

truth_made : (value : Literal → ℤ) (env : Environment) (e : Expr) (o : Option Typed) → is_truth_side (type_of_operand o) ≡ true → Looked env e o → IsWanted env wanteds.Truth e (finished_by value types.Int e o).ty (finished_by value types.Int e o).expr
truth_made value env e None p v = absurd cc
truth_made value env e (Some t) p v = let bool : t.ty ≡ types.Bool = truth_equal t.ty p in (subst (λ (ty : Ty). Elaborates env None e ty t.expr) bool v.1, bool)

truth_wanted : (value : Literal → ℤ) (env : Environment) (start : ℕ) (e : Expr) (answer : Answer (Option Typed)) → AskedVerdict env start e answer → WantedVerdict env start wanteds.Truth e (and_then answer (λ (o : Option Typed). Ok (finished_by value types.Int e o)))
truth_wanted value env start e (Ok o) v = truth_made value env e o v.0 v.1
truth_wanted value env start e (Err broken) v = v

place_made : (value : Literal → ℤ) (env : Environment) (place : Ty) (e : Expr) (o : Option Typed) → IsExpr e → Holds value e → goes_to o (Some place) ≡ true → Looked env e o → ElaboratesAt env place e (settled_by value place e o)
place_made value env place e (Some t) x h p v = (t.ty, t.expr, any_expected env None (Some place) e t.ty t.expr v.0 v.1, p, converts_there place e t x)
place_made value env place e None x h p v =
    let u = opened_by value place e in
    let k : Elaborates env (Some place) e u.ty u.expr =
    subst (λ (ty : Ty). Elaborates env (Some place) e (opened_by value ty e).ty (opened_by value ty e).expr) (literal_of_integer place p) (opened_typed value env (Some place) e v h) in
    let goes : if_known fits_or_narrows (Some u.ty) (Some place) ≡ true =
    subst (λ (own : Option Ty). if_known fits_or_narrows own (Some place) ≡ true) (one_type env (Some place) e u.ty u.expr x k) (goes_so env (Some place) e None x v ∙ p) in
    (u.ty, u.expr, k, goes, converts_there place e u x)

place_wanted : (value : Literal → ℤ) (env : Environment) (start : ℕ) (place : Ty) (e : Expr) (answer : Answer (Option Typed)) → IsExpr e → Holds value e → GivenVerdict env start (Some place) e answer
    → WantedVerdict env start (wanteds.Place place) e (and_then answer (λ (o : Option Typed). Ok (record { ty = place; expr = settled_by value place e o })))
place_wanted value env start place e (Ok o) x h v = (place_made value env place e o x h v.1 v.2, refl)
place_wanted value env start place e (Err broken) x h v = v

pub wanted_judged : (value : Literal → ℤ) (env : Environment) (start : ℕ) (wanted : Wanted) (e : Expr) → IsExpr e → Holds value e → HaveTypes env (names_in e) → NoNames (expr_nodes env start e) → WantedVerdict env start wanted e (wanted_by value env wanted e)
wanted_judged value env start wanteds.Nothing e x h t n = nothing_wanted value env start e (look_by value env e) h (judged value env start e x h t n)
wanted_judged value env start wanteds.Truth e x h t n = truth_wanted value env start e (asked env e (look_by value env e)) (condition_judged env start e (look_by value env e) x (judged value env start e x h t n))
wanted_judged value env start (wanteds.Place place) e x h t n =
    place_wanted value env start place e (given env (Some place) e (look_by value env e)) x h (value_judged env start (Some place) e (look_by value env e) x (judged value env start e x h t n))

-- ---- what is told

stages : (rule : Rule) → (stage_of rule ≡ 0) ⊎ (stage_of rule ≡ 1)
stages Unknown = inl refl
stages Twice = inl refl
stages (Typing rule) = inr refl
stages Uninferred = inr refl
stages Range = inr refl

pub found_told : (nodes : List Occurrence) (low high : ℕ) (broken : Breach) → NoNames nodes → Found nodes low high broken → IsTold nodes (refusal_of broken)
found_told nodes low high broken n found = (told_in 1 nodes found.fault (refusal_of broken) found.first.is (λ other h. earliest other h (stages other.rule)) tells).0 where
  earliest : (other : Fault) → IsFault nodes other → (stage_of other.rule ≡ 0) ⊎ (stage_of other.rule ≡ 1) → 1 ≤ stage_of other.rule
  earliest other h (inl p) = absurd (n.none other (h, p))
  earliest other h (inr p) = omega arith

  tells : Tells found.fault (refusal_of broken)
  tells = record { code = sym (ap code_of found.rule); pos = found.pos; detail = ap (λ (rule : Rule). detail_of rule (node_name found.fault.at.node)) found.rule }

pub wanted_named : (env : Environment) (wanted : Wanted) (e : Expr) → NoNames (expr_nodes env 0 e) → NoNames (wanted_nodes env 0 wanted e)
wanted_named env wanteds.Nothing e n = n
wanted_named env wanteds.Truth e n = named_both (expr_nodes env 0 e) _ n (named_one _ (λ rule h p. let same : stage_of rule ≡ 1 = ap stage_of (condition_rule env e rule h) in let wrong : 1 ≡ 0 = sym same ∙ p in cc))
wanted_named env (wanteds.Place place) e n = named_both (expr_nodes env 0 e) _ n (named_one _ (λ rule h p. let same : stage_of rule ≡ 1 = ap stage_of (value_rule env (Some place) e rule h) in let wrong : 1 ≡ 0 = sym same ∙ p in cc))

-- ---- the laws

silent_named : (nodes : List Occurrence) → Silent nodes → NoNames nodes
silent_named nodes s = record { none = λ fault h. s.none fault h.0 }

typed_so : (env : Environment) (expected : Option Ty) (e : Expr) (answer : Answer (Option Typed)) → Silent (expr_nodes env 0 e) → Verdict env 0 e answer → (ty : Ty) × (t : typed.Expr) × Elaborates env expected e ty t
typed_so env expected e (Ok None) s v = let u = opened_by value_of (literal_type expected) e in (u.ty, u.expr, opened_typed value_of env expected e v (all_hold e))
typed_so env expected e (Ok (Some t)) s v = (t.ty, t.expr, any_expected env None expected e t.ty t.expr v.0 v.1)
typed_so env expected e (Err broken) s v = absurd (s.none v.0.fault v.0.first.is.broken.0)

pub faultless_is_typed : FaultlessIsTyped
faultless_is_typed env expected e x t none =
    let s : Silent (expr_nodes env 0 e) = record { none = none } in
    typed_so env expected e (look_by value_of env e) s (judged value_of env 0 e x (all_hold e) t (silent_named (expr_nodes env 0 e) s))

wanted_silent : (env : Environment) (wanted : Wanted) (e : Expr) → Silent (wanted_nodes env 0 wanted e) → Silent (expr_nodes env 0 e)
wanted_silent env wanteds.Nothing e s = s
wanted_silent env wanteds.Truth e s = silent_left (expr_nodes env 0 e) _ s
wanted_silent env (wanteds.Place place) e s = silent_left (expr_nodes env 0 e) _ s

wanted_so : (env : Environment) (wanted : Wanted) (e : Expr) (answer : Answer Typed) → Silent (wanted_nodes env 0 wanted e) → WantedVerdict env 0 wanted e answer → (ty : Ty) × (t : typed.Expr) × IsWanted env wanted e ty t
wanted_so env wanted e (Ok t) s v = (t.ty, t.expr, v)
wanted_so env wanted e (Err broken) s v = absurd (s.none v.fault v.first.is.broken.0)

pub faultless_is_wanted : FaultlessIsWanted
faultless_is_wanted env wanted e x t none =
    let s : Silent (wanted_nodes env 0 wanted e) = record { none = none } in
    wanted_so env wanted e (wanted_by value_of env wanted e) s (wanted_judged value_of env 0 wanted e x (all_hold e) t (silent_named (expr_nodes env 0 e) (wanted_silent env wanted e s)))

typed_silent : (env : Environment) (wanted : Wanted) (e : Expr) (ty : Ty) (t : typed.Expr) → IsExpr e → IsWanted env wanted e ty t → Silent (wanted_nodes env 0 wanted e)
typed_silent env wanteds.Nothing e ty t x h = silent_of env 0 e ty t x h
typed_silent env wanteds.Truth e ty t x h =
    silent_both (expr_nodes env 0 e) _ (silent_of env 0 e types.Bool t x h.0) (silent_one _ (condition_only env e 0 (0 + width e) (rw (one_type env None e types.Bool t x h.0) refl)))
typed_silent env (wanteds.Place place) e ty t x ((source, inner, k, goes, conversion), p) =
    let (own, u, l) = none_expected env (Some place) e source inner k in
    silent_both (expr_nodes env 0 e) _ (silent_of env 0 e own u x l) (silent_one _ (value_only env (Some place) e 0 (0 + width e) (rw (one_type env (Some place) e source inner x k) goes)))

pub wanted_is_faultless : WantedIsFaultless
wanted_is_faultless env wanted e ty t x h = (typed_silent env wanted e ty t x h).none
