-- What an expression elaborates to is computed: so it elaborates to at most one.
use Rattle.std.proofs.Common.{◌≡◌, Bool, true, false, List, [], ◌∷◌, Option, Some, None, refl, sym, ap, ◌∙◌}
use Rattle.std.specs.Prelude.{if◌then◌else◌, option_map, unwrap_or}
use Rattle.df_base.specs.declared.pos.Pos.{Pos}
use Rattle.df_lang.specs.declared.ty.Ty.{Ty}
use Rattle.df_lang.specs.declared.ty.Ty.TheVariants as types
use Rattle.df_lang.specs.Newtype.{same_type}
use Rattle.df_lang.specs.Expr as typed
use Rattle.df_lemmas.proofs.Numbers.{equal_self}
use Rattle.df_ntree.specs.declared.expr.UnaryOperator.TheVariants as unary
use Rattle.df_ntree.specs.declared.expr.Group.{Group}
use Rattle.df_ntree.specs.declared.expr.Group.TheVariants as groups
use Rattle.df_ntree.specs.declared.expr.TreeType.{TreeType}
use Rattle.df_ntree.specs.Expr.{Expr, Number, Character, Truth, Name, Parentheses, Call, Unary, Cast, Operations, Leading, Members, end, more}
use Rattle.df_ntree.specs.ExprSpelling.{first_group}
use Rattle.df_ntyping.specs.Types.{counted}
use Rattle.df_ntyping.specs.Environment.{Environment}
use Rattle.df_ntyping.specs.ExprTypes.{counted_of, wanted_first, wanted_behind, expected_inside}
use Rattle.df_ntyping.specs.Places.{pos_of}
use Rattle.df_ntyping.specs.ExprElaboration.{Part, ConvertsBy, Converts, AreCasts, IsRun, IsLeading, Elaborates, AreOperands}
use Rattle.df_ntyping.specs.Laws.{OneTyping}
use Rattle.df_ntyping.proofs.Elaborated.{Typed, converted, casts_in, run_in, expr_in, parts_in}

pub same_self : (ty : Ty) → same_type ty ty ≡ true
same_self (types.Newtype a) = equal_self a
same_self types.Int = refl
same_self types.Nat = refl
same_self types.Bool = refl
same_self types.Char = refl

converted_by : (b : Bool) (source target : Ty) (e : Expr) (inner t : typed.Expr) → ConvertsBy b source target e inner t
    → (if b then Some inner else option_map (λ (at : Pos). typed.Convert source target at inner) (pos_of e)) ≡ Some t
converted_by true source target e inner t h = rw h refl
converted_by false source target e inner t (at, p, q) = rw (p, q) refl

pub converts : (source target : Ty) (e : Expr) (inner t : typed.Expr) → Converts source target e inner t → converted target e (source, inner) ≡ Some t
converts source target e inner t h = converted_by (same_type source target) source target e inner t h

casts_complete : (env : Environment) (at : Pos) (source : Ty) (inner : typed.Expr) (all : List TreeType) (ty : Ty) (t : typed.Expr)
    → AreCasts env at source inner all ty t → casts_in env at (source, inner) all ≡ Some (ty, t)
casts_complete env at source inner [] ty t (p, q) = rw (p, q) refl
casts_complete env at source inner (tree ∷ others) ty t (target, p, q, h) = rw (p, q) (casts_complete env at target (typed.As source target at inner) others ty t h)

run_complete : (group : Option Group) (rest : Members) (of : Ty) (first : typed.Expr) (parts : List Part) (ty : Ty) (t : typed.Expr)
    → IsRun group rest of first parts ty t → run_in group rest of first parts ≡ Some (ty, t)
run_complete None rest of first parts ty t h = absurd h
run_complete (Some groups.Sum) rest of first parts ty t (p, q, r) = rw (p, r, q) refl
run_complete (Some groups.Product) rest of first parts ty t (p, q, r) = rw (p, r, q) refl
run_complete (Some groups.Comparison) rest of first parts ty t (p, d, q, r) = rw (p, d, r, q) refl
run_complete (Some groups.Conjunction) rest of first parts ty t (p, q, r) = rw (p, r, q) refl
run_complete (Some groups.Disjunction) rest of first parts ty t (p, q, r) = rw (p, r, q) refl
run_complete (Some groups.Implication) rest of first parts ty t (p, q, r) = rw (p, r, q) refl
run_complete (Some groups.Explication) rest of first parts ty t (p, q, r) = rw (p, r, q) refl
run_complete (Some groups.Equivalence) rest of first parts ty t (p, q, r) = rw (p, r, q) refl

leading_complete : (group : Option Group) (rest : Members) (first : typed.Expr) (parts : List Part) (ty : Ty) (t : typed.Expr)
    → ty ≡ types.Bool → IsLeading group first parts t → run_in group rest types.Bool first parts ≡ Some (ty, t)
leading_complete None rest first parts ty t p h = absurd h
leading_complete (Some groups.Sum) rest first parts ty t p h = absurd h
leading_complete (Some groups.Product) rest first parts ty t p h = absurd h
leading_complete (Some groups.Comparison) rest first parts ty t p h = absurd h
leading_complete (Some groups.Conjunction) rest first parts ty t p h = rw (h, p) refl
leading_complete (Some groups.Disjunction) rest first parts ty t p h = rw (h, p) refl
leading_complete (Some groups.Implication) rest first parts ty t p h = absurd h
leading_complete (Some groups.Explication) rest first parts ty t p h = absurd h
leading_complete (Some groups.Equivalence) rest first parts ty t p h = absurd h

mutual
  pub complete : (env : Environment) (expected : Option Ty) (e : Expr) (ty : Ty) (t : typed.Expr) → Elaborates env expected e ty t → expr_in env expected e ≡ Some (ty, t)
  complete env expected (Number literal) ty t (p, q) = rw (q, p) refl
  complete env expected (Character code pos) ty t (p, q) = rw (q, p) refl
  complete env expected (Truth value pos) ty t (p, q) = rw (q, p) refl
  complete env expected (Name ident) ty t (local, means, known, q) = rw (means, known, q) refl
  complete env expected (Parentheses pos inner) ty t h = complete env expected inner ty t h
  complete env expected (Call callee arguments) ty t h = absurd h
  complete env expected (Unary unary.Negate pos operand) ty t (source, inner, one, h, integer, conversion, p, q) =
      rw (complete env (counted_of expected) operand source inner h, integer, converts source (counted source) operand inner one conversion, q, p) refl
  complete env expected (Unary unary.Not pos operand) ty t (inner, h, p, q) = rw (complete env None operand types.Bool inner h, q, p) refl
  complete env expected (Cast operand all) ty t (source, inner, at, h, begins, cast) =
      rw (begins, complete env None operand source inner h) (casts_complete env at source inner all ty t cast)
  complete env expected (Operations first rest) ty t (of, source, inner, one, parts, h, counting, conversion, operands, run) =
      let wanted = wanted_first env (expected_inside (first_group rest) expected) first rest in
      rw (complete env wanted first source inner h, counting, converts source of first inner one conversion, parts_complete env (wanted_behind env wanted first) of rest parts operands)
      (run_complete (first_group rest) rest of one parts ty t run)
  complete env expected (Leading end) ty t h = absurd h
  complete env expected (Leading (more operator pos operand rest)) ty t (one, parts, h, operands, p, leading) =
      rw (complete env None operand types.Bool one h, parts_complete env None types.Bool rest parts operands)
      (leading_complete (first_group (more operator pos operand rest)) rest one parts ty t p leading)

  pub parts_complete : (env : Environment) (wanted : Option Ty) (of : Ty) (rest : Members) (parts : List Part) → AreOperands env wanted of rest parts → parts_in env wanted of rest ≡ Some parts
  parts_complete env wanted of end parts h = rw h refl
  parts_complete env wanted of (more operator pos operand rest) parts (source, inner, one, others, h, counting, conversion, operands, q) =
      rw (complete env wanted operand source inner h, counting, same_self of, converts source of operand inner one conversion, parts_complete env (wanted_behind env wanted operand) of rest others operands, q) refl

-- the value, or this one
type_or : Typed → Option Typed → Ty
type_or one o = (unwrap_or o one).0

expr_or : Typed → Option Typed → typed.Expr
expr_or one o = (unwrap_or o one).1

pub one_typing : OneTyping
unfolding type_or expr_or
one_typing env expected e ty other t u h k =
    let same = sym (complete env expected e ty t h) ∙ complete env expected e other u k in
    (ap (type_or (ty, t)) same, ap (expr_or (ty, t)) same)
