-- Each expression of the grammar stands somewhere, and operands are converted there.
use Rattle.std.proofs.Common.{◌≡◌, Bool, true, false, Option, Some, None, refl}
use Rattle.df_base.specs.declared.pos.Pos.{Pos}
use Rattle.df_lang.specs.declared.ty.Ty.{Ty}
use Rattle.df_lang.specs.Newtype.{same_type}
use Rattle.df_ntree.specs.declared.expr.Group.{Group}
use Rattle.df_ntree.specs.declared.expr.Group.TheVariants as groups
use Rattle.df_ntree.specs.Expr.{Expr, Number, Character, Truth, Name, Parentheses, Call, Unary, Cast, Operations, Leading, Members, end, more}
use Rattle.df_ntree.specs.ExprSpelling.{first_group, IsExpr}
use Rattle.df_ntyping.specs.Places.{first_sign, last_sign, beginning_of, pos_of_run, pos_of}
use Rattle.df_ntyping.specs.ExprElaboration.{Converts}
use Rattle.df_ntyping.specs.mirror.Parts.{Typed, or_start}
use Rattle.df_ntyping.specs.mirror.Signs.{converted_to}

some_group : (rest : Members) (g : Group) → first_group rest ≡ Some g → (at : Pos) × (first_sign rest ≡ Some at)
some_group end g p = absurd cc
some_group (more operator at operand rest) g p = (at, refl)

pub begins : (e : Expr) → IsExpr e → (at : Pos) × (beginning_of e ≡ Some at)
begins (Number literal) g = (literal.pos, refl)
begins (Character code at) g = (at, refl)
begins (Truth b at) g = (at, refl)
begins (Name ident) g = (ident.pos, refl)
begins (Parentheses at inner) g = (at, refl)
begins (Call callee arguments) g = begins callee g.0
begins (Unary operator at operand) g = (at, refl)
begins (Cast operand all) g = begins operand g.0
begins (Operations first rest) g = begins first g.2
begins (Leading operations) g = some_group operations g.0 g.1

some_last : (before : Pos) (rest : Members) → (at : Pos) × (last_sign (Some before) rest ≡ Some at)
some_last before end = (before, refl)
some_last before (more operator at operand rest) = some_last at rest

last_of : (rest : Members) (g : Group) → first_group rest ≡ Some g → (at : Pos) × (last_sign None rest ≡ Some at)
last_of end g p = absurd cc
last_of (more operator at operand rest) g p = some_last at rest

run_stands : (group : Option Group) (rest : Members) (g : Group) → first_group rest ≡ Some g → (at : Pos) × (pos_of_run group rest ≡ Some at)
run_stands (Some groups.Implication) rest g p = some_group rest g p
run_stands (Some groups.Comparison) rest g p = some_group rest g p
run_stands group rest g p = last_of rest g p

pub stands : (e : Expr) → IsExpr e → (at : Pos) × (pos_of e ≡ Some at)
stands (Operations first rest) g = run_stands (first_group rest) rest g.0 g.1
stands (Leading operations) g = last_of operations g.0 g.1
stands e g = begins e g

started : (o : Option Pos) → (at : Pos) × (o ≡ Some at) → o ≡ Some (or_start o)
started o (at, p) = rw p refl

pub begins_there : (e : Expr) → IsExpr e → beginning_of e ≡ Some (or_start (beginning_of e))
begins_there e g = started (beginning_of e) (begins e g)

pub stands_there : (e : Expr) → IsExpr e → pos_of e ≡ Some (or_start (pos_of e))
stands_there e g = started (pos_of e) (stands e g)

pub sign_there : (rest : Members) (g : Group) → first_group rest ≡ Some g → first_sign rest ≡ Some (or_start (first_sign rest))
sign_there rest g p = started (first_sign rest) (some_group rest g p)

-- ---- conversions

pub converts_there : (target : Ty) (e : Expr) (t : Typed) → IsExpr e → Converts t.ty target e t.expr (converted_to target (or_start (pos_of e)) t)
converts_there target e t g = by_cases (same_type t.ty target) refl where
  by_cases : (b : Bool) → same_type t.ty target ≡ b → Converts t.ty target e t.expr (converted_to target (or_start (pos_of e)) t)
  by_cases true p = rw p refl
  by_cases false p = rw p (or_start (pos_of e), stands_there e g, refl)
