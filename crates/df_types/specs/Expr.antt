-- Typed expressions as contracts see them: ten forms.
use Rattle.std.specs.Prelude.{ℕ, Bool, List, [], ◌∷◌}
use Rattle.df_base.specs.declared.pos.Pos.{Pos}
use Rattle.df_types.specs.declared.op.Comparison.{Comparison}
use Rattle.df_types.specs.declared.expr.Connective.{Connective}
use Rattle.df_types.specs.declared.expr.Quantifier.{Quantifier}
use Rattle.df_types.specs.Ty.{Ty, Tys}
use Rattle.df_types.specs.Op.{Op}

-- A bound variable. One that the text does not write, as the value of a `match`, is no place of compiled code.
pub record Binder : Type 0 where
  pub name : ℕ
  pub pos : Pos
  pub ty : Ty
  pub is_written : Bool

mutual
  pub data Expr : Type 0 where
    -- a local by its own number
    Local : (local name : ℕ) (pos : Pos) → Expr
    -- the value of a binder around it: the innermost is 0
    Bound : (index name : ℕ) (pos : Pos) → Expr
    -- a strict operation; `a + b - c` is `(a + b) - c`
    Apply : (op : Op) (pos : Pos) (arguments : Exprs) → Expr
    -- lazy, in the order of evaluation
    Junction : (connective : Connective) (first : Expr) (rest : Exprs) → Expr
    -- three members or more; two are one operation
    Chain : (ty : Ty) (first : Expr) (rest : Links) → Expr
    If : (ty : Ty) (arms : Arms) (otherwise : Expr) → Expr
    Let : (variable : Binder) (is_ghost : Bool) (value body : Expr) → Expr
    Call : (callee : ℕ) (types : Tys) (pos : Pos) (arguments : Exprs) → Expr
    Quantify : (site : ℕ) (pos : Pos) (quantifier : Quantifier) (variable : Binder) (extent : Extent) (triggers : Triggers) (body : Expr) → Expr
    Old : (pos : Pos) (operand : Expr) → Expr

  pub data Exprs : Type 0 where
    no_expr : Exprs
    expr : Expr → Exprs → Exprs

  -- comparisons, each with the operand after it
  pub data Links : Type 0 where
    no_link : Links
    link : (comparison : Comparison) (pos : Pos) (operand : Expr) (rest : Links) → Links

  pub data Arms : Type 0 where
    no_arm : Arms
    arm : (guard value : Expr) (rest : Arms) → Arms

  -- the range of a variable: numbers or characters of the type between two ends, or what stands in a sequence or a set
  pub data Extent : Type 0 where
    Between : (ty : Ty) (low : Expr) (is_low_strict : Bool) (high : Expr) (is_high_strict : Bool) → Extent
    Among : (ty : Ty) (container : Expr) → Extent

  -- terms that a quantifier is to be used at; they are never evaluated
  pub data Triggers : Type 0 where
    no_trigger : Triggers
    trigger : (ty : Ty) (term : Expr) (rest : Triggers) → Triggers

abbrev pub exprs_of : List Expr → Exprs
exprs_of [] = no_expr
exprs_of (e ∷ es) = expr e (exprs_of es)
