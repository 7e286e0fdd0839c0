-- Typed expressions as contracts see them: operands of one level are lists.
use Rattle.std.specs.Prelude.{ℕ, ℤ, Bool}
use Rattle.df_base.specs.declared.pos.Pos.{Pos}
use Rattle.df_lang.specs.declared.ty.Ty.{Ty}
use Rattle.df_lang.specs.declared.expr.AddendOperator.{AddendOperator}
use Rattle.df_lang.specs.declared.expr.FactorOperator.{FactorOperator}
use Rattle.df_lang.specs.declared.expr.Junction.{Junction as JunctionKind}
use Rattle.df_lang.specs.declared.expr.Arrow.{Arrow}
use Rattle.df_lang.specs.declared.expr.Comparison.{Comparison}

mutual
  pub data Expr : Type 0 where
    Number : (ty : Ty) (value : ℤ) (pos : Pos) → Expr
    Truth : (value : Bool) (pos : Pos) → Expr
    Character : (code : ℕ) (pos : Pos) → Expr
    Local : (local name : ℕ) (pos : Pos) → Expr
    Negate : (ty : Ty) (pos : Pos) (operand : Expr) → Expr
    Not : (pos : Pos) (operand : Expr) → Expr
    Sum : (ty : Ty) (first : Expr) (rest : Addends) → Expr
    Product : (ty : Ty) (first : Expr) (rest : Factors) → Expr
    Junction : (junction : JunctionKind) (first : Expr) (rest : Members) → Expr
    -- the operands as they are evaluated: those of `<==` from the right of the text to its left
    Implies : (arrow : Arrow) (first : Expr) (rest : Members) → Expr
    Iff : (first : Expr) (rest : Members) → Expr
    Chain : (ty : Ty) (first : Expr) (rest : Links) → Expr
    As : (source target : Ty) (pos : Pos) (operand : Expr) → Expr
    Convert : (source target : Ty) (pos : Pos) (operand : Expr) → Expr

  -- signs of sums, each with the operand after it
  pub data Addends : Type 0 where
    no_addend : Addends
    addend : (operator : AddendOperator) (pos : Pos) (operand : Expr) (rest : Addends) → Addends

  -- signs of products, each with the operand after it
  pub data Factors : Type 0 where
    no_factor : Factors
    factor : (operator : FactorOperator) (pos : Pos) (operand : Expr) (rest : Factors) → Factors

  -- positions of a logical sign, each with the operand after it
  pub data Members : Type 0 where
    no_member : Members
    member : (pos : Pos) (operand : Expr) (rest : Members) → Members

  -- comparisons, each with the operand after it
  pub data Links : Type 0 where
    no_link : Links
    link : (comparison : Comparison) (pos : Pos) (operand : Expr) (rest : Links) → Links
