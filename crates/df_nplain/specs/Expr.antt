-- Expressions as contracts see them: operands of one level are lists.
use Rattle.std.specs.Prelude.{ℕ, ℤ, Bool}
use Rattle.df_lang.specs.declared.expr.AddendOperator.{AddendOperator}
use Rattle.df_lang.specs.declared.expr.FactorOperator.{FactorOperator}
use Rattle.df_lang.specs.declared.expr.Junction.{Junction as JunctionKind}
use Rattle.df_lang.specs.declared.expr.Comparison.{Comparison}
use Rattle.df_nplain.specs.Kind.{Range, Kind}

mutual
  pub data Expr : Type 0 where
    Number : ℤ → Expr
    Truth : Bool → Expr
    Character : (code : ℕ) → Expr
    Local : (local : ℕ) → Expr
    Negate : (range : Range) (operand : Expr) → Expr
    Not : Expr → Expr
    Sum : (range : Range) (first : Expr) (rest : Addends) → Expr
    Product : (range : Range) (first : Expr) (rest : Factors) → Expr
    Junction : (junction : JunctionKind) (first : Expr) (rest : Members) → Expr
    Implies : (first : Expr) (rest : Members) → Expr
    Iff : (first : Expr) (rest : Members) → Expr
    Chain : (first : Expr) (rest : Links) → Expr
    As : (source target : Kind) (operand : Expr) → Expr

  -- signs of sums, each with the operand after it
  pub data Addends : Type 0 where
    no_addend : Addends
    addend : (operator : AddendOperator) (operand : Expr) (rest : Addends) → Addends

  -- signs of products, each with the operand after it
  pub data Factors : Type 0 where
    no_factor : Factors
    factor : (operator : FactorOperator) (operand : Expr) (rest : Factors) → Factors

  -- operands after logical signs
  pub data Members : Type 0 where
    no_member : Members
    member : (operand : Expr) (rest : Members) → Members

  -- comparisons, each with the operand after it
  pub data Links : Type 0 where
    no_link : Links
    link : (comparison : Comparison) (operand : Expr) (rest : Links) → Links
