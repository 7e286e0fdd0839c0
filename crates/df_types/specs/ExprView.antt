-- The code's expressions, without where they lie in memory; operations of one level are those of two, from the left.
use Rattle.std.specs.Prelude.{List, [], ◌∷◌, map}
use Rattle.df_base.specs.declared.pos.Pos.{Pos}
use Rattle.df_types.specs.declared.op.Comparison.{Comparison}
use Rattle.df_types.specs.declared.expr.Binder as declared_binder
use Rattle.df_types.specs.declared.expr.Extent as declared_extent
use Rattle.df_types.specs.declared.expr.Expr as declared
use Rattle.df_types.specs.declared.expr.Expr.TheOpen.{Expr-F, Operand-F, Link-F, Arm-F, Extent-F, Trigger-F}
use Rattle.df_types.specs.declared.expr.Expr.TheFolds.{fold-Expr, fold-Extent}
use Rattle.df_types.specs.Ty.{Ty, tys_of}
use Rattle.df_types.specs.TyView.{ty_of}
use Rattle.df_types.specs.Op.{Op}
use Rattle.df_types.specs.OpView.{op_of}
use Rattle.df_types.specs.Expr.{Binder, Expr, Local, Bound, Apply, Junction, Chain, If, Let, Call, Quantify, Old, no_expr, expr, Links, no_link, link, Arms, no_arm, arm, Extent, Between, Among, Triggers, no_trigger, trigger, exprs_of}

abbrev pub binder_of : declared_binder.Binder → Binder
binder_of x = record { name = x.name; pos = x.pos; ty = ty_of x.ty; is_written = x.is_written }

pub record Operand : Type 0 where
  pub op : Op
  pub pos : Pos
  pub operand : Expr

pub record Link : Type 0 where
  pub comparison : Comparison
  pub pos : Pos
  pub operand : Expr

pub record Arm : Type 0 where
  pub guard : Expr
  pub value : Expr

pub record Trigger : Type 0 where
  pub ty : Ty
  pub term : Expr

-- from the left
abbrev pub folded : Expr → List Operand → Expr
folded e [] = e
folded e (x ∷ xs) = folded (Apply x.op x.pos (expr e (expr x.operand no_expr))) xs

abbrev pub links_of : List Link → Links
links_of [] = no_link
links_of (x ∷ xs) = link x.comparison x.pos x.operand (links_of xs)

abbrev pub arms_of : List Arm → Arms
arms_of [] = no_arm
arms_of (x ∷ xs) = arm x.guard x.value (arms_of xs)

abbrev pub triggers_of : List Trigger → Triggers
triggers_of [] = no_trigger
triggers_of (x ∷ xs) = trigger x.ty x.term (triggers_of xs)

-- one node, with its parts as they are seen
abbrev pub expr_step : Expr-F Expr Extent Arm Link Operand Trigger → Expr
expr_step (Expr-F.Local local name pos) = Local local name pos
expr_step (Expr-F.Bound index name pos) = Bound index name pos
expr_step (Expr-F.Apply op pos arguments) = Apply (op_of op) pos (exprs_of arguments.items)
expr_step (Expr-F.Fold first rest) = folded first.value rest.items
expr_step (Expr-F.Junction connective first rest) = Junction connective first.value (exprs_of rest.items)
expr_step (Expr-F.Chain ty first rest) = Chain (ty_of ty) first.value (links_of rest.items)
expr_step (Expr-F.If ty arms otherwise) = If (ty_of ty) (arms_of arms.items) otherwise.value
expr_step (Expr-F.Let variable is_ghost value body) = Let (binder_of variable) is_ghost value.value body.value
expr_step (Expr-F.Call callee types pos arguments) = Call callee (tys_of (map ty_of types.items)) pos (exprs_of arguments.items)
expr_step (Expr-F.Quantify site pos quantifier variable extent triggers body) = Quantify site pos quantifier (binder_of variable) extent (triggers_of triggers.items) body.value
expr_step (Expr-F.Old pos operand) = Old pos operand.value

abbrev pub operand_step : Operand-F Expr Extent Arm Link Operand Trigger → Operand
operand_step x = record { op = op_of x.op; pos = x.pos; operand = x.operand }

abbrev pub link_step : Link-F Expr Extent Arm Link Operand Trigger → Link
link_step x = record { comparison = x.comparison; pos = x.pos; operand = x.operand }

abbrev pub arm_step : Arm-F Expr Extent Arm Link Operand Trigger → Arm
arm_step x = record { guard = x.guard; value = x.value }

abbrev pub extent_step : Extent-F Expr Extent Arm Link Operand Trigger → Extent
extent_step (Extent-F.Between ty low low_strict high high_strict) = Between (ty_of ty) low.value low_strict high.value high_strict
extent_step (Extent-F.Among ty container) = Among (ty_of ty) container.value

abbrev pub trigger_step : Trigger-F Expr Extent Arm Link Operand Trigger → Trigger
trigger_step x = record { ty = ty_of x.ty; term = x.term }

abbrev pub expr_of : declared.Expr → Expr
expr_of = fold-Expr Expr Extent Arm Link Operand Trigger expr_step extent_step arm_step link_step operand_step trigger_step

abbrev pub extent_of : declared_extent.Extent → Extent
extent_of = fold-Extent Expr Extent Arm Link Operand Trigger expr_step extent_step arm_step link_step operand_step trigger_step
