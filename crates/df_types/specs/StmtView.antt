-- The code's statements, without where they lie in memory.
use Rattle.std.specs.Prelude.{List, [], ◌∷◌, map}
use Rattle.std.specs.Option.{option_map}
use Rattle.df_types.specs.declared.stmt.Demand as declared_demand
use Rattle.df_types.specs.declared.stmt.Typed as declared_typed
use Rattle.df_types.specs.declared.stmt.Target as declared_target
use Rattle.df_types.specs.declared.stmt.Target.TheVariants as targets
use Rattle.df_types.specs.declared.stmt.Call as declared_call
use Rattle.df_types.specs.declared.stmt.Source as declared_source
use Rattle.df_types.specs.declared.stmt.Source.TheVariants as sources
use Rattle.df_types.specs.declared.stmt.Update as declared_update
use Rattle.df_types.specs.declared.stmt.Range as declared_range
use Rattle.df_types.specs.declared.stmt.Aim as declared_aim
use Rattle.df_types.specs.declared.stmt.Stmt as declared
use Rattle.df_types.specs.declared.stmt.Stmt.TheOpen.{Branch-F, Stmt-F}
use Rattle.df_types.specs.declared.stmt.Stmt.TheFolds.{fold-Stmt}
use Rattle.df_types.specs.Ty.{tys_of}
use Rattle.df_types.specs.TyView.{ty_of}
use Rattle.df_types.specs.OpView.{op_of}
use Rattle.df_types.specs.Expr.{Expr, exprs_of}
use Rattle.df_types.specs.ExprView.{binder_of, expr_of, extent_of}
use Rattle.df_types.specs.Stmt.{Demand, Typed, Target, Nowhere, LocalAt, FieldAt, ElementAt, CallOf, Source, Single, Results, NewArray, Update, Range, Aim, Stmt, Declare, Assign, Choose, Branch, While, Break, Return, Check, Prove, Print, Publish, Ghost, Stmts, Branches, no_branch, branch, stmts_of}

abbrev pub demand_of : declared_demand.Demand → Demand
demand_of x = record { kind = x.kind; pos = x.pos; condition = expr_of x.condition }

abbrev pub typed_of : declared_typed.Typed → Typed
typed_of x = record { ty = ty_of x.ty; value = expr_of x.value }

abbrev pub target_of : declared_target.Target → Target
target_of (targets.Nowhere ty) = Nowhere (ty_of ty)
target_of (targets.Local local name pos ty) = LocalAt local name pos (ty_of ty)
target_of (targets.Field object class field pos ty) = FieldAt (expr_of object) class field pos (ty_of ty)
target_of (targets.Element array index pos ty) = ElementAt (expr_of array) (expr_of index) pos (ty_of ty)

abbrev pub call_of : declared_call.Call → CallOf
call_of x = record { site = x.site; callee = x.callee; types = tys_of (map ty_of x.types.items); pos = x.pos; arguments = exprs_of (map expr_of x.arguments.items) }

abbrev pub source_of : declared_source.Source → Source
source_of (sources.Value x) = Single (ty_of x.ty) (expr_of x.value)
source_of (sources.Results call conversions) = Results (call_of call) (map op_of conversions.items)
source_of (sources.Array site element pos size elements) = NewArray site (ty_of element) pos (expr_of size) (option_map (λ es. exprs_of (map expr_of es.items)) elements)

abbrev pub update_of : declared_update.Update → Update
update_of x = record { targets = map target_of x.targets.items; sources = map source_of x.sources.items }

abbrev pub range_of : declared_range.Range → Range
range_of x = record { variable = binder_of x.variable; extent = extent_of x.extent }

abbrev pub aim_of : declared_aim.Aim → Aim
aim_of x = record { ranges = map range_of x.ranges.items; given = option_map expr_of x.given; claims = map demand_of x.claims.items }

pub record Guarded : Type 0 where
  pub guard : Expr
  pub body : Stmts

abbrev pub branches_of : List Guarded → Branches
branches_of [] = no_branch
branches_of (x ∷ xs) = branch x.guard x.body (branches_of xs)

-- one node, with its parts as they are seen
abbrev pub branch_step : Branch-F Stmt Guarded → Guarded
branch_step x = record { guard = expr_of x.guard; body = stmts_of x.body.items }

abbrev pub stmt_step : Stmt-F Stmt Guarded → Stmt
stmt_step (Stmt-F.Declare locals) = Declare locals.items
stmt_step (Stmt-F.Assign update) = Assign (update_of update)
stmt_step (Stmt-F.Choose site pos targets ranges condition) = Choose site pos (map target_of targets.items) (map range_of ranges.items) (expr_of condition)
stmt_step (Stmt-F.Branch branches otherwise) = Branch (branches_of branches.items) (stmts_of otherwise.items)
stmt_step (Stmt-F.While site pos guard invariants decreases body) =
    While site pos (expr_of guard) (map demand_of invariants.items) (option_map (λ measures. map typed_of measures.items) decreases) (stmts_of body.items)
stmt_step (Stmt-F.Break pos) = Break pos
stmt_step (Stmt-F.Return pos update) = Return pos (option_map update_of update)
stmt_step (Stmt-F.Check demand) = Check (demand_of demand)
stmt_step (Stmt-F.Prove site pos aim body) = Prove site pos (aim_of aim) (stmts_of body.items)
stmt_step (Stmt-F.Print pos operands) = Print pos (map typed_of operands.items)
stmt_step (Stmt-F.Publish site pos class fields this) = Publish site pos class fields.items this
stmt_step (Stmt-F.Ghost body) = Ghost (stmts_of body.items)

abbrev pub stmt_of : declared.Stmt → Stmt
stmt_of = fold-Stmt Stmt Guarded stmt_step branch_step
