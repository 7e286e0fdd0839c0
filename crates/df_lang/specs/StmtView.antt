-- The code's statements, without where they lie in memory.
use Rattle.std.specs.Prelude.{List, [], ◌∷◌, map}
use Rattle.std.specs.Option.{option_map}
use Rattle.df_base.specs.declared.pos.Pos.{Pos}
use Rattle.df_lang.specs.declared.decl.Clause as declared_clause
use Rattle.df_lang.specs.declared.stmt.Operand as declared_operand
use Rattle.df_lang.specs.declared.stmt.Operand.TheVariants as operands
use Rattle.df_lang.specs.declared.stmt.Target as declared_target
use Rattle.df_lang.specs.declared.stmt.Call as declared_call
use Rattle.df_lang.specs.declared.stmt.Conversion as declared_conversion
use Rattle.df_lang.specs.declared.stmt.Source as declared_source
use Rattle.df_lang.specs.declared.stmt.Source.TheVariants as sources
use Rattle.df_lang.specs.declared.stmt.Update as declared_update
use Rattle.df_lang.specs.declared.stmt.Variable as declared_variable
use Rattle.df_lang.specs.declared.stmt.Measure as declared_measure
use Rattle.df_lang.specs.declared.stmt.Stmt as declared
use Rattle.df_lang.specs.declared.stmt.Stmt.TheOpen.{Branch-F, Stmt-F}
use Rattle.df_lang.specs.declared.stmt.Stmt.TheFolds.{fold-Stmt}
use Rattle.df_lang.specs.Expr.{Expr}
use Rattle.df_lang.specs.ExprView.{expr_of}
use Rattle.df_lang.specs.Stmt.{Operand, Text, Value, Target, Call, Conversion, Source, Single, Results, Update, Variable, Clause, Measure, Stmt, Block, Var, Assign, CallOf, If, While, Break, Return, Assert, Print, Stmts, done, next, Branches, no_branch, branch}

abbrev pub operand_of : declared_operand.Operand → Operand
operand_of (operands.Text characters) = Text characters.items
operand_of (operands.Value ty value) = Value ty (expr_of value)

abbrev pub target_of : declared_target.Target → Target
target_of t = record { local = t.local; name = t.name; pos = t.pos; ty = t.ty }

abbrev pub call_of : declared_call.Call → Call
call_of c = record { callee = c.callee; name = c.name; pos = c.pos; arguments = map expr_of c.arguments.items }

abbrev pub conversion_of : declared_conversion.Conversion → Conversion
conversion_of c = record { source = c.source; target = c.target }

abbrev pub source_of : declared_source.Source → Source
source_of (sources.Value ty value) = Single ty (expr_of value)
source_of (sources.Call call results) = Results (call_of call) (map conversion_of results.items)

abbrev pub update_of : declared_update.Update → Update
update_of u = record { targets = map target_of u.targets.items; sources = map source_of u.sources.items }

abbrev pub variable_of : declared_variable.Variable → Variable
variable_of v = record { name = v.name; pos = v.pos; ty = v.ty; is_ghost = v.is_ghost; local = v.local }

abbrev pub clause_of : declared_clause.Clause → Clause
clause_of c = record { pos = c.pos; condition = expr_of c.condition }

abbrev pub measure_of : declared_measure.Measure → Measure
measure_of m = record { ty = m.ty; value = expr_of m.value }

pub record Branch : Type 0 where
  pub pos : Pos
  pub guard : Expr
  pub body : Stmts

abbrev pub stmts_of : List Stmt → Stmts
stmts_of [] = done
stmts_of (x ∷ xs) = next x (stmts_of xs)

abbrev pub branches_of : List Branch → Branches
branches_of [] = no_branch
branches_of (x ∷ xs) = branch x.pos x.guard x.body (branches_of xs)

abbrev pub branch_step : Branch-F Stmt Branch → Branch
branch_step x = record { pos = x.pos; guard = expr_of x.guard; body = stmts_of x.body.items }

abbrev pub stmt_step : Stmt-F Stmt Branch → Stmt
stmt_step (Stmt-F.Block pos body) = Block pos (stmts_of body.items)
stmt_step (Stmt-F.Var pos variables update) = Var pos (map variable_of variables.items) (option_map update_of update)
stmt_step (Stmt-F.Assign pos update) = Assign pos (update_of update)
stmt_step (Stmt-F.Call call) = CallOf (call_of call)
stmt_step (Stmt-F.If branches otherwise) = If (branches_of branches.items) (stmts_of otherwise.items)
stmt_step (Stmt-F.While pos guard invariants decreases body) =
    While pos (expr_of guard) (map clause_of invariants.items) (option_map (λ measures. map measure_of measures.items) decreases) (stmts_of body.items)
stmt_step (Stmt-F.Break pos) = Break pos
stmt_step (Stmt-F.Return pos update) = Return pos (option_map update_of update)
stmt_step (Stmt-F.Assert pos condition) = Assert pos (expr_of condition)
stmt_step (Stmt-F.Print pos all) = Print pos (map operand_of all.items)

abbrev pub stmt_of : declared.Stmt → Stmt
stmt_of = fold-Stmt Stmt Branch stmt_step branch_step
