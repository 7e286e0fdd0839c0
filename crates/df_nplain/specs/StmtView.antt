-- The code's statements, without where they lie in memory.
use Rattle.std.specs.Prelude.{List, [], ◌∷◌, map}
use Rattle.std.specs.Option.{option_map}
use Rattle.df_nplain.specs.declared.stmt.Operand as declared_operand
use Rattle.df_nplain.specs.declared.stmt.Operand.TheVariants as operands
use Rattle.df_nplain.specs.declared.stmt.Call as declared_call
use Rattle.df_nplain.specs.declared.stmt.Source as declared_source
use Rattle.df_nplain.specs.declared.stmt.Source.TheVariants as sources
use Rattle.df_nplain.specs.declared.stmt.Update as declared_update
use Rattle.df_nplain.specs.declared.stmt.Variable as declared_variable
use Rattle.df_nplain.specs.declared.stmt.Stmt as declared
use Rattle.df_nplain.specs.declared.stmt.Stmt.TheOpen.{Branch-F, Stmt-F}
use Rattle.df_nplain.specs.declared.stmt.Stmt.TheFolds.{fold-Stmt, fold-Branch}
use Rattle.df_nplain.specs.declared.stmt.Branch as declared_branch
use Rattle.df_nplain.specs.Kind.{kind_of}
use Rattle.df_nplain.specs.Expr.{Expr}
use Rattle.df_nplain.specs.ExprView.{expr_of}
use Rattle.df_nplain.specs.Stmt.{Operand, Text, Value, Call, Source, Single, Results, Update, Variable, Stmt, Block, Var, Assign, CallOf, If, While, Break, Return, Print, Stmts, done, next, Branches, no_branch, branch}

abbrev pub operand_of : declared_operand.Operand → Operand
operand_of (operands.Text characters) = Text characters.items
operand_of (operands.Value kind value) = Value (kind_of kind) (expr_of value)

abbrev pub call_of : declared_call.Call → Call
call_of c = record { callee = c.callee; arguments = map expr_of c.arguments.items }

abbrev pub source_of : declared_source.Source → Source
source_of (sources.Value value) = Single (expr_of value)
source_of (sources.Call call) = Results (call_of call)

abbrev pub update_of : declared_update.Update → Update
update_of u = record { targets = u.targets.items; sources = map source_of u.sources.items }

abbrev pub variable_of : declared_variable.Variable → Variable
variable_of v = record { local = v.local; kind = kind_of v.kind }

pub record Branch : Type 0 where
  pub guard : Expr
  pub body : Stmts

abbrev pub stmts_of : List Stmt → Stmts
stmts_of [] = done
stmts_of (x ∷ xs) = next x (stmts_of xs)

abbrev pub branches_of : List Branch → Branches
branches_of [] = no_branch
branches_of (x ∷ xs) = branch x.guard x.body (branches_of xs)

abbrev pub branch_step : Branch-F Stmt Branch → Branch
branch_step x = record { guard = expr_of x.guard; body = stmts_of x.body.items }

abbrev pub stmt_step : Stmt-F Stmt Branch → Stmt
stmt_step (Stmt-F.Block body) = Block (stmts_of body.items)
stmt_step (Stmt-F.Var variables update) = Var (map variable_of variables.items) (option_map update_of update)
stmt_step (Stmt-F.Assign update) = Assign (update_of update)
stmt_step (Stmt-F.Call call) = CallOf (call_of call)
stmt_step (Stmt-F.If branches otherwise) = If (branches_of branches.items) (stmts_of otherwise.items)
stmt_step (Stmt-F.While guard body) = While (expr_of guard) (stmts_of body.items)
stmt_step Stmt-F.Break = Break
stmt_step (Stmt-F.Return update) = Return (option_map update_of update)
stmt_step (Stmt-F.Print all) = Print (map operand_of all.items)

abbrev pub stmt_of : declared.Stmt → Stmt
stmt_of = fold-Stmt Stmt Branch stmt_step branch_step

abbrev pub branch_of : declared_branch.Branch → Branch
branch_of = fold-Branch Stmt Branch stmt_step branch_step
