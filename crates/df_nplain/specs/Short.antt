-- Programs whose texts are shorter than any memory is long.
use Rattle.std.specs.Prelude.{◌^◌, Bool, true, ◌&&◌, nat_lt, length}
use Rattle.std.specs.List.{list_all}
use Rattle.df_nplain.specs.Stmt.{Operand, Text, Value, Stmt, Block, Var, Assign, CallOf, If, While, Break, Return, Print, Stmts, done, next, Branches, no_branch, branch}
use Rattle.df_nplain.specs.Plain.{Method, Plain}

abbrev pub is_short_operand : Operand → Bool
is_short_operand (Text characters) = nat_lt (length characters) (2 ^ 63)
is_short_operand (Value kind value) = true

abbrev mutual
  pub is_short_stmt : Stmt → Bool
  is_short_stmt (Block body) = are_short_stmts body
  is_short_stmt (Var variables update) = true
  is_short_stmt (Assign update) = true
  is_short_stmt (CallOf call) = true
  is_short_stmt (If branches otherwise) = are_short_branches branches && are_short_stmts otherwise
  is_short_stmt (While guard body) = are_short_stmts body
  is_short_stmt Break = true
  is_short_stmt (Return update) = true
  is_short_stmt (Print operands) = list_all is_short_operand operands

  pub are_short_stmts : Stmts → Bool
  are_short_stmts done = true
  are_short_stmts (next stmt others) = is_short_stmt stmt && are_short_stmts others

  pub are_short_branches : Branches → Bool
  are_short_branches no_branch = true
  are_short_branches (branch guard body rest) = are_short_stmts body && are_short_branches rest

abbrev pub has_short_texts : Plain → Bool
has_short_texts program = list_all (λ (m : Method). are_short_stmts m.body) program.methods
