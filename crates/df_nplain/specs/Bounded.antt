-- Programs in which each place and each result of arithmetic has an interval, or is of a truth or a character.
use Rattle.std.specs.Prelude.{Bool, true, false, ◌&&◌, Option, None, Some}
use Rattle.std.specs.List.{list_all}
use Rattle.df_nplain.specs.Kind.{Range, Between, Unbounded, Kind}
use Rattle.df_nplain.specs.Kind as kinds
use Rattle.df_nplain.specs.Expr.{Expr, Number, Truth, Character, Local, Negate, Not, Sum, Product, Junction, Implies, Iff, Chain, As, Addends, no_addend, addend, Factors, no_factor, factor, Members, no_member, member, Links, no_link, link}
use Rattle.df_nplain.specs.Stmt.{Operand, Text, Value, Call, Source, Single, Results, Update, Variable, Stmt, Block, Var, Assign, CallOf, If, While, Break, Return, Print, Stmts, done, next, Branches, no_branch, branch}
use Rattle.df_nplain.specs.Plain.{Method, Plain}

abbrev pub is_interval : Range → Bool
is_interval (Between low high) = true
is_interval Unbounded = false

-- what may stand at a place
abbrev pub is_bounded_kind : Kind → Bool
is_bounded_kind (kinds.Number range) = is_interval range
is_bounded_kind kinds.Truth = true
is_bounded_kind kinds.Character = true

abbrev pub is_bounded_variable : Variable → Bool
is_bounded_variable variable = is_bounded_kind variable.kind

abbrev mutual
  pub is_bounded : Expr → Bool
  is_bounded (Number value) = true
  is_bounded (Truth value) = true
  is_bounded (Character code) = true
  is_bounded (Local local) = true
  is_bounded (Negate range operand) = is_interval range && is_bounded operand
  is_bounded (Not operand) = is_bounded operand
  is_bounded (Sum range first rest) = is_bounded first && are_bounded_addends range rest
  is_bounded (Product range first rest) = is_bounded first && are_bounded_factors range rest
  is_bounded (Junction junction first rest) = is_bounded first && are_bounded_members rest
  is_bounded (Implies first rest) = is_bounded first && are_bounded_members rest
  is_bounded (Iff first rest) = is_bounded first && are_bounded_members rest
  is_bounded (Chain first rest) = is_bounded first && are_bounded_links rest
  is_bounded (As source target operand) = is_bounded operand

  -- each sign has a result
  pub are_bounded_addends : Range → Addends → Bool
  are_bounded_addends range no_addend = true
  are_bounded_addends range (addend operator operand rest) = is_interval range && is_bounded operand && are_bounded_addends range rest

  pub are_bounded_factors : Range → Factors → Bool
  are_bounded_factors range no_factor = true
  are_bounded_factors range (factor operator operand rest) = is_interval range && is_bounded operand && are_bounded_factors range rest

  pub are_bounded_members : Members → Bool
  are_bounded_members no_member = true
  are_bounded_members (member operand rest) = is_bounded operand && are_bounded_members rest

  pub are_bounded_links : Links → Bool
  are_bounded_links no_link = true
  are_bounded_links (link comparison operand rest) = is_bounded operand && are_bounded_links rest

abbrev pub is_bounded_operand : Operand → Bool
is_bounded_operand (Text characters) = true
is_bounded_operand (Value kind value) = is_bounded value

abbrev pub is_bounded_call : Call → Bool
is_bounded_call call = list_all is_bounded call.arguments

abbrev pub is_bounded_source : Source → Bool
is_bounded_source (Single value) = is_bounded value
is_bounded_source (Results call) = is_bounded_call call

abbrev pub is_bounded_update : Option Update → Bool
is_bounded_update None = true
is_bounded_update (Some update) = list_all is_bounded_source update.sources

abbrev mutual
  pub is_bounded_stmt : Stmt → Bool
  is_bounded_stmt (Block body) = are_bounded_stmts body
  is_bounded_stmt (Var variables update) = list_all is_bounded_variable variables && is_bounded_update update
  is_bounded_stmt (Assign update) = is_bounded_update (Some update)
  is_bounded_stmt (CallOf call) = is_bounded_call call
  is_bounded_stmt (If branches otherwise) = are_bounded_branches branches && are_bounded_stmts otherwise
  is_bounded_stmt (While guard body) = is_bounded guard && are_bounded_stmts body
  is_bounded_stmt Break = true
  is_bounded_stmt (Return update) = is_bounded_update update
  is_bounded_stmt (Print operands) = list_all is_bounded_operand operands

  pub are_bounded_stmts : Stmts → Bool
  are_bounded_stmts done = true
  are_bounded_stmts (next stmt others) = is_bounded_stmt stmt && are_bounded_stmts others

  pub are_bounded_branches : Branches → Bool
  are_bounded_branches no_branch = true
  are_bounded_branches (branch guard body rest) = is_bounded guard && are_bounded_stmts body && are_bounded_branches rest

abbrev pub is_bounded_method : Method → Bool
is_bounded_method m = list_all is_bounded_kind m.parameters && list_all is_bounded_kind m.results && are_bounded_stmts m.body

abbrev pub is_bounded_program : Plain → Bool
is_bounded_program program = list_all is_bounded_method program.methods
