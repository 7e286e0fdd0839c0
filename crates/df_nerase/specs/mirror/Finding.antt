-- The first broken rule, as the code looks for it: what was found before is handed on.
use Rattle.std.specs.Prelude.{Bool, true, false, not, ◌&&◌, if◌then◌else◌, Option, None, Some, fold}
use Rattle.std.specs.Option.{option_map}
use Rattle.df_base.specs.declared.pos.Pos.{Pos}
use Rattle.df_lang.specs.declared.ty.Ty.{Ty}
use Rattle.df_lang.specs.declared.ty.Ty.TheVariants as types
use Rattle.df_lang.specs.declared.expr.Arrow.TheVariants as arrows
use Rattle.df_lang.specs.Expr.{Expr, Number, Truth, Character, Local, Negate, Not, Sum, Product, Junction, Implies, Iff, Chain, As, Convert, Addends, no_addend, addend, Factors, no_factor, factor, Members, no_member, member, Links, no_link, link}
use Rattle.df_lang.specs.Stmt.{Operand, Text, Value, Call, Source, Single, Results, Update, Variable, Stmt, Block, Var, Assign, CallOf, If, While, Break, Return, Assert, Print, Stmts, done, next, Branches, no_branch, branch}
use Rattle.df_lang.specs.Program.{Param, Method, Decl, NewtypeDecl, MethodDecl}
use Rattle.df_lang.specs.Newtype.{is_unbounded}
use Rattle.df_lang.specs.Native.{NativeRule, Places, Integers, Forms, Breach}
use Rattle.df_nerase.specs.declared.native.Rule.{Rule}
use Rattle.df_nerase.specs.declared.native.Rule.TheVariants as rules
use Rattle.df_nerase.specs.declared.native.Broken.{Broken}

abbrev pub rule_of : Rule → NativeRule
rule_of rules.Places = Places
rule_of rules.Integers = Integers
rule_of rules.Forms = Forms

abbrev pub breach_of : Broken → Breach
breach_of broken = record { rule = rule_of broken.rule; pos = broken.pos }

abbrev pub found_of : Option Broken → Option Breach
found_of found = option_map breach_of found

-- what was found before, or else that the rule is broken there
abbrev pub or_broken : Option Breach → NativeRule → Pos → Option Breach
or_broken None rule pos = Some (record { rule = rule; pos = pos })
or_broken (Some found) rule pos = Some found

abbrev pub find_int : Option Breach → Ty → Pos → Option Breach
find_int found types.Int pos = or_broken found Integers pos
find_int found ty pos = found

abbrev pub find_int_elsewhere : Option Breach → Bool → Ty → Pos → Option Breach
find_int_elsewhere found is_operand ty pos = if is_operand then found else find_int found ty pos

abbrev pub find_nat : Option Breach → Ty → Pos → Option Breach
find_nat found types.Nat pos = or_broken found Forms pos
find_nat found ty pos = found

abbrev mutual
  pub find : Option Breach → Bool → Expr → Option Breach
  find found is_operand (Number ty value pos) = find_int_elsewhere found is_operand ty pos
  find found is_operand (Truth value pos) = found
  find found is_operand (Character code pos) = found
  find found is_operand (Local local name pos) = found
  find found is_operand (Negate ty pos operand) = find_int (find found false operand) ty pos
  find found is_operand (Not pos operand) = find found false operand
  find found is_operand (Sum ty first rest) = find_in_addends (find found false first) ty rest
  find found is_operand (Product ty first rest) = find_in_factors (find found false first) ty rest
  find found is_operand (Junction junction first rest) = find_in_members (find found false first) rest
  find found is_operand (Implies arrows.Implies first rest) = find_in_members (find found false first) rest
  find found is_operand (Implies arrows.Explies first rest) = find (find_in_turned found rest) false first
  find found is_operand (Iff first rest) = find_in_members (find found false first) rest
  find found is_operand (Chain ty first rest) = find_in_links (find found true first) rest
  find found is_operand (As source target pos operand) = find_nat (find_int_elsewhere (find found true operand) is_operand target pos) target pos
  find found is_operand (Convert source target pos operand) = find found is_operand operand

  pub find_in_addends : Option Breach → Ty → Addends → Option Breach
  find_in_addends found ty no_addend = found
  find_in_addends found ty (addend operator pos operand rest) = find_in_addends (find_int (find found false operand) ty pos) ty rest

  pub find_in_factors : Option Breach → Ty → Factors → Option Breach
  find_in_factors found ty no_factor = found
  find_in_factors found ty (factor operator pos operand rest) = find_in_factors (find_int (find found false operand) ty pos) ty rest

  pub find_in_members : Option Breach → Members → Option Breach
  find_in_members found no_member = found
  find_in_members found (member pos operand rest) = find_in_members (find found false operand) rest

  -- from the last to the first
  pub find_in_turned : Option Breach → Members → Option Breach
  find_in_turned found no_member = found
  find_in_turned found (member pos operand rest) = find (find_in_turned found rest) false operand

  pub find_in_links : Option Breach → Links → Option Breach
  find_in_links found no_link = found
  find_in_links found (link comparison pos operand rest) = find_in_links (find found true operand) rest

abbrev pub find_in_operand : Option Breach → Operand → Option Breach
find_in_operand found (Text characters) = found
find_in_operand found (Value ty value) = find found false value

abbrev pub find_in_argument : Option Breach → Expr → Option Breach
find_in_argument found argument = find found false argument

abbrev pub find_in_call : Option Breach → Call → Option Breach
find_in_call found call = fold find_in_argument found call.arguments

abbrev pub find_in_source : Option Breach → Source → Option Breach
find_in_source found (Single ty value) = find found false value
find_in_source found (Results call results) = find_in_call found call

abbrev pub find_in_update : Option Breach → Option Update → Option Breach
find_in_update found None = found
find_in_update found (Some update) = fold find_in_source found update.sources

abbrev pub find_at_place : Option Breach → Bool → Ty → Pos → Option Breach
find_at_place found is_ghost ty pos = if (not is_ghost && is_unbounded ty) then or_broken found Places pos else found

abbrev pub find_in_variable : Option Breach → Variable → Option Breach
find_in_variable found variable = find_at_place found variable.is_ghost variable.ty variable.pos

abbrev pub find_in_param : Option Breach → Param → Option Breach
find_in_param found param = find_at_place found param.is_ghost param.ty param.declared.pos

abbrev mutual
  pub find_in : Option Breach → Stmt → Option Breach
  find_in found (Block pos body) = find_in_all found body
  find_in found (Var pos variables update) = find_in_update (fold find_in_variable found variables) update
  find_in found (Assign pos update) = fold find_in_source found update.sources
  find_in found (CallOf call) = find_in_call found call
  find_in found (If branches otherwise) = find_in_all (find_in_branches found branches) otherwise
  find_in found (While pos guard invariants decreases body) = find_in_all (find found false guard) body
  find_in found (Break pos) = found
  find_in found (Return pos update) = find_in_update found update
  find_in found (Assert pos condition) = found
  find_in found (Print pos operands) = fold find_in_operand found operands

  pub find_in_all : Option Breach → Stmts → Option Breach
  find_in_all found done = found
  find_in_all found (next stmt others) = find_in_all (find_in found stmt) others

  pub find_in_branches : Option Breach → Branches → Option Breach
  find_in_branches found no_branch = found
  find_in_branches found (branch pos guard body rest) = find_in_branches (find_in_all (find found false guard) body) rest

abbrev pub find_in_method : Option Breach → Method → Option Breach
find_in_method found m = find_in_all (fold find_in_param (fold find_in_param found m.parameters) m.results) m.body

abbrev pub find_in_decl : Option Breach → Decl → Option Breach
find_in_decl found (NewtypeDecl newtype) = found
find_in_decl found (MethodDecl method) = find_in_method found method
