-- Statements that are well typed over the locals of the whole method.
use Rattle.std.specs.Prelude.{ℕ, Bool, true, false, ◌&&◌, List, map, slice_get, Option}
use Rattle.std.specs.Option.{option_map_or}
use Rattle.std.specs.List.{list_all, flat_map}
use Rattle.df_lang.specs.declared.ty.Ty.{Ty}
use Rattle.df_lang.specs.declared.ty.Ty.TheVariants as types
use Rattle.df_lang.specs.Stmt.{Operand, Text, Value, Target, Update, Stmt, Block, Var, Assign, CallOf, If, While, Break, Return, Assert, Print, Stmts, done, next, Branches, no_branch, branch}
use Rattle.df_lang.specs.Program.{Program}
use Rattle.df_lang.specs.Newtype.{same_type}
use Rattle.df_lang.specs.Typing.{are_same_types, is_expr, are_clauses, are_measures, source_types}
use Rattle.df_meaning.specs.Modular.{Changed}
use Rattle.df_npass.specs.Statements.{changed_outside, changed_outside_if}
use Rattle.df_nledger.specs.Calls.{is_call_over, is_source_over}

-- the local is of the type
abbrev pub is_at : List Ty → ℕ → Ty → Bool
is_at all local ty = option_map_or (same_type ty) (slice_get all local) false

abbrev pub are_at : List Ty → List Changed → Bool
are_at all changed = list_all (λ (c : Changed). is_at all c.local c.ty) changed

abbrev pub is_operand_over : Program → List Ty → Operand → Bool
is_operand_over program all (Text characters) = true
is_operand_over program all (Value ty value) = is_expr program all ty value

abbrev pub is_target_over : List Ty → Target → Bool
is_target_over all target = is_at all target.local target.ty

abbrev pub are_targets_over : List Ty → List Target → Bool
are_targets_over all targets = list_all (is_target_over all) targets

abbrev pub target_types : List Target → List Ty
target_types targets = map (λ (target : Target). target.ty) targets

abbrev pub is_update_over : Program → List Ty → Update → Bool
is_update_over program all update =
    are_targets_over all update.targets && list_all (is_source_over program all) update.sources
    && are_same_types (flat_map source_types update.sources) (target_types update.targets)

abbrev pub may_update_over : Program → List Ty → Option Update → Bool
may_update_over program all update = option_map_or (is_update_over program all) update true

abbrev mutual
  pub is_over : Program → List Ty → Stmt → Bool
  is_over program all (Block pos body) = are_over program all body
  is_over program all (Var pos variables update) = may_update_over program all update
  is_over program all (Assign pos update) = is_update_over program all update
  is_over program all (CallOf call) = is_call_over program all call
  is_over program all (If branches otherwise) = are_at all (changed_outside_if branches otherwise) && are_branches_over program all branches && are_over program all otherwise
  is_over program all (While pos guard invariants decreases body) =
      are_at all (changed_outside body) && is_expr program all types.Bool guard && are_clauses program all invariants && are_measures program all decreases && are_over program all body
  is_over program all (Break pos) = true
  is_over program all (Return pos update) = may_update_over program all update
  is_over program all (Assert pos condition) = is_expr program all types.Bool condition
  is_over program all (Print pos operands) = list_all (is_operand_over program all) operands

  pub are_over : Program → List Ty → Stmts → Bool
  are_over program all done = true
  are_over program all (next stmt others) = is_over program all stmt && are_over program all others

  pub are_branches_over : Program → List Ty → Branches → Bool
  are_branches_over program all no_branch = true
  are_branches_over program all (branch pos guard body rest) = is_expr program all types.Bool guard && are_over program all body && are_branches_over program all rest
