-- Well-typed statements are so over the locals of the whole method.
use Rattle.df_nflow.proofs.Words.{◌≡◌, Bool, true, false, ◌&&◌, List, ◌++◌, map, nat_le, length, slice_get, Option, None, Some, refl, option_map_or, list_all, flat_map, and_parts, and_from, Ty, Expr, Operand, Text, Value, Target, Call, Source, Single, Results, Update, Measure, Stmt, Block, Var, Assign, CallOf, If, While, Break, Return, Assert, Print, Stmts, done, next, Branches, no_branch, branch, Method, Program, method_at, types_of, same_type, are_same_types, is_type, is_expr, are_exprs, are_clauses, are_measures, is_operand, is_call, are_results, is_source, source_types, is_target, is_update, may_update, are_numbered, variable_numbers, variable_types, locals_after, locals_after_all, locals_after_branches, is_measured, is_stmt, are_stmts, are_branches, plain_meaning, Within, before_all, before_branches, return_updates, changed_outside, changed_outside_if, are_at, is_operand_over, is_target_over, is_update_over, may_update_over, is_over, are_over, are_branches_over, is_call_over, is_source_over, all_weaker}
use Rattle.df_lang.specs.declared.ty.Ty.TheVariants as types
use Rattle.df_lang.proofs.Carrying.{place}
use Rattle.df_meaning.proofs.Cases.{both, three, four}
use Rattle.df_meaning.proofs.Changing.{stmt_there}
use Rattle.df_npass.proofs.Altering.{outside_there, if_there}
use Rattle.df_nflow.proofs.Lifting.{same_lookup, expr_lifts, exprs_lift, clauses_lift, measures_lift}
use Rattle.df_lemmas.proofs.Truths.{three_true}

by_method : (test better : Method → Bool) (o : Option Method) → ((m : Method) → test m ≡ true → better m ≡ true) → option_map_or test o false ≡ true → option_map_or better o false ≡ true
by_method test better None f e = e
by_method test better (Some m) f e = f m e

measured_some : (program : Program) (locals : List Ty) (own : Method) (in_loop : Bool) (guard : Expr) (decreases : Option (List Measure)) → is_measured (place program locals own in_loop) guard decreases ≡ true → are_measures program locals decreases ≡ true
measured_some program locals own in_loop guard None is = refl
measured_some program locals own in_loop guard (Some measures) is = is

module _ (program : Program) (own : Method) (all : List Ty) where
  module _ (locals : List Ty) (in_loop : Bool) (within : Within locals all) where
    operand_lifts : (operand : Operand) → is_operand (place program locals own in_loop) operand ≡ true → is_operand_over program all operand ≡ true
    operand_lifts (Text characters) is = refl
    operand_lifts (Value ty value) is = expr_lifts program locals all within ty value (and_parts (is_type program ty) (is_expr program locals ty value) is).1

    call_lifts : (call : Call) → is_call (place program locals own in_loop) call ≡ true → is_call_over program all call ≡ true
    call_lifts call is =
        by_method (λ (method : Method). are_exprs program locals (types_of method.parameters) call.arguments) (λ (method : Method). are_exprs program all (types_of method.parameters) call.arguments)
        (method_at program call.callee) (λ m e. exprs_lift program locals all within (types_of m.parameters) call.arguments e) is

    source_lifts : (source : Source) → is_source (place program locals own in_loop) source ≡ true → is_source_over program all source ≡ true
    source_lifts (Single ty value) is = expr_lifts program locals all within ty value (and_parts (is_type program ty) (is_expr program locals ty value) is).1
    source_lifts (Results call results) is =
        let is = and_parts (is_call (place program locals own in_loop) call) (are_results program call results) is in
        and_from (is_call_over program all call) (are_results program call results) (call_lifts call is.0) is.1

    target_lifts : (target : Target) → is_target (place program locals own in_loop) target ≡ true → is_target_over all target ≡ true
    target_lifts target is =
        same_lookup (same_type target.ty) locals all target.local within (and_parts (nat_le (length own.parameters) target.local) (option_map_or (same_type target.ty) (slice_get locals target.local) false) is).1

    update_lifts : (update : Update) → is_update (place program locals own in_loop) update ≡ true → is_update_over program all update ≡ true
    update_lifts update is =
        let types_are = are_same_types (flat_map source_types update.sources) (map (λ (target : Target). target.ty) update.targets) in
        let is = three (list_all (is_target (place program locals own in_loop)) update.targets) (list_all (is_source (place program locals own in_loop)) update.sources) types_are is in
        three_true (list_all (is_target_over all) update.targets) (list_all (is_source_over program all) update.sources) types_are (all_weaker (is_target (place program locals own in_loop)) (is_target_over all) update.targets target_lifts is.0)
        (all_weaker (is_source (place program locals own in_loop)) (is_source_over program all) update.sources source_lifts is.1) is.2

    may_lift : (update : Option Update) → may_update (place program locals own in_loop) update ≡ true → may_update_over program all update ≡ true
    may_lift None is = refl
    may_lift (Some update) is = update_lifts update is

  mutual
    pub stmt_lifts : (stmt : Stmt) (locals : List Ty) (in_loop : Bool) → Within (locals_after locals stmt) all → is_stmt (place program locals own in_loop) stmt ≡ true → is_over program all stmt ≡ true
    stmt_lifts (Block at body) locals in_loop within is = all_lift body locals in_loop within is
    stmt_lifts (Var at variables update) locals in_loop within is =
        may_lift (locals ++ variable_types variables) in_loop within update
        (three (are_numbered (length locals) (variable_numbers variables)) (list_all (is_type program) (variable_types variables)) (may_update (place program (locals ++ variable_types variables) own in_loop) update) is).2
    stmt_lifts (Assign at update) locals in_loop within is = update_lifts locals in_loop within update is
    stmt_lifts (CallOf call) locals in_loop within is = call_lifts locals in_loop within call is
    stmt_lifts (If branches otherwise) locals in_loop within is =
        let there = if_there all branches otherwise (stmt_there (plain_meaning program) own (If branches otherwise) locals all in_loop within is) in
        let is = both (are_branches (place program locals own in_loop) branches) (are_stmts (place program (locals_after_branches locals branches) own in_loop) otherwise) is in
        three_true (are_at all (changed_outside_if branches otherwise)) (are_branches_over program all branches) (are_over program all otherwise) there
        (branches_lift branches locals in_loop (before_all (locals_after_branches locals branches) all otherwise within) is.0)
        (all_lift otherwise (locals_after_branches locals branches) in_loop within is.1)
    stmt_lifts (While at guard invariants decreases body) locals in_loop within is =
        let there = outside_there all body (stmt_there (plain_meaning program) own (While at guard invariants decreases body) locals all in_loop within is) in
        let here = before_all locals all body within in
        let is = four (is_expr program locals types.Bool guard) (are_clauses program locals invariants) (is_measured (place program locals own in_loop) guard decreases) (are_stmts (place program locals own true) body) is in
        let measured = measures_lift program locals all here decreases (measured_some program locals own in_loop guard decreases is.2) in
        and_from (are_at all (changed_outside body) && is_expr program all types.Bool guard && are_clauses program all invariants && are_measures program all decreases) (are_over program all body)
        (and_from (are_at all (changed_outside body) && is_expr program all types.Bool guard && are_clauses program all invariants) (are_measures program all decreases)
        (three_true (are_at all (changed_outside body)) (is_expr program all types.Bool guard) (are_clauses program all invariants) there (expr_lifts program locals all here types.Bool guard is.0) (clauses_lift program locals all here invariants is.1))
        measured)
        (all_lift body locals true within is.3)
    stmt_lifts (Break at) locals in_loop within is = refl
    stmt_lifts (Return at update) locals in_loop within is = may_lift locals in_loop within update (return_updates (plain_meaning program) locals own in_loop update is)
    stmt_lifts (Assert at condition) locals in_loop within is = expr_lifts program locals all within types.Bool condition is
    stmt_lifts (Print at operands) locals in_loop within is = all_weaker (is_operand (place program locals own in_loop)) (is_operand_over program all) operands (operand_lifts locals in_loop within) is

    pub all_lift : (stmts : Stmts) (locals : List Ty) (in_loop : Bool) → Within (locals_after_all locals stmts) all → are_stmts (place program locals own in_loop) stmts ≡ true → are_over program all stmts ≡ true
    all_lift done locals in_loop within is = refl
    all_lift (next stmt others) locals in_loop within is =
        let is = both (is_stmt (place program locals own in_loop) stmt) (are_stmts (place program (locals_after locals stmt) own in_loop) others) is in
        and_from (is_over program all stmt) (are_over program all others)
        (stmt_lifts stmt locals in_loop (before_all (locals_after locals stmt) all others within) is.0) (all_lift others (locals_after locals stmt) in_loop within is.1)

    branches_lift : (branches : Branches) (locals : List Ty) (in_loop : Bool) → Within (locals_after_branches locals branches) all → are_branches (place program locals own in_loop) branches ≡ true → are_branches_over program all branches ≡ true
    branches_lift no_branch locals in_loop within is = refl
    branches_lift (branch at guard body rest) locals in_loop within is =
        let is = three (is_expr program locals types.Bool guard) (are_stmts (place program locals own in_loop) body) (are_branches (place program (locals_after_all locals body) own in_loop) rest) is in
        let inside = before_branches (locals_after_all locals body) all rest within in
        three_true (is_expr program all types.Bool guard) (are_over program all body) (are_branches_over program all rest)
        (expr_lifts program locals all (before_all locals all body inside) types.Bool guard is.0)
        (all_lift body locals in_loop inside is.1) (branches_lift rest (locals_after_all locals body) in_loop within is.2)
