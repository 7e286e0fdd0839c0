-- The words that most proofs here cite, passed on from one place. Declares nothing.
pub use Rattle.std.proofs.Common.{◌≡◌, ℕ, zero, suc, ◌<◌, true, false, List, [], ◌∷◌, ◌++◌, slice_get, Some, refl, subst, length, Option, ap, ◌∙◌, pos, ◌≤◌, ◌+◌, map, None, sym, length-append, arith, inl, Bool, if◌then◌else◌, ◌==◌, nat_lt, ◌&&◌, append_assoc, ◌⊎◌, inr, le_refl, le_trans, Contains, filter, not, unwrap_or, ◌||◌, is_some, negsuc}
pub use Rattle.std.proofs.lemmas.Bool.{ltb-true, lt-ltb, or_left, or_right, ne_eqb, and_right, eqb-true, or_cases, or_from, eq-eqb, cases_lt, cond-false, cond_both, true≢false, cond-true, false≢true, eqb-false, or_parts, and_left, false_from_ne_true, and_from}
pub use Rattle.std.proofs.lemmas.List.{length-map, map-append, append-nil}
pub use Rattle.std.proofs.lemmas.List.Folds.{list_all-append, list_any-append}
pub use Rattle.std.proofs.lemmas.Option.{same_Some, slice_get_within, none-some}
pub use Rattle.std.specs.List.{list_all, AllByRecursion, list_any, flat_map}
pub use Rattle.std.specs.Option.{option_map_or, option_and_then}
pub use Rattle.std.specs.Prelude.{slice_index_or}
pub use Rattle.df_lemmas.proofs.Alls.{all_joined, all_front, none_there, all_back}
pub use Rattle.df_lemmas.proofs.Truths.{true_is_not_false}
pub use Rattle.df_base.specs.declared.pos.Pos.{Pos}
pub use Rattle.df_lang.specs.Assignment.{Assigned, Unreached, Reached, has_value, at_entry, results_at, unassigned, unassigned_in, reads_of_clauses, reads_of_measures, Flowing, flow_all, join as meet, mark, declare, assign, assign_all, flow, flow_branches, reads, reads_of_operand, reads_of_members, reads_of_update, Use, results_from, reads_of_addends, reads_of_factors, reads_of_call, reads_of_source}
pub use Rattle.df_lang.specs.Expr.{Expr, Junction, Chain, no_link, link, no_member, member, Local, Negate, Not, Sum, Product, Implies, Iff, As, Convert, Addends, no_addend, addend, Factors, no_factor, factor, Members, Links}
pub use Rattle.df_lang.specs.Groups.{group_at, AreGroups}
pub use Rattle.df_lang.specs.Measures.{method_measure, loop_measure, distance, comparison_measure, guard_measure, measure_of_number, parameters_from}
pub use Rattle.df_lang.specs.Program.{Program, Param, types_of, Method, method_at, as_method, Decl, NewtypeDecl, MethodDecl, as_newtype, newtype_at}
pub use Rattle.df_lang.specs.Stmt.{Stmts, Branches, no_branch, branch, Measure, Call, Clause, Target, Update, Variable, Stmt, Block, Var, Assign, If, While, Break, Return, done, next, CallOf, Assert, Print, Conversion, Source, Single, Results, Operand, Text, Value as Shown}
pub use Rattle.df_lang.specs.Newtype.{same_type}
pub use Rattle.df_lang.specs.Typing.{is_type, are_same_types, is_method, is_well_typed, is_expr, are_clauses, are_measures, are_stmts, locals_after_all, locals_after_branches, are_branches, is_measured, may_update, are_numbered, variable_numbers, variable_types, locals_after, is_stmt, is_operand, is_integer, compares, are_members, are_links, are_exprs, is_newtype, is_decl, converts, is_call, are_results, is_source, source_types, is_target, is_update}
pub use Rattle.df_lang.specs.declared.expr.Comparison.{Comparison}
pub use Rattle.df_lang.specs.declared.ty.Ty.{Ty}
pub use Rattle.df_lang.proofs.Carrying.{all_carry, place, all_grow, branches_grow, grows, carries, declared_more}
pub use Rattle.df_meaning.proofs.TypedReads.{clauses_read, method_measure_reads}
pub use Rattle.df_meaning.proofs.Cases.{both, joined, choice, four, three, joined as and_joined}
pub use Rattle.df_meaning.proofs.Changing.{are_there, all_there, stmt_there}
pub use Rattle.df_meaning.proofs.Counting.{nothing_missing, assigned_has, parted, use_has, evaluate_counts, not_dismissed}
pub use Rattle.df_meaning.proofs.DefiniteRuns.{first_locals, begun_assigned, first_have}
pub use Rattle.df_meaning.proofs.Modulars.{program_of_modular}
pub use Rattle.df_meaning.proofs.Stating.{Within, before_all, within_front, same_self, before_branches, return_updates, set_other, target_there}
pub use Rattle.df_meaning.proofs.Types.{same_type_equal}
pub use Rattle.df_meaning.proofs.Wholes.{method_typed}
pub use Rattle.df_meaning.specs.Agreement.{is_changed}
pub use Rattle.df_meaning.specs.Definite.{AreDeclared, HasValue, AreAssigned}
pub use Rattle.df_meaning.specs.Evaluation.{evaluate, converted}
pub use Rattle.df_meaning.specs.Execution.{check_all, print_all, execute, execute_all, declare_all, execute_call, execute_optional, go_on, goes, execute_branches, evaluate_all, Values, convert_all, execute_source, execute_sources, is_distinct, execute_update}
pub use Rattle.df_meaning.specs.Meaning.{Returned, Meaning, Loop}
pub use Rattle.df_meaning.specs.Modular.{Changed, changed_by_all, changed_by_branches, measure_values, modular, modular_run, plain_meaning, Running, assume_all as assume_each, or_dismissed, check_below, handed_results, check_decrease, assume_returned, modular_call, changed_by, changed_by_update, changed_by_variables, may_have, IsModularlyWrong, behind_once, handed_turn, modular_turn, modular_turns, turned}
pub use Rattle.df_meaning.specs.Outcome.{Outcome, after, Gives, Wrong, Dismissed, TooDeep, NoChoice}
pub use Rattle.df_meaning.specs.State.{Store, begin, State, store_with, Handed, Locals, printed, with_store, with_local, without_local, Given as HandedGiven, Turned, set_local, with_locals}
pub use Rattle.df_meaning.specs.Types.{has_type, have_types}
pub use Rattle.df_meaning.specs.Value.{Value, truth_of, same_truth, same_value, Truth, Character, Number}
pub use Rattle.df_meaning.specs.Whole.{end_of, run_body, check_call, turns_with}
pub use Rattle.df_meaning.specs.declared.kind.Kind.{Kind}
pub use Rattle.df_meaning.specs.declared.kind.Kind.TheVariants.{Decreases, Distinct, Ensures, Entry, Requires, Turn}
pub use Rattle.df_nterm.proofs.Answering.{equal_told, conversion_told}
pub use Rattle.df_nterm.proofs.Below.{SameBelow, value_same, IsBelow, term_below, below, all_below, below_grows, equal_below, disjunction_below, narrowing_below, AreBelow, conditions_below}
pub use Rattle.df_nterm.proofs.Equal.{term_is, same_int, sort_is}
pub use Rattle.df_nterm.proofs.Ordering.{below_orders}
pub use Rattle.df_nterm.proofs.Sorted.{IsSorted, typed_sorted, HoldsOn, term_sorted, converted_sort}
pub use Rattle.df_nterm.proofs.Told.{IsOr, told_after, all_left, all_right}
pub use Rattle.df_nterm.specs.Expressions.{Environment, term_of, equal_in, narrowing, Condition, conditions_of, sum_of, product_of, members_of, implication_of, equivalence_of, comparisons_of, summed, multiplied, number_in, value_in, compared, under, in_range, conditions_of_addends, conditions_of_factors, conditions_of_junction, conditions_of_implication, conditions_of_members}
pub use Rattle.df_nterm.specs.Laws.{AreMeasured, told}
pub use Rattle.df_nterm.specs.Meaning.{Interpretation, has_sort, truth, value as meaning}
pub use Rattle.df_nterm.specs.Measuring.{Measured, measured, are_below, below_of, same_of, is_below, is_same}
pub use Rattle.df_nterm.specs.Same.{same_term, same_sort}
pub use Rattle.df_nterm.specs.Term.{Term, literal, Sort, Numbers, Truths, Characters, sort_of_type, negation, terms_of, Free, Terms, no_term, term, disjunction, either, Is, of_one, equal, less, implies, truth_term, iff, at_most, conjunction}
pub use Rattle.df_npass.specs.Handing.{results_in, turn_in, handed_at_call, handed_at_source, handed_at_sources, handed_at_update, takes, handed_behind, handed_at, handed_at_all, handed_at_branches, handed_in}
pub use Rattle.df_npass.specs.Laws.{OneListOfObligations, WrongIsRefuted, RefutedIsWrong, ValidIsSafe, SafeIsValid, AllValidIsSafe, RefutedMemberIsWrong, ValidMembersAreSafe}
pub use Rattle.df_npass.specs.Methods.{locals_of, unset, way_in, require_all, ended, setting_of, locals_from, obligations_of, obligations_from, pass_within, pass_method, obligations_of_method, Obligation, known_with, obligations_of_decl}
pub use Rattle.df_npass.specs.Rules.{Way, is_unset, over, Said, some_term, paths_of, any_path, join_branches, assert, narrowed, Joined, join, Moved, havoc, with_term, assume_type, free_of, assume, assume_there, assume_joined, are_same, join_locals, either_path, changed_alone, assert_all, Known, Owed, on_path, narrowed_path, assume_all}
pub use Rattle.df_npass.specs.Statements.{declared_by_all, changed_outside, changed_in_branches, changed_outside_if, env_of, any_values, assert_measure, pass_all, Flow, Parted, ways_of, last_of, first_of, path_behind, rejoined, Setting, grouped_with, assert_clauses, assume_clauses, assert_decrease, pass_method_call, followed_by, each_once, pass_stmt, pass_branches, declared_by, declared_by_branches, at_clause, saying, goes_on, behind, then_next, assert_expr, assert_turn, behind_loop, assert_exprs, Given, given_behind, pass_call, assert_conversions, pass_source, pass_sources, Taken, taken_by, assert_equal, give_all, pass_update, pass_optional, assert_operand}
