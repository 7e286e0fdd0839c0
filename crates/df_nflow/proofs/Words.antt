-- The words that most proofs here cite, passed on from one place. Declares nothing.
pub use Rattle.std.proofs.Common.{◌≡◌, ℕ, zero, suc, ◌+◌, ◌<◌, List, [], ◌∷◌, map, drop, get_or, length, refl, sym, ap, ◌∙◌, arith, subst, ◌⊎◌, inl, inr, ◌++◌, pos, slice_index_or, Bool, true, false, ◌||◌, if◌then◌else◌, take, Option, append-nil, slice_get, Some, ◌&&◌, append_assoc, ◌≤◌, None, ◌==◌, cond, not, rules, nat_le, set, add-one, ◌-◌, take_at, drop_at, IfOk}
pub use Rattle.std.proofs.lemmas.Bool.{eq-eqb, ne_eqb, and_parts, and_from, cases_lt}
pub use Rattle.std.proofs.lemmas.List.{length-map, map-append, length-append, length-drop, get_or_default, length-set, drop-drop, drop-take, take-append-drop, take-take, drop_all, take-map, drop-map}
pub use Rattle.std.proofs.lemmas.Option.{slice_get-get_or, same_Some, slice_get_within}
pub use Rattle.std.specs.List.{AllZip, list_all, AllByRecursion, list_any, flat_map}
pub use Rattle.std.specs.Option.{option_map_or, option_map}
pub use Rattle.df_lemmas.proofs.Alls.{all_joined, all_there}
pub use Rattle.df_lemmas.proofs.Lists.{head_same, tail_same, get_below, all_weaker}
pub use Rattle.df_base.specs.declared.pos.Pos.{Pos}
pub use Rattle.df_lang.specs.DeclView.{param_of, method_of}
pub use Rattle.df_lang.specs.Expr.{Expr, Number, Truth, Character, Local, Negate, Not, Sum, Product, Junction, Implies, Iff, Chain, As, Convert, Addends, no_addend, addend, Factors, no_factor, factor, Members, no_member, member, Links, no_link, link}
pub use Rattle.df_lang.specs.ExprView.{expr_of}
pub use Rattle.df_lang.specs.Measures.{loop_measure, method_measure}
pub use Rattle.df_lang.specs.Program.{Param, Method, Program, types_of, method_at}
pub use Rattle.df_lang.specs.Stmt.{Clause, Target, Measure, Stmts, While, Branches, no_branch, branch, Operand, Text, Value, Call, Source, Single, Results, Update, Stmt, Block, Var, Assign, CallOf, If, Break, Return, Assert, Print, done, next}
pub use Rattle.df_lang.specs.StmtView.{Branch, target_of, variable_of, clause_of, operand_of, stmt_of, call_of, source_of, update_of}
pub use Rattle.df_lang.specs.Newtype.{same_type}
pub use Rattle.df_lang.specs.Typing.{is_type, are_clauses, are_measures, are_stmts, is_method, is_arithmetic, converts, casts, compares, is_expr, are_addends, are_factors, are_members, are_links, are_exprs, are_same_types, is_operand, is_call, are_results, is_source, source_types, is_target, is_update, may_update, are_numbered, variable_numbers, variable_types, locals_after, locals_after_all, locals_after_branches, is_measured, is_stmt, are_branches}
pub use Rattle.df_lang.specs.View.{program_of}
pub use Rattle.df_lang.specs.declared.decl.Clause.{Clause as DeclaredClause}
pub use Rattle.df_lang.specs.declared.stmt.Operand.{Operand as DeclaredOperand}
pub use Rattle.df_lang.specs.declared.stmt.Stmt.{the_lemmas, Stmt as DeclaredStmt}
pub use Rattle.df_lang.specs.declared.stmt.Target.{Target as DeclaredTarget}
pub use Rattle.df_lang.specs.declared.ty.Ty.{Ty}
pub use Rattle.df_groups.specs.Parts.{branch_of, stmts_in, branches_in}
pub use Rattle.df_meaning.proofs.Stating.{is_or_not, same_self, Within, before_all, within_front, before_branches, return_updates}
pub use Rattle.df_meaning.specs.Modular.{Changed, plain_meaning, changed_by_all, changed_by_branches, changed_by_variables}
pub use Rattle.df_nterm.specs.Expressions.{Environment, equal_in, term_of}
pub use Rattle.df_nterm.specs.Measuring.{Measured, measured, are_below}
pub use Rattle.df_nterm.specs.Same.{same_term, same_sort, number_of_op, literal_in, free_in, type_in, same_op, same_terms}
pub use Rattle.df_nterm.specs.Term.{Sort, sort_of_type, Term, literal, Numbers, Truths, Characters, negation, Op, node, Terms, no_term, term}
pub use Rattle.df_npass.specs.Methods.{unset, locals_from, locals_of, way_in, require_all, pass_method}
pub use Rattle.df_npass.specs.Rules.{some_term, assume_there, Way, assume, with_term, Said, Joined, join_branches, paths_of, any_path, over, Known, Moved, either_path, on_path, free_of, are_same, assume_joined, join_locals, join, havoc, changed_alone, narrowed, narrowed_path, assume_type, assert}
pub use Rattle.df_npass.specs.Statements.{Flow, Parted, ways_of, last_of, first_of, path_behind, rejoined, saying, Given, any_values, goes_on, behind, followed_by, then_next, moved_behind, Taken, give_all, assert_turn, behind_loop, at_clause, assert_clauses, assume_clauses, assert_expr, assert_measure, Setting, changed_outside, pass_all, pass_stmt, each_once, pass_branches, changed_outside_if, taken_by, assert_equal, declared_by_all, declared_by_branches, changed_in_branches, assert_operand, pass_call, pass_sources}
pub use Rattle.df_form.specs.Node.{Node}
pub use Rattle.df_nenc.proofs.Growing.{path_same, grows_then, tree_stays, locals_same, all_below, grown_below, all_same, is_term, term_stays, stays, grows_not, grows_same, locals_stay}
pub use Rattle.df_nenc.proofs.Parts.{local_tree, env_sorted, part}
pub use Rattle.df_nenc.proofs.Results.{if_ok, stands_as}
pub use Rattle.df_nenc.proofs.Siblings.{drop_next}
pub use Rattle.df_nenc.proofs.Trees.{grown_tree}
pub use Rattle.df_nenc.specs.Encoding.{IsOver}
pub use Rattle.df_nenc.specs.Growing.{Grows}
pub use Rattle.df_nenc.specs.Standing.{IsTerm, Stands, AreLocals, HasTerm}
pub use Rattle.df_nenc.specs.Tree.{sort_of_term, tree_at, path_in, tree_among, trees_at, trees_in}
pub use Rattle.df_nmeas.specs.Measuring.{IsMethodOver, measured_in, AreMembers, decreases_in}
pub use Rattle.df_nmeas.specs.declared.measured.Measured.{Measured as DeclaredMeasured}
pub use Rattle.df_nledger.proofs.Growing.{measured_same, measured_stay, ledger_stays}
pub use Rattle.df_nledger.proofs.Ledgers.{ledger_keeps, disjunction_is, on_ok_then}
pub use Rattle.df_nledger.proofs.Places.{below_at, path_is, has_path_stays}
pub use Rattle.df_nledger.proofs.Sayings.{say_both}
pub use Rattle.df_nledger.proofs.Sources.{method_parts, index_below}
pub use Rattle.df_nledger.proofs.Values.{any_long, locals_first, locals_rest, trees_next, below_next}
pub use Rattle.df_nledger.specs.Calls.{Gives, is_call_over, is_source_over, IsCall, AreSources}
pub use Rattle.df_nledger.specs.Clauses.{AreClauses}
pub use Rattle.df_nledger.specs.Ledger.{ledger_of, way_of, with_fresh, way_over, Ledger}
pub use Rattle.df_nledger.specs.Setting.{setting_of}
pub use Rattle.df_nledger.specs.declared.ledger.Ledger.{Ledger as DeclaredLedger}
pub use Rattle.df_nlocals.specs.Views.{changed_of, changed_in}
pub use Rattle.df_nlocals.specs.declared.changed.Changed.{Changed as DeclaredChanged}
pub use Rattle.df_nflow.specs.Branches.{Ended, AreEnded, IsEnded, Parts}
pub use Rattle.df_nflow.specs.Joining.{term_at, IsThere, AreThere, AllThere, paths_in, are_same_at, assume_joined_at, join_locals_from, take_all}
pub use Rattle.df_nflow.specs.Loops.{any_turn, loop_head, loop_past, turned_if, past_loop, join_past}
pub use Rattle.df_nflow.specs.Methods.{also_returns, at_end, owed_at, ended_over, IsTypedMethod, begun}
pub use Rattle.df_nflow.specs.PassedView.{standing_of}
pub use Rattle.df_nflow.specs.Standing.{Standing, also, at_path, over_terms, way_if, Passes, Joins, Moves}
pub use Rattle.df_nflow.specs.Typed.{is_at, are_at, are_over, is_over, are_branches_over, is_operand_over, is_target_over, is_update_over, may_update_over, are_targets_over, target_types}
pub use Rattle.df_nflow.specs.Views.{IsArrived, AreArrived, arrival_in, arrivals_in, ended_in, all_ended_in, IsKept, HaveTerms, IsPassed, all_kept_in, AreKept, kept_in, ArePaths}
pub use Rattle.df_nflow.specs.Ways.{Arrival, arrival, IsSortedWay, AreSortedWays, Arrive, Kept, back}
pub use Rattle.df_nflow.specs.declared.way.Arrived.{Arrived as DeclaredArrived}
pub use Rattle.df_nflow.specs.declared.way.Kept.{Kept as DeclaredKept}
