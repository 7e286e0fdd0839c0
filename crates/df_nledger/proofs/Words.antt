-- The words that most proofs here cite, passed on from one place. Declares nothing.
pub use Rattle.std.proofs.Common.{◌≡◌, ℕ, true, ◌&&◌, List, [], ◌∷◌, ◌++◌, Option, None, Some, refl, sym, ap, ◌∙◌, ◌+◌, ◌<◌, ◌≤◌, map, drop, get_or, length, Bool, false, cond, subst, suc, Result, Ok, Err, OnOk, arith, zero, slice_get, append_assoc, rules, ◌==◌, if◌then◌else◌, take}
pub use Rattle.std.proofs.lemmas.Bool.{and_parts}
pub use Rattle.std.proofs.lemmas.List.{append-nil, drop_all, get_or_default, map-append, length-append, length-map, take_all, take_more}
pub use Rattle.std.proofs.lemmas.Option.{same_Some}
pub use Rattle.std.specs.List.{list_all, AllByRecursion, flat_map}
pub use Rattle.std.specs.Option.{unwrap_or, option_map_or, option_map}
pub use Rattle.std.specs.Result.{is_ok}
pub use Rattle.df_lemmas.proofs.Alls.{all_joined}
pub use Rattle.df_base.specs.declared.pos.Pos.{Pos}
pub use Rattle.df_meaning.specs.declared.kind.Kind.{Kind}
pub use Rattle.df_lang.specs.DeclView.{param_of, method_of}
pub use Rattle.df_lang.specs.Expr.{Expr}
pub use Rattle.df_lang.specs.ExprView.{expr_of}
pub use Rattle.df_lang.specs.Measures.{method_measure, loop_measure}
pub use Rattle.df_lang.specs.Program.{Program, Method, method_at, types_of, Param}
pub use Rattle.df_lang.specs.Stmt.{Clause, Measure, Call, Source, Conversion, Single, Results}
pub use Rattle.df_lang.specs.StmtView.{clause_of, conversion_of, call_of, source_of}
pub use Rattle.df_lang.specs.Typing.{is_expr, are_clauses, is_type, converts, are_same_types, are_results, source_types, are_exprs, are_measures, are_stmts, is_method}
pub use Rattle.df_lang.specs.View.{program_of}
pub use Rattle.df_lang.specs.declared.decl.Clause.{Clause as DeclaredClause}
pub use Rattle.df_lang.specs.declared.expr.Expr.{Expr as DeclaredExpr}
pub use Rattle.df_lang.specs.declared.stmt.Conversion.{Conversion as DeclaredConversion}
pub use Rattle.df_lang.specs.declared.ty.Ty.{Ty}
pub use Rattle.df_nterm.specs.Expressions.{term_of, Condition, on_path, conditions_of, under, narrowing}
pub use Rattle.df_nterm.specs.Measuring.{conditions_of_measure, measured, are_below}
pub use Rattle.df_nterm.specs.Term.{Term, Truths, terms_of, disjunction, Sort, sort_of_type}
pub use Rattle.df_npass.specs.Rules.{some_term, is_unset, assume_there}
pub use Rattle.df_npass.specs.Rules.{Said, Way, assume, assert, Known, Owed, assume_all, assert_all, assume_type, free_of, over}
pub use Rattle.df_npass.specs.Statements.{assert_measure, Setting, Given, assert_conversions, pass_source, pass_sources, any_values, assert_clauses, assert_exprs, given_behind, pass_method_call, assert_decrease, assume_clauses, env_of, pass_call, assert_expr}
pub use Rattle.df_form.specs.Node.{Node}
pub use Rattle.df_nenc.proofs.Growing.{locals_stay, locals_same, is_term, grows_not, grows_then, term_stays, tree_stays, path_same, path_stays, all_same, all_below, stays}
pub use Rattle.df_nenc.proofs.Parts.{Part, part}
pub use Rattle.df_nenc.proofs.Results.{path_term, if_ok}
pub use Rattle.df_nenc.proofs.Siblings.{drop_next}
pub use Rattle.df_nenc.specs.Encoding.{condition_in, conditions_in, AreConditions, Adds}
pub use Rattle.df_nenc.specs.Growing.{Grows}
pub use Rattle.df_nenc.specs.Standing.{IsTerm, Stands, AreLocals, IsPath, HasTerm}
pub use Rattle.df_nenc.specs.Tree.{trees_in, path_in, tree_at, sort_of_term, trees_at}
pub use Rattle.df_nenc.specs.declared.condition.Condition.{Condition as DeclaredCondition}
pub use Rattle.df_nmeas.specs.Measuring.{measured_in, AreMembers, decreases_in}
pub use Rattle.df_nmeas.specs.declared.measured.Measured.{Measured as DeclaredMeasured}
pub use Rattle.df_nledger.specs.Calls.{AreSources, AreConverted, result_types, is_source_over, IsCallee, Gives, is_call_over}
pub use Rattle.df_nledger.specs.Clauses.{place_at, AreClauses, AreValues}
pub use Rattle.df_nledger.specs.Ledger.{Ledger, saying, ledger_of, with_fresh, way_of, with_any}
pub use Rattle.df_nledger.specs.Said.{formula_in, one_said, said_in, AreSaid, IsLedger, HasPath}
pub use Rattle.df_nledger.specs.Setting.{setting_of}
pub use Rattle.df_nledger.specs.declared.ledger.Ledger.{Ledger as DeclaredLedger}
