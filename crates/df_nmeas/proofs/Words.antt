-- The words that most proofs here cite, passed on from one place. Declares nothing.
pub use Rattle.std.proofs.Common.{◌≡◌, ℕ, List, [], ◌∷◌, ◌++◌, refl, ◌∙◌, ◌<◌, ◌≤◌, length, get_or, sym, ap, arith, true, ◌&&◌, Some, suc, ◌-◌, min, drop, append_assoc, zero, ◌+◌, map, slice_get, slice_index_or, subst, rules}
pub use Rattle.std.proofs.lemmas.Bool.{and_parts, ltb-true, ltb-false}
pub use Rattle.std.proofs.lemmas.List.{append-nil, map-append, length-map, drop_all}
pub use Rattle.df_lang.specs.DeclView.{param_of, method_of}
pub use Rattle.df_lang.specs.Expr.{Expr, Chain, no_link, link}
pub use Rattle.df_lang.specs.ExprView.{expr_of, links_of}
pub use Rattle.df_lang.specs.Measures.{guard_measure, measure_of_number, parameters_from, method_measure}
pub use Rattle.df_lang.specs.Program.{Program, Param, types_of}
pub use Rattle.df_lang.specs.Stmt.{Measure}
pub use Rattle.df_lang.specs.Newtype.{same_type}
pub use Rattle.df_lang.specs.Typing.{compares, is_expr, are_links, is_type, are_measures}
pub use Rattle.df_lang.specs.declared.decl.Param.{Param as DeclaredParam}
pub use Rattle.df_lang.specs.declared.expr.Link.{Link as DeclaredLink}
pub use Rattle.df_lang.specs.declared.ty.Ty.{Ty}
pub use Rattle.df_nterm.specs.Expressions.{term_of, conditions_of, Environment, Condition}
pub use Rattle.df_nterm.specs.Measuring.{Measured, conditions_of_measure, measured, below_of, same_of, are_below}
pub use Rattle.df_nterm.specs.Term.{Numbers, minus, sort_of_type, Sort, Term, Truths, Characters, truth_term, Code, less, of_one, Or, both, And, at_most}
pub use Rattle.df_form.specs.Node.{Node}
pub use Rattle.df_nenc.proofs.Adding.{adds_stay, gives_as, gives_then, adds_none, adds_as, adds_then}
pub use Rattle.df_nenc.proofs.Growing.{grows_then, term_stays, stays, is_term, locals_same, grows_not, locals_stay, tree_stays}
pub use Rattle.df_nenc.proofs.Parts.{Part, part, over_stays, local_tree}
pub use Rattle.df_nenc.proofs.Results.{if_ok, stands_as, two_as}
pub use Rattle.df_nenc.proofs.Siblings.{link_seen, drop_next}
pub use Rattle.df_nenc.specs.Encoding.{IsOver, Gives, Adds}
pub use Rattle.df_nenc.specs.Growing.{Grows, IsFront}
pub use Rattle.df_nenc.specs.Standing.{IsTerm, Stands, HasTerm, AreLocals}
pub use Rattle.df_nenc.specs.Tree.{tree_at, trees_in, sort_of_term}
pub use Rattle.df_nenc.specs.declared.condition.Condition.{Condition as DeclaredCondition}
pub use Rattle.df_nmeas.specs.Measuring.{IsNumberOver, Measures, distance_in, IsSideOver, MakesMeasure, AreOver, pairs_before, one_measured, measured_in, IsMember, AreMembers, members_from, in_front_of, measures_in, decreases_in}
pub use Rattle.df_nmeas.specs.declared.measured.Measured.{Measured as DeclaredMeasured}
