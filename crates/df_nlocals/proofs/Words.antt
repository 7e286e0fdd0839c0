-- The words that most proofs here cite, passed on from one place. Declares nothing.
pub use Rattle.std.proofs.Common.{◌≡◌, ℕ, suc, ◌+◌, ◌<◌, List, [], ◌∷◌, map, drop, get_or, length, refl, sym, ap, ◌∙◌, arith, ◌⊎◌, inl, inr, ◌++◌, Bool, true, false, ◌||◌, if◌then◌else◌, take, append-nil, append_assoc, ◌==◌, cond, not, rules}
pub use Rattle.std.proofs.lemmas.Bool.{eq-eqb, ne_eqb}
pub use Rattle.std.proofs.lemmas.List.{length-map, map-append, get_or_default, drop_all}
pub use Rattle.std.specs.List.{list_any}
pub use Rattle.df_lang.specs.DeclView.{param_of}
pub use Rattle.df_lang.specs.ExprView.{expr_of}
pub use Rattle.df_lang.specs.Program.{Param, types_of}
pub use Rattle.df_lang.specs.Stmt.{Target, branch}
pub use Rattle.df_lang.specs.StmtView.{Branch, target_of, variable_of, stmt_of}
pub use Rattle.df_lang.specs.Typing.{variable_numbers, variable_types, locals_after_all, locals_after_branches}
pub use Rattle.df_lang.specs.declared.stmt.Stmt.{the_lemmas, Stmt as DeclaredStmt}
pub use Rattle.df_lang.specs.declared.stmt.Target.{Target as DeclaredTarget}
pub use Rattle.df_lang.specs.declared.ty.Ty.{Ty}
pub use Rattle.df_groups.specs.Parts.{branch_of, stmts_in, branches_in}
pub use Rattle.df_meaning.proofs.Stating.{is_or_not}
pub use Rattle.df_meaning.specs.Modular.{Changed, changed_by_all, changed_by_branches, changed_by_variables}
pub use Rattle.df_npass.specs.Methods.{locals_from}
pub use Rattle.df_npass.specs.Statements.{changed_outside, each_once, declared_by_all, declared_by_branches, changed_in_branches}
pub use Rattle.df_nenc.proofs.Siblings.{drop_next}
pub use Rattle.df_nlocals.specs.Views.{changed_of, changed_in}
pub use Rattle.df_nlocals.specs.declared.changed.Changed.{Changed as DeclaredChanged}
