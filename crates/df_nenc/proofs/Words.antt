-- The words that most proofs here cite, passed on from one place. Declares nothing.
pub use Rattle.std.proofs.Common.{◌≡◌, ℕ, List, [], ◌∷◌, ◌++◌, refl, sym, ap, ◌∙◌, append_assoc, Option, Result, Ok, Err, IfOk, subst, true, Some, None, ◌<◌, ◌≤◌, ◌+◌, length, drop, get_or, zero, suc, map, nat_lt, slice_get, arith, ltb-true, false, OnOk, Bool, ◌&&◌, take, OnErr, add-one, drop-cons, rules, ◌⊎◌, inl, inr, to_z, of_z, ℤ}
pub use Rattle.std.proofs.lemmas.Bool.{and_parts, lt-ltb, and_from}
pub use Rattle.std.proofs.lemmas.Int.{to_z-of_z, to_z_pos}
pub use Rattle.std.proofs.lemmas.List.{append-nil, map-append, length-append, take_all, take-take, length-take, length-map, drop_all, get_or_append_left, get_or_at, length-take-le}
pub use Rattle.std.proofs.lemmas.Option.{same_Some, slice_get_within, get_or_from_slice_get}
pub use Rattle.std.specs.Int.{w128}
pub use Rattle.std.specs.List.{AllByRecursion, list_all}
pub use Rattle.std.specs.Option.{option_map_or}
pub use Rattle.std.specs.declared.alloc.AllocError.{AllocError}
pub use Rattle.df_lemmas.proofs.Alls.{all_joined, all_front, all_back}
pub use Rattle.df_lemmas.proofs.Lists.{get_below, head_same, tail_same, get_split, map_agree}
pub use Rattle.df_base.specs.declared.pos.Pos.{Pos}
pub use Rattle.df_lang.specs.Expr.{Expr, Links, link, Members, member, Local, Negate, Not, Sum, Product, Junction, Implies, Iff, Chain, As, Convert, Addends, Factors, addend, factor, no_addend, no_factor, no_link, no_member, Number, Truth, Character}
pub use Rattle.df_lang.specs.ExprView.{expr_of, Addend, Factor, Link, Member, addends_of, factors_of, links_of}
pub use Rattle.df_lang.specs.Program.{Program}
pub use Rattle.df_lang.specs.Newtype.{same_type}
pub use Rattle.df_lang.specs.Typing.{is_expr, is_arithmetic, casts, converts, are_addends, are_factors, are_members, are_links, compares, is_integer}
pub use Rattle.df_lang.specs.declared.expr.Addend.{Addend as DeclaredAddend}
pub use Rattle.df_lang.specs.declared.expr.AddendOperator.{AddendOperator}
pub use Rattle.df_lang.specs.declared.expr.Comparison.{Comparison}
pub use Rattle.df_lang.specs.declared.expr.Expr.{the_lemmas}
pub use Rattle.df_lang.specs.declared.expr.Factor.{Factor as DeclaredFactor}
pub use Rattle.df_lang.specs.declared.expr.FactorOperator.{FactorOperator}
pub use Rattle.df_lang.specs.declared.expr.Junction.{Junction as JunctionKind}
pub use Rattle.df_lang.specs.declared.expr.Link.{Link as DeclaredLink}
pub use Rattle.df_lang.specs.declared.expr.Member.{Member as DeclaredMember}
pub use Rattle.df_lang.specs.declared.ty.Ty.{Ty}
pub use Rattle.df_meaning.proofs.Cases.{both, three, four}
pub use Rattle.df_nterm.proofs.Sorted.{integer_sort, arithmetic_integer, converted_sort}
pub use Rattle.df_nterm.specs.Expressions.{Condition, under, divides, in_range, multiplied, on_path, Environment, term_of, conditions_under, comparisons_of, compared, narrowed_path, conditions_of_links, members_of, implication_of, equivalence_of, joined, goes_on, conditions_of_junction, conditions_of_implication, conditions_of_members, narrowing, condition, sum_of, product_of, summed, conditions_of_addends, conditions_of_factors, number_in, value_in}
pub use Rattle.df_nterm.specs.Term.{Term, Truths, Numbers, implies, Sort, sort_of_type, term, conjunction, terms_of, Terms, node, no_term, iff, of_one, of_two, disjunction, truth_term, AtMost, And, at_most, equal, negation, Is, literal, negative, Chr, Times, Plus, Or}
pub use Rattle.df_form.proofs.Values.{AreSorted, parts_below}
pub use Rattle.df_form.specs.Made.{made, Made}
pub use Rattle.df_form.specs.Node.{Node, same_sort}
pub use Rattle.df_form.specs.Sorting.{IsTable, is_well_sorted, sort_at, takes}
pub use Rattle.df_form.specs.declared.node.Op.{Op}
pub use Rattle.df_nenc.specs.Encoding.{condition_in, conditions_in, AreConditions, Adds, Gives, Extends, Encodes, IsOver}
pub use Rattle.df_nenc.specs.Growing.{Grows, IsFront}
pub use Rattle.df_nenc.specs.Siblings.{conditions_of_factor, implied_by, further, AreLinksOver, AreMembersOver, AreAddendsOver, AreFactorsOver}
pub use Rattle.df_nenc.specs.Standing.{IsTerm, Stands, IsPath, HasTerm, AreLocals, may_compare, narrows, counts_as_number}
pub use Rattle.df_nenc.specs.Tree.{sort_of_term, tree_at, trees_at, path_in, trees_in, op_of, sort_of, tree_among, sort_of_op, tree_over, trees_after}
pub use Rattle.df_nenc.specs.Views.{links_in, addend_of, factor_of, member_of, link_of, addends_in, factors_in, members_in}
pub use Rattle.df_nenc.specs.declared.condition.Condition.{Condition as DeclaredCondition}
