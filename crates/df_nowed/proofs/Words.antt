-- The words that most proofs here cite, passed on from one place. Declares nothing.
pub use Rattle.std.proofs.Common.{◌≡◌, ◌⊎◌, inl, inr, ℕ, zero, suc, ◌<◌, ◌==◌, Bool, true, false, ◌||◌, List, [], ◌∷◌, ◌++◌, length, replicate, slice_set, slice_index_or, refl, sym, ap, ◌∙◌, arith, subst, if◌then◌else◌, map, take, drop, ◌≤◌, append_assoc, append-nil, ◌+◌, slice_get, None, Some, nat_lt, slice_index, ltb-true, ◌-◌, Option, ℤ, pos, negsuc, ◌&&◌, not, ◌+ℤ◌, ◌*ℤ◌, int_le, reverse, rules}
pub use Rattle.std.proofs.lemmas.Bool.{eq-eqb, ne_eqb, and_parts, and_from, lt-ltb}
pub use Rattle.std.proofs.lemmas.List.{get_or-set_same, get_or-set_other, length-set, length-append, map-append, length-map, drop-map, take-append-drop, length-replicate, get_or_at, take-map, reverse-append}
pub use Rattle.std.proofs.lemmas.Option.{same_Some, slice_get_within}
pub use Rattle.std.specs.List.{AllByRecursion, list_any, list_all, flat_map}
pub use Rattle.std.specs.Option.{option_map_or, option_and_then}
pub use Rattle.df_lemmas.proofs.Lists.{head_same, map_agree, all_parts, all_weaker, tail_same, get_below}
pub use Rattle.df_lang.specs.Program.{Program, Param, Decl, NewtypeDecl, MethodDecl, as_newtype}
pub use Rattle.df_meaning.proofs.Stating.{is_or_not}
pub use Rattle.df_nterm.specs.Meaning.{Interpretation, has_sort, value, values, truth, number_at, truth_at, is_code, character_of, apply}
pub use Rattle.df_nterm.specs.Term.{Term, Truths, terms_of, node}
pub use Rattle.df_npass.specs.Methods.{known_with, Obligation, obligations_of, locals_of, unset, obligations_from}
pub use Rattle.df_form.proofs.Values.{AreSorted, parts_below, parts_taken}
pub use Rattle.df_form.specs.Node.{Node, same_sort, node_of}
pub use Rattle.df_form.specs.Sorting.{IsTable, is_formula, sort_at, is_well_sorted, takes}
pub use Rattle.df_form.specs.World.{World, of_program, Ends, is_within, ends_of_decl}
pub use Rattle.df_form.specs.declared.node.Free.{Free}
pub use Rattle.df_form.specs.declared.node.Sort.{Sort}
pub use Rattle.df_nenc.proofs.Different.{sort_again, sort_back}
pub use Rattle.df_nenc.proofs.Trees.{grown_tree, tree_sort, tree_of, made_tree}
pub use Rattle.df_nenc.specs.Growing.{Grows}
pub use Rattle.df_nenc.specs.Standing.{IsTerm, Stands}
pub use Rattle.df_nenc.specs.Tree.{tree_at, trees_at, sort_of, tree_among, tree_over, trees_after, sort_of_term, op_of}
pub use Rattle.df_nowed.specs.Laws.{obligation_of, ValidSequentsAreValidObligations, RefutedSequentsAreRefutedObligations, ParametersAreFreeTerms}
pub use Rattle.df_nowed.specs.Listing.{is_among, ArePlaces, known_once, groups_from}
pub use Rattle.df_nowed.specs.Obligation.{with_goal, obligation_in, obligations_in, grouped_in}
pub use Rattle.df_nowed.specs.Renumbering.{AreTerms, parts_at, Leads, steps_of, steps_of_all, steps_left, all_steps_left}
pub use Rattle.df_nowed.specs.declared.numbering.Visit.{Visit}
