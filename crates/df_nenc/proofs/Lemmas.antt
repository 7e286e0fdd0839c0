-- The lemmas that proofs further up cite, passed on from one place. Declares nothing.
pub use Rattle.df_nenc.proofs.Growing.{grows_not, path_same, locals_same, is_term, tree_stays, grows_then, stays, term_stays, path_stays, stands}
pub use Rattle.df_nenc.proofs.Adding.{gives_as, gives_then, gives_alone, gives_over, adds_as, adds_none, gives_owing, owed_over, implied_step, implied_end, owing_factor}
pub use Rattle.df_nenc.proofs.Results.{narrowed_term, two_as, one_as, pushed, if_ok, stands_as, conjunction_long, trees_long, disjunction_long, owing}
pub use Rattle.df_nenc.proofs.Sorts.{no_numbers, takes_all, takes_one, takes_two, takes_any}
pub use Rattle.df_nenc.proofs.Narrowing.{owed_as, narrowed, not_narrowed, narrowed_number}
pub use Rattle.df_nenc.proofs.Typed.{term_is, compared_is, summed_is, multiplied_is, goes_on_is, counted_number}
pub use Rattle.df_nenc.proofs.Joining.{terms_with, with_next, trees_next, with_none, all_next, implied_next}
pub use Rattle.df_nenc.proofs.Reaching.{Reached, reached_next, reached_grown, reached_first, reached_last, front_not, front_then, adds_front, front_more, extends_not, extends_then, extends_nodes, extends_by}
pub use Rattle.df_nenc.proofs.Parts.{Part, local_tree, env_sorted, over_stays, local_term, negate_part, not_part, sum_parts, product_parts, level_parts, chain_parts, as_part, as_counts, convert_part}
pub use Rattle.df_nenc.proofs.Siblings.{links_left, link_part, link_compares, links_next, links_done, addends_left, factors_left, addend_part, factor_part, addends_next, factors_next, addends_done, factors_done, member_at, members_next, members_done, members_left}
