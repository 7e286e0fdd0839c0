-- The lemmas that proofs further up cite, passed on from one place. Declares nothing.
pub use Rattle.df_npass.proofs.Saying.{path_true, by_option, AllTrue, off_path, on_it, narrowed_true, EnvBelow, measured_below, PathBelow, env_grows, path_grows, MeasureBelow, order_below, clauses_proper, AllBelow, measure_grows, narrowed_below, measure_proper}
pub use Rattle.df_npass.proofs.Playing.{Mode, is_taking, handing, ahead, ahead_is, ahead_append, ahead_taking, ahead_following, Play, Moves, moves_here, moves_taking, moves_then, resume, same_itself, same_then, play_behind, play_later, play_as, by_bool, Following, Taking, play_silent, play_over, AreKnown, known_append, all_same, play_taking, known_then_follow, not_deep, FirstFalse, first_behind, first_rest, known_first, not_wrong, play_handed, play_took}
pub use Rattle.df_npass.proofs.Unset.{free_set}
pub use Rattle.df_npass.proofs.Reading.{IsReached, values_at, AreOf, SortedAll, Sits, sits_as, with_handed, require_then, measures_then, checked_then, call_then, assume_then, after_after, after_either, then_same, check_then, expr_then, after_if, after_listed, told_all, checked_true, expr_set_then, exprs_then}
pub use Rattle.df_npass.proofs.Staying.{AllStay, neither, in_both, unchanged, all_stay, branches_stay, havoc_stays, join_locals_stay, alone_stays, by_locals, kept, renewed, once_less}
pub use Rattle.df_npass.proofs.Leading.{TermsBelow, any_giving, over_below, JoinGoing, branches_going, terms_grow, env_of_below, AllLead, join_going, any_path_reaches, free_below, suc_more, all_lead_grow, any_true, disjunction_truth, Leads, off_any, lead_grows, farther, narrowed_leads, havoc_going, call_giving, with_below, exprs_below, source_giving, sources_giving}
pub use Rattle.df_npass.proofs.Flowing.{all_flows, Flows, Parts, behind_reaches, turn_proper, stmt_flows, branches_flow}
pub use Rattle.df_npass.proofs.Coming.{AllOff, OneSits, off_moves, path_same, sorted_moves, reached_mark, reached_left, reached_right, join_left, join_right, one_left, one_right, one_less, sits_moves, off_lead, sits_less, one_reached, assigned_make, sits_change}
pub use Rattle.df_npass.proofs.Turning.{list_once, once_there, any_typed, all_may, turned_state, turned_is, turned_store, turned_local}
pub use Rattle.df_npass.proofs.Declaring.{all_declare, is_declared, few, HasParameters, back, back_has, update_keeps}
pub use Rattle.df_npass.proofs.Measures.{method_measure_typed, get_at, one_longer, AreTyped, loop_measure_typed}
pub use Rattle.df_meaning.proofs.Counting.{loop_measure_reads}
