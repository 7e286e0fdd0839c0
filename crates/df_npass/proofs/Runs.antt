-- The lemmas on runs that the last proofs cite, passed on from one place. Declares nothing.
pub use Rattle.df_npass.proofs.Lemmas.{Mode, is_taking, ahead, ahead_is, ahead_append, ahead_taking, ahead_following, resume, sits_as, Play, EnvBelow, measured_below, any_giving, over_below, all_flows, values_at, AreOf, with_handed, SortedAll, Sits, require_then, measures_then, method_measure_typed, all_declare, few, HasParameters, by_option, path_true, Moves, moves_here, moves_then, same_itself, same_then, play_behind, play_later, PathBelow, env_grows, JoinGoing, branches_going, AllStay, Flows, Parts, behind_reaches, AllOff, OneSits, off_moves, path_same, sorted_moves, neither, in_both, unchanged, all_stay, branches_stay, reached_mark, reached_left, reached_right, join_left, join_right, once_there, is_declared, by_bool, IsReached, AllTrue, Following, Taking, play_as, play_silent, play_over, clauses_proper, AllLead, join_going, any_path_reaches, check_then, one_left, one_right, one_less, get_at, one_longer, back, back_has, all_same, FirstFalse, first_behind, first_rest, known_first, narrowed_true, MeasureBelow, measure_grows, narrowed_below, order_below, lead_grows, farther, narrowed_leads, turn_proper, checked_then, after_after, after_either, then_same, off_lead, sits_less, one_reached, AreTyped, measure_proper, havoc_going, expr_then, assume_then, loop_measure_typed, loop_measure_reads, path_grows, call_giving, stmt_flows, branches_flow, after_if, update_keeps, TermsBelow, exprs_below, source_giving, sources_giving, after_listed, told_all, checked_true, expr_set_then, exprs_then}
pub use Rattle.df_npass.proofs.Taking.{AllSorted, take_all, any_known, any_sorted, any_typed}
pub use Rattle.df_npass.proofs.Turns.{turn_then}
pub use Rattle.df_npass.proofs.Joining.{Many, branches_join_then, join_then, values_equal}
pub use Rattle.df_npass.proofs.Arguments.{of_long, over_value, any_set, params_of, of_moves, values_move, of_append, same_types_are}
pub use Rattle.df_npass.proofs.Calling.{Contract, contract_of, first_read, measure_read, measure_moves, measured_moves, setting, running, entered_moves, method_call_then}
pub use Rattle.df_npass.proofs.Standing.{Stands, stands_moves, stands_ahead, declared_stands, declared_handed, stands_given}
pub use Rattle.df_npass.proofs.Leaving.{no_path, one_path, branches_off_said, branches_off_way, join_off_said, join_off_way}
pub use Rattle.df_npass.proofs.Sequencing.{hand, Comes, Onward, Off, both_off, comes_left, comes_right, leads_off, ended_then, only, then_play, nesting_all, deep_play, decide, nesting, nesting_branches, call_of_modular}
pub use Rattle.df_npass.proofs.Altering.{declared_less, outside_there, types_there, if_there}
