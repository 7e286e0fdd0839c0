-- What proofs of the crates above cite of lists under these names.
pub use Rattle.std.proofs.lemmas.Option.{slice_get_within as get_within}
pub use Rattle.df_lemmas.proofs.Lists.{get_below, get_pushed, map_agree, all_weaker}
