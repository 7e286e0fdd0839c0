use Rattle.df_nowed.proofs.Words.{rules}
use Rattle.df_nowed.proofs.Places.{nothing_placed}
use Rattle.df_nowed.proofs.listing.owed.Goals as goal

pub invariant_of-known : goal.invariant_of-known
invariant_of-known c = record { are_places = nothing_placed c.len.result c.in_ok-vec.field-0.items c.new.result.items (c.in_ok-vec.ensures.items_if_clones_equal (λ y e. search rules)) c.new.ensures.items }

pub returns : goal.returns
returns c = c.in_ok-list.ensures.owed
