use Rattle.df_nowed.proofs.Words.{rules}
use Rattle.df_nowed.proofs.Stacks.{none_met}
use Rattle.df_nowed.proofs.numbering.numbered.Goals as goal

pub assume_all-requires-clause-terms : goal.assume_all-requires-clause-terms
assume_all-requires-clause-terms c = none_met c.args.table.now c.new.result.nodes c.len.result c.in_ok-vec.field-0.items c.len.ensures.table c.len.ensures.len (c.in_ok-vec.ensures.items_if_clones_equal (λ y e. search rules))
