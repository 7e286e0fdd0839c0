use Rattle.df_rules.proofs.Growth.{number-made, number-grows}
use Rattle.df_kern.proofs.bound.at_most_of.Goals as goal

pub comparison-requires : goal.comparison-requires
comparison-requires c = record {
  left = number-grows c.args.nodes.now c.number_of.new.nodes c.args.node c.in_ok-high.ensures.grows c.requires;
  right = number-made c.args.nodes.now _ (record { nodes = c.number_of.new.nodes; number = c.in_ok-high.high }) c.in_ok-high.ensures.made;
}
