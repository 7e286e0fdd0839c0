use Rattle.df_rules.proofs.Results.{if_ok}
use Rattle.df_classes.specs.PartitionView.{state_of}
use Rattle.df_classes.specs.SignsView.{tables_of}
use Rattle.df_classes.specs.mirror.State.{label_of}
use Rattle.df_classes.proofs.Stamping.{positives_kept, negatives_kept, slots_kept, tables_then}
use Rattle.df_classes.proofs.Carrying.{carries_node}
use Rattle.df_classes.proofs.signs.Signs.carry_node.Goals as goal

pub returns-in_err-carry-clause-keeps : goal.returns-in_err-carry-clause-keeps
returns-in_err-carry-clause-keeps c = positives_kept c.args.held (tables_of c.args.self.now) c.carry.new.self.since.items c.carry.ensures.keeps

pub returns-in_err-carry-2-clause-keeps : goal.returns-in_err-carry-2-clause-keeps
returns-in_err-carry-2-clause-keeps c =
    tables_then c.args.held (tables_of c.args.self.now) _ _ (positives_kept c.args.held (tables_of c.args.self.now) c.carry.new.self.since.items c.carry.ensures.keeps) (negatives_kept c.args.held _ c.carry-2.new.self.since.items c.carry-2.ensures.keeps)

pub returns-clause-carries : goal.returns-clause-carries
returns-clause-carries c =
    if_ok c.put_number.result _ _ c.put_number.ensures.puts
    (λ calm h e. carries_node c.args.nodes.now (label_of (state_of c.args.partition.now)) c.args.held c.args.node c.args.before c.label-label.result (tables_of c.args.self.now) _ c.label-label.ensures c.in_ok-carry.ensures.carries c.in_ok-carry-2.ensures.carries (h e))

pub returns-clause-keeps : goal.returns-clause-keeps
returns-clause-keeps c =
    tables_then c.args.held (tables_of c.args.self.now) _ _
    (tables_then c.args.held (tables_of c.args.self.now) _ _ (positives_kept c.args.held (tables_of c.args.self.now) c.carry.new.self.since.items c.carry.ensures.keeps) (negatives_kept c.args.held _ c.carry-2.new.self.since.items c.carry-2.ensures.keeps))
    (slots_kept c.args.held _ c.put_number.new.self.slots.items c.put_number.ensures.keeps)
