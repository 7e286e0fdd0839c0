use Rattle.df_form.specs.Node.{node_of}
use Rattle.df_trig.proofs.Ending.{last_is}
use Rattle.df_trig.proofs.endings.last_part.Goals as goal

pub returns-in-Some : goal.returns-in-Some
returns-in-Some c = last_is c.args.nodes.now c.args.number c.in-Some.last.now (node_of c.in_ok-get.field-0.now) c.deref.result.now c.in_ok-get.ensures.node c.deref.ensures.value c.in-Some.ensures.value
