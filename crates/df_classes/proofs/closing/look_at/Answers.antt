use Rattle.std.proofs.Common.{refl}
use Rattle.df_classes.proofs.Advancing.{looks_none}
use Rattle.df_classes.proofs.Retreating.{extends_none}
use Rattle.df_classes.proofs.closing.look_at.Goals as goal

pub returns-in-None-clause-advances : goal.returns-in-None-clause-advances
returns-in-None-clause-advances c =
    looks_none c.args.nodes.now c.args.users.now c.requires.users c.args.partition.now c.args.partition.now c.args.node c.args.waiting.now.items c.args.waiting.now.items c.requires.ready c.in-None.ensures.none

pub returns-in-None-clause-extends : goal.returns-in-None-clause-extends
returns-in-None-clause-extends c = extends_none c.args.partition.now c.args.partition.now refl refl refl
