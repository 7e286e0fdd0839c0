use Rattle.std.proofs.Common.{sym}
use Rattle.df_cong.proofs.Answering.{is_reason}
use Rattle.df_cong.proofs.classes.conflict.Goals as goal

pub returns-in_ok-whole_reason-in-None : goal.returns-in_ok-whole_reason-in-None
returns-in_ok-whole_reason-in-None c =
    is_reason c.args.nodes.now c.args.numbers.now c.args.holding.now c.requires.holding c.requires.literals (sym c.requires.clash) c.in_ok-whole_reason-in-None.field-0 c.in_ok-whole_reason-in-None.ensures.literals c.in_ok-whole_reason-in-None.ensures.pairs
