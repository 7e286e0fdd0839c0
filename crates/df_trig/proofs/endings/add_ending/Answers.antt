use Rattle.std.proofs.Common.{sym, arith}
use Rattle.std.proofs.lemmas.Result.{on_ok_weaker}
use Rattle.df_trig.proofs.Ending.{ending_none, ending_past, ending_added}
use Rattle.df_trig.proofs.endings.add_ending.Goals as goal

pub returns-in_default : goal.returns-in_default
returns-in_default c = ending_none c.args.nodes.now c.args.number c.args.lists.now (sym c.in_default.ensures) c.requires

pub returns-then-last-len : goal.returns-then-last-len
returns-then-last-len c =
    ending_past c.args.nodes.now c.args.number c.in-Some.last c.args.lists.now (sym c.in-Some.ensures) (omega (arith, c.if-last-len.true, c.len.ensures)) c.requires

pub returns : goal.returns
returns c =
    on_ok_weaker c.push.result
    (λ grown. ending_added c.args.nodes.now c.args.number c.in-Some.last c.args.lists.now c.push.new.self (sym c.in-Some.ensures) (omega (arith, c.if-last-len.false, c.len.ensures)) grown c.requires)
    c.push.ensures.pushed
