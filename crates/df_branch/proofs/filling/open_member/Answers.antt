use Rattle.std.proofs.Common.{map, arith}
use Rattle.df_closure.specs.Closure.{ground_of}
use Rattle.df_closure.proofs.Rounds.{found, length_mapped}
use Rattle.df_branch.proofs.OpenClauses.{passes, all_passed, member_is_open}
use Rattle.df_branch.proofs.filling.open_member.Goals as goal

pub returns-in-Some : goal.returns-in-Some
returns-in-Some c = λ literals is.
    let at = found ground_of c.args.clauses.now c.loop-clause.clause-index c.clause-item.result c.loop-clause-test.true c.clause-item.is in
    member_is_open (map ground_of c.args.clauses.now) c.loop-clause.clause-index (ground_of c.clause-item.result) at literals c.in-Some.literal (c.in-Some.ensures literals is)

pub loop-clause-preserved : goal.loop-clause-preserved
loop-clause-preserved c =
    let at = found ground_of c.args.clauses.now c.loop-clause.clause-index c.clause-item.result c.loop-clause-test.true c.clause-item.is in
    passes c.args.known.now (map ground_of c.args.clauses.now) c.loop-clause.clause-index (ground_of c.clause-item.result) at c.loop-clause.invariant c.in_default.ensures

pub returns : goal.returns
returns c = all_passed c.args.known.now (map ground_of c.args.clauses.now) c.loop-clause.clause-index (let same = length_mapped ground_of c.args.clauses.now in omega (arith, c.loop-clause-test.false)) c.loop-clause.invariant
