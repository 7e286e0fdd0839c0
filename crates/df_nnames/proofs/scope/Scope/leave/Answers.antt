use Rattle.std.proofs.Common.{arith}
use Rattle.df_nnames.specs.Latest.{names_of}
use Rattle.df_nnames.proofs.Latest.{left, names_of-length}
use Rattle.df_nnames.proofs.scope.Scope.leave.Goals as goal

pub returns : goal.returns
returns c =
    let names1 = names_of c.self.inside.locals.items in
    let names2 = names_of c.self-2.inside.locals.items in
    let len = names_of-length c.self.inside.locals.items in
    left c.loop-self.self c.args.self.now c.self.inside.outer c.self-2.inside.outer names1 names2 c.args.mark.outer c.self.view_is c.self-2.view_is (omega arith) c.loop-self.invariant
