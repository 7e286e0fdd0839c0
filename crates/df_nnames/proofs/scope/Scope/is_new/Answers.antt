use Rattle.std.proofs.Common.{sym, arith}
use Rattle.df_nnames.specs.Latest.{names_of}
use Rattle.df_nnames.proofs.Latest.{is_new, count_of_outer, names_of-length}
use Rattle.df_nnames.proofs.scope.Scope.is_new.Goals as goal

pub returns-in-Some : goal.returns-in-Some
returns-in-Some c =
    let names = names_of c.self.inside.locals.items in
    let len = names_of-length c.self.inside.locals.items in
    let within = c.self.invariant.0 in
    let count = count_of_outer c.self.inside.outer names c.args.self.now c.self.view_is (omega arith) in
    rw (← count) (is_new c.args.self.now.outer c.args.self.now.inner c.args.name c.in-Some.number (sym c.in-Some.ensures.number))
