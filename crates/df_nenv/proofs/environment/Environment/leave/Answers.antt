use Rattle.std.proofs.Common.{◌≤◌, length, map, arith}
use Rattle.df_nenv.specs.Environments.{local_of, inferred_of}
use Rattle.df_nenv.proofs.Scoping.{left_so, outer_so, left_names}
use Rattle.df_nenv.proofs.environment.Environment.leave.Goals as goal

pub invariant_of-self : goal.invariant_of-self
invariant_of-self c =
    let outer = outer_so c.self.inside.table.now c.self.inside.scope c.self.inside.locals.items (length c.self.inside.names.items) (map inferred_of c.self.inside.types.items) (map local_of c.self.inside.results.items) c.self.inside.in_loop c.args.self.now
    c.self.view_is c.self.invariant.0 in
    let within : c.args.mark.outer ≤ length c.self.inside.scope.outer = omega (arith, outer, c.requires) in
    left_names c.self.inside.scope c.leave.new.self c.self.inside.locals.items c.truncate.new.self.items c.args.mark.outer c.self.inside.outer c.self.invariant.0 c.leave.ensures c.truncate.ensures.items c.self.invariant.1 within

pub returns : goal.returns
returns c =
    let outer = outer_so c.self.inside.table.now c.self.inside.scope c.self.inside.locals.items (length c.self.inside.names.items) (map inferred_of c.self.inside.types.items) (map local_of c.self.inside.results.items) c.self.inside.in_loop c.args.self.now
    c.self.view_is c.self.invariant.0 in
    let within : c.args.mark.outer ≤ length c.self.inside.scope.outer = omega (arith, outer, c.requires) in
    left_so c.self.inside.table.now c.self.inside.scope c.self.inside.locals.items (length c.self.inside.names.items) (map inferred_of c.self.inside.types.items) (map local_of c.self.inside.results.items) c.self.inside.in_loop c.args.self.now
    c.leave.new.self c.truncate.new.self.items c.args.mark.outer c.self.inside.outer c.self.view_is c.leave.ensures c.truncate.ensures.items c.self.invariant.1 within
