use Rattle.std.proofs.Common.{length, map, sym, ◌∙◌}
use Rattle.df_nenv.specs.Environments.{local_of, inferred_of}
use Rattle.df_nenv.proofs.Scoping.{entered_so, outer_so}
use Rattle.df_nenv.proofs.environment.Environment.enter.Goals as goal

pub returns-clause-scope : goal.returns-clause-scope
returns-clause-scope c =
    entered_so c.self.inside.table.now c.self.inside.scope c.self.inside.locals.items (length c.self.inside.names.items) (map inferred_of c.self.inside.types.items) (map local_of c.self.inside.results.items) c.self.inside.in_loop c.args.self.now
    c.enter-mark.new.self c.self.view_is c.self.invariant.0 c.enter-mark.ensures.scope

pub returns-clause-mark : goal.returns-clause-mark
returns-clause-mark c =
    c.enter-mark.ensures.mark
    ∙ sym (outer_so c.self.inside.table.now c.self.inside.scope c.self.inside.locals.items (length c.self.inside.names.items) (map inferred_of c.self.inside.types.items) (map local_of c.self.inside.results.items) c.self.inside.in_loop c.args.self.now
    c.self.view_is c.self.invariant.0)
