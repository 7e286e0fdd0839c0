use Rattle.std.proofs.Common.{◌≡◌, sym, ◌∙◌}
use Rattle.df_nnames.specs.Scope.{all_locals}
use Rattle.df_nnames.specs.Latest.{last_of, names_of}
use Rattle.df_nnames.proofs.Latest.{all_are, is_local_of, none_among_of, among_of}
use Rattle.df_nnames.proofs.scope.Scope.find.Goals as goal

found : (c : goal.After-copied) → last_of (all_locals c.args.self.now) c.args.name ≡ c.copied.result
found c = all_are c.self.inside.outer (names_of c.self.inside.locals.items) c.args.self.now c.args.name c.self.view_is ∙ sym (c.copied.ensures ∙ c.get.ensures.value ∙ c.self.invariant.1.found c.args.name)

pub returns-clause-local : goal.returns-clause-local
returns-clause-local c = is_local_of _ c.args.name c.copied.result (found c)

pub returns-clause-none : goal.returns-clause-none
returns-clause-none c = none_among_of _ c.args.name c.copied.result (found c)

pub returns-clause-among : goal.returns-clause-among
returns-clause-among c = among_of _ c.args.name c.copied.result (found c)
