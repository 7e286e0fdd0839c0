use Rattle.std.proofs.Common.{Some, None, sym, ◌∙◌}
use Rattle.std.proofs.lemmas.Option.{slice_get_past}
use Rattle.df_form.proofs.Worlds.{got, decl_ends}
use Rattle.df_form.proofs.world.World.interval.Goals as goal

pub returns-in-Some : goal.returns-in-Some
returns-in-Some c = c.interval_of.ensures ∙ sym (decl_ends c.args.self.program.now.decls.items c.args.number (Some c.in-Some.decl.now) (rw c.deref.ensures.value at (got c.deref.result.now c.args.number c.in-Some.decl.now c.in-Some.ensures.lookup.3.0 c.in-Some.ensures.lookup.1)))

pub returns-in-None : goal.returns-in-None
returns-in-None c = sym (decl_ends c.args.self.program.now.decls.items c.args.number None (rw c.deref.ensures.value at (slice_get_past c.deref.result.now c.args.number c.in-None.ensures.lookup.3)))
