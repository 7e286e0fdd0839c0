use Rattle.std.proofs.Common.{sym, subst}
use Rattle.df_form.specs.Keyed.{AreKeyed}
use Rattle.df_form.proofs.KeyedNodes.{keyed-more, keyed-pushed}
use Rattle.df_form.proofs.own_nodes.push_keyed.Goals as goal

pub returns-in_err-list-clause-keyed : goal.returns-in_err-list-clause-keyed
returns-in_err-list-clause-keyed c = subst (λ lists. AreKeyed c.args.nodes.now.entries lists) (sym c.in_err-list.ensures.err) c.requires.keyed

pub returns-in_err-insert-clause-keyed : goal.returns-in_err-insert-clause-keyed
returns-in_err-insert-clause-keyed c =
    let now = keyed-more c.args.nodes.now.entries c.args.lists.now c.intern.new.self c.requires.keyed c.in_ok-list.ensures.kept in
    subst (λ entries. AreKeyed entries c.intern.new.self) (sym c.in_err-insert.ensures.err) now

pub returns-clause-keyed : goal.returns-clause-keyed
returns-clause-keyed c = (keyed-pushed c.args.nodes.now.entries c.insert.new.self.entries c.args.lists.now c.intern.new.self c.args.op c.in_ok-list.list c.args.parts.now c.in_ok-own.own c.requires.keyed c.requires.new c.in_ok-list.ensures.kept c.in_ok-list.ensures.number c.in_ok-own.ensures.items c.in_ok-insert.ensures.entries).0

pub returns-clause-pushed : goal.returns-clause-pushed
returns-clause-pushed c = (keyed-pushed c.args.nodes.now.entries c.insert.new.self.entries c.args.lists.now c.intern.new.self c.args.op c.in_ok-list.list c.args.parts.now c.in_ok-own.own c.requires.keyed c.requires.new c.in_ok-list.ensures.kept c.in_ok-list.ensures.number c.in_ok-own.ensures.items c.in_ok-insert.ensures.entries).1
