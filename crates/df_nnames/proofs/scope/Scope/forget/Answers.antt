use Rattle.std.proofs.Common.{ap, is_some}
use Rattle.std.specs.Prelude.{nat_eq}
use Rattle.indexmap.specs.IndexMap.{get}
use Rattle.df_nnames.proofs.Latest.{forgotten, last_is_found, still_within}
use Rattle.df_nnames.proofs.scope.Scope.forget.Goals as goal

pub invariant_of-self-in-Some-get_mut : goal.invariant_of-self-in-Some-get_mut
invariant_of-self-in-Some-get_mut c =
    let index = rw c.in-Some.ensures.items at c.self.invariant.1 in
    let found = last_is_found (get nat_eq c.self.inside.latest) c.pop.new.self.items c.in-Some.local index in
    let written = c.get_mut.follows.holds c.in-Some-hidden.number in (
      still_within c.self.inside.outer c.self.inside.locals.items c.pop.new.self.items c.in-Some.local c.args.self.now c.self.view_is c.in-Some.ensures.items c.requires,
      forgotten (get nat_eq c.self.inside.latest) _ c.pop.new.self.items c.in-Some.local index (rw c.in-Some-hidden.is (written.3 (ap is_some found)).0),
    )

pub invariant_of-self-in_default-get_mut : goal.invariant_of-self-in_default-get_mut
invariant_of-self-in_default-get_mut c =
    let index = rw c.in-Some.ensures.items at c.self.invariant.1 in
    let found = last_is_found (get nat_eq c.self.inside.latest) c.pop.new.self.items c.in-Some.local index in
    let none = c.get_mut.ensures.value in
    absurd cc

pub invariant_of-self-in-None : goal.invariant_of-self-in-None
invariant_of-self-in-None c =
    let index = rw c.in-Some.ensures.items at c.self.invariant.1 in (
      still_within c.self.inside.outer c.self.inside.locals.items c.pop.new.self.items c.in-Some.local c.args.self.now c.self.view_is c.in-Some.ensures.items c.requires,
      forgotten (get nat_eq c.self.inside.latest) (get nat_eq c.swap_remove.new.self) c.pop.new.self.items c.in-Some.local index (rw c.in-None.is c.swap_remove.ensures.updates.0),
    )
