use Rattle.std.proofs.Common.{◌≡◌, take, length, subst}
use Rattle.df_form.specs.PartLists.{lists_of}
use Rattle.df_form.proofs.Interning.{list-stored, lists-kept}
use Rattle.df_form.proofs.part_lists.PartLists.intern.Goals as goal

pub returns-clause-number : goal.returns-clause-number
returns-clause-number c =
    let stored = c.in_ok-number.ensures.stored in
    list-stored c.insert_full.new.self.keys c.in_ok-list.list stored.0 c.args.parts.now c.in_ok-number.number stored.1 stored.2 c.in_ok-list.ensures.items

pub returns-clause-kept : goal.returns-clause-kept
returns-clause-kept c = subst (λ lists. take (length lists) (lists_of c.insert_full.new.self.keys) ≡ lists) c.self.view_is (lists-kept c.self.inside.lists.keys c.insert_full.new.self.keys c.in_ok-list.list c.in_ok-number.ensures.keys)
