use Rattle.df_vm_store.specs.View.{size_of}
use Rattle.df_vm_store.proofs.Meanings.{within_one, within_two, within_three, within_third}
use Rattle.df_vm_store.proofs.store.Store.apply.Goals as goal

pub same-requires-clause-left : goal.same-requires-clause-left
same-requires-clause-left c = (within_two (size_of c.args.self.now) c.args.words.now c.two-left-in-Same.result.0 c.two-left-in-Same.result.1 c.two-left-in-Same.ensures c.requires.within).0

pub same-requires-clause-right : goal.same-requires-clause-right
same-requires-clause-right c = (within_two (size_of c.args.self.now) c.args.words.now c.two-left-in-Same.result.0 c.two-left-in-Same.result.1 c.two-left-in-Same.ensures c.requires.within).1

pub part-requires : goal.part-requires
part-requires c = within_one (size_of c.args.self.now) c.args.words.now c.one-in-Part.result c.one-in-Part.ensures c.requires.within

pub length-requires : goal.length-requires
length-requires c = within_one (size_of c.args.self.now) c.args.words.now c.one-in-Length.result c.one-in-Length.ensures c.requires.within

pub at-requires : goal.at-requires
at-requires c = (within_two (size_of c.args.self.now) c.args.words.now c.two-whole.result.0 c.two-whole.result.1 c.two-whole.ensures c.requires.within).0

pub slice-requires : goal.slice-requires
slice-requires c = within_three (size_of c.args.self.now) c.args.words.now c.three-whole.result.0 c.three-whole.result.1 c.three-whole.result.2 c.three-whole.ensures c.requires.within

pub join-requires-clause-left : goal.join-requires-clause-left
join-requires-clause-left c = (within_two (size_of c.args.self.now) c.args.words.now c.two-left-in-Join.result.0 c.two-left-in-Join.result.1 c.two-left-in-Join.ensures c.requires.within).0

pub join-requires-clause-right : goal.join-requires-clause-right
join-requires-clause-right c = (within_two (size_of c.args.self.now) c.args.words.now c.two-left-in-Join.result.0 c.two-left-in-Join.result.1 c.two-left-in-Join.ensures c.requires.within).1

pub update-requires-clause-whole : goal.update-requires-clause-whole
update-requires-clause-whole c = within_three (size_of c.args.self.now) c.args.words.now c.three-whole-in-Update.result.0 c.three-whole-in-Update.result.1 c.three-whole-in-Update.result.2 c.three-whole-in-Update.ensures c.requires.within

pub update-requires-clause-word : goal.update-requires-clause-word
update-requires-clause-word c = within_third (size_of c.args.self.now) c.args.words.now c.three-whole-in-Update.result.0 c.three-whole-in-Update.result.1 c.three-whole-in-Update.result.2 c.three-whole-in-Update.ensures c.requires.within
