use Rattle.std.proofs.Common.{◌+◌}
use Rattle.std.proofs.lemmas.Bool.{le-leb}
use Rattle.df_vm_store.specs.View.{cells_of}
use Rattle.df_vm_store.proofs.Kept.{data_kept, sequence_kept}
use Rattle.df_vm_store.proofs.compact.carry.Goals as goal

pub returns-in-Some-clause-value : goal.returns-in-Some-clause-value
returns-in-Some-clause-value c =
    let within = rw c.in-Data.is at c.requires.within in
    rw c.in-Data.is (data_kept (cells_of c.args.store.now) c.args.places.now c.args.live.now c.in-Data.tag c.in-Data.from c.in-Data.count c.in-Some.place c.requires.places c.in-Some.ensures.from c.in-Some.ensures.past within)

pub returns-in-Some-clause-within : goal.returns-in-Some-clause-within
returns-in-Some-clause-within c = le-leb (c.in-Some.place + c.in-Data.count) c.args.size c.in-Some.ensures.size

pub returns-in-Some-carried-clause-value : goal.returns-in-Some-carried-clause-value
returns-in-Some-carried-clause-value c =
    let within = rw c.in-Sequence.is at c.requires.within in
    rw c.in-Sequence.is (sequence_kept (cells_of c.args.store.now) c.args.places.now c.args.live.now c.in-Sequence.from c.in-Sequence.count c.in-Some-carried.place c.requires.places c.in-Some-carried.ensures.from c.in-Some-carried.ensures.past within)

pub returns-in-Some-carried-clause-within : goal.returns-in-Some-carried-clause-within
returns-in-Some-carried-clause-within c = le-leb (c.in-Some-carried.place + c.in-Sequence.count) c.args.size c.in-Some-carried.ensures.size
