use Rattle.std.proofs.Common.{ap, map}
use Rattle.df_ntree.specs.File.{declaration_of}
use Rattle.df_nnames.specs.Globals.{Globals, globals_from}
use Rattle.df_nnames.specs.Meanings.{meanings_of}
use Rattle.df_nnames.proofs.Meanings.{joined, joined_more, joined_all}
use Rattle.df_nnames.proofs.globals.globals_in.Goals as goal

pub loop-id-init : goal.loop-id-init
loop-id-init c = ap (λ (g : Globals). joined g (globals_from 0 (map declaration_of c.args.all.now))) c.new-globals.ensures

pub loop-id-preserved : goal.loop-id-preserved
loop-id-preserved c =
    joined_more (meanings_of c.loop-id.globals) (meanings_of c.add.new.self) c.loop-id.id c.index-all-id.result c.args.all.now _ c.loop-id-test.true c.index-all-id.is c.in_ok-add.ensures c.loop-id.invariant

pub returns : goal.returns
returns c = joined_all (meanings_of c.loop-id.globals) c.loop-id.id c.args.all.now _ c.loop-id-test.false c.loop-id.invariant
