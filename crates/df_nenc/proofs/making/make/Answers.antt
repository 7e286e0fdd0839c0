use Rattle.df_nenc.proofs.Words.{refl}
use Rattle.df_nenc.proofs.Results.{added_stands, added_grows}
use Rattle.df_nenc.proofs.making.make.Goals as goal

pub returns-clause-stands : goal.returns-clause-stands
returns-clause-stands c = added_stands c.add.result c.args.nodes.now c.add.new.self c.args.op c.args.parts.now c.args.parts.now refl c.len.ensures.table c.requires c.add.ensures.made

pub returns-clause-grows : goal.returns-clause-grows
returns-clause-grows c = added_grows c.add.result c.args.nodes.now c.add.new.self c.args.op c.args.parts.now c.args.parts.now refl c.len.ensures.table c.requires c.add.ensures.made c.add.ensures.err
