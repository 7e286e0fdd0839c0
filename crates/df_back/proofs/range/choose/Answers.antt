use Rattle.df_level.specs.Levels.{rows_of}
use Rattle.df_back.proofs.Narrowing.{chosen}
use Rattle.df_back.proofs.range.choose.Goals as goal

pub returns-in-Some : goal.returns-in-Some
returns-in-Some g c = λ count within zero. chosen count (g.V.Valuation.numbers c.args.valuation.now) c.args.node (rows_of c.args.rows.now) c.in-Some.range c.nearest.result (c.in-Some.ensures count within zero) c.nearest.ensures

pub returns-in-None : goal.returns-in-None
returns-in-None g c = λ count within zero. c.in-None.ensures count within zero
