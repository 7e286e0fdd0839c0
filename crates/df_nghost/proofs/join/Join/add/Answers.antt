use Rattle.std.proofs.Common.{rules}
use Rattle.df_nghost.specs.declared.join.Join.{Join}
use Rattle.df_nghost.proofs.Points.{joins_more}
use Rattle.df_nghost.proofs.join.Join.add.Goals as goal

pub returns-then-self : goal.returns-then-self
returns-then-self c =
    let new : Join = record c.args.self.now { taken = c.keep.new.locals } in
    joins_more c.args.way.now c.args.self.now new c.args.count (search rules) (search rules) (search rules) c.keep.ensures
