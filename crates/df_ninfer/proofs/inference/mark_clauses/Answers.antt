use Rattle.std.proofs.Common.{map}
use Rattle.std.specs.List.{flat_map}
use Rattle.df_ntree.specs.File.{clause_of}
use Rattle.df_ntyping.specs.LocalTypes.{used_in_clause}
use Rattle.df_ninfer.specs.Marks.{marked}
use Rattle.df_ninfer.proofs.Looping.{mark_step}
use Rattle.df_ninfer.proofs.inference.mark_clauses.Goals as goal

pub loop-clause-preserved : goal.loop-clause-preserved
loop-clause-preserved c =
    mark_step clause_of used_in_clause c.args.all.now c.loop-clause.clause-index c.clause-item.result c.loop-clause.env c.mark_clause.new.env (marked c.args.env.now (flat_map used_in_clause (map clause_of c.args.all.now))) c.loop-clause-test.true c.clause-item.is c.mark_clause.ensures c.loop-clause.invariant
