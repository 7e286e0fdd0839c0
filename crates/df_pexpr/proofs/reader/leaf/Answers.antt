use Rattle.df_pexpr.specs.mirror.Construction.{frame_of}
use Rattle.df_pexpr.proofs.Walk.{leaf_found}
use Rattle.df_pexpr.proofs.reader.leaf.Goals as goal

pub returns-in-Some : goal.returns-in-Some
returns-in-Some c =
    rw (leaf_found c.args.before (frame_of c.args.frame) c.args.at c.args.terminal c.args.tokens.now c.in-Some.token.now c.in-Some.ensures.lookup.3.0 c.in-Some.ensures.lookup.1) c.taken.ensures
