use Rattle.std.proofs.Common.{map}
use Rattle.df_tok.specs.Token.{view}
use Rattle.df_pexpr.specs.mirror.Construction.{frame_of}
use Rattle.df_pexpr.proofs.Spelled.{from_here}
use Rattle.df_pexpr.proofs.text.read.Goals as goal

pub returns : goal.returns
returns c =
    rw (from_here c.args.production (map view c.args.tokens.now) c.args.start c.depth_limit-left.result (frame_of c.opened-frame.result) c.depth_limit-left.ensures c.opened-frame.ensures) c.read_part.ensures
