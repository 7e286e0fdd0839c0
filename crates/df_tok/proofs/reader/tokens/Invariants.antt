use Rattle.std.proofs.Common.{◌+◌, ◌≤◌, length, map, vec_len}
use Rattle.df_tok.specs.Token.{view}
use Rattle.df_tok.proofs.Divisions.{Progress}
use Rattle.df_tok.proofs.reader.tokens.Given as goal
use Rattle.df_tok.specs.Limits.{token_limit}

abbrev pub invariant-loop-rest : goal.invariant-loop-rest
invariant-loop-rest l = record {
  progress : Progress l.fn.names l.source (map view l.all.items) l.rest l.pos l.names;
  few : vec_len l.all ≤ token_limit;
  within : length l.rest ≤ length l.source;
  line : l.pos.line + length l.rest ≤ length l.source + 1;
  col : l.pos.col + length l.rest ≤ length l.source + 1;
}

abbrev pub decreases-loop-rest : goal.decreases-loop-rest
decreases-loop-rest l = length l.rest
