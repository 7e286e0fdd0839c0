use Rattle.std.proofs.Common.{◌≡◌, ◌≤◌, drop}
use Rattle.df_tok.specs.Scanning.{more, comment_len}
use Rattle.df_tok.proofs.comment.block_len.Given as goal

-- the bytes so far, and those in the rest
abbrev pub invariant-loop-b : goal.invariant-loop-b
invariant-loop-b l = (l.n ≡ l.b-index) × (l.depth ≤ l.n) × (more l.n (comment_len l.depth l.before (drop l.b-index l.bytes)) ≡ comment_len 0 0 l.bytes)
