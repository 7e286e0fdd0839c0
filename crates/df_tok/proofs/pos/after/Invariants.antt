use Rattle.std.proofs.Common.{◌≡◌, ◌+◌, ◌≤◌, drop}
use Rattle.df_tok.specs.Division.{after_bytes}
use Rattle.df_tok.proofs.pos.after.Given as goal

-- the position so far, and with the rest that of all
abbrev pub invariant-loop-b : goal.invariant-loop-b
invariant-loop-b l =
    (after_bytes (record { line = l.line; col = l.col }) (drop l.b-index l.bytes) ≡ after_bytes l.fn.pos l.bytes) × (l.line ≤ l.fn.pos.line + l.b-index) × (l.col ≤ l.fn.pos.col + l.b-index)
