use Rattle.std.proofs.Common.{◌≡◌, length, drop}
use Rattle.df_nmach.specs.declared.instruction.Instruction.TheVariants as jumps
use Rattle.df_nemit.specs.mirror.Emitting as mirror
use Rattle.df_nemit.proofs.instructions.land.Given as goal

-- with the jumps filled in that are left, all are
abbrev pub invariant-loop-place : goal.invariant-loop-place
invariant-loop-place l = record {
  long : length l.code.items ≡ length l.fn.code.items;
  rest : mirror.fill (jumps.Jump l.target) (drop l.place-index l.place-items) l.code.items ≡ mirror.fill (jumps.Jump l.target) l.fn.exits.items l.fn.code.items;
}
