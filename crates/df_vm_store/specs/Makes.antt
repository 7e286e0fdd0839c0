-- Which operations may take memory.
use Rattle.std.specs.Prelude.{Bool, true, false}
use Rattle.df_mach2.specs.declared.op.Op.{Op}
use Rattle.df_mach2.specs.declared.op.Op.TheVariants as op

-- whether an operation makes a constructor or a sequence of its own
abbrev pub makes : Op → Bool
makes (op.Number n) = false
makes (op.Truth b) = false
makes (op.Char c) = false
makes op.Null = false
makes (op.Add r) = false
makes (op.Subtract r) = false
makes (op.Multiply r) = false
makes (op.Divide r) = false
makes (op.Modulo r) = false
makes (op.Negate r) = false
makes (op.Fit r) = false
makes op.Less = false
makes op.AtMost = false
makes op.Same = false
makes op.Not = false
makes op.Code = false
makes op.Character = false
makes (op.Construct tag count) = true
makes (op.Part j) = false
makes op.Tag = false
makes (op.Sequence n) = true
makes op.Length = false
makes op.At = false
makes op.Slice = false
makes op.Join = true
makes op.Update = true
