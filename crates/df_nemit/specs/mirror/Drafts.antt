-- What the emitter has made so far, without where it lies in memory: what private contracts cite.
use Rattle.std.specs.Prelude.{ℕ, Vec}
use Rattle.std.specs.declared.alloc.Global.{Global}
use Rattle.df_nmach.specs.declared.instruction.Instruction.{Instruction}
use Rattle.df_nemit.specs.declared.draft.Draft as declared
use Rattle.df_nemit.specs.mirror.Emitting.{Run, Draft, Choice}

abbrev pub draft_of : declared.Draft → Draft
draft_of d = record { code = d.code.items; breaks = d.breaks.items; returns = d.returns.items }

abbrev pub run_of : Vec Instruction Global → Vec ℕ Global → Run
run_of code exits = record { code = code.items; exits = exits.items }

abbrev pub choice_of : declared.Draft → Vec ℕ Global → Choice
choice_of d exits = record { draft = draft_of d; exits = exits.items }
