-- The code's readers and answers, without where they lie in memory.
use Rattle.std.specs.Prelude.{◌≡◌, Result, Ok, Err, Vec}
use Rattle.std.specs.declared.alloc.Global.{Global}
use Rattle.df_form.specs.declared.log.Step as declared
use Rattle.df_logtext.specs.declared.reader.Reader.{Reader}
use Rattle.df_logtext.specs.declared.fault.LogFault.{LogFault}
use Rattle.df_logtext.specs.declared.fault.LogFault.TheVariants.{BadLog, Memory}
use Rattle.df_logtext.specs.Reading.{State, Outcome, Read, Bad}
use Rattle.df_logtext.specs.View.{log_of, logs_of}

abbrev pub state_of : Reader → State
state_of r = record { stage = r.stage; logs = logs_of r.logs.items; steps = log_of r.steps.items }

-- the answer is the outcome, but for want of memory
abbrev pub Answers : Outcome → Result (Vec (Vec declared.Step Global) Global) LogFault → Type 0
Answers outcome (Ok logs) = outcome ≡ Read (logs_of logs.items)
Answers outcome (Err (BadLog number)) = outcome ≡ Bad number
Answers outcome (Err Memory) = Unit {0}
