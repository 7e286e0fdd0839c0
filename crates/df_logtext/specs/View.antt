-- The code's logs and names, without where they lie in memory.
use Rattle.std.specs.Prelude.{ℕ, List, map, string_bytes, String, Vec}
use Rattle.std.specs.declared.alloc.Global.{Global}
use Rattle.df_form.specs.declared.log.Step as declared
use Rattle.df_form.specs.Log.{Step, step_of}

abbrev pub log_of : List declared.Step → List Step
log_of steps = map step_of steps

abbrev pub logs_of : List (Vec declared.Step Global) → List (List Step)
logs_of logs = map (λ log. map step_of log.items) logs

abbrev pub names_of : List (String Global) → List (List ℕ)
names_of names = map string_bytes names
