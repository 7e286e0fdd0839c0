-- What a program and the program without its ghosts have in common, step by step.
use Rattle.std.specs.Prelude.{◌≡◌}
use Rattle.df_lang.specs.Program.{Program}
use Rattle.df_meaning.specs.Outcome as source
use Rattle.df_meaning.specs.State as source_state
use Rattle.df_meaning.specs.Meaning as source_meaning
use Rattle.df_meaning.specs.Execution as source_execution
use Rattle.df_nplain.specs.Outcome as plain
use Rattle.df_nplain.specs.State as plain_state
use Rattle.df_nplain.specs.Meaning as plain_meaning
use Rattle.df_nplain.specs.Execution as plain_execution
use Rattle.df_nerase.specs.Erasing.{erase_expr, erase_stmts}

-- What the one gives the other gives too, seen without ghosts. Where the one gives nothing, nothing is said.
abbrev pub Simulates : {A B : Type 0} → (A → B) → source.Outcome A → plain.Outcome B → Type 0
Simulates view (source.Gives a) p = p ≡ plain.Gives (view a)
Simulates view (source.Wrong pos kind) p = Unit {0}
Simulates view source.TooDeep p = Unit {0}
Simulates view source.NoChoice p = Unit {0}
Simulates view source.Dismissed p = Unit {0}

-- the locals and the text
abbrev pub state_of : source_state.State → plain_state.State
state_of s = record { locals = s.locals; text = s.store.text }

abbrev pub flow_of : source_meaning.Flow → plain_meaning.Flow
flow_of (source_meaning.Next s) = plain_meaning.Next (state_of s)
flow_of (source_meaning.Return s) = plain_meaning.Return (state_of s)
flow_of (source_meaning.Break s) = plain_meaning.Break (state_of s)

abbrev pub values_of : source_execution.Values → plain_execution.Values
values_of given = record { values = given.values; state = state_of given.state }

-- the results and the text
abbrev pub returned_of : source_meaning.Returned → plain_meaning.Returned
returned_of returned = record { values = returned.values; text = returned.store.text }

abbrev pub loop_of : Program → source_meaning.Loop → plain_meaning.Loop
loop_of p loop = record { guard = erase_expr p loop.guard; body = erase_stmts p loop.body }
