-- The frames of a machine: the one that runs, and those that wait, each below the one before it.
use Rattle.std.specs.Prelude.{◌+◌, List, [], ◌∷◌, take, drop, reverse}
use Rattle.df_nmach.specs.Value.{Value}
use Rattle.df_nmach.specs.State.{Frame, State}
use Rattle.df_nmach.specs.View.{heap_of}
use Rattle.df_nvm.specs.declared.machine.Waiting.{Waiting}
use Rattle.df_nvm.specs.declared.machine.Machine.{Machine}
use Rattle.df_nvm.specs.Stack.{below_of, locals_of, operands_of}

-- the frame that waits on top of these values
abbrev pub frame_at : Waiting → List Value → Frame
frame_at w values = record { method = w.method; next = w.next; locals = take w.locals (drop w.base values); operands = reverse (drop (w.base + w.locals) values) }

-- the frames that wait, the first on top
abbrev pub frames_at : List Waiting → List Value → List Frame
frames_at [] values = []
frames_at (w ∷ ws) values = frame_at w values ∷ frames_at ws (take w.base values)

abbrev pub running_of : Machine → Frame
running_of m = record { method = m.method; next = m.next; locals = locals_of m.stack; operands = operands_of m.stack }

abbrev pub waiting_of : Machine → List Frame
waiting_of m = frames_at (reverse m.waiting.items) (below_of m.stack)

-- the state of a machine that has printed nothing
abbrev pub state_of : Machine → State
state_of m = record { heap = heap_of m.heap; frames = running_of m ∷ waiting_of m; text = [] }
