-- The code's values, heaps and code, without where they lie in memory.
use Rattle.std.specs.Prelude.{ℕ, List, map, string_bytes}
use Rattle.df_nmach.specs.declared.value.Value.{Value}
use Rattle.df_nmach.specs.declared.value.Value.TheVariants as values
use Rattle.df_nmach.specs.declared.heap.Object.{Object}
use Rattle.df_nmach.specs.declared.heap.Object.TheVariants as objects
use Rattle.df_nmach.specs.declared.heap.Entry.{Entry}
use Rattle.df_nmach.specs.declared.heap.Heap.{Heap}
use Rattle.df_nmach.specs.declared.code.Method.{Method}
use Rattle.df_nmach.specs.declared.code.Code.{Code}
use Rattle.df_nmach.specs.Value as pure
use Rattle.df_nmach.specs.State as state

abbrev pub value_of : Value → pure.Value
value_of (values.Number n) = pure.Number n
value_of (values.Truth b) = pure.Truth b
value_of (values.Char c) = pure.Char c
value_of values.Null = pure.Null
value_of (values.Reference r) = pure.Reference r
value_of (values.Text text) = pure.Text text.items

abbrev pub values_of : List Value → List pure.Value
values_of vs = map value_of vs

abbrev pub object_of : Object → state.Object
object_of (objects.Slots v) = state.Slots (values_of v.items)
object_of (objects.Array v) = state.Array (values_of v.items)

abbrev pub entry_of : Entry → ℕ × state.Object
entry_of e = (e.reference, object_of e.object)

abbrev pub heap_of : Heap → state.Heap
heap_of h = map entry_of h.entries.items

abbrev pub method_of : Method → state.Method
method_of m = record { name = string_bytes m.name; parameters = m.parameters; results = m.results; locals = m.locals; instructions = m.instructions.items }

abbrev pub code_of : Code → state.Code
code_of c = record { methods = map method_of c.methods.items; shapes = c.shapes.items }
