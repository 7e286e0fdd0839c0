-- What is left to be printed, as text, and how much work it is.
use Rattle.std.specs.Prelude.{◌≡◌, ℕ, suc, ◌+◌, ◌-◌, ◌*◌, ◌^◌, ◌<◌, nat_eq, List, [], ◌∷◌, take, drop, Option, Some, None, slice_get, Result, Ok, Err}
use Rattle.std.specs.Option.{option_and_then, option_map_or}
use Rattle.df_mach2.specs.Value.{Value, Number, Truth, Char, Null, Reference, Data, Sequence, values_of}
use Rattle.df_mach2.specs.Shape.{Shape, Constructor, NumberShape, TruthShape, CharShape, TextShape, ListShape, DataShape}
use Rattle.df_mach2.specs.Text.{then_text, texts, All, Each}
use Rattle.df_vm_store.specs.declared.word.Word.{Word}
use Rattle.df_vm_store.specs.Meaning.{value_in}
use Rattle.df_vm_store.specs.Equal.{weights}
use Rattle.df_vm_store.specs.declared.halt.Halt.{Halt}
use Rattle.df_vm_store.specs.declared.halt.Halt.TheVariants as halts
use Rattle.df_vm_text.specs.declared.tasks.Members.{Members}
use Rattle.df_vm_text.specs.declared.tasks.Arguments.{Arguments}
use Rattle.df_vm_text.specs.declared.tasks.Task.{Task}
use Rattle.df_vm_text.specs.declared.tasks.Task.TheVariants as tasks

-- so many values from one on
abbrev pub piece : List Value → ℕ → ℕ → List Value
piece vs from count = take count (drop from vs)

-- the character that a value is
abbrev pub char_in : Value → Option ℕ
char_in (Number n) = None
char_in (Truth b) = None
char_in (Char c) = Some c
char_in Null = None
char_in (Reference r) = None
char_in (Data tag vs) = None
char_in (Sequence vs) = None

-- the constructor of a number
abbrev pub constructor_in : ℕ → Shape → Option Constructor
constructor_in tag NumberShape = None
constructor_in tag TruthShape = None
constructor_in tag CharShape = None
constructor_in tag TextShape = None
constructor_in tag (ListShape s) = None
constructor_in tag (DataShape cs) = slice_get cs tag

abbrev pub parts_of : Constructor → List ℕ
parts_of c = c.parts

-- the shapes of the arguments of a constructor; none where there is no such one
abbrev pub parts_at : List Shape → ℕ → ℕ → List ℕ
parts_at t s tag = option_map_or parts_of (option_and_then (constructor_in tag) (slice_get t s)) []

-- the first of so many words from one on, and the values behind it
abbrev pub Begins : Option Word → List Value → (from count : ℕ) → Type 0
Begins None vs from count = piece vs from count ≡ []
Begins (Some w) vs from count = (piece vs from count ≡ value_in vs w ∷ piece vs (from + 1) (count - 1)) × (0 < count) × (from < 2 ^ 63)

abbrev pub members_text : List Shape → List Value → Members → Option (List ℕ)
members_text t vs m = texts t (values_of (piece vs m.from m.count)) (All m.shape) m.is_first

abbrev pub arguments_text : List Shape → List Value → Arguments → Option (List ℕ)
arguments_text t vs a = texts t (values_of (piece vs a.from a.count)) (Each (drop a.place (parts_at t a.shape a.tag))) (nat_eq a.place 0)

abbrev pub task_text : List Shape → List Value → Task → Option (List ℕ)
task_text t vs (tasks.Members m) = members_text t vs m
task_text t vs (tasks.Arguments a) = arguments_text t vs a
task_text t vs (tasks.Close c) = Some (c ∷ [])

-- the last is printed first
unfoldable pub tasks_text : List Shape → List Value → List Task → Option (List ℕ)
tasks_text t vs [] = Some []
tasks_text t vs (x ∷ xs) = then_text (tasks_text t vs xs) (task_text t vs x)

abbrev pub piece_work : List Value → ℕ → ℕ → ℕ
piece_work vs from count = suc (3 * weights (values_of (piece vs from count)))

abbrev pub task_work : List Value → Task → ℕ
task_work vs (tasks.Members m) = piece_work vs m.from m.count
task_work vs (tasks.Arguments a) = piece_work vs a.from a.count
task_work vs (tasks.Close c) = 1

unfoldable pub tasks_work : List Value → List Task → ℕ
tasks_work vs [] = 0
tasks_work vs (x ∷ xs) = task_work vs x + tasks_work vs xs

-- that there are none of so many
abbrev pub HasNone : Result (Unit {0}) Halt → ℕ → Type 0
HasNone (Ok _) count = count ≡ 0
HasNone (Err halts.Broken) count = 0 < count
HasNone (Err halts.Memory) count = ⊥
