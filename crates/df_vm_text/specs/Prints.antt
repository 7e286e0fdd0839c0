-- What printing answers and puts, against a text.
use Rattle.std.specs.Prelude.{◌≡◌, ℕ, List, Option, Some, None, Result, Ok, Err}
use Rattle.std.specs.declared.alloc.AllocError.{AllocError}
use Rattle.df_vm_store.specs.declared.halt.Halt.{Halt}
use Rattle.df_vm_store.specs.declared.halt.Halt.TheVariants as halts
use Rattle.df_mach2.specs.Text.{then_text}

-- The text is put behind what was. A broken demand says that there is none.
abbrev pub Puts : Result (Unit {0}) Halt → Option (List ℕ) → List ℕ → List ℕ → Type 0
Puts (Ok _) text old new = Some new ≡ then_text (Some old) text
Puts (Err halts.Broken) text old new = text ≡ None
Puts (Err halts.Memory) text old new = Unit {0}

-- What is put, and what is left, is what was put, then this text, and then what was left. A broken demand says that
-- there is no text.
abbrev pub Prints : Result (Unit {0}) Halt → Option (List ℕ) → List ℕ → Option (List ℕ) → List ℕ → Option (List ℕ) → Type 0
Prints (Ok _) text old before new now = then_text (Some new) now ≡ then_text (Some old) (then_text text before)
Prints (Err halts.Broken) text old before new now = text ≡ None
Prints (Err halts.Memory) text old before new now = Unit {0}

-- The same for what halts for want of memory alone.
abbrev pub IfPrints : Result (Unit {0}) AllocError → Option (List ℕ) → List ℕ → Option (List ℕ) → List ℕ → Option (List ℕ) → Type 0
IfPrints (Ok _) text old before new now = then_text (Some new) now ≡ then_text (Some old) (then_text text before)
IfPrints (Err e) text old before new now = Unit {0}
