-- What the code answers, against a row.
use Rattle.std.specs.Prelude.{◌≡◌, Result, Ok, Err}
use Rattle.df_vm_store.specs.declared.word.Word.{Word}
use Rattle.df_vm_store.specs.declared.halt.Halt.{Halt}
use Rattle.df_vm_store.specs.declared.halt.Halt.TheVariants as halts
use Rattle.df_mach2.specs.Value.{Value}
use Rattle.df_mach2.specs.Row.{Found, Gives, Broken}

-- the word that is answered has the value that is found; want of memory says nothing
abbrev pub Answers : Result Word Halt → (Word → Value) → Found → Type 0
Answers (Ok w) meaning f = f ≡ Gives (meaning w)
Answers (Err halts.Broken) meaning f = f ≡ Broken
Answers (Err halts.Memory) meaning f = Unit {0}
