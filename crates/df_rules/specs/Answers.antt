-- What the code's lines answer: a clause where the definition has one, and none where it has none.
use Rattle.std.specs.Prelude.{◌≡◌, Bool, true, false, List, Option, None, Some, Result, Ok, Err, Vec}
use Rattle.std.specs.declared.alloc.Global.{Global}
use Rattle.std.specs.declared.alloc.AllocError.{AllocError}
use Rattle.df_form.specs.declared.log.Lit.{Lit}
use Rattle.df_form.specs.Node.{Node}
use Rattle.df_form.specs.Clause.{Clause}
pub use Rattle.df_axiom.specs.Answers.{Adds}

-- a clause without nodes of its own
abbrev pub Gives : Result (Option (Vec Lit Global)) AllocError → Option Clause → Type 0
Gives (Ok (Some clause)) line = line ≡ Some clause.items
Gives (Ok None) line = line ≡ None
Gives (Err e) line = Unit {0}

-- a node, where the definition makes one
abbrev pub Makes : List Node → List Node → Result Bool AllocError → Option (List Node) → Type 0
Makes old new (Ok true) line = line ≡ Some new
Makes old new (Ok false) line = (line ≡ None) × (new ≡ old)
Makes old new (Err e) line = new ≡ old
