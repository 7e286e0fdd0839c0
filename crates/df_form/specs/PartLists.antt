-- Lists of parts as they lie in memory.
use Rattle.std.specs.Prelude.{ℕ, List, map, Vec}
use Rattle.std.specs.declared.alloc.Global.{Global}

-- what is in a list, without where it lies
abbrev pub list_of : Vec ℕ Global → List ℕ
list_of list = list.items

abbrev pub lists_of : List (Vec ℕ Global) → List (List ℕ)
lists_of lists = map list_of lists
