-- The code's classes as definitions have them.
use Rattle.std.specs.Prelude.{ℕ}
use Rattle.df_kern.specs.declared.classes.Classes.{Classes}
use Rattle.df_kern.specs.Links.{least_by}

-- the least number of the class of each
abbrev pub class_of : Classes → ℕ → ℕ
class_of classes = least_by classes.links.entries
