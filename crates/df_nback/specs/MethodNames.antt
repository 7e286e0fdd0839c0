-- The names of a program's methods.
use Rattle.std.specs.Prelude.{Bool}
use Rattle.std.specs.List.{list_all}
use Rattle.df_lang.specs.Program.{Method, Program}
use Rattle.df_nerase.specs.Erasing.{methods_among}
use Rattle.df_nmach.specs.Name.{is_name}

-- the names of all methods are identifiers parted by dots
abbrev pub has_names : Program → Bool
has_names program = list_all (λ (method : Method). is_name method.declared.text) (methods_among program.decls)
