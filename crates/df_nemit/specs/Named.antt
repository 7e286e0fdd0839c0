-- That methods have names.
use Rattle.std.specs.Prelude.{Bool}
use Rattle.std.specs.List.{list_all}
use Rattle.df_nplain.specs.Plain.{Method, Plain}
use Rattle.df_nmach.specs.Name.{is_name}

-- the names of all methods are identifiers parted by dots
abbrev pub are_named : Plain → Bool
are_named program = list_all (λ (m : Method). is_name m.text) program.methods
