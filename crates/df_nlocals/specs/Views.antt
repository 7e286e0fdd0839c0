-- The code's records, as the rules' ones.
use Rattle.std.specs.Prelude.{List, map}
use Rattle.df_meaning.specs.Modular.{Changed}
use Rattle.df_nlocals.specs.declared.changed.Changed as declared_changed

abbrev pub changed_of : declared_changed.Changed → Changed
changed_of c = record { local = c.local; ty = c.ty }

abbrev pub changed_in : List declared_changed.Changed → List Changed
changed_in all = map changed_of all
