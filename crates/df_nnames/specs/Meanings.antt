-- What names mean by maps in memory.
use Rattle.std.specs.Prelude.{nat_eq}
use Rattle.indexmap.specs.IndexMap.{get}
use Rattle.indexmap.specs.IndexSet.{contains}
use Rattle.df_nnames.specs.declared.globals.Globals as maps
use Rattle.df_nnames.specs.Globals.{Globals}

abbrev pub meanings_of : maps.Globals → Globals
meanings_of globals = record { newtype = get nat_eq globals.newtypes; is_method = contains nat_eq globals.methods }
