-- What a walk over all declarations says of the file.
use Rattle.std.proofs.Common.{◌≡◌, List, Result, Ok, Err, sym, ap, subst, ◌∙◌}
use Rattle.std.specs.Prelude.{IfOk, OnOk, IfErr}
use Rattle.df_base.specs.declared.refusal.Refusal.{Refusal}
use Rattle.df_base.specs.declared.refusal.Stop.{Stop}
use Rattle.df_base.specs.Refusing.{IfRefused}
use Rattle.df_ntree.specs.File.{Declaration}
use Rattle.df_ntree.specs.FileSpelling.{IsFile}
use Rattle.df_ntyping.specs.Table.{Table, table_of}
use Rattle.df_ntyping.specs.FileNodes.{file_nodes}
use Rattle.df_ntyping.specs.Least.{IsToldIn}
use Rattle.df_ntyping.specs.FileElaboration.{HasNames}
use Rattle.df_nnames.specs.Globals.{Globals, globals_from}
use Rattle.df_nnames.specs.Table.{no_table}
use Rattle.df_nnames.specs.Listing.{with_declarations}
use Rattle.df_nnames.specs.Faults.{declarations_faults}
use Rattle.df_nnames.specs.Telling.{IsTold, Tells}
use Rattle.df_nnames.proofs.Listing.{table_is}
use Rattle.df_nnames.proofs.FirstTold.{file_is_named, stop_is_told}

module _ (all : List Declaration) (globals : Globals) (is : globals ≡ globals_from 0 all) where
  pub whole_table : (r : Result Table Stop) → IfOk r (λ (table : Table). table ≡ with_declarations globals no_table 0 all) → IfOk r (λ (table : Table). table ≡ table_of (record { declarations = all }))
  whole_table (Ok table) h = h ∙ table_is (record { declarations = all }) globals is
  whole_table (Err stop) h = tt

  pub whole_named : (r : Result Table Stop) → Tells r (declarations_faults globals no_table 0 all) → OnOk r (HasNames (record { declarations = all }))
  whole_named (Ok table) h = file_is_named (record { declarations = all }) (ap (λ (g : Globals). declarations_faults g no_table 0 all) (sym is) ∙ h)
  whole_named (Err stop) h = tt

  pub whole_refused : (r : Result Table Stop) → IsFile (record { declarations = all }) → Tells r (declarations_faults globals no_table 0 all)
      → IfErr r (IfRefused (IsToldIn 0 (file_nodes (record { declarations = all }))))
  whole_refused (Ok table) g h = tt
  whole_refused (Err stop) g h = stop_is_told (record { declarations = all }) stop g (subst (λ (g : Globals). IsTold stop (declarations_faults g no_table 0 all)) is h)
