-- Why bytes are no log of a program.
use Rattle.std.proofs.Common.{ℕ, List}
use Rattle.df_lang.specs.Groups.{AreGroups}
use Rattle.df_lang.specs.Program.{Program}
use Rattle.df_form.specs.Log.{Step}
use Rattle.df_logtext.specs.BadLog.{IsText}
use Rattle.df_npass.specs.Methods.{obligations}
use Rattle.df_nproof.specs.declared.fault.CheckFault.{CheckFault}
use Rattle.df_nproof.specs.declared.fault.CheckFault.TheVariants as faults
use Rattle.df_nproof.specs.Names.{names_in}
use Rattle.df_nproof.specs.Checking.{IsRefusedBy, IsUnread, IsNoLog}

pub unread_is_no_log : (program : Program) (bytes : List ℕ) (fault : CheckFault) → IsUnread program bytes fault → IsNoLog program bytes fault
unread_is_no_log program bytes (faults.NotALog line) h = h
unread_is_no_log program bytes (faults.Refused number step) h = absurd h
unread_is_no_log program bytes faults.Memory h = h

pub refused_is_no_log : (program : Program) (bytes : List ℕ) (groups : List ℕ) (parts : List (List Step)) (fault : CheckFault) → AreGroups program groups → IsText (names_in program) parts bytes → IsRefusedBy program (obligations program groups) parts fault → IsNoLog program bytes fault
refused_is_no_log program bytes groups parts (faults.NotALog line) are_groups text h = absurd h
refused_is_no_log program bytes groups parts (faults.Refused number step) are_groups text h = record { parts = parts; is_text = text; refused = record { groups = groups; are_groups = are_groups; refused = h } }
refused_is_no_log program bytes groups parts faults.Memory are_groups text h = h
