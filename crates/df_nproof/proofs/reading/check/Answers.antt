use Rattle.std.proofs.Common.{ℕ, List, map, subst}
use Rattle.std.specs.Global.{Vec}
use Rattle.df_form.specs.declared.log.Step.{Step}
use Rattle.df_lang.specs.View.{program_of}
use Rattle.df_logtext.specs.View.{logs_of}
use Rattle.df_npass.specs.Methods.{obligations}
use Rattle.df_report.specs.View.{outcome_of}
use Rattle.df_nproof.specs.Checking.{IsRefusedBy}
use Rattle.df_nproof.specs.Derived.{AreDerived}
use Rattle.df_nproof.proofs.Judged.{is_checked}
use Rattle.df_nproof.proofs.Unread.{unread_is_no_log, refused_is_no_log}
use Rattle.df_nproof.proofs.reading.check.Goals as goal

pub returns-in-Err-clause-refused : goal.returns-in-Err-clause-refused
returns-in-Err-clause-refused c = unread_is_no_log (program_of c.args.program.now.program) c.args.bytes.now c.in-Err.fault c.in-Err.ensures.unread

pub returns-in-Err-check_parts-clause-refused : goal.returns-in-Err-check_parts-clause-refused
returns-in-Err-check_parts-clause-refused c =
    let program = program_of c.args.program.now.program in
    refused_is_no_log program c.args.bytes.now c.in-Ok.groups.items (logs_of c.in-Ok-parts.parts.items) c.in-Err-check_parts.fault c.in-Ok.ensures c.in-Ok-parts.ensures.text
    (subst (λ (groups : List ℕ). IsRefusedBy program (obligations program groups) (logs_of c.in-Ok-parts.parts.items) c.in-Err-check_parts.fault) c.as_slice.ensures.value
    (subst (λ (parts : List (Vec Step)). IsRefusedBy program (obligations program c.as_slice.result.now) (logs_of parts) c.in-Err-check_parts.fault) c.as_slice-2.ensures.value c.in-Err-check_parts.ensures.refused))

pub returns-in-Ok-verified-clause-checked : goal.returns-in-Ok-verified-clause-checked
returns-in-Ok-verified-clause-checked c =
    let program = program_of c.args.program.now.program in
    is_checked program c.in-Ok.groups.items c.in-Ok-parts.parts.items c.args.bytes.now (map outcome_of c.in-Ok-verified.outcomes.items) c.in-Ok.ensures c.in-Ok-parts.ensures.text
    (subst (λ (groups : List ℕ). AreDerived program (obligations program groups) (logs_of c.in-Ok-parts.parts.items)) c.as_slice.ensures.value
    (subst (λ (parts : List (Vec Step)). AreDerived program (obligations program c.as_slice.result.now) (logs_of parts)) c.as_slice-2.ensures.value c.in-Ok-check_parts.ensures.derived))
    c.in-Ok-verified.ensures

pub returns-in-Ok-verified-clause-correct : goal.returns-in-Ok-verified-clause-correct
returns-in-Ok-verified-clause-correct c =
    let checked = c.args.program.now in
    let program = program_of checked.program in
    c.proofs_are_correct.ensures program c.in-Ok.groups.items (logs_of c.in-Ok-parts.parts.items) checked.program.is_well_typed checked.definite c.in-Ok.ensures
    (subst (λ (groups : List ℕ). AreDerived program (obligations program groups) (logs_of c.in-Ok-parts.parts.items)) c.as_slice.ensures.value
    (subst (λ (parts : List (Vec Step)). AreDerived program (obligations program c.as_slice.result.now) (logs_of parts)) c.as_slice-2.ensures.value c.in-Ok-check_parts.ensures.derived))
