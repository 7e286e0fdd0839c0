use Rattle.std.proofs.Common.{ℕ, ◌+◌, List, ap, ◌∙◌}
use Rattle.std.specs.List.{flat_map}
use Rattle.df_lang.specs.View.{program_of}
use Rattle.df_logtext.specs.View.{log_of, logs_of}
use Rattle.df_nowed.specs.Obligation.{obligations_in}
use Rattle.df_nowed.specs.declared.obligation.MethodObligations.{MethodObligations}
use Rattle.df_npass.specs.Methods.{obligations}
use Rattle.df_nproof.proofs.Parts.{log_there, log_past, step_count}
use Rattle.df_nproof.proofs.Taking.{is_refused, is_surplus, all_derived}
use Rattle.df_nproof.proofs.checking.check_parts.Goals as goal

pub returns-in-Err-clause-refused : goal.returns-in-Err-clause-refused
returns-in-Err-clause-refused c =
    let program = program_of c.args.program.now in
    let same = ap (λ (ms : List MethodObligations). flat_map obligations_in ms) c.as_slice.ensures.value ∙ c.in-Ok.ensures.owed in
    is_refused program (flat_map obligations_in c.as_slice.result.now) (obligations program c.args.groups.now) (logs_of c.args.parts.now) c.in-Err.fault same c.in-Err.ensures.fails

pub returns-in-Some-clause-refused : goal.returns-in-Some-clause-refused
returns-in-Some-clause-refused c =
    let program = program_of c.args.program.now in
    let same = ap (λ (ms : List MethodObligations). flat_map obligations_in ms) c.as_slice.ensures.value ∙ c.in-Ok.ensures.owed in
    let taken = c.in-Ok-check_methods.taken in
    let part = c.in-Some.part.now in
    is_surplus program (flat_map obligations_in c.as_slice.result.now) (obligations program c.args.groups.now) (logs_of c.args.parts.now) taken (log_of part.items) _ same c.in-Ok-check_methods.ensures.taken
    (log_there c.args.parts.now taken part c.in-Some.ensures.lookup.3.0 c.in-Some.ensures.lookup.1) (ap (λ (n : ℕ). n + 1) (c.len.ensures ∙ step_count part))

pub returns-clause-derived : goal.returns-clause-derived
returns-clause-derived c =
    let program = program_of c.args.program.now in
    let same = ap (λ (ms : List MethodObligations). flat_map obligations_in ms) c.as_slice.ensures.value ∙ c.in-Ok.ensures.owed in
    let taken = c.in-Ok-check_methods.taken in
    all_derived program (flat_map obligations_in c.as_slice.result.now) (obligations program c.args.groups.now) (logs_of c.args.parts.now) taken same c.in-Ok-check_methods.ensures.taken
    (log_past c.args.parts.now taken c.in-None.ensures.lookup.3)
