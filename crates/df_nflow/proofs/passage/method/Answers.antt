use Rattle.df_nflow.proofs.Words.{◌++◌, List, [], refl, sym, ap, ◌∙◌, subst, method_of, program_of, Changed, pass_all, begun, ended_over, standing_of, Standing, Passes, are_over, changed_in}
use Rattle.df_meaning.proofs.Wholes.{method_typed}
use Rattle.df_npass.specs.Statements.{grouped_with}
use Rattle.df_nflow.proofs.Entering.{body_over, exits_at}
use Rattle.df_nflow.proofs.Methods.{whole_said}
use Rattle.df_nflow.proofs.passage.method.Goals as goal

pub begin-requires : goal.begin-requires
begin-requires c = let program = program_of c.args.program.now in record { program = program; typed = method_typed program c.args.number (method_of c.args.method.now) c.args.program.now.is_well_typed c.requires }

pub stmts-requires-clause-typed : goal.stmts-requires-clause-typed
stmts-requires-clause-typed c =
    let program = program_of c.args.program.now in
    let m = method_of c.args.method.now in
    ap (λ (s : Standing). are_over program s.types m.body) c.in_ok-passed.ensures ∙ body_over program m (method_typed program c.args.number m c.args.program.now.is_well_typed c.requires)

pub stmts-requires-clause-in_method : goal.stmts-requires-clause-in_method
stmts-requires-clause-in_method c =
    exits_at (method_of c.args.method.now) c.in_ok-passed.passed.types.items (changed_in c.deref.result.now) (ap (λ (s : Standing). s.types) c.in_ok-passed.ensures) (ap changed_in c.deref.ensures.value ∙ c.in_ok-in_method.ensures)

pub end-requires-clause-typed : goal.end-requires-clause-typed
end-requires-clause-typed c = let program = program_of c.args.program.now in record { program = program; typed = method_typed program c.args.number (method_of c.args.method.now) c.args.program.now.is_well_typed c.requires }

pub returns : goal.returns
returns c =
    let m = method_of c.args.method.now in
    let program = program_of c.args.program.now in
    let passed = standing_of c.in_ok-passed.passed in
    let last = standing_of c.stmts.new.self in
    let on = c.in_ok-onward.onward in
    let flow = λ (s : Standing). pass_all (record { program = program; in_group = grouped_with program c.args.groups.now c.args.number; entry = s.entry }) s.way m.body s.fresh in
    let passes : Passes [] (changed_in c.deref.result.now) passed (flow passed) last on.goes_on on.loses = c.in_ok-onward.ensures.passes in
    let body = subst (λ (s : Standing). Passes [] (changed_in c.deref.result.now) s (flow s) last on.goes_on on.loses) c.in_ok-passed.ensures passes in
    let exits = ap changed_in (c.deref.ensures.value ∙ sym c.deref-2.ensures.value) in
    whole_said program c.args.groups.now c.args.number m _ (c.into_passage.ensures ∙ c.in_ok-end.ensures.ended (begun m) (flow (begun m)) (subst (λ (changed : List Changed). Passes [] changed (begun m) (flow (begun m)) last on.goes_on on.loses) exits body) refl refl
    ∙ ap (λ (changed : List Changed). (begun m).said ++ ((flow (begun m)).said ++ ended_over (begun m).way.env changed m.postconditions (flow (begun m)))) (ap changed_in c.deref-2.ensures.value ∙ c.in_ok-in_method.ensures))
