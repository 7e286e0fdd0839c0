use Rattle.std.proofs.Common.{Option, map, subst}
use Rattle.df_form.specs.SequentView.{sequent_of}
use Rattle.df_lang.specs.DeclView.{param_of}
use Rattle.df_lang.specs.View.{program_of}
use Rattle.df_nowed.specs.Obligation.{obligation_in}
use Rattle.df_report.specs.View.{failure_of}
use Rattle.df_nverdict.specs.declared.judging.Finding.{Finding}
use Rattle.df_nverdict.specs.Judging.{Finds}
use Rattle.df_nverdict.proofs.Judgements.{is_sequent_of, proof_added, failure_added}
use Rattle.df_nverdict.proofs.judging.settle.Goals as goal

pub returns-in_ok-push-in-Some : goal.returns-in_ok-push-in-Some
returns-in_ok-push-in-Some c =
    let entry = c.args.entry.now in
    let program = program_of entry.program.now in
    let params = map param_of entry.params.now in
    let owed = entry.owed.now in
    let o = obligation_in owed.declaration owed.nodes owed.known c.args.obligation.now in
    let s = c.args.sequent.now in
    let now = c.judge.new.proofs.items in
    let found = subst (λ (f : Option Finding). Finds params (sequent_of s) c.args.budget c.args.proofs.now.items now f) c.in-Some.is c.in_ok-finding.ensures in
    let told = c.in_ok-failure-in-Some.ensures in
    failure_added program params c.args.budget o (sequent_of s) c.in-Some.finding c.in_ok-failure-in-Some.field-0 c.args.proofs.now.items now c.args.failures.now.items c.push.new.self.items
    (is_sequent_of program o s c.requires.world c.requires.owed) found told.pos told.kind told.evidence told.parameters c.in_ok-push-in-Some.ensures.items

pub returns-in-None : goal.returns-in-None
returns-in-None c =
    let entry = c.args.entry.now in
    let program = program_of entry.program.now in
    let params = map param_of entry.params.now in
    let owed = entry.owed.now in
    let o = obligation_in owed.declaration owed.nodes owed.known c.args.obligation.now in
    let s = c.args.sequent.now in
    let now = c.judge.new.proofs.items in
    let found = subst (λ (f : Option Finding). Finds params (sequent_of s) c.args.budget c.args.proofs.now.items now f) c.in-None.is c.in_ok-finding.ensures in
    proof_added program params c.args.budget o (sequent_of s) (map failure_of c.args.failures.now.items) c.args.proofs.now.items now
    (is_sequent_of program o s c.requires.world c.requires.owed) found
