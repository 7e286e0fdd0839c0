use Rattle.std.proofs.Common.{map, refl}
use Rattle.df_form.specs.Log.{step_of}
use Rattle.df_form.specs.SequentView.{sequent_of}
use Rattle.df_kern.specs.Refusal.{refusal}
use Rattle.df_lang.specs.View.{program_of}
use Rattle.df_nowed.specs.Obligation.{obligation_in}
use Rattle.df_nverdict.proofs.Judgements.{is_sequent_of}
use Rattle.df_nproof.proofs.Parts.{is_told}
use Rattle.df_nproof.proofs.checking.check_part.Goals as goal

pub returns-in-Ok-check-clause-derived : goal.returns-in-Ok-check-clause-derived
returns-in-Ok-check-clause-derived c =
    let owed = c.args.owed.now in
    let o = obligation_in owed.declaration owed.nodes owed.known c.args.obligation.now in
    let s = c.in-Ok.sequent in
    record { sequent = sequent_of s; is_of = is_sequent_of (program_of c.args.program.now) o s c.in-Ok.ensures.world c.in-Ok.ensures.owed; derives = c.in-Ok-check.ensures.derives }

pub returns-in-Err-Refused-clause-broken : goal.returns-in-Err-Refused-clause-broken
returns-in-Err-Refused-clause-broken c =
    let owed = c.args.owed.now in
    let o = obligation_in owed.declaration owed.nodes owed.known c.args.obligation.now in
    let s = c.in-Ok.sequent in (
      refl,
      record {
        sequent = sequent_of s;
        is_of = is_sequent_of (program_of c.args.program.now) o s c.in-Ok.ensures.world c.in-Ok.ensures.owed;
        row = c.in-Err-Refused.field-0-1;
        refused = is_told (refusal (sequent_of s) (map step_of c.args.part.now)) c.in-Err-Refused.at c.in-Err-Refused.field-0-1 c.in-Err-Refused.field-0 c.in-Err-Refused.field-0-is c.in-Err-Refused.ensures.answers;
      },
    )
