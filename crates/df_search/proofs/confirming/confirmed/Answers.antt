use Rattle.std.proofs.Common.{map}
use Rattle.df_form.specs.Log.{step_of}
use Rattle.df_form.specs.SequentView.{sequent_of}
use Rattle.df_search.proofs.TakenLogs.{takes_what_derives}
use Rattle.df_search.proofs.confirming.confirmed.Goals as goal

pub returns-in-Ok : goal.returns-in-Ok
returns-in-Ok c = λ steps rounds. rw c.as_slice.ensures.value at c.in-Ok.ensures.taken

pub unreachable-requires : goal.unreachable-requires
unreachable-requires c =
    takes_what_derives (sequent_of c.args.sequent.now) (map step_of c.as_slice.result.now) c.in-Err-Refused.field-0-0 c.in-Err-Refused.field-0-1 c.in-Err-Refused.field-0 c.logs_derive_or_are_refused.ensures
    (rw c.as_slice.ensures.value c.requires) c.in-Err-Refused.field-0-is c.in-Err-Refused.ensures.answers
