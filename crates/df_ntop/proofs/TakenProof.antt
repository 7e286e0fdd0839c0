-- The text that `prove` has put is a log that `check` takes.
use Rattle.std.proofs.Common.{◌≡◌, ◌⊎◌, ⊎_elim, inl, inr, ℕ, List, [], Option, Some, refl, sym, subst}
use Rattle.std.proofs.lemmas.Option.{same_Some}
use Rattle.df_base.specs.Outside.{Appends}
use Rattle.df_base.specs.declared.status.Status.{Status}
use Rattle.df_base.specs.declared.status.Status.TheVariants as statuses
use Rattle.df_logtext.specs.BadLog.{IsText}
use Rattle.df_ncmd.specs.Line.{Prove, Check}
use Rattle.df_nfront.specs.Source.{IsLawful}
use Rattle.df_nproof.specs.Names.{names_in}
use Rattle.df_ntop.specs.Call.{Call}
use Rattle.df_ntop.specs.Loaded.{Log}
use Rattle.df_ntop.specs.Answer.{ProvedLogs, IsDone, Answers}
use Rattle.df_ntop.specs.Complete.{IsCutShort, IsDue, IsComplete}
use Rattle.df_ntop.specs.HandsOn.{HandsOn, ProofIsTaken}
use Rattle.df_ntop.proofs.DueLogs.{same_bytes}
use Rattle.df_ntop.proofs.Limits.{same_command}

-- what a stream has that had nothing is what it took
all_of_it : (old new : Option (List ℕ)) (bytes text : List ℕ) → old ≡ Some [] → new ≡ Some text → Appends old new bytes → bytes ≡ text
all_of_it old new bytes text empty has took =
    let whole : Appends (Some []) (Some text) bytes = subst (λ (o : Option (List ℕ)). Appends o (Some text) bytes) empty (subst (λ (n : Option (List ℕ)). Appends old n bytes) has took) in
    sym (same_Some text bytes whole)

module _ (one other : Call) (status : Status) (hands : HandsOn one other) (answers : Answers one statuses.Done) (complete : IsComplete other status) where
  proved : ProvedLogs one (Prove hands.file hands.budget)
  proved = subst (IsDone one) (same_command one.words answers.0.command (Prove hands.file hands.budget) answers.0.line hands.proves) answers.0.holds

  one_source : proved.right.source ≡ hands.source
  one_source = same_bytes one.files.held hands.file proved.right.source hands.source proved.right.loaded.held hands.held

  one_text : proved.text ≡ hands.text
  one_text = all_of_it one.out.old one.out.new proved.text hands.text hands.empty hands.put proved.put

  by_due : IsDue (Check hands.copy hands.name) hands.source (Log hands.text) status other.out → status ≡ statuses.Done
  by_due due =
      let lawful : IsLawful hands.source proved.right.program = subst (λ (source : List ℕ). IsLawful source proved.right.program) one_source proved.right.lawful in
      let is_text : IsText (names_in proved.right.program) proved.logs.logs hands.text = subst (IsText (names_in proved.right.program) proved.logs.logs) one_text proved.logs.is_text in
      let taken = due.lawful proved.right.program lawful in
      taken.derived hands.text proved.logs.logs refl is_text proved.logs.proofs

  is_taken : IsCutShort status ⊎ (status ≡ statuses.Done)
  is_taken = ⊎_elim inl (λ due. inr (by_due due)) (complete.held (Check hands.copy hands.name) hands.source (Log hands.text) hands.checks hands.copy_held (hands.text_held, hands.short))

pub proof_is_taken : ProofIsTaken
proof_is_taken one other status hands answers complete = is_taken one other status hands answers complete
