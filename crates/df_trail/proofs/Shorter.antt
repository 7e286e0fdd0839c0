-- Trails from which decisions are taken.
use Rattle.std.proofs.Common.{◌≡◌, List, [], ◌∷◌, ◌++◌, sym, ap, ◌∙◌, append_assoc, append-nil, None}
use Rattle.df_trail.specs.declared.decision.Conflict.{Conflict}
use Rattle.df_trail.specs.declared.decision.Decision.{Decision}
use Rattle.df_trail.specs.declared.trail.Trail.{Trail}
use Rattle.df_trail.specs.Trail.{turned, IsTurned}

pub record IsShorter (old new : Trail) : Type 0 where
  pub taken : List Decision
  pub old_is : old.decisions.items ≡ new.decisions.items ++ taken

pub not_shorter : (old : Trail) → IsShorter old old
not_shorter old = record { taken = []; old_is = sym (append-nil old.decisions.items) }

longer_end : (decisions taken : List Decision) (d : Decision) → (decisions ++ d ∷ []) ++ taken ≡ decisions ++ d ∷ taken
longer_end decisions taken d = append_assoc decisions (d ∷ []) taken

pub one_shorter : (old now new : Trail) (decisions : List Decision) (d : Decision) → IsShorter old now → now.decisions.items ≡ decisions ++ d ∷ [] → new.decisions.items ≡ decisions → IsShorter old new
one_shorter old now new decisions d h split is = record {
  taken = d ∷ h.taken;
  old_is = h.old_is ∙ ap (λ (ds : List Decision). ds ++ h.taken) split ∙ longer_end decisions h.taken d ∙ ap (λ (ds : List Decision). ds ++ d ∷ h.taken) (sym is);
}

pub turns_shorter : (old now new : Trail) (decisions : List Decision) (d : Decision) (conflict : Conflict) → IsShorter old now → now.decisions.items ≡ decisions ++ d ∷ [] → d.closed ≡ None → new.decisions.items ≡ decisions ++ turned d.literal conflict ∷ [] → IsTurned old new
turns_shorter old now new decisions d conflict h split none is = record {
  kept = decisions;
  decision = d;
  taken = h.taken;
  conflict = conflict;
  old_is = h.old_is ∙ ap (λ (ds : List Decision). ds ++ h.taken) split ∙ longer_end decisions h.taken d;
  side_open = none;
  new_is = is;
}
