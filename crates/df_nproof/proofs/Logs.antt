-- The logs of proofs, one after another.
use Rattle.std.proofs.Common.{◌≡◌, List, [], ◌∷◌, ◌++◌, map, ap, sym, ◌∙◌, append_assoc, append-nil}
use Rattle.std.specs.Global.{Vec}
use Rattle.std.proofs.lemmas.Grind.{flat_map-append}
use Rattle.std.proofs.lemmas.List.{map-append}
use Rattle.df_form.specs.declared.log.Step as declared
use Rattle.df_form.specs.Log.{Step}
use Rattle.df_logtext.specs.View.{log_of, logs_of}
use Rattle.df_nverdict.specs.declared.judging.Proof.{Proof}
use Rattle.df_nproof.specs.Proofs.{log_in, logs_in}

abbrev items_of : Vec Proof → List Proof
items_of proofs = proofs.items

-- one log more
pub log_added : (old new : List (Vec declared.Step)) (proof : Proof) (first : List (List Step)) (before : List Proof) → logs_of old ≡ first ++ map log_in before → new ≡ old ++ proof.log ∷ [] → logs_of new ≡ first ++ map log_in (before ++ proof ∷ [])
log_added old new proof first before so_far pushed =
    ap logs_of pushed ∙ map-append (λ (log : Vec declared.Step). log_of log.items) old (proof.log ∷ []) ∙ (λ i. so_far i ++ log_in proof ∷ [])
    ∙ append_assoc first (map log_in before) (log_in proof ∷ []) ∙ ap (λ (ls : List (List Step)). first ++ ls) (sym (map-append log_in before (proof ∷ [])))

-- those of one method more
pub logs_added : (old new : List (Vec declared.Step)) (proofs : Vec Proof) (before : List (Vec Proof)) → logs_of old ≡ logs_in (map items_of before) → logs_of new ≡ logs_of old ++ map log_in proofs.items → logs_of new ≡ logs_in (map items_of (before ++ proofs ∷ []))
logs_added old new proofs before so_far added =
    added ∙ (λ i. so_far i ++ map log_in proofs.items)
    ∙ ap (λ (ls : List (List Step)). logs_in (map items_of before) ++ ls) (sym (append-nil (map log_in proofs.items)))
    ∙ sym (ap logs_in (map-append items_of before (proofs ∷ [])) ∙ flat_map-append (λ (ps : List Proof). map log_in ps) (map items_of before) (proofs.items ∷ []))
