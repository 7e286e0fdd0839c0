-- What each stage tells is what its source is refused for.
use Rattle.std.proofs.Common.{◌≡◌, ℕ, List, [], Result, Ok, Err, IfErr, refl, ap, subst}
use Rattle.df_base.specs.declared.refusal.Refusal.{Refusal}
use Rattle.df_base.specs.declared.refusal.Stop.{Stop}
use Rattle.df_base.specs.declared.refusal.Stop.TheVariants as stops
use Rattle.df_base.specs.Refusing.{IfRefused}
use Rattle.df_lang.specs.Program.{Program}
use Rattle.df_tok.specs.Token.{Token}
use Rattle.df_tok.specs.Fault.{IsFault}
use Rattle.df_ntree.specs.File.{File}
use Rattle.df_ntree.specs.FileSpelling.{SpellsFile}
use Rattle.df_npdecl.specs.Refusing.{IsRefusal}
use Rattle.df_ntyping.specs.FileNodes.{file_nodes}
use Rattle.df_ntyping.specs.Least.{IsToldIn}
use Rattle.df_ntyping.specs.Stages.{rules, values}
use Rattle.df_ntyping.specs.Unassigned.{IsToldMissing}
use Rattle.df_nfront.specs.Source.{IsDivided, IsRead, IsElaborated}
use Rattle.df_nfront.specs.Refused.{IsRefused, bytes, tokens, file}

module _ (source : List ℕ) (names : List (List ℕ)) where
  -- a fault of the bytes, of which there were no names before
  pub bytes_told : (before : List (List ℕ)) (stop : Stop) → before ≡ [] → ((r : Refusal) → stop ≡ stops.Refused r → IsFault before source r) → IfRefused (IsRefused source names) stop
  bytes_told before stops.Memory none by = tt
  bytes_told before (stops.Refused r) none by = bytes (subst (λ (ns : List (List ℕ)). IsFault ns source r) none (by r refl))

  tokens_stop : (all : List Token) (stop : Stop) → IsDivided source names all → ((r : Refusal) → stop ≡ stops.Refused r → (one : File) → SpellsFile one all → ⊥)
      → ((r : Refusal) → stop ≡ stops.Refused r → IsRefusal all r) → IfRefused (IsRefused source names) stop
  tokens_stop all stops.Memory divided none which = tt
  tokens_stop all (stops.Refused r) divided none which = tokens all divided (none r refl) (which r refl)

  -- tokens that spell no file
  pub tokens_told : {X : Type 0} (all : List Token) (result : Result X Stop) → IsDivided source names all → ((r : Refusal) → result ≡ Err (stops.Refused r) → (one : File) → SpellsFile one all → ⊥)
      → ((r : Refusal) → result ≡ Err (stops.Refused r) → IsRefusal all r) → IfErr result (IfRefused (IsRefused source names))
  tokens_told all (Ok x) divided none which = tt
  tokens_told all (Err stop) divided none which = tokens_stop all stop divided (λ r e. none r (ap Err e)) (λ r e. which r (ap Err e))

  -- a rule of a stage
  pub rule_told : (stage : ℕ) (one : File) (stop : Stop) → IsRead source names one → IfRefused (IsToldIn stage (file_nodes one)) stop → IfRefused (IsRefused source names) stop
  rule_told stage one stops.Memory read told = tt
  rule_told stage one (stops.Refused r) read told = file one read (rules told.0)

  pub rules_told : {X : Type 0} (stage : ℕ) (one : File) (result : Result X Stop) → IsRead source names one → IfErr result (IfRefused (IsToldIn stage (file_nodes one))) → IfErr result (IfRefused (IsRefused source names))
  rules_told stage one (Ok x) read told = tt
  rules_told stage one (Err stop) read told = rule_told stage one stop read told

  -- a use without a value
  pub use_told : (program : Program) (stop : Stop) → IsElaborated source names program → IfRefused (IsToldMissing program) stop → IfRefused (IsRefused source names) stop
  use_told program stops.Memory elaborated told = tt
  use_told program (stops.Refused r) elaborated told = file elaborated.file elaborated.read (values program elaborated.elaborates told)
