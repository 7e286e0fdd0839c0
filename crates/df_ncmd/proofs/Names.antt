-- Names that are none of a command.
use Rattle.std.proofs.Common.{◌≡◌, ◌⊎◌, inl, inr, Bool, true, false, List, Option, None, refl, sym, true≢false}
use Rattle.std.specs.Prelude.{if◌then◌else◌, codes}
use Rattle.std.proofs.lemmas.Bool.{cases_Bool}
use Rattle.clap.specs.Words.{Row, Text}
use Rattle.df_base.specs.Names.{same_text}
use Rattle.df_base.proofs.NamesLemmas.{same_text-equal}
use Rattle.df_ncmd.specs.Line.{Command, of_build, of_bulk, of_check, of_prove, of_run, of_verify, named}

differ : (a b : Text) → (b ≡ a → ⊥) → same_text a b ≡ false
differ a b apart = by (cases_Bool (same_text a b))
  where
    by : (same_text a b ≡ true) ⊎ (same_text a b ≡ false) → same_text a b ≡ false
    by (inl same) = absurd (apart (sym (same_text-equal a b same)))
    by (inr other) = other

passed : (same : Bool) (found rest : Option Command) → same ≡ false → rest ≡ None → (if same then found else rest) ≡ None
passed true found rest other none = absurd (true≢false other)
passed false found rest other none = none

pub unnamed : (name : Text) (rows : List Row) → (name ≡ codes "verify" → ⊥) → (name ≡ codes "prove" → ⊥) → (name ≡ codes "check" → ⊥) → (name ≡ codes "build" → ⊥) → (name ≡ codes "run" → ⊥) → (name ≡ codes "bulk" → ⊥) → named name rows ≡ None
unnamed name rows verify prove check build run bulk =
    passed (same_text (codes "verify") name) (of_verify rows) _ (differ (codes "verify") name verify)
    (passed (same_text (codes "prove") name) (of_prove rows) _ (differ (codes "prove") name prove)
    (passed (same_text (codes "check") name) (of_check rows) _ (differ (codes "check") name check)
    (passed (same_text (codes "build") name) (of_build rows) _ (differ (codes "build") name build)
    (passed (same_text (codes "run") name) (of_run rows) _ (differ (codes "run") name run)
    (passed (same_text (codes "bulk") name) (of_bulk rows) None (differ (codes "bulk") name bulk) refl)))))
