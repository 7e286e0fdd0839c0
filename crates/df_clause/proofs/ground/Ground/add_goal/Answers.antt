use Rattle.std.proofs.Common.{ℕ, [], ◌∷◌, Some, refl, ap}
use Rattle.std.proofs.lemmas.Result.{on_ok_weaker}
use Rattle.df_form.specs.Clause.{no}
use Rattle.df_form.specs.Log.{Goal}
use Rattle.df_rules.specs.Derivation.{only_clause}
use Rattle.df_clause.proofs.Kept.{claim_kept}
use Rattle.df_clause.proofs.ground.Ground.add_goal.Goals as goal

pub returns : goal.returns
returns c =
    let old = c.args.self.now in
    on_ok_weaker c.keep.result (λ kept s is. kept s (ap (λ (n : ℕ). only_clause old.nodes (Some (no n ∷ []))) is))
    (claim_kept old c.keep.new.self (Goal) c.in_ok-literals.literals.items (no c.args.goal ∷ []) c.len-before.result c.keep.result c.len-before.ensures.len c.in_ok-literals.ensures refl c.keep.ensures)
