use Rattle.std.proofs.Common.{ℕ, [], ◌∷◌, Option, refl, ap}
use Rattle.std.specs.Option.{option_map}
use Rattle.std.proofs.lemmas.Result.{on_ok_weaker}
use Rattle.df_form.specs.Clause.{yes}
use Rattle.df_form.specs.Log.{Hypothesis}
use Rattle.df_rules.specs.Derivation.{only_clause}
use Rattle.df_clause.proofs.Kept.{claim_kept}
use Rattle.df_clause.proofs.ground.Ground.add_hypothesis.Goals as goal

pub returns : goal.returns
returns c =
    let old = c.args.self.now in
    on_ok_weaker c.keep.result (λ kept s at. kept s (ap (λ (o : Option ℕ). only_clause old.nodes (option_map (λ h. yes h ∷ []) o)) at))
    (claim_kept old c.keep.new.self (Hypothesis c.args.number) c.in_ok-literals.literals.items (yes c.args.hypothesis ∷ []) c.len-before.result c.keep.result c.len-before.ensures.len c.in_ok-literals.ensures refl c.keep.ensures)
