use Rattle.std.proofs.Common.{◌∙◌, sym, ap, ℕ, map, length}
use Rattle.std.proofs.lemmas.List.{length-map}
use Rattle.df_lang.specs.DeclView.{param_of}
use Rattle.df_lang.specs.Assignment as pure
use Rattle.df_nghost.specs.mirror.Listed.{without}
use Rattle.df_nghost.specs.mirror.Known.{assigned_of}
use Rattle.df_nghost.proofs.Uses.{all_have, found_before}
use Rattle.df_nghost.proofs.reads.first_of_results.Goals as goal
use Rattle.df_nghost.proofs.reads.first_of_results.Goals.{then-has_results-via-then-has_results, then-has_results-via-else-has_results+then-is_found_before}

pub returns-then-has_results : goal.returns-then-has_results
returns-then-has_results c =
    let a = assigned_of c.args.assigned.now in
    let from = length c.args.parameters.now in
    let results = map param_of c.args.results.now in
    elim c.then-has_results.branch [
      | then-has_results-via-then-has_results w ↦
          let none = ap (λ (n : ℕ). without (pure.has_value a) from n) (length-map c.args.results.now param_of) ∙ c.has_results.ensures w.if-has_results.true in
          sym (all_have a c.args.first c.args.pos from results none)
      | then-has_results-via-else-has_results+then-is_found_before w ↦
          sym (found_before a c.args.first c.args.pos from results (sym w.is_found_before.ensures ∙ w.if-is_found_before.true))
    ]
