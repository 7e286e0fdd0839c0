use Rattle.std.proofs.Common.{◌≡◌, ◌∙◌, ap, Bool, false, rules}
use Rattle.df_lang.specs.Assignment as pure
use Rattle.df_nghost.specs.mirror.Listed.{without}
use Rattle.df_nghost.specs.mirror.Known.{set_of}
use Rattle.df_nghost.proofs.Counting.{none_without}
use Rattle.df_nghost.proofs.assigned.Assigned.has_results.Goals as goal

pub returns-then-not-self : goal.returns-then-not-self
returns-then-not-self c = λ e.
    let unreached : c.args.self.now.reached ≡ false = search rules in
    ap (λ (b : Bool). without (pure.has_value (set_of b c.args.self.now.values.listed.items)) c.args.parameters c.args.results) unreached ∙ none_without c.args.parameters c.args.results
