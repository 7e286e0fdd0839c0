use Rattle.std.proofs.Common.{Ok, List, Vec, Global, map, ap, sym, refl, ◌∙◌}
use Rattle.df_form.specs.declared.log.Lit.{Lit}
use Rattle.df_rules.specs.Derivation.{ends_empty}
use Rattle.df_kern.proofs.Checks.{proves-goal}
use Rattle.df_kern.proofs.checker.Checker.finish.Goals as goal

pub returns-then-ends-clause-valid : goal.returns-then-ends-clause-valid
returns-then-ends-clause-valid c =
    let all = ap (λ (clauses : List (Vec Lit Global)). ends_empty (map (λ (clause : Vec Lit Global). clause.items) clauses)) (sym c.deref.ensures.value) in
    proves-goal c.args.self.now (Ok (record { steps = c.args.self.now.taken })) c.args.self.now.sequent.now.is_sequent (all ∙ sym c.ends.ensures ∙ c.if-ends.true, refl)
