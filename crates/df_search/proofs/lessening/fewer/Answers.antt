use Rattle.std.proofs.Common.{IfSome, map, sym, ap, ◌∙◌, subst}
use Rattle.df_form.specs.Clause.{negation}
use Rattle.df_search.specs.Lessening.{IsOf}
use Rattle.df_search.proofs.Needs.{seen_line}
use Rattle.df_search.proofs.lessening.fewer.Goals as goal

pub returns-then-branch : goal.returns-then-branch
returns-then-branch c = (
  subst (λ found. IfSome found (IsOf c.args.facts.now)) c.in-Some.is c.in_ok-linear.ensures,
  seen_line c.args.nodes.now c.in-Some.linear c.deref-2.result.now c.deref-3.result.now (c.deref-2.ensures.value ∙ c.in_ok-conclusion.ensures ∙ ap (map negation) c.deref.ensures.value) c.deref-3.ensures.value (sym c.in_ok-is_linear.ensures ∙ c.if-branch.true),
)
