use Rattle.std.proofs.Common.{map, subst, IfSome}
use Rattle.df_form.specs.Log.{combination_of}
use Rattle.df_trail.proofs.Held.{all_self}
use Rattle.df_search.specs.Lessening.{IsLine}
use Rattle.df_search.proofs.Needs.{line_of}
use Rattle.df_search.proofs.lessening.lessened.Goals as goal

pub returns-in-Some : goal.returns-in-Some
returns-in-Some c =
    let is = subst (λ found. IfSome found (IsLine c.args.nodes.now c.deref.result.now)) c.in-Some.is c.in_ok-linear.ensures in
    line_of c.args.nodes.now c.deref.result.now c.args.facts.items (map combination_of c.args.combinations.items) c.in-Some.linear c.deref.ensures.value is

pub returns-in-None : goal.returns-in-None
returns-in-None c = (all_self c.args.facts.items, λ given. given)
