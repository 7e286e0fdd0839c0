use Rattle.df_search.proofs.Needs.{has_more}
use Rattle.df_search.proofs.lessening.Kept.add.Goals as goal

pub returns : goal.returns
returns c = λ list. has_more list c.args.self.now.facts.items c.push.new.self.items c.args.fact c.in_ok-push.ensures.items
