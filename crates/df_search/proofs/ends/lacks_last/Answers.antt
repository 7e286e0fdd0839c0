use Rattle.df_search.proofs.Apart.{last_lacks}
use Rattle.df_search.proofs.ends.lacks_last.Goals as goal

pub returns-in-len1-up : goal.returns-in-len1-up
returns-in-len1-up c = last_lacks c.args.branch.now c.args.other.now _ c.holds.result c.in-len1-up.len_at_least c.holds.ensures
