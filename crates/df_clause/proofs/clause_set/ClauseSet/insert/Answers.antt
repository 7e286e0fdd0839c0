use Rattle.std.proofs.Common.{not, ap, ◌∙◌, arith}
use Rattle.df_clause.proofs.Keys.{any_is, keys_more, keys_counted, instances_within}
use Rattle.df_clause.proofs.clause_set.ClauseSet.insert.Goals as goal

pub counted-self-inside-requires : goal.counted-self-inside-requires
counted-self-inside-requires c =
    let most = instances_within c.self.inside.set.keys in
    let is = c.self.invariant in
    omega (arith, most, is, c.len-len.ensures.len, c.len-len.ensures.small)

pub invariant_of-self-2 : goal.invariant_of-self-2
invariant_of-self-2 c =
    c.counted-self-inside.ensures ∙ keys_counted c.self.inside.set.keys c.insert_full.new.self.keys c.args.clause c.self.inside.instances c.in_ok-is_new.is_new c.is_instance-counts.result
    c.in_ok-is_new.ensures.added c.in_ok-is_new.ensures.keys c.is_instance-counts.ensures c.self.invariant

pub returns-clause-is_new : goal.returns-clause-is_new
returns-clause-is_new c = rw (← c.self.view_is) (c.in_ok-is_new.ensures.added ∙ ap not (any_is c.args.clause c.self.inside.set.keys))

pub returns-clause-clauses : goal.returns-clause-clauses
returns-clause-clauses c = rw (← c.self.view_is) (keys_more c.self.inside.set.keys c.insert_full.new.self.keys c.args.clause c.in_ok-is_new.ensures.keys)
