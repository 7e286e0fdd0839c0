use Rattle.std.proofs.Common.{◌≡◌, sym, ◌∙◌, ap, rules, map}
use Rattle.df_logtext.specs.Words.{pairs_from}
use Rattle.df_logtext.proofs.PairsLeft.{two_left}
use Rattle.df_logtext.proofs.words.pairs.Goals as goal

pub loop-rest-preserved : goal.loop-rest-preserved
loop-rest-preserved c =
    rw (c.in_ok-push.ensures.items) (two_left (λ word. word.now) c.loop-rest.pairs.items c.loop-rest.rest.now _ c.in-Some.pair c.in-len2-up.len_at_least (sym c.pair.ensures ∙ c.in-Some.is) ∙ c.loop-rest.invariant)
