use Rattle.std.proofs.Common.{List, Vec, map, refl, subst}
use Rattle.std.specs.declared.alloc.Global.{Global}
use Rattle.df_form.specs.declared.log.Lit.{Lit}
use Rattle.df_search.specs.Searching.{AllApart, branches_of}
use Rattle.df_search.proofs.Turning.{counts_not, counts_it}
use Rattle.df_search.proofs.searching.State.count.Goals as goal

pub returns-in_ok-push-clause-counts : goal.returns-in_ok-push-clause-counts
returns-in_ok-push-clause-counts c = λ s rounds front conflict is is_branch.
    counts_it s rounds front conflict c.args.self.now is is_branch c.in_ok-branch.branch c.push.new.self c.in_ok-branch.ensures
    (subst (λ (branch : List Lit). AllApart branch (branches_of c.args.self.now)) c.deref.ensures.value
    (subst (λ (others : List (Vec Lit Global)). AllApart c.deref.result.now (map (λ (other : Vec Lit Global). other.items) others)) c.deref-2.ensures.value (c.if-is_apart_from.ensures refl)))
    c.in_ok-push.ensures.items

pub returns-else-is_apart_from-clause-counts : goal.returns-else-is_apart_from-clause-counts
returns-else-is_apart_from-clause-counts c = λ s rounds front conflict is is_branch. counts_not s rounds front conflict c.args.self.now is is_branch
