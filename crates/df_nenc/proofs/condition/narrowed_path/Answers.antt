use Rattle.df_nenc.proofs.Words.{sym, subst, IfOk, Truths, narrowed_path, tree_at, path_in, Stands, IsPath}
use Rattle.df_nenc.proofs.Growing.{stands}
use Rattle.df_nenc.proofs.condition.narrowed_path.Goals as goal

pub both-requires-clause-left : goal.both-requires-clause-left
both-requires-clause-left c = subst (IsPath c.args.nodes.now) c.in-Some.is c.requires.path

pub returns-in-None-clause-stands : goal.returns-in-None-clause-stands
returns-in-None-clause-stands c = subst (λ v. Stands c.args.nodes.now (narrowed_path (path_in c.args.nodes.now v) (tree_at c.args.nodes.now c.args.formula)) c.args.formula) (sym c.in-None.is) (stands Truths c.args.nodes.now c.args.formula c.requires.formula)

pub returns-in-Some-clause-stands : goal.returns-in-Some-clause-stands
returns-in-Some-clause-stands c = subst (λ v. IfOk c.both.result (λ n. Stands c.both.new.nodes (narrowed_path (path_in c.args.nodes.now v) (tree_at c.args.nodes.now c.args.formula)) n)) (sym c.in-Some.is) c.both.ensures.stands
