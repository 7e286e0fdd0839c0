use Rattle.df_nenc.proofs.Words.{◌≡◌, sym, subst, refl, ap, Some, Truths, path_in, IsPath, further}
use Rattle.df_nenc.proofs.Lemmas.{is_term, narrowed_term}
use Rattle.df_nenc.proofs.step.further.Goals as goal

pub narrowed_path-requires-clause-formula : goal.narrowed_path-requires-clause-formula
narrowed_path-requires-clause-formula c = subst (IsPath c.args.nodes.now) c.in-Some.is c.requires.last

pub returns-in-None-clause-path : goal.returns-in-None-clause-path
returns-in-None-clause-path c = subst (λ v. path_in c.args.nodes.now c.args.path ≡ further (path_in c.args.nodes.now c.args.path) (path_in c.args.nodes.now v)) (sym c.in-None.is) refl

pub returns-in-None-clause-is_path : goal.returns-in-None-clause-is_path
returns-in-None-clause-is_path c = c.requires.path

pub returns-in_ok-narrowed-in-Some-clause-path : goal.returns-in_ok-narrowed-in-Some-clause-path
returns-in_ok-narrowed-in-Some-clause-path c = subst (λ v. path_in c.narrowed_path.new.nodes (Some c.in_ok-narrowed-in-Some.narrowed) ≡ further (path_in c.args.nodes.now c.args.path) (path_in c.args.nodes.now v)) (sym c.in-Some.is) (ap Some c.in_ok-narrowed-in-Some.ensures.stands.tree_is)

pub returns-in_ok-narrowed-in-Some-clause-is_path : goal.returns-in_ok-narrowed-in-Some-clause-is_path
returns-in_ok-narrowed-in-Some-clause-is_path c = is_term _ Truths _ _ c.in_ok-narrowed-in-Some.ensures.stands (narrowed_term (path_in c.args.nodes.now c.args.path) _ (subst (IsPath c.args.nodes.now) c.in-Some.is c.requires.last).sort_is)
