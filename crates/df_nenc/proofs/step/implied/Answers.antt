use Rattle.df_nenc.proofs.Words.{subst, refl, rules, [], ◌∷◌, AllByRecursion, Truths, IsTerm, all_back}
use Rattle.df_nenc.proofs.Lemmas.{grows_not, implied_step, implied_end}
use Rattle.df_nenc.proofs.step.implied.Goals as goal

pub loop-premise-init : goal.loop-premise-init
loop-premise-init c = record { grows = grows_not c.args.nodes.now; are = c.requires.premises; is_term = c.requires.last; same = refl }

pub implies-requires : goal.implies-requires
implies-requires c = record { left = (all_back (IsTerm Truths c.loop-premise.nodes) c.pop.new.self.items (c.in-Some.premise ∷ []) (subst (AllByRecursion (IsTerm Truths c.loop-premise.nodes)) c.in-Some.ensures.items c.loop-premise.invariant.are)).0; right = c.loop-premise.invariant.is_term }

pub loop-premise-preserved : goal.loop-premise-preserved
loop-premise-preserved c = implied_step c.args.nodes.now c.loop-premise.nodes c.implies.new.nodes c.args.premises.items c.loop-premise.premises.items c.pop.new.self.items c.args.last c.loop-premise.formula c.in-Some.premise c.in_ok-formula.formula c.loop-premise.invariant c.in-Some.ensures.items c.implies.ensures.grows c.in_ok-formula.ensures.stands

pub returns-clause-stands : goal.returns-clause-stands
returns-clause-stands c = implied_end c.args.nodes.now c.loop-premise.nodes c.args.premises.items c.loop-premise.premises.items c.args.last c.loop-premise.formula c.loop-premise.invariant (search rules)
