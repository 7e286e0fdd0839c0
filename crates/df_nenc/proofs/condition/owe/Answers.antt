use Rattle.df_nenc.proofs.Words.{tree_at, path_in}
use Rattle.df_nenc.proofs.Lemmas.{front_more, pushed}
use Rattle.df_nenc.proofs.condition.owe.Goals as goal

pub returns : goal.returns
returns c = record { adds = pushed c.on_path.new.nodes c.args.pos c.args.kind (path_in c.args.nodes.now c.args.path) (tree_at c.args.nodes.now c.args.formula) c.in_ok-formula.formula c.args.out.now.items _ c.requires.formula.sort_is c.in_ok-formula.ensures.stands c.in_ok-push.ensures.items; extends = record { grows = c.on_path.ensures.grows; begins = front_more c.args.out.now.items _ c.push.new.self.items c.in_ok-push.ensures.items } }
