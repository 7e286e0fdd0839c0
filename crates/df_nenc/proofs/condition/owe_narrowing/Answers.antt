use Rattle.df_nenc.proofs.Words.{sym, ap, ◌∙◌, [], tree_at, path_in, under}
use Rattle.df_nenc.proofs.Lemmas.{adds_none, adds_as, owed_as, narrowed, not_narrowed, narrowed_number, grows_not, front_not}
use Rattle.df_nenc.proofs.condition.owe_narrowing.Goals as goal

pub owe_range-requires-clause-number : goal.owe_range-requires-clause-number
owe_range-requires-clause-number c = record { below = c.requires.value.below; sort_is = c.requires.value.sort_is ∙ narrowed_number c.args.source c.args.target (sym c.is_narrowed.ensures ∙ c.if-is_narrowed.true) }

pub returns-then-is_narrowed-clause-adds : goal.returns-then-is_narrowed-clause-adds
returns-then-is_narrowed-clause-adds c = owed_as c.owe_range.result c.owe_range.new.nodes _ _ c.args.out.now.items c.owe_range.new.out.items (ap (under (path_in c.args.nodes.now c.args.path)) (sym (narrowed c.args.source c.args.target c.args.pos (tree_at c.args.nodes.now c.args.value) (sym c.is_narrowed.ensures ∙ c.if-is_narrowed.true)))) c.owe_range.ensures.adds

pub returns-else-is_narrowed : goal.returns-else-is_narrowed
returns-else-is_narrowed c = record { adds = adds_as c.args.nodes.now [] _ c.args.out.now.items c.args.out.now.items (ap (under (path_in c.args.nodes.now c.args.path)) (sym (not_narrowed c.args.source c.args.target c.args.pos (tree_at c.args.nodes.now c.args.value) (sym c.is_narrowed.ensures ∙ c.if-is_narrowed.false)))) (adds_none c.args.nodes.now c.args.out.now.items); grows = grows_not c.args.nodes.now; begins = front_not c.args.out.now.items }
