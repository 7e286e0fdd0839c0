use Rattle.std.proofs.Common.{◌≡◌, ℕ, slice_get, Some, IfSome, IfNone, subst}
use Rattle.df_form.proofs.Keys.{list-found, list-only, list-none}
use Rattle.df_form.proofs.part_lists.PartLists.find.Goals as goal

pub returns-clause-found : goal.returns-clause-found
returns-clause-found c = subst (λ lists. IfSome c.get_index_of.result (λ n. slice_get lists n ≡ Some c.args.parts.now)) c.self.view_is (list-found c.self.inside.lists.keys c.args.parts.now c.get_index_of.result c.get_index_of.ensures.index)

pub returns-clause-only : goal.returns-clause-only
returns-clause-only c = subst (λ lists. IfSome c.get_index_of.result (λ n. (other : ℕ) → slice_get lists other ≡ Some c.args.parts.now → other ≡ n)) c.self.view_is (list-only c.self.inside.lists.keys c.args.parts.now c.get_index_of.result c.len-count.ensures.unique c.get_index_of.ensures.index)

pub returns-clause-none : goal.returns-clause-none
returns-clause-none c = subst (λ lists. IfNone c.get_index_of.result ((n : ℕ) → slice_get lists n ≡ Some c.args.parts.now → ⊥)) c.self.view_is (list-none c.self.inside.lists.keys c.args.parts.now c.get_index_of.result c.get_index_of.ensures.index)
