use Rattle.std.proofs.Common.{subst, ℕ, ℤ, List}
use Rattle.df_level.proofs.Nonzero.{IsKeeping, kept_ascend, kept_coefficients}
use Rattle.df_level.proofs.entries.nonzero_entries.Goals as goal

pub returns-clause-ordered : goal.returns-clause-ordered
returns-clause-ordered c =
    let all = c.args.map.now.entries in
    let entries = c.loop-node.entries.items in
    let P : List (ℕ × ℤ) → Type 0 = λ left. IsKeeping all left entries in
    kept_ascend all entries (subst P c.in-None.ensures.steps.0 c.loop-node.invariant.0) c.into_iter-node-iterator.ensures.into_iter_gives.5

pub returns-clause-coefficients : goal.returns-clause-coefficients
returns-clause-coefficients c =
    let all = c.args.map.now.entries in
    let entries = c.loop-node.entries.items in
    let P : List (ℕ × ℤ) → Type 0 = λ left. IsKeeping all left entries in
    kept_coefficients all entries (subst P c.in-None.ensures.steps.0 c.loop-node.invariant.0) c.into_iter-node-iterator.ensures.into_iter_gives.5
