use Rattle.std.proofs.Common.{ℕ, sym, ◌∙◌, subst, arith, true≢false}
use Rattle.df_classes.specs.PartitionView.{state_of}
use Rattle.df_classes.specs.SignsView.{tables_of, TakesIn}
use Rattle.df_classes.specs.mirror.Signs.{KeepsTables}
use Rattle.df_classes.proofs.Covered.{covered_kept}
use Rattle.df_classes.proofs.Taking.{taken_quiet, taken_covered}
use Rattle.df_classes.proofs.quiet.takes_last.Goals as goal

pub take_in-requires : goal.take_in-requires
take_in-requires c = c.requires.covered.wide

pub returns-in_err-take_in-clause-covered : goal.returns-in_err-take_in-clause-covered
returns-in_err-take_in-clause-covered c =
    covered_kept c.args.nodes.now c.args.holding.now c.args.signs.now c.take_in.new.self c.args.held c.take_in.ensures.keeps c.take_in.ensures.covered (omega (arith, c.requires.all)) c.requires.covered

pub returns-then-not-branch-clause-quiet : goal.returns-then-not-branch-clause-quiet
returns-then-not-branch-clause-quiet c = λ e. absurd (true≢false (sym e))

pub returns-then-not-branch-clause-covered : goal.returns-then-not-branch-clause-covered
returns-then-not-branch-clause-covered c =
    covered_kept c.args.nodes.now c.args.holding.now c.args.signs.now c.take_in.new.self c.args.held c.take_in.ensures.keeps c.take_in.ensures.covered (omega (arith, c.requires.all)) c.requires.covered

pub returns-clause-quiet : goal.returns-clause-quiet
returns-clause-quiet c = λ e.
    let nodes = c.args.nodes.now in
    let h = c.args.holding.now in
    let old = tables_of c.args.signs.now in
    let new = tables_of c.take_in.new.self in
    let takes = TakesIn nodes c.args.users.now (state_of h.partition) in
    taken_quiet nodes c.args.users.now c.requires.users h c.requires.holding c.requires.literals c.args.literal c.args.from c.requires.came c.args.signs.now new c.requires.covered (c.requires.all ∙ c.requires.count) (subst (λ (n : ℕ). KeepsTables n old new) c.requires.count c.take_in.ensures.keeps)
    (subst (λ (n : ℕ). takes n c.args.literal h.partition.trail.items c.args.from old new) c.requires.count (c.in_ok-take_in.ensures.takes c.if-not-branch.false))

pub returns-clause-covered : goal.returns-clause-covered
returns-clause-covered c =
    let nodes = c.args.nodes.now in
    let h = c.args.holding.now in
    let old = tables_of c.args.signs.now in
    let new = tables_of c.take_in.new.self in
    let takes = TakesIn nodes c.args.users.now (state_of h.partition) in
    taken_covered nodes c.args.users.now c.requires.users h c.requires.holding c.requires.literals c.args.literal c.args.from c.requires.came c.args.signs.now _ c.requires.covered (c.requires.all ∙ c.requires.count)
    (subst (λ (n : ℕ). KeepsTables n old new) c.requires.count c.take_in.ensures.keeps) (subst (λ (n : ℕ). takes n c.args.literal h.partition.trail.items c.args.from old new) c.requires.count (c.in_ok-take_in.ensures.takes c.if-not-branch.false))
    (omega (arith, c.len.ensures, h.held.ok.0))
