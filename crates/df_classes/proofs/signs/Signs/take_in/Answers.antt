use Rattle.std.proofs.Common.{sym, ◌∙◌, true≢false}
use Rattle.std.proofs.lemmas.Bool.{not-true}
use Rattle.df_classes.specs.PartitionView.{state_of}
use Rattle.df_classes.specs.SignsView.{tables_of}
use Rattle.df_classes.proofs.Stamping.{tables_then}
use Rattle.df_classes.proofs.Carrying.{taken}
use Rattle.df_classes.proofs.signs.Signs.take_in.Goals as goal

pub returns-in_err-carry_all-clause-keeps : goal.returns-in_err-carry_all-clause-keeps
returns-in_err-carry_all-clause-keeps c = tables_then c.args.held (tables_of c.args.self.now) (tables_of c.mark.new.self) (tables_of c.carry_all.new.self) c.mark.ensures.keeps c.carry_all.ensures.keeps

pub returns-in_err-carry_all-clause-covered : goal.returns-in_err-carry_all-clause-covered
returns-in_err-carry_all-clause-covered c = c.carry_all.ensures.covered ∙ c.mark.ensures.covered

pub returns-then-not-branch-clause-takes : goal.returns-then-not-branch-clause-takes
returns-then-not-branch-clause-takes c = λ e. absurd (true≢false (sym e))

pub returns-then-not-branch-clause-keeps : goal.returns-then-not-branch-clause-keeps
returns-then-not-branch-clause-keeps c = tables_then c.args.held (tables_of c.args.self.now) (tables_of c.mark.new.self) (tables_of c.carry_all.new.self) c.mark.ensures.keeps c.carry_all.ensures.keeps

pub returns-then-not-branch-clause-covered : goal.returns-then-not-branch-clause-covered
returns-then-not-branch-clause-covered c = c.carry_all.ensures.covered ∙ c.mark.ensures.covered

pub returns-clause-takes : goal.returns-clause-takes
returns-clause-takes c = λ e.
    let calm = not-true c.clashes_with.result e in
    taken c.args.nodes.now c.args.users.now (state_of c.args.partition.now) c.args.held c.args.literal c.args.partition.now.trail.items c.args.from (tables_of c.args.self.now) (tables_of c.mark.new.self) (tables_of c.carry_all.new.self) c.requires c.mark.ensures.keeps c.carry_all.ensures.keeps
    c.in_ok-mark.ensures.marks (c.in_ok-carry_all.ensures.carries c.if-not-branch.false) (c.clashes_with.ensures.not_torn calm) (c.clashes_with.ensures.not_denied calm) (c.clashes_with.ensures.calm calm)

pub returns-clause-keeps : goal.returns-clause-keeps
returns-clause-keeps c = tables_then c.args.held (tables_of c.args.self.now) (tables_of c.mark.new.self) (tables_of c.carry_all.new.self) c.mark.ensures.keeps c.carry_all.ensures.keeps

pub returns-clause-covered : goal.returns-clause-covered
returns-clause-covered c = c.carry_all.ensures.covered ∙ c.mark.ensures.covered
