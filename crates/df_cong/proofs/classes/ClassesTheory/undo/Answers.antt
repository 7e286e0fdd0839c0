use Rattle.std.proofs.Common.{ap, ◌∙◌}
use Rattle.df_form.specs.Clause.{are_literals}
use Rattle.df_cong.proofs.Answering.{literals_fewer}
use Rattle.df_classes.proofs.Holds.{cut_holds}
use Rattle.df_classes.proofs.Covered.{covered_cut}
use Rattle.df_cong.proofs.classes.ClassesTheory.undo.Goals as goal

pub invariant_of-self : goal.invariant_of-self
invariant_of-self c =
    let old = c.self.inside.holding in
    let nodes = c.self.inside.nodes in record {
      users_are = c.self.invariant.users_are;
      numbers_are = c.self.invariant.numbers_are;
      literals_are = ap (are_literals nodes) c.cut.ensures.held ∙ literals_fewer nodes old.held.items c.args.mark.held c.self.invariant.literals_are;
      holds = cut_holds nodes old c.cut.new.self c.args.mark.held c.self.invariant.holds c.cut.ensures;
      covered = covered_cut nodes old c.cut.new.self c.args.mark.held c.self.inside.signs c.forget.new.self c.self.invariant.holds c.cut.ensures c.forget.ensures.keeps c.forget.ensures.fewer c.forget.ensures.within c.self.invariant.covered;
    }
