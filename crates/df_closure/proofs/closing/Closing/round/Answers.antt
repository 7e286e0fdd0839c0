use Rattle.std.proofs.Common.{◌∙◌, ◌+◌, Bool, map, arith, sym, subst}
use Rattle.df_closure.specs.declared.closing.Closing.{Closing}
use Rattle.df_closure.specs.Closure.{ground_of}
use Rattle.df_closure.proofs.Rounds.{RoundSoFar, found, length_mapped, goes_quiet, goes_on, settles, refuted}
use Rattle.df_closure.proofs.closing.Closing.round.Goals.{in-Nothing, in-Literal+in_ok-learn-in-Literal}
use Rattle.df_closure.proofs.closing.Closing.round.Goals as goal

pub returns-in-Refuted : goal.returns-in-Refuted
returns-in-Refuted c =
    let at = found ground_of c.args.clauses.now c.loop-number.number c.index-clauses-number.result (omega arith) c.index-clauses-number.is in
    refuted (map ground_of c.args.clauses.now) c.args.self.now c.loop-number.self c.loop-number.number (ground_of c.index-clauses-number.result) c.loop-number.grown at c.loop-number.invariant (λ literals is. sym c.in-Refuted.is ∙ c.teaching.ensures literals is)

pub loop-number-preserved : goal.loop-number-preserved
loop-number-preserved c =
    let clauses = map ground_of c.args.clauses.now in
    let begin = c.args.self.now in
    let next = c.loop-number.number + 1 in
    let at = found ground_of c.args.clauses.now c.loop-number.number c.index-clauses-number.result (omega arith) c.index-clauses-number.is in
    elim c.match-teaching.branch [
      | in-Nothing w ↦
          subst (λ (g : Bool). RoundSoFar clauses begin next g c.match-teaching.self) (sym w.grown-is)
          (subst (λ (s : Closing). RoundSoFar clauses begin next c.loop-number.grown s) (sym w.self-is)
          (goes_quiet clauses begin c.loop-number.self c.loop-number.number (ground_of c.index-clauses-number.result) at c.loop-number.grown c.loop-number.invariant (λ literals is. sym w.in-Nothing.is ∙ c.teaching.ensures literals is)))
      | in-Literal+in_ok-learn-in-Literal w ↦
          subst (λ (g : Bool). RoundSoFar clauses begin next g c.match-teaching.self) (sym w.grown-is)
          (subst (λ (s : Closing). RoundSoFar clauses begin next _ s) (sym w.self-is)
          (goes_on clauses begin c.loop-number.self c.loop-number.number (ground_of c.index-clauses-number.result) at c.loop-number.grown c.loop-number.invariant
          w.in-Literal.literal w.learn.new.self (λ literals is. sym w.in-Literal.is ∙ c.teaching.ensures literals is) w.in_ok-learn-in-Literal.ensures.known w.in_ok-learn-in-Literal.ensures.learned w.in_ok-learn-in-Literal.ensures.reasons))
    ]

pub returns-else-grown : goal.returns-else-grown
returns-else-grown c =
    let clauses = map ground_of c.args.clauses.now in
    settles clauses c.args.self.now c.loop-number.self c.loop-number.number c.loop-number.grown (let same = length_mapped ground_of c.args.clauses.now in omega arith) c.if-grown.false c.loop-number.invariant
