use Rattle.std.proofs.Common.{ap, ◌∙◌, arith}
use Rattle.df_kern.specs.ClassesView.{class_of}
use Rattle.df_rules.proofs.Results.{on_ok}
use Rattle.df_kern.proofs.Joining.{joins, joins_back, joins_none}
use Rattle.df_kern.proofs.classes.Classes.join.Goals as goal

pub link-requires-clause-high : goal.link-requires-clause-high
link-requires-clause-high c = ap (λ f. f c.in_ok-right.right) c.in_ok-right.ensures.same ∙ c.in_ok-right.ensures.own

pub link-requires-clause-low : goal.link-requires-clause-low
link-requires-clause-low c = ap (λ f. f c.in_ok-left.left) (c.in_ok-right.ensures.same ∙ c.in_ok-left.ensures.same) ∙ c.in_ok-left.ensures.own

pub returns-then-left-right : goal.returns-then-left-right
returns-then-left-right c =
    let left = c.in_ok-left.left in
    let right = c.in_ok-right.right in
    on_ok c.link.result
    (joins (class_of c.args.self.now) c.args.pair left right c.in_ok-left.ensures.least (c.in_ok-right.ensures.least ∙ ap (λ f. f c.args.pair.right) c.in_ok-left.ensures.same) (class_of c.link.new.self) (class_of c.least-2.new.self)
    (c.in_ok-right.ensures.same ∙ c.in_ok-left.ensures.same) (omega (arith, c.if-left-right.true)))
    c.link.ensures

pub link-requires-then-right-left-clause-high : goal.link-requires-then-right-left-clause-high
link-requires-then-right-left-clause-high c = ap (λ f. f c.in_ok-left.left) (c.in_ok-right.ensures.same ∙ c.in_ok-left.ensures.same) ∙ c.in_ok-left.ensures.own

pub link-requires-then-right-left-clause-low : goal.link-requires-then-right-left-clause-low
link-requires-then-right-left-clause-low c = ap (λ f. f c.in_ok-right.right) c.in_ok-right.ensures.same ∙ c.in_ok-right.ensures.own

pub returns-then-right-left : goal.returns-then-right-left
returns-then-right-left c =
    let left = c.in_ok-left.left in
    let right = c.in_ok-right.right in
    on_ok c.link-then-right-left.result
    (joins_back (class_of c.args.self.now) c.args.pair left right c.in_ok-left.ensures.least (c.in_ok-right.ensures.least ∙ ap (λ f. f c.args.pair.right) c.in_ok-left.ensures.same) (class_of c.link-then-right-left.new.self) (class_of c.least-2.new.self)
    (c.in_ok-right.ensures.same ∙ c.in_ok-left.ensures.same) (omega (arith, c.if-right-left.true)))
    c.link-then-right-left.ensures

pub returns : goal.returns
returns c =
    joins_none (class_of c.args.self.now) c.args.pair c.in_ok-left.left c.in_ok-right.right c.in_ok-left.ensures.least (c.in_ok-right.ensures.least ∙ ap (λ f. f c.args.pair.right) c.in_ok-left.ensures.same) (class_of c.least-2.new.self)
    (c.in_ok-right.ensures.same ∙ c.in_ok-left.ensures.same) (omega (arith, c.if-left-right.false, c.if-right-left.false))
