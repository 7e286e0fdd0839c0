use Rattle.std.proofs.Common.{◌≡◌, ℕ, List, [], refl, sym, subst, ◌∙◌, arith, eqb-true}
use Rattle.std.proofs.lemmas.Bool.{eqb-false}
use Rattle.df_classes.specs.mirror.Steps.{Advances}
use Rattle.df_classes.proofs.Advancing.{closing_begins, closing_on, closing_falls, closing_ends}
use Rattle.df_classes.proofs.Retreating.{extends_none, extends_then}
use Rattle.df_classes.proofs.closing.close.Goals as goal

pub loop-alloc-init : goal.loop-alloc-init
loop-alloc-init c = (closing_begins c.args.nodes.now c.args.partition.now c.args.waiting.items c.requires.ready, extends_none c.args.partition.now c.args.partition.now refl refl refl)

pub settle-requires-clause-ready : goal.settle-requires-clause-ready
settle-requires-clause-ready c = c.loop-alloc.invariant.0.ready

pub returns-in_err-waiting-clause-extends : goal.returns-in_err-waiting-clause-extends
returns-in_err-waiting-clause-extends c = extends_then c.args.partition.now c.loop-alloc.partition c.settle.new.partition c.loop-alloc.invariant.1 c.settle.ensures.extends

pub loop-alloc-preserved : goal.loop-alloc-preserved
loop-alloc-preserved c =
    let nodes = c.args.nodes.now in
    let now = c.loop-alloc.partition in
    let new = c.settle.new.partition in
    let later = c.in_ok-waiting.waiting.items in (
      closing_on nodes c.args.partition.now now new c.args.waiting.items c.loop-alloc.waiting.items later c.loop-alloc.invariant.0
          (subst (λ (waiting : List ℕ). Advances nodes now new waiting [] later) c.deref.ensures.value c.in_ok-waiting.ensures.advances),
      extends_then c.args.partition.now now new c.loop-alloc.invariant.1 c.settle.ensures.extends,
    )

pub loop-alloc-smaller : goal.loop-alloc-smaller
loop-alloc-smaller c =
    let nodes = c.args.nodes.now in
    let now = c.loop-alloc.partition in
    let new = c.settle.new.partition in
    let waiting = c.loop-alloc.waiting in
    let later = c.in_ok-waiting.waiting.items in
    closing_falls nodes now new waiting.items later (λ none. eqb-false waiting.len 0 (sym c.is_empty.ensures ∙ c.loop-alloc-test.true) (omega (arith, none, waiting.ok.0)))
    (subst (λ (waiting : List ℕ). Advances nodes now new waiting [] later) c.deref.ensures.value c.in_ok-waiting.ensures.advances)

pub returns-clause-closes : goal.returns-clause-closes
returns-clause-closes c =
    let waiting = c.loop-alloc.waiting in
    let none : waiting.len ≡ 0 = eqb-true waiting.len 0 (sym c.is_empty.ensures ∙ c.loop-alloc-test.false) in
    closing_ends c.args.nodes.now c.args.partition.now c.loop-alloc.partition c.args.waiting.items waiting.items (omega (arith, none, waiting.ok.0)) c.loop-alloc.invariant.0
