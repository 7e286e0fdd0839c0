use Rattle.std.proofs.Common.{◌≡◌, ◌∙◌, List, false, true, refl, rules, sym, ap, arith}
use Rattle.df_form.specs.declared.log.Lit.{Lit}
use Rattle.df_form.specs.Clause.{is_among}
use Rattle.df_trail.proofs.Fronts.{front_then}
use Rattle.df_trail.proofs.Shorter.{one_shorter, turns_shorter}
use Rattle.df_trail.proofs.Retreated.{skips, turns, joins_on, ends_closed}
use Rattle.df_trail.proofs.trail.Trail.retreat.Goals as goal

-- ---- a decision that is not needed

pub loop-decision-preserved-else-holds : goal.loop-decision-preserved-else-holds
loop-decision-preserved-else-holds c =
    let none : is_among c.loop-decision.conflict.needed.items c.in-Some.decision.literal ≡ false = ap (λ (ls : List Lit). is_among ls c.in-Some.decision.literal) (sym c.deref.ensures.value) ∙ sym c.if-holds.ensures in
    record {
      retreating = record {
        so_far = λ s front is.
            skips s c.loop-decision.derivation c.loop-decision.self front c.loop-decision.conflict (c.loop-decision.invariant.retreating.so_far s front is) c.pop.new.self.items c.in-Some.decision c.in-Some.ensures.items (record { decisions = c.pop.new.self }) none refl;
      };
      nodes = c.loop-decision.invariant.nodes;
      shorter = one_shorter c.args.self.now c.loop-decision.self (record { decisions = c.pop.new.self }) c.pop.new.self.items c.in-Some.decision c.loop-decision.invariant.shorter c.in-Some.ensures.items refl;
      longer = c.loop-decision.invariant.longer;
      grows = c.loop-decision.invariant.grows;
    }

pub loop-decision-preserved : goal.loop-decision-preserved
loop-decision-preserved c =
    let none : is_among c.loop-decision.conflict.needed.items c.in-Some.decision.literal ≡ false = ap (λ (ls : List Lit). is_among ls c.in-Some.decision.literal) (sym c.deref.ensures.value) ∙ sym c.if-holds.ensures in
    record {
      retreating = record {
        so_far = λ s front is.
            skips s c.loop-decision.derivation c.loop-decision.self front c.loop-decision.conflict (c.loop-decision.invariant.retreating.so_far s front is) c.pop.new.self.items c.in-Some.decision c.in-Some.ensures.items (record { decisions = c.pop.new.self }) none refl;
      };
      nodes = c.loop-decision.invariant.nodes;
      shorter = one_shorter c.args.self.now c.loop-decision.self (record { decisions = c.pop.new.self }) c.pop.new.self.items c.in-Some.decision c.loop-decision.invariant.shorter c.in-Some.ensures.items refl;
      longer = c.loop-decision.invariant.longer;
      grows = c.loop-decision.invariant.grows;
    }

-- ---- the one that is turned

pub returns-in_default-closed-clause-retreats : goal.returns-in_default-closed-clause-retreats
returns-in_default-closed-clause-retreats c = λ s front is.
    let needs : is_among c.loop-decision.conflict.needed.items c.in-Some.decision.literal ≡ true = ap (λ (ls : List Lit). is_among ls c.in-Some.decision.literal) (sym c.deref.ensures.value) ∙ sym c.if-holds.ensures in
    turns s c.loop-decision.derivation c.loop-decision.self front c.loop-decision.conflict (c.loop-decision.invariant.retreating.so_far s front is) c.pop.new.self.items c.in-Some.decision c.in-Some.ensures.items c.turn.new.self needs c.in_ok-turn.ensures.turns

pub returns-in_default-closed-clause-turns : goal.returns-in_default-closed-clause-turns
returns-in_default-closed-clause-turns c = turns_shorter c.args.self.now c.loop-decision.self c.turn.new.self c.pop.new.self.items c.in-Some.decision c.loop-decision.conflict c.loop-decision.invariant.shorter c.in-Some.ensures.items (search rules) c.in_ok-turn.ensures.turns

-- ---- one of which both sides are closed

pub loop-decision-preserved-then-holds : goal.loop-decision-preserved-then-holds
loop-decision-preserved-then-holds c = record {
  retreating = record {
    so_far = λ s front is.
        joins_on s c.loop-decision.derivation c.loop-decision.self front c.loop-decision.conflict (c.loop-decision.invariant.retreating.so_far s front is) c.pop.new.self.items c.in-Some.decision c.in-Some.ensures.items
        c.in-Some-closed.other c.join.new.derivation (record { decisions = c.pop.new.self }) c.in_ok-conflict.conflict c.in-Some-closed.is refl c.join.ensures.nodes c.in_ok-conflict.ensures.number c.in_ok-conflict.ensures.joins;
  };
  nodes = c.join.ensures.nodes ∙ c.loop-decision.invariant.nodes;
  shorter = one_shorter c.args.self.now c.loop-decision.self (record { decisions = c.pop.new.self }) c.pop.new.self.items c.in-Some.decision c.loop-decision.invariant.shorter c.in-Some.ensures.items refl;
  longer = omega (arith, c.loop-decision.invariant.longer, c.join.ensures.longer);
  grows = front_then c.args.derivation.now.lines.items c.loop-decision.derivation.lines.items c.join.new.derivation.lines.items c.loop-decision.invariant.grows c.join.ensures.grows;
}

-- ---- none is left

pub returns-clause-retreats : goal.returns-clause-retreats
returns-clause-retreats c = λ s front is. ends_closed s c.loop-decision.derivation c.loop-decision.self front c.loop-decision.conflict (c.loop-decision.invariant.retreating.so_far s front is) (search rules)
