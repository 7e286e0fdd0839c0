use Rattle.std.proofs.Common.{◌≡◌, true, List, map, sym, subst}
use Rattle.df_form.specs.declared.log.Lit.{Lit}
use Rattle.df_form.specs.Clause.{negation, are_literals}
use Rattle.df_rules.specs.Congruence.{IsCongruence}
use Rattle.df_cong.proofs.Replaying.{literals_from}
use Rattle.df_cong.proofs.reason.explained.Goals as goal

pub is_line-requires : goal.is_line-requires
is_line-requires c =
    let nodes = c.args.nodes.now in
    subst (λ (ls : List Lit). are_literals nodes ls ≡ true) (sym c.deref.ensures.value) (literals_from nodes c.args.holding.now.held.items c.in_ok-reason.reason.literals.items c.requires c.in_ok-reason.ensures)

pub returns-then-branch : goal.returns-then-branch
returns-then-branch c =
    let nodes = c.args.nodes.now in
    let reason = c.in_ok-reason.reason in record {
      line =
          subst (λ (ls : List Lit). IsCongruence nodes (map negation ls) reason.pairs.items) c.deref.ensures.value
          (subst (IsCongruence nodes (map negation c.deref.result.now)) c.deref-2.ensures.value (c.in_ok-is_line.ensures c.if-branch.true));
      from_held = c.in_ok-reason.ensures;
    }
