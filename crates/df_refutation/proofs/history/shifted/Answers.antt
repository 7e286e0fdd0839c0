use Rattle.std.proofs.Common.{◌≡◌, pos, List, [], subst, sym, rules}
use Rattle.std.proofs.lemmas.Int.{to_z-of_z}
use Rattle.df_form.specs.declared.log.Multiple.{Multiple}
use Rattle.df_row.proofs.Rows.{passed}
use Rattle.df_refutation.specs.History.{AreShifted}
use Rattle.df_refutation.proofs.Histories.{shifted_next, shifted_ends}
use Rattle.df_refutation.proofs.history.shifted.Goals as goal

pub loop-member-init : goal.loop-member-init
loop-member-init c = let P : List Multiple → Type 0 = λ ks. AreShifted c.args.start [] ks in subst P (sym c.new-members.ensures.items) tt

pub loop-member-preserved : goal.loop-member-preserved
loop-member-preserved c = shifted_next c.args.start c.loop-member.member-index c.deref-member-items.result.now c.loop-member.members.items c.push.new.self.items (record { factor = pos 0; row = 0 }) c.moved.result c.loop-member.invariant c.loop-member-test.true c.moved.ensures c.in_ok-push.ensures.items

pub returns : goal.returns
returns c =
    let d = c.args.way.now.divisor in
    let d_passes : passed d ≡ d = search (rules, to_z-of_z) in
    record { divisor = d_passes; members = shifted_ends c.args.start c.loop-member.member-index c.deref-member-items.result.now c.args.way.now.members.items c.loop-member.members.items c.loop-member.invariant c.loop-member-test.false c.deref-member-items.ensures.value }
