use Rattle.std.proofs.Common.{◌≡◌, pos, get_or, rules}
use Rattle.std.proofs.lemmas.Int.{to_z-of_z}
use Rattle.df_row.proofs.Rows.{passed}
use Rattle.df_refutation.proofs.Keeping.{renumbered_next}
use Rattle.df_refutation.proofs.kept.renumbered.Goals as goal

pub loop-member-preserved : goal.loop-member-preserved
loop-member-preserved c =
    let ms = c.deref-member-items.result.now in
    let i = c.loop-member.member-index in
    let m = get_or ms i (record { factor = pos 0; row = 0 }) in
    let passes : passed m.factor ≡ m.factor = search (rules, to_z-of_z) in
    renumbered_next c.args.numbers.now i ms c.loop-member.members.items c.push.new.self.items (record { factor = pos 0; row = 0 }) (record { factor = passed m.factor; row = c.in-Some.row }) c.loop-member.invariant c.loop-member-test.true (record { factor = passes; row = c.in-Some.ensures }) c.in_ok-push.ensures.items
