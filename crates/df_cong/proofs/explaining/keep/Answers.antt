use Rattle.std.proofs.Common.{sym}
use Rattle.df_cong.proofs.Replaying.{from_pushed}
use Rattle.df_cong.proofs.explaining.keep.Goals as goal

pub returns : goal.returns
returns c =
    let x = c.in-Some.literal.now in
    from_pushed c.args.literals.now c.args.kept.now.items c.push.new.self.items x (c.args.place, c.in-Some.ensures.lookup.3.0, sym (c.in-Some.ensures.lookup.3.1 x)) c.requires c.in_ok-push.ensures.items
