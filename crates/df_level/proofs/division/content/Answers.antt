use Rattle.std.proofs.Common.{◌≡◌, pos, get_or, rules}
use Rattle.std.proofs.lemmas.Int.{to_z-of_z}
use Rattle.std.specs.Int.RustNames.{unsigned_abs}
use Rattle.df_level.proofs.Contents.{dividing_begins, dividing_on, dividing_done}
use Rattle.df_level.proofs.division.content.Goals as goal

pub loop-entry-init : goal.loop-entry-init
loop-entry-init c = dividing_begins c.args.entries.now c.requires

pub loop-entry-preserved : goal.loop-entry-preserved
loop-entry-preserved c =
    let all = c.args.entries.now in
    let i = c.loop-entry.entry-index in
    let is : c.unsigned_abs.result ≡ unsigned_abs (get_or all i (0, pos 0)).1 = search (rules, to_z-of_z) in
    dividing_on c.loop-entry.divisor c.gcd-divisor.result i c.unsigned_abs.result all c.loop-entry.invariant c.loop-entry-test.true c.gcd-divisor.ensures is

pub returns : goal.returns
returns c = dividing_done c.loop-entry.divisor c.loop-entry.entry-index c.args.entries.now c.loop-entry.invariant c.loop-entry-test.false
