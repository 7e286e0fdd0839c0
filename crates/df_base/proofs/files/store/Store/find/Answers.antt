use Rattle.std.proofs.Common.{◌≡◌, sym, ◌∙◌, true, false, string_bytes}
use Rattle.df_base.specs.Names.{same_text}
use Rattle.df_base.proofs.FakesLemmas.{bytes_of-here, bytes_of-later}
use Rattle.df_base.proofs.files.store.Store.find.Goals as goal

pub returns-then-eq : goal.returns-then-eq
returns-then-eq c =
    let same : same_text c.args.name.now (string_bytes c.file-item.result.name) ≡ true = rw c.as_str.ensures.value at (sym c.if-eq.ensures) in
    let here = bytes_of-here c.deref-file-items.result.now c.loop-file.file-index c.file-item.result c.args.name.now c.loop-file-test.true c.file-item.is same in
    sym here ∙ c.loop-file.invariant

pub loop-file-preserved : goal.loop-file-preserved
loop-file-preserved c =
    let other : same_text c.args.name.now (string_bytes c.file-item.result.name) ≡ false = rw c.as_str.ensures.value at (sym c.if-eq.ensures) in
    let later = bytes_of-later c.deref-file-items.result.now c.loop-file.file-index c.file-item.result c.args.name.now c.loop-file-test.true c.file-item.is other in
    later ∙ c.loop-file.invariant
