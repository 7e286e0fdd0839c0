use Rattle.std.proofs.Common.{[], ◌∷◌, sym, ◌∙◌, arith}
use Rattle.df_vm_store.specs.View.{cells_of, values_in}
use Rattle.df_vm_store.proofs.Meanings.{cells_length}
use Rattle.df_vm_text.proofs.Printed.{no_next_char, next_char, left_none, left_less}
use Rattle.df_vm_text.proofs.words.put_characters.Goals as goal

pub returns-in_default : goal.returns-in_default
returns-in_default c =
    left_none _ _ _ _ c.loop-index.invariant
    (no_next_char (values_in c.args.store.now) c.args.from c.args.count c.loop-index.index (omega (arith, c.loop-index-test.true)) (omega (arith, c.requires, cells_length (cells_of c.args.store.now))) (sym c.in_default.is ∙ c.character_at.ensures))

pub loop-index-preserved : goal.loop-index-preserved
loop-index-preserved c =
    left_less _ _ _ (c.in-Some.character ∷ []) _ _ _ c.loop-index.invariant c.in_ok-push.ensures.items
    (next_char (values_in c.args.store.now) c.args.from c.args.count c.loop-index.index c.in-Some.character (omega (arith, c.loop-index-test.true)) (omega (arith, c.requires, cells_length (cells_of c.args.store.now))) (sym c.in-Some.is ∙ c.character_at.ensures))
