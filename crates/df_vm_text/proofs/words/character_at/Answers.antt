use Rattle.std.proofs.Common.{ap, sym, ◌∙◌}
use Rattle.df_vm_store.specs.View.{cells_of, values_in}
use Rattle.df_vm_store.specs.Meaning.{value_in}
use Rattle.df_vm_text.specs.Tasks.{char_in}
use Rattle.df_vm_text.proofs.Printed.{char_there, char_missing, other_word}
use Rattle.df_vm_text.proofs.words.character_at.Goals as goal

pub returns-in_default : goal.returns-in_default
returns-in_default c = char_missing (cells_of c.args.store.now) c.args.cell c.args.store.now.founded (sym c.in_default.is ∙ c.cell.ensures.word)

pub returns-in_default-word : goal.returns-in_default-word
returns-in_default-word c =
    char_there (cells_of c.args.store.now) c.args.cell c.in-Some.word _ c.args.store.now.founded (sym c.in-Some.is ∙ c.cell.ensures.word) (other_word (values_in c.args.store.now) c.in-Some.word c.in_default-word.not-Char)

pub returns : goal.returns
returns c =
    char_there (cells_of c.args.store.now) c.args.cell c.in-Some.word _ c.args.store.now.founded (sym c.in-Some.is ∙ c.cell.ensures.word) (sym (ap (λ w. char_in (value_in (values_in c.args.store.now) w)) c.in-Char.is))
