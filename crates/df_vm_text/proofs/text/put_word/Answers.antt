use Rattle.std.proofs.Common.{map, true, rules, ap, ◌∙◌, to_z-of_z}
use Rattle.df_mach2.specs.Value.{values_of}
use Rattle.df_mach2.specs.View.{shape_of}
use Rattle.df_mach2.specs.Text.{given_text, number_text, truth_text, char_text, sequence_text, data_text, characters, texts, text_of, All, Each}
use Rattle.df_vm_store.specs.View.{values_in, value_at}
use Rattle.df_vm_text.specs.Tasks.{piece}
use Rattle.df_vm_text.specs.Prints.{Puts}
use Rattle.df_vm_text.proofs.Printed.{prints_same, put_then, no_shape}
use Rattle.df_vm_text.proofs.text.put_word.Goals as goal

pub returns-in_default-clause-prints : goal.returns-in_default-clause-prints
returns-in_default-clause-prints c = no_shape _ (values_in c.args.store.now) c.args.word c.args.shape c.in_default.ensures.none

pub returns-in-Number-clause-prints : goal.returns-in-Number-clause-prints
returns-in-Number-clause-prints c =
    let puts : Puts c.put_number.result (number_text c.in-Number.number (shape_of c.in-Some.by.now)) c.args.out.now.items c.put_number.new.out.items = search (rules, to_z-of_z) in
    prints_same _ _ _ _ _ _ _ (ap (λ w. text_of (map shape_of c.args.shapes.now) (value_at c.args.store.now w) c.args.shape) c.in-Number.is ∙ ap (λ o. given_text o (number_text c.in-Number.number)) c.in-Some.ensures.some) (put_then _ _ _ _ _ puts)

pub returns-in-Truth-clause-prints : goal.returns-in-Truth-clause-prints
returns-in-Truth-clause-prints c =
    prints_same _ _ _ _ _ _ _ (ap (λ w. text_of (map shape_of c.args.shapes.now) (value_at c.args.store.now w) c.args.shape) c.in-Truth.is ∙ ap (λ o. given_text o (truth_text c.in-Truth.truth)) c.in-Some.ensures.some) (put_then _ _ _ _ _ c.put_truth.ensures)

pub returns-in-Char-clause-prints : goal.returns-in-Char-clause-prints
returns-in-Char-clause-prints c =
    prints_same _ _ _ _ _ _ _ (ap (λ w. text_of (map shape_of c.args.shapes.now) (value_at c.args.store.now w) c.args.shape) c.in-Char.is ∙ ap (λ o. given_text o (char_text c.in-Char.character)) c.in-Some.ensures.some) (put_then _ _ _ _ _ c.put_character.ensures)

pub returns-in-Data-clause-prints : goal.returns-in-Data-clause-prints
returns-in-Data-clause-prints c =
    prints_same _ _ _ _ _ _ _ (ap (λ w. text_of (map shape_of c.args.shapes.now) (value_at c.args.store.now w) c.args.shape) c.in-Data.is ∙ ap (λ o. given_text o (data_text c.in-Data.tag (λ ss. texts (map shape_of c.args.shapes.now) (values_of (piece (values_in c.args.store.now) c.in-Data.from c.in-Data.count)) (Each ss) true))) c.in-Some.ensures.some) c.put_data.ensures.prints

pub returns-in-Sequence-clause-prints : goal.returns-in-Sequence-clause-prints
returns-in-Sequence-clause-prints c =
    prints_same _ _ _ _ _ _ _ (ap (λ w. text_of (map shape_of c.args.shapes.now) (value_at c.args.store.now w) c.args.shape) c.in-Sequence.is ∙ ap (λ o. given_text o (sequence_text (characters (values_of (piece (values_in c.args.store.now) c.in-Sequence.from c.in-Sequence.count))) (λ m. texts (map shape_of c.args.shapes.now) (values_of (piece (values_in c.args.store.now) c.in-Sequence.from c.in-Sequence.count)) (All m) true))) c.in-Some.ensures.some) c.put_sequence.ensures.prints
