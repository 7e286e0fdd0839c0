use Rattle.std.proofs.Common.{◌∙◌, ap, sym}
use Rattle.std.specs.Option.{option_and_then}
use Rattle.df_ncmd.specs.Line.{within}
use Rattle.df_ncmd.proofs.Found.{read, unread, written}
use Rattle.df_ncmd.proofs.reading.number_written.Goals as goal

pub returns-in_err-number : goal.returns-in_err-number
returns-in_err-number c = λ least greatest.
    ap (option_and_then (within least greatest)) c.from_residual.ensures
    ∙ sym (unread c.args.text.now c.parse.result c.parse.ensures.value.0 (sym c.ok.ensures.value ∙ c.in_err-number.was) least greatest)

pub returns-then-is_plain : goal.returns-then-is_plain
returns-then-is_plain c =
    let some = sym c.ok.ensures.value ∙ c.in_ok-number.was in
    let found = read c.args.text.now c.parse.result c.parse.ensures.value.0 c.in_ok-number.number some in
    written c.args.text.now c.parse.result c.parse.ensures.value.0 c.in_ok-number.number some
    (sym (c.is_plain.ensures found.0.0 found.0.1) ∙ c.if-is_plain.true)
