use Rattle.std.proofs.Common.{◌∙◌}
use Rattle.df_ncmd.proofs.Decimals.{first_byte, other_first, zero_first}
use Rattle.df_ncmd.proofs.reading.is_plain.Goals as goal

pub returns-in-Some-eq48 : goal.returns-in-Some-eq48
returns-in-Some-eq48 c = λ numeral small.
    let here = c.in-Some-eq48 in
    zero_first c.args.text.now small numeral
    (first_byte c.args.text.now c.as_bytes.result.now c.first.result here.field-0 c.as_bytes.ensures.value c.first.ensures.value here.is ∙ here.field-0-test)

pub returns-in-Some : goal.returns-in-Some
returns-in-Some c = λ numeral small.
    let here = c.in-Some in
    other_first c.args.text.now small numeral here.first.now
    (first_byte c.args.text.now c.as_bytes.result.now c.first.result here.first c.as_bytes.ensures.value c.first.ensures.value here.is)
    here.first-test.1
