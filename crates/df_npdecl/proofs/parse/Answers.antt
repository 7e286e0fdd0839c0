use Rattle.std.proofs.Common.{map, sym, ◌∙◌}
use Rattle.df_tok.specs.Token.{view}
use Rattle.df_npdecl.proofs.Refusals.{outside_spells_none, read_is_spelled, refused_spells_none}
use Rattle.df_npdecl.proofs.parse.Goals as goal

pub returns-in-Some-clause-refused : goal.returns-in-Some-clause-refused
returns-in-Some-clause-refused c = λ r e file s.
    let h = rw c.deref.ensures.value at (sym c.first_outside.ensures ∙ c.in-Some.is) in
    outside_spells_none (map view c.args.tokens.now.all.items) c.in-Some.refusal file h s

pub returns-in-None-clause-file : goal.returns-in-None-clause-file
returns-in-None-clause-file c =
    let h = rw c.deref-in-None.ensures.value at c.file.ensures in
    read_is_spelled (map view c.args.tokens.now.all.items) c.file.result h

pub returns-in-None-clause-refused : goal.returns-in-None-clause-refused
returns-in-None-clause-refused c = λ r e file s.
    let h = rw c.deref-in-None.ensures.value at c.file.ensures in
    refused_spells_none (map view c.args.tokens.now.all.items) c.file.result r file h e s
