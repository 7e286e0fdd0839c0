use Rattle.std.proofs.Common.{◌≡◌, Some, map, sym, ◌∙◌}
use Rattle.df_tok.specs.Token.{view}
use Rattle.df_pdecl.specs.Refusing.{first_outside}
use Rattle.df_tree.proofs.Single.{file_makes_one}
use Rattle.df_pdecl.proofs.OutsideWords.{outside_spells_none}
use Rattle.df_pdecl.proofs.parse.Goals as goal

pub returns-in-Some-clause-refused : goal.returns-in-Some-clause-refused
returns-in-Some-clause-refused c = λ r e t of.
    outside_spells_none 0 (map view c.args.tokens.now.all.items) c.in-Some.refusal t (rw c.deref.ensures.value at (sym c.first_outside.ensures ∙ c.in-Some.is)) of

pub returns-in-Some-clause-place : goal.returns-in-Some-clause-place
returns-in-Some-clause-place c = λ r e inside.
    absurd (let there : first_outside (map view c.args.tokens.now.all.items) ≡ Some c.in-Some.refusal = rw c.deref.ensures.value at (sym c.first_outside.ensures ∙ c.in-Some.is) in cc)

pub whole-requires : goal.whole-requires
whole-requires c = file_makes_one
