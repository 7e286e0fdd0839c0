use Rattle.std.proofs.Common.{Some, sym, ap, ◌∙◌}
use Rattle.std.proofs.lemmas.Option.{slice_get-map}
use Rattle.std.specs.String.{string_bytes}
use Rattle.df_base.proofs.NamesLemmas.{IsDistinct-keys, slice_get-found, texts-kept, texts-insert, same_text-equal}
use Rattle.df_base.proofs.name.Names.intern.Goals as goal

pub returns-in-Some-clause-name : goal.returns-in-Some-clause-name
returns-in-Some-clause-name c =
    let keys = c.self.inside.texts.keys in
    let e = slice_get-found string_bytes c.args.text.now keys c.in-Some.number (sym c.in-Some.ensures.index) in
    rw (← c.self.view_is) e

pub returns-in-Some-clause-names : goal.returns-in-Some-clause-names
returns-in-Some-clause-names c =
    let keys = c.self.inside.texts.keys in
    rw (← c.self.view_is) (texts-kept string_bytes c.args.text.now keys (sym c.in-Some.ensures.found))

pub invariant_of-self-2 : goal.invariant_of-self-2
invariant_of-self-2 c = IsDistinct-keys string_bytes c.insert_full.new.self.keys c.insert_full.ensures.unique

pub returns-clause-name : goal.returns-clause-name
returns-clause-name c =
    let keys = c.insert_full.new.self.keys in
    let stored = c.in_ok-number.ensures.stored in
    let e = same_text-equal _ _ stored.2 in
    slice_get-map string_bytes keys c.in_ok-number.number ∙ rw stored.1 (ap Some (sym e ∙ c.in_ok-from_str.ensures.ok))

pub returns-clause-names : goal.returns-clause-names
returns-clause-names c =
    let keys = c.self.inside.texts.keys in
    let e = texts-insert string_bytes keys c.in_ok-from_str.field-0 in
    rw (← c.self.view_is, ← c.in_ok-from_str.ensures.ok, c.in_ok-number.ensures.keys) e

pub returns-clause-distinct : goal.returns-clause-distinct
returns-clause-distinct c = IsDistinct-keys string_bytes c.insert_full.new.self.keys c.insert_full.ensures.unique
