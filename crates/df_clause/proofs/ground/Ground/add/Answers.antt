use Rattle.std.proofs.Common.{List, [], ◌∷◌, ◌++◌, map, sym, ap, ◌∙◌}
use Rattle.std.proofs.lemmas.List.{map-append}
use Rattle.df_form.specs.Log.{step_of}
use Rattle.df_form.specs.declared.log.Step as declared
use Rattle.df_clause.proofs.ground.Ground.add.Goals as goal

pub returns-then-not-is_new-clause-is_new : goal.returns-then-not-is_new-clause-is_new
returns-then-not-is_new-clause-is_new c = sym c.if-not-is_new.true ∙ c.in_ok-is_new.ensures.is_new

pub returns-then-not-is_new-clause-lines : goal.returns-then-not-is_new-clause-lines
returns-then-not-is_new-clause-lines c = ap (map step_of) c.in_ok-reserve.ensures.items

pub returns-clause-is_new : goal.returns-clause-is_new
returns-clause-is_new c = sym c.if-not-is_new.false ∙ c.in_ok-is_new.ensures.is_new

pub returns-clause-lines : goal.returns-clause-lines
returns-clause-lines c =
    let old = c.args.self.now.lines.items in
    ap (map step_of) (c.in_ok-push.ensures.items ∙ ap (λ (lines : List declared.Step). lines ++ c.args.line ∷ []) c.in_ok-reserve.ensures.items) ∙ map-append step_of old (c.args.line ∷ [])
