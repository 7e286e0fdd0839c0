use Rattle.std.proofs.Common.{ap, string_bytes, ◌∷◌, [], ◌∙◌}
use Rattle.std.proofs.lemmas.List.{map-append}
use Rattle.df_logtext.specs.View.{names_of}
use Rattle.df_nproof.proofs.Declarations.{names_more, names_all}
use Rattle.df_nproof.proofs.naming.names.Goals as goal

pub loop-decl-preserved : goal.loop-decl-preserved
loop-decl-preserved c =
    names_more c.deref-decl-items.result.now c.loop-decl.decl-index c.decl-item.result (names_of c.loop-decl.names.items) (names_of c.push.new.self.items) _ c.loop-decl-test.true c.decl-item.is c.loop-decl.invariant c.in_ok-name.ensures
    (ap names_of c.in_ok-push.ensures.items ∙ map-append string_bytes c.loop-decl.names.items (c.in_ok-name.field-0 ∷ []))

pub returns : goal.returns
returns c = rw c.deref-decl-items.ensures.value at (names_all c.deref-decl-items.result.now c.loop-decl.decl-index (names_of c.loop-decl.names.items) c.loop-decl-test.false c.loop-decl.invariant)
