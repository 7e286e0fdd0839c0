use Rattle.std.proofs.Common.{subst, List, ℕ}
use Rattle.std.specs.Prelude.{IfOk}
use Rattle.df_tok.specs.Token.{IsNamed}
use Rattle.df_tok.proofs.Identifiers.{identifier_utf8, named_from}
use Rattle.df_tok.proofs.kind.named.Goals as goal

pub unreachable-requires : goal.unreachable-requires
unreachable-requires c = absurd (c.in-Err.ensures.cases.0 (identifier_utf8 c.args.text.now c.requires.identifier))

pub returns-clause-named : goal.returns-clause-named
returns-clause-named c =
    subst (λ (t : List ℕ). IfOk c.intern.result (λ name. IsNamed c.args.names.now t name c.intern.new.self)) c.in-Ok.ensures.cases.0
    (named_from c.args.names.now c.intern.new.self c.in-Ok.text.now c.intern.result c.intern.ensures.distinct c.intern.ensures.name c.intern.ensures.names)
