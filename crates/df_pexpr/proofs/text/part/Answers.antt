use Rattle.std.proofs.Common.{map, arith}
use Rattle.df_tok.specs.Token.{view}
use Rattle.df_pexpr.specs.mirror.Construction.{construction_of}
use Rattle.df_pexpr.proofs.Spelled.{few_tokens, one_found, part_found, no_part}
use Rattle.df_pexpr.proofs.text.part.Goals as goal

pub returns-in-Stopped-clause-refused : goal.returns-in-Stopped-clause-refused
returns-in-Stopped-clause-refused c = λ r e after t of.
    no_part c.args.production (map view c.args.tokens.now.all.items) c.args.start c.in-Stopped.stop
    (record { is = rw (c.in-Stopped.is, c.deref.ensures.value) at c.in_ok-stop.ensures; few = few_tokens c.args.tokens.now.all.items (omega (arith, c.args.tokens.now.all.ok.0, c.args.tokens.now.all.ok.1, c.args.tokens.now.all.small)) }) after t of

pub only-requires : goal.only-requires
only-requires c =
    one_found c.args.production (map view c.args.tokens.now.all.items) c.args.start (construction_of c.in-Built.found) c.requires
    (record { is = rw (c.in-Built.is, c.deref.ensures.value) at c.in_ok-stop.ensures; few = few_tokens c.args.tokens.now.all.items (omega (arith, c.args.tokens.now.all.ok.0, c.args.tokens.now.all.ok.1, c.args.tokens.now.all.small)) })

pub returns-in-Built-clause-part : goal.returns-in-Built-clause-part
returns-in-Built-clause-part c =
    part_found c.args.production (map view c.args.tokens.now.all.items) c.args.start (construction_of c.in-Built.found) _
    (record { is = rw (c.in-Built.is, c.deref.ensures.value) at c.in_ok-stop.ensures; few = few_tokens c.args.tokens.now.all.items (omega (arith, c.args.tokens.now.all.ok.0, c.args.tokens.now.all.ok.1, c.args.tokens.now.all.small)) }) c.only.ensures
