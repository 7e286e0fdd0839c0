use Rattle.std.proofs.Common.{sym, ◌∙◌, map}
use Rattle.df_tok.specs.Token.{view}
use Rattle.df_tree.specs.Grammar.{kinds_of}
use Rattle.df_pexpr.proofs.Walk.{second_is}
use Rattle.df_pexpr.proofs.lookup.second_in.Goals as goal

pub returns-then-at-tokens : goal.returns-then-at-tokens
returns-then-at-tokens c =
    second_is (kinds_of c.args.class) (map view c.args.tokens.now) c.args.at _ (sym c.is_anything.ensures ∙ c.if-is_anything.false) c.first_in.ensures
