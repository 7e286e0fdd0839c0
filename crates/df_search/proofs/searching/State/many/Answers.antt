use Rattle.std.proofs.Common.{List, sym, subst}
use Rattle.df_form.specs.declared.log.Lit.{Lit}
use Rattle.df_search.specs.Found.{HasManyRows}
use Rattle.df_search.specs.Searching.{branches_of}
use Rattle.df_search.proofs.searching.State.many.Goals as goal

pub returns : goal.returns
returns c = λ s steps rounds is. subst (λ (branch : List Lit). HasManyRows s rounds (branches_of c.args.self) branch c.args.count) (sym c.in_ok-branch.ensures) is
