use Rattle.std.proofs.Common.{List, sym, subst}
use Rattle.df_form.specs.declared.log.Lit.{Lit}
use Rattle.df_search.specs.Found.{IsTooWide}
use Rattle.df_search.specs.Searching.{branches_of}
use Rattle.df_search.proofs.searching.State.wide.Goals as goal

pub returns : goal.returns
returns c = λ s steps rounds is. subst (λ (branch : List Lit). IsTooWide s rounds (branches_of c.args.self) branch) (sym c.in_ok-branch.ensures) is
