use Rattle.std.proofs.Common.{rules, ◌≡◌, map, true, sym, ap, ◌∙◌}
use Rattle.df_ntree.specs.declared.expr.Expr.{the_lemmas}
use Rattle.df_ntree.specs.Expr.{Operations, expr_of, operation_of, members_of}
use Rattle.df_ntree.specs.ExprSpelling.{first_group}
use Rattle.df_ntyping.specs.ExprTypes.{is_arithmetic}
use Rattle.df_nenv.specs.declared.outlook.Outlook.TheVariants as outlooks
use Rattle.df_nenv.specs.Outlooks.{outlook_of, joined, joined_all}
use Rattle.df_nenv.proofs.Foreseen.{run_foreseen}
use Rattle.df_nenv.proofs.outlook.+foresee.Goals as goal

pub foresee-returns-then-is_arithmetic : goal.foresee-returns-then-is_arithmetic
foresee-returns-then-is_arithmetic t c =
    let env = c.args.env.now in
    let first = expr_of c.in-Operations.first.value in
    let rest = members_of (map operation_of c.in-Operations.rest.items) in
    let whole : expr_of c.args.e.now ≡ Operations first rest = search (rules, the_lemmas) in
    let test : is_arithmetic (first_group rest) ≡ true = search rules in
    let made : c.joined_all.result ≡ joined_all env (joined outlooks.Open (outlook_of env first)) rest = search rules in
    made ∙ run_foreseen env first rest test ∙ sym (ap (outlook_of env) whole)
