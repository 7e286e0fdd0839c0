use Rattle.std.proofs.Common.{◌<◌, ◌≤◌, map, length}
use Rattle.std.proofs.lemmas.List.{length-map}
use Rattle.df_ntree.specs.Expr.{expr_of, operation_of}
use Rattle.df_ntdecl.proofs.BoundEnds.{few_have_none, many_have_none}
use Rattle.df_ntdecl.proofs.newtypes.ends_of_run.Goals as goal

pub returns-in-empty : goal.returns-in-empty
returns-in-empty c =
    let lt : length (map operation_of c.args.rest.now) < 2 = rw length-map c.in-empty.len_below in
    few_have_none c.args.variable (expr_of c.args.first.now) (map operation_of c.args.rest.now) lt

pub returns-in-empty-2 : goal.returns-in-empty-2
returns-in-empty-2 c =
    let le : 3 ≤ length (map operation_of c.args.rest.now) = rw length-map c.in-empty.len_at_least in
    many_have_none c.args.variable (expr_of c.args.first.now) (map operation_of c.args.rest.now) le
