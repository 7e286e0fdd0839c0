use Rattle.std.proofs.Common.{◌≡◌, ◌≤◌, ◌∙◌, [], ◌∷◌, map, length, ap}
use Rattle.std.proofs.lemmas.List.{length-map}
use Rattle.df_ntree.specs.Expr.{expr_of, operation_of}
use Rattle.df_ninfer.proofs.Guarding.{compared, compared_many, one_of}
use Rattle.df_ninfer.proofs.guards.compares_integers.Goals as goal

pub returns-in-len1 : goal.returns-in-len1
returns-in-len1 c =
    let alone : map operation_of c.args.rest.now ≡ operation_of c.operation-item.result ∷ [] = ap (map operation_of) (one_of c.args.rest.now c.operation-item.result c.in-len1.len_at_least c.in-len1.len_below c.operation-item.is) in
    c.compares.ensures ∙ compared c.args.env.now (expr_of c.args.first.now) (map operation_of c.args.rest.now) (operation_of c.operation-item.result) alone

pub returns-in-empty-2 : goal.returns-in-empty-2
returns-in-empty-2 c =
    let le : 2 ≤ length (map operation_of c.args.rest.now) = rw length-map c.in-empty.len_at_least in
    compared_many c.args.env.now (expr_of c.args.first.now) (map operation_of c.args.rest.now) le
