use Rattle.df_ntree.specs.Expr.{expr_of}
use Rattle.df_ntexpr.specs.Asked.{wanted_of}
use Rattle.df_ntexpr.specs.Parts.{typed_of}
use Rattle.df_ntexpr.proofs.Told.{typed_so, told_so}
use Rattle.df_ntexpr.proofs.typed.Goals as goal

pub returns-in-Ok-clause-typed : goal.returns-in-Ok-clause-typed
returns-in-Ok-clause-typed c =
    typed_so c.args.env.now (wanted_of c.args.wanted) (expr_of c.args.e.now) (typed_of c.in-Ok.typed) c.requires.grammar c.requires.names c.requires.types c.in-Ok.ensures

pub returns-in-Err-Broken-clause-refused : goal.returns-in-Err-Broken-clause-refused
returns-in-Err-Broken-clause-refused c =
    rw c.refusal.ensures
    (told_so c.args.env.now (wanted_of c.args.wanted) (expr_of c.args.e.now) c.in-Err-Broken.field-0 c.in-Err-Broken.broken c.requires.grammar c.requires.names c.requires.types c.in-Err-Broken.field-0-is c.in-Err-Broken.ensures)
