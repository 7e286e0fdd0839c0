use Rattle.std.proofs.Common.{rules, map}
use Rattle.df_nmach.specs.View.{method_of}
use Rattle.df_nplain.proofs.Short.{texts_are_short}
use Rattle.df_nemit.proofs.Whole.{code_is, does, names}
use Rattle.df_nemit.proofs.emission.emit.Goals as goal

pub returns-clause-code : goal.returns-clause-code
returns-clause-code c =
    code_is c.args.plain.now.methods.items c.loop-method.method-index (map method_of c.loop-method.methods.items) c.in_ok-vec.field-0.items (search rules) (search rules) (search rules)

pub returns-clause-does : goal.returns-clause-does
returns-clause-does c =
    does c.args.plain.now.methods.items c.loop-method.method-index (map method_of c.loop-method.methods.items) c.in_ok-vec.field-0.items (search rules) (search rules) (search rules)
    c.args.plain.now.is_bounded c.args.plain.now.is_counted (texts_are_short c.args.plain.now)

pub returns-clause-methods : goal.returns-clause-methods
returns-clause-methods c = names c.args.plain.now.methods.items c.loop-method.method-index (map method_of c.loop-method.methods.items) (search rules) (search rules)
