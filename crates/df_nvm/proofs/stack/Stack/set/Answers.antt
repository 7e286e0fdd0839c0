use Rattle.std.proofs.Common.{◌<◌, drop, arith}
use Rattle.std.proofs.lemmas.List.{length-take}
use Rattle.df_nmach.specs.View.{values_of}
use Rattle.df_nvm.proofs.Values.{set_local, set_below, set_operands}
use Rattle.df_nvm.proofs.stack.Stack.set.Goals as goal

pub returns-clause-below : goal.returns-clause-below
returns-clause-below c = set_below c.args.self.now.base c.args.local c.args.self.now.values.items c.args.value

pub returns-clause-locals : goal.returns-clause-locals
returns-clause-locals c = set_local c.args.self.now.base c.args.self.now.locals c.args.local c.args.self.now.values.items c.args.value

pub returns-clause-operands : goal.returns-clause-operands
returns-clause-operands c =
    let s = c.args.self.now in
    let lt : c.args.local < s.locals = omega (arith, length-take s.locals (drop s.base (values_of s.values.items)), c.requires) in
    set_operands s.base s.locals c.args.local s.values.items c.args.value lt
