use Rattle.std.proofs.Common.{sym, ap, ◌∙◌}
use Rattle.df_lang.specs.declared.decl.Decl.TheVariants as decls
use Rattle.df_nerase.specs.Eraser.{program_in}
use Rattle.df_nerase.specs.Erasing.{range_of}
use Rattle.df_nerase.proofs.Intervals.{range_there, range_past}
use Rattle.df_nerase.proofs.eraser.Eraser.range.Goals as goal

pub returns-in-Some-Newtype : goal.returns-in-Some-Newtype
returns-in-Some-Newtype c =
    let found = c.in-Some-Newtype in
    sym (ap (range_of (program_in c.args.self.now)) c.in-Newtype.is ∙ range_there c.args.self.now.program.now.decls.items c.deref.result.now c.deref.ensures.value c.in-Newtype.id found.field-0.now (decls.Newtype found.newtype) found.field-0-is found.ensures.lookup.3.0 found.ensures.lookup.1)

pub returns-in-Some-Method : goal.returns-in-Some-Method
returns-in-Some-Method c =
    let found = c.in-Some-Method in
    sym (ap (range_of (program_in c.args.self.now)) c.in-Newtype.is ∙ range_there c.args.self.now.program.now.decls.items c.deref.result.now c.deref.ensures.value c.in-Newtype.id found.field-0.now (decls.Method found.field-0-0) found.field-0-is found.ensures.lookup.3.0 found.ensures.lookup.1)

pub returns-in-None : goal.returns-in-None
returns-in-None c =
    sym (ap (range_of (program_in c.args.self.now)) c.in-Newtype.is ∙ range_past c.args.self.now.program.now.decls.items c.deref.result.now c.deref.ensures.value c.in-Newtype.id c.in-None.ensures.lookup.3)

pub returns-in-Int : goal.returns-in-Int
returns-in-Int c = ap (range_of (program_in c.args.self.now)) (sym c.in-Int.is)

pub returns-in-Nat : goal.returns-in-Nat
returns-in-Nat c = ap (range_of (program_in c.args.self.now)) (sym c.in-Nat.is)

pub returns-in-Bool : goal.returns-in-Bool
returns-in-Bool c = ap (range_of (program_in c.args.self.now)) (sym c.in-Bool.is)

pub returns-in-Char : goal.returns-in-Char
returns-in-Char c = ap (range_of (program_in c.args.self.now)) (sym c.in-Char.is)
