use Rattle.std.proofs.Common.{◌∙◌, rules}
use Rattle.df_lemmas.proofs.Options.{none_left}
use Rattle.df_lang.specs.DeclView.{method_of}
use Rattle.df_nghost.specs.mirror.Known.{assigned_of}
use Rattle.df_nghost.proofs.Firsts.{none_missing}
use Rattle.df_nghost.proofs.Methods.{followed, first_inside, first_at_end, tells_inside, tells_end, nothing_missing}
use Rattle.df_nghost.proofs.method.follow.Goals as goal

pub returns-in-Some-clause-refused : goal.returns-in-Some-clause-refused
returns-in-Some-clause-refused c =
    let m = method_of c.args.method.now in
    let is = followed c.args.method.now c.stmts.new.self (assigned_of c.in_ok-at_entry.field-0) c.len.result c.requires c.in_ok-at_entry.ensures (search rules) c.in_ok-stmts.ensures.known in
    rw c.unassigned.ensures (tells_inside m c.in-Some.used (first_inside m c.stmts.new.self is ∙ c.in-Some.is))

pub returns-in-Some-first-clause-refused : goal.returns-in-Some-first-clause-refused
returns-in-Some-first-clause-refused c =
    let m = method_of c.args.method.now in
    let is = followed c.args.method.now c.stmts.new.self (assigned_of c.in_ok-at_entry.field-0) c.len.result c.requires c.in_ok-at_entry.ensures (search rules) c.in_ok-stmts.ensures.known in
    let none = none_left c.stmts.new.self.first c.in_default.not-Some in
    rw c.unassigned-in-Some-first.ensures (tells_end m c.in-Some-first.used (none_missing _ (first_inside m c.stmts.new.self is ∙ none)) (first_at_end m c.stmts.new.self c.results.new.self is none c.results.ensures.known ∙ c.in-Some-first.is))

pub returns-clause-definite : goal.returns-clause-definite
returns-clause-definite c =
    let m = method_of c.args.method.now in
    let is = followed c.args.method.now c.stmts.new.self (assigned_of c.in_ok-at_entry.field-0) c.len.result c.requires c.in_ok-at_entry.ensures (search rules) c.in_ok-stmts.ensures.known in
    let none = none_left c.stmts.new.self.first c.in_default.not-Some in
    nothing_missing m (none_missing _ (first_inside m c.stmts.new.self is ∙ none)) (first_at_end m c.stmts.new.self c.results.new.self is none c.results.ensures.known ∙ c.in-None.is)
