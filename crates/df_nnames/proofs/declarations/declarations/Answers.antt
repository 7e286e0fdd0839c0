use Rattle.std.proofs.Common.{true, false}
use Rattle.std.proofs.lemmas.Result.{err_from_is_err_and}
use Rattle.df_nnames.specs.Meanings.{meanings_of}
use Rattle.df_nnames.proofs.Declared.{faults_more, table_more, declaration_told, twice_told, faults_done, table_done, looked_up}
use Rattle.df_nnames.proofs.declarations.declarations.Goals as goal

pub declaration-requires : goal.declaration-requires
declaration-requires c = looked_up c.loop-id.table c.index-all-id.result c.declared_name-ident.result c.is_declared.result false c.declared_name-ident.ensures c.is_declared.ensures c.if-is_declared.false

pub returns-then-is_declared-clause-faults : goal.returns-then-is_declared-clause-faults
returns-then-is_declared-clause-faults c =
    let x = c.index-all-id.result in
    let old = looked_up c.loop-id.table x c.declared_name-ident.result c.is_declared.result true c.declared_name-ident.ensures c.is_declared.ensures c.if-is_declared.true in
    twice_told (meanings_of c.args.globals.now) c.loop-id.table c.loop-id.id x c.args.all.now c.loop-id-test.true c.index-all-id.is c.twice.result c.declared_name-ident.result _ old c.declared_name-ident.ensures c.twice.ensures c.loop-id.invariant.0

pub returns-in_err-declaration-clause-faults : goal.returns-in_err-declaration-clause-faults
returns-in_err-declaration-clause-faults c =
    let p = err_from_is_err_and c.from_residual.result c.from_residual.ensures.1 in
    let x = c.index-all-id.result in
    let new = looked_up c.loop-id.table x c.declared_name-ident.result c.is_declared.result false c.declared_name-ident.ensures c.is_declared.ensures c.if-is_declared.false in
    rw (p.1, p.2) (declaration_told (meanings_of c.args.globals.now) c.loop-id.table c.loop-id.id x c.args.all.now c.loop-id-test.true c.index-all-id.is c.in_err-declaration.field-0.0 _ new c.in_err-declaration.ensures.faults c.loop-id.invariant.0)

pub loop-id-preserved : goal.loop-id-preserved
loop-id-preserved c =
    let g = meanings_of c.args.globals.now in
    let all = c.args.all.now in
    let x = c.index-all-id.result in
    let new = looked_up c.loop-id.table x c.declared_name-ident.result c.is_declared.result false c.declared_name-ident.ensures c.is_declared.ensures c.if-is_declared.false in (
      faults_more g c.loop-id.table c.loop-id.id x all c.loop-id-test.true c.index-all-id.is c.declaration.new.table _ new c.in_ok-declaration.ensures.faults c.in_ok-declaration.ensures.table c.loop-id.invariant.0,
      table_more g c.loop-id.table c.loop-id.id x all c.loop-id-test.true c.index-all-id.is c.declaration.new.table _ c.in_ok-declaration.ensures.table c.loop-id.invariant.1,
    )

pub returns-clause-faults : goal.returns-clause-faults
returns-clause-faults c = faults_done (meanings_of c.args.globals.now) c.loop-id.table c.loop-id.id c.args.all.now _ c.loop-id-test.false c.loop-id.invariant.0

pub returns-clause-table : goal.returns-clause-table
returns-clause-table c = table_done (meanings_of c.args.globals.now) c.loop-id.table c.loop-id.id c.args.all.now _ c.loop-id-test.false c.loop-id.invariant.1
