use Rattle.std.proofs.Common.{rules, ◌≡◌, ◌∙◌, true, map, Err, sym, ap, subst}
use Rattle.std.specs.List.{list_all}
use Rattle.df_lang.specs.View.{program_of}
use Rattle.df_nplain.specs.Plain as plain
use Rattle.df_nerase.specs.Erasing.{methods_among}
use Rattle.df_nmach.specs.Name.{is_name}
use Rattle.df_nmach.specs.View.{code_of}
use Rattle.df_nemit.specs.Code.{plain_code}
use Rattle.df_nemit.specs.Correct.{DoesWhat}
use Rattle.df_nback.proofs.Names.{texts_stay, names_stay}
use Rattle.df_nback.proofs.Refusals.{told_on, told_none}
use Rattle.df_nback.proofs.Runs.{is_compiled}
use Rattle.df_nback.proofs.compiling.compile.Goals as goal

pub returns-in_err-plain-clause-told : goal.returns-in_err-plain-clause-told
returns-in_err-plain-clause-told c =
    let e : c.from_residual.result ≡ Err c.in_err-plain.field-0.0 = search rules in
    told_on _ _ (program_of c.args.program.now) c.in_err-plain.field-0.0 c.from_residual.result e c.in_err-plain.ensures.told

pub emit-requires : goal.emit-requires
emit-requires c =
    let program = program_of c.args.program.now in
    record {
      names = subst (λ (p : plain.Plain). list_all (λ (m : plain.Method). is_name m.text) p.methods ≡ true) (sym c.in_ok-plain.ensures.erased) (names_stay program (methods_among program.decls) c.requires.names);
    }

pub returns-in_err-emit-clause-told : goal.returns-in_err-emit-clause-told
returns-in_err-emit-clause-told c = told_none _ _ (program_of c.args.program.now) c.in_ok-plain.plain _ c.in_ok-plain.ensures.told

pub returns-clause-compiled : goal.returns-clause-compiled
returns-clause-compiled c =
    let code = code_of c.in_ok-emit.field-0 in
    is_compiled (program_of c.args.program.now) code c.arguments_are_lowered.ensures c.methods_are_found.ensures c.correct_methods_run_alike.ensures c.args.program.now.is_well_typed c.in_ok-plain.ensures.native
    (c.in_ok-emit.ensures.code ∙ ap plain_code c.in_ok-plain.ensures.erased)
    (subst (λ (p : plain.Plain). DoesWhat p code) c.in_ok-plain.ensures.erased c.in_ok-emit.ensures.does)

pub returns-clause-methods : goal.returns-clause-methods
returns-clause-methods c =
    let program = program_of c.args.program.now in
    c.in_ok-emit.ensures.methods ∙ ap (λ (p : plain.Plain). map (λ (m : plain.Method). m.text) p.methods) c.in_ok-plain.ensures.erased ∙ texts_stay program (methods_among program.decls)

pub returns-clause-told : goal.returns-clause-told
returns-clause-told c = told_none _ _ (program_of c.args.program.now) c.in_ok-plain.plain _ c.in_ok-plain.ensures.told
