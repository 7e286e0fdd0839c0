use Rattle.std.proofs.Common.{map, string_bytes, subst}
use Rattle.df_base.specs.declared.status.Status.{Status}
use Rattle.df_ntop.specs.Call.{call_of}
use Rattle.df_ntop.specs.Answer.{Answers}
use Rattle.df_ntop.proofs.Due.{is_complete}
use Rattle.df_ntop.proofs.Headline.{accepts_right, judges_right}
use Rattle.df_ntop.proofs.Proven.{derives_all}
use Rattle.df_ntop.proofs.command.top.Goals as goal

pub returns-clause-headline : goal.returns-clause-headline
returns-clause-headline g c =
    let call = call_of (map string_bytes c.args.words.now) g.F.Files c.args.files.now c.answer.new.files g.O.Sink c.args.out.now c.answer.new.out g.E.Sink c.args.err.now c.answer.new.err in
    λ command line accepts. accepts_right call command line c.answer.result c.answer.ensures.answers accepts

pub returns-clause-right : goal.returns-clause-right
returns-clause-right g c =
    let call = call_of (map string_bytes c.args.words.now) g.F.Files c.args.files.now c.answer.new.files g.O.Sink c.args.out.now c.answer.new.out g.E.Sink c.args.err.now c.answer.new.err in
    λ command line judging done. judges_right call command line judging (subst (λ (s : Status). Answers call s) done c.answer.ensures.answers)

pub returns-clause-derived : goal.returns-clause-derived
returns-clause-derived g c =
    let call = call_of (map string_bytes c.args.words.now) g.F.Files c.args.files.now c.answer.new.files g.O.Sink c.args.out.now c.answer.new.out g.E.Sink c.args.err.now c.answer.new.err in
    derives_all call c.logs_of_verdicts_derive.ensures c.answer.result c.answer.ensures.answers

pub returns-clause-complete : goal.returns-clause-complete
returns-clause-complete g c =
    let call = call_of (map string_bytes c.args.words.now) g.F.Files c.args.files.now c.answer.new.files g.O.Sink c.args.out.now c.answer.new.out g.E.Sink c.args.err.now c.answer.new.err in
    is_complete call c.one_program.ensures c.refused_is_unlawful.ensures c.broken_is_not_native.ensures c.one_text.ensures c.bad_is_no_text.ensures c.derived_is_not_refused.ensures c.one_list_of_obligations.ensures c.answer.result c.answer.ensures.answers
