use Rattle.std.proofs.Common.{◌≡◌, ◌∙◌, ap, Some, None, List, ◌∷◌, ◌++◌, []}
use Rattle.std.proofs.lemmas.Result.{err_from_is_err_and}
use Rattle.df_lemmas.proofs.Options.{none_left}
use Rattle.df_ntree.specs.mirror.Reading.{next_by, one_or_more}
use Rattle.df_ntree.specs.mirror.FileReading.{parameter_at}
use Rattle.df_ntree.proofs.Repeat.{goes_on, is_done}
use Rattle.df_npexpr.specs.Rest.{rest_of}
use Rattle.df_npexpr.proofs.Loop.{list_fails, seen}
use Rattle.df_npdecl.proofs.Rows.{parameter_shrinks, row_starts}
use Rattle.df_npdecl.proofs.declarations.some_parameters.Goals as goal

pub returns-in_err-parameter-2 : goal.returns-in_err-parameter-2
returns-in_err-parameter-2 c =
    let p = err_from_is_err_and c.from_residual-in_err-parameter-2.result c.from_residual-in_err-parameter-2.ensures.1 in
    rw (p.1, p.2) (list_fails c.in_err-parameter-2.field-0.0 (next_by parameter_at) parameter_shrinks c.loop-parameters.parameters.items (rest_of c.loop-parameters.cursor) (one_or_more parameter_at (rest_of c.args.cursor.now)) c.in_err-parameter-2.ensures c.loop-parameters.invariant)

pub loop-parameters-smaller : goal.loop-parameters-smaller
loop-parameters-smaller c =
    let e = seen (next_by parameter_at (rest_of c.loop-parameters.cursor)) c.in_ok-parameter-2.field-0 (Some c.in-Some.parameter) (rest_of c.next_parameter.new.cursor) c.in_ok-parameter-2.ensures c.in-Some.is in
    parameter_shrinks.falls (rest_of c.loop-parameters.cursor) (rest_of c.next_parameter.new.cursor) c.in-Some.parameter e

pub loop-parameters-preserved : goal.loop-parameters-preserved
loop-parameters-preserved c =
    let e = seen (next_by parameter_at (rest_of c.loop-parameters.cursor)) c.in_ok-parameter-2.field-0 (Some c.in-Some.parameter) (rest_of c.next_parameter.new.cursor) c.in_ok-parameter-2.ensures c.in-Some.is in
    rw c.in_ok-push-2.ensures.items (goes_on (next_by parameter_at) parameter_shrinks c.loop-parameters.parameters.items (rest_of c.loop-parameters.cursor) (rest_of c.next_parameter.new.cursor) c.in-Some.parameter (one_or_more parameter_at (rest_of c.args.cursor.now)) e c.loop-parameters.invariant)

pub returns : goal.returns
returns c =
    let e = seen (next_by parameter_at (rest_of c.loop-parameters.cursor)) c.in_ok-parameter-2.field-0 None (rest_of c.next_parameter.new.cursor) c.in_ok-parameter-2.ensures (none_left c.in_ok-parameter-2.field-0 c.in_default.not-Some) in
    is_done (next_by parameter_at) parameter_shrinks c.loop-parameters.parameters.items (rest_of c.loop-parameters.cursor) (rest_of c.next_parameter.new.cursor) (one_or_more parameter_at (rest_of c.args.cursor.now)) e c.loop-parameters.invariant

pub loop-parameters-init : goal.loop-parameters-init
loop-parameters-init c =
    let pushed : c.push.new.self.items ≡ c.in_ok-parameter.field-0 ∷ [] = c.in_ok-push.ensures.items ∙ ap (λ (l : List _). l ++ c.in_ok-parameter.field-0 ∷ []) c.new-parameters.ensures.items in
    row_starts parameter_at c.in_ok-parameter.field-0 c.push.new.self.items (rest_of c.args.cursor.now) (rest_of c.parameter.new.cursor) c.in_ok-parameter.ensures pushed
