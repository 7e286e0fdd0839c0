use Rattle.std.proofs.Common.{◌+◌, map, take}
use Rattle.df_form.specs.Log.{combination_of}
use Rattle.df_refutation.proofs.Keeping.{keeping_goes, taken_more}
use Rattle.df_refutation.proofs.kept.Kept.of.Goals as goal
use Rattle.df_refutation.proofs.kept.Kept.of.Goals.{then-not-is_marked+in_ok-leave_out, else-not-is_marked+in_ok-keep+else-not-branch}

pub loop-number-preserved : goal.loop-number-preserved
loop-number-preserved c =
    let given = c.args.given in
    let ways = c.args.combinations.now in
    let i = c.loop-number.number in
    let x = c.index-combinations-number.result in
    let taken = map combination_of (take i ways) in
    let all = map combination_of (take (i + 1) ways) in
    let more = taken_more ways i x c.loop-number-test.true c.index-combinations-number.is in
    let old = c.loop-number.kept in
    let new = c.if-not-is_marked.kept in
    elim c.if-not-is_marked.branch [
      | then-not-is_marked+in_ok-leave_out w ↦ keeping_goes given taken all (combination_of x) old w.leave_out.new.self new c.loop-number.invariant (w.in_ok-leave_out.ensures given (combination_of x)) more w.kept-is
      | else-not-is_marked+in_ok-keep+else-not-branch w ↦ keeping_goes given taken all (combination_of x) old w.keep.new.self new c.loop-number.invariant (w.in_ok-keep.ensures w.if-not-branch.false) more w.kept-is
    ]
