use Rattle.std.proofs.Common.{ℕ, List, ◌∙◌, subst}
use Rattle.std.specs.List.{range_with_len}
use Rattle.std.proofs.lemmas.Result.{err_from_is_err_and}
use Rattle.df_form.specs.SequentView.{sequent_of}
use Rattle.df_clause.specs.GroundSet.{with_lines}
use Rattle.df_clause.specs.GroundView.{set_of}
use Rattle.df_clause.proofs.Sets.{lines_front}
use Rattle.df_trig.specs.Matches.{pair_lines}
use Rattle.df_trig.specs.Rounds.{Reaches}
use Rattle.df_trig.proofs.Reaching.{still}
use Rattle.df_trig.proofs.rounds.add_all_pairs.Goals as goal

pub returns-in_err-others : goal.returns-in_err-others
returns-in_err-others g c =
    let s = sequent_of c.args.sequent.now in
    let old = set_of c.args.ground.now in
    let q = err_from_is_err_and c.from_residual.result c.from_residual.ensures.1 in
    rw (q.1, q.2) (still old _ (lines_front s (pair_lines c.args.pattern.now c.args.first (range_with_len 0 c.args.count)) old (record { sorted = c.len-nodes.ensures.table.sorted })))

pub returns : goal.returns
returns g c =
    let s = sequent_of c.args.sequent.now in
    let old = set_of c.args.ground.now in
    let new = set_of c.add_pairs.new.ground in
    let listed = c.deref.ensures.value ∙ c.in_ok-others.ensures in
    subst (λ (others : List ℕ). Reaches old (with_lines s old (pair_lines c.args.pattern.now c.args.first others)) new c.add_pairs.result) listed c.add_pairs.ensures
