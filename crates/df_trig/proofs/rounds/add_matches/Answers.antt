use Rattle.std.proofs.Common.{ℕ, subst}
use Rattle.std.proofs.lemmas.Result.{err_from_is_err_and}
use Rattle.std.specs.List.{flat_map, range_with_len}
use Rattle.df_form.specs.SequentView.{sequent_of}
use Rattle.df_clause.specs.GroundSet.{with_lines}
use Rattle.df_clause.specs.GroundView.{set_of}
use Rattle.df_trig.specs.Matches.{first_lines}
use Rattle.df_trig.specs.Rounds.{Reaches}
use Rattle.df_trig.proofs.Indexed.{index_begins}
use Rattle.df_trig.proofs.Rounding.{matches_front}
use Rattle.df_trig.proofs.Reaching.{still}
use Rattle.df_trig.proofs.rounds.add_matches.Goals as goal

pub returns-in_err-lists : goal.returns-in_err-lists
returns-in_err-lists g c =
    let q = err_from_is_err_and c.from_residual.result c.from_residual.ensures.1 in
    rw (q.1, q.2) (still (set_of c.args.ground.now) _ (matches_front (sequent_of c.args.sequent.now) (set_of c.args.ground.now) (record { sorted = c.len-nodes.ensures.table.sorted })))

pub add_firsts-requires-clause-index : goal.add_firsts-requires-clause-index
add_firsts-requires-clause-index g c = index_begins c.args.ground.now.nodes c.in_ok-lists.lists c.in_ok-lists.ensures

-- there are as many lists as nodes
pub returns : goal.returns
returns g c =
    let s = sequent_of c.args.sequent.now in
    let old = set_of c.args.ground.now in
    let reached : ℕ → Type 0 = λ count. Reaches old (with_lines s old (flat_map (first_lines s.world count c.args.ground.now.nodes) (range_with_len 0 count))) (set_of c.add_firsts.new.ground) c.add_firsts.result in
    subst reached c.in_ok-lists.ensures.long c.add_firsts.ensures
