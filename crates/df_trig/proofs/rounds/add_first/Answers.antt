use Rattle.std.proofs.Common.{List, length, Some, sym, ap, ◌∙◌, subst}
use Rattle.std.proofs.lemmas.Result.{err_from_is_err_and}
use Rattle.df_form.specs.Log.{Step}
use Rattle.df_form.specs.SequentView.{sequent_of}
use Rattle.df_form.specs.declared.node.Op.{Op}
use Rattle.df_clause.specs.Among.{Among}
use Rattle.df_clause.specs.GroundSet.{with_lines}
use Rattle.df_clause.specs.GroundView.{set_of}
use Rattle.df_clause.proofs.Sets.{lines_front}
use Rattle.df_trig.specs.declared.pattern.Pattern.{Pattern}
use Rattle.df_trig.specs.Matches.{pattern_lines, first_lines}
use Rattle.df_trig.specs.Rounds.{Reaches}
use Rattle.df_trig.proofs.PatternLines.{pattern_op, first_lines_are, no_first_lines}
use Rattle.std.specs.List.{flat_map}
use Rattle.df_trig.proofs.Reaching.{still}
use Rattle.df_trig.proofs.rounds.add_first.Goals as goal

pub returns-in_err-list-in-Some : goal.returns-in_err-list-in-Some
returns-in_err-list-in-Some g c =
    let s = sequent_of c.args.sequent.now in
    let q = err_from_is_err_and c.from_residual.result c.from_residual.ensures.1 in
    rw (q.1, q.2) (still (set_of c.args.ground.now) _ (lines_front s (first_lines s.world (length c.args.lists.now) c.args.ground.now.nodes c.args.first) (set_of c.args.ground.now) (record { sorted = c.len-nodes.ensures.table.sorted })))

pub add_patterns-requires-clause-ops : goal.add_patterns-requires-clause-ops
add_patterns-requires-clause-ops g c = λ p among.
    let listed = c.deref.ensures.value ∙ c.in_ok-list-in-Some.ensures in
    sym c.in-Some.ensures ∙ ap (λ (op : Op). Some op) (sym (pattern_op c.in-Some.op p (subst (λ (ps : List Pattern). Among ps p) listed among)))

pub returns-in_ok-list-in-Some : goal.returns-in_ok-list-in-Some
returns-in_ok-list-in-Some g c =
    let s = sequent_of c.args.sequent.now in
    let count = length c.args.lists.now in
    let old = set_of c.args.ground.now in
    let new = set_of c.add_patterns.new.ground in
    let listed = c.deref.ensures.value ∙ c.in_ok-list-in-Some.ensures in
    let lines = ap (flat_map (pattern_lines s.world count c.args.first)) listed ∙ sym (first_lines_are s.world count c.args.ground.now.nodes c.args.first c.in-Some.op c.in-Some.ensures) in
    subst (λ (ls : List Step). Reaches old (with_lines s old ls) new c.add_patterns.result) lines c.add_patterns.ensures

pub returns-in-None : goal.returns-in-None
returns-in-None g c =
    let s = sequent_of c.args.sequent.now in
    let old = set_of c.args.ground.now in
    (sym (ap (with_lines s old) (no_first_lines s.world (length c.args.lists.now) c.args.ground.now.nodes c.args.first c.in-None.ensures)), c.requires.few)
