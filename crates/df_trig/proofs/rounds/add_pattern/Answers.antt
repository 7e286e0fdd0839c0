use Rattle.std.proofs.Common.{ℕ, length, sym, subst}
use Rattle.std.specs.List.{range_with_len}
use Rattle.std.proofs.lemmas.Result.{err_from_is_err_and}
use Rattle.df_form.specs.SequentView.{sequent_of}
use Rattle.df_axiom.specs.Schemas.{template}
use Rattle.df_clause.specs.GroundSet.{GroundSet, with_lines}
use Rattle.df_clause.specs.GroundView.{set_of}
use Rattle.df_clause.proofs.Sets.{lines_front}
use Rattle.df_trig.specs.declared.pattern.Named.{Named}
use Rattle.df_trig.specs.Matches.{pattern_lines, pair_lines}
use Rattle.df_trig.specs.Rounds.{Names, Reaches}
use Rattle.df_trig.proofs.PatternLines.{no_line, one_line, two_lines, product_lines}
use Rattle.df_trig.proofs.Reaching.{still}
use Rattle.df_trig.proofs.rounds.add_pattern.Goals as goal

pub returns-in_err-terms : goal.returns-in_err-terms
returns-in_err-terms g c =
    let s = sequent_of c.args.sequent.now in
    let q = err_from_is_err_and c.from_residual.result c.from_residual.ensures.1 in
    rw (q.1, q.2) (still (set_of c.args.ground.now) _ (lines_front s (pattern_lines s.world (length c.args.lists.now) c.args.first c.args.pattern.now) (set_of c.args.ground.now) (record { sorted = c.len-nodes.ensures.table.sorted })))

pub returns-in-Nothing : goal.returns-in-Nothing
returns-in-Nothing g c =
    let s = sequent_of c.args.sequent.now in
    let p = c.args.pattern.now in
    let names = subst (λ (n : Named). Names n (template s.world p.op p.schema p.clause)) c.in-Nothing.is c.in_ok-terms.ensures in
    (sym (no_line s (set_of c.args.ground.now) (length c.args.lists.now) c.args.first p names), c.requires.few)

pub returns-in-One : goal.returns-in-One
returns-in-One g c =
    let s = sequent_of c.args.sequent.now in
    let p = c.args.pattern.now in
    let names = subst (λ (n : Named). Names n (template s.world p.op p.schema p.clause)) c.in-One.is c.in_ok-terms.ensures in
    let whole = one_line s (set_of c.args.ground.now) (length c.args.lists.now) c.args.first p names in
    subst (λ (x : GroundSet). Reaches (set_of c.args.ground.now) x (set_of c.add_instance.new.ground) c.add_instance.result) (sym whole) c.add_instance.ensures

pub returns-in-Two : goal.returns-in-Two
returns-in-Two g c =
    let s = sequent_of c.args.sequent.now in
    let p = c.args.pattern.now in
    let count = length c.args.lists.now in
    let old = set_of c.args.ground.now in
    let new = set_of c.add_all_pairs.new.ground in
    let names = subst (λ (n : Named). Names n (template s.world p.op p.schema p.clause)) c.in-Two.is c.in_ok-terms.ensures in
    let counted = subst (λ (n : ℕ). Reaches old (with_lines s old (pair_lines p c.args.first (range_with_len 0 n))) new c.add_all_pairs.result) c.len.ensures c.add_all_pairs.ensures in
    subst (λ (x : GroundSet). Reaches old x new c.add_all_pairs.result) (sym (two_lines s old count c.args.first p names)) counted

pub add_joined-requires-clause-two : goal.add_joined-requires-clause-two
add_joined-requires-clause-two g c =
    let s = sequent_of c.args.sequent.now in
    let p = c.args.pattern.now in
    subst (λ (n : Named). Names n (template s.world p.op p.schema p.clause)) c.in-Products.is c.in_ok-terms.ensures

pub returns-in-Products : goal.returns-in-Products
returns-in-Products g c =
    let s = sequent_of c.args.sequent.now in
    let p = c.args.pattern.now in
    let names = subst (λ (n : Named). Names n (template s.world p.op p.schema p.clause)) c.in-Products.is c.in_ok-terms.ensures in
    let whole = product_lines s (set_of c.args.ground.now) (length c.args.lists.now) c.args.first p names in
    subst (λ (x : GroundSet). Reaches (set_of c.args.ground.now) x (set_of c.add_joined.new.ground) c.add_joined.result) (sym whole) c.add_joined.ensures
