use Rattle.std.proofs.Common.{sym, ◌∙◌, subst, map, Vec, arith}
use Rattle.std.specs.declared.alloc.Global.{Global}
use Rattle.df_closure.specs.Closure.{ground_of}
use Rattle.df_closure.proofs.Rounds.{length_mapped}
use Rattle.df_form.specs.declared.log.Lit.{Lit}
use Rattle.df_form.specs.SequentView.{sequent_of}
use Rattle.df_search.specs.Found.{AreSpent}
use Rattle.df_search.specs.Searching.{Comes}
use Rattle.df_rules.proofs.Results.{if_ok}
use Rattle.df_search.proofs.searching.exhaust_set.Goals as goal

pub returns-in-Err : goal.returns-in-Err
returns-in-Err c = c.without_ground.ensures (sequent_of c.args.sequent.now) c.args.steps c.args.rounds c.in-Err.ensures.set

pub new-requires : goal.new-requires
new-requires c = let same = c.in-Ok.ensures.lines in omega (arith, same)

pub turn-requires-clause-places : goal.turn-requires-clause-places
turn-requires-clause-places c = c.loop-search.invariant.searches.is.standing.lines.long ∙ length_mapped ground_of _

pub loop-search-preserved : goal.loop-search-preserved
loop-search-preserved c =
    let s = sequent_of c.args.sequent.now in
    let comes = subst (Comes s c.args.steps c.args.rounds c.turn.new.self) c.in-On.is (c.in_ok-turn.ensures.turns s c.args.rounds c.loop-search.invariant.searches c.loop-search.invariant.few) in
    record { searches = comes.0; few = comes.1 }

pub proved-requires : goal.proved-requires
proved-requires c =
    let s = sequent_of c.args.sequent.now in
    subst (Comes s c.args.steps c.args.rounds c.turn.new.self) c.in-Proved.is (c.in_ok-turn.ensures.turns s c.args.rounds c.loop-search.invariant.searches c.loop-search.invariant.few)

pub returns-in-Proved : goal.returns-in-Proved
returns-in-Proved c = c.proved.ensures c.args.steps c.args.rounds

pub returns-in-Spent : goal.returns-in-Spent
returns-in-Spent c =
    let s = sequent_of c.args.sequent.now in
    subst (λ (closed : Vec (Vec Lit Global) Global). AreSpent s c.args.steps c.args.rounds (map (λ (branch : Vec Lit Global). branch.items) closed.items)) (sym c.into_closed.ensures) (subst (Comes s c.args.steps c.args.rounds c.turn.new.self) c.in-Spent.is (c.in_ok-turn.ensures.turns s c.args.rounds c.loop-search.invariant.searches c.loop-search.invariant.few))

pub returns-in-Modelled : goal.returns-in-Modelled
returns-in-Modelled c =
    let s = sequent_of c.args.sequent.now in
    subst (Comes s c.args.steps c.args.rounds c.turn.new.self) c.in-Modelled.is (c.in_ok-turn.ensures.turns s c.args.rounds c.loop-search.invariant.searches c.loop-search.invariant.few) c.args.sequent.now.is_sequent

pub returns-in-Wide : goal.returns-in-Wide
returns-in-Wide c =
    let s = sequent_of c.args.sequent.now in
    let comes = subst (Comes s c.args.steps c.args.rounds c.turn.new.self) c.in-Wide.is (c.in_ok-turn.ensures.turns s c.args.rounds c.loop-search.invariant.searches c.loop-search.invariant.few) in
    if_ok c.wide.result _ _ c.wide.ensures (λ found finds. finds s c.args.steps c.args.rounds comes)

pub returns-in-Many : goal.returns-in-Many
returns-in-Many c =
    let s = sequent_of c.args.sequent.now in
    let comes = subst (Comes s c.args.steps c.args.rounds c.turn.new.self) c.in-Many.is (c.in_ok-turn.ensures.turns s c.args.rounds c.loop-search.invariant.searches c.loop-search.invariant.few) in
    if_ok c.many.result _ _ c.many.ensures (λ found finds. finds s c.args.steps c.args.rounds comes)
