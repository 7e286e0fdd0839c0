use Rattle.std.proofs.Common.{ℕ, List, length, sym, ap, subst, arith}
use Rattle.df_closure.specs.Closure.{IsRefuted}
use Rattle.df_branch.specs.Leaf.{IsUnsolvable}
use Rattle.df_branch.specs.Standing.{TellsStanding}
use Rattle.df_trail.specs.declared.trail.Trail.{Trail}
use Rattle.df_trail.specs.Trail.{decided}
use Rattle.df_search.specs.Places.{AreWithin}
use Rattle.df_search.specs.Searching.{clauses_of}
use Rattle.df_search.proofs.Lines.{as_long, closed_within, refuted_within}
use Rattle.df_search.proofs.Same.{placed_same}
use Rattle.df_search.proofs.Settling.{ends_searches, shorter_searches, refuted_there, unsolvable_there}
use Rattle.df_search.proofs.Ending.{formulas_before, placed_pointed, placed_shorter, fewer, shortens_not, shortens_pointed, shortens_wide, shortens_many}
use Rattle.df_search.proofs.searching.State.end_before.Goals as goal

pub standing-requires-clause-place : goal.standing-requires-clause-place
standing-requires-clause-place c = c.requires.placed.place

pub standing-requires-clause-formulas : goal.standing-requires-clause-formulas
standing-requires-clause-formulas c = formulas_before c.args.self.now c.args.before.now c.requires.fresh c.requires.placed

-- ---- the list before the last decision is not shut

pub returns-in-Stands-None-clause-shortens : goal.returns-in-Stands-None-clause-shortens
returns-in-Stands-None-clause-shortens c =
    let old = c.args.self.now in
    let stands = subst (TellsStanding (clauses_of old) old.derivation.nodes c.args.before.now) c.in-Stands-None.is c.in_ok-standing.ensures in
    shortens_not old c.args.before.now c.requires.fresh stands

pub returns-in-Stands-Some-clause-shortens : goal.returns-in-Stands-Some-clause-shortens
returns-in-Stands-Some-clause-shortens c =
    let old = c.args.self.now in
    let stands = subst (TellsStanding (clauses_of old) old.derivation.nodes c.args.before.now) c.in-Stands-Some.is c.in_ok-standing.ensures in
    shortens_pointed old c.args.before.now c.in-Stands-Some.point c.requires.fresh stands

pub returns-in-Stands-Some-clause-placed : goal.returns-in-Stands-Some-clause-placed
returns-in-Stands-Some-clause-placed c = placed_pointed c.args.self.now c.in-Stands-Some.point c.requires.placed

-- ---- a clause is false beside it

pub refute-requires-clause-within : goal.refute-requires-clause-within
refute-requires-clause-within c =
    let old = c.args.self.now in
    let is = subst (TellsStanding (clauses_of old) old.derivation.nodes c.args.before.now) c.in-Refuted.is c.in_ok-standing.ensures in
    subst (AreWithin (length old.places.items)) (sym c.deref.ensures.value)
    (refuted_within (clauses_of old) old.places.items c.args.before.now c.in-Refuted.numbers.items (as_long old.clauses.items old.places.items c.requires.placed.places) is)

pub refute-requires-clause-places : goal.refute-requires-clause-places
refute-requires-clause-places c = c.requires.placed.places

pub returns-in_ok-conflict-in-Refuted-clause-shortens : goal.returns-in_ok-conflict-in-Refuted-clause-shortens
returns-in_ok-conflict-in-Refuted-clause-shortens c = λ s rounds ending h.
    let old = c.args.self.now in
    let before = c.args.before.now in
    let has = c.requires.fresh in
    let trail = c.take_back.new.self in
    let taken = c.take_back.ensures.kept has.0.kept (decided has.0.literal) has.0.is in
    let is = subst (TellsStanding (clauses_of old) old.derivation.nodes before) c.in-Refuted.is c.in_ok-standing.ensures in
    c.in_ok-conflict-in-Refuted.ensures.refutes s rounds (shorter_searches s rounds old before has trail taken (ends_searches s rounds old ending h))
    (refuted_there s rounds old before has trail taken c.deref.result.now (subst (λ (ns : List ℕ). IsRefuted (clauses_of old) before ns) (sym c.deref.ensures.value) is))

pub returns-in_ok-conflict-in-Refuted-clause-placed : goal.returns-in_ok-conflict-in-Refuted-clause-placed
returns-in_ok-conflict-in-Refuted-clause-placed c =
    let old = c.args.self.now in
    let has = c.requires.fresh in
    let trail = c.take_back.new.self in
    let taken = c.take_back.ensures.kept has.0.kept (decided has.0.literal) has.0.is in
    placed_same (record old { trail = trail }) c.refute.new.self c.refute.ensures.same (placed_shorter old c.args.before.now has trail taken c.requires.placed)

pub returns-in_ok-conflict-in-Refuted-clause-less : goal.returns-in_ok-conflict-in-Refuted-clause-less
returns-in_ok-conflict-in-Refuted-clause-less c =
    let old = c.args.self.now in
    let has = c.requires.fresh in
    let trail = c.take_back.new.self in
    let less = fewer old c.args.before.now has trail (c.take_back.ensures.kept has.0.kept (decided has.0.literal) has.0.is) in
    omega (arith, less, ap (λ (t : Trail). length t.decisions.items) c.refute.ensures.same.trail)

pub returns-in_ok-conflict-in-Refuted-clause-grown : goal.returns-in_ok-conflict-in-Refuted-clause-grown
returns-in_ok-conflict-in-Refuted-clause-grown c = omega (arith, c.in_ok-conflict-in-Refuted.ensures.longer)

-- ---- its rows are refuted

pub solve-requires-clause-within : goal.solve-requires-clause-within
solve-requires-clause-within c =
    let old = c.args.self.now in
    let tells = subst (TellsStanding (clauses_of old) old.derivation.nodes c.args.before.now) c.in-Unsolvable.is c.in_ok-standing.ensures in
    subst (AreWithin (length old.places.items)) (sym c.deref-in-Unsolvable.ensures.value)
    (closed_within (clauses_of old) old.places.items c.args.before.now c.in-Unsolvable.reasons.items tells.1.learned (as_long old.clauses.items old.places.items c.requires.placed.places) tells.1.closed)

pub solve-requires-clause-places : goal.solve-requires-clause-places
solve-requires-clause-places c = c.requires.placed.places

pub returns-in_ok-conflict-in-Unsolvable-clause-shortens : goal.returns-in_ok-conflict-in-Unsolvable-clause-shortens
returns-in_ok-conflict-in-Unsolvable-clause-shortens c = λ s rounds ending h.
    let old = c.args.self.now in
    let before = c.args.before.now in
    let has = c.requires.fresh in
    let trail = c.take_back-in-Unsolvable.new.self in
    let taken = c.take_back-in-Unsolvable.ensures.kept has.0.kept (decided has.0.literal) has.0.is in
    let tells = subst (TellsStanding (clauses_of old) old.derivation.nodes before) c.in-Unsolvable.is c.in_ok-standing.ensures in
    let is = subst (λ (ns : List ℕ). IsUnsolvable (clauses_of old) old.derivation.nodes before ns c.in-Unsolvable.facts.items tells.0) (sym c.deref-in-Unsolvable.ensures.value) tells.1 in
    c.in_ok-conflict-in-Unsolvable.ensures.solves s rounds tells.0 (shorter_searches s rounds old before has trail taken (ends_searches s rounds old ending h)) (unsolvable_there s rounds old before has trail taken c.deref-in-Unsolvable.result.now c.in-Unsolvable.facts.items tells.0 is) tells.2

pub returns-in_ok-conflict-in-Unsolvable-clause-placed : goal.returns-in_ok-conflict-in-Unsolvable-clause-placed
returns-in_ok-conflict-in-Unsolvable-clause-placed c =
    let old = c.args.self.now in
    let has = c.requires.fresh in
    let trail = c.take_back-in-Unsolvable.new.self in
    let taken = c.take_back-in-Unsolvable.ensures.kept has.0.kept (decided has.0.literal) has.0.is in
    placed_same (record old { trail = trail }) c.solve.new.self c.solve.ensures.same (placed_shorter old c.args.before.now has trail taken c.requires.placed)

pub returns-in_ok-conflict-in-Unsolvable-clause-less : goal.returns-in_ok-conflict-in-Unsolvable-clause-less
returns-in_ok-conflict-in-Unsolvable-clause-less c =
    let old = c.args.self.now in
    let has = c.requires.fresh in
    let trail = c.take_back-in-Unsolvable.new.self in
    let less = fewer old c.args.before.now has trail (c.take_back-in-Unsolvable.ensures.kept has.0.kept (decided has.0.literal) has.0.is) in
    omega (arith, less, ap (λ (t : Trail). length t.decisions.items) c.solve.ensures.same.trail)

pub returns-in_ok-conflict-in-Unsolvable-clause-grown : goal.returns-in_ok-conflict-in-Unsolvable-clause-grown
returns-in_ok-conflict-in-Unsolvable-clause-grown c = omega (arith, c.in_ok-conflict-in-Unsolvable.ensures.longer)

-- ---- a number is too wide, or there are too many rows

pub returns-in-Wide-clause-shortens : goal.returns-in-Wide-clause-shortens
returns-in-Wide-clause-shortens c =
    let old = c.args.self.now in
    let has = c.requires.fresh in
    let wide = subst (TellsStanding (clauses_of old) old.derivation.nodes c.args.before.now) c.in-Wide.is c.in_ok-standing.ensures in
    shortens_wide old c.args.before.now has c.take_back-in-Wide.new.self (c.take_back-in-Wide.ensures.kept has.0.kept (decided has.0.literal) has.0.is) wide

pub returns-in-Wide-clause-placed : goal.returns-in-Wide-clause-placed
returns-in-Wide-clause-placed c =
    let has = c.requires.fresh in
    placed_shorter c.args.self.now c.args.before.now has c.take_back-in-Wide.new.self (c.take_back-in-Wide.ensures.kept has.0.kept (decided has.0.literal) has.0.is) c.requires.placed

pub returns-in-Wide-clause-less : goal.returns-in-Wide-clause-less
returns-in-Wide-clause-less c =
    let has = c.requires.fresh in
    fewer c.args.self.now c.args.before.now has c.take_back-in-Wide.new.self (c.take_back-in-Wide.ensures.kept has.0.kept (decided has.0.literal) has.0.is)

pub returns-in-Many-clause-shortens : goal.returns-in-Many-clause-shortens
returns-in-Many-clause-shortens c =
    let old = c.args.self.now in
    let has = c.requires.fresh in
    let many = subst (TellsStanding (clauses_of old) old.derivation.nodes c.args.before.now) c.in-Many.is c.in_ok-standing.ensures in
    shortens_many old c.args.before.now has c.take_back-in-Many.new.self (c.take_back-in-Many.ensures.kept has.0.kept (decided has.0.literal) has.0.is) c.in-Many.count many

pub returns-in-Many-clause-placed : goal.returns-in-Many-clause-placed
returns-in-Many-clause-placed c =
    let has = c.requires.fresh in
    placed_shorter c.args.self.now c.args.before.now has c.take_back-in-Many.new.self (c.take_back-in-Many.ensures.kept has.0.kept (decided has.0.literal) has.0.is) c.requires.placed

pub returns-in-Many-clause-less : goal.returns-in-Many-clause-less
returns-in-Many-clause-less c =
    let has = c.requires.fresh in
    fewer c.args.self.now c.args.before.now has c.take_back-in-Many.new.self (c.take_back-in-Many.ensures.kept has.0.kept (decided has.0.literal) has.0.is)

pub returns-in-Wide-clause-grown : goal.returns-in-Wide-clause-grown
returns-in-Wide-clause-grown c = omega arith

pub returns-in-Many-clause-grown : goal.returns-in-Many-clause-grown
returns-in-Many-clause-grown c = omega arith
