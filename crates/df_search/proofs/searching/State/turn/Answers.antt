use Rattle.std.proofs.Common.{◌<◌, ℕ, List, length, sym, subst, ap, arith}
use Rattle.df_closure.specs.Closure.{IsRefuted}
use Rattle.df_branch.specs.Leaf.{IsUnsolvable, IsIncongruent}
use Rattle.df_trail.specs.Trail.{branch_of}
use Rattle.df_search.specs.Places.{AreWithin}
use Rattle.df_search.specs.declared.searching.End.TheVariants as ends
use Rattle.df_search.specs.Searching.{clauses_of, Tells, Finishes, lines_at}
use Rattle.df_rules.proofs.Results.{if_ok}
use Rattle.df_search.proofs.Lines.{as_long, closed_within, refuted_within}
use Rattle.df_search.proofs.Coming.{open_decides, modelled}
use Rattle.df_search.proofs.Same.{placed_same}
use Rattle.df_search.proofs.Ending.{on_longer}
use Rattle.df_search.proofs.searching.State.turn.Goals as goal

pub refute-requires-clause-within : goal.refute-requires-clause-within
refute-requires-clause-within c =
    let old = c.args.self.now in
    let is = subst (Tells old) c.in-Refuted.is c.in_ok-numbers.ensures in
    subst (AreWithin (length old.places.items)) (sym c.deref.ensures.value) (refuted_within (clauses_of old) old.places.items (branch_of old.trail) c.in-Refuted.numbers.items (as_long old.clauses.items old.places.items c.requires.places) is)

pub solve-requires-clause-within : goal.solve-requires-clause-within
solve-requires-clause-within c =
    let old = c.args.self.now in
    let tells = subst (Tells old) c.in-Unsolvable.is c.in_ok-numbers.ensures in
    subst (AreWithin (length old.places.items)) (sym c.deref-in-Unsolvable.ensures.value) (closed_within (clauses_of old) old.places.items (branch_of old.trail) c.in-Unsolvable.reasons.items tells.1.learned (as_long old.clauses.items old.places.items c.requires.places) tells.1.closed)

pub contradict-requires-clause-within : goal.contradict-requires-clause-within
contradict-requires-clause-within c =
    let old = c.args.self.now in
    let is = subst (Tells old) c.in-Incongruent.is c.in_ok-numbers.ensures in
    subst (AreWithin (length old.places.items)) (sym c.deref-in-Incongruent.ensures.value) (closed_within (clauses_of old) old.places.items (branch_of old.trail) c.in-Incongruent.reasons.items is.learned (as_long old.clauses.items old.places.items c.requires.places) is.closed)

-- ---- the branch is closed

pub settle-requires : goal.settle-requires
settle-requires c = placed_same c.args.self.now c.refute.new.self c.refute.ensures.same (record { place = c.requires.place; places = c.requires.places })

pub settle-requires-in-Unsolvable : goal.settle-requires-in-Unsolvable
settle-requires-in-Unsolvable c = placed_same c.args.self.now c.solve.new.self c.solve.ensures.same (record { place = c.requires.place; places = c.requires.places })

pub settle-requires-in-Incongruent : goal.settle-requires-in-Incongruent
settle-requires-in-Incongruent c = placed_same c.args.self.now c.contradict.new.self c.contradict.ensures.same (record { place = c.requires.place; places = c.requires.places })

pub returns-in-Refuted-clause-turns : goal.returns-in-Refuted-clause-turns
returns-in-Refuted-clause-turns c =
    let old = c.args.self.now in
    if_ok c.settle.result _ _ c.settle.ensures.settles
    (λ turn settles s rounds searches few.
    let is = subst (λ (ns : List ℕ). IsRefuted (clauses_of old) (branch_of old.trail) ns) (sym c.deref.ensures.value) (subst (Tells old) c.in-Refuted.is c.in_ok-numbers.ensures) in
    let still_few : length c.refute.new.self.closed.items < c.args.steps = omega (arith, ap length c.refute.ensures.closed, few) in
    settles s rounds (c.in_ok-conflict-in-Refuted.ensures.refutes s rounds searches is) still_few)

pub returns-in-Refuted-clause-grows : goal.returns-in-Refuted-clause-grows
returns-in-Refuted-clause-grows c =
    if_ok c.settle.result _ _ c.settle.ensures.longer (λ turn goes. on_longer c.args.self.now c.settle.new.self (lines_at c.refute.new.self (ends.Closed c.in_ok-conflict-in-Refuted.conflict)) turn (omega (arith, c.in_ok-conflict-in-Refuted.ensures.longer)) goes)

pub returns-in-Unsolvable-clause-turns : goal.returns-in-Unsolvable-clause-turns
returns-in-Unsolvable-clause-turns c =
    let old = c.args.self.now in
    let tells = subst (Tells old) c.in-Unsolvable.is c.in_ok-numbers.ensures in
    if_ok c.settle-in-Unsolvable.result _ _ c.settle-in-Unsolvable.ensures.settles
    (λ turn settles s rounds searches few.
    let is = subst (λ (ns : List ℕ). IsUnsolvable (clauses_of old) old.derivation.nodes (branch_of old.trail) ns c.in-Unsolvable.facts.items tells.0) (sym c.deref-in-Unsolvable.ensures.value) tells.1 in
    let finishes : Finishes s rounds c.solve.new.self c.in_ok-conflict-in-Unsolvable.conflict = c.in_ok-conflict-in-Unsolvable.ensures.solves s rounds tells.0 searches is tells.2 in
    let still_few : length c.solve.new.self.closed.items < c.args.steps = omega (arith, ap length c.solve.ensures.closed, few) in
    settles s rounds finishes still_few)

pub returns-in-Unsolvable-clause-grows : goal.returns-in-Unsolvable-clause-grows
returns-in-Unsolvable-clause-grows c =
    if_ok c.settle-in-Unsolvable.result _ _ c.settle-in-Unsolvable.ensures.longer (λ turn goes. on_longer c.args.self.now c.settle-in-Unsolvable.new.self (lines_at c.solve.new.self (ends.Closed c.in_ok-conflict-in-Unsolvable.conflict)) turn (omega (arith, c.in_ok-conflict-in-Unsolvable.ensures.longer)) goes)

pub returns-in-Incongruent-clause-turns : goal.returns-in-Incongruent-clause-turns
returns-in-Incongruent-clause-turns c =
    let old = c.args.self.now in
    let is = subst (Tells old) c.in-Incongruent.is c.in_ok-numbers.ensures in
    if_ok c.settle-in-Incongruent.result _ _ c.settle-in-Incongruent.ensures.settles
    (λ turn settles s rounds searches few.
    let there = subst (λ (ns : List ℕ). IsIncongruent (clauses_of old) old.derivation.nodes (branch_of old.trail) ns c.in-Incongruent.facts.items c.in-Incongruent.reason) (sym c.deref-in-Incongruent.ensures.value) is in
    let still_few : length c.contradict.new.self.closed.items < c.args.steps = omega (arith, ap length c.contradict.ensures.closed, few) in
    settles s rounds (c.in_ok-conflict-in-Incongruent.ensures.contradicts s rounds c.in-Incongruent.facts.items searches there) still_few)

pub returns-in-Incongruent-clause-grows : goal.returns-in-Incongruent-clause-grows
returns-in-Incongruent-clause-grows c =
    if_ok c.settle-in-Incongruent.result _ _ c.settle-in-Incongruent.ensures.longer (λ turn goes. on_longer c.args.self.now c.settle-in-Incongruent.new.self (lines_at c.contradict.new.self (ends.Closed c.in_ok-conflict-in-Incongruent.conflict)) turn (omega (arith, c.in_ok-conflict-in-Incongruent.ensures.longer)) goes)

-- ---- a literal is decided, or the search ends

pub returns-in-Open-clause-turns : goal.returns-in-Open-clause-turns
returns-in-Open-clause-turns c = λ s rounds searches few.
    (record { all = searches.all; is = open_decides s rounds searches.all c.args.self.now searches.is c.in-Open.literal (subst (Tells c.args.self.now) c.in-Open.is c.in_ok-numbers.ensures) c.decide.new.self c.in_ok-decide-in-Open.ensures.decides }, few)

pub split-requires : goal.split-requires
split-requires c = let is = subst (Tells c.args.self.now) c.in-Between.is c.in_ok-numbers.ensures in is.of_number

pub equate-requires-clause-left : goal.equate-requires-clause-left
equate-requires-clause-left c = let is = subst (Tells c.args.self.now) c.in-Apart.is c.in_ok-numbers.ensures in is.left_number

pub equate-requires-clause-right : goal.equate-requires-clause-right
equate-requires-clause-right c = let is = subst (Tells c.args.self.now) c.in-Apart.is c.in_ok-numbers.ensures in is.right_number

pub returns-in-Modelled-clause-turns : goal.returns-in-Modelled-clause-turns
returns-in-Modelled-clause-turns c = λ s rounds searches few. modelled s rounds searches.all c.args.self.now searches.is c.in-Modelled.table (subst (Tells c.args.self.now) c.in-Modelled.is c.in_ok-numbers.ensures)

-- ---- a number is too wide, or there are too many rows

pub settle-requires-in-Wide : goal.settle-requires-in-Wide
settle-requires-in-Wide c = record { place = c.requires.place; places = c.requires.places }

pub settle-requires-in-Many : goal.settle-requires-in-Many
settle-requires-in-Many c = record { place = c.requires.place; places = c.requires.places }

pub returns-in-Wide-clause-turns : goal.returns-in-Wide-clause-turns
returns-in-Wide-clause-turns c =
    let wide = subst (Tells c.args.self.now) c.in-Wide.is c.in_ok-numbers.ensures in
    if_ok c.settle-in-Wide.result _ _ c.settle-in-Wide.ensures.settles (λ turn settles s rounds searches few. settles s rounds (searches, wide) few)

pub returns-in-Wide-clause-grows : goal.returns-in-Wide-clause-grows
returns-in-Wide-clause-grows c =
    if_ok c.settle-in-Wide.result _ _ c.settle-in-Wide.ensures.longer (λ turn goes. on_longer c.args.self.now c.settle-in-Wide.new.self (lines_at c.args.self.now ends.Wide) turn (omega arith) goes)

pub returns-clause-turns : goal.returns-clause-turns
returns-clause-turns c =
    let many = subst (Tells c.args.self.now) c.in-Many.is c.in_ok-numbers.ensures in
    if_ok c.settle-in-Many.result _ _ c.settle-in-Many.ensures.settles (λ turn settles s rounds searches few. settles s rounds (searches, many) few)

pub returns-clause-grows : goal.returns-clause-grows
returns-clause-grows c =
    if_ok c.settle-in-Many.result _ _ c.settle-in-Many.ensures.longer (λ turn goes. on_longer c.args.self.now c.settle-in-Many.new.self (lines_at c.args.self.now (ends.Many c.in-Many.count)) turn (omega arith) goes)
