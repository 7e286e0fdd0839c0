use Rattle.std.proofs.Common.{◌≡◌, ℕ, true, List, length, sym, ap, ◌∙◌, subst}
use Rattle.df_form.specs.declared.log.Lit.{Lit}
use Rattle.df_rules.specs.Propagation.{left, is_empty}
use Rattle.df_rules.proofs.Results.{if_ok}
use Rattle.df_closure.specs.Closure.{Taught, IsRefuted, after}
use Rattle.df_closure.specs.declared.closure.Closure.TheVariants as closures
use Rattle.df_trail.specs.Trail.{branch_of, HasAll}
use Rattle.df_trail.proofs.Held.{all_self}
use Rattle.df_search.specs.Places.{AreWithin}
use Rattle.df_search.specs.Searching.{clauses_of}
use Rattle.df_search.proofs.Lines.{as_long, closed_within, refuted_within}
use Rattle.df_search.proofs.Refuting.{lent_closes}
use Rattle.df_search.proofs.searching.State.refute_by.Goals as goal

-- ---- the clauses refute what is needed

pub refute_list-requires : goal.refute_list-requires
refute_list-requires c =
    let old = c.args.self.now in
    let is = lent_closes c.deref.result.now old.clauses.items c.deref-2.result.now c.in_ok-needed.needed.items c.in_ok-fewer.field-0 (closures.Refuted c.in-Refuted.fewer) c.in_ok-fewer.ensures c.deref.ensures.value c.deref-2.ensures.value c.in-Refuted.is in
    subst (AreWithin (length old.places.items)) (sym c.deref-in-Refuted.ensures.value) (refuted_within (clauses_of old) old.places.items c.in_ok-needed.needed.items c.in-Refuted.fewer.items (as_long old.clauses.items old.places.items c.requires.places) is)

pub returns-in-Refuted-clause-refutes : goal.returns-in-Refuted-clause-refutes
returns-in-Refuted-clause-refutes c =
    let old = c.args.self.now in
    let refuted = lent_closes c.deref.result.now old.clauses.items c.deref-2.result.now c.in_ok-needed.needed.items c.in_ok-fewer.field-0 (closures.Refuted c.in-Refuted.fewer) c.in_ok-fewer.ensures c.deref.ensures.value c.deref-2.ensures.value c.in-Refuted.is in
    let here = subst (λ (ns : List ℕ). IsRefuted (clauses_of old) c.in_ok-needed.needed.items ns) (sym c.deref-in-Refuted.ensures.value) refuted in
    if_ok c.refute_list.result _ _ c.refute_list.ensures.refutes (λ conflict refutes s rounds all learned is shut closed there empty. refutes s rounds all is shut c.in_ok-needed.ensures here)

-- ---- what is needed gives that the clause is false

pub refute_list_by-requires : goal.refute_list_by-requires
refute_list_by-requires c =
    let old = c.args.self.now in
    let is = lent_closes c.deref.result.now old.clauses.items c.deref-2.result.now c.in_ok-needed.needed.items c.in_ok-fewer.field-0 (closures.Closed c.in-Closed.known c.in-Closed.learned c.in-Closed.fewer) c.in_ok-fewer.ensures c.deref.ensures.value c.deref-2.ensures.value c.in-Closed.is in
    subst (AreWithin (length old.places.items)) (sym c.deref-then-refutes.ensures.value)
    (closed_within (clauses_of old) old.places.items c.in_ok-needed.needed.items c.in-Closed.fewer.items c.in-Closed.learned.items (as_long old.clauses.items old.places.items c.requires.places) is.0)

pub returns-then-refutes-clause-refutes : goal.returns-then-refutes-clause-refutes
returns-then-refutes-clause-refutes c =
    let old = c.args.self.now in
    let list = c.in_ok-needed.needed.items in
    let learned = c.in-Closed.learned.items in
    let is = lent_closes c.deref.result.now old.clauses.items c.deref-2.result.now list c.in_ok-fewer.field-0 (closures.Closed c.in-Closed.known c.in-Closed.learned c.in-Closed.fewer) c.in_ok-fewer.ensures c.deref.ensures.value c.deref-2.ensures.value c.in-Closed.is in
    let taught = subst (λ (ns : List ℕ). Taught (clauses_of old) list ns learned) (sym c.deref-then-refutes.ensures.value) is.0.taught in
    let none : is_empty (left (after list learned) c.args.clause.now) ≡ true = sym (c.if-refutes.ensures (after list learned) is.1) in
    if_ok c.refute_list_by.result _ _ c.refute_list_by.ensures.refutes
    (λ conflict refutes s rounds all own is_searching shut closed there empty. refutes s rounds all learned c.args.clause.now is_searching shut c.in_ok-needed.ensures taught there none)

-- ---- the whole branch does

pub returns-in_ok-branch-in-Closed-clause-refutes : goal.returns-in_ok-branch-in-Closed-clause-refutes
returns-in_ok-branch-in-Closed-clause-refutes c =
    let old = c.args.self.now in
    let branch = branch_of old.trail in
    let same = c.in_ok-branch-in-Closed.ensures in
    let held = subst (HasAll branch) (sym same) (all_self branch) in
    if_ok c.refute_list_by-in-Closed.result _ _ c.refute_list_by-in-Closed.ensures.refutes
    (λ conflict refutes s rounds all learned is shut closed there empty.
    refutes s rounds all learned c.args.clause.now is shut held (subst (λ (ls : List Lit). Taught (clauses_of old) ls c.args.reasons.now learned) (sym same) closed.taught) there
    (ap (λ (ls : List Lit). is_empty (left (after ls learned) c.args.clause.now)) same ∙ empty))
