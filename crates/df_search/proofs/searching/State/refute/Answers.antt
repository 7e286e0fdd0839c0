use Rattle.std.proofs.Common.{ℕ, List, length, sym, subst}
use Rattle.df_form.specs.declared.log.Lit.{Lit}
use Rattle.df_rules.proofs.Results.{if_ok}
use Rattle.df_closure.specs.Closure.{IsRefuted}
use Rattle.df_closure.specs.declared.closure.Closure.TheVariants as closures
use Rattle.df_trail.specs.Trail.{branch_of, HasAll}
use Rattle.df_trail.proofs.Held.{all_self}
use Rattle.df_branch.specs.Evidence.{by_clauses}
use Rattle.df_search.specs.Places.{AreWithin}
use Rattle.df_search.specs.Searching.{clauses_of}
use Rattle.df_search.proofs.Lines.{as_long, refuted_within}
use Rattle.df_search.proofs.Refuting.{lent_closes}
use Rattle.df_search.proofs.searching.State.refute.Goals as goal

-- ---- what is needed is refuted alone

pub refute_list-requires : goal.refute_list-requires
refute_list-requires c =
    let old = c.args.self.now in
    let is = lent_closes c.deref.result.now old.clauses.items c.deref-2.result.now c.in_ok-needed.needed.items c.in_ok-fewer.field-0 (closures.Refuted c.in-Refuted.fewer) c.in_ok-fewer.ensures c.deref.ensures.value c.deref-2.ensures.value c.in-Refuted.is in
    subst (AreWithin (length old.places.items)) (sym c.deref-in-Refuted.ensures.value) (refuted_within (clauses_of old) old.places.items c.in_ok-needed.needed.items c.in-Refuted.fewer.items (as_long old.clauses.items old.places.items c.requires.places) is)

pub returns-in-Refuted-clause-refutes : goal.returns-in-Refuted-clause-refutes
returns-in-Refuted-clause-refutes c =
    let old = c.args.self.now in
    let refuted = lent_closes c.deref.result.now old.clauses.items c.deref-2.result.now c.in_ok-needed.needed.items c.in_ok-fewer.field-0 (closures.Refuted c.in-Refuted.fewer) c.in_ok-fewer.ensures c.deref.ensures.value c.deref-2.ensures.value c.in-Refuted.is in
    let here = subst (λ (ns : List ℕ). IsRefuted (clauses_of old) c.in_ok-needed.needed.items ns) (sym c.deref-in-Refuted.ensures.value) refuted in
    if_ok c.refute_list.result _ _ c.refute_list.ensures.refutes
    (λ conflict refutes s rounds searches is. record { front = searches.all; is = refutes s rounds searches.all searches.is (by_clauses c.args.numbers.now is) c.in_ok-needed.ensures here })

-- ---- the whole branch is

pub returns-in_ok-branch-in-Closed-clause-refutes : goal.returns-in_ok-branch-in-Closed-clause-refutes
returns-in_ok-branch-in-Closed-clause-refutes c =
    let old = c.args.self.now in
    let branch = branch_of old.trail in
    let held = subst (HasAll branch) (sym c.in_ok-branch-in-Closed.ensures) (all_self branch) in
    if_ok c.refute_list-in-Closed.result _ _ c.refute_list-in-Closed.ensures.refutes
    (λ conflict refutes s rounds searches is. record {
      front = searches.all;
      is = refutes s rounds searches.all searches.is (by_clauses c.args.numbers.now is) held (subst (λ (ls : List Lit). IsRefuted (clauses_of old) ls c.args.numbers.now) (sym c.in_ok-branch-in-Closed.ensures) is);
    })
