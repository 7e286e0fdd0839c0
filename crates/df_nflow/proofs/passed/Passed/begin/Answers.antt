use Rattle.df_nflow.proofs.Words.{ℕ, List, map, sym, ap, ◌∙◌, subst, method_of, param_of, clause_of, Ty, method_measure, DeclaredClause, trees_in, grows_then, locals_same, IsMethodOver, measured, require_all, assert_measure, AreClauses, HaveTerms, AreKept, AreArrived, all_kept_in, arrivals_in}
use Rattle.df_nledger.specs.Ledger.{saying}
use Rattle.df_nflow.proofs.Entering.{ledger_in, enters, requires_over, measures_over}
use Rattle.df_nflow.proofs.Terms.{locals_are, terms_stay}
use Rattle.df_nflow.proofs.passed.Passed.begin.Goals as goal

pub require_all-requires : goal.require_all-requires
require_all-requires c =
    let m = method_of c.args.method.now in
    let in_place = enters m c.new-ledger.result c.any_values.new.self (map param_of c.deref.result.now) c.new-ledger.ensures (ap (map param_of) c.deref.ensures.value) c.in_ok-terms.terms.items c.in_ok-terms.ensures.given
    c.unset.new.self.nodes c.unset.new.terms.items c.deref-2.result.now (c.deref-2.ensures.value ∙ c.in_ok-types.ensures) c.in_ok-unset.ensures.terms c.in_ok-unset.ensures.below in
    subst (λ (ns : List ℕ). AreClauses c.unset.new.self.nodes ns (map clause_of c.deref-4.result.now)) (sym c.deref-3.ensures.value)
    (subst (λ (cs : List DeclaredClause). AreClauses c.unset.new.self.nodes c.unset.new.terms.items (map clause_of cs)) (sym c.deref-4.ensures.value)
    (requires_over m c.unset.new.self.nodes c.unset.new.terms.items in_place.terms_are c.requires))

pub method_measure-requires : goal.method_measure-requires
method_measure-requires c =
    let m = method_of c.args.method.now in
    let in_place = enters m c.new-ledger.result c.any_values.new.self (map param_of c.deref.result.now) c.new-ledger.ensures (ap (map param_of) c.deref.ensures.value) c.in_ok-terms.terms.items c.in_ok-terms.ensures.given
    c.unset.new.self.nodes c.unset.new.terms.items c.deref-2.result.now (c.deref-2.ensures.value ∙ c.in_ok-types.ensures) c.in_ok-unset.ensures.terms c.in_ok-unset.ensures.below in
    subst (λ (ns : List ℕ). IsMethodOver c.require_all.new.self.nodes ns m) (sym c.deref-5.ensures.value)
    (measures_over m c.require_all.new.self.nodes c.unset.new.terms.items (terms_stay c.unset.new.self.nodes c.require_all.new.self.nodes _ c.unset.new.terms.items c.require_all.ensures.grows in_place.terms_are) c.requires)

pub invariant_of-result : goal.invariant_of-result
invariant_of-result c =
    let m = method_of c.args.method.now in
    let now = c.method_measure.new.self.nodes in
    let in_place = enters m c.new-ledger.result c.any_values.new.self (map param_of c.deref.result.now) c.new-ledger.ensures (ap (map param_of) c.deref.ensures.value) c.in_ok-terms.terms.items c.in_ok-terms.ensures.given
    c.unset.new.self.nodes c.unset.new.terms.items c.deref-2.result.now (c.deref-2.ensures.value ∙ c.in_ok-types.ensures) c.in_ok-unset.ensures.terms c.in_ok-unset.ensures.below in
    let grows = grows_then c.unset.new.self.nodes c.require_all.new.self.nodes now c.require_all.ensures.grows c.method_measure.ensures.grows in
    record {
      is_passed = record {
        have_terms = subst (λ (tys : List Ty). HaveTerms now tys c.unset.new.terms.items) (sym c.in_ok-types.ensures) (terms_stay c.unset.new.self.nodes now _ c.unset.new.terms.items grows in_place.terms_are);
        are_measured = c.in_ok-entry.ensures.are;
        are_kept = subst (AreKept now c.in_ok-types.types.items) (sym c.new.ensures.items) tt;
        are_breaks = subst (AreArrived now c.in_ok-types.types.items) (sym c.new-2.ensures.items) tt;
        are_returns = subst (AreArrived now c.in_ok-types.types.items) (sym c.new-3.ensures.items) tt;
      };
    }

pub returns : goal.returns
returns c =
    let m = method_of c.args.method.now in
    let l2 = c.unset.new.self in
    let l3 = c.require_all.new.self in
    let l4 = c.method_measure.new.self in
    let terms = c.unset.new.terms.items in
    let mm = method_measure m in
    let params = ap (map param_of) c.deref.ensures.value in
    let types = c.in_ok-types.ensures in
    let in_place = enters m c.new-ledger.result c.any_values.new.self (map param_of c.deref.result.now) c.new-ledger.ensures params c.in_ok-terms.terms.items c.in_ok-terms.ensures.given l2.nodes terms c.deref-2.result.now (c.deref-2.ensures.value ∙ types) c.in_ok-unset.ensures.terms c.in_ok-unset.ensures.below in
    let locals = locals_are l2.nodes _ terms in_place.terms_are in
    let ledger2 = c.in_ok-unset.ensures.ledger ∙ ledger_in m c.new-ledger.result c.any_values.new.self (map param_of c.deref.result.now) c.new-ledger.ensures params c.in_ok-terms.terms.items c.in_ok-terms.ensures.given in
    let env2 = ap (trees_in l2.nodes) c.deref-3.ensures.value ∙ in_place.env in
    let clauses = c.deref-4.ensures.value in
    let ledger3 = c.in_ok-require_all.ensures.ledger ∙ (λ i. saying (require_all (record { env = env2 i; path = (ledger2 i).path }) (map clause_of (clauses i))) (ledger2 i)) in
    let env3 = locals_same l2.nodes l3.nodes _ terms c.require_all.ensures.grows locals ∙ in_place.env in
    let there3 = ap (trees_in l3.nodes) c.deref-5.ensures.value ∙ env3 in
    let ledger4 = c.in_ok-entry.ensures.ledger ∙ (λ i. saying (assert_measure (record { env = there3 i; path = (ledger3 i).path }) mm) (ledger3 i)) in
    let env4 = locals_same l2.nodes l4.nodes _ terms (grows_then l2.nodes l3.nodes l4.nodes c.require_all.ensures.grows c.method_measure.ensures.grows) locals ∙ in_place.env in
    let entry = c.in_ok-entry.ensures.measured ∙ (λ i. measured (there3 i) mm) in
    let trail = ap (all_kept_in l4.nodes) c.new.ensures.items in
    let breaks = ap (arrivals_in l4.nodes) c.new-2.ensures.items in
    let outs = ap (arrivals_in l4.nodes) c.new-3.ensures.items in
    λ i. record { types = types i; entry = entry i; said = (ledger4 i).said; fresh = (ledger4 i).fresh; way = record { env = env4 i; path = (ledger4 i).path }; trail = trail i; breaks = breaks i; returns = outs i }
