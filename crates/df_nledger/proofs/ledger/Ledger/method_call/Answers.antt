use Rattle.df_nledger.proofs.Words.{◌≡◌, ℕ, List, ◌++◌, map, length, sym, ap, ◌∙◌, subst, method_of, param_of, types_of, call_of, clause_of, DeclaredClause, AreLocals, trees_at, path_in, grows_then, all_same, locals_stay, measured_in, IsCallee, AreClauses, Ledger, ledger_of, way_of, saying, with_fresh, setting_of, over, any_values, assert_clauses, assert_decrease, assume_clauses, env_of}
use Rattle.df_lang.specs.declared.decl.Param.{Param as DeclaredParam}
use Rattle.df_meaning.specs.declared.kind.Kind.TheVariants as kinds
use Rattle.df_nledger.proofs.Sources.{asked_over, callee_stays, ensured_over, both_are, method_said}
use Rattle.df_nledger.proofs.Claims.{way_same}
use Rattle.df_nledger.proofs.Growing.{measured_same}
use Rattle.df_nledger.proofs.ledger.Ledger.method_call.Goals as goal

pub assert_clauses-requires : goal.assert_clauses-requires
assert_clauses-requires c =
    subst (λ (ns : List ℕ). AreClauses c.args.self.now.nodes ns (map clause_of c.deref-2.result.now)) (sym c.deref.ensures.value)
    (subst (λ (cs : List DeclaredClause). AreClauses c.args.self.now.nodes c.args.arguments.items (map clause_of cs)) (sym c.deref-2.ensures.value)
    (asked_over c.args.self.now.nodes (method_of c.args.method.now) c.args.arguments.items c.requires.callee))

pub assert_decrease-requires-clause-callee : goal.assert_decrease-requires-clause-callee
assert_decrease-requires-clause-callee c =
    subst (λ (ns : List ℕ). IsCallee c.assert_clauses.new.self.nodes (method_of c.args.method.now) ns) (sym c.deref-3.ensures.value)
    (callee_stays c.args.self.now.nodes (method_of c.args.method.now) c.args.arguments.items c.requires.callee c.assert_clauses.new.self.nodes c.assert_clauses.ensures.grows)

pub assume_clauses-requires : goal.assume_clauses-requires
assume_clauses-requires c =
    let old = c.args.self.now.nodes in
    let now = c.any_values.new.self.nodes in
    let grows = grows_then old c.assert_decrease.new.self.nodes now (grows_then old c.assert_clauses.new.self.nodes c.assert_decrease.new.self.nodes c.assert_clauses.ensures.grows c.assert_decrease.ensures.grows) c.any_values.ensures.grows in
    let items : c.extend_from_slice.new.self.items ≡ c.args.arguments.items ++ c.in_ok-results.results.items = c.in_ok-extend_from_slice.ensures.items ∙ ap (λ (ns : List ℕ). c.args.arguments.items ++ ns) c.deref-5.ensures.value in
    let are = subst (λ (ps : List DeclaredParam). AreLocals now (types_of (map param_of ps)) c.in_ok-results.results.items) c.deref-4.ensures.value c.in_ok-results.ensures.given.locals in
    subst (λ (ns : List ℕ). AreClauses now ns (map clause_of c.deref-7.result.now)) (sym c.deref-6.ensures.value)
    (subst (λ (cs : List DeclaredClause). AreClauses now c.extend_from_slice.new.self.items (map clause_of cs)) (sym c.deref-7.ensures.value)
    (ensured_over old (method_of c.args.method.now) c.args.arguments.items c.requires.callee now c.in_ok-results.results.items c.extend_from_slice.new.self.items grows items are))

pub returns-clause-given : goal.returns-clause-given
returns-clause-given c =
    let self = c.args.self.now in
    let old = self.nodes in
    let m = method_of c.args.method.now in
    let call = call_of c.args.call.now in
    let args = c.args.arguments.items in
    let second = c.assert_clauses.new.self in
    let third = c.assert_decrease.new.self in
    let fourth = c.any_values.new.self in
    let setting = setting_of c.args.setting.now (measured_in old c.args.entry.now) in
    let way = way_of self args in
    let d1 = c.deref.ensures.value in
    let d2 = c.deref-2.ensures.value in
    let d3 = c.deref-3.ensures.value in
    let d4 = c.deref-4.ensures.value in
    let d6 = c.deref-6.ensures.value in
    let d7 = c.deref-7.ensures.value in
    let s1 : ledger_of second ≡ saying (assert_clauses (λ clause. call.pos) kinds.Requires way m.preconditions) (ledger_of self) =
    c.in_ok-assert_clauses.ensures.ledger ∙ (λ i. saying (assert_clauses (λ clause. call.pos) kinds.Requires (way_of self (d1 i)) (map clause_of (d2 i))) (ledger_of self)) in
    let p1 = ap (λ (l : Ledger). l.path) s1 in
    let w1 : way_of second args ≡ way = way_same old args second.nodes (types_of m.parameters) _ _ c.assert_clauses.ensures.grows c.requires.callee.locals p1 in
    let e1 = measured_same old second.nodes c.assert_clauses.ensures.grows c.args.entry.now c.requires.entry in
    let s2 : ledger_of third ≡ saying (assert_decrease setting call m way) (ledger_of second) =
    c.in_ok-assert_decrease.ensures.ledger ∙ (λ i. saying (assert_decrease (setting_of c.args.setting.now (measured_in second.nodes c.args.entry.now)) call m (way_of second (d3 i))) (ledger_of second))
    ∙ (λ i. saying (assert_decrease (setting_of c.args.setting.now (e1 i)) call m (w1 i)) (ledger_of second)) in
    let p2 = ap (λ (l : Ledger). l.path) s2 ∙ p1 in
    let f2 = ap (λ (l : Ledger). l.fresh) s2 ∙ ap (λ (l : Ledger). l.fresh) s1 in
    let results = any_values way.path m.results (length self.frees.items) in
    let r2 : any_values (path_in third.nodes third.path) (map param_of c.deref-4.result.now) (length third.frees.items) ≡ results = (λ i. any_values (p2 i) (map param_of (d4 i)) (f2 i)) in
    let given = c.in_ok-results.ensures.given in
    let s3 : ledger_of fourth ≡ with_fresh results.said results.fresh (ledger_of third) = given.ledger ∙ (λ i. with_fresh (r2 i).said (r2 i).fresh (ledger_of third)) in
    let p3 = ap (λ (l : Ledger). l.path) s3 ∙ p2 in
    let grows = grows_then old third.nodes fourth.nodes (grows_then old second.nodes third.nodes c.assert_clauses.ensures.grows c.assert_decrease.ensures.grows) c.any_values.ensures.grows in
    let items : c.extend_from_slice.new.self.items ≡ args ++ c.in_ok-results.results.items = c.in_ok-extend_from_slice.ensures.items ∙ ap (λ (ns : List ℕ). args ++ ns) c.deref-5.ensures.value in
    let terms : trees_at fourth.nodes c.in_ok-results.results.items ≡ results.terms = given.terms_are ∙ (λ i. (r2 i).terms) in
    let trees = both_are old m args c.requires.callee fourth.nodes c.in_ok-results.results.items c.extend_from_slice.new.self.items results.terms grows items terms in
    let s4 : ledger_of c.assume_clauses.new.self ≡ saying (assume_clauses (over (env_of (trees_at old args ++ results.terms)) way) m.postconditions) (ledger_of fourth) =
    c.in_ok-assume_clauses.ensures.ledger ∙ (λ i. saying (assume_clauses (way_of fourth (d6 i)) (map clause_of (d7 i))) (ledger_of fourth))
    ∙ (λ i. saying (assume_clauses (record { env = env_of (trees i); path = p3 i }) m.postconditions) (ledger_of fourth)) in
    let are = subst (λ (ps : List DeclaredParam). AreLocals fourth.nodes (types_of (map param_of ps)) c.in_ok-results.results.items) d4 given.locals in
    record {
      ledger = method_said (ledger_of self) (ledger_of second) (ledger_of third) (ledger_of fourth) (ledger_of c.assume_clauses.new.self) _ _ _ results s1 s2 s3 s4;
      terms_are = all_same fourth.nodes c.assume_clauses.new.self.nodes c.in_ok-results.results.items c.assume_clauses.ensures.grows are.below ∙ terms;
      locals = locals_stay fourth.nodes c.assume_clauses.new.self.nodes (types_of m.results) c.in_ok-results.results.items c.assume_clauses.ensures.grows are;
      many = given.many ∙ ap (λ (ps : List DeclaredParam). length (types_of (map param_of ps))) d4;
    }

-- ---- on every way out

pub returns-in_err-assert_decrease-clause-grows : goal.returns-in_err-assert_decrease-clause-grows
returns-in_err-assert_decrease-clause-grows c = grows_then _ _ _ c.assert_clauses.ensures.grows c.assert_decrease.ensures.grows

pub returns-in_err-results-clause-grows : goal.returns-in_err-results-clause-grows
returns-in_err-results-clause-grows c = grows_then _ _ _ (grows_then _ _ _ c.assert_clauses.ensures.grows c.assert_decrease.ensures.grows) c.any_values.ensures.grows

pub returns-in_err-extend_from_slice-clause-grows : goal.returns-in_err-extend_from_slice-clause-grows
returns-in_err-extend_from_slice-clause-grows c = grows_then _ _ _ (grows_then _ _ _ c.assert_clauses.ensures.grows c.assert_decrease.ensures.grows) c.any_values.ensures.grows

pub returns-in_err-assume_clauses-clause-grows : goal.returns-in_err-assume_clauses-clause-grows
returns-in_err-assume_clauses-clause-grows c = grows_then _ _ _ (grows_then _ _ _ (grows_then _ _ _ c.assert_clauses.ensures.grows c.assert_decrease.ensures.grows) c.any_values.ensures.grows) c.assume_clauses.ensures.grows

pub returns-clause-grows : goal.returns-clause-grows
returns-clause-grows c = grows_then _ _ _ (grows_then _ _ _ (grows_then _ _ _ c.assert_clauses.ensures.grows c.assert_decrease.ensures.grows) c.any_values.ensures.grows) c.assume_clauses.ensures.grows
