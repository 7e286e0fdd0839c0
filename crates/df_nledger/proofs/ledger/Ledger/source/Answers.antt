use Rattle.df_nledger.proofs.Words.{◌≡◌, true, ℕ, List, [], ◌∷◌, ◌++◌, map, length, refl, sym, ap, ◌∙◌, subst, arith, and_parts, length-map, Ty, expr_of, Source, Single, Results, Conversion, call_of, conversion_of, source_of, are_results, source_types, program_of, DeclaredConversion, AreLocals, trees_at, is_term, all_same, locals_stay, part, measured_in, Term, sort_of_type, AreConverted, Gives, is_call_over, is_source_over, Ledger, ledger_of, way_of, saying, setting_of, assert_conversions, pass_call, pass_source, grows_then}
use Rattle.df_nledger.proofs.Sources.{results_are, results_convert, converted_locals, conversions_same, converted_said}
use Rattle.df_nledger.proofs.Values.{no_locals, locals_cons}
use Rattle.df_nledger.proofs.ledger.Ledger.source.Goals as goal

pub assert_conversions-requires : goal.assert_conversions-requires
assert_conversions-requires c =
    let program = program_of c.args.setting.now.program.now in
    let call = call_of c.in-Call.call in
    let cs = map conversion_of c.in-Call.results.items in
    let is : source_of c.args.source.now ≡ Results call cs = ap source_of c.in-Call.is in
    let first = (and_parts (is_source_over program c.requires.source.types (source_of c.args.source.now)) true c.requires.source.typed).0 in
    let typed : is_source_over program c.requires.source.types (Results call cs) ≡ true = sym (ap (is_source_over program c.requires.source.types) is) ∙ first in
    let results = (and_parts (is_call_over program c.requires.source.types call) (are_results program call cs) typed).1 in
    let given = c.in_ok-given-in-Call.ensures.given in
    let from : AreConverted c.call.new.self.nodes cs c.in_ok-given-in-Call.given.items = subst (λ (tys : List Ty). AreLocals c.call.new.self.nodes tys c.in_ok-given-in-Call.given.items) (results_are program call cs results) given.locals in
    subst (λ (ns : List ℕ). AreConverted c.call.new.self.nodes (map conversion_of c.deref.result.now) ns) (sym c.deref-in-Call.ensures.value)
    (subst (λ (ds : List DeclaredConversion). AreConverted c.call.new.self.nodes (map conversion_of ds) c.in_ok-given-in-Call.given.items) (sym c.deref.ensures.value) from)

pub returns-in_ok-push-in-Value-clause-given : goal.returns-in_ok-push-in-Value-clause-given
returns-in_ok-push-in-Value-clause-given c =
    let self = c.args.self.now in
    let new = c.value.new.self in
    let program = program_of c.args.setting.now.program.now in
    let ty = c.in-Value.ty in
    let e = expr_of c.in-Value.value in
    let is : source_of c.args.source.now ≡ Single ty e = ap source_of c.in-Value.is in
    let first = (and_parts (is_source_over program c.requires.source.types (source_of c.args.source.now)) true c.requires.source.typed).0 in
    let typed : is_source_over program c.requires.source.types (Single ty e) ≡ true = sym (ap (is_source_over program c.requires.source.types) is) ∙ first in
    let one = part program c.requires.source.types ty (sort_of_type ty) self.nodes c.args.terms.now e typed refl c.requires.source.locals in
    let items : c.push.new.self.items ≡ c.in_ok-value-in-Value.value ∷ [] = c.in_ok-push-in-Value.ensures.items ∙ ap (λ (ns : List ℕ). ns ++ c.in_ok-value-in-Value.value ∷ []) c.new-given.ensures.items in
    let tree = c.in_ok-value-in-Value.ensures.stands.tree_is in
    subst (λ (s : Source). Gives (pass_source (setting_of c.args.setting.now (measured_in self.nodes c.args.entry.now)) s (way_of self c.args.terms.now) (length self.frees.items)) (source_types s) self new c.push.new.self.items) (sym is)
    (record {
      ledger = c.in_ok-value-in-Value.ensures.ledger;
      terms_are = ap (trees_at new.nodes) items ∙ (λ i. tree i ∷ []);
      locals = subst (λ (ns : List ℕ). AreLocals new.nodes (ty ∷ []) ns) (sym items) (locals_cons new.nodes ty c.in_ok-value-in-Value.value [] [] (is_term new.nodes (sort_of_type ty) _ c.in_ok-value-in-Value.value c.in_ok-value-in-Value.ensures.stands one.is) (no_locals new.nodes));
      many = ap (λ (ns : List ℕ). length ns) items;
    })

pub returns-in_ok-assert_conversions-in-Call-clause-given : goal.returns-in_ok-assert_conversions-in-Call-clause-given
returns-in_ok-assert_conversions-in-Call-clause-given c =
    let program = program_of c.args.setting.now.program.now in
    let call = call_of c.in-Call.call in
    let cs = map conversion_of c.in-Call.results.items in
    let is : source_of c.args.source.now ≡ Results call cs = ap source_of c.in-Call.is in
    let first = (and_parts (is_source_over program c.requires.source.types (source_of c.args.source.now)) true c.requires.source.typed).0 in
    let typed : is_source_over program c.requires.source.types (Results call cs) ≡ true = sym (ap (is_source_over program c.requires.source.types) is) ∙ first in
    let results = (and_parts (is_call_over program c.requires.source.types call) (are_results program call cs) typed).1 in
    let given = c.in_ok-given-in-Call.ensures.given in
    let from : AreConverted c.call.new.self.nodes cs c.in_ok-given-in-Call.given.items = subst (λ (tys : List Ty). AreLocals c.call.new.self.nodes tys c.in_ok-given-in-Call.given.items) (results_are program call cs results) given.locals in
    let self = c.args.self.now in
    let mid = c.call.new.self in
    let new = c.assert_conversions.new.self in
    let items = c.in_ok-given-in-Call.given.items in
    let setting = setting_of c.args.setting.now (measured_in self.nodes c.args.entry.now) in
    let way = way_of self c.args.terms.now in
    let one = pass_call setting call way (length self.frees.items) in
    let path = ap (λ (l : Ledger). l.path) given.ledger in
    let d = c.deref.ensures.value in
    let dt = c.deref-in-Call.ensures.value in
    let said = assert_conversions call.pos way cs one.terms in
    let step : ledger_of new ≡ saying said (ledger_of mid) =
    c.in_ok-assert_conversions-in-Call.ensures.ledger ∙ (λ i. saying (assert_conversions call.pos (way_of mid []) (map conversion_of (d i)) (trees_at mid.nodes (dt i))) (ledger_of mid))
    ∙ ap (λ (ts : List Term). saying (assert_conversions call.pos (way_of mid []) cs ts) (ledger_of mid)) given.terms_are
    ∙ ap (λ s. saying s (ledger_of mid)) (conversions_same call.pos (way_of mid []) way cs one.terms path) in
    subst (λ (s : Source). Gives (pass_source setting s way (length self.frees.items)) (source_types s) self new items) (sym is)
    (record {
      ledger = converted_said (ledger_of self) (ledger_of mid) (ledger_of new) one said given.ledger step;
      terms_are = all_same mid.nodes new.nodes items c.assert_conversions.ensures.grows given.locals.below ∙ given.terms_are;
      locals = locals_stay mid.nodes new.nodes (map (λ (x : Conversion). x.target) cs) items c.assert_conversions.ensures.grows (converted_locals mid.nodes program cs items (results_convert program call cs results) from);
      many = omega (arith, given.many, ap (λ (tys : List Ty). length tys) (results_are program call cs results), length-map cs (λ (x : Conversion). x.source), length-map cs (λ (x : Conversion). x.target));
    })

-- ---- on every way out

pub returns-in_err-assert_conversions-in-Call-clause-grows : goal.returns-in_err-assert_conversions-in-Call-clause-grows
returns-in_err-assert_conversions-in-Call-clause-grows c = grows_then _ _ _ c.call.ensures.grows c.assert_conversions.ensures.grows

pub returns-in_ok-assert_conversions-in-Call-clause-grows : goal.returns-in_ok-assert_conversions-in-Call-clause-grows
returns-in_ok-assert_conversions-in-Call-clause-grows c = grows_then _ _ _ c.call.ensures.grows c.assert_conversions.ensures.grows
