use Rattle.df_nledger.proofs.Words.{◌≡◌, true, false, [], List, map, length, Some, sym, ap, ◌∙◌, subst, arith, length-map, option_map, option_map_or, method_of, expr_of, Param, Method, method_at, types_of, call_of, are_exprs, program_of, DeclaredExpr, trees_at, if_ok, measured_in, term_of, Ledger, ledger_of, way_of, saying, with_fresh, setting_of, assert_exprs, given_behind, pass_method_call, grows_then}
use Rattle.df_meaning.proofs.Wholes.{method_typed}
use Rattle.df_nledger.proofs.Sources.{gives_same, exprs_many, called}
use Rattle.df_nledger.proofs.Growing.{measured_same}
use Rattle.df_nledger.proofs.ledger.Ledger.call.Goals as goal

pub method_call-requires-clause-callee : goal.method_call-requires-clause-callee
method_call-requires-clause-callee c =
    let program = program_of c.args.setting.now.program.now in
    let m = method_of c.in-Some.method.now in
    let at : method_at program c.args.call.now.callee ≡ Some m = sym c.method.ensures ∙ ap (option_map (λ found. method_of found.now)) c.in-Some.is in
    let typed : are_exprs program c.requires.call.types (types_of m.parameters) (map expr_of c.args.call.now.arguments.items) ≡ true =
    subst (λ o. option_map_or (λ (method : Method). are_exprs program c.requires.call.types (types_of method.parameters) (map expr_of c.args.call.now.arguments.items)) o false ≡ true) at c.requires.call.typed in
    let seen = subst (λ (es : List DeclaredExpr). are_exprs program c.requires.call.types (types_of m.parameters) (map expr_of es) ≡ true) (sym c.deref.ensures.value) typed in
    record {
      program = program;
      typed = method_typed program c.args.call.now.callee m c.args.setting.now.program.now.is_well_typed at;
      locals = c.in_ok-arguments.ensures.locals program c.requires.call.types (types_of m.parameters) c.requires.call.locals seen;
      many = omega (arith, c.in_ok-arguments.ensures.many, exprs_many program c.requires.call.types (types_of m.parameters) (map expr_of c.deref.result.now) seen, length-map c.deref.result.now expr_of, length-map m.parameters (λ (p : Param). p.ty));
    }

pub returns-in-Some-clause-given : goal.returns-in-Some-clause-given
returns-in-Some-clause-given c =
    let program = program_of c.args.setting.now.program.now in
    let self = c.args.self.now in
    let now = c.values.new.self in
    let m = method_of c.in-Some.method.now in
    let call = call_of c.args.call.now in
    let at : method_at program c.args.call.now.callee ≡ Some m = sym c.method.ensures ∙ ap (option_map (λ found. method_of found.now)) c.in-Some.is in
    let setting = setting_of c.args.setting.now (measured_in self.nodes c.args.entry.now) in
    let way = way_of self c.args.terms.now in
    let d = c.deref.ensures.value in
    let asked = assert_exprs way call.arguments in
    let s1 : ledger_of now ≡ saying asked (ledger_of self) = c.in_ok-arguments.ensures.ledger ∙ (λ i. saying (assert_exprs way (map expr_of (d i))) (ledger_of self)) in
    let trees : trees_at now.nodes c.in_ok-arguments.arguments.items ≡ map (term_of way.env) call.arguments = c.in_ok-arguments.ensures.values ∙ (λ i. map (term_of way.env) (map expr_of (d i))) in
    let path = ap (λ (l : Ledger). l.path) s1 in
    let fresh = ap (λ (l : Ledger). l.fresh) s1 in
    let entry = measured_same self.nodes now.nodes c.values.ensures.grows c.args.entry.now c.requires.entry in
    let inside = pass_method_call setting call m (map (term_of way.env) call.arguments) way (length self.frees.items) in
    let same : pass_method_call (setting_of c.args.setting.now (measured_in now.nodes c.args.entry.now)) call m (trees_at now.nodes c.in_ok-arguments.arguments.items) (way_of now []) (length now.frees.items) ≡ inside =
    (λ i. pass_method_call (setting_of c.args.setting.now (entry i)) call m (trees i) (record { env = way.env; path = path i }) (fresh i)) in
    if_ok c.method_call.result _ _ c.method_call.ensures.given (λ given g. gives_same (given_behind asked inside) _ (types_of m.results) _ self c.method_call.new.self given.items
    (ap (λ o. given_behind asked (option_map_or (λ (method : Method). pass_method_call setting call method (map (term_of way.env) call.arguments) way (length self.frees.items)) o (record { said = []; fresh = length self.frees.items; terms = [] }))) (sym at))
    (ap (λ o. option_map_or (λ (method : Method). types_of method.results) o []) (sym at))
    (record {
      ledger = called (ledger_of self) (ledger_of now) (ledger_of c.method_call.new.self) asked inside s1 (g.ledger ∙ (λ i. with_fresh (same i).said (same i).fresh (ledger_of now)));
      terms_are = g.terms_are ∙ (λ i. (same i).terms);
      locals = g.locals;
      many = g.many;
    }))

-- ---- on every way out

pub returns-in-Some-clause-grows : goal.returns-in-Some-clause-grows
returns-in-Some-clause-grows c = grows_then _ _ _ c.values.ensures.grows c.method_call.ensures.grows
