use Rattle.df_nledger.proofs.Words.{◌≡◌, true, [], List, ◌++◌, if◌then◌else◌, sym, ap, ◌∙◌, method_of, method_measure, measured_in, DeclaredMeasured, measured, are_below, Ledger, ledger_of, way_of, saying, assert, assert_measure, setting_of, grows_then}
use Rattle.df_meaning.specs.declared.kind.Kind.TheVariants as kinds
use Rattle.df_nledger.proofs.Growing.{measured_same}
use Rattle.df_nledger.proofs.Sayings.{say_both}
use Rattle.df_nledger.proofs.ledger.Ledger.assert_decrease.Goals as goal

pub returns-in_ok-assert_below-clause-ledger : goal.returns-in_ok-assert_below-clause-ledger
returns-in_ok-assert_below-clause-ledger c =
    let old = ledger_of c.args.self.now in
    let way = way_of c.args.self.now c.args.arguments.now in
    let measure = method_measure (method_of c.args.method.now) in
    let mid = c.method_measure.new.self in
    let first = c.in_ok-now.ensures.ledger in
    let path = ap (λ (l : Ledger). l.path) first in
    let now = ap (λ (ms : List DeclaredMeasured). measured_in mid.nodes ms) c.deref.ensures.value ∙ c.in_ok-now.ensures.measured in
    let entry = measured_same c.args.self.now.nodes mid.nodes c.method_measure.ensures.grows c.args.entry.now c.requires.entry in
    let second = assert way.path c.args.call.now.pos kinds.Decreases (are_below (measured way.env measure) (measured_in c.args.self.now.nodes c.args.entry.now)) in
    let inside : (setting_of c.args.setting.now (measured_in c.args.self.now.nodes c.args.entry.now)).in_group c.args.call.now.callee ≡ true = sym c.is_inside.ensures ∙ c.if-is_inside.true in
    c.in_ok-assert_below.ensures.ledger ∙ (λ i. saying (assert (path i) c.args.call.now.pos kinds.Decreases (are_below (now i) (entry i))) (first i))
    ∙ say_both (assert_measure way measure) second old
    ∙ ap (λ b. saying (if b then assert_measure way measure ++ second else []) old) (sym inside)

-- ---- on every way out

pub returns-in_err-assert_below-clause-grows : goal.returns-in_err-assert_below-clause-grows
returns-in_err-assert_below-clause-grows c = grows_then _ _ _ c.method_measure.ensures.grows c.assert_below.ensures.grows

pub returns-in_ok-assert_below-clause-grows : goal.returns-in_ok-assert_below-clause-grows
returns-in_ok-assert_below-clause-grows c = grows_then _ _ _ c.method_measure.ensures.grows c.assert_below.ensures.grows
