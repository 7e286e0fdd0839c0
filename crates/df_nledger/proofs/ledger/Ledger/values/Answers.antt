use Rattle.df_nledger.proofs.Words.{◌≡◌, ◌<◌, ℕ, ◌+◌, List, ◌∷◌, ◌++◌, map, drop, length, refl, sym, ap, ◌∙◌, subst, arith, AllByRecursion, append-nil, drop_all, length-map, expr_of, DeclaredExpr, tree_at, trees_at, trees_in, grows_not, grows_then, locals_same, drop_next, Term, term_of, AreValues, ledger_of, way_of, saying, assert_expr, assert_exprs, Way}
use Rattle.df_nledger.proofs.Claims.{way_same}
use Rattle.df_nledger.proofs.Sayings.{say_next, say_last, same_path}
use Rattle.df_nledger.proofs.Values.{value_over, values_rest, values_are, trees_next, below_next}
use Rattle.df_nledger.proofs.ledger.Ledger.values.Goals as goal

pub loop-expr-init : goal.loop-expr-init
loop-expr-init c = record {
  grows = grows_not c.args.self.now.nodes;
  over = c.requires;
  said = refl;
  values = ap (λ ns. trees_at c.args.self.now.nodes ns ++ map (term_of (trees_in c.args.self.now.nodes c.args.terms.now)) (map expr_of c.args.exprs.now)) c.new-values.ensures.items;
  below = subst (λ (ns : List ℕ). AllByRecursion (λ n. n < length c.args.self.now.nodes) ns) (sym c.new-values.ensures.items) tt;
}

pub value-requires : goal.value-requires
value-requires c =
    let l = c.loop-expr in
    let xs = c.args.exprs.now in
    let x = c.expr-item.result in
    let is : map expr_of (drop l.expr-index xs) ≡ expr_of x ∷ map expr_of (drop (l.expr-index + 1) xs) = ap (map expr_of) (drop_next xs l.expr-index x c.expr-item.is c.loop-expr-test.true) in
    (value_over l.self.nodes c.args.terms.now (expr_of x) (map expr_of (drop (l.expr-index + 1) xs)) (subst (AreValues l.self.nodes c.args.terms.now) is l.invariant.over)).1.over

pub loop-expr-preserved : goal.loop-expr-preserved
loop-expr-preserved c =
    let l = c.loop-expr in
    let xs = c.args.exprs.now in
    let x = c.expr-item.result in
    let old = c.args.self.now.nodes in
    let next = drop (l.expr-index + 1) xs in
    let is : map expr_of (drop l.expr-index xs) ≡ expr_of x ∷ map expr_of next = ap (map expr_of) (drop_next xs l.expr-index x c.expr-item.is c.loop-expr-test.true) in
    let way = way_of c.args.self.now c.args.terms.now in
    let ways : way_of l.self c.args.terms.now ≡ way = way_same old c.args.terms.now l.self.nodes c.requires.types _ _ l.invariant.grows c.requires.locals (same_path (ledger_of c.args.self.now) (ledger_of l.self) _ _ l.invariant.said) in
    let env = locals_same old l.self.nodes c.requires.types c.args.terms.now l.invariant.grows c.requires.locals in
    record {
      grows = grows_then old l.self.nodes c.value.new.self.nodes l.invariant.grows c.value.ensures.grows;
      over = values_rest l.self.nodes c.args.terms.now c.value.new.self.nodes (expr_of x) (map expr_of next) c.value.ensures.grows (subst (AreValues l.self.nodes c.args.terms.now) is l.invariant.over);
      said = say_next (ledger_of c.args.self.now) (ledger_of l.self) (ledger_of c.value.new.self) _ (assert_expr way (expr_of x)) (assert_exprs way (map expr_of next))
          (ap (λ zs. saying (assert_exprs way zs) (ledger_of l.self)) (sym is) ∙ l.invariant.said) (c.in_ok-value.ensures.ledger ∙ ap (λ (w : Way). saying (assert_expr w (expr_of x)) (ledger_of l.self)) ways);
      values = trees_next l.self.nodes c.value.new.self.nodes l.values.items c.push.new.self.items c.in_ok-value.value c.value.ensures.grows l.invariant.below c.in_ok-push.ensures.items (term_of (trees_in old c.args.terms.now) (expr_of x)) (map (term_of (trees_in old c.args.terms.now)) (map expr_of next)) _
          (c.in_ok-value.ensures.stands.tree_is ∙ (λ i. term_of (env i) (expr_of x)))
          (ap (λ zs. trees_at l.self.nodes l.values.items ++ map (term_of (trees_in old c.args.terms.now)) zs) (sym is) ∙ l.invariant.values);
      below = below_next l.self.nodes c.value.new.self.nodes l.values.items c.push.new.self.items c.in_ok-value.value c.value.ensures.grows l.invariant.below c.in_ok-push.ensures.items c.in_ok-value.ensures.stands.below;
    }

pub returns-clause-ledger : goal.returns-clause-ledger
returns-clause-ledger c =
    let l = c.loop-expr in
    say_last (ledger_of c.args.self.now) (ledger_of l.self) _
    (ap (λ (es : List DeclaredExpr). saying (assert_exprs (way_of c.args.self.now c.args.terms.now) (map expr_of es)) (ledger_of l.self)) (sym (drop_all l.expr-index c.args.exprs.now c.loop-expr-test.false)) ∙ l.invariant.said)

pub returns-clause-values : goal.returns-clause-values
returns-clause-values c =
    let l = c.loop-expr in
    sym (append-nil (trees_at l.self.nodes l.values.items))
    ∙ ap (λ (es : List DeclaredExpr). trees_at l.self.nodes l.values.items ++ map (term_of (trees_in c.args.self.now.nodes c.args.terms.now)) (map expr_of es)) (sym (drop_all l.expr-index c.args.exprs.now c.loop-expr-test.false)) ∙ l.invariant.values

pub returns-clause-locals : goal.returns-clause-locals
returns-clause-locals c = λ program all tys h typed.
    let l = c.loop-expr in
    values_are c.args.self.now.nodes c.args.terms.now l.self.nodes program all tys (map expr_of c.args.exprs.now) l.values.items h typed
    (sym (append-nil (trees_at l.self.nodes l.values.items))
    ∙ ap (λ (es : List DeclaredExpr). trees_at l.self.nodes l.values.items ++ map (term_of (trees_in c.args.self.now.nodes c.args.terms.now)) (map expr_of es)) (sym (drop_all l.expr-index c.args.exprs.now c.loop-expr-test.false)) ∙ l.invariant.values)
    l.invariant.below

pub returns-clause-many : goal.returns-clause-many
returns-clause-many c =
    let l = c.loop-expr in
    let e : trees_at l.self.nodes l.values.items ≡ map (term_of (trees_in c.args.self.now.nodes c.args.terms.now)) (map expr_of c.args.exprs.now) = sym (append-nil (trees_at l.self.nodes l.values.items))
    ∙ ap (λ (es : List DeclaredExpr). trees_at l.self.nodes l.values.items ++ map (term_of (trees_in c.args.self.now.nodes c.args.terms.now)) (map expr_of es)) (sym (drop_all l.expr-index c.args.exprs.now c.loop-expr-test.false)) ∙ l.invariant.values in
    omega (arith, ap (λ (ts : List Term). length ts) e, length-map l.values.items (tree_at l.self.nodes), length-map (map expr_of c.args.exprs.now) (term_of (trees_in c.args.self.now.nodes c.args.terms.now)), length-map c.args.exprs.now expr_of)

-- ---- on every way out

pub returns-in_err-value-clause-grows : goal.returns-in_err-value-clause-grows
returns-in_err-value-clause-grows c = grows_then _ _ _ c.loop-expr.invariant.grows c.value.ensures.grows

pub returns-in_err-push-clause-grows : goal.returns-in_err-push-clause-grows
returns-in_err-push-clause-grows c = grows_then _ _ _ c.loop-expr.invariant.grows c.value.ensures.grows
