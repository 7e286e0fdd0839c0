use Rattle.df_nledger.proofs.Words.{◌≡◌, ◌<◌, ℕ, ◌+◌, List, [], ◌∷◌, ◌++◌, map, drop, length, refl, sym, ap, ◌∙◌, subst, AllByRecursion, append-nil, drop_all, param_of, Param, path_in, trees_at, grows_not, grows_then, drop_next, free_of, any_values, Ledger, ledger_of, with_fresh}
use Rattle.df_nledger.proofs.Values.{with_last, any_next, any_rest, any_are, any_many, trees_next, below_next}
use Rattle.df_nledger.proofs.ledger.Ledger.any_values.Goals as goal

pub loop-param-init : goal.loop-param-init
loop-param-init c = record {
  grows = grows_not c.args.self.now.nodes;
  ledger = refl;
  terms = ap (λ (ns : List ℕ). trees_at c.args.self.now.nodes ns ++ (any_values (path_in c.args.self.now.nodes c.args.self.now.path) (map param_of c.args.params.now) (length c.args.self.now.frees.items)).terms) c.new-terms.ensures.items;
  below = subst (λ (ns : List ℕ). AllByRecursion (λ n. n < length c.args.self.now.nodes) ns) (sym c.new-terms.ensures.items) tt;
}

pub loop-param-preserved : goal.loop-param-preserved
loop-param-preserved c =
    let l = c.loop-param in
    let xs = c.args.params.now in
    let x = c.param-item.result in
    let next = map param_of (drop (l.param-index + 1) xs) in
    let is : map param_of (drop l.param-index xs) ≡ param_of x ∷ next = ap (map param_of) (drop_next xs l.param-index x c.param-item.is c.loop-param-test.true) in
    let path = path_in c.args.self.now.nodes c.args.self.now.path in
    let same = ap (λ (m : Ledger). m.path) l.invariant.ledger in
    let whole = any_values path (map param_of xs) (length c.args.self.now.frees.items) in
    record {
      grows = grows_then c.args.self.now.nodes l.self.nodes c.any.new.self.nodes l.invariant.grows c.any.ensures.grows;
      ledger = any_next path (param_of x) next (ledger_of c.args.self.now) (ledger_of l.self) (ledger_of c.any.new.self) whole same c.in_ok-term.ensures.ledger
          (ap (λ (ps : List Param). with_fresh (any_values path ps (length l.self.frees.items)).said (any_values path ps (length l.self.frees.items)).fresh (ledger_of l.self)) (sym is) ∙ l.invariant.ledger);
      terms = ap (λ ts. trees_at c.any.new.self.nodes c.push.new.self.items ++ ts) (sym (any_rest path (param_of x) next (ledger_of c.args.self.now) (ledger_of l.self) (ledger_of c.any.new.self) whole same c.in_ok-term.ensures.ledger))
          ∙ trees_next l.self.nodes c.any.new.self.nodes l.terms.items c.push.new.self.items c.in_ok-term.term c.any.ensures.grows l.invariant.below c.in_ok-push.ensures.items (free_of (length l.self.frees.items) x.ty) _ whole.terms c.in_ok-term.ensures.stands.tree_is
          (ap (λ (ps : List Param). trees_at l.self.nodes l.terms.items ++ (any_values path ps (length l.self.frees.items)).terms) (sym is) ∙ l.invariant.terms);
      below = below_next l.self.nodes c.any.new.self.nodes l.terms.items c.push.new.self.items c.in_ok-term.term c.any.ensures.grows l.invariant.below c.in_ok-push.ensures.items c.in_ok-term.ensures.stands.below;
    }

pub returns-clause-given : goal.returns-clause-given
returns-clause-given c =
    let l = c.loop-param in
    let xs = c.args.params.now in
    let path = path_in c.args.self.now.nodes c.args.self.now.path in
    let whole = any_values path (map param_of xs) (length c.args.self.now.frees.items) in
    let none : [] ≡ map param_of (drop l.param-index xs) = ap (map param_of) (sym (drop_all l.param-index xs c.loop-param-test.false)) in
    let terms : trees_at l.self.nodes l.terms.items ≡ whole.terms = sym (append-nil (trees_at l.self.nodes l.terms.items)) ∙ ap (λ (ps : List Param). trees_at l.self.nodes l.terms.items ++ (any_values path ps (length l.self.frees.items)).terms) none ∙ l.invariant.terms in
    record {
      ledger = with_last (ledger_of c.args.self.now) (ledger_of l.self) whole.said whole.fresh (ap (λ (ps : List Param). with_fresh (any_values path ps (length l.self.frees.items)).said (any_values path ps (length l.self.frees.items)).fresh (ledger_of l.self)) none ∙ l.invariant.ledger);
      terms_are = terms;
      locals = any_are l.self.nodes path (map param_of xs) (length c.args.self.now.frees.items) l.terms.items terms l.invariant.below;
      many = any_many l.self.nodes path (map param_of xs) (length c.args.self.now.frees.items) l.terms.items terms;
    }

-- ---- on every way out

pub returns-in_err-term-clause-grows : goal.returns-in_err-term-clause-grows
returns-in_err-term-clause-grows c = grows_then _ _ _ c.loop-param.invariant.grows c.any.ensures.grows

pub returns-in_err-push-clause-grows : goal.returns-in_err-push-clause-grows
returns-in_err-push-clause-grows c = grows_then _ _ _ c.loop-param.invariant.grows c.any.ensures.grows
