use Rattle.df_nflow.proofs.Words.{◌≡◌, ◌+◌, ◌∷◌, [], ◌++◌, None, Option, option_map, map-append, drop, drop_next, all_joined, ap, ◌∙◌, tree_at, trees_at, path_in, paths_in, arrivals_in, any_path, ArePaths, Term, DeclaredArrived, is_term, Truths, ℕ, List, sym, subst, AllByRecursion, IsTerm, ledger_stays, ledger_keeps, disjunction_is, grows_not}
use Rattle.std.specs.Prelude.{IfSome}
use Rattle.df_npass.specs.Rules.{either_path}
use Rattle.df_nflow.proofs.Gathering.{path_gathered}
use Rattle.df_nflow.proofs.join.any_path.Goals as goal

pub invariant_of-ledger : goal.invariant_of-ledger
invariant_of-ledger c = let l = c.args.ledger.now in record { is_ledger = ledger_stays l.nodes c.one_of.new.nodes c.one_of.ensures.grows l.path l.said.items l.is_ledger }

pub returns-clause-ledger : goal.returns-clause-ledger
returns-clause-ledger c = let l = c.args.ledger.now in ledger_keeps l.nodes c.one_of.new.nodes l.said.items l.frees.items l.path c.one_of.ensures.grows l.is_ledger

pub returns-clause-is_path : goal.returns-clause-is_path
returns-clause-is_path c =
    let l = c.args.ledger.now in
    is_term c.one_of.new.nodes Truths _ c.in_ok-one_of.field-0 c.in_ok-one_of.ensures.stands
    (disjunction_is l.nodes c.deref.result.now (subst (λ (ns : List ℕ). AllByRecursion (IsTerm Truths l.nodes) ns) (sym c.deref.ensures.value) c.loop-way.invariant.formulas))

pub loop-way-preserved : goal.loop-way-preserved
loop-way-preserved c =
    let l = c.loop-way in
    let nodes = c.args.ledger.now.nodes in
    let items = c.args.arrived.now in
    let x = c.way-item.result in
    let i = l.way-index in
    let path = c.in-Some.path in
    let cut = drop_next items i x c.way-item.is c.loop-way-test.true in
    let are = subst (ArePaths nodes) cut l.invariant.are in
    let formula = subst (λ (o : Option ℕ). IfSome o (IsTerm Truths nodes)) c.in-Some.is are.0 in
    record {
      are = are.1;
      formulas = subst (AllByRecursion (IsTerm Truths nodes)) (sym c.in_ok-push-in-Some.ensures.items) (all_joined (IsTerm Truths nodes) l.paths.items (path ∷ []) l.invariant.formulas (formula, tt));
      paths = path_gathered (trees_at nodes l.paths.items) (trees_at nodes c.push.new.self.items) (tree_at nodes path) (path_in nodes x.path) (paths_in (arrivals_in nodes (drop i items))) (paths_in (arrivals_in nodes (drop (i + 1) items))) _
          (ap (trees_at nodes) c.in_ok-push-in-Some.ensures.items ∙ map-append (tree_at nodes) l.paths.items (path ∷ [])) (ap (path_in nodes) c.in-Some.is) (ap (λ (ways : List DeclaredArrived). paths_in (arrivals_in nodes ways)) cut) l.invariant.paths;
    }

pub returns-in-None-clause-path : goal.returns-in-None-clause-path
returns-in-None-clause-path c =
    let l = c.loop-way in
    let nodes = c.args.ledger.now.nodes in
    let items = c.args.arrived.now in
    let rest = paths_in (arrivals_in nodes (drop (l.way-index + 1) items)) in
    let none : paths_in (arrivals_in nodes (drop l.way-index items)) ≡ None =
    ap (λ (ways : List DeclaredArrived). paths_in (arrivals_in nodes ways)) (drop_next items l.way-index c.way-item.result c.way-item.is c.loop-way-test.true) ∙ ap (λ (o : Option ℕ). either_path (path_in nodes o) rest) c.in-None.is in
    ap any_path (sym (ap (option_map (λ (more : List Term). trees_at nodes l.paths.items ++ more)) none) ∙ l.invariant.paths)

-- ---- on every way out

pub returns-in_err-push-in-Some-clause-grows : goal.returns-in_err-push-in-Some-clause-grows
returns-in_err-push-in-Some-clause-grows c = grows_not c.args.ledger.now.nodes

pub returns-in-None-clause-grows : goal.returns-in-None-clause-grows
returns-in-None-clause-grows c = grows_not c.args.ledger.now.nodes
