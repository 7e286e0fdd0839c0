use Rattle.df_nflow.proofs.Words.{◌≡◌, ◌++◌, List, drop, option_map, AllByRecursion, IsTerm, trees_at, Term, Truths, paths_in, ArePaths, arrivals_in}
use Rattle.df_nflow.proofs.join.any_path.Given as goal

-- the paths so far, in front of those that are left, are all
abbrev pub invariant-loop-way : goal.invariant-loop-way
invariant-loop-way l = record {
  are : ArePaths l.ledger.nodes (drop l.way-index l.arrived);
  formulas : AllByRecursion (IsTerm Truths l.ledger.nodes) l.paths.items;
  paths : option_map (λ (more : List Term). trees_at l.ledger.nodes l.paths.items ++ more) (paths_in (arrivals_in l.ledger.nodes (drop l.way-index l.arrived))) ≡ paths_in (arrivals_in l.ledger.nodes l.arrived);
}
