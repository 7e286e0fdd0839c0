use Rattle.df_nflow.proofs.Words.{◌≡◌, true, drop, stmts_in, branches_in, Stmts, program_of, Grows, Way, pass_all, pass_branches, standing_of, are_branches_over, are_over, AreArrived, all_ended_in, changed_in, setting_of}
use Rattle.df_nflow.proofs.Going.{Parting, Going}
use Rattle.df_nflow.proofs.passed.Passed.+stmt.Given as goal

-- what goes on with the branches that are left goes on with all
abbrev pub invariant-branches-loop-branch : goal.invariant-branches-loop-branch
invariant-branches-loop-branch l = record {
  grows : Grows l.fn.self.ledger.nodes l.self.ledger.nodes;
  types : l.self.types.items ≡ l.fn.self.types.items;
  entry : (standing_of l.self).entry ≡ (standing_of l.fn.self).entry;
  over : are_branches_over (program_of l.setting.program.now) l.fn.self.types.items (branches_in (drop l.branch-index l.branch-items)) ≡ true;
  arrived : AreArrived l.self.ledger.nodes l.self.types.items l.parted.arrived.items;
  parting : (otherwise : Stmts) → Parting (changed_in l.exits.in_loop.now) (changed_in l.exits.in_method.now) (changed_in l.changed) (standing_of l.fn.self)
      (pass_branches (setting_of l.setting (standing_of l.fn.self).entry) (standing_of l.fn.self).way (branches_in l.branch-items) (λ (last : Way). pass_all (setting_of l.setting (standing_of l.fn.self).entry) last otherwise) (standing_of l.fn.self).fresh)
      (standing_of l.self)
      (pass_branches (setting_of l.setting (standing_of l.fn.self).entry) (standing_of l.self).way (branches_in (drop l.branch-index l.branch-items)) (λ (last : Way). pass_all (setting_of l.setting (standing_of l.fn.self).entry) last otherwise) (standing_of l.self).fresh)
      (all_ended_in l.self.ledger.nodes l.parted.arrived.items) l.parted.loses;
}

-- what goes on with the statements that are left goes on with all
abbrev pub invariant-stmts-loop-stmt : goal.invariant-stmts-loop-stmt
invariant-stmts-loop-stmt l = record {
  grows : Grows l.fn.self.ledger.nodes l.self.ledger.nodes;
  types : l.self.types.items ≡ l.fn.self.types.items;
  entry : (standing_of l.self).entry ≡ (standing_of l.fn.self).entry;
  over : are_over (program_of l.setting.program.now) l.fn.self.types.items (stmts_in (drop l.stmt-index l.stmt-items)) ≡ true;
  going : Going (changed_in l.exits.in_loop.now) (changed_in l.exits.in_method.now) (standing_of l.fn.self)
      (pass_all (setting_of l.setting (standing_of l.fn.self).entry) (standing_of l.fn.self).way (stmts_in l.stmt-items) (standing_of l.fn.self).fresh)
      (standing_of l.self) (pass_all (setting_of l.setting (standing_of l.fn.self).entry) (standing_of l.self).way (stmts_in (drop l.stmt-index l.stmt-items)) (standing_of l.self).fresh) l.loses;
}
