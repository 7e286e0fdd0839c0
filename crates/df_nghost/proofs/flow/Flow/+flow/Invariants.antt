use Rattle.std.proofs.Common.{◌≡◌, drop}
use Rattle.df_lang.specs.DeclView.{method_of}
use Rattle.df_nghost.specs.mirror.Parts.{stmts_in, branches_in}
use Rattle.df_nghost.specs.mirror.Known.{assigned_of, Extends, IsBack}
use Rattle.df_nghost.specs.mirror.Way.{known, ways_of, go_all, go_branches}
use Rattle.df_nghost.proofs.flow.Flow.+flow.Given as goal

-- the way so far and through what is left is the way through all
abbrev pub invariant-stmts-loop-stmt : goal.invariant-stmts-loop-stmt
invariant-stmts-loop-stmt l = record {
  known : go_all (method_of l.method) (known l.self) (stmts_in (drop l.stmt-index l.stmt-items)) ≡ go_all (method_of l.method) (known l.fn.self) (stmts_in l.stmt-items);
  extends : Extends l.fn.self.assigned l.self.assigned;
}

abbrev pub invariant-branches-loop-branch : goal.invariant-branches-loop-branch
invariant-branches-loop-branch l = record {
  ways : go_branches (method_of l.method) (assigned_of l.fn.self.assigned) (ways_of l.fn.self.assigned l.join l.self.first) (branches_in (drop l.branch-index l.branch-items))
      ≡ go_branches (method_of l.method) (assigned_of l.fn.self.assigned) (ways_of l.fn.self.assigned l.fn.join l.fn.self.first) (branches_in l.branch-items);
  back : IsBack l.fn.self.assigned l.self.assigned;
}
