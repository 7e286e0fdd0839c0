use Rattle.std.proofs.Common.{◌≡◌, take, map}
use Rattle.df_lang.specs.Stmt.{Target}
use Rattle.df_lang.specs.StmtView.{target_of}
use Rattle.df_nerase.proofs.eraser.Eraser.update.Given as goal

abbrev pub invariant-loop-target : goal.invariant-loop-target
invariant-loop-target l = l.targets.items ≡ map (λ (target : Target). target.local) (map target_of (take l.target-index l.update.targets.items))
