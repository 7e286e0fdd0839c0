use Rattle.df_nlocals.proofs.Words.{◌≡◌, ◌++◌, map, drop, variable_of, changed_by_variables, changed_in}
use Rattle.df_nlocals.proofs.changed.by_variables.Given as goal

-- the locals so far, in front of those of what is left, are those of all
abbrev pub invariant-loop-variable : goal.invariant-loop-variable
invariant-loop-variable l = changed_in l.changed.items ++ changed_by_variables (map variable_of (drop l.variable-index l.variables)) ≡ changed_in l.fn.changed.items ++ changed_by_variables (map variable_of l.variables)
