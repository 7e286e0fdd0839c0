use Rattle.df_nlocals.proofs.Words.{◌≡◌, ◌++◌, map, drop, variable_of, variable_numbers}
use Rattle.df_nlocals.proofs.changed.in_variables.Given as goal

-- the numbers so far, in front of those of what is left, are those of all
abbrev pub invariant-loop-variable : goal.invariant-loop-variable
invariant-loop-variable l = l.declared.items ++ variable_numbers (map variable_of (drop l.variable-index l.variables)) ≡ l.fn.declared.items ++ variable_numbers (map variable_of l.variables)
