use Rattle.df_nlocals.proofs.Words.{◌≡◌, ◌++◌, map, drop, variable_of, variable_types}
use Rattle.df_nlocals.proofs.method.after_variables.Given as goal

-- the types so far, in front of those of what is left, are those of all
abbrev pub invariant-loop-variable : goal.invariant-loop-variable
invariant-loop-variable l = l.types.items ++ variable_types (map variable_of (drop l.variable-index l.variables)) ≡ l.fn.types.items ++ variable_types (map variable_of l.variables)
