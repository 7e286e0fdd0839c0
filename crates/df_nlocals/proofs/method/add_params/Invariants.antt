use Rattle.df_nlocals.proofs.Words.{◌≡◌, ◌++◌, map, drop, length, param_of, locals_from, changed_in}
use Rattle.df_nlocals.proofs.method.add_params.Given as goal

-- the locals so far, in front of those of what is left, are those of all
abbrev pub invariant-loop-param : goal.invariant-loop-param
invariant-loop-param l = changed_in l.exits.items ++ locals_from (length l.exits.items) (map param_of (drop l.param-index l.params)) ≡ changed_in l.fn.exits.items ++ locals_from (length l.fn.exits.items) (map param_of l.params)
