use Rattle.df_nlocals.proofs.Words.{◌≡◌, ◌++◌, map, drop, param_of, types_of}
use Rattle.df_nlocals.proofs.method.after_params.Given as goal

-- the types so far, in front of those of what is left, are those of all
abbrev pub invariant-loop-param : goal.invariant-loop-param
invariant-loop-param l = l.types.items ++ types_of (map param_of (drop l.param-index l.params)) ≡ l.fn.types.items ++ types_of (map param_of l.params)
