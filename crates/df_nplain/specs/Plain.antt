-- Methods and programs as contracts see them.
use Rattle.std.specs.Prelude.{ℕ, List, slice_get, Option, length}
use Rattle.df_nplain.specs.Kind.{Kind}
use Rattle.df_nplain.specs.Stmt.{Stmts}
use Rattle.std.specs.Option.{option_map_or}

-- a method: its qualified name, the kinds of its parameters and results, its body
pub record Method : Type 0 where
  pub text : List ℕ
  pub parameters : List Kind
  pub results : List Kind
  pub body : Stmts

pub record Plain : Type 0 where
  pub methods : List Method

-- the method of a number
abbrev pub method_at : Plain → ℕ → Option Method
method_at program number = slice_get program.methods number

-- how many results the method of a number has
abbrev pub results_at : Plain → ℕ → ℕ
results_at program number = option_map_or (λ (m : Method). length m.results) (method_at program number) 0
