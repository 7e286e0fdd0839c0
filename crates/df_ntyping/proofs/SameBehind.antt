-- Behind a statement the table, the types of locals, the results and the loop around it are the same, and the next number
-- is as many more as it declares locals.
use Rattle.std.proofs.Common.{◌≡◌, ◌+◌, List, [], ◌∷◌, length, refl, subst, sym, arith}
use Rattle.df_lang.specs.Program.{Program}
use Rattle.df_ntree.specs.declared.file.Local as declared_local
use Rattle.df_ntree.specs.File.{Statement, Var}
use Rattle.df_ntyping.specs.Table.{Table}
use Rattle.df_ntyping.specs.Environment.{Environment, Variable_role, declare, declare_variables, behind, locals_in}
use Rattle.df_ntyping.proofs.KnownTypes.{TableHolds}

-- but for the locals in scope
pub record IsSame (env other : Environment) : Type 0 where
  pub table : other.table ≡ env.table
  pub types : other.types ≡ env.types
  pub results : other.results ≡ env.results
  pub in_loop : other.in_loop ≡ env.in_loop

pub variables_same : (env : Environment) (locals : List declared_local.Local) → IsSame env (declare_variables env locals)
variables_same env [] = record { table = refl; types = refl; results = refl; in_loop = refl }
variables_same env (local ∷ others) =
    let rest = variables_same (declare env Variable_role local.name.name) others in
    record { table = rest.table; types = rest.types; results = rest.results; in_loop = rest.in_loop }

pub variables_next : (env : Environment) (locals : List declared_local.Local) → (declare_variables env locals).next ≡ env.next + length locals
variables_next env [] = omega arith
variables_next env (local ∷ others) = omega (arith, variables_next (declare env Variable_role local.name.name) others)

pub same_behind : (env : Environment) (s : Statement) → IsSame env (behind env s)
same_behind env (Var pos locals values) = variables_same env locals
same_behind env s = record { table = refl; types = refl; results = refl; in_loop = refl }

pub next_behind : (env : Environment) (s : Statement) → (behind env s).next ≡ env.next + locals_in s
next_behind env (Var pos locals values) = variables_next env locals
next_behind env s = refl

pub table_behind : (program : Program) (env : Environment) (s : Statement) → TableHolds program env.table → TableHolds program (behind env s).table
table_behind program env s t = subst (λ (table : Table). TableHolds program table) (sym (same_behind env s).table) t
