-- Where a walk goes on behind blocks.
use Rattle.std.proofs.Common.{◌≡◌, ℕ, ◌+◌, List, [], ◌∷◌, ◌++◌, length, take, drop, refl, ap, ◌∙◌, arith}
use Rattle.df_ntree.specs.declared.file.Local as declared_local
use Rattle.df_ntree.specs.File.{Statement, Var, Statements, done, next}
use Rattle.df_ntyping.specs.Environment.{Local, Environment, Variable_role, enter, past, declare, declare_variables, behind, locals_in_all}
use Rattle.df_ntyping.proofs.SameBehind.{IsSame, same_behind, next_behind}
use Rattle.df_nenv.specs.Environments.{left}
use Rattle.df_ninfer.specs.Behind.{behind_all}

-- ---- numbers

renumbered : (env : Environment) (n m : ℕ) → n ≡ m → ◌≡◌ {A = Environment} (record env { next = n }) (record env { next = m })
renumbered env n m p = ap (λ (k : ℕ). record env { next = k }) p

pub past_none : (env : Environment) → past env 0 ≡ env
past_none env = let same : env.next + 0 ≡ env.next = omega arith in renumbered env (env.next + 0) env.next same

pub past_more : (env : Environment) (count more : ℕ) → past (past env count) more ≡ past env (count + more)
past_more env count more = let same : env.next + count + more ≡ env.next + (count + more) = omega arith in renumbered env (env.next + count + more) (env.next + (count + more)) same

-- ---- scopes around

variables_outer : (env : Environment) (locals : List declared_local.Local) → (declare_variables env locals).outer ≡ env.outer
variables_outer env [] = refl
variables_outer env (local ∷ others) = variables_outer (declare env Variable_role local.name.name) others

behind_outer : (env : Environment) (s : Statement) → (behind env s).outer ≡ env.outer
behind_outer env (Var pos locals values) = variables_outer env locals
behind_outer env s = refl

pub all_outer : (env : Environment) (s : Statements) → (behind_all env s).outer ≡ env.outer
all_outer env done = refl
all_outer env (next statement others) = all_outer (behind env statement) others ∙ behind_outer env statement

all_same : (env : Environment) (s : Statements) → IsSame env (behind_all env s)
all_same env done = record { table = refl; types = refl; results = refl; in_loop = refl }
all_same env (next statement others) =
    let one = same_behind env statement in
    let rest = all_same (behind env statement) others in
    record { table = rest.table ∙ one.table; types = rest.types ∙ one.types; results = rest.results ∙ one.results; in_loop = rest.in_loop ∙ one.in_loop }

all_next : (env : Environment) (s : Statements) → (behind_all env s).next ≡ env.next + locals_in_all s
all_next env done = omega arith
all_next env (next statement others) = omega (arith, all_next (behind env statement) others, next_behind env statement)

-- ---- blocks

front : (xs ys : List Local) → take (length xs) (xs ++ ys) ≡ xs
front [] ys = refl
front (x ∷ xs) ys = ap (λ (all : List Local). x ∷ all) (front xs ys)

back : (xs ys : List Local) → drop (length xs) (xs ++ ys) ≡ ys
back [] ys = refl
back (x ∷ xs) ys = back xs ys

-- behind a block its locals are gone, and numbers go on
pub block_left : (env : Environment) (s : Statements) → left (behind_all (enter env) s) (length env.outer) ≡ past env (locals_in_all s)
block_left env s =
    let inside = behind_all (enter env) s in
    let same = all_same (enter env) s in
    let outer : inside.outer ≡ env.outer ++ env.inner = all_outer (enter env) s in
    let kept : take (length env.outer) inside.outer ≡ env.outer = ap (λ (xs : List Local). take (length env.outer) xs) outer ∙ front env.outer env.inner in
    let rest : drop (length env.outer) inside.outer ≡ env.inner = ap (λ (xs : List Local). drop (length env.outer) xs) outer ∙ back env.outer env.inner in
    let number : inside.next ≡ env.next + locals_in_all s = all_next (enter env) s in
    λ i. record { table = same.table i; outer = kept i; inner = rest i; next = number i; types = same.types i; results = same.results i; in_loop = same.in_loop i }
