-- What fixes the types of locals, behind statements one after another.
use Rattle.std.proofs.Common.{◌≡◌, ℕ, ◌+◌, List, [], ◌∷◌, ◌++◌, refl, sym, ap, ◌∙◌, arith, append-nil}
use Rattle.df_base.specs.declared.pos.Pos.{Pos}
use Rattle.df_ntree.specs.declared.file.Local as declared_local
use Rattle.df_ntree.specs.Expr.{Expr}
use Rattle.df_ntree.specs.File.{Clause, Statement, Var, If, While, Statements, done, next, Branches, more, Otherwise, without}
use Rattle.df_ntyping.specs.Environment.{Inferred, Environment, Variable_role, enter, past, declare, declare_variables, behind, locals_in_all, locals_in_branches, locals_in_otherwise}
use Rattle.df_ntyping.specs.LocalTypes.{names_in, used_in_clause, used_names, used, over, inferred_behind, inferred_behind_all, inferred_behind_branches, inferred_behind_otherwise}
use Rattle.std.specs.List.{flat_map}
use Rattle.df_ninfer.specs.Behind.{behind_all}
use Rattle.df_ninfer.specs.Marks.{marked, behind_block, behind_branches, behind_otherwise}
use Rattle.df_ninfer.proofs.Behind.{past_none, past_more}
use Rattle.df_ninfer.proofs.Marking.{marked_more}

-- ---- what is known of types stands apart from scopes

pub variables_over : (env : Environment) (types : List Inferred) (locals : List declared_local.Local) → declare_variables (over env types) locals ≡ over (declare_variables env locals) types
variables_over env types [] = refl
variables_over env types (local ∷ others) = variables_over (declare env Variable_role local.name.name) types others

behind_over : (env : Environment) (types : List Inferred) (s : Statement) → behind (over env types) s ≡ over (behind env s) types
behind_over env types (Var pos locals values) = variables_over env types locals
behind_over env types s = refl

all_over : (env : Environment) (types : List Inferred) (s : Statements) → behind_all (over env types) s ≡ over (behind_all env s) types
all_over env types done = refl
all_over env types (next statement others) = ap (λ (e : Environment). behind_all e others) (behind_over env types statement) ∙ all_over (behind env statement) types others

-- a statement, and those behind it
pub infer_more : (env : Environment) (s : Statement) (others : Statements)
    → over (behind_all (over (behind env s) (inferred_behind env s)) others) (inferred_behind_all (over (behind env s) (inferred_behind env s)) others) ≡ over (behind_all env (next s others)) (inferred_behind_all env (next s others))
infer_more env s others =
    ap (λ (e : Environment). over e (inferred_behind_all (over (behind env s) (inferred_behind env s)) others)) (all_over (behind env s) (inferred_behind env s) others)

-- ---- statements that declare nothing

pub at_rest : (env : Environment) (types : List Inferred) → over env types ≡ over (past env 0) types
at_rest env types = ap (λ (e : Environment). over e types) (sym (past_none env))

pub used_alone : (env : Environment) (e : Expr) → marked env (names_in e) ≡ over (past env 0) (used env (e ∷ []))
used_alone env e = at_rest env (used_names env (names_in e) env.types) ∙ ap (λ (names : List ℕ). over (past env 0) (used_names env names env.types)) (sym (append-nil (names_in e)))

-- ---- branches

-- behind a block whose guard uses these names
abbrev block_behind : Environment → Statements → List ℕ → Environment
block_behind env body names = over (past env (locals_in_all body)) (inferred_behind_all (over (enter env) (used_names env names env.types)) body)

same_block : (env : Environment) (guard : Expr) (body : Statements) → behind_block (marked env (names_in guard)) body ≡ block_behind env body (names_in guard ++ [])
same_block env guard body = ap (block_behind env body) (sym (append-nil (names_in guard)))

pub branch_more : (env : Environment) (pos : Pos) (guard : Expr) (opens : Pos) (body : Statements) (others : Branches) → behind_branches (behind_block (marked env (names_in guard)) body) others ≡ behind_branches env (more pos guard opens body others)
branch_more env pos guard opens body others =
    let first = block_behind env body (names_in guard ++ []) in
    ap (λ (e : Environment). behind_branches e others) (same_block env guard body)
    ∙ ap (λ (e : Environment). over e (inferred_behind_branches first others)) (past_more env (locals_in_all body) (locals_in_branches others))

pub without_behind : (env : Environment) → env ≡ behind_otherwise env without
without_behind env = at_rest env env.types

pub if_behind : (env : Environment) (pos : Pos) (guard : Expr) (opens : Pos) (body : Statements) (others : Branches) (last : Otherwise)
    → behind_otherwise (behind_branches (behind_block (marked env (names_in guard)) body) others) last ≡ over (behind env (If pos guard opens body others last)) (inferred_behind env (If pos guard opens body others last))
if_behind env pos guard opens body others last =
    let first = block_behind env body (names_in guard ++ []) in
    let rest = behind_branches first others in
    ap (λ (e : Environment). behind_otherwise (behind_branches e others) last) (same_block env guard body)
    ∙ ap (λ (e : Environment). over e (inferred_behind_otherwise rest last))
    (past_more (past env (locals_in_all body)) (locals_in_branches others) (locals_in_otherwise last) ∙ past_more env (locals_in_all body) (locals_in_branches others + locals_in_otherwise last)
    ∙ ap (past env) (omega arith))

pub while_behind : (env : Environment) (pos : Pos) (guard : Expr) (clauses : List Clause) (opens : Pos) (body : Statements)
    → behind_block (marked (marked env (names_in guard)) (flat_map used_in_clause clauses)) body ≡ over (behind env (While pos guard clauses opens body)) (inferred_behind env (While pos guard clauses opens body))
while_behind env pos guard clauses opens body = ap (λ (e : Environment). behind_block e body) (marked_more env (names_in guard) (flat_map used_in_clause clauses))
