-- The steps of a walk that finds what fixes types: loops over statements and branches, blocks, and loops.
use Rattle.std.proofs.Common.{◌≡◌, ℕ, ◌+◌, ◌<◌, ◌≤◌, List, ◌++◌, length, map, drop, get_or, Result, Ok, Err, sym, ap, ◌∙◌, arith, length-append}
use Rattle.std.specs.Result.{OnOk}
use Rattle.df_base.specs.declared.pos.Pos.{Pos}
use Rattle.df_ntree.specs.declared.file.Statement as declared_statement
use Rattle.df_ntree.specs.Expr.{Expr}
use Rattle.df_ntree.specs.File.{Clause, Statement, While, Statements, statement_of, statements_of}
use Rattle.std.specs.List.{flat_map}
use Rattle.df_ntyping.specs.Environment.{Local, Environment, enter, behind}
use Rattle.df_ntyping.specs.LocalTypes.{names_in, used_in_clause, over, inferred_behind, inferred_behind_all}
use Rattle.df_nenv.specs.Environments.{left}
use Rattle.df_ninfer.specs.Behind.{behind_all}
use Rattle.df_ninfer.specs.Marks.{marked, behind_block}
use Rattle.df_ninfer.proofs.Behind.{all_outer, block_left}
use Rattle.df_ninfer.proofs.Inferring.{infer_more, while_behind}
use Rattle.df_ninfer.proofs.Looping.{cut}

-- behind statements, with what fixes types there
abbrev pub inferred_all_behind : Environment → Statements → Environment
inferred_all_behind env all = over (behind_all env all) (inferred_behind_all env all)

pub statements_go : (items : List declared_statement.Statement) (i : ℕ) (one : declared_statement.Statement) (env now total : Environment) → i < length items → one ≡ get_or items i one → now ≡ over (behind env (statement_of one)) (inferred_behind env (statement_of one))
    → inferred_all_behind env (statements_of (map statement_of (drop i items))) ≡ total → inferred_all_behind now (statements_of (map statement_of (drop (i + 1) items))) ≡ total
statements_go items i one env now total lt is made so_far =
    let rest = statements_of (map statement_of (drop (i + 1) items)) in
    ap (λ (e : Environment). inferred_all_behind e rest) made ∙ infer_more env (statement_of one) rest ∙ ap (λ (all : List Statement). inferred_all_behind env (statements_of all)) (sym (cut statement_of items i one lt is)) ∙ so_far

-- ---- blocks

pub block_has : (env inside now : Environment) (s : Statements) (outer : ℕ) → inside ≡ enter env → outer ≡ length env.outer → now ≡ inferred_all_behind inside s → outer ≤ length now.outer
block_has env inside now s outer entered p made = rw p (omega (arith, length-append env.outer env.inner, same)) where
  same : length now.outer ≡ length (env.outer ++ env.inner)
  same = ap (λ (e : Environment). length e.outer) made ∙ ap (λ (xs : List Local). length xs) (all_outer inside s) ∙ ap (λ (e : Environment). length e.outer) entered

pub block_done : (env inside now last : Environment) (s : Statements) (outer : ℕ) → inside ≡ enter env → outer ≡ length env.outer → now ≡ inferred_all_behind inside s → last ≡ left now outer → last ≡ behind_block env s
block_done env inside now last s outer entered p made gone =
    gone ∙ ap (left now) p ∙ ap (λ (e : Environment). left e (length env.outer)) (made ∙ ap (λ (e : Environment). inferred_all_behind e s) entered) ∙ ap (λ (e : Environment). over e (inferred_behind_all (enter env) s)) (block_left env s)

-- ---- loops

pub while_done : {X E : Type 0} (result : Result X E) (env one two three : Environment) (s : Statement) (pos : Pos) (guard : Expr) (clauses : List Clause) (opens : Pos) (body : Statements) → s ≡ While pos guard clauses opens body → one ≡ marked env (names_in guard) → two ≡ marked one (flat_map used_in_clause clauses)
    → OnOk result (three ≡ behind_block two body) → OnOk result (three ≡ over (behind env s) (inferred_behind env s))
while_done (Ok x) env one two three s pos guard clauses opens body whole first second made =
    made ∙ ap (λ (e : Environment). behind_block e body) (second ∙ ap (λ (e : Environment). marked e (flat_map used_in_clause clauses)) first) ∙ while_behind env pos guard clauses opens body
    ∙ sym (ap (λ (all : Statement). over (behind env all) (inferred_behind env all)) whole)
while_done (Err e) env one two three s pos guard clauses opens body whole first second made = tt
