-- Behind blocks and branches, as code leaves them.
use Rattle.std.proofs.Common.{◌≡◌, ℕ, ◌+◌, ◌≤◌, List, ◌++◌, length, Ok, Err, refl, sym, ap, subst, ◌∙◌, arith}
use Rattle.std.proofs.lemmas.List.{length-append}
use Rattle.df_base.specs.declared.refusal.Stop.{Stop}
use Rattle.df_lang.specs.Stmt as typed
use Rattle.df_lang.specs.StmtView as view
use Rattle.df_ntree.specs.File.{Statement, If, Statements, Branches, Branch, Otherwise}
use Rattle.df_ntyping.specs.Environment.{Environment, enter, past, behind, locals_in_all, locals_in_branches, locals_in_otherwise}
use Rattle.df_nenv.specs.Environments.{left}
use Rattle.df_ninfer.specs.Behind.{behind_all}
use Rattle.df_ninfer.proofs.Behind.{all_outer, block_left, past_more}
use Rattle.df_ntexpr.specs.Replies.{Reply, Replies}
use Rattle.df_ntstmt.specs.mirror.Steps.{and_then}
use Rattle.df_ntstmt.specs.mirror.Statements.{statement_in, branch_in, branches_in, otherwise_in}
use Rattle.df_ntstmt.proofs.Looping.{stops_there}
use Rattle.df_ntstmt.proofs.LoopedStatements.{branch_then}

-- ---- blocks

pub block_fits : (old entered inside : Environment) (count : ℕ) (s : Statements) → entered ≡ enter old → inside ≡ behind_all entered s → count ≡ length old.outer → count ≤ length inside.outer
block_fits old entered inside count s e i c =
    let outer : inside.outer ≡ old.outer ++ old.inner = ap (λ (env : Environment). env.outer) (i ∙ ap (λ (env : Environment). behind_all env s) e) ∙ all_outer (enter old) s in
    let lengths : length inside.outer ≡ length old.outer + length old.inner = ap (λ (xs : List _). length xs) outer ∙ length-append old.outer old.inner in
    omega (arith, c, lengths)

pub block_behind : (old entered inside last : Environment) (count : ℕ) (s : Statements) → entered ≡ enter old → inside ≡ behind_all entered s → count ≡ length old.outer → last ≡ left inside count → last ≡ past old (locals_in_all s)
block_behind old entered inside last count s e i c l = l ∙ (λ j. left (i j) (c j)) ∙ ap (λ (env : Environment). left (behind_all env s) (length old.outer)) e ∙ block_left old s

-- ---- `if`

-- what is made of the parts
abbrev pub joined_if : view.Branch → typed.Branches → typed.Stmts → typed.Stmt
joined_if b rest final = typed.If (typed.branch b.pos b.guard b.body rest) final

abbrev behind_first : Environment → Branch → Environment
behind_first env first = past env (locals_in_all first.body.statements)

abbrev pub whole_if : Branch → Branches → Otherwise → Statement
whole_if first others last = If first.pos first.guard first.body.pos first.body.statements others last

if_in : (env : Environment) (first : Branch) (others : Branches) (last : Otherwise)
    → statement_in env (whole_if first others last) ≡ and_then (branch_in env first) (λ (b : view.Branch). and_then (branches_in (behind_first env first) others) (λ (rest : typed.Branches). and_then (otherwise_in (past (behind_first env first) (locals_in_branches others)) last) (λ (final : typed.Stmts). Ok (joined_if b rest final))))
if_in env first others last = branch_then env first (λ (b : view.Branch). and_then (branches_in (behind_first env first) others) (λ (rest : typed.Branches). and_then (otherwise_in (past (behind_first env first) (locals_in_branches others)) last) (λ (final : typed.Stmts). Ok (joined_if b rest final))))

pub first_stops : {X Z : Type 0} (v : X → view.Branch) (w : Z → typed.Stmt) (stop : Stop) (env : Environment) (first : Branch) (others : Branches) (last : Otherwise) → Replies v (Err stop) (branch_in env first) → Replies w (Err stop) (statement_in env (whole_if first others last))
first_stops v w stop env first others last told = stops_there v w stop _ _ _ told (sym (if_in env first others last))

behind_branch : (env : Environment) (first : Branch) (others : Branches) (last : Otherwise) (b : view.Branch) → branch_in env first ≡ Ok b
    → statement_in env (whole_if first others last) ≡ and_then (branches_in (behind_first env first) others) (λ (rest : typed.Branches). and_then (otherwise_in (past (behind_first env first) (locals_in_branches others)) last) (λ (final : typed.Stmts). Ok (joined_if b rest final)))
behind_branch env first others last b made =
    if_in env first others last
    ∙ ap (λ (reply : Reply view.Branch). and_then reply (λ (x : view.Branch). and_then (branches_in (behind_first env first) others) (λ (rest : typed.Branches). and_then (otherwise_in (past (behind_first env first) (locals_in_branches others)) last) (λ (final : typed.Stmts). Ok (joined_if x rest final))))) made

pub others_stop_if : {X Z : Type 0} (v : X → typed.Branches) (w : Z → typed.Stmt) (stop : Stop) (env next : Environment) (first : Branch) (others : Branches) (last : Otherwise) (b : view.Branch) → branch_in env first ≡ Ok b → next ≡ past env (locals_in_all first.body.statements)
    → Replies v (Err stop) (branches_in next others) → Replies w (Err stop) (statement_in env (whole_if first others last))
others_stop_if v w stop env next first others last b made goes told =
    stops_there v w stop _ _ _ (subst (λ (e : Environment). Replies v (Err stop) (branches_in e others)) goes told) (sym (behind_branch env first others last b made))

behind_others : (env next : Environment) (first : Branch) (others : Branches) (last : Otherwise) (b : view.Branch) (rest : typed.Branches) → branch_in env first ≡ Ok b → next ≡ past env (locals_in_all first.body.statements) → branches_in next others ≡ Ok rest
    → statement_in env (whole_if first others last) ≡ and_then (otherwise_in (past next (locals_in_branches others)) last) (λ (final : typed.Stmts). Ok (joined_if b rest final))
behind_others env next first others last b rest made goes done =
    behind_branch env first others last b made
    ∙ ap (λ (e : Environment). and_then (branches_in e others) (λ (more_rest : typed.Branches). and_then (otherwise_in (past e (locals_in_branches others)) last) (λ (final : typed.Stmts). Ok (joined_if b more_rest final)))) (sym goes)
    ∙ ap (λ (reply : Reply typed.Branches). and_then reply (λ (more_rest : typed.Branches). and_then (otherwise_in (past next (locals_in_branches others)) last) (λ (final : typed.Stmts). Ok (joined_if b more_rest final)))) done

pub last_stops : {X Z : Type 0} (v : X → typed.Stmts) (w : Z → typed.Stmt) (stop : Stop) (env next after : Environment) (first : Branch) (others : Branches) (last : Otherwise) (b : view.Branch) (rest : typed.Branches) → branch_in env first ≡ Ok b → next ≡ past env (locals_in_all first.body.statements)
    → branches_in next others ≡ Ok rest → after ≡ past next (locals_in_branches others) → Replies v (Err stop) (otherwise_in after last) → Replies w (Err stop) (statement_in env (whole_if first others last))
last_stops v w stop env next after first others last b rest made goes done ends told =
    stops_there v w stop _ _ _ (subst (λ (e : Environment). Replies v (Err stop) (otherwise_in e last)) ends told) (sym (behind_others env next first others last b rest made goes done))

pub if_made : (env next after : Environment) (first : Branch) (others : Branches) (last : Otherwise) (b : view.Branch) (rest : typed.Branches) (final : typed.Stmts) → branch_in env first ≡ Ok b → next ≡ past env (locals_in_all first.body.statements) → branches_in next others ≡ Ok rest
    → after ≡ past next (locals_in_branches others) → otherwise_in after last ≡ Ok final → statement_in env (whole_if first others last) ≡ Ok (joined_if b rest final)
if_made env next after first others last b rest final made goes done ends whole =
    behind_others env next first others last b rest made goes done ∙ ap (λ (reply : Reply typed.Stmts). and_then reply (λ (x : typed.Stmts). Ok (joined_if b rest x))) (ap (λ (e : Environment). otherwise_in e last) (sym ends) ∙ whole)

-- ---- behind an `if`

pub if_behind : (env next after last_env : Environment) (first : Branch) (others : Branches) (last : Otherwise) → next ≡ past env (locals_in_all first.body.statements) → after ≡ past next (locals_in_branches others) → last_env ≡ past after (locals_in_otherwise last)
    → last_env ≡ behind env (whole_if first others last)
if_behind env next after last_env first others last goes ends whole =
    let a = locals_in_all first.body.statements in
    let b = locals_in_branches others in
    let c = locals_in_otherwise last in
    whole ∙ ap (λ (e : Environment). past e c) (ends ∙ ap (λ (e : Environment). past e b) goes) ∙ ap (λ (e : Environment). past e c) (past_more env a b) ∙ past_more env (a + b) c
