-- The walk over the clauses of a loop, and what the loop breaks as a whole.
use Rattle.std.proofs.Common.{◌≡◌, ℕ, ◌+◌, Bool, true, false, ◌||◌, List, [], ◌∷◌, ◌++◌, length, Ok, refl, sym, subst}
use Rattle.std.specs.List.{flat_map, list_any}
use Rattle.df_base.specs.declared.pos.Pos.{Pos}
use Rattle.df_ntree.specs.declared.file.ConditionKind.TheVariants as file_kinds
use Rattle.df_ntree.specs.Expr.{Expr}
use Rattle.df_ntree.specs.File as file
use Rattle.df_ntree.specs.File.{Clause, PrintOperand, Statement, Nested, Var, Assign, Expression, If, While, Return, Break, Assert, Print, Statements, done, next, Branches, Otherwise, without, otherwise}
use Rattle.df_ntree.specs.FileSpelling.{spell_clause, spell_statement}
use Rattle.df_ntyping.specs.Environment.{Environment}
use Rattle.df_ntyping.specs.Node as nodes
use Rattle.df_ntyping.specs.Node.{Occurrence, Owner, OfLoop}
use Rattle.df_ntyping.specs.ExprNodes.{occurrence}
use Rattle.df_ntyping.specs.StatementNodes.{clause_nodes, clauses_nodes}
use Rattle.df_ntyping.specs.Rule.{Rule, Typing}
use Rattle.df_ntyping.specs.Rule as rules
use Rattle.df_ntyping.specs.Breaks.{breaks}
use Rattle.df_ntyping.specs.LocalTypes.{used_in_clause}
use Rattle.df_ntyping.specs.rules.Loops.{is_decreases, has_measure}
use Rattle.df_ntyping.proofs.AllNodes.{only}
use Rattle.df_ntyping.proofs.FirstFault.{NoNames}
use Rattle.df_ntyping.proofs.SoundNodes as kinds
use Rattle.df_ntyping.proofs.SoundNodes.{sound}
use Rattle.df_ntyping.proofs.Verdict.{HaveTypes, types_left, types_right}
use Rattle.df_ntexpr.specs.Replies.{Reply}
use Rattle.df_ntstmt.specs.mirror.Steps.{and_then, broken, unless}
use Rattle.df_ntstmt.specs.mirror.Clauses.{over_kind}
use Rattle.df_ntstmt.specs.mirror.Statements.{is_measured}
use Rattle.df_ntstmt.proofs.Judging.{met_typing, Judged, silent_sound}
use Rattle.df_ntstmt.proofs.ClausesTold.{kinds_nodes, ClauseTypes}

-- ---- loops

loop_only : (env : Environment) (guard : Expr) (clauses : List Clause) (pos : Pos) (rule : Rule) → breaks env (nodes.Loop guard clauses pos) rule ≡ true → rule ≡ Typing rules.Clauses
loop_only env guard clauses pos (Typing rules.Clauses) h = refl
loop_only env guard clauses pos rule h = absurd cc

abbrev pub loop_at : Environment → ℕ → Pos → Expr → List Clause → Pos → Statements → Occurrence
loop_at env start pos guard clauses opens body = occurrence env (nodes.Loop guard clauses pos) start (start + length (spell_statement (While pos guard clauses opens body)))

-- it has a measure
abbrev pub measured : Environment → Pos → Expr → List Clause → Reply (Unit {0})
measured env pos guard clauses = unless (is_measured env guard clauses) (broken rules.Clauses pos)

pub measured_told : {A : Type 0} (Q : A → Type 0) (a : A) (env : Environment) (start : ℕ) (pos : Pos) (guard : Expr) (clauses : List Clause) (opens : Pos) (body : Statements) → NoNames (loop_at env start pos guard clauses opens body ∷ [])
    → ((list_any is_decreases clauses || has_measure env guard) ≡ true → Q a) → Judged (loop_at env start pos guard clauses opens body ∷ []) Q (and_then (measured env pos guard clauses) (λ (held : Unit {0}). Ok a))
measured_told Q a env start pos guard clauses opens body n q = by_measure (list_any is_decreases clauses || has_measure env guard) refl where
  one : Occurrence
  one = loop_at env start pos guard clauses opens body

  by_measure : (b : Bool) → (list_any is_decreases clauses || has_measure env guard) ≡ b → Judged (one ∷ []) Q (and_then (unless b (broken rules.Clauses pos)) (λ (held : Unit {0}). Ok a))
  by_measure true p = (silent_sound (one ∷ []) (only (sound (kinds.loop env guard clauses pos (rw p refl)))) n, q p)
  by_measure false p = met_typing one rules.Clauses pos (rw p refl) (loop_only env guard clauses pos) refl

-- a loop's clauses stand in one environment
same_kind : (env : Environment) (clause : Clause) → over_kind env env clause ≡ env
same_kind env (file.Condition file_kinds.Requires pos e) = refl
same_kind env (file.Condition file_kinds.Ensures pos e) = refl
same_kind env (file.Condition file_kinds.Invariant pos e) = refl
same_kind env (file.Decreases pos values) = refl

pub loop_nodes : (env : Environment) (start : ℕ) (clauses : List Clause) → kinds_nodes env env OfLoop start clauses ≡ clauses_nodes env OfLoop start clauses
loop_nodes env start [] = refl
loop_nodes env start (clause ∷ others) = λ i. clause_nodes (same_kind env clause i) OfLoop start clause ++ loop_nodes env (start + length (spell_clause clause)) others i

pub loop_types : (env : Environment) (clauses : List Clause) → HaveTypes env (flat_map used_in_clause clauses) → ClauseTypes env env clauses
loop_types env [] t = tt
loop_types env (clause ∷ others) t =
    (subst (λ (x : Environment). HaveTypes x (used_in_clause clause)) (sym (same_kind env clause)) (types_left env (used_in_clause clause) (flat_map used_in_clause others) t), loop_types env others (types_right env (used_in_clause clause) (flat_map used_in_clause others) t))
