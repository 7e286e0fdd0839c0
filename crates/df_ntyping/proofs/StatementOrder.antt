-- The nodes of a statement lie in its text, in order.
use Rattle.std.proofs.Common.{◌≡◌, ℕ, suc, ◌+◌, ◌≤◌, List, [], ◌∷◌, ◌++◌, length, Some, refl, arith, length-append}
use Rattle.std.specs.List.{flat_map}
use Rattle.df_base.specs.declared.pos.Pos.{Pos}
use Rattle.df_tok.specs.declared.word.Word.TheVariants as words
use Rattle.df_tok.specs.declared.sign.Sign.TheVariants as signs
use Rattle.df_ntree.specs.Spelling.{Piece, a_sign, a_word, word_there, separated}
use Rattle.df_ntree.specs.Expr.{Expr}
use Rattle.df_ntree.specs.ExprSpelling.{spell}
use Rattle.df_ntree.specs.File as file
use Rattle.df_ntree.specs.File.{Clause, PrintOperand, Statement, Nested, Var, Assign, Expression, If, While, Return, Break, Assert, Print, Statements, done, next, Branches, Otherwise, without, otherwise}
use Rattle.df_ntree.specs.FileSpelling.{spell_local, spell_values, spell_clause, spell_operand, spell_statement, spell_statements, spell_branches, spell_otherwise, braces, IsStatement, AreStatements, AreBranches, IsOtherwise}
use Rattle.df_ntyping.specs.Environment.{Environment, enter, inside_loop, past, behind, locals_in_all, locals_in_branches}
use Rattle.df_ntyping.specs.Places.{beginning_of_first}
use Rattle.df_ntyping.specs.LocalTypes.{place_types, types_of_locals}
use Rattle.df_ntyping.specs.Node.{Occurrence, Owner}
use Rattle.df_ntyping.specs.ExprNodes.{width, condition_nodes}
use Rattle.df_ntyping.specs.StatementNodes.{all_places, widths, variable_nodes, declared_by, local_widths, clause_widths, statement_nodes, statements_nodes, branches_nodes, otherwise_nodes}
use Rattle.df_ntyping.proofs.AllNodes.{none}
use Rattle.df_ntyping.proofs.Order.{Segment, no_nodes, joined, ended, later_apart}
use Rattle.df_ntyping.proofs.SideOrder.{separated_widths, condition_order, all_places_order, sources_order, update_order}
use Rattle.df_ntyping.proofs.PartOrder.{later, and_then, variable_order, locals_width, clauses_order, clauses_width, operands_order, whole_order}

-- ---- how many tokens

abbrev semicolon : List Piece
semicolon = a_sign signs.Semicolon ∷ []

pub braces_width : (pos : Pos) (inside : List Piece) → length (braces pos inside) ≡ length inside + 2
braces_width pos inside = omega (arith, length-append inside (a_sign signs.CloseBrace ∷ []))

values_width : (values : List Expr) → widths values ≤ length (spell_values values)
values_width [] = omega arith
values_width (e ∷ others) = omega (arith, separated_widths (e ∷ others))

-- and where there are any, their sign
pub some_values_width : (e : Expr) (others : List Expr) → length (spell_values (e ∷ others)) ≡ suc (widths (e ∷ others))
some_values_width e others = omega (arith, separated_widths (e ∷ others))

pub if_width : (pos opens : Pos) (guard : Expr) (body : Statements) (others : Branches) (last : Otherwise)
    → length (spell_statement (If pos guard opens body others last)) ≡ 3 + width guard + length (spell_statements body) + length (spell_branches others) + length (spell_otherwise last)
if_width pos opens guard body others last = omega (
  arith,
  length-append (spell guard ++ braces opens (spell_statements body)) (spell_branches others ++ spell_otherwise last),
  length-append (spell guard) (braces opens (spell_statements body)),
  braces_width opens (spell_statements body),
  length-append (spell_branches others) (spell_otherwise last),
)

pub while_width : (pos opens : Pos) (guard : Expr) (clauses : List Clause) (body : Statements) → length (spell_statement (While pos guard clauses opens body)) ≡ 3 + width guard + clause_widths clauses + length (spell_statements body)
while_width pos opens guard clauses body = omega (
  arith,
  length-append (spell guard) (flat_map spell_clause clauses ++ braces opens (spell_statements body)),
  length-append (flat_map spell_clause clauses) (braces opens (spell_statements body)),
  braces_width opens (spell_statements body),
  clauses_width clauses,
)

pub branch_width : (pos opens : Pos) (guard : Expr) (body : Statements) (others : Branches) → length (spell_branches (file.more pos guard opens body others)) ≡ 4 + width guard + length (spell_statements body) + length (spell_branches others)
branch_width pos opens guard body others = omega (
  arith,
  length-append (a_word words.Else ∷ word_there words.If pos ∷ (spell guard ++ braces opens (spell_statements body))) (spell_branches others),
  length-append (spell guard) (braces opens (spell_statements body)),
  braces_width opens (spell_statements body),
)

-- left sides, and right sides behind their sign
sided : (env : Environment) (start sign after : ℕ) (xs ys : List Occurrence) → Segment start start sign xs → Segment start sign after ys → start ≤ sign → sign ≤ after → Segment start start after (xs ++ ys)
sided env start sign after xs ys h k p q = joined start start sign after xs ys h k p q

-- behind a sign or without one
pub update_fits : (sign after : ℕ) (values : List Expr) → sign + length (spell_values values) + 1 ≤ after → sign + 2 + widths values ≤ after + 1
update_fits sign after [] p = omega arith
update_fits sign after (e ∷ others) p = omega (arith, p, some_values_width e others)

mutual
  pub statement_order : (env : Environment) (start : ℕ) (s : Statement) → IsStatement s → Segment start start (start + length (spell_statement s)) (statement_nodes env start s)
  statement_order env start (Nested pos body) g =
      later start (suc start) (suc start + length (spell_statements body)) (start + length (spell_statement (Nested pos body))) _ (statements_order (enter env) (suc start) body g) (omega arith) (omega (arith, braces_width pos (spell_statements body)))
  statement_order env start (Var pos locals values) g =
      let after = start + length (spell_statement (Var pos locals values)) in
      let sign = start + 1 + local_widths locals in
      let size = length-append (separated spell_local locals) (spell_values values ++ semicolon) in
      let end = length-append (spell_values values) semicolon in
      sided env start sign after (variable_nodes env (suc start) values locals) _
      (later start (suc start) (suc start + local_widths locals) sign _ (variable_order env (suc start) values locals) (omega arith) (omega arith))
      (update_order env start sign after (Some pos) (types_of_locals env (declared_by env locals)) values g.1 (omega arith) (update_fits sign after values (omega (arith, size, end, locals_width locals))) (omega arith))
      (omega arith) (omega (arith, size, end, locals_width locals))
  statement_order env start (Assign targets values) g =
      let after = start + length (spell_statement (Assign targets values)) in
      let sign = start + widths targets in
      let size = length-append (separated spell targets) (spell_values values ++ semicolon) in
      let end = length-append (spell_values values) semicolon in
      sided env start sign after (all_places env start targets) _ (all_places_order env start targets g.0.1)
      (update_order env start sign after (beginning_of_first targets) (place_types env targets) values g.1.1 (omega arith) (update_fits sign after values (omega (arith, size, end, separated_widths targets))) (omega (arith, size, end)))
      (omega arith) (omega (arith, size, end, separated_widths targets))
  statement_order env start (Expression value) g = later start start (start + width value) (start + length (spell_statement (Expression value))) _ (whole_order env start value g.0) (omega arith) (omega (arith, length-append (spell value) semicolon))
  statement_order env start (If pos guard opens body others last) g =
      let wide = width guard in
      let inner = length (spell_statements body) in
      let opening = start + 1 + wide in
      let behind_body = opening + 2 + inner in
      let at_last = behind_body + length (spell_branches others) in
      let after = start + length (spell_statement (If pos guard opens body others last)) in
      let first = past env (locals_in_all body) in
      let size = if_width pos opens guard body others last in
      and_then start at_last at_last after _ _
      (and_then start behind_body behind_body at_last _ _
      (and_then start opening (suc opening) behind_body (condition_nodes env (suc start) guard) _
      (later start (suc start) (suc start + wide) opening _ (condition_order env (suc start) guard g.0) (omega arith) (omega arith))
      (later (suc opening) (suc opening) (suc opening + inner) behind_body _ (statements_order (enter env) (suc opening) body g.1) (omega arith) (omega arith))
      (omega arith) (omega arith) (omega arith))
      (branches_order first behind_body others g.2) (omega arith) (omega arith) (omega arith))
      (later at_last at_last (at_last + length (spell_otherwise last)) after _ (otherwise_order (past first (locals_in_branches others)) at_last last g.3) (omega arith) (omega (arith, size)))
      (omega arith) (omega arith) (omega (arith, size))
  statement_order env start (While pos guard clauses opens body) g =
      let wide = width guard in
      let inner = length (spell_statements body) in
      let at_clauses = start + 1 + wide in
      let opening = at_clauses + clause_widths clauses in
      let after = start + length (spell_statement (While pos guard clauses opens body)) in
      let size = while_width pos opens guard clauses body in
      let parts = and_then (suc start) opening (suc opening) after _ _
      (and_then (suc start) at_clauses at_clauses opening (condition_nodes env (suc start) guard) _
      (later (suc start) (suc start) (suc start + wide) at_clauses _ (condition_order env (suc start) guard g.0) (omega arith) (omega arith))
      (clauses_order env Owner.OfLoop at_clauses clauses g.1) (omega arith) (omega arith) (omega arith))
      (later (suc opening) (suc opening) (suc opening + inner) after _ (statements_order (inside_loop (enter env)) (suc opening) body g.2) (omega arith) (omega (arith, size)))
      (omega arith) (omega arith) (omega (arith, size)) in
      ended start start after _ _ (later start (suc start) after after _ parts (omega arith) (omega arith)) (omega (arith, size)) refl refl refl (later_apart (suc start) (suc start) after _ _ parts (omega arith))
  statement_order env start (Return pos values) g =
      let after = start + length (spell_statement (Return pos values)) in
      let size = length-append (separated spell values) semicolon in
      ended start start after _ _
      (later start (suc start) (suc start + widths values) after _ (sources_order env (suc start) (types_of_locals env env.results) values g) (omega arith) (omega (arith, size, separated_widths values)))
      (omega arith) refl refl refl (later_apart (suc start) (suc start) (suc start + widths values) _ _ (sources_order env (suc start) (types_of_locals env env.results) values g) (omega arith))
  statement_order env start (Break pos) g = ended start start (start + 2) [] _ (no_nodes start start (start + 2)) (omega arith) refl refl refl none
  statement_order env start (Assert pos condition) g =
      later start (suc start) (suc start + width condition) (start + length (spell_statement (Assert pos condition))) _ (condition_order env (suc start) condition g) (omega arith) (omega (arith, length-append (spell condition) semicolon))
  statement_order env start (Print pos operands) g =
      later start (suc start) (suc start + length (separated spell_operand operands)) (start + length (spell_statement (Print pos operands))) _ (operands_order env (suc start) operands g.1) (omega arith)
      (omega (arith, length-append (separated spell_operand operands) semicolon))

  pub statements_order : (env : Environment) (start : ℕ) (all : Statements) → AreStatements all → Segment start start (start + length (spell_statements all)) (statements_nodes env start all)
  statements_order env start done g = no_nodes start start (start + 0)
  statements_order env start (next s others) g =
      let one = length (spell_statement s) in
      let rest = length (spell_statements others) in
      let size = length-append (spell_statement s) (spell_statements others) in
      and_then start (start + one) (start + one) (start + length (spell_statements (next s others))) (statement_nodes env start s) _ (statement_order env start s g.0)
      (later (start + one) (start + one) (start + one + rest) (start + length (spell_statements (next s others))) _ (statements_order (behind env s) (start + one) others g.1) (omega arith) (omega (arith, size)))
      (omega arith) (omega arith) (omega (arith, size))

  pub branches_order : (env : Environment) (start : ℕ) (all : Branches) → AreBranches all → Segment start start (start + length (spell_branches all)) (branches_nodes env start all)
  branches_order env start file.end g = no_nodes start start (start + 0)
  branches_order env start (file.more pos guard opens body others) g =
      let wide = width guard in
      let inner = length (spell_statements body) in
      let opening = start + 2 + wide in
      let behind_body = opening + 2 + inner in
      let after = start + length (spell_branches (file.more pos guard opens body others)) in
      let size = branch_width pos opens guard body others in
      and_then start behind_body behind_body after _ _
      (and_then start opening (suc opening) behind_body (condition_nodes env (start + 2) guard) _
      (later start (start + 2) (start + 2 + wide) opening _ (condition_order env (start + 2) guard g.0.0) (omega arith) (omega arith))
      (later (suc opening) (suc opening) (suc opening + inner) behind_body _ (statements_order (enter env) (suc opening) body g.0.1) (omega arith) (omega arith))
      (omega arith) (omega arith) (omega arith))
      (later behind_body behind_body (behind_body + length (spell_branches others)) after _ (branches_order (past env (locals_in_all body)) behind_body others g.1) (omega arith) (omega (arith, size)))
      (omega arith) (omega arith) (omega (arith, size))

  pub otherwise_order : (env : Environment) (start : ℕ) (last : Otherwise) → IsOtherwise last → Segment start start (start + length (spell_otherwise last)) (otherwise_nodes env start last)
  otherwise_order env start without g = no_nodes start start (start + 0)
  otherwise_order env start (otherwise opens body) g =
      later start (start + 2) (start + 2 + length (spell_statements body)) (start + length (spell_otherwise (otherwise opens body))) _ (statements_order (enter env) (start + 2) body g) (omega arith) (omega (arith, braces_width opens (spell_statements body)))
