-- The nodes of the parts of statements lie in their texts, in order.
use Rattle.std.proofs.Common.{◌≡◌, ℕ, suc, ◌+◌, ◌≤◌, List, [], ◌∷◌, ◌++◌, length, Option, Some, None, refl, arith, length-append}
use Rattle.std.specs.List.{flat_map, AllByRecursion}
use Rattle.df_tok.specs.declared.sign.Sign.TheVariants as signs
use Rattle.df_ntree.specs.declared.expr.TreeType.{TreeType}
use Rattle.df_ntree.specs.declared.expr.TreeType.TheVariants as trees
use Rattle.df_ntree.specs.declared.file.Local as declared_local
use Rattle.df_ntree.specs.Spelling.{Piece, a_sign, separated, spell_more}
use Rattle.df_ntree.specs.Expr.{Expr, Call}
use Rattle.df_ntree.specs.ExprSpelling.{spell, spell_type, IsExpr}
use Rattle.df_ntree.specs.File.{Clause, Condition, Decreases, PrintOperand, Text, Value}
use Rattle.df_ntree.specs.FileSpelling.{spell_local, spell_clause, spell_operand, IsClause, IsOperand}
use Rattle.df_ntyping.specs.Environment.{Environment, declare_variables, names_of}
use Rattle.df_ntyping.specs.Node.{Node, Occurrence, Owner}
use Rattle.df_ntyping.specs.ExprNodes.{width, token_at, expr_nodes}
use Rattle.df_ntyping.specs.StatementNodes.{widths, typed_nodes, untyped_nodes, variable_nodes, local_widths, clause_nodes, clauses_nodes, clause_widths, operand_nodes, whole_nodes}
use Rattle.df_ntyping.proofs.AllNodes.{only}
use Rattle.df_ntyping.proofs.SoundNodes.{new_name}
use Rattle.df_ntyping.proofs.Alike.{quiet_apart, aspect_apart, no_call_aspect}
use Rattle.df_ntyping.proofs.Order.{Segment, no_nodes, weaker, joined, ended, later_apart}
use Rattle.df_ntyping.proofs.ExprOrder.{some_width, token_alone, type_order, expr_order, expr_roots}
use Rattle.df_ntyping.proofs.SideOrder.{separated_widths, condition_order, exprs_order, whole_call_order}

-- ---- lists

-- one, a comma, and others
pub separated_more : {X : Type 0} (f : X → List Piece) (x y : X) (ys : List X) → length (separated f (x ∷ y ∷ ys)) ≡ length (f x) + 1 + length (separated f (y ∷ ys))
separated_more f x y ys =
    omega (arith, length-append (f x) (flat_map (spell_more f) (y ∷ ys)), length-append (a_sign signs.Comma ∷ f y) (flat_map (spell_more f) ys), length-append (f y) (flat_map (spell_more f) ys))

pub separated_one : {X : Type 0} (f : X → List Piece) (x : X) → length (separated f (x ∷ [])) ≡ length (f x)
separated_one f x = omega (arith, length-append (f x) [])

-- a part that begins later
pub later : (low at high higher : ℕ) (xs : List Occurrence) → Segment at at high xs → low ≤ at → high ≤ higher → Segment low low higher xs
later low at high higher xs h p q = weaker at at high low low higher xs h p p q

-- a part, and one that begins no earlier than it ends
pub and_then : (low middle at high : ℕ) (xs ys : List Occurrence) → Segment low low middle xs → Segment at at high ys → low ≤ middle → middle ≤ at → at ≤ high → Segment low low high (xs ++ ys)
and_then low middle at high xs ys h k p q r = joined low low middle high xs ys h (weaker at at high low middle high ys k (omega arith) q (omega arith)) p (omega arith)

-- ---- declared locals

pub type_width : (ty : TreeType) → length (spell_type ty) ≡ 1
type_width (trees.Basic basic pos) = refl
type_width (trees.Named ident) = refl

local_head : (env : Environment) (start : ℕ) (local : declared_local.Local) (values : List Expr) → List Occurrence
local_head env start local values = token_at env (Node.NewName (names_of env.inner) local.name) start ∷ untyped_nodes env start local values ++ typed_nodes env (start + 2) local.ty

head_order : (env : Environment) (start : ℕ) (local : declared_local.Local) (values : List Expr) (ty : Option TreeType) → local.ty ≡ ty → Segment start start (start + length (spell_local local)) (local_head env start local values)
unfolding local_head
head_order env start local values (Some ty) p =
    rw p (and_then start (suc start) (start + 2) (start + suc (suc (length (spell_type ty)))) _ _ (token_alone env _ start)
    (later (start + 2) (start + 2) (suc (start + 2)) (start + suc (suc (length (spell_type ty)))) _ (type_order env (start + 2) ty) (omega arith) (omega (arith, type_width ty)))
    (omega arith) (omega arith) (omega (arith, type_width ty)))
head_order env start local [] None p =
    rw p (and_then start (start + 1) (start + 1) (start + 1) _ [] (ended start start (start + 1) (token_at env (Node.NewName (names_of env.inner) local.name) start ∷ []) (token_at env (Node.Untyped env.next local.name) start)
    (later start start (suc start) (start + 1) _ (token_alone env _ start) (omega arith) (omega arith)) (omega arith) refl (omega arith) refl (only (quiet_apart (new_name env (names_of env.inner) local.name)))) (no_nodes (start + 1) (start + 1) (start + 1)) (omega arith) (omega arith) (omega arith))
head_order env start local (value ∷ values) None p =
    rw p (and_then start (suc start) (start + 1) (start + 1) _ [] (token_alone env _ start) (no_nodes (start + 1) (start + 1) (start + 1)) (omega arith) (omega arith) (omega arith))

pub variable_order : (env : Environment) (start : ℕ) (values : List Expr) (locals : List declared_local.Local) → Segment start start (start + local_widths locals) (variable_nodes env start values locals)
unfolding local_head
variable_order env start values [] = no_nodes start start (start + 0)
variable_order env start values (local ∷ []) =
    and_then start (start + length (spell_local local)) (start + length (spell_local local)) (start + length (spell_local local)) _ [] (head_order env start local values local.ty refl)
    (no_nodes (start + length (spell_local local)) (start + length (spell_local local)) (start + length (spell_local local))) (omega arith) (omega arith) (omega arith)
variable_order env start values (local ∷ other ∷ others) =
    and_then start (start + length (spell_local local)) (start + length (spell_local local) + 1) (start + (length (spell_local local) + 1 + local_widths (other ∷ others))) _ _ (head_order env start local values local.ty refl)
    (later (start + length (spell_local local) + 1) (start + length (spell_local local) + 1) (start + length (spell_local local) + 1 + local_widths (other ∷ others)) (start + (length (spell_local local) + 1 + local_widths (other ∷ others))) _
    (variable_order (declare_variables env (local ∷ [])) (start + length (spell_local local) + 1) values (other ∷ others)) (omega arith) (omega arith))
    (omega arith) (omega arith) (omega arith)

pub locals_width : (locals : List declared_local.Local) → length (separated spell_local locals) ≡ local_widths locals
locals_width [] = refl
locals_width (local ∷ []) = separated_one spell_local local
locals_width (local ∷ other ∷ others) = omega (arith, separated_more spell_local local other others, locals_width (other ∷ others))

-- ---- clauses, operands

pub clause_order : (env : Environment) (owner : Owner) (start : ℕ) (clause : Clause) → IsClause clause → Segment start start (start + length (spell_clause clause)) (clause_nodes env owner start clause)
clause_order env owner start (Condition kind pos condition) g =
    ended start start (start + suc (width condition)) _ _ (later start (suc start) (suc start + width condition) (start + suc (width condition)) _ (condition_order env (suc start) condition g) (omega arith) (omega arith)) (omega arith) refl refl refl
    (later_apart (suc start) (suc start) (suc start + width condition) _ _ (condition_order env (suc start) condition g) (omega arith))
clause_order env owner start (Decreases pos values) g =
    ended start start (start + suc (length (separated spell values))) _ _
    (later start (suc start) (suc start + widths values) (start + suc (length (separated spell values))) _ (exprs_order env (suc start) values g.1) (omega arith) (omega (arith, separated_widths values))) (omega arith) refl refl refl
    (later_apart (suc start) (suc start) (suc start + widths values) _ _ (exprs_order env (suc start) values g.1) (omega arith))

pub clauses_order : (env : Environment) (owner : Owner) (start : ℕ) (clauses : List Clause) → AllByRecursion IsClause clauses → Segment start start (start + clause_widths clauses) (clauses_nodes env owner start clauses)
clauses_order env owner start [] g = no_nodes start start (start + 0)
clauses_order env owner start (clause ∷ others) g =
    let one = length (spell_clause clause) in
    and_then start (start + one) (start + one) (start + (one + clause_widths others)) (clause_nodes env owner start clause) _ (clause_order env owner start clause g.0)
    (later (start + one) (start + one) (start + one + clause_widths others) (start + (one + clause_widths others)) _ (clauses_order env owner (start + one) others g.1) (omega arith) (omega arith)) (omega arith) (omega arith) (omega arith)

pub clauses_width : (clauses : List Clause) → length (flat_map spell_clause clauses) ≡ clause_widths clauses
clauses_width [] = refl
clauses_width (clause ∷ others) = omega (arith, length-append (spell_clause clause) (flat_map spell_clause others), clauses_width others)

pub operands_order : (env : Environment) (start : ℕ) (operands : List PrintOperand) → AllByRecursion IsOperand operands → Segment start start (start + length (separated spell_operand operands)) (operand_nodes env start operands)
operands_order env start [] g = no_nodes start start (start + 0)
operands_order env start (Text characters ∷ []) g = no_nodes start start (start + length (separated spell_operand (Text characters ∷ [])))
operands_order env start (Text characters ∷ other ∷ others) g =
    later start (start + 2) (start + 2 + length (separated spell_operand (other ∷ others))) (start + length (separated spell_operand (Text characters ∷ other ∷ others))) _ (operands_order env (start + 2) (other ∷ others) g.1) (omega arith)
    (omega (arith, separated_more spell_operand (Text characters) other others))
operands_order env start (Value e ∷ []) g =
    and_then start (start + width e) (start + width e) (start + length (separated spell_operand (Value e ∷ []))) (expr_nodes env start e) [] (expr_order env start e g.0)
    (no_nodes (start + width e) (start + width e) (start + length (separated spell_operand (Value e ∷ [])))) (omega arith) (omega arith) (omega (arith, separated_one spell_operand (Value e)))
operands_order env start (Value e ∷ other ∷ others) g =
    let all = length (separated spell_operand (Value e ∷ other ∷ others)) in
    let rest = length (separated spell_operand (other ∷ others)) in
    and_then start (start + width e) (start + width e + 1) (start + all) (expr_nodes env start e) _ (expr_order env start e g.0)
    (later (start + width e + 1) (start + width e + 1) (start + width e + 1 + rest) (start + all) _ (operands_order env (start + width e + 1) (other ∷ others) g.1) (omega arith) (omega (arith, separated_more spell_operand (Value e) other others)))
    (omega arith) (omega arith) (omega (arith, separated_more spell_operand (Value e) other others))

pub whole_order : (env : Environment) (start : ℕ) (e : Expr) → IsExpr e → Segment start start (start + width e) (whole_nodes env start e)
whole_order env start (Call callee arguments) g = whole_call_order env start callee arguments g
whole_order env start e g =
    ended start start (start + width e) (expr_nodes env start e) _ (expr_order env start e g) (omega (arith, some_width e g)) refl refl refl (aspect_apart (expr_nodes env start e) (no_call_aspect env e) (expr_roots env start e g))
