-- The rows that the parser's loops read.
use Rattle.std.proofs.Common.{◌≡◌, ℕ, zero, suc, ◌-◌, List, [], ◌∷◌, ◌++◌, map, Option, Some, None, refl, sym, ap, ◌∙◌, arith}
use Rattle.df_tok.specs.Token.{Token}
use Rattle.df_tok.specs.declared.sign.Sign.TheVariants as signs
use Rattle.df_ntree.specs.declared.expr.Expr as declared
use Rattle.df_ntree.specs.declared.file.Parameter.{Parameter}
use Rattle.df_ntree.specs.Expr.{expr_of}
use Rattle.df_ntree.specs.File.{Clause, Statement, Expression, Branch, Declaration}
use Rattle.df_ntree.specs.FileSpelling.{spell_operand, spell_local, spell_parameter, spell_statement, spell_clause, spell_declaration, IsDeclaration}
use Rattle.df_ntree.specs.mirror.Reading.{◌>>=◌, Reader, all_of, kind_at, optionally, next_by, many, one_or_more, is_open, some_stands}
use Rattle.df_ntree.specs.mirror.FileReading.{else_if_stands, clause_stands, clause_at, operand_at, local_at, alone, parameter_at, else_if_by, statement_by, statement_at, block_by, block_at, declaration_at}
use Rattle.df_ntree.proofs.Repeat.{Shrinks, with_front, got, pair}
use Rattle.df_ntree.proofs.Readers.{Anything, Any, option_shrinks, comma_shrinks}
use Rattle.df_ntree.proofs.ExprTokens.{NoneContinues}
use Rattle.df_ntree.proofs.ExprLists.{AfterParts}
use Rattle.df_ntree.proofs.FileParts.{IsLowOperand, operand_reads, IsLowLocal, NoColon, local_reads, IsLowClause, clause_reads, clause_sibling}
use Rattle.df_ntree.proofs.FileStatements.{IsWithin, IsBranch, NotElse, statement_sibling}
use Rattle.df_ntree.proofs.FileNesting.{spell_else_if, else_if_reads, branch_sibling, levels}
use Rattle.df_ntree.proofs.FileLaw.{parameter_reads, declaration_reads, declaration_sibling, NoWitness}

-- ---- steps

pub operand_shrinks : (room : ℕ) → Shrinks (next_by (operand_at room))
operand_shrinks room = comma_shrinks (operand_at room) spell_operand (IsLowOperand room) NoneContinues (operand_reads room)

pub local_shrinks : (room : ℕ) → Shrinks (next_by (local_at room))
local_shrinks room = comma_shrinks (local_at room) spell_local (IsLowLocal room) NoColon (local_reads room)

pub parameter_shrinks : Shrinks (next_by parameter_at)
parameter_shrinks = comma_shrinks parameter_at spell_parameter (Anything {X = Parameter}) Any parameter_reads

abbrev pub clause_step : ℕ → Reader (Option Clause)
clause_step room = optionally clause_stands (clause_at room)

pub clause_shrinks : (room : ℕ) → Shrinks (clause_step room)
clause_shrinks room = option_shrinks clause_stands (clause_at room) spell_clause (IsLowClause room) AfterParts (clause_reads room) (clause_sibling room).long

abbrev pub statement_step : ℕ → Reader (Option Statement)
statement_step room = optionally (is_open signs.CloseBrace) (statement_at room)

pub statement_shrinks : (room : ℕ) → Shrinks (statement_step room)
statement_shrinks room = option_shrinks (is_open signs.CloseBrace) (statement_at room) spell_statement (IsWithin room) NotElse (levels room).statements (statement_sibling room).long

abbrev pub else_if_step : ℕ → Reader (Option Branch)
else_if_step room = optionally else_if_stands (else_if_by room (block_at room))

pub else_if_shrinks : (room : ℕ) → Shrinks (else_if_step room)
else_if_shrinks room = option_shrinks else_if_stands (else_if_by room (block_at room)) spell_else_if (IsBranch room) Any (else_if_reads room (block_at room) (levels room).blocks) (branch_sibling room).long

abbrev pub declaration_step : Reader (Option Declaration)
declaration_step = optionally some_stands declaration_at

pub declaration_shrinks : Shrinks declaration_step
declaration_shrinks = option_shrinks some_stands declaration_at spell_declaration IsDeclaration NoWitness declaration_reads declaration_sibling.long

-- ---- a row begins with one

same_row : {X : Type 0} (x : X) (o : Option (List X × List Token)) → (o >>= λ y. got ((x ∷ []) ++ y.0) y.1) ≡ ((o >>= λ y. got (pair x y.0) y.1) >>= λ z. got (z.0.0 ∷ z.0.1) z.1)
same_row x None = refl
same_row x (Some y) = refl

pub row_begins : {X : Type 0} (read : Reader X) (x : X) (tokens rest : List Token) → read tokens ≡ Some (x, rest)
    → with_front (x ∷ []) (all_of (next_by read) rest) ≡ one_or_more read tokens
unfolding one_or_more many
row_begins {X = X} read x tokens rest e =
    same_row x (all_of (next_by read) rest)
    ∙ sym (ap (λ (o : Option (X × List Token)). (o >>= λ y. all_of (next_by read) y.1 >>= λ z. got (pair y.0 z.0) z.1) >>= λ z. got (z.0.0 ∷ z.0.1) z.1) e)

-- the list that has one
pub row_starts : {X : Type 0} (read : Reader X) (x : X) (xs : List X) (tokens rest : List Token) → read tokens ≡ Some (x, rest) → xs ≡ x ∷ []
    → with_front xs (all_of (next_by read) rest) ≡ one_or_more read tokens
row_starts {X = X} read x xs tokens rest e is = ap (λ (l : List X). with_front l (all_of (next_by read) rest)) is ∙ row_begins read x tokens rest e

-- ---- rooms

pub no_statement : (room : ℕ) (tokens : List Token) → room ≡ 0 → statement_at room tokens ≡ None
unfolding statement_at
no_statement zero tokens h = refl
no_statement (suc room) tokens h = absurd (omega arith)

pub statement_is : (room : ℕ) (tokens : List Token) → (room ≡ 0 → ⊥) → statement_by (room - 1) (block_at room) (block_at (room - 1)) (kind_at tokens) tokens ≡ statement_at room tokens
unfolding statement_at
statement_is zero tokens h = absurd (h refl)
statement_is (suc room) tokens h =
    let e : suc room - 1 ≡ room = omega arith in
    ap (λ (n : ℕ). statement_by n (block_at (suc room)) (block_at n) (kind_at tokens) tokens) e

pub no_block : (room : ℕ) (tokens : List Token) → room ≡ 0 → block_at room tokens ≡ None
unfolding statement_at
no_block zero tokens h = refl
no_block (suc room) tokens h = absurd (omega arith)

pub block_is : (room : ℕ) (tokens : List Token) → (room ≡ 0 → ⊥) → block_by (statement_at (room - 1)) tokens ≡ block_at room tokens
unfolding statement_at
block_is zero tokens h = absurd (h refl)
block_is (suc room) tokens h =
    let e : suc room - 1 ≡ room = omega arith in
    ap (λ (n : ℕ). block_by (statement_at n) tokens) e

-- ---- the only expression

pub alone_is : (xs : List declared.Expr) (x : declared.Expr) → xs ≡ [] → alone (map expr_of (xs ++ x ∷ [])) ≡ Some (Expression (expr_of x))
alone_is [] x e = refl
alone_is (y ∷ xs) x e = absurd cc

pub not_alone : (xs : List declared.Expr) (x : declared.Expr) → (xs ≡ [] → ⊥) → alone (map expr_of (xs ++ x ∷ [])) ≡ None
not_alone [] x h = absurd (h refl)
not_alone (y ∷ []) x h = refl
not_alone (y ∷ z ∷ xs) x h = refl
