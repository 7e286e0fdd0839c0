-- Clauses, expressions and measures over terms of locals.
use Rattle.std.specs.Prelude.{◌≡◌, ℕ, true, List, Option, None, Some}
use Rattle.df_base.specs.declared.pos.Pos.{Pos}
use Rattle.df_lang.specs.declared.ty.Ty.{Ty}
use Rattle.df_lang.specs.Expr.{Expr}
use Rattle.df_lang.specs.Stmt.{Clause}
use Rattle.df_lang.specs.Program.{Program}
use Rattle.df_lang.specs.Typing.{are_clauses, are_exprs}
use Rattle.df_form.specs.Node.{Node}
use Rattle.df_nenc.specs.Standing.{AreLocals}
use Rattle.df_npass.specs.Statements.{at_clause}

-- at this place, or where each begins
abbrev pub place_at : Option Pos → Clause → Pos
place_at None = at_clause
place_at (Some at) = λ clause. at

-- clauses that are well typed over locals that have terms
pub record AreClauses (nodes : List Node) (terms : List ℕ) (clauses : List Clause) : Type 0 where
  pub program : Program
  pub types : List Ty
  pub typed : are_clauses program types clauses ≡ true
  pub locals : AreLocals nodes types terms

-- expressions that are well typed over locals that have terms
pub record AreValues (nodes : List Node) (terms : List ℕ) (exprs : List Expr) : Type 0 where
  pub program : Program
  pub types : List Ty
  pub tys : List Ty
  pub typed : are_exprs program types tys exprs ≡ true
  pub locals : AreLocals nodes types terms
