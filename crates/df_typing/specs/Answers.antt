-- What the calls of names and typing answer.
use Rattle.std.specs.Prelude.{◌≡◌, ℕ, List, [], ◌∷◌, ◌++◌, Option, Some, None}
use Rattle.df_base.specs.declared.pos.Pos.{Pos}
use Rattle.df_base.specs.declared.refusal.Refusal.{Refusal}
use Rattle.df_types.specs.Expr.{Expr}
use Rattle.df_types.specs.Program.{Program}
use Rattle.df_typing.specs.Tree.{Ast, Asts, Nil, Next}
use Rattle.df_typing.specs.Types.{Ty}
use Rattle.df_typing.specs.Table.{Entry, table_of}
use Rattle.df_typing.specs.Scope as scope
use Rattle.df_typing.specs.Scope.{Env, Inferred}
use Rattle.df_typing.specs.Sights.{Look, look, settle, Notes}
use Rattle.df_typing.specs.Here.{Enclosing, texts, Text}
use Rattle.df_typing.specs.Asks.{Placed, asked, asked_in}
use Rattle.df_typing.specs.Rules.{Fits}
use Rattle.df_typing.specs.Expressions.{pos_at, head_expr, expressions}
use Rattle.df_typing.specs.Least.{Fault, IsFault, IsLeast, IsFaultless, stage, code_of, detail_of}
use Rattle.df_typing.specs.Declarations.{Source, asked_of_file, program_of}

-- the refusal tells the fault
pub record Tells (positions : List Pos) (fault : Fault) (refusal : Refusal) : Type 0 where
  pub code : refusal.code ≡ code_of fault.rule
  pub pos : refusal.pos ≡ pos_at positions fault.place
  pub detail : refusal.detail ≡ detail_of fault

-- it tells the least that is broken, which is of the stage
pub record IsRefused (positions : List Pos) (asked : List Placed) (at_stage : ℕ) (refusal : Refusal) : Type 0 where
  pub fault : Fault
  pub least : IsLeast asked fault
  pub of_stage : stage fault.rule ≡ at_stage
  pub tells : Tells positions fault refusal

-- nothing of the stage is broken
abbrev pub IsFaultlessIn : ℕ → List Placed → Type 0
IsFaultlessIn at_stage asked = (fault : Fault) → IsFault asked fault → stage fault.rule ≡ at_stage → ⊥

-- ---- the names of a file

pub record IsTable (file : Asts) (table : List Entry) : Type 0 where
  pub named : IsFaultlessIn 0 (asked_of_file file)
  pub is : table ≡ table_of file

-- ---- the program of a file

pub record IsProgram (source : Source) (file : Asts) (program : Program) : Type 0 where
  pub faultless : IsFaultless (asked_of_file file)
  pub is : program ≡ program_of source file

-- ---- an expression by itself

-- where it stands
pub record Standing : Type 0 where
  pub table : List Entry
  pub around : scope.Around
  pub env : Env

abbrev pub seen_at : Standing → Ast → Look
seen_at at e = look at.table at.around [] at.env (Next e Nil)

-- what it declares itself has its types behind it
abbrev pub around_at : Standing → Ast → Enclosing
around_at at e = record { types = (seen_at at e).behind.types; results = [] }

abbrev pub asked_of_place : Option Ty → List (Option Ty) → List Text → List Placed
asked_of_place (Some place) (ty ∷ types) (text ∷ more) = asked text (Fits ty (Some place)) ∷ []
asked_of_place place types all = []

-- all that is asked of it, and that it goes to a place of the type, if one is given
abbrev pub asked_of_expression : Standing → Option Ty → Ast → List Placed
asked_of_expression at place e =
    asked_in at.table (around_at at e) (place ∷ []) (seen_at at e).notes
    ++ asked_of_place place (settle (seen_at at e).parts (place ∷ [])) (texts (seen_at at e).notes)

abbrev pub expression_of : List Pos → Standing → Option Ty → Ast → Expr
expression_of positions at place e = head_expr (expressions positions at.table (around_at at e) (place ∷ []) (place ∷ []) (seen_at at e).notes)

pub record IsExpression (positions : List Pos) (at : Standing) (place : Option Ty) (e : Ast) (made : Expr) : Type 0 where
  pub faultless : IsFaultless (asked_of_expression at place e)
  pub is : made ≡ expression_of positions at place e
