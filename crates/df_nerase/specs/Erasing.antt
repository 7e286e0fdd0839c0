-- The program without ghosts. Contracts, assertions, invariants and measures are dropped, types become ranges and kinds,
-- locals keep their numbers, and methods are numbered by themselves.
use Rattle.std.specs.Prelude.{ℕ, List, [], ◌∷◌, map, length, take, Option, None, Some, if◌then◌else◌}
use Rattle.std.specs.Option.{option_map, option_map_or}
use Rattle.df_lang.specs.declared.ty.Ty.{Ty}
use Rattle.df_lang.specs.declared.ty.Ty.TheVariants as types
use Rattle.df_lang.specs.Newtype.{Newtype, is_unbounded}
use Rattle.df_lang.specs.Expr as source
use Rattle.df_lang.specs.Stmt as source_stmt
use Rattle.df_lang.specs.Program.{Param, Method, Decl, NewtypeDecl, MethodDecl, Program, newtype_at}
use Rattle.df_nplain.specs.Kind.{Range, Between, Unbounded, Kind}
use Rattle.df_nplain.specs.Kind as kinds
use Rattle.df_nplain.specs.Expr as plain
use Rattle.df_nplain.specs.Stmt as plain_stmt
use Rattle.df_nplain.specs.Plain as plain_program
use Rattle.df_nplain.specs.Plain.{Plain}
use Rattle.df_meaning.specs.Value.{Value}

-- ---- Types and numbers.

-- the interval of a newtype; other numbers have no bounds
abbrev pub range_of : Program → Ty → Range
range_of program (types.Newtype id) = option_map_or (λ (newtype : Newtype). Between newtype.low newtype.high) (newtype_at program id) Unbounded
range_of program ty = Unbounded

abbrev pub kind_of : Program → Ty → Kind
kind_of program types.Bool = kinds.Truth
kind_of program types.Char = kinds.Character
kind_of program ty = kinds.Number (range_of program ty)

-- the methods among declarations, in their order
abbrev pub methods_among : List Decl → List Method
methods_among [] = []
methods_among (NewtypeDecl newtype ∷ others) = methods_among others
methods_among (MethodDecl method ∷ others) = method ∷ methods_among others

-- the number of a method: how many come before it
abbrev pub method_number : Program → ℕ → ℕ
method_number program id = length (methods_among (take id program.decls))

-- ---- Expressions.

abbrev mutual
  -- a conversion keeps the value
  pub erase_expr : Program → source.Expr → plain.Expr
  erase_expr p (source.Number ty value pos) = plain.Number value
  erase_expr p (source.Truth value pos) = plain.Truth value
  erase_expr p (source.Character code pos) = plain.Character code
  erase_expr p (source.Local local name pos) = plain.Local local
  erase_expr p (source.Negate ty pos operand) = plain.Negate (range_of p ty) (erase_expr p operand)
  erase_expr p (source.Not pos operand) = plain.Not (erase_expr p operand)
  erase_expr p (source.Sum ty first rest) = plain.Sum (range_of p ty) (erase_expr p first) (erase_addends p rest)
  erase_expr p (source.Product ty first rest) = plain.Product (range_of p ty) (erase_expr p first) (erase_factors p rest)
  erase_expr p (source.Junction junction first rest) = plain.Junction junction (erase_expr p first) (erase_members p rest)
  erase_expr p (source.Implies arrow first rest) = plain.Implies (erase_expr p first) (erase_members p rest)
  erase_expr p (source.Iff first rest) = plain.Iff (erase_expr p first) (erase_members p rest)
  erase_expr p (source.Chain ty first rest) = plain.Chain (erase_expr p first) (erase_links p rest)
  erase_expr p (source.As from target pos operand) = plain.As (kind_of p from) (kind_of p target) (erase_expr p operand)
  erase_expr p (source.Convert from target pos operand) = erase_expr p operand

  pub erase_addends : Program → source.Addends → plain.Addends
  erase_addends p source.no_addend = plain.no_addend
  erase_addends p (source.addend operator pos operand rest) = plain.addend operator (erase_expr p operand) (erase_addends p rest)

  pub erase_factors : Program → source.Factors → plain.Factors
  erase_factors p source.no_factor = plain.no_factor
  erase_factors p (source.factor operator pos operand rest) = plain.factor operator (erase_expr p operand) (erase_factors p rest)

  pub erase_members : Program → source.Members → plain.Members
  erase_members p source.no_member = plain.no_member
  erase_members p (source.member pos operand rest) = plain.member (erase_expr p operand) (erase_members p rest)

  pub erase_links : Program → source.Links → plain.Links
  erase_links p source.no_link = plain.no_link
  erase_links p (source.link comparison pos operand rest) = plain.link comparison (erase_expr p operand) (erase_links p rest)

-- ---- Statements.

abbrev pub erase_operand : Program → source_stmt.Operand → plain_stmt.Operand
erase_operand p (source_stmt.Text characters) = plain_stmt.Text characters
erase_operand p (source_stmt.Value ty value) = plain_stmt.Value (kind_of p ty) (erase_expr p value)

abbrev pub erase_call : Program → source_stmt.Call → plain_stmt.Call
erase_call p call = record { callee = method_number p call.callee; arguments = map (erase_expr p) call.arguments }

abbrev pub erase_source : Program → source_stmt.Source → plain_stmt.Source
erase_source p (source_stmt.Single ty value) = plain_stmt.Single (erase_expr p value)
erase_source p (source_stmt.Results call results) = plain_stmt.Results (erase_call p call)

abbrev pub erase_update : Program → source_stmt.Update → plain_stmt.Update
erase_update p update = record { targets = map (λ (target : source_stmt.Target). target.local) update.targets; sources = map (erase_source p) update.sources }

abbrev pub erase_variable : Program → source_stmt.Variable → plain_stmt.Variable
erase_variable p variable = record { local = variable.local; kind = kind_of p variable.ty }

-- a statement, if it is left, before others
abbrev pub kept : Option plain_stmt.Stmt → plain_stmt.Stmts → plain_stmt.Stmts
kept None others = others
kept (Some stmt) others = plain_stmt.next stmt others

abbrev mutual
  pub erase_stmt : Program → source_stmt.Stmt → Option plain_stmt.Stmt
  erase_stmt p (source_stmt.Block pos body) = Some (plain_stmt.Block (erase_stmts p body))
  erase_stmt p (source_stmt.Var pos variables update) = Some (plain_stmt.Var (map (erase_variable p) variables) (option_map (erase_update p) update))
  erase_stmt p (source_stmt.Assign pos update) = Some (plain_stmt.Assign (erase_update p update))
  erase_stmt p (source_stmt.CallOf call) = Some (plain_stmt.CallOf (erase_call p call))
  erase_stmt p (source_stmt.If branches otherwise) = Some (plain_stmt.If (erase_branches p branches) (erase_stmts p otherwise))
  erase_stmt p (source_stmt.While pos guard invariants decreases body) = Some (plain_stmt.While (erase_expr p guard) (erase_stmts p body))
  erase_stmt p (source_stmt.Break pos) = Some plain_stmt.Break
  erase_stmt p (source_stmt.Return pos update) = Some (plain_stmt.Return (option_map (erase_update p) update))
  erase_stmt p (source_stmt.Assert pos condition) = None
  erase_stmt p (source_stmt.Print pos operands) = Some (plain_stmt.Print (map (erase_operand p) operands))

  pub erase_stmts : Program → source_stmt.Stmts → plain_stmt.Stmts
  erase_stmts p source_stmt.done = plain_stmt.done
  erase_stmts p (source_stmt.next stmt others) = kept (erase_stmt p stmt) (erase_stmts p others)

  pub erase_branches : Program → source_stmt.Branches → plain_stmt.Branches
  erase_branches p source_stmt.no_branch = plain_stmt.no_branch
  erase_branches p (source_stmt.branch pos guard body rest) = plain_stmt.branch (erase_expr p guard) (erase_stmts p body) (erase_branches p rest)

-- ---- Declarations.

abbrev pub kinds_of : Program → List Param → List Kind
kinds_of p params = map (λ (param : Param). kind_of p param.ty) params

abbrev pub erase_method : Program → Method → plain_program.Method
erase_method p m = record { text = m.declared.text; parameters = kinds_of p m.parameters; results = kinds_of p m.results; body = erase_stmts p m.body }

-- the program without ghosts: its methods, in their order
abbrev pub erased : Program → Plain
erased p = record { methods = map (erase_method p) (methods_among p.decls) }

-- The values of places, one for each. Those of ghosts are dropped, and the others stay what they are: truths, characters
-- and numbers. There are such values where the compiled places keep the rule on their types.
abbrev pub lower : List Param → List Value → Option (List Value)
lower [] [] = Some []
lower [] (value ∷ others) = None
lower (param ∷ more) [] = None
lower (param ∷ more) (value ∷ others) =
    if param.is_ghost then lower more others
    else if is_unbounded param.ty then None
    else option_map (λ (kept : List Value). value ∷ kept) (lower more others)
