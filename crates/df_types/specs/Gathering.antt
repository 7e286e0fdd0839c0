-- What is gathered from the nodes of expressions and statements. Triggers are never evaluated, and nothing is gathered from them.
use Rattle.std.specs.Prelude.{List, [], ◌∷◌, ◌++◌, Option, None, Some}
use Rattle.std.specs.List.{flat_map}
use Rattle.df_types.specs.Expr.{Expr, Local, Bound, Apply, Junction, Chain, If, Let, Call, Quantify, Old, Exprs, no_expr, expr, Links, no_link, link, Arms, no_arm, arm, Extent, Between, Among}
use Rattle.df_types.specs.Stmt.{Demand, Typed, Target, Nowhere, LocalAt, FieldAt, ElementAt, Source, Single, Results, NewArray, Update, Range, Stmt, Declare, Assign, Choose, Branch, While, Break, Return, Check, Prove, Print, Publish, Ghost, Stmts, done, next, Branches, no_branch, branch}
use Rattle.df_types.specs.Program.{Head}

-- ---- expressions: what each node has, and its parts in the order of evaluation

abbrev mutual
  pub gather : {A : Type 0} → (Expr → List A) → Expr → List A
  gather own (Local local name at) = own (Local local name at)
  gather own (Bound index name at) = own (Bound index name at)
  gather own (Apply op at es) = own (Apply op at es) ++ gather_all own es
  gather own (Junction connective first rest) = own (Junction connective first rest) ++ (gather own first ++ gather_all own rest)
  gather own (Chain ty first rest) = own (Chain ty first rest) ++ (gather own first ++ gather_links own rest)
  gather own (If ty arms otherwise) = own (If ty arms otherwise) ++ (gather_arms own arms ++ gather own otherwise)
  gather own (Let variable is_ghost value body) = own (Let variable is_ghost value body) ++ (gather own value ++ gather own body)
  gather own (Call callee types at es) = own (Call callee types at es) ++ gather_all own es
  gather own (Quantify site at quantifier variable extent triggers body) = own (Quantify site at quantifier variable extent triggers body) ++ (gather_extent own extent ++ gather own body)
  gather own (Old at e) = own (Old at e) ++ gather own e

  pub gather_all : {A : Type 0} → (Expr → List A) → Exprs → List A
  gather_all own no_expr = []
  gather_all own (expr e es) = gather own e ++ gather_all own es

  pub gather_links : {A : Type 0} → (Expr → List A) → Links → List A
  gather_links own no_link = []
  gather_links own (link comparison at e rest) = gather own e ++ gather_links own rest

  pub gather_arms : {A : Type 0} → (Expr → List A) → Arms → List A
  gather_arms own no_arm = []
  gather_arms own (arm guard value rest) = gather own guard ++ (gather own value ++ gather_arms own rest)

  pub gather_extent : {A : Type 0} → (Expr → List A) → Extent → List A
  gather_extent own (Between ty low low_strict high high_strict) = gather own low ++ gather own high
  gather_extent own (Among ty container) = gather own container

-- ---- the expressions of a statement

abbrev pub of_demands : List Demand → List Expr
of_demands [] = []
of_demands (d ∷ ds) = d.condition ∷ of_demands ds

abbrev pub of_typed : List Typed → List Expr
of_typed [] = []
of_typed (x ∷ xs) = x.value ∷ of_typed xs

abbrev pub of_optional : Option (List Typed) → List Expr
of_optional None = []
of_optional (Some xs) = of_typed xs

abbrev pub of_exprs : Exprs → List Expr
of_exprs no_expr = []
of_exprs (expr e es) = e ∷ of_exprs es

abbrev pub of_elements : Option Exprs → List Expr
of_elements None = []
of_elements (Some es) = of_exprs es

abbrev pub of_target : Target → List Expr
of_target (Nowhere ty) = []
of_target (LocalAt local name at ty) = []
of_target (FieldAt object class field at ty) = object ∷ []
of_target (ElementAt array index at ty) = array ∷ index ∷ []

abbrev pub of_source : Source → List Expr
of_source (Single ty value) = value ∷ []
of_source (Results call conversions) = of_exprs call.arguments
of_source (NewArray site element at size elements) = size ∷ of_elements elements

abbrev pub of_update : Option Update → List Expr
of_update None = []
of_update (Some update) = flat_map of_target update.targets ++ flat_map of_source update.sources

abbrev pub of_extent : Extent → List Expr
of_extent (Between ty low low_strict high high_strict) = low ∷ high ∷ []
of_extent (Among ty container) = container ∷ []

abbrev pub of_range : Range → List Expr
of_range range = of_extent range.extent

abbrev pub of_given : Option Expr → List Expr
of_given None = []
of_given (Some e) = e ∷ []

-- those of the statement itself, not of the statements in it
abbrev pub expressions_of : Stmt → List Expr
expressions_of (Declare locals) = []
expressions_of (Assign update) = of_update (Some update)
expressions_of (Choose site at targets ranges condition) = flat_map of_target targets ++ (flat_map of_range ranges ++ condition ∷ [])
expressions_of (Branch branches otherwise) = []
expressions_of (While site at guard invariants decreases body) = guard ∷ of_demands invariants ++ of_optional decreases
expressions_of (Break at) = []
expressions_of (Return at update) = of_update update
expressions_of (Check demand) = demand.condition ∷ []
expressions_of (Prove site at aim body) = flat_map of_range aim.ranges ++ (of_given aim.given ++ of_demands aim.claims)
expressions_of (Print at operands) = of_typed operands
expressions_of (Publish site at class fields this) = []
expressions_of (Ghost body) = []

-- ---- statements: what each has itself, and what its expressions have

abbrev mutual
  pub gather_stmt : {A : Type 0} → (Expr → List A) → (Stmt → List A) → Stmt → List A
  gather_stmt own mine (Declare locals) = mine (Declare locals)
  gather_stmt own mine (Assign update) = mine (Assign update) ++ flat_map (gather own) (expressions_of (Assign update))
  gather_stmt own mine (Choose site at targets ranges condition) = mine (Choose site at targets ranges condition) ++ flat_map (gather own) (expressions_of (Choose site at targets ranges condition))
  gather_stmt own mine (Branch branches otherwise) = mine (Branch branches otherwise) ++ (gather_branches own mine branches ++ gather_stmts own mine otherwise)
  gather_stmt own mine (While site at guard invariants decreases body) =
      mine (While site at guard invariants decreases body) ++ (flat_map (gather own) (expressions_of (While site at guard invariants decreases body)) ++ gather_stmts own mine body)
  gather_stmt own mine (Break at) = mine (Break at)
  gather_stmt own mine (Return at update) = mine (Return at update) ++ flat_map (gather own) (expressions_of (Return at update))
  gather_stmt own mine (Check demand) = mine (Check demand) ++ flat_map (gather own) (expressions_of (Check demand))
  gather_stmt own mine (Prove site at aim body) = mine (Prove site at aim body) ++ (flat_map (gather own) (expressions_of (Prove site at aim body)) ++ gather_stmts own mine body)
  gather_stmt own mine (Print at operands) = mine (Print at operands) ++ flat_map (gather own) (expressions_of (Print at operands))
  gather_stmt own mine (Publish site at class fields this) = mine (Publish site at class fields this)
  gather_stmt own mine (Ghost body) = mine (Ghost body) ++ gather_stmts own mine body

  pub gather_stmts : {A : Type 0} → (Expr → List A) → (Stmt → List A) → Stmts → List A
  gather_stmts own mine done = []
  gather_stmts own mine (next stmt others) = gather_stmt own mine stmt ++ gather_stmts own mine others

  pub gather_branches : {A : Type 0} → (Expr → List A) → (Stmt → List A) → Branches → List A
  gather_branches own mine no_branch = []
  gather_branches own mine (branch guard body rest) = gather own guard ++ (gather_stmts own mine body ++ gather_branches own mine rest)

-- ---- the expressions of contracts

abbrev pub contract_expressions : Head → List Expr
contract_expressions head = of_demands head.preconditions ++ (of_typed head.frame ++ (of_optional head.decreases ++ of_demands head.postconditions))
