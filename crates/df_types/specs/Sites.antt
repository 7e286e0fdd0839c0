-- The numbers of places where something is handed in to a modular run: each has its own in its declaration.
use Rattle.std.specs.Prelude.{ℕ, Bool, true, not, ◌&&◌, ◌==◌, List, [], ◌∷◌, ◌++◌, Option, None, Some}
use Rattle.std.specs.List.{flat_map, list_any, list_all}
use Rattle.df_types.specs.declared.expr.Quantifier.TheVariants.{Exists}
use Rattle.df_types.specs.Aims.{quantified, known_behind}
use Rattle.df_types.specs.Expr.{Expr, Local, Bound, Apply, Junction, Chain, If, Let, Call, Quantify, Old}
use Rattle.df_types.specs.Stmt.{Source, Single, Results, NewArray, Update, Stmt, Declare, Assign, Choose, Branch, While, Break, Return, Check, Prove, Print, Publish, Ghost}
use Rattle.df_types.specs.Program.{Decl, NewtypeDecl, DatatypeDecl, ClassDecl, FunctionDecl, MethodDecl}
use Rattle.df_types.specs.Gathering.{gather, gather_stmts, contract_expressions}

abbrev pub is_in : ℕ → List ℕ → Bool
is_in n ns = list_any (λ k. k == n) ns

abbrev pub are_distinct : List ℕ → Bool
are_distinct [] = true
are_distinct (n ∷ ns) = not (is_in n ns) && are_distinct ns

-- ---- quantifiers: their numbers are apart from those inside them; copies of one may stand beside one another

abbrev pub quantifier_at : Expr → List ℕ
quantifier_at (Local local name at) = []
quantifier_at (Bound index name at) = []
quantifier_at (Apply op at es) = []
quantifier_at (Junction connective first rest) = []
quantifier_at (Chain ty first rest) = []
quantifier_at (If ty arms otherwise) = []
quantifier_at (Let variable is_ghost value body) = []
quantifier_at (Call callee types at es) = []
quantifier_at (Quantify site at quantifier variable extent triggers body) = site ∷ []
quantifier_at (Old at e) = []

abbrev pub apart_at : Expr → List Bool
apart_at (Local local name at) = []
apart_at (Bound index name at) = []
apart_at (Apply op at es) = []
apart_at (Junction connective first rest) = []
apart_at (Chain ty first rest) = []
apart_at (If ty arms otherwise) = []
apart_at (Let variable is_ghost value body) = []
apart_at (Call callee types at es) = []
apart_at (Quantify site at quantifier variable extent triggers body) = not (is_in site (gather quantifier_at body)) ∷ []
apart_at (Old at e) = []

-- the expressions of a statement, with the quantifiers that it makes
abbrev pub quantified_by : Stmt → List Expr
quantified_by (Declare locals) = []
quantified_by (Assign update) = []
quantified_by (Choose site at targets ranges condition) = quantified Exists site at ranges condition ∷ []
quantified_by (Branch branches otherwise) = []
quantified_by (While site at guard invariants decreases body) = []
quantified_by (Break at) = []
quantified_by (Return at update) = []
quantified_by (Check demand) = []
quantified_by (Prove site at aim body) = known_behind site at aim
quantified_by (Print at operands) = []
quantified_by (Publish site at class fields this) = []
quantified_by (Ghost body) = []

abbrev pub apart_by : Stmt → List Bool
apart_by stmt = flat_map (gather apart_at) (quantified_by stmt)

-- ---- calls, loops, choices, proofs and new objects: each has its own

abbrev pub site_of_source : Source → List ℕ
site_of_source (Single ty value) = []
site_of_source (Results call conversions) = call.site ∷ []
site_of_source (NewArray site element at size elements) = site ∷ []

abbrev pub sites_of_update : Option Update → List ℕ
sites_of_update None = []
sites_of_update (Some update) = flat_map site_of_source update.sources

abbrev pub sites_by : Stmt → List ℕ
sites_by (Declare locals) = []
sites_by (Assign update) = sites_of_update (Some update)
sites_by (Choose site at targets ranges condition) = site ∷ []
sites_by (Branch branches otherwise) = []
sites_by (While site at guard invariants decreases body) = site ∷ []
sites_by (Break at) = []
sites_by (Return at update) = sites_of_update update
sites_by (Check demand) = []
sites_by (Prove site at aim body) = site ∷ []
sites_by (Print at operands) = []
sites_by (Publish site at class fields this) = site ∷ []
sites_by (Ghost body) = []

abbrev pub sites : Decl → List ℕ
sites (NewtypeDecl x) = []
sites (DatatypeDecl x) = []
sites (ClassDecl x) = []
sites (FunctionDecl f) = []
sites (MethodDecl m) = gather_stmts (λ e. []) sites_by m.body

abbrev pub apart : Decl → List Bool
apart (NewtypeDecl x) = []
apart (DatatypeDecl x) = []
apart (ClassDecl x) = []
apart (FunctionDecl f) = flat_map (gather apart_at) (contract_expressions f.head) ++ gather apart_at f.value
apart (MethodDecl m) = flat_map (gather apart_at) (contract_expressions m.head) ++ gather_stmts apart_at apart_by m.body

-- at 0 the arguments of the declaration are handed in
abbrev pub have_sites : Decl → Bool
have_sites decl = are_distinct (0 ∷ sites decl) && list_all (λ b. b) (apart decl)
