-- Elaboration of calls, left and right sides: rules on source and typed program side by side.
use Rattle.std.specs.Prelude.{◌≡◌, ℕ, true, false, List, [], ◌∷◌, map, Option, Some, Bool}
use Rattle.df_base.specs.declared.pos.Pos.{Pos}
use Rattle.df_lang.specs.declared.ty.Ty.{Ty}
use Rattle.df_lang.specs.Expr as typed_expr
use Rattle.df_lang.specs.Stmt as typed
use Rattle.df_ntree.specs.Expr.{Expr, Name, Call, Arguments, no_more, argument}
use Rattle.df_ntyping.specs.Types.{fits_or_narrows}
use Rattle.df_ntyping.specs.Table.{Signature}
use Rattle.df_ntyping.specs.Environment.{Local, Environment, local_type, Role, Parameter_role}
use Rattle.df_ntyping.specs.Meaning.{TheLocal, TheMethod, Means}
use Rattle.df_ntyping.specs.ExprElaboration.{ElaboratesAt}

-- ---- calls

-- an argument for each parameter
abbrev pub AreArguments : Environment → List (Option Ty) → Arguments → List typed_expr.Expr → Type 0
AreArguments env [] no_more all = all ≡ []
AreArguments env [] (argument e rest) all = ⊥
AreArguments env (parameter ∷ parameters) no_more all = ⊥
AreArguments env (parameter ∷ parameters) (argument e rest) all =
    (ty : Ty) × (one : typed_expr.Expr) × (others : List typed_expr.Expr)
    × (parameter ≡ Some ty) × ElaboratesAt env ty e one × AreArguments env parameters rest others × (all ≡ one ∷ others)

-- a method is called by its name
abbrev pub IsCall : Environment → Expr → Arguments → Signature → typed.Call → Type 0
IsCall env (Name ident) arguments signature call =
    (id : ℕ) × (all : List typed_expr.Expr) × Means env ident.name (TheMethod id signature) × AreArguments env signature.parameters arguments all
    × (call ≡ record { callee = id; name = ident.name; pos = ident.pos; arguments = all })
IsCall env callee arguments signature call = ⊥

-- ---- right sides

-- results of these types go to places of those
abbrev pub AreResults : List (Option Ty) → List Ty → List typed.Conversion → Type 0
AreResults [] [] all = all ≡ []
AreResults [] (place ∷ places) all = ⊥
AreResults (result ∷ results) [] all = ⊥
AreResults (result ∷ results) (place ∷ places) all =
    (source : Ty) × (others : List typed.Conversion)
    × (result ≡ Some source) × (fits_or_narrows source place ≡ true) × AreResults results places others × (all ≡ record { source = source; target = place } ∷ others)

-- one value, or the results of a call
abbrev pub IsSource : Environment → List Ty → Expr → typed.Source → Type 0
IsSource env places (Call callee arguments) source =
    (signature : Signature) × (call : typed.Call) × (results : List typed.Conversion)
    × IsCall env callee arguments signature call × AreResults signature.results places results × (source ≡ typed.Results call results)
IsSource env (place ∷ []) e source = (value : typed_expr.Expr) × ElaboratesAt env place e value × (source ≡ typed.Single place value)
IsSource env places e source = ⊥

abbrev pub AreApart : Environment → List Ty → List Expr → List typed.Source → Type 0
AreApart env [] [] sources = sources ≡ []
AreApart env [] (value ∷ values) sources = ⊥
AreApart env (place ∷ places) [] sources = ⊥
AreApart env (place ∷ places) (value ∷ values) sources =
    (one : typed.Source) × (others : List typed.Source) × IsSource env (place ∷ []) value one × AreApart env places values others × (sources ≡ one ∷ others)

-- one right side gives all values, of several each gives one
abbrev pub AreSources : Environment → List Ty → List Expr → List typed.Source → Type 0
AreSources env places (value ∷ []) sources = (one : typed.Source) × IsSource env places value one × (sources ≡ one ∷ [])
AreSources env places values sources = AreApart env places values sources

-- ---- left sides

abbrev pub types_of_targets : List typed.Target → List Ty
types_of_targets targets = map (λ (target : typed.Target). target.ty) targets

abbrev pub keeps_its_value : Role → Bool
keeps_its_value Parameter_role = true
keeps_its_value role = false

-- a local or a result, which is no parameter
abbrev pub IsTarget : Environment → Expr → typed.Target → Type 0
IsTarget env (Name ident) target =
    (local : Local) × (ty : Ty) × Means env ident.name (TheLocal local) × (keeps_its_value local.role ≡ false) × (local_type env local.number ≡ Some ty)
    × (target ≡ record { local = local.number; name = ident.name; pos = ident.pos; ty = ty })
IsTarget env e target = ⊥

abbrev pub AreTargets : Environment → List Expr → List typed.Target → Type 0
AreTargets env [] targets = targets ≡ []
AreTargets env (e ∷ others) targets =
    (one : typed.Target) × (rest : List typed.Target) × IsTarget env e one × AreTargets env others rest × (targets ≡ one ∷ rest)

-- results as what a `return` at a position gives
abbrev pub AreReturned : Environment → Pos → List Local → List typed.Target → Type 0
AreReturned env pos [] targets = targets ≡ []
AreReturned env pos (result ∷ others) targets =
    (ty : Ty) × (rest : List typed.Target) × (local_type env result.number ≡ Some ty) × AreReturned env pos others rest
    × (targets ≡ record { local = result.number; name = result.name; pos = pos; ty = ty } ∷ rest)
