-- An environment and the locals of a program: what the one knows of types stands in the other.
use Rattle.std.proofs.Common.{◌≡◌, ℕ, ◌<◌, ◌≤◌, true, List, length, Some, None, sym, ap, ◌∙◌, arith}
use Rattle.std.specs.Prelude.{slice_get}
use Rattle.std.proofs.lemmas.Option.{same_Some}
use Rattle.df_lemmas.proofs.Lists.{get_below}
use Rattle.df_lang.specs.declared.ty.Ty.{Ty}
use Rattle.df_lang.specs.declared.ty.Ty.TheVariants as types
use Rattle.df_lang.specs.Typing.{is_type, is_expr}
use Rattle.df_lang.specs.Expr as typed
use Rattle.df_lang.specs.Program.{Method, Program}
use Rattle.df_ntree.specs.Expr.{Expr}
use Rattle.df_ntree.specs.ExprSpelling.{IsExpr}
use Rattle.df_ntyping.specs.Environment.{Inferred, Environment, fixed_type, enter}
use Rattle.df_ntyping.specs.ExprElaboration.{Elaborates, ElaboratesAt, ElaboratesTruth}
use Rattle.df_ntyping.specs.Laws.{LocalsHold}
use Rattle.df_ntyping.proofs.Types.{one_type}
use Rattle.df_ntyping.proofs.WellTyped.{known_valid, place_converts}
use Rattle.df_ntyping.proofs.TypedIsWellTyped.{converted, typed_is_well_typed}
use Rattle.df_ntyping.proofs.KnownTypes.{TableHolds, AllKnown, known_at, type_known}
use Rattle.df_ntyping.proofs.ScopedLocals.{IsScoped, found_in_scope, enter_scoped}
use Rattle.df_ntyping.proofs.Ranges.{InRange}

-- the types of the program's locals are those that are fixed
pub record HaveTypes (all : List Inferred) (locals : List Ty) : Type 0 where
  pub same : (k : ℕ) (ty : Ty) → slice_get locals k ≡ Some ty → fixed_type (slice_get all k) ≡ Some ty

pub record Fits (program : Program) (method : Method) (env : Environment) (locals : List Ty) : Type 0 where
  pub table : TableHolds program env.table
  pub types : AllKnown program env.types
  pub scoped : IsScoped (length method.parameters) env
  pub wide : env.next ≤ length locals
  pub same : HaveTypes env.types locals

-- the type that is fixed is that of the program's local
pub same_at : (all : List Inferred) (locals : List Ty) (k : ℕ) (ty : Ty) → HaveTypes all locals → k < length locals → fixed_type (slice_get all k) ≡ Some ty → slice_get locals k ≡ Some ty
same_at all locals k ty h lt p =
    let (found, q) = get_below locals k lt in
    let e : found ≡ ty = same_Some found ty (sym (h.same k found q) ∙ p) in
    q ∙ ap (λ (x : Ty). Some x) e

pub type_at : (program : Program) (all : List Inferred) (k : ℕ) (ty : Ty) → AllKnown program all → fixed_type (slice_get all k) ≡ Some ty → is_type program ty ≡ true
type_at program all k ty h p = known_valid program ty (fixed_type (slice_get all k)) (known_at program all h k) p

pub locals_hold : (program : Program) (method : Method) (env : Environment) (locals : List Ty) → Fits program method env locals → LocalsHold program env locals
locals_hold program method env locals h name local ty means p =
    let below = (found_in_scope (length method.parameters) env name local h.scoped means).below in
    let wide = h.wide in
    (same_at env.types locals local.number ty h.same (omega arith) p, type_at program env.types local.number ty h.types p)

pub enter_fits : (program : Program) (method : Method) (env : Environment) (locals : List Ty) → Fits program method env locals → Fits program method (enter env) locals
enter_fits program method env locals h = record { table = h.table; types = h.types; scoped = enter_scoped (length method.parameters) env h.scoped; wide = h.wide; same = h.same }

-- ---- expressions

pub expr_good : (program : Program) (method : Method) (env : Environment) (locals : List Ty) (e : Expr) (ty : Ty) (t : typed.Expr) → Fits program method env locals → InRange e → Elaborates env None e ty t → is_expr program locals ty t ≡ true
expr_good program method env locals e ty t h r k = typed_is_well_typed program env locals None e ty t h.table.newtypes (locals_hold program method env locals h) tt r k

-- and the type is one of the program
pub expr_type : (program : Program) (method : Method) (env : Environment) (locals : List Ty) (e : Expr) (ty : Ty) (t : typed.Expr) → Fits program method env locals → IsExpr e → Elaborates env None e ty t → is_type program ty ≡ true
expr_type program method env locals e ty t h g k = known_valid program ty _ (type_known program env e h.table h.types) (one_type env None e ty t g k)

pub truth_good : (program : Program) (method : Method) (env : Environment) (locals : List Ty) (e : Expr) (t : typed.Expr) → Fits program method env locals → InRange e → ElaboratesTruth env e t → is_expr program locals types.Bool t ≡ true
truth_good program method env locals e t h r k = expr_good program method env locals e types.Bool t h r k

pub at_good : (program : Program) (method : Method) (env : Environment) (locals : List Ty) (place : Ty) (e : Expr) (t : typed.Expr) → Fits program method env locals → is_type program place ≡ true → InRange e → ElaboratesAt env place e t
    → is_expr program locals place t ≡ true
at_good program method env locals place e t h valid r (source, inner, k, fits, conversion) =
    converted program locals source place e inner t conversion
    (typed_is_well_typed program env locals (Some place) e source inner h.table.newtypes (locals_hold program method env locals h) valid r k)
    (λ p. place_converts source place fits)
