-- Left and right sides that elaborate break no rule of types.
use Rattle.std.proofs.Common.{◌≡◌, ℕ, suc, ◌+◌, true, List, [], ◌∷◌, length, Option, Some, None, refl, ap}
use Rattle.std.specs.List.{AllByRecursion, list_all}
use Rattle.df_lemmas.proofs.Numbers.{equal_self}
use Rattle.df_lang.specs.declared.ty.Ty.{Ty}
use Rattle.df_lang.specs.declared.ty.Ty.TheVariants as types
use Rattle.df_lang.specs.Expr as typed_expr
use Rattle.df_lang.specs.Stmt as typed
use Rattle.df_ntree.specs.Expr.{Expr, Name, Call, Arguments, no_more, argument}
use Rattle.df_ntree.specs.ExprSpelling.{IsExpr, AreArguments as AreTreeArguments}
use Rattle.df_ntyping.specs.Table.{Signature}
use Rattle.df_ntyping.specs.Environment.{Environment}
use Rattle.df_ntyping.specs.Meaning.{called_signature}
use Rattle.df_ntyping.specs.LocalTypes.{values_of, is_count, are_enough, results_of_call, place_type, place_types}
use Rattle.df_ntyping.specs.ExprNodes.{width, count, expr_nodes, argument_nodes, value_nodes, condition_nodes, call_nodes}
use Rattle.df_ntyping.specs.StatementNodes.{place_nodes, all_places, source_nodes, sources_apart, sources_nodes}
use Rattle.df_ntyping.specs.ExprElaboration.{Elaborates, ElaboratesAt, ElaboratesTruth}
use Rattle.df_ntyping.specs.SideElaboration.{IsCall, AreArguments, AreResults, IsSource, AreApart, AreSources, IsTarget, AreTargets, types_of_targets}
use Rattle.df_ntyping.specs.rules.Values.{are_given}
use Rattle.df_ntyping.proofs.Types.{one_type}
use Rattle.df_ntyping.proofs.Silent.{typed_is_faultless}
use Rattle.df_ntyping.proofs.KnownTypes.{known}
use Rattle.df_ntyping.proofs.AllNodes.{none, front, only, both}
use Rattle.df_ntyping.proofs.MovedNodes.{expr_moved}
use Rattle.df_ntyping.proofs.SoundNodes as kinds
use Rattle.df_ntyping.proofs.SoundNodes.{AllSound, sound, sound_of}

-- ---- whole expressions

pub expr_sound : (env : Environment) (expected : Option Ty) (start : ℕ) (e : Expr) (ty : Ty) (t : typed_expr.Expr) → IsExpr e → Elaborates env expected e ty t → AllSound (expr_nodes env start e)
expr_sound env expected start e ty t g h = expr_moved env 0 start e (sound_of (expr_nodes env 0 e) (typed_is_faultless env expected e ty t g h))

pub value_sound : (env : Environment) (place : Ty) (start : ℕ) (e : Expr) (t : typed_expr.Expr) → IsExpr e → ElaboratesAt env place e t → AllSound (value_nodes env start (Some place) e)
value_sound env place start e t g (source, inner, h, fits, conversion) =
    both (expr_sound env (Some place) start e source inner g h) (only (sound (kinds.value env (Some place) e (rw (one_type env (Some place) e source inner g h, fits) refl))))

pub condition_sound : (env : Environment) (start : ℕ) (e : Expr) (t : typed_expr.Expr) → IsExpr e → ElaboratesTruth env e t → AllSound (condition_nodes env start e)
condition_sound env start e t g h =
    both (expr_sound env None start e types.Bool t g h) (only (sound (kinds.condition env e (rw (one_type env None e types.Bool t g h) refl))))

-- ---- calls

arguments_sound : (env : Environment) (start : ℕ) (places : List (Option Ty)) (arguments : Arguments) (all : List typed_expr.Expr) → AreTreeArguments arguments → AreArguments env places arguments all
    → AllSound (argument_nodes env start places arguments)
arguments_sound env start [] no_more all g h = none
arguments_sound env start [] (argument e rest) all g h = absurd h
arguments_sound env start (place ∷ places) no_more all g h = none
arguments_sound env start (place ∷ places) (argument e rest) all g (ty, one, others, p, h, hs, q) =
    let (source, inner, k, fits, conversion) = h in
    both (expr_sound env (Some ty) start e source inner g.0 k)
    (front (sound (rw p (kinds.value env (Some ty) e (rw (one_type env (Some ty) e source inner g.0 k, fits) refl)))) (arguments_sound env (start + width e + 1) places rest others g.1 hs))

arguments_count : (env : Environment) (places : List (Option Ty)) (arguments : Arguments) (all : List typed_expr.Expr) → AreArguments env places arguments all → length places ≡ count arguments
arguments_count env [] no_more all h = refl
arguments_count env [] (argument e rest) all h = absurd h
arguments_count env (place ∷ places) no_more all h = absurd h
arguments_count env (place ∷ places) (argument e rest) all (ty, one, others, p, h, hs, q) = ap suc (arguments_count env places rest others hs)

pub signature_called : (env : Environment) (callee : Expr) (arguments : Arguments) (signature : Signature) (call : typed.Call) → IsCall env callee arguments signature call → called_signature env callee ≡ Some signature
signature_called env (Name ident) arguments signature call (id, all, means, hs, q) = rw means refl
signature_called env callee arguments signature call h = absurd h

pub call_sound : (env : Environment) (start : ℕ) (callee : Expr) (arguments : Arguments) (signature : Signature) (call : typed.Call) → IsExpr (Call callee arguments) → IsCall env callee arguments signature call
    → AllSound (call_nodes env start callee arguments)
call_sound env start (Name ident) arguments signature call g (id, all, means, hs, q) =
    let called : called_signature env (Name ident) ≡ Some signature = rw means refl in
    let size : length signature.parameters ≡ count arguments = arguments_count env signature.parameters arguments all hs in
    both (both (only (sound (kinds.used_name env ident))) (rw called (arguments_sound env _ signature.parameters arguments all g.2 hs)))
    (only (sound (kinds.whole_call env (Name ident) (count arguments) (rw (called, size) (equal_self (count arguments))) (rw called refl))))
call_sound env start callee arguments signature call g h = absurd h

-- ---- right sides

results_given : (results : List (Option Ty)) (places : List Ty) (all : List typed.Conversion) → AreResults results places all → are_given (known places) results ≡ true
results_given [] [] all h = refl
results_given [] (place ∷ places) all h = absurd h
results_given (result ∷ results) [] all h = refl
results_given (result ∷ results) (place ∷ places) all (source, others, p, fits, hs, q) = rw (p, fits) (results_given results places others hs)

results_count : (results : List (Option Ty)) (places : List Ty) (all : List typed.Conversion) → AreResults results places all → length results ≡ length places
results_count [] [] all h = refl
results_count [] (place ∷ places) all h = absurd h
results_count (result ∷ results) [] all h = absurd h
results_count (result ∷ results) (place ∷ places) all (source, others, p, fits, hs, q) = ap suc (results_count results places others hs)

source_sound : (env : Environment) (start : ℕ) (places : List Ty) (e : Expr) (source : typed.Source) → IsExpr e → IsSource env places e source → AllSound (source_nodes env start (known places) e)
source_sound env start places (Call callee arguments) source g h =
    let called = signature_called env callee arguments h.0 h.1 h.3 in
    both (call_sound env start callee arguments h.0 h.1 g h.3)
    (only (sound (kinds.results env (known places) (results_of_call env callee) (Call callee arguments) (rw (called, results_of_call) (results_given h.0.results places h.2 h.4)))))
source_sound env start (place ∷ []) e source g h = value_sound env place start e h.0 g h.1
source_sound env start [] e source g h = absurd h
source_sound env start (place ∷ other ∷ places) e source g h = absurd h

source_counts : (env : Environment) (places : List Ty) (e : Expr) (source : typed.Source) → IsSource env places e source → is_count (length places) (values_of env e) ≡ true
source_counts env places (Call callee arguments) source h =
    rw (signature_called env callee arguments h.0 h.1 h.3, results_count h.0.results places h.2 h.4) (equal_self (length places))
source_counts env (place ∷ []) e source h = refl
source_counts env [] e source h = absurd h
source_counts env (place ∷ other ∷ places) e source h = absurd h

apart_sound : (env : Environment) (start : ℕ) (places : List Ty) (values : List Expr) (sources : List typed.Source) → AllByRecursion IsExpr values → AreApart env places values sources
    → AllSound (sources_apart env start (known places) values)
apart_sound env start [] [] sources g h = none
apart_sound env start [] (value ∷ values) sources g h = absurd h
apart_sound env start (place ∷ places) [] sources g h = none
apart_sound env start (place ∷ places) (value ∷ values) sources g (one, others, h, hs, q) =
    both (source_sound env start (place ∷ []) value one g.0 h) (apart_sound env (start + width value + 1) places values others g.1 hs)

apart_counts : (env : Environment) (places : List Ty) (values : List Expr) (sources : List typed.Source) → AreApart env places values sources
    → (length values ≡ length places) × (list_all (λ (value : Expr). is_count 1 (values_of env value)) values ≡ true)
apart_counts env [] [] sources h = (refl, refl)
apart_counts env [] (value ∷ values) sources h = absurd h
apart_counts env (place ∷ places) [] sources h = absurd h
apart_counts env (place ∷ places) (value ∷ values) sources (one, others, h, hs, q) =
    let rest = apart_counts env places values others hs in
    (ap suc rest.0, rw (source_counts env (place ∷ []) value one h, rest.1) refl)

pub sources_sound : (env : Environment) (start : ℕ) (places : List Ty) (values : List Expr) (sources : List typed.Source) → AllByRecursion IsExpr values → AreSources env places values sources
    → AllSound (sources_nodes env start (known places) values)
sources_sound env start places [] sources g h = none
sources_sound env start places (value ∷ []) sources g (one, h, q) = source_sound env start places value one g.0 h
sources_sound env start places (value ∷ other ∷ values) sources g h = apart_sound env start places (value ∷ other ∷ values) sources g h

pub sources_enough : (env : Environment) (places : List Ty) (values : List Expr) (sources : List typed.Source) → AreSources env places values sources → are_enough env (length places) values ≡ true
sources_enough env places [] sources h = let counts = apart_counts env places [] sources h in rw (← counts.0) refl
sources_enough env places (value ∷ []) sources (one, h, q) = source_counts env places value one h
sources_enough env places (value ∷ other ∷ values) sources h =
    let counts = apart_counts env places (value ∷ other ∷ values) sources h in
    rw (counts.0, equal_self (length places)) counts.1

-- ---- left sides

target_sound : (env : Environment) (start : ℕ) (e : Expr) (one : typed.Target) → IsTarget env e one → AllSound (place_nodes env start e)
target_sound env start (Name ident) one (local, ty, means, keeps, is, q) = front (sound (kinds.used_name env ident)) (only (sound (kinds.place env (Name ident) (rw (means, keeps) refl))))
target_sound env start e one h = absurd h

pub targets_sound : (env : Environment) (start : ℕ) (es : List Expr) (all : List typed.Target) → AreTargets env es all → AllSound (all_places env start es)
targets_sound env start [] all h = none
targets_sound env start (e ∷ others) all (one, rest, h, hs, q) = both (target_sound env start e one h) (targets_sound env (start + width e + 1) others rest hs)

target_type : (env : Environment) (e : Expr) (one : typed.Target) → IsTarget env e one → place_type env e ≡ Some one.ty
target_type env (Name ident) one (local, ty, means, keeps, is, q) = rw (means, is, q) refl
target_type env e one h = absurd h

pub targets_types : (env : Environment) (es : List Expr) (all : List typed.Target) → AreTargets env es all → place_types env es ≡ known (types_of_targets all)
targets_types env [] all h = rw h refl
targets_types env (e ∷ others) all (one, rest, h, hs, q) = rw (q, target_type env e one h, targets_types env others rest hs) refl
