-- What left and right sides elaborate to is well typed.
use Rattle.std.proofs.Common.{◌≡◌, ◌<◌, ◌≤◌, Bool, true, ◌&&◌, List, [], ◌∷◌, length, map, Option, Some, refl, sym, subst, ◌∙◌, arith}
use Rattle.std.specs.Prelude.{slice_get}
use Rattle.std.specs.List.{list_all, flat_map}
use Rattle.std.proofs.lemmas.Bool.{and_parts, le-leb}
use Rattle.std.proofs.lemmas.Option.{same_Some}
use Rattle.std.proofs.lemmas.List.{append-nil}
use Rattle.df_lang.specs.declared.ty.Ty.{Ty}
use Rattle.df_lang.specs.Typing.{Setting, are_same_types, is_type, converts, are_exprs, is_call, is_source, source_types, is_target, is_update, may_update}
use Rattle.df_lang.specs.Expr as typed_expr
use Rattle.df_lang.specs.Stmt as typed
use Rattle.df_lang.specs.Program.{Method, Program, method_at, types_of}
use Rattle.df_ntree.specs.Expr.{Expr, Name, Call, Arguments, no_more, argument}
use Rattle.df_ntyping.specs.Table.{Signature}
use Rattle.df_ntyping.specs.Environment.{Inferred, Environment, fixed_type}
use Rattle.df_ntyping.specs.ExprElaboration.{ElaboratesAt}
use Rattle.df_ntyping.specs.SideElaboration.{IsCall, AreArguments, AreResults, IsSource, AreApart, AreSources, IsTarget, AreTargets, types_of_targets}
use Rattle.df_ntyping.specs.StatementElaboration.{MayUpdate}
use Rattle.df_ntyping.proofs.Complete.{same_self}
use Rattle.df_ntyping.proofs.WellTyped.{place_converts}
use Rattle.df_ntyping.proofs.KnownTypes.{known, IsSignatureOf, called_method}
use Rattle.df_ntyping.proofs.ScopedLocals.{found_in_scope}
use Rattle.df_ntyping.proofs.Ranges.{InRange, AllInRange, ArgumentsInRange, call_parts}
use Rattle.df_ntyping.proofs.Fits.{Fits, HaveTypes, same_at, type_at, at_good}

-- the environment fits the setting
abbrev pub FitsIn : Setting → Environment → Type 0
FitsIn setting env = Fits setting.program setting.method env setting.locals

abbrev pub AreTypes : Program → List Ty → Type 0
AreTypes program all = list_all (is_type program) all ≡ true

pub same_types_self : (all : List Ty) → are_same_types all all ≡ true
same_types_self [] = refl
same_types_self (ty ∷ others) = rw (same_self ty, same_types_self others) refl

-- ---- calls

arguments_good : (setting : Setting) (env : Environment) (parameters : List Ty) (arguments : Arguments) (all : List typed_expr.Expr) → FitsIn setting env → AreTypes setting.program parameters → ArgumentsInRange arguments
    → AreArguments env (known parameters) arguments all → are_exprs setting.program setting.locals parameters all ≡ true
arguments_good setting env [] no_more all f v r h = rw h refl
arguments_good setting env [] (argument e rest) all f v r h = absurd h
arguments_good setting env (parameter ∷ parameters) no_more all f v r h = absurd h
arguments_good setting env (parameter ∷ parameters) (argument e rest) all f v r (ty, one, others, same, h, hs, q) =
    let valid = and_parts (is_type setting.program parameter) (list_all (is_type setting.program) parameters) v in
    let place : ty ≡ parameter = sym (same_Some parameter ty same) in
    let first = at_good setting.program setting.method env setting.locals parameter e one f valid.0 r.0 (subst (λ (t : Ty). ElaboratesAt env t e one) place h) in
    rw (q, first, arguments_good setting env parameters rest others f valid.1 r.1 hs) refl

-- the callee is a method of the program
pub record IsGoodCall (setting : Setting) (signature : Signature) (call : typed.Call) : Type 0 where
  pub method : Method
  pub found : method_at setting.program call.callee ≡ Some method
  pub signed : IsSignatureOf setting.program method signature
  pub good : is_call setting call ≡ true

pub call_good : (setting : Setting) (env : Environment) (callee : Expr) (arguments : Arguments) (signature : Signature) (call : typed.Call) → FitsIn setting env → ArgumentsInRange arguments
    → IsCall env callee arguments signature call → IsGoodCall setting signature call
call_good setting env (Name ident) arguments signature call f r (id, all, means, hs, q) =
    let (method, found, signed) = called_method setting.program env ident.name id signature f.table means in
    let args = arguments_good setting env (types_of method.parameters) arguments all f signed.valid_parameters r
    (subst (λ (ps : List (Option Ty)). AreArguments env ps arguments all) signed.parameters hs) in
    subst (λ (c : typed.Call). IsGoodCall setting signature c) (sym q) (record { method = method; found = found; signed = signed; good = rw found args })
call_good setting env callee arguments signature call f r h = absurd h

-- ---- right sides

abbrev sources_of : List typed.Conversion → List Ty
sources_of all = map (λ (c : typed.Conversion). c.source) all

abbrev targets_of : List typed.Conversion → List Ty
targets_of all = map (λ (c : typed.Conversion). c.target) all

abbrev is_good_conversion : Program → typed.Conversion → Bool
is_good_conversion program c = is_type program c.target && converts c.source c.target

record AreGoodResults (program : Program) (results places : List Ty) (all : List typed.Conversion) : Type 0 where
  from : are_same_types (sources_of all) results ≡ true
  convert : list_all (is_good_conversion program) all ≡ true
  to : targets_of all ≡ places

results_good : (program : Program) (results places : List Ty) (all : List typed.Conversion) → AreTypes program places → AreResults (known results) places all → AreGoodResults program results places all
results_good program [] [] all v h = subst (λ (x : List typed.Conversion). AreGoodResults program [] [] x) (sym h) (record { from = refl; convert = refl; to = refl })
results_good program [] (place ∷ places) all v h = absurd h
results_good program (result ∷ results) [] all v h = absurd h
results_good program (result ∷ results) (place ∷ places) all v (source, others, same, fits, hs, q) =
    let valid = and_parts (is_type program place) (list_all (is_type program) places) v in
    let rest = results_good program results places others valid.1 hs in
    let e : result ≡ source = same_Some result source same in
    let good : AreGoodResults program (result ∷ results) (place ∷ places) (record { source = source; target = place } ∷ others) = record {
      from = rw (e, same_self source, rest.from) refl;
      convert = rw (valid.0, place_converts source place fits, rest.convert) refl;
      to = rw rest.to refl;
    } in
    subst (λ (x : List typed.Conversion). AreGoodResults program (result ∷ results) (place ∷ places) x) (sym q) good

record IsGoodSource (setting : Setting) (places : List Ty) (source : typed.Source) : Type 0 where
  good : is_source setting source ≡ true
  gives : source_types source ≡ places

call_source : (setting : Setting) (places : List Ty) (signature : Signature) (call : typed.Call) (results : List typed.Conversion) → IsGoodCall setting signature call → AreTypes setting.program places
    → AreResults signature.results places results → IsGoodSource setting places (typed.Results call results)
call_source setting places signature call results c v h =
    let rest = results_good setting.program (types_of c.method.results) places results v (subst (λ (rs : List (Option Ty)). AreResults rs places results) c.signed.results h) in
    record { good = rw (c.good, c.found, rest.from, rest.convert) refl; gives = rest.to }

source_good : (setting : Setting) (env : Environment) (places : List Ty) (e : Expr) (source : typed.Source) → FitsIn setting env → AreTypes setting.program places → InRange e → IsSource env places e source → IsGoodSource setting places source
source_good setting env places (Call callee arguments) source f v r h =
    subst (λ (s : typed.Source). IsGoodSource setting places s) (sym h.5)
    (call_source setting places h.0 h.1 h.2 (call_good setting env callee arguments h.0 h.1 f (call_parts callee arguments r) h.3) v h.4)
source_good setting env (place ∷ []) e source f v r h =
    let valid = and_parts (is_type setting.program place) true v in
    let good : IsGoodSource setting (place ∷ []) (typed.Single place h.0) = record { good = rw (valid.0, at_good setting.program setting.method env setting.locals place e h.0 f valid.0 r h.1) refl; gives = refl } in
    subst (λ (s : typed.Source). IsGoodSource setting (place ∷ []) s) (sym h.2) good
source_good setting env [] e source f v r h = absurd h
source_good setting env (place ∷ other ∷ places) e source f v r h = absurd h

pub record AreGoodSources (setting : Setting) (places : List Ty) (sources : List typed.Source) : Type 0 where
  pub good : list_all (is_source setting) sources ≡ true
  pub give : flat_map source_types sources ≡ places

one_source : (setting : Setting) (place : Ty) (places : List Ty) (one : typed.Source) (others : List typed.Source) → IsGoodSource setting (place ∷ []) one → AreGoodSources setting places others → AreGoodSources setting (place ∷ places) (one ∷ others)
one_source setting place places one others h k = record { good = rw (h.good, k.good) refl; give = rw (h.gives, k.give) refl }

apart_good : (setting : Setting) (env : Environment) (places : List Ty) (values : List Expr) (sources : List typed.Source) → FitsIn setting env → AreTypes setting.program places → AllInRange values → AreApart env places values sources
    → AreGoodSources setting places sources
apart_good setting env [] [] sources f v r h = subst (λ (s : List typed.Source). AreGoodSources setting [] s) (sym h) (record { good = refl; give = refl })
apart_good setting env [] (value ∷ values) sources f v r h = absurd h
apart_good setting env (place ∷ places) [] sources f v r h = absurd h
apart_good setting env (place ∷ places) (value ∷ values) sources f v r (one, others, h, hs, q) =
    let valid = and_parts (is_type setting.program place) (list_all (is_type setting.program) places) v in
    let first = source_good setting env (place ∷ []) value one f (rw (valid.0) refl) r.0 h in
    subst (λ (s : List typed.Source). AreGoodSources setting (place ∷ places) s) (sym q) (one_source setting place places one others first (apart_good setting env places values others f valid.1 r.1 hs))

pub sources_good : (setting : Setting) (env : Environment) (places : List Ty) (values : List Expr) (sources : List typed.Source) → FitsIn setting env → AreTypes setting.program places → AllInRange values → AreSources env places values sources
    → AreGoodSources setting places sources
sources_good setting env places (value ∷ []) sources f v r (one, h, q) =
    let first = source_good setting env places value one f v r.0 h in
    let good : AreGoodSources setting places (one ∷ []) = record { good = rw (first.good) refl; give = append-nil (source_types one) ∙ first.gives } in
    subst (λ (s : List typed.Source). AreGoodSources setting places s) (sym q) good
sources_good setting env places [] sources f v r h = apart_good setting env places [] sources f v r h
sources_good setting env places (value ∷ other ∷ values) sources f v r h = apart_good setting env places (value ∷ other ∷ values) sources f v r h

-- ---- left sides

pub record AreGoodTargets (setting : Setting) (targets : List typed.Target) : Type 0 where
  pub good : list_all (is_target setting) targets ≡ true
  pub valid : AreTypes setting.program (types_of_targets targets)

pub no_target : {setting : Setting} → AreGoodTargets setting []
no_target = record { good = refl; valid = refl }

-- a local of a number, which is no parameter's
pub one_target : (setting : Setting) (all : List Inferred) (one : typed.Target) (others : List typed.Target) → HaveTypes all setting.locals → length setting.method.parameters ≤ one.local → one.local < length setting.locals
    → fixed_type (slice_get all one.local) ≡ Some one.ty → is_type setting.program one.ty ≡ true → AreGoodTargets setting others → AreGoodTargets setting (one ∷ others)
one_target setting all one others h least below known valid rest = record {
  good = rw (le-leb (length setting.method.parameters) one.local least, same_at all setting.locals one.local one.ty h below known, same_self one.ty, rest.good) refl;
  valid = rw (valid, rest.valid) refl;
}

target_good : (setting : Setting) (env : Environment) (e : Expr) (one : typed.Target) (others : List typed.Target) → FitsIn setting env → IsTarget env e one → AreGoodTargets setting others → AreGoodTargets setting (one ∷ others)
target_good setting env (Name ident) one others f (local, ty, means, keeps, is, q) rest =
    let scope = found_in_scope (length setting.method.parameters) env ident.name local f.scoped means in
    let below = scope.below in
    let wide = f.wide in
    subst (λ (t : typed.Target). AreGoodTargets setting (t ∷ others)) (sym q)
    (one_target setting env.types (record { local = local.number; name = ident.name; pos = ident.pos; ty = ty }) others f.same (scope.own keeps) (omega arith) is (type_at setting.program env.types local.number ty f.types is) rest)
target_good setting env e one others f h rest = absurd h

pub targets_good : (setting : Setting) (env : Environment) (es : List Expr) (targets : List typed.Target) → FitsIn setting env → AreTargets env es targets → AreGoodTargets setting targets
targets_good setting env [] targets f h = subst (λ (ts : List typed.Target). AreGoodTargets setting ts) (sym h) no_target
targets_good setting env (e ∷ others) targets f (one, rest, h, hs, q) =
    subst (λ (ts : List typed.Target). AreGoodTargets setting ts) (sym q) (target_good setting env e one rest f h (targets_good setting env others rest f hs))

-- ---- updates

pub update_good : (setting : Setting) (targets : List typed.Target) (sources : List typed.Source) → AreGoodTargets setting targets → AreGoodSources setting (types_of_targets targets) sources → is_update setting (record { targets = targets; sources = sources }) ≡ true
update_good setting targets sources h k = rw (h.good, k.good, k.give) (same_types_self (types_of_targets targets))

pub may_update_good : (setting : Setting) (env : Environment) (targets : List typed.Target) (values : List Expr) (update : Option typed.Update) → FitsIn setting env → AreGoodTargets setting targets → AllInRange values
    → MayUpdate env targets values update → may_update setting update ≡ true
may_update_good setting env targets [] update f h r m = rw m refl
may_update_good setting env targets (value ∷ values) update f h r (sources, m, q) =
    rw q (update_good setting targets sources h (sources_good setting env (types_of_targets targets) (value ∷ values) sources f h.valid r m))
