-- Parameters and results, declared one after another.
use Rattle.std.proofs.Common.{◌≡◌, ℕ, zero, suc, ◌+◌, ◌<◌, List, [], ◌∷◌, ◌++◌, length, map, drop, get_or, arith, refl, sym, ap, ◌∙◌, append_assoc, append-nil}
use Rattle.std.proofs.lemmas.List.{drop_more}
use Rattle.df_ntree.specs.declared.file.Parameter.{Parameter}
use Rattle.df_ntree.specs.File.{MethodDeclaration}
use Rattle.df_ntyping.specs.Table.{Table, type_of, results_of}
use Rattle.df_ntyping.specs.Environment.{Role, Parameter_role, Result_role, Local, Inferred, Fixed, Environment, declare, declare_parameters, with_types}
use Rattle.df_ntyping.specs.LocalTypes.{fixed_by}
use Rattle.df_ntyping.specs.FileNodes.{empty_environment, over_parameters, over_both}
use Rattle.df_nenv.specs.Environments.{with_result}
use Rattle.df_ntdecl.specs.Results.{declare_results}

-- ---- types stand apart from scopes

parameters_over : (env : Environment) (types : List Inferred) (role : Role) (all : List Parameter) → declare_parameters (with_types env types) role all ≡ with_types (declare_parameters env role all) types
parameters_over env types role [] = refl
parameters_over env types role (one ∷ others) = parameters_over (declare env role one.name.name) types role others

results_over : (env : Environment) (types : List Inferred) (all : List Parameter) → declare_results (with_types env types) all ≡ with_types (declare_results env all) types
results_over env types [] = refl
results_over env types (one ∷ others) = results_over (with_result env one.name.name) types others

-- ---- one more

-- behind the declarations, with what fixes the types
abbrev pub parameters_behind : Environment → List Parameter → Environment
parameters_behind env all = with_types (declare_parameters env Parameter_role all) (env.types ++ fixed_by env all)

abbrev pub results_behind : Environment → List Parameter → Environment
results_behind env all = with_types (declare_results env all) (env.types ++ fixed_by env all)

abbrev fixing : Environment → Parameter → Inferred
fixing env one = Fixed (type_of env.table.newtypes one.ty)

abbrev pushed : Environment → Parameter → Environment
pushed env one = with_types env (env.types ++ fixing env one ∷ [])

parameter_more : (env : Environment) (one : Parameter) (others : List Parameter) → parameters_behind (declare (pushed env one) Parameter_role one.name.name) others ≡ parameters_behind env (one ∷ others)
parameter_more env one others =
    ap (λ (e : Environment). with_types e ((env.types ++ fixing env one ∷ []) ++ fixed_by env others)) (parameters_over (declare env Parameter_role one.name.name) (env.types ++ fixing env one ∷ []) Parameter_role others)
    ∙ ap (with_types (declare_parameters (declare env Parameter_role one.name.name) Parameter_role others)) (append_assoc env.types (fixing env one ∷ []) (fixed_by env others))

result_more : (env : Environment) (one : Parameter) (others : List Parameter) → results_behind (with_result (pushed env one) one.name.name) others ≡ results_behind env (one ∷ others)
result_more env one others =
    ap (λ (e : Environment). with_types e ((env.types ++ fixing env one ∷ []) ++ fixed_by env others)) (results_over (with_result env one.name.name) (env.types ++ fixing env one ∷ []) others)
    ∙ ap (with_types (declare_results (with_result env one.name.name) others)) (append_assoc env.types (fixing env one ∷ []) (fixed_by env others))

next_of : (all : List Parameter) (i : ℕ) (one : Parameter) → i < length all → one ≡ get_or all i one → drop i all ≡ one ∷ drop (i + 1) all
next_of all i one lt is = drop_more all i one lt ∙ ap (λ (x : Parameter). x ∷ drop (i + 1) all) (sym is)

pub parameter_step : (all : List Parameter) (i : ℕ) (one : Parameter) (env between now total : Environment) → i < length all → one ≡ get_or all i one → between ≡ pushed env one → now ≡ declare between Parameter_role one.name.name → parameters_behind env (drop i all) ≡ total
    → parameters_behind now (drop (i + 1) all) ≡ total
parameter_step all i one env between now total lt is types goes so_far =
    ap (λ (e : Environment). parameters_behind e (drop (i + 1) all)) (goes ∙ ap (λ (e : Environment). declare e Parameter_role one.name.name) types)
    ∙ parameter_more env one (drop (i + 1) all) ∙ ap (parameters_behind env) (sym (next_of all i one lt is)) ∙ so_far

pub result_step : (all : List Parameter) (i : ℕ) (one : Parameter) (env between now total : Environment) → i < length all → one ≡ get_or all i one → between ≡ pushed env one → now ≡ with_result between one.name.name → results_behind env (drop i all) ≡ total
    → results_behind now (drop (i + 1) all) ≡ total
result_step all i one env between now total lt is types goes so_far =
    ap (λ (e : Environment). results_behind e (drop (i + 1) all)) (goes ∙ ap (λ (e : Environment). with_result e one.name.name) types)
    ∙ result_more env one (drop (i + 1) all) ∙ ap (results_behind env) (sym (next_of all i one lt is)) ∙ so_far

-- ---- at the end

pub parameters_end : (env : Environment) → parameters_behind env [] ≡ env
parameters_end env = ap (with_types env) (append-nil env.types)

pub results_end : (env : Environment) → results_behind env [] ≡ env
results_end env = ap (with_types env) (append-nil env.types)

-- ---- parameters and results together

abbrev made_from : ℕ → Role → List Parameter → List Local
made_from n role [] = []
made_from n role (one ∷ others) = record { name = one.name.name; number = n; role = role } ∷ made_from (suc n) role others

inner_of : (env : Environment) (role : Role) (all : List Parameter) → (declare_parameters env role all).inner ≡ env.inner ++ made_from env.next role all
inner_of env role [] = sym (append-nil env.inner)
inner_of env role (one ∷ others) = inner_of (declare env role one.name.name) role others ∙ append_assoc env.inner (record { name = one.name.name; number = env.next; role = role } ∷ []) (made_from (suc env.next) role others)

table_of : (env : Environment) (role : Role) (all : List Parameter) → (declare_parameters env role all).table ≡ env.table
table_of env role [] = refl
table_of env role (one ∷ others) = table_of (declare env role one.name.name) role others

abbrev with_results : Environment → List Local → Environment
with_results env results = record env { results = results }

results_kept : (env : Environment) (results : List Local) (role : Role) (all : List Parameter) → declare_parameters (with_results env results) role all ≡ with_results (declare_parameters env role all) results
results_kept env results role [] = refl
results_kept env results role (one ∷ others) = results_kept (declare env role one.name.name) results role others

results_declared : (env : Environment) (all : List Parameter) → declare_results env all ≡ with_results (declare_parameters env Result_role all) (env.results ++ made_from env.next Result_role all)
results_declared env [] = ap (with_results env) (sym (append-nil env.results))
results_declared env (one ∷ others) =
    let local : Local = record { name = one.name.name; number = env.next; role = Result_role } in
    let rest = made_from (suc env.next) Result_role others in
    results_declared (with_result env one.name.name) others
    ∙ ap (λ (e : Environment). with_results e ((env.results ++ local ∷ []) ++ rest)) (results_kept (declare env Result_role one.name.name) (env.results ++ local ∷ []) Result_role others)
    ∙ ap (with_results (declare_parameters (declare env Result_role one.name.name) Result_role others)) (append_assoc env.results (local ∷ []) rest)

made_length : (n : ℕ) (role : Role) (all : List Parameter) → length (made_from n role all) ≡ length all
made_length n role [] = refl
made_length n role (one ∷ others) = ap suc (made_length (suc n) role others)

drop_front : {X : Type 0} (n : ℕ) (xs ys : List X) → length xs ≡ n → drop n (xs ++ ys) ≡ ys
drop_front zero [] ys is = refl
drop_front zero (x ∷ xs) ys is = absurd (omega (arith, is))
drop_front (suc n) [] ys is = absurd (omega (arith, is))
drop_front (suc n) (x ∷ xs) ys is = drop_front n xs ys (omega (arith, is))

empty_results : (env : Environment) (role : Role) (all : List Parameter) → (declare_parameters env role all).results ≡ env.results
empty_results env role [] = refl
empty_results env role (one ∷ others) = empty_results (declare env role one.name.name) role others

pub both_declared : (table : Table) (method : MethodDeclaration) → results_behind (over_parameters table method) (results_of method) ≡ over_both table method
both_declared table method =
    let env = over_parameters table method in
    let all = results_of method in
    let both = declare_parameters env Result_role all in
    let rest = made_from env.next Result_role all in
    let front : env.inner ≡ made_from 0 Parameter_role method.parameters = inner_of (empty_environment table) Parameter_role method.parameters in
    let count : length env.inner ≡ length method.parameters = ap (λ (xs : List Local). length xs) front ∙ made_length 0 Parameter_role method.parameters in
    let results : env.results ++ rest ≡ drop (length method.parameters) both.inner =
    ap (λ (xs : List Local). xs ++ rest) (empty_results (empty_environment table) Parameter_role method.parameters)
    ∙ sym (ap (drop (length method.parameters)) (inner_of env Result_role all) ∙ drop_front (length method.parameters) env.inner rest count) in
    let types : fixed_by env all ≡ fixed_by both all = ap (λ (t : Table). map (λ (one : Parameter). Fixed (type_of t.newtypes one.ty)) all) (sym (table_of env Result_role all)) in
    ap (λ (e : Environment). with_types e (env.types ++ fixed_by env all)) (results_declared env all)
    ∙ λ i. record both { types = env.types ++ types i; results = results i }

parameters_declared : (table : Table) (method : MethodDeclaration) → parameters_behind (empty_environment table) method.parameters ≡ over_parameters table method
parameters_declared table method =
    let env = declare_parameters (empty_environment table) Parameter_role method.parameters in
    ap (λ (t : Table). with_types env (map (λ (one : Parameter). Fixed (type_of t.newtypes one.ty)) method.parameters)) (sym (table_of (empty_environment table) Parameter_role method.parameters))

-- ---- as they are made

pub parameters_made : (table : Table) (method : MethodDeclaration) (env now : Environment) (all : List Parameter) → env ≡ empty_environment table → all ≡ method.parameters → now ≡ parameters_behind env all → now ≡ over_parameters table method
parameters_made table method env now all first same made = made ∙ (λ i. parameters_behind (first i) (same i)) ∙ parameters_declared table method

pub both_made : (table : Table) (method : MethodDeclaration) (env now : Environment) (all : List Parameter) → env ≡ over_parameters table method → all ≡ results_of method → now ≡ results_behind env all → now ≡ over_both table method
both_made table method env now all first same made = made ∙ (λ i. results_behind (first i) (same i)) ∙ both_declared table method
