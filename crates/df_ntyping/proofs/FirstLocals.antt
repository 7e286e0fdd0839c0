-- The first locals of a method are its parameters and its results, with their types.
use Rattle.std.proofs.Common.{◌≡◌, ℕ, zero, suc, ◌+◌, true, false, List, [], ◌∷◌, ◌++◌, length, drop, Some, refl, sym, ap, subst, ◌∙◌, arith, length-append, append_assoc}
use Rattle.std.specs.Prelude.{slice_get}
use Rattle.std.specs.List.{list_all}
use Rattle.std.proofs.lemmas.List.{append-nil, drop_at}
use Rattle.df_lang.specs.declared.ty.Ty.{Ty}
use Rattle.df_lang.specs.Typing.{is_type}
use Rattle.df_lang.specs.Program as program
use Rattle.df_lang.specs.Program.{Method, Program, types_of}
use Rattle.df_ntree.specs.declared.file.Parameter.{Parameter}
use Rattle.df_ntree.specs.File.{MethodDeclaration}
use Rattle.df_ntyping.specs.Table.{Table, type_of, types_in, results_of}
use Rattle.df_ntyping.specs.Environment.{Role, Parameter_role, Result_role, Local, Inferred, Fixed, Environment, fixed_type, declare, declare_parameters, enter}
use Rattle.df_ntyping.specs.LocalTypes.{fixed_by}
use Rattle.df_ntyping.specs.FileNodes.{empty_environment, over_parameters, over_both, over_body}
use Rattle.df_ntyping.specs.FileElaboration.{AreParameters, IsMethod}
use Rattle.df_ntyping.specs.Laws.{NewtypesHold}
use Rattle.df_ntyping.proofs.WellTyped.{known_valid, type_valid}
use Rattle.df_ntyping.proofs.KnownTypes.{known, TableHolds, AllKnown}
use Rattle.df_ntyping.proofs.KnownBehind.{joined, parameters_known, all_behind_known}
use Rattle.df_ntyping.proofs.KeptTypes.{Kept, all_behind_kept}
use Rattle.df_ntyping.proofs.SameBehind.{IsSame}
use Rattle.df_ntyping.proofs.ScopedLocals.{IsScoped, enter_scoped, parameters_scoped}
use Rattle.df_ntyping.proofs.Fits.{HaveTypes, Fits}
use Rattle.df_ntyping.proofs.StatementsWellTyped.{Returns, Inside}

-- ---- lists

abbrev pub fixed : List Ty → List Inferred
fixed [] = []
fixed (ty ∷ others) = Fixed (Some ty) ∷ fixed others

fixed_joined : (xs ys : List Ty) → fixed xs ++ fixed ys ≡ fixed (xs ++ ys)
fixed_joined [] ys = refl
fixed_joined (x ∷ xs) ys = ap (λ (all : List Inferred). Fixed (Some x) ∷ all) (fixed_joined xs ys)

pub get_fixed : (all : List Ty) (k : ℕ) (ty : Ty) → slice_get all k ≡ Some ty → slice_get (fixed all) k ≡ Some (Fixed (Some ty))
get_fixed [] k ty p = absurd cc
get_fixed (x ∷ xs) zero ty p = let same : x ≡ ty = cc in rw same refl
get_fixed (x ∷ xs) (suc k) ty p = get_fixed xs k ty p

fixed_have : (all : List Ty) → HaveTypes (fixed all) all
fixed_have all = record { same = λ k ty p. ap fixed_type (get_fixed all k ty p) }

fixed_kept : (all : List Ty) (types : List Inferred) → Kept (fixed all) types → HaveTypes types all
fixed_kept all types h = record { same = λ k ty p. ap fixed_type (h.keeps k (Fixed (Some ty)) (get_fixed all k ty p) (λ q. cc)) }

get_there : (before : List Ty) (ty : Ty) (others : List Ty) → slice_get (before ++ ty ∷ others) (length before) ≡ Some ty
get_there [] ty others = refl
get_there (x ∷ before) ty others = get_there before ty others

-- ---- parameters and results

pub params_fixed : (names : List (List ℕ)) (table : Table) (env : Environment) (trees : List Parameter) (params : List program.Param) → env.table ≡ table → AreParameters names table trees params → fixed_by env trees ≡ fixed (types_of params)
params_fixed names table env [] params e h = rw h refl
params_fixed names table env (tree ∷ others) params e (declared, ty, rest, d, is, hs, q) = rw (q, e, is, params_fixed names table env others rest e hs) refl

pub params_signed : (names : List (List ℕ)) (table : Table) (trees : List Parameter) (params : List program.Param) → AreParameters names table trees params → types_in table.newtypes trees ≡ known (types_of params)
params_signed names table [] params h = rw h refl
params_signed names table (tree ∷ others) params (declared, ty, rest, d, is, hs, q) = rw (q, is, params_signed names table others rest hs) refl

pub params_valid : (one : Program) (names : List (List ℕ)) (table : Table) (trees : List Parameter) (params : List program.Param) → NewtypesHold one (empty_environment table) → AreParameters names table trees params
    → list_all (is_type one) (types_of params) ≡ true
params_valid one names table [] params n h = rw h refl
params_valid one names table (tree ∷ others) params n (declared, ty, rest, d, is, hs, q) =
    rw (q, known_valid one ty (type_of table.newtypes tree.ty) (type_valid one (empty_environment table) tree.ty n) is) (params_valid one names table others rest n hs)

pub params_count : (names : List (List ℕ)) (table : Table) (trees : List Parameter) (params : List program.Param) → AreParameters names table trees params → length params ≡ length trees
params_count names table [] params h = rw h refl
params_count names table (tree ∷ others) params (declared, ty, rest, d, is, hs, q) = rw q (ap suc (params_count names table others rest hs))

pub types_count : (params : List program.Param) → length (types_of params) ≡ length params
types_count [] = refl
types_count (param ∷ others) = ap suc (types_count others)

-- ---- what is declared

abbrev pub declared_from : ℕ → Role → List Parameter → List Local
declared_from number role [] = []
declared_from number role (x ∷ others) = record { name = x.name.name; number = number; role = role } ∷ declared_from (suc number) role others

declared_count : (number : ℕ) (role : Role) (xs : List Parameter) → length (declared_from number role xs) ≡ length xs
declared_count number role [] = refl
declared_count number role (x ∷ others) = ap suc (declared_count (suc number) role others)

pub declared_inner : (env : Environment) (role : Role) (xs : List Parameter) → (declare_parameters env role xs).inner ≡ env.inner ++ declared_from env.next role xs
declared_inner env role [] = sym (append-nil env.inner)
declared_inner env role (x ∷ others) =
    declared_inner (declare env role x.name.name) role others ∙ append_assoc env.inner (record { name = x.name.name; number = env.next; role = role } ∷ []) (declared_from (suc env.next) role others)

pub declared_same : (env : Environment) (role : Role) (xs : List Parameter) → IsSame env (declare_parameters env role xs)
declared_same env role [] = record { table = refl; types = refl; results = refl; in_loop = refl }
declared_same env role (x ∷ others) =
    let rest = declared_same (declare env role x.name.name) role others in
    record { table = rest.table; types = rest.types; results = rest.results; in_loop = rest.in_loop }

pub declared_next : (env : Environment) (role : Role) (xs : List Parameter) → (declare_parameters env role xs).next ≡ env.next + length xs
declared_next env role [] = omega arith
declared_next env role (x ∷ others) = omega (arith, declared_next (declare env role x.name.name) role others)

-- ---- environments

-- the results of a method are declared behind the parameters
pub results_declared : (table : Table) (tree : MethodDeclaration) → (over_both table tree).results ≡ declared_from (length tree.parameters) Result_role (results_of tree)
results_declared table tree =
    let before = declared_from 0 Parameter_role tree.parameters in
    let first : (over_parameters table tree).inner ≡ before = declared_inner (empty_environment table) Parameter_role tree.parameters in
    let number : (over_parameters table tree).next ≡ length tree.parameters = omega (arith, declared_next (empty_environment table) Parameter_role tree.parameters) in
    let all : (declare_parameters (over_parameters table tree) Result_role (results_of tree)).inner ≡ before ++ declared_from (length tree.parameters) Result_role (results_of tree) =
    declared_inner (over_parameters table tree) Result_role (results_of tree)
    ∙ ap (λ (xs : List Local). xs ++ declared_from (over_parameters table tree).next Result_role (results_of tree)) first
    ∙ ap (λ (n : ℕ). before ++ declared_from n Result_role (results_of tree)) number in
    ap (λ (xs : List Local). drop (length tree.parameters) xs) all
    ∙ drop_at before (declared_from (length tree.parameters) Result_role (results_of tree)) (length tree.parameters) (declared_count 0 Parameter_role tree.parameters)

params_return : (names : List (List ℕ)) (table : Table) (trees : List Parameter) (params : List program.Param) (types : List Inferred) (number : ℕ) (before : List Ty) (role : Role) → number ≡ length before
    → AreParameters names table trees params → HaveTypes types (before ++ types_of params) → Returns types number (declared_from number role trees) (types_of params)
params_return names table [] params types number before role p h k = subst (λ (ps : List program.Param). Returns types number [] (types_of ps)) (sym h) tt
params_return names table (tree ∷ others) params types number before role p (declared, ty, rest, d, is, hs, q) k =
    let known_here : HaveTypes types (before ++ ty ∷ types_of rest) = subst (λ (ps : List program.Param). HaveTypes types (before ++ types_of ps)) q k in
    let moved : HaveTypes types ((before ++ ty ∷ []) ++ types_of rest) = subst (λ (all : List Ty). HaveTypes types all) (sym (append_assoc before (ty ∷ []) (types_of rest))) known_here in
    let one : fixed_type (slice_get types number) ≡ Some ty = rw p (known_here.same (length before) ty (get_there before ty (types_of rest))) in
    let more = params_return names table others rest types (suc number) (before ++ ty ∷ []) role (omega (arith, p, length-append before (ty ∷ []))) hs moved in
    subst (λ (ps : List program.Param). Returns types number (declared_from number role (tree ∷ others)) (types_of ps)) (sym q) (refl, one, more)

-- ---- they fit

pub parameters_fit : (one : Program) (names : List (List ℕ)) (table : Table) (tree : MethodDeclaration) (method : Method) → TableHolds one table → IsMethod names table tree method → Fits one method (over_parameters table tree) (types_of method.parameters)
parameters_fit one names table tree method t h =
    let same = declared_same (empty_environment table) Parameter_role tree.parameters in
    let holds = subst (λ (x : Table). TableHolds one x) (sym same.table) t in
    let scoped = parameters_scoped (length method.parameters) (empty_environment table) Parameter_role tree.parameters (λ p. absurd cc) (record { outer = tt; inner = tt }) in
    record {
      table = holds;
      types = parameters_known one (declare_parameters (empty_environment table) Parameter_role tree.parameters) tree.parameters holds;
      scoped = record { outer = scoped.outer; inner = scoped.inner };
      wide = omega (arith, declared_next (empty_environment table) Parameter_role tree.parameters, params_count names table tree.parameters method.parameters h.parameters, types_count method.parameters);
      same = subst (λ (all : List Inferred). HaveTypes all (types_of method.parameters)) (sym (params_fixed names table (declare_parameters (empty_environment table) Parameter_role tree.parameters) tree.parameters method.parameters same.table h.parameters)) (fixed_have (types_of method.parameters));
    }

pub both_fixed : (names : List (List ℕ)) (table : Table) (tree : MethodDeclaration) (ps rs : List program.Param) → AreParameters names table tree.parameters ps → AreParameters names table (results_of tree) rs
    → (over_both table tree).types ≡ fixed (types_of ps ++ types_of rs)
both_fixed names table tree ps rs h k =
    let first = declared_same (empty_environment table) Parameter_role tree.parameters in
    let second = declared_same (over_parameters table tree) Result_role (results_of tree) in
    let parameters = params_fixed names table (declare_parameters (empty_environment table) Parameter_role tree.parameters) tree.parameters ps first.table h in
    let results = params_fixed names table (declare_parameters (over_parameters table tree) Result_role (results_of tree)) (results_of tree) rs (second.table ∙ first.table) k in
    ap (λ (all : List Inferred). all ++ fixed_by (declare_parameters (over_parameters table tree) Result_role (results_of tree)) (results_of tree)) parameters
    ∙ ap (λ (all : List Inferred). fixed (types_of ps) ++ all) results
    ∙ fixed_joined (types_of ps) (types_of rs)

pub both_next : (table : Table) (tree : MethodDeclaration) → (over_both table tree).next ≡ length tree.parameters + length (results_of tree)
both_next table tree = omega (arith, declared_next (over_parameters table tree) Result_role (results_of tree), declared_next (empty_environment table) Parameter_role tree.parameters)

pub both_table : (table : Table) (tree : MethodDeclaration) → (over_both table tree).table ≡ table
both_table table tree = (declared_same (over_parameters table tree) Result_role (results_of tree)).table ∙ (declared_same (empty_environment table) Parameter_role tree.parameters).table

both_known : (one : Program) (names : List (List ℕ)) (table : Table) (tree : MethodDeclaration) (method : Method) → TableHolds one table → IsMethod names table tree method → AllKnown one (over_both table tree).types
both_known one names table tree method t h =
    joined (parameters_fit one names table tree method t h).types
    (parameters_known one (declare_parameters (over_parameters table tree) Result_role (results_of tree)) (results_of tree) (subst (λ (x : Table). TableHolds one x) (sym (both_table table tree)) t))

pub both_width : (names : List (List ℕ)) (table : Table) (tree : MethodDeclaration) (ps rs : List program.Param) → AreParameters names table tree.parameters ps → AreParameters names table (results_of tree) rs
    → (over_both table tree).next ≡ length (types_of ps ++ types_of rs)
both_width names table tree ps rs h k = omega (
  arith,
  both_next table tree,
  length-append (types_of ps) (types_of rs),
  params_count names table tree.parameters ps h,
  params_count names table (results_of tree) rs k,
  types_count ps,
  types_count rs,
)

both_scoped : (one : Program) (names : List (List ℕ)) (table : Table) (tree : MethodDeclaration) (method : Method) → TableHolds one table → IsMethod names table tree method → IsScoped (length method.parameters) (over_both table tree)
both_scoped one names table tree method t h =
    let first = (parameters_fit one names table tree method t h).scoped in
    let least = declared_next (empty_environment table) Parameter_role tree.parameters in
    let count = params_count names table tree.parameters method.parameters h.parameters in
    let scoped = parameters_scoped (length method.parameters) (over_parameters table tree) Result_role (results_of tree) (λ p. omega (arith, least, count)) first in
    record { outer = scoped.outer; inner = scoped.inner }

pub both_fit : (one : Program) (names : List (List ℕ)) (table : Table) (tree : MethodDeclaration) (method : Method) → TableHolds one table → IsMethod names table tree method
    → Fits one method (over_both table tree) (types_of method.parameters ++ types_of method.results)
both_fit one names table tree method t h = record {
  table = subst (λ (x : Table). TableHolds one x) (sym (both_table table tree)) t;
  types = both_known one names table tree method t h;
  scoped = both_scoped one names table tree method t h;
  wide = omega (arith, both_width names table tree method.parameters method.results h.parameters h.results);
  same = subst (λ (all : List Inferred). HaveTypes all (types_of method.parameters ++ types_of method.results)) (sym (both_fixed names table tree method.parameters method.results h.parameters h.results)) (fixed_have (types_of method.parameters ++ types_of method.results));
}

-- what fixes the types in a body keeps those of parameters and results
body_have : (names : List (List ℕ)) (table : Table) (tree : MethodDeclaration) (method : Method) → IsMethod names table tree method → HaveTypes (over_body table tree).types (types_of method.parameters ++ types_of method.results)
body_have names table tree method h =
    let both = types_of method.parameters ++ types_of method.results in
    let kept = all_behind_kept (enter (over_both table tree)) tree.body.statements in
    fixed_kept both (over_body table tree).types (subst (λ (all : List Inferred). Kept all (over_body table tree).types) (both_fixed names table tree method.parameters method.results h.parameters h.results) kept)

pub body_inside : (one : Program) (names : List (List ℕ)) (table : Table) (tree : MethodDeclaration) (method : Method) → TableHolds one table → IsMethod names table tree method
    → Inside (record { program = one; method = method; locals = types_of method.parameters ++ types_of method.results; in_loop = false }) (over_body table tree)
body_inside one names table tree method t h =
    let both = both_fit one names table tree method t h in
    let entered = enter_scoped (length method.parameters) (over_both table tree) both.scoped in
    let width = both_width names table tree method.parameters method.results h.parameters h.results in
    let count = params_count names table tree.parameters method.parameters h.parameters in
    let same = declared_same (over_parameters table tree) Result_role (results_of tree) in
    let first = declared_same (empty_environment table) Parameter_role tree.parameters in
    let have = body_have names table tree method h in
    record {
      fits = record {
        table = both.table;
        types = all_behind_known one (enter (over_both table tree)) tree.body.statements both.table both.types;
        scoped = record { outer = entered.outer; inner = entered.inner };
        wide = both.wide;
        same = have;
      };
      least = omega (arith, both_next table tree, count);
      next = width;
      in_loop = same.in_loop ∙ first.in_loop;
      returns = subst (λ (xs : List Local). Returns (over_body table tree).types (length method.parameters) xs (types_of method.results))
          (ap (λ (n : ℕ). declared_from n Result_role (results_of tree)) count ∙ sym (results_declared table tree))
          (params_return names table (results_of tree) method.results (over_body table tree).types (length method.parameters) (types_of method.parameters) Result_role (sym (types_count method.parameters)) h.results have);
      behind_results = omega (
        arith,
        both_next table tree,
        count,
        ap (λ (xs : List Local). length xs) (results_declared table tree),
        declared_count (length tree.parameters) Result_role (results_of tree),
      );
    }
