-- The environments of a method that breaks nothing: all locals in scope have types.
use Rattle.std.proofs.Common.{◌≡◌, ℕ, suc, ◌+◌, ◌<◌, ◌≤◌, List, [], ◌∷◌, ◌++◌, length, Option, Some, None, refl, sym, ap, subst, ◌∙◌, arith}
use Rattle.std.specs.Prelude.{slice_get}
use Rattle.std.specs.List.{AllByRecursion}
use Rattle.df_lemmas.proofs.Lists.{get_below}
use Rattle.df_lang.specs.declared.ty.Ty.{Ty}
use Rattle.df_lang.specs.Program as program
use Rattle.df_lang.specs.Program.{types_of}
use Rattle.df_ntree.specs.declared.file.Parameter.{Parameter}
use Rattle.df_ntree.specs.File.{MethodDeclaration}
use Rattle.df_ntree.specs.FileSpelling as grammar
use Rattle.df_ntyping.specs.Table.{Table, results_of}
use Rattle.df_ntyping.specs.Environment.{Role, Parameter_role, Result_role, Local, Inferred, Fixed, fixed_type, declare_parameters, enter, locals_in_all}
use Rattle.df_ntyping.specs.FileNodes.{empty_environment, over_parameters, over_both, over_body}
use Rattle.df_ntyping.specs.StatementNodes.{statements_nodes}
use Rattle.df_ntyping.specs.FileElaboration.{AreParameters}
use Rattle.df_ntyping.proofs.KeptTypes.{kept_self, all_behind_kept}
use Rattle.df_ntyping.proofs.ScopedLocals.{IsScoped, enter_scoped, parameters_scoped}
use Rattle.df_ntyping.proofs.WholeTypes.{AreWhole, no_type, one_type, whole_at}
use Rattle.df_ntyping.proofs.BehindLengths.{all_behind_length}
use Rattle.df_ntyping.proofs.FirstLocals.{fixed, get_fixed, params_fixed, params_count, types_count, declared_from, declared_same, declared_next, both_fixed, both_next, both_table, both_width, results_declared}
use Rattle.df_ntyping.proofs.FaultlessNodes.{AllFaultless, TableKnown}
use Rattle.df_ntyping.proofs.WalkedTypes.{Walks}
use Rattle.df_ntyping.proofs.WalkedStatements.{statements_walked}
use Rattle.df_ntyping.proofs.ElaboratedSides.{IsReady}

-- ---- fixed types

fixed_length : (all : List Ty) → length (fixed all) ≡ length all
fixed_length [] = refl
fixed_length (ty ∷ others) = ap suc (fixed_length others)

fixed_whole : (all : List Ty) → AreWhole (fixed all)
fixed_whole [] = no_type
fixed_whole (ty ∷ others) = one_type tt (fixed_whole others)

fixed_typed : (all : List Ty) (k : ℕ) → k < length all → (ty : Ty) × (slice_get (fixed all) k ≡ Some (Fixed (Some ty)))
fixed_typed all k lt = let (ty, p) = get_below all k lt in (ty, get_fixed all k ty p)

all_typed : (types : List Inferred) (all : List Ty) → types ≡ fixed all → (k : ℕ) → k < length types → (ty : Ty) × (fixed_type (slice_get types k) ≡ Some ty)
all_typed types all p k lt =
    let (ty, q) = fixed_typed all k (omega (arith, ap (λ (xs : List Inferred). length xs) p, fixed_length all)) in
    (ty, ap (λ (xs : List Inferred). fixed_type (slice_get xs k)) p ∙ ap fixed_type q)

-- ---- parameters and results

none_scoped : (table : Table) → IsScoped 0 (empty_environment table)
none_scoped table = record { outer = tt; inner = tt }

pub parameters_ready : (names : List (List ℕ)) (table : Table) (tree : MethodDeclaration) (ps : List program.Param) → TableKnown table → AreParameters names table tree.parameters ps → IsReady (over_parameters table tree)
parameters_ready names table tree ps t h =
    let env = declare_parameters (empty_environment table) Parameter_role tree.parameters in
    let same = declared_same (empty_environment table) Parameter_role tree.parameters in
    let types = params_fixed names table env tree.parameters ps same.table h in
    let scoped = parameters_scoped 0 (empty_environment table) Parameter_role tree.parameters (λ p. omega arith) (none_scoped table) in
    record {
      table = subst (λ (x : Table). TableKnown x) (sym same.table) t;
      scoped = record { outer = scoped.outer; inner = scoped.inner };
      typed_locals = all_typed (over_parameters table tree).types (types_of ps) types;
      room = omega (arith, declared_next (empty_environment table) Parameter_role tree.parameters, params_count names table tree.parameters ps h, types_count ps, ap (λ (xs : List Inferred). length xs) types, fixed_length (types_of ps));
      result_locals = subst (λ (results : List Local). AllByRecursion (λ (result : Local). result.number < env.next) results) (sym same.results) tt;
    }

results_below : (number count : ℕ) (role : Role) (xs : List Parameter) → number + length xs ≤ count → AllByRecursion (λ (result : Local). result.number < count) (declared_from number role xs)
results_below number count role [] p = tt
results_below number count role (x ∷ others) p = (omega arith, results_below (suc number) count role others (omega arith))

both_scoped : (table : Table) (tree : MethodDeclaration) → IsScoped 0 (over_both table tree)
both_scoped table tree =
    let first = parameters_scoped 0 (empty_environment table) Parameter_role tree.parameters (λ p. omega arith) (none_scoped table) in
    let scoped = parameters_scoped 0 (over_parameters table tree) Result_role (results_of tree) (λ p. omega arith) (record { outer = first.outer; inner = first.inner }) in
    record { outer = scoped.outer; inner = scoped.inner }

both_results : (table : Table) (tree : MethodDeclaration) → AllByRecursion (λ (result : Local). result.number < (over_both table tree).next) (over_both table tree).results
both_results table tree =
    subst (λ (results : List Local). AllByRecursion (λ (result : Local). result.number < (over_both table tree).next) results) (sym (results_declared table tree))
    (results_below (length tree.parameters) (over_both table tree).next Result_role (results_of tree) (omega (arith, both_next table tree)))

pub both_ready : (names : List (List ℕ)) (table : Table) (tree : MethodDeclaration) (ps rs : List program.Param) → TableKnown table → AreParameters names table tree.parameters ps → AreParameters names table (results_of tree) rs
    → IsReady (over_both table tree)
both_ready names table tree ps rs t h k =
    let all = types_of ps ++ types_of rs in
    let types = both_fixed names table tree ps rs h k in
    record {
      table = subst (λ (x : Table). TableKnown x) (sym (both_table table tree)) t;
      scoped = both_scoped table tree;
      typed_locals = all_typed (over_both table tree).types all types;
      room = omega (arith, both_width names table tree ps rs h k, ap (λ (xs : List Inferred). length xs) types, fixed_length all);
      result_locals = both_results table tree;
    }

-- ---- the body

-- of a walk through the body, over what parameters and results fix
pub body_walks : (names : List (List ℕ)) (table : Table) (tree : MethodDeclaration) (ps rs : List program.Param) → TableKnown table → AreParameters names table tree.parameters ps → AreParameters names table (results_of tree) rs
    → Walks (enter (over_both table tree)) (over_body table tree)
body_walks names table tree ps rs t h k =
    let all = types_of ps ++ types_of rs in
    let one = enter (over_both table tree) in
    let types = both_fixed names table tree ps rs h k in
    let width = both_width names table tree ps rs h k in
    let scoped = enter_scoped 0 (over_both table tree) (both_scoped table tree) in
    record {
      table = subst (λ (x : Table). TableKnown x) (sym (both_table table tree)) t;
      like = record { table = refl; outer = refl; inner = refl; next = refl };
      size = omega (arith, width, ap (λ (xs : List Inferred). length xs) types, fixed_length all);
      known_types = subst (λ (xs : List Inferred). AreWhole xs) (sym types) (fixed_whole all);
      scoped = record { outer = scoped.outer; inner = scoped.inner };
      ahead = record { fixed = λ k lt. fixed_there k (fixed_typed all k (omega (arith, width))) types };
    } where
      fixed_there : (n : ℕ) → (ty : Ty) × (slice_get (fixed (types_of ps ++ types_of rs)) n ≡ Some (Fixed (Some ty))) → (over_both table tree).types ≡ fixed (types_of ps ++ types_of rs)
          → (x : Option Ty) × (slice_get (over_body table tree).types n ≡ Some (Fixed x))
      fixed_there n (ty, p) types =
          (Some ty, (all_behind_kept (enter (over_both table tree)) tree.body.statements).keeps n (Fixed (Some ty)) (ap (λ (xs : List Inferred). slice_get xs n) types ∙ p) (λ q. cc))

known_there : (all : List Inferred) (k : ℕ) (x : Option Ty) → AreWhole all → slice_get all k ≡ Some (Fixed x) → (ty : Ty) × (fixed_type (slice_get all k) ≡ Some ty)
known_there all k None h p = absurd (whole_at all k (Fixed None) h p)
known_there all k (Some ty) h p = (ty, ap fixed_type p)

pub body_room : (names : List (List ℕ)) (table : Table) (tree : MethodDeclaration) (ps rs : List program.Param) → AreParameters names table tree.parameters ps → AreParameters names table (results_of tree) rs
    → (over_body table tree).next + locals_in_all tree.body.statements ≡ length (over_body table tree).types
body_room names table tree ps rs h k = omega (
  arith,
  all_behind_length (enter (over_both table tree)) tree.body.statements,
  both_width names table tree ps rs h k,
  ap (λ (xs : List Inferred). length xs) (both_fixed names table tree ps rs h k),
  fixed_length (types_of ps ++ types_of rs),
)

pub body_ready : (names : List (List ℕ)) (table : Table) (tree : MethodDeclaration) (ps rs : List program.Param) (start : ℕ) → TableKnown table → AreParameters names table tree.parameters ps → AreParameters names table (results_of tree) rs
    → grammar.AreStatements tree.body.statements → AllFaultless (statements_nodes (over_body table tree) start tree.body.statements) → IsReady (over_body table tree)
body_ready names table tree ps rs start t h k g f =
    let whole = over_body table tree in
    let w = body_walks names table tree ps rs t h k in
    let room = body_room names table tree ps rs h k in
    let walked = statements_walked (enter (over_both table tree)) whole start tree.body.statements w (kept_self whole.types) g (omega (arith, room)) f in
    record {
      table = w.table;
      scoped = w.scoped;
      typed_locals = λ n lt. typed_at n (walked.ahead.fixed n (omega (arith, room))) walked.known_types;
      room = omega (arith, room);
      result_locals = both_results table tree;
    } where
      typed_at : (n : ℕ) → (x : Option Ty) × (slice_get (over_body table tree).types n ≡ Some (Fixed x)) → AreWhole (over_body table tree).types → (ty : Ty) × (fixed_type (slice_get (over_body table tree).types n) ≡ Some ty)
      typed_at n (x, p) h = known_there (over_body table tree).types n x h p
