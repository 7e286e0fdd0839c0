-- The steps of loops that mark names, take values and declare locals.
use Rattle.std.proofs.Common.{◌≡◌, ℕ, zero, suc, ◌+◌, ◌<◌, Bool, List, [], ◌∷◌, ◌++◌, length, map, drop, get_or, Option, refl, sym, ap, ◌∙◌, append_assoc, drop-cons, add-one}
use Rattle.std.specs.List.{flat_map}
use Rattle.df_lang.specs.declared.ty.Ty.{Ty}
use Rattle.df_ntree.specs.declared.file.Local as declared_local
use Rattle.df_ntree.specs.Expr.{Expr}
use Rattle.df_ntyping.specs.Environment.{Inferred, Environment, Variable_role, declare, declare_variables, with_types}
use Rattle.df_ntyping.specs.LocalTypes.{over, next_type, other_types, taken}
use Rattle.df_ninfer.specs.Marks.{marked, took, inferred_by, inferred_all_by}
use Rattle.df_ninfer.proofs.Marking.{marked_more, took_more, by_table}
use Rattle.df_ninfer.proofs.Inferring.{variables_over}

-- ---- lists

-- the next element, and those behind it
pub behind_next : {X : Type 0} (xs : List X) (i : ℕ) (x : X) → i < length xs → x ≡ get_or xs i x → drop i xs ≡ x ∷ drop (i + 1) xs
behind_next xs i x lt is = drop-cons xs i x lt ∙ rw (← is, add-one) refl

pub cut : {X Y : Type 0} (f : X → Y) (xs : List X) (i : ℕ) (x : X) → i < length xs → x ≡ get_or xs i x → map f (drop i xs) ≡ f x ∷ map f (drop (i + 1) xs)
cut f xs i x lt is = ap (map f) (behind_next xs i x lt is)

others_behind : (i : ℕ) (types : List (Option Ty)) → other_types (drop i types) ≡ drop (suc i) types
others_behind zero [] = refl
others_behind zero (ty ∷ types) = refl
others_behind (suc i) [] = refl
others_behind (suc i) (ty ∷ types) = others_behind i types

pub others_next : (i : ℕ) (types : List (Option Ty)) → other_types (drop i types) ≡ drop (i + 1) types
others_next i types = others_behind i types ∙ rw add-one refl

-- ---- one element more

pub mark_step : {X Y : Type 0} (f : X → Y) (names : Y → List ℕ) (items : List X) (i : ℕ) (item : X) (env now total : Environment) → i < length items → item ≡ get_or items i item → now ≡ marked env (names (f item)) → marked env (flat_map names (map f (drop i items))) ≡ total
    → marked now (flat_map names (map f (drop (i + 1) items))) ≡ total
mark_step f names items i item env now total lt is made so_far =
    let rest = flat_map names (map f (drop (i + 1) items)) in
    ap (λ (e : Environment). marked e rest) made ∙ marked_more env (names (f item)) rest ∙ ap (λ (all : List _). marked env (flat_map names all)) (sym (cut f items i item lt is)) ∙ so_far

pub take_step : {X : Type 0} (f : X → Expr) (items : List X) (i : ℕ) (item : X) (types : List (Option Ty)) (ty : Option Ty) (env now total : Environment) → i < length items → item ≡ get_or items i item → ty ≡ next_type (drop i types)
    → now ≡ over env (taken env (f item) ty env.types) → took env (map f (drop i items)) (drop i types) ≡ total → took now (map f (drop (i + 1) items)) (drop (i + 1) types) ≡ total
take_step f items i item types ty env now total lt is first made so_far =
    let rest = map f (drop (i + 1) items) in
    ap (λ (e : Environment). took e rest (drop (i + 1) types)) (made ∙ ap (λ (t : Option Ty). over env (taken env (f item) t env.types)) first)
    ∙ ap (took (over env (taken env (f item) (next_type (drop i types)) env.types)) rest) (sym (others_next i types))
    ∙ took_more env (f item) rest (drop i types) ∙ ap (λ (all : List Expr). took env all (drop i types)) (sym (cut f items i item lt is)) ∙ so_far

-- behind the declared locals, with what fixes their types
abbrev pub declared_behind : Environment → List declared_local.Local → Bool → List (Option Ty) → Environment
declared_behind env locals has types = over (declare_variables env locals) (env.types ++ inferred_all_by env locals has types)

one_declared : (env : Environment) (local : declared_local.Local) (rest : List declared_local.Local) (has : Bool) (types : List (Option Ty)) (found : Inferred) → found ≡ inferred_by env local.ty has (next_type types)
    → declared_behind (declare (with_types env (env.types ++ found ∷ [])) Variable_role local.name.name) rest has (other_types types) ≡ declared_behind env (local ∷ rest) has types
one_declared env local rest has types found is =
    let one = declare env Variable_role local.name.name in
    let now = over one (env.types ++ found ∷ []) in
    let others = inferred_all_by env rest has (other_types types) in
    ap (λ (e : Environment). over e ((env.types ++ found ∷ []) ++ inferred_all_by now rest has (other_types types))) (variables_over one (env.types ++ found ∷ []) rest)
    ∙ ap (over (declare_variables one rest)) (ap (λ (all : List Inferred). (env.types ++ found ∷ []) ++ all) (by_table now env rest has (other_types types) refl) ∙ append_assoc env.types (found ∷ []) others ∙ ap (λ (x : Inferred). env.types ++ x ∷ others) is)

pub declare_step : (items : List declared_local.Local) (i : ℕ) (local : declared_local.Local) (env one now total : Environment) (has : Bool) (types : List (Option Ty)) (found : Inferred) → i < length items → local ≡ get_or items i local → found ≡ inferred_by env local.ty has (next_type (drop i types))
    → one ≡ with_types env (env.types ++ found ∷ []) → now ≡ declare one Variable_role local.name.name → declared_behind env (drop i items) has (drop i types) ≡ total → declared_behind now (drop (i + 1) items) has (drop (i + 1) types) ≡ total
declare_step items i local env one now total has types found lt is made pushed behind so_far =
    let rest = drop (i + 1) items in
    ap (λ (e : Environment). declared_behind e rest has (drop (i + 1) types)) (behind ∙ ap (λ (e : Environment). declare e Variable_role local.name.name) pushed)
    ∙ ap (declared_behind (declare (with_types env (env.types ++ found ∷ [])) Variable_role local.name.name) rest has) (sym (others_next i types))
    ∙ one_declared env local rest has (drop i types) found made ∙ ap (λ (all : List declared_local.Local). declared_behind env all has (drop i types)) (sym (behind_next items i local lt is)) ∙ so_far
