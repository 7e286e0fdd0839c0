-- What is known of the types of locals, name by name and target by target.
use Rattle.std.proofs.Common.{◌==◌, map, arith, ◌≡◌, ℕ, Bool, true, false, not, List, [], ◌∷◌, ◌++◌, length, Option, Some, None, refl, sym, ap, ◌∙◌, append-nil}
use Rattle.std.specs.List.{flat_map}
use Rattle.std.proofs.lemmas.Bool.{ne_eqb}
use Rattle.df_lang.specs.declared.ty.Ty.{Ty}
use Rattle.df_ntree.specs.declared.expr.TreeType.{TreeType}
use Rattle.df_ntree.specs.declared.file.Local as declared_local
use Rattle.df_ntree.specs.Expr.{Expr, Name}
use Rattle.df_ntyping.specs.Table.{Table, type_of}
use Rattle.df_ntyping.specs.Environment.{Inferred, Used, Fixed, Environment}
use Rattle.df_ntyping.specs.Meaning.{meaning_of}
use Rattle.df_ntyping.specs.LocalTypes.{names_in, used_inside, types_of_values, fix_meaning, used_names, over, next_type, other_types, taken, taken_all, inferred_of, inferred_all}
use Rattle.df_ninfer.specs.Marks.{marked, took, inferred_by, inferred_all_by}

-- ---- names

used_over : (env : Environment) (types all : List Inferred) (names : List ℕ) → used_names (over env types) names all ≡ used_names env names all
used_over env types all [] = refl
used_over env types all (name ∷ others) = used_over env types (fix_meaning (meaning_of env name) Used all) others

used_more : (env : Environment) (xs ys : List ℕ) (all : List Inferred) → used_names env (xs ++ ys) all ≡ used_names env ys (used_names env xs all)
used_more env [] ys all = refl
used_more env (x ∷ xs) ys all = used_more env xs ys (fix_meaning (meaning_of env x) Used all)

pub marked_more : (env : Environment) (xs ys : List ℕ) → marked (marked env xs) ys ≡ marked env (xs ++ ys)
marked_more env xs ys = ap (over env) (used_over env (used_names env xs env.types) (used_names env xs env.types) ys ∙ sym (used_more env xs ys env.types))

pub marked_none : (env : Environment) → marked env [] ≡ env
marked_none env = refl

pub marked_alone : (env : Environment) (xs : List ℕ) → marked env (xs ++ []) ≡ marked env xs
marked_alone env xs = ap (marked env) (append-nil xs)

-- ---- targets

taken_over : (env : Environment) (types : List Inferred) (e : Expr) (ty : Option Ty) (all : List Inferred) → taken (over env types) e ty all ≡ taken env e ty all
taken_over env types (Name ident) ty all = refl
taken_over env types e ty all = refl

takens_over : (env : Environment) (types : List Inferred) (targets : List Expr) (values : List (Option Ty)) (all : List Inferred) → taken_all (over env types) targets values all ≡ taken_all env targets values all
takens_over env types [] values all = refl
takens_over env types (e ∷ others) values all =
    ap (taken_all (over env types) others (other_types values)) (taken_over env types e (next_type values) all) ∙ takens_over env types others (other_types values) (taken env e (next_type values) all)

pub took_more : (env : Environment) (e : Expr) (others : List Expr) (values : List (Option Ty)) → took (over env (taken env e (next_type values) env.types)) others (other_types values) ≡ took env (e ∷ others) values
took_more env e others values = ap (over env) (takens_over env (taken env e (next_type values) env.types) others (other_types values) (taken env e (next_type values) env.types))

-- ---- declared locals

abbrev pub has_values : List Expr → Bool
has_values [] = false
has_values (e ∷ others) = true

one_inferred : (env : Environment) (values : List Expr) (value : Option Ty) (ty : Option TreeType) → inferred_by env ty (has_values values) value ≡ inferred_of env ty values value
one_inferred env values value (Some ty) = refl
one_inferred env [] value None = refl
one_inferred env (e ∷ others) value None = refl

pub all_inferred : (env : Environment) (locals : List declared_local.Local) (values : List Expr) (types : List (Option Ty)) → inferred_all_by env locals (has_values values) types ≡ inferred_all env locals values types
all_inferred env [] values types = refl
all_inferred env (local ∷ others) values types = λ i. one_inferred env values (next_type types) local.ty i ∷ all_inferred env others values (other_types types) i

-- ---- both sides of an assignment

pub assigned_so : (env : Environment) (targets : List Expr) (values : List (Option Ty)) (xs ys : List ℕ) → took (marked (marked env xs) ys) targets values ≡ over env (taken_all env targets values (used_names env (xs ++ ys) env.types))
assigned_so env targets values xs ys =
    ap (λ (e : Environment). took e targets values) (marked_more env xs ys) ∙ ap (over env) (takens_over env (used_names env (xs ++ ys) env.types) targets values (used_names env (xs ++ ys) env.types))

-- ---- only the table tells what a written type is

one_by_table : (env other : Environment) (ty : Option TreeType) (has : Bool) (value : Option Ty) → env.table ≡ other.table → inferred_by env ty has value ≡ inferred_by other ty has value
one_by_table env other (Some ty) has value same = ap (λ (table : Table). Fixed (type_of table.newtypes ty)) same
one_by_table env other None false value same = refl
one_by_table env other None true value same = refl

pub by_table : (env other : Environment) (locals : List declared_local.Local) (has : Bool) (types : List (Option Ty)) → env.table ≡ other.table → inferred_all_by env locals has types ≡ inferred_all_by other locals has types
by_table env other [] has types same = refl
by_table env other (local ∷ others) has types same = λ i. one_by_table env other local.ty has (next_type types) same i ∷ by_table env other others has (other_types types) same i

pub assign_done : (env one two three : Environment) (targets values : List Expr) (given items : List (Option Ty)) → one ≡ marked env (flat_map used_inside targets) → two ≡ marked one (flat_map names_in values) → given ≡ items → items ≡ types_of_values env values → three ≡ took two targets given
    → three ≡ over env (taken_all env targets (types_of_values env values) (used_names env (flat_map used_inside targets ++ flat_map names_in values) env.types))
assign_done env one two three targets values given items first second same types made =
    made ∙ ap (λ (e : Environment). took e targets given) (second ∙ ap (λ (e : Environment). marked e (flat_map names_in values)) first)
    ∙ ap (took (marked (marked env (flat_map used_inside targets)) (flat_map names_in values)) targets) (same ∙ types) ∙ assigned_so env targets (types_of_values env values) (flat_map used_inside targets) (flat_map names_in values)

pub has_by_count : {X : Type 0} (f : X → Expr) (values : List X) (empty : Bool) → empty ≡ (length values == 0) → not empty ≡ has_values (map f values)
has_by_count f [] empty p = ap not p
has_by_count f (x ∷ values) empty p = ap not (p ∙ ne_eqb (length (x ∷ values)) 0 (λ q. omega (arith, q)))
