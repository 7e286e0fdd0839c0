-- The steps of loops over right sides and left sides.
use Rattle.std.proofs.Common.{◌≡◌, ℕ, zero, suc, ◌+◌, ◌<◌, ◌≤◌, List, [], ◌∷◌, ◌++◌, length, map, drop, get_or, Option, Ok, Err, refl, sym, ap, subst, ◌∙◌, arith}
use Rattle.df_base.specs.declared.refusal.Stop.{Stop}
use Rattle.df_lang.specs.declared.ty.Ty.{Ty}
use Rattle.df_lang.specs.Stmt as typed
use Rattle.df_ntree.specs.declared.expr.Expr as declared
use Rattle.df_ntree.specs.Expr as tree
use Rattle.df_ntyping.specs.Environment.{Environment}
use Rattle.df_ntyping.specs.ExprNodes.{first_place, other_places}
use Rattle.df_ntexpr.specs.Replies.{Reply, Replies}
use Rattle.df_ntstmt.specs.declared.places.Place.{Place}
use Rattle.df_ntstmt.specs.mirror.Steps.{and_then, in_front}
use Rattle.df_ntstmt.specs.mirror.Sides.{source_in, apart_in, sources_in, place_in, places_in}
use Rattle.df_ntstmt.proofs.Looping.{cut, front_goes, front_stops}

-- ---- places

others_after : (i : ℕ) (places : List (Option Ty)) → other_places (drop i places) ≡ drop (suc i) places
others_after zero [] = refl
others_after zero (ty ∷ places) = refl
others_after (suc i) [] = refl
others_after (suc i) (ty ∷ places) = others_after i places

others_behind : (i : ℕ) (places : List (Option Ty)) → other_places (drop i places) ≡ drop (i + 1) places
others_behind i places = let next : suc i ≡ i + 1 = omega arith in others_after i places ∙ ap (λ (n : ℕ). drop n places) next

-- ---- right sides

source_first : (env : Environment) (places : List (Option Ty)) (all : List declared.Expr) (i : ℕ) (e : declared.Expr) → i < length all → e ≡ get_or all i e
    → apart_in env (drop i places) (map tree.expr_of (drop i all)) ≡ and_then (source_in env (first_place (drop i places) ∷ []) (tree.expr_of e)) (λ (one : typed.Source). and_then (apart_in env (drop (i + 1) places) (map tree.expr_of (drop (i + 1) all))) (λ (others : List typed.Source). Ok (one ∷ others)))
source_first env places all i e lt is =
    let rest = map tree.expr_of (drop (i + 1) all) in
    ap (apart_in env (drop i places)) (cut tree.expr_of all i e lt is)
    ∙ λ j. and_then (source_in env (first_place (drop i places) ∷ []) (tree.expr_of e)) (λ (one : typed.Source). and_then (apart_in env (others_behind i places j) rest) (λ (others : List typed.Source). Ok (one ∷ others)))

pub source_goes : (env : Environment) (places : List (Option Ty)) (all : List declared.Expr) (i : ℕ) (e : declared.Expr) (before : List typed.Source) (place : Option Ty) (one : typed.Source) (total : Reply (List typed.Source)) → i < length all → e ≡ get_or all i e
    → place ≡ first_place (drop i places) → source_in env (place ∷ []) (tree.expr_of e) ≡ Ok one → in_front before (apart_in env (drop i places) (map tree.expr_of (drop i all))) ≡ total
    → in_front (before ++ one ∷ []) (apart_in env (drop (i + 1) places) (map tree.expr_of (drop (i + 1) all))) ≡ total
source_goes env places all i e before place one total lt is here made so_far =
    let made_here = ap (λ (ty : Option Ty). source_in env (ty ∷ []) (tree.expr_of e)) (sym here) ∙ made in
    front_goes (λ (x : typed.Source). x) before _ one _ _ total (source_first env places all i e lt is) made_here so_far

pub source_stops : {X Z : Type 0} (v : X → typed.Source) (w : Z → List typed.Source) (stop : Stop) (env : Environment) (places : List (Option Ty)) (all : List declared.Expr) (i : ℕ) (e : declared.Expr) (before : List typed.Source) (place : Option Ty) (total : Reply (List typed.Source)) → i < length all → e ≡ get_or all i e
    → place ≡ first_place (drop i places) → Replies v (Err stop) (source_in env (place ∷ []) (tree.expr_of e)) → in_front before (apart_in env (drop i places) (map tree.expr_of (drop i all))) ≡ total → Replies w (Err stop) total
source_stops v w stop env places all i e before place total lt is here told so_far =
    let told_here = subst (λ (ty : Option Ty). Replies v (Err stop) (source_in env (ty ∷ []) (tree.expr_of e))) here told in
    front_stops v w stop before _ _ _ total (source_first env places all i e lt is) told_here so_far

-- of several each gives one
pub several : (env : Environment) (places : List (Option Ty)) (all : List declared.Expr) → 2 ≤ length all → sources_in env places (map tree.expr_of all) ≡ apart_in env places (map tree.expr_of all)
several env places [] le = absurd (omega (arith, le))
several env places (x ∷ []) le = absurd (omega (arith, le))
several env places (x ∷ y ∷ all) le = refl

-- ---- left sides

place_first : (env : Environment) (all : List declared.Expr) (i : ℕ) (e : declared.Expr) → i < length all → e ≡ get_or all i e
    → places_in env (map tree.expr_of (drop i all)) ≡ and_then (place_in env (tree.expr_of e)) (λ (one : Place). and_then (places_in env (map tree.expr_of (drop (i + 1) all))) (λ (others : List Place). Ok (one ∷ others)))
place_first env all i e lt is = ap (places_in env) (cut tree.expr_of all i e lt is)

pub place_goes : (env : Environment) (all : List declared.Expr) (i : ℕ) (e : declared.Expr) (before : List Place) (one : Place) (total : Reply (List Place)) → i < length all → e ≡ get_or all i e → place_in env (tree.expr_of e) ≡ Ok one
    → in_front before (places_in env (map tree.expr_of (drop i all))) ≡ total → in_front (before ++ one ∷ []) (places_in env (map tree.expr_of (drop (i + 1) all))) ≡ total
place_goes env all i e before one total lt is made so_far = front_goes (λ (x : Place). x) before _ one _ _ total (place_first env all i e lt is) made so_far

pub place_stops : {X Z : Type 0} (v : X → Place) (w : Z → List Place) (stop : Stop) (env : Environment) (all : List declared.Expr) (i : ℕ) (e : declared.Expr) (before : List Place) (total : Reply (List Place)) → i < length all → e ≡ get_or all i e
    → Replies v (Err stop) (place_in env (tree.expr_of e)) → in_front before (places_in env (map tree.expr_of (drop i all))) ≡ total → Replies w (Err stop) total
place_stops v w stop env all i e before total lt is told so_far = front_stops v w stop before _ _ _ total (place_first env all i e lt is) told so_far
