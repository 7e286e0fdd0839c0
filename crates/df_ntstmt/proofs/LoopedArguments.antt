-- The steps of the loop over the arguments of a call.
use Rattle.std.proofs.Common.{◌≡◌, ℕ, ◌+◌, ◌<◌, ◌≤◌, List, [], ◌∷◌, ◌++◌, length, map, drop, get_or, append-nil, slice_get, Option, Some, Ok, Err, refl, sym, ap, ◌∙◌}
use Rattle.std.proofs.lemmas.List.{drop_all}
use Rattle.df_base.specs.declared.refusal.Stop.{Stop}
use Rattle.df_lang.specs.Expr as typed
use Rattle.df_lang.specs.declared.ty.Ty.{Ty}
use Rattle.df_ntree.specs.Expr.{expr_of, arguments_of}
use Rattle.df_ntree.specs.declared.expr.Expr.{Expr}
use Rattle.df_ntyping.specs.Environment.{Environment}
use Rattle.df_ntyping.specs.mirror.Parts.{Typed}
use Rattle.df_ntyping.proofs.ArgumentPlaces.{first_at, others_at}
use Rattle.df_ntexpr.specs.Replies.{Reply, Replies}
use Rattle.df_ntstmt.specs.mirror.Steps.{and_then, in_front, typed_in, wanted_at}
use Rattle.df_ntstmt.specs.mirror.Sides.{arguments_in}
use Rattle.df_ntstmt.proofs.Looping.{cut, front_goes, front_stops}

no_front : {A : Type 0} (answer : Reply (List A)) → in_front [] answer ≡ answer
no_front (Ok others) = refl
no_front (Err refusal) = refl

module _ (env : Environment) (places : List Ty) (items : List Expr) where
  -- of the arguments from a number on
  abbrev pub left_from : ℕ → Reply (List typed.Expr)
  left_from i = arguments_in env (map Some (drop i places)) (arguments_of (map expr_of (drop i items)))

  pub arguments_begin : (made : List typed.Expr) → made ≡ [] → in_front made (left_from 0) ≡ left_from 0
  arguments_begin made none = ap (λ (before : List typed.Expr). in_front before (left_from 0)) none ∙ no_front (left_from 0)

  pub arguments_end : (i : ℕ) (made : List typed.Expr) (total : Reply (List typed.Expr)) → length items ≤ i → in_front made (left_from i) ≡ total → total ≡ Ok made
  arguments_end i made total past so_far =
      sym so_far ∙ ap (λ (es : List Expr). in_front made (arguments_in env (map Some (drop i places)) (arguments_of (map expr_of es)))) (drop_all i items past) ∙ ap Ok (append-nil made)

  module _ (i : ℕ) (item : Expr) (lt : i < length items) (is : item ≡ get_or items i item) (place : Option Ty) (at : place ≡ slice_get places i) where
    abbrev behind : Typed → Reply (List typed.Expr)
    behind one = and_then (left_from (i + 1)) (λ (others : List typed.Expr). Ok (one.expr ∷ others))

    left_is : left_from i ≡ and_then (typed_in env (wanted_at place) (expr_of item)) behind
    left_is =
        let first = first_at places i ∙ sym at in
        let more = others_at places i in
        ap (λ es. arguments_in env (map Some (drop i places)) (arguments_of es)) (cut expr_of items i item lt is)
        ∙ (λ k. and_then (typed_in env (wanted_at (first k)) (expr_of item)) (λ (one : Typed). and_then (arguments_in env (more k) (arguments_of (map expr_of (drop (i + 1) items)))) (λ (others : List typed.Expr). Ok (one.expr ∷ others))))

    pub arguments_go : (before : List typed.Expr) (total : Reply (List typed.Expr)) (one : Typed) → typed_in env (wanted_at place) (expr_of item) ≡ Ok one → in_front before (left_from i) ≡ total → in_front (before ++ one.expr ∷ []) (left_from (i + 1)) ≡ total
    arguments_go before total one made so_far = front_goes (λ (t : Typed). t.expr) before (typed_in env (wanted_at place) (expr_of item)) one (left_from i) (left_from (i + 1)) total left_is made so_far

    pub arguments_stop : {X Z : Type 0} (v : X → Typed) (w : Z → List typed.Expr) (stop : Stop) (before : List typed.Expr) (total : Reply (List typed.Expr)) → Replies v (Err stop) (typed_in env (wanted_at place) (expr_of item)) → in_front before (left_from i) ≡ total
        → Replies w (Err stop) total
    arguments_stop v w stop before total told so_far = front_stops v w stop before (typed_in env (wanted_at place) (expr_of item)) behind (left_from i) total left_is told so_far
