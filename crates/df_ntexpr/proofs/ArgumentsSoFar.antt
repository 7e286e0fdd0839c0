-- The steps of the loop over the arguments of a call.
use Rattle.std.proofs.Common.{◌≡◌, ℕ, ◌+◌, ◌<◌, ◌≤◌, List, ◌∷◌, length, map, drop, get_or, slice_get, Option, Some, Ok, Err, refl, sym, ap, ◌∙◌}
use Rattle.std.proofs.lemmas.List.{drop_all, drop_more}
use Rattle.df_lang.specs.declared.ty.Ty.{Ty}
use Rattle.df_ntree.specs.Expr as tree
use Rattle.df_ntree.specs.declared.expr.Expr.{Expr}
use Rattle.df_ntyping.specs.Environment.{Environment}
use Rattle.df_ntyping.specs.mirror.Parts.{Answer, and_then, inside, void}
use Rattle.df_ntyping.specs.mirror.Looking.{given, look, look_arguments}
use Rattle.df_ntyping.proofs.ArgumentPlaces.{first_at, others_at}
use Rattle.df_ntexpr.specs.declared.broken.Halt.{Halt}
use Rattle.df_ntexpr.specs.declared.broken.Halt.TheVariants as halts
use Rattle.df_ntexpr.specs.Parts.{Gives}

module _ (env : Environment) (places : List Ty) (items : List Expr) where
  -- of the arguments from a number on
  abbrev pub left_from : ℕ → Answer (Unit {0})
  left_from i = look_arguments env (map Some (drop i places)) (tree.arguments_of (map tree.expr_of (drop i items)))

  pub arguments_end : (i : ℕ) (total : Answer (Unit {0})) → length items ≤ i → left_from i ≡ total → total ≡ Ok tt
  arguments_end i total past so_far = sym so_far ∙ ap (λ (es : List Expr). look_arguments env (map Some (drop i places)) (tree.arguments_of (map tree.expr_of es))) (drop_all i items past)

  module _ (i : ℕ) (item : Expr) (lt : i < length items) (is : item ≡ get_or items i item) (place : Option Ty) (at : place ≡ slice_get places i) where
    abbrev one : Answer (Unit {0})
    one = void (inside (given env place (tree.expr_of item) (look env (tree.expr_of item))))

    left_is : left_from i ≡ and_then one (λ (done : Unit {0}). left_from (i + 1))
    left_is =
        let first = first_at places i ∙ sym at in
        let more = others_at places i in
        let cut : drop i items ≡ item ∷ drop (i + 1) items = drop_more items i item lt ∙ ap (λ (e : Expr). e ∷ drop (i + 1) items) (sym is) in
        ap (λ (es : List Expr). look_arguments env (map Some (drop i places)) (tree.arguments_of (map tree.expr_of es))) cut
        ∙ (λ k. and_then (void (inside (given env (first k) (tree.expr_of item) (look env (tree.expr_of item))))) (λ (done : Unit {0}). look_arguments env (more k) (tree.arguments_of (map tree.expr_of (drop (i + 1) items)))))

    pub arguments_go : (total : Answer (Unit {0})) → one ≡ Ok tt → left_from i ≡ total → left_from (i + 1) ≡ total
    arguments_go total right so_far = sym (left_is ∙ ap (λ (a : Answer (Unit {0})). and_then a (λ (done : Unit {0}). left_from (i + 1))) right) ∙ so_far

    pub arguments_stop : {X Z : Type 0} (v : X → Unit {0}) (w : Z → Unit {0}) (halt : Halt) (total : Answer (Unit {0})) → Gives v (Err halt) one → left_from i ≡ total → Gives w (Err halt) total
    arguments_stop v w halts.Memory total told so_far = tt
    arguments_stop v w (halts.Broken broken) total told so_far = sym so_far ∙ left_is ∙ ap (λ (a : Answer (Unit {0})). and_then a (λ (done : Unit {0}). left_from (i + 1))) told
