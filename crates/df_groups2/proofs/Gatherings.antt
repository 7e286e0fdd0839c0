-- What parts of expressions call, one after another.
use Rattle.std.proofs.Common.{◌≡◌, ℕ, List, [], ◌∷◌, ◌++◌, map, Result, refl, ap, sym, ◌∙◌, append-nil, append_assoc}
use Rattle.std.specs.Result.{OnOk}
use Rattle.std.proofs.lemmas.Result.{on_ok_weaker}
use Rattle.df_types.specs.Expr.{Expr, Apply, Exprs, no_expr, expr, Extent, Between, Among}
use Rattle.df_types.specs.ExprView.{Operand, folded}
use Rattle.df_types.specs.Gathering.{gather, gather_all, gather_extent, of_exprs, of_extent}
use Rattle.df_types.specs.Calls.{called}
use Rattle.df_groups2.specs.Parts.{calls_in}

pub extent_calls : (extent : Extent) → gather_extent called extent ≡ calls_in (of_extent extent)
extent_calls (Between ty low low_strict high high_strict) = ap (λ (ns : List ℕ). gather called low ++ ns) (sym (append-nil (gather called high)))
extent_calls (Among ty container) = sym (append-nil (gather called container))

pub all_calls : (es : Exprs) → gather_all called es ≡ calls_in (of_exprs es)
all_calls no_expr = refl
all_calls (expr e es) = ap (λ (ns : List ℕ). gather called e ++ ns) (all_calls es)

-- operations from the left
pub folded_calls : (e : Expr) (operands : List Operand) → gather called (folded e operands) ≡ gather called e ++ calls_in (map (λ (x : Operand). x.operand) operands)
folded_calls e [] = sym (append-nil (gather called e))
folded_calls e (x ∷ xs) =
    let rest = calls_in (map (λ (y : Operand). y.operand) xs) in
    folded_calls (Apply x.op x.pos (expr e (expr x.operand no_expr))) xs
    ∙ ap (λ (ns : List ℕ). (gather called e ++ ns) ++ rest) (append-nil (gather called x.operand))
    ∙ append_assoc (gather called e) (gather called x.operand) rest

-- what the first part calls was added, and then what the second does
pub both_added : {T E : Type 0} (r : Result T E) (before middle after first second whole : List ℕ) → whole ≡ first ++ second → middle ≡ before ++ first → OnOk r (after ≡ middle ++ second) → OnOk r (after ≡ before ++ whole)
both_added r before middle after first second whole w m h =
    on_ok_weaker r (λ e. e ∙ ap (λ (ns : List ℕ). ns ++ second) m ∙ append_assoc before first second ∙ ap (λ (ns : List ℕ). before ++ ns) (sym w)) h

pub same_added : {T E : Type 0} (r : Result T E) (before after added whole : List ℕ) → whole ≡ added → OnOk r (after ≡ before ++ added) → OnOk r (after ≡ before ++ whole)
same_added r before after added whole w h = on_ok_weaker r (λ e. e ∙ ap (λ (ns : List ℕ). before ++ ns) (sym w)) h
