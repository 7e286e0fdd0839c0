-- What the code's expressions are, opened once, and the steps of loops over them.
use Rattle.std.proofs.Common.{◌≡◌, ℕ, suc, ◌+◌, ◌<◌, List, [], ◌∷◌, length, map, drop, get_or, nat_eq, arith, refl, ap, ◌∙◌, rules, drop-cons, add-one}
use Rattle.std.proofs.lemmas.Bool.{ne_eqb}
use Rattle.df_ntyping.specs.ExprNodes.{count}
use Rattle.df_ntyping.specs.Types.{is_single}
use Rattle.df_ntree.specs.declared.expr.Expr as declared
use Rattle.df_ntree.specs.declared.expr.Operation as declared_operation
use Rattle.df_ntree.specs.Expr as tree
use Rattle.df_ntree.specs.Expr.{Members, end, more}

pub operation_seen : (item : declared_operation.Operation) → tree.operation_of item ≡ record { operator = item.operator; pos = item.pos; operand = tree.expr_of item.operand }
operation_seen item = search (rules, declared_operation.the_lemmas)

-- the next operation, and those after it
pub cut : (items : List declared_operation.Operation) (i : ℕ) (item : declared_operation.Operation) → i < length items → item ≡ get_or items i item
    → tree.members_of (map tree.operation_of (drop i items)) ≡ more item.operator item.pos (tree.expr_of item.operand) (tree.members_of (map tree.operation_of (drop (i + 1) items)))
cut items i item lt is =
    let here : drop i items ≡ item ∷ drop (i + 1) items = drop-cons items i item lt ∙ rw (← is, add-one) refl in
    ap (λ (all : List declared_operation.Operation). tree.members_of (map tree.operation_of all)) here
    ∙ ap (λ (x : tree.Operation). more x.operator x.pos x.operand (tree.members_of (map tree.operation_of (drop (i + 1) items)))) (operation_seen item)

-- a run of one operation
pub single : (items : List declared_operation.Operation) → nat_eq (length items) 1 ≡ is_single (tree.members_of (map tree.operation_of items))
single [] = refl
single (x ∷ []) = refl
single (x ∷ y ∷ items) = ne_eqb (suc (suc (length items))) 1 (λ e. omega (arith, e))

-- as many arguments as expressions
pub counted : (all : List declared.Expr) → length all ≡ count (tree.arguments_of (map tree.expr_of all))
counted [] = refl
counted (x ∷ all) = ap suc (counted all)
