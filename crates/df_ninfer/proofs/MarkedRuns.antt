-- The steps of loops that mark the operands of a run, and the arguments of a call.
use Rattle.std.proofs.Common.{◌≡◌, ℕ, ◌+◌, ◌<◌, List, length, map, drop, get_or, sym, ap, ◌∙◌}
use Rattle.df_ntree.specs.declared.expr.Expr as declared_expr
use Rattle.df_ntree.specs.declared.expr.Operation as declared_operation
use Rattle.df_ntree.specs.Expr.{Expr, Operations, Call, Operation, Members, Arguments, expr_of, operation_of, members_of, arguments_of}
use Rattle.df_ntyping.specs.Environment.{Environment}
use Rattle.df_ntyping.specs.LocalTypes.{names_in, names_in_members, names_in_arguments}
use Rattle.df_ninfer.specs.Marks.{marked}
use Rattle.df_ninfer.proofs.Marking.{marked_more}
use Rattle.df_ninfer.proofs.Looping.{cut}

pub operations_go : (items : List declared_operation.Operation) (i : ℕ) (one : declared_operation.Operation) (env now total : Environment) → i < length items → one ≡ get_or items i one → now ≡ marked env (names_in (operation_of one).operand)
    → marked env (names_in_members (members_of (map operation_of (drop i items)))) ≡ total → marked now (names_in_members (members_of (map operation_of (drop (i + 1) items)))) ≡ total
operations_go items i one env now total lt is made so_far =
    let rest = names_in_members (members_of (map operation_of (drop (i + 1) items))) in
    ap (λ (e : Environment). marked e rest) made ∙ marked_more env (names_in (operation_of one).operand) rest ∙ ap (λ (all : List Operation). marked env (names_in_members (members_of all))) (sym (cut operation_of items i one lt is)) ∙ so_far

pub arguments_go : (items : List declared_expr.Expr) (i : ℕ) (one : declared_expr.Expr) (env now total : Environment) → i < length items → one ≡ get_or items i one → now ≡ marked env (names_in (expr_of one))
    → marked env (names_in_arguments (arguments_of (map expr_of (drop i items)))) ≡ total → marked now (names_in_arguments (arguments_of (map expr_of (drop (i + 1) items)))) ≡ total
arguments_go items i one env now total lt is made so_far =
    let rest = names_in_arguments (arguments_of (map expr_of (drop (i + 1) items))) in
    ap (λ (e : Environment). marked e rest) made ∙ marked_more env (names_in (expr_of one)) rest ∙ ap (λ (all : List Expr). marked env (names_in_arguments (arguments_of all))) (sym (cut expr_of items i one lt is)) ∙ so_far

-- ---- what stands first, and the others

pub run_marked : (env before now : Environment) (e first : Expr) (rest : Members) → e ≡ Operations first rest → before ≡ marked env (names_in first) → now ≡ marked before (names_in_members rest) → now ≡ marked env (names_in e)
run_marked env before now e first rest whole start made =
    made ∙ ap (λ (x : Environment). marked x (names_in_members rest)) start ∙ marked_more env (names_in first) (names_in_members rest) ∙ sym (ap (λ (x : Expr). marked env (names_in x)) whole)

pub call_marked : (env before now : Environment) (e callee : Expr) (all : Arguments) → e ≡ Call callee all → before ≡ marked env (names_in callee) → now ≡ marked before (names_in_arguments all) → now ≡ marked env (names_in e)
call_marked env before now e callee all whole start made =
    made ∙ ap (λ (x : Environment). marked x (names_in_arguments all)) start ∙ marked_more env (names_in callee) (names_in_arguments all) ∙ sym (ap (λ (x : Expr). marked env (names_in x)) whole)
