-- The walk over the arguments of a call.
use Rattle.std.proofs.Common.{◌≡◌, ℕ, ◌+◌, List, [], ◌∷◌, ◌++◌, length, Option, Ok, refl, sym, ap, subst, arith, append_assoc}
use Rattle.df_lang.specs.declared.ty.Ty.{Ty}
use Rattle.df_lang.specs.Expr as typed_expr
use Rattle.df_ntree.specs.Expr.{Expr, Arguments, no_more, argument}
use Rattle.df_ntree.specs.ExprSpelling.{spell, spell_arguments, spell_further, IsExpr}
use Rattle.df_ntree.specs.ExprSpelling as grammar
use Rattle.df_ntyping.specs.Literals.{AreInRange}
use Rattle.df_ntyping.specs.Environment.{Environment}
use Rattle.df_ntyping.specs.ExprNodes.{width, occurrence, expr_nodes, value_nodes, argument_nodes, first_place, other_places, count}
use Rattle.df_ntyping.specs.Node as nodes
use Rattle.df_ntyping.specs.Node.{Occurrence}
use Rattle.df_ntyping.specs.LocalTypes.{names_in, names_in_arguments}
use Rattle.df_ntyping.specs.SideElaboration.{AreArguments}
use Rattle.df_ntyping.specs.mirror.Parts.{Typed}
use Rattle.df_ntyping.proofs.ExprOrder.{argument_order}
use Rattle.df_ntyping.proofs.FirstFault.{NoNames, named_left, named_right}
use Rattle.df_ntyping.proofs.Found.{beyond_segment}
use Rattle.df_ntyping.proofs.KnownTypes.{known}
use Rattle.df_ntyping.proofs.SideOrder.{value_order}
use Rattle.df_ntyping.proofs.TypedIsWellTyped.{all_left, all_right}
use Rattle.df_ntyping.proofs.Verdict.{HaveTypes, types_left, types_right}
use Rattle.df_ntstmt.specs.mirror.Steps.{and_then, typed_in, wanted_at}
use Rattle.df_ntstmt.specs.mirror.Sides.{arguments_in}
use Rattle.df_ntstmt.proofs.Judging.{Judged, judged_then, judged_map, judged_none}
use Rattle.df_ntstmt.proofs.ExprsTold.{IsAt, value_told}

-- ---- arguments

-- an argument for each parameter, where the types of those are known
abbrev pub AreTyped : Environment → List (Option Ty) → Arguments → List typed_expr.Expr → Type 0
AreTyped env places arguments all = (tys : List Ty) → places ≡ known tys → length tys ≡ count arguments → AreArguments env (known tys) arguments all

none_typed : (env : Environment) (places : List (Option Ty)) → AreTyped env places no_more []
none_typed env places [] p q = refl
none_typed env places (ty ∷ tys) p q = absurd (omega (arith, q))

more_typed : (env : Environment) (places : List (Option Ty)) (e : Expr) (rest : Arguments) (t : Typed) (others : List typed_expr.Expr) → IsAt env (first_place places) e t → AreTyped env (other_places places) rest others
    → AreTyped env places (argument e rest) (t.expr ∷ others)
more_typed env places e rest t others h k [] p q = absurd (omega (arith, q))
more_typed env places e rest t others h k (ty ∷ tys) p q = (ty, t.expr, others, refl, (h ty (ap first_place p)).1, k tys (ap other_places p) (omega (arith, q)), refl)

inner_range : (rest : Arguments) → AreInRange (spell_further rest) → AreInRange (spell_arguments rest)
inner_range no_more r = refl
inner_range (argument e rest) r = r

pub arguments_told : (env : Environment) (start : ℕ) (places : List (Option Ty)) (arguments : Arguments) → grammar.AreArguments arguments → AreInRange (spell_arguments arguments) → HaveTypes env (names_in_arguments arguments)
    → NoNames (argument_nodes env start places arguments) → Judged (argument_nodes env start places arguments) (AreTyped env places arguments) (arguments_in env places arguments)
arguments_told env start places no_more a r t n = judged_none (AreTyped env places no_more) [] (none_typed env places)
arguments_told env start places (argument e rest) a r t n =
    let place = first_place places in
    let behind = argument_nodes env (start + width e + 1) (other_places places) rest in
    let one = occurrence env (nodes.Value place e) start (start + width e) in
    let grouped = append_assoc (expr_nodes env start e) (one ∷ []) behind in
    let all : NoNames (value_nodes env start place e ++ behind) = subst NoNames (sym grouped) n in
    subst (λ (xs : List Occurrence). Judged xs (AreTyped env places (argument e rest)) (arguments_in env places (argument e rest))) grouped
    (judged_then start start (start + width e) (value_nodes env start place e) behind (IsAt env place e) (AreTyped env places (argument e rest)) (typed_in env (wanted_at place) e)
    (λ (t : Typed). and_then (arguments_in env (other_places places) rest) (λ (others : List typed_expr.Expr). Ok (t.expr ∷ others)))
    (value_order env start place e a.0)
    (beyond_segment start (start + width e) (start + width e + 1) (start + width e + 1) (start + width e + 1 + length (spell_arguments rest)) behind (argument_order env (start + width e + 1) (other_places places) rest a.1) (omega arith))
    (value_told env start place e a.0 (all_left (spell e) (spell_further rest) r) (types_left env (names_in e) (names_in_arguments rest) t) (named_left (value_nodes env start place e) behind all))
    (λ one h.
    judged_map behind (AreTyped env (other_places places) rest) (AreTyped env places (argument e rest)) (arguments_in env (other_places places) rest) (λ (others : List typed_expr.Expr). one.expr ∷ others)
    (arguments_told env (start + width e + 1) (other_places places) rest a.1 (inner_range rest (all_right (spell e) (spell_further rest) r)) (types_right env (names_in e) (names_in_arguments rest) t) (named_right (value_nodes env start place e) behind all))
    (λ others k. more_typed env places e rest one others h k)))
