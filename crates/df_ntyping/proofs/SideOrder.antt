-- The nodes of left and right sides lie in their texts, in order.
use Rattle.std.proofs.Common.{◌≡◌, ℕ, suc, true, ◌+◌, ◌<◌, ◌≤◌, List, [], ◌∷◌, ◌++◌, length, Option, refl, arith, length-append}
use Rattle.std.specs.List.{flat_map, AllByRecursion}
use Rattle.df_base.specs.declared.pos.Pos.{Pos}
use Rattle.df_tok.specs.declared.sign.Sign.TheVariants as signs
use Rattle.df_lang.specs.declared.ty.Ty.{Ty}
use Rattle.df_ntree.specs.Spelling.{a_sign, separated, spell_more}
use Rattle.df_ntree.specs.Expr.{Expr, Name, Call, Arguments}
use Rattle.df_ntree.specs.ExprSpelling.{spell, spell_arguments, IsExpr}
use Rattle.df_ntree.specs.FileSpelling.{IsPrimary}
use Rattle.df_ntyping.specs.Environment.{Environment}
use Rattle.df_ntyping.specs.Node.{Node, Occurrence}
use Rattle.df_ntyping.specs.Meaning.{called_signature}
use Rattle.df_ntyping.specs.ExprNodes.{count, width, token_at, places_of, callee_nodes, expr_nodes, argument_nodes, value_nodes, condition_nodes, exprs_nodes, call_nodes, first_place, other_places}
use Rattle.df_ntyping.specs.StatementNodes.{place_nodes, all_places, source_nodes, sources_apart, sources_nodes, widths, update_nodes}
use Rattle.df_ntyping.specs.LocalTypes.{results_of_call}
use Rattle.df_ntyping.specs.Rule.{Rule, Typing, Given}
use Rattle.df_ntyping.specs.Breaks.{breaks}
use Rattle.df_ntyping.proofs.AllNodes.{Alls, only, both}
use Rattle.df_ntyping.proofs.SoundNodes.{used_name}
use Rattle.df_ntyping.proofs.Alike.{IsApart, quiet_apart, aspect_apart, value_aspect, condition_aspect, place_aspect}
use Rattle.df_ntyping.proofs.Order.{Segment, no_nodes, weaker, joined, ended, later_apart, shorter_apart}
use Rattle.df_ntyping.proofs.ExprOrder.{width_call, some_width, token_alone, call_order, callee_order, expr_order, expr_roots, argument_order}

-- ---- how many tokens

more_widths : (e : Expr) (others : List Expr) → length (flat_map (spell_more spell) (e ∷ others)) ≡ suc (length (separated spell (e ∷ others)))
more_widths e others = omega (arith, length-append (a_sign signs.Comma ∷ spell e) (flat_map (spell_more spell) others), length-append (spell e) (flat_map (spell_more spell) others))

pub separated_widths : (es : List Expr) → length (separated spell es) ≡ widths es
separated_widths [] = refl
separated_widths (e ∷ []) = omega (arith, length-append (spell e) [])
separated_widths (e ∷ other ∷ others) = omega (arith, length-append (spell e) (flat_map (spell_more spell) (other ∷ others)), more_widths other others, separated_widths (other ∷ others))

-- ---- expressions

pub value_order : (env : Environment) (start : ℕ) (place : Option Ty) (e : Expr) → IsExpr e → Segment start start (start + width e) (value_nodes env start place e)
value_order env start place e g =
    ended start start (start + width e) (expr_nodes env start e) _ (expr_order env start e g) (omega (arith, some_width e g)) refl refl refl (aspect_apart (expr_nodes env start e) (value_aspect env place e) (expr_roots env start e g))

pub condition_order : (env : Environment) (start : ℕ) (e : Expr) → IsExpr e → Segment start start (start + width e) (condition_nodes env start e)
condition_order env start e g =
    ended start start (start + width e) (expr_nodes env start e) _ (expr_order env start e g) (omega (arith, some_width e g)) refl refl refl (aspect_apart (expr_nodes env start e) (condition_aspect env e) (expr_roots env start e g))

-- one, a comma, and others
parted : (start one others : ℕ) (xs ys : List Occurrence) → Segment start start (start + one) xs → Segment (start + one + 1) (start + one + 1) (start + one + 1 + others) ys → Segment start start (start + (one + 1 + others)) (xs ++ ys)
parted start one others xs ys h k =
    joined start start (start + one) (start + (one + 1 + others)) xs ys h
    (weaker (start + one + 1) (start + one + 1) (start + one + 1 + others) start (start + one) (start + (one + 1 + others)) ys k (omega arith) (omega arith) (omega arith)) (omega arith) (omega arith)

-- the last
last_one : (start one : ℕ) (low above high : ℕ) (xs : List Occurrence) → Segment start start (start + one) xs → Segment start start (start + one) (xs ++ [])
last_one start one low above high xs h = joined start start (start + one) (start + one) xs [] h (no_nodes start (start + one) (start + one)) (omega arith) (omega arith)

pub exprs_order : (env : Environment) (start : ℕ) (es : List Expr) → AllByRecursion IsExpr es → Segment start start (start + widths es) (exprs_nodes env start es)
exprs_order env start [] g = no_nodes start start (start + 0)
exprs_order env start (e ∷ []) g = last_one start (width e) start start start (expr_nodes env start e) (expr_order env start e g.0)
exprs_order env start (e ∷ other ∷ others) g = parted start (width e) (widths (other ∷ others)) (expr_nodes env start e) _ (expr_order env start e g.0) (exprs_order env (start + width e + 1) (other ∷ others) g.1)

-- ---- sides

pub whole_call_order : (env : Environment) (start : ℕ) (callee : Expr) (arguments : Arguments) → IsExpr (Call callee arguments) → Segment start start (start + width (Call callee arguments)) (call_nodes env start callee arguments)
whole_call_order env start callee arguments g =
    let at = start + width callee + 1 in
    let places = places_of (called_signature env callee) in
    let after = at + length (spell_arguments arguments) in
    weaker start start (after + 1) start start (start + width (Call callee arguments)) _
    (call_order start at after (width callee) (callee_nodes env start callee (expr_nodes env start callee)) (argument_nodes env at places arguments) _
    (callee_order env start callee (expr_nodes env start callee) (expr_order env start callee g.0)) (argument_order env at places arguments g.2) refl (omega arith) refl (omega (arith, width_call callee arguments)) refl)
    (omega arith) (omega arith) (omega (arith, width_call callee arguments))

pub place_order : (env : Environment) (start : ℕ) (e : Expr) → IsExpr e → Segment start start (start + width e) (place_nodes env start e)
place_order env start (Name ident) g =
    ended start start (start + 1) (token_at env (Node.UsedName ident) start ∷ []) (token_at env (Node.Place (Name ident)) start)
    (weaker start start (suc start) start start (start + 1) _ (token_alone env (Node.UsedName ident) start) (omega arith) (omega arith) (omega arith)) (omega arith) refl (omega arith) refl (only (quiet_apart (used_name env ident)))
place_order env start e g =
    ended start start (start + width e) (expr_nodes env start e) _ (expr_order env start e g) (omega (arith, some_width e g)) refl refl refl (aspect_apart (expr_nodes env start e) (place_aspect env e) (expr_roots env start e g))

pub all_places_order : (env : Environment) (start : ℕ) (es : List Expr) → AllByRecursion IsPrimary es → Segment start start (start + widths es) (all_places env start es)
all_places_order env start [] g = no_nodes start start (start + 0)
all_places_order env start (e ∷ []) g = last_one start (width e) start start start (place_nodes env start e) (place_order env start e g.0.0)
all_places_order env start (e ∷ other ∷ others) g = parted start (width e) (widths (other ∷ others)) (place_nodes env start e) _ (place_order env start e g.0.0) (all_places_order env (start + width e + 1) (other ∷ others) g.1)

-- a call that is a whole right side, and its results
results_aspect : (env : Environment) (places : List (Option Ty)) (callee : Expr) (arguments : Arguments) (rule : Rule) → breaks env (Node.Call true callee (count arguments)) rule ≡ true
    → breaks env (Node.Results places (results_of_call env callee) (Call callee arguments)) rule ≡ true → ⊥
results_aspect env places callee arguments (Typing Given) b c = absurd cc
results_aspect env places callee arguments rule b c = absurd cc

call_apart : (env : Environment) (start : ℕ) (callee : Expr) (arguments : Arguments) (node : Node) → ((rule : Rule) → breaks env (Node.Call true callee (count arguments)) rule ≡ true → breaks env node rule ≡ true → ⊥) → IsExpr (Call callee arguments)
    → Alls (IsApart (record { env = env; node = node; start = start; after = start + width (Call callee arguments) })) (call_nodes env start callee arguments)
call_apart env start callee arguments node never g =
    let at = start + width callee + 1 in
    let places = places_of (called_signature env callee) in
    both (both
    (shorter_apart start start (start + width callee) (callee_nodes env start callee (expr_nodes env start callee)) _ (callee_order env start callee (expr_nodes env start callee) (expr_order env start callee g.0)) (omega (arith, width_call callee arguments)))
    (later_apart at at (at + length (spell_arguments arguments)) (argument_nodes env at places arguments) _ (argument_order env at places arguments g.2) (omega arith)))
    (only (record { alike = λ p q. record { same = λ rule n b c. absurd (never rule b c) } }))

pub source_order : (env : Environment) (start : ℕ) (places : List (Option Ty)) (e : Expr) → IsExpr e → Segment start start (start + width e) (source_nodes env start places e)
source_order env start places (Call callee arguments) g =
    ended start start (start + width (Call callee arguments)) (call_nodes env start callee arguments) _ (whole_call_order env start callee arguments g) (omega (arith, some_width (Call callee arguments) g)) refl refl refl
    (call_apart env start callee arguments (Node.Results places (results_of_call env callee) (Call callee arguments)) (results_aspect env places callee arguments) g)
source_order env start places e g = value_order env start (first_place places) e g

pub apart_order : (env : Environment) (start : ℕ) (places : List (Option Ty)) (es : List Expr) → AllByRecursion IsExpr es → Segment start start (start + widths es) (sources_apart env start places es)
apart_order env start places [] g = no_nodes start start (start + 0)
apart_order env start places (e ∷ []) g = last_one start (width e) start start start _ (source_order env start (first_place places ∷ []) e g.0)
apart_order env start places (e ∷ other ∷ others) g =
    parted start (width e) (widths (other ∷ others)) _ _ (source_order env start (first_place places ∷ []) e g.0) (apart_order env (start + width e + 1) (other_places places) (other ∷ others) g.1)

pub sources_order : (env : Environment) (start : ℕ) (places : List (Option Ty)) (es : List Expr) → AllByRecursion IsExpr es → Segment start start (start + widths es) (sources_nodes env start places es)
sources_order env start places [] g = no_nodes start start (start + 0)
sources_order env start places (e ∷ []) g = source_order env start places e g.0
sources_order env start places (e ∷ other ∷ others) g = apart_order env start places (e ∷ other ∷ others) g

-- values behind their sign at a token, and the whole
pub update_order : (env : Environment) (start sign after : ℕ) (pos : Option Pos) (places : List (Option Ty)) (values : List Expr) → AllByRecursion IsExpr values → start ≤ sign → sign + 2 + widths values ≤ after + 1 → start < after
    → Segment start sign after (update_nodes env start sign after pos places values)
update_order env start sign after pos places [] g p q r = no_nodes start sign after
update_order env start sign after pos places (e ∷ others) g p q r =
    ended start sign after (sources_nodes env (suc sign) places (e ∷ others)) _
    (weaker (suc sign) (suc sign) (suc sign + widths (e ∷ others)) start sign after _ (sources_order env (suc sign) places (e ∷ others) g) (omega arith) (omega arith) (omega arith))
    (omega arith) refl refl refl (later_apart (suc sign) (suc sign) (suc sign + widths (e ∷ others)) _ _ (sources_order env (suc sign) places (e ∷ others) g) (omega arith))
