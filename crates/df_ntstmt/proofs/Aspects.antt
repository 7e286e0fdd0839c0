-- One node more, as long as an expression that is an atom with its suffixes: what breaks in the expression comes first.
use Rattle.std.proofs.Common.{◌≡◌, ℕ, suc, ◌+◌, ◌<◌, ◌≤◌, true, false, List, [], ◌∷◌, ◌++◌, length, Option, Ok, Err, refl, sym, ap, subst, ◌∙◌, ◌⊎◌, inl, inr, arith}
use Rattle.std.specs.Prelude.{Contains}
use Rattle.df_base.specs.declared.refusal.Refusal.{Refusal}
use Rattle.df_ntree.specs.declared.expr.Group.{Group}
use Rattle.df_ntree.specs.declared.expr.Group.TheVariants as groups
use Rattle.df_ntree.specs.declared.expr.Level.TheVariants as levels
use Rattle.df_ntree.specs.declared.tree.Ident.{Ident}
use Rattle.df_ntree.specs.Operator.{level_of, rank}
use Rattle.df_ntree.specs.Expr.{Expr, Number, Character, Truth, Name, Parentheses, Call, Unary, Cast, Operations, Leading, Arguments}
use Rattle.df_ntree.specs.ExprSpelling.{spell_arguments, rank_of_group, IsExpr}
use Rattle.df_ntree.specs.FileSpelling.{IsPrimary}
use Rattle.df_ntyping.specs.Environment.{Environment}
use Rattle.df_ntyping.specs.Meaning.{called_signature}
use Rattle.df_ntyping.specs.ExprNodes.{width, occurrence, expr_nodes, callee_nodes, argument_nodes, places_of, count}
use Rattle.df_ntyping.specs.Node as nodes
use Rattle.df_ntyping.specs.Node.{Occurrence}
use Rattle.df_ntyping.specs.Rule.{Rule, Unknown, Typing, ArgumentCount, Calls, Assigned, stage_of}
use Rattle.df_ntyping.specs.Breaks.{breaks}
use Rattle.df_ntyping.specs.Least.{Fault, IsFault, comes_before}
use Rattle.df_ntyping.proofs.AllNodes.{Alls, none, front, only, both, there, each_in}
use Rattle.df_ntyping.proofs.Breaking.{plain_rule}
use Rattle.df_ntyping.proofs.ExprOrder.{expr_order, callee_order, argument_order, width_call, width_parentheses}
use Rattle.df_ntyping.proofs.FirstFault.{IsBehind, is_lower, lower_self, first_or_rest, none_there, first_before, comes_behind, at_one_place}
use Rattle.df_ntyping.proofs.Order.{Segment, lies_within}
use Rattle.df_ntexpr.specs.Replies.{Reply}
use Rattle.df_ntstmt.specs.mirror.Steps.{and_then}
use Rattle.df_ntstmt.proofs.Judging.{Met, met_later, Judged}

-- nothing that the one breaks comes before what the other does
abbrev pub NeverLower : Occurrence → Occurrence → Type 0
NeverLower one x = (rule other : Rule) → breaks x.env x.node rule ≡ true → stage_of rule ≡ 1 → breaks one.env one.node other ≡ true → is_lower other rule ≡ false

pub record Beside (one x : Occurrence) : Type 0 where
  pub later : IsBehind x one ⊎ ((x.after ≡ one.after) × (x.start ≡ one.start) × NeverLower one x)

pub met_beside : (xs : List Occurrence) (one : Occurrence) (refusal : Refusal) → Alls (Beside one) xs → Met xs refusal → Met (xs ++ one ∷ []) refusal
met_beside xs one refusal h m = record {
  fault = m.fault;
  first = first_before xs (one ∷ []) m.fault m.first (λ other k q. by_place other k q (first_or_rest one [] other.at k.0) (there xs m.fault.at h m.first.is.broken.0.0).later);
  tells = m.tells;
} where
  by_place : (other : Fault) → IsFault (one ∷ []) other → stage_of other.rule ≡ 1 → (one ≡ other.at) ⊎ Contains [] other.at
      → IsBehind m.fault.at one ⊎ ((m.fault.at.after ≡ one.after) × (m.fault.at.start ≡ one.start) × NeverLower one m.fault.at) → comes_before other m.fault ≡ false
  by_place other k q (inr c) l = absurd (none_there other.at c)
  by_place other k q (inl same) (inl behind) = comes_behind m.fault other (m.first.is.broken.1 ∙ sym q) (subst (λ (x : Occurrence). IsBehind m.fault.at x) same behind)
  by_place other k q (inl same) (inr (ends, begins, never)) =
      at_one_place other m.fault (q ∙ sym m.first.is.broken.1) (sym (ap (λ (x : Occurrence). x.after) same) ∙ sym ends) (sym (ap (λ (x : Occurrence). x.start) same) ∙ sym begins)
      ∙ never m.fault.rule other.rule m.first.is.broken.0.1 m.first.is.broken.1 (subst (λ (x : Occurrence). breaks x.env x.node other.rule ≡ true) (sym same) k.1)

-- what ends in one more fault
pub judged_refused : {A B : Type 0} (xs : List Occurrence) (one : Occurrence) (P : A → Type 0) (Q : B → Type 0) (answer : Reply A) (refusal : Refusal) → Alls (Beside one) xs → Judged xs P answer → Met (one ∷ []) refusal
    → Judged (xs ++ one ∷ []) Q (and_then answer (λ (a : A). Err refusal))
judged_refused xs one P Q (Ok a) refusal h j m = met_later xs (one ∷ []) refusal j.0 m
judged_refused xs one P Q (Err other) refusal h j m = met_beside xs one other h j

-- ---- where expressions stand

ended_before : (low above high : ℕ) (xs : List Occurrence) (one : Occurrence) → Segment low above high xs → high < one.after → Alls (Beside one) xs
ended_before low above high xs one s p = each_in xs (λ x c. record { later = inl (inl (let w = lies_within low above high xs s x c in let q : x.after ≤ high = w.ends in omega arith)) })

not_tight : (g : Group) → rank levels.Primary ≤ rank (level_of g) → ⊥
not_tight groups.Equivalence p = omega arith
not_tight groups.Implication p = omega arith
not_tight groups.Explication p = omega arith
not_tight groups.Conjunction p = omega arith
not_tight groups.Disjunction p = omega arith
not_tight groups.Comparison p = omega arith
not_tight groups.Sum p = omega arith
not_tight groups.Product p = omega arith

parentheses_beside : (env : Environment) (start : ℕ) (one : Occurrence) (inner : Expr) → IsExpr inner → start + width inner + 2 ≤ one.after → Alls (Beside one) (expr_nodes env (suc start) inner)
parentheses_beside env start one inner x p = ended_before (suc start) (suc start) (suc start + width inner) (expr_nodes env (suc start) inner) one (expr_order env (suc start) inner x) (omega arith)

-- ---- a left side

pub place_only : (env : Environment) (e : Expr) (rule : Rule) → breaks env (nodes.Place e) rule ≡ true → rule ≡ Typing Assigned
place_only env e (Typing Assigned) h = refl
place_only env e rule h = absurd cc

call_never : (env own : Environment) (e callee : Expr) (n : ℕ) (rule other : Rule) → breaks env (nodes.Call false callee n) rule ≡ true → breaks own (nodes.Place e) other ≡ true → is_lower other rule ≡ false
call_never env own e callee n (Typing ArgumentCount) other h k = subst (λ (r : Rule). is_lower r (Typing ArgumentCount) ≡ false) (sym (place_only own e other k)) refl
call_never env own e callee n (Typing Calls) other h k = subst (λ (r : Rule). is_lower r (Typing Calls) ≡ false) (sym (place_only own e other k)) refl
call_never env own e callee n rule other h k = absurd cc

abbrev pub place_at : Environment → ℕ → Expr → Occurrence
place_at env start e = occurrence env (nodes.Place e) start (start + width e)

call_beside : (env : Environment) (start : ℕ) (callee : Expr) (arguments : Arguments) → IsExpr (Call callee arguments) → Alls (Beside (place_at env start (Call callee arguments))) (expr_nodes env start (Call callee arguments))
call_beside env start callee arguments x =
    let one = place_at env start (Call callee arguments) in
    let at = start + width callee + 1 in
    let places = places_of (called_signature env callee) in
    both (both
    (ended_before start start (start + width callee) (callee_nodes env start callee (expr_nodes env start callee)) one (callee_order env start callee (expr_nodes env start callee) (expr_order env start callee x.0)) (omega (arith, width_call callee arguments)))
    (ended_before at at (at + length (spell_arguments arguments)) (argument_nodes env at places arguments) one (argument_order env at places arguments x.2) (omega (arith, width_call callee arguments))))
    (only (record { later = inr (refl, refl, λ rule other h q k. call_never env env (Call callee arguments) callee (count arguments) rule other h k) }))

-- of what is no name
pub place_beside : (env : Environment) (start : ℕ) (e : Expr) → IsPrimary e → ((ident : Ident) → e ≡ Name ident → ⊥) → Alls (Beside (place_at env start e)) (expr_nodes env start e)
place_beside env start (Number literal) g unlike = none
place_beside env start (Character code at) g unlike = none
place_beside env start (Truth b at) g unlike = none
place_beside env start (Name ident) g unlike = absurd (unlike ident refl)
place_beside env start (Parentheses at inner) g unlike = parentheses_beside env start (place_at env start (Parentheses at inner)) inner g.0 (omega (arith, width_parentheses at inner))
place_beside env start (Call callee arguments) g unlike = call_beside env start callee arguments g.0
place_beside env start (Unary operator at operand) g unlike = absurd (omega (arith, g.1))
place_beside env start (Cast operand all) g unlike = absurd (omega (arith, g.1))
place_beside env start (Operations first rest) g unlike = absurd (not_tight g.0.0 (subst (λ (o : Option Group). rank levels.Primary ≤ rank_of_group o) g.0.1 g.1))
place_beside env start (Leading operations) g unlike = absurd (omega (arith, g.1))

-- ---- a statement that is no call

pub no_call_only : (env : Environment) (e : Expr) (rule : Rule) → breaks env (nodes.NoCall e) rule ≡ true → rule ≡ Typing Calls
no_call_only env e (Typing Calls) h = refl
no_call_only env e rule h = absurd cc

abbrev pub no_call_at : Environment → ℕ → Expr → Occurrence
no_call_at env start e = occurrence env (nodes.NoCall e) start (start + width e)

used_stage : (env : Environment) (ident : Ident) (rule : Rule) → breaks env (nodes.UsedName ident) rule ≡ true → stage_of rule ≡ 0
used_stage env ident Unknown h = refl
used_stage env ident (Typing Calls) h = absurd cc
used_stage env ident rule h = absurd cc

used_never : (env own : Environment) (e : Expr) (ident : Ident) (rule other : Rule) → breaks env (nodes.UsedName ident) rule ≡ true → stage_of rule ≡ 1 → breaks own (nodes.NoCall e) other ≡ true → is_lower other rule ≡ false
used_never env own e ident rule other h q k = absurd (let wrong : 1 ≡ 0 = sym q ∙ used_stage env ident rule h in omega (arith, wrong))

plain_never : (env own : Environment) (e : Expr) (ident : Ident) (rule other : Rule) → breaks env (nodes.Plain ident) rule ≡ true → breaks own (nodes.NoCall e) other ≡ true → is_lower other rule ≡ false
plain_never env own e ident rule other h k =
    let p = no_call_only own e other k in
    let q = plain_rule env ident rule h in
    subst (λ (r : Rule). is_lower other r ≡ false) (sym q) (subst (λ (r : Rule). is_lower r (Typing Calls) ≡ false) (sym p) (lower_self (Typing Calls)))

pub no_call_beside : (env : Environment) (start : ℕ) (e : Expr) → IsPrimary e → ((callee : Expr) (arguments : Arguments) → e ≡ Call callee arguments → ⊥) → Alls (Beside (no_call_at env start e)) (expr_nodes env start e)
no_call_beside env start (Number literal) g unlike = none
no_call_beside env start (Character code at) g unlike = none
no_call_beside env start (Truth b at) g unlike = none
no_call_beside env start (Name ident) g unlike =
    front (record { later = inr (omega arith, refl, used_never env env (Name ident) ident) }) (only (record { later = inr (omega arith, refl, λ rule other h q k. plain_never env env (Name ident) ident rule other h k) }))
no_call_beside env start (Parentheses at inner) g unlike = parentheses_beside env start (no_call_at env start (Parentheses at inner)) inner g.0 (omega (arith, width_parentheses at inner))
no_call_beside env start (Call callee arguments) g unlike = absurd (unlike callee arguments refl)
no_call_beside env start (Unary operator at operand) g unlike = absurd (omega (arith, g.1))
no_call_beside env start (Cast operand all) g unlike = absurd (omega (arith, g.1))
no_call_beside env start (Operations first rest) g unlike = absurd (not_tight g.0.0 (subst (λ (o : Option Group). rank levels.Primary ≤ rank_of_group o) g.0.1 g.1))
no_call_beside env start (Leading operations) g unlike = absurd (omega (arith, g.1))
