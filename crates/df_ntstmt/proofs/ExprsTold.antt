-- The walk over an expression that is asked for something, as a part of a statement.
use Rattle.std.proofs.Common.{◌≡◌, ℕ, ◌+◌, true, [], ◌∷◌, Option, Some, None, Ok, Err, refl, subst, ◌∙◌}
use Rattle.std.proofs.lemmas.Option.{same_Some}
use Rattle.df_lang.specs.declared.ty.Ty.{Ty}
use Rattle.df_lang.specs.Expr as typed
use Rattle.df_ntree.specs.Expr.{Expr}
use Rattle.df_ntree.specs.ExprSpelling.{spell, IsExpr}
use Rattle.df_ntyping.specs.Types.{fits_or_narrows, if_known}
use Rattle.df_ntyping.specs.Environment.{Environment}
use Rattle.df_ntyping.specs.Literals.{AreInRange}
use Rattle.df_ntyping.specs.Node as nodes
use Rattle.df_ntyping.specs.Node.{Occurrence}
use Rattle.df_ntyping.specs.ExprTypes.{type_in}
use Rattle.df_ntyping.specs.ExprNodes.{width, occurrence, expr_nodes, value_nodes}
use Rattle.df_ntyping.specs.ExprElaboration.{ElaboratesAt}
use Rattle.df_ntyping.specs.LocalTypes.{names_in}
use Rattle.df_ntyping.specs.Wanted as wanteds
use Rattle.df_ntyping.specs.Wanted.{Wanted, IsWanted, wanted_nodes}
use Rattle.df_ntyping.specs.mirror.Parts.{Typed, Answer}
use Rattle.df_ntyping.specs.mirror.Wanting.{wanted_in}
use Rattle.df_ntyping.specs.mirror.Literals.{limited_value}
use Rattle.df_ntyping.proofs.AllNodes.{only}
use Rattle.df_ntyping.proofs.FirstFault.{Silent, NoNames, named_left, named_right}
use Rattle.df_ntyping.proofs.SoundNodes as kinds
use Rattle.df_ntyping.proofs.SoundNodes.{AllSound, sound}
use Rattle.df_ntyping.proofs.SoundSides.{expr_sound, condition_sound, value_sound}
use Rattle.df_ntyping.proofs.Verdict.{HaveTypes}
use Rattle.df_ntyping.proofs.WantedTold.{WantedVerdict, limits, wanted_judged}
use Rattle.df_ntexpr.specs.Replies.{Reply, told}
use Rattle.df_ntstmt.specs.mirror.Steps.{wanted_at, typed_in}
use Rattle.df_ntstmt.proofs.Judging.{Judged, met_found, judged_ahead, silent_sound}

-- what is asked is what it elaborates to
abbrev pub IsTyped : Environment → Wanted → Expr → Typed → Type 0
IsTyped env wanted e t = IsWanted env wanted e t.ty t.expr

wanted_sound : (env : Environment) (start : ℕ) (wanted : Wanted) (e : Expr) (ty : Ty) (t : typed.Expr) → IsExpr e → IsWanted env wanted e ty t → AllSound (wanted_nodes env start wanted e)
wanted_sound env start wanteds.Nothing e ty t x h = expr_sound env None start e ty t x h
wanted_sound env start wanteds.Truth e ty t x h = condition_sound env start e t x h.0
wanted_sound env start (wanteds.Place place) e ty t x h = value_sound env place start e t x h.0

inner_named : (env : Environment) (start : ℕ) (wanted : Wanted) (e : Expr) → NoNames (wanted_nodes env start wanted e) → NoNames (expr_nodes env start e)
inner_named env start wanteds.Nothing e n = n
inner_named env start wanteds.Truth e n = named_left (expr_nodes env start e) _ n
inner_named env start (wanteds.Place place) e n = named_left (expr_nodes env start e) _ n

pub expr_told : (env : Environment) (start : ℕ) (wanted : Wanted) (e : Expr) → IsExpr e → AreInRange (spell e) → HaveTypes env (names_in e) → NoNames (wanted_nodes env start wanted e)
    → Judged (wanted_nodes env start wanted e) (IsTyped env wanted e) (typed_in env wanted e)
expr_told env start wanted e x r t n = by_answer (wanted_in env wanted e) (wanted_judged limited_value env start wanted e x (limits e r) t (inner_named env start wanted e n)) where
  by_answer : (answer : Answer Typed) → WantedVerdict env start wanted e answer → Judged (wanted_nodes env start wanted e) (IsTyped env wanted e) (told answer)
  by_answer (Ok one) v = (silent_sound (wanted_nodes env start wanted e) (wanted_sound env start wanted e one.ty one.expr x v) n, v)
  by_answer (Err breach) v = met_found (wanted_nodes env start wanted e) start (start + width e) breach v

-- ---- at a place whose type may not be known

unknown_place : (ty : Option Ty) → if_known fits_or_narrows ty None ≡ true
unknown_place None = refl
unknown_place (Some ty) = refl

abbrev pub IsAt : Environment → Option Ty → Expr → Typed → Type 0
IsAt env place e t = (ty : Ty) → place ≡ Some ty → (t.ty ≡ ty) × ElaboratesAt env ty e t.expr

typed_at : (env : Environment) (place ty : Ty) (e : Expr) (t : Typed) → IsTyped env (wanteds.Place place) e t → place ≡ ty → (t.ty ≡ ty) × ElaboratesAt env ty e t.expr
typed_at env place ty e t h p = (h.1 ∙ p, subst (λ (u : Ty). ElaboratesAt env u e t.expr) p h.0)

pub value_told : (env : Environment) (start : ℕ) (place : Option Ty) (e : Expr) → IsExpr e → AreInRange (spell e) → HaveTypes env (names_in e) → NoNames (value_nodes env start place e)
    → Judged (value_nodes env start place e) (IsAt env place e) (typed_in env (wanted_at place) e)
value_told env start (Some place) e x r t n = by_answer (typed_in env (wanteds.Place place) e) (expr_told env start (wanteds.Place place) e x r t n) where
  by_answer : (answer : Reply Typed) → Judged (value_nodes env start (Some place) e) (IsTyped env (wanteds.Place place) e) answer → Judged (value_nodes env start (Some place) e) (IsAt env (Some place) e) answer
  by_answer (Ok one) j = (j.0, λ ty p. typed_at env place ty e one j.1 (same_Some place ty p))
  by_answer (Err refusal) j = j
value_told env start None e x r t n = by_answer (typed_in env wanteds.Nothing e) (expr_told env start wanteds.Nothing e x r t (named_left (expr_nodes env start e) _ n)) where
  one : Occurrence
  one = occurrence env (nodes.Value None e) start (start + width e)

  quiet : Silent (one ∷ [])
  quiet = silent_sound (one ∷ []) (only (sound (kinds.value env None e (rw (unknown_place (type_in env None e)) refl)))) (named_right (expr_nodes env start e) (one ∷ []) n)

  no_place : (t : Typed) → IsAt env None e t
  no_place t ty p = absurd cc

  by_answer : (answer : Reply Typed) → Judged (expr_nodes env start e) (IsTyped env wanteds.Nothing e) answer → Judged (value_nodes env start None e) (IsAt env None e) answer
  by_answer (Ok t) j = judged_ahead (expr_nodes env start e) (one ∷ []) (IsAt env None e) (Ok t) (j.0, no_place t) quiet
  by_answer (Err refusal) j = judged_ahead (expr_nodes env start e) (one ∷ []) (IsAt env None e) (Err refusal) j quiet
