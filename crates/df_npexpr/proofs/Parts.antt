-- Parts of the tokens of a source: what is read is spelled there, and what is refused is not.
use Rattle.std.proofs.Common.{◌≡◌, ℕ, ◌-◌, ◌≤◌, List, map, length, drop, Option, Some, None, Result, Err, sym, ap, ◌∙◌, arith, length-drop}
use Rattle.std.proofs.lemmas.List.{drop-map}
use Rattle.df_base.specs.declared.refusal.Refusal.{Refusal}
use Rattle.df_base.specs.declared.refusal.Stop.{Stop}
use Rattle.df_base.specs.declared.refusal.Stop.TheVariants as stops
use Rattle.df_tok.specs.declared.token.Token as declared
use Rattle.df_tok.specs.Token.{Token, view}
use Rattle.df_ntree.specs.declared.expr.TreeType.{TreeType}
use Rattle.df_ntree.specs.Expr.{Expr}
use Rattle.df_ntree.specs.ExprSpelling.{spell, spell_type, IsExpressionAt, IsTypeAt, height_limit}
use Rattle.df_ntree.specs.mirror.ExprReading.{expression_at, type_at}
use Rattle.df_ntree.proofs.Repeat.{differ}
use Rattle.df_ntree.proofs.Tokens.{Begins-length}
use Rattle.df_ntree.proofs.ExprTypes.{type_sound}
use Rattle.df_ntree.proofs.ExprWhole.{expression_sound}
use Rattle.df_ntree.proofs.ExprLaw.{read_is_spelled, spelled_is_read, type_is_spelled, type_is_read}
use Rattle.df_npexpr.specs.Reads.{Stops}

-- the tokens from one on, as the cursor has them
pub front : (items all rest : List declared.Token) (start : ℕ) → all ≡ items → rest ≡ drop start all → map view rest ≡ drop start (map view items)
front items all rest start a r = ap (map view) (r ∙ ap (drop start) a) ∙ sym (drop-map view start items)

error : (X : Type 0) → Stop → Result X Stop
error X stop = Err stop

same_stop : {X : Type 0} (a b : Stop) → error X a ≡ error X b → a ≡ b
unfolding error
same_stop a b e = cc

stopped : {Y : Type 0} (stop : Stop) (r : Refusal) (found : Option Y) → Stops stop found → stop ≡ stops.Refused r → found ≡ None
stopped stops.Memory r found h e = absurd cc
stopped (stops.Refused other) r found h e = h.0

-- a refusal says that nothing is found
pub is_none : {X Y : Type 0} (result : Result X Stop) (own stop : Stop) (r : Refusal) (found : Option Y) → Stops stop found → result ≡ Err own → own ≡ stop → result ≡ Err (stops.Refused r) → found ≡ None
unfolding error
is_none {X = X} result own stop r found h p q e = stopped stop r found h (sym q ∙ same_stop {X = X} own (stops.Refused r) (sym p ∙ e))

-- ---- expressions

pub whole : (tokens from rest : List Token) (start n m : ℕ) (e : Expr) → from ≡ drop start tokens → expression_at height_limit from ≡ Some (e, rest) → n ≡ length tokens → m ≡ length rest → IsExpressionAt tokens start e (n - m)
whole tokens from rest start n m e f h p q = rw (p, q) (read_is_spelled tokens start e rest (ap (expression_at height_limit) (sym f) ∙ h))

pub fits : (tokens from rest : List Token) (start n m : ℕ) (e : Expr) → from ≡ drop start tokens → expression_at height_limit from ≡ Some (e, rest) → n ≡ length tokens → m ≡ length rest → m ≤ n
fits tokens from rest start n m e f h p q =
    let w = expression_sound (drop start tokens) e rest (ap (expression_at height_limit) (sym f) ∙ h) in
    let l = Begins-length (spell e) (drop start tokens) rest w.eats in
    let d = length-drop start tokens in omega arith

pub no_expression : (tokens from : List Token) (start : ℕ) → from ≡ drop start tokens → expression_at height_limit from ≡ None → (e : Expr) (after : ℕ) → IsExpressionAt tokens start e after → ⊥
no_expression tokens from start f h e after x = differ (e, drop after tokens) (sym h ∙ ap (expression_at height_limit) f ∙ spelled_is_read tokens start after e x)

-- ---- types

pub whole_type : (tokens from rest : List Token) (start n m : ℕ) (ty : TreeType) → from ≡ drop start tokens → type_at from ≡ Some (ty, rest) → n ≡ length tokens → m ≡ length rest → IsTypeAt tokens start ty (n - m)
whole_type tokens from rest start n m ty f h p q = rw (p, q) (type_is_spelled tokens start ty rest (ap type_at (sym f) ∙ h))

pub type_fits : (tokens from rest : List Token) (start n m : ℕ) (ty : TreeType) → from ≡ drop start tokens → type_at from ≡ Some (ty, rest) → n ≡ length tokens → m ≡ length rest → m ≤ n
type_fits tokens from rest start n m ty f h p q =
    let b = type_sound (drop start tokens) ty rest (ap type_at (sym f) ∙ h) in
    let l = Begins-length (spell_type ty) (drop start tokens) rest b in
    let d = length-drop start tokens in omega arith

pub no_type : (tokens from : List Token) (start : ℕ) → from ≡ drop start tokens → type_at from ≡ None → (ty : TreeType) (after : ℕ) → IsTypeAt tokens start ty after → ⊥
no_type tokens from start f h ty after x = differ (ty, drop after tokens) (sym h ∙ ap type_at f ∙ type_is_read tokens start after ty x)
