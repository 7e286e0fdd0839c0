-- Reading finds an expression or a type exactly where the tokens spell it.
use Rattle.std.proofs.Common.{◌≡◌, ℕ, ◌+◌, ◌-◌, ◌≤◌, nat_lt, Bool, true, false, List, [], ◌∷◌, length, drop, Some, refl, sym, ap, subst, ◌∙◌, arith, length-drop}
use Rattle.std.proofs.Math.ListN.{drop_of_length-le}
use Rattle.std.proofs.lemmas.List.{drop-drop}
use Rattle.std.proofs.lemmas.Bool.{ltb-true, ltb-false}
use Rattle.df_tok.specs.Token.{Token}
use Rattle.df_ntree.specs.declared.expr.TreeType.{TreeType}
use Rattle.df_ntree.specs.Spelling.{Piece, Begins}
use Rattle.df_ntree.specs.Expr.{Expr}
use Rattle.df_ntree.specs.ExprSpelling.{IsExpressionAt, IsTypeAt, IsEnd, spell, spell_type, height_limit}
use Rattle.df_ntree.specs.mirror.ExprReading.{expression_at, type_at}
use Rattle.df_ntree.proofs.Repeat.{some_is}
use Rattle.df_ntree.proofs.ExprTypes.{type_sound, type_complete}
use Rattle.df_ntree.proofs.ExprWhole.{expression_sound, expression_complete}

-- ---- places

Begins-drop : (pieces : List Piece) (tokens rest : List Token) → Begins pieces tokens rest → rest ≡ drop (length pieces) tokens
Begins-drop [] tokens rest b = sym b
Begins-drop (piece ∷ pieces) [] rest b = absurd b
Begins-drop (piece ∷ pieces) (t ∷ tokens) rest b = Begins-drop pieces tokens rest b.1

by_test : (b : Bool) (n : ℕ) (tokens rest : List Token) → rest ≡ drop n tokens → nat_lt (length tokens) n ≡ b → rest ≡ drop (length tokens - length rest) tokens
by_test true n tokens rest e l =
    let far = ltb-true (length tokens) n l in
    let none = drop_of_length-le tokens {i = n} (omega arith) in
    let short : length rest ≡ 0 = ap length (e ∙ none) in
    e ∙ none ∙ sym (drop_of_length-le tokens {i = length tokens - length rest} (omega arith))
by_test false n tokens rest e l =
    let near = ltb-false (length tokens) n l in
    let long = ap length e in
    let d = length-drop n tokens in
    let at : n ≡ length tokens - length rest = omega arith in
    e ∙ ap (λ (k : ℕ). drop k tokens) at

-- what is left, by how many tokens are left
left_is : (start : ℕ) (pieces : List Piece) (tokens rest : List Token) → Begins pieces (drop start tokens) rest → rest ≡ drop (length tokens - length rest) tokens
left_is start pieces tokens rest b =
    let e : rest ≡ drop (start + length pieces) tokens = Begins-drop pieces (drop start tokens) rest b ∙ drop-drop (length pieces) start tokens in
    by_test (nat_lt (length tokens) (start + length pieces)) (start + length pieces) tokens rest e refl

-- ---- expressions

pub read_is_spelled : (tokens : List Token) (start : ℕ) (e : Expr) (rest : List Token) → expression_at height_limit (drop start tokens) ≡ Some (e, rest) → IsExpressionAt tokens start e (length tokens - length rest)
read_is_spelled tokens start e rest h =
    let w = expression_sound (drop start tokens) e rest h in
    let l = left_is start (spell e) tokens rest w.eats in
    record {
      inside = omega arith;
      spelled = subst (λ (ts : List Token). Begins (spell e) (drop start tokens) ts) l w.eats;
      shape = w.is;
      low = w.low;
      ends = subst (IsEnd e) l w.ends;
    }

pub spelled_is_read : (tokens : List Token) (start after : ℕ) (e : Expr) → IsExpressionAt tokens start e after → expression_at height_limit (drop start tokens) ≡ Some (e, drop after tokens)
spelled_is_read tokens start after e x = expression_complete e (drop start tokens) (drop after tokens) (record { eats = x.spelled; is = x.shape; low = x.low; ends = x.ends })

same_end : (tokens : List Token) (a b : ℕ) → a ≤ length tokens → b ≤ length tokens → drop a tokens ≡ drop b tokens → a ≡ b
same_end tokens a b i j e =
    let k = ap length e in
    let m = length-drop a tokens in
    let n = length-drop b tokens in omega arith

pub same_expression : (tokens : List Token) (start after other_after : ℕ) (e other : Expr) → IsExpressionAt tokens start e after → IsExpressionAt tokens start other other_after → (e ≡ other) × (after ≡ other_after)
same_expression tokens start after other_after e other x y =
    let p = some_is (e, drop after tokens) (other, drop other_after tokens) (sym (spelled_is_read tokens start after e x) ∙ spelled_is_read tokens start other_after other y) in
    (ap (λ (z : Expr × List Token). z.0) p, same_end tokens after other_after x.inside y.inside (ap (λ (z : Expr × List Token). z.1) p))

-- ---- types

pub type_is_spelled : (tokens : List Token) (start : ℕ) (ty : TreeType) (rest : List Token) → type_at (drop start tokens) ≡ Some (ty, rest) → IsTypeAt tokens start ty (length tokens - length rest)
type_is_spelled tokens start ty rest h =
    let b = type_sound (drop start tokens) ty rest h in
    let l = left_is start (spell_type ty) tokens rest b in
    record { inside = omega arith; spelled = subst (λ (ts : List Token). Begins (spell_type ty) (drop start tokens) ts) l b }

pub type_is_read : (tokens : List Token) (start after : ℕ) (ty : TreeType) → IsTypeAt tokens start ty after → type_at (drop start tokens) ≡ Some (ty, drop after tokens)
type_is_read tokens start after ty x = type_complete ty (drop start tokens) (drop after tokens) x.spelled
