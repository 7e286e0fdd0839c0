-- The longest sign at the front.
use Rattle.std.proofs.Common.{◌≡◌, ℕ, zero, suc, ◌<◌, ◌≤◌, Bool, true, false, List, [], ◌∷◌, ◌++◌, length, get_or, drop, Option, Some, refl, sym, ap, subst, ◌∙◌, arith, lit<}
use Rattle.std.specs.Prelude.{nat_eq, nat_le, ◌&&◌, not}
use Rattle.std.specs.List.{find, list_all, starts_with}
use Rattle.std.specs.Cmp.Lexicographic.{pointwise}
use Rattle.std.proofs.lemmas.Bool.{and_parts, and_from, not_from_false, not-true, leb-true}
use Rattle.std.proofs.lemmas.Option.{same_Some}
use Rattle.df_tok.specs.Byte.{continues_identifier, begins_identifier, is_digit, is_blank}
use Rattle.df_tok.specs.declared.sign.Sign.{Sign}
use Rattle.df_tok.specs.declared.sign.Sign.TheVariants as all
use Rattle.df_tok.specs.Sign.{sign_text}
use Rattle.df_tok.specs.Lexeme.{IsSign, NotNext}
use Rattle.df_tok.specs.Scanning.{signs, stands, sign_at, continues}
use Rattle.df_tok.proofs.Lists.{find_passes, starts_front, starts_again}

-- ---- a sign is told by its text

abbrev pub coded : List ℕ → Option Sign
coded text = find (λ sign. pointwise nat_eq text (sign_text sign)) signs

pub sign_again : (sign : Sign) → coded (sign_text sign) ≡ Some sign
sign_again all.Iff = refl
sign_again all.Implies = refl
sign_again all.Explies = refl
sign_again all.And = refl
sign_again all.Or = refl
sign_again all.Equal = refl
sign_again all.NotEqual = refl
sign_again all.AtMost = refl
sign_again all.AtLeast = refl
sign_again all.Less = refl
sign_again all.Greater = refl
sign_again all.NotIn = refl
sign_again all.Disjoint = refl
sign_again all.Not = refl
sign_again all.Plus = refl
sign_again all.Minus = refl
sign_again all.Times = refl
sign_again all.Divide = refl
sign_again all.Modulo = refl
sign_again all.Assign = refl
sign_again all.SuchThat = refl
sign_again all.DoubleColon = refl
sign_again all.Colon = refl
sign_again all.Semicolon = refl
sign_again all.Comma = refl
sign_again all.DotDot = refl
sign_again all.Dot = refl
sign_again all.OpenParenthesis = refl
sign_again all.CloseParenthesis = refl
sign_again all.OpenBracket = refl
sign_again all.CloseBracket = refl
sign_again all.OpenAttribute = refl
sign_again all.OpenBrace = refl
sign_again all.CloseBrace = refl
sign_again all.Bar = refl
sign_again all.Arrow = refl
sign_again all.Define = refl

pub same_sign : (a b : Sign) → sign_text a ≡ sign_text b → a ≡ b
same_sign a b e = same_Some a b (sym (sign_again a) ∙ ap coded e ∙ sign_again b)

-- ---- a sign stands at the front

abbrev not_next : (bytes : List ℕ) → continues bytes ≡ false → NotNext continues_identifier bytes
not_next [] e = tt
not_next (b ∷ bs) e = e

not_continues : (bytes : List ℕ) → NotNext continues_identifier bytes → continues bytes ≡ false
not_continues [] e = refl
not_continues (b ∷ bs) e = e

begins : (bytes : List ℕ) (sign : Sign) → stands bytes sign ≡ true → starts_with nat_eq bytes (sign_text sign) ≡ true
begins bytes all.NotIn h = (and_parts _ _ h).0
begins bytes sign h = h

pub stands_sound : (bytes : List ℕ) (sign : Sign) → stands bytes sign ≡ true → (bytes ≡ sign_text sign ++ drop (length (sign_text sign)) bytes) × IsSign (sign_text sign) (drop (length (sign_text sign)) bytes)
stands_sound bytes sign h = (
  starts_front bytes (sign_text sign) (begins bytes sign h),
  (
    sign,
    refl,
    λ e. subst (λ s. NotNext continues_identifier (drop (length (sign_text s)) bytes)) (sym e)
        (not_next (drop 3 bytes) (not-true _ (and_parts (starts_with nat_eq bytes (sign_text all.NotIn)) _ (subst (λ s. stands bytes s ≡ true) e h)).1)),
  ),
)

stands_again : (sign : Sign) (rest : List ℕ) → (sign ≡ all.NotIn → NotNext continues_identifier rest) → stands (sign_text sign ++ rest) sign ≡ true
stands_again all.NotIn rest h = and_from _ _ (starts_again (sign_text all.NotIn) rest) (not_from_false _ (not_continues rest (h refl)))
stands_again sign rest h = starts_again (sign_text sign) rest

-- ---- the first in order of length

abbrev falls : List Sign → Bool
falls [] = true
falls (s ∷ rest) = list_all (λ t. nat_le (length (sign_text t)) (length (sign_text s))) rest && falls rest

all_at : (p : Sign → Bool) (xs : List Sign) (k : ℕ) (d : Sign) → list_all p xs ≡ true → k < length xs → p (get_or xs k d) ≡ true
all_at p [] k d h lt = absurd (omega arith)
all_at p (x ∷ xs) zero d h lt = (and_parts (p x) (list_all p xs) h).0
all_at p (x ∷ xs) (suc k) d h lt = all_at p xs k d (and_parts (p x) (list_all p xs) h).1 (omega arith)

-- the first that passes is at least as long as any that passes
record Longest (p : Sign → Bool) (xs : List Sign) (len : ℕ) : Type 0 where
  sign : Sign
  found : find p xs ≡ Some sign
  long : len ≤ length (sign_text sign)

first_longest : (p : Sign → Bool) (xs : List Sign) (t : Sign) (k : ℕ) → falls xs ≡ true → k < length xs → get_or xs k t ≡ t → p t ≡ true → Longest p xs (length (sign_text t))
first_longest p [] t k f lt at pass = absurd (omega arith)
first_longest p (x ∷ xs) t k f lt at pass = by (λ n. first_longest p xs t n (and_parts _ (falls xs) f).1) (p x) refl k lt at
  where
    by : ((n : ℕ) → n < length xs → get_or xs n t ≡ t → p t ≡ true → Longest p xs (length (sign_text t))) → (b : Bool) → p x ≡ b → (k : ℕ) → k < length (x ∷ xs) → get_or (x ∷ xs) k t ≡ t → Longest p (x ∷ xs) (length (sign_text t))
    by next true e zero lt at = record { sign = x; found = rw e refl; long = subst (λ (s : Sign). length (sign_text s) ≤ length (sign_text x)) at (omega arith) }
    by next true e (suc k) lt at = record {
      sign = x;
      found = rw e refl;
      long = subst (λ (s : Sign). length (sign_text s) ≤ length (sign_text x)) at (leb-true _ _ (all_at (λ s. nat_le (length (sign_text s)) (length (sign_text x))) xs k t (and_parts _ (falls xs) f).0 (omega arith)));
    }
    by next false e zero lt at = absurd cc
    by next false e (suc k) lt at =
        let r = next k (omega arith) at pass in
        record { sign = r.sign; found = rw e r.found; long = r.long }

index : (t : Sign) → (k : ℕ) × (k < length signs) × (get_or signs k t ≡ t)
index all.Iff = (0, lit< tt, refl)
index all.Implies = (1, lit< tt, refl)
index all.Explies = (2, lit< tt, refl)
index all.And = (4, lit< tt, refl)
index all.Or = (5, lit< tt, refl)
index all.Equal = (6, lit< tt, refl)
index all.NotEqual = (7, lit< tt, refl)
index all.AtMost = (8, lit< tt, refl)
index all.AtLeast = (9, lit< tt, refl)
index all.Less = (17, lit< tt, refl)
index all.Greater = (18, lit< tt, refl)
index all.NotIn = (3, lit< tt, refl)
index all.Disjoint = (10, lit< tt, refl)
index all.Not = (19, lit< tt, refl)
index all.Plus = (20, lit< tt, refl)
index all.Minus = (21, lit< tt, refl)
index all.Times = (22, lit< tt, refl)
index all.Divide = (23, lit< tt, refl)
index all.Modulo = (24, lit< tt, refl)
index all.Assign = (11, lit< tt, refl)
index all.SuchThat = (12, lit< tt, refl)
index all.DoubleColon = (13, lit< tt, refl)
index all.Colon = (25, lit< tt, refl)
index all.Semicolon = (26, lit< tt, refl)
index all.Comma = (27, lit< tt, refl)
index all.DotDot = (14, lit< tt, refl)
index all.Dot = (28, lit< tt, refl)
index all.OpenParenthesis = (29, lit< tt, refl)
index all.CloseParenthesis = (30, lit< tt, refl)
index all.OpenBracket = (31, lit< tt, refl)
index all.CloseBracket = (32, lit< tt, refl)
index all.OpenAttribute = (15, lit< tt, refl)
index all.OpenBrace = (33, lit< tt, refl)
index all.CloseBrace = (34, lit< tt, refl)
index all.Bar = (35, lit< tt, refl)
index all.Arrow = (16, lit< tt, refl)
index all.Define = (36, lit< tt, refl)

-- what stands at the front in order of length is the longest sign
pub record Found (bytes : List ℕ) (len : ℕ) : Type 0 where
  pub sign : Sign
  pub found : sign_at bytes ≡ Some sign
  pub long : len ≤ length (sign_text sign)

pub sign_furthest : (text rest : List ℕ) → IsSign text rest → Found (text ++ rest) (length text)
sign_furthest text rest (t, is, h) =
    let p = index t in
    let pass : stands (text ++ rest) t ≡ true = subst (λ (x : List ℕ). stands (x ++ rest) t ≡ true) (sym is) (stands_again t rest h) in
    let r = first_longest (stands (text ++ rest)) signs t p.0 refl p.1 p.2 pass in
    record { sign = r.sign; found = r.found; long = subst (λ (x : List ℕ). length x ≤ length (sign_text r.sign)) (sym is) r.long }

pub sign_sound : (bytes : List ℕ) (sign : Sign) → sign_at bytes ≡ Some sign → (bytes ≡ sign_text sign ++ drop (length (sign_text sign)) bytes) × IsSign (sign_text sign) (drop (length (sign_text sign)) bytes)
sign_sound bytes sign e = stands_sound bytes sign (find_passes (stands bytes) signs sign e)

-- a sign begins with no byte of another kind of token, and no blank
abbrev pub begins_sign : List ℕ → Bool
begins_sign [] = false
begins_sign (b ∷ bs) = not (begins_identifier b) && not (is_digit b) && not (nat_eq b 39) && not (nat_eq b 34) && not (is_blank b)

pub sign_begins : (sign : Sign) → begins_sign (sign_text sign) ≡ true
sign_begins all.Iff = refl
sign_begins all.Implies = refl
sign_begins all.Explies = refl
sign_begins all.And = refl
sign_begins all.Or = refl
sign_begins all.Equal = refl
sign_begins all.NotEqual = refl
sign_begins all.AtMost = refl
sign_begins all.AtLeast = refl
sign_begins all.Less = refl
sign_begins all.Greater = refl
sign_begins all.NotIn = refl
sign_begins all.Disjoint = refl
sign_begins all.Not = refl
sign_begins all.Plus = refl
sign_begins all.Minus = refl
sign_begins all.Times = refl
sign_begins all.Divide = refl
sign_begins all.Modulo = refl
sign_begins all.Assign = refl
sign_begins all.SuchThat = refl
sign_begins all.DoubleColon = refl
sign_begins all.Colon = refl
sign_begins all.Semicolon = refl
sign_begins all.Comma = refl
sign_begins all.DotDot = refl
sign_begins all.Dot = refl
sign_begins all.OpenParenthesis = refl
sign_begins all.CloseParenthesis = refl
sign_begins all.OpenBracket = refl
sign_begins all.CloseBracket = refl
sign_begins all.OpenAttribute = refl
sign_begins all.OpenBrace = refl
sign_begins all.CloseBrace = refl
sign_begins all.Bar = refl
sign_begins all.Arrow = refl
sign_begins all.Define = refl
