-- Identifiers, and their names.
use Rattle.std.proofs.Common.{◌≡◌, ℕ, ◌<◌, inl, inr, true, false, List, [], ◌∷◌, length, get_or, slice_get, Some, Result, Ok, Err, refl, sym, ap, ◌∙◌, arith}
use Rattle.std.specs.Prelude.{not, IfOk, OnOk, position}
use Rattle.std.specs.List.{position_or_len}
use Rattle.std.specs.Str.{IsAscii, IsUtf8}
use Rattle.std.proofs.lemmas.Bool.{lt-ltb, cases_lt, not-true, both_ways}
use Rattle.std.proofs.lemmas.Bool.Decides.{nat_tests}
use Rattle.std.proofs.lemmas.List.Sums.{prefix_len_passes}
use Rattle.std.proofs.lemmas.List.Quantifiers.{position-Some}
use Rattle.std.proofs.lemmas.Option.{slice_get_within, slice_get-get_or, get_or_from_slice_get}
use Rattle.std.proofs.lemmas.Str.{IsUtf8-from_ascii}
use Rattle.std.proofs.lemmas.Str.Ascii.{IsAscii-nil, IsAscii-cons}
use Rattle.std.proofs.lemmas.Slice.Eq.{bytes_eq-Decides}
use Rattle.df_base.specs.declared.memory.Memory.{Memory}
use Rattle.df_base.specs.Names.{same_text, with_text, IsDistinct}
use Rattle.df_tok.specs.Byte.{begins_identifier, continues_identifier}
use Rattle.df_tok.specs.Lexeme.{IsIdentifier}
use Rattle.df_tok.specs.Token.{IsNamed}
use Rattle.df_tok.proofs.Lists.{Passes}

ascii_byte : (b : ℕ) → continues_identifier b ≡ true → b < 128
ascii_byte b h = grind (arith, nat_tests)

ascii_first : (b : ℕ) → begins_identifier b ≡ true → b < 128
ascii_first b h = grind (arith, nat_tests)

all_ascii : (bs : List ℕ) → Passes continues_identifier bs → IsAscii bs
all_ascii [] h = IsAscii-nil
all_ascii (b ∷ bs) h = IsAscii-cons b bs (ascii_byte b h.0) (all_ascii bs h.1)

-- an identifier is a text
pub identifier_utf8 : (text : List ℕ) → IsIdentifier text → IsUtf8 text
identifier_utf8 [] h = absurd h
identifier_utf8 (b ∷ bs) h = IsUtf8-from_ascii (b ∷ bs) (IsAscii-cons b bs (ascii_first b h.0) (all_ascii bs h.1))

some_index : (texts : List (List ℕ)) (text : List ℕ) (i : ℕ) → slice_get texts i ≡ Some text → (j : ℕ) × (position (same_text text) texts ≡ Some j)
some_index texts text i h =
    let k = position_or_len (same_text text) texts in
    let here : same_text text text ≡ true = (bytes_eq-Decides text text).1 refl in
    let within : k < length texts = elim (cases_lt k (length texts)) [
      | inl lt ↦ lt
      | inr le ↦
          let e : not (same_text text (get_or texts i [])) ≡ true = prefix_len_passes (λ x. not (same_text text x)) texts i [] (omega (arith, slice_get_within texts i text h)) in
          let f : same_text text text ≡ false = ap (same_text text) (sym (get_or_from_slice_get texts i text [] h)) ∙ not-true _ e in
          absurd (both_ways _ f here)
    ] in
    (k, rw (lt-ltb k (length texts) within) refl)

pub index_of : (texts : List (List ℕ)) (text : List ℕ) (i : ℕ) → IsDistinct texts → slice_get texts i ≡ Some text → position (same_text text) texts ≡ Some i
index_of texts text i apart h =
    let p = some_index texts text i h in
    let q = position-Some (same_text text) texts p.0 [] p.1 in
    let same : text ≡ get_or texts p.0 [] = (bytes_eq-Decides text (get_or texts p.0 [])).0 q.1 in
    let at : slice_get texts p.0 ≡ Some text = slice_get-get_or texts p.0 [] q.0 ∙ ap Some (sym same) in
    p.1 ∙ ap Some (apart p.0 i text at h)

-- what interning says, as the numbers of names
pub named_from : (old new : List (List ℕ)) (text : List ℕ) (found : Result ℕ Memory) → IsDistinct new → IfOk found (λ name. slice_get new name ≡ Some text) → OnOk found (new ≡ with_text old text) → IfOk found (λ name. IsNamed old text name new)
named_from old new text (Ok name) apart at after = (after, index_of new text name apart at)
named_from old new text (Err e) apart at after = tt
