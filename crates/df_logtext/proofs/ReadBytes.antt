-- A text that is read byte by byte.
use Rattle.std.proofs.Common.{◌≡◌, ℕ, ◌+◌, ◌<◌, ◌≤◌, false, eqb, List, ◌∷◌, [], ◌++◌, length, drop, get_or, refl, sym, ap, ◌∙◌, add-one, drop-cons, arith}
use Rattle.std.specs.Prelude.{◌≢◌, slice_range}
use Rattle.df_logtext.specs.Reading.{State, Outcome, read_from}
use Rattle.df_logtext.proofs.Partings.{range_more}

-- a byte within a line
pub within_line : (names : List (List ℕ)) (s : State) (number : ℕ) (bytes : List ℕ) (begin at : ℕ) (whole : Outcome) → begin ≤ at → at < length bytes → get_or bytes at 0 ≢ 10
    → read_from names s number (slice_range bytes begin at) (drop at bytes) ≡ whole → read_from names s number (slice_range bytes begin (at + 1)) (drop (at + 1) bytes) ≡ whole
within_line names s number bytes begin at whole below h apart so_far =
    let e : eqb (get_or bytes at 0) 10 ≡ false = grind (arith, apart) in
    let line : List ℕ = slice_range bytes begin at in
    let goes : read_from names s number line (drop at bytes) ≡ read_from names s number (line ++ get_or bytes at 0 ∷ []) (drop (at + 1) bytes) = rw (add-one at, drop-cons bytes at 0 h, e) refl in
    ap (λ l. read_from names s number l (drop (at + 1) bytes)) (range_more bytes begin at below h) ∙ sym goes ∙ so_far
