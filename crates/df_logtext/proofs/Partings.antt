-- How a text is parted, byte by byte.
use Rattle.std.proofs.Common.{◌≡◌, ℕ, ◌+◌, ◌-◌, ◌<◌, ◌≤◌, true, false, eqb, eq-eqb, List, [], ◌∷◌, ◌++◌, length, take, drop, get_or, refl, sym, ap, ◌∙◌, append_assoc, add-one, drop-cons, arith}
use Rattle.std.specs.Prelude.{◌≢◌, slice_range}
use Rattle.std.proofs.lemmas.List.{take_more, get_or-drop, length-drop}
use Rattle.df_logtext.specs.Parting.{parted_from}

part_ends : (separator : ℕ) (before text : List ℕ) (at : ℕ) → at < length text → eqb (get_or text at 0) separator ≡ true → parted_from separator before (drop at text) ≡ before ∷ parted_from separator [] (drop (at + 1) text)
part_ends separator before text at h e = rw (add-one at, drop-cons text at 0 h, e) refl

part_goes_on : (separator : ℕ) (before text : List ℕ) (at : ℕ) → at < length text → eqb (get_or text at 0) separator ≡ false → parted_from separator before (drop at text) ≡ parted_from separator (before ++ get_or text at 0 ∷ []) (drop (at + 1) text)
part_goes_on separator before text at h e = rw (add-one at, drop-cons text at 0 h, e) refl

-- a byte more
pub range_more : (text : List ℕ) (begin at : ℕ) → begin ≤ at → at < length text → slice_range text begin (at + 1) ≡ slice_range text begin at ++ get_or text at 0 ∷ []
range_more text begin at below h =
    let e : at + 1 - begin ≡ (at - begin) + 1 = omega arith in
    let b : begin + (at - begin) ≡ at = omega arith in
    let lt : at - begin < length (drop begin text) = omega (arith, length-drop begin text) in
    let got : get_or (drop begin text) (at - begin) 0 ≡ get_or text at 0 = get_or-drop begin text (at - begin) 0 ∙ ap (λ n. get_or text n 0) b in
    ap (λ n. take n (drop begin text)) e ∙ take_more (drop begin text) (at - begin) 0 lt ∙ ap (λ x. take (at - begin) (drop begin text) ++ x ∷ []) got

-- a byte that is no separator
pub within_part : (separator : ℕ) (text : List ℕ) (begin at : ℕ) (parts whole : List (List ℕ)) → begin ≤ at → at < length text → get_or text at 0 ≢ separator
    → parts ++ parted_from separator (slice_range text begin at) (drop at text) ≡ whole → parts ++ parted_from separator (slice_range text begin (at + 1)) (drop (at + 1) text) ≡ whole
within_part separator text begin at parts whole below h apart so_far =
    let e : eqb (get_or text at 0) separator ≡ false = grind (arith, apart) in
    ap (λ before. parts ++ parted_from separator before (drop (at + 1) text)) (range_more text begin at below h) ∙ ap (λ ps. parts ++ ps) (sym (part_goes_on separator (slice_range text begin at) text at h e)) ∙ so_far

-- a separator
pub after_part : (separator : ℕ) (text : List ℕ) (begin at : ℕ) (parts whole : List (List ℕ)) → at < length text → get_or text at 0 ≡ separator
    → parts ++ parted_from separator (slice_range text begin at) (drop at text) ≡ whole → (parts ++ slice_range text begin at ∷ []) ++ parted_from separator (slice_range text (at + 1) (at + 1)) (drop (at + 1) text) ≡ whole
after_part separator text begin at parts whole h same so_far =
    let e : eqb (get_or text at 0) separator ≡ true = eq-eqb _ _ same in
    let none : at + 1 - (at + 1) ≡ 0 = omega arith in
    append_assoc parts _ _ ∙ ap (λ n. parts ++ slice_range text begin at ∷ parted_from separator (take n (drop (at + 1) text)) (drop (at + 1) text)) none ∙ ap (λ ps. parts ++ ps) (sym (part_ends separator (slice_range text begin at) text at h e)) ∙ so_far
