-- A chain's links, one after another.
use Rattle.std.proofs.Common.{◌≡◌, ℕ, zero, suc, ◌+◌, ◌-◌, ◌<◌, ◌≤◌, List, [], ◌∷◌, ◌++◌, length, map, drop, take, get_or, refl, sym, ap, ◌∙◌, arith, append_assoc}
use Rattle.std.proofs.lemmas.List.{drop_more, take_more}
use Rattle.df_lang.specs.declared.expr.Comparison.{Comparison}
use Rattle.df_nplain.specs.ExprView.{Link, link_of, links_of}
use Rattle.df_nmach.specs.declared.instruction.Instruction.{Instruction}
use Rattle.df_nmach.specs.declared.instruction.Instruction.TheVariants as i
use Rattle.df_nplain.specs.declared.expr.Link as declared
use Rattle.df_nemit.specs.Code.{compare, slot, sets_code, gets}
use Rattle.df_nemit.specs.mirror.Emitting.{Run, put_all, kept, joined, opened, with_code, emit_expr, emit_links}

pub joins_more : (s : ℕ) (r : Run) (c : Comparison) (items : List declared.Link) (n : ℕ) → n < length items → joined s r c (links_of (map link_of (drop n items))) ≡ kept s r c
joins_more s r c [] n lt = absurd (omega arith)
joins_more s r c (x ∷ items) zero lt = refl
joins_more s r c (x ∷ items) (suc n) lt = joins_more s r c items n (omega arith)

pub joins_last : (s : ℕ) (r : Run) (c : Comparison) (items : List declared.Link) (n : ℕ) → length items ≤ n → joined s r c (links_of (map link_of (drop n items))) ≡ put_all r (compare c)
joins_last s r c [] zero le = refl
joins_last s r c [] (suc n) le = refl
joins_last s r c (x ∷ items) zero le = absurd (omega arith)
joins_last s r c (x ∷ items) (suc n) le = joins_last s r c items n (omega arith)

pub opens_more : (r : Run) (items : List declared.Link) → 0 < length items → opened r (links_of (map link_of items)) ≡ r
opens_more r [] lt = absurd (omega arith)
opens_more r (x ∷ items) lt = refl

at : (xs : List declared.Link) (n : ℕ) (x : declared.Link) → n < length xs → x ≡ get_or xs n x → map link_of (drop n xs) ≡ link_of x ∷ map link_of (drop (n + 1) xs)
at xs n x lt is = ap (λ (l : List declared.Link). map link_of l) (drop_more xs n x lt) ∙ ap (λ (y : declared.Link). link_of y ∷ map link_of (drop (n + 1) xs)) (sym is)

-- one more link
links_on : (s : ℕ) (xs : List declared.Link) (n : ℕ) (x : declared.Link) (r d all : Run) → n < length xs → x ≡ get_or xs n x
    → d ≡ joined s (with_code r (emit_expr s r.code (link_of x).operand)) (link_of x).comparison (links_of (map link_of (drop (n + 1) xs)))
    → emit_links s r (links_of (map link_of (drop n xs))) ≡ all → emit_links s d (links_of (map link_of (drop (n + 1) xs))) ≡ all
links_on s xs n x r d all lt is e so_far =
    ap (λ (y : Run). emit_links s y (links_of (map link_of (drop (n + 1) xs)))) e
    ∙ ap (λ (l : List Link). emit_links s r (links_of l)) (sym (at xs n x lt is))
    ∙ so_far

pub goes_on : (s : ℕ) (xs : List declared.Link) (n : ℕ) (x : declared.Link) (r r1 d all : Run) → n + 1 < length xs → x ≡ get_or xs n x → r1 ≡ with_code r (emit_expr s r.code (link_of x).operand)
    → d ≡ kept s r1 (link_of x).comparison → emit_links s r (links_of (map link_of (drop n xs))) ≡ all → emit_links s d (links_of (map link_of (drop (n + 1) xs))) ≡ all
goes_on s xs n x r r1 d all lt is made e so_far =
    links_on s xs n x r d all (omega (arith, lt)) is
    (e ∙ ap (λ (y : Run). kept s y (link_of x).comparison) made ∙ sym (joins_more s (with_code r (emit_expr s r.code (link_of x).operand)) (link_of x).comparison xs (n + 1) lt)) so_far

pub ends : (s : ℕ) (xs : List declared.Link) (n : ℕ) (x : declared.Link) (r r1 d all : Run) → n < length xs → length xs ≤ n + 1 → x ≡ get_or xs n x → r1 ≡ with_code r (emit_expr s r.code (link_of x).operand)
    → d ≡ put_all r1 (compare (link_of x).comparison) → emit_links s r (links_of (map link_of (drop n xs))) ≡ all → emit_links s d (links_of (map link_of (drop (n + 1) xs))) ≡ all
ends s xs n x r r1 d all lt le is made e so_far =
    links_on s xs n x r d all lt is
    (e ∙ ap (λ (y : Run). put_all y (compare (link_of x).comparison)) made ∙ sym (joins_last s (with_code r (emit_expr s r.code (link_of x).operand)) (link_of x).comparison xs (n + 1) le)) so_far

-- one more place
sets_last : (s : ℕ) (ts : List ℕ) (t : ℕ) → sets_code s (ts ++ t ∷ []) ≡ i.Set (slot s t) ∷ sets_code s ts
sets_last s [] t = refl
sets_last s (x ∷ ts) t = ap (λ (l : List Instruction). l ++ i.Set (slot s x) ∷ []) (sets_last s ts t)

pub sets_on : (s : ℕ) (ts : List ℕ) (n : ℕ) (t : ℕ) (code new all : List Instruction) → n < length ts → t ≡ get_or ts n t → new ≡ code ++ i.Set (slot s t) ∷ []
    → code ++ sets_code s (take (n + 1) ts) ≡ all → new ++ sets_code s (take n ts) ≡ all
sets_on s ts n t code new all lt is put so_far =
    ap (λ (l : List Instruction). l ++ sets_code s (take n ts)) put
    ∙ append_assoc code (i.Set (slot s t) ∷ []) (sets_code s (take n ts))
    ∙ ap (λ (l : List Instruction). code ++ l) (sym (sets_last s (take n ts) t))
    ∙ ap (λ (x : ℕ). code ++ sets_code s (take n ts ++ x ∷ [])) is
    ∙ ap (λ (l : List ℕ). code ++ sets_code s l) (sym (take_more ts n t lt))
    ∙ so_far

pub gives_on : (code new : List Instruction) (first n count : ℕ) (all : List Instruction) → n < first + count → new ≡ code ++ i.Get n ∷ []
    → code ++ gets n (first + count - n) ≡ all → new ++ gets (n + 1) (first + count - (n + 1)) ≡ all
gives_on code new first n count all lt is so_far =
    let left : first + count - n ≡ suc (first + count - (n + 1)) = omega arith in
    let e : n + 1 ≡ suc n = omega arith in
    ap (λ (l : List Instruction). l ++ gets (n + 1) (first + count - (n + 1))) is
    ∙ append_assoc code (i.Get n ∷ []) (gets (n + 1) (first + count - (n + 1)))
    ∙ ap (λ (k : ℕ). code ++ i.Get n ∷ gets k (first + count - (n + 1))) e
    ∙ sym (ap (λ (k : ℕ). code ++ gets n k) left)
    ∙ so_far
