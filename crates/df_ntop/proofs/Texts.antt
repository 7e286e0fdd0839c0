-- Texts that are put piece by piece.
use Rattle.std.proofs.Common.{◌≡◌, ℕ, ◌+◌, ◌-◌, ◌<◌, List, [], ◌∷◌, ◌++◌, take, drop, length, Option, Some, None, Result, Ok, Err, OnErr, refl, sym, ap, subst, ◌∙◌, append_assoc, append-nil, take-append-drop, arith}
use Rattle.std.proofs.Math.Seq.{take-add, take-append_seam}
use Rattle.df_nvm.proofs.Reached.{Appends-more}
use Rattle.df_base.specs.declared.sink.SinkFault.{SinkFault}
use Rattle.df_base.specs.declared.sink.SinkFault.TheVariants as faults
use Rattle.df_base.specs.Outside.{Appends, AppendsPrefix}

-- a text that a whole begins with is a prefix of it
pub part_of_whole : (old new : Option (List ℕ)) (whole text more : List ℕ) → whole ≡ text ++ more → Appends old new text → AppendsPrefix old new whole
part_of_whole old new whole text more is put = (length text, subst (λ (x : List ℕ). Appends old new x) (sym (ap (take (length text)) is ∙ take-append_seam text more)) put)

-- a text that goes on after a part of it is put
pub prefix_more : (old mid new : Option (List ℕ)) (t u more : List ℕ) → Appends old mid t → AppendsPrefix mid new u → AppendsPrefix old new ((t ++ u) ++ more)
prefix_more old mid new t u more a b =
    let part : List ℕ = take b.0 u in
    let rest : List ℕ = drop b.0 u ++ more in
    let whole : (t ++ part) ++ rest ≡ (t ++ u) ++ more =
    append_assoc t part rest ∙ ap (λ x. t ++ x) (sym (append_assoc part (drop b.0 u) more) ∙ ap (λ x. x ++ more) (take-append-drop b.0 u)) ∙ sym (append_assoc t u more) in
    part_of_whole old new ((t ++ u) ++ more) (t ++ part) rest (sym whole) (Appends-more old mid new t part a b.1)

-- nothing is put
pub appends_nothing : (old : Option (List ℕ)) → Appends old old []
appends_nothing None = refl
appends_nothing (Some x) = ap Some (sym (append-nil x))

pub same_appends : (old new : Option (List ℕ)) → new ≡ old → Appends old new []
same_appends old new same = subst (λ (x : Option (List ℕ)). Appends old x []) (sym same) (appends_nothing old)

-- that is a prefix of any text
pub nothing_of : (old new : Option (List ℕ)) (text : List ℕ) → new ≡ old → AppendsPrefix old new text
nothing_of old new text same = (0, same_appends old new same)

pub all_of_text : (old new : Option (List ℕ)) (text : List ℕ) → Appends old new text → AppendsPrefix old new text
all_of_text old new text put = (length text, subst (Appends old new) (sym (take_whole text)) put)
  where
    take_whole : (xs : List ℕ) → take (length xs) xs ≡ xs
    take_whole [] = refl
    take_whole (x ∷ xs) = ap (λ ys. x ∷ ys) (take_whole xs)

-- ---- a text that is put line by line

whole_is : (text : List ℕ) (start count : ℕ) → (take start text ++ take count (drop start text)) ++ drop count (drop start text) ≡ text
whole_is text start count =
    append_assoc (take start text) (take count (drop start text)) (drop count (drop start text))
    ∙ ap (λ (x : List ℕ). take start text ++ x) (take-append-drop count (drop start text))
    ∙ take-append-drop start text

-- one line more
pub line_put : (first old new : Option (List ℕ)) (text : List ℕ) (start end : ℕ) → start < end → Appends first old (take start text) → Appends old new (take (end - start) (drop start text)) → Appends first new (take end text)
line_put first old new text start end less so_far line =
    let count : start + (end - start) ≡ end = omega arith in
    let more : take start text ++ take (end - start) (drop start text) ≡ take end text = sym (take-add start (end - start) text) ∙ ap (λ (n : ℕ). take n text) count in
    subst (Appends first new) more (Appends-more first old new (take start text) (take (end - start) (drop start text)) so_far line)

part_put : (result : Result (Unit {0}) SinkFault) (fault : SinkFault) (old new : Option (List ℕ)) (line : List ℕ) → result ≡ Err fault → (result ≡ Err faults.Failed → AppendsPrefix old new line) → (result ≡ Err faults.Memory → new ≡ old) → AppendsPrefix old new line
part_put result faults.Failed old new line is failed memory = failed is
part_put result faults.Memory old new line is failed memory = nothing_of old new line (memory is)

-- a line of which a part is put
pub line_cut : (result : Result (Unit {0}) SinkFault) (fault : SinkFault) (first old new : Option (List ℕ)) (text : List ℕ) (start count : ℕ) → Appends first old (take start text) → result ≡ Err fault → (result ≡ Err faults.Failed → AppendsPrefix old new (take count (drop start text))) → (result ≡ Err faults.Memory → new ≡ old) → AppendsPrefix first new text
line_cut result fault first old new text start count so_far is failed memory =
    subst (AppendsPrefix first new) (whole_is text start count)
    (prefix_more first old new (take start text) (take count (drop start text)) (drop count (drop start text)) so_far (part_put result fault old new (take count (drop start text)) is failed memory))

pub on_err : {A E : Type 0} (result : Result A E) (P : Type 0) → P → OnErr result P
on_err (Ok x) P h = tt
on_err (Err e) P h = h

-- a prefix of a text that a whole begins with is a prefix of it
pub part_of_part : (old new : Option (List ℕ)) (whole text more : List ℕ) → whole ≡ text ++ more → AppendsPrefix old new text → AppendsPrefix old new whole
part_of_part old new whole text more is (count, put) =
    part_of_whole old new whole (take count text) (drop count text ++ more)
    (is ∙ ap (λ (x : List ℕ). x ++ more) (sym (take-append-drop count text)) ∙ append_assoc (take count text) (drop count text) more) put

-- ---- a text behind a line

pub behind : (old mid new : Option (List ℕ)) (line text : List ℕ) → Appends old mid line → Appends mid new text → Appends old new (line ++ text)
behind old mid new line text a b = Appends-more old mid new line text a b

pub part_behind : (old mid new : Option (List ℕ)) (line text : List ℕ) → Appends old mid line → AppendsPrefix mid new text → AppendsPrefix old new (line ++ text)
part_behind old mid new line text a b = subst (AppendsPrefix old new) (append-nil (line ++ text)) (prefix_more old mid new line text [] a b)

-- a line before a whole and before its front
pub behind_line : (line whole text more : List ℕ) → whole ≡ text ++ more → line ++ whole ≡ (line ++ text) ++ more
behind_line line whole text more is = ap (λ (t : List ℕ). line ++ t) is ∙ sym (append_assoc line text more)
