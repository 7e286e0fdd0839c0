-- What is gathered of parts one after another.
use Rattle.df_nlocals.proofs.Words.{◌≡◌, List, [], ◌++◌, append-nil, append_assoc, sym, ap, ◌∙◌}

-- one part more
pub gathered : {A : Type 0} (made after one left rest total : List A) → after ≡ made ++ one → left ≡ one ++ rest → made ++ left ≡ total → after ++ rest ≡ total
gathered made after one left rest total added split so_far =
    ap (λ (xs : List _). xs ++ rest) added ∙ append_assoc made one rest ∙ ap (λ (xs : List _). made ++ xs) (sym split) ∙ so_far

-- none is left
pub all_gathered : {A : Type 0} (made left total : List A) → left ≡ [] → made ++ left ≡ total → made ≡ total
all_gathered made left total none so_far = sym (append-nil made) ∙ ap (λ (xs : List _). made ++ xs) (sym none) ∙ so_far
