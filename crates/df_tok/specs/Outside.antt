-- The words of Dafny that are outside the language.
use Rattle.std.specs.Prelude.{◌≡◌, ◌≢◌, ℕ, IsTrue, ◌⊎◌, List, [], ◌∷◌, ◌++◌, codes, Contains}
use Rattle.std.specs.List.{AllByRecursion}
use Rattle.df_tok.specs.Byte.{is_digit}

abbrev pub outside_words : List (List ℕ)
outside_words =
    codes "abstract"
    ∷ codes "allocated"
    ∷ codes "assume"
    ∷ codes "codatatype"
    ∷ codes "const"
    ∷ codes "continue"
    ∷ codes "copredicate"
    ∷ codes "expect"
    ∷ codes "export"
    ∷ codes "extends"
    ∷ codes "for"
    ∷ codes "greatest"
    ∷ codes "imap"
    ∷ codes "include"
    ∷ codes "is"
    ∷ codes "iset"
    ∷ codes "iterator"
    ∷ codes "label"
    ∷ codes "least"
    ∷ codes "map"
    ∷ codes "modify"
    ∷ codes "multiset"
    ∷ codes "nameonly"
    ∷ codes "opaque"
    ∷ codes "ORDINAL"
    ∷ codes "provides"
    ∷ codes "real"
    ∷ codes "refines"
    ∷ codes "reveal"
    ∷ codes "reveals"
    ∷ codes "static"
    ∷ codes "trait"
    ∷ codes "twostate"
    ∷ codes "type"
    ∷ codes "unchanged"
    ∷ codes "yield"
    ∷ codes "yields" ∷ []

-- digits, at least one
abbrev pub AreAllDigits : List ℕ → Type 0
AreAllDigits digits = (digits ≢ []) × AllByRecursion (λ d. IsTrue (is_digit d)) digits

-- A listed word, `bv` and digits, or `array` and digits with or without `?`.
abbrev pub IsOutside : List ℕ → Type 0
IsOutside text =
    Contains outside_words text
    ⊎ ((digits : List ℕ) × AreAllDigits digits × (text ≡ codes "bv" ++ digits))
    ⊎ ((digits : List ℕ) × AreAllDigits digits × ((text ≡ codes "array" ++ digits) ⊎ (text ≡ codes "array" ++ digits ++ codes "?")))
