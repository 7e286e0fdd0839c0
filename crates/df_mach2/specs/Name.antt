-- The form of a method's name: identifiers parted by dots.
use Rattle.std.specs.Prelude.{ℕ, Bool, false, not, ◌==◌, ◌||◌, ◌&&◌, nat_eq, nat_le, cond, List, [], ◌∷◌}
use Rattle.std.specs.List.{list_all}

abbrev pub is_digit : ℕ → Bool
is_digit b = nat_le 48 b && nat_le b 57

abbrev pub is_letter : ℕ → Bool
is_letter b = (nat_le 65 b && nat_le b 90) || (nat_le 97 b && nat_le b 122)

-- a letter or `_`
abbrev pub begins_identifier : ℕ → Bool
begins_identifier b = is_letter b || b == 95

-- a letter, a digit, `_`, `'` or `?`
abbrev pub continues_identifier : ℕ → Bool
continues_identifier b = is_letter b || is_digit b || b == 95 || b == 39 || b == 63

-- `_` alone, which is no identifier
abbrev pub is_wildcard : List ℕ → Bool
is_wildcard [] = false
is_wildcard (b ∷ []) = b == 95
is_wildcard (b ∷ c ∷ bs) = false

abbrev pub is_identifier : List ℕ → Bool
is_identifier [] = false
is_identifier (b ∷ bs) = begins_identifier b && list_all continues_identifier bs && not (is_wildcard (b ∷ bs))

-- the byte in front of the first of some texts
abbrev pub in_front : ℕ → List (List ℕ) → List (List ℕ)
in_front b [] = (b ∷ []) ∷ []
in_front b (text ∷ texts) = (b ∷ text) ∷ texts

-- the texts between dots
abbrev pub dotted : List ℕ → List (List ℕ)
dotted [] = [] ∷ []
dotted (b ∷ bs) = cond (nat_eq b 46) ([] ∷ dotted bs) (in_front b (dotted bs))

abbrev pub is_name : List ℕ → Bool
is_name name = list_all is_identifier (dotted name)
