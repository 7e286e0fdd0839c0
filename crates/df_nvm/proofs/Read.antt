-- The characters that values are, read one by one.
use Rattle.std.proofs.Common.{◌≡◌, ℕ, ◌+◌, ◌<◌, ◌≤◌, List, [], ◌∷◌, ◌++◌, drop, length, get_or, Option, Some, None, option_map, refl, sym, ap, ◌∙◌, append_assoc, append-nil}
use Rattle.std.proofs.lemmas.List.{drop_more, drop_all}
use Rattle.df_nmach.specs.Value as pure
use Rattle.df_nmach.specs.Step.{characters}
use Rattle.df_nmach.specs.View.{value_of, values_of}
use Rattle.df_nvm.specs.mirror.Turns.{char_in}
use Rattle.df_nmach.specs.declared.value.Value.{Value}

-- what was read, in front of what is left
abbrev pub read : List ℕ → Option (List ℕ) → Option (List ℕ)
read text rest = option_map (λ (cs : List ℕ). text ++ cs) rest

from : (xs : List Value) (i : ℕ) (x : Value) → i < length xs → x ≡ get_or xs i x
    → values_of (drop i xs) ≡ value_of x ∷ values_of (drop (i + 1) xs)
from xs i x lt is = ap (λ (l : List Value). values_of l) (drop_more xs i x lt ∙ ap (λ (y : Value). y ∷ drop (i + 1) xs) (sym is))

read_more : (text : List ℕ) (c : ℕ) (rest : Option (List ℕ)) → read (text ++ c ∷ []) rest ≡ read text (option_map (λ (cs : List ℕ). c ∷ cs) rest)
read_more text c None = refl
read_more text c (Some cs) = ap Some (append_assoc text (c ∷ []) cs)

is_char : (v : pure.Value) (c : ℕ) → Some c ≡ char_in v → v ≡ pure.Char c
is_char (pure.Char d) c e = cc
is_char v c e = cc

no_char : (v : pure.Value) (rest : List pure.Value) → None ≡ char_in v → characters (v ∷ rest) ≡ None
no_char (pure.Char d) rest e = cc
no_char v rest e = refl

-- one more character
pub reads_on : (xs : List Value) (i : ℕ) (x : Value) (c : ℕ) (text new : List ℕ) (whole : Option (List ℕ)) → i < length xs → x ≡ get_or xs i x
    → Some c ≡ char_in (value_of x) → new ≡ text ++ c ∷ []
    → read text (characters (values_of (drop i xs))) ≡ whole
    → read new (characters (values_of (drop (i + 1) xs))) ≡ whole
reads_on xs i x c text new whole lt is is_one grows so_far =
    let char : value_of x ≡ pure.Char c = is_char (value_of x) c is_one in
    let rest = values_of (drop (i + 1) xs) in
    ap (λ t. read t (characters rest)) grows ∙ read_more text c (characters rest)
    ∙ ap (λ (vs : List pure.Value). read text (characters vs)) (sym (from xs i x lt is ∙ ap (λ (v : pure.Value). v ∷ rest) char)) ∙ so_far

-- no character is left
pub reads_all : (xs : List Value) (i : ℕ) (text : List ℕ) (whole : Option (List ℕ)) → length xs ≤ i
    → read text (characters (values_of (drop i xs))) ≡ whole → whole ≡ Some text
reads_all xs i text whole le so_far =
    sym so_far ∙ ap (λ (l : List Value). read text (characters (values_of l))) (drop_all i xs le) ∙ ap Some (append-nil text)

-- a value that is no character
pub reads_no_more : (xs : List Value) (i : ℕ) (x : Value) (text : List ℕ) (whole : Option (List ℕ)) → i < length xs → x ≡ get_or xs i x
    → None ≡ char_in (value_of x)
    → read text (characters (values_of (drop i xs))) ≡ whole → whole ≡ None
reads_no_more xs i x text whole lt is other so_far =
    sym so_far ∙ ap (λ (vs : List pure.Value). read text (characters vs)) (from xs i x lt is) ∙ ap (read text) (no_char (value_of x) (values_of (drop (i + 1) xs)) other)
