-- The keys of nodes and the lists of their parts: the tests of both are equality, and what a search for a list finds.
use Rattle.std.proofs.Common.{◌≡◌, ℕ, ◌<◌, Bool, true, false, nat_eq, List, [], ◌∷◌, get_or, slice_get, position, Option, None, Some, IfSome, IfNone, Vec, Global, sym, ap, ◌∙◌, true≢false, rules, arith}
use Rattle.std.specs.List.{IsDistinct as apart}
use Rattle.std.specs.Option.{option_map}
use Rattle.std.specs.Cmp.Lexicographic.{pointwise}
use Rattle.std.proofs.lemmas.List.Quantifiers.{position-Some}
use Rattle.std.proofs.lemmas.Map.Keys.{apart_from_distinct}
use Rattle.std.proofs.lemmas.Option.{slice_get-map, slice_get-get_or, slice_get_within, get_or_from_slice_get, none-some}
use Rattle.std.proofs.lemmas.Slice.Eq.{bytes_eq-Decides}
use Rattle.df_lemmas.proofs.Options.{map_some}
use Rattle.df_form.specs.declared.key.Key.{Key}
use Rattle.df_form.specs.contracts.key.KeyPartialEq.TheImpl as key
use Rattle.df_form.specs.PartLists.{list_of, lists_of}
use Rattle.df_form.proofs.Tables.{not_found}

-- the test of keys is equality
abbrev pub eq : Key → Key → Bool
eq a b = key.eq-value.it a b

pub equal : (a b : Key) → eq a b ≡ true → a ≡ b
equal a b e = search rules

pub equal_back : (a b : Key) → a ≡ b → eq a b ≡ true
equal_back a b e = search rules

-- what a search finds stands there, and passes
pub position-at : {A : Type 0} (test : A → Bool) (xs : List A) (n : ℕ) → position test xs ≡ Some n → (x : A) × (slice_get xs n ≡ Some x) × (test x ≡ true)
position-at test [] n e = absurd (none-some n e)
position-at test (x ∷ xs) n e = let found = position-Some test (x ∷ xs) n x e in (get_or (x ∷ xs) n x, slice_get-get_or (x ∷ xs) n x found.0, found.1)

-- the test of lists is equality of what is in them
abbrev pub same_lists : Vec ℕ Global → Vec ℕ Global → Bool
same_lists a b = pointwise nat_eq a.items b.items

-- the test for parts that lie elsewhere
abbrev pub same_parts : List ℕ → Vec ℕ Global → Bool
same_parts parts list = pointwise nat_eq parts list.items

not_before : (lists : List (Vec ℕ Global)) → apart same_lists lists → (i j : ℕ) (a b : Vec ℕ Global) → slice_get lists i ≡ Some a → slice_get lists j ≡ Some b → a.items ≡ b.items → i < j → ⊥
not_before lists d i j a b at_i at_j same less =
    let e = apart_from_distinct same_lists lists i j a d less (slice_get_within lists j b at_j) in
    let x = get_or_from_slice_get lists i a a at_i in
    let y = get_or_from_slice_get lists j b a at_j in
    let apart_here : same_lists a b ≡ false = (λ k. same_lists (sym x k) (sym y k)) ∙ e in
    absurd (true≢false (sym ((bytes_eq-Decides a.items b.items).1 same) ∙ apart_here))

-- no list stands twice
one_place : (lists : List (Vec ℕ Global)) → apart same_lists lists → (i j : ℕ) (a b : Vec ℕ Global) → slice_get lists i ≡ Some a → slice_get lists j ≡ Some b → a.items ≡ b.items → i ≡ j
one_place lists d i j a b at_i at_j same =
    let before : i < j → ⊥ = not_before lists d i j a b at_i at_j same in
    let after : j < i → ⊥ = not_before lists d j i b a at_j at_i (sym same) in
    grind arith

-- the list of a number, as it lies in memory
list_at : (lists : List (Vec ℕ Global)) (parts : List ℕ) (n : ℕ) → slice_get (lists_of lists) n ≡ Some parts → (list : Vec ℕ Global) × (slice_get lists n ≡ Some list) × (list_of list ≡ parts)
list_at lists parts n at = map_some list_of (slice_get lists n) parts (sym (slice_get-map list_of lists n) ∙ at)

-- a search for a list finds its one number, or it is none of them
pub list-found : (lists : List (Vec ℕ Global)) (parts : List ℕ) (r : Option ℕ) → r ≡ position (same_parts parts) lists → IfSome r (λ n. slice_get (lists_of lists) n ≡ Some parts)
list-found lists parts None e = tt
list-found lists parts (Some n) e =
    let found = position-at (same_parts parts) lists n (sym e) in
    let same : parts ≡ list_of found.0 = (bytes_eq-Decides parts (list_of found.0)).0 found.2 in
    slice_get-map list_of lists n ∙ ap (option_map list_of) found.1 ∙ ap Some (sym same)

pub list-only : (lists : List (Vec ℕ Global)) (parts : List ℕ) (r : Option ℕ) → apart same_lists lists → r ≡ position (same_parts parts) lists → IfSome r (λ n. (other : ℕ) → slice_get (lists_of lists) other ≡ Some parts → other ≡ n)
list-only lists parts None d e = tt
list-only lists parts (Some n) d e = λ other at.
    let found = position-at (same_parts parts) lists n (sym e) in
    let same : parts ≡ list_of found.0 = (bytes_eq-Decides parts (list_of found.0)).0 found.2 in
    let there = list_at lists parts other at in
    one_place lists d other n there.0 found.0 there.1 found.1 (there.2 ∙ same)

pub list-none : (lists : List (Vec ℕ Global)) (parts : List ℕ) (r : Option ℕ) → r ≡ position (same_parts parts) lists → IfNone r ((n : ℕ) → slice_get (lists_of lists) n ≡ Some parts → ⊥)
list-none lists parts (Some n) e = tt
list-none lists parts None e = λ n at.
    let there = list_at lists parts n at in
    not_found (same_parts parts) lists n there.0 (sym e) there.1 ((bytes_eq-Decides parts (list_of there.0)).1 (sym there.2))
