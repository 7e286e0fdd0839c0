-- The last local of a name, and how it changes with the locals.
use Rattle.std.proofs.Common.{◌≡◌, ◌≢◌, ◌⊎◌, inl, inr, ℕ, zero, suc, ◌+◌, ◌<◌, ◌≤◌, Bool, true, false, not, cond, nat_eq, nat_lt, List, [], ◌∷◌, ◌++◌, length, take, drop, slice_get, Option, Some, None, is_some, IfSome, IfNone, refl, sym, ap, ◌∙◌, arith}
use Rattle.std.proofs.lemmas.Bool.{cases_order, eqb-true}
use Rattle.std.proofs.lemmas.Bool.Decides.{nat_tests}
use Rattle.std.proofs.lemmas.List.{append-nil, drop_all, length-append, length-drop, length-take, take-append-le, take-append-drop, map-append, length-map}
use Rattle.std.proofs.lemmas.Option.{slice_get_within}
use Rattle.std.proofs.Math.Seq.{take-append_seam}
use Rattle.df_lemmas.proofs.Lists.{get_grown, get_last}
use Rattle.df_nnames.specs.declared.scope.Local.{Local}
use Rattle.df_nnames.specs.Scope.{Scope, all_locals, leave, IsLocal}
use Rattle.df_ntyping.specs.rules.Names.{is_among}
use Rattle.df_nnames.specs.Latest.{after_first, last_of, names_of, IsIndex}

-- ---- what is found

abbrev none : Option ℕ
none = None

-- the first local is another one, and no later one has the name
none_parts : (x name : ℕ) (o : Option ℕ) → after_first x name o ≡ None → (o ≡ None) × (nat_eq name x ≡ false)
none_parts x name (Some k) e = absurd cc
none_parts x name None e = by (nat_eq x name) refl e
  where
    by : (b : Bool) → nat_eq x name ≡ b → cond {A = Option ℕ} b (Some 0) None ≡ None → (none ≡ none) × (nat_eq name x ≡ false)
    by true p q = absurd cc
    by false p q = (refl, grind (arith, nat_tests))

-- a later local has the name, or none has and it is the first one's
some_parts : (x name number : ℕ) (o : Option ℕ) → after_first x name o ≡ Some number → ((k : ℕ) × (o ≡ Some k) × (number ≡ suc k)) ⊎ ((o ≡ None) × (number ≡ 0) × (x ≡ name))
some_parts x name number (Some k) e = inl (k, refl, cc)
some_parts x name number None e = by (nat_eq x name) refl e
  where
    by : (b : Bool) → nat_eq x name ≡ b → cond {A = Option ℕ} b (Some 0) None ≡ Some number → ((k : ℕ) × (none ≡ Some k) × (number ≡ suc k)) ⊎ ((none ≡ none) × (number ≡ 0) × (x ≡ name))
    by true p q = inr (refl, cc, eqb-true x name p)
    by false p q = absurd cc

pub none_among : (names : List ℕ) (name : ℕ) → last_of names name ≡ None → is_among names name ≡ false
none_among [] name e = refl
none_among (x ∷ xs) name e = let p = none_parts x name (last_of xs name) e in rw p.1 (none_among xs name p.0)

none_there : (names : List ℕ) (name number : ℕ) → last_of names name ≡ None → slice_get names number ≢ Some name
none_there [] name number e at = absurd cc
none_there (x ∷ xs) name zero e at =
    let p = none_parts x name (last_of xs name) e in
    let same : x ≡ name = cc in
    absurd (grind (arith, nat_tests))
none_there (x ∷ xs) name (suc number) e at = let p = none_parts x name (last_of xs name) e in none_there xs name number p.0 at

first_is_local : (x : ℕ) (xs : List ℕ) (name : ℕ) → last_of xs name ≡ None → x ≡ name → IsLocal (x ∷ xs) name 0
first_is_local x xs name none same = record { there = ap (λ (n : ℕ). Some n) same; last = after }
  where
    after : (later : ℕ) → 0 < later → slice_get (x ∷ xs) later ≢ Some name
    after zero lt = absurd (omega arith)
    after (suc later) lt = none_there xs name later none

later_is_local : (x : ℕ) (xs : List ℕ) (name number : ℕ) → IsLocal xs name number → IsLocal (x ∷ xs) name (suc number)
later_is_local x xs name number local = record { there = local.there; last = after }
  where
    after : (later : ℕ) → suc number < later → slice_get (x ∷ xs) later ≢ Some name
    after zero lt = absurd (omega arith)
    after (suc later) lt = local.last later (omega arith)

pub is_local : (names : List ℕ) (name number : ℕ) → last_of names name ≡ Some number → IsLocal names name number
is_local [] name number e = absurd cc
is_local (x ∷ xs) name number e = elim (some_parts x name number (last_of xs name) e) [
  | inl p ↦ rw p.2 (later_is_local x xs name p.0 (is_local xs name p.0 p.1))
  | inr p ↦ rw p.1 (first_is_local x xs name p.0 p.2)
]

-- ---- the innermost scope

last_within : (names : List ℕ) (name number : ℕ) → last_of names name ≡ Some number → number < length names
last_within names name number e = slice_get_within names number name (is_local names name number e).there

-- where the name is among the later locals, it is the last of those
last_later : (a b : List ℕ) (name : ℕ) → (number : ℕ) → last_of b name ≡ Some number → last_of (a ++ b) name ≡ Some (length a + number)
last_later [] b name number e = e ∙ ap (λ (n : ℕ). Some n) (omega arith)
last_later (x ∷ xs) b name number e = ap (after_first x name) (last_later xs b name number e) ∙ ap (λ (n : ℕ). Some n) (omega arith)

last_earlier : (a b : List ℕ) (name : ℕ) → last_of b name ≡ None → last_of (a ++ b) name ≡ last_of a name
last_earlier [] b name e = e
last_earlier (x ∷ xs) b name e = ap (after_first x name) (last_earlier xs b name e)

pub some_among : (names : List ℕ) (name number : ℕ) → last_of names name ≡ Some number → is_among names name ≡ true
some_among [] name number e = absurd cc
some_among (x ∷ xs) name number e = elim (some_parts x name number (last_of xs name) e) [
  | inl p ↦ rw (some_among xs name p.0 p.1) (grind (arith, nat_tests))
  | inr p ↦ let same : nat_eq name x ≡ true = grind (arith, nat_tests) in rw same refl
]

-- a name that means a local is new where that one stands outside
pub is_new : (outer inner : List ℕ) (name number : ℕ) → last_of (outer ++ inner) name ≡ Some number → nat_lt number (length outer) ≡ not (is_among inner name)
is_new outer inner name number e = by (last_of inner name) refl
  where
    by : (o : Option ℕ) → last_of inner name ≡ o → nat_lt number (length outer) ≡ not (is_among inner name)
    by None p =
        let q = last_earlier outer inner name p in
        let lt = last_within outer name number (sym q ∙ e) in
        rw (none_among inner name p) (grind (arith, nat_tests))
    by (Some k) p =
        let q = last_later outer inner name k p in
        let is : number ≡ length outer + k = cc in
        rw (some_among inner name k p) (grind (arith, nat_tests))

-- and one that means none is new
pub none_is_new : (outer inner : List ℕ) (name : ℕ) → last_of (outer ++ inner) name ≡ None → true ≡ not (is_among inner name)
none_is_new outer inner name e = by (last_of inner name) refl
  where
    by : (o : Option ℕ) → last_of inner name ≡ o → true ≡ not (is_among inner name)
    by None p = rw (none_among inner name p) refl
    by (Some k) p = let q = last_later outer inner name k p in absurd cc

-- ---- one local more, or less

pub last_of-push : (names : List ℕ) (local name : ℕ) → last_of (names ++ local ∷ []) name ≡ cond {A = Option ℕ} (nat_eq local name) (Some (length names)) (last_of names name)
last_of-push names local name = by (nat_eq local name) refl
  where
    by : (b : Bool) → nat_eq local name ≡ b → last_of (names ++ local ∷ []) name ≡ cond {A = Option ℕ} b (Some (length names)) (last_of names name)
    by true p = last_later names (local ∷ []) name 0 (rw p refl) ∙ ap (λ (n : ℕ). Some n) (omega arith)
    by false p = last_earlier names (local ∷ []) name (rw p refl)

pub slice_get-push : {A : Type 0} (xs : List A) (x : A) (i : ℕ) (y : A) → slice_get (xs ++ x ∷ []) i ≡ Some y → (slice_get xs i ≡ Some y) ⊎ ((i ≡ length xs) × (y ≡ x))
slice_get-push [] x zero y e = inr (refl, cc)
slice_get-push [] x (suc i) y e = absurd cc
slice_get-push (z ∷ xs) x zero y e = inl e
slice_get-push (z ∷ xs) x (suc i) y e = elim (slice_get-push xs x i y e) [
  | inl p ↦ inl p
  | inr p ↦ inr (omega arith, p.1)
]

names_of-push : (locals : List Local) (local : Local) → names_of (locals ++ local ∷ []) ≡ names_of locals ++ local.name ∷ []
names_of-push locals local = map-append (λ (local : Local). local.name) locals (local ∷ [])

pub names_of-length : (locals : List Local) → length (names_of locals) ≡ length locals
names_of-length locals = length-map locals (λ (local : Local). local.name)

take-front : (xs ys : List ℕ) (n : ℕ) → n ≤ length xs → take n (xs ++ ys) ≡ take n xs
take-front xs ys n le = take-append-le n xs ys le

-- a local is declared, which hides the last one of its name
pub declared : (latest after : ℕ → Option ℕ) (locals : List Local) (local : Local) → IsIndex latest locals → local.hidden ≡ latest local.name
    → ((name : ℕ) → after name ≡ cond {A = Option ℕ} (nat_eq local.name name) (Some (length locals)) (latest name)) → IsIndex after (locals ++ local ∷ [])
declared latest after locals local index hides finds = record { found = found; hidden = hidden }
  where
    names : names_of (locals ++ local ∷ []) ≡ names_of locals ++ local.name ∷ []
    names = names_of-push locals local

    found : (name : ℕ) → after name ≡ last_of (names_of (locals ++ local ∷ [])) name
    found name = rw (names, last_of-push (names_of locals) local.name name, names_of-length locals, finds name, index.found name) refl

    hidden : (number : ℕ) (other : Local) → slice_get (locals ++ local ∷ []) number ≡ Some other → other.hidden ≡ last_of (take number (names_of (locals ++ local ∷ []))) other.name
    hidden number other at = rw names (elim (slice_get-push locals local number other at) [
      | inl p ↦
          let lt = slice_get_within locals number other p in
          let len = names_of-length locals in
          rw (take-front (names_of locals) (local.name ∷ []) number (omega arith)) (index.hidden number other p)
      | inr p ↦
          let len = names_of-length locals in
          let whole : take number (names_of locals ++ local.name ∷ []) ≡ names_of locals = rw (p.0, ← len) (take-append_seam (names_of locals) (local.name ∷ [])) in
          rw (whole, p.1) (hides ∙ index.found local.name)
    ])

-- the last local goes, and the one that it hides is found again
pub forgotten : (latest after : ℕ → Option ℕ) (locals : List Local) (local : Local) → IsIndex latest (locals ++ local ∷ [])
    → ((name : ℕ) → after name ≡ cond {A = Option ℕ} (nat_eq local.name name) local.hidden (latest name)) → IsIndex after locals
forgotten latest after locals local index finds = record { found = found; hidden = hidden }
  where
    names : names_of (locals ++ local ∷ []) ≡ names_of locals ++ local.name ∷ []
    names = names_of-push locals local

    own : local.hidden ≡ last_of (names_of locals) local.name
    own =
        let len = names_of-length locals in
        index.hidden (length locals) local (get_last locals local) ∙ rw (names, ← len) (ap (λ (xs : List ℕ). last_of xs local.name) (take-append_seam (names_of locals) (local.name ∷ [])))

    found : (name : ℕ) → after name ≡ last_of (names_of locals) name
    found name = finds name ∙ by (nat_eq local.name name) refl
      where
        before : latest name ≡ cond {A = Option ℕ} (nat_eq local.name name) (Some (length (names_of locals))) (last_of (names_of locals) name)
        before = index.found name ∙ rw names (last_of-push (names_of locals) local.name name)

        by : (b : Bool) → nat_eq local.name name ≡ b → cond {A = Option ℕ} b local.hidden (latest name) ≡ last_of (names_of locals) name
        by true p = own ∙ ap (last_of (names_of locals)) (eqb-true local.name name p)
        by false p = before ∙ rw p refl

    hidden : (number : ℕ) (other : Local) → slice_get locals number ≡ Some other → other.hidden ≡ last_of (take number (names_of locals)) other.name
    hidden number other at =
        let lt = slice_get_within locals number other at in
        let len = names_of-length locals in
        let front = take-front (names_of locals) (local.name ∷ []) number (omega arith) in
        rw (← front, ← names) (index.hidden number other (get_grown locals (local ∷ []) number other at))

pub is_local_of : (names : List ℕ) (name : ℕ) (o : Option ℕ) → last_of names name ≡ o → IfSome o (λ number. IsLocal names name number)
is_local_of names name None e = tt
is_local_of names name (Some number) e = is_local names name number e

pub none_among_of : (names : List ℕ) (name : ℕ) (o : Option ℕ) → last_of names name ≡ o → IfNone o (is_among names name ≡ false)
none_among_of names name (Some number) e = tt
none_among_of names name None e = none_among names name e

-- the view shows all locals
pub all_are : (outer : ℕ) (names : List ℕ) (scope : Scope) (name : ℕ) → record { outer = take outer names; inner = drop outer names } ≡ scope → last_of (all_locals scope) name ≡ last_of names name
all_are outer names scope name is = rw (← is) (ap (λ (xs : List ℕ). last_of xs name) (take-append-drop outer names))

pub count_of_outer : (outer : ℕ) (names : List ℕ) (scope : Scope) → record { outer = take outer names; inner = drop outer names } ≡ scope → outer ≤ length names → length scope.outer ≡ outer
count_of_outer outer names scope is le = rw (← is) (simp length-take (omega arith))

-- the innermost scope is empty, and ends
pub left : (scope before : Scope) (outer1 outer2 : ℕ) (names1 names2 : List ℕ) (count : ℕ)
    → record { outer = take outer1 names1; inner = drop outer1 names1 } ≡ scope → record { outer = take outer2 names2; inner = drop outer2 names2 } ≡ scope
    → length names1 ≤ outer1 → scope.outer ≡ before.outer → record { outer = take count names2; inner = drop count names2 } ≡ leave before count
left scope before outer1 outer2 names1 names2 count one two le same =
    let empty : drop outer2 names2 ≡ [] = ap (λ (s : Scope). s.inner) two ∙ sym (ap (λ (s : Scope). s.inner) one) ∙ drop_all outer1 names1 le in
    let whole : names2 ≡ take outer2 names2 = sym (take-append-drop outer2 names2) ∙ rw empty (append-nil (take outer2 names2)) in
    let is : names2 ≡ before.outer = whole ∙ ap (λ (s : Scope). s.outer) two ∙ same in
    rw is refl

-- a local that is the last one is found
pub last_is_found : (latest : ℕ → Option ℕ) (locals : List Local) (local : Local) → IsIndex latest (locals ++ local ∷ []) → latest local.name ≡ Some (length locals)
last_is_found latest locals local index =
    let same : nat_eq local.name local.name ≡ true = grind (arith, nat_tests) in
    index.found local.name ∙ rw (names_of-push locals local, last_of-push (names_of locals) local.name local.name, same, names_of-length locals) refl

-- where the innermost scope has a local, the last one stands there
pub still_within : (outer : ℕ) (items front : List Local) (local : Local) (scope : Scope) → record { outer = take outer (names_of items); inner = drop outer (names_of items) } ≡ scope
    → items ≡ front ++ local ∷ [] → 0 < length scope.inner → outer ≤ length front
still_within outer items front local scope is made some =
    let inner : length (drop outer (names_of items)) ≡ length scope.inner = ap (λ (s : Scope). length s.inner) is in
    let count = length-drop outer (names_of items) in
    let len = names_of-length items in
    let more : length items ≡ length front + 1 = rw made (length-append front (local ∷ [])) in
    omega arith

-- what is entered is left as it was
pub left_as_before : (before scope : Scope) → scope.outer ≡ all_locals before → leave scope (length before.outer) ≡ before
left_as_before before scope same = rw same (λ i. record { outer = take-append_seam before.outer before.inner i; inner = drop-whole before.outer before.inner i })
  where
    drop-whole : (xs ys : List ℕ) → drop (length xs) (xs ++ ys) ≡ ys
    drop-whole [] ys = refl
    drop-whole (x ∷ xs) ys = drop-whole xs ys

pub among_of : (names : List ℕ) (name : ℕ) (o : Option ℕ) → last_of names name ≡ o → is_some o ≡ is_among names name
among_of names name None e = sym (none_among names name e)
among_of names name (Some number) e = sym (some_among names name number e)

-- what means a local is found
pub last_is : (names : List ℕ) (name number : ℕ) → IsLocal names name number → last_of names name ≡ Some number
last_is names name number local = by (last_of names name) refl
  where
    by : (o : Option ℕ) → last_of names name ≡ o → last_of names name ≡ Some number
    by None e = absurd (none_there names name number e local.there)
    by (Some other) e =
        let found = is_local names name other e in
        elim (cases_order number other) [
          | inl same ↦ rw same e
          | inr order ↦ absurd (elim order [
            | inl lt ↦ local.last other lt found.there
            | inr gt ↦ found.last number gt local.there
          ])
        ]
