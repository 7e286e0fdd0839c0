-- Parameters and results as locals that leave a method.
use Rattle.df_nlocals.proofs.Words.{◌≡◌, ℕ, suc, ◌+◌, List, [], ◌∷◌, ◌++◌, length, refl, sym, ap, ◌∙◌, arith, length-map, Param, Changed, locals_from, changed_of, changed_in, DeclaredChanged}

locals_joined : (first second : List Param) (k n : ℕ) → n ≡ k + length first → locals_from k (first ++ second) ≡ locals_from k first ++ locals_from n second
locals_joined [] second k n e = ap (λ (m : ℕ). locals_from m second) (let same : k ≡ n = omega arith in same)
locals_joined (p ∷ first) second k n e = ap (λ (cs : List Changed). record { local = k; ty = p.ty } ∷ cs) (locals_joined first second (suc k) n (omega arith))

many : (params : List Param) (k : ℕ) → length (locals_from k params) ≡ length params
many [] k = refl
many (p ∷ params) k = ap suc (many params (suc k))

pub exits_are : (first second : List Param) (none one two : List DeclaredChanged) → none ≡ [] → changed_in one ≡ changed_in none ++ locals_from (length none) first → changed_in two ≡ changed_in one ++ locals_from (length one) second
    → changed_in two ≡ locals_from 0 (first ++ second)
exits_are first second none one two e f g =
    let front : changed_in one ≡ locals_from 0 first = f ∙ ap (λ (ds : List DeclaredChanged). changed_in ds ++ locals_from (length ds) first) e in
    let long : length one ≡ 0 + length first = omega (arith, length-map one changed_of, ap (λ (cs : List Changed). length cs) front, many first 0) in
    g ∙ ap (λ (cs : List Changed). cs ++ locals_from (length one) second) front ∙ sym (locals_joined first second 0 (length one) long)
