-- Literals that lists have, and lists but one of their literals.
use Rattle.std.proofs.Common.{◌≡◌, ◌⊎◌, inl, inr, ⊎_elim, Bool, true, false, not, ◌||◌, cond, List, [], ◌∷◌, ◌++◌, refl, sym, ap, ◌∙◌, subst, true≢false}
use Rattle.std.proofs.lemmas.Bool.{and_from, and_parts, or_cases, or_left, or_right, cases_Bool}
use Rattle.df_form.proofs.Literals.{same_self}
use Rattle.df_form.specs.declared.log.Lit.{Lit}
use Rattle.df_form.specs.Node.{Node}
use Rattle.df_form.specs.Sorting.{is_formula}
use Rattle.df_form.specs.Clause.{same_literal, is_among, are_literals}
use Rattle.df_rules.proofs.SoundClauses.{same_literal_is}
use Rattle.df_trail.specs.Trail.{HasAll, others_of}

pub all_self : (list : List Lit) → HasAll list list
all_self list = record { has = λ l e. e }

pub all_then : (wide middle some : List Lit) → HasAll wide middle → HasAll middle some → HasAll wide some
all_then wide middle some one two = record { has = λ l e. one.has l (two.has l e) }

-- ---- lists after one another

pub among_split : (xs ys : List Lit) (l : Lit) → is_among (xs ++ ys) l ≡ true → (is_among xs l ≡ true) ⊎ (is_among ys l ≡ true)
among_split [] ys l e = inr e
among_split (x ∷ xs) ys l e =
    ⊎_elim (λ here. inl (or_left (same_literal l x) (is_among xs l) here)) (λ rest. ⊎_elim (λ first. inl (or_right (same_literal l x) (is_among xs l) first)) (λ second. inr second) (among_split xs ys l rest))
    (or_cases (same_literal l x) (is_among (xs ++ ys) l) e)

pub among_last : (xs : List Lit) (m l : Lit) → is_among (xs ++ m ∷ []) l ≡ true → (is_among xs l ≡ true) ⊎ (l ≡ m)
among_last xs m l e = ⊎_elim (λ first. inl first) (λ last. ⊎_elim (λ same. inr (same_literal_is l m same)) (λ none. absurd (true≢false (sym none))) (or_cases (same_literal l m) false last)) (among_split xs (m ∷ []) l e)

-- literals of a list without its last one are among the others
pub all_but_last : (xs some : List Lit) (m : Lit) → HasAll (xs ++ m ∷ []) some → is_among some m ≡ false → HasAll xs some
all_but_last xs some m all none = record {
  has = λ l e. ⊎_elim (λ there. there) (λ last. absurd (true≢false (sym e ∙ ap (is_among some) last ∙ none))) (among_last xs m l (all.has l e));
}

pub all_of_none : (some : List Lit) → HasAll [] some → some ≡ []
all_of_none [] all = refl
all_of_none (l ∷ some) all = absurd (true≢false (sym (all.has l (or_left (same_literal l l) (is_among some l) (same_self l)))))

-- ---- lists but one literal

same_swap : (a b : Lit) → same_literal a b ≡ false → same_literal b a ≡ false
same_swap a b e = ⊎_elim (λ same. absurd (true≢false (sym (subst (λ (x : Lit). same_literal a x ≡ true) (sym (same_literal_is b a same)) (same_self a)) ∙ e))) (λ other. other) (cases_Bool (same_literal b a))

pub others_among : (m : Lit) (literals : List Lit) (l : Lit) → is_among (others_of m literals) l ≡ true → is_among literals l ≡ true
others_among m [] l e = e
others_among m (x ∷ xs) l e = by (same_literal x m) e (others_among m xs l)
  where
    by : (b : Bool) → is_among (cond (not b) (x ∷ others_of m xs) (others_of m xs)) l ≡ true → (is_among (others_of m xs) l ≡ true → is_among xs l ≡ true) → is_among (x ∷ xs) l ≡ true
    by true e go = or_right (same_literal l x) (is_among xs l) (go e)
    by false e go = ⊎_elim (λ here. or_left (same_literal l x) (is_among xs l) here) (λ rest. or_right (same_literal l x) (is_among xs l) (go rest)) (or_cases (same_literal l x) (is_among (others_of m xs) l) e)

pub others_lack : (m : Lit) (literals : List Lit) → is_among (others_of m literals) m ≡ false
others_lack m [] = refl
others_lack m (x ∷ xs) = by (same_literal x m) refl (others_lack m xs)
  where
    by : (b : Bool) → same_literal x m ≡ b → is_among (others_of m xs) m ≡ false → is_among (cond (not b) (x ∷ others_of m xs) (others_of m xs)) m ≡ false
    by true is rest = rest
    by false is rest = ap (λ (b : Bool). b || is_among (others_of m xs) m) (same_swap x m is) ∙ rest

pub others_have : (m : Lit) (literals : List Lit) (l : Lit) → is_among literals l ≡ true → (l ≡ m) ⊎ (is_among (others_of m literals) l ≡ true)
others_have m [] l e = absurd (true≢false (sym e))
others_have m (x ∷ xs) l e = by (same_literal x m) refl (or_cases (same_literal l x) (is_among xs l) e) (others_have m xs l)
  where
    by : (b : Bool) → same_literal x m ≡ b → (same_literal l x ≡ true) ⊎ (is_among xs l ≡ true) → (is_among xs l ≡ true → (l ≡ m) ⊎ (is_among (others_of m xs) l ≡ true)) → (l ≡ m) ⊎ (is_among (cond (not b) (x ∷ others_of m xs) (others_of m xs)) l ≡ true)
    by true is (inl here) go = inl (same_literal_is l x here ∙ same_literal_is x m is)
    by true is (inr rest) go = go rest
    by false is (inl here) go = inr (or_left (same_literal l x) (is_among (others_of m xs) l) here)
    by false is (inr rest) go = ⊎_elim (λ same. inl same) (λ there. inr (or_right (same_literal l x) (is_among (others_of m xs) l) there)) (go rest)

-- ---- their formulas

formula_there : (nodes : List Node) (list : List Lit) (l : Lit) → are_literals nodes list ≡ true → is_among list l ≡ true → is_formula nodes l.node ≡ true
formula_there nodes [] l e there = absurd (true≢false (sym there))
formula_there nodes (m ∷ others) l e there =
    let parts = and_parts (is_formula nodes m.node) (are_literals nodes others) e in
    ⊎_elim (λ here. subst (λ (q : Lit). is_formula nodes q.node ≡ true) (sym (same_literal_is l m here)) parts.0) (λ rest. formula_there nodes others l parts.1 rest) (or_cases (same_literal l m) (is_among others l) there)

pub held_formulas : (nodes : List Node) (list some : List Lit) → HasAll list some → are_literals nodes list ≡ true → are_literals nodes some ≡ true
held_formulas nodes list [] all e = refl
held_formulas nodes list (l ∷ some) all e =
    and_from (is_formula nodes l.node) (are_literals nodes some) (formula_there nodes list l e (all.has l (or_left (same_literal l l) (is_among some l) (same_self l))))
    (held_formulas nodes list some (record { has = λ q there. all.has q (or_right (same_literal q l) (is_among some q) there) }) e)
