-- Lists of terms that are made one after another.
use Rattle.df_nenc.proofs.Words.{◌≡◌, ℕ, List, [], ◌∷◌, ◌++◌, refl, ap, ◌∙◌, AllByRecursion, map-append, all_joined, Node, Term, Terms, no_term, term, terms_of, implies, Truths, tree_at, trees_at, Grows, IsTerm, implied_by}
use Rattle.df_nenc.proofs.Growing.{all_same, all_stay, terms_below}

-- these terms in front of others
abbrev pub terms_with : List Term → Terms → Terms
terms_with [] rest = rest
terms_with (a ∷ more) rest = term a (terms_with more rest)

pub with_none : (ts : List Term) → terms_with ts no_term ≡ terms_of ts
with_none [] = refl
with_none (a ∷ more) = ap (term a) (with_none more)

pub with_next : (ts : List Term) (a : Term) (rest : Terms) → terms_with (ts ++ a ∷ []) rest ≡ terms_with ts (term a rest)
with_next [] a rest = refl
with_next (b ∷ more) a rest = ap (term b) (with_next more a rest)

pub implied_next : (ts : List Term) (a b : Term) → implied_by (ts ++ a ∷ []) b ≡ implied_by ts (implies a b)
implied_next [] a b = refl
implied_next (c ∷ more) a b = ap (implies c) (implied_next more a b)

-- one more number, in a table that has grown
pub trees_next : (before now : List Node) (ns : List ℕ) (n : ℕ) (a : Term) → Grows before now → AllByRecursion (IsTerm Truths before) ns → tree_at now n ≡ a → trees_at now (ns ++ n ∷ []) ≡ trees_at before ns ++ a ∷ []
trees_next before now ns n a g all e =
    let same = all_same before now ns g (terms_below Truths before ns all) in
    map-append (tree_at now) ns (n ∷ []) ∙ (λ i. same i ++ e i ∷ [])

pub all_next : (before now : List Node) (ns : List ℕ) (n : ℕ) → Grows before now → AllByRecursion (IsTerm Truths before) ns → IsTerm Truths now n → AllByRecursion (IsTerm Truths now) (ns ++ n ∷ [])
all_next before now ns n g all t = all_joined (IsTerm Truths now) ns (n ∷ []) (all_stay Truths before now ns g all) (t, tt)
