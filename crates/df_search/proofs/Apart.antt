-- Branches of which one lacks the last literal of the other share no list that is shut.
use Rattle.std.proofs.Common.{◌≡◌, ◌⊎◌, inl, inr, ⊎_elim, ℕ, zero, suc, ◌+◌, ◌<◌, ◌≤◌, ◌-◌, IsTrue, Vec, map, drop, length, get_or, arith, Bool, true, false, not, ◌||◌, List, [], ◌∷◌, ◌++◌, refl, sym, ap, ◌∙◌, subst, append_assoc, append-nil}
use Rattle.df_form.specs.declared.log.Lit.{Lit}
use Rattle.df_form.specs.Node.{Node}
use Rattle.df_form.specs.Clause.{same_literal, is_among}
use Rattle.df_closure.specs.Closure.{GroundClause}
use Rattle.df_branch.specs.Evidence.{MayFollow, IsBranchAfter, IsBranch, ShareNothingShut}
use Rattle.std.specs.declared.alloc.Global.{Global}
use Rattle.std.proofs.lemmas.Bool.{or_cases, or_left, or_right}
use Rattle.df_lemmas.proofs.Truths.{true_is_not_false}
use Rattle.df_search.specs.Searching.{Lacks, AreApart, AllApart}
use Rattle.df_rules.proofs.SoundClauses.{same_literal_is}
use Rattle.df_search.proofs.Covering.{covered_unshut}

module _ (nodes : List Node) (clauses : List GroundClause) where
  -- the last literal may follow those before it
  pub last_follows : (set : List Node) (before first : List Lit) (last : Lit) → IsBranchAfter set nodes clauses before (first ++ last ∷ []) → MayFollow set nodes clauses (before ++ first) last
  last_follows set before [] last is = subst (λ (ls : List Lit). MayFollow set nodes clauses ls last) (sym (append-nil before)) is.0
  last_follows set before (l ∷ first) last is = subst (λ (ls : List Lit). MayFollow set nodes clauses ls last) (append_assoc before (l ∷ []) first) (last_follows set (before ++ l ∷ []) first last is.1)

among_first : (first : List Lit) (last l : Lit) → is_among (first ++ last ∷ []) l ≡ true → (is_among first l ≡ true) ⊎ (same_literal l last ≡ true)
among_first [] last l e = inr (by (same_literal l last) e)
  where
    by : (b : Bool) → (b || false) ≡ true → b ≡ true
    by true e = refl
    by false e = e
among_first (m ∷ first) last l e =
    ⊎_elim (λ here. inl (or_left (same_literal l m) (is_among first l) here)) (λ rest. ⊎_elim (λ k. inl (or_right (same_literal l m) (is_among first l) k)) (λ k. inr k) (among_first first last l rest))
    (or_cases (same_literal l m) (is_among (first ++ last ∷ []) l) e)

lacks_shares : (set nodes : List Node) (clauses : List GroundClause) (branch other : List Lit) → Lacks branch other → IsBranch set nodes clauses branch → ShareNothingShut nodes clauses branch other
lacks_shares set nodes clauses branch other lacks is_branch list shared shut =
    let follows = last_follows nodes clauses set [] lacks.first lacks.last (subst (IsBranchAfter set nodes clauses []) lacks.is is_branch) in
    covered_unshut nodes clauses lacks.first follows.learned list follows.unshut (record { has = λ l e. in_first l (shared l e) }) shut
  where
    in_first : (l : Lit) → (is_among branch l ≡ true) × (is_among other l ≡ true) → is_among lacks.first l ≡ true
    in_first l e =
        ⊎_elim (λ here. here) (λ same. absurd (true_is_not_false (is_among other lacks.last) (subst (λ (q : Lit). is_among other q ≡ true) (same_literal_is l lacks.last same) e.1) lacks.lacks))
        (among_first lacks.first lacks.last l (subst (λ (ls : List Lit). is_among ls l ≡ true) lacks.is e.0))

pub first_apart : (branch other : List Lit) → Lacks branch other → AreApart branch other
first_apart branch other lacks set nodes clauses one two = lacks_shares set nodes clauses branch other lacks one

pub second_apart : (branch other : List Lit) → Lacks other branch → AreApart branch other
second_apart branch other lacks set nodes clauses one two = λ list shared shut. lacks_shares set nodes clauses other branch lacks two list (λ l e. let parts = shared l e in (parts.1, parts.0)) shut

-- those that are left are all that is to be looked at
pub record RestApart (branch : List Lit) (rest all : List (Vec Lit Global)) : Type 0 where
  pub so_far : AllApart branch (map (λ (other : Vec Lit Global). other.items) rest) → AllApart branch (map (λ (other : Vec Lit Global). other.items) all)

pub rest_begins : (branch : List Lit) (all : List (Vec Lit Global)) → RestApart branch all all
rest_begins branch all = record { so_far = λ h. h }

pub rest_goes : (branch : List Lit) (i : ℕ) (other : Vec Lit Global) (all : List (Vec Lit Global)) → i < length all → other ≡ get_or all i other → AreApart branch other.items → RestApart branch (drop i all) all → RestApart branch (drop (i + 1) all) all
rest_goes branch i other all less is apart rest = record { so_far = λ h. rest.so_far (next all i less is (subst (λ (k : ℕ). AllApart branch (map (λ (other : Vec Lit Global). other.items) (drop k all))) one_more h)) }
  where
    one_more : i + 1 ≡ suc i
    one_more = omega arith

    next : (all : List (Vec Lit Global)) (i : ℕ) → i < length all → other ≡ get_or all i other → AllApart branch (map (λ (other : Vec Lit Global). other.items) (drop (suc i) all)) → AllApart branch (map (λ (other : Vec Lit Global). other.items) (drop i all))
    next [] i less is h = absurd (omega arith)
    next (first ∷ others) zero less is h = (subst (λ (v : Vec Lit Global). AreApart branch v.items) is apart, h)
    next (first ∷ others) (suc n) less is h = next others n (omega arith) is h

pub rest_ends : (branch : List Lit) (i : ℕ) (all : List (Vec Lit Global)) → length all ≤ i → RestApart branch (drop i all) all → AllApart branch (map (λ (other : Vec Lit Global). other.items) all)
rest_ends branch i all whole rest = rest.so_far (none all i whole)
  where
    none : (all : List (Vec Lit Global)) (i : ℕ) → length all ≤ i → AllApart branch (map (λ (other : Vec Lit Global). other.items) (drop i all))
    none [] zero whole = tt
    none [] (suc n) whole = tt
    none (first ∷ others) zero whole = absurd (omega arith)
    none (first ∷ others) (suc n) whole = none others n (omega arith)

is_false : (b : Bool) → IsTrue (not b) → b ≡ false
is_false true h = absurd cc
is_false false h = refl

front_of : (l : Lit) (others : List Lit) (other : Lit) → (first : List Lit) × (l ∷ others ≡ first ++ get_or (l ∷ others) (length others) other ∷ [])
front_of l [] other = ([], refl)
front_of l (m ∷ others) other = let rest = front_of m others other in (l ∷ rest.0, ap (λ (ls : List Lit). l ∷ ls) rest.1)

pub last_lacks : (branch other : List Lit) (l : Lit) (b : Bool) → 1 ≤ length branch → b ≡ is_among other (get_or branch (length branch - 1) l) → IsTrue (not b) → Lacks branch other
last_lacks [] other l b some is h = absurd (omega arith)
last_lacks (m ∷ others) other l b some is h =
    let found = front_of m others l in
    let one_less : suc (length others) - 1 ≡ length others = omega arith in
    record {
      first = found.0;
      last = get_or (m ∷ others) (length others) l;
      is = found.1;
      lacks = ap (λ (k : ℕ). is_among other (get_or (m ∷ others) k l)) (sym one_less) ∙ sym is ∙ is_false b h;
    }
