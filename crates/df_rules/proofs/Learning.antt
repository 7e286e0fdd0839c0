-- What clauses teach by unit propagation.
use Rattle.std.proofs.Common.{◌≡◌, ℕ, ◌+◌, ◌<◌, Bool, true, false, List, [], ◌∷◌, ◌++◌, length, take, drop, get_or, slice_get, Option, None, Some, refl, sym, ap, ◌∙◌, subst, add-one, ◌||◌, true≢false, map, if◌then◌else◌}
use Rattle.std.specs.Option.{option_and_then, option_map, is_some}
use Rattle.std.proofs.Math.Seq.{take-suc}
use Rattle.std.proofs.lemmas.List.{take-append-drop}
use Rattle.df_form.specs.declared.log.Lit.{Lit}
use Rattle.df_rules.specs.declared.known.Known.{Known}
use Rattle.df_form.specs.Clause.{Clause, same_literal, negation, are_literals}
use Rattle.df_rules.specs.Propagation.{left, only, if_some, propagates, clauses_at, propagation_of, propagation_line}
use Rattle.df_form.specs.Node.{Node}
use Rattle.df_rules.specs.Known.{knows, IsSetOf}
use Rattle.df_rules.specs.Learning.{learned, learned_from, Learns, IsSetOfSome, refutes}

and_then_again : {A B C : Type 0} (f : A → Option B) (g : B → Option C) (r : Option A) → option_and_then (λ a. option_and_then g (f a)) r ≡ option_and_then g (option_and_then f r)
and_then_again f g None = refl
and_then_again f g (Some a) = refl

-- what is learned from clauses in two parts
pub learned-append : (literals : List Lit) (clauses : List Clause) (xs ys : List ℕ) → learned literals clauses (xs ++ ys) ≡ option_and_then (λ more. learned more clauses ys) (learned literals clauses xs)
learned-append literals clauses [] ys = refl
learned-append literals clauses (n ∷ ns) ys =
    ap (λ (f : List Lit → Option (List Lit)). option_and_then f (learned_from literals (slice_get clauses n))) (λ i more. learned-append more clauses ns ys i)
    ∙ and_then_again (λ more. learned more clauses ns) (λ more. learned more clauses ys) (learned_from literals (slice_get clauses n))

-- one more clause
pub learned-more : (literals : List Lit) (clauses : List Clause) (numbers : List ℕ) (i n : ℕ) → i < length numbers → get_or numbers i 0 ≡ n
    → learned literals clauses (take (i + 1) numbers) ≡ option_and_then (λ more. learned_from more (slice_get clauses n)) (learned literals clauses (take i numbers))
learned-more literals clauses numbers i n less at =
    let front : take (i + 1) numbers ≡ take i numbers ++ n ∷ [] = rw (add-one) (take-suc numbers i 0 less ∙ ap (λ x. take i numbers ++ x ∷ []) at) in
    ap (learned literals clauses) front ∙ learned-append literals clauses (take i numbers) (n ∷ []) ∙ last (learned literals clauses (take i numbers))
  where
    alone : (r : Option (List Lit)) → option_and_then (λ more. learned more clauses []) r ≡ r
    alone None = refl
    alone (Some more) = refl

    last : (r : Option (List Lit)) → option_and_then (λ more. learned more clauses (n ∷ [])) r ≡ option_and_then (λ more. learned_from more (slice_get clauses n)) r
    last None = refl
    last (Some more) = alone (learned_from more (slice_get clauses n))

-- where the first clauses teach nothing, all do not
pub learned-none : (literals : List Lit) (clauses : List Clause) (numbers : List ℕ) (i : ℕ) → learned literals clauses (take i numbers) ≡ None → learned literals clauses numbers ≡ None
learned-none literals clauses numbers i e =
    ap (learned literals clauses) (sym (take-append-drop i numbers)) ∙ learned-append literals clauses (take i numbers) (drop i numbers) ∙ ap (option_and_then (λ more. learned more clauses (drop i numbers))) e

-- so far the set has what is learned
pub record LearnsSoFar (begin : Known) (clauses : List Clause) (numbers : List ℕ) (known : Known) : Type 0 where
  pub so_far : (literals : List Lit) → IsSetOf literals begin → Learns literals clauses numbers known true

module _ (begin known : Known) (clauses : List Clause) (numbers : List ℕ) (i n : ℕ) (so_far : LearnsSoFar begin clauses (take i numbers) known) (less : i < length numbers) (at : get_or numbers i 0 ≡ n) where
  abbrev next : Option (List Lit) → Option (List Lit)
  next soFar = option_and_then (λ more. learned_from more (slice_get clauses n)) soFar

  nothing : (literals : List Lit) → next (learned literals clauses (take i numbers)) ≡ None → Learns literals clauses numbers known false
  nothing literals e = subst (λ r. IsSetOfSome r known false) (sym (learned-none literals clauses numbers (i + 1) (learned-more literals clauses numbers i n less at ∙ e))) refl

  -- a clause that isn't there teaches nothing
  pub misses : slice_get clauses n ≡ None → (literals : List Lit) → IsSetOf literals begin → Learns literals clauses numbers known false
  misses none literals is = nothing literals (by (learned literals clauses (take i numbers)))
    where
      by : (r : Option (List Lit)) → next r ≡ None
      by None = refl
      by (Some known_literals) = ap (learned_from known_literals) none

  -- nor one that leaves more or less than one literal
  pub stops : (clause : Clause) → slice_get clauses n ≡ Some clause → ((known_literals : List Lit) → IsSetOf known_literals known → only (left known_literals clause) ≡ None) → (literals : List Lit) → IsSetOf literals begin → Learns literals clauses numbers known false
  stops clause there stuck literals is = nothing literals (by (learned literals clauses (take i numbers)) (so_far.so_far literals is))
    where
      by : (r : Option (List Lit)) → IsSetOfSome r known true → next r ≡ None
      by None h = refl
      by (Some known_literals) h = ap (learned_from known_literals) there ∙ ap (option_map (λ l. l ∷ known_literals)) (stuck known_literals h.1)

  -- the literal that is left is learned
  pub learns : (clause : Clause) (l : Lit) (after : Known) → slice_get clauses n ≡ Some clause → ((known_literals : List Lit) → IsSetOf known_literals known → only (left known_literals clause) ≡ Some l)
      → ((q : Lit) → knows after q ≡ (same_literal q l || knows known q)) → LearnsSoFar begin clauses (take (i + 1) numbers) after
  learns clause l after there one more = record {
    so_far = λ literals is. subst (λ r. IsSetOfSome r after true) (sym (learned-more literals clauses numbers i n less at)) (by (learned literals clauses (take i numbers)) (so_far.so_far literals is));
  }
    where
      by : (r : Option (List Lit)) → IsSetOfSome r known true → IsSetOfSome (next r) after true
      by None h = absurd (true≢false h)
      by (Some known_literals) h =
          let e : learned_from known_literals (slice_get clauses n) ≡ Some (l ∷ known_literals) = ap (learned_from known_literals) there ∙ ap (option_map (λ x. x ∷ known_literals)) (one known_literals h.1) in
          subst (λ r. IsSetOfSome r after true) (sym e) (refl, λ q. more q ∙ ap (λ b. same_literal q l || b) (h.1 q))

-- what propagation through the named clauses says, if they are all there
abbrev pub found : List Lit → Option (List Clause) → Bool
found known None = false
found known (Some named) = propagates known named

abbrev pub ends : Option (List Lit) → Option Clause → Bool
ends None last = false
ends (Some known) last = refutes known last

abbrev IsThere : Option (List Clause) → Type 0
IsThere None = Unit {0}
IsThere (Some []) = ⊥
IsThere (Some (clause ∷ others)) = Unit {0}

is_there : (clauses : List Clause) (xs : List ℕ) (n : ℕ) → IsThere (clauses_at clauses (xs ++ n ∷ []))
is_there clauses [] n = by (slice_get clauses n)
  where
    by : (r : Option Clause) → IsThere (option_and_then (λ clause. option_map (λ rest. clause ∷ rest) (Some [])) r)
    by None = tt
    by (Some clause) = tt
is_there clauses (x ∷ xs) n = by (slice_get clauses x) (clauses_at clauses (xs ++ n ∷ []))
  where
    by : (r : Option Clause) (rest : Option (List Clause)) → IsThere (option_and_then (λ clause. option_map (λ more. clause ∷ more) rest) r)
    by None rest = tt
    by (Some clause) None = tt
    by (Some clause) (Some more) = tt

first_found : (known : List Lit) (clauses : List Clause) (n : ℕ) (r : Option Clause) → found known (option_and_then (λ clause. option_map (λ rest. clause ∷ rest) (Some [])) r) ≡ refutes known r
first_found known clauses n None = refl
first_found known clauses n (Some clause) = refl

one_more : (known : List Lit) (clauses : List Clause) (xs : List ℕ) (last : Option Clause) (r : Option Clause) (rest : Option (List Clause)) → IsThere rest
    → ((more : List Lit) → found more rest ≡ ends (learned more clauses xs) last)
    → found known (option_and_then (λ clause. option_map (λ more. clause ∷ more) rest) r) ≡ ends (option_and_then (λ more. learned more clauses xs) (learned_from known r)) last
one_more known clauses xs last None rest there step = refl
one_more known clauses xs last (Some clause) None there step = by (only (left known clause))
  where
    by : (o : Option Lit) → false ≡ ends (option_and_then (λ more. learned more clauses xs) (option_map (λ l. l ∷ known) o)) last
    by None = refl
    by (Some l) = step (l ∷ known)
one_more known clauses xs last (Some clause) (Some []) there step = absurd there
one_more known clauses xs last (Some clause) (Some (next ∷ others)) there step = by (only (left known clause))
  where
    by : (o : Option Lit) → if_some o (λ l. propagates (l ∷ known) (next ∷ others)) ≡ ends (option_and_then (λ more. learned more clauses xs) (option_map (λ l. l ∷ known) o)) last
    by None = refl
    by (Some l) = step (l ∷ known)

-- propagation learns from all clauses but the last, which it refutes
pub found_by_learning : (known : List Lit) (clauses : List Clause) (xs : List ℕ) (n : ℕ) → found known (clauses_at clauses (xs ++ n ∷ [])) ≡ ends (learned known clauses xs) (slice_get clauses n)
found_by_learning known clauses [] n = first_found known clauses n (slice_get clauses n)
found_by_learning known clauses (x ∷ xs) n =
    one_more known clauses xs (slice_get clauses n) (slice_get clauses x) (clauses_at clauses (xs ++ n ∷ [])) (is_there clauses xs n) (λ more. found_by_learning more clauses xs n)

pub line_found : (conclusion : Clause) (named : Option (List Clause)) → is_some (option_and_then (propagation_of conclusion) named) ≡ found (map negation conclusion) named
line_found conclusion None = refl
line_found conclusion (Some named) = by (propagates (map negation conclusion) named)
  where
    by : (b : Bool) → is_some (if b then Some conclusion else None) ≡ b
    by true = refl
    by false = refl

-- the whole line
line_ends : (nodes : List Node) (clauses : List Clause) (numbers : List ℕ) (conclusion : Clause) (others : List ℕ) (last : ℕ) → are_literals nodes conclusion ≡ true → numbers ≡ others ++ last ∷ []
    → is_some (propagation_line nodes clauses numbers conclusion) ≡ ends (learned (map negation conclusion) clauses others) (slice_get clauses last)
line_ends nodes clauses numbers conclusion others last formulas split =
    ap (λ (b : Bool). is_some (if b then option_and_then (propagation_of conclusion) (clauses_at clauses numbers) else None)) formulas
    ∙ line_found conclusion (clauses_at clauses numbers)
    ∙ ap (λ (ns : List ℕ). found (map negation conclusion) (clauses_at clauses ns)) split
    ∙ found_by_learning (map negation conclusion) clauses others last

pub propagation_is : (nodes : List Node) (clauses : List Clause) (numbers : List ℕ) (conclusion : Clause) (others : List ℕ) (last : ℕ) (known : Known) (refuted : Bool)
    → are_literals nodes conclusion ≡ true → numbers ≡ others ++ last ∷ [] → Learns (map negation conclusion) clauses others known true
    → ((literals : List Lit) → IsSetOf literals known → refuted ≡ refutes literals (slice_get clauses last))
    → refuted ≡ is_some (propagation_line nodes clauses numbers conclusion)
propagation_is nodes clauses numbers conclusion others last known refuted formulas split learns refutes_it =
    by (learned (map negation conclusion) clauses others) learns ∙ sym (line_ends nodes clauses numbers conclusion others last formulas split)
  where
    by : (r : Option (List Lit)) → IsSetOfSome r known true → refuted ≡ ends r (slice_get clauses last)
    by None h = absurd (true≢false h)
    by (Some literals) h = refutes_it literals h.1

pub propagation_is_not : (nodes : List Node) (clauses : List Clause) (numbers : List ℕ) (conclusion : Clause) (others : List ℕ) (last : ℕ) (known : Known)
    → are_literals nodes conclusion ≡ true → numbers ≡ others ++ last ∷ [] → Learns (map negation conclusion) clauses others known false
    → false ≡ is_some (propagation_line nodes clauses numbers conclusion)
propagation_is_not nodes clauses numbers conclusion others last known formulas split learns =
    by (learned (map negation conclusion) clauses others) learns ∙ sym (line_ends nodes clauses numbers conclusion others last formulas split)
  where
    by : (r : Option (List Lit)) → IsSetOfSome r known false → false ≡ ends r (slice_get clauses last)
    by None h = refl
    by (Some literals) h = absurd (true≢false (sym h.0))
