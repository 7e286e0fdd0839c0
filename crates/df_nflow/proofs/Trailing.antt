-- Trails, and what stands at the end of a list.
use Rattle.df_nflow.proofs.Words.{◌≡◌, ℕ, ◌+◌, ◌-◌, ◌<◌, ◌≤◌, List, [], ◌∷◌, ◌++◌, length, take, drop, set, refl, sym, ap, ◌∙◌, subst, arith, take_at, drop_at, drop-drop, drop-take, length-append, length-map, map-append, take-append-drop, take-take, all_there, all_joined, Ty, Node, Term, Environment, tree_at, trees_in, Way, over, with_term, saying, Standing, over_terms, Moves, AreKept, IsKept, kept_in, all_kept_in, Kept, back, DeclaredKept}
use Rattle.df_nflow.proofs.Backing.{back_append, with_again}
use Rattle.df_nflow.proofs.Flowing.{moves_on}
use Rattle.df_nflow.proofs.Terms.{trees_set}

-- what has been put behind a list
pub taken : {A : Type 0} (n : ℕ) (before after more : List A) → n ≡ length before → after ≡ before ++ more → take n after ≡ before
taken n before after more e f = ap (λ k. take k after) e ∙ ap (take (length before)) f ∙ take_at before more (length before) refl

pub dropped : {A : Type 0} (n : ℕ) (before after more : List A) → n ≡ length before → after ≡ before ++ more → drop n after ≡ more
dropped n before after more e f = ap (λ k. drop k after) e ∙ ap (drop (length before)) f ∙ drop_at before more (length before) refl

-- ---- one step back

module _ (nodes : List Node) (terms : List ℕ) (before : List DeclaredKept) (k : DeclaredKept) (trail : List DeclaredKept) (e : trail ≡ before ++ k ∷ []) where
  pub last_kept : (types : List Ty) → AreKept nodes types trail → IsKept nodes types k.local k.term
  last_kept types are = all_there (λ (x : DeclaredKept). IsKept nodes types x.local x.term) before [] k (subst (AreKept nodes types) e are)

  pub stepped : (s : Standing) → s.trail ≡ all_kept_in nodes trail → s.way.env ≡ trees_in nodes terms → k.local < length terms
      → over_terms (trees_in nodes (set terms k.local k.term)) (all_kept_in nodes before) s ≡ over_terms (back (drop (length trail - 1) s.trail) s.way.env) (take (length trail - 1) s.trail) s
  stepped s is same lt =
      let n = length trail - 1 in
      let long : n ≡ length (all_kept_in nodes before) = omega (arith, ap (λ (ks : List DeclaredKept). length ks) e, length-append before (k ∷ []), length-map before (kept_in nodes)) in
      let kept : s.trail ≡ all_kept_in nodes before ++ kept_in nodes k ∷ [] = is ∙ ap (all_kept_in nodes) e ∙ map-append (kept_in nodes) before (k ∷ []) in
      let env = trees_set nodes terms k.local k.term lt ∙ ap (λ (d : Environment). with_term d k.local (tree_at nodes k.term)) (sym same) ∙ ap (λ (ks : List Kept). back ks s.way.env) (sym (dropped n (all_kept_in nodes before) s.trail (kept_in nodes k ∷ []) long kept)) in
      let rest = sym (taken n (all_kept_in nodes before) s.trail (kept_in nodes k ∷ []) long kept) in
      λ i. over_terms (env i) (rest i) s

-- what leads back to the step has one more
module _ (nodes : List Node) (ahead more : List DeclaredKept) (one : DeclaredKept) (e : more ≡ ahead ++ one ∷ []) where
  pub ahead_back : (terms : List ℕ) (n : ℕ) → one.local < length terms → tree_at nodes one.term ≡ trees_in nodes terms one.local
      → back (all_kept_in nodes more) (trees_in nodes (set terms one.local n)) ≡ back (all_kept_in nodes ahead) (trees_in nodes terms)
  ahead_back terms n lt tree =
      let all : all_kept_in nodes more ≡ all_kept_in nodes ahead ++ kept_in nodes one ∷ [] = ap (all_kept_in nodes) e ∙ map-append (kept_in nodes) ahead (one ∷ []) in
      let env = trees_set nodes terms one.local n lt in
      (λ i. back (all i) (env i)) ∙ back_append (all_kept_in nodes ahead) (kept_in nodes one ∷ []) _
      ∙ ap (λ (t : Term). back (all_kept_in nodes ahead) (with_term (with_term (trees_in nodes terms) one.local (tree_at nodes n)) one.local t)) tree
      ∙ ap (back (all_kept_in nodes ahead)) (with_again (trees_in nodes terms) one.local (tree_at nodes n))

  pub ahead_kept : (types : List Ty) → AreKept nodes types ahead → IsKept nodes types one.local one.term → AreKept nodes types more
  ahead_kept types are is = subst (AreKept nodes types) (sym e) (all_joined (λ (x : DeclaredKept). IsKept nodes types x.local x.term) ahead (one ∷ []) are (is, tt))

-- ---- several steps back

abbrev back_to : ℕ → Standing → Standing
back_to mark s = over_terms (back (drop mark s.trail) s.way.env) (take mark s.trail) s

dropped_both : {A : Type 0} (mark n : ℕ) (xs : List A) → mark ≤ n → drop mark (take n xs) ++ drop n xs ≡ drop mark xs
dropped_both mark n xs lt =
    let e : n ≡ mark + (n - mark) = omega arith in
    (λ i. drop mark (take (e i) xs) ++ drop (e i) xs) ∙ (λ i. drop-take mark (n - mark) xs i ++ sym (drop-drop (n - mark) mark xs) i) ∙ take-append-drop (n - mark) (drop mark xs)

pub rewound : (mark n : ℕ) (s next whole : Standing) → mark ≤ n → next ≡ over_terms (back (drop n s.trail) s.way.env) (take n s.trail) s
    → over_terms (back (drop mark s.trail) s.way.env) (take mark s.trail) s ≡ whole → over_terms (back (drop mark next.trail) next.way.env) (take mark next.trail) next ≡ whole
rewound mark n s next whole lt step so =
    let env : back (drop mark (take n s.trail)) (back (drop n s.trail) s.way.env) ≡ back (drop mark s.trail) s.way.env =
    sym (back_append (drop mark (take n s.trail)) (drop n s.trail) s.way.env) ∙ ap (λ (ks : List Kept). back ks s.way.env) (dropped_both mark n s.trail lt) in
    let rest : take mark (take n s.trail) ≡ take mark s.trail = take-take mark n s.trail lt in
    ap (back_to mark) step ∙ (λ i. over_terms (env i) (rest i) s) ∙ so

-- ---- one step forth

pub replayed : (a b d : Standing) (kept : Kept) (rest all : List Kept) → all ≡ kept ∷ rest → Moves a (saying [] a.fresh (over (back rest a.way.env) a.way)) b
    → Moves b (saying [] b.fresh (over (with_term b.way.env kept.local kept.term) b.way)) d → Moves a (saying [] a.fresh (over (back all a.way.env) a.way)) d
replayed a b d kept rest all e p q =
    subst (λ (ks : List Kept). Moves a (saying [] a.fresh (over (back ks a.way.env) a.way)) d) (sym e)
    (moves_on a b d (saying [] a.fresh (over (back rest a.way.env) a.way)) (λ (fresh : ℕ) (way : Way). saying [] fresh (over (with_term way.env kept.local kept.term) way)) p q)
