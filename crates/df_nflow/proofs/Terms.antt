-- The terms of locals, over tables of nodes.
use Rattle.df_nflow.proofs.Words.{◌≡◌, ◌⊎◌, inl, inr, ℕ, zero, suc, ◌<◌, List, [], ◌∷◌, ◌++◌, map, length, get_or, set, slice_get, Some, refl, sym, ap, ◌∙◌, arith, AllByRecursion, eq-eqb, ne_eqb, length-set, same_Some, slice_get-get_or, Ty, Node, is_or_not, Term, sort_of_type, Environment, sort_of_term, tree_at, trees_in, Grows, HasTerm, AreLocals, all_below, grown_tree, over, with_term, saying, Standing, over_terms, Moves, HaveTerms, IsKept, Kept, below_at}
use Rattle.std.proofs.lemmas.List.{append-nil}
use Rattle.df_nflow.proofs.Backing.{with_again}

got : (terms : List ℕ) (local n place m : ℕ) → slice_get (set terms local n) place ≡ Some m → ((place ≡ local) × (n ≡ m)) ⊎ (slice_get terms place ≡ Some m)
got [] local n place m e = inr e
got (t ∷ ts) zero n zero m e = inl (refl, same_Some n m e)
got (t ∷ ts) zero n (suc p) m e = inr e
got (t ∷ ts) (suc l) n zero m e = inr e
got (t ∷ ts) (suc l) n (suc p) m e = up (got ts l n p m e)
  where
    up : ((p ≡ l) × (n ≡ m)) ⊎ (slice_get ts p ≡ Some m) → ((suc p ≡ suc l) × (n ≡ m)) ⊎ (slice_get ts p ≡ Some m)
    up (inl h) = inl (ap suc h.0, h.1)
    up (inr h) = inr h

pub below_set : (k : ℕ) (terms : List ℕ) (local n : ℕ) → AllByRecursion (λ m. m < k) terms → n < k → AllByRecursion (λ m. m < k) (set terms local n)
below_set k [] local n all lt = tt
below_set k (t ∷ ts) zero n all lt = (lt, all.1)
below_set k (t ∷ ts) (suc l) n all lt = (all.0, below_set k ts l n all.1 lt)

module _ (nodes : List Node) where
  pub terms_set : (types : List Ty) (terms : List ℕ) (local n : ℕ) → HaveTerms nodes types terms → n < length nodes → ((ty : Ty) → slice_get types local ≡ Some ty → sort_of_term (tree_at nodes n) ≡ sort_of_type ty) → HaveTerms nodes types (set terms local n)
  terms_set types terms local n h lt sorted = record {
    many = length-set terms local n ∙ h.many;
    below = below_set (length nodes) terms local n h.below lt;
    sorted = λ place m ty e f. by place m ty e (got terms local n place m f);
  }
    where
      by : (place m : ℕ) (ty : Ty) → slice_get types place ≡ Some ty → ((place ≡ local) × (n ≡ m)) ⊎ (slice_get terms place ≡ Some m) → sort_of_term (tree_at nodes m) ≡ sort_of_type ty
      by place m ty e (inl g) = ap (λ (k : ℕ). sort_of_term (tree_at nodes k)) (sym g.1) ∙ sorted ty (ap (slice_get types) (sym g.0) ∙ e)
      by place m ty e (inr g) = h.sorted place m ty e g

  here : (terms : List ℕ) (local n : ℕ) (z : Term) → local < length terms → get_or (map (tree_at nodes) (set terms local n)) local z ≡ tree_at nodes n
  here [] local n z lt = absurd (omega arith)
  here (t ∷ ts) zero n z lt = refl
  here (t ∷ ts) (suc l) n z lt = here ts l n z (omega arith)

  other : (terms : List ℕ) (local n place : ℕ) (z : Term) → (place ≡ local → ⊥) → get_or (map (tree_at nodes) (set terms local n)) place z ≡ get_or (map (tree_at nodes) terms) place z
  other [] local n place z h = refl
  other (t ∷ ts) zero n zero z h = absurd (h refl)
  other (t ∷ ts) zero n (suc p) z h = refl
  other (t ∷ ts) (suc l) n zero z h = refl
  other (t ∷ ts) (suc l) n (suc p) z h = other ts l n p z (λ e. h (ap suc e))

  at_place : (terms : List ℕ) (local n place : ℕ) → local < length terms → (place ≡ local) ⊎ (place ≡ local → ⊥) → trees_in nodes (set terms local n) place ≡ with_term (trees_in nodes terms) local (tree_at nodes n) place
  at_place terms local n place lt (inl e) = rw (eq-eqb place local e) (ap (trees_in nodes (set terms local n)) e ∙ here terms local n _ lt)
  at_place terms local n place lt (inr h) = rw (ne_eqb place local h) (other terms local n place _ h)

  -- the other locals have the terms that they had
  pub trees_set : (terms : List ℕ) (local n : ℕ) → local < length terms → trees_in nodes (set terms local n) ≡ with_term (trees_in nodes terms) local (tree_at nodes n)
  trees_set terms local n lt = λ i place. at_place terms local n place lt (is_or_not place local) i

  pub tree_of : (terms : List ℕ) (local d : ℕ) → local < length terms → tree_at nodes (get_or terms local d) ≡ trees_in nodes terms local
  tree_of [] local d lt = absurd (omega arith)
  tree_of (t ∷ ts) zero d lt = refl
  tree_of (t ∷ ts) (suc l) d lt = tree_of ts l d (omega arith)

pub kept_at : (nodes : List Node) (types : List Ty) (terms : List ℕ) (local d : ℕ) → HaveTerms nodes types terms → local < length types → IsKept nodes types local (get_or terms local d)
kept_at nodes types terms local d h lt =
    let within : local < length terms = omega (arith, h.many) in
    let there = slice_get-get_or terms local d within in
    record {
      within = lt;
      below = below_at (length nodes) terms local (get_or terms local d) h.below there;
      sorted = λ ty e. h.sorted local (get_or terms local d) ty e there;
    }

-- what is given moves the way
pub gives : (s : Standing) (local : ℕ) (a : Term) (env : Environment) (trail : List Kept) → env ≡ with_term s.way.env local a → trail ≡ s.trail ++ record { local = local; term = s.way.env local } ∷ []
    → Moves s (saying [] s.fresh (over (with_term s.way.env local a) s.way)) (over_terms env trail s)
gives s local a env trail e t = record {
  types = refl;
  entry = refl;
  said = sym (append-nil s.said);
  fresh = refl;
  way = (λ i. Some (over (sym e i) s.way));
  loses = refl;
  kept = record { local = local; term = s.way.env local } ∷ [];
  trail = t;
  back = ap (λ (f : Environment). with_term f local (s.way.env local)) e ∙ with_again s.way.env local a;
  breaks = sym (append-nil s.breaks);
  returns = sym (append-nil s.returns);
  sorted_breaks = tt;
  sorted_returns = tt;
}

pub terms_stay : (before now : List Node) (types : List Ty) (terms : List ℕ) → Grows before now → HaveTerms before types terms → HaveTerms now types terms
terms_stay before now types terms g h = record {
  many = h.many;
  below = all_below before now terms g h.below;
  sorted = λ local n ty e f. ap sort_of_term (grown_tree before now g n (below_at (length before) terms local n h.below f)) ∙ h.sorted local n ty e f;
}

there_is : (types : List Ty) (terms : List ℕ) (local : ℕ) (ty : Ty) → length terms ≡ length types → slice_get types local ≡ Some ty → (n : ℕ) × (slice_get terms local ≡ Some n)
there_is [] terms local ty many e = absurd cc
there_is (t ∷ types) [] local ty many e = absurd (omega arith)
there_is (t ∷ types) (n ∷ terms) zero ty many e = (n, refl)
there_is (t ∷ types) (n ∷ terms) (suc k) ty many e = there_is types terms k ty (omega arith) e

pub locals_are : (nodes : List Node) (types : List Ty) (terms : List ℕ) → HaveTerms nodes types terms → AreLocals nodes types terms
locals_are nodes types terms h = record {
  below = h.below;
  sorted = λ local ty e. found local ty e (there_is types terms local ty h.many e);
}
  where
    found : (local : ℕ) (ty : Ty) → slice_get types local ≡ Some ty → (n : ℕ) × (slice_get terms local ≡ Some n) → HasTerm (sort_of_type ty) nodes terms local
    found local ty e there = record { number = there.0; at = there.1; is_term = record { below = below_at (length nodes) terms local there.0 h.below there.1; sort_is = h.sorted local there.0 ty e there.1 } }

-- the locals have terms, and are as many
pub have_terms : (nodes : List Node) (types : List Ty) (terms : List ℕ) → length terms ≡ length types → AreLocals nodes types terms → HaveTerms nodes types terms
have_terms nodes types terms many h = record {
  many = many;
  below = h.below;
  sorted = λ local n ty e f. let t = h.sorted local ty e in ap (λ (m : ℕ). sort_of_term (tree_at nodes m)) (same_Some n t.number (sym f ∙ t.at)) ∙ t.is_term.sort_is;
}
