-- Ways that arrive have the terms that are to be joined.
use Rattle.df_nflow.proofs.Words.{assume_there, ◌≡◌, ℕ, zero, suc, ◌+◌, ◌<◌, List, [], ◌∷◌, map, drop, get_or, length, refl, sym, ap, ◌∙◌, arith, subst, length-map, slice_get-get_or, Ty, Node, Changed, Sort, sort_of_type, Environment, Grows, IsTerm, sort_of_term, tree_at, path_in, path_same, tree_stays, drop_next, Way, Arrival, arrival, IsSortedWay, AreSortedWays, Arrive, Ended, AreEnded, term_at, IsThere, AreThere, AllThere, IsArrived, AreArrived, arrival_in, arrivals_in, DeclaredArrived, below_at, path_is}
use Rattle.df_nflow.proofs.Changes.{rest_behind, term_there}
use Rattle.df_nflow.proofs.Terms.{tree_of}

-- a place with something behind it is within
pub place_within : {A : Type 0} (xs : List A) (n : ℕ) (x : A) (others : List A) → drop n xs ≡ x ∷ others → n < length xs
place_within [] zero x others e = absurd cc
place_within [] (suc n) x others e = absurd cc
place_within (y ∷ ys) zero x others e = omega arith
place_within (y ∷ ys) (suc n) x others e = let less = place_within ys n x others e in omega (arith, less)

sorted_there : (changed : List Changed) (way : Way) (place : ℕ) (c : Changed) (others : List Changed) → drop place changed ≡ c ∷ others → IsSortedWay changed way → sort_of_term (way.env c.local) ≡ sort_of_type c.ty
sorted_there [] way zero c others e all = absurd cc
sorted_there [] way (suc n) c others e all = absurd cc
sorted_there (x ∷ xs) way zero c others e all = subst (λ (k : Changed). sort_of_term (way.env k.local) ≡ sort_of_type k.ty) (let f : x ≡ c = cc in f) all.0
sorted_there (x ∷ xs) way (suc n) c others e all = sorted_there xs way n c others e all.1

module _ (whole : List Changed) where
  one_there : (place : ℕ) (c : Changed) (others : List Changed) → drop place whole ≡ c ∷ others → (way : Way) → IsSortedWay whole way → IsThere place (sort_of_type c.ty) (arrival whole way)
  one_there place c others e way sorted = record {
    within = let less = place_within whole place c others e in let long = length-map whole (λ (c : Changed). way.env c.local) in omega (arith, less, long);
    sort_is = ap sort_of_term (term_there whole place c others e way) ∙ sorted_there whole way place c others e sorted;
  }

  ways_there : (place : ℕ) (c : Changed) (others : List Changed) → drop place whole ≡ c ∷ others → (ways : List Way) → AreSortedWays whole ways → AreThere place (sort_of_type c.ty) (map (arrival whole) ways)
  ways_there place c others e [] sorted = tt
  ways_there place c others e (way ∷ ways) sorted = (one_there place c others e way sorted.0, ways_there place c others e ways sorted.1)

  all_from : (ways : List Way) → AreSortedWays whole ways → (place : ℕ) (left : List Changed) → drop place whole ≡ left → AllThere place left (map (arrival whole) ways)
  all_from ways sorted place [] e = tt
  all_from ways sorted place (c ∷ others) e = (ways_there place c others e ways sorted, all_from ways sorted (suc place) others (rest_behind whole place c others e))

  pub all_there : (arrivals : List Arrival) (ways : List Way) → Arrive whole arrivals ways → AllThere 0 whole arrivals
  all_there arrivals ways arrive = subst (λ (as_arrived : List Arrival). AllThere 0 whole as_arrived) (sym arrive.are) (all_from ways arrive.sorted 0 whole refl)

  -- ways at the ends of branches arrive
  pub ended_arrive : (env : Environment) (ended : List Ended) (ways : List Way) → AreEnded whole env ended ways → Arrive whole (map (λ (e : Ended). e.arrival) ended) ways
  ended_arrive env [] [] are = record { are = refl; sorted = tt }
  ended_arrive env [] (way ∷ ways) are = absurd are
  ended_arrive env (e ∷ ended) [] are = absurd are
  ended_arrive env (e ∷ ended) (way ∷ ways) are =
      let rest = ended_arrive env ended ways are.1 in
      record {
        are = ap (λ (a : Arrival). a ∷ map (λ (x : Ended). x.arrival) ended) are.0.is ∙ ap (λ (as_arrived : List Arrival). arrival whole way ∷ as_arrived) rest.are;
        sorted = (are.0.sorted, rest.sorted);
      }

-- ---- the numbers of the terms that are joined

module _ (nodes : List Node) (types : List Ty) (way : DeclaredArrived) (place : ℕ) (sort : Sort) (there : IsThere place sort (arrival_in nodes way)) where
  pub joined_within : place < length way.terms.items
  joined_within = let less = there.within in let long = length-map way.terms.items (tree_at nodes) in omega (arith, less, long)

  pub tree_joined : (d : ℕ) → tree_at nodes (get_or way.terms.items place d) ≡ term_at (arrival_in nodes way) place
  tree_joined d = tree_of nodes way.terms.items place d joined_within

  pub term_joined : (d : ℕ) → IsArrived nodes types way → IsTerm sort nodes (get_or way.terms.items place d)
  term_joined d is = record {
    below = below_at (length nodes) way.terms.items place (get_or way.terms.items place d) is.below (slice_get-get_or way.terms.items place d joined_within);
    sort_is = ap sort_of_term (tree_joined d) ∙ there.sort_is;
  }

-- the first of the ways that are left, and the others
pub joined_next : (nodes : List Node) (types : List Ty) (place : ℕ) (sort : Sort) (ways : List DeclaredArrived) (i : ℕ) (way : DeclaredArrived) → way ≡ get_or ways i way → i < length ways → AreArrived nodes types (drop i ways) → AreThere place sort (arrivals_in nodes (drop i ways))
    → IsArrived nodes types way × IsThere place sort (arrival_in nodes way) × AreArrived nodes types (drop (i + 1) ways) × AreThere place sort (arrivals_in nodes (drop (i + 1) ways))
joined_next nodes types place sort ways i way e lt are there =
    let is = drop_next ways i way e lt in
    let are = subst (AreArrived nodes types) is are in
    let there = subst (λ (left : List DeclaredArrived). AreThere place sort (arrivals_in nodes left)) is there in
    (are.0, there.0, are.1, there.1)

-- what is said of one way, in a table that has grown
pub said_joined : (old here : List Node) (types : List Ty) (way : DeclaredArrived) (ty : Ty) (place a m : ℕ) → Grows old here → IsArrived old types way → IsThere place (sort_of_type ty) (arrival_in old way) → IsTerm (sort_of_type ty) old a
    → m ≡ get_or way.terms.items place m
    → assume_there ty (tree_at here a) (path_in here way.path) (tree_at here m) ≡ assume_there ty (tree_at old a) (path_in old way.path) (term_at (arrival_in old way) place)
said_joined old here types way ty place a m g arrived there is e =
    let sort = sort_of_type ty in
    let path = path_same old here way.path g (path_is old way.path arrived.path) in
    let first = tree_stays sort old here a g is in
    let second = tree_stays sort old here m g (subst (IsTerm sort old) (sym e) (term_joined old types way place sort there m arrived)) ∙ ap (tree_at old) e ∙ tree_joined old types way place sort there m in
    λ i. assume_there ty (first i) (path i) (second i)
