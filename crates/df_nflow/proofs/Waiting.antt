-- Tables that grow keep the terms that locals had, and the ways that wait.
use Rattle.df_nflow.proofs.Words.{◌≡◌, ℕ, List, [], ◌∷◌, refl, ap, ◌∙◌, Ty, Node, Term, Grows, sort_of_term, grown_below, path_same, all_same, all_below, grown_tree, Kept, Arrival, kept_in, all_kept_in, IsKept, AreKept, arrival_in, arrivals_in, IsArrived, AreArrived, IsPassed, DeclaredKept, DeclaredArrived, path_is, has_path_stays, measured_stay, DeclaredMeasured}
use Rattle.df_nflow.proofs.Terms.{terms_stay}

module _ (before now : List Node) (grows : Grows before now) where
  module _ (types : List Ty) where
    pub kept_stays : (local term : ℕ) → IsKept before types local term → IsKept now types local term
    kept_stays local term is = record { within = is.within; below = grown_below before now grows term is.below; sorted = λ ty e. ap sort_of_term (grown_tree before now grows term is.below) ∙ is.sorted ty e }

    pub all_kept_stay : (all : List DeclaredKept) → AreKept before types all → AreKept now types all
    all_kept_stay [] are = tt
    all_kept_stay (k ∷ others) are = (kept_stays k.local k.term are.0, all_kept_stay others are.1)

    pub all_kept_same : (all : List DeclaredKept) → AreKept before types all → all_kept_in now all ≡ all_kept_in before all
    all_kept_same [] are = refl
    all_kept_same (k ∷ others) are =
        ap (λ (t : Term). record { local = k.local; term = t } ∷ all_kept_in now others) (grown_tree before now grows k.term are.0.below)
        ∙ ap (λ (ks : List Kept). kept_in before k ∷ ks) (all_kept_same others are.1)

    pub arrived_stays : (a : DeclaredArrived) → IsArrived before types a → IsArrived now types a
    arrived_stays a is = record { path = has_path_stays before now a.path grows is.path; below = all_below before now a.terms.items grows is.below; ahead = all_kept_stay a.ahead.items is.ahead }

    pub all_arrived_stay : (all : List DeclaredArrived) → AreArrived before types all → AreArrived now types all
    all_arrived_stay [] are = tt
    all_arrived_stay (a ∷ others) are = (arrived_stays a are.0, all_arrived_stay others are.1)

    pub arrival_same : (a : DeclaredArrived) → IsArrived before types a → arrival_in now a ≡ arrival_in before a
    arrival_same a is =
        let path = path_same before now a.path grows (path_is before a.path is.path) in
        let terms = all_same before now a.terms.items grows is.below in
        λ i. record { path = path i; terms = terms i }

    pub arrivals_same : (all : List DeclaredArrived) → AreArrived before types all → arrivals_in now all ≡ arrivals_in before all
    arrivals_same [] are = refl
    arrivals_same (a ∷ others) are = ap (λ (x : Arrival). x ∷ arrivals_in now others) (arrival_same a are.0) ∙ ap (λ (xs : List Arrival). arrival_in before a ∷ xs) (arrivals_same others are.1)

  pub passed_stays : (types : List Ty) (terms : List ℕ) (entry : List DeclaredMeasured) (trail : List DeclaredKept) (breaks returns : List DeclaredArrived)
      → IsPassed before types terms entry trail breaks returns → IsPassed now types terms entry trail breaks returns
  passed_stays types terms entry trail breaks returns is = record {
    have_terms = terms_stay before now types terms grows is.have_terms;
    are_measured = measured_stay before now grows entry is.are_measured;
    are_kept = all_kept_stay types trail is.are_kept;
    are_breaks = all_arrived_stay types breaks is.are_breaks;
    are_returns = all_arrived_stay types returns is.are_returns;
  }
