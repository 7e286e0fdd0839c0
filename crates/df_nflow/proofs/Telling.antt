-- Terms of ways are told apart by the numbers of their nodes.
use Rattle.df_nflow.proofs.Words.{◌≡◌, ℕ, ◌<◌, ◌==◌, Bool, true, false, ◌&&◌, List, [], ◌∷◌, length, get_or, slice_get, Option, refl, sym, ap, ◌∙◌, subst, arith, list_all, option_map_or, slice_get-get_or, slice_get_within, Ty, Node, Sort, Term, sort_of_type, same_term, tree_at, trees_in, AreThere, are_same_at, term_at, is_at, HaveTerms, AreArrived, arrival_in, arrivals_in, DeclaredArrived}
use Rattle.df_form.specs.Sorting.{IsTable}
use Rattle.df_nledger.proofs.Telling.{same_tree}
use Rattle.df_nflow.proofs.Arriving.{joined_within, tree_joined, term_joined}
use Rattle.df_nflow.proofs.Changes.{type_at}
use Rattle.df_nflow.proofs.Terms.{tree_of, kept_at}

-- a local has its term on each way, by the numbers as by the trees
pub same_joined : (nodes : List Node) (types : List Ty) (a place : ℕ) (sort : Sort) (ways : List DeclaredArrived) → IsTable nodes → a < length nodes → AreArrived nodes types ways → AreThere place sort (arrivals_in nodes ways)
    → list_all (λ (way : DeclaredArrived). option_map_or (λ n. n == a) (slice_get way.terms.items place) false) ways ≡ are_same_at (tree_at nodes a) place (arrivals_in nodes ways)
same_joined nodes types a place sort [] table at are there = refl
same_joined nodes types a place sort (way ∷ ways) table at are there =
    let m = get_or way.terms.items place 0 in
    let rest = list_all (λ (w : DeclaredArrived). option_map_or (λ n. n == a) (slice_get w.terms.items place) false) ways in
    ap (λ (o : Option ℕ). option_map_or (λ n. n == a) o false && rest) (slice_get-get_or way.terms.items place 0 (joined_within nodes types way place sort there.0))
    ∙ ap (λ (b : Bool). b && rest) (same_tree nodes a m table at (term_joined nodes types way place sort there.0 0 are.0).below ∙ ap (same_term (tree_at nodes a)) (tree_joined nodes types way place sort there.0 0))
    ∙ ap (λ (b : Bool). same_term (tree_at nodes a) (term_at (arrival_in nodes way) place) && b) (same_joined nodes types a place sort ways table at are.1 there.1)

-- by the number of the local's term
pub same_here : (nodes : List Node) (types : List Ty) (terms : List ℕ) (place local : ℕ) (ty : Ty) (a : ℕ) (ways : List DeclaredArrived) → IsTable nodes → HaveTerms nodes types terms → is_at types local ty ≡ true → AreArrived nodes types ways
    → AreThere place (sort_of_type ty) (arrivals_in nodes ways) → a ≡ get_or terms local a
    → are_same_at (trees_in nodes terms local) place (arrivals_in nodes ways) ≡ list_all (λ (way : DeclaredArrived). option_map_or (λ n. n == a) (slice_get way.terms.items place) false) ways
same_here nodes types terms place local ty a ways table have at are there e =
    let typed : local < length types = slice_get_within types local ty (type_at types local ty at) in
    let within : local < length terms = omega (arith, typed, have.many) in
    let kept = kept_at nodes types terms local a have typed in
    let below : a < length nodes = subst (λ (n : ℕ). n < length nodes) (sym e) kept.below in
    ap (λ (t : Term). are_same_at t place (arrivals_in nodes ways)) (sym (ap (tree_at nodes) e ∙ tree_of nodes terms local a within)) ∙ sym (same_joined nodes types a place (sort_of_type ty) ways table below are there)
