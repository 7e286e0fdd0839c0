-- Parameters are free terms.
use Rattle.df_nowed.proofs.Words.{◌≡◌, ℕ, zero, suc, ◌+◌, List, [], ◌∷◌, slice_get, slice_index_or, None, Some, ap, ◌∙◌, arith, true, ◌++◌, length, nat_lt, slice_index, refl, ltb-true, list_all, same_Some, and_parts, and_from, map-append, Param, Term, Truths, locals_of, unset, ParametersAreFreeTerms, head_same, map_agree, Sort, Node, same_sort, is_formula, sort_at, sort_of_term, tree_at, trees_at, Grows, grown_tree, tree_sort}
use Rattle.df_npass.specs.Rules.{free_of}
use Rattle.df_npass.specs.Statements.{any_values}
use Rattle.df_nowed.proofs.Stacks.{sort_same}
use Rattle.df_form.specs.declared.node.Sort.TheVariants as sorts

term_there : (params : List Param) (fresh place : ℕ) (param : Param) (d : Term) → slice_get params place ≡ Some param → slice_index_or (any_values None params fresh).terms place d ≡ free_of (fresh + place) param.ty
term_there [] fresh place param d e = absurd cc
term_there (first ∷ others) fresh zero param d e =
    let same = same_Some first param e in
    let here : fresh ≡ fresh + 0 = omega arith in
    λ i. free_of (here i) (same i).ty
term_there (first ∷ others) fresh (suc place) param d e =
    let next : suc fresh + place ≡ fresh + suc place = omega arith in
    term_there others (suc fresh) place param d e ∙ ap (λ (n : ℕ). free_of n param.ty) next

pub free_parameters : ParametersAreFreeTerms
free_parameters method place param e =
    let here : 0 + place ≡ place = omega arith in
    term_there method.parameters 0 place param (unset (locals_of method) place) e ∙ ap (λ (n : ℕ). free_of n param.ty) here

pub one_on : (nodes : List Node) (stack : List ℕ) (t : Term) → trees_at nodes stack ≡ t ∷ [] → length stack ≡ 1
one_on nodes [] t e = absurd cc
one_on nodes (n ∷ []) t e = refl
one_on nodes (n ∷ m ∷ others) t e = absurd cc

pub formula_on : (nodes : List Node) (stack : List ℕ) (t : Term) → list_all (λ n. nat_lt n (length nodes)) stack ≡ true → trees_at nodes stack ≡ t ∷ [] → sort_of_term t ≡ Truths → is_formula nodes (slice_index stack 0) ≡ true
formula_on nodes [] t known e is = absurd cc
formula_on nodes (n ∷ []) t known e is =
    let below = and_parts (nat_lt n (length nodes)) true known in
    let sort = sort_same (sort_at nodes n) sorts.Truth (tree_sort nodes n (ltb-true n (length nodes) below.0) ∙ ap sort_of_term (head_same (tree_at nodes n) t [] [] e) ∙ is) in
    and_from (nat_lt n (length nodes)) (same_sort (sort_at nodes n) sorts.Truth) below.0 (ap (λ (s : Sort). same_sort s sorts.Truth) sort)
formula_on nodes (n ∷ m ∷ others) t known e is = absurd cc

-- hypotheses stay what they are
pub formulas_stay : (before now : List Node) (hypotheses : List ℕ) → Grows before now → list_all (is_formula before) hypotheses ≡ true → trees_at now hypotheses ≡ trees_at before hypotheses
formulas_stay before now hypotheses grows are =
    map_agree (is_formula before) (tree_at now) (tree_at before) hypotheses
    (λ n is. grown_tree before now grows n (ltb-true n (length before) (and_parts (nat_lt n (length before)) (same_sort (sort_at before n) sorts.Truth) is).0)) are

-- and one more is there
pub assumed_on : (before now after : List Node) (hypotheses stack more : List ℕ) (t : Term) → Grows before now → list_all (is_formula before) hypotheses ≡ true → trees_at now stack ≡ t ∷ []
    → after ≡ now → more ≡ hypotheses ++ stack → trees_at after more ≡ trees_at before hypotheses ++ t ∷ []
assumed_on before now after hypotheses stack more t grows are lies same e =
    (λ i. trees_at (same i) (e i)) ∙ map-append (tree_at now) hypotheses stack
    ∙ (λ i. formulas_stay before now hypotheses grows are i ++ lies i)

-- it is one
pub assumed_one : (hypotheses stack more : List ℕ) → length stack ≡ 1 → more ≡ hypotheses ++ stack → (h : ℕ) × (more ≡ hypotheses ++ h ∷ [])
assumed_one hypotheses [] more one e = absurd (omega (arith, one))
assumed_one hypotheses (h ∷ []) more one e = (h, e)
assumed_one hypotheses (h ∷ k ∷ others) more one e = absurd (omega (arith, one))
