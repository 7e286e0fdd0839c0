-- Junctions, implications and equivalences: one more member, and what their loops have so far.
use Rattle.df_nenc.proofs.Words.{◌≡◌, ℕ, List, [], ◌∷◌, ◌++◌, Option, Some, sym, ap, ◌∙◌, AllByRecursion, Pos, JunctionKind, Expr, Members, member, Node, Term, Truths, term, Environment, Condition, term_of, members_of, implication_of, equivalence_of, joined, goes_on, narrowed_path, conditions_under, conditions_of_junction, conditions_of_implication, conditions_of_members, tree_at, trees_at, trees_in, path_in, Grows, Extends, IsTerm, Stands, IsPath, Encodes, implied_by, AreMembersOver, DeclaredCondition}
use Rattle.df_nenc.proofs.Folding.{Folding}
use Rattle.df_nenc.proofs.Lemmas.{tree_stays, path_same, grows_then, stays, adds_as, terms_with, with_next, implied_next, trees_next, Reached, reached_next}

module _ (tree : Term) (conditions : List Condition) (old now : List Node) (terms : List ℕ) (path : Option ℕ) (env : Environment) (before after : List DeclaredCondition) (at : Pos) (e : Expr) (rest : Members) where
  -- the member's operand, at a place whose formula is known
  operand_next : (middle next : List Node) (inner : Option ℕ) (on : Option Term) (operand : ℕ) (between : List DeclaredCondition) (rest_tree next_tree : Term) (rest_conditions next_conditions : List Condition)
      → trees_in middle terms ≡ env → path_in middle inner ≡ on
      → Reached tree conditions old now before after rest_tree rest_conditions → Grows now middle → Encodes middle next terms inner e operand after between
      → next_tree ≡ rest_tree → rest_conditions ≡ conditions_under env on e ++ next_conditions
      → Reached tree conditions old next before between next_tree next_conditions
  operand_next middle next inner on operand between rest_tree next_tree rest_conditions next_conditions same_env same_path r g h same is =
      let first : conditions_under (trees_in middle terms) (path_in middle inner) e ≡ conditions_under env on e = λ i. conditions_under (same_env i) (same_path i) e in
      reached_next tree conditions old now next before after between rest_tree next_tree (conditions_under env on e) rest_conditions next_conditions r (grows_then now middle next g h.grows)
      (adds_as next _ (conditions_under env on e) after between first h.adds) same is

  pub junction_next : (j : JunctionKind) (n1 n2 next : List Node) (formulas : List ℕ) (last guard p operand : ℕ) (between : List DeclaredCondition)
      → trees_in n2 terms ≡ env
      → Reached tree conditions old now before after (joined j (terms_with (trees_at now formulas) (members_of env (member at e rest)))) (conditions_of_junction env (path_in now path) j (tree_at now last) (member at e rest))
      → AllByRecursion (IsTerm Truths now) formulas → IsPath now path
      → Grows now n1 → Stands n1 (goes_on j (tree_at now last)) guard → Grows n1 n2 → Stands n2 (narrowed_path (path_in n1 path) (tree_at n1 guard)) p
      → Encodes n2 next terms (Some p) e operand after between
      → Reached tree conditions old next before between (joined j (terms_with (trees_at next (formulas ++ operand ∷ [])) (members_of env rest))) (conditions_of_junction env (path_in next (Some p)) j (tree_at next operand) rest)
  junction_next j n1 n2 next formulas last guard p operand between same_env r all is_path g1 guard_is g2 path_is h =
      let on : Term = narrowed_path (path_in now path) (goes_on j (tree_at now last)) in
      let outer = path_same now n1 path g1 is_path in
      let inner : tree_at n2 p ≡ on = path_is.tree_is ∙ (λ i. narrowed_path (outer i) (guard_is.tree_is i)) in
      let later : tree_at next p ≡ on = (stays n2 next on p h.grows (record { below = path_is.below; tree_is = inner })).tree_is in
      let made : tree_at next operand ≡ term_of env e = h.stands.tree_is ∙ ap (λ (v : Environment). term_of v e) same_env in
      let trees = trees_next now next formulas operand (term_of env e) (grows_then now n1 next g1 (grows_then n1 n2 next g2 h.grows)) all made in
      operand_next n2 next (Some p) (Some on) operand between _ _ _ (conditions_of_junction env (path_in next (Some p)) j (tree_at next operand) rest) same_env (ap Some inner) r (grows_then now n1 n2 g1 g2) h
      (ap (λ z. joined j (terms_with z (members_of env rest))) trees ∙ ap (joined j) (with_next (trees_at now formulas) (term_of env e) (members_of env rest)))
      (λ i. conditions_under env (Some on) e ++ conditions_of_junction env (Some (sym later i)) j (sym made i) rest)

  pub implication_next : (n1 next : List Node) (premises : List ℕ) (last p operand : ℕ) (between : List DeclaredCondition)
      → trees_in n1 terms ≡ env
      → Reached tree conditions old now before after (implied_by (trees_at now premises) (implication_of env (tree_at now last) (member at e rest))) (conditions_of_implication env (path_in now path) (tree_at now last) (member at e rest))
      → AllByRecursion (IsTerm Truths now) premises → IsTerm Truths now last
      → Grows now n1 → Stands n1 (narrowed_path (path_in now path) (tree_at now last)) p
      → Encodes n1 next terms (Some p) e operand after between
      → Reached tree conditions old next before between (implied_by (trees_at next (premises ++ last ∷ [])) (implication_of env (tree_at next operand) rest)) (conditions_of_implication env (path_in next (Some p)) (tree_at next operand) rest)
  implication_next n1 next premises last p operand between same_env r all is_last g path_is h =
      let on : Term = narrowed_path (path_in now path) (tree_at now last) in
      let later : tree_at next p ≡ on = (stays n1 next on p h.grows path_is).tree_is in
      let made : tree_at next operand ≡ term_of env e = h.stands.tree_is ∙ ap (λ (v : Environment). term_of v e) same_env in
      let grows = grows_then now n1 next g h.grows in
      let trees = trees_next now next premises last (tree_at now last) grows all (tree_stays Truths now next last grows is_last) in
      operand_next n1 next (Some p) (Some on) operand between _ _ _ (conditions_of_implication env (path_in next (Some p)) (tree_at next operand) rest) same_env (ap Some path_is.tree_is) r g h
      ((λ i. implied_by (trees i) (implication_of env (made i) rest)) ∙ implied_next (trees_at now premises) (tree_at now last) (implication_of env (term_of env e) rest))
      (λ i. conditions_under env (Some on) e ++ conditions_of_implication env (Some (sym later i)) (sym made i) rest)

pub record Junctioning (old now : List Node) (terms : List ℕ) (path on : Option ℕ) (j : JunctionKind) (first last : ℕ) (formulas : List ℕ) (before after : List DeclaredCondition) (all rest : Members) : Type 0 where
  pub extends : Extends old now before after
  pub over : AreMembersOver now terms rest
  pub last_is : IsTerm Truths now last
  pub formulas_are : AllByRecursion (IsTerm Truths now) formulas
  pub path_is : IsPath now on
  pub reached : Reached (joined j (term (tree_at old first) (members_of (trees_in old terms) all))) (conditions_of_junction (trees_in old terms) (path_in old path) j (tree_at old first) all) old now before after
      (joined j (terms_with (trees_at now formulas) (members_of (trees_in old terms) rest))) (conditions_of_junction (trees_in old terms) (path_in now on) j (tree_at now last) rest)

pub record Implying (old now : List Node) (terms : List ℕ) (path on : Option ℕ) (first last : ℕ) (premises : List ℕ) (before after : List DeclaredCondition) (all rest : Members) : Type 0 where
  pub extends : Extends old now before after
  pub over : AreMembersOver now terms rest
  pub last_is : IsTerm Truths now last
  pub premises_are : AllByRecursion (IsTerm Truths now) premises
  pub path_is : IsPath now on
  pub reached : Reached (implication_of (trees_in old terms) (tree_at old first) all) (conditions_of_implication (trees_in old terms) (path_in old path) (tree_at old first) all) old now before after
      (implied_by (trees_at now premises) (implication_of (trees_in old terms) (tree_at now last) rest)) (conditions_of_implication (trees_in old terms) (path_in now on) (tree_at now last) rest)

pub record Equating (old now : List Node) (terms : List ℕ) (path : Option ℕ) (first formula : ℕ) (before after : List DeclaredCondition) (all rest : Members) : Type 0 where
  pub so_far : Folding (AreMembersOver now terms rest) Truths (equivalence_of (trees_in old terms) (tree_at old first) all) (conditions_of_members (trees_in old terms) (path_in old path) all) (λ a. equivalence_of (trees_in old terms) a rest) (λ a. conditions_of_members (trees_in old terms) (path_in old path) rest) old now formula before after
