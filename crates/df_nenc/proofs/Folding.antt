-- Levels that are folded into one term: a term so far, and one more operand.
use Rattle.df_nenc.proofs.Words.{◌≡◌, ℕ, List, [], ◌++◌, Option, refl, sym, ap, ◌∙◌, Expr, Node, Term, Sort, Environment, Condition, term_of, conditions_under, tree_at, trees_in, path_in, IsTerm, Gives, Encodes, Extends, DeclaredCondition}
use Rattle.df_nenc.proofs.Lemmas.{tree_stays, stands, adds_as, Reached, reached_next, reached_last, extends_then, extends_by}

-- the tree and the conditions of all, by those of the operands that are left over the term so far
pub record Folding (Over : Type 0) (sort : Sort) (tree : Term) (conditions : List Condition) (F : Term → Term) (C : Term → List Condition) (old now : List Node) (total : ℕ) (before after : List DeclaredCondition) : Type 0 where
  pub extends : Extends old now before after
  pub over : Over
  pub total_is : IsTerm sort now total
  pub reached : Reached tree conditions old now before after (F (tree_at now total)) (C (tree_at now total))

-- the terms of locals and the path are those of the first table
pub fold_steps : (Over Next : Type 0) (sort : Sort) (tree : Term) (conditions : List Condition) (old now middle next : List Node) (terms : List ℕ) (path : Option ℕ) (env : Environment) (on : Option Term) (e : Expr) (total operand n : ℕ) (before after between then : List DeclaredCondition)
    (f : Term → Term → Term) (d : Option Term → Term → Term → List Condition) (F : Term → Term) (C : Term → List Condition)
    → trees_in now terms ≡ env → path_in now path ≡ on → path_in middle path ≡ on → Next → IsTerm sort next n
    → Folding Over sort tree conditions (λ a. F (f a (term_of env e))) (λ a. conditions_under env on e ++ (d on a (term_of env e) ++ C (f a (term_of env e)))) old now total before after
    → Encodes now middle terms path e operand after between → Gives (f (tree_at middle total) (tree_at middle operand)) (d (path_in middle path) (tree_at middle total) (tree_at middle operand)) middle next n between then
    → Folding Next sort tree conditions F C old next n before then
fold_steps Over Next sort tree conditions old now middle next terms path env on e total operand n before after between then f d F C same_env same_path same_then left is_total s g h =
    let b : Term = term_of env e in
    let a : Term = f (tree_at now total) b in
    let kept = tree_stays sort now middle total g.grows s.total_is in
    let made : tree_at middle operand ≡ b = g.stands.tree_is ∙ ap (λ (v : Environment). term_of v e) same_env in
    let is : tree_at next n ≡ a = h.stands.tree_is ∙ (λ i. f (kept i) (made i)) in
    let first : conditions_under (trees_in now terms) (path_in now path) e ≡ conditions_under env on e = λ i. conditions_under (same_env i) (same_path i) e in
    let second : d (path_in middle path) (tree_at middle total) (tree_at middle operand) ≡ d on (tree_at now total) b = λ i. d (same_then i) (kept i) (made i) in
    let after_operand = reached_next tree conditions old now middle before after between _ (F a) (conditions_under env on e) _ (d on (tree_at now total) b ++ C a) s.reached g.grows (adds_as middle _ (conditions_under env on e) after between first g.adds) refl refl in
    record {
      extends = extends_then s.extends (extends_then (extends_by g) (extends_by h));
      over = left;
      total_is = is_total;
      reached = reached_next tree conditions old middle next before between then (F a) (F (tree_at next n)) (d on (tree_at now total) b) _ (C (tree_at next n)) after_operand h.grows
          (adds_as next _ (d on (tree_at now total) b) between then second h.adds) (ap F is) (ap (λ z. d on (tree_at now total) b ++ C z) (sym is));
    }

-- no operand is left
pub fold_stops : {Over : Type 0} {sort : Sort} {tree : Term} {conditions : List Condition} {old now : List Node} {total : ℕ} {before after : List DeclaredCondition} → Folding Over sort tree conditions (λ a. a) (λ a. []) old now total before after → Gives tree conditions old now total before after
fold_stops {sort = sort} {old = old} {now = now} {total = total} {before = before} {after = after} s = reached_last _ _ old now before after _ total s.reached (stands sort now total s.total_is)
