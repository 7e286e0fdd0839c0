-- Chains of comparisons: one more link, and the loop over the links.
use Rattle.df_nenc.proofs.Words.{◌≡◌, ℕ, List, [], ◌∷◌, ◌++◌, Option, Some, refl, sym, ap, ◌∙◌, None, ◌<◌, ◌≤◌, ◌+◌, true, length, drop, get_or, AllByRecursion, Pos, Ty, Comparison, Expr, Links, link, expr_of, DeclaredLink, Node, Term, Truths, term, conjunction, sort_of_type, terms_of, Environment, Condition, term_of, comparisons_of, compared, narrowed_path, conditions_under, conditions_of_links, tree_at, trees_at, trees_in, path_in, Grows, Extends, IsTerm, Stands, IsPath, may_compare, Encodes, Gives, further, AreLinksOver, DeclaredCondition, links_in}
use Rattle.df_nenc.proofs.Lemmas.{tree_stays, path_same, grows_then, stays, is_term, term_stays, locals_same, path_stays, adds_as, terms_with, with_next, trees_next, with_none, all_next, Reached, reached_next, reached_grown, reached_first, reached_last, extends_not, extends_then, extends_nodes, extends_by, compared_is, Part, links_left, link_part, link_compares, links_next, links_done}

module _ (tree : Term) (conditions : List Condition) (old now : List Node) (terms : List ℕ) (path last : Option ℕ) (env : Environment) (ty : Ty) (before after : List DeclaredCondition) (c : Comparison) (at : Pos) (e : Expr) (rest : Links) where
  pub chain_next : (n1 n2 next : List Node) (p : Option ℕ) (formulas : List ℕ) (left right f : ℕ) (between : List DeclaredCondition)
      → trees_in n1 terms ≡ env
      → Reached tree conditions old now before after (conjunction (terms_with (trees_at now formulas) (comparisons_of env ty (tree_at now left) (link c at e rest)))) (conditions_of_links env (further (path_in now path) (path_in now last)) ty (tree_at now left) (link c at e rest))
      → AllByRecursion (IsTerm Truths now) formulas → IsTerm (sort_of_type ty) now left
      → Grows now n1 → path_in n1 p ≡ further (path_in now path) (path_in now last) → IsPath n1 p
      → Encodes n1 n2 terms p e right after between
      → Grows n2 next → Stands next (compared ty c (tree_at n2 left) (tree_at n2 right)) f
      → Reached tree conditions old next before between (conjunction (terms_with (trees_at next (formulas ++ f ∷ [])) (comparisons_of env ty (tree_at next right) rest))) (conditions_of_links env (further (path_in next p) (path_in next (Some f))) ty (tree_at next right) rest)
  chain_next n1 n2 next p formulas left right f between same_env r all is_left g1 path_is is_path h g2 made =
      let on = further (path_in now path) (path_in now last) in
      let a : Term = tree_at now left in
      let b : Term = term_of env e in
      let to2 = grows_then now n1 n2 g1 h.grows in
      let to = grows_then now n2 next to2 g2 in
      let left_is = tree_stays (sort_of_type ty) now n2 left to2 is_left in
      let right_there : tree_at n2 right ≡ b = h.stands.tree_is ∙ ap (λ (v : Environment). term_of v e) same_env in
      let right_is : tree_at next right ≡ b = (stays n2 next b right g2 (record { below = h.stands.below; tree_is = right_there })).tree_is in
      let formula_is : tree_at next f ≡ compared ty c a b = made.tree_is ∙ (λ i. compared ty c (left_is i) (right_there i)) in
      let trees = trees_next now next formulas f (compared ty c a b) to all formula_is in
      let later : path_in next p ≡ on = path_same n1 next p (grows_then n1 n2 next h.grows g2) is_path ∙ path_is in
      let first : conditions_under (trees_in n1 terms) (path_in n1 p) e ≡ conditions_under env on e = λ i. conditions_under (same_env i) (path_is i) e in
      let after_first = reached_grown tree conditions old now n1 before after _ _ _ _ r g1 refl refl in
      let after_operand = reached_next tree conditions old n1 n2 before after between _ (conjunction (terms_with (trees_at now formulas) (term (compared ty c a b) (comparisons_of env ty b rest)))) (conditions_under env on e) _ (conditions_of_links env (Some (narrowed_path on (compared ty c a b))) ty b rest) after_first h.grows
      (adds_as n2 _ (conditions_under env on e) after between first h.adds) refl refl in
      reached_grown tree conditions old n2 next before between _ _ _ (conditions_of_links env (further (path_in next p) (path_in next (Some f))) ty (tree_at next right) rest) after_operand g2
      ((λ i. conjunction (terms_with (trees i) (comparisons_of env ty (right_is i) rest))) ∙ ap conjunction (with_next (trees_at now formulas) (compared ty c a b) (comparisons_of env ty b rest)))
      (λ i. conditions_of_links env (Some (narrowed_path (sym later i) (sym formula_is i))) ty (sym right_is i) rest)

pub record Chaining (old now : List Node) (terms : List ℕ) (path on last : Option ℕ) (ty : Ty) (first left : ℕ) (formulas : List ℕ) (before after : List DeclaredCondition) (all rest : Links) : Type 0 where
  pub extends : Extends old now before after
  pub over : AreLinksOver now terms ty rest
  pub left_is : IsTerm (sort_of_type ty) now left
  pub formulas_are : AllByRecursion (IsTerm Truths now) formulas
  pub path_is : IsPath now on
  pub last_is : IsPath now last
  pub reached : Reached (conjunction (comparisons_of (trees_in old terms) ty (tree_at old first) all)) (conditions_of_links (trees_in old terms) (path_in old path) ty (tree_at old first) all) old now before after
      (conjunction (terms_with (trees_at now formulas) (comparisons_of (trees_in old terms) ty (tree_at now left) rest))) (conditions_of_links (trees_in old terms) (further (path_in now on) (path_in now last)) ty (tree_at now left) rest)

pub chain_starts : {old : List Node} {terms : List ℕ} {path : Option ℕ} {ty : Ty} {first : ℕ} {before : List DeclaredCondition} (all xs : List DeclaredLink) (formulas : List ℕ)
    → xs ≡ all → formulas ≡ [] → AreLinksOver old terms ty (links_in all) → IsPath old path → IsTerm (sort_of_type ty) old first → Chaining old old terms path path None ty first first formulas before before (links_in all) (links_in xs)
chain_starts {old = old} {before = before} all xs formulas same none over is_path is = rw (same, none) (record { extends = extends_not old before; over = over; left_is = is; formulas_are = tt; path_is = is_path; last_is = tt; reached = reached_first _ _ old before })

pub chain_operand : {old now next : List Node} {terms : List ℕ} {path on last : Option ℕ} {ty : Ty} {first left : ℕ} {formulas : List ℕ} {before after : List DeclaredCondition} {all : Links} (xs : List DeclaredLink) (i : ℕ) (x : DeclaredLink)
    → x ≡ get_or xs i x → i < length xs → Chaining old now terms path on last ty first left formulas before after all (links_in (drop i xs)) → Grows now next → Part (sort_of_type ty) next terms (expr_of x.operand)
chain_operand xs i x is less s g = let rest = rw (links_next xs i x is less) at s in link_part _ _ _ g _ _ _ _ _ rest.over

pub chain_compares : {old now : List Node} {terms : List ℕ} {path on last : Option ℕ} {ty : Ty} {first left : ℕ} {formulas : List ℕ} {before after : List DeclaredCondition} {all : Links} (xs : List DeclaredLink) (i : ℕ) (x : DeclaredLink)
    → x ≡ get_or xs i x → i < length xs → Chaining old now terms path on last ty first left formulas before after all (links_in (drop i xs)) → may_compare ty x.comparison ≡ true
chain_compares xs i x is less s = let rest = rw (links_next xs i x is less) at s in link_compares _ _ _ _ _ _ _ rest.over

pub chain_steps : {old now n1 n2 next : List Node} {terms : List ℕ} {path on last p : Option ℕ} {ty : Ty} {first left right f : ℕ} {formulas more : List ℕ} {before after between : List DeclaredCondition} {all : Links} (xs : List DeclaredLink) (i : ℕ) (x : DeclaredLink)
    → x ≡ get_or xs i x → i < length xs → AreLinksOver old terms ty all → Chaining old now terms path on last ty first left formulas before after all (links_in (drop i xs))
    → Grows now n1 → path_in n1 p ≡ further (path_in now on) (path_in now last) → IsPath n1 p
    → Encodes n1 n2 terms p (expr_of x.operand) right after between
    → Grows n2 next → Stands next (compared ty x.comparison (tree_at n2 left) (tree_at n2 right)) f → more ≡ formulas ++ f ∷ []
    → Chaining old next terms path p (Some f) ty first right more before between all (links_in (drop (i + 1) xs))
chain_steps {old = old} {now = now} {n1 = n1} {n2 = n2} {next = next} {terms = terms} {on = on} {last = last} {p = p} {ty = ty} {left = left} {right = right} {f = f} {formulas = formulas} {before = before} {after = after} {between = between} xs i x is less over s g1 path_is is_path h g2 made pushed =
    let here = rw (links_next xs i x is less) at s in
    let part = chain_operand xs i x is less s g1 in
    let to = grows_then now n2 next (grows_then now n1 n2 g1 h.grows) g2 in
    let formula_is = is_term next Truths _ f made (compared_is ty x.comparison (tree_at n2 left) (tree_at n2 right)) in
    rw pushed (record {
      extends = extends_then s.extends (extends_then (extends_nodes now n1 after g1) (extends_then (extends_by h) (extends_nodes n2 next between g2)));
      over = links_left now next terms to ty x.comparison x.pos (expr_of x.operand) (links_in (drop (i + 1) xs)) here.over;
      left_is = term_stays (sort_of_type ty) n2 next right g2 (is_term n2 (sort_of_type ty) _ right h.stands part.is);
      formulas_are = all_next now next formulas f to s.formulas_are formula_is;
      path_is = path_stays n1 next p (grows_then n1 n2 next h.grows g2) is_path;
      last_is = formula_is;
      reached = chain_next _ _ old now terms on last (trees_in old terms) ty before after x.comparison x.pos (expr_of x.operand) (links_in (drop (i + 1) xs)) n1 n2 next p formulas left right f between (locals_same old n1 over.types terms (grows_then old now n1 s.extends.grows g1) over.locals) here.reached s.formulas_are s.left_is g1 path_is is_path h g2 made;
    })

pub chain_stops : {old now new : List Node} {terms : List ℕ} {path on last : Option ℕ} {ty : Ty} {first left n : ℕ} {formulas : List ℕ} {before after : List DeclaredCondition} {all : Links} (xs : List DeclaredLink) (i : ℕ) (made : List ℕ)
    → length xs ≤ i → Chaining old now terms path on last ty first left formulas before after all (links_in (drop i xs)) → made ≡ formulas → Grows now new → Stands new (conjunction (terms_of (trees_at now made))) n
    → Gives (conjunction (comparisons_of (trees_in old terms) ty (tree_at old first) all)) (conditions_of_links (trees_in old terms) (path_in old path) ty (tree_at old first) all) old new n before after
chain_stops {old = old} {now = now} {new = new} {n = n} {formulas = formulas} {before = before} {after = after} xs i made none s same g stands =
    let here = rw (links_done xs i none) at s in
    let r = reached_grown _ _ old now new before after _ (conjunction (terms_of (trees_at now formulas))) [] [] here.reached g (ap conjunction (sym (with_none (trees_at now formulas)))) refl in
    reached_last _ _ old new before after (conjunction (terms_of (trees_at now formulas))) n r (rw same at stands)
