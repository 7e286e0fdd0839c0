-- What falls by a guard.
use Rattle.df_nmeas.proofs.Words.{◌≡◌, ℕ, List, [], ◌∷◌, ◌++◌, refl, ◌∙◌, ◌<◌, ◌≤◌, length, get_or, sym, ap, arith, Expr, Chain, no_link, link, Ty, expr_of, links_of, guard_measure, measure_of_number, same_type, compares, is_expr, are_links, DeclaredLink, Node, Numbers, minus, term_of, conditions_of, tree_at, trees_in, Grows, IsTerm, Stands, IsOver, Gives, DeclaredCondition, adds_stay, gives_as, gives_then, adds_none, grows_then, term_stays, stays, is_term, locals_same, grows_not, Part, part, over_stays, link_seen, IsNumberOver, Measures, distance_in, IsSideOver, MakesMeasure}
use Rattle.df_lang.specs.declared.ty.Ty.TheVariants as types
use Rattle.df_lang.specs.declared.expr.Comparison.{Comparison}
use Rattle.df_nenc.specs.Views.{links_in}
use Rattle.df_base.specs.declared.pos.Pos.{Pos}
use Rattle.df_meaning.proofs.Cases.{three}

pub number_part : (nodes : List Node) (terms : List ℕ) (e : Expr) → IsNumberOver nodes terms e → Part Numbers nodes terms e
number_part nodes terms e h = part h.side.program h.side.types h.ty Numbers nodes terms e h.side.typed h.number h.side.locals

module _ (terms : List ℕ) (low high : Expr) (old first second : List Node) (m n : ℕ) (before between after : List DeclaredCondition) where
  pub low_over : IsNumberOver old terms low → Grows old first → IsOver first terms low
  low_over is g = over_stays old first terms low g (number_part old terms low is).over

  pub high_term : IsNumberOver old terms high → Gives (term_of (trees_in old terms) high) (conditions_of (trees_in old terms) high) old first m before between → Grows first second → IsTerm Numbers second m
  high_term is gives g = term_stays Numbers first second m g (is_term first Numbers (term_of (trees_in old terms) high) m gives.stands (number_part old terms high is).is)

  again : IsNumberOver old terms low → Grows old first → Gives (term_of (trees_in first terms) low) (conditions_of (trees_in first terms) low) first second n between after
      → Gives (term_of (trees_in old terms) low) (conditions_of (trees_in old terms) low) first second n between after
  again is g gives =
      let env = locals_same old first is.side.types terms g is.side.locals in
      gives_as _ (term_of (trees_in old terms) low) _ (conditions_of (trees_in old terms) low) first second n between after (λ i. term_of (env i) low) (λ i. conditions_of (env i) low) gives

  pub low_term : IsNumberOver old terms low → Grows old first → Gives (term_of (trees_in first terms) low) (conditions_of (trees_in first terms) low) first second n between after → IsTerm Numbers second n
  low_term is g gives = is_term second Numbers (term_of (trees_in old terms) low) n (again is g gives).stands (number_part old terms low is).is

  pub distance_made : (new : List Node) (sum : ℕ) → IsNumberOver old terms low
      → Gives (term_of (trees_in old terms) high) (conditions_of (trees_in old terms) high) old first m before between
      → Gives (term_of (trees_in first terms) low) (conditions_of (trees_in first terms) low) first second n between after
      → Grows second new → Stands new (minus (tree_at second m) (tree_at second n)) sum
      → Measures (distance_in (trees_in old terms) low high) (conditions_of (trees_in old terms) high ++ conditions_of (trees_in old terms) low) old new (record { ty = types.Int; value = sum } ∷ []) before after
  distance_made new sum is g h grows s =
      let k = again is g.grows h in
      let joined = gives_then _ _ _ _ old first second m n before between after g k in
      let one = (stays first second _ m k.grows g.stands).tree_is in
      let other = k.stands.tree_is in
      let tree : tree_at new sum ≡ minus (term_of (trees_in old terms) high) (term_of (trees_in old terms) low) = s.tree_is ∙ (λ i. minus (one i) (other i)) in
      record {
        grows = grows_then old second new joined.grows grows;
        are = (is_term new Numbers _ sum s refl, tt);
        members_are = λ i. record { ty = types.Int; value = tree i } ∷ [];
        adds = adds_stay second new _ before after grows joined.adds;
      }

pub one_link : (xs : List DeclaredLink) (x : DeclaredLink) → 1 ≤ length xs → length xs < 2 → x ≡ get_or xs 0 x → links_in xs ≡ link x.comparison x.pos (expr_of x.operand) no_link
unfolding links_in
one_link [] x least below e = absurd (omega arith)
one_link (y ∷ []) x least below e = let seen = link_seen x in ap (λ (z : DeclaredLink). links_in (z ∷ [])) (sym e) ∙ (λ k. links_of (seen k ∷ []))
one_link (y ∷ z ∷ ys) x least below e = absurd (omega arith)

module _ (nodes : List Node) (terms : List ℕ) where
  pub chain_left : (ty : Ty) (first : Expr) (c : Comparison) (at : Pos) (e : Expr) → IsOver nodes terms (Chain ty first (link c at e no_link)) → IsSideOver nodes terms ty first
  chain_left ty first c at e h =
      let is = three (same_type h.ty types.Bool) (is_expr h.program h.types ty first) (are_links h.program h.types ty (link c at e no_link)) h.typed in
      record { program = h.program; types = h.types; typed = is.1; locals = h.locals }

  pub chain_right : (ty : Ty) (first : Expr) (c : Comparison) (at : Pos) (e : Expr) → IsOver nodes terms (Chain ty first (link c at e no_link)) → IsSideOver nodes terms ty e
  chain_right ty first c at e h =
      let is = three (same_type h.ty types.Bool) (is_expr h.program h.types ty first) (are_links h.program h.types ty (link c at e no_link)) h.typed in
      let last = three (compares h.program ty c) (is_expr h.program h.types ty e) (are_links h.program h.types ty no_link) is.2 in
      record { program = h.program; types = h.types; typed = last.1; locals = h.locals }

  nothing_made : (cs : List DeclaredCondition) → MakesMeasure nodes nodes terms [] [] cs cs
  nothing_made cs = record { grows = grows_not nodes; are = tt; members_are = refl; adds = adds_none nodes cs }

  -- a chain of none or of several comparisons has no measure
  pub no_measure : (ty : Ty) (first : Expr) (xs : List DeclaredLink) (cs : List DeclaredCondition) → (length xs ≡ 1 → ⊥) → MakesMeasure nodes nodes terms (measure_of_number (guard_measure (Chain ty first (links_in xs)))) [] cs cs
  unfolding links_in
  no_measure ty first [] cs ne = nothing_made cs
  no_measure ty first (x ∷ []) cs ne = absurd (ne refl)
  no_measure ty first (x ∷ y ∷ ys) cs ne = nothing_made cs
