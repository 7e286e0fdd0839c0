-- The sequent of an obligation over the nodes of a front.
use Rattle.df_nowed.proofs.Words.{◌≡◌, ℕ, ◌<◌, ◌+◌, List, [], ◌∷◌, ◌++◌, length, take, sym, ap, ◌∙◌, arith, subst, list_all, map-append, slice_get_within, head_same, tail_same, Node, IsTable, is_formula, World, Term, tree_at, trees_at, Obligation}
use Rattle.std.specs.Prelude.{get_or, max}
use Rattle.std.proofs.lemmas.Grind.{get_or_default_zero}
use Rattle.std.proofs.lemmas.List.{length-take-le, length-map}
use Rattle.std.proofs.Math.Logic.{∥∥₁_map}
use Rattle.df_base.specs.declared.pos.Pos.{Pos}
use Rattle.df_meaning.specs.declared.kind.Kind.{Kind}
use Rattle.df_form.specs.Sequent.{Walk, IsSequent}
use Rattle.df_form.proofs.Tables.{table-take}
use Rattle.df_nowed.specs.Counts.{IsFront, AreCounts}
use Rattle.df_nowed.specs.Owed.{IsOwed}
use Rattle.df_nowed.specs.declared.obligation.Obligation.{Obligation as DeclaredObligation}
use Rattle.df_nowed.proofs.Fronts.{trees_in_front}

-- the count of its nodes is there
count_there : (known : List ℕ) (long : ℕ) (o : DeclaredObligation) (front : ℕ) → long ≡ length known + 1 → IsOwed known o → front ≡ max o.hypothesis_count (o.place + 1) → front < long
count_there known long o front e owed is =
    let there = slice_get_within known o.place o.goal owed.2 in
    omega (arith, e, owed.0, there, is)

-- and it is what is read there
pub count_is : (nodes : List Node) (known counts : List ℕ) (o : DeclaredObligation) (front count : ℕ) → AreCounts nodes known counts → IsOwed known o → front ≡ max o.hypothesis_count (o.place + 1) → count ≡ get_or counts front count → count ≡ get_or counts front 0
count_is nodes known counts o front count are owed e read = read ∙ get_or_default_zero counts front count (count_there known (length counts) o front (omega (arith, are.long)) owed e)

last_same : {A : Type 0} (xs ys : List A) (x y : A) → length xs ≡ length ys → xs ++ x ∷ [] ≡ ys ++ y ∷ [] → (xs ≡ ys) × (x ≡ y)
last_same [] [] x y long e = ((λ i. []), head_same x y [] [] e)
last_same [] (z ∷ ys) x y long e = absurd (omega (arith, long))
last_same (z ∷ xs) [] x y long e = absurd (omega (arith, long))
last_same (z ∷ xs) (w ∷ ys) x y long e =
    let first = head_same z w (xs ++ x ∷ []) (ys ++ y ∷ []) e in
    let rest = last_same xs ys x y (omega (arith, long)) (tail_same z w (xs ++ x ∷ []) (ys ++ y ∷ []) e) in
    ((λ i. first i ∷ rest.0 i), rest.1)

abbrev told : ℕ → Pos → Kind → List Term → Term → Obligation
told declaration pos kind hypotheses goal = record { declaration = declaration; pos = pos; kind = kind; hypotheses = hypotheses; goal = goal }

module _ (nodes now : List Node) (hypotheses more : List ℕ) (goal count : ℕ) (table : IsTable nodes) (cut : now ≡ take count nodes) (same : more ≡ hypotheses) (front : IsFront nodes (hypotheses ++ goal ∷ []) count) where
  pub sequent_is : (world : World) → IsSequent (record { world = world; nodes = now; hypotheses = more; goal = goal })
  sequent_is world = record {
    table = subst IsTable (sym cut) (table-take nodes count table);
    formulas = (λ i. list_all (is_formula (cut i)) (same i ++ goal ∷ [])) ∙ front.are_formulas;
  }

  -- its nodes are numbered
  walk_is : Walk (take count nodes) 0 (hypotheses ++ goal ∷ []) count → Walk now 0 (more ++ goal ∷ []) (length now)
  walk_is walk =
      let long : length now ≡ count = ap (λ (ns : List Node). length ns) cut ∙ length-take-le count nodes front.within in
      subst (Walk now 0 (more ++ goal ∷ [])) (sym long)
      (subst (λ (hs : List ℕ). Walk now 0 (hs ++ goal ∷ []) count) (sym same)
      (subst (λ (ns : List Node). Walk ns 0 (hypotheses ++ goal ∷ []) count) (sym cut) walk))

  pub numbered_is : ∥ Walk now 0 (more ++ goal ∷ []) (length now) ∥₁
  numbered_is = ∥∥₁_map front.walked walk_is

  trees_same : (trees_at now more ≡ trees_at nodes hypotheses) × (tree_at now goal ≡ tree_at nodes goal)
  trees_same =
      let front_nodes = take count nodes in
      let whole = sym (map-append (tree_at front_nodes) hypotheses (goal ∷ [])) ∙ trees_in_front nodes (hypotheses ++ goal ∷ []) count front ∙ map-append (tree_at nodes) hypotheses (goal ∷ []) in
      let long = length-map hypotheses (tree_at front_nodes) ∙ sym (length-map hypotheses (tree_at nodes)) in
      let parts = last_same (trees_at front_nodes hypotheses) (trees_at nodes hypotheses) (tree_at front_nodes goal) (tree_at nodes goal) long whole in
      ((λ i. trees_at (cut i) (same i)) ∙ parts.0, ap (λ (ns : List Node). tree_at ns goal) cut ∙ parts.1)

  -- and it stands for the same trees
  pub obligation_is : (declaration : ℕ) (pos : Pos) (kind : Kind) → told declaration pos kind (trees_at now more) (tree_at now goal) ≡ told declaration pos kind (trees_at nodes hypotheses) (tree_at nodes goal)
  obligation_is declaration pos kind =
      let same_hypotheses = trees_same.0 in
      let same_goal = trees_same.1 in
      λ i. told declaration pos kind (same_hypotheses i) (same_goal i)
