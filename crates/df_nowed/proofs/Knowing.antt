-- What is listed by numbers is what is listed of trees.
use Rattle.df_nowed.proofs.Words.{◌≡◌, ℕ, ◌<◌, ◌==◌, Bool, true, false, ◌||◌, List, [], ◌∷◌, ◌++◌, length, slice_get, Some, refl, sym, ap, ◌∙◌, arith, subst, ◌+◌, get_below, if◌then◌else◌, map, take, drop, ◌≤◌, append-nil, append_assoc, AllByRecursion, list_any, length-append, map-append, is_among, known_once, obligation_in, Node, IsTable, Term, Truths, tree_at, trees_at, IsTerm, known_with, Obligation, obligations_of}
use Rattle.std.specs.Prelude.{get_or}
use Rattle.std.proofs.lemmas.List.{take-append-le}
use Rattle.std.proofs.lemmas.Option.{get_or_from_slice_get}
use Rattle.std.proofs.Math.Seq.{take-append_seam}
use Rattle.df_lemmas.proofs.Alls.{all_joined}
use Rattle.df_lemmas.proofs.Lists.{get_grown}
use Rattle.df_nenc.proofs.Growing.{terms_below}
use Rattle.df_nenc.proofs.Siblings.{drop_next}
use Rattle.df_nledger.proofs.Telling.{same_tree}
use Rattle.df_nterm.specs.Same.{same_term}
use Rattle.df_base.specs.declared.pos.Pos.{Pos}
use Rattle.df_meaning.specs.declared.kind.Kind.{Kind}
use Rattle.df_nledger.specs.declared.said.Said.{Said}
use Rattle.df_nledger.specs.declared.said.Said.TheVariants as said
use Rattle.df_nledger.specs.Said.{said_in, AreSaid}
use Rattle.df_nowed.specs.Owed.{IsOwed}
use Rattle.df_nowed.specs.declared.obligation.Obligation.{Obligation as DeclaredObligation}

-- ---- what is known never shrinks

record Grown (before after : List ℕ) : Type 0 where
  more : List ℕ
  is : after ≡ before ++ more

grown_if : (b : Bool) (known : List ℕ) (n : ℕ) → Grown known (if b then known else known ++ n ∷ [])
grown_if true known n = record { more = []; is = sym (append-nil known) }
grown_if false known n = record { more = n ∷ []; is = refl }

grown_once : (known after : List ℕ) (n : ℕ) → after ≡ known_once known n → Grown known after
grown_once known after n e = subst (Grown known) (sym e) (grown_if (is_among known n) known n)

module _ (known after : List ℕ) (grown : Grown known after) where
  grown_long : length known ≤ length after
  grown_long = let long = ap (λ (ns : List ℕ). length ns) grown.is ∙ length-append known grown.more in omega (arith, long)

  owed_stay : (all : List DeclaredObligation) → AllByRecursion (IsOwed known) all → AllByRecursion (IsOwed after) all
  owed_stay [] are = tt
  owed_stay (o ∷ others) are =
      let one : IsOwed after o = (omega (arith, are.0.0, grown_long), are.0.1, ap (λ (ns : List ℕ). slice_get ns o.place) grown.is ∙ get_grown known grown.more o.place o.goal are.0.2) in
      (one, owed_stay others are.1)

  trees_stay : (number : ℕ) (nodes : List Node) (all : List DeclaredObligation) → AllByRecursion (IsOwed known) all → map (obligation_in number nodes after) all ≡ map (obligation_in number nodes known) all
  trees_stay number nodes [] are = refl
  trees_stay number nodes (o ∷ others) are =
      let kept : take o.hypothesis_count after ≡ take o.hypothesis_count known = ap (take o.hypothesis_count) grown.is ∙ take-append-le o.hypothesis_count known grown.more are.0.0 in
      let first : obligation_in number nodes after o ≡ obligation_in number nodes known o = λ i. record { declaration = number; pos = o.pos; kind = o.kind; hypotheses = trees_at nodes (kept i); goal = tree_at nodes o.goal } in
      let rest = trees_stay number nodes others are.1 in
      λ i. first i ∷ rest i

-- ---- a formula is known once, by its number as by its tree

module _ (nodes : List Node) (table : IsTable nodes) where
  abbrev AreBelow : List ℕ → Type 0
  AreBelow known = AllByRecursion (λ n. n < length nodes) known

  among_trees : (known : List ℕ) (n : ℕ) → AreBelow known → n < length nodes → list_any (same_term (tree_at nodes n)) (trees_at nodes known) ≡ is_among known n
  among_trees [] n all less = refl
  among_trees (m ∷ others) n all less =
      ap (λ (b : Bool). b || list_any (same_term (tree_at nodes n)) (trees_at nodes others)) (sym (same_tree nodes n m table less all.0))
      ∙ ap (λ (b : Bool). (m == n) || b) (among_trees others n all.1 less)

  once_if : (b : Bool) (known : List ℕ) (n : ℕ) → trees_at nodes (if b then known else known ++ n ∷ []) ≡ (if b then trees_at nodes known else trees_at nodes known ++ tree_at nodes n ∷ [])
  once_if true known n = refl
  once_if false known n = map-append (tree_at nodes) known (n ∷ [])

  once_trees : (known : List ℕ) (n : ℕ) → AreBelow known → n < length nodes → trees_at nodes (known_once known n) ≡ known_with (trees_at nodes known) (tree_at nodes n)
  once_trees known n all less =
      once_if (is_among known n) known n
      ∙ ap (λ (b : Bool). if b then trees_at nodes known else trees_at nodes known ++ tree_at nodes n ∷ []) (sym (among_trees known n all less))

terms_if : (nodes : List Node) (b : Bool) (known : List ℕ) (n : ℕ) → AllByRecursion (IsTerm Truths nodes) known → IsTerm Truths nodes n → AllByRecursion (IsTerm Truths nodes) (if b then known else known ++ n ∷ [])
terms_if nodes true known n all is = all
terms_if nodes false known n all is = all_joined (IsTerm Truths nodes) known (n ∷ []) all (is, tt)

-- ---- what is known and owed so far, in front of what is left

pub record IsListed (nodes : List Node) (all : List Said) (known : List ℕ) (owed : List DeclaredObligation) (left : List Said) : Type 0 where
  pub are_known : AllByRecursion (IsTerm Truths nodes) known
  pub are_owed : AllByRecursion (IsOwed known) owed
  pub are_left : AreSaid nodes left
  pub trees_are : (number : ℕ) → map (obligation_in number nodes known) owed ++ obligations_of number (trees_at nodes known) (said_in nodes left) ≡ obligations_of number [] (said_in nodes all)

-- the next of what was said
pub next_said : (items : List Said) (i : ℕ) (d one : Said) → i < length items → get_or items i d ≡ one → drop i items ≡ one ∷ drop (i + 1) items
next_said items i d one less e =
    let found = get_below items i less in
    let read : get_or items i d ≡ found.0 = get_or_from_slice_get items i found.0 d found.1 in
    drop_next items i found.0 (sym (get_or_from_slice_get items i found.0 found.0 found.1)) less ∙ ap (λ (x : Said). x ∷ drop (i + 1) items) (sym read ∙ e)

pub nothing_listed : (nodes : List Node) (all : List Said) → AreSaid nodes all → IsListed nodes all [] [] all
nothing_listed nodes all are = record { are_known = tt; are_owed = tt; are_left = are; trees_are = λ number. refl }

pub all_listed : (nodes : List Node) (all : List Said) (known : List ℕ) (owed : List DeclaredObligation) → IsListed nodes all known owed [] → (number : ℕ) → map (obligation_in number nodes known) owed ≡ obligations_of number [] (said_in nodes all)
all_listed nodes all known owed is number = sym (append-nil (map (obligation_in number nodes known) owed)) ∙ is.trees_are number

module _ (nodes : List Node) (table : IsTable nodes) (all : List Said) (known after : List ℕ) (owed : List DeclaredObligation) (formula : ℕ) (e : after ≡ known_once known formula) (others : List Said) where
  known_then : IsTerm Truths nodes formula → AllByRecursion (IsTerm Truths nodes) known → AllByRecursion (IsTerm Truths nodes) after
  known_then is are = subst (AllByRecursion (IsTerm Truths nodes)) (sym e) (terms_if nodes (is_among known formula) known formula are is)

  with_trees : IsTerm Truths nodes formula → AllByRecursion (IsTerm Truths nodes) known → trees_at nodes after ≡ known_with (trees_at nodes known) (tree_at nodes formula)
  with_trees is are = ap (trees_at nodes) e ∙ once_trees nodes table known formula (terms_below Truths nodes known are) is.below

  -- one is known
  pub known_listed : IsListed nodes all known owed (said.Known formula ∷ others) → IsListed nodes all after owed others
  known_listed is = record {
    are_known = known_then is.are_left.0 is.are_known;
    are_owed = owed_stay known after (grown_once known after formula e) owed is.are_owed;
    are_left = is.are_left.1;
    trees_are = λ number.
        let rest = ap (λ (ts : List Term). obligations_of number ts (said_in nodes others)) (with_trees is.are_left.0 is.are_known) in
        let before = trees_stay known after (grown_once known after formula e) number nodes owed is.are_owed in
        (λ i. before i ++ rest i) ∙ is.trees_are number;
  }

  -- one is owed, and known then
  pub owed_listed : (at : Pos) (why : Kind) (one : DeclaredObligation) (more : List DeclaredObligation) → one.pos ≡ at → one.kind ≡ why → one.hypothesis_count ≡ length known → one.goal ≡ formula
      → one.place ≤ length known → slice_get after one.place ≡ Some formula → more ≡ owed ++ one ∷ []
      → IsListed nodes all known owed (said.Owed at why formula ∷ others) → IsListed nodes all after more others
  owed_listed at why one more at_is why_is count_is goal_is within place_is more_is is = record {
    are_known = known_then is.are_left.0 is.are_known;
    are_owed = subst (AllByRecursion (IsOwed after)) (sym more_is) (all_joined (IsOwed after) owed (one ∷ []) (owed_stay known after grown owed is.are_owed) (here, tt));
    are_left = is.are_left.1;
    trees_are = λ number.
        let rest = ap (λ (ts : List Term). obligations_of number ts (said_in nodes others)) (with_trees is.are_left.0 is.are_known) in
        let before = trees_stay known after grown number nodes owed is.are_owed in
        let first : obligation_in number nodes after one ≡ record { declaration = number; pos = at; kind = why; hypotheses = trees_at nodes known; goal = tree_at nodes formula } =
        λ i. record { declaration = number; pos = at_is i; kind = why_is i; hypotheses = trees_at nodes (kept i); goal = tree_at nodes (goal_is i) } in
        ap (λ (os : List DeclaredObligation). map (obligation_in number nodes after) os ++ obligations_of number (trees_at nodes after) (said_in nodes others)) more_is
        ∙ ap (λ (os : List Obligation). os ++ obligations_of number (trees_at nodes after) (said_in nodes others)) (map-append (obligation_in number nodes after) owed (one ∷ []))
        ∙ append_assoc (map (obligation_in number nodes after) owed) (obligation_in number nodes after one ∷ []) (obligations_of number (trees_at nodes after) (said_in nodes others))
        ∙ (λ i. before i ++ (first i ∷ rest i)) ∙ is.trees_are number;
  }
    where
      grown : Grown known after
      grown = grown_once known after formula e

      here : IsOwed after one
      here = (omega (arith, count_is, grown_long known after grown), omega (arith, count_is, within), place_is ∙ ap Some (sym goal_is))

      kept : take one.hypothesis_count after ≡ known
      kept = ap (λ (k : ℕ). take k after) count_is ∙ ap (take (length known)) grown.is ∙ take-append_seam known grown.more
