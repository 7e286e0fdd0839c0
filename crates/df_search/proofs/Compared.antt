-- An equality of two numbers, whose comparisons were made before it.
use Rattle.std.proofs.Common.{◌≡◌, ℕ, ◌<◌, ◌≤◌, true, List, [], take, length, Some, slice_get, refl, sym, ap, ◌∙◌, subst, arith, append-nil}
use Rattle.std.proofs.lemmas.Option.{slice_get_within}
use Rattle.df_form.specs.Node.{Node}
use Rattle.df_form.specs.Made.{made}
use Rattle.df_form.specs.Sorting.{IsTable, is_well_sorted}
use Rattle.df_form.specs.Clause.{Clause, yes}
use Rattle.df_form.specs.Sequent.{Sequent}
use Rattle.df_rules.specs.Bound.{at_most}
use Rattle.df_rules.specs.Derivation.{is_number}
use Rattle.df_rules.specs.Growth.{Grows, IsNumber}
use Rattle.df_rules.proofs.Growth.{get-grows, number-grows, made-grows, made-at, sorted-comparison, grows-trans}
use Rattle.df_closure.specs.Closure.{GroundClause}
use Rattle.df_logbuild.specs.declared.derivation.Derivation.{Derivation}
use Rattle.df_logbuild.specs.Runs.{Runs}
use Rattle.df_logbuild.proofs.Added.{length_more}
use Rattle.df_trail.specs.Trail.{branch_of}
use Rattle.df_branch.specs.TermPair.{equal}
use Rattle.df_branch.specs.Next.{ComesNext}
use Rattle.df_branch.specs.Leaf.{IsApartLeaf}
use Rattle.df_search.specs.declared.searching.State.{State}
use Rattle.df_search.specs.Searching.{clauses_of, IsSearching, Searches}
use Rattle.df_search.specs.Moves.{IsDefined, HasEquality}
use Rattle.df_search.proofs.Growing.{Makes, stood, added, makes, makes_node, none_later}
use Rattle.df_search.proofs.Refuting.{with_log}
use Rattle.df_search.proofs.Splitting.{is_of_number, truth_formula}
use Rattle.df_search.proofs.Equating.{sorted_equality, equality_follows, equality_made, equality_decided, equality_is_formula}

-- the nodes are the same where there are no more of them
same_where : (nodes more : List Node) (node : Node) → Makes nodes more node → length more ≤ length nodes → more ≡ nodes
same_where nodes more node (stood same) le = same
same_where nodes more node (added same none) le = let long = length_more nodes node in absurd (omega (arith, ap length same, long, le))

module _ (nodes : List Node) (left right : ℕ) (left_is : is_number nodes left ≡ true) (right_is : is_number nodes right ≡ true) where
  pub up_sorted : is_well_sorted nodes (at_most left right) ≡ true
  up_sorted = sorted-comparison nodes left right (is_of_number nodes left left_is) (is_of_number nodes right right_is)

  module _ (first : List Node) (up : ℕ) (up_is : made nodes (at_most left right) ≡ record { nodes = first; number = up }) where
    up_grows : Grows nodes first
    up_grows = made-grows nodes (at_most left right) (record { nodes = first; number = up }) up_is

    left_first : IsNumber first left
    left_first = number-grows nodes first left up_grows (is_of_number nodes left left_is)

    right_first : IsNumber first right
    right_first = number-grows nodes first right up_grows (is_of_number nodes right right_is)

    pub down_sorted : is_well_sorted first (at_most right left) ≡ true
    down_sorted = sorted-comparison first right left right_first left_first

    module _ (second : List Node) (down : ℕ) (down_is : made first (at_most right left) ≡ record { nodes = second; number = down }) where
      down_grows : Grows first second
      down_grows = made-grows first (at_most right left) (record { nodes = second; number = down }) down_is

      left_second : IsNumber second left
      left_second = number-grows first second left down_grows left_first

      pub equal_sorted : is_well_sorted second (equal left right) ≡ true
      equal_sorted = sorted_equality second left right left_second (number-grows first second right down_grows right_first)

      front : Grows nodes second
      front = grows-trans nodes first second up_grows down_grows

      at_up : slice_get second up ≡ Some (at_most left right)
      at_up =
          let there = made-at nodes (at_most left right) (record { nodes = first; number = up }) up_is in
          get-grows first second up down_grows (slice_get_within first up (at_most left right) there) ∙ there

      at_down : slice_get second down ≡ Some (at_most right left)
      at_down = made-at first (at_most right left) (record { nodes = second; number = down }) down_is

module _ (s : Sequent) (rounds : ℕ) (old : State) (searches : Searches s rounds old) (left right up down n : ℕ) (first second third : Derivation) (left_is : is_number old.derivation.nodes left ≡ true) (right_is : is_number old.derivation.nodes right ≡ true)
    (up_is : made old.derivation.nodes (at_most left right) ≡ record { nodes = first.nodes; number = up }) (runs_up : (s : Sequent) (all : List Clause) → Runs s old.derivation all → Runs s first all)
    (down_is : made first.nodes (at_most right left) ≡ record { nodes = second.nodes; number = down }) (runs_down : (s : Sequent) (all : List Clause) → Runs s first all → Runs s second all)
    (n_is : made second.nodes (equal left right) ≡ record { nodes = third.nodes; number = n }) (runs_n : (s : Sequent) (all : List Clause) → Runs s second all → Runs s third all)
    (leaf : IsApartLeaf old.set (clauses_of old) old.derivation.nodes (branch_of old.trail) left right) where
  abbrev nodes : List Node
  nodes = old.derivation.nodes

  abbrev all : List Clause
  all = searches.all

  one : IsSearching s rounds all (record old { derivation = first })
  one = makes_node s rounds all old searches.is (at_most left right) (up_sorted nodes left right left_is right_is) refl refl first (makes nodes (at_most left right) first.nodes up up_is) (runs_up s all searches.is.runs)

  two : IsSearching s rounds all (record old { derivation = second })
  two = makes_node s rounds all (record old { derivation = first }) one (at_most right left) (down_sorted nodes left right left_is right_is first.nodes up up_is) refl refl second (makes first.nodes (at_most right left) second.nodes down down_is) (runs_down s all one.runs)

  makes_it : Makes second.nodes third.nodes (equal left right)
  makes_it = makes second.nodes (equal left right) third.nodes n n_is

  at : slice_get third.nodes n ≡ Some (equal left right)
  at = made-at second.nodes (equal left right) (record { nodes = third.nodes; number = n }) n_is

  begins : take (length nodes) second.nodes ≡ nodes
  begins = front nodes left right left_is right_is first.nodes up up_is second.nodes down down_is

  number : IsNumber second.nodes left
  number = left_second nodes left right left_is right_is first.nodes up up_is second.nodes down down_is

  -- it is new
  pub new_equality : (new : State) → length second.nodes < length third.nodes → IsDefined (record old { derivation = third }) n up down new → HasEquality s rounds new n
  new_equality new longer defined =
      let up_there = at_up nodes left right left_is right_is first.nodes up up_is second.nodes down down_is in
      let down_there = at_down nodes left right left_is right_is first.nodes up up_is second.nodes down down_is in
      let sorted = equal_sorted nodes left right left_is right_is first.nodes up up_is second.nodes down down_is in
      let runs = runs_n s all two.runs in
      record {
        searches = record { all = _; is = equality_made s rounds all (record old { derivation = second }) two left right up down n third new number.1 number.0 up_there down_there sorted makes_it at longer runs defined };
        follows = equality_decided s rounds all (record old { derivation = second }) two left right up down n third new number.1 number.0 up_there down_there sorted makes_it at longer runs defined nodes begins leaf;
        formula = equality_is_formula s rounds all (record old { derivation = second }) two left right up down n third new number.1 number.0 up_there down_there sorted makes_it at longer runs defined;
      }

  -- it stood there
  pub old_equality : length third.nodes ≤ length second.nodes → HasEquality s rounds (record old { derivation = third }) n
  old_equality le =
      let same = same_where second.nodes third.nodes (equal left right) makes_it le in
      record {
        searches = record { all = all; is = with_log s rounds all (record old { derivation = second }) two third same (runs_n s all two.runs) };
        follows =
            subst (λ (cs : List GroundClause). ComesNext old.set third.nodes cs (branch_of old.trail) (yes n)) (append-nil (clauses_of old))
            (equality_follows old.set (clauses_of old) [] nodes third.nodes (subst IsTable (sym same) two.standing.place.table) (ap (take (length nodes)) same ∙ begins) (none_later (length nodes)) (branch_of old.trail) left right n leaf at);
        formula = truth_formula third.nodes n (equal left right) at refl;
      }
