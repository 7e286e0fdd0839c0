-- A decision that two numbers are equal.
use Rattle.std.proofs.Common.{◌≡◌, inl, ⊎_elim, ℕ, suc, ◌<◌, true, false, ◌&&◌, nat_lt, List, [], ◌∷◌, ◌++◌, map, take, length, Vec, Some, slice_get, refl, Bool, sym, ap, ◌∙◌, subst, arith, append_assoc, lt-ltb}
use Rattle.std.specs.List.{list_all}
use Rattle.std.specs.declared.alloc.Global.{Global}
use Rattle.std.proofs.lemmas.Bool.{and_from, cases_Bool}
use Rattle.std.proofs.lemmas.List.Folds.{list_all-append}
use Rattle.std.proofs.lemmas.Option.{slice_get_within}
use Rattle.df_lemmas.proofs.Lists.{get_pushed}
use Rattle.df_form.specs.declared.log.Lit.{Lit}
use Rattle.df_form.specs.declared.node.Sort.TheVariants as sorts
use Rattle.df_form.specs.Node.{Node}
use Rattle.df_form.specs.Sorting.{IsTable, sort_at, is_formula, is_well_sorted, are_two_values}
use Rattle.df_form.specs.Clause.{Clause, yes, no, is_among, are_literals}
use Rattle.df_form.specs.Sequent.{Sequent}
use Rattle.df_form.proofs.Same.{values_from}
use Rattle.df_form.proofs.Tables.{number_of_none}
use Rattle.df_form.proofs.Values.{Grows, grown_get, grown_sort}
use Rattle.df_rules.specs.Bound.{at_most}
use Rattle.df_rules.specs.Growth.{IsNumber}
use Rattle.df_rules.proofs.Growth.{get-grows, grows-trans, length-grows}
use Rattle.df_clause.specs.Among.{Among}
use Rattle.df_clause.proofs.Running.{grown_from}
use Rattle.df_clause.proofs.Literals.{literals_grown}
use Rattle.df_closure.specs.Closure.{GroundClause, after}
use Rattle.df_closure.specs.Filled.{AreComparing}
use Rattle.df_logbuild.specs.declared.derivation.Derivation.{Derivation}
use Rattle.df_logbuild.specs.Runs.{Runs}
use Rattle.df_logbuild.proofs.Added.{length_more}
use Rattle.df_trail.specs.declared.trail.Trail.{Trail}
use Rattle.df_trail.specs.Trail.{branch_of, IsTrail}
use Rattle.df_trail.proofs.Retreated.{decided_grown}
use Rattle.df_branch.specs.TermPair.{equal}
use Rattle.df_branch.specs.Evidence.{of_equality, IsOfEquality}
use Rattle.df_branch.specs.Next.{ComesNext}
use Rattle.df_branch.specs.Place.{IsPlace, equality_clauses}
use Rattle.df_branch.specs.Leaf.{IsApartLeaf}
use Rattle.df_branch.proofs.Formulas.{get_joined, formula_below}
use Rattle.df_branch.proofs.LaterClauses.{AreLater}
use Rattle.df_branch.proofs.LaterMeanings.{HaveMeaningsFrom, meanings_grow}
use Rattle.df_branch.proofs.Equalities.{of_equality_later, equality_clauses_later, first_line, second_line, third_line, each_of_equality, equality_meanings}
use Rattle.df_branch.proofs.Growing.{quiet_list_later, filled_later}
use Rattle.df_search.specs.declared.searching.State.{State}
use Rattle.df_search.specs.Places.{AreIn}
use Rattle.df_search.specs.Searching.{clauses_of, branches_of, AreCounted, AllLeave, IsPath, IsSearching}
use Rattle.df_search.proofs.Covering.{quiet_of}
use Rattle.df_search.proofs.Paths.{path_later}
use Rattle.df_search.specs.Moves.{literals_in, AreLines, IsDefined}
use Rattle.df_search.proofs.Growing.{Makes, stood, added, log_more, counted_later, begins_more, table_more, set_begins, clause_formulas_later}
use Rattle.df_search.proofs.Splitting.{truth_formula}

-- two numbers may be equal
pub sorted_equality : (nodes : List Node) (a b : ℕ) → IsNumber nodes a → IsNumber nodes b → is_well_sorted nodes (equal a b) ≡ true
sorted_equality nodes a b is_a is_b =
    and_from (list_all (λ part. nat_lt part (length nodes)) (a ∷ b ∷ [])) (are_two_values (sort_at nodes a ∷ sort_at nodes b ∷ []))
    (and_from (nat_lt a (length nodes)) (nat_lt b (length nodes) && true) (lt-ltb a (length nodes) is_a.0) (and_from (nat_lt b (length nodes)) true (lt-ltb b (length nodes) is_b.0) refl))
    (values_from (sort_at nodes a) (sort_at nodes b) (is_a.1 ∙ sym is_b.1) (λ e. no_truth (sym is_a.1 ∙ e)))
  where
    no_truth : sorts.Number ≡ sorts.Truth → ⊥
    no_truth e = cc

three_formulas : (n up down : Bool) → n ≡ true → up ≡ true → down ≡ true → ((n && (up && true)) && ((n && (down && true)) && ((n && (up && (down && true))) && true))) ≡ true
three_formulas n up down e f g = rw (e, f, g) refl

-- an equality that no known literal is of may be decided
module _ (set : List Node) (clauses more_clauses : List GroundClause) (nodes more : List Node) (table : IsTable more) (begins : take (length nodes) more ≡ nodes) (later : AreLater (length nodes) more_clauses) (branch : List Lit) (left right n : ℕ) (leaf : IsApartLeaf set clauses nodes branch left right) (at : slice_get more n ≡ Some (equal left right)) where
  unknown : (l : Lit) → l.node ≡ n → (slice_get nodes n ≡ Some (equal left right) → is_among (after branch leaf.learned) l ≡ false) → is_among (after branch leaf.learned) l ≡ false
  unknown l is none = ⊎_elim (λ there. here there) (λ e. e) (cases_Bool (is_among (after branch leaf.learned) l))
    where
      here : is_among (after branch leaf.learned) l ≡ true → is_among (after branch leaf.learned) l ≡ false
      here there =
          let low : n < length nodes = subst (λ (k : ℕ). k < length nodes) is (formula_below nodes (after branch leaf.learned) l there leaf.unshut.formulas) in
          none (sym (get-grows nodes more n begins low) ∙ at)

  pub equality_follows : ComesNext set more (clauses ++ more_clauses) branch (yes n)
  equality_follows = record {
    learned = leaf.learned;
    quiet = quiet_list_later clauses more_clauses nodes more table begins later branch leaf.learned (quiet_of leaf.unshut);
    not_true = unknown (yes n) refl (leaf.not_true n);
    not_false = unknown (no n) refl (leaf.not_false n);
    decision = inl (of_equality (filled_later clauses more_clauses nodes more table begins later (after branch leaf.learned) leaf.unshut.formulas leaf.filled) (record {
      left = left;
      right = right;
      is = at;
      different = leaf.different;
      pair = leaf.pair;
    }));
  }

-- a new equality, with what it means
module _ (s : Sequent) (rounds : ℕ) (all : List Clause) (old : State) (is : IsSearching s rounds all old) (left right up down n : ℕ) (derivation : Derivation) (new : State) (sort : sort_at old.derivation.nodes left ≡ sorts.Number) (below : left < length old.derivation.nodes)
    (at_up : slice_get old.derivation.nodes up ≡ Some (at_most left right)) (at_down : slice_get old.derivation.nodes down ≡ Some (at_most right left)) (sorted : is_well_sorted old.derivation.nodes (equal left right) ≡ true)
    (makes_it : Makes old.derivation.nodes derivation.nodes (equal left right)) (at : slice_get derivation.nodes n ≡ Some (equal left right)) (longer : length old.derivation.nodes < length derivation.nodes) (runs : Runs s derivation all)
    (defined : IsDefined (record old { derivation = derivation }) n up down new) where
  abbrev nodes : List Node
  nodes = old.derivation.nodes

  abbrev more : List Node
  more = derivation.nodes

  abbrev extra : List GroundClause
  extra = equality_clauses n up down

  -- it is the last node
  is_last : n ≡ length nodes
  is_last = by makes_it
    where
      by : Makes nodes more (equal left right) → n ≡ length nodes
      by (stood same) = absurd (omega (arith, ap length same, longer))
      by (added same none) = ⊎_elim (λ there. absurd (number_of_none nodes (equal left right) n none there)) (λ last. last.0) (get_pushed nodes (equal left right) n (equal left right) (ap (λ (ns : List Node). slice_get ns n) (sym same) ∙ at))

  is_end : length more ≡ suc n
  is_end = by makes_it
    where
      by : Makes nodes more (equal left right) → length more ≡ suc n
      by (stood same) = absurd (omega (arith, ap length same, longer))
      by (added same none) = let long = length_more nodes (equal left right) in omega (arith, ap length same, long, is_last)

  table : IsTable more
  table = table_more nodes more (equal left right) makes_it is.standing.place.table sorted

  begins : take (length nodes) more ≡ nodes
  begins = begins_more nodes more (equal left right) makes_it

  grows : Grows nodes more
  grows = grown_from nodes more begins

  later : AreLater (length nodes) extra
  later = equality_clauses_later (length nodes) n up down (omega (arith, is_last))

  sort_now : sort_at more left ≡ sorts.Number
  sort_now = grown_sort nodes more grows left below ∙ sort

  up_now : slice_get more up ≡ Some (at_most left right)
  up_now = grown_get nodes more grows up (at_most left right) at_up

  down_now : slice_get more down ≡ Some (at_most right left)
  down_now = grown_get nodes more grows down (at_most right left) at_down

  lines : AreLines more n up down
  lines = (first_line more table n left right up down at sort_now up_now down_now, second_line more table n left right up down at sort_now up_now down_now, third_line more table n left right up down at sort_now up_now down_now)

  place : IsPlace old.set (clauses_of old ++ extra) more (branch_of old.trail)
  place = record {
    table = table;
    begins = set_begins old.set nodes more (equal left right) makes_it is.standing.place.begins;
    formulas = literals_grown nodes more grows (branch_of old.trail) is.standing.place.formulas;
    consistent = is.standing.place.consistent;
    clause_formulas =
        list_all-append (λ (clause : GroundClause). are_literals more clause.literals) (clauses_of old) extra
        ∙ and_from (list_all (λ (clause : GroundClause). are_literals more clause.literals) (clauses_of old)) (list_all (λ (clause : GroundClause). are_literals more clause.literals) extra) (clause_formulas_later nodes more begins (clauses_of old) is.standing.place.clause_formulas) formulas;
    meanings = meanings_grow nodes more table begins (clauses_of old) is.standing.place.meanings extra
        (subst (λ (k : ℕ). HaveMeaningsFrom k more extra) is_last (equality_meanings more table n left right up down at sort_now up_now down_now none_past));
  }
    where
      none_past : AreComparing (suc n) more
      none_past m node past there = let within = slice_get_within more m node there in absurd (omega (arith, within, past, is_end))

      formulas : list_all (λ (clause : GroundClause). are_literals more clause.literals) extra ≡ true
      formulas = three_formulas (is_formula more n) (is_formula more up) (is_formula more down) (truth_formula more n (equal left right) at refl) (truth_formula more up (at_most left right) up_now refl) (truth_formula more down (at_most right left) down_now refl)

  -- what is said of the state before, with these nodes and clauses, is said of the new one
  moved : (P : List Node → List GroundClause → List Node → Trail → List (List Lit) → Type 0) → P old.set (clauses_of old ++ extra) more old.trail (branches_of old) → P new.set (clauses_of new) new.derivation.nodes new.trail (branches_of new)
  moved P h =
      subst (λ (x : List Node). P x (clauses_of new) new.derivation.nodes new.trail (branches_of new)) (sym defined.set)
      (subst (λ (x : List GroundClause). P old.set x new.derivation.nodes new.trail (branches_of new)) (sym defined.clauses_are)
      (subst (λ (x : List Node). P old.set (clauses_of old ++ extra) x new.trail (branches_of new)) (sym defined.nodes)
      (subst (λ (x : Trail). P old.set (clauses_of old ++ extra) more x (branches_of new)) (sym defined.trail)
      (subst (λ (x : List (List Lit)). P old.set (clauses_of old ++ extra) more old.trail x) (λ i. map (λ (b : Vec Lit Global). b.items) (sym defined.closed i).items) h))))

  adds : Runs s new.derivation (all ++ map literals_in extra) × AreIn (clauses_of new) new.places.items (all ++ map literals_in extra)
  adds = defined.adds s all runs is.standing.lines lines

  of_equalities : (clause : GroundClause) → Among (is.standing.more ++ extra) clause → IsOfEquality more clause
  of_equalities clause there = ⊎_elim (λ before. of_equality_later nodes more table begins clause (is.standing.of_equalities clause (there.0, before))) (λ own. each_of_equality more table n left right up down at sort_now up_now down_now clause own) (get_joined is.standing.more extra there.0 clause there.1)

  pub equality_made : IsSearching s rounds (all ++ map literals_in extra) new
  equality_made = record {
    standing = record {
      ground_set = is.standing.ground_set;
      is_of = is.standing.is_of;
      set_is = defined.set ∙ is.standing.set_is;
      more = is.standing.more ++ extra;
      clauses_are = defined.clauses_are ∙ ap (λ (cs : List GroundClause). cs ++ extra) is.standing.clauses_are ∙ append_assoc is.standing.ground_set.clauses is.standing.more extra;
      of_equalities = λ clause there. subst (λ (ns : List Node). IsOfEquality ns clause) (sym defined.nodes) (of_equalities clause there);
      lines = adds.1;
      place = moved (λ set cs ns t bs. IsPlace set cs ns (branch_of t)) place;
      trail = moved (λ set cs ns t bs. IsTrail (all ++ map literals_in extra) t) (decided_grown all (map literals_in extra) [] old.trail.decisions.items is.standing.trail);
      path = moved (λ set cs ns t bs. IsPath set ns cs t) (path_later (clauses_of old) extra nodes more table begins later old.set [] old.trail.decisions.items is.standing.path);
      counted = moved (λ set cs ns t bs. AreCounted s set ns cs bs) (counted_later (clauses_of old) extra nodes more table begins later old.set s (λ branch has. log_more s nodes more (equal left right) branch makes_it sorted refl has) (branches_of old) is.standing.counted);
    };
    runs = adds.0;
    leave = moved (λ set cs ns t bs. AllLeave t.decisions.items bs) is.leave;
  }

  -- and it may be decided, where it was apart among fewer nodes
  pub equality_decided : (first : List Node) → take (length first) nodes ≡ first → IsApartLeaf old.set (clauses_of old) first (branch_of old.trail) left right → ComesNext new.set new.derivation.nodes (clauses_of new) (branch_of new.trail) (yes n)
  equality_decided first front leaf =
      let from = grows-trans first nodes more front begins in
      let shorter = length-grows first nodes front in
      moved (λ set cs ns t bs. ComesNext set ns cs (branch_of t) (yes n))
      (equality_follows old.set (clauses_of old) extra first more table from (equality_clauses_later (length first) n up down (omega (arith, is_last, shorter))) (branch_of old.trail) left right n leaf at)

  pub equality_is_formula : is_formula new.derivation.nodes n ≡ true
  equality_is_formula = ap (λ (ns : List Node). is_formula ns n) defined.nodes ∙ truth_formula more n (equal left right) at refl
