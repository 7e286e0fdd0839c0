-- What the closed list at a place leads to.
use Rattle.std.proofs.Common.{◌≡◌, ℕ, suc, true, List, [], ◌∷◌, length, Option, Some, None, refl, sym, ap, ◌∙◌, subst, Vec, Result, Ok, Err, IfOk, inl, inr}
use Rattle.std.specs.declared.alloc.Global.{Global}
use Rattle.std.specs.List.{list_all}
use Rattle.std.proofs.lemmas.Bool.{and_from}
use Rattle.df_form.specs.declared.log.Lit.{Lit}
use Rattle.df_form.specs.Node.{Node}
use Rattle.df_form.specs.Clause.{are_literals}
use Rattle.df_form.specs.Sorting.{IsTable, is_formula}
use Rattle.df_form.specs.Log.{Combination}
use Rattle.df_row.specs.Row.{Row}
use Rattle.df_row.specs.RowView.{IsWithin}
use Rattle.df_row.specs.Linear.{rows_of, refutes}
use Rattle.df_row.specs.LinearView.{AreWithin}
use Rattle.df_row.proofs.LinearWithin.{table_within}
use Rattle.df_rules.specs.declared.known.Known.{Known}
use Rattle.df_rules.specs.Known.{IsSetOf}
use Rattle.df_cong.specs.declared.answer.Congruence.{Congruence}
use Rattle.df_cong.specs.declared.answer.Reason.{Reason}
use Rattle.df_cong.specs.Congruence.{HasLabels, TellsCongruence}
use Rattle.df_cong.specs.Theory.{IsReason}
use Rattle.df_closure.specs.Closure.{GroundClause, Taught, nothing, more, after, IsClosed}
use Rattle.df_closure.specs.declared.closure.Closure.{Closure}
use Rattle.df_closure.specs.declared.closure.Closure.TheVariants.{Closed}
use Rattle.df_closure.specs.Closes.{Closes}
use Rattle.df_closure.specs.Filled.{IsFilled}
use Rattle.df_closure.proofs.Lists.{taught_is_of}
use Rattle.df_level.specs.declared.row.Row as declared
use Rattle.df_level.specs.Levels.{Stands, level_rows}
use Rattle.df_level.specs.Levels.{rows_of as code_rows}
use Rattle.df_elim.specs.declared.elimination.Elimination.{Elimination}
use Rattle.df_elim.specs.declared.elimination.Elimination.TheVariants as answers
use Rattle.df_elim.specs.declared.elimination.Levels.{Levels}
use Rattle.df_elim.specs.Elimination.{IsWhole, TellsElimination}
use Rattle.df_level.specs.Elimination.{AreRefuted}
use Rattle.df_branch.specs.Facts.{TellsRows}
use Rattle.df_branch.specs.Filling.{TellsOpen, IsOpenMember}
use Rattle.df_branch.specs.Overflow.{in_row, in_level, of_rows}
use Rattle.df_branch.specs.Place.{IsPlace}
use Rattle.df_branch.specs.Leaf.{IsUnsolvable, IsIncongruent, IsWideLeaf, IsManyLeaf, IsOpenLeaf}
use Rattle.df_branch.specs.ClosedPlace.{IsClosedPlace, IsClosedAt}
use Rattle.df_branch.specs.FilledPlace.{IsFullPlace, IsFilledPlace}
use Rattle.df_branch.proofs.Formulas.{all_at, formula_of}
use Rattle.df_branch.proofs.Zeros.{first_within}

module _ (clauses : List GroundClause) (nodes : List Node) (formulas : list_all (λ (clause : GroundClause). are_literals nodes clause.literals) clauses ≡ true) where
  taught_formulas : (known : List Lit) (numbers : List ℕ) (learned : List Lit) → Taught clauses known numbers learned → are_literals nodes known ≡ true → are_literals nodes (after known learned) ≡ true
  taught_formulas known numbers learned nothing all = all
  taught_formulas known numbers learned (more {numbers = ns} {literal = l} {literals = ls} first rest) all =
      let clause = all_at (λ (c : GroundClause). are_literals nodes c.literals) clauses _ first.clause first.there formulas in
      let formula = formula_of nodes first.clause.literals l (taught_is_of known first.clause.literals l first.left) clause in
      taught_formulas (l ∷ known) ns ls rest (and_from (is_formula nodes l.node) (are_literals nodes known) formula all)

pub known_formulas : (set : List Node) (clauses : List GroundClause) (nodes : List Node) (branch : List Lit) (reasons : List ℕ) (learned : List Lit) → IsPlace set clauses nodes branch → IsClosed clauses branch reasons learned → are_literals nodes (after branch learned) ≡ true
known_formulas set clauses nodes branch reasons learned place closed = taught_formulas clauses nodes place.clause_formulas branch reasons learned closed.taught place.formulas

-- where each open clause is false, and none is, none is open
pub none_open : (clauses : List GroundClause) (branch : List Lit) (reasons : List ℕ) (learned : List Lit) → IsClosed clauses branch reasons learned → TellsOpen clauses (after branch learned) None → IsFilled clauses (after branch learned)
none_open clauses branch reasons learned closed tells clause is_open = closed.stands is_open.number (record { clause = clause; there = is_open.there; counts = is_open.counts; left = tells clause is_open })

pub ok_weaker : {A E : Type 0} (result : Result A E) (P Q : A → Type 0) → ((a : A) → P a → Q a) → IfOk result P → IfOk result Q
ok_weaker (Ok a) P Q go h = go a h
ok_weaker (Err e) P Q go h = tt

-- what calls answer of the lists that they were lent
pub congruent : (nodes : List Node) (lent facts : List Lit) (answer other : Congruence) → TellsCongruence nodes lent answer → lent ≡ facts → answer ≡ other → TellsCongruence nodes facts other
congruent nodes lent facts answer other tells lent_is is = subst (λ (l : List Lit). TellsCongruence nodes l other) lent_is (subst (TellsCongruence nodes lent) is tells)

pub found_rows : (nodes : List Node) (lent facts : List Lit) (found other : Option (Vec declared.Row Global)) → TellsRows nodes lent found → lent ≡ facts → found ≡ other → TellsRows nodes facts other
found_rows nodes lent facts found other tells lent_is is = subst (λ (l : List Lit). TellsRows nodes l other) lent_is (subst (TellsRows nodes lent) is tells)

pub eliminated : (lent : List declared.Row) (rows : Vec declared.Row Global) (answer other : Elimination) → TellsElimination (code_rows lent) answer → lent ≡ rows.items → answer ≡ other → TellsElimination (code_rows rows.items) other
eliminated lent rows answer other tells lent_is is = subst (TellsElimination (code_rows rows.items)) is (subst (λ (xs : List declared.Row). TellsElimination (code_rows xs) answer) lent_is tells)

-- a closed list as the code has it
pub record IsClosedList (set : List Node) (clauses : List GroundClause) (nodes : List Node) (branch : List Lit) (known : Known) (reasons : List ℕ) (facts : List Lit) : Type 0 where
  pub at : IsClosedPlace set clauses nodes branch reasons facts
  pub formulas : are_literals nodes facts ≡ true
  pub set_is : IsSetOf facts known

pub closed_list : (set : List Node) (clauses : List GroundClause) (nodes : List Node) (branch : List Lit) → IsPlace set clauses nodes branch
    → (closure : Closure) (known : Known) (learned : Vec Lit Global) (reasons : Vec ℕ Global) → Closes clauses branch closure → closure ≡ Closed known learned reasons
    → (lent facts : List Lit) → lent ≡ learned.items → facts ≡ after branch lent → IsClosedList set clauses nodes branch known reasons.items facts
closed_list set clauses nodes branch place closure known learned reasons closes is lent facts lent_is facts_are =
    let closed = subst (Closes clauses branch) is closes in
    let same = facts_are ∙ ap (after branch) lent_is in
    record {
      at = record { place = place; learned = learned.items; closed = closed.0; facts_are = same };
      formulas = subst (λ (l : List Lit). are_literals nodes l ≡ true) (sym same) (known_formulas set clauses nodes branch reasons.items learned.items place closed.0);
      set_is = subst (λ (l : List Lit). IsSetOf l known) (sym same) closed.1;
    }

pub closed_at : (clauses : List GroundClause) (nodes : List Node) → list_all (λ (clause : GroundClause). are_literals nodes clause.literals) clauses ≡ true → (list : List Lit) → are_literals nodes list ≡ true
    → (closure : Closure) (known : Known) (learned : Vec Lit Global) (reasons : Vec ℕ Global) → Closes clauses list closure → closure ≡ Closed known learned reasons
    → (lent facts : List Lit) → lent ≡ learned.items → facts ≡ after list lent → IsClosedAt clauses nodes list reasons.items facts
closed_at clauses nodes clause_formulas list formulas closure known learned reasons closes is lent facts lent_is facts_are =
    let closed = subst (Closes clauses list) is closes in
    let same = facts_are ∙ ap (after list) lent_is in
    record {
      learned = learned.items;
      closed = closed.0;
      facts_are = same;
      formulas = subst (λ (l : List Lit). are_literals nodes l ≡ true) (sym same) (taught_formulas clauses nodes clause_formulas list reasons.items learned.items closed.0.taught formulas);
    }

-- rows of a table's literals have no nodes past its end
each_within : (count : ℕ) (rows : List Row) → AreWithin count rows → (row : Row) → Stands row rows → IsWithin count row
each_within count [] all row stands = absurd stands
each_within count (r ∷ rows) all row (inl is) = subst (IsWithin count) (sym is) (all.each 0 r refl)
each_within count (r ∷ rows) all row (inr later) = each_within count rows (record { each = λ i x at. all.each (suc i) x at }) row later

pub rows_inside : (nodes : List Node) (facts : List Lit) (rows : List Row) → IsTable nodes → rows_of nodes facts ≡ Some rows → (row : Row) → Stands row rows → IsWithin (length nodes) row
rows_inside nodes facts rows table e = each_within (length nodes) rows (table_within nodes facts rows table e)

pub rows_within : (nodes : List Node) (table : IsTable nodes) (facts : List Lit) (rows : List Row) → rows_of nodes facts ≡ Some rows → (levels : Levels) → IsWhole rows levels → (row : Row) → Stands row (level_rows levels.first) → IsWithin (length nodes) row
rows_within nodes table facts rows rows_are levels whole = first_within (length nodes) rows (level_rows levels.first) whole.elimination.is_first (rows_inside nodes facts rows table rows_are)

module _ (set : List Node) (clauses : List GroundClause) (nodes : List Node) (branch : List Lit) (reasons : List ℕ) (facts : List Lit) (at : IsClosedPlace set clauses nodes branch reasons facts) (formulas : are_literals nodes facts ≡ true) where
  pub incongruent : (reason : Reason) → IsReason nodes facts reason → IsIncongruent clauses nodes branch reasons facts reason
  incongruent reason is = record { learned = at.learned; closed = at.closed; facts_are = at.facts_are; formulas = formulas; is_reason = is }

  abbrev known : List Lit
  known = after branch at.learned

  formulas_of : are_literals nodes known ≡ true
  formulas_of = subst (λ (l : List Lit). are_literals nodes l ≡ true) at.facts_are formulas

  -- where congruence does not contradict it
  module _ (labels : List ℕ) (labels_are : HasLabels nodes facts labels) where
    labels_of : HasLabels nodes known labels
    labels_of = subst (λ (l : List Lit). HasLabels nodes l labels) at.facts_are labels_are

    pub open_leaf : (l : Lit) → IsOpenMember clauses facts l → IsOpenLeaf clauses nodes branch l
    open_leaf l member = record {
      learned = at.learned;
      quiet = record { reasons = reasons; closed = at.closed; formulas = formulas_of; quiet = labels_of.quiet };
      member = subst (λ (k : List Lit). IsOpenMember clauses k l) at.facts_are member;
    }

    pub full_place : TellsOpen clauses facts None → IsFullPlace set clauses nodes branch labels reasons facts
    full_place tells = record { at = at; labels_are = labels_are; filled = none_open clauses branch reasons at.learned at.closed (subst (λ (k : List Lit). TellsOpen clauses k None) at.facts_are tells) }

    pub wide_row : rows_of nodes facts ≡ None → IsWideLeaf set clauses nodes branch
    wide_row none = record {
      reasons = reasons;
      learned = at.learned;
      closed = at.closed;
      formulas = formulas_of;
      quiet = labels_of.quiet;
      overflows = of_rows (in_row (ap (rows_of nodes) (sym at.facts_are) ∙ none));
    }

    -- what comes of its rows
    module _ (rows : List Row) (rows_are : rows_of nodes facts ≡ Some rows) where
      rows_of_known : rows_of nodes known ≡ Some rows
      rows_of_known = ap (rows_of nodes) (sym at.facts_are) ∙ rows_are

      pub unsolvable : (lent : List Row) (combinations : List Combination) → AreRefuted rows → lent ≡ rows → ((count : ℕ) → refutes count lent combinations ≡ true)
          → (x : List Row) × IsUnsolvable clauses nodes branch reasons facts x × ((count : ℕ) → refutes count x combinations ≡ true)
      unsolvable lent combinations are_refuted lent_is refuted = (
        rows,
        record { learned = at.learned; closed = at.closed; facts_are = at.facts_are; formulas = formulas; rows_are = rows_are; refuted = are_refuted },
        λ count. subst (λ (x : List Row). refutes count x combinations ≡ true) lent_is (refuted count),
      )

      pub wide : TellsElimination rows answers.Wide → IsWideLeaf set clauses nodes branch
      wide tells = record { reasons = reasons; learned = at.learned; closed = at.closed; formulas = formulas_of; quiet = labels_of.quiet; overflows = of_rows (in_level rows rows_of_known tells) }

      pub many : (count : ℕ) → TellsElimination rows (answers.Many count) → IsManyLeaf clauses nodes branch count
      many count tells = record { is = tells.0; reasons = reasons; learned = at.learned; closed = at.closed; formulas = formulas_of; quiet = labels_of.quiet; rows = rows; rows_are = rows_of_known; many = tells.1 }

      pub filled_place : (levels : Levels) → IsWhole rows levels → IsFilled clauses known → IsFilledPlace set clauses nodes branch levels labels facts
      filled_place levels whole filled = record {
        place = at.place;
        reasons = reasons;
        learned = at.learned;
        closed = at.closed;
        facts_are = at.facts_are;
        formulas = formulas;
        labels_are = labels_are;
        rows = rows;
        rows_are = rows_of_known;
        whole = whole;
        filled = filled;
      }

-- the same for lists that are lent
pub lent_full : (set : List Node) (clauses : List GroundClause) (nodes : List Node) (branch : List Lit) (labels lent_labels reasons : List ℕ) (facts : List Lit) → lent_labels ≡ labels → IsFullPlace set clauses nodes branch labels reasons facts → IsFullPlace set clauses nodes branch lent_labels reasons facts
lent_full set clauses nodes branch labels lent_labels reasons facts labels_is place = subst (λ (l : List ℕ). IsFullPlace set clauses nodes branch l reasons facts) (sym labels_is) place

pub lent_place : (set : List Node) (clauses : List GroundClause) (nodes : List Node) (branch : List Lit) (levels : Levels) (labels : List ℕ) (facts lent_facts : List Lit) → lent_facts ≡ facts → IsFilledPlace set clauses nodes branch levels labels facts → IsFilledPlace set clauses nodes branch levels labels lent_facts
lent_place set clauses nodes branch levels labels facts lent_facts facts_is place = subst (λ (l : List Lit). IsFilledPlace set clauses nodes branch levels labels l) (sym facts_is) place
