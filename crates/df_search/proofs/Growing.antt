-- More nodes leave a search as it is.
use Rattle.std.proofs.Common.{◌≡◌, ⊎_elim, ℕ, append-nil, Bool, true, false, not, ◌&&◌, if◌then◌else◌, List, [], ◌∷◌, ◌++◌, take, length, Option, Some, None, slice_get, refl, sym, ap, ◌∙◌, subst, arith}
use Rattle.std.proofs.lemmas.List.{take-append-le, take_at, take_all}
use Rattle.std.specs.Option.{option_and_then, option_map}
use Rattle.df_rules.proofs.Logs.{after_all-append}
use Rattle.std.proofs.lemmas.Option.{slice_get_within}
use Rattle.std.specs.List.{list_all}
use Rattle.df_lemmas.proofs.Lists.{get_pushed, all_weaker}
use Rattle.df_form.specs.declared.log.Lit.{Lit}
use Rattle.df_form.specs.Node.{Node, number_of}
use Rattle.df_form.specs.Made.{Made, made, made_where}
use Rattle.df_form.specs.Sorting.{IsTable, is_well_sorted}
use Rattle.df_form.specs.Clause.{Clause, are_literals}
use Rattle.df_form.specs.Log.{Make}
use Rattle.df_form.specs.Sequent.{Sequent}
use Rattle.df_form.specs.World.{World}
use Rattle.df_rules.specs.Derivation.{begin, after_all, made_line, is_foreign, is_new}
use Rattle.df_closure.specs.Closure.{GroundClause}
use Rattle.df_closure.specs.Filled.{is_comparing, AreComparing}
use Rattle.df_logbuild.specs.declared.derivation.Derivation.{Derivation}
use Rattle.df_logbuild.specs.Runs.{Runs}
use Rattle.df_trail.specs.Trail.{branch_of}
use Rattle.df_branch.specs.Evidence.{HasLog}
use Rattle.df_branch.proofs.LaterClauses.{AreLater}
use Rattle.df_branch.proofs.LaterMeanings.{meanings_stay}
use Rattle.df_branch.proofs.Equalities.{of_equality_later}
use Rattle.df_branch.proofs.Growing.{shut_later, branch_later}
use Rattle.df_search.specs.declared.searching.State as declared
use Rattle.df_search.specs.Searching.{clauses_of, branches_of, AreCounted, IsPath, IsSearching}
use Rattle.df_search.proofs.Paths.{path_later}
use Rattle.df_form.proofs.Tables.{table_next}
use Rattle.df_form.proofs.Values.{grown_length}
use Rattle.df_clause.proofs.Running.{grown_from}
use Rattle.df_clause.proofs.Literals.{literals_grown}

-- a node that is made: it stands there, or is the one that is added
pub data Makes (nodes more : List Node) (node : Node) : Type 0 where
  stood : more ≡ nodes → Makes nodes more node
  added : more ≡ nodes ++ node ∷ [] → number_of nodes node ≡ None → Makes nodes more node

pub makes : (nodes : List Node) (node : Node) (more : List Node) (number : ℕ) → made nodes node ≡ record { nodes = more; number = number } → Makes nodes more node
makes nodes node more number e = by (number_of nodes node) refl e
  where
    by : (found : Option ℕ) → number_of nodes node ≡ found → made_where nodes node found ≡ record { nodes = more; number = number } → Makes nodes more node
    by None is e = added (sym (ap (λ (m : Made). m.nodes) e)) is
    by (Some n) is e = stood (sym (ap (λ (m : Made). m.nodes) e))

-- the line that makes a node
made_line_is : (world : World) (nodes : List Node) (node : Node) → is_well_sorted nodes node ≡ true → is_foreign world node.op ≡ false → number_of nodes node ≡ None → made_line world nodes node ≡ Some (nodes ++ node ∷ [])
made_line_is world nodes node sorted bound new =
    ap (λ (b : Bool). if not b && is_well_sorted nodes node && is_new (number_of nodes node) then Some (nodes ++ node ∷ []) else None) bound
    ∙ ap (λ (b : Bool). if b && is_new (number_of nodes node) then Some (nodes ++ node ∷ []) else None) sorted
    ∙ ap (λ (o : Option ℕ). if is_new o then Some (nodes ++ node ∷ []) else None) new

pub log_more : (s : Sequent) (nodes more : List Node) (node : Node) (branch : List Lit) → Makes nodes more node → is_well_sorted nodes node ≡ true → is_foreign s.world node.op ≡ false → HasLog s nodes branch → HasLog s more branch
log_more s nodes more node branch (stood same) sorted bound has = subst (λ (ns : List Node). HasLog s ns branch) (sym same) has
log_more s nodes more node branch (added same new) sorted bound has = record {
  log = has.log ++ Make node ∷ [];
  clauses = has.clauses;
  run =
      after_all-append s (begin s) has.log (Make node ∷ [])
      ∙ ap (option_and_then (λ next. after_all s next (Make node ∷ []))) has.run
      ∙ ap (λ (o : Option (List Node)). option_and_then (λ next. after_all s next []) (option_map (λ ns. record { nodes = ns; clauses = has.clauses }) o)) (made_line_is s.world nodes node sorted bound new)
      ∙ (λ i. Some (record { nodes = sym same i; clauses = has.clauses }));
  number = has.number;
  there = has.there;
}

-- counted branches stay so, where clauses of later equalities are added too
module _ (clauses extra : List GroundClause) (nodes more : List Node) (table : IsTable more) (begins : take (length nodes) more ≡ nodes) (later : AreLater (length nodes) extra) where
  pub counted_later : (set : List Node) (s : Sequent) → ((branch : List Lit) → HasLog s nodes branch → HasLog s more branch) → (branches : List (List Lit)) → AreCounted s set nodes clauses branches → AreCounted s set more (clauses ++ extra) branches
  counted_later set s logs [] all = tt
  counted_later set s logs (branch ∷ others) all = (
    record {
      branch_is = branch_later clauses extra nodes more table begins later set [] branch all.0.branch_is;
      shut = shut_later clauses extra nodes more table begins later branch all.0.shut;
      has_log = logs branch all.0.has_log;
    },
    all.1,
    counted_later set s logs others all.2,
  )

pub begins_more : (nodes more : List Node) (node : Node) → Makes nodes more node → take (length nodes) more ≡ nodes
begins_more nodes more node (stood same) = ap (take (length nodes)) same ∙ take_all (length nodes) nodes (omega arith)
begins_more nodes more node (added same new) = ap (take (length nodes)) same ∙ take_at nodes (node ∷ []) (length nodes) refl

pub table_more : (nodes more : List Node) (node : Node) → Makes nodes more node → IsTable nodes → is_well_sorted nodes node ≡ true → IsTable more
table_more nodes more node (stood same) table sorted = subst IsTable (sym same) table
table_more nodes more node (added same new) table sorted = subst IsTable (sym same) (table_next nodes node table sorted new)

pub set_begins : (set nodes more : List Node) (node : Node) → Makes nodes more node → take (length set) nodes ≡ set → take (length set) more ≡ set
set_begins set nodes more node (stood same) begins = ap (take (length set)) same ∙ begins
set_begins set nodes more node (added same new) begins = ap (take (length set)) same ∙ take-append-le (length set) nodes (node ∷ []) (grown_length set nodes (grown_from set nodes begins)) ∙ begins

comparing_more : (nodes more : List Node) (node : Node) → Makes nodes more node → is_comparing node.op ≡ true → AreComparing (length nodes) more
comparing_more nodes more node (stood same) is n other past e = let within = slice_get_within nodes n other (ap (λ (ns : List Node). slice_get ns n) (sym same) ∙ e) in absurd (omega (arith, within, past))
comparing_more nodes more node (added same new) is n other past e =
    ⊎_elim (λ there. let within = slice_get_within nodes n other there in absurd (omega (arith, within, past))) (λ last. subst (λ (m : Node). is_comparing m.op ≡ true) last.1 is) (get_pushed nodes node n other (ap (λ (ns : List Node). slice_get ns n) (sym same) ∙ e))

-- the formulas of clauses stay
pub clause_formulas_later : (nodes more : List Node) → take (length nodes) more ≡ nodes → (clauses : List GroundClause) → list_all (λ (clause : GroundClause). are_literals nodes clause.literals) clauses ≡ true → list_all (λ (clause : GroundClause). are_literals more clause.literals) clauses ≡ true
clause_formulas_later nodes more begins clauses all =
    all_weaker (λ (clause : GroundClause). are_literals nodes clause.literals) (λ (clause : GroundClause). are_literals more clause.literals) clauses (λ clause e. literals_grown nodes more (grown_from nodes more begins) clause.literals e) all

pub none_later : (count : ℕ) → AreLater count []
none_later count clause (n, at) = absurd cc

-- a search whose log makes a number or a comparison
pub makes_node : (s : Sequent) (rounds : ℕ) (all : List Clause) (old : declared.State) → IsSearching s rounds all old → (node : Node) → is_well_sorted old.derivation.nodes node ≡ true → is_foreign s.world node.op ≡ false → is_comparing node.op ≡ true → (derivation : Derivation) → Makes old.derivation.nodes derivation.nodes node → Runs s derivation all
    → IsSearching s rounds all (record old { derivation = derivation })
makes_node s rounds all old is node sorted bound compares derivation makes_it runs =
    let nodes = old.derivation.nodes in
    let more = derivation.nodes in
    let table = table_more nodes more node makes_it is.standing.place.table sorted in
    let begins = begins_more nodes more node makes_it in
    let none = none_later (length nodes) in
    let same : clauses_of old ++ [] ≡ clauses_of old = append-nil (clauses_of old) in
    record {
      standing = record {
        ground_set = is.standing.ground_set;
        is_of = is.standing.is_of;
        set_is = is.standing.set_is;
        more = is.standing.more;
        clauses_are = is.standing.clauses_are;
        of_equalities = λ clause there. of_equality_later nodes more table begins clause (is.standing.of_equalities clause there);
        lines = is.standing.lines;
        place = record {
          table = table;
          begins = set_begins old.set nodes more node makes_it is.standing.place.begins;
          formulas = literals_grown nodes more (grown_from nodes more begins) (branch_of old.trail) is.standing.place.formulas;
          consistent = is.standing.place.consistent;
          clause_formulas = clause_formulas_later nodes more begins (clauses_of old) is.standing.place.clause_formulas;
          meanings = meanings_stay nodes more table begins (clauses_of old) is.standing.place.meanings (comparing_more nodes more node makes_it compares);
        };
        trail = is.standing.trail;
        path = subst (λ (cs : List GroundClause). IsPath old.set more cs old.trail) same (path_later (clauses_of old) [] nodes more table begins none old.set [] old.trail.decisions.items is.standing.path);
        counted =
            subst (λ (cs : List GroundClause). AreCounted s old.set more cs (branches_of old)) same
            (counted_later (clauses_of old) [] nodes more table begins none old.set s (λ branch has. log_more s nodes more node branch makes_it sorted bound has) (branches_of old) is.standing.counted);
      };
      runs = runs;
      leave = is.leave;
    }
