-- Lines that are added keep a log running.
use Rattle.std.proofs.Common.{◌≡◌, ℕ, ◌+◌, ◌<◌, ◌≤◌, Bool, true, false, not, ◌&&◌, if◌then◌else◌, Result, Ok, Err, OnOk, List, [], ◌∷◌, ◌++◌, length, map, Option, Some, None, refl, sym, ap, ◌∙◌, arith}
use Rattle.std.specs.Option.{option_and_then, option_map}
use Rattle.df_rules.proofs.Logs.{after_all-append}
use Rattle.df_form.specs.declared.log.Step as declared
use Rattle.df_form.specs.declared.log.Pair.{Pair}
use Rattle.df_form.specs.Sequent.{Sequent}
use Rattle.df_form.specs.Clause.{Clause}
use Rattle.df_form.specs.Log.{Combination, Connective, Propagation, Congruence, Linear, Make, step_of}
use Rattle.df_form.specs.Node.{Node, number_of}
use Rattle.df_form.specs.Made.{Made, made, made_where}
use Rattle.df_form.specs.Sorting.{is_well_sorted}
use Rattle.df_rules.specs.Propagation.{propagation_line}
use Rattle.df_row.specs.Linear.{linear_line}
use Rattle.df_rules.specs.CongruenceLine.{congruence_line}
use Rattle.df_rules.specs.Connective.{connective_line}
use Rattle.df_rules.specs.Derivation.{State, begin, only_clause, adds, is_foreign, is_new, made_line, after, after_all, ends_empty, Derives}
use Rattle.df_logbuild.specs.declared.derivation.Derivation.{Derivation}
use Rattle.df_logbuild.specs.Runs.{Runs, state_of}

pub mapped_append : {A B : Type 0} (f : A → B) (xs : List A) (x : A) → map f (xs ++ x ∷ []) ≡ map f xs ++ f x ∷ []
mapped_append f [] x = refl
mapped_append f (y ∷ ys) x = ap (λ zs. f y ∷ zs) (mapped_append f ys x)

pub length_more : {A : Type 0} (xs : List A) (x : A) → length (xs ++ x ∷ []) ≡ length xs + 1
length_more [] x = refl
length_more (y ∷ ys) x = let e = length_more ys x in omega (arith, e)

-- one more line, after which there is this state
pub run_more : (s : Sequent) (lines more : List declared.Step) (line : declared.Step) (before after_it : State) → more ≡ lines ++ line ∷ [] → after_all s (begin s) (map step_of lines) ≡ Some before → after s before (step_of line) ≡ Some after_it
    → after_all s (begin s) (map step_of more) ≡ Some after_it
run_more s lines more line before after_it is run step =
    ap (λ (ls : List declared.Step). after_all s (begin s) (map step_of ls)) is
    ∙ ap (after_all s (begin s)) (mapped_append step_of lines line)
    ∙ after_all-append s (begin s) (map step_of lines) (step_of line ∷ [])
    ∙ ap (option_and_then (λ next. after_all s next (step_of line ∷ []))) run
    ∙ ap (option_and_then (λ next. after_all s next [])) step

pub one_more : (s : Sequent) (old new : Derivation) (clauses : List Clause) (clause : Clause) (line : declared.Step) → new.lines.items ≡ old.lines.items ++ line ∷ [] → new.nodes ≡ old.nodes → new.clauses ≡ old.clauses + 1
    → Runs s old clauses → after s (state_of old clauses) (step_of line) ≡ Some (state_of old (clauses ++ clause ∷ [])) → Runs s new (clauses ++ clause ∷ [])
one_more s old new clauses clause line lines nodes count runs step = record {
  run = run_more s old.lines.items new.lines.items line (state_of old clauses) (state_of old (clauses ++ clause ∷ [])) lines runs.run step ∙ ap (λ ns. Some (record { nodes = ns; clauses = clauses ++ clause ∷ [] })) (sym nodes);
  count = length_more clauses clause ∙ ap (λ (n : ℕ). n + 1) runs.count ∙ sym count;
}

-- a line of propagation, and one of linear arithmetic
pub propagated : (s : Sequent) (nodes : List Node) (all : List Clause) (numbers : List ℕ) (conclusion : Clause) → propagation_line nodes all numbers conclusion ≡ Some conclusion
    → after s (record { nodes = nodes; clauses = all }) (Propagation numbers conclusion) ≡ Some (record { nodes = nodes; clauses = all ++ conclusion ∷ [] })
propagated s nodes all numbers conclusion e = ap (λ (o : Option Clause). adds (record { nodes = nodes; clauses = all }) (only_clause nodes o)) e

pub refuted : (s : Sequent) (nodes : List Node) (all : List Clause) (conclusion : Clause) (combinations : List Combination) → linear_line nodes conclusion combinations ≡ Some conclusion
    → after s (record { nodes = nodes; clauses = all }) (Linear conclusion combinations) ≡ Some (record { nodes = nodes; clauses = all ++ conclusion ∷ [] })
refuted s nodes all conclusion combinations e = ap (λ (o : Option Clause). adds (record { nodes = nodes; clauses = all }) (only_clause nodes o)) e

-- one of congruence, and what a connective means
pub incongruent : (s : Sequent) (nodes : List Node) (all : List Clause) (conclusion : Clause) (pairs : List Pair) → congruence_line nodes conclusion pairs ≡ Some conclusion
    → after s (record { nodes = nodes; clauses = all }) (Congruence conclusion pairs) ≡ Some (record { nodes = nodes; clauses = all ++ conclusion ∷ [] })
incongruent s nodes all conclusion pairs e = ap (λ (o : Option Clause). adds (record { nodes = nodes; clauses = all }) (only_clause nodes o)) e

pub defined : (s : Sequent) (nodes : List Node) (all : List Clause) (node clause : ℕ) (literals : Clause) → connective_line nodes node clause ≡ Some (record { nodes = nodes; clause = literals })
    → after s (record { nodes = nodes; clauses = all }) (Connective node clause) ≡ Some (record { nodes = nodes; clauses = all ++ literals ∷ [] })
defined s nodes all node clause literals e = ap (adds (record { nodes = nodes; clauses = all })) e

pub ok_weaker : {X E : Type 0} (r : Result X E) (P Q : Type 0) → (P → Q) → OnOk r P → OnOk r Q
ok_weaker (Ok x) P Q f p = f p
ok_weaker (Err e) P Q f p = tt

-- a node that was made where there are more nodes than before
new_made : (nodes : List Node) (node : Node) (more : List Node) (number : ℕ) (found : Option ℕ) → number_of nodes node ≡ found → made_where nodes node found ≡ record { nodes = more; number = number } → length nodes < length more
    → (number_of nodes node ≡ None) × (more ≡ nodes ++ node ∷ [])
new_made nodes node more number None is e less = (is, sym (ap (λ (m : Made). m.nodes) e))
new_made nodes node more number (Some n) is e less = absurd (let same : nodes ≡ more = ap (λ (m : Made). m.nodes) e in omega (arith, ap length same, less))

pub made_runs : (s : Sequent) (old new : Derivation) (all : List Clause) (line : declared.Step) (node : Node) (number : ℕ) → new.lines.items ≡ old.lines.items ++ line ∷ [] → new.clauses ≡ old.clauses → step_of line ≡ Make node
    → made old.nodes node ≡ record { nodes = new.nodes; number = number } → length old.nodes < length new.nodes → is_well_sorted old.nodes node ≡ true → is_foreign s.world node.op ≡ false → Runs s old all → Runs s new all
made_runs s old new all line node number lines count line_is e less sorted bound runs =
    let found = new_made old.nodes node new.nodes number (number_of old.nodes node) refl e less in
    let made_it : made_line s.world old.nodes node ≡ Some (old.nodes ++ node ∷ []) =
    ap (λ (b : Bool). if not b && is_well_sorted old.nodes node && is_new (number_of old.nodes node) then Some (old.nodes ++ node ∷ []) else None) bound
    ∙ ap (λ (b : Bool). if b && is_new (number_of old.nodes node) then Some (old.nodes ++ node ∷ []) else None) sorted
    ∙ ap (λ (o : Option ℕ). if is_new o then Some (old.nodes ++ node ∷ []) else None) found.0 in
    let step : after s (state_of old all) (step_of line) ≡ Some (record { nodes = old.nodes ++ node ∷ []; clauses = all }) =
    ap (after s (state_of old all)) line_is ∙ ap (λ (o : Option (List Node)). option_map (λ nodes. record { nodes = nodes; clauses = all }) o) made_it in
    record {
      run = run_more s old.lines.items new.lines.items line (state_of old all) (record { nodes = old.nodes ++ node ∷ []; clauses = all }) lines runs.run step ∙ ap (λ ns. Some (record { nodes = ns; clauses = all })) (sym found.1);
      count = runs.count ∙ sym count;
    }

-- where there are no more nodes than before they are the same
pub kept_runs : (s : Sequent) (old new : Derivation) (all : List Clause) (node : Node) (number : ℕ) → new.lines.items ≡ old.lines.items → new.clauses ≡ old.clauses → made old.nodes node ≡ record { nodes = new.nodes; number = number } → length new.nodes ≤ length old.nodes
    → Runs s old all → Runs s new all
kept_runs s old new all node number lines count e less runs = by (number_of old.nodes node) e
  where
    by : (found : Option ℕ) → made_where old.nodes node found ≡ record { nodes = new.nodes; number = number } → Runs s new all
    by None e = absurd (let same : old.nodes ++ node ∷ [] ≡ new.nodes = ap (λ (m : Made). m.nodes) e in let longer = length_more old.nodes node in omega (arith, ap length same, longer, less))
    by (Some n) e =
        let same : old.nodes ≡ new.nodes = ap (λ (m : Made). m.nodes) e in
        record {
          run = ap (λ (ls : List declared.Step). after_all s (begin s) (map step_of ls)) lines ∙ runs.run ∙ ap (λ ns. Some (record { nodes = ns; clauses = all })) same;
          count = runs.count ∙ sym count;
        }

ends : (clauses : List Clause) → ends_empty (clauses ++ [] ∷ []) ≡ true
ends [] = refl
ends ([] ∷ []) = refl
ends ((l ∷ ls) ∷ []) = refl
ends ([] ∷ next ∷ others) = ends (next ∷ others)
ends ((l ∷ ls) ∷ next ∷ others) = ends (next ∷ others)

pub finished : (s : Sequent) (d : Derivation) (clauses : List Clause) → Runs s d (clauses ++ [] ∷ []) → Derives s (map step_of d.lines.items)
finished s d clauses runs = (state_of d (clauses ++ [] ∷ []), runs.run, ends clauses)
