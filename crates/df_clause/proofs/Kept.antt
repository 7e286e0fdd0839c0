-- A clause that is kept with its line, or left out.
use Rattle.std.proofs.Common.{◌≡◌, ℕ, Bool, true, false, not, List, [], ◌∷◌, ◌++◌, map, take, length, Option, None, Some, slice_get, Result, Ok, Err, OnOk, if◌then◌else◌, sym, ap, ◌∙◌, subst}
use Rattle.std.specs.declared.alloc.AllocError.{AllocError}
use Rattle.std.specs.Option.{option_map_or}
use Rattle.std.proofs.lemmas.Bool.{not-true, not-false}
use Rattle.df_lemmas.proofs.Options.{then_some}
use Rattle.df_form.specs.Node.{Node}
use Rattle.df_form.specs.Made.{made}
use Rattle.df_form.specs.Clause.{Clause}
use Rattle.df_form.specs.Log.{Step, step_of, Connective}
use Rattle.df_form.specs.Sequent.{Sequent}
use Rattle.df_form.proofs.Values.{Grows, grows_not, grows_twice}
use Rattle.df_rules.specs.Connective.{Added, connective_clause, connective_line}
use Rattle.df_clause.specs.declared.ground.Ground.{Ground}
use Rattle.df_clause.specs.GroundClause.{GroundClause}
use Rattle.df_clause.specs.Counting.{stands, with_clause}
use Rattle.df_clause.specs.Lines.{bound_of}
use Rattle.df_clause.specs.Adding.{added_by}
use Rattle.df_clause.specs.GroundSet.{GroundSet, with_added, with_line}
use Rattle.df_clause.specs.GroundView.{set_of}
use Rattle.df_clause.specs.Keeping.{clause_of, with_line_if, cut_to, Keeps, AddsLine}
use Rattle.df_clause.proofs.KeptNodes.{op_kept}
use Rattle.df_clause.proofs.Making.{made_grows}
use Rattle.df_clause.proofs.Running.{first_of}

-- ---- one clause

module _ (before : ℕ) (line : Step) (bound : Option ℕ) (clause : Clause) (old : GroundSet) where
  abbrev own : GroundClause
  own = clause_of bound clause

  -- without the nodes that were made for the clause
  abbrev cut : GroundSet
  cut = record { nodes = take before old.nodes; clauses = old.clauses; lines = old.lines }

  abbrev with_own : GroundSet
  with_own = record { nodes = old.nodes; clauses = old.clauses ++ own ∷ []; lines = old.lines ++ line ∷ [] }

  abbrev so : GroundSet
  so = with_added cut line bound (record { nodes = old.nodes; clause = clause })

  module _ (clauses : List GroundClause) (lines : List Step) (is_new : Bool) (told : is_new ≡ not (stands old.clauses own)) (clauses_are : clauses ≡ with_clause old.clauses own) (lines_are : lines ≡ with_line_if is_new old.lines line) where
    pub is_kept : (nodes : List Node) → nodes ≡ old.nodes → is_new ≡ true → record { nodes = nodes; clauses = clauses; lines = lines } ≡ so
    is_kept nodes nodes_are is =
        let new : stands old.clauses own ≡ false = not-true (stands old.clauses own) (sym told ∙ is) in
        let all : clauses ≡ old.clauses ++ own ∷ [] = clauses_are ∙ ap (λ (b : Bool). if b then old.clauses else old.clauses ++ own ∷ []) new in
        let more : lines ≡ old.lines ++ line ∷ [] = lines_are ∙ ap (λ (b : Bool). with_line_if b old.lines line) is in
        let here : record { nodes = nodes; clauses = clauses; lines = lines } ≡ with_own = λ i. record { nodes = nodes_are i; clauses = all i; lines = more i } in
        here ∙ sym (ap (λ (b : Bool). if b then cut else with_own) new)

    pub is_left_out : (nodes : List Node) → nodes ≡ take before old.nodes → is_new ≡ false → record { nodes = nodes; clauses = clauses; lines = lines } ≡ so
    is_left_out nodes nodes_are is =
        let stood : stands old.clauses own ≡ true = not-false (stands old.clauses own) (sym told ∙ is) in
        let all : clauses ≡ old.clauses = clauses_are ∙ ap (λ (b : Bool). if b then old.clauses else old.clauses ++ own ∷ []) stood in
        let same : lines ≡ old.lines = lines_are ∙ ap (λ (b : Bool). with_line_if b old.lines line) is in
        let here : record { nodes = nodes; clauses = clauses; lines = lines } ≡ cut = λ i. record { nodes = nodes_are i; clauses = all i; lines = same i } in
        here ∙ sym (ap (λ (b : Bool). if b then cut else with_own) stood)

-- ---- the clause of a line, whose nodes were made

module _ (old new : Ground) (nodes : List Node) (before : ℕ) (grows : Grows old.nodes nodes) (is : before ≡ length old.nodes) where
  abbrev with_made : Ground
  with_made = record { nodes = nodes; clauses = old.clauses; lines = old.lines }

  -- without them it is as it was
  back : cut_to before with_made ≡ set_of old
  back =
      let same : take before nodes ≡ old.nodes = ap (λ (n : ℕ). take n nodes) is ∙ first_of old.nodes nodes grows in
      λ i. record { nodes = same i; clauses = old.clauses; lines = map step_of old.lines.items }

  pub line_left : set_of new ≡ cut_to before with_made → set_of new ≡ set_of old
  line_left left = left ∙ back

  pub line_added : (s : Sequent) (line : Step) (bound : Option ℕ) (clause : Clause) → added_by s old.nodes line ≡ Some (record { nodes = nodes; clause = clause }) → bound ≡ bound_of old.nodes line
      → set_of new ≡ with_added (cut_to before with_made) line bound (record { nodes = nodes; clause = clause }) → set_of new ≡ with_line s (set_of old) line
  line_added s line bound clause found bound_is kept =
      let added : Added = record { nodes = nodes; clause = clause } in
      kept
      ∙ ap (λ (set : GroundSet). with_added set line bound added) back
      ∙ ap (λ (b : Option ℕ). with_added (set_of old) line b added) bound_is
      ∙ sym (ap (λ (o : Option Added). option_map_or (with_added (set_of old) line (bound_of old.nodes line)) o (set_of old)) found)

-- ---- lines that make no nodes

pub claim_kept : (old new : Ground) (line : Step) (clause meant : Clause) (before : ℕ) (result : Result (Unit {0}) AllocError) → before ≡ length old.nodes → clause ≡ meant → bound_of old.nodes line ≡ None → Keeps before line None clause old new result
    → OnOk result ((s : Sequent) → added_by s old.nodes line ≡ Some (record { nodes = old.nodes; clause = meant }) → set_of new ≡ with_line s (set_of old) line)
claim_kept old new line clause meant before (Ok done) is clause_is unbound kept = λ s found.
    line_added old new old.nodes before (grows_not old.nodes) is s line None meant found (sym unbound)
    (subst (λ (literals : Clause). set_of new ≡ with_added (cut_to before old) line None (record { nodes = old.nodes; clause = literals })) clause_is kept)
claim_kept old new line clause meant before (Err e) is clause_is unbound kept = tt

-- ---- lines of connectives

connective_grows : (nodes : List Node) (n k : ℕ) (added : Added) → connective_line nodes n k ≡ Some added → Grows nodes added.nodes
connective_grows nodes n k added e =
    let found = then_some (λ (node : Node). connective_clause nodes n k node.op node.parts) (slice_get nodes n) added e in
    op_kept (Grows nodes) (λ now node compares g. grows_twice nodes now (made now node).nodes g (made_grows now node)) nodes n k found.0.op found.0.parts added (grows_not nodes) found.2

module _ (old new : Ground) (nodes : List Node) (n k before : ℕ) (bound : Option ℕ) (clause : Clause) (found : connective_line old.nodes n k ≡ Some (record { nodes = nodes; clause = clause })) (is : before ≡ length old.nodes) (bound_is : bound ≡ bound_of old.nodes (Connective n k)) where
  grown : Grows old.nodes nodes
  grown = connective_grows old.nodes n k (record { nodes = nodes; clause = clause }) found

  pub connective_kept : (result : Result (Unit {0}) AllocError) → Keeps before (Connective n k) bound clause (record { nodes = nodes; clauses = old.clauses; lines = old.lines }) new result → AddsLine (Connective n k) old new result
  connective_kept (Ok done) kept = λ s. line_added old new nodes before grown is s (Connective n k) bound clause found bound_is kept
  connective_kept (Err e) left = line_left old new nodes before grown is left

-- a connective without this clause adds nothing
pub connective_lacks : (old new : Ground) (n k : ℕ) → connective_line old.nodes n k ≡ None → set_of new ≡ set_of old → (s : Sequent) → set_of new ≡ with_line s (set_of old) (Connective n k)
connective_lacks old new n k none same s = same ∙ sym (ap (λ (o : Option Added). option_map_or (with_added (set_of old) (Connective n k) (bound_of old.nodes (Connective n k))) o (set_of old)) none)
