-- The clause of a schema, added to a ground set.
use Rattle.std.proofs.Common.{◌≡◌, ℕ, List, length, Option, None, Some, Result, Ok, Err, refl, sym, ap, ◌∙◌, subst}
use Rattle.std.specs.declared.alloc.AllocError.{AllocError}
use Rattle.std.specs.Option.{option_map_or}
use Rattle.df_form.specs.Node.{Node}
use Rattle.df_form.specs.Clause.{Clause}
use Rattle.df_form.specs.Log.{Step, Schema}
use Rattle.df_form.specs.Sequent.{Sequent}
use Rattle.df_form.proofs.Values.{AreSorted}
use Rattle.df_rules.specs.Connective.{Added}
use Rattle.df_axiom.specs.Line.{instance_line}
use Rattle.df_clause.specs.declared.ground.Ground.{Ground}
use Rattle.df_clause.specs.GroundSet.{GroundSet, with_added, with_line}
use Rattle.df_clause.specs.GroundView.{set_of}
use Rattle.df_clause.specs.Keeping.{cut_to, Keeps}
use Rattle.df_clause.proofs.Kept.{line_left, line_added}
use Rattle.df_clause.proofs.Running.{is_addition}
use Rattle.df_clause.proofs.Sets.{front_itself, line_front}
use Rattle.df_trig.specs.Rounds.{Adds, LiesBetween}

module _ (s : Sequent) (old new : Ground) (nodes : List Node) (schema k : ℕ) (terms : List ℕ) where
  abbrev made : Ground
  made = record { nodes = nodes; clauses = old.clauses; lines = old.lines }

  -- its nodes were made, and it is kept, or was not new
  pub schema_kept : (before : ℕ) (line : Step) (clause : Clause) (result : Result (Unit {0}) AllocError) → AreSorted old.nodes → instance_line s.world old.nodes schema k terms ≡ Some (record { nodes = nodes; clause = clause }) → before ≡ length old.nodes → line ≡ Schema schema k terms
      → Keeps before line None clause made new result → Adds s (Schema schema k terms) (set_of old) (set_of new) result
  schema_kept before line clause (Ok done) sorted found is line_is kept =
      let added : Added = record { nodes = nodes; clause = clause } in
      let grows = (is_addition s old.nodes (Schema schema k terms) added sorted found).grows in
      line_added old new nodes before grows is s (Schema schema k terms) None clause found refl (subst (λ (l : Step). set_of new ≡ with_added (cut_to before made) l None added) line_is kept)
  schema_kept before line clause (Err e) sorted found is line_is left =
      let added : Added = record { nodes = nodes; clause = clause } in
      line_left old new nodes before (is_addition s old.nodes (Schema schema k terms) added sorted found).grows is left

  -- there is none
  pub schema_lacks : instance_line s.world old.nodes schema k terms ≡ None → nodes ≡ old.nodes → set_of made ≡ with_line s (set_of old) (Schema schema k terms)
  schema_lacks none same =
      let here : set_of made ≡ set_of old = λ i. record { nodes = same i; clauses = old.clauses; lines = (set_of old).lines } in
      here ∙ sym (ap (λ (o : Option Added). option_map_or (with_added (set_of old) (Schema schema k terms) None) o (set_of old)) none)

-- a set that is as before lies between itself and the one with a line more
pub unchanged : (s : Sequent) (old new : GroundSet) (line : Step) → AreSorted old.nodes → new ≡ old → LiesBetween old (with_line s old line) new
unchanged s old new line sorted same = subst (λ (x : GroundSet). LiesBetween old (with_line s old line) x) (sym same) (record { begins = front_itself old; goes_on = line_front s old line sorted })
