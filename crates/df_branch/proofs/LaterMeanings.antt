-- What nodes mean stays among clauses where nodes are added, with what they mean.
use Rattle.std.proofs.Common.{◌≡◌, ◌⊎◌, inl, inr, ℕ, suc, ◌<◌, ◌≤◌, List, [], ◌∷◌, ◌++◌, take, length, Option, None, Some, slice_get, refl, sym, ap, ◌∙◌, subst, arith}
use Rattle.std.specs.Option.{option_and_then}
use Rattle.std.proofs.lemmas.Bool.{cases_lt}
use Rattle.std.proofs.lemmas.Option.{same_Some, slice_get_within}
use Rattle.df_lemmas.proofs.Lists.{get_below, get_grown}
use Rattle.df_form.specs.Node.{Node}
use Rattle.df_form.specs.Sorting.{IsTable, sort_at}
use Rattle.df_form.proofs.Tables.{table-take}
use Rattle.df_form.proofs.Values.{Grows, grown_get, grown_sort, AreSorted, parts_below}
use Rattle.df_rules.specs.Connective.{Added, connective_clause, connective_line}
use Rattle.df_clause.specs.Among.{Among}
use Rattle.df_clause.specs.Lines.{bound_by}
use Rattle.df_clause.proofs.Parts.{first_below}
use Rattle.df_clause.proofs.Running.{grown_from}
use Rattle.df_closure.specs.Closure.{GroundClause}
use Rattle.df_closure.specs.Filled.{AreComparing}
use Rattle.df_clause.proofs.SameClauses.{again, connective_again, connective_too}
use Rattle.df_branch.specs.Place.{HaveMeanings}
use Rattle.df_clause.proofs.KeptNodes.{no_connective}

-- what the nodes from a number on mean is among the clauses
pub record HaveMeaningsFrom (count : ℕ) (nodes : List Node) (clauses : List GroundClause) : Type 0 where
  pub connectives : (n k : ℕ) (node : Node) (added : Added) → count ≤ n → slice_get nodes n ≡ Some node → connective_line nodes n k ≡ Some added → (added.nodes ≡ nodes) × Among clauses (record { literals = added.clause; bound = bound_by n node.op })

among_more : (clauses added : List GroundClause) (clause : GroundClause) → Among clauses clause → Among (clauses ++ added) clause
among_more clauses added clause there = (there.0, get_grown clauses added there.0 clause there.1)

among_added : (clauses added : List GroundClause) (clause : GroundClause) → Among added clause → Among (clauses ++ added) clause
among_added [] added clause there = there
among_added (c ∷ clauses) added clause there = let later = among_added clauses added clause there in (suc later.0, later.1)

module _ (nodes more : List Node) (table : IsTable more) (begins : take (length nodes) more ≡ nodes) where
  grows : Grows nodes more
  grows = grown_from nodes more begins

  sorted : AreSorted nodes
  sorted = record { sorted = (subst IsTable begins (table-take more (length nodes) table)).sorted }

  old_node : (n : ℕ) (node : Node) → n < length nodes → slice_get more n ≡ Some node → slice_get nodes n ≡ Some node
  old_node n node less at = let here = get_below nodes n less in here.1 ∙ sym (grown_get nodes more grows n here.0 here.1) ∙ at

  alike : (n : ℕ) (node : Node) → slice_get nodes n ≡ Some node → (a : ℕ) (others : List ℕ) → node.parts ≡ a ∷ others → sort_at more a ≡ sort_at nodes a
  alike n node at a others e =
      let less = first_below n node.parts a others (parts_below nodes n node sorted at) e in
      let within = slice_get_within nodes n node at in
      grown_sort nodes more grows a (omega (arith, less, within))

  module _ (clauses : List GroundClause) (meanings : HaveMeanings nodes clauses) where
    abbrev Has : ℕ → Node → Added → Type 0
    Has n node added = (added.nodes ≡ more) × Among clauses (record { literals = added.clause; bound = bound_by n node.op })

    old_connective : (n k : ℕ) (node : Node) (added : Added) → slice_get nodes n ≡ Some node → connective_clause more n k node.op node.parts ≡ Some added → Has n node added
    old_connective n k node added at e = by (connective_line nodes n k) refl
      where
        own : connective_line nodes n k ≡ connective_clause nodes n k node.op node.parts
        own = ap (option_and_then (λ (node : Node). connective_clause nodes n k node.op node.parts)) at

        by : (o : Option Added) → connective_line nodes n k ≡ o → Has n node added
        by None line = absurd (connective_too more nodes n k node.op node.parts added (alike n node at) e (sym own ∙ line))
        by (Some old) line =
            let has = meanings.connectives n k node old at line in
            let now = connective_again more table nodes n k node.op node.parts old (alike n node at) (sym own ∙ line) (subst (λ (ns : List Node). Grows ns more) (sym has.0) grows) in
            let same : added ≡ again more table old = same_Some added (again more table old) (sym e ∙ now) in
            (ap (λ (x : Added). x.nodes) same, (has.1.0, has.1.1 ∙ (λ i. Some (record { literals = (sym same i).clause; bound = bound_by n node.op }))))

    module _ (added : List GroundClause) (later : HaveMeaningsFrom (length nodes) more added) where
      connectives : (n k : ℕ) (node : Node) (line : Added) → slice_get more n ≡ Some node → connective_line more n k ≡ Some line → (line.nodes ≡ more) × Among (clauses ++ added) (record { literals = line.clause; bound = bound_by n node.op })
      connectives n k node line at e = by (cases_lt n (length nodes))
        where
          clause : GroundClause
          clause = record { literals = line.clause; bound = bound_by n node.op }

          by : (n < length nodes) ⊎ (length nodes ≤ n) → (line.nodes ≡ more) × Among (clauses ++ added) clause
          by (inl less) =
              let has = old_connective n k node line (old_node n node less at) (sym (ap (option_and_then (λ (node : Node). connective_clause more n k node.op node.parts)) at) ∙ e) in
              (has.0, among_more clauses added clause has.1)
          by (inr past) = let has = later.connectives n k node line past at e in (has.0, among_added clauses added clause has.1)

      pub meanings_grow : HaveMeanings more (clauses ++ added)
      meanings_grow = record { connectives = connectives }

    -- numbers and comparisons mean nothing
    module _ (comparing : AreComparing (length nodes) more) where
      pub meanings_stay : HaveMeanings more clauses
      meanings_stay = record {
        connectives = λ n k node line at e.
            by (cases_lt n (length nodes)) (λ less. old_connective n k node line (old_node n node less at) (read n k node line at e)) (λ past. absurd (no_connective more n k node.op node.parts line (comparing n node past at) (read n k node line at e)));
      }
        where
          by : {A : Type 0} {n : ℕ} → (n < length nodes) ⊎ (length nodes ≤ n) → (n < length nodes → A) → (length nodes ≤ n → A) → A
          by (inl less) f g = f less
          by (inr past) f g = g past

          read : (n k : ℕ) (node : Node) (line : Added) → slice_get more n ≡ Some node → connective_line more n k ≡ Some line → connective_clause more n k node.op node.parts ≡ Some line
          read n k node line at e = sym (ap (option_and_then (λ (node : Node). connective_clause more n k node.op node.parts)) at) ∙ e
