-- What closed lists say as lines of a log, where clauses stand at their places.
use Rattle.std.proofs.Common.{◌≡◌, ℕ, zero, suc, ◌<◌, Bool, true, List, [], ◌∷◌, ◌++◌, map, length, get_or, nat_lt, arith, ltb-true, Option, Some, None, slice_get, if◌then◌else◌, refl, sym, ap, ◌∙◌, subst, true≢false, lt-ltb}
use Rattle.std.specs.Option.{option_and_then, option_map}
use Rattle.std.specs.List.{list_all}
use Rattle.std.proofs.lemmas.List.{map-append}
use Rattle.std.proofs.lemmas.Option.{slice_get_within}
use Rattle.std.proofs.lemmas.Bool.{and_from, and_parts}
use Rattle.df_form.proofs.Literals.{all_negated_twice}
use Rattle.df_form.specs.declared.log.Lit.{Lit}
use Rattle.df_form.specs.Node.{Node}
use Rattle.df_form.specs.Clause.{Clause, negation, are_literals}
use Rattle.df_rules.specs.Propagation.{left, is_empty, clauses_at, propagation_of, propagation_line}
use Rattle.df_rules.specs.Learning.{learned, learned_from, refutes}
use Rattle.df_clause.specs.declared.clause.GroundClause as declared
use Rattle.df_closure.proofs.Rounds.{length_mapped}
use Rattle.df_closure.specs.Closure.{GroundClause, ground_of, Taught, nothing, more, after, IsClosed, IsRefuted}
use Rattle.df_rules.proofs.Learning.{found, ends, found_by_learning}
use Rattle.df_search.specs.Places.{place_in, AreWithin, AreIn}

-- ---- the numbers are those of clauses

pub taught_within : (clauses : List GroundClause) (known : List Lit) (numbers : List ℕ) (literals : List Lit) → Taught clauses known numbers literals → AreWithin (length clauses) numbers
taught_within clauses known numbers literals nothing = refl
taught_within clauses known numbers literals (more {number = n} {numbers = ns} {literal = l} {literals = ls} first rest) =
    and_from (nat_lt n (length clauses)) (list_all (λ n. nat_lt n (length clauses)) ns) (lt-ltb n (length clauses) (slice_get_within clauses n first.clause first.there)) (taught_within clauses (l ∷ known) ns ls rest)

one_more_within : (count : ℕ) (numbers : List ℕ) (last : ℕ) → AreWithin count numbers → last < count → AreWithin count (numbers ++ last ∷ [])
one_more_within count [] last all less = and_from (nat_lt last count) true (lt-ltb last count less) refl
one_more_within count (n ∷ numbers) last all less =
    let parts = and_parts (nat_lt n count) (list_all (λ n. nat_lt n count) numbers) all in
    and_from (nat_lt n count) (list_all (λ n. nat_lt n count) (numbers ++ last ∷ [])) parts.0 (one_more_within count numbers last parts.1 less)

pub closed_within : (clauses : List GroundClause) (places : List ℕ) (list : List Lit) (numbers : List ℕ) (literals : List Lit) → length places ≡ length clauses → IsClosed clauses list numbers literals → AreWithin (length places) numbers
closed_within clauses places list numbers literals long is = subst (λ (count : ℕ). AreWithin count numbers) (sym long) (taught_within clauses list numbers literals is.taught)

pub refuted_within : (clauses : List GroundClause) (places : List ℕ) (list : List Lit) (numbers : List ℕ) → length places ≡ length clauses → IsRefuted clauses list numbers → AreWithin (length places) numbers
refuted_within clauses places list numbers long is =
    subst (λ (count : ℕ). AreWithin count numbers) (sym long)
    (subst (AreWithin (length clauses)) (sym is.numbers_are)
    (one_more_within (length clauses) is.reasons is.last (taught_within clauses list is.reasons is.learned is.taught) (slice_get_within clauses is.last is.refutes.clause is.refutes.there)))

pub within_at : (count : ℕ) (numbers : List ℕ) (i d : ℕ) → i < length numbers → AreWithin count numbers → get_or numbers i d < count
within_at count [] i d less all = absurd (omega arith)
within_at count (n ∷ numbers) zero d less all = ltb-true n count (and_parts (nat_lt n count) (list_all (λ n. nat_lt n count) numbers) all).0
within_at count (n ∷ numbers) (suc i) d less all = within_at count numbers i d (omega (arith, less)) (and_parts (nat_lt n count) (list_all (λ n. nat_lt n count) numbers) all).1

-- as many places as clauses
pub as_long : (clauses : List declared.GroundClause) (places : List ℕ) → length places ≡ length clauses → length places ≡ length (map ground_of clauses)
as_long clauses places long = long ∙ sym (length_mapped ground_of clauses)

-- ---- what is taught is what the kernel learns

module _ (clauses : List GroundClause) (places : List ℕ) (log : List Clause) (are : AreIn clauses places log) where
  taught_is_learned : (known : List Lit) (numbers : List ℕ) (literals : List Lit) → Taught clauses known numbers literals → learned known log (map (place_in places) numbers) ≡ Some (after known literals)
  taught_is_learned known numbers literals nothing = refl
  taught_is_learned known numbers literals (more {number = n} {numbers = ns} {literal = l} {literals = ls} first rest) =
      ap (λ (o : Option Clause). option_and_then (λ more. learned more log (map (place_in places) ns)) (learned_from known o)) (are.at n first.clause first.there)
      ∙ ap (λ (o : Option Lit). option_and_then (λ more. learned more log (map (place_in places) ns)) (option_map (λ m. m ∷ known) o)) first.left
      ∙ taught_is_learned (l ∷ known) ns ls rest

-- a line of propagation, by what is found from the list
line_is : (nodes : List Node) (log : List Clause) (list : List Lit) (numbers : List ℕ) → are_literals nodes (map negation list) ≡ true → found list (clauses_at log numbers) ≡ true
    → propagation_line nodes log numbers (map negation list) ≡ Some (map negation list)
line_is nodes log list numbers formulas e =
    ap (λ (b : Bool). if b then option_and_then (propagation_of (map negation list)) (clauses_at log numbers) else None) formulas
    ∙ by (clauses_at log numbers) (subst (λ (known : List Lit). found known (clauses_at log numbers) ≡ true) (sym (all_negated_twice list)) e)
  where
    by : (named : Option (List Clause)) → found (map negation (map negation list)) named ≡ true → option_and_then (propagation_of (map negation list)) named ≡ Some (map negation list)
    by None e = absurd (true≢false (sym e))
    by (Some clauses) e = ap (λ (b : Bool). if b then Some (map negation list) else None) e

module _ (nodes : List Node) (clauses : List GroundClause) (places : List ℕ) (log : List Clause) (are : AreIn clauses places log) (list : List Lit) (formulas : are_literals nodes (map negation list) ≡ true) where
  -- a closed list, and a clause of the log of which nothing is left beside it
  pub closed_is_line : (reasons : List ℕ) (learned : List Lit) (last : ℕ) (clause : Clause) → Taught clauses list reasons learned → slice_get log last ≡ Some clause → is_empty (left (after list learned) clause) ≡ true
      → propagation_line nodes log (map (place_in places) reasons ++ last ∷ []) (map negation list) ≡ Some (map negation list)
  closed_is_line reasons learned last clause taught there empty =
      line_is nodes log list (map (place_in places) reasons ++ last ∷ []) formulas
      (
      found_by_learning list log (map (place_in places) reasons) last
      ∙ ap (λ (o : Option (List Lit)). ends o (slice_get log last)) (taught_is_learned clauses places log are list reasons learned taught)
      ∙ ap (refutes (after list learned)) there
      ∙ empty
      )

  -- a list beside which a clause is false
  pub refuted_is_line : (numbers : List ℕ) → IsRefuted clauses list numbers → propagation_line nodes log (map (place_in places) numbers) (map negation list) ≡ Some (map negation list)
  refuted_is_line numbers is =
      ap (λ (ns : List ℕ). propagation_line nodes log ns (map negation list)) (ap (map (place_in places)) is.numbers_are ∙ map-append (place_in places) is.reasons (is.last ∷ []))
      ∙ closed_is_line is.reasons is.learned (place_in places is.last) is.refutes.clause.literals is.taught (are.at is.last is.refutes.clause is.refutes.there) is.refutes.left
