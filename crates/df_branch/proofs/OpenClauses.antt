-- Literals of clauses beside a set of known ones.
use Rattle.std.proofs.Common.{◌≡◌, ℕ, ◌+◌, ◌≤◌, ◌<◌, Bool, true, false, not, ◌||◌, List, [], ◌∷◌, length, slice_get, Some, None, Option, refl, sym, ap, ◌∙◌, subst, arith, nat_lt, ltb-true}
use Rattle.std.proofs.lemmas.Bool.Decides.{nat_tests}
use Rattle.std.specs.List.{list_any}
use Rattle.std.proofs.lemmas.Option.{same_Some, slice_get_within}
use Rattle.df_form.specs.declared.log.Lit.{Lit}
use Rattle.df_form.specs.Clause.{Clause, is_among}
use Rattle.df_rules.specs.declared.known.Known.{Known}
use Rattle.df_rules.specs.Known.{knows, IsSetOf}
use Rattle.df_closure.specs.Closure.{GroundClause, counts_for}
use Rattle.df_branch.specs.Filling.{TellsUndecided, TellsMember, TellsOpen, IsUnmet}

pub any_known : (known : Known) (literals : List Lit) (clause : Clause) → IsSetOf literals known → list_any (knows known) clause ≡ list_any (is_among literals) clause
any_known known literals [] is = refl
any_known known literals (l ∷ ls) is = ap (λ b. b || list_any (knows known) ls) (is l) ∙ ap (λ b. is_among literals l || b) (any_known known literals ls is)

module _ (known : Known) (clause : GroundClause) (counts met : Bool) (literals : List Lit) (is : IsSetOf literals known) (counts_is : counts ≡ counts_for literals clause.bound) (met_is : met ≡ list_any (is_among literals) clause.literals) where
  -- a clause that does not count, or that has a known literal
  pub passed_over : (not counts || met) ≡ true → TellsMember literals clause None
  passed_over e unmet = absurd (by counts met (counts_is ∙ unmet.counts) (met_is ∙ unmet.none) e)
    where
      by : (a b : Bool) → a ≡ true → b ≡ false → (not a || b) ≡ true → ⊥
      by true true p q h = absurd cc
      by true false p q h = absurd cc
      by false b p q h = absurd cc

  pub unmet : counts ≡ true → met ≡ false → IsUnmet literals clause
  unmet p q = record { counts = sym counts_is ∙ p; none = sym met_is ∙ q }

  -- its member
  pub found : (o : Option Lit) → counts ≡ true → met ≡ false → TellsUndecided literals clause.literals o → TellsMember literals clause o
  found None p q tells = λ unmet. tells
  found (Some l) p q tells = (unmet p q, tells.0, tells.1)

-- none of the first clauses has a member
abbrev pub PassedSoFar : Known → List GroundClause → ℕ → Type 0
PassedSoFar known clauses i = (literals : List Lit) → IsSetOf literals known → (number : ℕ) (clause : GroundClause) → number < i → slice_get clauses number ≡ Some clause → TellsMember literals clause None

pub passes : (known : Known) (clauses : List GroundClause) (i : ℕ) (clause : GroundClause) → slice_get clauses i ≡ Some clause → PassedSoFar known clauses i → ((literals : List Lit) → IsSetOf literals known → TellsMember literals clause None) → PassedSoFar known clauses (i + 1)
passes known clauses i clause at so_far here literals is number other less there = by (nat_lt number i) refl
  where
    by : (b : Bool) → nat_lt number i ≡ b → TellsMember literals other None
    by true e = so_far literals is number other (ltb-true number i e) there
    by false e =
        let same : number ≡ i = grind (arith, nat_tests) in
        let is_same : clause ≡ other = same_Some clause other (sym at ∙ ap (slice_get clauses) (sym same) ∙ there) in
        subst (λ (c : GroundClause). TellsMember literals c None) is_same (here literals is)

pub all_passed : (known : Known) (clauses : List GroundClause) (i : ℕ) → length clauses ≤ i → PassedSoFar known clauses i → (literals : List Lit) → IsSetOf literals known → TellsOpen clauses literals None
all_passed known clauses i done so_far literals is clause is_open =
    let within = slice_get_within clauses is_open.number clause is_open.there in
    so_far literals is is_open.number clause (omega arith) is_open.there (record { counts = is_open.counts; none = is_open.none })

pub member_is_open : (clauses : List GroundClause) (i : ℕ) (clause : GroundClause) → slice_get clauses i ≡ Some clause → (literals : List Lit) (l : Lit) → TellsMember literals clause (Some l) → TellsOpen clauses literals (Some l)
member_is_open clauses i clause at literals l tells = record { clause = clause; is_open = record { number = i; there = at; counts = tells.0.counts; none = tells.0.none }; in_clause = tells.1; not_false = tells.2 }
