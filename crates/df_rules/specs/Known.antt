-- Sets of literals that are taken to be true, and what is left of clauses beside them.
use Rattle.std.specs.Prelude.{◌≡◌, Bool, not, List, [], ◌∷◌, filter, if◌then◌else◌}
use Rattle.std.specs.BTreeSet.{contains}
use Rattle.std.specs.Ordering.{nat_cmp}
use Rattle.std.specs.List.{list_all}
use Rattle.df_form.specs.declared.log.Lit.{Lit}
use Rattle.df_rules.specs.declared.known.Known.{Known}
use Rattle.df_rules.specs.declared.known.Left.{Left}
use Rattle.df_rules.specs.declared.known.Left.TheVariants as lefts
use Rattle.df_form.specs.Clause.{Clause, negation, same_literal, is_among}

abbrev pub knows : Known → Lit → Bool
knows known l = if l.positive then contains nat_cmp known.yes l.node else contains nat_cmp known.no l.node

-- the set has the literals of the list
abbrev pub IsSetOf : List Lit → Known → Type 0
IsSetOf literals known = (l : Lit) → knows known l ≡ is_among literals l

-- what is left of a clause, for a test of the known literals
abbrev pub left_by : (Lit → Bool) → Clause → List Lit
left_by test clause = filter (λ l. not (test (negation l))) clause

-- none, one however often it stands, or several
abbrev pub counted : List Lit → Left
counted [] = lefts.Nothing
counted (l ∷ others) = if list_all (same_literal l) others then lefts.One l else lefts.Several
