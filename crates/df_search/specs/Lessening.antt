-- Facts whose rows combinations refute.
use Rattle.std.specs.Prelude.{◌≡◌, true, List, map, Some}
use Rattle.df_form.specs.declared.log.Lit.{Lit}
use Rattle.df_form.specs.Node.{Node}
use Rattle.df_form.specs.Clause.{negation, is_among}
use Rattle.df_form.specs.Log.{Combination, combination_of}
use Rattle.df_row.specs.Linear.{linear_line}
use Rattle.df_trail.specs.Trail.{HasAll}
use Rattle.df_search.specs.declared.lessening.Linear.{Linear}

-- the combinations make a line of the facts' negations
abbrev pub RefuteRows : List Node → List Lit → List Combination → Type 0
RefuteRows nodes facts combinations = linear_line nodes (map negation facts) combinations ≡ Some (map negation facts)

-- where a list has the old ones and the fact, it has the new ones
abbrev pub AddsOnly : List Lit → Lit → List Lit → Type 0
AddsOnly old fact new = (list : List Lit) → HasAll list old → is_among list fact ≡ true → HasAll list new

abbrev pub IsOf : List Lit → Linear → Type 0
IsOf facts linear = HasAll facts linear.facts.items

-- a line of some of the facts
abbrev pub IsLine : List Node → List Lit → Linear → Type 0
IsLine nodes facts linear = HasAll facts linear.facts.items × RefuteRows nodes linear.facts.items (map combination_of linear.combinations.items)

-- it is one where the given combinations make a line of all facts
abbrev pub IsLess : List Node → List Lit → List Combination → Linear → Type 0
IsLess nodes facts combinations linear = HasAll facts linear.facts.items × (RefuteRows nodes facts combinations → RefuteRows nodes linear.facts.items (map combination_of linear.combinations.items))
