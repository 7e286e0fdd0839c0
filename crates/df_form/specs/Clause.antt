-- Literals and clauses.
use Rattle.std.specs.Prelude.{ℕ, Bool, true, false, ◌==◌, ◌&&◌, not, List}
use Rattle.std.specs.List.{list_all, list_any}
use Rattle.df_form.specs.declared.log.Lit.{Lit}
use Rattle.df_form.specs.Node.{Node}
use Rattle.df_form.specs.Sorting.{is_formula}
use Rattle.df_meaning.specs.Value.{same_truth}

-- a clause is a list of literals
abbrev pub Clause : Type 0
Clause = List Lit

-- + and - of a node
abbrev pub yes : ℕ → Lit
yes node = record { positive = true; node = node }

abbrev pub no : ℕ → Lit
no node = record { positive = false; node = node }

abbrev pub negation : Lit → Lit
negation l = record { positive = not l.positive; node = l.node }

abbrev pub same_literal : Lit → Lit → Bool
same_literal a b = same_truth a.positive b.positive && a.node == b.node

abbrev pub is_among : List Lit → Lit → Bool
is_among literals l = list_any (same_literal l) literals

-- where formulas have these truths a literal is true
abbrev pub literal_truth : (ℕ → Bool) → Lit → Bool
literal_truth truth l = same_truth l.positive (truth l.node)

-- and so is a clause, by one of its literals
abbrev pub clause_truth : (ℕ → Bool) → Clause → Bool
clause_truth truth clause = list_any (literal_truth truth) clause

-- the literals are of formulas
abbrev pub are_literals : List Node → List Lit → Bool
are_literals nodes literals = list_all (λ (l : Lit). is_formula nodes l.node) literals
