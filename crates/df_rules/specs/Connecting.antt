-- The clauses of connectives as the code chooses them: equalities of numbers apart from the others.
use Rattle.std.specs.Prelude.{ℕ, List, slice_get, Option, None, Some}
use Rattle.std.specs.Option.{option_and_then}
use Rattle.df_form.specs.declared.node.Sort.{Sort}
use Rattle.df_form.specs.declared.node.Sort.TheVariants as sorts
use Rattle.df_form.specs.declared.node.Op.{Op}
use Rattle.df_form.specs.declared.node.Op.TheVariants as ops
use Rattle.df_form.specs.Node.{Node}
use Rattle.df_form.specs.Sorting.{sort_at}
use Rattle.df_form.specs.Clause.{Clause}
use Rattle.df_rules.specs.Connective.{not_clauses, and_clauses, or_clauses, implies_clauses, iff_clauses, of_one, of_two}

-- the clause of a connective that is no equality
abbrev pub plain_clause : ℕ → ℕ → Op → List ℕ → Option Clause
plain_clause n k ops.Not parts = of_one (λ p. slice_get (not_clauses n p) k) parts
plain_clause n k ops.And parts = slice_get (and_clauses n parts) k
plain_clause n k ops.Or parts = slice_get (or_clauses n parts) k
plain_clause n k ops.Implies parts = of_two (λ a b. slice_get (implies_clauses n a b) k) parts
plain_clause n k ops.Iff parts = of_two (λ a b. slice_get (iff_clauses n a b) k) parts
plain_clause n k op parts = None

abbrev pub numbers_of : Sort → ℕ → ℕ → Option (ℕ × ℕ)
numbers_of sorts.Number a b = Some (a, b)
numbers_of sorts.Truth a b = None
numbers_of sorts.Character a b = None

abbrev pub equality_of_op : List Node → Op → List ℕ → Option (ℕ × ℕ)
equality_of_op nodes ops.Equal parts = of_two (λ a b. numbers_of (sort_at nodes a) a b) parts
equality_of_op nodes op parts = None

-- the sides of an equality of numbers
abbrev pub equality_of : List Node → ℕ → Option (ℕ × ℕ)
equality_of nodes n = option_and_then (λ (node : Node). equality_of_op nodes node.op node.parts) (slice_get nodes n)

-- the clause of a node that is no equality of numbers
abbrev pub plain_line : List Node → ℕ → ℕ → Option Clause
plain_line nodes n k = option_and_then (λ (node : Node). plain_clause n k node.op node.parts) (slice_get nodes n)
