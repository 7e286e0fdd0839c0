-- E24: `break` stands in a loop. E25: methods have `requires`, `ensures` and `decreases`, loops `invariant` and
-- `decreases`; a loop has `decreases`, or a guard that has a measure by default.
use Rattle.std.specs.Prelude.{Bool, true, false, not, ◌&&◌, ◌||◌, Option, Some, None}
use Rattle.std.specs.List.{list_any}
use Rattle.df_ntree.specs.declared.expr.Group.{Group}
use Rattle.df_ntree.specs.declared.expr.Group.TheVariants as groups
use Rattle.df_ntree.specs.declared.file.ConditionKind.TheVariants as conditions
use Rattle.df_ntree.specs.Expr.{Expr, Parentheses, Operations, Leading, Members, end, more}
use Rattle.df_ntree.specs.ExprSpelling.{first_group}
use Rattle.df_ntree.specs.File.{Clause, Condition, Decreases}
use Rattle.df_ntyping.specs.Types.{is_integer, if_type_known, is_order}
use Rattle.df_ntyping.specs.Environment.{Environment}
use Rattle.df_ntyping.specs.ExprTypes.{type_in, wanted_first, wanted_behind}
use Rattle.df_ntyping.specs.Node.{Node, Owner, OfMethod, OfLoop, Break, ClauseOf, Loop}

abbrev pub breaks_broken : Environment → Node → Bool
breaks_broken env (Break pos) = not env.in_loop
breaks_broken env node = false

-- ---- clauses

abbrev pub belongs : Owner → Clause → Bool
belongs OfMethod (Condition conditions.Invariant pos condition) = false
belongs OfMethod clause = true
belongs OfLoop (Condition conditions.Invariant pos condition) = true
belongs OfLoop (Condition kind pos condition) = false
belongs OfLoop (Decreases pos values) = true

abbrev pub is_decreases : Clause → Bool
is_decreases (Condition kind pos condition) = false
is_decreases (Decreases pos values) = true

-- ---- guards: one comparison of integers by order, or a conjunction that begins with one; through parentheses

abbrev pub compares_integers : Environment → Expr → Members → Bool
compares_integers env first (more operator pos operand end) =
    let wanted = wanted_first env None first (more operator pos operand end) in
    is_order operator && if_type_known is_integer (type_in env wanted first)
    && if_type_known is_integer (type_in env (wanted_behind env wanted first) operand)
compares_integers env first rest = false

abbrev pub is_conjunction : Option Group → Bool
is_conjunction (Some groups.Conjunction) = true
is_conjunction group = false

abbrev pub is_comparison : Option Group → Bool
is_comparison (Some groups.Comparison) = true
is_comparison group = false

abbrev mutual
  pub has_measure : Environment → Expr → Bool
  has_measure env (Parentheses pos inner) = has_measure env inner
  has_measure env (Operations first rest) =
      (is_comparison (first_group rest) && compares_integers env first rest) || (is_conjunction (first_group rest) && has_measure env first)
  has_measure env (Leading operations) = is_conjunction (first_group operations) && first_has_measure env operations
  has_measure env e = false

  pub first_has_measure : Environment → Members → Bool
  first_has_measure env end = false
  first_has_measure env (more operator pos operand rest) = has_measure env operand

abbrev pub breaks_clauses : Environment → Node → Bool
breaks_clauses env (ClauseOf owner clause) = not (belongs owner clause)
breaks_clauses env (Loop guard clauses pos) = not (list_any is_decreases clauses || has_measure env guard)
breaks_clauses env node = false
