-- Which broken rule is told, by computation.
use Rattle.std.proofs.Common.{◌≡◌, ℕ, ◌+◌, pos, [], Some, None, refl, fold}
use Rattle.df_lang.specs.declared.ty.Ty.TheVariants as types
use Rattle.df_lang.specs.declared.expr.AddendOperator.TheVariants as addends
use Rattle.df_lang.specs.declared.expr.Arrow.TheVariants as arrows
use Rattle.df_lang.specs.declared.expr.Comparison.TheVariants as comparisons
use Rattle.df_lang.specs.Expr.{Expr, Number, Sum, Implies, Chain, no_addend, addend, no_member, member, no_link, link}
use Rattle.df_lang.specs.Stmt.{If, next, done, no_branch, branch}
use Rattle.df_lang.specs.Program.{Program}
use Rattle.df_lang.specs.Native.{Integers}
use Rattle.df_lang.proofs.Samples.{at, alone, method_with}
use Rattle.df_nerase.specs.First.{IsFirst}
use Rattle.df_nerase.specs.mirror.Finding.{find_in_decl}

-- `n + n < bound` at the column
abbrev sum_below : ℕ → ℕ → ℕ → Expr
sum_below n bound col =
    Chain types.Int (Sum types.Int (Number types.Int (pos n) (at col)) (addend addends.Plus (at (col + 2)) (Number types.Int (pos n) (at (col + 4))) no_addend))
    (link comparisons.Less (at (col + 6)) (Number types.Int (pos bound) (at (col + 8))) no_link)

abbrev guarded_by : Expr → Program
guarded_by guard = alone (method_with [] [] [] [] None (next (If (branch (at 1) guard done no_branch) done) done))

-- `if 1 + 1 < 2 <== 3 + 3 < 7 {}`, whose right side is evaluated first
abbrev turned_around : Program
turned_around = guarded_by (Implies arrows.Explies (sum_below 3 7 18) (member (at 14) (sum_below 1 2 4) no_member))

-- told is the first operand of the first `+`
a_turned_implication : fold find_in_decl None turned_around.decls ≡ Some (record { rule = Integers; pos = at 4 })
a_turned_implication = refl

told_of_a_turned_implication : IsFirst turned_around (at 4) 2
told_of_a_turned_implication = record { broken = Integers; number = refl; others = _; first = refl }

-- `if 1 + 1 < 2 ==> 3 + 3 < 7 {}`
an_implication : fold find_in_decl None (guarded_by (Implies arrows.Implies (sum_below 1 2 4) (member (at 14) (sum_below 3 7 18) no_member))).decls ≡ Some (record { rule = Integers; pos = at 4 })
an_implication = refl
