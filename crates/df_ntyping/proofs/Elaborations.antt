-- What elaborates to what, on small expressions and statements: the rules side by side, with what they ask for.
use Rattle.std.proofs.Common.{ℕ, true, false, pos, List, [], ◌∷◌, None, Some, refl}
use Rattle.df_lang.specs.declared.ty.Ty.TheVariants as types
use Rattle.df_lang.specs.declared.expr.AddendOperator.TheVariants as addends
use Rattle.df_lang.specs.declared.expr.Arrow.TheVariants as arrows
use Rattle.df_lang.specs.declared.expr.Comparison.TheVariants as comparisons
use Rattle.df_lang.specs.Expr as typed
use Rattle.df_lang.specs.Stmt as typed_stmt
use Rattle.df_ntree.specs.declared.expr.BinaryOperator.TheVariants as binary
use Rattle.df_ntree.specs.Expr.{Expr, Number, Name, Truth, Call, Operations, end, more, no_more, argument}
use Rattle.df_ntree.specs.File.{Assign, If, without}
use Rattle.df_ntree.specs.File as file
use Rattle.df_ntyping.specs.Table.{Signature}
use Rattle.df_ntyping.specs.Environment.{Environment, Local, Fixed, Variable_role}
use Rattle.df_ntyping.specs.ExprElaboration.{Elaborates, ElaboratesAt, Part}
use Rattle.df_ntyping.specs.StatementElaboration.{IsStatement}
use Rattle.df_ntyping.proofs.Told.{at, ident}

abbrev local : ℕ → Local
local k = record { name = k; number = k; role = Variable_role }

-- in scope: 0 of `nat`, 1 of `int`, 2 a truth; the method of the name 9 takes an `int` and gives a `nat` and a truth
abbrev env : Environment
env = record {
  table = record { newtypes = []; methods = record { name = 9; id = 4; signature = record { parameters = Some types.Int ∷ []; results = Some types.Nat ∷ Some types.Bool ∷ [] } } ∷ [] };
  outer = [];
  inner = local 0 ∷ local 1 ∷ local 2 ∷ [];
  next = 3;
  types = Fixed (Some types.Nat) ∷ Fixed (Some types.Int) ∷ Fixed (Some types.Bool) ∷ [];
  results = [];
  in_loop = false;
}

abbrev name : ℕ → ℕ → Expr
name k col = Name (ident k 1 col)

abbrev one : ℕ → Expr
one col = Number (record { negative = false; magnitude = 1; pos = at 1 col })

abbrev loc : ℕ → ℕ → typed.Expr
loc k col = typed.Local k k (at 1 col)

-- `n + 1` at a place of `nat`: `nat` counts as `int` beside the literal, and the sum narrows
abbrev sum : typed.Expr
sum = typed.Sum types.Int (typed.Convert types.Nat types.Int (at 1 1) (loc 0 1)) (typed.addend addends.Plus (at 1 3) (typed.Number types.Int (pos 1) (at 1 5)) typed.no_addend)

abbrev sum_parts : List Part
sum_parts = record { operator = binary.Add; pos = at 1 3; operand = typed.Number types.Int (pos 1) (at 1 5) } ∷ []

sum_narrows : ElaboratesAt env types.Nat (Operations (name 0 1) (more binary.Add (at 1 3) (one 5) end)) (typed.Convert types.Int types.Nat (at 1 3) sum)
sum_narrows = (
  types.Int,
  sum,
  (
    types.Int,
    types.Nat,
    loc 0 1,
    typed.Convert types.Nat types.Int (at 1 1) (loc 0 1),
    sum_parts,
    (local 0, refl, refl, refl),
    refl,
    (at 1 1, refl, refl),
    (types.Int, typed.Number types.Int (pos 1) (at 1 5), typed.Number types.Int (pos 1) (at 1 5), [], (refl, refl), refl, refl, refl, refl),
    (refl, refl, refl),
  ),
  refl,
  (at 1 3, refl, refl),
)

-- `1 < n == i`: the members are of `int`
abbrev chain_parts : List Part
chain_parts = record { operator = binary.Less; pos = at 1 3; operand = typed.Convert types.Nat types.Int (at 1 5) (loc 0 5) } ∷ record { operator = binary.Equal; pos = at 1 7; operand = loc 1 9 } ∷ []

chain_of_int : Elaborates env None (Operations (one 1) (more binary.Less (at 1 3) (name 0 5) (more binary.Equal (at 1 7) (name 1 9) end))) types.Bool
    (typed.Chain types.Int (typed.Number types.Int (pos 1) (at 1 1)) (typed.link comparisons.Less (at 1 3) (typed.Convert types.Nat types.Int (at 1 5) (loc 0 5)) (typed.link comparisons.Equal (at 1 7) (loc 1 9) typed.no_link)))
chain_of_int = (
  types.Int,
  types.Int,
  typed.Number types.Int (pos 1) (at 1 1),
  typed.Number types.Int (pos 1) (at 1 1),
  chain_parts,
  (refl, refl),
  refl,
  refl,
  (
    types.Nat,
    loc 0 5,
    typed.Convert types.Nat types.Int (at 1 5) (loc 0 5),
    record { operator = binary.Equal; pos = at 1 7; operand = loc 1 9 } ∷ [],
    (local 0, refl, refl, refl),
    refl,
    (at 1 5, refl, refl),
    (types.Int, loc 1 9, loc 1 9, [], (local 1, refl, refl, refl), refl, refl, refl, refl),
    refl,
  ),
  (refl, refl, refl, refl),
)

-- `b <== c`: what stands on the right is evaluated first
turned_implication : Elaborates env None (Operations (name 2 1) (more binary.Explies (at 1 3) (Truth true (at 1 7)) end)) types.Bool
    (typed.Implies arrows.Explies (typed.Truth true (at 1 7)) (typed.member (at 1 3) (loc 2 1) typed.no_member))
turned_implication = (
  types.Bool,
  types.Bool,
  loc 2 1,
  loc 2 1,
  record { operator = binary.Explies; pos = at 1 3; operand = typed.Truth true (at 1 7) } ∷ [],
  (local 2, refl, refl, refl),
  refl,
  refl,
  (types.Bool, typed.Truth true (at 1 7), typed.Truth true (at 1 7), [], (refl, refl), refl, refl, refl, refl),
  (refl, refl, refl),
)

-- `if b {} else if true {}`: each branch stands at its word `if`
branches_stand_at_if : IsStatement env (If (at 1 1) (name 2 4) (at 1 6) file.done (file.more (at 1 14) (Truth true (at 1 17)) (at 1 22) file.done file.end) without)
    (typed_stmt.If (typed_stmt.branch (at 1 1) (loc 2 4) typed_stmt.done (typed_stmt.branch (at 1 14) (typed.Truth true (at 1 17)) typed_stmt.done typed_stmt.no_branch)) typed_stmt.done)
branches_stand_at_if = (
  loc 2 4,
  typed_stmt.done,
  typed_stmt.branch (at 1 14) (typed.Truth true (at 1 17)) typed_stmt.done typed_stmt.no_branch,
  typed_stmt.done,
  (local 2, refl, refl, refl),
  refl,
  (typed.Truth true (at 1 17), typed_stmt.done, typed_stmt.no_branch, (refl, refl), refl, refl, refl),
  refl,
  refl,
)

-- `i, b := P(n);`: the argument is an `int`, and the first result of `nat` goes to a place of `int`
abbrev call : typed_stmt.Call
call = record { callee = 4; name = 9; pos = at 1 9; arguments = typed.Convert types.Nat types.Int (at 1 11) (loc 0 11) ∷ [] }

abbrev conversions : List typed_stmt.Conversion
conversions = record { source = types.Nat; target = types.Int } ∷ record { source = types.Bool; target = types.Bool } ∷ []

abbrev targets : List typed_stmt.Target
targets = record { local = 1; name = 1; pos = at 1 1; ty = types.Int } ∷ record { local = 2; name = 2; pos = at 1 4; ty = types.Bool } ∷ []

abbrev signature : Signature
signature = record { parameters = Some types.Int ∷ []; results = Some types.Nat ∷ Some types.Bool ∷ [] }

results_are_given : IsStatement env (Assign (name 1 1 ∷ name 2 4 ∷ []) (Call (name 9 9) (argument (name 0 11) no_more) ∷ []))
    (typed_stmt.Assign (at 1 1) (record { targets = targets; sources = typed_stmt.Results call conversions ∷ [] }))
results_are_given = (
  at 1 1,
  targets,
  typed_stmt.Results call conversions ∷ [],
  refl,
  (
    record { local = 1; name = 1; pos = at 1 1; ty = types.Int },
    record { local = 2; name = 2; pos = at 1 4; ty = types.Bool } ∷ [],
    (local 1, types.Int, refl, refl, refl, refl),
    (record { local = 2; name = 2; pos = at 1 4; ty = types.Bool }, [], (local 2, types.Bool, refl, refl, refl, refl), refl, refl),
    refl,
  ),
  (
    typed_stmt.Results call conversions,
    (
      signature,
      call,
      conversions,
      (
        4,
        typed.Convert types.Nat types.Int (at 1 11) (loc 0 11) ∷ [],
        refl,
        (
          types.Int,
          typed.Convert types.Nat types.Int (at 1 11) (loc 0 11),
          [],
          refl,
          (types.Nat, loc 0 11, (local 0, refl, refl, refl), refl, (at 1 11, refl, refl)),
          refl,
          refl,
        ),
        refl,
      ),
      (types.Nat, record { source = types.Bool; target = types.Bool } ∷ [], refl, refl, (types.Bool, [], refl, refl, refl, refl), refl),
      refl,
    ),
    refl,
  ),
  refl,
)
