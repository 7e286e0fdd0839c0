-- Small programs on which the definitions are computed. Positions tell which node is meant.
use Rattle.std.proofs.Common.{◌≡◌, ℕ, ℤ, pos, Bool, true, false, List, [], ◌∷◌, None, codes, refl}
use Rattle.df_base.specs.declared.pos.Pos.{Pos}
use Rattle.df_types.specs.declared.kind.Kind.TheVariants as kinds
use Rattle.df_types.specs.declared.op.Comparison.TheVariants.{Equal}
use Rattle.df_types.specs.declared.expr.Quantifier.TheVariants.{Forall}
use Rattle.df_types.specs.Ty.{Ty, Int, Nat, no_ty}
use Rattle.df_types.specs.Op.{Op}
use Rattle.df_types.specs.Expr.{Expr, Local, Bound, Apply, If, Call, Quantify, no_expr, expr, no_arm, arm, Between, no_trigger}
use Rattle.df_types.specs.Program.{Declared, Variable, Param, Head, Decl, FunctionDecl, Program}
use Rattle.df_types.specs.Typing.{is_program}
use Rattle.df_types.specs.Flow.{faults_of}
use Rattle.df_meaning2.specs.Value.{Value, Number, Truth}
use Rattle.df_meaning2.specs.Outcome.{Gives, Wrong, TooDeep}
use Rattle.df_meaning2.specs.State.{State}
use Rattle.df_meaning2.specs.Value as values
use Rattle.df_meaning2.specs.Meaning.{evaluate, Meaning}
use Rattle.df_meaning2.specs.Whole.{whole}
use Rattle.df_meaning2.specs.Modular.{blank}

abbrev at : ℕ → Pos
at n = record { line = 1; col = n }

abbrev named : List ℕ → Declared
named text = record { name = 0; text = text; pos = at 1 }

abbrev variable : Ty → Bool → Variable
variable t is_ghost = record { declared = named (codes "x"); ty = t; is_ghost = is_ghost; is_written = true }

abbrev param : ℕ → Ty → Bool → Param
param n t is_ghost = record { local = n; ty = t; is_ghost = is_ghost }

abbrev head : Bool → List Variable → List Param → List Param → Head
head is_ghost locals parameters results = record {
  declared = named (codes "f");
  is_ghost = is_ghost;
  type_parameters = [];
  locals = locals;
  receiver = None;
  parameters = parameters;
  results = results;
  preconditions = [];
  frame = [];
  decreases = None;
  postconditions = [];
}

abbrev two : Op → ℕ → Expr → Expr → Expr
two op n a b = Apply op (at n) (expr a (expr b no_expr))

abbrev num : Ty → ℤ → Expr
num t n = Apply (Op.NumberOf t n) (at 2) no_expr

abbrev as_int : Expr → Expr
as_int e = Apply (Op.Fit Nat Int) (at 3) (expr e no_expr)

abbrev as_nat : ℕ → Expr → Expr
as_nat n e = Apply (Op.Narrow Int Nat) (at n) (expr e no_expr)

-- ---- function Tri(n: nat): nat { if n == 0 then 0 else n + Tri(n - 1) }

abbrev n_of : Expr
n_of = as_int (Local 0 0 (at 4))

abbrev tri_value : Expr
tri_value = If Nat (arm (two (Op.Compare Equal Int) 5 n_of (num Int (pos 0))) (num Nat (pos 0)) no_arm)
    (as_nat 6 (two (Op.Add Int) 6 n_of (as_int (Call 0 no_ty (at 7) (expr (as_nat 8 (two (Op.Subtract Int) 8 n_of (num Int (pos 1)))) no_expr)))))

abbrev tri : Decl
tri = FunctionDecl (record { head = head false (variable Nat false ∷ variable Nat false ∷ []) (param 0 Nat false ∷ []) (param 1 Nat false ∷ []); value = tri_value })

abbrev triangles : Program
triangles = record { decls = tri ∷ [] }

abbrev empty : State
empty = blank no_ty values.no_object

tri_is_typed : is_program triangles ≡ true
tri_is_typed = refl

tri_is_lawful : faults_of triangles tri ≡ []
tri_is_lawful = refl

tri_of_three : (whole triangles 4).apply (at 9) 0 no_ty (Number (pos 3) ∷ []) empty ≡ Gives (Number (pos 6))
tri_of_three = refl

tri_too_deep : (whole triangles 3).apply (at 9) 0 no_ty (Number (pos 3) ∷ []) empty ≡ TooDeep
tri_too_deep = refl

-- ---- a quantifier is wrong at the value that is looked at first

abbrev one : Expr
one = num Int (pos 1)

abbrev x_of : Expr
x_of = Bound 0 0 (at 10)

abbrev halves : Expr
halves = Quantify 1 (at 11) Forall (record { name = 0; pos = at 11; ty = Int; is_written = true }) (Between Int (num Int (pos 0)) false (num Int (pos 1)) false) no_trigger
    (two (Op.Compare Equal Int) 12 (two (Op.Divide Int) 13 one (two (Op.Subtract Int) 14 x_of one)) (two (Op.Divide Int) 15 one x_of))

abbrev looking : ℕ → Meaning
looking n = record (whole triangles 0) { first = λ site. n }

first_value_tells : evaluate (looking 0) empty halves ≡ Wrong (at 15) kinds.Divisor
first_value_tells = refl

second_value_tells : evaluate (looking 1) empty halves ≡ Wrong (at 13) kinds.Divisor
second_value_tells = refl
