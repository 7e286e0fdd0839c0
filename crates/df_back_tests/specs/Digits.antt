-- A program: a newtype, a method that prints 0 to 2 in a loop, and an entry that calls it. The type of the loop's local is
-- open. Each node has one place, but for the local.
use Rattle.std.specs.Prelude.{ℤ, pos, negsuc, ℕ, false, List, [], ◌∷◌, None, Some, codes}
use Rattle.df_base.specs.declared.pos.Pos.{Pos}
use Rattle.df_lang.specs.declared.ty.Ty.{Ty}
use Rattle.df_lang.specs.declared.expr.AddendOperator.TheVariants as addends
use Rattle.df_lang.specs.declared.expr.Comparison.{Comparison}
use Rattle.df_lang.specs.declared.expr.Comparison.TheVariants as comparisons
use Rattle.df_lang.specs.Expr.{Expr, Number, Local, Sum, Chain, no_addend, addend, no_link, link}
use Rattle.df_lang.specs.Stmt.{Value, Target, Single, Update, Clause, Stmt, Var, Assign, CallOf, While, Print, Stmts, done, next}
use Rattle.df_lang.specs.Newtype.{Declared}
use Rattle.df_lang.specs.Program.{Decl, NewtypeDecl, MethodDecl, Program}

abbrev pub here : Pos
here = record { line = 1; col = 1 }

abbrev pub at_local : Pos
at_local = record { line = 4; col = 7 }

abbrev pub named : List ℕ → Declared
named text = record { name = 0; text = text; pos = here }

-- newtype i32 = x: int | -0x8000_0000 <= x < 0x8000_0000
abbrev pub bits : Decl
bits = NewtypeDecl (record { declared = named (codes "i32"); low = negsuc 2147483647; high = pos 2147483647; default = pos 0 })

abbrev pub number : Ty → ℤ → Expr
number ty value = Number ty value here

abbrev pub counter : Expr
counter = Local 0 0 here

abbrev pub against_three : Ty → Comparison → Expr
against_three ty comparison = Chain ty counter (link comparison here (number ty (pos 3)) no_link)

abbrev pub one_more : Ty → Expr
one_more ty = Sum ty counter (addend addends.Plus here (number ty (pos 1)) no_addend)

abbrev pub targets : Ty → List Target
targets ty = record { local = 0; name = 0; pos = here; ty = ty } ∷ []

abbrev pub takes : Ty → Expr → Update
takes ty value = record { targets = targets ty; sources = Single ty value ∷ [] }

-- var i: TY := 0;
abbrev pub declare : Ty → Stmt
declare ty = Var here (record { name = 0; pos = at_local; ty = ty; is_ghost = false; local = 0 } ∷ []) (Some (takes ty (number ty (pos 0))))

-- print i;
abbrev pub print : Ty → Stmt
print ty = Print here (Value ty counter ∷ [])

-- i := i + 1;
abbrev pub count : Ty → Stmt
count ty = Assign here (takes ty (one_more ty))

-- invariant i <= 3
abbrev pub invariants : Ty → List Clause
invariants ty = record { pos = here; condition = against_three ty comparisons.AtMost } ∷ []

-- print i; i := i + 1;
abbrev pub body : Ty → Stmts
body ty = next (print ty) (next (count ty) done)

-- while i < 3 INVARIANTS { print i; i := i + 1; }
abbrev pub repeated : Ty → List Clause → Stmt
repeated ty all = While here (against_three ty comparisons.Less) all None (body ty)

-- while i < 3 invariant i <= 3 { print i; i := i + 1; }
abbrev pub repeat : Ty → Stmt
repeat ty = repeated ty (invariants ty)

abbrev pub method : List ℕ → Stmts → Decl
method text body = MethodDecl (record { declared = named text; parameters = []; results = []; preconditions = []; postconditions = []; decreases = None; pos = here; body = body })

abbrev pub printing : Ty → Decl
printing ty = method (codes "Loop") (next (declare ty) (next (repeat ty) done))

abbrev pub entry : Decl
entry = method (codes "Main") (next (CallOf (record { callee = 1; name = 0; pos = here; arguments = [] })) done)

abbrev pub program : Ty → Program
program ty = record { decls = bits ∷ printing ty ∷ entry ∷ [] }
