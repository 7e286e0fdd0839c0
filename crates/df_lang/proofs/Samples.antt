-- Small programs, on which the definitions are tried. Positions tell which node is meant: `at 15` is an assertion.
use Rattle.std.proofs.Common.{ℕ, ◌+◌, ℤ, pos, negsuc, Bool, true, false, List, [], ◌∷◌, Option, None, Some, codes}
use Rattle.df_base.specs.declared.pos.Pos.{Pos}
use Rattle.df_lang.specs.declared.ty.Ty.{Ty}
use Rattle.df_lang.specs.declared.ty.Ty.TheVariants as types
use Rattle.df_lang.specs.declared.expr.AddendOperator.TheVariants as addends
use Rattle.df_lang.specs.declared.expr.FactorOperator.{FactorOperator}
use Rattle.df_lang.specs.declared.expr.Comparison.{Comparison}
use Rattle.df_lang.specs.declared.expr.Comparison.TheVariants as comparisons
use Rattle.df_lang.specs.Expr.{Expr, Number, Truth, Character, Local, Sum, Product, Chain, no_addend, addend, no_factor, factor, no_link, link}
use Rattle.df_lang.specs.Stmt.{Text, Value, Target, Call, Conversion, Source, Single, Results, Variable, Clause, Measure, Stmt, Var, Assign, CallOf, If, While, Break, Return, Assert, Print, Stmts, done, next, no_branch, branch}
use Rattle.df_lang.specs.Newtype.{Declared}
use Rattle.df_lang.specs.Program.{Param, Method, Decl, NewtypeDecl, MethodDecl, Program}

abbrev pub at : ℕ → Pos
at n = record { line = 1; col = n }

-- the newtype of the numbers from -100 to 100, the first declaration of each program
abbrev pub N : Ty
N = types.Newtype 0

abbrev pub named : List ℕ → Declared
named text = record { name = 0; text = text; pos = at 1 }

abbrev pub small : Decl
small = NewtypeDecl (record { declared = named (codes "small"); low = negsuc 99; high = pos 100; default = pos 0 })

abbrev pub param_of : Ty → Param
param_of ty = record { declared = named (codes "x"); ty = ty; is_ghost = false }

abbrev pub num : ℤ → Expr
num z = Number N z (at 2)

abbrev pub loc : ℕ → Expr
loc k = Local k 0 (at 3)

abbrev pub truth_expr : Bool → Expr
truth_expr b = Truth b (at 4)

abbrev pub compared : Expr → Comparison → Expr → Expr
compared a c b = Chain N a (link c (at 5) b no_link)

abbrev pub minus : Expr → Expr → Expr
minus a b = Sum N a (addend addends.Minus (at 6) b no_addend)

abbrev pub plus : Expr → Expr → Expr
plus a b = Sum N a (addend addends.Plus (at 6) b no_addend)

abbrev pub over : FactorOperator → Expr → Expr → Expr
over o a b = Product N a (factor o (at 6) b no_factor)

abbrev pub clause_of : Expr → Clause
clause_of e = record { pos = at 7; condition = e }

abbrev pub target_at : ℕ → Ty → Target
target_at k ty = record { local = k; name = 0; pos = at (20 + k); ty = ty }

abbrev pub give : ℕ → Ty → Expr → Stmt
give k ty e = Assign (at 9) (record { targets = target_at k ty ∷ []; sources = Single ty e ∷ [] })

abbrev pub called : ℕ → List Expr → Call
called id es = record { callee = id; name = 0; pos = at 11; arguments = es }

abbrev pub keep : Ty → Conversion
keep ty = record { source = ty; target = ty }

abbrev pub method_with : List Param → List Param → List Clause → List Clause → Option (List Measure) → Stmts → Method
method_with ps rs pre post dec body = record { declared = named (codes "M"); parameters = ps; results = rs; preconditions = pre; postconditions = post; decreases = dec; pos = at 12; body = body }

-- `Even` and `Odd`: each calls the other on the argument
abbrev pub parity : Bool → ℕ → Expr → Method
parity base other argument = method_with (param_of N ∷ []) (param_of types.Bool ∷ []) (clause_of (compared (num (pos 0)) comparisons.AtMost (loc 0)) ∷ []) [] None
    (next (If (branch (at 13) (compared (loc 0) comparisons.Equal (num (pos 0))) (next (give 1 types.Bool (truth_expr base)) done) no_branch)
    (next (Assign (at 9) (record { targets = target_at 1 types.Bool ∷ []; sources = Results (called other (argument ∷ [])) (keep types.Bool ∷ []) ∷ [] })) done)) done)

abbrev pub parities : Expr → Program
parities argument = record { decls = small ∷ MethodDecl (parity true 2 argument) ∷ MethodDecl (parity false 1 argument) ∷ [] }

abbrev pub below : Expr
below = minus (loc 0) (num (pos 1))

abbrev pub alone : Method → Program
alone m = record { decls = small ∷ MethodDecl m ∷ [] }

-- a parameter n, a result r: `r := 0; while r < n { .. } ..`
abbrev pub count : List Clause → Stmts → Stmts → Method
count invariants body behind = method_with (param_of N ∷ []) (param_of N ∷ []) [] [] None
    (next (give 1 N (num (pos 0))) (next (While (at 14) (compared (loc 1) comparisons.Less (loc 0)) invariants None body) behind))

abbrev pub step : Stmt
step = give 1 N (plus (loc 1) (num (pos 1)))

abbrev pub counting : Method
counting = count (clause_of (compared (loc 1) comparisons.AtMost (loc 0)) ∷ []) (next step done) (next (Assert (at 15) (compared (loc 1) comparisons.Equal (loc 0))) done)

abbrev pub bounded : Method
bounded = count (clause_of (compared (loc 1) comparisons.Less (num (pos 3))) ∷ []) (next step done) done

abbrev pub forgetting : Method
forgetting = count [] (next step done) (next (Assert (at 15) (compared (loc 1) comparisons.Equal (loc 0))) done)

abbrev pub standing : Method
standing = count [] (next (give 1 N (loc 1)) done) done

-- a break out of two ifs, a return in a loop
abbrev pub when : Expr → Stmt → Stmt
when guard stmt = If (branch (at 13) guard (next stmt done) no_branch) done

abbrev pub leaving : Stmt → Method
leaving stmt = count [] (next step (next (when (compared (loc 1) comparisons.Greater (num (pos 1))) (when (truth_expr true) stmt)) done)) (next (give 1 N (plus (loc 1) (num (pos 50)))) done)

abbrev pub giving : Stmt
giving = Return (at 16) (Some (record { targets = target_at 1 N ∷ []; sources = Single N (num (pos 33)) ∷ [] }))

-- a return gives the results, not a parameter or another local
abbrev pub giving_away : Stmt
giving_away = Return (at 16) (Some (record { targets = target_at 0 N ∷ []; sources = Single N (num (pos 33)) ∷ [] }))

abbrev pub pairs : List Target → List Source → Method
pairs ts ss = method_with [] (param_of N ∷ param_of N ∷ []) [] [] None
    (next (give 0 N (num (pos 1))) (next (give 1 N (num (pos 2))) (next (Assign (at 9) (record { targets = ts; sources = ss })) done)))

abbrev pub swapping : Method
swapping = pairs (target_at 0 N ∷ target_at 1 N ∷ []) (Single N (loc 1) ∷ Single N (loc 0) ∷ [])

abbrev pub meeting : Expr → Method
meeting e = pairs (target_at 0 N ∷ target_at 0 N ∷ []) (Single N (loc 1) ∷ Single N e ∷ [])

-- a parameter is not assigned: its postcondition would be kept by changing it
abbrev pub cheating : Method
cheating = method_with (param_of N ∷ []) (param_of N ∷ []) [] (clause_of (compared (loc 1) comparisons.Equal (loc 0)) ∷ []) None
    (next (give 0 N (num (pos 5))) (next (give 1 N (num (pos 5))) done))

abbrev pub unmeasured : Method
unmeasured = method_with [] [] [] [] None (next (While (at 14) (truth_expr true) [] None done) done)

abbrev pub measured : Method
measured = method_with [] [] [] [] None (next (While (at 14) (truth_expr true) [] (Some (record { ty = types.Bool; value = truth_expr true } ∷ [])) done) done)

-- it calls that method
abbrev pub main_of : Method
main_of = method_with [] (param_of N ∷ []) [] [] None
    (next (Assign (at 9) (record { targets = target_at 0 N ∷ []; sources = Results (called 1 (num (pos 3) ∷ [])) (keep N ∷ []) ∷ [] }))
    (next (Assert (at 15) (compared (loc 0) comparisons.Equal (num (pos 3)))) done))

abbrev pub cheated : Program
cheated = record { decls = small ∷ MethodDecl cheating ∷ MethodDecl main_of ∷ [] }

-- a break in a turn goes on behind the loop with its state; the results that the loop gives are checked then
abbrev pub broken : Method
broken = count [] (next step (next (Break (at 16)) done)) (next (Assert (at 15) (compared (loc 1) comparisons.Less (num (pos 3)))) done)

-- a local that is unassigned in the loop stays
abbrev pub staying : Method
staying = method_with (param_of N ∷ []) (param_of N ∷ []) [] [] None
    (next (give 1 N (num (pos 7))) (next (While (at 14) (truth_expr false) [] (Some []) (next (Assert (at 17) (truth_expr false)) done))
    (next (Assert (at 15) (compared (loc 1) comparisons.Equal (num (pos 7)))) done)))

-- a return in a loop: postconditions are checked there
abbrev pub returning : Method
returning = method_with (param_of N ∷ []) (param_of N ∷ []) [] (clause_of (compared (loc 1) comparisons.Equal (num (pos 0))) ∷ []) None
    (next (give 1 N (num (pos 0))) (next (While (at 14) (compared (loc 1) comparisons.Less (loc 0)) [] None (next giving done)) done))

-- two results, each narrowed, from one call; the second does not fit
abbrev pub two : Method
two = method_with [] (param_of types.Int ∷ param_of types.Int ∷ []) [] [] None
    (next (give 0 types.Int (Number types.Int (pos 1) (at 2))) (next (give 1 types.Int (Number types.Int (negsuc 0) (at 2))) done))

abbrev pub narrow : Conversion
narrow = record { source = types.Int; target = types.Nat }

abbrev pub taking : Conversion → Conversion → Ty → Ty → Method
taking a b ta tb = method_with [] (param_of ta ∷ param_of tb ∷ []) [] [] None
    (next (Assign (at 9) (record { targets = target_at 0 ta ∷ target_at 1 tb ∷ []; sources = Results (called 1 []) (a ∷ b ∷ []) ∷ [] })) done)

abbrev pub twos : Method → Program
twos m = record { decls = small ∷ MethodDecl two ∷ MethodDecl m ∷ [] }

-- print writes each operand before the next is evaluated; a wrong one ends the run
abbrev pub printing : Method
printing = method_with [] [] [] [] None (next (Print (at 9) (Text (97 ∷ []) ∷ Value types.Bool (truth_expr true) ∷ Value types.Char (Character 98 (at 2)) ∷ [])) done)

abbrev pub bytes : Method
bytes = method_with [] [] [] [] None (next (Print (at 9) (Text (200 ∷ []) ∷ [])) done)

-- a loop that gives the result by a `return` alone
abbrev pub keeping : Method
keeping = method_with (param_of N ∷ []) (param_of N ∷ []) [] [] None
    (next (give 1 N (num (pos 0))) (next (While (at 14) (compared (loc 1) comparisons.Less (loc 0)) [] None (next giving done))
    (next (Assert (at 15) (compared (loc 1) comparisons.Equal (num (pos 0)))) done)))

abbrev pub variable_at : ℕ → Ty → Variable
variable_at k ty = record { name = 0; pos = at 8; ty = ty; is_ghost = false; local = k }

abbrev pub declare : ℕ → Ty → Source → Stmt
declare k ty source = Var (at 18) (variable_at k ty ∷ []) (Some (record { targets = target_at k ty ∷ []; sources = source ∷ [] }))

-- `var b := Even(7); print b, "\n";` beside `Even` and `Odd`
abbrev pub telling : Method
telling = method_with [] [] [] [] None
    (next (declare 0 types.Bool (Results (called 1 (num (pos 7) ∷ [])) (keep types.Bool ∷ []))) (next (Print (at 9) (Value types.Bool (loc 0) ∷ Text (10 ∷ []) ∷ [])) done))

abbrev pub told : Expr → Program
told argument = record { decls = small ∷ MethodDecl (parity true 2 argument) ∷ MethodDecl (parity false 1 argument) ∷ MethodDecl telling ∷ [] }

-- `var i := 0; while i < 3 invariant 0 <= i <= bound { print i; i := i + 1; }`
abbrev pub tallying : Expr → Method
tallying bound = method_with [] [] [] [] None
    (next (declare 0 N (Single N (num (pos 0))))
    (next (While (at 14) (compared (loc 0) comparisons.Less (num (pos 3))) (clause_of (Chain N (num (pos 0)) (link comparisons.AtMost (at 5) (loc 0) (link comparisons.AtMost (at 5) bound no_link))) ∷ []) None
    (next (Print (at 9) (Value N (loc 0) ∷ [])) (next (give 0 N (plus (loc 0) (num (pos 1)))) done))) done))

-- it calls itself forever
abbrev pub calling : Method
calling = method_with [] [] [] [] None (next (CallOf (called 1 [])) done)

-- it owes the result 1, gives this, and returns behind what it printed
abbrev pub owing : Expr → Method
owing e = method_with [] (param_of N ∷ []) [] (clause_of (compared (loc 0) comparisons.Equal (num (pos 1))) ∷ []) None
    (next (Print (at 9) (Text (97 ∷ []) ∷ [])) (next (Return (at 16) (Some (record { targets = target_at 0 N ∷ []; sources = Single N e ∷ [] }))) done))

-- one place after the other
abbrev pub in_turn : Method
in_turn = method_with [] (param_of N ∷ param_of N ∷ []) [] [] None
    (next (give 0 N (num (pos 1))) (next (give 1 N (num (pos 2))) (next (give 0 N (loc 1)) (next (give 1 N (loc 0)) done))))
