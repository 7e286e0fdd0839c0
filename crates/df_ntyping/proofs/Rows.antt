-- What small files break, by computation, and that others elaborate to well-typed programs: with where a local has no value.
use Rattle.std.proofs.Common.{◌≡◌, true, false, [], ◌∷◌, Some, None, refl}
use Rattle.df_ntree.specs.declared.expr.BinaryOperator.TheVariants as binary
use Rattle.df_ntree.specs.declared.expr.UnaryOperator.TheVariants as unary
use Rattle.df_ntree.specs.declared.expr.BasicType.TheVariants as basics
use Rattle.df_ntree.specs.declared.expr.TreeType.TheVariants as trees
use Rattle.df_ntree.specs.Expr.{Number, Character, Truth, Name, Parentheses, Call, Unary, Cast, Operations, Leading, end, more, no_more, argument}
use Rattle.df_ntree.specs.declared.file.ConditionKind.TheVariants as conditions
use Rattle.df_ntree.specs.File as file
use Rattle.df_ntree.specs.File.{Clause, Text, Value, Nested, Var, Assign, Expression, If, While, Return, Break, Assert, Print, done, next, without, otherwise, Newtype, Method}
use Rattle.df_ntyping.proofs.Told.{at, ident, told}
use Rattle.df_ntyping.proofs.Assigned.{checked}

-- `method A() { var x: int := true; } ⏎ method B() { print y; }`: S6
names_before_types : told (record { declarations = (Method (record { name = (ident 0 1 8); parameters = ([]); results = None; clauses = ([]); body = record { pos = (at 1 12); statements = (next (Var (at 1 14) (record { name = (ident 1 1 18); ty = (Some (trees.Basic basics.Int (at 1 21))) } ∷ []) ((Truth true (at 1 28)) ∷ [])) done) } }) ∷ Method (record { name = (ident 2 2 8); parameters = ([]); results = None; clauses = ([]); body = record { pos = (at 2 12); statements = (next (Print (at 2 14) (Value (Name (ident 3 2 20)) ∷ [])) done) } }) ∷ []) }) ≡ Some (6, 0, Some (at 2 20))
names_before_types = refl

-- `method M() { } ⏎ method M() { print y; }`: S7
second_name_first : told (record { declarations = (Method (record { name = (ident 0 1 8); parameters = ([]); results = None; clauses = ([]); body = record { pos = (at 1 12); statements = done } }) ∷ Method (record { name = (ident 0 2 8); parameters = ([]); results = None; clauses = ([]); body = record { pos = (at 2 12); statements = (next (Print (at 2 14) (Value (Name (ident 1 2 20)) ∷ [])) done) } }) ∷ []) }) ≡ Some (7, 0, Some (at 2 8))
second_name_first = refl

-- `method M() { var x: int; x := !3; }`: E1
value_before_truths : told (record { declarations = (Method (record { name = (ident 0 1 8); parameters = ([]); results = None; clauses = ([]); body = record { pos = (at 1 12); statements = (next (Var (at 1 14) (record { name = (ident 1 1 18); ty = (Some (trees.Basic basics.Int (at 1 21))) } ∷ []) ([])) (next (Assign ((Name (ident 1 1 26)) ∷ []) ((Unary unary.Not (at 1 31) (Number (record { negative = false; magnitude = 3; pos = (at 1 32) }))) ∷ [])) done)) } }) ∷ []) }) ≡ Some (9, 1, Some (at 1 31))
value_before_truths = refl

-- `method M(c: char) { var x: int := c as char; }`: E1
value_before_cast : told (record { declarations = (Method (record { name = (ident 0 1 8); parameters = (record { name = (ident 1 1 10); ty = (trees.Basic basics.Char (at 1 13)) } ∷ []); results = None; clauses = ([]); body = record { pos = (at 1 19); statements = (next (Var (at 1 21) (record { name = (ident 2 1 25); ty = (Some (trees.Basic basics.Int (at 1 28))) } ∷ []) ((Cast (Name (ident 1 1 35)) ((trees.Basic basics.Char (at 1 40)) ∷ [])) ∷ [])) done) } }) ∷ []) }) ≡ Some (9, 1, Some (at 1 35))
value_before_cast = refl

-- `method M() { assert 'a' as char; }`: E7
truths_before_cast : told (record { declarations = (Method (record { name = (ident 0 1 8); parameters = ([]); results = None; clauses = ([]); body = record { pos = (at 1 12); statements = (next (Assert (at 1 14) (Cast (Character 97 (at 1 21)) ((trees.Basic basics.Char (at 1 28)) ∷ []))) done) } }) ∷ []) }) ≡ Some (9, 7, Some (at 1 21))
truths_before_cast = refl

-- `method M() { var x: bool := 1 + true; }`: E3
sum_without_type : told (record { declarations = (Method (record { name = (ident 0 1 8); parameters = ([]); results = None; clauses = ([]); body = record { pos = (at 1 12); statements = (next (Var (at 1 14) (record { name = (ident 1 1 18); ty = (Some (trees.Basic basics.Bool (at 1 21))) } ∷ []) ((Operations (Number (record { negative = false; magnitude = 1; pos = (at 1 29) })) (more binary.Add (at 1 31) (Truth true (at 1 33)) end)) ∷ [])) done) } }) ∷ []) }) ≡ Some (9, 3, Some (at 1 31))
sum_without_type = refl

-- `method M(a: int) { var x: int := a < true < a; }`: E4
part_of_a_chain : told (record { declarations = (Method (record { name = (ident 0 1 8); parameters = (record { name = (ident 1 1 10); ty = (trees.Basic basics.Int (at 1 13)) } ∷ []); results = None; clauses = ([]); body = record { pos = (at 1 18); statements = (next (Var (at 1 20) (record { name = (ident 2 1 24); ty = (Some (trees.Basic basics.Int (at 1 27))) } ∷ []) ((Operations (Name (ident 1 1 34)) (more binary.Less (at 1 36) (Truth true (at 1 38)) (more binary.Less (at 1 43) (Name (ident 1 1 45)) end))) ∷ [])) done) } }) ∷ []) }) ≡ Some (9, 4, Some (at 1 36))
part_of_a_chain = refl

-- `method M() { print 1 < 2 > true; }`: E4
order_before_direction : told (record { declarations = (Method (record { name = (ident 0 1 8); parameters = ([]); results = None; clauses = ([]); body = record { pos = (at 1 12); statements = (next (Print (at 1 14) (Value (Operations (Number (record { negative = false; magnitude = 1; pos = (at 1 20) })) (more binary.Less (at 1 22) (Number (record { negative = false; magnitude = 2; pos = (at 1 24) })) (more binary.Greater (at 1 26) (Truth true (at 1 28)) end))) ∷ [])) done) } }) ∷ []) }) ≡ Some (9, 4, Some (at 1 26))
order_before_direction = refl

-- `method M(b: bool, i: int) { print i ==> b ==> i; }`: E7
inner_implication : told (record { declarations = (Method (record { name = (ident 0 1 8); parameters = (record { name = (ident 1 1 10); ty = (trees.Basic basics.Bool (at 1 13)) } ∷ record { name = (ident 2 1 19); ty = (trees.Basic basics.Int (at 1 22)) } ∷ []); results = None; clauses = ([]); body = record { pos = (at 1 27); statements = (next (Print (at 1 29) (Value (Operations (Name (ident 2 1 35)) (more binary.Implies (at 1 37) (Name (ident 1 1 41)) (more binary.Implies (at 1 43) (Name (ident 2 1 47)) end))) ∷ [])) done) } }) ∷ []) }) ≡ Some (9, 7, Some (at 1 43))
inner_implication = refl

-- `method P(a: int) returns (r: int) { r := a; } ⏎ method M() { print P(); }`: E14
count_before_place_of_call : told (record { declarations = (Method (record { name = (ident 0 1 8); parameters = (record { name = (ident 1 1 10); ty = (trees.Basic basics.Int (at 1 13)) } ∷ []); results = (Some (record { name = (ident 2 1 27); ty = (trees.Basic basics.Int (at 1 30)) } ∷ [])); clauses = ([]); body = record { pos = (at 1 35); statements = (next (Assign ((Name (ident 2 1 37)) ∷ []) ((Name (ident 1 1 42)) ∷ [])) done) } }) ∷ Method (record { name = (ident 3 2 8); parameters = ([]); results = None; clauses = ([]); body = record { pos = (at 2 12); statements = (next (Print (at 2 14) (Value (Call (Name (ident 0 2 20)) no_more) ∷ [])) done) } }) ∷ []) }) ≡ Some (9, 14, Some (at 2 20))
count_before_place_of_call = refl

-- `method M() { assert M; }`: E15
method_without_call : told (record { declarations = (Method (record { name = (ident 0 1 8); parameters = ([]); results = None; clauses = ([]); body = record { pos = (at 1 12); statements = (next (Assert (at 1 14) (Name (ident 0 1 21))) done) } }) ∷ []) }) ≡ Some (9, 15, Some (at 1 21))
method_without_call = refl

-- `method M() returns (r: int) invariant r == 0 { r := 0; }`: S6
results_not_in_invariants : told (record { declarations = (Method (record { name = (ident 0 1 8); parameters = ([]); results = (Some (record { name = (ident 1 1 21); ty = (trees.Basic basics.Int (at 1 24)) } ∷ [])); clauses = (Clause.Condition conditions.Invariant (at 1 29) (Operations (Name (ident 1 1 39)) (more binary.Equal (at 1 41) (Number (record { negative = false; magnitude = 0; pos = (at 1 44) })) end)) ∷ []); body = record { pos = (at 1 46); statements = (next (Assign ((Name (ident 1 1 48)) ∷ []) ((Number (record { negative = false; magnitude = 0; pos = (at 1 53) })) ∷ [])) done) } }) ∷ []) }) ≡ Some (6, 0, Some (at 1 39))
results_not_in_invariants = refl

-- `method P(a: int) returns (r: int) { r := a; } ⏎ method M() { P(1) := 2; }`: E15
call_on_the_left : told (record { declarations = (Method (record { name = (ident 0 1 8); parameters = (record { name = (ident 1 1 10); ty = (trees.Basic basics.Int (at 1 13)) } ∷ []); results = (Some (record { name = (ident 2 1 27); ty = (trees.Basic basics.Int (at 1 30)) } ∷ [])); clauses = ([]); body = record { pos = (at 1 35); statements = (next (Assign ((Name (ident 2 1 37)) ∷ []) ((Name (ident 1 1 42)) ∷ [])) done) } }) ∷ Method (record { name = (ident 3 2 8); parameters = ([]); results = None; clauses = ([]); body = record { pos = (at 2 12); statements = (next (Assign ((Call (Name (ident 0 2 14)) (argument (Number (record { negative = false; magnitude = 1; pos = (at 2 16) })) no_more)) ∷ []) ((Number (record { negative = false; magnitude = 2; pos = (at 2 22) })) ∷ [])) done) } }) ∷ []) }) ≡ Some (9, 15, Some (at 2 14))
call_on_the_left = refl

-- `method P(a: int) returns (r: int) { r := a; } ⏎ method M() { P() := 2; }`: E14
count_on_the_left : told (record { declarations = (Method (record { name = (ident 0 1 8); parameters = (record { name = (ident 1 1 10); ty = (trees.Basic basics.Int (at 1 13)) } ∷ []); results = (Some (record { name = (ident 2 1 27); ty = (trees.Basic basics.Int (at 1 30)) } ∷ [])); clauses = ([]); body = record { pos = (at 1 35); statements = (next (Assign ((Name (ident 2 1 37)) ∷ []) ((Name (ident 1 1 42)) ∷ [])) done) } }) ∷ Method (record { name = (ident 3 2 8); parameters = ([]); results = None; clauses = ([]); body = record { pos = (at 2 12); statements = (next (Assign ((Call (Name (ident 0 2 14)) no_more) ∷ []) ((Number (record { negative = false; magnitude = 2; pos = (at 2 21) })) ∷ [])) done) } }) ∷ []) }) ≡ Some (9, 14, Some (at 2 14))
count_on_the_left = refl

-- `method M() { M := 5; }`: E22
method_on_the_left : told (record { declarations = (Method (record { name = (ident 0 1 8); parameters = ([]); results = None; clauses = ([]); body = record { pos = (at 1 12); statements = (next (Assign ((Name (ident 0 1 14)) ∷ []) ((Number (record { negative = false; magnitude = 5; pos = (at 1 19) })) ∷ [])) done) } }) ∷ []) }) ≡ Some (9, 22, Some (at 1 14))
method_on_the_left = refl

-- `method P(x: int) returns (r: int) ensures P(x) { r := x; }`: E7
truths_before_calls : told (record { declarations = (Method (record { name = (ident 0 1 8); parameters = (record { name = (ident 1 1 10); ty = (trees.Basic basics.Int (at 1 13)) } ∷ []); results = (Some (record { name = (ident 2 1 27); ty = (trees.Basic basics.Int (at 1 30)) } ∷ [])); clauses = (Clause.Condition conditions.Ensures (at 1 35) (Call (Name (ident 0 1 43)) (argument (Name (ident 1 1 45)) no_more)) ∷ []); body = record { pos = (at 1 48); statements = (next (Assign ((Name (ident 2 1 50)) ∷ []) ((Name (ident 1 1 55)) ∷ [])) done) } }) ∷ []) }) ≡ Some (9, 7, Some (at 1 43))
truths_before_calls = refl

-- `method Q(x: int) returns (b: bool) { b := true; } ⏎ method M() { Q(Q(1)); }`: E1
argument_before_calls : told (record { declarations = (Method (record { name = (ident 0 1 8); parameters = (record { name = (ident 1 1 10); ty = (trees.Basic basics.Int (at 1 13)) } ∷ []); results = (Some (record { name = (ident 2 1 27); ty = (trees.Basic basics.Bool (at 1 30)) } ∷ [])); clauses = ([]); body = record { pos = (at 1 36); statements = (next (Assign ((Name (ident 2 1 38)) ∷ []) ((Truth true (at 1 43)) ∷ [])) done) } }) ∷ Method (record { name = (ident 3 2 8); parameters = ([]); results = None; clauses = ([]); body = record { pos = (at 2 12); statements = (next (Expression (Call (Name (ident 0 2 14)) (argument (Call (Name (ident 0 2 16)) (argument (Number (record { negative = false; magnitude = 1; pos = (at 2 18) })) no_more)) no_more))) done) } }) ∷ []) }) ≡ Some (9, 1, Some (at 2 16))
argument_before_calls = refl

-- `method M(a: int) { a := true; }`: E22
place_before_value : told (record { declarations = (Method (record { name = (ident 0 1 8); parameters = (record { name = (ident 1 1 10); ty = (trees.Basic basics.Int (at 1 13)) } ∷ []); results = None; clauses = ([]); body = record { pos = (at 1 18); statements = (next (Assign ((Name (ident 1 1 20)) ∷ []) ((Truth true (at 1 25)) ∷ [])) done) } }) ∷ []) }) ≡ Some (9, 22, Some (at 1 20))
place_before_value = refl

-- `method P() returns (a: int, b: int) { a, b := 1, 2; } ⏎ method M() { var x := P(); }`: E22
two_results_for_one_place : told (record { declarations = (Method (record { name = (ident 0 1 8); parameters = ([]); results = (Some (record { name = (ident 1 1 21); ty = (trees.Basic basics.Int (at 1 24)) } ∷ record { name = (ident 2 1 29); ty = (trees.Basic basics.Int (at 1 32)) } ∷ [])); clauses = ([]); body = record { pos = (at 1 37); statements = (next (Assign ((Name (ident 1 1 39)) ∷ (Name (ident 2 1 42)) ∷ []) ((Number (record { negative = false; magnitude = 1; pos = (at 1 47) })) ∷ (Number (record { negative = false; magnitude = 2; pos = (at 1 50) })) ∷ [])) done) } }) ∷ Method (record { name = (ident 3 2 8); parameters = ([]); results = None; clauses = ([]); body = record { pos = (at 2 12); statements = (next (Var (at 2 14) (record { name = (ident 4 2 18); ty = None } ∷ []) ((Call (Name (ident 0 2 23)) no_more) ∷ [])) done) } }) ∷ []) }) ≡ Some (9, 22, Some (at 2 14))
two_results_for_one_place = refl

-- `method M() { while true { print 1 + true; } }`: E3
loop_ends_behind_body : told (record { declarations = (Method (record { name = (ident 0 1 8); parameters = ([]); results = None; clauses = ([]); body = record { pos = (at 1 12); statements = (next (While (at 1 14) (Truth true (at 1 20)) ([]) (at 1 25) (next (Print (at 1 27) (Value (Operations (Number (record { negative = false; magnitude = 1; pos = (at 1 33) })) (more binary.Add (at 1 35) (Truth true (at 1 37)) end)) ∷ [])) done)) done) } }) ∷ []) }) ≡ Some (9, 3, Some (at 1 35))
loop_ends_behind_body = refl

-- `method M() { var x; x := x + 1; }`: S10
used_in_its_first_value : told (record { declarations = (Method (record { name = (ident 0 1 8); parameters = ([]); results = None; clauses = ([]); body = record { pos = (at 1 12); statements = (next (Var (at 1 14) (record { name = (ident 1 1 18); ty = None } ∷ []) ([])) (next (Assign ((Name (ident 1 1 21)) ∷ []) ((Operations (Name (ident 1 1 26)) (more binary.Add (at 1 28) (Number (record { negative = false; magnitude = 1; pos = (at 1 30) })) end)) ∷ [])) done)) } }) ∷ []) }) ≡ Some (10, 0, Some (at 1 18))
used_in_its_first_value = refl

-- `method M() { var x; if true { x := 1; } else { x := 'a'; } }`: E1
first_assignment_in_the_text : told (record { declarations = (Method (record { name = (ident 0 1 8); parameters = ([]); results = None; clauses = ([]); body = record { pos = (at 1 12); statements = (next (Var (at 1 14) (record { name = (ident 1 1 18); ty = None } ∷ []) ([])) (next (If (at 1 21) (Truth true (at 1 24)) (at 1 29) (next (Assign ((Name (ident 1 1 31)) ∷ []) ((Number (record { negative = false; magnitude = 1; pos = (at 1 36) })) ∷ [])) done) file.end (otherwise (at 1 46) (next (Assign ((Name (ident 1 1 48)) ∷ []) ((Character 97 (at 1 53)) ∷ [])) done))) done)) } }) ∷ []) }) ≡ Some (9, 1, Some (at 1 53))
first_assignment_in_the_text = refl

-- `newtype n = x: int | 0 <= x < 9 witness 9`: S11
witness_outside : told (record { declarations = (Newtype (record { name = (ident 0 1 9); variable = (ident 1 1 13); is_typed = true; predicate = (Operations (Number (record { negative = false; magnitude = 0; pos = (at 1 22) })) (more binary.AtMost (at 1 24) (Name (ident 1 1 27)) (more binary.Less (at 1 29) (Number (record { negative = false; magnitude = 9; pos = (at 1 31) })) end))); witness = (Some (Number (record { negative = false; magnitude = 9; pos = (at 1 41) }))) }) ∷ []) }) ≡ Some (11, 0, Some (at 1 9))
witness_outside = refl

-- `method M(n: nat, i: int) { var a: int := n; var b: nat := i; }`
nat_and_int : told (record { declarations = (Method (record { name = (ident 0 1 8); parameters = (record { name = (ident 1 1 10); ty = (trees.Basic basics.Nat (at 1 13)) } ∷ record { name = (ident 2 1 18); ty = (trees.Basic basics.Int (at 1 21)) } ∷ []); results = None; clauses = ([]); body = record { pos = (at 1 26); statements = (next (Var (at 1 28) (record { name = (ident 3 1 32); ty = (Some (trees.Basic basics.Int (at 1 35))) } ∷ []) ((Name (ident 1 1 42)) ∷ [])) (next (Var (at 1 45) (record { name = (ident 4 1 49); ty = (Some (trees.Basic basics.Nat (at 1 52))) } ∷ []) ((Name (ident 2 1 59)) ∷ [])) done)) } }) ∷ []) }) ≡ None
nat_and_int = refl

-- `method P() returns (a: int, b: int) { a, b := 1, 2; } ⏎ method M() { var x, y := P(); x, y := y, x; x, y := P(); }`
sides_by_calls : told (record { declarations = (Method (record { name = (ident 0 1 8); parameters = ([]); results = (Some (record { name = (ident 1 1 21); ty = (trees.Basic basics.Int (at 1 24)) } ∷ record { name = (ident 2 1 29); ty = (trees.Basic basics.Int (at 1 32)) } ∷ [])); clauses = ([]); body = record { pos = (at 1 37); statements = (next (Assign ((Name (ident 1 1 39)) ∷ (Name (ident 2 1 42)) ∷ []) ((Number (record { negative = false; magnitude = 1; pos = (at 1 47) })) ∷ (Number (record { negative = false; magnitude = 2; pos = (at 1 50) })) ∷ [])) done) } }) ∷ Method (record { name = (ident 3 2 8); parameters = ([]); results = None; clauses = ([]); body = record { pos = (at 2 12); statements = (next (Var (at 2 14) (record { name = (ident 4 2 18); ty = None } ∷ record { name = (ident 5 2 21); ty = None } ∷ []) ((Call (Name (ident 0 2 26)) no_more) ∷ [])) (next (Assign ((Name (ident 4 2 31)) ∷ (Name (ident 5 2 34)) ∷ []) ((Name (ident 5 2 39)) ∷ (Name (ident 4 2 42)) ∷ [])) (next (Assign ((Name (ident 4 2 45)) ∷ (Name (ident 5 2 48)) ∷ []) ((Call (Name (ident 0 2 53)) no_more) ∷ [])) done))) } }) ∷ []) }) ≡ None
sides_by_calls = refl

-- `method M(b: bool, i: int, n: nat) { while (i < 3) && b { } while && 3 >= i { } while (i > n) { } while true decreases 3 - i, b { } }`
loops_with_measures : told (record { declarations = (Method (record { name = (ident 0 1 8); parameters = (record { name = (ident 1 1 10); ty = (trees.Basic basics.Bool (at 1 13)) } ∷ record { name = (ident 2 1 19); ty = (trees.Basic basics.Int (at 1 22)) } ∷ record { name = (ident 3 1 27); ty = (trees.Basic basics.Nat (at 1 30)) } ∷ []); results = None; clauses = ([]); body = record { pos = (at 1 35); statements = (next (While (at 1 37) (Operations (Parentheses (at 1 43) (Operations (Name (ident 2 1 44)) (more binary.Less (at 1 46) (Number (record { negative = false; magnitude = 3; pos = (at 1 48) })) end))) (more binary.And (at 1 51) (Name (ident 1 1 54)) end)) ([]) (at 1 56) done) (next (While (at 1 60) (Leading (more binary.And (at 1 66) (Operations (Number (record { negative = false; magnitude = 3; pos = (at 1 69) })) (more binary.AtLeast (at 1 71) (Name (ident 2 1 74)) end)) end)) ([]) (at 1 76) done) (next (While (at 1 80) (Parentheses (at 1 86) (Operations (Name (ident 2 1 87)) (more binary.Greater (at 1 89) (Name (ident 3 1 91)) end))) ([]) (at 1 94) done) (next (While (at 1 98) (Truth true (at 1 104)) (Clause.Decreases (at 1 109) ((Operations (Number (record { negative = false; magnitude = 3; pos = (at 1 119) })) (more binary.Subtract (at 1 121) (Name (ident 2 1 123)) end)) ∷ (Name (ident 1 1 126)) ∷ []) ∷ []) (at 1 128) done) done)))) } }) ∷ []) }) ≡ None
loops_with_measures = refl

-- `method P() returns (a: int, b: int) { a, b := 1, 2; } ⏎ method M() { var x, y := P(); x, y := y, x; x, y := P(); }`
results_to_places : checked (record { declarations = (Method (record { name = (ident 0 1 8); parameters = ([]); results = (Some (record { name = (ident 1 1 21); ty = (trees.Basic basics.Int (at 1 24)) } ∷ record { name = (ident 2 1 29); ty = (trees.Basic basics.Int (at 1 32)) } ∷ [])); clauses = ([]); body = record { pos = (at 1 37); statements = (next (Assign ((Name (ident 1 1 39)) ∷ (Name (ident 2 1 42)) ∷ []) ((Number (record { negative = false; magnitude = 1; pos = (at 1 47) })) ∷ (Number (record { negative = false; magnitude = 2; pos = (at 1 50) })) ∷ [])) done) } }) ∷ Method (record { name = (ident 3 2 8); parameters = ([]); results = None; clauses = ([]); body = record { pos = (at 2 12); statements = (next (Var (at 2 14) (record { name = (ident 4 2 18); ty = None } ∷ record { name = (ident 5 2 21); ty = None } ∷ []) ((Call (Name (ident 0 2 26)) no_more) ∷ [])) (next (Assign ((Name (ident 4 2 31)) ∷ (Name (ident 5 2 34)) ∷ []) ((Name (ident 5 2 39)) ∷ (Name (ident 4 2 42)) ∷ [])) (next (Assign ((Name (ident 4 2 45)) ∷ (Name (ident 5 2 48)) ∷ []) ((Call (Name (ident 0 2 53)) no_more) ∷ [])) done))) } }) ∷ []) }) ≡ Some (true, None)
results_to_places = refl

-- `newtype i8 = x: int | -128 <= x < 128 ⏎ method M(n: nat, i: int, a: i8) { print n < i, i <= n, 1 < n, a < (1 + 2); }`
converted_members : checked (record { declarations = (Newtype (record { name = (ident 0 1 9); variable = (ident 1 1 14); is_typed = true; predicate = (Operations (Number (record { negative = true; magnitude = 128; pos = (at 1 23) })) (more binary.AtMost (at 1 28) (Name (ident 1 1 31)) (more binary.Less (at 1 33) (Number (record { negative = false; magnitude = 128; pos = (at 1 35) })) end))); witness = None }) ∷ Method (record { name = (ident 2 2 8); parameters = (record { name = (ident 3 2 10); ty = (trees.Basic basics.Nat (at 2 13)) } ∷ record { name = (ident 4 2 18); ty = (trees.Basic basics.Int (at 2 21)) } ∷ record { name = (ident 5 2 26); ty = (trees.Named (ident 0 2 29)) } ∷ []); results = None; clauses = ([]); body = record { pos = (at 2 33); statements = (next (Print (at 2 35) (Value (Operations (Name (ident 3 2 41)) (more binary.Less (at 2 43) (Name (ident 4 2 45)) end)) ∷ Value (Operations (Name (ident 4 2 48)) (more binary.AtMost (at 2 50) (Name (ident 3 2 53)) end)) ∷ Value (Operations (Number (record { negative = false; magnitude = 1; pos = (at 2 56) })) (more binary.Less (at 2 58) (Name (ident 3 2 60)) end)) ∷ Value (Operations (Name (ident 5 2 63)) (more binary.Less (at 2 65) (Parentheses (at 2 67) (Operations (Number (record { negative = false; magnitude = 1; pos = (at 2 68) })) (more binary.Add (at 2 70) (Number (record { negative = false; magnitude = 2; pos = (at 2 72) })) end))) end)) ∷ [])) done) } }) ∷ []) }) ≡ Some (true, None)
converted_members = refl

-- `method M(b: bool, i: int, n: nat) { while (i < 3) && b { } while && 3 >= i { } while (i > n) { } while true decreases 3 - i, b { } }`
measured_loops : checked (record { declarations = (Method (record { name = (ident 0 1 8); parameters = (record { name = (ident 1 1 10); ty = (trees.Basic basics.Bool (at 1 13)) } ∷ record { name = (ident 2 1 19); ty = (trees.Basic basics.Int (at 1 22)) } ∷ record { name = (ident 3 1 27); ty = (trees.Basic basics.Nat (at 1 30)) } ∷ []); results = None; clauses = ([]); body = record { pos = (at 1 35); statements = (next (While (at 1 37) (Operations (Parentheses (at 1 43) (Operations (Name (ident 2 1 44)) (more binary.Less (at 1 46) (Number (record { negative = false; magnitude = 3; pos = (at 1 48) })) end))) (more binary.And (at 1 51) (Name (ident 1 1 54)) end)) ([]) (at 1 56) done) (next (While (at 1 60) (Leading (more binary.And (at 1 66) (Operations (Number (record { negative = false; magnitude = 3; pos = (at 1 69) })) (more binary.AtLeast (at 1 71) (Name (ident 2 1 74)) end)) end)) ([]) (at 1 76) done) (next (While (at 1 80) (Parentheses (at 1 86) (Operations (Name (ident 2 1 87)) (more binary.Greater (at 1 89) (Name (ident 3 1 91)) end))) ([]) (at 1 94) done) (next (While (at 1 98) (Truth true (at 1 104)) (Clause.Decreases (at 1 109) ((Operations (Number (record { negative = false; magnitude = 3; pos = (at 1 119) })) (more binary.Subtract (at 1 121) (Name (ident 2 1 123)) end)) ∷ (Name (ident 1 1 126)) ∷ []) ∷ []) (at 1 128) done) done)))) } }) ∷ []) }) ≡ Some (true, None)
measured_loops = refl

-- `method M() { var x; { x := 1; } print x + 1; }`
type_by_assignment : checked (record { declarations = (Method (record { name = (ident 0 1 8); parameters = ([]); results = None; clauses = ([]); body = record { pos = (at 1 12); statements = (next (Var (at 1 14) (record { name = (ident 1 1 18); ty = None } ∷ []) ([])) (next (Nested (at 1 21) (next (Assign ((Name (ident 1 1 23)) ∷ []) ((Number (record { negative = false; magnitude = 1; pos = (at 1 28) })) ∷ [])) done)) (next (Print (at 1 33) (Value (Operations (Name (ident 1 1 39)) (more binary.Add (at 1 41) (Number (record { negative = false; magnitude = 1; pos = (at 1 43) })) end)) ∷ [])) done))) } }) ∷ []) }) ≡ Some (true, None)
type_by_assignment = refl

-- `method M(b: bool) { var x: int; while true decreases 0 { if b { break; } x := 1; } print x; }`
without_a_value_behind_a_break : checked (record { declarations = (Method (record { name = (ident 0 1 8); parameters = (record { name = (ident 1 1 10); ty = (trees.Basic basics.Bool (at 1 13)) } ∷ []); results = None; clauses = ([]); body = record { pos = (at 1 19); statements = (next (Var (at 1 21) (record { name = (ident 2 1 25); ty = (Some (trees.Basic basics.Int (at 1 28))) } ∷ []) ([])) (next (While (at 1 33) (Truth true (at 1 39)) (Clause.Decreases (at 1 44) ((Number (record { negative = false; magnitude = 0; pos = (at 1 54) })) ∷ []) ∷ []) (at 1 56) (next (If (at 1 58) (Name (ident 1 1 61)) (at 1 63) (next (Break (at 1 65)) done) file.end without) (next (Assign ((Name (ident 2 1 74)) ∷ []) ((Number (record { negative = false; magnitude = 1; pos = (at 1 79) })) ∷ [])) done))) (next (Print (at 1 84) (Value (Name (ident 2 1 90)) ∷ [])) done))) } }) ∷ []) }) ≡ Some (true, Some (at 1 90))
without_a_value_behind_a_break = refl

-- `method M() returns (a: int, b: int) { b := 1; }`
first_result_left : checked (record { declarations = (Method (record { name = (ident 0 1 8); parameters = ([]); results = (Some (record { name = (ident 1 1 21); ty = (trees.Basic basics.Int (at 1 24)) } ∷ record { name = (ident 2 1 29); ty = (trees.Basic basics.Int (at 1 32)) } ∷ [])); clauses = ([]); body = record { pos = (at 1 37); statements = (next (Assign ((Name (ident 2 1 39)) ∷ []) ((Number (record { negative = false; magnitude = 1; pos = (at 1 44) })) ∷ [])) done) } }) ∷ []) }) ≡ Some (true, Some (at 1 37))
first_result_left = refl
