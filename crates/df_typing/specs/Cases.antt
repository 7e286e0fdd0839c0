-- Sources whose trees are told to break what is said of them.
use Rattle.std.specs.Prelude.{◌≡◌, Bool, true, ℕ, List, [], ◌∷◌, Option, Some, None}
use Rattle.std.specs.List.{flat_map}
use Rattle.df_tok.specs.declared.token.Kind.TheVariants as kinds
use Rattle.df_tok.specs.declared.word.Word.{Word}
use Rattle.df_tok.specs.declared.word.Word.TheVariants as words
use Rattle.df_tok.specs.declared.sign.Sign.{Sign}
use Rattle.df_tok.specs.declared.sign.Sign.TheVariants as signs
use Rattle.df_tree.specs.declared.label.Label.TheVariants as labels
use Rattle.df_typing.specs.Tree.{Ast, Asts, Kept, Made, Nil, Next, Label}
use Rattle.df_typing.specs.Rules.{Rule, Unknown, Twice, Typing, Uninferred, Range}
use Rattle.df_typing.specs.Least.{Fault}
use Rattle.df_types.specs.Program.{Program}
use Rattle.df_types.specs.Typing.{is_program}
use Rattle.df_types.specs.Faults.{Rule as GhostRule, Breaks, Fault as GhostFault}
use Rattle.df_types.specs.Flow.{faults_of}
use Rattle.df_typing.specs.Laws.{fault_in}
use Rattle.df_typing.specs.Declarations.{program_of}

abbrev pub node : Label → (start after : ℕ) → Asts → Ast
node label start after inside = Made label (record { start = start; after = after }) inside

abbrev pub named : (name place : ℕ) → Ast
named name place = Kept (record { place = place; kind = kinds.Name name; text = [] })

abbrev pub literal : (value place : ℕ) → Ast
literal value place = Kept (record { place = place; kind = kinds.Number value; text = [] })

abbrev pub string : (place : ℕ) → Ast
string place = Kept (record { place = place; kind = kinds.Text; text = 34 ∷ 97 ∷ 92 ∷ 110 ∷ 34 ∷ [] })

abbrev pub kept_word : Word → (place : ℕ) → Ast
kept_word word place = Kept (record { place = place; kind = kinds.Word word; text = [] })

abbrev pub operator : Sign → (place : ℕ) → Ast
operator sign place = Kept (record { place = place; kind = kinds.Sign sign; text = [] })

abbrev pub broken : Rule → (start after place name : ℕ) → Option Fault
broken rule start after place name = Some (record { rule = rule; span = record { start = start; after = after }; place = place; name = name })

-- `method M(a: int) { a := 1; }`
abbrev pub parameter : Asts
parameter = (Next (node labels.File 0 13 (Next (node labels.Method 0 13 (Next (named 0 1) (Next (node labels.Parameters 2 7 (Next (node labels.Parameter 3 6 (Next (named 1 3) (Next (node labels.BasicType 5 6 (Next (kept_word words.Int 5) Nil)) Nil))) Nil)) (Next (node labels.Block 7 13 (Next (node labels.Assign 8 12 (Next (node labels.Name 8 9 (Next (named 1 8) Nil)) (Next (operator signs.Assign 9) (Next (node labels.Number 10 11 (Next (literal 1 10) Nil)) Nil)))) Nil)) Nil)))) Nil)) Nil)

-- `method M(b: bool) { assert (var y := 1; y) == 1 && y == 2; }`
abbrev pub leak : Asts
leak = (Next (node labels.File 0 25 (Next (node labels.Method 0 25 (Next (named 0 1) (Next (node labels.Parameters 2 7 (Next (node labels.Parameter 3 6 (Next (named 1 3) (Next (node labels.BasicType 5 6 (Next (kept_word words.Bool 5) Nil)) Nil))) Nil)) (Next (node labels.Block 7 25 (Next (node labels.Assert 8 24 (Next (node labels.Conjunction 9 23 (Next (node labels.Chain 9 19 (Next (node labels.Parentheses 9 17 (Next (node labels.Let 10 16 (Next (node labels.Var 11 14 (Next (node labels.Local 11 12 (Next (named 2 11) Nil)) (Next (operator signs.Assign 12) (Next (node labels.Number 13 14 (Next (literal 1 13) Nil)) Nil)))) (Next (node labels.Name 15 16 (Next (named 2 15) Nil)) Nil))) Nil)) (Next (operator signs.Equal 17) (Next (node labels.Number 18 19 (Next (literal 1 18) Nil)) Nil)))) (Next (operator signs.And 19) (Next (node labels.Chain 20 23 (Next (node labels.Name 20 21 (Next (named 2 20) Nil)) (Next (operator signs.Equal 21) (Next (node labels.Number 22 23 (Next (literal 2 22) Nil)) Nil)))) Nil)))) Nil)) Nil)) Nil)))) Nil)) Nil)

-- `method M(b: bool) { if b { var x := 1; } x := 2; }`
abbrev pub nested : Asts
nested = (Next (node labels.File 0 22 (Next (node labels.Method 0 22 (Next (named 0 1) (Next (node labels.Parameters 2 7 (Next (node labels.Parameter 3 6 (Next (named 1 3) (Next (node labels.BasicType 5 6 (Next (kept_word words.Bool 5) Nil)) Nil))) Nil)) (Next (node labels.Block 7 22 (Next (node labels.If 8 17 (Next (node labels.Guarded 9 17 (Next (node labels.Name 9 10 (Next (named 1 9) Nil)) (Next (node labels.Block 10 17 (Next (node labels.Var 11 16 (Next (node labels.Local 12 13 (Next (named 2 12) Nil)) (Next (operator signs.Assign 13) (Next (node labels.Number 14 15 (Next (literal 1 14) Nil)) Nil)))) Nil)) Nil))) Nil)) (Next (node labels.Assign 17 21 (Next (node labels.Name 17 18 (Next (named 2 17) Nil)) (Next (operator signs.Assign 18) (Next (node labels.Number 19 20 (Next (literal 2 19) Nil)) Nil)))) Nil))) Nil)))) Nil)) Nil)

-- `method M(a: int, a: bool) { }`
abbrev pub again : Asts
again = (Next (node labels.File 0 13 (Next (node labels.Method 0 13 (Next (named 0 1) (Next (node labels.Parameters 2 11 (Next (node labels.Parameter 3 6 (Next (named 1 3) (Next (node labels.BasicType 5 6 (Next (kept_word words.Int 5) Nil)) Nil))) (Next (node labels.Parameter 7 10 (Next (named 1 7) (Next (node labels.BasicType 9 10 (Next (kept_word words.Bool 9) Nil)) Nil))) Nil))) (Next (node labels.Block 11 13 Nil) Nil)))) Nil)) Nil)

-- `newtype u = x: int | 0 <= x < 9 method M(a: u) returns (r: u) { var i: int := 3; r := a + 1; r := i; }`
abbrev pub given : Asts
given = (Next (node labels.File 0 44 (Next (node labels.Newtype 0 12 (Next (named 0 1) (Next (node labels.Binder 3 6 (Next (named 1 3) (Next (node labels.BasicType 5 6 (Next (kept_word words.Int 5) Nil)) Nil))) (Next (node labels.Chain 7 12 (Next (node labels.Number 7 8 (Next (literal 0 7) Nil)) (Next (operator signs.AtMost 8) (Next (node labels.Name 9 10 (Next (named 1 9) Nil)) (Next (operator signs.Less 10) (Next (node labels.Number 11 12 (Next (literal 9 11) Nil)) Nil)))))) Nil)))) (Next (node labels.Method 12 44 (Next (named 2 13) (Next (node labels.Parameters 14 19 (Next (node labels.Parameter 15 18 (Next (named 3 15) (Next (node labels.NamedType 17 18 (Next (named 0 17) Nil)) Nil))) Nil)) (Next (node labels.Results 19 25 (Next (node labels.Parameter 21 24 (Next (named 4 21) (Next (node labels.NamedType 23 24 (Next (named 0 23) Nil)) Nil))) Nil)) (Next (node labels.Block 25 44 (Next (node labels.Var 26 33 (Next (node labels.Local 27 30 (Next (named 5 27) (Next (node labels.BasicType 29 30 (Next (kept_word words.Int 29) Nil)) Nil))) (Next (operator signs.Assign 30) (Next (node labels.Number 31 32 (Next (literal 3 31) Nil)) Nil)))) (Next (node labels.Assign 33 39 (Next (node labels.Name 33 34 (Next (named 4 33) Nil)) (Next (operator signs.Assign 34) (Next (node labels.Sum 35 38 (Next (node labels.Name 35 36 (Next (named 3 35) Nil)) (Next (operator signs.Plus 36) (Next (node labels.Number 37 38 (Next (literal 1 37) Nil)) Nil)))) Nil)))) (Next (node labels.Assign 39 43 (Next (node labels.Name 39 40 (Next (named 4 39) Nil)) (Next (operator signs.Assign 40) (Next (node labels.Name 41 42 (Next (named 5 41) Nil)) Nil)))) Nil)))) Nil))))) Nil))) Nil)

-- `method M() returns (r: int) { r := !3; }`
abbrev pub negated : Asts
negated = (Next (node labels.File 0 17 (Next (node labels.Method 0 17 (Next (named 0 1) (Next (node labels.Parameters 2 4 Nil) (Next (node labels.Results 4 10 (Next (node labels.Parameter 6 9 (Next (named 1 6) (Next (node labels.BasicType 8 9 (Next (kept_word words.Int 8) Nil)) Nil))) Nil)) (Next (node labels.Block 10 17 (Next (node labels.Assign 11 16 (Next (node labels.Name 11 12 (Next (named 1 11) Nil)) (Next (operator signs.Assign 12) (Next (node labels.Not 13 15 (Next (node labels.Number 14 15 (Next (literal 3 14) Nil)) Nil)) Nil)))) Nil)) Nil))))) Nil)) Nil)

-- `newtype u = x: int | 0 <= x < 9 function F(): nat { 1 } method M(c: bool) returns (r: u) { r := if c then 0 else F(); }`
abbrev pub branches : Asts
branches = (Next (node labels.File 0 47 (Next (node labels.Newtype 0 12 (Next (named 0 1) (Next (node labels.Binder 3 6 (Next (named 1 3) (Next (node labels.BasicType 5 6 (Next (kept_word words.Int 5) Nil)) Nil))) (Next (node labels.Chain 7 12 (Next (node labels.Number 7 8 (Next (literal 0 7) Nil)) (Next (operator signs.AtMost 8) (Next (node labels.Name 9 10 (Next (named 1 9) Nil)) (Next (operator signs.Less 10) (Next (node labels.Number 11 12 (Next (literal 9 11) Nil)) Nil)))))) Nil)))) (Next (node labels.Function 12 21 (Next (named 2 13) (Next (node labels.Parameters 14 16 Nil) (Next (node labels.Result 17 18 (Next (node labels.BasicType 17 18 (Next (kept_word words.Nat 17) Nil)) Nil)) (Next (node labels.Number 19 20 (Next (literal 1 19) Nil)) Nil))))) (Next (node labels.Method 21 47 (Next (named 3 22) (Next (node labels.Parameters 23 28 (Next (node labels.Parameter 24 27 (Next (named 4 24) (Next (node labels.BasicType 26 27 (Next (kept_word words.Bool 26) Nil)) Nil))) Nil)) (Next (node labels.Results 28 34 (Next (node labels.Parameter 30 33 (Next (named 5 30) (Next (node labels.NamedType 32 33 (Next (named 0 32) Nil)) Nil))) Nil)) (Next (node labels.Block 34 47 (Next (node labels.Assign 35 46 (Next (node labels.Name 35 36 (Next (named 5 35) Nil)) (Next (operator signs.Assign 36) (Next (node labels.Conditional 37 45 (Next (node labels.Name 38 39 (Next (named 4 38) Nil)) (Next (node labels.Number 40 41 (Next (literal 0 40) Nil)) (Next (node labels.Call 42 45 (Next (named 2 42) Nil)) Nil)))) Nil)))) Nil)) Nil))))) Nil)))) Nil)

-- `method M() { var x; x := 1; var y: bool; y := x == 1; }`
abbrev pub late : Asts
late = (Next (node labels.File 0 24 (Next (node labels.Method 0 24 (Next (named 0 1) (Next (node labels.Parameters 2 4 Nil) (Next (node labels.Block 4 24 (Next (node labels.Var 5 8 (Next (node labels.Local 6 7 (Next (named 1 6) Nil)) Nil)) (Next (node labels.Assign 8 12 (Next (node labels.Name 8 9 (Next (named 1 8) Nil)) (Next (operator signs.Assign 9) (Next (node labels.Number 10 11 (Next (literal 1 10) Nil)) Nil)))) (Next (node labels.Var 12 17 (Next (node labels.Local 13 16 (Next (named 2 13) (Next (node labels.BasicType 15 16 (Next (kept_word words.Bool 15) Nil)) Nil))) Nil)) (Next (node labels.Assign 17 23 (Next (node labels.Name 17 18 (Next (named 2 17) Nil)) (Next (operator signs.Assign 18) (Next (node labels.Chain 19 22 (Next (node labels.Name 19 20 (Next (named 1 19) Nil)) (Next (operator signs.Equal 20) (Next (node labels.Number 21 22 (Next (literal 1 21) Nil)) Nil)))) Nil)))) Nil))))) Nil)))) Nil)) Nil)

-- `method M() { var x; }`
abbrev pub never : Asts
never = (Next (node labels.File 0 9 (Next (node labels.Method 0 9 (Next (named 0 1) (Next (node labels.Parameters 2 4 Nil) (Next (node labels.Block 4 9 (Next (node labels.Var 5 8 (Next (node labels.Local 6 7 (Next (named 1 6) Nil)) Nil)) Nil)) Nil)))) Nil)) Nil)

-- `method M() { var x; var y := x; x := 1; }`
abbrev pub used : Asts
used = (Next (node labels.File 0 18 (Next (node labels.Method 0 18 (Next (named 0 1) (Next (node labels.Parameters 2 4 Nil) (Next (node labels.Block 4 18 (Next (node labels.Var 5 8 (Next (node labels.Local 6 7 (Next (named 1 6) Nil)) Nil)) (Next (node labels.Var 8 13 (Next (node labels.Local 9 10 (Next (named 2 9) Nil)) (Next (operator signs.Assign 10) (Next (node labels.Name 11 12 (Next (named 1 11) Nil)) Nil)))) (Next (node labels.Assign 13 17 (Next (node labels.Name 13 14 (Next (named 1 13) Nil)) (Next (operator signs.Assign 14) (Next (node labels.Number 15 16 (Next (literal 1 15) Nil)) Nil)))) Nil)))) Nil)))) Nil)) Nil)

-- `method M() { var a := 1 < true; }`
abbrev pub ends : Asts
ends = (Next (node labels.File 0 13 (Next (node labels.Method 0 13 (Next (named 0 1) (Next (node labels.Parameters 2 4 Nil) (Next (node labels.Block 4 13 (Next (node labels.Var 5 12 (Next (node labels.Local 6 7 (Next (named 1 6) Nil)) (Next (operator signs.Assign 7) (Next (node labels.Chain 8 11 (Next (node labels.Number 8 9 (Next (literal 1 8) Nil)) (Next (operator signs.Less 9) (Next (node labels.Truth 10 11 (Next (kept_word words.True 10) Nil)) Nil)))) Nil)))) Nil)) Nil)))) Nil)) Nil)

-- `lemma L() { } function F(): bool { L() }`
abbrev pub lemmacall : Asts
lemmacall = (Next (node labels.File 0 17 (Next (node labels.Lemma 0 6 (Next (named 0 1) (Next (node labels.Parameters 2 4 Nil) (Next (node labels.Block 4 6 Nil) Nil)))) (Next (node labels.Function 6 17 (Next (named 1 7) (Next (node labels.Parameters 8 10 Nil) (Next (node labels.Result 11 12 (Next (node labels.BasicType 11 12 (Next (kept_word words.Bool 11) Nil)) Nil)) (Next (node labels.Call 13 16 (Next (named 0 13) Nil)) Nil))))) Nil))) Nil)

-- `function F(): int { 1 } method M() { F(); }`
abbrev pub funstmt : Asts
funstmt = (Next (node labels.File 0 19 (Next (node labels.Function 0 9 (Next (named 0 1) (Next (node labels.Parameters 2 4 Nil) (Next (node labels.Result 5 6 (Next (node labels.BasicType 5 6 (Next (kept_word words.Int 5) Nil)) Nil)) (Next (node labels.Number 7 8 (Next (literal 1 7) Nil)) Nil))))) (Next (node labels.Method 9 19 (Next (named 1 10) (Next (node labels.Parameters 11 13 Nil) (Next (node labels.Block 13 19 (Next (node labels.ExpressionStatement 14 18 (Next (node labels.Call 14 17 (Next (named 0 14) Nil)) Nil)) Nil)) Nil)))) Nil))) Nil)

-- `lemma L(a: int, b: int) { calc < { a; b; <= a; b; } }`
abbrev pub calc : Asts
calc = (Next (node labels.File 0 26 (Next (node labels.Lemma 0 26 (Next (named 0 1) (Next (node labels.Parameters 2 11 (Next (node labels.Parameter 3 6 (Next (named 1 3) (Next (node labels.BasicType 5 6 (Next (kept_word words.Int 5) Nil)) Nil))) (Next (node labels.Parameter 7 10 (Next (named 2 7) (Next (node labels.BasicType 9 10 (Next (kept_word words.Int 9) Nil)) Nil))) Nil))) (Next (node labels.Block 11 26 (Next (node labels.Calc 12 25 (Next (operator signs.Less 13) (Next (node labels.Line 15 17 (Next (node labels.Name 15 16 (Next (named 1 15) Nil)) Nil)) (Next (node labels.Line 17 20 (Next (node labels.Name 17 18 (Next (named 2 17) Nil)) (Next (operator signs.AtMost 19) Nil))) (Next (node labels.Line 20 22 (Next (node labels.Name 20 21 (Next (named 1 20) Nil)) Nil)) (Next (node labels.Line 22 24 (Next (node labels.Name 22 23 (Next (named 2 22) Nil)) Nil)) Nil)))))) Nil)) Nil)))) Nil)) Nil)

-- `newtype u = x: int | 0 <= x < 9 function F(n: nat): nat requires n > 0 ensures F(n) >= 0 decreases n { if n == 1 then 0 else var m := n - 1; F(m) } method M(a: u) returns (r: u, s: int) ensures r == a { r, s := a, 1 + 2; while s < 5 invariant s >= 0 { s := s + 1; if s == 2 { break; } } return a, 2; } method Main() { var x, y := M(3); print x, "a\n", y; assert x < 9 by { } ghost var g := 1; if g == 1 { g := 2; } }`
abbrev pub good : Asts
good = (Next (node labels.File 0 162 (Next (node labels.Newtype 0 12 (Next (named 0 1) (Next (node labels.Binder 3 6 (Next (named 1 3) (Next (node labels.BasicType 5 6 (Next (kept_word words.Int 5) Nil)) Nil))) (Next (node labels.Chain 7 12 (Next (node labels.Number 7 8 (Next (literal 0 7) Nil)) (Next (operator signs.AtMost 8) (Next (node labels.Name 9 10 (Next (named 1 9) Nil)) (Next (operator signs.Less 10) (Next (node labels.Number 11 12 (Next (literal 9 11) Nil)) Nil)))))) Nil)))) (Next (node labels.Function 12 54 (Next (named 2 13) (Next (node labels.Parameters 14 19 (Next (node labels.Parameter 15 18 (Next (named 3 15) (Next (node labels.BasicType 17 18 (Next (kept_word words.Nat 17) Nil)) Nil))) Nil)) (Next (node labels.Result 20 21 (Next (node labels.BasicType 20 21 (Next (kept_word words.Nat 20) Nil)) Nil)) (Next (node labels.Requires 21 25 (Next (node labels.Chain 22 25 (Next (node labels.Name 22 23 (Next (named 3 22) Nil)) (Next (operator signs.Greater 23) (Next (node labels.Number 24 25 (Next (literal 0 24) Nil)) Nil)))) Nil)) (Next (node labels.Ensures 25 32 (Next (node labels.Chain 26 32 (Next (node labels.Call 26 30 (Next (named 2 26) (Next (node labels.Name 28 29 (Next (named 3 28) Nil)) Nil))) (Next (operator signs.AtLeast 30) (Next (node labels.Number 31 32 (Next (literal 0 31) Nil)) Nil)))) Nil)) (Next (node labels.Decreases 32 34 (Next (node labels.Name 33 34 (Next (named 3 33) Nil)) Nil)) (Next (node labels.Conditional 35 53 (Next (node labels.Chain 36 39 (Next (node labels.Name 36 37 (Next (named 3 36) Nil)) (Next (operator signs.Equal 37) (Next (node labels.Number 38 39 (Next (literal 1 38) Nil)) Nil)))) (Next (node labels.Number 40 41 (Next (literal 0 40) Nil)) (Next (node labels.Let 42 53 (Next (node labels.Var 43 48 (Next (node labels.Local 43 44 (Next (named 4 43) Nil)) (Next (operator signs.Assign 44) (Next (node labels.Sum 45 48 (Next (node labels.Name 45 46 (Next (named 3 45) Nil)) (Next (operator signs.Minus 46) (Next (node labels.Number 47 48 (Next (literal 1 47) Nil)) Nil)))) Nil)))) (Next (node labels.Call 49 53 (Next (named 2 49) (Next (node labels.Name 51 52 (Next (named 4 51) Nil)) Nil))) Nil))) Nil)))) Nil)))))))) (Next (node labels.Method 54 116 (Next (named 5 55) (Next (node labels.Parameters 56 61 (Next (node labels.Parameter 57 60 (Next (named 6 57) (Next (node labels.NamedType 59 60 (Next (named 0 59) Nil)) Nil))) Nil)) (Next (node labels.Results 61 71 (Next (node labels.Parameter 63 66 (Next (named 7 63) (Next (node labels.NamedType 65 66 (Next (named 0 65) Nil)) Nil))) (Next (node labels.Parameter 67 70 (Next (named 8 67) (Next (node labels.BasicType 69 70 (Next (kept_word words.Int 69) Nil)) Nil))) Nil))) (Next (node labels.Ensures 71 75 (Next (node labels.Chain 72 75 (Next (node labels.Name 72 73 (Next (named 7 72) Nil)) (Next (operator signs.Equal 73) (Next (node labels.Name 74 75 (Next (named 6 74) Nil)) Nil)))) Nil)) (Next (node labels.Block 75 116 (Next (node labels.Assign 76 86 (Next (node labels.Name 76 77 (Next (named 7 76) Nil)) (Next (node labels.Name 78 79 (Next (named 8 78) Nil)) (Next (operator signs.Assign 79) (Next (node labels.Name 80 81 (Next (named 6 80) Nil)) (Next (node labels.Sum 82 85 (Next (node labels.Number 82 83 (Next (literal 1 82) Nil)) (Next (operator signs.Plus 83) (Next (node labels.Number 84 85 (Next (literal 2 84) Nil)) Nil)))) Nil)))))) (Next (node labels.While 86 110 (Next (node labels.Chain 87 90 (Next (node labels.Name 87 88 (Next (named 8 87) Nil)) (Next (operator signs.Less 88) (Next (node labels.Number 89 90 (Next (literal 5 89) Nil)) Nil)))) (Next (node labels.Invariant 90 94 (Next (node labels.Chain 91 94 (Next (node labels.Name 91 92 (Next (named 8 91) Nil)) (Next (operator signs.AtLeast 92) (Next (node labels.Number 93 94 (Next (literal 0 93) Nil)) Nil)))) Nil)) (Next (node labels.Block 94 110 (Next (node labels.Assign 95 101 (Next (node labels.Name 95 96 (Next (named 8 95) Nil)) (Next (operator signs.Assign 96) (Next (node labels.Sum 97 100 (Next (node labels.Name 97 98 (Next (named 8 97) Nil)) (Next (operator signs.Plus 98) (Next (node labels.Number 99 100 (Next (literal 1 99) Nil)) Nil)))) Nil)))) (Next (node labels.If 101 109 (Next (node labels.Guarded 102 109 (Next (node labels.Chain 102 105 (Next (node labels.Name 102 103 (Next (named 8 102) Nil)) (Next (operator signs.Equal 103) (Next (node labels.Number 104 105 (Next (literal 2 104) Nil)) Nil)))) (Next (node labels.Block 105 109 (Next (node labels.Break 106 108 Nil) Nil)) Nil))) Nil)) Nil))) Nil)))) (Next (node labels.Return 110 115 (Next (node labels.Name 111 112 (Next (named 6 111) Nil)) (Next (node labels.Number 113 114 (Next (literal 2 113) Nil)) Nil))) Nil)))) Nil)))))) (Next (node labels.Method 116 162 (Next (named 9 117) (Next (node labels.Parameters 118 120 Nil) (Next (node labels.Block 120 162 (Next (node labels.Var 121 131 (Next (node labels.Local 122 123 (Next (named 1 122) Nil)) (Next (node labels.Local 124 125 (Next (named 10 124) Nil)) (Next (operator signs.Assign 125) (Next (node labels.Call 126 130 (Next (named 5 126) (Next (node labels.Number 128 129 (Next (literal 3 128) Nil)) Nil))) Nil))))) (Next (node labels.Print 131 138 (Next (node labels.Name 132 133 (Next (named 1 132) Nil)) (Next (node labels.Text 134 135 (Next (string 134) Nil)) (Next (node labels.Name 136 137 (Next (named 10 136) Nil)) Nil)))) (Next (node labels.Assert 138 145 (Next (node labels.Chain 139 142 (Next (node labels.Name 139 140 (Next (named 1 139) Nil)) (Next (operator signs.Less 140) (Next (node labels.Number 141 142 (Next (literal 9 141) Nil)) Nil)))) (Next (node labels.Block 143 145 Nil) Nil))) (Next (node labels.Var 145 151 (Next (kept_word words.Ghost 145) (Next (node labels.Local 147 148 (Next (named 11 147) Nil)) (Next (operator signs.Assign 148) (Next (node labels.Number 149 150 (Next (literal 1 149) Nil)) Nil))))) (Next (node labels.If 151 161 (Next (node labels.Guarded 152 161 (Next (node labels.Chain 152 155 (Next (node labels.Name 152 153 (Next (named 11 152) Nil)) (Next (operator signs.Equal 153) (Next (node labels.Number 154 155 (Next (literal 1 154) Nil)) Nil)))) (Next (node labels.Block 155 161 (Next (node labels.Assign 156 160 (Next (node labels.Name 156 157 (Next (named 11 156) Nil)) (Next (operator signs.Assign 157) (Next (node labels.Number 158 159 (Next (literal 2 158) Nil)) Nil)))) Nil)) Nil))) Nil)) Nil)))))) Nil)))) Nil))))) Nil)

-- `function F(y: int): bool { var x := (var y := true; y); x && y == 1 }`
abbrev pub inner_let : Asts
inner_let = (Next (node labels.File 0 28 (Next (node labels.Function 0 28 (Next (named 0 1) (Next (node labels.Parameters 2 7 (Next (node labels.Parameter 3 6 (Next (named 1 3) (Next (node labels.BasicType 5 6 (Next (kept_word words.Int 5) Nil)) Nil))) Nil)) (Next (node labels.Result 8 9 (Next (node labels.BasicType 8 9 (Next (kept_word words.Bool 8) Nil)) Nil)) (Next (node labels.Let 10 27 (Next (node labels.Var 11 21 (Next (node labels.Local 11 12 (Next (named 2 11) Nil)) (Next (operator signs.Assign 12) (Next (node labels.Parentheses 13 21 (Next (node labels.Let 14 20 (Next (node labels.Var 15 18 (Next (node labels.Local 15 16 (Next (named 1 15) Nil)) (Next (operator signs.Assign 16) (Next (node labels.Truth 17 18 (Next (kept_word words.True 17) Nil)) Nil)))) (Next (node labels.Name 19 20 (Next (named 1 19) Nil)) Nil))) Nil)) Nil)))) (Next (node labels.Conjunction 22 27 (Next (node labels.Name 22 23 (Next (named 2 22) Nil)) (Next (operator signs.And 23) (Next (node labels.Chain 24 27 (Next (node labels.Name 24 25 (Next (named 1 24) Nil)) (Next (operator signs.Equal 25) (Next (node labels.Number 26 27 (Next (literal 1 26) Nil)) Nil)))) Nil)))) Nil))) Nil))))) Nil)) Nil)

-- `method M() returns (r: int) { r := 1; } method N() { M(); var x := M(); x := M(); } method O() returns (r: int) { return M(); }`
abbrev pub calls : Asts
calls = (Next (node labels.File 0 56 (Next (node labels.Method 0 16 (Next (named 0 1) (Next (node labels.Parameters 2 4 Nil) (Next (node labels.Results 4 10 (Next (node labels.Parameter 6 9 (Next (named 1 6) (Next (node labels.BasicType 8 9 (Next (kept_word words.Int 8) Nil)) Nil))) Nil)) (Next (node labels.Block 10 16 (Next (node labels.Assign 11 15 (Next (node labels.Name 11 12 (Next (named 1 11) Nil)) (Next (operator signs.Assign 12) (Next (node labels.Number 13 14 (Next (literal 1 13) Nil)) Nil)))) Nil)) Nil))))) (Next (node labels.Method 16 39 (Next (named 2 17) (Next (node labels.Parameters 18 20 Nil) (Next (node labels.Block 20 39 (Next (node labels.ExpressionStatement 21 25 (Next (node labels.Call 21 24 (Next (named 0 21) Nil)) Nil)) (Next (node labels.Var 25 32 (Next (node labels.Local 26 27 (Next (named 3 26) Nil)) (Next (operator signs.Assign 27) (Next (node labels.Call 28 31 (Next (named 0 28) Nil)) Nil)))) (Next (node labels.Assign 32 38 (Next (node labels.Name 32 33 (Next (named 3 32) Nil)) (Next (operator signs.Assign 33) (Next (node labels.Call 34 37 (Next (named 0 34) Nil)) Nil)))) Nil)))) Nil)))) (Next (node labels.Method 39 56 (Next (named 4 40) (Next (node labels.Parameters 41 43 Nil) (Next (node labels.Results 43 49 (Next (node labels.Parameter 45 48 (Next (named 1 45) (Next (node labels.BasicType 47 48 (Next (kept_word words.Int 47) Nil)) Nil))) Nil)) (Next (node labels.Block 49 56 (Next (node labels.Return 50 55 (Next (node labels.Call 51 54 (Next (named 0 51) Nil)) Nil)) Nil)) Nil))))) Nil)))) Nil)

-- `newtype u = x: int | 0 <= x < 9 function F(c: bool, a: u): u { 1 + (if c then a else 0) }`
abbrev pub mixed : Asts
mixed = (Next (node labels.File 0 37 (Next (node labels.Newtype 0 12 (Next (named 0 1) (Next (node labels.Binder 3 6 (Next (named 1 3) (Next (node labels.BasicType 5 6 (Next (kept_word words.Int 5) Nil)) Nil))) (Next (node labels.Chain 7 12 (Next (node labels.Number 7 8 (Next (literal 0 7) Nil)) (Next (operator signs.AtMost 8) (Next (node labels.Name 9 10 (Next (named 1 9) Nil)) (Next (operator signs.Less 10) (Next (node labels.Number 11 12 (Next (literal 9 11) Nil)) Nil)))))) Nil)))) (Next (node labels.Function 12 37 (Next (named 2 13) (Next (node labels.Parameters 14 23 (Next (node labels.Parameter 15 18 (Next (named 3 15) (Next (node labels.BasicType 17 18 (Next (kept_word words.Bool 17) Nil)) Nil))) (Next (node labels.Parameter 19 22 (Next (named 4 19) (Next (node labels.NamedType 21 22 (Next (named 0 21) Nil)) Nil))) Nil))) (Next (node labels.Result 24 25 (Next (node labels.NamedType 24 25 (Next (named 0 24) Nil)) Nil)) (Next (node labels.Sum 26 36 (Next (node labels.Number 26 27 (Next (literal 1 26) Nil)) (Next (operator signs.Plus 27) (Next (node labels.Parentheses 28 36 (Next (node labels.Conditional 29 35 (Next (node labels.Name 30 31 (Next (named 3 30) Nil)) (Next (node labels.Name 32 33 (Next (named 4 32) Nil)) (Next (node labels.Number 34 35 (Next (literal 0 34) Nil)) Nil)))) Nil)) Nil)))) Nil))))) Nil))) Nil)

-- `method M(a: int) { while a < 3 { } while a != 3 { } while true && a > 3 { } }`
abbrev pub loops : Asts
loops = (Next (node labels.File 0 29 (Next (node labels.Method 0 29 (Next (named 0 1) (Next (node labels.Parameters 2 7 (Next (node labels.Parameter 3 6 (Next (named 1 3) (Next (node labels.BasicType 5 6 (Next (kept_word words.Int 5) Nil)) Nil))) Nil)) (Next (node labels.Block 7 29 (Next (node labels.While 8 14 (Next (node labels.Chain 9 12 (Next (node labels.Name 9 10 (Next (named 1 9) Nil)) (Next (operator signs.Less 10) (Next (node labels.Number 11 12 (Next (literal 3 11) Nil)) Nil)))) (Next (node labels.Block 12 14 Nil) Nil))) (Next (node labels.While 14 20 (Next (node labels.Chain 15 18 (Next (node labels.Name 15 16 (Next (named 1 15) Nil)) (Next (operator signs.NotEqual 16) (Next (node labels.Number 17 18 (Next (literal 3 17) Nil)) Nil)))) (Next (node labels.Block 18 20 Nil) Nil))) (Next (node labels.While 20 28 (Next (node labels.Conjunction 21 26 (Next (node labels.Truth 21 22 (Next (kept_word words.True 21) Nil)) (Next (operator signs.And 22) (Next (node labels.Chain 23 26 (Next (node labels.Name 23 24 (Next (named 1 23) Nil)) (Next (operator signs.Greater 24) (Next (node labels.Number 25 26 (Next (literal 3 25) Nil)) Nil)))) Nil)))) (Next (node labels.Block 26 28 Nil) Nil))) Nil)))) Nil)))) Nil)) Nil)

-- `lemma L(a: int) { calc ==> { true; false; } calc { true; <==> false; } calc { a; } calc { } }`
abbrev pub calculations : Asts
calculations = (Next (node labels.File 0 33 (Next (node labels.Lemma 0 33 (Next (named 0 1) (Next (node labels.Parameters 2 7 (Next (node labels.Parameter 3 6 (Next (named 1 3) (Next (node labels.BasicType 5 6 (Next (kept_word words.Int 5) Nil)) Nil))) Nil)) (Next (node labels.Block 7 33 (Next (node labels.Calc 8 16 (Next (operator signs.Implies 9) (Next (node labels.Line 11 13 (Next (node labels.Truth 11 12 (Next (kept_word words.True 11) Nil)) Nil)) (Next (node labels.Line 13 15 (Next (node labels.Truth 13 14 (Next (kept_word words.False 13) Nil)) Nil)) Nil)))) (Next (node labels.Calc 16 24 (Next (node labels.Line 18 21 (Next (node labels.Truth 18 19 (Next (kept_word words.True 18) Nil)) (Next (operator signs.Iff 20) Nil))) (Next (node labels.Line 21 23 (Next (node labels.Truth 21 22 (Next (kept_word words.False 21) Nil)) Nil)) Nil))) (Next (node labels.Calc 24 29 (Next (node labels.Line 26 28 (Next (node labels.Name 26 27 (Next (named 1 26) Nil)) Nil)) Nil)) (Next (node labels.Calc 29 32 Nil) Nil))))) Nil)))) Nil)) Nil)

-- `newtype u = x: int | 0 <= x < 9 method M(a: u) { var b := 1 + 2 + a; var c := a < (1 + 2); var d: u := 1 + 2; }`
abbrev pub literals : Asts
literals = (Next (node labels.File 0 50 (Next (node labels.Newtype 0 12 (Next (named 0 1) (Next (node labels.Binder 3 6 (Next (named 1 3) (Next (node labels.BasicType 5 6 (Next (kept_word words.Int 5) Nil)) Nil))) (Next (node labels.Chain 7 12 (Next (node labels.Number 7 8 (Next (literal 0 7) Nil)) (Next (operator signs.AtMost 8) (Next (node labels.Name 9 10 (Next (named 1 9) Nil)) (Next (operator signs.Less 10) (Next (node labels.Number 11 12 (Next (literal 9 11) Nil)) Nil)))))) Nil)))) (Next (node labels.Method 12 50 (Next (named 2 13) (Next (node labels.Parameters 14 19 (Next (node labels.Parameter 15 18 (Next (named 3 15) (Next (node labels.NamedType 17 18 (Next (named 0 17) Nil)) Nil))) Nil)) (Next (node labels.Block 19 50 (Next (node labels.Var 20 29 (Next (node labels.Local 21 22 (Next (named 4 21) Nil)) (Next (operator signs.Assign 22) (Next (node labels.Sum 23 28 (Next (node labels.Number 23 24 (Next (literal 1 23) Nil)) (Next (operator signs.Plus 24) (Next (node labels.Number 25 26 (Next (literal 2 25) Nil)) (Next (operator signs.Plus 26) (Next (node labels.Name 27 28 (Next (named 3 27) Nil)) Nil)))))) Nil)))) (Next (node labels.Var 29 40 (Next (node labels.Local 30 31 (Next (named 5 30) Nil)) (Next (operator signs.Assign 31) (Next (node labels.Chain 32 39 (Next (node labels.Name 32 33 (Next (named 3 32) Nil)) (Next (operator signs.Less 33) (Next (node labels.Parentheses 34 39 (Next (node labels.Sum 35 38 (Next (node labels.Number 35 36 (Next (literal 1 35) Nil)) (Next (operator signs.Plus 36) (Next (node labels.Number 37 38 (Next (literal 2 37) Nil)) Nil)))) Nil)) Nil)))) Nil)))) (Next (node labels.Var 40 49 (Next (node labels.Local 41 44 (Next (named 6 41) (Next (node labels.NamedType 43 44 (Next (named 0 43) Nil)) Nil))) (Next (operator signs.Assign 44) (Next (node labels.Sum 45 48 (Next (node labels.Number 45 46 (Next (literal 1 45) Nil)) (Next (operator signs.Plus 46) (Next (node labels.Number 47 48 (Next (literal 2 47) Nil)) Nil)))) Nil)))) Nil)))) Nil)))) Nil))) Nil)

-- without positions and names
abbrev pub meant : Asts → Program
meant file = program_of (record { positions = []; names = [] }) file

abbrev pub is_well_typed : Asts → Bool
is_well_typed file = is_program (meant file)

-- `method Main() { ghost var k: int := 0; if k == 0 { return; } }`
abbrev pub returned : Asts
returned = (Next (node labels.File 0 22 (Next (node labels.Method 0 22 (Next (named 0 1) (Next (node labels.Parameters 2 4 Nil) (Next (node labels.Block 4 22 (Next (node labels.Var 5 13 (Next (kept_word words.Ghost 5) (Next (node labels.Local 7 10 (Next (named 1 7) (Next (node labels.BasicType 9 10 (Next (kept_word words.Int 9) Nil)) Nil))) (Next (operator signs.Assign 10) (Next (node labels.Number 11 12 (Next (literal 0 11) Nil)) Nil))))) (Next (node labels.If 13 21 (Next (node labels.Guarded 14 21 (Next (node labels.Chain 14 17 (Next (node labels.Name 14 15 (Next (named 1 14) Nil)) (Next (operator signs.Equal 15) (Next (node labels.Number 16 17 (Next (literal 0 16) Nil)) Nil)))) (Next (node labels.Block 17 21 (Next (node labels.Return 18 20 Nil) Nil)) Nil))) Nil)) Nil))) Nil)))) Nil)) Nil)

-- `newtype u = x: int | 1 <= x < 9 witness (var y := 1; y)`
abbrev pub witness_binds : Asts
witness_binds = (Next (node labels.File 0 21 (Next (node labels.Newtype 0 21 (Next (named 0 1) (Next (node labels.Binder 3 4 (Next (named 1 3) Nil)) (Next (node labels.Chain 7 12 (Next (node labels.Number 7 8 (Next (literal 1 7) Nil)) (Next (operator signs.AtMost 8) (Next (node labels.Name 9 10 (Next (named 1 9) Nil)) (Next (operator signs.Less 10) (Next (node labels.Number 11 12 (Next (literal 9 11) Nil)) Nil)))))) (Next (node labels.Witness 12 21 (Next (node labels.Parentheses 13 21 (Next (node labels.Let 14 20 (Next (node labels.Var 14 19 (Next (node labels.Local 15 16 (Next (named 2 15) Nil)) (Next (operator signs.Assign 16) (Next (node labels.Number 17 18 (Next (literal 1 17) Nil)) Nil)))) (Next (node labels.Name 19 20 (Next (named 2 19) Nil)) Nil))) Nil)) Nil)) Nil))))) Nil)) Nil)

-- `newtype u = x: int | 1 <= x < 9 witness x`
abbrev pub witness_sees : Asts
witness_sees = (Next (node labels.File 0 14 (Next (node labels.Newtype 0 14 (Next (named 0 1) (Next (node labels.Binder 3 4 (Next (named 1 3) Nil)) (Next (node labels.Chain 7 12 (Next (node labels.Number 7 8 (Next (literal 1 7) Nil)) (Next (operator signs.AtMost 8) (Next (node labels.Name 9 10 (Next (named 1 9) Nil)) (Next (operator signs.Less 10) (Next (node labels.Number 11 12 (Next (literal 9 11) Nil)) Nil)))))) (Next (node labels.Witness 12 14 (Next (node labels.Name 13 14 (Next (named 1 13) Nil)) Nil)) Nil))))) Nil)) Nil)

-- what its program breaks first of the ghost rules
abbrev pub ghost_rule : List GhostFault → Option GhostRule
ghost_rule [] = None
ghost_rule (fault ∷ faults) = Some fault.rule

abbrev pub ghost_rule_of : Program → Option GhostRule
ghost_rule_of p = ghost_rule (flat_map (faults_of p) p.decls)

pub record Cases : Type 0 where
  -- a parameter is assigned
  pub parameter_told : fault_in parameter ≡ broken (Typing 22) 8 9 8 0
  -- a bound name is used behind its expression
  pub leak_told : fault_in leak ≡ broken Unknown 20 21 20 2
  -- a local is used behind its block
  pub nested_told : fault_in nested ≡ broken Unknown 17 18 17 2
  -- a name is declared twice in one scope
  pub again_told : fault_in again ≡ broken Twice 7 8 7 1
  -- an `int` is given to a newtype
  pub given_told : fault_in given ≡ broken (Typing 1) 41 42 41 0
  -- `!` of a number is given to a number: the lower rule
  pub negated_told : fault_in negated ≡ broken (Typing 1) 13 15 13 0
  -- a literal takes the newtype that is expected, beside a `nat`
  pub branches_told : fault_in branches ≡ broken (Typing 16) 37 45 37 0
  -- a local takes the type of its first assignment
  pub late_told : fault_in late ≡ None
  -- a local is never assigned
  pub never_told : fault_in never ≡ broken Uninferred 6 7 6 0
  -- a local is used before it is assigned
  pub used_told : fault_in used ≡ broken Uninferred 6 7 6 0
  -- a number is compared with a truth
  pub ends_told : fault_in ends ≡ broken (Typing 4) 8 11 9 0
  -- a lemma in an expression
  pub lemmacall_told : fault_in lemmacall ≡ broken (Typing 15) 13 16 13 0
  -- a function is a statement
  pub funstmt_told : fault_in funstmt ≡ broken (Typing 15) 14 17 14 0
  -- steps by two operators beside `==`
  pub calc_told : fault_in calc ≡ broken (Typing 26) 20 21 20 0
  -- a witness sees what it binds itself, and no literal is there
  pub witness_binds_told : fault_in witness_binds ≡ broken Range 0 21 1 0
  -- it does not see the variable of the newtype
  pub witness_sees_told : fault_in witness_sees ≡ broken Unknown 13 14 13 1
  -- `return` under a guard that mentions a ghost
  pub returned_told : fault_in returned ≡ None
  pub returned_ghost : ghost_rule_of (meant returned) ≡ Some (Breaks 5)
  -- nothing is broken
  pub good_told : fault_in good ≡ None
  -- what they mean is well typed
  pub inner_let_told : fault_in inner_let ≡ None
  pub calls_told : fault_in calls ≡ None
  pub mixed_told : fault_in mixed ≡ None
  pub loops_told : fault_in loops ≡ None
  pub calculations_told : fault_in calculations ≡ None
  pub literals_told : fault_in literals ≡ None
  pub good_typed : is_well_typed good ≡ true
  pub good_ghost : ghost_rule_of (meant good) ≡ None
  pub returned_typed : is_well_typed returned ≡ true
  pub late_typed : is_well_typed late ≡ true
  pub inner_let_typed : is_well_typed inner_let ≡ true
  pub calls_typed : is_well_typed calls ≡ true
  pub mixed_typed : is_well_typed mixed ≡ true
  pub loops_typed : is_well_typed loops ≡ true
  pub calculations_typed : is_well_typed calculations ≡ true
  pub literals_typed : is_well_typed literals ≡ true
