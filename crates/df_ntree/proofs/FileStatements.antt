-- Statements without blocks, and blocks: what is read is spelled so, and what is spelled so is read.
use Rattle.std.proofs.Common.{◌≡◌, ◌≢◌, ℕ, suc, ◌+◌, ◌<◌, ◌≤◌, Bool, true, false, not, cond, List, [], ◌∷◌, ◌++◌, length, Option, Some, None, refl, sym, ap, subst, ◌∙◌, arith}
use Rattle.std.specs.List.{AllByRecursion, flat_map}
use Rattle.std.proofs.lemmas.List.Concat.{flat_map-cons}
use Rattle.df_base.specs.declared.pos.Pos.{Pos}
use Rattle.df_tok.specs.declared.word.Word.TheVariants as words
use Rattle.df_tok.specs.declared.sign.Sign.TheVariants as signs
use Rattle.df_tok.specs.declared.token.Kind.{Kind}
use Rattle.df_tok.specs.declared.token.Kind.TheVariants as kinds
use Rattle.df_tok.specs.Token.{Token}
use Rattle.df_ntree.specs.declared.expr.Level.TheVariants as levels
use Rattle.df_ntree.specs.declared.file.Local.{Local}
use Rattle.df_ntree.specs.Spelling.{Piece, Begins, a_sign, word_there, sign_there, spell_more, separated, AreSome}
use Rattle.df_ntree.specs.Expr.{Expr}
use Rattle.df_ntree.specs.ExprSpelling.{spell, IsExpr, height}
use Rattle.df_ntree.specs.File.{PrintOperand, Statement, Nested, Var, Assign, Expression, If, While, Return, Break, Assert, Print, Statements, done, next, Block, Branch, statements_of}
use Rattle.df_ntree.specs.FileSpelling.{spell_local, spell_values, spell_operand, spell_statement, spell_statements, spell_block, local_height, operand_height, statement_height, deepest, IsOperand, IsPrimary, IsStatement, AreStatements}
use Rattle.df_ntree.specs.mirror.Reading.{◌>>=◌, Reader, kind_at, kind_is_word, kind_is_sign, word_stands, sign_stands, is_open, sign_at, both, made, before_sign, pos_of_word, pos_of_sign, many, one_or_more}
use Rattle.df_ntree.specs.mirror.ExprReading.{operator_of, expression_at, expressions_at}
use Rattle.df_ntree.specs.mirror.FileReading.{operand_at, print_at, assert_at, break_at, returned_at, return_at, local_at, initial_at, assigned_at, var_at, expression_begins, primaries_begin, primaries_at, block_by}
use Rattle.df_ntree.proofs.Repeat.{bind_some, got, finish, pair, differ}
use Rattle.df_ntree.proofs.Tokens.{Begins-then, Begins-parts, kind_there, head_there, sign_sound, sign_complete}
use Rattle.df_ntree.proofs.Readers.{ReadsAs, Anything, Any, both_reads, pair_reads, before_reads, made_sound, made_complete, made_reads, NotThen, Sibling, many_reads, word_pos_reads, sign_pos_reads}
use Rattle.df_ntree.proofs.ExprTokens.{NoneContinues, none_by}
use Rattle.df_ntree.proofs.ExprFirst.{First, number, character, truth, name, parenthesis, sign, operator, first_kind, first_of, first_there, IsAtom, atom_first}
use Rattle.df_ntree.proofs.ExprLists.{IsLow, AfterParts}
use Rattle.df_ntree.proofs.ExprWhole.{IsLowExpr, expression_reads, expressions_read}
use Rattle.df_ntree.proofs.FileParts.{lows_from, lows_to, Ending, ending, none_ending, parts_ending, assigned_reads, initial_ending, returned_ending, IsLowLocal, locals_read, IsLowOperand, operands_read}

-- a statement of the grammar of at most this height
abbrev pub IsWithin : ℕ → Statement → Type 0
IsWithin room x = IsStatement x × (statement_height x ≤ room)

abbrev pub IsBlock : ℕ → Block → Type 0
IsBlock room x = AreStatements x.statements × (deepest x.statements + 1 ≤ room)

abbrev pub IsBranch : ℕ → Branch → Type 0
IsBranch room x = IsLowExpr room x.guard × IsBlock room x.body

-- a statement that is found
abbrev pub Found : ℕ → Statement → List Token → List Token → Type 0
Found room x tokens rest = Begins (spell_statement x) tokens rest × IsWithin room x

-- what is made of what is read is found
pub made_found : {X : Type 0} (f : X → Statement) (read : Reader X) (a : X → List Piece) (A : X → Type 0) (F : List Token → Type 0) (room : ℕ) → ReadsAs read a A F → ((x : X) (tokens rest : List Token) → Begins (a x) tokens rest → A x → Found room (f x) tokens rest)
    → (x : Statement) (tokens rest : List Token) → made f read tokens ≡ Some (x, rest) → Found room x tokens rest
made_found f read a A F room r to x tokens rest e =
    let m = made_sound f read a A F r x tokens rest e in
    subst (λ (y : Statement). Found room y tokens rest) m.same (to m.of tokens rest m.starts m.is)

-- ---- print

abbrev Printed : Type 0
Printed = Pos × List PrintOperand

print_reads : (room : ℕ) → ReadsAs (both (pos_of_word words.Print) (before_sign (one_or_more (operand_at room)) signs.Semicolon)) (λ (x : Printed). (word_there words.Print x.0 ∷ []) ++ (separated spell_operand x.1 ++ a_sign signs.Semicolon ∷ [])) (λ (x : Printed). Anything x.0 × AreSome (IsLowOperand room) x.1) Any
print_reads room =
    pair_reads (pos_of_word words.Print) (before_sign (one_or_more (operand_at room)) signs.Semicolon) (λ (pos : Pos). word_there words.Print pos ∷ []) (λ (xs : List PrintOperand). separated spell_operand xs ++ a_sign signs.Semicolon ∷ []) (Anything {X = Pos}) (AreSome (IsLowOperand room)) Any (word_pos_reads words.Print)
    (before_reads signs.Semicolon (one_or_more (operand_at room)) (separated spell_operand) (AreSome (IsLowOperand room)) AfterParts (operands_read room) (λ tokens rest starts. parts_ending tokens (ending tokens rest starts)))

pub print_sound : (room : ℕ) (x : Statement) (tokens rest : List Token) → print_at room tokens ≡ Some (x, rest) → Found (suc room) x tokens rest
unfolding print_at
print_sound room x tokens rest e =
    made_found (λ (y : Printed). Print y.0 y.1) _ _ _ Any (suc room) (print_reads room)
    (λ y ts us starts is.
    let l = lows_to IsOperand operand_height room y.1 is.1.1 in
    let h = l.1 in
    (starts, ((is.1.0, l.0), omega arith))) x tokens rest e

pub print_complete : (room : ℕ) (pos : Pos) (xs : List PrintOperand) (tokens rest : List Token) → Begins (spell_statement (Print pos xs)) tokens rest → IsWithin (suc room) (Print pos xs) → print_at room tokens ≡ Some (Print pos xs, rest)
unfolding print_at
print_complete room pos xs tokens rest starts is =
    let low = is.1 in
    made_complete (λ (y : Printed). Print y.0 y.1) _ _ _ Any (print_reads room) (pos, xs) tokens rest starts (tt, (is.0.0, lows_from IsOperand operand_height room xs is.0.1 (omega arith))) tt

-- ---- assert

abbrev Asserted : Type 0
Asserted = Pos × Expr

assert_reads : (room : ℕ) → ReadsAs (both (pos_of_word words.Assert) (before_sign (expression_at room) signs.Semicolon)) (λ (x : Asserted). (word_there words.Assert x.0 ∷ []) ++ (spell x.1 ++ a_sign signs.Semicolon ∷ [])) (λ (x : Asserted). Anything x.0 × IsLowExpr room x.1) Any
assert_reads room =
    pair_reads (pos_of_word words.Assert) (before_sign (expression_at room) signs.Semicolon) (λ (pos : Pos). word_there words.Assert pos ∷ []) (λ (e : Expr). spell e ++ a_sign signs.Semicolon ∷ []) (Anything {X = Pos}) (IsLowExpr room) Any (word_pos_reads words.Assert)
    (before_reads signs.Semicolon (expression_at room) spell (IsLowExpr room) NoneContinues (expression_reads room) (λ tokens rest starts. none_ending tokens (ending tokens rest starts)))

pub assert_sound : (room : ℕ) (x : Statement) (tokens rest : List Token) → assert_at room tokens ≡ Some (x, rest) → Found (suc room) x tokens rest
unfolding assert_at
assert_sound room x tokens rest e =
    made_found (λ (y : Asserted). Assert y.0 y.1) _ _ _ Any (suc room) (assert_reads room) (λ y ts us starts is. let h = is.1.1 in (starts, (is.1.0, omega arith))) x tokens rest e

pub assert_complete : (room : ℕ) (pos : Pos) (condition : Expr) (tokens rest : List Token) → Begins (spell_statement (Assert pos condition)) tokens rest → IsWithin (suc room) (Assert pos condition) → assert_at room tokens ≡ Some (Assert pos condition, rest)
unfolding assert_at
assert_complete room pos condition tokens rest starts is =
    let low = is.1 in
    made_complete (λ (y : Asserted). Assert y.0 y.1) _ _ _ Any (assert_reads room) (pos, condition) tokens rest starts (tt, (is.0, omega arith)) tt

-- ---- break

break_reads : ReadsAs (before_sign (pos_of_word words.Break) signs.Semicolon) (λ (pos : Pos). (word_there words.Break pos ∷ []) ++ a_sign signs.Semicolon ∷ []) (Anything {X = Pos}) Any
break_reads = before_reads signs.Semicolon (pos_of_word words.Break) (λ (pos : Pos). word_there words.Break pos ∷ []) (Anything {X = Pos}) Any (word_pos_reads words.Break) (λ _ _ _. tt)

pub break_sound : (room : ℕ) (x : Statement) (tokens rest : List Token) → break_at tokens ≡ Some (x, rest) → Found (suc room) x tokens rest
unfolding break_at
break_sound room x tokens rest e = made_found Break _ _ _ Any (suc room) break_reads (λ y ts us starts is. (starts, (tt, omega arith))) x tokens rest e

pub break_complete : (pos : Pos) (tokens rest : List Token) → Begins (spell_statement (Break pos)) tokens rest → break_at tokens ≡ Some (Break pos, rest)
unfolding break_at
break_complete pos tokens rest starts = made_complete Break _ _ _ Any break_reads pos tokens rest starts tt tt

-- ---- return

abbrev Returned : Type 0
Returned = Pos × List Expr

return_reads : (room : ℕ) → ReadsAs (both (pos_of_word words.Return) (before_sign (returned_at room) signs.Semicolon)) (λ (x : Returned). (word_there words.Return x.0 ∷ []) ++ (separated spell x.1 ++ a_sign signs.Semicolon ∷ [])) (λ (x : Returned). Anything x.0 × AllByRecursion (IsLowExpr room) x.1) Any
return_reads room =
    pair_reads (pos_of_word words.Return) (before_sign (returned_at room) signs.Semicolon) (λ (pos : Pos). word_there words.Return pos ∷ []) (λ (es : List Expr). separated spell es ++ a_sign signs.Semicolon ∷ []) (Anything {X = Pos}) (AllByRecursion (IsLowExpr room)) Any (word_pos_reads words.Return)
    (before_reads signs.Semicolon (returned_at room) (separated spell) (AllByRecursion (IsLowExpr room)) Ending (returned_ending room) ending)

pub return_sound : (room : ℕ) (x : Statement) (tokens rest : List Token) → return_at room tokens ≡ Some (x, rest) → Found (suc room) x tokens rest
unfolding return_at
return_sound room x tokens rest e =
    made_found (λ (y : Returned). Return y.0 y.1) _ _ _ Any (suc room) (return_reads room)
    (λ y ts us starts is.
    let l = lows_to IsExpr height room y.1 is.1 in
    let h = l.1 in
    (starts, (l.0, omega arith))) x tokens rest e

pub return_complete : (room : ℕ) (pos : Pos) (es : List Expr) (tokens rest : List Token) → Begins (spell_statement (Return pos es)) tokens rest → IsWithin (suc room) (Return pos es) → return_at room tokens ≡ Some (Return pos es, rest)
unfolding return_at
return_complete room pos es tokens rest starts is =
    let low = is.1 in
    made_complete (λ (y : Returned). Return y.0 y.1) _ _ _ Any (return_reads room) (pos, es) tokens rest starts (tt, lows_from IsExpr height room es is.0 (omega arith)) tt

-- ---- locals

abbrev Declared : Type 0
Declared = List Local × List Expr

abbrev spell_declared : Declared → List Piece
spell_declared x = separated spell_local x.0 ++ spell_values x.1

abbrev AreDeclared : ℕ → Declared → Type 0
AreDeclared room x = AreSome (IsLowLocal room) x.0 × AllByRecursion (IsLowExpr room) x.1

abbrev AfterLocals : List Token → Type 0
AfterLocals = NotThen (sign_stands signs.Comma) (NotThen (sign_stands signs.Colon) Any)

after_locals : (es : List Expr) (tokens rest : List Token) → Begins (spell_values es) tokens rest → Ending rest → AfterLocals tokens
after_locals [] tokens rest starts after = subst AfterLocals (sym starts) (ap (kind_is_sign signs.Comma) after, (ap (kind_is_sign signs.Colon) after, tt))
after_locals (e ∷ es) tokens rest starts after =
    let k = kind_there (kinds.Sign signs.Assign) None (separated spell (e ∷ es)) tokens rest starts in
    (ap (kind_is_sign signs.Comma) k, (ap (kind_is_sign signs.Colon) k, tt))

declared_reads : (room : ℕ) → ReadsAs (both (one_or_more (local_at room)) (initial_at room)) spell_declared (AreDeclared room) Ending
declared_reads room =
    both_reads (one_or_more (local_at room)) (initial_at room) (separated spell_local) spell_values (AreSome (IsLowLocal room)) (AllByRecursion (IsLowExpr room)) AfterLocals Ending (locals_read room) (initial_ending room)
    (λ es tokens rest starts are after. after_locals es tokens rest starts after)

-- the tokens of locals and values, grouped as the statement has them
grouped : (x : Declared) (tokens rest : List Token) → Begins (spell_declared x ++ a_sign signs.Semicolon ∷ []) tokens rest → Begins (separated spell_local x.0 ++ (spell_values x.1 ++ a_sign signs.Semicolon ∷ [])) tokens rest
grouped x tokens rest starts =
    let p = Begins-parts (spell_declared x) (a_sign signs.Semicolon ∷ []) tokens rest starts in
    let q = Begins-parts (separated spell_local x.0) (spell_values x.1) tokens p.between p.first in
    Begins-then (separated spell_local x.0) (spell_values x.1 ++ a_sign signs.Semicolon ∷ []) tokens q.between rest q.first (Begins-then (spell_values x.1) (a_sign signs.Semicolon ∷ []) q.between p.between rest q.second p.second)

ungrouped : (x : Declared) (tokens rest : List Token) → Begins (separated spell_local x.0 ++ (spell_values x.1 ++ a_sign signs.Semicolon ∷ [])) tokens rest → Begins (spell_declared x ++ a_sign signs.Semicolon ∷ []) tokens rest
ungrouped x tokens rest starts =
    let p = Begins-parts (separated spell_local x.0) (spell_values x.1 ++ a_sign signs.Semicolon ∷ []) tokens rest starts in
    let q = Begins-parts (spell_values x.1) (a_sign signs.Semicolon ∷ []) p.between rest p.second in
    Begins-then (spell_declared x) (a_sign signs.Semicolon ∷ []) tokens q.between rest (Begins-then (separated spell_local x.0) (spell_values x.1) tokens p.between q.between p.first q.first) q.second

abbrev Var_parts : Type 0
Var_parts = Pos × Declared

abbrev spell_var : Var_parts → List Piece
spell_var x = (word_there words.Var x.0 ∷ []) ++ (spell_declared x.1 ++ a_sign signs.Semicolon ∷ [])

var_reads : (room : ℕ) → ReadsAs (both (pos_of_word words.Var) (before_sign (both (one_or_more (local_at room)) (initial_at room)) signs.Semicolon)) spell_var (λ (x : Var_parts). Anything x.0 × AreDeclared room x.1) Any
var_reads room =
    pair_reads (pos_of_word words.Var) (before_sign (both (one_or_more (local_at room)) (initial_at room)) signs.Semicolon) (λ (pos : Pos). word_there words.Var pos ∷ []) (λ (x : Declared). spell_declared x ++ a_sign signs.Semicolon ∷ []) (Anything {X = Pos}) (AreDeclared room) Any (word_pos_reads words.Var)
    (before_reads signs.Semicolon (both (one_or_more (local_at room)) (initial_at room)) spell_declared (AreDeclared room) Ending (declared_reads room) ending)

any_local : (xs : List Local) → AllByRecursion (Anything {X = Local}) xs
any_local [] = tt
any_local (x ∷ xs) = (tt, any_local xs)

-- a word and what follows it
word_then : (x : Var_parts) (tokens rest : List Token) → Begins (spell_var x) tokens rest → Begins (spell_statement (Var x.0 x.1.0 x.1.1)) tokens rest
word_then x tokens rest starts =
    let p = Begins-parts (word_there words.Var x.0 ∷ []) (spell_declared x.1 ++ a_sign signs.Semicolon ∷ []) tokens rest starts in
    Begins-then (word_there words.Var x.0 ∷ []) (separated spell_local x.1.0 ++ (spell_values x.1.1 ++ a_sign signs.Semicolon ∷ [])) tokens p.between rest p.first (grouped x.1 p.between rest p.second)

then_word : (x : Var_parts) (tokens rest : List Token) → Begins (spell_statement (Var x.0 x.1.0 x.1.1)) tokens rest → Begins (spell_var x) tokens rest
then_word x tokens rest starts =
    let p = Begins-parts (word_there words.Var x.0 ∷ []) (separated spell_local x.1.0 ++ (spell_values x.1.1 ++ a_sign signs.Semicolon ∷ [])) tokens rest starts in
    Begins-then (word_there words.Var x.0 ∷ []) (spell_declared x.1 ++ a_sign signs.Semicolon ∷ []) tokens p.between rest p.first (ungrouped x.1 p.between rest p.second)

pub var_sound : (room : ℕ) (x : Statement) (tokens rest : List Token) → var_at room tokens ≡ Some (x, rest) → Found (suc room) x tokens rest
unfolding var_at
var_sound room x tokens rest e =
    made_found (λ (y : Var_parts). Var y.0 y.1.0 y.1.1) _ _ _ Any (suc room) (var_reads room)
    (λ y ts us starts is.
    let l = lows_to (Anything {X = Local}) local_height room y.1.0 is.1.0.1 in
    let v = lows_to IsExpr height room y.1.1 is.1.1 in
    let h = l.1 in
    let i = v.1 in
    (word_then y ts us starts, ((is.1.0.0, v.0), omega arith))) x tokens rest e

pub var_complete : (room : ℕ) (pos : Pos) (locals : List Local) (es : List Expr) (tokens rest : List Token) → Begins (spell_statement (Var pos locals es)) tokens rest → IsWithin (suc room) (Var pos locals es) → var_at room tokens ≡ Some (Var pos locals es, rest)
unfolding var_at
var_complete room pos locals es tokens rest starts is =
    let low = is.1 in
    let x : Var_parts = (pos, (locals, es)) in
    made_complete (λ (y : Var_parts). Var y.0 y.1.0 y.1.1) _ _ _ Any (var_reads room) x tokens rest (then_word x tokens rest starts)
    (tt, ((is.0.0, lows_from (Anything {X = Local}) local_height room locals (any_local locals) (omega arith)), lows_from IsExpr height room es is.0.1 (omega arith))) tt

-- ---- what primaries begin

abbrev AreTargets : ℕ → List Expr → Type 0
AreTargets room es = AreSome (IsLow 8 room) es

assign_reads : (room : ℕ) → ReadsAs (before_sign (assigned_at room) signs.Semicolon) (λ (es : List Expr). spell_values es ++ a_sign signs.Semicolon ∷ []) (AreSome (IsLowExpr room)) Any
assign_reads room = before_reads signs.Semicolon (assigned_at room) spell_values (AreSome (IsLowExpr room)) AfterParts (assigned_reads room) (λ tokens rest starts. parts_ending tokens (ending tokens rest starts))

assign_sound : (room : ℕ) (targets : List Expr) (tokens between : List Token) → Begins (separated spell targets) tokens between → AreTargets room targets → (x : Statement) (rest : List Token)
    → made (Assign targets) (before_sign (assigned_at room) signs.Semicolon) between ≡ Some (x, rest) → Found (suc room) x tokens rest
assign_sound room targets tokens between b are x rest e =
    let m = made_sound (Assign targets) _ _ _ Any (assign_reads room) x between rest e in
    let t = lows_to IsPrimary height room targets are.1 in
    let v = lows_to IsExpr height room m.of m.is.1 in
    let h = t.1 in
    let i = v.1 in
    subst (λ (y : Statement). Found (suc room) y tokens rest) m.same (Begins-then (separated spell targets) (spell_values m.of ++ a_sign signs.Semicolon ∷ []) tokens between rest b m.starts, (((are.0, t.0), (m.is.0, v.0)), omega arith))

alone_sound : (room : ℕ) (targets : List Expr) (tokens between : List Token) → Begins (separated spell targets) tokens between → AreTargets room targets → (x : Statement) (rest : List Token)
    → expression_begins targets between ≡ Some (x, rest) → Found (suc room) x tokens rest
unfolding expression_begins
alone_sound room [] tokens between b are x rest e = absurd (differ (pair x rest) e)
alone_sound room (v ∷ []) tokens between b are x rest e =
    let p = bind_some (sign_at signs.Semicolon between) (λ after. got (Expression v) after) (x, rest) e in
    let q = Begins-parts (spell v) [] tokens between b in
    let here : Begins (spell v) tokens between = subst (λ (ts : List Token). Begins (spell v) tokens ts) q.second q.first in
    let low = are.1.0.1 in
    finish (λ (y : Statement) (ts : List Token). Found (suc room) y tokens ts) (Expression v) x p.0 rest p.2 (Begins-then (spell v) (a_sign signs.Semicolon ∷ []) tokens between p.0 here (sign_sound signs.Semicolon between p.0 p.1), (are.1.0.0, omega arith))
alone_sound room (v ∷ w ∷ more) tokens between b are x rest e = absurd (differ (pair x rest) e)

begin_sound : (room : ℕ) (targets : List Expr) (tokens between : List Token) → Begins (separated spell targets) tokens between → AreTargets room targets → (b : Bool) (x : Statement) (rest : List Token)
    → cond b (made (Assign targets) (before_sign (assigned_at room) signs.Semicolon) between) (expression_begins targets between) ≡ Some (x, rest) → Found (suc room) x tokens rest
begin_sound room targets tokens between s are true x rest e = assign_sound room targets tokens between s are x rest e
begin_sound room targets tokens between s are false x rest e = alone_sound room targets tokens between s are x rest e

pub primaries_sound : (room : ℕ) (x : Statement) (tokens rest : List Token) → primaries_at room tokens ≡ Some (x, rest) → Found (suc room) x tokens rest
unfolding primaries_at primaries_begin
primaries_sound room x tokens rest e =
    let a = bind_some (expressions_at room levels.Primary tokens) (λ targets. primaries_begin room targets.0 targets.1) (x, rest) e in
    let s = (expressions_read room levels.Primary).sound a.0.0 tokens a.0.1 a.1 in
    begin_sound room a.0.0 tokens a.0.1 s.0 s.1 (sign_stands signs.Assign a.0.1) x rest a.2

primaries_find : (room : ℕ) (targets : List Expr) (tokens between : List Token) → Begins (separated spell targets) tokens between → AreTargets room targets → AfterParts between → primaries_at room tokens ≡ primaries_begin room targets between
unfolding primaries_at
primaries_find room targets tokens between b are after =
    ap (λ (o : Option (List Expr × List Token)). o >>= λ found_targets. primaries_begin room found_targets.0 found_targets.1) ((expressions_read room levels.Primary).complete targets tokens between b are after)

assign_there : (es : List Expr) (others : List Piece) (tokens rest : List Token) → es ≢ [] → Begins (spell_values es ++ others) tokens rest → kind_at tokens ≡ Some (kinds.Sign signs.Assign)
assign_there [] others tokens rest some b = absurd (some refl)
assign_there (e ∷ es) others tokens rest some b = kind_there (kinds.Sign signs.Assign) None (separated spell (e ∷ es) ++ others) tokens rest b

after_assign : (tokens : List Token) → kind_at tokens ≡ Some (kinds.Sign signs.Assign) → AfterParts tokens
unfolding operator_of
after_assign tokens k = (ap (kind_is_sign signs.Comma) k, none_by (kinds.Sign signs.Assign) tokens refl k)

pub assign_complete : (room : ℕ) (targets es : List Expr) (tokens rest : List Token) → Begins (spell_statement (Assign targets es)) tokens rest → IsWithin (suc room) (Assign targets es) → primaries_at room tokens ≡ Some (Assign targets es, rest)
unfolding primaries_begin
assign_complete room targets es tokens rest starts is =
    let low = is.1 in
    let p = Begins-parts (separated spell targets) (spell_values es ++ a_sign signs.Semicolon ∷ []) tokens rest starts in
    let k = assign_there es (a_sign signs.Semicolon ∷ []) p.between rest is.0.1.0 p.second in
    primaries_find room targets tokens p.between p.first (is.0.0.0, lows_from IsPrimary height room targets is.0.0.1 (omega arith)) (after_assign p.between k)
    ∙ ap (λ (b : Bool). cond b (made (Assign targets) (before_sign (assigned_at room) signs.Semicolon) p.between) (expression_begins targets p.between)) (ap (kind_is_sign signs.Assign) k)
    ∙ made_complete (Assign targets) _ _ _ Any (assign_reads room) es p.between rest p.second (is.0.1.0, lows_from IsExpr height room es is.0.1.1 (omega arith)) tt

pub expression_complete : (room : ℕ) (e : Expr) (tokens rest : List Token) → Begins (spell_statement (Expression e)) tokens rest → IsWithin (suc room) (Expression e) → primaries_at room tokens ≡ Some (Expression e, rest)
unfolding primaries_begin expression_begins
expression_complete room e tokens rest starts is =
    let low = is.1 in
    let p = Begins-parts (spell e) (a_sign signs.Semicolon ∷ []) tokens rest starts in
    let k = ending p.between rest p.second in
    let alone_is : Begins (separated spell (e ∷ [])) tokens p.between = Begins-then (spell e) [] tokens p.between p.between p.first refl in
    primaries_find room (e ∷ []) tokens p.between alone_is ((λ h. cc), ((is.0, omega arith), tt)) (parts_ending p.between k)
    ∙ ap (λ (b : Bool). cond b (made (Assign (e ∷ [])) (before_sign (assigned_at room) signs.Semicolon) p.between) (expression_begins (e ∷ []) p.between)) (ap (kind_is_sign signs.Assign) k)
    ∙ ap (λ (o : Option (List Token)). o >>= λ after. got (Expression e) after) (sign_complete signs.Semicolon p.between rest p.second)

-- ---- first tokens

-- what an assignment or an expression begins with
abbrev targets_kind : List Expr → Kind
targets_kind [] = kinds.Sign signs.Assign
targets_kind (e ∷ es) = first_kind (first_of e)

-- the kind of a statement's first token
abbrev pub statement_kind : Statement → Kind
statement_kind (Nested pos body) = kinds.Sign signs.OpenBrace
statement_kind (Var pos locals es) = kinds.Word words.Var
statement_kind (Assign targets es) = targets_kind targets
statement_kind (Expression e) = first_kind (first_of e)
statement_kind (If pos guard opens body others last) = kinds.Word words.If
statement_kind (While pos guard clauses opens body) = kinds.Word words.While
statement_kind (Return pos es) = kinds.Word words.Return
statement_kind (Break pos) = kinds.Word words.Break
statement_kind (Assert pos condition) = kinds.Word words.Assert
statement_kind (Print pos operands) = kinds.Word words.Print

targets_there : (targets : List Expr) (others : List Piece) (tokens rest : List Token) → AreSome IsPrimary targets → Begins (separated spell targets ++ others) tokens rest → kind_at tokens ≡ Some (targets_kind targets)
targets_there [] others tokens rest are starts = absurd (are.0 refl)
targets_there (e ∷ es) others tokens rest are starts =
    let p = Begins-parts (separated spell (e ∷ es)) others tokens rest starts in
    let q = Begins-parts (spell e) (flat_map (spell_more spell) es) tokens p.between p.first in
    first_there e tokens q.between are.1.0.0 q.first

pub statement_there : (x : Statement) (tokens rest : List Token) → IsStatement x → Begins (spell_statement x) tokens rest → kind_at tokens ≡ Some (statement_kind x)
statement_there (Nested pos body) tokens rest is starts = head_there (spell_statement (Nested pos body)) (kinds.Sign signs.OpenBrace) tokens rest refl starts
statement_there (Var pos locals es) tokens rest is starts = head_there (spell_statement (Var pos locals es)) (kinds.Word words.Var) tokens rest refl starts
statement_there (Assign targets es) tokens rest is starts = targets_there targets (spell_values es ++ a_sign signs.Semicolon ∷ []) tokens rest is.0 starts
statement_there (Expression e) tokens rest is starts = let p = Begins-parts (spell e) (a_sign signs.Semicolon ∷ []) tokens rest starts in first_there e tokens p.between is.0 p.first
statement_there (If pos guard opens body others last) tokens rest is starts = head_there (spell_statement (If pos guard opens body others last)) (kinds.Word words.If) tokens rest refl starts
statement_there (While pos guard clauses opens body) tokens rest is starts = head_there (spell_statement (While pos guard clauses opens body)) (kinds.Word words.While) tokens rest refl starts
statement_there (Return pos es) tokens rest is starts = head_there (spell_statement (Return pos es)) (kinds.Word words.Return) tokens rest refl starts
statement_there (Break pos) tokens rest is starts = head_there (spell_statement (Break pos)) (kinds.Word words.Break) tokens rest refl starts
statement_there (Assert pos condition) tokens rest is starts = head_there (spell_statement (Assert pos condition)) (kinds.Word words.Assert) tokens rest refl starts
statement_there (Print pos operands) tokens rest is starts = head_there (spell_statement (Print pos operands)) (kinds.Word words.Print) tokens rest refl starts

-- a primary begins with no brace that closes, and with no `else`
abbrev IsInner : Kind → Type 0
IsInner kind = (kind_is_sign signs.CloseBrace (Some kind) ≡ false) × (kind_is_word words.Else (Some kind) ≡ false)

atom_inner : (f : First) → IsAtom f → IsInner (first_kind f)
atom_inner (number n) h = (refl, refl)
atom_inner (character code) h = (refl, refl)
atom_inner (truth true) h = (refl, refl)
atom_inner (truth false) h = (refl, refl)
atom_inner (name n) h = (refl, refl)
atom_inner parenthesis h = (refl, refl)
atom_inner (sign o) h = absurd h
atom_inner (operator o) h = absurd h

pub primary_atom : (e : Expr) → IsPrimary e → IsAtom (first_of e)
primary_atom e is = atom_first e is.0 is.1

targets_inner : (targets : List Expr) → AreSome IsPrimary targets → IsInner (targets_kind targets)
targets_inner [] are = absurd (are.0 refl)
targets_inner (e ∷ es) are = atom_inner (first_of e) (primary_atom e are.1.0)

statement_inner : (x : Statement) → IsStatement x → IsInner (statement_kind x)
statement_inner (Nested pos body) is = (refl, refl)
statement_inner (Assign targets es) is = targets_inner targets is.0
statement_inner (Expression e) is = atom_inner (first_of e) (primary_atom e is)
statement_inner _ is = (refl, refl)

-- ---- blocks

pub list_of : Statements → List Statement
list_of done = []
list_of (next x rest) = x ∷ list_of rest

list_back : (m : Statements) → statements_of (list_of m) ≡ m
unfolding list_of
list_back done = refl
list_back (next x rest) = ap (next x) (list_back rest)

spelled_list : (xs : List Statement) → flat_map spell_statement xs ≡ spell_statements (statements_of xs)
spelled_list [] = refl
spelled_list (x ∷ xs) = flat_map-cons spell_statement x xs ∙ ap (λ (ps : List Piece). spell_statement x ++ ps) (spelled_list xs)

list_to : (room : ℕ) (xs : List Statement) → AllByRecursion (IsWithin room) xs → AreStatements (statements_of xs) × (deepest (statements_of xs) ≤ room)
list_to room [] are = (tt, omega arith)
list_to room (x ∷ xs) are =
    let m = list_to room xs are.1 in
    let a = are.0.1 in
    let b = m.1 in
    ((are.0.0, m.0), omega arith)

list_from : (room : ℕ) (m : Statements) → AreStatements m → deepest m ≤ room → AllByRecursion (IsWithin room) (list_of m)
unfolding list_of
list_from room done are low = tt
list_from room (next x rest) are low = ((are.0, omega arith), list_from room rest are.1 (omega arith))

-- no `else` stands there
abbrev pub NotElse : List Token → Type 0
NotElse tokens = word_stands words.Else tokens ≡ false

some_head : (x : Statement) → IsStatement x → 0 < length (spell_statement x)
some_head x is = long (spell_statement x) (λ tokens rest starts. statement_there x tokens rest is starts)
  where
    long : (ps : List Piece) → ((tokens rest : List Token) → Begins ps tokens rest → kind_at tokens ≡ Some (statement_kind x)) → 0 < length ps
    long [] h = absurd (differ (statement_kind x) (h [] [] refl))
    long (p ∷ ps) h = omega arith

pub statement_sibling : (room : ℕ) → Sibling spell_statement (IsWithin room) NotElse (is_open signs.CloseBrace)
statement_sibling room = record {
  shows = λ x tokens rest starts is. ap (λ (k : Option Kind). not (kind_is_sign signs.CloseBrace k)) (statement_there x tokens rest is.0 starts) ∙ ap not (statement_inner x is.0).0;
  begins = λ x tokens rest starts is. ap (kind_is_word words.Else) (statement_there x tokens rest is.0 starts) ∙ (statement_inner x is.0).1;
  long = λ x is. some_head x is.0;
}

abbrev Inside : Type 0
Inside = Pos × List Statement

abbrev spell_inside : Inside → List Piece
spell_inside x = (sign_there signs.OpenBrace x.0 ∷ []) ++ (flat_map spell_statement x.1 ++ a_sign signs.CloseBrace ∷ [])

abbrev IsInside : ℕ → Inside → Type 0
IsInside room x = Anything x.0 × AllByRecursion (IsWithin room) x.1

inside_reads : (room : ℕ) (statement : Reader Statement) → ReadsAs statement spell_statement (IsWithin room) NotElse
    → ReadsAs (both (pos_of_sign signs.OpenBrace) (before_sign (many (is_open signs.CloseBrace) statement) signs.CloseBrace)) spell_inside (IsInside room) Any
inside_reads room statement r =
    pair_reads (pos_of_sign signs.OpenBrace) (before_sign (many (is_open signs.CloseBrace) statement) signs.CloseBrace) (λ (pos : Pos). sign_there signs.OpenBrace pos ∷ []) (λ (xs : List Statement). flat_map spell_statement xs ++ a_sign signs.CloseBrace ∷ []) (Anything {X = Pos}) (AllByRecursion (IsWithin room)) Any (sign_pos_reads signs.OpenBrace)
    (before_reads signs.CloseBrace (many (is_open signs.CloseBrace) statement) (flat_map spell_statement) (AllByRecursion (IsWithin room)) (NotThen (is_open signs.CloseBrace) NotElse) (many_reads (is_open signs.CloseBrace) statement spell_statement (IsWithin room) NotElse r (statement_sibling room))
    (λ tokens rest starts.
    let k = kind_there (kinds.Sign signs.CloseBrace) None [] tokens rest starts in
    (ap (λ (o : Option Kind). not (kind_is_sign signs.CloseBrace o)) k, ap (kind_is_word words.Else) k)))

pub block_reads : (room : ℕ) (statement : Reader Statement) → ReadsAs statement spell_statement (IsWithin room) NotElse → ReadsAs (block_by statement) spell_block (IsBlock (suc room)) Any
unfolding block_by
block_reads room statement r =
    made_reads (λ (x : Inside). record { pos = x.0; statements = statements_of x.1 }) (λ (y : Block). (y.pos, list_of y.statements)) _ spell_inside (IsInside room) Any spell_block (IsBlock (suc room)) (inside_reads room statement r)
    (λ x tokens rest starts is.
    let l = list_to room x.1 is.1 in
    let b = l.1 in
    (subst (λ (ps : List Piece). Begins (sign_there signs.OpenBrace x.0 ∷ (ps ++ a_sign signs.CloseBrace ∷ [])) tokens rest) (spelled_list x.1) starts, (l.0, omega arith)))
    (λ y tokens rest starts is.
    let low = is.1 in
    let same : spell_statements y.statements ≡ flat_map spell_statement (list_of y.statements) = ap spell_statements (sym (list_back y.statements)) ∙ sym (spelled_list (list_of y.statements)) in
    (subst (λ (ps : List Piece). Begins (sign_there signs.OpenBrace y.pos ∷ (ps ++ a_sign signs.CloseBrace ∷ [])) tokens rest) same starts, (tt, list_from room y.statements is.0 (omega arith))))
    (λ y is. ap (λ (m : Statements). record { pos = y.pos; statements = m }) (list_back y.statements))
