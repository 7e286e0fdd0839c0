-- Statements that hold blocks: what is read is spelled so, and what is spelled so is read.
use Rattle.std.proofs.Common.{◌≡◌, ℕ, zero, suc, ◌≤◌, Bool, true, false, cond, List, [], ◌∷◌, ◌++◌, Option, Some, None, refl, sym, ap, subst, ◌∙◌, arith}
use Rattle.std.specs.List.{AllByRecursion, flat_map}
use Rattle.std.proofs.lemmas.List.Concat.{flat_map-cons}
use Rattle.df_base.specs.declared.pos.Pos.{Pos}
use Rattle.df_tok.specs.declared.word.Word.TheVariants as words
use Rattle.df_tok.specs.declared.sign.Sign.TheVariants as signs
use Rattle.df_tok.specs.declared.token.Kind.{Kind}
use Rattle.df_tok.specs.declared.token.Kind.TheVariants as kinds
use Rattle.df_tok.specs.Token.{Token}
use Rattle.df_ntree.specs.Spelling.{Piece, Begins, a_word, a_sign, word_there, optional, IsOption}
use Rattle.df_ntree.specs.Expr.{Expr}
use Rattle.df_ntree.specs.ExprSpelling.{spell}
use Rattle.df_ntree.specs.File.{Clause, Statement, Nested, Var, Assign, Expression, If, While, Return, Break, Assert, Print, Statements, Branches, end, more, Otherwise, without, otherwise, Block, Branch, branches_of, otherwise_of}
use Rattle.df_ntree.specs.FileSpelling.{spell_clause, spell_statement, spell_statements, spell_branches, spell_otherwise, spell_block, clause_height, deepest_branch, otherwise_height, statement_height, IsClause, AreBranches, IsOtherwise}
use Rattle.df_ntree.specs.mirror.Reading.{Reader, kind_at, kind_is_sign, kind_is_word, word_stands, both, after_word, pos_of_word, many}
use Rattle.df_ntree.specs.mirror.ExprReading.{expression_at}
use Rattle.df_ntree.specs.mirror.FileReading.{behind, else_if_stands, begins_clause, clause_stands, clause_at, primaries_at, block_by, branch_by, else_if_by, otherwise_by, if_of, if_by, while_of, while_by, nested_by, statement_by, statement_at, block_at}
use Rattle.df_ntree.proofs.Repeat.{got, pair, differ}
use Rattle.df_ntree.proofs.Tokens.{Begins-parts, kind_there}
use Rattle.df_ntree.proofs.Readers.{ReadsAs, Joins, Anything, Any, both_reads, pair_reads, word_reads, made_complete, made_reads, option_reads, NotThen, follow, Sibling, many_reads, word_shows, word_pos_reads}
use Rattle.df_ntree.proofs.ExprTokens.{NoneContinues}
use Rattle.df_ntree.proofs.ExprFirst.{First, number, character, truth, name, parenthesis, sign, operator, first_kind, first_of, IsAtom}
use Rattle.df_ntree.proofs.ExprLists.{AfterParts}
use Rattle.df_ntree.proofs.ExprWhole.{IsLowExpr, expression_reads}
use Rattle.df_ntree.proofs.FileParts.{lows_from, lows_to, none_at_brace, IsLowClause, clause_reads, clause_sibling, after_clause}
use Rattle.df_ntree.proofs.FileStatements.{Found, made_found, IsWithin, IsBlock, IsBranch, NotElse, statement_kind, statement_there, primary_atom, print_sound, print_complete, assert_sound, assert_complete, break_sound, break_complete, return_sound, return_complete, var_sound, var_complete, primaries_sound, assign_complete, expression_complete, block_reads}

-- where a block opens
pub block_there : (x : Block) (tokens rest : List Token) → Begins (spell_block x) tokens rest → kind_at tokens ≡ Some (kinds.Sign signs.OpenBrace)
block_there x tokens rest starts = kind_there (kinds.Sign signs.OpenBrace) (Some x.pos) (spell_statements x.statements ++ a_sign signs.CloseBrace ∷ []) tokens rest starts

-- ---- branches

abbrev pub spell_branch : Branch → List Piece
spell_branch x = word_there words.If x.pos ∷ (spell x.guard ++ spell_block x.body)

abbrev pub spell_else_if : Branch → List Piece
spell_else_if x = a_word words.Else ∷ spell_branch x

abbrev spell_else : Block → List Piece
spell_else x = a_word words.Else ∷ spell_block x

branch_reads : (room : ℕ) (block : Reader Block) → ReadsAs block spell_block (IsBlock room) Any → ReadsAs (branch_by room block) spell_branch (IsBranch room) Any
unfolding branch_by
branch_reads room block r =
    made_reads (λ (x : Pos × (Expr × Block)). record { pos = x.0; guard = x.1.0; body = x.1.1 }) (λ (y : Branch). (y.pos, (y.guard, y.body))) (both (pos_of_word words.If) (both (expression_at room) block))
    (λ (x : Pos × (Expr × Block)). (word_there words.If x.0 ∷ []) ++ (spell x.1.0 ++ spell_block x.1.1)) (λ (x : Pos × (Expr × Block)). Anything x.0 × (IsLowExpr room x.1.0 × IsBlock room x.1.1)) Any spell_branch (IsBranch room)
    (pair_reads (pos_of_word words.If) (both (expression_at room) block) (λ (pos : Pos). word_there words.If pos ∷ []) (λ (x : Expr × Block). spell x.0 ++ spell_block x.1) (Anything {X = Pos}) (λ (x : Expr × Block). IsLowExpr room x.0 × IsBlock room x.1) Any (word_pos_reads words.If)
    (both_reads (expression_at room) block spell spell_block (IsLowExpr room) (IsBlock room) NoneContinues Any (expression_reads room) r (λ b tokens rest starts is after. none_at_brace tokens (block_there b tokens rest starts))))
    (λ x tokens rest starts is. (starts, is.1)) (λ y tokens rest starts is. (starts, (tt, is))) (λ y is. refl)

pub else_if_reads : (room : ℕ) (block : Reader Block) → ReadsAs block spell_block (IsBlock room) Any → ReadsAs (else_if_by room block) spell_else_if (IsBranch room) Any
unfolding else_if_by
else_if_reads room block r =
    word_reads words.Else (branch_by room block) spell_branch (IsBranch room) Any (branch_reads room block r)

otherwise_reads : (room : ℕ) (block : Reader Block) → ReadsAs block spell_block (IsBlock room) Any → ReadsAs (otherwise_by block) (optional spell_else) (IsOption (IsBlock room)) (NotThen (word_stands words.Else) Any)
unfolding otherwise_by
otherwise_reads room block r =
    option_reads (word_stands words.Else) (after_word words.Else block) spell_else (IsBlock room) Any (word_reads words.Else block spell_block (IsBlock room) Any r)
    (λ x tokens rest starts is. word_shows words.Else (kinds.Word words.Else) None (spell_block x) tokens rest true refl starts)

else_if_shows : (x : Branch) (tokens rest : List Token) → Begins (spell_else_if x) tokens rest → else_if_stands tokens ≡ true
else_if_shows x [] rest starts = absurd starts
else_if_shows x (t ∷ []) rest starts = absurd starts.1
else_if_shows x (t ∷ u ∷ tokens) rest starts =
    let one = word_shows words.Else (kinds.Word words.Else) None (spell_branch x) (t ∷ u ∷ tokens) rest true refl starts in
    let two = word_shows words.If (kinds.Word words.If) (Some x.pos) (spell x.guard ++ spell_block x.body) (u ∷ tokens) rest true refl starts.1 in
    ap (λ (b : Bool). cond b (word_stands words.If (u ∷ tokens)) false) one ∙ two

else_no_if : (x : Block) (tokens rest : List Token) → Begins (spell_else x) tokens rest → else_if_stands tokens ≡ false
else_no_if x [] rest starts = absurd starts
else_no_if x (t ∷ []) rest starts = absurd starts.1
else_no_if x (t ∷ u ∷ tokens) rest starts =
    let one = word_shows words.Else (kinds.Word words.Else) None (spell_block x) (t ∷ u ∷ tokens) rest true refl starts in
    let two = ap (kind_is_word words.If) (block_there x (u ∷ tokens) rest starts.1) in
    ap (λ (b : Bool). cond b (word_stands words.If (u ∷ tokens)) false) one ∙ two

no_else_if : (tokens : List Token) → NotElse tokens → else_if_stands tokens ≡ false
no_else_if tokens h = ap (λ (b : Bool). cond b (word_stands words.If (behind tokens)) false) h

before_otherwise : (room : ℕ) (x : Option Block) (tokens rest : List Token) → Begins (optional spell_else x) tokens rest → IsOption (IsBlock room) x → NotThen (word_stands words.Else) Any rest → NotThen else_if_stands Any tokens
before_otherwise room None tokens rest starts is after = (no_else_if tokens (subst NotElse (sym starts) after.0), tt)
before_otherwise room (Some x) tokens rest starts is after = (else_no_if x tokens rest starts, tt)

pub branch_sibling : (room : ℕ) → Sibling spell_else_if (IsBranch room) Any else_if_stands
branch_sibling room = record {
  shows = λ x tokens rest starts is. else_if_shows x tokens rest starts;
  begins = λ _ _ _ _ _. tt;
  long = λ x is. omega arith;
}

-- ---- if

abbrev Run : Type 0
Run = List Branch × Option Block

abbrev spell_run : Run → List Piece
spell_run x = flat_map spell_else_if x.0 ++ optional spell_else x.1

abbrev IsRun : ℕ → Run → Type 0
IsRun room x = AllByRecursion (IsBranch room) x.0 × IsOption (IsBlock room) x.1

abbrev Choice : Type 0
Choice = Branch × Run

abbrev spell_choice : Choice → List Piece
spell_choice x = spell_branch x.0 ++ spell_run x.1

abbrev IsChoice : ℕ → Choice → Type 0
IsChoice room x = IsBranch room x.0 × IsRun room x.1

abbrev choice_by : ℕ → Reader Block → Reader Choice
choice_by room block = both (branch_by room block) (both (many else_if_stands (else_if_by room block)) (otherwise_by block))

choice_reads : (room : ℕ) (block : Reader Block) → ReadsAs block spell_block (IsBlock room) Any → ReadsAs (choice_by room block) spell_choice (IsChoice room) (NotThen (word_stands words.Else) Any)
choice_reads room block r =
    pair_reads (branch_by room block) (both (many else_if_stands (else_if_by room block)) (otherwise_by block)) spell_branch spell_run (IsBranch room) (IsRun room) (NotThen (word_stands words.Else) Any) (branch_reads room block r)
    (both_reads (many else_if_stands (else_if_by room block)) (otherwise_by block) (flat_map spell_else_if) (optional spell_else) (AllByRecursion (IsBranch room)) (IsOption (IsBlock room)) (NotThen else_if_stands Any) (NotThen (word_stands words.Else) Any)
    (many_reads else_if_stands (else_if_by room block) spell_else_if (IsBranch room) Any (else_if_reads room block r) (branch_sibling room))
    (otherwise_reads room block r) (before_otherwise room))

branch_list : Branches → List Branch
branch_list end = []
branch_list (more pos guard opens body rest) = record { pos = pos; guard = guard; body = record { pos = opens; statements = body } } ∷ branch_list rest

branches_back : (m : Branches) → branches_of (branch_list m) ≡ m
unfolding branch_list
branches_back end = refl
branches_back (more pos guard opens body rest) = ap (more pos guard opens body) (branches_back rest)

spelled_branches : (xs : List Branch) → flat_map spell_else_if xs ≡ spell_branches (branches_of xs)
spelled_branches [] = refl
spelled_branches (x ∷ xs) = flat_map-cons spell_else_if x xs ∙ ap (λ (ps : List Piece). spell_else_if x ++ ps) (spelled_branches xs)

branches_to : (room : ℕ) (xs : List Branch) → AllByRecursion (IsBranch room) xs → AreBranches (branches_of xs) × (deepest_branch (branches_of xs) ≤ room)
branches_to room [] are = (tt, omega arith)
branches_to room (x ∷ xs) are =
    let m = branches_to room xs are.1 in
    let a = are.0.0.1 in
    let b = are.0.1.1 in
    let c = m.1 in
    (((are.0.0.0, are.0.1.0), m.0), omega arith)

branches_from : (room : ℕ) (m : Branches) → AreBranches m → deepest_branch m ≤ room → AllByRecursion (IsBranch room) (branch_list m)
unfolding branch_list
branches_from room end are low = tt
branches_from room (more pos guard opens body rest) are low = (((are.0.0, omega arith), (are.0.1, omega arith)), branches_from room rest are.1 (omega arith))

option_of : Otherwise → Option Block
option_of without = None
option_of (otherwise opens body) = Some (record { pos = opens; statements = body })

otherwise_back : (o : Otherwise) → otherwise_of (option_of o) ≡ o
unfolding option_of
otherwise_back without = refl
otherwise_back (otherwise opens body) = refl

spelled_otherwise : (o : Option Block) → optional spell_else o ≡ spell_otherwise (otherwise_of o)
spelled_otherwise None = refl
spelled_otherwise (Some x) = refl

otherwise_to : (room : ℕ) (o : Option Block) → IsOption (IsBlock room) o → IsOtherwise (otherwise_of o) × (otherwise_height (otherwise_of o) ≤ room)
otherwise_to room None is = (tt, omega arith)
otherwise_to room (Some x) is = is

otherwise_from : (room : ℕ) (o : Otherwise) → IsOtherwise o → otherwise_height o ≤ room → IsOption (IsBlock room) (option_of o)
unfolding option_of
otherwise_from room without is low = tt
otherwise_from room (otherwise opens body) is low = (is, low)

spelled_run : (x : Run) → spell_run x ≡ spell_branches (branches_of x.0) ++ spell_otherwise (otherwise_of x.1)
spelled_run x = ap (λ (ps : List Piece). ps ++ optional spell_else x.1) (spelled_branches x.0) ∙ ap (λ (ps : List Piece). spell_branches (branches_of x.0) ++ ps) (spelled_otherwise x.1)

if_sound : (room : ℕ) (block : Reader Block) → ReadsAs block spell_block (IsBlock room) Any → (x : Statement) (tokens rest : List Token) → if_by room block tokens ≡ Some (x, rest) → Found (suc room) x tokens rest
unfolding if_by
if_sound room block r x tokens rest e =
    made_found if_of (choice_by room block) spell_choice (IsChoice room) (NotThen (word_stands words.Else) Any) (suc room) (choice_reads room block r)
    (λ y ts us starts is.
    let bs = branches_to room y.1.0 is.1.0 in
    let o = otherwise_to room y.1.1 is.1.1 in
    let a = is.0.0.1 in
    let b = is.0.1.1 in
    let c = bs.1 in
    let d = o.1 in
    (subst (λ (ps : List Piece). Begins (spell_branch y.0 ++ ps) ts us) (spelled_run y.1) starts, ((is.0.0.0, is.0.1.0, bs.0, o.0), omega arith)))
    x tokens rest e

if_complete : (room : ℕ) (block : Reader Block) → ReadsAs block spell_block (IsBlock room) Any → (pos : Pos) (guard : Expr) (opens : Pos) (body : Statements) (others : Branches) (last : Otherwise) (tokens rest : List Token)
    → Begins (spell_statement (If pos guard opens body others last)) tokens rest → IsWithin (suc room) (If pos guard opens body others last) → NotElse rest → if_by room block tokens ≡ Some (If pos guard opens body others last, rest)
unfolding if_by
if_complete room block r pos guard opens body others last tokens rest starts is after =
    let first : Branch = record { pos = pos; guard = guard; body = record { pos = opens; statements = body } } in
    let low = is.1 in
    let run : Run = (branch_list others, option_of last) in
    let same : spell_branches others ++ spell_otherwise last ≡ spell_run run =
    ap (λ (m : Branches). spell_branches m ++ spell_otherwise last) (sym (branches_back others))
    ∙ ap (λ (o : Otherwise). spell_branches (branches_of (branch_list others)) ++ spell_otherwise o) (sym (otherwise_back last))
    ∙ sym (spelled_run run) in
    let starts' = subst (λ (ps : List Piece). Begins (spell_branch first ++ ps) tokens rest) same starts in
    made_complete if_of (choice_by room block) spell_choice (IsChoice room) (NotThen (word_stands words.Else) Any) (choice_reads room block r) (first, run) tokens rest starts'
    (((is.0.0, omega arith), (is.0.1, omega arith)), (branches_from room others is.0.2 (omega arith), otherwise_from room last is.0.3 (omega arith))) (after, tt)
    ∙ ap (λ (m : Branches). got (If pos guard opens body m (otherwise_of (option_of last))) rest) (branches_back others)
    ∙ ap (λ (o : Otherwise). got (If pos guard opens body others o) rest) (otherwise_back last)

-- ---- clauses before a block

abbrev pub Claused : Type 0
Claused = List Clause × Block

abbrev pub spell_claused : Claused → List Piece
spell_claused x = flat_map spell_clause x.0 ++ spell_block x.1

abbrev pub IsClaused : ℕ → Claused → Type 0
IsClaused room x = AllByRecursion (IsLowClause room) x.0 × IsBlock room x.1

block_after_clauses : (x : Block) (tokens rest : List Token) → Begins (spell_block x) tokens rest → NotThen clause_stands AfterParts tokens
block_after_clauses x tokens rest starts =
    let k = block_there x tokens rest starts in (ap begins_clause k, (ap (kind_is_sign signs.Comma) k, none_at_brace tokens k))

pub claused_reads : (room : ℕ) (block : Reader Block) → ReadsAs block spell_block (IsBlock room) Any → ReadsAs (both (many clause_stands (clause_at room)) block) spell_claused (IsClaused room) Any
claused_reads room block r =
    both_reads (many clause_stands (clause_at room)) block (flat_map spell_clause) spell_block (AllByRecursion (IsLowClause room)) (IsBlock room) (NotThen clause_stands AfterParts) Any
    (many_reads clause_stands (clause_at room) spell_clause (IsLowClause room) AfterParts (clause_reads room) (clause_sibling room)) r (λ x tokens rest starts is after. block_after_clauses x tokens rest starts)

-- what clauses and their block let come before them
pub before_claused : (F : List Token → Type 0) (room : ℕ) → ((x : Clause) (tokens rest : List Token) → Begins (spell_clause x) tokens rest → F tokens) → ((x : Block) (tokens rest : List Token) → Begins (spell_block x) tokens rest → F tokens)
    → Joins spell_claused (IsClaused room) Any F
before_claused F room clause block x tokens rest starts is after =
    let p = Begins-parts (flat_map spell_clause x.0) (spell_block x.1) tokens rest starts in
    follow spell_clause (IsLowClause room) F (λ y ts us s i. clause y ts us s) x.0 tokens p.between (block x.1 p.between rest p.second) p.first is.0

-- ---- while

abbrev Loop : Type 0
Loop = Pos × (Expr × Claused)

abbrev spell_loop : Loop → List Piece
spell_loop x = (word_there words.While x.0 ∷ []) ++ (spell x.1.0 ++ spell_claused x.1.1)

abbrev IsLoop : ℕ → Loop → Type 0
IsLoop room x = Anything x.0 × (IsLowExpr room x.1.0 × IsClaused room x.1.1)

abbrev loop_by : ℕ → Reader Block → Reader Loop
loop_by room block = both (pos_of_word words.While) (both (expression_at room) (both (many clause_stands (clause_at room)) block))

loop_reads : (room : ℕ) (block : Reader Block) → ReadsAs block spell_block (IsBlock room) Any → ReadsAs (loop_by room block) spell_loop (IsLoop room) Any
loop_reads room block r =
    pair_reads (pos_of_word words.While) (both (expression_at room) (both (many clause_stands (clause_at room)) block)) (λ (pos : Pos). word_there words.While pos ∷ []) (λ (x : Expr × Claused). spell x.0 ++ spell_claused x.1) (Anything {X = Pos}) (λ (x : Expr × Claused). IsLowExpr room x.0 × IsClaused room x.1) Any (word_pos_reads words.While)
    (both_reads (expression_at room) (both (many clause_stands (clause_at room)) block) spell spell_claused (IsLowExpr room) (IsClaused room) NoneContinues Any (expression_reads room) (claused_reads room block r)
    (before_claused NoneContinues room (λ x ts us s. (after_clause x ts us s).1) (λ x ts us s. none_at_brace ts (block_there x ts us s))))

while_sound : (room : ℕ) (block : Reader Block) → ReadsAs block spell_block (IsBlock room) Any → (x : Statement) (tokens rest : List Token) → while_by room block tokens ≡ Some (x, rest) → Found (suc room) x tokens rest
unfolding while_by
while_sound room block r x tokens rest e =
    made_found while_of (loop_by room block) spell_loop (IsLoop room) Any (suc room) (loop_reads room block r)
    (λ y ts us starts is.
    let l = lows_to IsClause clause_height room y.1.1.0 is.1.1.0 in
    let a = l.1 in
    let b = is.1.0.1 in
    let c = is.1.1.1.1 in
    (starts, ((is.1.0.0, l.0, is.1.1.1.0), omega arith)))
    x tokens rest e

while_complete : (room : ℕ) (block : Reader Block) → ReadsAs block spell_block (IsBlock room) Any → (pos : Pos) (guard : Expr) (clauses : List Clause) (body : Block) (tokens rest : List Token)
    → Begins (spell_statement (While pos guard clauses body.pos body.statements)) tokens rest → IsWithin (suc room) (While pos guard clauses body.pos body.statements) → while_by room block tokens ≡ Some (While pos guard clauses body.pos body.statements, rest)
unfolding while_by
while_complete room block r pos guard clauses body tokens rest starts is =
    let low = is.1 in
    made_complete while_of (loop_by room block) spell_loop (IsLoop room) Any (loop_reads room block r) (pos, (guard, (clauses, body))) tokens rest starts
    (tt, ((is.0.0, omega arith), (lows_from IsClause clause_height room clauses is.0.1 (omega arith), (is.0.2, omega arith)))) tt

-- ---- blocks as statements

nested_sound : (room : ℕ) (block : Reader Block) → ReadsAs block spell_block (IsBlock room) Any → (x : Statement) (tokens rest : List Token) → nested_by block tokens ≡ Some (x, rest) → Found room x tokens rest
nested_sound room block r x tokens rest e = made_found (λ (y : Block). Nested y.pos y.statements) block spell_block (IsBlock room) Any room r (λ y ts us starts is. (starts, is)) x tokens rest e

nested_complete : (room : ℕ) (block : Reader Block) → ReadsAs block spell_block (IsBlock room) Any → (x : Block) (tokens rest : List Token) → Begins (spell_block x) tokens rest → IsBlock room x → nested_by block tokens ≡ Some (Nested x.pos x.statements, rest)
nested_complete room block r x tokens rest starts is = made_complete (λ (y : Block). Nested y.pos y.statements) block spell_block (IsBlock room) Any r x tokens rest starts is tt

-- ---- statements

statement_sound : (room : ℕ) (nested block : Reader Block) → ReadsAs nested spell_block (IsBlock (suc room)) Any → ReadsAs block spell_block (IsBlock room) Any
    → (k : Option Kind) (x : Statement) (tokens rest : List Token) → statement_by room nested block k tokens ≡ Some (x, rest) → Found (suc room) x tokens rest
statement_sound room nested block n r (Some (kinds.Sign signs.OpenBrace)) x tokens rest e = nested_sound (suc room) nested n x tokens rest e
statement_sound room nested block n r (Some (kinds.Word words.Var)) x tokens rest e = var_sound room x tokens rest e
statement_sound room nested block n r (Some (kinds.Word words.If)) x tokens rest e = if_sound room block r x tokens rest e
statement_sound room nested block n r (Some (kinds.Word words.While)) x tokens rest e = while_sound room block r x tokens rest e
statement_sound room nested block n r (Some (kinds.Word words.Return)) x tokens rest e = return_sound room x tokens rest e
statement_sound room nested block n r (Some (kinds.Word words.Break)) x tokens rest e = break_sound room x tokens rest e
statement_sound room nested block n r (Some (kinds.Word words.Assert)) x tokens rest e = assert_sound room x tokens rest e
statement_sound room nested block n r (Some (kinds.Word words.Print)) x tokens rest e = print_sound room x tokens rest e
statement_sound room nested block n r _ x tokens rest e = primaries_sound room x tokens rest e

-- a statement that begins as an atom does begins with primaries
atom_begins : (room : ℕ) (nested block : Reader Block) (f : First) → IsAtom f → (tokens : List Token) → statement_by room nested block (Some (first_kind f)) tokens ≡ primaries_at room tokens
atom_begins room nested block (number n) h tokens = refl
atom_begins room nested block (character code) h tokens = refl
atom_begins room nested block (truth true) h tokens = refl
atom_begins room nested block (truth false) h tokens = refl
atom_begins room nested block (name n) h tokens = refl
atom_begins room nested block parenthesis h tokens = refl
atom_begins room nested block (sign o) h tokens = absurd h
atom_begins room nested block (operator o) h tokens = absurd h

statement_finds : (room : ℕ) (nested block : Reader Block) → ReadsAs nested spell_block (IsBlock (suc room)) Any → ReadsAs block spell_block (IsBlock room) Any
    → (x : Statement) (tokens rest : List Token) → Begins (spell_statement x) tokens rest → IsWithin (suc room) x → NotElse rest → statement_by room nested block (Some (statement_kind x)) tokens ≡ Some (x, rest)
statement_finds room nested block n r (Nested pos body) tokens rest starts is after = nested_complete (suc room) nested n (record { pos = pos; statements = body }) tokens rest starts is
statement_finds room nested block n r (Var pos locals es) tokens rest starts is after = var_complete room pos locals es tokens rest starts is
statement_finds room nested block n r (Assign [] es) tokens rest starts is after = absurd (is.0.0.0 refl)
statement_finds room nested block n r (Assign (e ∷ targets) es) tokens rest starts is after = atom_begins room nested block (first_of e) (primary_atom e is.0.0.1.0) tokens ∙ assign_complete room (e ∷ targets) es tokens rest starts is
statement_finds room nested block n r (Expression e) tokens rest starts is after = atom_begins room nested block (first_of e) (primary_atom e is.0) tokens ∙ expression_complete room e tokens rest starts is
statement_finds room nested block n r (If pos guard opens body others last) tokens rest starts is after = if_complete room block r pos guard opens body others last tokens rest starts is after
statement_finds room nested block n r (While pos guard clauses opens body) tokens rest starts is after = while_complete room block r pos guard clauses (record { pos = opens; statements = body }) tokens rest starts is
statement_finds room nested block n r (Return pos es) tokens rest starts is after = return_complete room pos es tokens rest starts is
statement_finds room nested block n r (Break pos) tokens rest starts is after = break_complete pos tokens rest starts
statement_finds room nested block n r (Assert pos condition) tokens rest starts is after = assert_complete room pos condition tokens rest starts is
statement_finds room nested block n r (Print pos operands) tokens rest starts is after = print_complete room pos operands tokens rest starts is

statement_reads : (room : ℕ) (nested block : Reader Block) → ReadsAs nested spell_block (IsBlock (suc room)) Any → ReadsAs block spell_block (IsBlock room) Any
    → ReadsAs (λ (tokens : List Token). statement_by room nested block (kind_at tokens) tokens) spell_statement (IsWithin (suc room)) NotElse
statement_reads room nested block n r = record {
  sound = λ x tokens rest e. statement_sound room nested block n r (kind_at tokens) x tokens rest e;
  complete = λ x tokens rest starts is after.
      ap (λ (k : Option Kind). statement_by room nested block k tokens) (statement_there x tokens rest is.0 starts) ∙ statement_finds room nested block n r x tokens rest starts is after;
}

statement_tall : (x : Statement) → 1 ≤ statement_height x
statement_tall (Nested pos body) = omega arith
statement_tall (Break pos) = omega arith
statement_tall _ = omega arith

none_low : ReadsAs (statement_at zero) spell_statement (IsWithin zero) NotElse
unfolding statement_at
none_low = record {
  sound = λ x tokens rest e. absurd (differ (pair x rest) e);
  complete = λ x tokens rest starts is after. let t = statement_tall x in let low = is.1 in absurd (omega arith);
}

no_block : ReadsAs (block_at zero) spell_block (IsBlock zero) Any
unfolding statement_at
no_block = record {
  sound = λ x tokens rest e. absurd (differ (pair x rest) e);
  complete = λ x tokens rest starts is after. let low = is.1 in absurd (omega arith);
}

-- a block of one level more
next_block : (room : ℕ) → ReadsAs (statement_at room) spell_statement (IsWithin room) NotElse → ReadsAs (block_at (suc room)) spell_block (IsBlock (suc room)) Any
unfolding statement_at
next_block room r = block_reads room (statement_at room) r

next_statement : (room : ℕ) → ReadsAs (statement_at room) spell_statement (IsWithin room) NotElse → ReadsAs (block_at room) spell_block (IsBlock room) Any
    → ReadsAs (statement_at (suc room)) spell_statement (IsWithin (suc room)) NotElse
unfolding statement_at
next_statement room s b = statement_reads room (block_by (statement_at room)) (block_at room) (block_reads room (statement_at room) s) b

pub record Levels (room : ℕ) : Type 0 where
  pub statements : ReadsAs (statement_at room) spell_statement (IsWithin room) NotElse
  pub blocks : ReadsAs (block_at room) spell_block (IsBlock room) Any

-- what is read in each room
pub levels : (room : ℕ) → Levels room
levels zero = record { statements = none_low; blocks = no_block }
levels (suc room) =
    let l = levels room in
    record { statements = next_statement room l.statements l.blocks; blocks = next_block room l.statements }
