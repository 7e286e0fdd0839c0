-- Parts of statements: what is read is spelled so, and what is spelled so is read.
use Rattle.std.proofs.Common.{◌≡◌, ℕ, ◌<◌, ◌≤◌, nat_lt, Bool, true, false, not, cond, List, [], ◌∷◌, ◌++◌, length, Option, Some, None, refl, ap, subst, ◌∙◌, arith}
use Rattle.std.specs.List.{AllByRecursion, flat_map}
use Rattle.std.proofs.lemmas.Bool.{ltb-true, lt-ltb}
use Rattle.df_lemmas.proofs.Options.{test_some}
use Rattle.df_base.specs.declared.pos.Pos.{Pos}
use Rattle.df_tok.specs.declared.word.Word.TheVariants as words
use Rattle.df_tok.specs.declared.sign.Sign.TheVariants as signs
use Rattle.df_tok.specs.declared.token.Kind.{Kind}
use Rattle.df_tok.specs.declared.token.Kind.TheVariants as kinds
use Rattle.df_tok.specs.Token.{Token}
use Rattle.df_ntree.specs.declared.tree.Ident.{Ident}
use Rattle.df_ntree.specs.declared.expr.TreeType.{TreeType}
use Rattle.df_ntree.specs.declared.file.Local.{Local}
use Rattle.df_ntree.specs.declared.file.ConditionKind.{ConditionKind}
use Rattle.df_ntree.specs.declared.file.ConditionKind.TheVariants as conditions
use Rattle.df_ntree.specs.Spelling.{Piece, Plain, Characters, Begins, a_sign, word_there, a_name, spell_more, separated, optional, IsOption, AreSome}
use Rattle.df_ntree.specs.Expr.{Expr}
use Rattle.df_ntree.specs.ExprSpelling.{spell, spell_type, IsExpr, height, deepest_of}
use Rattle.df_ntree.specs.File.{Clause, Condition, Decreases, PrintOperand, Text, Value}
use Rattle.df_ntree.specs.FileSpelling.{spell_typing, spell_local, spell_values, spell_operand, condition_word, spell_clause, typing_height, local_height, operand_height, clause_height, IsOperand, IsClause}
use Rattle.df_ntree.specs.mirror.Reading.{◌>>=◌, kind_at, kind_is_sign, sign_stands, is_open, both, made, after_sign, name_at, text_at, pos_of_word, one_or_more}
use Rattle.df_ntree.specs.mirror.ExprReading.{operator_of, type_at, expression_at}
use Rattle.df_ntree.specs.mirror.FileReading.{clause_stands, begins_clause, values_at, assigned_at, initial_at, returned_at, type_within, typing_at, local_at, operand_by, operand_at, condition_by, condition_word_at, condition_at, decreases_at, clause_by, clause_at}
use Rattle.df_ntree.proofs.Repeat.{bind_some, found, pair, got, finish, some_is, differ}
use Rattle.df_ntree.proofs.Tokens.{Begins-parts, kind_there}
use Rattle.df_ntree.proofs.Readers.{ReadsAs, Anything, Any, pair_reads, sign_reads, made_sound, made_complete, made_reads, respelled, narrowed, option_reads, NotThen, Sibling, sign_shows, BeforeComma, one_or_more_reads, where_reads, name_reads, word_pos_reads, text_reads}
use Rattle.df_ntree.proofs.ExprTokens.{continuation_by, NoneContinues, none_by}
use Rattle.df_ntree.proofs.ExprFirst.{no_text, no_semicolon_stands}
use Rattle.df_ntree.proofs.ExprTypes.{type_sound, type_complete}
use Rattle.df_ntree.proofs.ExprLists.{AfterParts}
use Rattle.df_ntree.proofs.ExprWhole.{IsLowExpr, expression_reads, values_read}

-- ---- lists within the room

pub lows_from : {X : Type 0} (Is : X → Type 0) (height_of : X → ℕ) (room : ℕ) (xs : List X) → AllByRecursion Is xs → deepest_of height_of xs ≤ room → AllByRecursion (λ (x : X). Is x × (height_of x ≤ room)) xs
lows_from Is height_of room [] are low = tt
lows_from Is height_of room (x ∷ xs) are low = ((are.0, omega arith), lows_from Is height_of room xs are.1 (omega arith))

pub lows_to : {X : Type 0} (Is : X → Type 0) (height_of : X → ℕ) (room : ℕ) (xs : List X) → AllByRecursion (λ (x : X). Is x × (height_of x ≤ room)) xs → AllByRecursion Is xs × (deepest_of height_of xs ≤ room)
lows_to Is height_of room [] are = (tt, omega arith)
lows_to Is height_of room (x ∷ xs) are =
    let m = lows_to Is height_of room xs are.1 in
    let a = are.0.1 in
    let b = m.1 in
    ((are.0.0, m.0), omega arith)

-- ---- what may follow an expression

pub no_more : (kind : Kind) (place : Option Pos) (others : List Piece) (tokens rest : List Token) → continuation_by kind ≡ None → Begins (Plain kind place ∷ others) tokens rest → NoneContinues tokens
no_more kind place others tokens rest h starts = none_by kind tokens h (kind_there kind place others tokens rest starts)

pub none_at_brace : (tokens : List Token) → kind_at tokens ≡ Some (kinds.Sign signs.OpenBrace) → NoneContinues tokens
unfolding operator_of
none_at_brace tokens h = none_by (kinds.Sign signs.OpenBrace) tokens refl h

-- a semicolon stands there
abbrev pub Ending : List Token → Type 0
Ending tokens = kind_at tokens ≡ Some (kinds.Sign signs.Semicolon)

pub ending : (tokens rest : List Token) → Begins (a_sign signs.Semicolon ∷ []) tokens rest → Ending tokens
ending tokens rest starts = kind_there (kinds.Sign signs.Semicolon) None [] tokens rest starts

pub none_ending : (tokens : List Token) → Ending tokens → NoneContinues tokens
unfolding operator_of
none_ending tokens h = none_by (kinds.Sign signs.Semicolon) tokens refl h

pub parts_ending : (tokens : List Token) → Ending tokens → AfterParts tokens
parts_ending tokens h = (ap (kind_is_sign signs.Comma) h, none_ending tokens h)

-- ---- values

pub assigned_reads : (room : ℕ) → ReadsAs (assigned_at room) spell_values (AreSome (IsLowExpr room)) AfterParts
unfolding assigned_at
assigned_reads room =
    respelled (after_sign signs.Assign (values_at room)) (λ (es : List Expr). a_sign signs.Assign ∷ separated spell es) spell_values (AreSome (IsLowExpr room)) AfterParts
    (sign_reads signs.Assign (values_at room) (separated spell) (AreSome (IsLowExpr room)) AfterParts (values_read room)) spelled
  where
    spelled : (es : List Expr) → AreSome (IsLowExpr room) es → a_sign signs.Assign ∷ separated spell es ≡ spell_values es
    spelled [] are = absurd (are.0 refl)
    spelled (e ∷ es) are = refl

initial_reads : (room : ℕ) → ReadsAs (initial_at room) spell_values (AllByRecursion (IsLowExpr room)) (NotThen (sign_stands signs.Assign) AfterParts)
unfolding initial_at
initial_reads room =
    where_reads (sign_stands signs.Assign) (assigned_at room) spell_values (IsLowExpr room) AfterParts (assigned_reads room) refl
    (λ e es tokens rest starts are. sign_shows signs.Assign (kinds.Sign signs.Assign) None (separated spell (e ∷ es)) tokens rest true refl starts)

pub initial_ending : (room : ℕ) → ReadsAs (initial_at room) spell_values (AllByRecursion (IsLowExpr room)) Ending
initial_ending room =
    narrowed (initial_at room) spell_values (AllByRecursion (IsLowExpr room)) (NotThen (sign_stands signs.Assign) AfterParts) Ending (initial_reads room) (λ tokens h. (ap (kind_is_sign signs.Assign) h, parts_ending tokens h))

returned_reads : (room : ℕ) → ReadsAs (returned_at room) (separated spell) (AllByRecursion (IsLowExpr room)) (NotThen (is_open signs.Semicolon) AfterParts)
unfolding returned_at
returned_reads room =
    where_reads (is_open signs.Semicolon) (values_at room) (separated spell) (IsLowExpr room) AfterParts (values_read room) refl
    (λ e es tokens rest starts are.
    let p = Begins-parts (spell e) (flat_map (spell_more spell) es) tokens rest starts in
    no_semicolon_stands e tokens p.between are.0.0 p.first)

pub returned_ending : (room : ℕ) → ReadsAs (returned_at room) (separated spell) (AllByRecursion (IsLowExpr room)) Ending
returned_ending room =
    narrowed (returned_at room) (separated spell) (AllByRecursion (IsLowExpr room)) (NotThen (is_open signs.Semicolon) AfterParts) Ending (returned_reads room)
    (λ tokens h. (ap (λ (k : Option Kind). not (kind_is_sign signs.Semicolon k)) h, parts_ending tokens h))

-- ---- locals

type_within_reads : (room : ℕ) → ReadsAs (type_within room) spell_type (λ (ty : TreeType). 0 < room) Any
unfolding type_within
type_within_reads room = record {
  sound = λ x tokens rest e.
      let g = test_some (nat_lt 0 room) (type_at tokens) (x, rest) e in
      (type_sound tokens x rest g.1, ltb-true 0 room g.0);
  complete = λ x tokens rest starts is after. ap (λ (b : Bool). cond b (type_at tokens) None) (lt-ltb 0 room is) ∙ type_complete x tokens rest starts;
}

abbrev pub NoColon : List Token → Type 0
NoColon = NotThen (sign_stands signs.Colon) Any

typing_reads : (room : ℕ) → ReadsAs (typing_at room) (optional spell_typing) (IsOption (λ (ty : TreeType). 0 < room)) NoColon
unfolding typing_at
typing_reads room =
    option_reads (sign_stands signs.Colon) (after_sign signs.Colon (type_within room)) spell_typing (λ (ty : TreeType). 0 < room) Any
    (sign_reads signs.Colon (type_within room) spell_type (λ (ty : TreeType). 0 < room) Any (type_within_reads room))
    (λ x tokens rest starts is. sign_shows signs.Colon (kinds.Sign signs.Colon) None (spell_type x) tokens rest true refl starts)

typing_low : (room : ℕ) (o : Option TreeType) → IsOption (λ (ty : TreeType). 0 < room) o → typing_height o ≤ room
typing_low room None is = omega arith
typing_low room (Some ty) is = omega arith

low_typing : (room : ℕ) (o : Option TreeType) → typing_height o ≤ room → IsOption (λ (ty : TreeType). 0 < room) o
low_typing room None low = tt
low_typing room (Some ty) low = omega arith

-- a local within the room
abbrev pub IsLowLocal : ℕ → Local → Type 0
IsLowLocal room x = Anything x × (local_height x ≤ room)

pub local_reads : (room : ℕ) → ReadsAs (local_at room) spell_local (IsLowLocal room) NoColon
unfolding local_at
local_reads room =
    made_reads (λ (x : Ident × Option TreeType). record { name = x.0; ty = x.1 }) (λ (y : Local). (y.name, y.ty)) (both name_at (typing_at room)) (λ (x : Ident × Option TreeType). (a_name x.0 ∷ []) ++ optional spell_typing x.1) (λ (x : Ident × Option TreeType). Anything x.0 × IsOption (λ (ty : TreeType). 0 < room) x.1) NoColon spell_local (IsLowLocal room)
    (pair_reads name_at (typing_at room) (λ (x : Ident). a_name x ∷ []) (optional spell_typing) (Anything {X = Ident}) (IsOption (λ (ty : TreeType). 0 < room)) NoColon name_reads (typing_reads room))
    (λ x tokens rest starts is. (starts, (tt, typing_low room x.1 is.1)))
    (λ y tokens rest starts is. (starts, (tt, low_typing room y.ty is.1)))
    (λ y is. refl)

colon_before_comma : BeforeComma NoColon
colon_before_comma others tokens rest starts = (sign_shows signs.Colon (kinds.Sign signs.Comma) None others tokens rest false refl starts, tt)

pub locals_read : (room : ℕ) → ReadsAs (one_or_more (local_at room)) (separated spell_local) (AreSome (IsLowLocal room)) (NotThen (sign_stands signs.Comma) NoColon)
locals_read room = one_or_more_reads (local_at room) spell_local (IsLowLocal room) NoColon (local_reads room) colon_before_comma

-- ---- printed operands

-- an operand of at most this height
abbrev pub IsLowOperand : ℕ → PrintOperand → Type 0
IsLowOperand room x = IsOperand x × (operand_height x ≤ room)

value_sound : (room : ℕ) (x : PrintOperand) (tokens rest : List Token) → made Value (expression_at room) tokens ≡ Some (x, rest) → Begins (spell_operand x) tokens rest × IsLowOperand room x
value_sound room x tokens rest e =
    let m = made_sound Value (expression_at room) spell (IsLowExpr room) NoneContinues (expression_reads room) x tokens rest e in
    subst (λ (y : PrintOperand). Begins (spell_operand y) tokens rest × IsLowOperand room y) m.same (m.starts, (m.is.0, m.is.1))

text_sound : (room : ℕ) (x : PrintOperand) (tokens rest : List Token) → cond (nat_lt 0 room) (made Text text_at tokens) None ≡ Some (x, rest) → Begins (spell_operand x) tokens rest × IsLowOperand room x
text_sound room x tokens rest e =
    let g = test_some (nat_lt 0 room) (made Text text_at tokens) (x, rest) e in
    let m = made_sound Text text_at (λ (cs : List ℕ). Characters cs ∷ []) (Anything {X = List ℕ}) Any text_reads x tokens rest g.1 in
    let l = ltb-true 0 room g.0 in
    subst (λ (y : PrintOperand). Begins (spell_operand y) tokens rest × IsLowOperand room y) m.same (m.starts, (tt, omega arith))

operand_sound_by : (room : ℕ) (k : Option Kind) (x : PrintOperand) (tokens rest : List Token) → operand_by room k tokens ≡ Some (x, rest) → Begins (spell_operand x) tokens rest × IsLowOperand room x
operand_sound_by room (Some kinds.Text) x tokens rest e = text_sound room x tokens rest e
operand_sound_by room _ x tokens rest e = value_sound room x tokens rest e

value_by : (room : ℕ) (k : Option Kind) (tokens : List Token) → (k ≡ Some kinds.Text → ⊥) → operand_by room k tokens ≡ made Value (expression_at room) tokens
value_by room (Some kinds.Text) tokens h = absurd (h refl)
value_by room _ tokens h = refl

text_kind : (cs : List ℕ) (tokens rest : List Token) → Begins (Characters cs ∷ []) tokens rest → kind_at tokens ≡ Some kinds.Text
text_kind cs [] rest starts = absurd starts
text_kind cs (t ∷ tokens) rest starts = ap (λ (k : Kind). found k) starts.0.0

operand_finds : (room : ℕ) (x : PrintOperand) (tokens rest : List Token) → Begins (spell_operand x) tokens rest → IsLowOperand room x → NoneContinues rest → operand_at room tokens ≡ Some (x, rest)
unfolding operand_at
operand_finds room (Text cs) tokens rest starts is after =
    let l = is.1 in
    ap (λ (k : Option Kind). operand_by room k tokens) (text_kind cs tokens rest starts)
    ∙ ap (λ (b : Bool). cond b (made Text text_at tokens) None) (lt-ltb 0 room (omega arith))
    ∙ made_complete Text text_at (λ (ds : List ℕ). Characters ds ∷ []) (Anything {X = List ℕ}) Any text_reads cs tokens rest starts tt tt
operand_finds room (Value e) tokens rest starts is after =
    value_by room (kind_at tokens) tokens (no_text e tokens rest is.0 starts)
    ∙ made_complete Value (expression_at room) spell (IsLowExpr room) NoneContinues (expression_reads room) e tokens rest starts is after

pub operand_reads : (room : ℕ) → ReadsAs (operand_at room) spell_operand (IsLowOperand room) NoneContinues
unfolding operand_at
operand_reads room = record {
  sound = λ x tokens rest e. operand_sound_by room (kind_at tokens) x tokens rest e;
  complete = λ x tokens rest starts is after. operand_finds room x tokens rest starts is after;
}

none_before_comma : BeforeComma NoneContinues
unfolding operator_of
none_before_comma others tokens rest starts = no_more (kinds.Sign signs.Comma) None others tokens rest refl starts

pub operands_read : (room : ℕ) → ReadsAs (one_or_more (operand_at room)) (separated spell_operand) (AreSome (IsLowOperand room)) AfterParts
operands_read room = one_or_more_reads (operand_at room) spell_operand (IsLowOperand room) NoneContinues (operand_reads room) none_before_comma

-- ---- clauses

condition_sound : (kind : Kind) (c : ConditionKind) → condition_by kind ≡ Some c → kind ≡ kinds.Word (condition_word c)
condition_sound (kinds.Word words.Requires) c e = ap (λ (x : ConditionKind). kinds.Word (condition_word x)) (some_is conditions.Requires c e)
condition_sound (kinds.Word words.Ensures) c e = ap (λ (x : ConditionKind). kinds.Word (condition_word x)) (some_is conditions.Ensures c e)
condition_sound (kinds.Word words.Invariant) c e = ap (λ (x : ConditionKind). kinds.Word (condition_word x)) (some_is conditions.Invariant c e)
condition_sound _ c e = absurd (differ c e)

condition_is : (c : ConditionKind) → condition_by (kinds.Word (condition_word c)) ≡ Some c
condition_is conditions.Requires = refl
condition_is _ = refl

abbrev spell_condition_word : ConditionKind × Pos → List Piece
spell_condition_word x = word_there (condition_word x.0) x.1 ∷ []

condition_word_reads : ReadsAs condition_word_at spell_condition_word (Anything {X = ConditionKind × Pos}) Any
unfolding condition_word_at
condition_word_reads = record { sound = reads; complete = finds }
  where
    reads : (x : ConditionKind × Pos) (tokens rest : List Token) → condition_word_at tokens ≡ Some (x, rest) → Begins (spell_condition_word x) tokens rest × Anything x
    reads x [] rest e = absurd (differ (pair x rest) e)
    reads x (t ∷ tokens) rest e =
        let p = bind_some (condition_by t.kind) (λ c. got (pair c t.pos) tokens) (x, rest) e in
        finish (λ (y : ConditionKind × Pos) (ts : List Token). Begins (spell_condition_word y) (t ∷ tokens) ts × Anything y) (p.0, t.pos) x tokens rest p.2 (((condition_sound t.kind p.0 p.1, refl), refl), tt)

    finds : (x : ConditionKind × Pos) (tokens rest : List Token) → Begins (spell_condition_word x) tokens rest → Anything x → Any rest → condition_word_at tokens ≡ Some (x, rest)
    finds x [] rest starts is after = absurd starts
    finds x (t ∷ tokens) rest starts is after =
        ap (λ (o : Option ConditionKind). o >>= λ c. got (pair c t.pos) tokens) (ap condition_by starts.0.0 ∙ condition_is x.0)
        ∙ ap (λ (p : Pos). got (pair x.0 p) tokens) starts.0.1 ∙ ap (λ (ts : List Token). got x ts) starts.1

abbrev Conditioned : Type 0
Conditioned = (ConditionKind × Pos) × Expr

conditioned_reads : (room : ℕ) → ReadsAs (both condition_word_at (expression_at room)) (λ (x : Conditioned). spell_condition_word x.0 ++ spell x.1) (λ (x : Conditioned). Anything x.0 × IsLowExpr room x.1) NoneContinues
conditioned_reads room = pair_reads condition_word_at (expression_at room) spell_condition_word spell (Anything {X = ConditionKind × Pos}) (IsLowExpr room) NoneContinues condition_word_reads (expression_reads room)

abbrev Decreased : Type 0
Decreased = Pos × List Expr

decreased_reads : (room : ℕ) → ReadsAs (both (pos_of_word words.Decreases) (values_at room)) (λ (x : Decreased). (word_there words.Decreases x.0 ∷ []) ++ separated spell x.1) (λ (x : Decreased). Anything x.0 × AreSome (IsLowExpr room) x.1) AfterParts
decreased_reads room = pair_reads (pos_of_word words.Decreases) (values_at room) (λ (pos : Pos). word_there words.Decreases pos ∷ []) (separated spell) (Anything {X = Pos}) (AreSome (IsLowExpr room)) AfterParts (word_pos_reads words.Decreases) (values_read room)

-- a clause of at most this height
abbrev pub IsLowClause : ℕ → Clause → Type 0
IsLowClause room x = IsClause x × (clause_height x ≤ room)

abbrev FoundClause : ℕ → Clause → List Token → List Token → Type 0
FoundClause room x tokens rest = Begins (spell_clause x) tokens rest × IsLowClause room x

condition_found : (room : ℕ) (x : Clause) (tokens rest : List Token) → condition_at room tokens ≡ Some (x, rest) → FoundClause room x tokens rest
unfolding condition_at
condition_found room x tokens rest e =
    let m = made_sound (λ (y : Conditioned). Condition y.0.0 y.0.1 y.1) _ _ _ NoneContinues (conditioned_reads room) x tokens rest e in
    subst (λ (y : Clause). FoundClause room y tokens rest) m.same (m.starts, (m.is.1.0, m.is.1.1))

decreases_found : (room : ℕ) (x : Clause) (tokens rest : List Token) → decreases_at room tokens ≡ Some (x, rest) → FoundClause room x tokens rest
unfolding decreases_at
decreases_found room x tokens rest e =
    let m = made_sound (λ (y : Decreased). Decreases y.0 y.1) _ _ _ AfterParts (decreased_reads room) x tokens rest e in
    let l = lows_to IsExpr height room m.of.1 m.is.1.1 in
    subst (λ (y : Clause). FoundClause room y tokens rest) m.same (m.starts, ((m.is.1.0, l.0), l.1))

clause_sound_by : (room : ℕ) (k : Option Kind) (x : Clause) (tokens rest : List Token) → clause_by room k tokens ≡ Some (x, rest) → FoundClause room x tokens rest
clause_sound_by room (Some (kinds.Word words.Decreases)) x tokens rest e = decreases_found room x tokens rest e
clause_sound_by room _ x tokens rest e = condition_found room x tokens rest e

clause_condition : (room : ℕ) (kind : ConditionKind) (tokens : List Token) → clause_by room (Some (kinds.Word (condition_word kind))) tokens ≡ condition_at room tokens
clause_condition room conditions.Requires tokens = refl
clause_condition room _ tokens = refl

clause_finds : (room : ℕ) (x : Clause) (tokens rest : List Token) → Begins (spell_clause x) tokens rest → IsLowClause room x → AfterParts rest → clause_by room (kind_at tokens) tokens ≡ Some (x, rest)
unfolding condition_at decreases_at
clause_finds room (Condition kind pos e) tokens rest starts is after =
    ap (λ (k : Option Kind). clause_by room k tokens) (kind_there (kinds.Word (condition_word kind)) (Some pos) (spell e) tokens rest starts) ∙ clause_condition room kind tokens
    ∙ made_complete (λ (y : Conditioned). Condition y.0.0 y.0.1 y.1) _ _ _ NoneContinues (conditioned_reads room) ((kind, pos), e) tokens rest starts (tt, is) after.1
clause_finds room (Decreases pos es) tokens rest starts is after =
    ap (λ (k : Option Kind). clause_by room k tokens) (kind_there (kinds.Word words.Decreases) (Some pos) (separated spell es) tokens rest starts)
    ∙ made_complete (λ (y : Decreased). Decreases y.0 y.1) _ _ _ AfterParts (decreased_reads room) (pos, es) tokens rest starts (tt, (is.0.0, lows_from IsExpr height room es is.0.1 is.1)) after

pub clause_reads : (room : ℕ) → ReadsAs (clause_at room) spell_clause (IsLowClause room) AfterParts
unfolding clause_at
clause_reads room = record {
  sound = λ x tokens rest e. clause_sound_by room (kind_at tokens) x tokens rest e;
  complete = λ x tokens rest starts is after. clause_finds room x tokens rest starts is after;
}

-- the kind of a clause's word
abbrev pub clause_kind : Clause → Kind
clause_kind (Condition kind pos e) = kinds.Word (condition_word kind)
clause_kind (Decreases pos es) = kinds.Word words.Decreases

pub clause_there : (x : Clause) (tokens rest : List Token) → Begins (spell_clause x) tokens rest → kind_at tokens ≡ Some (clause_kind x)
clause_there (Condition kind pos e) tokens rest starts = kind_there (kinds.Word (condition_word kind)) (Some pos) (spell e) tokens rest starts
clause_there (Decreases pos es) tokens rest starts = kind_there (kinds.Word words.Decreases) (Some pos) (separated spell es) tokens rest starts

clause_begins : (x : Clause) → begins_clause (Some (clause_kind x)) ≡ true
clause_begins (Condition conditions.Requires pos e) = refl
clause_begins (Condition _ pos e) = refl
clause_begins (Decreases pos es) = refl

clause_no_comma : (x : Clause) → kind_is_sign signs.Comma (Some (clause_kind x)) ≡ false
clause_no_comma (Condition kind pos e) = refl
clause_no_comma (Decreases pos es) = refl

clause_none : (x : Clause) → continuation_by (clause_kind x) ≡ None
clause_none (Condition conditions.Requires pos e) = refl
clause_none (Condition _ pos e) = refl
clause_none (Decreases pos es) = refl

pub after_clause : (x : Clause) (tokens rest : List Token) → Begins (spell_clause x) tokens rest → AfterParts tokens
after_clause x tokens rest starts =
    let k = clause_there x tokens rest starts in
    (ap (kind_is_sign signs.Comma) k ∙ clause_no_comma x, none_by (clause_kind x) tokens (clause_none x) k)

clause_long : (x : Clause) → 0 < length (spell_clause x)
clause_long (Condition kind pos e) = omega arith
clause_long (Decreases pos es) = omega arith

pub clause_sibling : (room : ℕ) → Sibling spell_clause (IsLowClause room) AfterParts clause_stands
clause_sibling room = record {
  shows = λ x tokens rest starts is. ap begins_clause (clause_there x tokens rest starts) ∙ clause_begins x;
  begins = λ x tokens rest starts is. after_clause x tokens rest starts;
  long = λ x is. clause_long x;
}
