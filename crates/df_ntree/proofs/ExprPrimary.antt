-- Atoms and their suffixes: what is read is spelled so, and what is spelled so is read.
use Rattle.std.proofs.Common.{◌≡◌, ℕ, suc, ◌+◌, ◌≤◌, max, Bool, true, false, List, [], ◌∷◌, ◌++◌, Option, Some, None, refl, sym, ap, subst, ◌∙◌, arith}
use Rattle.df_base.specs.declared.pos.Pos.{Pos}
use Rattle.df_tok.specs.declared.word.Word.TheVariants as words
use Rattle.df_tok.specs.declared.sign.Sign.TheVariants as signs
use Rattle.df_tok.specs.declared.token.Kind.{Kind}
use Rattle.df_tok.specs.declared.token.Kind.TheVariants as kinds
use Rattle.df_tok.specs.Token.{Token}
use Rattle.df_ntree.specs.Operator.{group_of, rank}
use Rattle.df_ntree.specs.Spelling.{Piece, Begins, a_sign}
use Rattle.df_ntree.specs.Expr.{Expr, Number, Character, Truth, Name, Parentheses, Call, Unary, Cast, Operations, Leading, Arguments, arguments_of}
use Rattle.df_ntree.specs.ExprSpelling.{spell, spell_arguments, rank_of, rank_of_number, IsExpr, height, deepest_of, deepest_argument, if_negative, Continuation, WithOperator, WithType, WithArguments, continued_level, IsBarred}
use Rattle.df_ntree.specs.mirror.Reading.{◌>>=◌, in_front, Reader, kind_is_sign, is_sign, sign_stands, after_sign, before_sign, all_of}
use Rattle.df_ntree.specs.mirror.ExprReading.{Part, Parts, deeper, call_of, calls_of, called, parentheses_of, parentheses_by, arguments_by, next_arguments, atom_from, atom_by, primary_by}
use Rattle.df_ntree.proofs.Repeat.{Shrinks, Run, sound, all_of-step, bind_some, got, finish, found, pair, some_is, differ}
use Rattle.df_ntree.proofs.Tokens.{Begins-then, Begins-parts, kind_there, sign_true}
use Rattle.df_ntree.proofs.Readers.{ReadsAs, Any, sign_reads, before_reads, made_if_sound, made_if_complete, option_some, option_none, option_is_some, option_is_none, option_shrinks, sign_shows}
use Rattle.df_ntree.proofs.ExprTokens.{low_group, Continues, NoneContinues, Ends, operations_rank, tight_bars_none}
use Rattle.df_ntree.proofs.ExprLists.{IsPart, spell_part, part_reads, spell_parts, AreIn, Closing, none_closing, arguments_read, list_of, list_back, spelled_arguments, are_arguments, arguments_are, deepest_list}
use Rattle.df_ntree.proofs.ExprRows.{node_sound, node_complete, IsRead, Exact}

-- ---- arguments in parentheses

abbrev spell_call : Parts → List Piece
spell_call y = a_sign signs.OpenParenthesis ∷ (spell_parts y ++ a_sign signs.CloseParenthesis ∷ [])

abbrev in_parentheses : Reader Part → Reader Parts
in_parentheses inner = after_sign signs.OpenParenthesis (before_sign (arguments_by inner) signs.CloseParenthesis)

in_reads : (room : ℕ) (inner : Reader Part) → Exact room inner 0 → ReadsAs (in_parentheses inner) spell_call (AreIn room) Any
in_reads room inner x =
    sign_reads signs.OpenParenthesis (before_sign (arguments_by inner) signs.CloseParenthesis) (λ (y : Parts). spell_parts y ++ a_sign signs.CloseParenthesis ∷ []) (AreIn room) Any
    (before_reads signs.CloseParenthesis (arguments_by inner) spell_parts (AreIn room) Closing (arguments_read room inner x) (λ tokens rest starts. kind_there (kinds.Sign signs.CloseParenthesis) None [] tokens rest starts))

pub arguments_shrink : (room : ℕ) (inner : Reader Part) → Exact room inner 0 → Shrinks (next_arguments inner)
unfolding next_arguments
arguments_shrink room inner x = record { falls = (option_shrinks (sign_stands signs.OpenParenthesis) (in_parentheses inner) spell_call (AreIn room) Any (in_reads room inner x) (λ y is. omega arith)).falls }

-- what one call more has
abbrev One : ℕ → Parts → List Token → List Token → Type 0
One room y tokens rest = Begins (spell_call y) tokens rest × AreIn room y

abbrev End : List Token → List Token → Type 0
End tokens rest = (tokens ≡ rest) × (sign_stands signs.OpenParenthesis tokens ≡ false)

next_is : (room : ℕ) (inner : Reader Part) → Exact room inner 0 → (y : Parts) (tokens rest : List Token) → next_arguments inner tokens ≡ Some (Some y, rest) → One room y tokens rest
unfolding next_arguments
next_is room inner x y tokens rest e = (in_reads room inner x).sound y tokens rest (option_some (sign_stands signs.OpenParenthesis) (in_parentheses inner) y tokens rest e)

no_next : (inner : Reader Part) (tokens rest : List Token) → next_arguments inner tokens ≡ Some (None, rest) → End tokens rest
unfolding next_arguments
no_next inner tokens rest e = option_none (sign_stands signs.OpenParenthesis) (in_parentheses inner) tokens rest e

next_finds : (room : ℕ) (inner : Reader Part) → Exact room inner 0 → (y : Parts) (tokens rest : List Token) → One room y tokens rest → next_arguments inner tokens ≡ Some (Some y, rest)
unfolding next_arguments
next_finds room inner x y tokens rest one =
    option_is_some (sign_stands signs.OpenParenthesis) (in_parentheses inner) y tokens rest
    (sign_shows signs.OpenParenthesis (kinds.Sign signs.OpenParenthesis) None (spell_parts y ++ a_sign signs.CloseParenthesis ∷ []) tokens rest true refl one.0)
    ((in_reads room inner x).complete y tokens rest one.0 one.1 tt)

next_stops : (inner : Reader Part) (tokens : List Token) → sign_stands signs.OpenParenthesis tokens ≡ false → next_arguments inner tokens ≡ Some (None, tokens)
unfolding next_arguments
next_stops inner tokens h = option_is_none (sign_stands signs.OpenParenthesis) (in_parentheses inner) tokens h

-- ---- calls that are read

no_arguments : (tokens : List Token) → sign_stands signs.OpenParenthesis tokens ≡ false → Continues WithArguments tokens → ⊥
no_arguments tokens h k = let e : true ≡ false = sym (ap (kind_is_sign signs.OpenParenthesis) k) ∙ h in cc

primary_ends : (e : Expr) (tokens : List Token) → sign_stands signs.OpenParenthesis tokens ≡ false → Ends 8 e tokens
primary_ends e tokens h = record { stops = stops }
  where
    stops : (c : Continuation) → Continues c tokens → 8 ≤ rank (continued_level c) → IsBarred c e
    stops (WithOperator o) k l = let low = low_group (group_of o) in absurd (omega arith)
    stops WithType k l = absurd (omega arith)
    stops WithArguments k l = absurd (no_arguments tokens h k)

-- a callee and its arguments
spelled_call : (callee : Expr) (y : Parts) (tokens between rest : List Token) → Begins (spell callee) tokens between → Begins (spell_call y) between rest → Begins (spell (Call callee (arguments_of y.0))) tokens rest
spelled_call callee y tokens between rest b c =
    Begins-then (spell callee) (a_sign signs.OpenParenthesis ∷ (spell_arguments (arguments_of y.0) ++ a_sign signs.CloseParenthesis ∷ [])) tokens between rest b
    (subst (λ (ps : List Piece). Begins (a_sign signs.OpenParenthesis ∷ (ps ++ a_sign signs.CloseParenthesis ∷ [])) between rest) (spelled_arguments y.0) c)

calls_sound : (r : ℕ) (all : List Parts) (first : Part) (tokens between rest : List Token) → Begins (spell first.0) tokens between → IsExpr first.0 → 8 ≤ rank_of first.0 → first.1 ≡ height first.0 → first.1 ≤ suc r
    → Run (One r) End all between rest → (x : Part) → calls_of (suc r) first all ≡ Some x → IsRead 8 (suc r) x tokens rest
unfolding call_of
calls_sound r [] first tokens between rest b is t tall low run x e =
    subst (λ (z : Part). IsRead 8 (suc r) z tokens rest) (some_is first x e)
    (record { eats = subst (λ (ts : List Token). Begins (spell first.0) tokens ts) run.0 b; is = is; tight = t; tall = tall; low = low; ends = primary_ends first.0 rest (subst (λ (ts : List Token). sign_stands signs.OpenParenthesis ts ≡ false) run.0 run.1) })
calls_sound r (y ∷ all) first tokens between rest b is t tall low run x e =
    let p = bind_some (call_of (suc r) first y) (λ call. calls_of (suc r) call all) x e in
    let n = node_sound (suc r) (max first.1 y.1) (Call first.0 (arguments_of y.0)) p.0 p.1 in
    let a = are_arguments r y.0 run.1.1.0 in
    let here : p.0.1 ≡ max (height first.0) (deepest_argument (arguments_of y.0)) + 1 = n.tall ∙ ap (λ (h : ℕ). max h y.1 + 1) tall ∙ ap (λ (h : ℕ). max (height first.0) h + 1) (run.1.1.1 ∙ a.1) in
    calls_sound r all p.0 tokens run.0 rest
    (subst (λ (z : Expr). Begins (spell z) tokens run.0) n.tree (spelled_call first.0 y tokens between run.0 b run.1.0))
    (subst IsExpr n.tree (is, t, a.0))
    (subst (λ (z : Expr). 8 ≤ rank_of z) n.tree (omega arith))
    (subst (λ (z : Expr). p.0.1 ≡ height z) n.tree here)
    n.low run.2 x p.2

-- ---- atoms that are read

-- an atom, before its suffixes
record IsAtomRead (room : ℕ) (x : Part) (tokens rest : List Token) : Type 0 where
  eats : Begins (spell x.0) tokens rest
  is : IsExpr x.0
  tight : 8 ≤ rank_of x.0
  tall : x.1 ≡ height x.0
  low : x.1 ≤ room

single : (room : ℕ) (e : Expr) (t : Token) (tokens : List Token) (x : Part) (rest : List Token) → got (pair e 1) tokens ≡ Some (x, rest) → Begins (spell e) (t ∷ tokens) tokens → IsExpr e → 8 ≤ rank_of e → 1 ≡ height e → 1 ≤ room → IsAtomRead room x (t ∷ tokens) rest
single room e t tokens x rest r eats is tight tall low =
    finish (λ (y : Part) (ts : List Token). IsAtomRead room y (t ∷ tokens) ts) (e, 1) x tokens rest r (record { eats = eats; is = is; tight = tight; tall = tall; low = low })

inside_reads : (r : ℕ) (inner : Reader Part) → Exact r inner 0 → ReadsAs (before_sign inner signs.CloseParenthesis) (λ (y : Part). spell_part y ++ a_sign signs.CloseParenthesis ∷ []) (IsPart 0 r) Any
inside_reads r inner x =
    before_reads signs.CloseParenthesis inner spell_part (IsPart 0 r) NoneContinues (part_reads 0 r inner x) (λ tokens rest starts. none_closing tokens (kind_there (kinds.Sign signs.CloseParenthesis) None [] tokens rest starts))

parentheses_sound : (r : ℕ) (inner : Reader Part) → Exact r inner 0 → (t : Token) (tokens : List Token) → t.kind ≡ kinds.Sign signs.OpenParenthesis → (x : Part) (rest : List Token) → parentheses_by (suc r) inner t.pos tokens ≡ Some (x, rest) → IsAtomRead (suc r) x (t ∷ tokens) rest
unfolding parentheses_by parentheses_of
parentheses_sound r inner s t tokens k x rest e =
    let a = made_if_sound (parentheses_of (suc r) t.pos) (before_sign inner signs.CloseParenthesis) x tokens rest e in
    let n = node_sound (suc r) a.0.1 (Parentheses t.pos a.0.0) x a.2 in
    let i = (inside_reads r inner s).sound a.0 tokens rest a.1 in
    subst (λ (z : Expr). IsAtomRead (suc r) (z, x.1) (t ∷ tokens) rest) n.tree
    (record { eats = ((k, refl), i.0); is = i.1.0; tight = omega arith; tall = n.tall ∙ ap (λ (h : ℕ). h + 1) i.1.2; low = n.low })

atom_kind : (r : ℕ) (inner : Reader Part) → Exact r inner 0 → (t : Token) (kind : Kind) → t.kind ≡ kind → (tokens : List Token) (x : Part) (rest : List Token) → atom_from (suc r) inner kind t.pos tokens ≡ Some (x, rest) → IsAtomRead (suc r) x (t ∷ tokens) rest
atom_kind r inner s t (kinds.Number n) k tokens x rest e = single (suc r) (Number (record { negative = false; magnitude = n; pos = t.pos })) t tokens x rest e ((k, refl), refl) tt (omega arith) refl (omega arith)
atom_kind r inner s t (kinds.Character code) k tokens x rest e = single (suc r) (Character code t.pos) t tokens x rest e ((k, refl), refl) tt (omega arith) refl (omega arith)
atom_kind r inner s t (kinds.Name name) k tokens x rest e = single (suc r) (Name (record { name = name; pos = t.pos })) t tokens x rest e ((k, refl), refl) tt (omega arith) refl (omega arith)
atom_kind r inner s t (kinds.Word words.True) k tokens x rest e = single (suc r) (Truth true t.pos) t tokens x rest e ((k, refl), refl) tt (omega arith) refl (omega arith)
atom_kind r inner s t (kinds.Word words.False) k tokens x rest e = single (suc r) (Truth false t.pos) t tokens x rest e ((k, refl), refl) tt (omega arith) refl (omega arith)
atom_kind r inner s t (kinds.Sign signs.OpenParenthesis) k tokens x rest e = parentheses_sound r inner s t tokens k x rest e
atom_kind r inner s t _ k tokens x rest e = absurd (differ (pair x rest) e)

atom_reads : (r : ℕ) (inner : Reader Part) → Exact r inner 0 → (tokens : List Token) (x : Part) (rest : List Token) → atom_by (suc r) inner tokens ≡ Some (x, rest) → IsAtomRead (suc r) x tokens rest
unfolding atom_by
atom_reads r inner s [] x rest e = absurd (differ (pair x rest) e)
atom_reads r inner s (t ∷ tokens) x rest e = atom_kind r inner s t t.kind refl tokens x rest e

primary_reads : (r : ℕ) (inner : Reader Part) → Exact r inner 0 → (tokens : List Token) (x : Part) (rest : List Token) → primary_by (suc r) inner tokens ≡ Some (x, rest) → IsRead 8 (suc r) x tokens rest
unfolding primary_by
primary_reads r inner s tokens x rest e =
    let a = bind_some (atom_by (suc r) inner tokens) (λ y. called (suc r) y.0 (all_of (next_arguments inner) y.1)) (x, rest) e in
    let b = bind_some (all_of (next_arguments inner) a.0.1) (λ all. calls_of (suc r) a.0.0 all.0 >>= λ y. got y all.1) (x, rest) a.2 in
    let c = bind_some (calls_of (suc r) a.0.0 b.0.0) (λ y. got y b.0.1) (x, rest) b.2 in
    let i = atom_reads r inner s tokens a.0.0 a.0.1 a.1 in
    let run = sound (next_arguments inner) (One r) End (λ y ts us h. next_is r inner s y ts us h) (λ ts us h. no_next inner ts us h) a.0.1 b.0.0 b.0.1 b.1 in
    finish (λ (y : Part) (ts : List Token). IsRead 8 (suc r) y tokens ts) c.0 x b.0.1 rest c.2 (calls_sound r b.0.0 a.0.0 tokens a.0.1 b.0.1 i.eats i.is i.tight i.tall i.low run c.0 c.1)

-- ---- what is spelled

-- what is found after an expression that is read
abbrev Going : ℕ → Reader Part → Expr → List Token → Type 0
Going r inner e tokens = (between : List Token) → Begins (spell e) tokens between → primary_by (suc r) inner tokens ≡ called (suc r) (e, height e) (all_of (next_arguments inner) between)

from_atom : (r : ℕ) (inner : Reader Part) (e : Expr) (h : ℕ) (tokens between : List Token) → atom_by (suc r) inner tokens ≡ Some ((e, h), between) → primary_by (suc r) inner tokens ≡ called (suc r) (e, h) (all_of (next_arguments inner) between)
unfolding primary_by
from_atom r inner e h tokens between k = ap (λ (o : Option (Part × List Token)). o >>= λ y. called (suc r) y.0 (all_of (next_arguments inner) y.1)) k

-- a first token of this kind and place
first_is : (r : ℕ) (inner : Reader Part) (t : Token) (tokens : List Token) (kind : Kind) (pos : Pos) → t.kind ≡ kind → t.pos ≡ pos → atom_by (suc r) inner (t ∷ tokens) ≡ atom_from (suc r) inner kind pos tokens
unfolding atom_by
first_is r inner t tokens kind pos k p = ap (λ (x : Kind). atom_from (suc r) inner x t.pos tokens) k ∙ ap (λ (x : Pos). atom_from (suc r) inner kind x tokens) p

number_atom : (r : ℕ) (inner : Reader Part) (negative : Bool) (n : ℕ) (pos : Pos) → 8 ≤ rank_of_number negative → (tokens rest : List Token) → Begins (spell (Number (record { negative = negative; magnitude = n; pos = pos }))) tokens rest
    → atom_by (suc r) inner tokens ≡ Some ((Number (record { negative = negative; magnitude = n; pos = pos }), if_negative negative), rest)
number_atom r inner true n pos t tokens rest b = absurd (omega arith)
number_atom r inner false n pos t [] rest b = absurd b
number_atom r inner false n pos t (x ∷ tokens) rest b = first_is r inner x tokens (kinds.Number n) pos b.0.0 b.0.1 ∙ ap (λ (ts : List Token). got (pair (Number (record { negative = false; magnitude = n; pos = pos })) 1) ts) b.1

truth_atom : (r : ℕ) (inner : Reader Part) (value : Bool) (pos : Pos) (x : Token) (tokens rest : List Token) → Begins (spell (Truth value pos)) (x ∷ tokens) rest → atom_by (suc r) inner (x ∷ tokens) ≡ Some ((Truth value pos, 1), rest)
truth_atom r inner true pos x tokens rest b = first_is r inner x tokens (kinds.Word words.True) pos b.0.0 b.0.1 ∙ ap (λ (ts : List Token). got (pair (Truth true pos) 1) ts) b.1
truth_atom r inner false pos x tokens rest b = first_is r inner x tokens (kinds.Word words.False) pos b.0.0 b.0.1 ∙ ap (λ (ts : List Token). got (pair (Truth false pos) 1) ts) b.1

parentheses_find : (r : ℕ) (inner : Reader Part) → Exact r inner 0 → (pos : Pos) (e : Expr) (tokens rest : List Token) → Begins (spell e ++ a_sign signs.CloseParenthesis ∷ []) tokens rest → IsExpr e → height e + 1 ≤ suc r → parentheses_by (suc r) inner pos tokens ≡ Some ((Parentheses pos e, height e + 1), rest)
unfolding parentheses_by parentheses_of
parentheses_find r inner x pos e tokens rest b is low =
    made_if_complete (parentheses_of (suc r) pos) (before_sign inner signs.CloseParenthesis) (e, height e) (Parentheses pos e, height e + 1) tokens rest
    ((inside_reads r inner x).complete (e, height e) tokens rest b (is, omega arith, refl, omega arith) tt) (node_complete (suc r) (height e) (Parentheses pos e) low)

-- one call more
pub called_more : (room : ℕ) (x y : Part) (a : Parts) (others : Option (List Parts × List Token)) → call_of room x a ≡ Some y → called room x (others >>= λ more. Some (a ∷ more.0, more.1)) ≡ called room y others
called_more room x y a None h = refl
called_more room x y a (Some all) h = ap (λ (o : Option Part). (o >>= λ call. calls_of room call all.0) >>= λ z. got z all.1) h

call_made : (r : ℕ) (callee : Expr) (m : Arguments) → max (height callee) (deepest_argument m) + 1 ≤ suc r → call_of (suc r) (callee, height callee) (list_of m, deepest_of height (list_of m)) ≡ Some (Call callee m, height (Call callee m))
unfolding call_of
call_made r callee m low =
    ap (λ (h : ℕ). deeper (suc r) (max (height callee) h) >>= λ k. found (pair (Call callee (arguments_of (list_of m))) k)) (deepest_list m)
    ∙ ap (λ (z : Arguments). deeper (suc r) (max (height callee) (deepest_argument m)) >>= λ k. found (pair (Call callee z) k)) (list_back m)
    ∙ node_complete (suc r) (max (height callee) (deepest_argument m)) (Call callee m) low

call_there : (r : ℕ) (m : Arguments) (tokens rest : List Token) → Begins (a_sign signs.OpenParenthesis ∷ (spell_arguments m ++ a_sign signs.CloseParenthesis ∷ [])) tokens rest → Begins (spell_call (list_of m, deepest_of height (list_of m))) tokens rest
call_there r m tokens rest b =
    let same : spell_arguments m ≡ spell_parts (list_of m, deepest_of height (list_of m)) = ap spell_arguments (sym (list_back m)) ∙ sym (spelled_arguments (list_of m)) in
    subst (λ (ps : List Piece). Begins (a_sign signs.OpenParenthesis ∷ (ps ++ a_sign signs.CloseParenthesis ∷ [])) tokens rest) same b

call_goes : (r : ℕ) (inner : Reader Part) → Exact r inner 0 → (callee : Expr) (m : Arguments) (tokens between rest : List Token) → primary_by (suc r) inner tokens ≡ called (suc r) (callee, height callee) (all_of (next_arguments inner) between)
    → Begins (a_sign signs.OpenParenthesis ∷ (spell_arguments m ++ a_sign signs.CloseParenthesis ∷ [])) between rest → IsExpr (Call callee m) → height (Call callee m) ≤ suc r
    → primary_by (suc r) inner tokens ≡ called (suc r) (Call callee m, height (Call callee m)) (all_of (next_arguments inner) rest)
call_goes r inner x callee m tokens between rest so_far b is low =
    let y : Parts = (list_of m, deepest_of height (list_of m)) in
    let one = next_finds r inner x y between rest (call_there r m between rest b, (arguments_are r m is.2 (omega arith), refl)) in
    let step : all_of (next_arguments inner) between ≡ (all_of (next_arguments inner) rest >>= λ more. Some (y ∷ more.0, more.1)) =
    all_of-step (next_arguments inner) (arguments_shrink r inner x) between ∙ ap (λ (o : Option (Option Parts × List Token)). o >>= in_front (all_of (next_arguments inner))) one in
    so_far ∙ ap (called (suc r) (callee, height callee)) step ∙ called_more (suc r) (callee, height callee) (Call callee m, height (Call callee m)) y (all_of (next_arguments inner) rest) (call_made r callee m low)

goes : (r : ℕ) (inner : Reader Part) → Exact r inner 0 → (e : Expr) (tokens rest : List Token) → Begins (spell e) tokens rest → IsExpr e → 8 ≤ rank_of e → height e ≤ suc r → primary_by (suc r) inner tokens ≡ called (suc r) (e, height e) (all_of (next_arguments inner) rest)
goes r inner x (Number literal) tokens rest b is t low = from_atom r inner (Number literal) (if_negative literal.negative) tokens rest (number_atom r inner literal.negative literal.magnitude literal.pos t tokens rest b)
goes r inner x (Character code pos) [] rest b is t low = absurd b
goes r inner x (Character code pos) (u ∷ tokens) rest b is t low =
    from_atom r inner (Character code pos) 1 (u ∷ tokens) rest (first_is r inner u tokens (kinds.Character code) pos b.0.0 b.0.1 ∙ ap (λ (ts : List Token). got (pair (Character code pos) 1) ts) b.1)
goes r inner x (Truth value pos) [] rest b is t low = absurd b
goes r inner x (Truth value pos) (u ∷ tokens) rest b is t low = from_atom r inner (Truth value pos) 1 (u ∷ tokens) rest (truth_atom r inner value pos u tokens rest b)
goes r inner x (Name ident) [] rest b is t low = absurd b
goes r inner x (Name ident) (u ∷ tokens) rest b is t low =
    from_atom r inner (Name ident) 1 (u ∷ tokens) rest (first_is r inner u tokens (kinds.Name ident.name) ident.pos b.0.0 b.0.1 ∙ ap (λ (ts : List Token). got (pair (Name ident) 1) ts) b.1)
goes r inner x (Parentheses pos e) [] rest b is t low = absurd b
goes r inner x (Parentheses pos e) (u ∷ tokens) rest b is t low =
    from_atom r inner (Parentheses pos e) (height e + 1) (u ∷ tokens) rest (first_is r inner u tokens (kinds.Sign signs.OpenParenthesis) pos b.0.0 b.0.1 ∙ parentheses_find r inner x pos e tokens rest b.1 is low)
goes r inner x (Call callee m) tokens rest b is t low =
    let p = Begins-parts (spell callee) (a_sign signs.OpenParenthesis ∷ (spell_arguments m ++ a_sign signs.CloseParenthesis ∷ [])) tokens rest b in
    call_goes r inner x callee m tokens p.between rest (goes r inner x callee tokens p.between p.first is.0 is.1 (omega arith)) p.second is low
goes r inner x (Unary o pos e) tokens rest b is t low = absurd (omega arith)
goes r inner x (Cast e all) tokens rest b is t low = absurd (omega arith)
goes r inner x (Operations first m) tokens rest b is t low = let l = operations_rank first m is in absurd (omega arith)
goes r inner x (Leading m) tokens rest b is t low = absurd (omega arith)

stops_by : (t : Token) (b : Bool) → is_sign signs.OpenParenthesis t.kind ≡ b → (t.kind ≡ kinds.Sign signs.OpenParenthesis → ⊥) → b ≡ false
stops_by t true e h = absurd (h (sign_true signs.OpenParenthesis t.kind e))
stops_by t false e h = refl

arguments_stop : (tokens : List Token) → (Continues WithArguments tokens → ⊥) → sign_stands signs.OpenParenthesis tokens ≡ false
arguments_stop [] h = refl
arguments_stop (t ∷ tokens) h = stops_by t (sign_stands signs.OpenParenthesis (t ∷ tokens)) refl (λ e. h (ap (λ (k : Kind). found k) e))

none_more : (r : ℕ) (inner : Reader Part) → Exact r inner 0 → (rest : List Token) → sign_stands signs.OpenParenthesis rest ≡ false → all_of (next_arguments inner) rest ≡ Some ([], rest)
none_more r inner x rest h = all_of-step (next_arguments inner) (arguments_shrink r inner x) rest ∙ ap (λ (o : Option (Option Parts × List Token)). o >>= in_front (all_of (next_arguments inner))) (next_stops inner rest h)

primary_finds : (r : ℕ) (inner : Reader Part) → Exact r inner 0 → (e : Expr) (tokens rest : List Token) → Begins (spell e) tokens rest → IsExpr e → 8 ≤ rank_of e → height e ≤ suc r → Ends 8 e rest → primary_by (suc r) inner tokens ≡ Some ((e, height e), rest)
primary_finds r inner x e tokens rest b is t low h =
    let stop = arguments_stop rest (λ k. tight_bars_none WithArguments e is (omega arith) (h.stops WithArguments k (omega arith))) in
    goes r inner x e tokens rest b is t low ∙ ap (called (suc r) (e, height e)) (none_more r inner x rest stop)

pub primary_exact : (r : ℕ) (inner : Reader Part) → Exact r inner 0 → Exact (suc r) (primary_by (suc r) inner) 8
primary_exact r inner x = record {
  sound = record { reads = primary_reads r inner x };
  complete = record { finds = primary_finds r inner x };
}
