-- Lists of expressions: what is read is spelled so, and what is spelled so is read.
use Rattle.std.proofs.Common.{◌≡◌, ◌≢◌, ℕ, ◌≤◌, max, Bool, true, false, cond, not, List, [], ◌∷◌, ◌++◌, map, Option, Some, None, refl, sym, ap, subst, ◌∙◌, arith}
use Rattle.std.specs.List.{AllByRecursion, flat_map}
use Rattle.std.proofs.lemmas.List.Concat.{flat_map-cons}
use Rattle.df_tok.specs.declared.sign.Sign.TheVariants as signs
use Rattle.df_tok.specs.declared.token.Kind.{Kind}
use Rattle.df_tok.specs.declared.token.Kind.TheVariants as kinds
use Rattle.df_tok.specs.Token.{Token}
use Rattle.df_ntree.specs.Spelling.{Piece, Begins, a_sign, spell_more, separated, AreSome}
use Rattle.df_ntree.specs.Expr.{Expr, Arguments, no_more, argument, arguments_of}
use Rattle.df_ntree.specs.ExprSpelling.{spell, spell_arguments, spell_further, rank_of, IsExpr, AreArguments, height, deepest_of, deepest_argument}
use Rattle.df_ntree.specs.mirror.Reading.{Reader, kind_at, kind_is_sign, sign_stands, is_open, one_or_more}
use Rattle.df_ntree.specs.mirror.ExprReading.{Part, Parts, operator_of, highest, expressions_by, arguments_by}
use Rattle.df_ntree.proofs.Repeat.{got, finish, pair}
use Rattle.df_ntree.proofs.Tokens.{Begins-parts, kind_there}
use Rattle.df_ntree.proofs.Readers.{ReadsAs, NotThen, BeforeComma, made_reads, one_or_more_reads}
use Rattle.df_ntree.proofs.ExprTokens.{NoneContinues, none_by, none_ends}
use Rattle.df_ntree.proofs.ExprFirst.{no_parenthesis_closes}
use Rattle.df_ntree.proofs.ExprRows.{Exact}

-- ---- one

-- an expression of this rank and its height, within the room
abbrev pub IsPart : ℕ → ℕ → Part → Type 0
IsPart n room x = IsExpr x.0 × (n ≤ rank_of x.0) × (x.1 ≡ height x.0) × (x.1 ≤ room)

abbrev pub spell_part : Part → List Piece
spell_part x = spell x.0

pub part_reads : (n room : ℕ) (read : Reader Part) → Exact room read n → ReadsAs read spell_part (IsPart n room) NoneContinues
part_reads n room read x = record {
  sound = λ y tokens rest e. let r = x.sound.reads tokens y rest e in (r.eats, (r.is, r.tight, r.tall, r.low));
  complete = λ y tokens rest starts is after.
      let low : height y.0 ≤ room = subst (λ (h : ℕ). h ≤ room) is.2 is.3 in
      x.complete.finds y.0 tokens rest starts is.0 is.1 low (none_ends n y.0 rest after) ∙ ap (λ (h : ℕ). got (pair y.0 h) rest) (sym is.2);
}

-- ---- at least one

-- an expression of this rank, within the room
abbrev pub IsLow : ℕ → ℕ → Expr → Type 0
IsLow n room e = (IsExpr e × (n ≤ rank_of e)) × (height e ≤ room)

abbrev pub AreLow : ℕ → ℕ → Parts → Type 0
AreLow n room y = AreSome (IsLow n room) y.0 × (y.1 ≡ deepest_of height y.0)

abbrev trees : List Part → List Expr
trees xs = map (λ (x : Part). x.0) xs

with_heights : List Expr → List Part
with_heights [] = []
with_heights (e ∷ es) = (e, height e) ∷ with_heights es

trees_back : (es : List Expr) → trees (with_heights es) ≡ es
unfolding with_heights
trees_back [] = refl
trees_back (e ∷ es) = ap (λ (l : List Expr). e ∷ l) (trees_back es)

highest_back : (es : List Expr) → highest (with_heights es) ≡ deepest_of height es
unfolding with_heights
highest_back [] = refl
highest_back (e ∷ es) = ap (max (height e)) (highest_back es)

spelled_more : (xs : List Part) → flat_map (spell_more spell_part) xs ≡ flat_map (spell_more spell) (trees xs)
spelled_more [] = refl
spelled_more (x ∷ xs) = flat_map-cons (spell_more spell_part) x xs ∙ ap (λ (ps : List Piece). spell_more spell x.0 ++ ps) (spelled_more xs) ∙ sym (flat_map-cons (spell_more spell) x.0 (trees xs))

spelled : (xs : List Part) → separated spell_part xs ≡ separated spell (trees xs)
spelled [] = refl
spelled (x ∷ xs) = ap (λ (ps : List Piece). spell x.0 ++ ps) (spelled_more xs)

lows : (n room : ℕ) (xs : List Part) → AllByRecursion (IsPart n room) xs → AllByRecursion (IsLow n room) (trees xs) × (highest xs ≡ deepest_of height (trees xs))
lows n room [] are = (tt, refl)
lows n room (x ∷ xs) are =
    let m = lows n room xs are.1 in
    ((((are.0.0, are.0.1), subst (λ (h : ℕ). h ≤ room) are.0.2 are.0.3), m.0), ap (λ (h : ℕ). max h (highest xs)) are.0.2 ∙ ap (max (height x.0)) m.1)

parts_from : (n room : ℕ) (es : List Expr) → AllByRecursion (IsLow n room) es → AllByRecursion (IsPart n room) (with_heights es)
unfolding with_heights
parts_from n room [] are = tt
parts_from n room (e ∷ es) are = ((are.0.0.0, are.0.0.1, refl, are.0.1), parts_from n room es are.1)

some_trees : (xs : List Part) → xs ≢ [] → trees xs ≢ []
some_trees [] h = λ e. h refl
some_trees (x ∷ xs) h = λ e. cc

some_back : (es : List Expr) → es ≢ [] → with_heights es ≢ []
unfolding with_heights
some_back [] h = λ e. h refl
some_back (e ∷ es) h = λ e. cc

none_before_comma : BeforeComma NoneContinues
unfolding operator_of
none_before_comma others tokens rest starts = none_by (kinds.Sign signs.Comma) tokens refl (kind_there (kinds.Sign signs.Comma) None others tokens rest starts)

abbrev pub spell_parts : Parts → List Piece
spell_parts y = separated spell y.0

abbrev pub AfterParts : List Token → Type 0
AfterParts = NotThen (sign_stands signs.Comma) NoneContinues

pub parts_read : (n room : ℕ) (read : Reader Part) → Exact room read n → ReadsAs (expressions_by read) spell_parts (AreLow n room) AfterParts
unfolding expressions_by
parts_read n room read x =
    made_reads (λ (xs : List Part). pair (trees xs) (highest xs)) (λ (y : Parts). with_heights y.0) (one_or_more read) (separated spell_part) (AreSome (IsPart n room)) AfterParts spell_parts (AreLow n room)
    (one_or_more_reads read spell_part (IsPart n room) NoneContinues (part_reads n room read x) none_before_comma)
    (λ xs tokens rest starts are.
    let m = lows n room xs are.1 in
    (subst (λ (ps : List Piece). Begins ps tokens rest) (spelled xs) starts, ((some_trees xs are.0, m.0), m.1)))
    (λ y tokens rest starts are.
    let same : separated spell y.0 ≡ separated spell_part (with_heights y.0) = ap (separated spell) (sym (trees_back y.0)) ∙ sym (spelled (with_heights y.0)) in
    (subst (λ (ps : List Piece). Begins ps tokens rest) same starts, (some_back y.0 are.0.0, parts_from n room y.0 are.0.1)))
    (λ y are. ap (λ (es : List Expr). pair es (highest (with_heights y.0))) (trees_back y.0) ∙ ap (λ (h : ℕ). pair y.0 h) (highest_back y.0 ∙ sym are.1))

-- ---- arguments

abbrev pub AreIn : ℕ → Parts → Type 0
AreIn room y = AllByRecursion (IsLow 0 room) y.0 × (y.1 ≡ deepest_of height y.0)

-- a parenthesis closes there
abbrev pub Closing : List Token → Type 0
Closing tokens = kind_at tokens ≡ Some (kinds.Sign signs.CloseParenthesis)

pub none_closing : (tokens : List Token) → Closing tokens → NoneContinues tokens
unfolding operator_of
none_closing tokens h = none_by (kinds.Sign signs.CloseParenthesis) tokens refl h

arguments_finds : (room : ℕ) (inner : Reader Part) → Exact room inner 0 → (es : List Expr) (h : ℕ) (tokens rest : List Token) → Begins (separated spell es) tokens rest → AllByRecursion (IsLow 0 room) es → h ≡ deepest_of height es → Closing rest → arguments_by inner tokens ≡ Some ((es, h), rest)
unfolding arguments_by
arguments_finds room inner x [] h tokens rest starts are e after =
    let closed : is_open signs.CloseParenthesis tokens ≡ false = ap (λ (ts : List Token). is_open signs.CloseParenthesis ts) starts ∙ ap (λ (k : Option Kind). not (kind_is_sign signs.CloseParenthesis k)) after in
    ap (λ (b : Bool). cond b (expressions_by inner tokens) (got (pair [] 0) tokens)) closed ∙ ap (λ (ts : List Token). got {X = Parts} (pair [] 0) ts) starts ∙ ap (λ (n : ℕ). got {X = Parts} (pair [] n) rest) (sym e)
arguments_finds room inner x (f ∷ es) h tokens rest starts are e after =
    let p = Begins-parts (spell f) (flat_map (spell_more spell) es) tokens rest starts in
    ap (λ (b : Bool). cond b (expressions_by inner tokens) (got (pair [] 0) tokens)) (no_parenthesis_closes f tokens p.between are.0.0.0 p.first)
    ∙ (parts_read 0 room inner x).complete (f ∷ es, h) tokens rest starts (((λ z. cc), are), e) (ap (kind_is_sign signs.Comma) after, none_closing rest after)

arguments_sound_by : (room : ℕ) (inner : Reader Part) → Exact room inner 0 → (b : Bool) (y : Parts) (tokens rest : List Token) → cond b (expressions_by inner tokens) (got (pair [] 0) tokens) ≡ Some (y, rest) → Begins (spell_parts y) tokens rest × AreIn room y
arguments_sound_by room inner x true y tokens rest e = let s = (parts_read 0 room inner x).sound y tokens rest e in (s.0, (s.1.0.1, s.1.1))
arguments_sound_by room inner x false y tokens rest e = finish (λ (z : Parts) (ts : List Token). Begins (spell_parts z) tokens ts × AreIn room z) (pair [] 0) y tokens rest e (refl, (tt, refl))

pub arguments_read : (room : ℕ) (inner : Reader Part) → Exact room inner 0 → ReadsAs (arguments_by inner) spell_parts (AreIn room) Closing
unfolding arguments_by
arguments_read room inner x = record {
  sound = λ y tokens rest e. arguments_sound_by room inner x (is_open signs.CloseParenthesis tokens) y tokens rest e;
  complete = λ y tokens rest starts are after. arguments_finds room inner x y.0 y.1 tokens rest starts are.0 are.1 after;
}

-- ---- arguments as the tree has them

pub list_of : Arguments → List Expr
list_of no_more = []
list_of (argument e rest) = e ∷ list_of rest

pub list_back : (m : Arguments) → arguments_of (list_of m) ≡ m
unfolding list_of
list_back no_more = refl
list_back (argument e rest) = ap (argument e) (list_back rest)

spelled_further : (es : List Expr) → flat_map (spell_more spell) es ≡ spell_further (arguments_of es)
spelled_further [] = refl
spelled_further (e ∷ es) = flat_map-cons (spell_more spell) e es ∙ ap (λ (ps : List Piece). (a_sign signs.Comma ∷ spell e) ++ ps) (spelled_further es)

pub spelled_arguments : (es : List Expr) → separated spell es ≡ spell_arguments (arguments_of es)
spelled_arguments [] = refl
spelled_arguments (e ∷ es) = ap (λ (ps : List Piece). spell e ++ ps) (spelled_further es)

pub are_arguments : (room : ℕ) (es : List Expr) → AllByRecursion (IsLow 0 room) es → AreArguments (arguments_of es) × (deepest_of height es ≡ deepest_argument (arguments_of es))
are_arguments room [] are = (tt, refl)
are_arguments room (e ∷ es) are = let m = are_arguments room es are.1 in ((are.0.0.0, m.0), ap (max (height e)) m.1)

pub arguments_are : (room : ℕ) (m : Arguments) → AreArguments m → deepest_argument m ≤ room → AllByRecursion (IsLow 0 room) (list_of m)
unfolding list_of
arguments_are room no_more are low = tt
arguments_are room (argument e rest) are low = (((are.0, omega arith), omega arith), arguments_are room rest are.1 (omega arith))

pub deepest_list : (m : Arguments) → deepest_of height (list_of m) ≡ deepest_argument m
unfolding list_of
deepest_list no_more = refl
deepest_list (argument e rest) = ap (max (height e)) (deepest_list rest)
