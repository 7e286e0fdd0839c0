-- Which trees the grammar has, and which tokens they spell.
use Rattle.std.specs.Prelude.{◌≡◌, ℕ, suc, ◌==◌, Bool, true, false, ◌&&◌, ◌||◌, ◌+◌, max, List, [], ◌∷◌, ◌++◌, map, length, drop, nat_lt, ◌-◌, if◌then◌else◌, Option, Some, None, slice_get, ◌⊎◌, ◌≤◌}
use Rattle.std.specs.Option.{option_map_or}
use Rattle.std.specs.List.{list_any, find}
use Rattle.df_tok.specs.Token.{Token}
use Rattle.df_tree.specs.Terminal.{terminal}
use Rattle.df_tree.specs.declared.label.Way.TheVariants.{Pass}
use Rattle.df_tree.specs.declared.production.Counting.{Counting}
use Rattle.df_tree.specs.declared.production.Counting.TheVariants.{Never, Always, IfMore, Each}
use Rattle.df_tree.specs.declared.production.Form.{Form}
use Rattle.df_tree.specs.declared.production.Form.TheVariants.{All, One, Many}
use Rattle.df_tree.specs.declared.production.Part.{Part}
use Rattle.df_tree.specs.declared.production.Part.TheVariants.{Terminal, Nonterminal}
use Rattle.df_tree.specs.declared.table.TheConstants.{DECLARATION_ROWS, STATEMENT_ROWS, EXPRESSION_ROWS, FIRST_STATEMENT, FIRST_EXPRESSION}
use Rattle.df_tree.specs.declared.class.TheConstants.{CLASSES, FIRST_CLASS, NONE}
use Rattle.df_tree.specs.Tree.{Tree, Leaf, Node, Trees, none, more, leaves, leaves_all}
use Rattle.df_tree.specs.Row.{Row, entry}

-- ---- the productions

-- of files, declarations, clauses and types
unfoldable pub declarations : List Row
declarations = map entry DECLARATION_ROWS.now

-- of blocks and statements
unfoldable pub statements : List Row
statements = map entry STATEMENT_ROWS.now

-- of expressions and patterns
unfoldable pub expressions : List Row
expressions = map entry EXPRESSION_ROWS.now

unfoldable pub classes : List (List ℕ)
classes = map (λ c. c.now) CLASSES.now

-- the terminals of a class; a number below the first class is a terminal
unfoldable pub kinds_of : ℕ → List ℕ
kinds_of c = if nat_lt c FIRST_CLASS then c ∷ [] else option_map_or (λ kinds. kinds) (slice_get classes (c - FIRST_CLASS)) []

-- what has no tree
abbrev pub nothing : Row
nothing = record { form = One; way = Pass; parts = []; empty = false; greedy = false; narrow = false; first = NONE; second = NONE; follow = NONE; counting = Never; rank = 0 }

abbrev pub entry_in : List Row → ℕ → Row
entry_in rows number = option_map_or (λ r. r) (slice_get rows number) nothing

-- the production of a number
unfoldable pub row : ℕ → Row
row n =
    if nat_lt n FIRST_STATEMENT then entry_in declarations n
    else (if nat_lt n FIRST_EXPRESSION then entry_in statements (n - FIRST_STATEMENT)
    else entry_in expressions (n - FIRST_EXPRESSION))

abbrev pub part_of : Tree → Part
part_of (Leaf x) = Terminal (terminal x)
part_of (Node n ts) = Nonterminal n

abbrev pub IsAmong : Part → List Part → Type 0
IsAmong p [] = ⊥
IsAmong p (q ∷ qs) = (q ≡ p) ⊎ IsAmong p qs

-- the tree behind k others may be of this part
abbrev pub May : Form → List Part → ℕ → Part → Type 0
May All parts k p = slice_get parts k ≡ Some p
May One parts k p = (k ≡ 0) × IsAmong p parts
May Many parts k p = IsAmong p parts

-- there may be no more than k trees
abbrev pub MayEnd : Form → Row → ℕ → Type 0
MayEnd All r k = length r.parts ≡ k
MayEnd One r k = k ≡ 0 → r.empty ≡ true
MayEnd Many r k = Unit {0}

abbrev mutual
  -- Each node is as its production says.
  pub IsTree : Tree → Type 0
  IsTree (Leaf x) = Unit {0}
  IsTree (Node n ts) = Are (row n) 0 ts

  pub Are : Row → ℕ → Trees → Type 0
  Are r k none = MayEnd r.form r k
  Are r k (more t ts) = May r.form r.parts k (part_of t) × IsTree t × Are r (suc k) ts

-- ---- where productions begin and end

abbrev pub is_in : ℕ → List ℕ → Bool
is_in kind kinds = list_any (λ k. k == kind) kinds

-- what the first token is
abbrev pub first_terminal : List Token → Option ℕ
first_terminal [] = None
first_terminal (x ∷ xs) = Some (terminal x)

-- It is of one of the kinds.
abbrev pub first_in : List ℕ → List Token → Bool
first_in kinds tokens = option_map_or (λ kind. is_in kind kinds) (first_terminal tokens) false

abbrev pub is_nil : List ℕ → Bool
is_nil [] = true
is_nil (kind ∷ kinds) = false

-- So is the second, where that counts.
abbrev pub second_in : List ℕ → List Token → Bool
second_in kinds tokens = is_nil kinds || first_in kinds (drop 1 tokens)

abbrev pub begins : Row → List Token → Bool
begins r tokens = first_in (kinds_of r.first) tokens && second_in (kinds_of r.second) tokens

abbrev pub begins_part : Part → List Token → Bool
begins_part (Terminal kind) tokens = first_in (kind ∷ []) tokens
begins_part (Nonterminal n) tokens = begins (row n) tokens

-- the part that begins here
abbrev pub chosen : List Part → List Token → Option Part
chosen parts tokens = find (λ p. begins_part p tokens) parts

-- a further tree may stand behind k others, or none
abbrev pub is_open : Form → ℕ → Bool
is_open All k = false
is_open One k = k == 0
is_open Many k = true

-- None of the parts begins where the trees end.
abbrev pub Stops : Row → ℕ → List Token → Type 0
Stops r k behind = is_open r.form k ≡ true → chosen r.parts behind ≡ None

abbrev mutual
  -- what settles where productions of the mark end, with these tokens behind the tree
  pub IsSettled : (Row → Bool) → Tree → List Token → Type 0
  IsSettled mark (Leaf x) behind = Unit {0}
  IsSettled mark (Node n ts) behind = ((row n).narrow ≡ true → begins (row n) (leaves_all ts ++ behind) ≡ true) × AreSettled mark (row n) 0 ts behind

  pub AreSettled : (Row → Bool) → Row → ℕ → Trees → List Token → Type 0
  AreSettled mark r k none behind = mark r ≡ true → Stops r k behind
  AreSettled mark r k (more t ts) behind = IsSettled mark t (leaves_all ts ++ behind) × AreSettled mark r (suc k) ts behind

-- ---- the height

-- how many expressions, types, patterns, statements and blocks may stand inside one another
abbrev pub height_limit : ℕ
height_limit = 200

-- A height over the limit counts as one more than it.
abbrev pub one_more : ℕ → ℕ
one_more height = if nat_lt height height_limit then height + 1 else height_limit + 1

abbrev pub is_some : Trees → Bool
is_some none = false
is_some (more t ts) = true

abbrev pub is_filled : Tree → Bool
is_filled (Leaf x) = true
is_filled (Node n ts) = is_some ts

-- The second tree has trees.
abbrev pub has_more : Trees → Bool
has_more none = false
has_more (more t none) = false
has_more (more t (more u ts)) = is_filled u

-- the height with what stands before it: of its trees inside, and of them each over those before
abbrev pub counted : Counting → ℕ → ℕ → ℕ → Bool → ℕ
counted Never before inside each filled = max before inside
counted Always before inside each filled = max before (one_more inside)
counted IfMore before inside each filled = max before (if filled then one_more inside else inside)
counted Each before inside each filled = each

abbrev mutual
  -- the height of a tree and of what stands before it: a suffix counts over the primary before it
  pub height_over : ℕ → Tree → ℕ
  height_over before (Leaf x) = before
  height_over before (Node n ts) = counted (row n).counting before (all_over 0 ts) (each_over before ts) (has_more ts)

  pub all_over : ℕ → Trees → ℕ
  all_over before none = before
  all_over before (more t ts) = all_over (height_over before t) ts

  pub each_over : ℕ → Trees → ℕ
  each_over before none = before
  each_over before (more t ts) = each_over (one_more (max before (height_over 0 t))) ts

abbrev pub height : Tree → ℕ
height t = height_over 0 t

-- The tree of this production spells the tokens.
pub record IsTreeOf (n : ℕ) (tokens : List Token) (t : Tree) : Type 0 where
  pub starts : part_of t ≡ Nonterminal n
  pub right : IsTree t
  pub spelled : leaves t ≡ tokens
  -- A greedy production ends only where none of its parts begins.
  pub settled : IsSettled (λ r. r.greedy) t []
  pub low : height t ≤ height_limit

-- The tree of this production spells the tokens from one number to before another, and the token there does not
-- continue it: each of its productions ends only where none of its parts begins.
pub record IsPartAt (n : ℕ) (tokens : List Token) (start after : ℕ) (t : Tree) : Type 0 where
  pub starts : part_of t ≡ Nonterminal n
  pub right : IsTree t
  pub place : after ≡ start + length (leaves t)
  pub spelled : leaves t ++ drop after tokens ≡ drop start tokens
  pub settled : IsSettled (λ r. true) t (drop after tokens)
  pub low : height t ≤ height_limit
