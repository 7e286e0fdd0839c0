-- What the columns of a production have to be, for those of its parts.
use Rattle.std.proofs.Common.{◌≡◌, ℕ, zero, suc, ◌+◌, nat_lt, Bool, true, false, not, ◌&&◌, ◌||◌, List, [], ◌∷◌, ◌++◌, length, ◌-◌, if◌then◌else◌, refl, ltb-true, arith, ◌≤◌, ◌<◌}
use Rattle.std.specs.List.{list_all}
use Rattle.std.proofs.lemmas.Bool.{and_parts}
use Rattle.df_tree.specs.declared.production.Counting.{Counting}
use Rattle.df_tree.specs.declared.production.Counting.TheVariants.{Never, Always, IfMore, Each}
use Rattle.df_tree.specs.declared.production.Form.{Form}
use Rattle.df_tree.specs.declared.production.Form.TheVariants.{All, One, Many}
use Rattle.df_tree.specs.declared.production.Part.{Part}
use Rattle.df_tree.specs.declared.production.Part.TheVariants.{Terminal, Nonterminal}
use Rattle.df_tree.specs.Row.{Row}
use Rattle.df_tree.specs.declared.label.Way.{Way}
use Rattle.df_tree.specs.declared.label.Way.TheVariants.{Pass, Title, Wrap, Make, Close}
use Rattle.df_tree.specs.declared.class.TheConstants.{KEPT}
use Rattle.df_tree.specs.Grammar.{declarations, statements, expressions, classes, kinds_of, is_in, nothing, entry_in, row, is_nil}
use Rattle.df_tree.proofs.Classes.{subset, apart}

abbrev pub first_of : Part → List ℕ
first_of (Terminal kind) = kind ∷ []
first_of (Nonterminal n) = kinds_of (row n).first

abbrev pub empty_of : Part → Bool
empty_of (Terminal kind) = false
empty_of (Nonterminal n) = (row n).empty

-- These kinds may come behind the part.
abbrev pub follows : List ℕ → Part → Bool
follows kinds (Terminal kind) = true
follows kinds (Nonterminal n) = subset kinds (kinds_of (row n).follow)

-- the kinds with which the parts begin, or, where they may have no tokens, what is behind them
abbrev pub first_of_all : List Part → List ℕ → List ℕ
first_of_all [] behind = behind
first_of_all (p ∷ ps) behind = first_of p ++ (if empty_of p then first_of_all ps behind else [])

abbrev pub is_word : Part → Bool
is_word (Terminal kind) = true
is_word (Nonterminal n) = false

-- what begins as its parts do
abbrev pub wide : Row → Bool
wide r = not r.narrow && is_nil (kinds_of r.second)

abbrev pub all_fine : List ℕ → List Part → Bool
all_fine behind [] = true
all_fine behind (p ∷ ps) = follows (first_of_all ps behind) p && all_fine behind ps

abbrev pub choice_fine : List ℕ → List ℕ → List Part → Bool
choice_fine behind first [] = true
choice_fine behind first (p ∷ ps) =
    not (empty_of p) && (subset (first_of p) first && (follows behind p && (list_all (λ q. apart (first_of p) (first_of q)) ps && choice_fine behind first ps)))

-- Where it may end, none of its parts begins.
abbrev pub stops : Row → Bool
stops r = r.greedy || (not r.empty || apart (kinds_of r.first) (kinds_of r.follow))

abbrev pub fine_by : Form → Row → Bool
fine_by All r = (r.narrow || (wide r && subset (first_of_all r.parts []) (kinds_of r.first))) && ((r.empty || not (list_all empty_of r.parts)) && all_fine (kinds_of r.follow) r.parts)
fine_by One r = wide r && (stops r && choice_fine (kinds_of r.follow) (kinds_of r.first) r.parts)
fine_by Many r = wide r && (stops r && (r.empty && choice_fine (kinds_of r.first ++ kinds_of r.follow) (kinds_of r.first) r.parts))

-- a production that may not be counted is of a higher rank than its parts
abbrev pub rank_of : Part → ℕ
rank_of (Terminal kind) = 0
rank_of (Nonterminal n) = (row n).rank

abbrev pub top_rank : ℕ
top_rank = 50

abbrev pub bound : Counting → ℕ → ℕ
bound Always rank = top_rank + 1
bound Each rank = top_rank + 1
bound Never rank = rank
bound IfMore rank = rank

abbrev pub low_by : Counting → ℕ → List Part → Bool
low_by counting rank parts = nat_lt rank (top_rank + 1) && list_all (λ p. nat_lt (rank_of p) (bound counting rank) || is_word p) parts

-- It begins with no other kinds than its parts do: a class that is too large would refuse texts.
abbrev firsts_of : List Part → List ℕ
firsts_of [] = []
firsts_of (p ∷ ps) = first_of p ++ firsts_of ps

abbrev exact_by : Form → Row → Bool
exact_by All r = subset (kinds_of r.first) (first_of_all r.parts [])
exact_by One r = subset (kinds_of r.first) (firsts_of r.parts)
exact_by Many r = subset (kinds_of r.first) (firsts_of r.parts)

-- Its token is not kept.
abbrev pub is_silent : Part → Bool
is_silent (Terminal kind) = not (is_in kind (kinds_of KEPT))
is_silent (Nonterminal n) = false

abbrev pub keeps_by : (Part → Bool) → Way → Row → Bool
keeps_by keeps Pass r = list_all keeps r.parts
keeps_by keeps (Title label) r = true
keeps_by keeps (Wrap label) r = true
keeps_by keeps (Make label) r = false
keeps_by keeps Close r = false

-- A frame that closes as one node still does so behind the part.
abbrev pub keeps : ℕ → Part → Bool
keeps zero p = false
keeps (suc k) (Terminal kind) = is_silent (Terminal kind)
keeps (suc k) (Nonterminal n) = keeps_by (keeps k) (row n).way (row n)

abbrev pub run_gives : (Part → Bool) → (Part → Bool) → List Part → Bool
run_gives gives keeps [] = false
run_gives gives keeps (p ∷ ps) = if is_silent p then run_gives gives keeps ps else gives p && list_all keeps ps

abbrev pub form_gives : (Part → Bool) → (Part → Bool) → Form → Row → Bool
form_gives gives keeps All r = run_gives gives keeps r.parts
form_gives gives keeps One r = not r.empty && list_all gives r.parts
form_gives gives keeps Many r = false

abbrev pub gives_by : (Part → Bool) → (Part → Bool) → Way → Row → Bool
gives_by gives keeps Pass r = form_gives gives keeps r.form r
gives_by gives keeps (Title label) r = true
gives_by gives keeps (Wrap label) r = true
gives_by gives keeps (Make label) r = true
gives_by gives keeps Close r = true

-- A frame that was empty closes as one node behind the part.
abbrev pub gives : ℕ → Part → Bool
gives zero p = false
gives (suc k) (Terminal kind) = false
gives (suc k) (Nonterminal n) = gives_by (gives k) (keeps k) (row n).way (row n)

-- A frame that a production closes does so as one node.
abbrev pub closes_by : Way → Row → Bool
closes_by Pass r = true
closes_by (Title label) r = true
closes_by (Wrap label) r = true
closes_by (Make label) r = true
closes_by Close r = form_gives (gives 9) (keeps 9) r.form r

-- It has few parts.
abbrev short : Row → Bool
short r = nat_lt (length r.parts) 100

abbrev others : Row → Bool
others r = low_by r.counting r.rank r.parts && (exact_by r.form r && short r)

abbrev pub fine : Row → Bool
fine r = fine_by r.form r && (closes_by r.way r && others r)

-- the numbers of the productions whose columns are wrong
unfit : ℕ → List Row → List ℕ
unfit n [] = []
unfit n (r ∷ rows) = if fine r then unfit (n + 1) rows else n ∷ unfit (n + 1) rows

no_declaration_unfit : unfit 0 declarations ≡ []
unfolding unfit declarations statements expressions row kinds_of classes
no_declaration_unfit = refl

no_statement_unfit : unfit 1000 statements ≡ []
unfolding unfit declarations statements expressions row kinds_of classes
no_statement_unfit = refl

no_expression_unfit : unfit 2000 expressions ≡ []
unfolding unfit declarations statements expressions row kinds_of classes
no_expression_unfit = refl

all_fit : (n : ℕ) (rows : List Row) → unfit n rows ≡ [] → list_all fine rows ≡ true
unfolding unfit
all_fit n [] e = refl
all_fit n (r ∷ rows) e = fits (fine r) e (λ f. all_fit (n + 1) rows f)
  where
    fits : (b : Bool) → (if b then unfit (n + 1) rows else n ∷ unfit (n + 1) rows) ≡ [] → (unfit (n + 1) rows ≡ [] → list_all fine rows ≡ true) → (b && list_all fine rows) ≡ true
    fits true e others = others e
    fits false e others = absurd cc

-- what holds of all entries holds of each production
entry_has : (test : Row → Bool) (rows : List Row) (n : ℕ) → test nothing ≡ true → list_all test rows ≡ true → test (entry_in rows n) ≡ true
entry_has test [] n none all = none
entry_has test (r ∷ rows) zero none all = (and_parts (test r) (list_all test rows) all).0
entry_has test (r ∷ rows) (suc n) none all = entry_has test rows n none (and_parts (test r) (list_all test rows) all).1

pub row_has : (test : Row → Bool) (n : ℕ) → test nothing ≡ true → list_all test declarations ≡ true → list_all test statements ≡ true → list_all test expressions ≡ true → test (row n) ≡ true
unfolding row
row_has test n none d s e = pick (nat_lt n 1000) (nat_lt n 2000)
  where
    pick : (b c : Bool) → test (if b then entry_in declarations n else (if c then entry_in statements (n - 1000) else entry_in expressions (n - 2000))) ≡ true
    pick true c = entry_has test declarations n none d
    pick false true = entry_has test statements (n - 1000) none s
    pick false false = entry_has test expressions (n - 2000) none e

nothing_fine : fine nothing ≡ true
unfolding kinds_of classes
nothing_fine = refl

both_fine : (n : ℕ) → fine (row n) ≡ true
both_fine n =
    row_has fine n nothing_fine (all_fit 0 declarations no_declaration_unfit) (all_fit 1000 statements no_statement_unfit) (all_fit 2000 expressions no_expression_unfit)

pub row_fine : (n : ℕ) → fine_by (row n).form (row n) ≡ true
row_fine n = (and_parts (fine_by (row n).form (row n)) (closes_by (row n).way (row n) && others (row n)) (both_fine n)).0

pub row_closes : (n : ℕ) → closes_by (row n).way (row n) ≡ true
row_closes n = (and_parts (closes_by (row n).way (row n)) (others (row n)) (and_parts (fine_by (row n).form (row n)) (closes_by (row n).way (row n) && others (row n)) (both_fine n)).1).0

row_others : (n : ℕ) → (low_by (row n).counting (row n).rank (row n).parts ≡ true) × ((exact_by (row n).form (row n) && short (row n)) ≡ true)
row_others n =
    let rest = (and_parts (fine_by (row n).form (row n)) (closes_by (row n).way (row n) && others (row n)) (both_fine n)).1 in
    and_parts (low_by (row n).counting (row n).rank (row n).parts) (exact_by (row n).form (row n) && short (row n)) (and_parts (closes_by (row n).way (row n)) (others (row n)) rest).1

pub row_short : (n : ℕ) → length (row n).parts < 100
row_short n = ltb-true (length (row n).parts) 100 (and_parts (exact_by (row n).form (row n)) (short (row n)) (row_others n).1).1

abbrev pub lower : ℕ → Part → Bool
lower b p = nat_lt (rank_of p) b || is_word p

pub row_low : (n : ℕ) → list_all (lower (bound (row n).counting (row n).rank)) (row n).parts ≡ true
row_low n = (and_parts (nat_lt (row n).rank (top_rank + 1)) (list_all (lower (bound (row n).counting (row n).rank)) (row n).parts) (row_others n).0).1

pub row_rank : (n : ℕ) → (row n).rank ≤ top_rank
row_rank n =
    let e = (and_parts (nat_lt (row n).rank (top_rank + 1)) (list_all (lower (bound (row n).counting (row n).rank)) (row n).parts) (row_others n).0).0 in
    omega (arith, ltb-true (row n).rank (top_rank + 1) e)
