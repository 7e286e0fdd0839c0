-- The line of a congruence: its clause where there is one, and none elsewhere.
use Rattle.std.specs.Prelude.{ℕ, ℤ, ◌==◌, Bool, false, not, ◌&&◌, ◌||◌, List, [], ◌∷◌, ◌++◌, slice_get, Option, None, Some, if◌then◌else◌}
use Rattle.std.specs.Option.{option_and_then, option_map_or, option_or}
use Rattle.std.specs.List.{list_any, flat_map}
use Rattle.std.specs.Ordering.{int_eq}
use Rattle.std.specs.Cmp.Lexicographic.{pointwise}
use Rattle.df_form.specs.declared.log.Lit.{Lit}
use Rattle.df_form.specs.declared.log.Pair.{Pair}
use Rattle.df_form.specs.Node.{Node, same_op}
use Rattle.df_form.specs.Clause.{Clause, are_literals}
use Rattle.df_row.specs.Row.{literal_number}
use Rattle.df_rules.specs.Classes.{alone, joined, joined_all, is_together}
use Rattle.df_rules.specs.Congruence.{equality, negative_equalities}

abbrev pub are_congruent : (ℕ → ℕ) → Option Node → Option Node → Bool
are_congruent class (Some a) (Some b) = same_op a.op b.op && pointwise (is_together class) a.parts b.parts
are_congruent class a b = false

abbrev pub is_congruent : List Node → (ℕ → ℕ) → Pair → Bool
is_congruent nodes class pair = are_congruent class (slice_get nodes pair.left) (slice_get nodes pair.right)

-- the classes closed by pairs in their order, where each is of one operation with arguments in one class
abbrev pub closed : List Node → (ℕ → ℕ) → List Pair → Option (ℕ → ℕ)
closed nodes class [] = Some class
closed nodes class (pair ∷ others) = if is_congruent nodes class pair then closed nodes (joined class pair) others else None

abbrev pub is_paired : (ℕ → ℕ) → Option Pair → Bool
is_paired class pair = option_map_or (λ (p : Pair). is_together class p.left p.right) pair false

-- a positive equality of the clause is in the classes
abbrev pub has_equality : List Node → (ℕ → ℕ) → Clause → Bool
has_equality nodes class clause = list_any (λ (l : Lit). l.positive && is_paired class (equality nodes l.node)) clause

-- a positive literal of the clause is of this class
abbrev pub has_positive : (ℕ → ℕ) → Clause → ℕ → Bool
has_positive class clause c = list_any (λ (l : Lit). l.positive && class l.node == c) clause

-- a negative and a positive literal of the clause are in one class
abbrev pub has_opposites : (ℕ → ℕ) → Clause → Bool
has_opposites class clause = list_any (λ (l : Lit). not l.positive && has_positive class clause (class l.node)) clause

-- the nodes of pairs
abbrev pub members : List Pair → List ℕ
members pairs = flat_map (λ pair. pair.left ∷ pair.right ∷ []) pairs

abbrev pub number_at : List Node → ℕ → Option ℤ
number_at nodes n = literal_number (slice_get nodes n)

-- the last number of a class among these nodes
abbrev pub number_in : List Node → (ℕ → ℕ) → List ℕ → ℕ → Option ℤ
number_in nodes class [] c = None
number_in nodes class (n ∷ others) c = option_or (number_in nodes class others c) (if class n == c then number_at nodes n else None)

abbrev pub are_different : Option ℤ → Option ℤ → Bool
are_different (Some j) (Some k) = not (int_eq j k)
are_different a b = false

-- two different numbers are in one class
abbrev pub has_two_numbers : List Node → (ℕ → ℕ) → List ℕ → Bool
has_two_numbers nodes class ns = list_any (λ n. are_different (number_at nodes n) (number_in nodes class ns (class n))) ns

-- the classes, whose nodes these are, close the clause
abbrev pub closes : List Node → Clause → List ℕ → (ℕ → ℕ) → Bool
closes nodes clause ns class = has_equality nodes class clause || has_opposites class clause || has_two_numbers nodes class ns

abbrev pub if_closes : List Node → Clause → List Pair → (ℕ → ℕ) → Option Clause
if_closes nodes clause pairs class = if closes nodes clause (members pairs) class then Some clause else None

abbrev pub congruence_of : List Node → Clause → List Pair → List Pair → Option Clause
congruence_of nodes clause equalities pairs = option_and_then (if_closes nodes clause (equalities ++ pairs)) (closed nodes (joined_all alone equalities) pairs)

-- `e L.. : N M ..`
abbrev pub congruence_line : List Node → Clause → List Pair → Option Clause
congruence_line nodes clause pairs = if are_literals nodes clause then congruence_of nodes clause (negative_equalities nodes clause) pairs else None
