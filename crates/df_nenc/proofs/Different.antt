-- Different nodes stand for different trees.
use Rattle.std.proofs.Common.{true≢false}
use Rattle.df_nenc.proofs.Words.{◌≡◌, ℕ, zero, suc, ◌<◌, ◌≤◌, true, List, [], ◌∷◌, map, length, nat_lt, Some, slice_get, refl, sym, ap, ◌∙◌, arith, ltb-true, list_all, and_parts, get_below, head_same, tail_same, Op, Node, IsTable, AreSorted, parts_below, Term, Terms, node, no_term, term, terms_of, op_of, sort_of, tree_at}
use Rattle.df_form.specs.declared.node.Sort.{Sort}
use Rattle.df_form.specs.declared.node.Sort.TheVariants as sorts
use Rattle.df_form.specs.declared.node.Op.TheVariants as ops
use Rattle.df_form.specs.declared.symbol.Symbol.{Symbol}
use Rattle.df_form.specs.declared.symbol.Symbol.TheVariants as symbols
use Rattle.df_form.specs.declared.symbol.Payload.{Payload}
use Rattle.df_form.specs.declared.symbol.Payload.TheVariants as payloads
use Rattle.df_form.specs.declared.symbol.PayloadKind.TheVariants as kinds
use Rattle.df_form.specs.Symbol.{symbols as table, same_symbol as is_same_symbol, accepts}
use Rattle.df_form.specs.Node.{symbol, test_of}
use Rattle.df_form.specs.Sorting.{sort_at, are_each, takes}
use Rattle.df_form.proofs.Values.{parts_taken}
use Rattle.df_nterm.specs.Term as trees
use Rattle.df_nenc.specs.Tree.{of_symbol}
use Rattle.df_nenc.proofs.Trees.{tree_of}

-- ---- back from a tree

abbrev pub sort_back : trees.Sort → Sort
sort_back trees.Numbers = sorts.Number
sort_back trees.Truths = sorts.Truth
sort_back trees.Characters = sorts.Character

abbrev op_back : trees.Op → Op
op_back (trees.Number n) = ops.Number n
op_back (trees.FreeTerm free) = ops.Free (record { number = free.number; sort = sort_back free.sort })
op_back trees.Plus = ops.Plus
op_back trees.Times = ops.Times
op_back trees.Div = symbol symbols.Div
op_back trees.Mod = symbol symbols.Mod
op_back trees.Code = symbol symbols.Code
op_back trees.Chr = symbol symbols.Chr
op_back (trees.Is ty) = test_of ty
op_back trees.Equal = ops.Equal
op_back trees.AtMost = ops.AtMost
op_back trees.Not = ops.Not
op_back trees.And = ops.And
op_back trees.Or = ops.Or
op_back trees.Implies = ops.Implies
op_back trees.Iff = ops.Iff

pub sort_again : (s : Sort) → sort_back (sort_of s) ≡ s
sort_again sorts.Number = refl
sort_again sorts.Truth = refl
sort_again sorts.Character = refl

-- what stands with a symbol is known where it takes some parts
bare : (symbol : Symbol) (payload : Payload) → accepts kinds.Nothing payload ≡ true → ops.Of symbol payload ≡ ops.Of symbol payloads.Nothing
bare symbol payloads.Nothing e = refl
bare symbol (payloads.Type ty) e = absurd (true≢false (sym e))

symbol_again : (symbol : Symbol) (payload : Payload) (parts : List Sort) → takes (ops.Of symbol payload) parts ≡ true → op_back (of_symbol symbol payload) ≡ ops.Of symbol payload
unfolding table is_same_symbol
symbol_again symbols.Div payload parts e = sym (bare symbols.Div payload (and_parts (accepts kinds.Nothing payload) (are_each (sorts.Number ∷ sorts.Number ∷ []) parts) e).0)
symbol_again symbols.Mod payload parts e = sym (bare symbols.Mod payload (and_parts (accepts kinds.Nothing payload) (are_each (sorts.Number ∷ sorts.Number ∷ []) parts) e).0)
symbol_again symbols.Code payload parts e = sym (bare symbols.Code payload (and_parts (accepts kinds.Nothing payload) (are_each (sorts.Character ∷ []) parts) e).0)
symbol_again symbols.Chr payload parts e = sym (bare symbols.Chr payload (and_parts (accepts kinds.Nothing payload) (are_each (sorts.Number ∷ []) parts) e).0)
symbol_again symbols.Is (payloads.Type ty) parts e = refl
symbol_again symbols.Is payloads.Nothing parts e = absurd (true≢false (sym e))

op_again : (op : Op) (parts : List Sort) → takes op parts ≡ true → op_back (op_of op) ≡ op
op_again (ops.Free free) parts e = let e = sort_again free.sort in λ i. ops.Free (record { number = free.number; sort = e i })
op_again (ops.Of symbol payload) parts e = symbol_again symbol payload parts e
op_again op parts e = refl

abbrev list_of : Terms → List Term
list_of no_term = []
list_of (term a others) = a ∷ list_of others

list_again : (ts : List Term) → list_of (terms_of ts) ≡ ts
list_again [] = refl
list_again (a ∷ others) = ap (λ z. a ∷ z) (list_again others)

abbrev op_in : Term → trees.Op
op_in (node op parts) = op

abbrev parts_in : Term → Terms
parts_in (node op parts) = parts

-- ---- equal trees

pub same_op : (a b : Op) (xs ys : List Sort) (p q : Terms) → takes a xs ≡ true → takes b ys ≡ true → node (op_of a) p ≡ node (op_of b) q → a ≡ b
same_op a b xs ys p q first second e = sym (op_again a xs first) ∙ ap (λ t. op_back (op_in t)) e ∙ op_again b ys second

pub same_parts : (a b : trees.Op) (p q : List Term) → node a (terms_of p) ≡ node b (terms_of q) → p ≡ q
same_parts a b p q e = sym (list_again p) ∙ ap (λ t. list_of (parts_in t)) e ∙ list_again q

-- all numbers below one are told apart by their trees
record Apart (nodes : List Node) (k : ℕ) : Type 0 where
  by : (m n : ℕ) → m < k → n < length nodes → tree_at nodes m ≡ tree_at nodes n → m ≡ n

same_numbers : (nodes : List Node) (k j : ℕ) → Apart nodes k → j ≤ length nodes → (ps qs : List ℕ) → list_all (λ part. nat_lt part k) ps ≡ true → list_all (λ part. nat_lt part j) qs ≡ true → map (tree_at nodes) ps ≡ map (tree_at nodes) qs → ps ≡ qs
same_numbers nodes k j apart le [] [] all others e = refl
same_numbers nodes k j apart le (p ∷ ps) (q ∷ qs) all others e =
    let here = and_parts (nat_lt p k) (list_all (λ part. nat_lt part k) ps) all in
    let there = and_parts (nat_lt q j) (list_all (λ part. nat_lt part j) qs) others in
    let below : p < k = ltb-true p k here.0 in
    let inside : q < j = ltb-true q j there.0 in
    let head : p ≡ q = apart.by p q below (omega arith) (head_same (tree_at nodes p) (tree_at nodes q) (map (tree_at nodes) ps) (map (tree_at nodes) qs) e) in
    let rest : ps ≡ qs = same_numbers nodes k j apart le ps qs here.1 there.1 (tail_same (tree_at nodes p) (tree_at nodes q) (map (tree_at nodes) ps) (map (tree_at nodes) qs) e) in
    λ i. head i ∷ rest i
same_numbers nodes k j apart le ps qs all others e = cc

one_apart : (nodes : List Node) (m n : ℕ) → IsTable nodes → Apart nodes m → m < length nodes → n < length nodes → tree_at nodes m ≡ tree_at nodes n → m ≡ n
one_apart nodes m n table apart at_m at_n e =
    let all : AreSorted nodes = record { sorted = table.sorted } in
    let one = get_below nodes m at_m in
    let other = get_below nodes n at_n in
    let there : slice_get nodes m ≡ Some one.0 = one.1 in
    let here : slice_get nodes n ≡ Some other.0 = other.1 in
    let trees = sym (tree_of nodes m one.0 all there) ∙ e ∙ tree_of nodes n other.0 all here in
    let op = same_op one.0.op other.0.op (map (sort_at nodes) one.0.parts) (map (sort_at nodes) other.0.parts) _ _ (parts_taken nodes m one.0 all there) (parts_taken nodes n other.0 all here) trees in
    let parts = same_numbers nodes m n apart (omega arith) one.0.parts other.0.parts (parts_below nodes m one.0 all there) (parts_below nodes n other.0 all here) (same_parts (op_of one.0.op) (op_of other.0.op) (map (tree_at nodes) one.0.parts) (map (tree_at nodes) other.0.parts) trees) in
    let same : one.0 ≡ other.0 = λ i. record { op = op i; parts = parts i } in
    table.distinct m n one.0 there (here ∙ ap Some (sym same))

next_apart : (nodes : List Node) (k : ℕ) → IsTable nodes → suc k ≤ length nodes → Apart nodes k → Apart nodes (suc k)
next_apart nodes k table le before = record { by = λ m n lt at e. apart_at m n lt at e }
  where
    apart_at : (m n : ℕ) → m < suc k → n < length nodes → tree_at nodes m ≡ tree_at nodes n → m ≡ n
    apart_at m n lt at e =
        let mine : Apart nodes m = record { by = λ a b below inside same. before.by a b (omega arith) inside same } in
        one_apart nodes m n table mine (omega arith) at e

all_apart : (nodes : List Node) → IsTable nodes → (k : ℕ) → k ≤ length nodes → Apart nodes k
all_apart nodes table zero le = record { by = λ m n lt at e. absurd (omega arith) }
all_apart nodes table (suc k) le = next_apart nodes k table le (all_apart nodes table k (omega arith))

pub trees_differ : (nodes : List Node) (m n : ℕ) → IsTable nodes → m < length nodes → n < length nodes → tree_at nodes m ≡ tree_at nodes n → m ≡ n
trees_differ nodes m n table at_m at_n e = (all_apart nodes table (length nodes) (omega arith)).by m n at_m at_n e
