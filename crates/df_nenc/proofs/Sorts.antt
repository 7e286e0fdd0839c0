-- Operations take parts whose trees are of their sorts.
use Rattle.df_nenc.proofs.Words.{◌≡◌, ◌⊎◌, inl, inr, ℕ, ◌<◌, true, ◌&&◌, List, [], ◌∷◌, map, length, nat_lt, refl, sym, ap, ◌∙◌, AllByRecursion, list_all, lt-ltb, and_from, Ty, Op, Node, same_sort, is_well_sorted, sort_at, takes, counts_as_number, Numbers, Truths, sort_of_type, sort_of, sort_of_term, tree_at, IsTerm}
use Rattle.df_lang.specs.declared.ty.Ty.TheVariants as types
use Rattle.df_form.specs.declared.node.Sort.{Sort}
use Rattle.df_form.specs.declared.node.Sort.TheVariants as sorts
use Rattle.df_form.specs.declared.node.Op.TheVariants as ops
use Rattle.df_form.specs.declared.symbol.Symbol.TheVariants as symbols
use Rattle.df_form.specs.Symbol.{symbols as table, same_symbol}
use Rattle.df_form.specs.Node.{symbol, test_of}
use Rattle.df_form.specs.Types as form
use Rattle.df_form.proofs.Same.{values_from}
use Rattle.df_nenc.proofs.Trees.{tree_sort}

same : (a b : Sort) → sort_of a ≡ sort_of b → a ≡ b
same sorts.Number sorts.Number e = refl
same sorts.Truth sorts.Truth e = refl
same sorts.Character sorts.Character e = refl
same a b e = cc

-- a type has the same sort in both
pub type_sort : (ty : Ty) → sort_of (form.sort_of_type ty) ≡ sort_of_type ty
type_sort types.Bool = refl
type_sort ty = refl

pub node_sort : (sort : Sort) (nodes : List Node) (n : ℕ) → IsTerm (sort_of sort) nodes n → sort_at nodes n ≡ sort
node_sort sort nodes n t = same (sort_at nodes n) sort (tree_sort nodes n t.below ∙ t.sort_is)

-- two terms of one sort
pub alike_sort : (nodes : List Node) (a b : ℕ) → a < length nodes → b < length nodes → sort_of_term (tree_at nodes a) ≡ sort_of_term (tree_at nodes b) → sort_at nodes a ≡ sort_at nodes b
alike_sort nodes a b at_a at_b e = same (sort_at nodes a) (sort_at nodes b) (tree_sort nodes a at_a ∙ e ∙ sym (tree_sort nodes b at_b))

-- ---- one and two parts

pub takes_one : (op : Op) (sort : Sort) (nodes : List Node) (a : ℕ) → takes op (sort ∷ []) ≡ true → IsTerm (sort_of sort) nodes a → is_well_sorted nodes (record { op = op; parts = a ∷ [] }) ≡ true
takes_one op sort nodes a e t =
    let is = node_sort sort nodes a t in
    let sorts : takes op (sort_at nodes a ∷ []) ≡ true = ap (λ s. takes op (s ∷ [])) is ∙ e in
    and_from (nat_lt a (length nodes) && true) (takes op (sort_at nodes a ∷ [])) (and_from (nat_lt a (length nodes)) true (lt-ltb a (length nodes) t.below) refl) sorts

takes_parts : (op : Op) (nodes : List Node) (a b : ℕ) → a < length nodes → b < length nodes → takes op (sort_at nodes a ∷ sort_at nodes b ∷ []) ≡ true → is_well_sorted nodes (record { op = op; parts = a ∷ b ∷ [] }) ≡ true
takes_parts op nodes a b at_a at_b e =
    and_from (nat_lt a (length nodes) && (nat_lt b (length nodes) && true)) (takes op (sort_at nodes a ∷ sort_at nodes b ∷ []))
    (and_from (nat_lt a (length nodes)) (nat_lt b (length nodes) && true) (lt-ltb a (length nodes) at_a) (and_from (nat_lt b (length nodes)) true (lt-ltb b (length nodes) at_b) refl)) e

pub takes_two : (op : Op) (sort : Sort) (nodes : List Node) (a b : ℕ) → takes op (sort ∷ sort ∷ []) ≡ true → IsTerm (sort_of sort) nodes a → IsTerm (sort_of sort) nodes b → is_well_sorted nodes (record { op = op; parts = a ∷ b ∷ [] }) ≡ true
takes_two op sort nodes a b e t u =
    let one = node_sort sort nodes a t in
    let other = node_sort sort nodes b u in
    let parts : sort_at nodes a ∷ sort_at nodes b ∷ [] ≡ sort ∷ sort ∷ [] = λ i. one i ∷ other i ∷ [] in
    takes_parts op nodes a b t.below u.below (ap (takes op) parts ∙ e)

pub takes_alike : (nodes : List Node) (a b : ℕ) → a < length nodes → b < length nodes → sort_of_term (tree_at nodes a) ≡ sort_of_term (tree_at nodes b) → (sort_of_term (tree_at nodes a) ≡ Truths → ⊥)
    → is_well_sorted nodes (record { op = ops.Equal; parts = a ∷ b ∷ [] }) ≡ true
takes_alike nodes a b at_a at_b e other =
    takes_parts ops.Equal nodes a b at_a at_b (values_from (sort_at nodes a) (sort_at nodes b) (alike_sort nodes a b at_a at_b e) (λ is. other (sym (tree_sort nodes a at_a) ∙ ap sort_of is)))

pub no_numbers : Numbers ≡ Truths → ⊥
no_numbers e = cc

-- the types whose values are compared as numbers or characters
pub no_truths_of : (ty : Ty) → ((x : ℕ) × (ty ≡ types.Newtype x)) ⊎ ((ty ≡ types.Int) ⊎ ((ty ≡ types.Nat) ⊎ (ty ≡ types.Char))) → sort_of_type ty ≡ Truths → ⊥
no_truths_of types.Bool (inl n) e = let no : types.Bool ≡ types.Newtype n.0 = n.1 in cc
no_truths_of types.Bool (inr (inl n)) e = cc
no_truths_of types.Bool (inr (inr (inl n))) e = cc
no_truths_of types.Bool (inr (inr (inr n))) e = cc
no_truths_of ty is e = cc

-- what symbols take, by their rows
pub takes_quotient : takes (symbol symbols.Div) (sorts.Number ∷ sorts.Number ∷ []) ≡ true
unfolding table same_symbol
takes_quotient = refl

pub takes_remainder : takes (symbol symbols.Mod) (sorts.Number ∷ sorts.Number ∷ []) ≡ true
unfolding table same_symbol
takes_remainder = refl

pub takes_character : takes (symbol symbols.Code) (sorts.Character ∷ []) ≡ true
unfolding table same_symbol
takes_character = refl

pub takes_code : takes (symbol symbols.Chr) (sorts.Number ∷ []) ≡ true
unfolding table same_symbol
takes_code = refl

-- a number or a character is tested for its type
takes_value : (ty : Ty) → counts_as_number ty ≡ true → takes (test_of ty) (form.sort_of_type ty ∷ []) ≡ true
unfolding table same_symbol
takes_value types.Bool e = e
takes_value ty e = refl

-- that a value is of a type
pub takes_typed : (ty : Ty) (nodes : List Node) (a : ℕ) → counts_as_number ty ≡ true → IsTerm (sort_of_type ty) nodes a → is_well_sorted nodes (record { op = test_of ty; parts = a ∷ [] }) ≡ true
takes_typed ty nodes a typed t = takes_one (test_of ty) (form.sort_of_type ty) nodes a (takes_value ty typed) (record { below = t.below; sort_is = t.sort_is ∙ sym (type_sort ty) })

-- ---- any number of formulas

all_there : (nodes : List Node) (ns : List ℕ) → AllByRecursion (IsTerm Truths nodes) ns → list_all (λ n. nat_lt n (length nodes)) ns ≡ true
all_there nodes [] all = refl
all_there nodes (n ∷ ns) all = and_from (nat_lt n (length nodes)) (list_all (λ n. nat_lt n (length nodes)) ns) (lt-ltb n (length nodes) all.0.below) (all_there nodes ns all.1)

all_truths : (nodes : List Node) (ns : List ℕ) → AllByRecursion (IsTerm Truths nodes) ns → list_all (same_sort sorts.Truth) (map (sort_at nodes) ns) ≡ true
all_truths nodes [] all = refl
all_truths nodes (n ∷ ns) all = and_from (same_sort sorts.Truth (sort_at nodes n)) (list_all (same_sort sorts.Truth) (map (sort_at nodes) ns)) (ap (same_sort sorts.Truth) (node_sort sorts.Truth nodes n all.0)) (all_truths nodes ns all.1)

pub takes_all : (nodes : List Node) (ns : List ℕ) → AllByRecursion (IsTerm Truths nodes) ns → is_well_sorted nodes (record { op = ops.And; parts = ns }) ≡ true
takes_all nodes ns all = and_from (list_all (λ n. nat_lt n (length nodes)) ns) (list_all (same_sort sorts.Truth) (map (sort_at nodes) ns)) (all_there nodes ns all) (all_truths nodes ns all)

pub takes_any : (nodes : List Node) (ns : List ℕ) → AllByRecursion (IsTerm Truths nodes) ns → is_well_sorted nodes (record { op = ops.Or; parts = ns }) ≡ true
takes_any nodes ns all = and_from (list_all (λ n. nat_lt n (length nodes)) ns) (list_all (same_sort sorts.Truth) (map (sort_at nodes) ns)) (all_there nodes ns all) (all_truths nodes ns all)
