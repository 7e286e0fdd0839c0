-- Nodes that grow at their end keep what they have.
use Rattle.std.proofs.Common.{◌≡◌, ℤ, slice_index_or, ℕ, ◌<◌, ◌≤◌, Bool, true, ◌&&◌, nat_lt, List, [], ◌∷◌, length, take, get_or, slice_get, Option, None, Some, refl, sym, ap, ◌∙◌, subst, arith, length-take}
use Rattle.std.specs.Option.{option_map_or}
use Rattle.std.proofs.Math.Seq.{take-append_seam, take-length}
use Rattle.std.proofs.lemmas.List.{get_or-take, take_min, take-take}
use Rattle.std.proofs.lemmas.Option.{slice_get-get_or, slice_get_within}
use Rattle.std.proofs.lemmas.Bool.{and_parts, lt-ltb, ltb-true}
use Rattle.df_lemmas.proofs.Lists.{get_last}
use Rattle.df_form.specs.declared.node.Sort.{Sort}
use Rattle.df_form.specs.declared.node.Sort.TheVariants as sorts
use Rattle.df_form.specs.Node.{Node, number_of, same_sort}
use Rattle.df_form.specs.Made.{Made, made, made_where}
use Rattle.df_form.specs.Sorting.{is_well_sorted, sort_at, sort_of, are_two_values}
use Rattle.df_form.proofs.Tables.{number_of_some}
use Rattle.df_form.proofs.Same.{values_alike, same_sort-refl}
use Rattle.df_form.specs.declared.node.Op.TheVariants as ops
use Rattle.df_rules.specs.Bound.{at_most, number}
use Rattle.df_rules.specs.Growth.{Grows, IsNumber}

pub length-grows : (old new : List Node) → Grows old new → length old ≤ length new
length-grows old new grows = omega (arith, ap length grows, length-take (length old) new)

pub grows_longer : (old new : List Node) → Grows old new → length old ≤ length new
grows_longer old new grows = length-grows old new grows

pub get-grows : (old new : List Node) (n : ℕ) → Grows old new → n < length old → slice_get new n ≡ slice_get old n
get-grows [] new n grows less = absurd (omega arith)
get-grows (x ∷ xs) new n grows less =
    let here = slice_get-get_or (x ∷ xs) n x less in
    let longer = length-grows (x ∷ xs) new grows in
    let there = slice_get-get_or new n x (omega (arith, less, longer)) in
    let front = get_or-take (length (x ∷ xs)) new n x less in
    there ∙ ap Some (sym front ∙ ap (λ (l : List Node). get_or l n x) grows) ∙ sym here

pub grows-refl : (nodes : List Node) → Grows nodes nodes
grows-refl nodes = take-length nodes

pub grows-trans : (a b c : List Node) → Grows a b → Grows b c → Grows a c
grows-trans a b c one two = sym (take-take (length a) (length b) c (length-grows a b one)) ∙ ap (take (length a)) two ∙ one

pub number-grows : (old new : List Node) (n : ℕ) → Grows old new → IsNumber old n → IsNumber new n
number-grows old new n grows is =
    let longer = length-grows old new grows in
    (omega (arith, is.0, longer), ap (λ (node : Option Node). option_map_or (λ (x : Node). sort_of x.op) node sorts.Number) (get-grows old new n grows is.0) ∙ is.1)

-- what is made stands, after the nodes before it
pub made_where-grows : (nodes : List Node) (node : Node) (found : Option ℕ) → Grows nodes (made_where nodes node found).nodes
made_where-grows nodes node None = take-append_seam nodes (node ∷ [])
made_where-grows nodes node (Some n) = take-length nodes

pub made-grows : (nodes : List Node) (node : Node) (m : Made) → made nodes node ≡ m → Grows nodes m.nodes
made-grows nodes node m e = subst (λ (k : Made). Grows nodes k.nodes) e (made_where-grows nodes node (number_of nodes node))

pub made-at : (nodes : List Node) (node : Node) (m : Made) → made nodes node ≡ m → slice_get m.nodes m.number ≡ Some node
made-at nodes node m e = subst (λ (k : Made). slice_get k.nodes k.number ≡ Some node) e (by (number_of nodes node) refl)
  where
    by : (r : Option ℕ) → number_of nodes node ≡ r → slice_get (made_where nodes node (number_of nodes node)).nodes (made_where nodes node (number_of nodes node)).number ≡ Some node
    by None n = subst (λ (r : Option ℕ). slice_get (made_where nodes node r).nodes (made_where nodes node r).number ≡ Some node) (sym n) (get_last nodes node)
    by (Some k) n = subst (λ (r : Option ℕ). slice_get (made_where nodes node r).nodes (made_where nodes node r).number ≡ Some node) (sym n) (number_of_some nodes node k n)

-- a number that is made names a number
pub number-made : (nodes : List Node) (k : ℤ) (m : Made) → made nodes (number k) ≡ m → IsNumber m.nodes m.number
number-made nodes k m e =
    let at = made-at nodes (number k) m e in
    (slice_get_within m.nodes m.number (number k) at, ap (λ (node : Option Node). option_map_or (λ (x : Node). sort_of x.op) node sorts.Number) at)

all_true : (p q r s : Bool) → p ≡ true → q ≡ true → r ≡ true → s ≡ true → ((p && (q && true)) && (r && s)) ≡ true
all_true p q r s e f g h = rw (e, f, g, h) refl

is_sort : (a b : Sort) → a ≡ b → same_sort a b ≡ true
is_sort a b e = subst (λ s. same_sort a s ≡ true) e (same_sort-refl a)

-- two numbers are compared
pub sorted-comparison : (nodes : List Node) (a b : ℕ) → IsNumber nodes a → IsNumber nodes b → is_well_sorted nodes (at_most a b) ≡ true
sorted-comparison nodes a b is_a is_b =
    all_true (nat_lt a (length nodes)) (nat_lt b (length nodes)) (same_sort (sort_at nodes a) sorts.Number) (same_sort (sort_at nodes b) sorts.Number)
    (lt-ltb a (length nodes) is_a.0) (lt-ltb b (length nodes) is_b.0) (is_sort (sort_at nodes a) sorts.Number is_a.1) (is_sort (sort_at nodes b) sorts.Number is_b.1)

take-of-take : (n : ℕ) (nodes : List Node) → take (length (take n nodes)) nodes ≡ take n nodes
take-of-take n nodes = ap (λ (k : ℕ). take k nodes) (length-take n nodes) ∙ take_min n nodes

-- the sides of an equality whose left side is a number
pub equality-numbers : (nodes : List Node) (n a b : ℕ) → is_well_sorted (take n nodes) (record { op = ops.Equal; parts = a ∷ b ∷ [] }) ≡ true → sort_at nodes a ≡ sorts.Number → IsNumber nodes a × IsNumber nodes b
equality-numbers nodes n a b sorted is =
    let front = take n nodes in
    let both = and_parts (nat_lt a (length front) && (nat_lt b (length front) && true)) (are_two_values (sort_at front a ∷ sort_at front b ∷ [])) sorted in
    let there = and_parts (nat_lt a (length front)) (nat_lt b (length front) && true) both.0 in
    let there_b = and_parts (nat_lt b (length front)) true there.1 in
    let less_a = ltb-true a (length front) there.0 in
    let less_b = ltb-true b (length front) there_b.0 in
    let alike = values_alike (sort_at front a) (sort_at front b) both.1 in
    let grows : Grows front nodes = take-of-take n nodes in
    let kept_a = ap (λ (node : Option Node). option_map_or (λ (x : Node). sort_of x.op) node sorts.Number) (get-grows front nodes a grows less_a) in
    let kept_b = ap (λ (node : Option Node). option_map_or (λ (x : Node). sort_of x.op) node sorts.Number) (get-grows front nodes b grows less_b) in
    let longer = length-grows front nodes grows in
    ((omega (arith, less_a, longer), is), (omega (arith, less_b, longer), kept_b ∙ sym alike ∙ sym kept_a ∙ is))

-- a list of two
pub two : (xs : List ℕ) → 2 ≤ length xs → length xs < 3 → xs ≡ slice_index_or xs 0 0 ∷ slice_index_or xs 1 0 ∷ []
two [] more less = absurd (omega arith)
two (a ∷ []) more less = absurd (omega arith)
two (a ∷ b ∷ []) more less = refl
two (a ∷ b ∷ c ∷ xs) more less = absurd (omega arith)
