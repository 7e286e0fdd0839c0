-- The parts of nodes.
use Rattle.std.proofs.Common.{◌≡◌, ℕ, zero, suc, ◌<◌, Bool, true, nat_lt, List, [], ◌∷◌, map, take, length, Contains, ap, ◌∙◌, sym, arith}
use Rattle.std.specs.List.{list_all}
use Rattle.std.proofs.lemmas.Bool.{and_parts, ltb-true}
use Rattle.std.proofs.lemmas.List.{length-take}
use Rattle.df_lemmas.proofs.Alls.{none_there}
use Rattle.df_form.specs.Node.{Node}
use Rattle.df_form.specs.Sorting.{is_well_sorted, takes, sort_at}

-- each element of a list passes a test that all do
pub all_at : {A : Type 0} (test : A → Bool) (xs : List A) (x : A) → list_all test xs ≡ true → Contains xs x → test x ≡ true
all_at test [] x e there = absurd (none_there x there)
all_at test (y ∷ ys) x e (zero, less, same) = ap test (sym same) ∙ (and_parts (test y) (list_all test ys) e).0
all_at test (y ∷ ys) x e (suc k, less, same) = all_at test ys x (and_parts (test y) (list_all test ys) e).1 (k, omega (arith, less), same)

-- the parts of a node are nodes
pub parts_inside : (nodes : List Node) (n : ℕ) (node : Node) (part : ℕ) → is_well_sorted (take n nodes) node ≡ true → Contains node.parts part → part < length nodes
parts_inside nodes n node part sorted there =
    let parts = and_parts (list_all (λ k. nat_lt k (length (take n nodes))) node.parts) (takes node.op (map (sort_at (take n nodes)) node.parts)) sorted in
    let short = length-take n nodes in
    let less = ltb-true part (length (take n nodes)) (all_at (λ k. nat_lt k (length (take n nodes))) node.parts part parts.0 there) in omega (arith, short, less)
