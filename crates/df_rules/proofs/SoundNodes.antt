-- Nodes that are made: they stand where the answer says, well sorted after those before them.
use Rattle.std.proofs.Common.{◌≡◌, ℕ, ℤ, Bool, true, ◌&&◌, List, length, Some, slice_get, refl, ap, lt-ltb}
use Rattle.df_form.specs.declared.node.Sort.TheVariants as sorts
use Rattle.df_form.specs.Node.{Node, same_sort}
use Rattle.df_form.specs.Sorting.{is_well_sorted}
use Rattle.df_form.specs.Made.{Made, made}
use Rattle.df_rules.specs.Bound.{number, at_most, made_at_least, made_at_most}
use Rattle.df_form.proofs.Values.{Grows, grows_twice, grown_get, AreSorted}
use Rattle.df_form.proofs.Making.{IsNumber, grown_number, made_stands, number_of_op}

all_of_two : (a b c d : Bool) → a ≡ true → b ≡ true → c ≡ true → d ≡ true → ((a && (b && true)) && (c && d)) ≡ true
all_of_two a b c d p q r s = rw (p, q, r, s) refl

pub at_most_sorted : (nodes : List Node) (a b : ℕ) → IsNumber nodes a → IsNumber nodes b → is_well_sorted nodes (at_most a b) ≡ true
at_most_sorted nodes a b p q =
    all_of_two _ _ _ _ (lt-ltb a (length nodes) p.below) (lt-ltb b (length nodes) q.below) (ap (λ z. same_sort z sorts.Number) p.sort) (ap (λ z. same_sort z sorts.Number) q.sort)

-- a comparison with a literal stands, and so does the literal
pub record Compares (nodes : List Node) (k : ℤ) (m : Made) (node : ℕ → Node) : Type 0 where
  pub grows : Grows nodes m.nodes
  pub sorted : AreSorted m.nodes
  pub literal : ℕ
  pub literal_there : slice_get m.nodes literal ≡ Some (number k)
  pub there : slice_get m.nodes m.number ≡ Some (node literal)

pub at_least_stands : (nodes : List Node) (k : ℤ) (n : ℕ) → AreSorted nodes → IsNumber nodes n → Compares nodes k (made_at_least nodes k n) (λ literal. at_most literal n)
at_least_stands nodes k n all is =
    let low = made nodes (number k) in
    let first = made_stands nodes (number k) all refl in
    let second = made_stands low.nodes (at_most low.number n) first.sorted (at_most_sorted low.nodes low.number n (number_of_op low.nodes low.number (number k) first.there refl) (grown_number nodes low.nodes first.grows n is)) in
    record {
      grows = grows_twice nodes low.nodes (made_at_least nodes k n).nodes first.grows second.grows;
      sorted = second.sorted;
      literal = low.number;
      literal_there = grown_get low.nodes (made_at_least nodes k n).nodes second.grows low.number (number k) first.there;
      there = second.there;
    }

pub at_most_stands : (nodes : List Node) (n : ℕ) (k : ℤ) → AreSorted nodes → IsNumber nodes n → Compares nodes k (made_at_most nodes n k) (λ literal. at_most n literal)
at_most_stands nodes n k all is =
    let high = made nodes (number k) in
    let first = made_stands nodes (number k) all refl in
    let second = made_stands high.nodes (at_most n high.number) first.sorted (at_most_sorted high.nodes n high.number (grown_number nodes high.nodes first.grows n is) (number_of_op high.nodes high.number (number k) first.there refl)) in
    record {
      grows = grows_twice nodes high.nodes (made_at_most nodes n k).nodes first.grows second.grows;
      sorted = second.sorted;
      literal = high.number;
      literal_there = grown_get high.nodes (made_at_most nodes n k).nodes second.grows high.number (number k) first.there;
      there = second.there;
    }
