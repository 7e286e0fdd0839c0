-- A node that is none of a table, added behind a front; and where a node stands in a front and behind it.
use Rattle.std.proofs.Common.{◌≡◌, ℕ, ◌+◌, ◌-◌, ◌<◌, ◌≤◌, ◌^◌, true, List, [], ◌∷◌, ◌++◌, take, length, Option, None, Some, refl, sym, ap, subst, ◌∙◌, arith, length-append, append-nil, append_assoc}
use Rattle.std.proofs.Math.Seq.{take-append_seam}
use Rattle.df_lemmas.proofs.Lists.{get_grown}
use Rattle.df_lemmas.proofs.Options.{none_left}
use Rattle.df_form.specs.Sorting.{IsTable, is_well_sorted}
use Rattle.df_form.specs.Node.{Node, number_of}
use Rattle.df_form.specs.declared.offset.Offset.{Offset}
use Rattle.df_form.specs.Offset.{of_parts, offsets, offset_of}
use Rattle.df_form.proofs.Tables.{number_of_some, number_of_none, number_of_at, get-take, table-take, table_next}
use Rattle.df_form.proofs.Fronts.{get_behind, get_taken, new-whole}
use Rattle.df_form.proofs.Offsets.{AreBehind, offsets_pushed}

-- the table with the node, and what its own nodes are
pub record IsPushed (front own after : List Node) (node : Node) (new : List Offset) : Type 0 where
  pub whole : front ++ after ≡ (front ++ own) ++ node ∷ []
  pub table : IsTable (front ++ after)
  pub small : length (front ++ after) < 2 ^ 63
  pub known : AreBehind front after new

pub is_pushed : (front own after : List Node) (node : Node) (items new : List Offset) (offset : Offset) → IsTable (front ++ own) → number_of (front ++ own) node ≡ None → is_well_sorted (front ++ own) node ≡ true → length (front ++ own) < 2 ^ 63 - 1 → AreBehind front own items → offset ≡ of_parts (offset_of (front ++ own)) (length (front ++ own)) node.op node.parts
    → after ≡ own ++ node ∷ [] → new ≡ items ++ offset ∷ [] → IsPushed front own after node new
is_pushed front own after node items new offset table none sorted room behind next is grown =
    let whole : front ++ after ≡ (front ++ own) ++ node ∷ [] = ap (λ xs. front ++ xs) is ∙ sym (append_assoc front own (node ∷ [])) in
    record {
      whole = whole;
      table = subst IsTable (sym whole) (table_next (front ++ own) node table sorted none);
      small = omega (arith, ap length whole, length-append (front ++ own) (node ∷ []), room);
      known = ap offsets whole ∙ offsets_pushed (front ++ own) node ∙ (λ i. behind i ++ sym next i ∷ []) ∙ append_assoc (offsets front) items (offset ∷ []) ∙ ap (λ z. offsets front ++ z) (sym grown);
    }

-- ---- where a node stands

-- in a front of a table
pub number-taken : (nodes : List Node) (node : Node) (count n : ℕ) → IsTable nodes → number_of nodes node ≡ Some n → n < count → number_of (take count nodes) node ≡ Some n
number-taken nodes node count n table e less = number_of_at (take count nodes) node n (table-take nodes count table).distinct (get_taken count nodes n less ∙ number_of_some nodes node n e)

pub number-cut : (nodes : List Node) (node : Node) (count n : ℕ) → IsTable nodes → number_of nodes node ≡ Some n → count ≤ n → number_of (take count nodes) node ≡ None
number-cut nodes node count n table e past = by (number_of (take count nodes) node) refl
  where
    by : (r : Option ℕ) → number_of (take count nodes) node ≡ r → number_of (take count nodes) node ≡ None
    by None f = f
    by (Some m) f =
        let there = get-take nodes count m node (number_of_some (take count nodes) node m f) in
        absurd (omega (arith, past, there.0, table.distinct m n node there.1 (number_of_some nodes node n e)))

pub number-nowhere : (nodes : List Node) (node : Node) (count : ℕ) → number_of nodes node ≡ None → number_of (take count nodes) node ≡ None
number-nowhere nodes node count e = by (number_of (take count nodes) node) refl
  where
    by : (r : Option ℕ) → number_of (take count nodes) node ≡ r → number_of (take count nodes) node ≡ None
    by None f = f
    by (Some m) f = absurd (number_of_none nodes node m e (get-take nodes count m node (number_of_some (take count nodes) node m f)).1)

-- in a front, or behind it
pub number-ahead : (front own : List Node) (node : Node) (n : ℕ) → IsTable (front ++ own) → number_of front node ≡ Some n → number_of (front ++ own) node ≡ Some n
number-ahead front own node n table e = number_of_at (front ++ own) node n table.distinct (get_grown front own n node (number_of_some front node n e))

pub number-behind : (front own : List Node) (node : Node) (n : ℕ) → IsTable (front ++ own) → number_of own node ≡ Some n → number_of (front ++ own) node ≡ Some (length front + n)
number-behind front own node n table e = number_of_at (front ++ own) node (length front + n) table.distinct (get_behind front own n ∙ number_of_some own node n e)

pub number-not-behind : (front own : List Node) (node : Node) → number_of (front ++ own) node ≡ None → number_of own node ≡ None
number-not-behind front own node e = none_left (number_of own node) (λ n is. number_of_none (front ++ own) node (length front + n) e (get_behind front own n ∙ number_of_some own node n is))

pub number-in-neither : (front own : List Node) (node : Node) → number_of front node ≡ None → number_of own node ≡ None → number_of (front ++ own) node ≡ None
number-in-neither front own node ahead behind = new-whole front own node (λ k at. number_of_none front node k ahead at) behind

-- ---- nothing behind a front

pub no_own_table : (front own : List Node) → own ≡ [] → IsTable front → IsTable (front ++ own)
no_own_table front own none table = subst IsTable (sym (ap (λ z. front ++ z) none ∙ append-nil front)) table

pub no_own_length : (front own : List Node) → own ≡ [] → length (front ++ own) ≡ length front
no_own_length front own none = ap length (ap (λ z. front ++ z) none ∙ append-nil front)

-- what is lent of a table whose own nodes are left out
pub lent_front : (nodes front own copy : List Node) → copy ≡ front → front ++ own ≡ nodes → copy ≡ take (length copy) nodes
lent_front nodes front own copy is_front whole = is_front ∙ sym (take-append_seam front own) ∙ ap (take (length front)) whole ∙ ap (λ xs. take (length xs) nodes) (sym is_front)
