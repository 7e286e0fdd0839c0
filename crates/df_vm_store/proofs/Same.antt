-- Equality of pieces of the cells.
use Rattle.std.proofs.Common.{◌≡◌, ℕ, zero, suc, ◌+◌, ◌<◌, ◌≤◌, Bool, true, false, ◌&&◌, List, [], ◌∷◌, ◌++◌, take, drop, length, Some, slice_get, cond, nat_eq, refl, sym, ap, ◌∙◌, arith}
use Rattle.std.specs.Prelude.{option_map}
use Rattle.std.specs.List.{list_all}
use Rattle.std.proofs.lemmas.Bool.{eq-eqb, and_from, eqb-true}
use Rattle.std.proofs.lemmas.Cmp.{int_eq_equiv}
use Rattle.std.proofs.lemmas.Option.{same_Some, slice_get-map}
use Rattle.std.proofs.lemmas.List.Folds.{list_all-append}
use Rattle.std.proofs.Math.Bool.{and-true}
use Rattle.df_vm_store.specs.declared.word.Word.{Word}
use Rattle.df_vm_store.specs.declared.equal.Pair.{Pair}
use Rattle.df_mach2.specs.Value.{Value, Values, Number, Truth, Char, Null, Reference, Data, Sequence, no_value, value, values_of, same, all_same}
use Rattle.df_vm_store.specs.Meaning.{value_in, meanings, are_founded}
use Rattle.df_vm_store.specs.Equal.{is_same_pair, are_same_pairs, next_pair, deferred}
use Rattle.df_vm_store.proofs.Meanings.{cells_stand}
use Rattle.df_vm_store.proofs.Parts.{piece, piece_length}

mutual
  pub same_self : (v : Value) → same v v ≡ true
  same_self (Number n) = int_eq_equiv.refl n
  same_self (Truth true) = refl
  same_self (Truth false) = refl
  same_self (Char c) = eq-eqb c c refl
  same_self Null = refl
  same_self (Reference r) = eq-eqb r r refl
  same_self (Data tag parts) = and_from _ _ (eq-eqb tag tag refl) (all_same_self parts)
  same_self (Sequence members) = all_same_self members

  pub all_same_self : (vs : Values) → all_same vs vs ≡ true
  all_same_self no_value = refl
  all_same_self (value v vs) = and_from _ _ (same_self v) (all_same_self vs)

lengths_differ : (vs ws : List Value) → (length vs ≡ length ws → ⊥) → all_same (values_of vs) (values_of ws) ≡ false
lengths_differ [] [] apart = absurd (apart refl)
lengths_differ [] (w ∷ ws) apart = refl
lengths_differ (v ∷ vs) [] apart = refl
lengths_differ (v ∷ vs) (w ∷ ws) apart = fails (same v w) _ (lengths_differ vs ws (λ e. apart (ap suc e)))
  where
    fails : (a b : Bool) → b ≡ false → (a && b) ≡ false
    fails true b e = e
    fails false b e = refl

pub pieces_differ : (cells : List Word) (left count right other : ℕ) → left + count ≤ length cells → right + other ≤ length cells → (count ≡ other → ⊥) → all_same (values_of (piece cells left count)) (values_of (piece cells right other)) ≡ false
pieces_differ cells left count right other le ri apart =
    lengths_differ (piece cells left count) (piece cells right other) (λ e. apart (sym (piece_length cells left count le) ∙ e ∙ piece_length cells right other ri))

pub piece_self : (vs : List Value) (left right count other : ℕ) → count ≡ other → left ≡ right → all_same (values_of (take count (drop left vs))) (values_of (take other (drop right vs))) ≡ true
piece_self vs left right count other e at =
    ap (λ n. all_same (values_of (take count (drop left vs))) (values_of (take n (drop right vs)))) (sym e)
    ∙ ap (λ n. all_same (values_of (take count (drop left vs))) (values_of (take count (drop n vs)))) (sym at)
    ∙ all_same_self (values_of (take count (drop left vs)))

-- ---- cells by lookup

pub cell_means : (cells : List Word) (i : ℕ) (w : Word) → are_founded 0 cells ≡ true → slice_get cells i ≡ Some w → slice_get (meanings cells) i ≡ Some (value_in (meanings cells) w)
cell_means cells i w founded e =
    ap (λ (vs : List Value). slice_get vs i) (sym (cells_stand cells founded)) ∙ slice_get-map (value_in (meanings cells)) cells i ∙ ap (option_map (value_in (meanings cells))) e

pub piece_front : (vs : List Value) (i n : ℕ) (v : Value) → slice_get vs i ≡ Some v → take (suc n) (drop i vs) ≡ v ∷ take n (drop (suc i) vs)
piece_front [] i n v e = absurd cc
piece_front (x ∷ vs) zero n v e = ap (λ y. y ∷ take n vs) (same_Some x v e)
piece_front (x ∷ vs) (suc i) n v e = piece_front vs i n v e

-- the first of each, and the others
pub pair_front : (cells : List Word) (p q : Pair) (v w : Word) → are_founded 0 cells ≡ true → slice_get cells p.left ≡ Some v → slice_get cells p.right ≡ Some w
    → p.count ≡ suc q.count → q.left ≡ suc p.left → q.right ≡ suc p.right
    → is_same_pair (meanings cells) p ≡ (same (value_in (meanings cells) v) (value_in (meanings cells) w) && is_same_pair (meanings cells) q)
pair_front cells p q v w founded left right count at_left at_right =
    let vs : List Value = meanings cells in
    ap (λ n. all_same (values_of (take n (drop p.left vs))) (values_of (take n (drop p.right vs)))) count
    ∙ ap (λ us. all_same (values_of us) (values_of (take (suc q.count) (drop p.right vs)))) (piece_front vs p.left q.count (value_in vs v) (cell_means cells p.left v founded left))
    ∙ ap (λ us. all_same (values_of (value_in vs v ∷ take q.count (drop (suc p.left) vs))) (values_of us)) (piece_front vs p.right q.count (value_in vs w) (cell_means cells p.right w founded right))
    ∙ ap (λ n. same (value_in vs v) (value_in vs w) && all_same (values_of (take q.count (drop n vs))) (values_of (take q.count (drop (suc p.right) vs)))) (sym at_left)
    ∙ ap (λ n. same (value_in vs v) (value_in vs w) && all_same (values_of (take q.count (drop q.left vs))) (values_of (take q.count (drop n vs)))) (sym at_right)

pub empty_pair : (vs : List Value) (p : Pair) → p.count ≡ 0 → is_same_pair vs p ≡ true
empty_pair vs p e = ap (λ n. all_same (values_of (take n (drop p.left vs))) (values_of (take n (drop p.right vs)))) e

pub first_front : (cells : List Word) (p : Pair) (v w : Word) → are_founded 0 cells ≡ true → slice_get cells p.left ≡ Some v → slice_get cells p.right ≡ Some w → 0 < p.count
    → is_same_pair (meanings cells) p ≡ (same (value_in (meanings cells) v) (value_in (meanings cells) w) && is_same_pair (meanings cells) (next_pair p))
first_front cells p v w founded left right lt = pair_front cells p (next_pair p) v w founded left right (omega arith) (omega arith) (omega arith)

-- ---- pairs that are left

pub no_pairs : (vs : List Value) → are_same_pairs vs [] ≡ true
unfolding are_same_pairs
no_pairs vs = refl

pub pushed_pair : (vs : List Value) (old : List Pair) (p : Pair) → are_same_pairs vs (old ++ p ∷ []) ≡ (are_same_pairs vs old && is_same_pair vs p)
unfolding are_same_pairs
pushed_pair vs old p =
    list_all-append (is_same_pair vs) old (p ∷ []) ∙ ap (λ b. list_all (is_same_pair vs) old && b) (and-true (is_same_pair vs p))

pub and_true : (a b : Bool) → b ≡ true → a ≡ (a && b)
and_true a b e = sym (ap (λ c. a && c) e ∙ and-true a)

pub deferred_pair : (vs : List Value) (old : List Pair) (p : Pair) → are_same_pairs vs (deferred old p) ≡ (are_same_pairs vs old && is_same_pair vs p)
deferred_pair vs old p = by_count (nat_eq p.count 0) refl
  where
    by_count : (b : Bool) → nat_eq p.count 0 ≡ b → are_same_pairs vs (cond b old (old ++ p ∷ [])) ≡ (are_same_pairs vs old && is_same_pair vs p)
    by_count true e = and_true (are_same_pairs vs old) (is_same_pair vs p) (empty_pair vs p (eqb-true p.count 0 e))
    by_count false e = pushed_pair vs old p

-- the first differ
pub differ : (p s q : Bool) → p ≡ (s && q) → s ≡ false → p ≡ false
differ p s q e f = e ∙ ap (λ c. c && q) f

-- the first are the same, and the others were put
pub equal_front : (p s q old new : Bool) → p ≡ (s && q) → s ≡ true → new ≡ (old && q) → new ≡ (old && p)
equal_front p s q old new e f n = n ∙ ap (λ c. old && c) (sym (e ∙ ap (λ c. c && q) f))

-- the others were put, and what decides the first
pub deeper_front : (p s q inner old mid new : Bool) → p ≡ (s && q) → s ≡ inner → mid ≡ (old && q) → new ≡ (mid && inner) → new ≡ (old && p)
deeper_front p s q inner old mid new e f m n = n ∙ ap (λ c. c && inner) m ∙ swapped old q inner ∙ ap (λ c. old && c) (sym (e ∙ ap (λ c. c && q) f))
  where
    swapped : (a b c : Bool) → ((a && b) && c) ≡ (a && (c && b))
    swapped true true true = refl
    swapped true true false = refl
    swapped true false true = refl
    swapped true false false = refl
    swapped false b c = refl

pub found_differ : (all rest p first : Bool) → all ≡ first → all ≡ (rest && p) → p ≡ false → false ≡ first
found_differ all true p first e f g = sym g ∙ sym f ∙ e
found_differ all false p first e f g = sym f ∙ e

pub none_left : (vs : List Value) (pairs : List Pair) → length pairs ≡ 0 → are_same_pairs vs pairs ≡ true
none_left vs [] e = no_pairs vs
none_left vs (p ∷ pairs) e = absurd (omega (arith, e))
