-- Pairs of a line of congruence, and the least congruence.
use Rattle.std.proofs.Common.{◌≡◌, ℕ, zero, suc, ◌⊎◌, inl, inr, List, [], ◌∷◌, ◌++◌, Contains, slice_get, Some, refl, sym, subst, arith, append_assoc, append-nil}
use Rattle.std.specs.List.{AllZip}
use Rattle.std.proofs.lemmas.List.Elements.{Contains-append_left, Contains-append_right, Contains-append_cases}
use Rattle.df_form.specs.declared.log.Pair.{Pair}
use Rattle.df_form.specs.Node.{Node}
use Rattle.df_rules.specs.Classes.{InOneClass}
use Rattle.df_rules.specs.Classes as class
use Rattle.df_rules.specs.Congruence.{IsCongruent, AreCongruent}
use Rattle.df_rules.proofs.OneClass.{wider}
use Rattle.df_classes.specs.Equal.{AreEqual, AreAllEqual, named, itself, turned, through, applied, none, both}

abbrev pub AllAmong : List Pair → List Pair → Type 0
AllAmong few many = (pair : Pair) → Contains few pair → Contains many pair

-- ---- more pairs before

pub zip_wider : (few many : List Pair) → AllAmong few many → (xs ys : List ℕ) → AllZip (InOneClass few) xs ys → AllZip (InOneClass many) xs ys
zip_wider few many more [] [] all = tt
zip_wider few many more [] (y ∷ ys) all = absurd all
zip_wider few many more (x ∷ xs) [] all = absurd all
zip_wider few many more (x ∷ xs) (y ∷ ys) all = (wider few many more x y all.0, zip_wider few many more xs ys all.1)

pub congruent_wider : (nodes : List Node) (few many : List Pair) → AllAmong few many → (pair : Pair) → IsCongruent nodes few pair → IsCongruent nodes many pair
congruent_wider nodes few many more pair h = record {
  first = h.first;
  second = h.second;
  left = h.left;
  right = h.right;
  op = h.op;
  parts = zip_wider few many more h.first.parts h.second.parts h.parts;
}

one_more : (few many : List Pair) (pair : Pair) → AllAmong few many → AllAmong (few ++ pair ∷ []) (many ++ pair ∷ [])
one_more few many pair more q there = by (Contains-append_cases few (pair ∷ []) q there)
  where
    by : Contains few q ⊎ Contains (pair ∷ []) q → Contains (many ++ pair ∷ []) q
    by (inl old) = Contains-append_left many (pair ∷ []) q (more q old)
    by (inr new) = Contains-append_right many (pair ∷ []) q new

pub congruents_wider : (nodes : List Node) (few many : List Pair) → AllAmong few many → (pairs : List Pair) → AreCongruent nodes few pairs → AreCongruent nodes many pairs
congruents_wider nodes few many more [] all = tt
congruents_wider nodes few many more (pair ∷ others) all =
    (congruent_wider nodes few many more pair all.0, congruents_wider nodes (few ++ pair ∷ []) (many ++ pair ∷ []) (one_more few many pair more) others all.1)

-- ---- pairs behind pairs

pub congruents_join : (nodes : List Node) (before first second : List Pair) → AreCongruent nodes before first → AreCongruent nodes (before ++ first) second → AreCongruent nodes before (first ++ second)
congruents_join nodes before [] second all more = subst (λ b. AreCongruent nodes b second) (append-nil before) more
congruents_join nodes before (pair ∷ others) second all more =
    (all.0, congruents_join nodes (before ++ pair ∷ []) others second all.1 (subst (λ b. AreCongruent nodes b second) (sym (append_assoc before (pair ∷ []) others)) more))

pub congruents_both : (nodes : List Node) (before first second : List Pair) → AreCongruent nodes before first → AreCongruent nodes before second → AreCongruent nodes before (first ++ second)
congruents_both nodes before first second all more =
    congruents_join nodes before first second all (congruents_wider nodes before (before ++ first) (λ q there. Contains-append_left before first q there) second more)

left_among : (before first second : List Pair) → AllAmong (before ++ first) (before ++ (first ++ second))
left_among before first second q there = subst (λ ps. Contains ps q) (append_assoc before first second) (Contains-append_left (before ++ first) second q there)

right_among : (before first second : List Pair) → AllAmong (before ++ second) (before ++ (first ++ second))
right_among before first second q there = by (Contains-append_cases before second q there)
  where
    by : Contains before q ⊎ Contains second q → Contains (before ++ (first ++ second)) q
    by (inl old) = Contains-append_left before (first ++ second) q old
    by (inr new) = Contains-append_right before (first ++ second) q (Contains-append_right first second q new)

-- ---- the least congruence has pairs

pub record HasPairs (nodes : List Node) (before : List Pair) (a b : ℕ) : Type 0 where
  pub pairs : List Pair
  pub congruent : AreCongruent nodes before pairs
  pub together : InOneClass (before ++ pairs) a b

pub record HavePairs (nodes : List Node) (before : List Pair) (xs ys : List ℕ) : Type 0 where
  pub pairs : List Pair
  pub congruent : AreCongruent nodes before pairs
  pub together : AllZip (InOneClass (before ++ pairs)) xs ys

module _ (nodes : List Node) (before : List Pair) where
  with_none : (a b : ℕ) → InOneClass before a b → HasPairs nodes before a b
  with_none a b h = record { pairs = []; congruent = tt; together = subst (λ ps. InOneClass ps a b) (sym (append-nil before)) h }

  turned_pairs : (a b : ℕ) → HasPairs nodes before a b → HasPairs nodes before b a
  turned_pairs a b h = record { pairs = h.pairs; congruent = h.congruent; together = class.turned h.together }

  joined_pairs : (a b c : ℕ) → HasPairs nodes before a b → HasPairs nodes before b c → HasPairs nodes before a c
  joined_pairs a b c h k = record {
    pairs = h.pairs ++ k.pairs;
    congruent = congruents_both nodes before h.pairs k.pairs h.congruent k.congruent;
    together = class.through (wider (before ++ h.pairs) (before ++ (h.pairs ++ k.pairs)) (left_among before h.pairs k.pairs) a b h.together) (wider (before ++ k.pairs) (before ++ (h.pairs ++ k.pairs)) (right_among before h.pairs k.pairs) b c k.together);
  }

  no_pairs : HavePairs nodes before [] []
  no_pairs = record { pairs = []; congruent = tt; together = tt }

  more_pairs : (a b : ℕ) (xs ys : List ℕ) → HasPairs nodes before a b → HavePairs nodes before xs ys → HavePairs nodes before (a ∷ xs) (b ∷ ys)
  more_pairs a b xs ys h k = record {
    pairs = h.pairs ++ k.pairs;
    congruent = congruents_both nodes before h.pairs k.pairs h.congruent k.congruent;
    together = (wider (before ++ h.pairs) (before ++ (h.pairs ++ k.pairs)) (left_among before h.pairs k.pairs) a b h.together, zip_wider (before ++ k.pairs) (before ++ (h.pairs ++ k.pairs)) (right_among before h.pairs k.pairs) xs ys k.together);
  }

  applied_pairs : (a b : ℕ) (first second : Node) → slice_get nodes a ≡ Some first → slice_get nodes b ≡ Some second → first.op ≡ second.op → HavePairs nodes before first.parts second.parts → HasPairs nodes before a b
  applied_pairs a b first second left right op h =
      let pair : Pair = record { left = a; right = b } in
      let congruent : IsCongruent nodes (before ++ h.pairs) pair = record { first = first; second = second; left = left; right = right; op = op; parts = h.together } in
      record {
        pairs = h.pairs ++ pair ∷ [];
        congruent = congruents_join nodes before h.pairs (pair ∷ []) h.congruent (congruent, tt);
        together = class.named (Contains-append_right before (h.pairs ++ pair ∷ []) pair (Contains-append_right h.pairs (pair ∷ []) pair (0, omega arith, refl)));
      }

  mutual
    pub pairs_of : (a b : ℕ) → AreEqual nodes before a b → HasPairs nodes before a b
    pairs_of a b (named {pair} there) = with_none pair.left pair.right (class.named there)
    pairs_of a b itself = with_none a a class.itself
    pairs_of a b (turned h) = turned_pairs b a (pairs_of b a h)
    pairs_of a b (through {b = m} h k) = joined_pairs a m b (pairs_of a m h) (pairs_of m b k)
    pairs_of a b (applied {first} {second} left right op all) = applied_pairs a b first second left right op (pairs_of_all first.parts second.parts all)

    pub pairs_of_all : (xs ys : List ℕ) → AreAllEqual nodes before xs ys → HavePairs nodes before xs ys
    pairs_of_all xs ys none = no_pairs
    pairs_of_all xs ys (both {a} {b} {xs = us} {ys = vs} h more) = more_pairs a b us vs (pairs_of a b h) (pairs_of_all us vs more)

-- ---- and pairs are in the least congruence

module _ (nodes : List Node) (equalities : List Pair) where
  abbrev pub AllEqual : List Pair → Type 0
  AllEqual pairs = (pair : Pair) → Contains pairs pair → AreEqual nodes equalities pair.left pair.right

  pub class_equal : (pairs : List Pair) → AllEqual pairs → (a b : ℕ) → InOneClass pairs a b → AreEqual nodes equalities a b
  class_equal pairs all a b (class.named {pair} there) = all pair there
  class_equal pairs all a b class.itself = itself
  class_equal pairs all a b (class.turned h) = turned (class_equal pairs all b a h)
  class_equal pairs all a b (class.through {b = m} h k) = through (class_equal pairs all a m h) (class_equal pairs all m b k)

  zip_equal : (pairs : List Pair) → AllEqual pairs → (xs ys : List ℕ) → AllZip (InOneClass pairs) xs ys → AreAllEqual nodes equalities xs ys
  zip_equal pairs all [] [] zipped = none
  zip_equal pairs all [] (y ∷ ys) zipped = absurd zipped
  zip_equal pairs all (x ∷ xs) [] zipped = absurd zipped
  zip_equal pairs all (x ∷ xs) (y ∷ ys) zipped = both (class_equal pairs all x y zipped.0) (zip_equal pairs all xs ys zipped.1)

  congruent_equal : (pairs : List Pair) → AllEqual pairs → (pair : Pair) → IsCongruent nodes pairs pair → AreEqual nodes equalities pair.left pair.right
  congruent_equal pairs all pair h = applied h.left h.right h.op (zip_equal pairs all h.first.parts h.second.parts h.parts)

  with_one : (pairs : List Pair) → AllEqual pairs → (pair : Pair) → AreEqual nodes equalities pair.left pair.right → AllEqual (pairs ++ pair ∷ [])
  with_one pairs all pair h q there = by (Contains-append_cases pairs (pair ∷ []) q there)
    where
      by : Contains pairs q ⊎ Contains (pair ∷ []) q → AreEqual nodes equalities q.left q.right
      by (inl old) = all q old
      by (inr (zero, lt, e)) = subst (λ (p : Pair). AreEqual nodes equalities p.left p.right) e h
      by (inr (suc k, lt, e)) = absurd (omega (arith, lt))

  congruents_equal : (before pairs : List Pair) → AllEqual before → AreCongruent nodes before pairs → AllEqual (before ++ pairs)
  congruents_equal before [] all congruent = subst AllEqual (sym (append-nil before)) all
  congruents_equal before (pair ∷ others) all congruent =
      subst AllEqual (append_assoc before (pair ∷ []) others) (congruents_equal (before ++ pair ∷ []) others (with_one before all pair (congruent_equal before all pair congruent.0)) congruent.1)

  pub pairs_equal : (pairs : List Pair) → AreCongruent nodes equalities pairs → AllEqual (equalities ++ pairs)
  pairs_equal pairs congruent = congruents_equal equalities pairs (λ pair there. named there) congruent
