-- The line of a congruence adds its clause exactly where the clause holds by congruence.
use Rattle.std.proofs.Common.{◌≡◌, ℕ, zero, suc, ℤ, ◌==◌, ◌⊎◌, inl, inr, Bool, true, false, not, ◌&&◌, ◌||◌, List, [], ◌∷◌, ◌++◌, Contains, Option, None, Some, slice_get, refl, sym, ap, subst, ◌∙◌, arith, append_assoc, append-nil, eqb-true, true≢false, if◌then◌else◌, int_eq}
use Rattle.std.specs.Option.{option_and_then, option_or}
use Rattle.std.specs.List.{list_any}
use Rattle.std.specs.Cmp.Lexicographic.{pointwise}
use Rattle.std.proofs.lemmas.Bool.{and_parts, and_from, or_cases, or_left, or_right, not-true}
use Rattle.std.proofs.lemmas.Bool.Decides.{Decides-int_eq}
use Rattle.std.proofs.lemmas.List.Elements.{Contains-append_right}
use Rattle.std.proofs.lemmas.Option.{same_Some}
use Rattle.df_lemmas.proofs.Alls.{none_there}
use Rattle.df_lemmas.proofs.Options.{then_some, test_some}
use Rattle.df_form.specs.declared.log.Lit.{Lit}
use Rattle.df_form.specs.declared.log.Pair.{Pair}
use Rattle.df_form.specs.Node.{Node, same_op}
use Rattle.df_form.specs.Clause.{Clause, yes, no, are_literals}
use Rattle.df_form.proofs.Same.{same_op_equal, same_op-refl}
use Rattle.df_rules.specs.Classes.{InOneClass, alone, joined, joined_all, is_together}
use Rattle.df_rules.specs.Congruence.{equality, negative_equalities, IsCongruent, AreCongruent, Closes, equals, opposites, numbers, IsCongruence}
use Rattle.df_rules.specs.CongruenceLine.{are_congruent, is_congruent, closed, is_paired, has_equality, has_positive, has_opposites, members, number_at, number_in, are_different, has_two_numbers, closes, if_closes, congruence_of, congruence_line}
use Rattle.df_rules.proofs.OneClass.{AreNames, names_of, alone_are, joined_are, joined_all_are, zipped, unzipped, is_same, OneOrBoth, one_or_both}

any_there : {A : Type 0} (test : A → Bool) (xs : List A) → list_any test xs ≡ true → (x : A) × Contains xs x × (test x ≡ true)
any_there test [] e = absurd cc
any_there {A} test (x ∷ xs) e = by (or_cases (test x) (list_any test xs) e) (any_there test xs)
  where
    by : (test x ≡ true) ⊎ (list_any test xs ≡ true) → (list_any test xs ≡ true → (y : A) × Contains xs y × (test y ≡ true)) → (y : A) × Contains (x ∷ xs) y × (test y ≡ true)
    by (inl here) rest = (x, (0, omega arith, refl), here)
    by (inr others) rest = let found = rest others in (found.0, Contains-append_right (x ∷ []) xs found.0 found.1, found.2)

there_any : {A : Type 0} (test : A → Bool) (xs : List A) (x : A) → Contains xs x → test x ≡ true → list_any test xs ≡ true
there_any test [] x there e = absurd (none_there x there)
there_any test (y ∷ ys) x (zero, lt, same) e = or_left (test y) (list_any test ys) (subst (λ z. test z ≡ true) (sym same) e)
there_any test (y ∷ ys) x (suc k, lt, same) e = or_right (test y) (list_any test ys) (there_any test ys x (k, omega (arith, lt), same) e)

module _ (nodes : List Node) (class : ℕ → ℕ) (pairs : List Pair) (are : AreNames class pairs) where
  congruent_is : (pair : Pair) → is_congruent nodes class pair ≡ true → IsCongruent nodes pairs pair
  congruent_is pair e = by (slice_get nodes pair.left) (slice_get nodes pair.right) refl refl e
    where
      by : (l r : Option Node) → slice_get nodes pair.left ≡ l → slice_get nodes pair.right ≡ r → are_congruent class l r ≡ true → IsCongruent nodes pairs pair
      by (Some a) (Some b) left right e =
          let parts = and_parts (same_op a.op b.op) (pointwise (is_together class) a.parts b.parts) e in
          record { first = a; second = b; left = left; right = right; op = same_op_equal a.op b.op parts.0; parts = zipped class pairs are a.parts b.parts parts.1 }
      by (Some a) None left right e = absurd cc
      by None (Some b) left right e = absurd cc
      by None None left right e = absurd cc

  is_congruent_there : (pair : Pair) → IsCongruent nodes pairs pair → is_congruent nodes class pair ≡ true
  is_congruent_there pair h =
      (λ i. are_congruent class (h.left i) (h.right i))
      ∙ and_from (same_op h.first.op h.second.op) (pointwise (is_together class) h.first.parts h.second.parts) (subst (λ o. same_op h.first.op o ≡ true) h.op (same_op-refl h.first.op))
      (unzipped class pairs are h.first.parts h.second.parts h.parts)

closed_are : (nodes : List Node) (class : ℕ → ℕ) (before pairs : List Pair) (next : ℕ → ℕ) → AreNames class before → closed nodes class pairs ≡ Some next → AreCongruent nodes before pairs × AreNames next (before ++ pairs)
closed_are nodes class before [] next are e = (tt, subst (λ c. AreNames c (before ++ [])) (same_Some class next e) (subst (AreNames class) (sym (append-nil before)) are))
closed_are nodes class before (pair ∷ others) next are e =
    let tested = test_some (is_congruent nodes class pair) (closed nodes (joined class pair) others) next e in
    let rest = closed_are nodes (joined class pair) (before ++ pair ∷ []) others next (joined_are class before are pair) tested.1 in
    ((congruent_is nodes class before are pair tested.0, rest.0), subst (AreNames next) (append_assoc before (pair ∷ []) others) rest.1)

are_closed : (nodes : List Node) (class : ℕ → ℕ) (before pairs : List Pair) → AreNames class before → AreCongruent nodes before pairs → (next : ℕ → ℕ) × (closed nodes class pairs ≡ Some next)
are_closed nodes class before [] are all = (class, refl)
are_closed nodes class before (pair ∷ others) are all =
    let rest = are_closed nodes (joined class pair) (before ++ pair ∷ []) others (joined_are class before are pair) all.1 in
    (rest.0, ap (λ b. if b then closed nodes (joined class pair) others else None) (is_congruent_there nodes class before are pair all.0) ∙ rest.1)

is_yes : (l : Lit) → l.positive ≡ true → l ≡ yes l.node
is_yes l e = λ i. record { positive = e i; node = l.node }

is_no : (l : Lit) → l.positive ≡ false → l ≡ no l.node
is_no l e = λ i. record { positive = e i; node = l.node }

module _ (nodes : List Node) (class : ℕ → ℕ) where
  -- the number of a class is one of its nodes
  number_there : (ns : List ℕ) (c : ℕ) (k : ℤ) → number_in nodes class ns c ≡ Some k → (m : ℕ) × Contains ns m × (class m ≡ c) × (number_at nodes m ≡ Some k)
  number_there [] c k e = absurd cc
  number_there (n ∷ others) c k e = by (number_in nodes class others c) refl e (number_there others c k)
    where
      by : (o : Option ℤ) → number_in nodes class others c ≡ o → option_or o (if class n == c then number_at nodes n else None) ≡ Some k
          → (number_in nodes class others c ≡ Some k → (m : ℕ) × Contains others m × (class m ≡ c) × (number_at nodes m ≡ Some k)) → (m : ℕ) × Contains (n ∷ others) m × (class m ≡ c) × (number_at nodes m ≡ Some k)
      by (Some x) f e go = let rest = go (f ∙ e) in (rest.0, Contains-append_right (n ∷ []) others rest.0 rest.1, rest.2, rest.3)
      by None f e go = let here = test_some (class n == c) (number_at nodes n) k e in (n, (0, omega arith, refl), eqb-true (class n) c here.0, here.1)

  there_number : (ns : List ℕ) (m : ℕ) (j : ℤ) → Contains ns m → number_at nodes m ≡ Some j → (k : ℤ) × (number_in nodes class ns (class m) ≡ Some k)
  there_number [] m j there e = absurd (none_there m there)
  there_number (n ∷ others) m j (zero, lt, same) e = by (number_in nodes class others (class m))
    where
      here : (if class n == class m then number_at nodes n else None) ≡ Some j
      here = ap (λ b. if b then number_at nodes n else None) (is_same class n m (ap class same)) ∙ ap (number_at nodes) same ∙ e

      by : (o : Option ℤ) → (k : ℤ) × (option_or o (if class n == class m then number_at nodes n else None) ≡ Some k)
      by (Some x) = (x, refl)
      by None = (j, here)
  there_number (n ∷ others) m j (suc k, lt, same) e =
      let rest = there_number others m j (k, omega (arith, lt), same) e in
      (rest.0, ap (λ o. option_or o (if class n == class m then number_at nodes n else None)) rest.1)

  differ : (a b : Option ℤ) (j k : ℤ) → a ≡ Some j → b ≡ Some k → (j ≡ k → ⊥) → are_different a b ≡ true
  differ a b j k e f apart = (λ i. are_different (e i) (f i)) ∙ by (int_eq j k) refl
    where
      by : (v : Bool) → int_eq j k ≡ v → not v ≡ true
      by true g = absurd (apart ((Decides-int_eq j k).0 g))
      by false g = refl

module _ (nodes : List Node) (clause : Clause) (class : ℕ → ℕ) (pairs : List Pair) (are : AreNames class pairs) where
  equality_closes : has_equality nodes class clause ≡ true → Closes nodes clause pairs
  equality_closes e =
      let found = any_there (λ (l : Lit). l.positive && is_paired class (equality nodes l.node)) clause e in
      let l : Lit = found.0 in
      let parts = and_parts l.positive (is_paired class (equality nodes l.node)) found.2 in
      by l (subst (Contains clause) (is_yes l parts.0) found.1) (equality nodes l.node) refl parts.1
    where
      by : (l : Lit) → Contains clause (yes l.node) → (o : Option Pair) → equality nodes l.node ≡ o → is_paired class o ≡ true → Closes nodes clause pairs
      by l there None is e = absurd cc
      by l there (Some pair) is e = equals there is (are.together pair.left pair.right (eqb-true (class pair.left) (class pair.right) e))

  opposites_close : has_opposites class clause ≡ true → Closes nodes clause pairs
  opposites_close e =
      let found = any_there (λ (l : Lit). not l.positive && has_positive class clause (class l.node)) clause e in
      let l : Lit = found.0 in
      let parts = and_parts (not l.positive) (has_positive class clause (class l.node)) found.2 in
      let other = any_there (λ (m : Lit). m.positive && class m.node == class l.node) clause parts.1 in
      let m : Lit = other.0 in
      let its = and_parts m.positive (class m.node == class l.node) other.2 in
      opposites (subst (Contains clause) (is_no l (not-true l.positive parts.0)) found.1) (subst (Contains clause) (is_yes m its.0) other.1) (are.together l.node m.node (sym (eqb-true (class m.node) (class l.node) its.1)))

  numbers_close : has_two_numbers nodes class (members pairs) ≡ true → Closes nodes clause pairs
  numbers_close e =
      let found = any_there (λ n. are_different (number_at nodes n) (number_in nodes class (members pairs) (class n))) (members pairs) e in
      by found.0 (number_at nodes found.0) (number_in nodes class (members pairs) (class found.0)) refl refl found.2
    where
      by : (n : ℕ) (a b : Option ℤ) → number_at nodes n ≡ a → number_in nodes class (members pairs) (class n) ≡ b → are_different a b ≡ true → Closes nodes clause pairs
      by n (Some j) (Some k) is its e =
          let there = number_there nodes class (members pairs) (class n) k its in
          numbers is there.3 (λ same. true≢false (sym ((Decides-int_eq j k).1 same) ∙ not-true (int_eq j k) e)) (are.together n there.0 (sym there.2))
      by n None b is its e = absurd cc
      by n (Some j) None is its e = absurd cc

  closes_is : closes nodes clause (members pairs) class ≡ true → Closes nodes clause pairs
  closes_is e = by (or_cases (has_equality nodes class clause || has_opposites class clause) (has_two_numbers nodes class (members pairs)) e)
    where
      first : (has_equality nodes class clause ≡ true) ⊎ (has_opposites class clause ≡ true) → Closes nodes clause pairs
      first (inl e) = equality_closes e
      first (inr e) = opposites_close e

      by : ((has_equality nodes class clause || has_opposites class clause) ≡ true) ⊎ (has_two_numbers nodes class (members pairs) ≡ true) → Closes nodes clause pairs
      by (inl e) = first (or_cases (has_equality nodes class clause) (has_opposites class clause) e)
      by (inr e) = numbers_close e

  two_numbers : (m n : ℕ) (j k : ℤ) → number_at nodes m ≡ Some j → number_at nodes n ≡ Some k → (j ≡ k → ⊥) → InOneClass pairs m n → has_two_numbers nodes class (members pairs) ≡ true
  two_numbers m n j k at_m at_n apart h = by (one_or_both pairs m n h)
    where
      test : ℕ → Bool
      test x = are_different (number_at nodes x) (number_in nodes class (members pairs) (class x))

      by : OneOrBoth pairs m n → list_any test (members pairs) ≡ true
      by (inl same) = absurd (apart (same_Some j k (sym at_m ∙ ap (number_at nodes) same ∙ at_n)))
      by (inr both) =
          let found = there_number nodes class (members pairs) m j both.0 at_m in
          let its : number_in nodes class (members pairs) (class n) ≡ Some found.0 = ap (number_in nodes class (members pairs)) (sym (names_of class pairs are m n h)) ∙ found.1 in
          choose found.0 found.1 its (int_eq j found.0) refl
        where
          choose : (l : ℤ) → number_in nodes class (members pairs) (class m) ≡ Some l → number_in nodes class (members pairs) (class n) ≡ Some l → (v : Bool) → int_eq j l ≡ v → list_any test (members pairs) ≡ true
          choose l one other true e =
              let same = (Decides-int_eq j l).0 e in
              there_any test (members pairs) n both.1 (differ nodes class (number_at nodes n) (number_in nodes class (members pairs) (class n)) k l at_n other (λ its. apart (same ∙ sym its)))
          choose l one other false e =
              there_any test (members pairs) m both.0
              (differ nodes class (number_at nodes m) (number_in nodes class (members pairs) (class m)) j l at_m one (λ same. true≢false (sym ((Decides-int_eq j l).1 same) ∙ e)))

  are_closing : Closes nodes clause pairs → closes nodes clause (members pairs) class ≡ true
  are_closing (equals {n} {pair} there is h) =
      or_left (has_equality nodes class clause || has_opposites class clause) (has_two_numbers nodes class (members pairs))
      (or_left (has_equality nodes class clause) (has_opposites class clause)
      (there_any (λ (l : Lit). l.positive && is_paired class (equality nodes l.node)) clause (yes n) there (ap (is_paired class) is ∙ is_same class pair.left pair.right (names_of class pairs are pair.left pair.right h))))
  are_closing (opposites {m} {n} there other h) =
      or_left (has_equality nodes class clause || has_opposites class clause) (has_two_numbers nodes class (members pairs))
      (or_right (has_equality nodes class clause) (has_opposites class clause)
      (there_any (λ (l : Lit). not l.positive && has_positive class clause (class l.node)) clause (no m) there
      (there_any (λ (l : Lit). l.positive && class l.node == class m) clause (yes n) other (is_same class n m (sym (names_of class pairs are m n h))))))
  are_closing (numbers {m} {n} {j} {k} at_m at_n apart h) =
      or_right (has_equality nodes class clause || has_opposites class clause) (has_two_numbers nodes class (members pairs)) (two_numbers m n j k at_m at_n apart h)

module _ (nodes : List Node) (clause : Clause) (pairs : List Pair) where
  abbrev equalities : List Pair
  equalities = negative_equalities nodes clause

  begin_are : AreNames (joined_all alone equalities) equalities
  begin_are = joined_all_are alone [] equalities alone_are

  pub line_is : (other : Clause) → congruence_line nodes clause pairs ≡ Some other → (other ≡ clause) × IsCongruence nodes clause pairs
  line_is other e =
      let tested = test_some (are_literals nodes clause) (congruence_of nodes clause equalities pairs) other e in
      let found = then_some (if_closes nodes clause (equalities ++ pairs)) (closed nodes (joined_all alone equalities) pairs) other tested.1 in
      let shut = test_some (closes nodes clause (members (equalities ++ pairs)) found.0) (Some clause) other found.2 in
      let are = closed_are nodes (joined_all alone equalities) equalities pairs found.0 begin_are found.1 in
      (sym (same_Some clause other shut.1), record { literals = tested.0; congruent = are.0; closes = closes_is nodes clause found.0 (equalities ++ pairs) are.1 shut.0 })

  pub is_line : IsCongruence nodes clause pairs → congruence_line nodes clause pairs ≡ Some clause
  is_line h =
      let found = are_closed nodes (joined_all alone equalities) equalities pairs begin_are h.congruent in
      let are = closed_are nodes (joined_all alone equalities) equalities pairs found.0 begin_are found.1 in
      ap (λ b. if b then congruence_of nodes clause equalities pairs else None) h.literals
      ∙ ap (option_and_then (if_closes nodes clause (equalities ++ pairs))) found.1
      ∙ ap (λ b. if b then Some clause else None) (are_closing nodes clause found.0 (equalities ++ pairs) are.1 h.closes)
