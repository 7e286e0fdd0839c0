-- The keys of a set of clauses, as clauses.
use Rattle.std.proofs.Common.{◌≡◌, ℕ, ◌+◌, ◌≤◌, Bool, true, false, ◌&&◌, ◌||◌, ◌==◌, not, cond, List, [], ◌∷◌, ◌++◌, map, length, Vec, Option, None, Some, if◌then◌else◌, refl, sym, ap, ◌∙◌, true≢false, rules, arith}
use Rattle.std.specs.List.{list_any}
use Rattle.std.specs.Cmp.Lexicographic.{pointwise, pointwise_decides}
use Rattle.std.specs.declared.alloc.Global.{Global}
use Rattle.std.proofs.lemmas.List.{map-append, length-map}
use Rattle.std.proofs.lemmas.List.Sums.{count_by-le-length}
use Rattle.std.proofs.lemmas.Option.{same_Some}
use Rattle.std.proofs.lemmas.Bool.{and_from, and_parts, eqb-true, eq-eqb}
use Rattle.df_meaning.specs.Value.{same_truth}
use Rattle.df_form.specs.declared.log.Lit.{Lit}
use Rattle.df_form.specs.Clause.{Clause, same_literal}
use Rattle.df_rules.proofs.SoundClauses.{same_literal_is}
use Rattle.df_clause.specs.declared.clause.GroundClause as declared
use Rattle.df_clause.specs.contracts.clause.GroundClausePartialEq.TheImpl as key
use Rattle.df_clause.specs.GroundClause.{GroundClause, ground_of, same_bound, same_clause}
use Rattle.df_clause.specs.Counting.{stands, with_clause, is_instance, instance_count}
use Rattle.df_clause.proofs.Joined.{count_joined}

-- the test of keys is equality of clauses
abbrev pub eq : declared.GroundClause → declared.GroundClause → Bool
eq a b = key.eq-value.it a b

-- a test of literals that decides whether they are equal
abbrev Decides : (Lit → Lit → Bool) → Type 0
Decides test = (x y : Lit) → (test x y ≡ true → x ≡ y) × (x ≡ y → test x y ≡ true)

from_test_of : (test : Lit → Lit → Bool) (xs ys : List Lit) (t : Bool) → (pointwise test xs ys && t) ≡ true → Decides test → (xs ≡ ys) × (t ≡ true)
from_test_of test xs ys t e decides = let parts = and_parts (pointwise test xs ys) t e in ((pointwise_decides decides xs ys).0 parts.0, parts.1)

to_test_of : (test : Lit → Lit → Bool) (xs ys : List Lit) (t : Bool) → Decides test → xs ≡ ys → t ≡ true → (pointwise test xs ys && t) ≡ true
to_test_of test xs ys t decides e h = rw ((pointwise_decides decides xs ys).1 e, h) refl

abbrev key_of : Vec Lit Global → Option ℕ → declared.GroundClause
key_of xs bound = record { literals = xs; bound = bound }

equal_bound : (xs ys : Vec Lit Global) (m n : Option ℕ) → eq (key_of xs m) (key_of ys n) ≡ true → m ≡ n
equal_bound xs ys None None e = refl
equal_bound xs ys None (Some n) e = let parts = from_test_of _ xs.items ys.items _ e (λ x y. (search rules, search rules)) in absurd (true≢false (sym parts.1))
equal_bound xs ys (Some m) None e = let parts = from_test_of _ xs.items ys.items _ e (λ x y. (search rules, search rules)) in absurd (true≢false (sym parts.1))
equal_bound xs ys (Some m) (Some n) e = let parts = from_test_of _ xs.items ys.items _ e (λ x y. (search rules, search rules)) in ap (λ (k : ℕ). Some k) (eqb-true m n parts.1)

equal : (a b : declared.GroundClause) → eq a b ≡ true → ground_of a ≡ ground_of b
equal a b e =
    let parts = from_test_of _ a.literals.items b.literals.items _ e (λ x y. (search rules, search rules)) in
    let bound = equal_bound a.literals b.literals a.bound b.bound e in
    λ i. record { literals = parts.0 i; bound = bound i }

equal_keys : (xs ys : Vec Lit Global) (m n : Option ℕ) → xs.items ≡ ys.items → m ≡ n → eq (key_of xs m) (key_of ys n) ≡ true
equal_keys xs ys None None e f = to_test_of _ xs.items ys.items _ (λ x y. (search rules, search rules)) e refl
equal_keys xs ys None (Some n) e f = absurd cc
equal_keys xs ys (Some m) None e f = absurd cc
equal_keys xs ys (Some m) (Some n) e f = to_test_of _ xs.items ys.items _ (λ x y. (search rules, search rules)) e (eq-eqb m n (same_Some m n f))

equal_back : (a b : declared.GroundClause) → ground_of a ≡ ground_of b → eq a b ≡ true
equal_back a b e = equal_keys a.literals b.literals a.bound b.bound (ap (λ (c : GroundClause). c.literals) e) (ap (λ (c : GroundClause). c.bound) e)

literals_are : (xs ys : Clause) → pointwise same_literal xs ys ≡ true → xs ≡ ys
literals_are [] [] e = refl
literals_are [] (y ∷ ys) e = absurd (true≢false (sym e))
literals_are (x ∷ xs) [] e = absurd (true≢false (sym e))
literals_are (x ∷ xs) (y ∷ ys) e =
    let parts = and_parts (same_literal x y) (pointwise same_literal xs ys) e in
    let head = same_literal_is x y parts.0 in
    let tail = literals_are xs ys parts.1 in
    λ i. head i ∷ tail i

literal_itself : (l : Lit) → same_literal l l ≡ true
literal_itself l = by l.positive
  where
    by : (b : Bool) → (same_truth b b && l.node == l.node) ≡ true
    by true = eq-eqb l.node l.node refl
    by false = eq-eqb l.node l.node refl

literals_themselves : (xs : Clause) → pointwise same_literal xs xs ≡ true
literals_themselves [] = refl
literals_themselves (x ∷ xs) = and_from (same_literal x x) (pointwise same_literal xs xs) (literal_itself x) (literals_themselves xs)

bound_is : (a b : Option ℕ) → same_bound a b ≡ true → a ≡ b
bound_is None None e = refl
bound_is None (Some n) e = absurd (true≢false (sym e))
bound_is (Some m) None e = absurd (true≢false (sym e))
bound_is (Some m) (Some n) e = ap (λ (k : ℕ). Some k) (eqb-true m n e)

bound_itself : (a : Option ℕ) → same_bound a a ≡ true
bound_itself None = refl
bound_itself (Some n) = eq-eqb n n refl

pub same_clause_is : (a b : GroundClause) → same_clause a b ≡ true → a ≡ b
same_clause_is a b e =
    let parts = and_parts (pointwise same_literal a.literals b.literals) (same_bound a.bound b.bound) e in
    let literals = literals_are a.literals b.literals parts.0 in
    let bound = bound_is a.bound b.bound parts.1 in
    λ i. record { literals = literals i; bound = bound i }

pub clause_itself : (a : GroundClause) → same_clause a a ≡ true
clause_itself a = and_from (pointwise same_literal a.literals a.literals) (same_bound a.bound a.bound) (literals_themselves a.literals) (bound_itself a.bound)

-- the two tests say the same
test_is : (a b : declared.GroundClause) → eq a b ≡ same_clause (ground_of a) (ground_of b)
test_is a b = by (eq a b) (same_clause (ground_of a) (ground_of b)) refl refl
  where
    by : (p q : Bool) → eq a b ≡ p → same_clause (ground_of a) (ground_of b) ≡ q → p ≡ q
    by true true e f = refl
    by false false e f = refl
    by true false e f = absurd (true≢false (sym (ap (same_clause (ground_of a)) (sym (equal a b e)) ∙ clause_itself (ground_of a)) ∙ f))
    by false true e f = absurd (true≢false (sym (equal_back a b (same_clause_is (ground_of a) (ground_of b) f)) ∙ e))

pub any_is : (x : declared.GroundClause) (keys : List declared.GroundClause) → list_any (eq x) keys ≡ stands (map ground_of keys) (ground_of x)
any_is x [] = refl
any_is x (k ∷ keys) = λ i. test_is x k i || any_is x keys i

-- one more key is one more clause, unless the same one is there
pub keys_more : (old new : List declared.GroundClause) (x : declared.GroundClause) → new ≡ cond (list_any (eq x) old) old (old ++ x ∷ []) → map ground_of new ≡ with_clause (map ground_of old) (ground_of x)
keys_more old new x is = ap (map ground_of) is ∙ by (list_any (eq x) old) refl
  where
    clauses : List GroundClause
    clauses = map ground_of old

    by : (b : Bool) → list_any (eq x) old ≡ b → map ground_of (cond (list_any (eq x) old) old (old ++ x ∷ [])) ≡ with_clause clauses (ground_of x)
    by true e =
        let f = sym (any_is x old) ∙ e in
        ap (λ (b : Bool). map ground_of (cond b old (old ++ x ∷ []))) e ∙ sym (ap (λ (b : Bool). if b then clauses else clauses ++ ground_of x ∷ []) f)
    by false e =
        let f = sym (any_is x old) ∙ e in
        ap (λ (b : Bool). map ground_of (cond b old (old ++ x ∷ []))) e ∙ map-append ground_of old (x ∷ []) ∙ sym (ap (λ (b : Bool). if b then clauses else clauses ++ ground_of x ∷ []) f)

-- ---- how many count

pub instances_within : (keys : List declared.GroundClause) → instance_count (map ground_of keys) ≤ length keys
instances_within keys =
    let most = count_by-le-length is_instance (map ground_of keys) in
    let long = length-map keys ground_of in
    omega (arith, most, long)

-- one more key is one more instance, where it is new and bound to no equality
pub keys_counted : (old new : List declared.GroundClause) (x : declared.GroundClause) (count : ℕ) (is_new counts : Bool) → is_new ≡ not (list_any (eq x) old) → new ≡ cond (list_any (eq x) old) old (old ++ x ∷ []) → counts ≡ is_instance (ground_of x) → count ≡ instance_count (map ground_of old)
    → count + (if is_new && counts then 1 else 0) ≡ instance_count (map ground_of new)
keys_counted old new x count is_new counts told is own so_far = by (list_any (eq x) old) refl
  where
    clauses : List GroundClause
    clauses = map ground_of old

    one : (c : GroundClause) (b : Bool) → b ≡ is_instance c → ◌≡◌ {A = ℕ} (if true && b then 1 else 0) (instance_count (c ∷ []))
    one c b e = ap (λ (t : Bool). if true && t then 1 else 0) e ∙ by_bound c.bound
      where
        by_bound : (bound : Option ℕ) → ◌≡◌ {A = ℕ} (if true && is_instance (record { literals = c.literals; bound = bound }) then 1 else 0) (instance_count (record { literals = c.literals; bound = bound } ∷ []))
        by_bound None = refl
        by_bound (Some n) = refl

    by : (b : Bool) → list_any (eq x) old ≡ b → count + (if is_new && counts then 1 else 0) ≡ instance_count (map ground_of new)
    by true e =
        let none : ◌≡◌ {A = ℕ} (if is_new && counts then 1 else 0) 0 = ap (λ (t : Bool). if t && counts then 1 else 0) (told ∙ ap not e) in
        let same : instance_count (map ground_of (cond (list_any (eq x) old) old (old ++ x ∷ []))) ≡ instance_count clauses = ap (λ (b : Bool). instance_count (map ground_of (cond b old (old ++ x ∷ [])))) e in
        let all = ap (λ (ks : List declared.GroundClause). instance_count (map ground_of ks)) is ∙ same in
        omega (arith, none, all, so_far)
    by false e =
        let some : ◌≡◌ {A = ℕ} (if is_new && counts then 1 else 0) (instance_count (ground_of x ∷ [])) = ap (λ (t : Bool). if t && counts then 1 else 0) (told ∙ ap not e) ∙ one (ground_of x) counts own in
        let more : map ground_of (old ++ x ∷ []) ≡ clauses ++ ground_of x ∷ [] = map-append ground_of old (x ∷ []) in
        let all : instance_count (map ground_of new) ≡ instance_count (clauses ++ ground_of x ∷ []) =
        ap (λ (ks : List declared.GroundClause). instance_count (map ground_of ks)) is ∙ ap (λ (b : Bool). instance_count (map ground_of (cond b old (old ++ x ∷ [])))) e ∙ ap instance_count more in
        let joined = count_joined clauses (ground_of x ∷ []) in
        omega (arith, some, all, joined, so_far)
