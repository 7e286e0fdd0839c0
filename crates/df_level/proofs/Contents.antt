-- Greatest common divisors of coefficients, and quotients by them.
use Rattle.std.proofs.Common.{◌≡◌, ℕ, zero, suc, ◌+◌, length, get_or, add-one, ◌/◌, ◌<◌, ◌≤◌, ℤ, pos, negsuc, Bool, true, false, cond, ◌&&◌, nat_eq, nat_le, max, map, List, [], ◌∷◌, drop, refl, sym, ap, subst, ◌∙◌, arith}
use Rattle.std.proofs.Math.Nat.{zero-div, one-dvd}
use Rattle.std.proofs.Math.Seq.{drop-cons}
use Rattle.std.proofs.lemmas.List.{drop_all}
use Rattle.std.proofs.lemmas.Int.{ints}
use Rattle.std.proofs.lemmas.Nat.{le-div}
use Rattle.std.proofs.lemmas.Nat.Gcd.{dvd_refl, dvd-zero, dvd_trans, le_of_dvd}
use Rattle.std.proofs.lemmas.Bool.{true≢false, eq-eqb, eqb-true, and_parts}
use Rattle.std.specs.Int.{IsGcd, ◌∣◌}
use Rattle.std.specs.Int.RustNames.{unsigned_abs}
use Rattle.df_row.specs.Linear.{quotient}
use Rattle.df_level.specs.Entries.{coefficient_of, has_coefficient, ascends}
use Rattle.df_level.specs.Division.{IsContent, divisor_of, quotient_entry, quotient_row, IsDivisor as IsRowDivisor}
use Rattle.df_level.proofs.Ascending.{IsFrom, from_test, none_below}
use Rattle.df_level.specs.Row.{entries_row}

-- the greatest common divisor of a number and of the coefficients
pub record IsDivisor (g : ℕ) (es : List (ℕ × ℤ)) (d : ℕ) : Type 0 where
  pub first : d ∣ g
  pub each : (n : ℕ) → d ∣ unsigned_abs (coefficient_of es n)
  pub greatest : (e : ℕ) → e ∣ g → ((n : ℕ) → e ∣ unsigned_abs (coefficient_of es n)) → e ∣ d

-- The divisor so far and the entries that are left have that of all.
pub record IsDividing (g : ℕ) (left all : List (ℕ × ℤ)) : Type 0 where
  pub low : ℕ
  pub from : IsFrom low left
  pub then : (d : ℕ) → IsDivisor g left d → IsDivisor 0 all d

pub dividing_begins : (all : List (ℕ × ℤ)) → ascends 0 all ≡ true → IsDividing 0 all all
dividing_begins all e = record { low = 0; from = from_test 0 all e; then = λ d h. h }

module _ (g next : ℕ) (m : ℕ) (c : ℤ) (es : List (ℕ × ℤ)) (gcd : IsGcd g (unsigned_abs c) next) (from : IsFrom (suc m) es) where
  one_more : (d : ℕ) → IsDivisor next es d → IsDivisor g ((m, c) ∷ es) d
  one_more d h = record { first = dvd_trans d h.first gcd.0; each = each; greatest = greatest }
    where
      each : (n : ℕ) → d ∣ unsigned_abs (coefficient_of ((m, c) ∷ es) n)
      each n = by (nat_eq n m) refl
        where
          by : (v : Bool) → nat_eq n m ≡ v → d ∣ unsigned_abs (coefficient_of ((m, c) ∷ es) n)
          by true v = let Q : Bool → Type 0 = λ t. d ∣ unsigned_abs (cond t c (coefficient_of es n)) in subst Q (sym v) (dvd_trans d h.first gcd.1)
          by false v = let Q : Bool → Type 0 = λ t. d ∣ unsigned_abs (cond t c (coefficient_of es n)) in subst Q (sym v) (h.each n)

      greatest : (e : ℕ) → e ∣ g → ((n : ℕ) → e ∣ unsigned_abs (coefficient_of ((m, c) ∷ es) n)) → e ∣ d
      greatest e first all = h.greatest e (gcd.2 e first here) others
        where
          here : e ∣ unsigned_abs c
          here = let Q : Bool → Type 0 = λ t. e ∣ unsigned_abs (cond t c (coefficient_of es m)) in subst Q (eq-eqb m m refl) (all m)

          others : (n : ℕ) → e ∣ unsigned_abs (coefficient_of es n)
          others n = by (nat_eq n m) refl
            where
              by : (v : Bool) → nat_eq n m ≡ v → e ∣ unsigned_abs (coefficient_of es n)
              by true v =
                  let is = eqb-true n m v in
                  let R : ℤ → Type 0 = λ z. e ∣ unsigned_abs z in
                  subst R (sym (none_below (suc m) es n from (omega arith))) (dvd-zero e)
              by false v = let Q : Bool → Type 0 = λ t. e ∣ unsigned_abs (cond t c (coefficient_of es n)) in subst Q v (all n)

pub dividing_goes : (g next m : ℕ) (c : ℤ) (es all : List (ℕ × ℤ)) → IsDividing g ((m, c) ∷ es) all → IsGcd g (unsigned_abs c) next → IsDividing next es all
dividing_goes g next m c es all h gcd = record { low = suc m; from = h.from.2; then = λ d k. h.then d (one_more g next m c es gcd h.from.2 d k) }

pub dividing_ends : (g : ℕ) (all : List (ℕ × ℤ)) → IsDividing g [] all → IsContent (coefficient_of all) g
dividing_ends g all h =
    let is = h.then g (record { first = dvd_refl g; each = λ n. dvd-zero g; greatest = λ e first each. first }) in
    record { each = is.each; greatest = λ e each. is.greatest e (dvd-zero e) each }

pub dividing_on : (g next i x : ℕ) (all : List (ℕ × ℤ)) → IsDividing g (drop i all) all → i < length all → IsGcd g x next → x ≡ unsigned_abs (get_or all i (0, pos 0)).1 → IsDividing next (drop (i + 1) all) all
dividing_on g next i x all h less gcd is =
    let e = get_or all i (0, pos 0) in
    let P : List (ℕ × ℤ) → Type 0 = λ left. IsDividing g left all in
    let Q : ℕ → Type 0 = λ y. IsGcd g y next in
    let R : ℕ → Type 0 = λ j. IsDividing next (drop j all) all in
    subst R (sym (add-one i)) (dividing_goes g next e.0 e.1 (drop (suc i) all) all (subst P (drop-cons all i (0, pos 0) less) h) (subst Q is gcd))

pub dividing_done : (g i : ℕ) (all : List (ℕ × ℤ)) → IsDividing g (drop i all) all → length all ≤ i → IsContent (coefficient_of all) g
dividing_done g i all h past =
    let P : List (ℕ × ℤ) → Type 0 = λ left. IsDividing g left all in
    dividing_ends g all (subst P (drop_all i all past) h)

-- quotients
pub quotient_zero : (d : ℕ) → quotient (pos 0) (pos d) ≡ pos 0
quotient_zero d = ap pos (zero-div d)

pub quotient_coefficient : (d : ℕ) (es : List (ℕ × ℤ)) (n : ℕ) → coefficient_of (map (quotient_entry d) es) n ≡ quotient (coefficient_of es n) (pos d)
quotient_coefficient d [] n = sym (quotient_zero d)
quotient_coefficient d ((m, c) ∷ es) n = by (nat_eq n m) refl (quotient_coefficient d es n)
  where
    by : (v : Bool) → nat_eq n m ≡ v → coefficient_of (map (quotient_entry d) es) n ≡ quotient (coefficient_of es n) (pos d) → coefficient_of (map (quotient_entry d) ((m, c) ∷ es)) n ≡ quotient (coefficient_of ((m, c) ∷ es) n) (pos d)
    by true v rest = rw v refl
    by false v rest = rw v rest

stays_apart : (d : ℕ) (c : ℤ) → 0 < d → d ∣ unsigned_abs c → has_coefficient c ≡ true → has_coefficient (quotient c (pos d)) ≡ true
stays_apart d (pos zero) low h has = absurd (true≢false (sym has))
stays_apart d (pos (suc n)) low h has =
    let le : d ≤ suc n = le_of_dvd (omega arith) h in
    let some : 1 ≤ suc n / d = le-div 1 (suc n) d low (omega arith) in
    above (suc n / d) some
  where
    above : (k : ℕ) → 1 ≤ k → has_coefficient (pos k) ≡ true
    above zero h = absurd (omega arith)
    above (suc k) h = grind (arith, ints)
stays_apart d (negsuc n) low h has = refl

-- the divisor divides each entry
abbrev Divides : ℕ → List (ℕ × ℤ) → Type 0
Divides d [] = Unit
Divides d (e ∷ es) = (d ∣ unsigned_abs e.1) × Divides d es

divides_each : (d low : ℕ) (es : List (ℕ × ℤ)) → IsFrom low es → ((n : ℕ) → d ∣ unsigned_abs (coefficient_of es n)) → Divides d es
divides_each d low [] from h = tt
divides_each d low ((m, c) ∷ es) from h = (here, divides_each d (suc m) es from.2 others)
  where
    here : d ∣ unsigned_abs c
    here = let Q : Bool → Type 0 = λ t. d ∣ unsigned_abs (cond t c (coefficient_of es m)) in subst Q (eq-eqb m m refl) (h m)

    others : (n : ℕ) → d ∣ unsigned_abs (coefficient_of es n)
    others n = by (nat_eq n m) refl
      where
        by : (v : Bool) → nat_eq n m ≡ v → d ∣ unsigned_abs (coefficient_of es n)
        by true v =
            let is = eqb-true n m v in
            let R : ℤ → Type 0 = λ z. d ∣ unsigned_abs z in
            subst R (sym (none_below (suc m) es n from.2 (omega arith))) (dvd-zero d)
        by false v = let Q : Bool → Type 0 = λ t. d ∣ unsigned_abs (cond t c (coefficient_of es n)) in subst Q v (h n)

quotients_ascend : (d low : ℕ) (es : List (ℕ × ℤ)) → 0 < d → Divides d es → ascends low es ≡ true → ascends low (map (quotient_entry d) es) ≡ true
quotients_ascend d low [] some h e = refl
quotients_ascend d low ((m, c) ∷ es) some h e =
    let first = and_parts (nat_le low m) (has_coefficient c && ascends (suc m) es) e in
    let second = and_parts (has_coefficient c) (ascends (suc m) es) first.1 in
    rw (first.0, stays_apart d c some h.0 second.0) (quotients_ascend d (suc m) es some h.1 second.1)

-- the greatest divisor, or 1
pub at_least_one : (g : ℕ) → max g 1 ≡ divisor_of g
at_least_one zero = refl
at_least_one (suc g) = omega arith

one_divides : (n : ℕ) → 1 ∣ n
one_divides n = one-dvd n

pub divisor_divides : (g n : ℕ) → g ∣ n → divisor_of g ∣ n
divisor_divides zero n h = one_divides n
divisor_divides (suc g) n h = h

pub some_divisor : (g : ℕ) → 0 < divisor_of g
some_divisor zero = omega arith
some_divisor (suc g) = omega arith

pub divided_ascends : (g : ℕ) (es : List (ℕ × ℤ)) → IsContent (coefficient_of es) g → ascends 0 es ≡ true → ascends 0 (map (quotient_entry (divisor_of g)) es) ≡ true
divided_ascends g es h e = quotients_ascend (divisor_of g) 0 es (some_divisor g) (divides_each (divisor_of g) 0 es (from_test 0 es e) (λ n. divisor_divides g (unsigned_abs (coefficient_of es n)) (h.each n))) e

pub quotient_ordered : (d : ℕ) (es quotients : List (ℕ × ℤ)) (k : ℤ) → IsRowDivisor (entries_row es k) d → ascends 0 es ≡ true → quotients ≡ map (quotient_entry d) es → ascends 0 quotients ≡ true
quotient_ordered d es quotients k h e is = rw (is, h.is) (divided_ascends h.content es h.is_content e)

pub quotient_of_row : (d : ℕ) (es quotients : List (ℕ × ℤ)) (k z : ℤ) → quotients ≡ map (quotient_entry d) es → z ≡ quotient k (pos d) → entries_row quotients z ≡ quotient_row d (entries_row es k)
quotient_of_row d es quotients k z q r = rw (q, r) (λ i. record { coefficient = λ n. quotient_coefficient d es n i; constant = quotient k (pos d) })

-- the greatest common divisor, or 1
pub divisor_is : (g d : ℕ) (z : ℤ) (es all : List (ℕ × ℤ)) → IsContent (coefficient_of all) g → all ≡ es → d ≡ max g 1 → IsRowDivisor (entries_row es z) d
divisor_is g d z es all h same e = let P : List (ℕ × ℤ) → Type 0 = λ x. IsContent (coefficient_of x) g in record { content = g; is_content = subst P same h; is = e ∙ at_least_one g }
