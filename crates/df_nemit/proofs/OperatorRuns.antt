-- The machine's operators do what those of programs do.
use Rattle.std.proofs.Common.{◌≡◌, ℕ, zero, suc, ℤ, pos, negsuc, ◌+◌, ◌<◌, Bool, true, false, cond, not, List, [], ◌∷◌, length, Option, Some, None, refl, sym, ap, ◌∙◌, subst, arith}
use Rattle.std.specs.Prelude.{slice_get, int_le, int_lt, nat_lt, nat_le, neg_ℤ, ◌*ℤ◌, ◌&&◌}
use Rattle.std.specs.Ordering.{int_eq}
use Rattle.std.specs.Int.{int_div_euclid, int_rem_euclid}
use Rattle.std.proofs.lemmas.Bool.Decides.{nat_tests}
use Rattle.std.proofs.lemmas.Int.{ints}
use Rattle.df_lang.specs.declared.expr.AddendOperator.{AddendOperator}
use Rattle.df_lang.specs.declared.expr.AddendOperator.TheVariants as addends
use Rattle.df_lang.specs.declared.expr.FactorOperator.{FactorOperator}
use Rattle.df_lang.specs.declared.expr.FactorOperator.TheVariants as factors
use Rattle.df_lang.specs.declared.expr.Comparison.{Comparison}
use Rattle.df_lang.specs.declared.expr.Comparison.TheVariants as comparisons
use Rattle.df_meaning.specs.Value.{Value, same_truth, same_value}
use Rattle.df_meaning.specs.Value as values
use Rattle.df_nplain.specs.Kind.{Range, Between, Unbounded, Kind}
use Rattle.df_nplain.specs.Kind as kinds
use Rattle.df_nplain.specs.Bounded.{is_interval}
use Rattle.df_nplain.specs.Outcome.{Outcome, Wrong, TooDeep, Stuck, after}
use Rattle.df_nplain.specs.Outcome as outcomes
use Rattle.df_nplain.specs.State.{State}
use Rattle.df_nplain.specs.Evaluation.{number_in, truth_in, number_from, in_range, as_kind, added, product, multiplied, equivalent, compared}
use Rattle.df_nmach.specs.declared.instruction.UnaryOperator.{UnaryOperator}
use Rattle.df_nmach.specs.declared.instruction.UnaryOperator.TheVariants as unaries
use Rattle.df_nmach.specs.declared.instruction.BinaryOperator.{BinaryOperator}
use Rattle.df_nmach.specs.declared.instruction.BinaryOperator.TheVariants as binaries
use Rattle.df_nmach.specs.declared.instruction.Instruction.{Instruction}
use Rattle.df_nmach.specs.declared.instruction.Instruction.TheVariants as i
use Rattle.df_nmach.specs.Value as mach
use Rattle.df_nmach.specs.Step.{given, within, divisor, unary, binary, leaves, effect}
use Rattle.df_nemit.specs.Code.{range_of, adds, multiplies, compare, from_kind, to_kind}
use Rattle.df_nemit.specs.Correct.{is_simple}
use Rattle.df_nemit.specs.Ending.{machine_value}
use Rattle.df_nemit.proofs.Reach.{HasAt, World, instructions, frame, Still, still_none, still_on, still_one, still_carries, Gives, gives_after, gives_to, Tells}

pub below : (m n : ℕ) → m < n → nat_lt m n ≡ true
below m n lt = grind (arith, nat_tests)

-- what an operator of the machine gives, where an outcome is a value
abbrev pub Same : Outcome Value → Option mach.Value → Type 0
Same (outcomes.Gives v) x = (is_simple v ≡ true) × (x ≡ Some (machine_value v))
Same (Wrong fault) x = Unit {0}
Same TooDeep x = Unit {0}
Same Stuck x = Unit {0}

result_gives : (w : World) (q : ℕ) (s : State) (o1 o : List mach.Value) (instruction : Instruction) (r : Outcome Value) (x : Option mach.Value) → slice_get (instructions w) q ≡ Some instruction
    → ((l : List mach.Value) → effect w.code w.method w.heap (frame w q l o1) instruction o1 ≡ given x (λ v. leaves w.heap (frame w q l o1) (v ∷ o))) → Same r x → Gives w q s o1 (q + 1) o r
result_gives w q s o1 o instruction (outcomes.Gives v) x h e same =
    (same.0, still_carries w q s o1 (q + 1) (machine_value v ∷ o) (still_one w q (q + 1) o1 (machine_value v ∷ o) instruction h (λ l. e l ∙ ap (λ (y : Option mach.Value). given y (λ u. leaves w.heap (frame w q l o1) (u ∷ o))) same.1)))
result_gives w q s o1 o instruction (Wrong fault) x h e same = tt
result_gives w q s o1 o instruction TooDeep x h e same = tt
result_gives w q s o1 o instruction Stuck x h e same = tt

pub unary_gives : (w : World) (q : ℕ) (s : State) (x : mach.Value) (o : List mach.Value) (operator : UnaryOperator) (r : Outcome Value) → slice_get (instructions w) q ≡ Some (i.Unary operator)
    → Same r (unary operator x) → Gives w q s (x ∷ o) (q + 1) o r
unary_gives w q s x o operator r h same = result_gives w q s (x ∷ o) o (i.Unary operator) r (unary operator x) h (λ l. refl) same

pub binary_gives : (w : World) (q : ℕ) (s : State) (x y : mach.Value) (o : List mach.Value) (operator : BinaryOperator) (r : Outcome Value) → slice_get (instructions w) q ≡ Some (i.Binary operator)
    → Same r (binary operator x y) → Gives w q s (y ∷ x ∷ o) (q + 1) o r
binary_gives w q s x y o operator r h same = result_gives w q s (y ∷ x ∷ o) o (i.Binary operator) r (binary operator x y) h (λ l. refl) same

-- ---- numbers

number_tested : (b : Bool) (n : ℤ) → Same (cond b (outcomes.Gives (values.Number n)) (Wrong outcomes.Range)) (cond b (Some (mach.Number n)) None)
number_tested true n = (refl, refl)
number_tested false n = tt

pub negate_same : (range : Range) → is_interval range ≡ true → (v : Value) → Same (after (number_in v) (λ n. in_range range (neg_ℤ n))) (unary (unaries.Negate (range_of range)) (machine_value v))
negate_same (Between low high) bounded (values.Number n) = number_tested (int_le low (neg_ℤ n) && int_le (neg_ℤ n) high) (neg_ℤ n)
negate_same (Between low high) bounded (values.Truth b) = tt
negate_same (Between low high) bounded (values.Character c) = tt
negate_same (Between low high) bounded (values.Text cs) = tt
negate_same Unbounded bounded v = absurd (let f : false ≡ true = bounded in cc)

pub not_same : (v : Value) → Same (after (truth_in v) (λ b. outcomes.Gives (values.Truth (not b)))) (unary unaries.Not (machine_value v))
not_same (values.Truth b) = (refl, refl)
not_same (values.Number n) = tt
not_same (values.Character c) = tt
not_same (values.Text cs) = tt

-- a row of the table in which both operands are numbers
pub added_same : (operator : AddendOperator) (range : Range) → is_interval range ≡ true → (w : World) (q : ℕ) (s : State) (v u : Value) (o : List mach.Value) → slice_get (instructions w) q ≡ Some (adds operator range)
    → Gives w q s (machine_value u ∷ machine_value v ∷ o) (q + 1) o (added operator range v u)
added_same addends.Plus (Between low high) bounded w q s (values.Number a) (values.Number b) o h = binary_gives w q s _ _ o (binaries.Add (range_of (Between low high))) _ h (number_tested _ _)
added_same addends.Minus (Between low high) bounded w q s (values.Number a) (values.Number b) o h = binary_gives w q s _ _ o (binaries.Subtract (range_of (Between low high))) _ h (number_tested _ _)
added_same operator Unbounded bounded w q s v u o h = absurd (let f : false ≡ true = bounded in cc)
added_same operator range bounded w q s v u o h = tt

not_zero : (b : ℕ) → int_eq (pos (suc b)) (pos 0) ≡ false
not_zero b = grind (arith, ints)

divided : (b : ℤ) (r : Outcome Value) (x : Option mach.Value) → Same r x → Same (cond (int_eq b (pos 0)) (Wrong outcomes.Divisor) r) (divisor b x)
divided (pos zero) r x same = tt
divided (pos (suc b)) r x same = subst (λ (z : Bool). Same (cond z (Wrong outcomes.Divisor) r) x) (sym (not_zero b)) same
divided (negsuc b) r x same = same

pub multiplied_same : (operator : FactorOperator) (range : Range) → is_interval range ≡ true → (w : World) (q : ℕ) (s : State) (v u : Value) (o : List mach.Value) → slice_get (instructions w) q ≡ Some (multiplies operator range)
    → Gives w q s (machine_value u ∷ machine_value v ∷ o) (q + 1) o (multiplied operator range v u)
multiplied_same factors.Times (Between low high) bounded w q s (values.Number a) (values.Number b) o h = binary_gives w q s (mach.Number a) (mach.Number b) o (binaries.Multiply (range_of (Between low high))) (product factors.Times (Between low high) a b) h (number_tested (int_le low (a *ℤ b) && int_le (a *ℤ b) high) (a *ℤ b))
multiplied_same factors.Divide (Between low high) bounded w q s (values.Number a) (values.Number b) o h =
    let n = int_div_euclid a b in
    binary_gives w q s (mach.Number a) (mach.Number b) o (binaries.Divide (range_of (Between low high))) (product factors.Divide (Between low high) a b) h
    (divided b (in_range (Between low high) n) (within (range_of (Between low high)) n) (number_tested (int_le low n && int_le n high) n))
multiplied_same factors.Modulo (Between low high) bounded w q s (values.Number a) (values.Number b) o h =
    let n = int_rem_euclid a b in
    binary_gives w q s (mach.Number a) (mach.Number b) o (binaries.Modulo (range_of (Between low high))) (product factors.Modulo (Between low high) a b) h
    (divided b (in_range (Between low high) n) (within (range_of (Between low high)) n) (number_tested (int_le low n && int_le n high) n))
multiplied_same operator Unbounded bounded w q s v u o h = absurd (let f : false ≡ true = bounded in cc)
multiplied_same operator range bounded w q s v u o h = tt

-- ---- truths

pub truths_same : (a b : Bool) → mach.same_truth a b ≡ same_truth a b
truths_same true b = refl
truths_same false b = refl

pub equivalent_same : (w : World) (q : ℕ) (s : State) (v u : Value) (o : List mach.Value) → slice_get (instructions w) q ≡ Some (i.Binary binaries.Same) → Gives w q s (machine_value u ∷ machine_value v ∷ o) (q + 1) o (equivalent v u)
equivalent_same w q s (values.Truth a) (values.Truth b) o h = binary_gives w q s (mach.Truth a) (mach.Truth b) o binaries.Same (outcomes.Gives (values.Truth (same_truth a b))) h (refl, ap (λ (x : Bool). Some (mach.Truth x)) (truths_same a b))
equivalent_same w q s v u o h = tt

-- ---- values as of a kind

pub from_kind_runs : (w : World) (source : Kind) (q p' : ℕ) (s : State) (v : Value) (o : List mach.Value) (f : ℤ → Outcome Value) → HasAt (instructions w) q (from_kind source)
    → ((n : ℤ) → Gives w (q + length (from_kind source)) s (mach.Number n ∷ o) p' o (f n)) → Gives w q s (machine_value v ∷ o) p' o (after (number_from source v) f)
from_kind_runs w (kinds.Number range) q p' s (values.Number n) o f has g = let e : q + 0 ≡ q = omega arith in gives_from_zero w q p' s _ o (f n) e (g n)
  where
    gives_from_zero : (w : World) (q p' : ℕ) (s : State) (o1 o : List mach.Value) (r : Outcome Value) → q + 0 ≡ q → Gives w (q + 0) s o1 p' o r → Gives w q s o1 p' o r
    gives_from_zero w q p' s o1 o r e g = subst (λ (n : ℕ). Gives w n s o1 p' o r) e g
from_kind_runs w kinds.Character q p' s (values.Character c) o f has g =
    gives_after w q (q + 1) p' s (mach.Char c ∷ o) (mach.Number (pos c) ∷ o) o (f (pos c))
    (still_carries w q s (mach.Char c ∷ o) (q + 1) (mach.Number (pos c) ∷ o) (still_one w q (q + 1) (mach.Char c ∷ o) (mach.Number (pos c) ∷ o) (i.Unary unaries.Code) has.0 (λ l. refl)))
    (g (pos c))
from_kind_runs w source q p' s v o f has g = tt

character_tested : (c : ℕ) (b d : Bool) → b ≡ d → Same (cond b (outcomes.Gives (values.Character c)) (Wrong outcomes.Cast)) (cond d (Some (mach.Char c)) None)
character_tested c true d e = subst (λ (x : Bool). Same (outcomes.Gives (values.Character c)) (cond x (Some (mach.Char c)) None)) e (refl, refl)
character_tested c false d e = tt

is_character : (c : ℕ) → (int_le (pos 0) (pos c) && int_le (pos c) (pos 127)) ≡ nat_lt c 128
is_character c = grind (arith, ints, nat_tests)

pub to_kind_runs : (w : World) (target : Kind) (q : ℕ) (s : State) (n : ℤ) (o : List mach.Value) → HasAt (instructions w) q (to_kind target) → Gives w q s (mach.Number n ∷ o) (q + length (to_kind target)) o (as_kind target n)
to_kind_runs w (kinds.Number (Between low high)) q s n o has = unary_gives w q s (mach.Number n) o (unaries.Fit (range_of (Between low high))) (as_kind (kinds.Number (Between low high)) n) has.0 (number_tested (int_le low n && int_le n high) n)
to_kind_runs w (kinds.Number Unbounded) q s n o has =
    let e : q ≡ q + 0 = omega arith in
    gives_to w q q (q + 0) s (mach.Number n ∷ o) o (outcomes.Gives (values.Number n)) e (refl, still_carries w q s (mach.Number n ∷ o) q (mach.Number n ∷ o) (still_none w q (mach.Number n ∷ o)))
to_kind_runs w kinds.Truth q s n o has = tt
to_kind_runs w kinds.Character q s (pos c) o has = unary_gives w q s (mach.Number (pos c)) o unaries.Character (as_kind kinds.Character (pos c)) has.0 (character_tested c (int_le (pos 0) (pos c) && int_le (pos c) (pos 127)) (nat_lt c 128) (is_character c))
to_kind_runs w kinds.Character q s (negsuc c) o has = unary_gives w q s (mach.Number (negsuc c)) o unaries.Character (as_kind kinds.Character (negsuc c)) has.0 tt

-- ---- comparisons

not_at_most : (a b : ℤ) → not (int_le a b) ≡ int_lt b a
not_at_most a b = grind (arith, ints)

not_less : (a b : ℤ) → not (int_lt a b) ≡ int_le b a
not_less a b = grind (arith, ints)

codes_less : (a b : ℕ) → nat_lt a b ≡ int_lt (pos a) (pos b)
codes_less a b = grind (arith, ints, nat_tests)

codes_at_most : (a b : ℕ) → nat_le a b ≡ int_le (pos a) (pos b)
codes_at_most a b = grind (arith, ints, nat_tests)

pub turns : (w : World) (q : ℕ) (b : Bool) (o : List mach.Value) → slice_get (instructions w) q ≡ Some (i.Unary unaries.Not) → Still w q (mach.Truth b ∷ o) (q + 1) (mach.Truth (not b) ∷ o)
turns w q b o h = still_one w q (q + 1) (mach.Truth b ∷ o) (mach.Truth (not b) ∷ o) (i.Unary unaries.Not) h (λ l. refl)

-- an operator that tells a truth of two values
tells_one : (w : World) (q : ℕ) (x y : mach.Value) (b d : Bool) (o : List mach.Value) (operator : BinaryOperator) → slice_get (instructions w) q ≡ Some (i.Binary operator)
    → binary operator x y ≡ Some (mach.Truth b) → b ≡ d → Still w q (y ∷ x ∷ o) (q + 1) (mach.Truth d ∷ o)
tells_one w q x y b d o operator h e is =
    subst (λ (z : Bool). Still w q (y ∷ x ∷ o) (q + 1) (mach.Truth z ∷ o)) is
    (still_one w q (q + 1) (y ∷ x ∷ o) (mach.Truth b ∷ o) (i.Binary operator) h (λ l. ap (λ (z : Option mach.Value). given z (λ v. leaves w.heap (frame w q l (y ∷ x ∷ o)) (v ∷ o))) e))

-- its opposite
tells_other : (w : World) (q : ℕ) (x y : mach.Value) (b d : Bool) (o : List mach.Value) (operator : BinaryOperator) → HasAt (instructions w) q (i.Binary operator ∷ i.Unary unaries.Not ∷ [])
    → binary operator x y ≡ Some (mach.Truth b) → not b ≡ d → Still w q (y ∷ x ∷ o) (q + 2) (mach.Truth d ∷ o)
tells_other w q x y b d o operator has e turned =
    let far : q + 1 + 1 ≡ q + 2 = omega arith in
    subst (λ (n : ℕ). Still w q (y ∷ x ∷ o) n (mach.Truth d ∷ o)) far
    (subst (λ (z : Bool). Still w q (y ∷ x ∷ o) (q + 1 + 1) (mach.Truth z ∷ o)) turned
    (still_on w q (q + 1) (q + 1 + 1) _ (mach.Truth b ∷ o) (mach.Truth (not b) ∷ o) (tells_one w q x y b b o operator has.0 e refl) (turns w (q + 1) b o has.1.0)))

no_text : {A : Type 0} → false ≡ true → A
no_text e = absurd (let f : false ≡ true = e in cc)

equal_tells : (w : World) (q : ℕ) (v u : Value) (o : List mach.Value) → is_simple v ≡ true → is_simple u ≡ true → binary binaries.Same (machine_value v) (machine_value u) ≡ Some (mach.Truth (same_value v u))
equal_tells w q (values.Truth a) (values.Truth b) o f g = ap (λ (x : Bool). Some (mach.Truth x)) (truths_same a b)
equal_tells w q (values.Truth a) (values.Character b) o f g = refl
equal_tells w q (values.Truth a) (values.Number b) o f g = refl
equal_tells w q (values.Character a) (values.Truth b) o f g = refl
equal_tells w q (values.Character a) (values.Character b) o f g = refl
equal_tells w q (values.Character a) (values.Number b) o f g = refl
equal_tells w q (values.Number a) (values.Truth b) o f g = refl
equal_tells w q (values.Number a) (values.Character b) o f g = refl
equal_tells w q (values.Number a) (values.Number b) o f g = refl
equal_tells w q (values.Text a) u o f g = no_text f
equal_tells w q v (values.Text b) o f g = no_text g

greater_tells : (w : World) (q : ℕ) (u v : Value) (o : List mach.Value) → HasAt (instructions w) q (compare comparisons.Greater) → Tells w q (machine_value u ∷ machine_value v ∷ o) (q + 2) o (compared comparisons.Greater v u)
greater_tells w q (values.Number b) (values.Number a) o has = tells_other w q (mach.Number a) (mach.Number b) (int_le a b) (int_lt b a) o binaries.AtMost has refl (not_at_most a b)
greater_tells w q (values.Character b) (values.Character a) o has = tells_other w q (mach.Char a) (mach.Char b) (nat_le a b) (int_lt (pos b) (pos a)) o binaries.AtMost has refl (ap not (codes_at_most a b) ∙ not_at_most (pos a) (pos b))
greater_tells w q u v o has = tt

at_least_tells : (w : World) (q : ℕ) (u v : Value) (o : List mach.Value) → HasAt (instructions w) q (compare comparisons.AtLeast) → Tells w q (machine_value u ∷ machine_value v ∷ o) (q + 2) o (compared comparisons.AtLeast v u)
at_least_tells w q (values.Number b) (values.Number a) o has = tells_other w q (mach.Number a) (mach.Number b) (int_lt a b) (int_le b a) o binaries.Less has refl (not_less a b)
at_least_tells w q (values.Character b) (values.Character a) o has = tells_other w q (mach.Char a) (mach.Char b) (nat_lt a b) (int_le (pos b) (pos a)) o binaries.Less has refl (ap not (codes_less a b) ∙ not_less (pos a) (pos b))
at_least_tells w q u v o has = tt

less_tells : (w : World) (q : ℕ) (v u : Value) (o : List mach.Value) → HasAt (instructions w) q (compare comparisons.Less) → Tells w q (machine_value u ∷ machine_value v ∷ o) (q + 1) o (compared comparisons.Less v u)
less_tells w q (values.Number a) (values.Number b) o has = tells_one w q (mach.Number a) (mach.Number b) (int_lt a b) (int_lt a b) o binaries.Less has.0 refl refl
less_tells w q (values.Character a) (values.Character b) o has = tells_one w q (mach.Char a) (mach.Char b) (nat_lt a b) (int_lt (pos a) (pos b)) o binaries.Less has.0 refl (codes_less a b)
less_tells w q v u o has = tt

at_most_tells : (w : World) (q : ℕ) (v u : Value) (o : List mach.Value) → HasAt (instructions w) q (compare comparisons.AtMost) → Tells w q (machine_value u ∷ machine_value v ∷ o) (q + 1) o (compared comparisons.AtMost v u)
at_most_tells w q (values.Number a) (values.Number b) o has = tells_one w q (mach.Number a) (mach.Number b) (int_le a b) (int_le a b) o binaries.AtMost has.0 refl refl
at_most_tells w q (values.Character a) (values.Character b) o has = tells_one w q (mach.Char a) (mach.Char b) (nat_le a b) (int_le (pos a) (pos b)) o binaries.AtMost has.0 refl (codes_at_most a b)
at_most_tells w q v u o has = tt

pub compare_tells : (w : World) (c : Comparison) (q : ℕ) (v u : Value) (o : List mach.Value) → is_simple v ≡ true → is_simple u ≡ true → HasAt (instructions w) q (compare c)
    → Tells w q (machine_value u ∷ machine_value v ∷ o) (q + length (compare c)) o (compared c v u)
compare_tells w comparisons.Equal q v u o f g has = tells_one w q (machine_value v) (machine_value u) (same_value v u) (same_value v u) o binaries.Same has.0 (equal_tells w q v u o f g) refl
compare_tells w comparisons.NotEqual q v u o f g has = tells_other w q (machine_value v) (machine_value u) (same_value v u) (not (same_value v u)) o binaries.Same has (equal_tells w q v u o f g) refl
compare_tells w comparisons.Less q v u o f g has = less_tells w q v u o has
compare_tells w comparisons.AtMost q v u o f g has = at_most_tells w q v u o has
compare_tells w comparisons.Greater q v u o f g has = greater_tells w q u v o has
compare_tells w comparisons.AtLeast q v u o f g has = at_least_tells w q u v o has
