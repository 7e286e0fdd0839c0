-- The table of strict operations: of each how many operands it pops, and its result behind what is asked of them.
use Rattle.std.specs.Prelude.{ℕ, ◌-◌, ◌^◌, ℤ, pos, ◌+ℤ◌, ◌-ℤ◌, ◌*ℤ◌, neg_ℤ, int_le, Bool, not, ◌&&◌, cond, nat_lt, List, ◌++◌, length, take, drop, slice_set}
use Rattle.std.specs.Ordering.{int_eq}
use Rattle.std.specs.Int.{int_div_euclid, int_rem_euclid}
use Rattle.df_mach2.specs.declared.op.Range.{Range}
use Rattle.df_mach2.specs.declared.op.Op.{Op}
use Rattle.df_mach2.specs.declared.op.Op.TheVariants as op
use Rattle.df_mach2.specs.Value.{Value, Number, Truth, Char, Null, Data, Sequence, values_of, same, is_number, number_in, is_truth, truth_in, is_char, char_in, is_data, tag_in, parts_in, is_sequence, members_in, are_ordered, is_below, is_at_most, nth, place_of, is_place, is_bound}

pub data Answer : Type 0 where
  Is : Value → Answer
  -- a demand, which is broken where it is false
  Asks : Bool → Answer → Answer
  -- what any memory can hold
  Fits : Bool → Answer → Answer

-- what an answer comes to
pub data Found : Type 0 where
  Gives : Value → Found
  Broken : Found
  TooLong : Found

abbrev pub found : Answer → Found
found (Is v) = Gives v
found (Asks b a) = cond b (found a) Broken
found (Fits b a) = cond b (found a) TooLong

-- how many operands an operation pops
abbrev pub taken : Op → ℕ
taken (op.Number n) = 0
taken (op.Truth b) = 0
taken (op.Char c) = 0
taken op.Null = 0
taken (op.Add r) = 2
taken (op.Subtract r) = 2
taken (op.Multiply r) = 2
taken (op.Divide r) = 2
taken (op.Modulo r) = 2
taken (op.Negate r) = 1
taken (op.Fit r) = 1
taken op.Less = 2
taken op.AtMost = 2
taken op.Same = 2
taken op.Not = 1
taken op.Code = 1
taken op.Character = 1
taken (op.Construct tag count) = count
taken (op.Part j) = 1
taken op.Tag = 1
taken (op.Sequence n) = n
taken op.Length = 1
taken op.At = 2
taken op.Slice = 3
taken op.Join = 2
taken op.Update = 3

-- ---- what is asked of operands

abbrev pub of_number : Value → (ℤ → Answer) → Answer
of_number v go = Asks (is_number v) (go (number_in v))

abbrev pub of_numbers : Value → Value → (ℤ → ℤ → Answer) → Answer
of_numbers v w go = of_number v (λ a. of_number w (λ b. go a b))

abbrev pub of_sequence : Value → (List Value → Answer) → Answer
of_sequence v go = Asks (is_sequence v) (go (members_in v))

-- a number that lies in the range
abbrev pub in_range : Range → ℤ → Answer
in_range r n = Asks (int_le r.low n && int_le n r.high) (Is (Number n))

-- of a divisor that is not 0
abbrev pub for_divisor : ℤ → Answer → Answer
for_divisor b a = Asks (not (int_eq b (pos 0))) a

-- what goes into a list, which no memory holds past 2^63 - 1 members
abbrev pub as_list : List Value → Value → Answer
as_list vs v = Fits (nat_lt (length vs) (2 ^ 63)) (Is v)

abbrev pub sequence_of : List Value → Answer
sequence_of vs = as_list vs (Sequence (values_of vs))

-- what stands from one place up to another
abbrev pub part_of : List Value → ℕ → ℕ → List Value
part_of vs i j = take (j - i) (drop i vs)

-- the operands, the deepest first
abbrev pub row : Op → List Value → Answer
row (op.Number n) vs = Is (Number n)
row (op.Truth b) vs = Is (Truth b)
row (op.Char c) vs = Is (Char c)
row op.Null vs = Is Null
row (op.Add r) vs = of_numbers (nth vs 0) (nth vs 1) (λ a b. in_range r (a +ℤ b))
row (op.Subtract r) vs = of_numbers (nth vs 0) (nth vs 1) (λ a b. in_range r (a -ℤ b))
row (op.Multiply r) vs = of_numbers (nth vs 0) (nth vs 1) (λ a b. in_range r (a *ℤ b))
row (op.Divide r) vs = of_numbers (nth vs 0) (nth vs 1) (λ a b. for_divisor b (in_range r (int_div_euclid a b)))
row (op.Modulo r) vs = of_numbers (nth vs 0) (nth vs 1) (λ a b. for_divisor b (in_range r (int_rem_euclid a b)))
row (op.Negate r) vs = of_number (nth vs 0) (λ a. in_range r (neg_ℤ a))
row (op.Fit r) vs = of_number (nth vs 0) (λ a. in_range r a)
row op.Less vs = Asks (are_ordered (nth vs 0) (nth vs 1)) (Is (Truth (is_below (nth vs 0) (nth vs 1))))
row op.AtMost vs = Asks (are_ordered (nth vs 0) (nth vs 1)) (Is (Truth (is_at_most (nth vs 0) (nth vs 1))))
row op.Same vs = Is (Truth (same (nth vs 0) (nth vs 1)))
row op.Not vs = Asks (is_truth (nth vs 0)) (Is (Truth (not (truth_in (nth vs 0)))))
row op.Code vs = Asks (is_char (nth vs 0)) (Is (Number (pos (char_in (nth vs 0)))))
row op.Character vs = of_number (nth vs 0) (λ a. Asks (is_place a 128) (Is (Char (place_of a))))
row (op.Construct tag count) vs = as_list vs (Data tag (values_of vs))
row (op.Part j) vs = Asks (is_data (nth vs 0)) (Asks (nat_lt j (length (parts_in (nth vs 0)))) (Is (nth (parts_in (nth vs 0)) j)))
row op.Tag vs = Asks (is_data (nth vs 0)) (Is (Number (pos (tag_in (nth vs 0)))))
row (op.Sequence n) vs = sequence_of vs
row op.Length vs = of_sequence (nth vs 0) (λ s. Is (Number (pos (length s))))
row op.At vs = of_sequence (nth vs 0) (λ s. of_number (nth vs 1) (λ i. Asks (is_place i (length s)) (Is (nth s (place_of i)))))
row op.Slice vs =
    of_sequence (nth vs 0) (λ s. of_numbers (nth vs 1) (nth vs 2) (λ i j. Asks (is_bound j (length s)) (Asks (is_bound i (place_of j)) (sequence_of (part_of s (place_of i) (place_of j))))))
row op.Join vs = of_sequence (nth vs 0) (λ s. of_sequence (nth vs 1) (λ t. sequence_of (s ++ t)))
row op.Update vs =
    of_sequence (nth vs 0) (λ s. of_number (nth vs 1) (λ i. Asks (is_place i (length s)) (sequence_of (slice_set s (place_of i) (nth vs 2)))))
