-- Rows divided by the greatest common divisor of their coefficients.
use Rattle.std.specs.Prelude.{◌≡◌, ℕ, zero, suc, ℤ, pos}
use Rattle.std.specs.Int.RustNames.{unsigned_abs}
use Rattle.std.specs.Int.{◌∣◌}
use Rattle.df_row.specs.Row.{Row}
use Rattle.df_row.specs.Linear.{quotient}

-- the greatest common divisor of the coefficients, 0 where there are none
pub record IsContent (coefficient : ℕ → ℤ) (d : ℕ) : Type 0 where
  pub each : (n : ℕ) → d ∣ unsigned_abs (coefficient n)
  pub greatest : (e : ℕ) → ((n : ℕ) → e ∣ unsigned_abs (coefficient n)) → e ∣ d

-- a row without coefficients is divided by 1
abbrev pub divisor_of : ℕ → ℕ
divisor_of zero = 1
divisor_of (suc d) = suc d

-- each number divided, and rounded down
abbrev pub quotient_row : ℕ → Row → Row
quotient_row d row = record { coefficient = λ n. quotient (row.coefficient n) (pos d); constant = quotient row.constant (pos d) }

-- what a row is divided by
pub record IsDivisor (row : Row) (divisor : ℕ) : Type 0 where
  pub content : ℕ
  pub is_content : IsContent row.coefficient content
  pub is : divisor ≡ divisor_of content

pub record IsDivided (row after : Row) : Type 0 where
  pub content : ℕ
  pub is_content : IsContent row.coefficient content
  pub is : after ≡ quotient_row (divisor_of content) row

-- the entry of the quotient
abbrev pub quotient_entry : ℕ → ℕ × ℤ → ℕ × ℤ
quotient_entry d e = (e.0, quotient e.1 (pos d))
