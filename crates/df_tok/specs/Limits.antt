-- The limits of a source.
use Rattle.std.specs.Prelude.{ℕ}

-- how many bytes it may have
abbrev pub byte_limit : ℕ
byte_limit = 4194304

-- how many tokens
abbrev pub token_limit : ℕ
token_limit = 500000
