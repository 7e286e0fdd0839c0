-- Two refusals that tell the same.
use Rattle.std.specs.Prelude.{◌≡◌, ◌≢◌, ℕ, List}
use Rattle.df_base.specs.declared.refusal.Code.TheVariants as codes
use Rattle.df_base.specs.declared.refusal.Refusal.{Refusal}
use Rattle.df_nfront.specs.Line.{refusal_line}

-- Each with names of its own, they tell the same rule and detail, at the same position unless the syntax is
-- refused; and with the same position they have the same line.
pub record TellTheSame (names others : List (List ℕ)) (r other : Refusal) : Type 0 where
  pub code : r.code ≡ other.code
  pub detail : r.detail ≡ other.detail
  pub pos : r.code ≢ codes.Syntax → r.pos ≡ other.pos
  pub line : (file : List ℕ) → r.pos ≡ other.pos → refusal_line file names r ≡ refusal_line file others other
