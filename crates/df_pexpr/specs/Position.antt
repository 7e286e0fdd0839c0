-- Where a text cannot go on.
use Rattle.std.specs.Prelude.{◌≡◌, ℕ, ◌+◌, ◌-◌, ◌<◌, ◌^◌, min, Bool, not, ◌&&◌, ◌||◌, List, length, take, drop, slice_get, if◌then◌else◌}
use Rattle.std.specs.Option.{option_map_or}
use Rattle.std.specs.List.{list_any}
use Rattle.df_base.specs.declared.pos.Pos.{Pos}
use Rattle.df_tok.specs.Token.{Token}
use Rattle.df_tree.specs.Tree.{Tree}
use Rattle.df_tree.specs.Row.{Row}
use Rattle.df_tree.specs.Grammar.{declarations, statements, expressions, kinds_of, is_in, is_nil, first_terminal, IsTreeOf}

-- A production begins with this terminal only where the token behind it is of a class, too.
abbrev pub looks : ℕ → Row → Bool
looks kind r = not (is_nil (kinds_of r.second)) && is_in kind (kinds_of r.first)

-- So does one of the table.
unfoldable pub looks_behind : ℕ → Bool
looks_behind kind = list_any (looks kind) declarations || (list_any (looks kind) statements || list_any (looks kind) expressions)

-- how many tokens tell that a text cannot go on with the one of this number: those up to it, and the one behind it where
-- a production looks there
abbrev pub reach : List Token → ℕ → ℕ
reach tokens stop = option_map_or (λ kind. if looks_behind kind then stop + 2 else stop + 1) (first_terminal (drop stop tokens)) (stop + 1)

-- the position of the token of a number, or of the last one where there is none
abbrev pub place_of : List Token → ℕ → Pos
place_of tokens at = option_map_or (λ (x : Token). x.pos) (slice_get tokens (min at (length tokens - 1))) (record { line = 1; col = 1 })

-- No text that begins with the same tokens, up to the one at this position, spells a tree of the production.
pub record CannotGoOn (n : ℕ) (tokens : List Token) (pos : Pos) : Type 0 where
  pub stop : ℕ
  pub place : pos ≡ place_of tokens stop
  pub no_text : (others : List Token) → length others < 2 ^ 63 → take (reach tokens stop) others ≡ take (reach tokens stop) tokens → (t : Tree) → IsTreeOf n others t → ⊥
