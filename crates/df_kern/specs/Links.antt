-- Links from numbers to lesser ones, which lead to the least of a class.
use Rattle.std.specs.Prelude.{◌≡◌, ◌<◌, ℕ, zero, suc, List, Option, Some}
use Rattle.std.specs.Option.{option_map_or}
use Rattle.std.specs.Ordering.{nat_cmp}
use Rattle.std.specs.BTreeMap.{is_at}
use Rattle.std.specs.Map.{lookup}

abbrev pub link_at : List (ℕ × ℕ) → ℕ → Option ℕ
link_at links n = lookup (is_at (nat_cmp n)) links

-- after at most so many links
abbrev pub followed : List (ℕ × ℕ) → ℕ → ℕ → ℕ
followed links zero n = n
followed links (suc steps) n = option_map_or (followed links steps) (link_at links n) n

-- where the links from a number end, each of which leads to a lesser one
abbrev pub least_by : List (ℕ × ℕ) → ℕ → ℕ
least_by links n = followed links n n

abbrev pub AreFalling : List (ℕ × ℕ) → Type 0
AreFalling links = (n lesser : ℕ) → link_at links n ≡ Some lesser → lesser < n
