-- What closing classes by pairs answers.
use Rattle.std.specs.Prelude.{◌≡◌, ℕ, Bool, true, false, List, Option, None, Some}
use Rattle.df_form.specs.declared.log.Pair.{Pair}
use Rattle.df_form.specs.Node.{Node}
use Rattle.df_rules.specs.CongruenceLine.{closed}

abbrev pub IsClosed : Option (ℕ → ℕ) → (ℕ → ℕ) → Bool → Type 0
IsClosed None new all = all ≡ false
IsClosed (Some class) new all = (all ≡ true) × (new ≡ class)

-- the classes are closed by the pairs, where each is congruent
abbrev pub Closes : List Node → (ℕ → ℕ) → (ℕ → ℕ) → List Pair → Bool → Type 0
Closes nodes old new pairs all = IsClosed (closed nodes old pairs) new all
