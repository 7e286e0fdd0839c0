-- What clauses teach by unit propagation, one after another.
use Rattle.std.specs.Prelude.{◌≡◌, ℕ, Bool, true, false, List, [], ◌∷◌, slice_get, Option, None, Some}
use Rattle.std.specs.Option.{option_and_then, option_map}
use Rattle.df_form.specs.declared.log.Lit.{Lit}
use Rattle.df_rules.specs.declared.known.Known.{Known}
use Rattle.df_form.specs.Clause.{Clause}
use Rattle.df_rules.specs.Propagation.{left, only, is_empty}
use Rattle.df_rules.specs.Known.{IsSetOf}

-- the known literals, and the one that is left of a clause
abbrev pub learned_from : List Lit → Option Clause → Option (List Lit)
learned_from known clause = option_and_then (λ c. option_map (λ l. l ∷ known) (only (left known c))) clause

-- and so for the clauses of these numbers
abbrev pub learned : List Lit → List Clause → List ℕ → Option (List Lit)
learned known clauses [] = Some known
learned known clauses (n ∷ others) = option_and_then (λ more. learned more clauses others) (learned_from known (slice_get clauses n))

abbrev pub IsSetOfSome : Option (List Lit) → Known → Bool → Type 0
IsSetOfSome None known all = all ≡ false
IsSetOfSome (Some literals) known all = (all ≡ true) × IsSetOf literals known

-- the set has what is learned, where something is
abbrev pub Learns : List Lit → List Clause → List ℕ → Known → Bool → Type 0
Learns literals clauses numbers known all = IsSetOfSome (learned literals clauses numbers) known all

-- nothing is left of a clause that is there
abbrev pub refutes : List Lit → Option Clause → Bool
refutes known None = false
refutes known (Some clause) = is_empty (left known clause)
