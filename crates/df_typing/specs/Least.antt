-- What trees are told to break: the least of all that they break, by the stage, then by where the text ends, then the inner one first, then
-- the lower rule.
use Rattle.std.specs.Prelude.{◌≡◌, ℕ, ◌-◌, ◌==◌, nat_lt, Bool, true, false, ◌&&◌, ◌||◌, if◌then◌else◌, ◌⊎◌, List, [], ◌∷◌, Option, Some, None}
use Rattle.df_base.specs.declared.refusal.Code.{Code}
use Rattle.df_base.specs.declared.refusal.Code.TheVariants as codes
use Rattle.df_base.specs.declared.refusal.Detail.{Detail}
use Rattle.df_base.specs.declared.refusal.Detail.TheVariants as details
use Rattle.df_typing.specs.Rules.{Rule, Unknown, Twice, Typing, Uninferred, Range, rule_of, holds}
use Rattle.df_typing.specs.Asks.{Placed}
pub use Rattle.df_typing.specs.declared.rule.Fault.{Fault}

-- The stages: the names of a whole file, then all types.
abbrev pub stage : Rule → ℕ
stage Unknown = 0
stage Twice = 0
stage (Typing number) = 1
stage Uninferred = 1
stage Range = 1

abbrev pub code_number : Rule → ℕ
code_number Unknown = 6
code_number Twice = 7
code_number (Typing number) = 9
code_number Uninferred = 10
code_number Range = 11

-- among the rules of one code
abbrev pub rule_number : Rule → ℕ
rule_number Unknown = 0
rule_number Twice = 0
rule_number (Typing number) = number
rule_number Uninferred = 0
rule_number Range = 0

-- Of two texts with one end the shorter is the inner one.
abbrev pub rank : Fault → List ℕ
rank fault = stage fault.rule ∷ fault.span.after ∷ (fault.span.after - fault.span.start) ∷ code_number fault.rule ∷ rule_number fault.rule ∷ []

abbrev pub precedes : List ℕ → List ℕ → Bool
precedes [] [] = false
precedes [] (y ∷ ys) = true
precedes (x ∷ xs) [] = false
precedes (x ∷ xs) (y ∷ ys) = nat_lt x y || ((x == y) && precedes xs ys)

abbrev pub comes_before : Fault → Fault → Bool
comes_before one other = precedes (rank one) (rank other)

abbrev pub fault_of : Placed → Fault
fault_of placed = record { rule = rule_of placed.ask; span = placed.text.span; place = placed.text.place; name = placed.name }

-- the rule is broken there: something is asked by it that does not hold
abbrev pub IsFault : List Placed → Fault → Type 0
IsFault [] fault = ⊥
IsFault (placed ∷ rest) fault = ((holds placed.ask ≡ false) × (fault_of placed ≡ fault)) ⊎ IsFault rest fault

pub record IsLeast (asked : List Placed) (fault : Fault) : Type 0 where
  pub broken : IsFault asked fault
  pub least : (other : Fault) → IsFault asked other → comes_before other fault ≡ false

-- nothing that is asked is broken
abbrev pub IsFaultless : List Placed → Type 0
IsFaultless asked = (fault : Fault) → IsFault asked fault → ⊥

-- ---- the least, one after another

abbrev pub better : Option Fault → Fault → Option Fault
better None fault = Some fault
better (Some best) fault = if comes_before fault best then Some fault else Some best

abbrev pub with_ask : Option Fault → Placed → Option Fault
with_ask best placed = if holds placed.ask then best else better best (fault_of placed)

abbrev pub told : Option Fault → List Placed → Option Fault
told best [] = best
told best (placed ∷ rest) = told (with_ask best placed) rest

-- ---- how it is told

abbrev pub code_of : Rule → Code
code_of Unknown = codes.Unknown
code_of Twice = codes.Twice
code_of (Typing number) = codes.Typing
code_of Uninferred = codes.Uninferred
code_of Range = codes.Range

-- the name for rules of names, the number of a rule of typing
abbrev pub detail_of : Fault → Detail
detail_of fault = by fault.rule where
  by : Rule → Detail
  by Unknown = details.Word fault.name
  by Twice = details.Word fault.name
  by (Typing number) = details.Rule number
  by Uninferred = details.Nothing
  by Range = details.Nothing
