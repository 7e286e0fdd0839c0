-- Which broken rule is told.
use Rattle.std.specs.Prelude.{◌≡◌, ℕ, List, [], ◌∷◌, ◌⊎◌}
use Rattle.std.specs.List.{flat_map}
use Rattle.df_base.specs.declared.pos.Pos.{Pos}
use Rattle.df_lang.specs.Program.{Decl, NewtypeDecl, MethodDecl, Program}
use Rattle.df_lang.specs.Native.{NativeRule, Places, Integers, Forms, Breach, breaches_in_method, IsNative}

-- the rules by their numbers
abbrev pub number_of : NativeRule → ℕ
number_of Places = 1
number_of Integers = 2
number_of Forms = 3

abbrev pub breaches_of_decl : Decl → List Breach
breaches_of_decl (NewtypeDecl newtype) = []
breaches_of_decl (MethodDecl method) = breaches_in_method method

-- What is broken, each by the node at which it is: by where the text of the node ends, then the inner node before the
-- outer one, then the lower rule.
abbrev pub breaches_in_program : Program → List Breach
breaches_in_program program = flat_map breaches_of_decl program.decls

-- the rule of the number is broken there, and none before it
pub record IsFirst (program : Program) (pos : Pos) (rule : ℕ) : Type 0 where
  pub broken : NativeRule
  pub number : rule ≡ number_of broken
  pub others : List Breach
  pub first : breaches_in_program program ≡ record { rule = broken; pos = pos } ∷ others

-- A program of which a first broken rule is told does not keep the rules.
abbrev pub BrokenIsNotNative : Type 0
BrokenIsNotNative = (program : Program) (pos : Pos) (rule : ℕ) → IsFirst program pos rule → IsNative program → ⊥

-- Each program keeps the rules, or a first broken one is told.
abbrev pub NativeOrBroken : Type 0
NativeOrBroken = (program : Program) → IsNative program ⊎ ((pos : Pos) × (rule : ℕ) × IsFirst program pos rule)
