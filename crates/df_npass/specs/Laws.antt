-- Obligations and modular runs.
use Rattle.std.specs.Prelude.{◌≡◌, ℕ, true, false, List, [], map, Contains, None, Some}
use Rattle.std.specs.List.{AllByRecursion}
use Rattle.df_base.specs.declared.pos.Pos.{Pos}
use Rattle.df_lang.specs.Groups.{AreGroups}
use Rattle.df_lang.specs.Program.{Method, Program, method_at}
use Rattle.df_lang.specs.Typing.{is_well_typed}
use Rattle.df_lang.specs.Assignment.{IsDefinitelyAssigned}
use Rattle.df_meaning.specs.declared.kind.Kind.{Kind}
use Rattle.df_meaning.specs.Value.{Value}
use Rattle.df_meaning.specs.State.{store_with}
use Rattle.df_meaning.specs.Modular.{IsModularlyWrong, IsModularlySafe, IsSafe}
use Rattle.df_nterm.specs.Term.{Term}
use Rattle.df_nterm.specs.Meaning.{Interpretation, value, truth}
use Rattle.df_npass.specs.Statements.{any_values}
use Rattle.df_npass.specs.Methods.{Obligation, obligations_of_method, obligations}
use Rattle.df_npass.specs.Handing.{handed_in}

-- an interpretation over the program makes the hypotheses true and the goal false
pub record IsRefuted (program : Program) (obligation : Obligation) : Type 0 where
  pub interpretation : Interpretation
  pub program_is : interpretation.program ≡ program
  pub hypotheses : AllByRecursion (λ (formula : Term). truth interpretation formula ≡ true) obligation.hypotheses
  pub goal : truth interpretation obligation.goal ≡ false

-- no interpretation does
abbrev pub IsValid : Program → Obligation → Type 0
IsValid program obligation =
    (i : Interpretation) → i.program ≡ program → AllByRecursion (λ (formula : Term). truth i formula ≡ true) obligation.hypotheses → truth i obligation.goal ≡ true

-- the obligation of a kind at a position
pub record IsOwed (program : Program) (groups : List ℕ) (number : ℕ) (method : Method) (pos : Pos) (kind : Kind) (obligation : Obligation) : Type 0 where
  pub owed : Contains (obligations_of_method program groups number method) obligation
  pub place : obligation.pos ≡ pos
  pub kind_is : obligation.kind ≡ kind

-- the values that an interpretation gives to the parameters of a method, in order
abbrev pub arguments_in : Interpretation → Method → List Value
arguments_in i method = map (value i) (any_values None method.parameters 0).terms

-- where a modular run of a method is wrong, an obligation of that kind at that place is refuted by an interpretation
-- that gives its arguments
abbrev pub WrongIsRefuted : Type 0
WrongIsRefuted = (program : Program) (groups : List ℕ) (number : ℕ) (method : Method) (pos : Pos) (kind : Kind)
    → is_well_typed program ≡ true → IsDefinitelyAssigned program → method_at program number ≡ Some method
    → (wrong : IsModularlyWrong program groups number method pos kind)
    → (obligation : Obligation) × IsOwed program groups number method pos kind obligation × (refuted : IsRefuted program obligation)
    × (arguments_in refuted.interpretation method ≡ wrong.arguments)

-- and where an obligation is refuted, the modular run on what the interpretation gives is wrong there by its kind: on
-- its arguments, and on what it hands in at calls and loops
abbrev pub RefutedIsWrong : Type 0
RefutedIsWrong = (program : Program) (groups : List ℕ) (number : ℕ) (method : Method) (pos : Pos) (kind : Kind) (obligation : Obligation)
    → is_well_typed program ≡ true → IsDefinitelyAssigned program → method_at program number ≡ Some method
    → IsOwed program groups number method pos kind obligation → (refuted : IsRefuted program obligation)
    → (wrong : IsModularlyWrong program groups number method pos kind) × (wrong.arguments ≡ arguments_in refuted.interpretation method)
    × (wrong.store ≡ store_with [] (handed_in refuted.interpretation program groups number method))

-- so where all obligations of a method are valid, no modular run of it is wrong
abbrev pub ValidIsSafe : Type 0
ValidIsSafe = (program : Program) (groups : List ℕ) (number : ℕ) (method : Method)
    → is_well_typed program ≡ true → IsDefinitelyAssigned program → method_at program number ≡ Some method
    → ((obligation : Obligation) → Contains (obligations_of_method program groups number method) obligation → IsValid program obligation)
    → IsModularlySafe program groups number method

-- and where no modular run of a method is wrong, all its obligations are valid
abbrev pub SafeIsValid : Type 0
SafeIsValid = (program : Program) (groups : List ℕ) (number : ℕ) (method : Method) (obligation : Obligation)
    → is_well_typed program ≡ true → IsDefinitelyAssigned program → method_at program number ≡ Some method
    → IsModularlySafe program groups number method → Contains (obligations_of_method program groups number method) obligation → IsValid program obligation

-- Of the whole program: where all obligations over its groups are valid, it is safe.
abbrev pub AllValidIsSafe : Type 0
AllValidIsSafe = (program : Program) (groups : List ℕ) → is_well_typed program ≡ true → IsDefinitelyAssigned program → AreGroups program groups
    → ((obligation : Obligation) → Contains (obligations program groups) obligation → IsValid program obligation) → IsSafe program

-- And where one of them is refuted, a modular run of its method is wrong there by its kind.
abbrev pub RefutedMemberIsWrong : Type 0
RefutedMemberIsWrong = (program : Program) (groups : List ℕ) (obligation : Obligation) → is_well_typed program ≡ true → IsDefinitelyAssigned program
    → Contains (obligations program groups) obligation → IsRefuted program obligation
    → (method : Method) × (method_at program obligation.declaration ≡ Some method) × IsModularlyWrong program groups obligation.declaration method obligation.pos obligation.kind

-- And where all obligations of one of its methods are valid, no modular run of that method is wrong.
abbrev pub ValidMembersAreSafe : Type 0
ValidMembersAreSafe = (program : Program) (groups : List ℕ) (number : ℕ) (method : Method)
    → is_well_typed program ≡ true → IsDefinitelyAssigned program → method_at program number ≡ Some method
    → ((obligation : Obligation) → Contains (obligations program groups) obligation → obligation.declaration ≡ number → IsValid program obligation)
    → IsModularlySafe program groups number method

-- All groups of a program give it the same obligations.
abbrev pub OneListOfObligations : Type 0
OneListOfObligations = (program : Program) (groups others : List ℕ) → AreGroups program groups → AreGroups program others → obligations program groups ≡ obligations program others
