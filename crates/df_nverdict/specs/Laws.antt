-- What verdicts are worth.
use Rattle.std.specs.Prelude.{◌≡◌, ℕ, suc, true, false, List, [], ◌∷◌, Contains, Some}
use Rattle.std.specs.List.{AllByRecursion}
use Rattle.df_base.specs.declared.pos.Pos.{Pos}
use Rattle.df_lang.specs.Assignment.{IsDefinitelyAssigned}
use Rattle.df_lang.specs.Groups.{AreGroups}
use Rattle.df_lang.specs.Program.{Param, Method, Program, method_at}
use Rattle.df_lang.specs.Typing.{is_well_typed}
use Rattle.df_meaning.specs.declared.kind.Kind.{Kind}
use Rattle.df_meaning.specs.Correct.{AreCorrect}
use Rattle.df_meaning.specs.Value.{Value}
use Rattle.df_meaning.specs.State.{store_with}
use Rattle.df_meaning.specs.Modular.{IsModularlySafe, IsModularlyWrong}
use Rattle.df_form.specs.Sequent.{Sequent}
use Rattle.df_form.specs.Truth.{Assignment, truth}
use Rattle.df_form.specs.Types.{sort_of_type}
use Rattle.df_nterm.specs.Meaning.{Interpretation}
use Rattle.df_npass.specs.Methods.{Obligation, obligations_of_method}
use Rattle.df_npass.specs.Handing.{handed_in}
use Rattle.df_nowed.specs.Laws.{GivesAs}
use Rattle.df_search.specs.declared.found.Budget.{Budget}
use Rattle.df_report.specs.Report.{Outcome, is_verified}
use Rattle.df_nverdict.specs.declared.judging.Proof.{Proof}
use Rattle.df_nverdict.specs.Sequents.{IsSequentOf}
use Rattle.df_nverdict.specs.Verdict.{IsJudgedMethod, IsJudged, are_verified}

-- where a program is judged over its groups with no failure, each of its methods is correct
abbrev pub JudgedIsCorrect : Type 0
JudgedIsCorrect = (program : Program) (groups : List ℕ) (budget : Budget) (outcomes : List Outcome)
    → is_well_typed program ≡ true → IsDefinitelyAssigned program → AreGroups program groups
    → IsJudged program groups budget outcomes → are_verified outcomes ≡ true → AreCorrect program

-- and where the outcome of one method has no failure, no modular run of that method is wrong
abbrev pub VerifiedIsSafe : Type 0
VerifiedIsSafe = (program : Program) (groups : List ℕ) (budget : Budget) (number : ℕ) (method : Method) (outcome : Outcome) (proofs : List Proof)
    → is_well_typed program ≡ true → IsDefinitelyAssigned program → method_at program number ≡ Some method
    → IsJudgedMethod program groups budget number method outcome proofs → is_verified outcome ≡ true → IsModularlySafe program groups number method

-- the values that an assignment gives to parameters, which are numbered in order
abbrev pub arguments_by : Assignment → ℕ → List Param → List Value
arguments_by assignment number [] = []
arguments_by assignment number (param ∷ others) = assignment.value (record { number = number; sort = sort_of_type param.ty }) ∷ arguments_by assignment (suc number) others

-- the run is on what an assignment gives: on its values of the parameters, and on those of the free terms that are made at
-- the calls and loops that it meets, in order
pub record IsOn (program : Program) (groups : List ℕ) (number : ℕ) (method : Method) (pos : Pos) (kind : Kind) (assignment : Assignment) (wrong : IsModularlyWrong program groups number method pos kind) : Type 0 where
  pub interpretation : Interpretation
  pub values : GivesAs interpretation assignment
  pub arguments : wrong.arguments ≡ arguments_by assignment 0 method.parameters
  pub store : wrong.store ≡ store_with [] (handed_in interpretation program groups number method)

-- and where an assignment refutes the sequent of an obligation of a method, the modular run of that method on what it
-- gives is wrong at its position by its kind: so no obligation is one too many
abbrev pub RefutedIsWrong : Type 0
RefutedIsWrong = (program : Program) (groups : List ℕ) (number : ℕ) (method : Method) (o : Obligation) (s : Sequent) (depth : ℕ) (assignment : Assignment)
    → is_well_typed program ≡ true → IsDefinitelyAssigned program → method_at program number ≡ Some method
    → Contains (obligations_of_method program groups number method) o → IsSequentOf program o s
    → AllByRecursion (λ h. truth depth s.world assignment s.nodes h ≡ true) s.hypotheses → truth depth s.world assignment s.nodes s.goal ≡ false
    → (wrong : IsModularlyWrong program groups number method o.pos o.kind) × IsOn program groups number method o.pos o.kind assignment wrong
