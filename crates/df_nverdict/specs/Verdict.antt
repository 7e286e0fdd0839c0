-- Verdicts: what proving a program comes to.
use Rattle.std.specs.Prelude.{◌≡◌, ◌⊎◌, ℕ, suc, ℤ, pos, Bool, true, false, ◌==◌, ◌&&◌, if◌then◌else◌, List, [], ◌∷◌, ◌++◌, map, position}
use Rattle.std.specs.List.{list_all}
use Rattle.std.specs.Option.{option_map_or}
use Rattle.df_lang.specs.declared.ty.Ty.{Ty}
use Rattle.df_lang.specs.declared.ty.Ty.TheVariants as types
use Rattle.df_lang.specs.Program.{Param, Method, Decl, NewtypeDecl, MethodDecl, Program}
use Rattle.df_meaning.specs.Kind.{word_of}
use Rattle.df_form.specs.declared.node.Sort.TheVariants as sorts
use Rattle.df_form.specs.declared.node.Op.{Op}
use Rattle.df_form.specs.declared.node.Op.TheVariants as ops
use Rattle.df_form.specs.declared.log.Lit.{Lit}
use Rattle.df_form.specs.Log.{step_of}
use Rattle.df_form.specs.Node.{Node, same_sort}
use Rattle.df_form.specs.Sequent.{Sequent}
use Rattle.df_kern.specs.Accepted.{IsTaken}
use Rattle.df_table.specs.TableModel.{number_at}
use Rattle.df_trig.specs.Instances.{AreTooMany}
use Rattle.df_search.specs.declared.found.Budget.{Budget}
use Rattle.df_search.specs.Found.{HasModel, AreSpent, IsTooWide, HasManyRows}
use Rattle.df_npass.specs.Methods.{Obligation, obligations_of_method}
use Rattle.df_report.specs.declared.outcome.Evidence.{Evidence}
use Rattle.df_report.specs.declared.outcome.Evidence.TheVariants as evidences
use Rattle.df_report.specs.Report.{Parameter, Failure, Outcome, is_verified}
use Rattle.df_nverdict.specs.declared.judging.Proof.{Proof}
use Rattle.df_nverdict.specs.Sequents.{IsSequentOf}

-- ---- the parameters in a table

-- the type is one of numbers
abbrev pub is_numeric : Ty → Bool
is_numeric (types.Newtype id) = true
is_numeric types.Int = true
is_numeric types.Nat = true
is_numeric types.Bool = false
is_numeric types.Char = false

-- the operation is the free number
abbrev pub is_free : ℕ → Op → Bool
is_free number (ops.Free free) = free.number == number && same_sort free.sort sorts.Number
is_free number op = false

-- the number of a free term in a table, or 0 where no node has it
abbrev pub free_number : List Node → List ℤ → ℕ → ℤ
free_number nodes table number = option_map_or (number_at table) (position (λ (node : Node). is_free number node.op) nodes) (pos 0)

-- of a parameter of a type of numbers the number of its term, and of another none
abbrev pub number_of : List Node → List ℤ → ℕ → Param → List Parameter
number_of nodes table number param = if is_numeric param.ty then record { name = param.declared.text; value = free_number nodes table number } ∷ [] else []

-- Those of all parameters, in order: a method begins with a free term for each of them, and these are numbered in this order.
abbrev pub numbers_of : List Node → List ℤ → ℕ → List Param → List Parameter
numbers_of nodes table number [] = []
numbers_of nodes table number (param ∷ others) = number_of nodes table number param ++ numbers_of nodes table (suc number) others

-- ---- evidence

-- there are too many instances, or on a branch a level has too many rows
abbrev pub IsTooMany : Sequent → ℕ → Type 0
IsTooMany s rounds = AreTooMany s rounds ⊎ ((closed : List (List Lit)) × (branch : List Lit) × (count : ℕ) × HasManyRows s rounds closed branch count)

-- Evidence of this kind for why a search that may go so far stopped. A table gives numbers to the parameters.
abbrev pub IsEvidence : List Param → Sequent → Budget → Evidence → List Parameter → Type 0
IsEvidence params s budget evidences.Model parameters = (table : List ℤ) × HasModel s budget.rounds table × (parameters ≡ numbers_of s.nodes table 0 params)
IsEvidence params s budget evidences.Spent parameters = ((branches : List (List Lit)) × AreSpent s budget.steps budget.rounds branches) × (parameters ≡ [])
IsEvidence params s budget evidences.Wide parameters = ((closed : List (List Lit)) × (branch : List Lit) × IsTooWide s budget.rounds closed branch) × (parameters ≡ [])
IsEvidence params s budget evidences.Many parameters = IsTooMany s budget.rounds × (parameters ≡ [])

-- The failure is the obligation's: its position, the word of its kind, and evidence at its sequent.
pub record IsFailureOf (program : Program) (params : List Param) (budget : Budget) (o : Obligation) (f : Failure) : Type 0 where
  pub line : f.line ≡ o.pos.line
  pub col : f.col ≡ o.pos.col
  pub kind : f.kind ≡ word_of o.kind
  pub sequent : Sequent
  pub is_of : IsSequentOf program o sequent
  pub evidence : IsEvidence params sequent budget f.evidence f.parameters

-- the kernel took the log, so it derives the sequent
abbrev pub IsProofOf : Sequent → Proof → Type 0
IsProofOf s proof = IsTaken s (map step_of proof.log.items) proof.accepted

-- the proof is one of the sequent of the obligation
pub record IsConfirmed (program : Program) (o : Obligation) (proof : Proof) : Type 0 where
  pub sequent : Sequent
  pub is_of : IsSequentOf program o sequent
  pub proves : IsProofOf sequent proof

-- ---- verdicts

-- Each obligation in order has the next proof, or the next failure is its.
pub data Judges (program : Program) (params : List Param) (budget : Budget) : List Obligation → List Failure → List Proof → Type 0 where
  none : Judges program params budget [] [] []
  proved : {o : Obligation} {proof : Proof} {others : List Obligation} {failures : List Failure} {proofs : List Proof} → IsConfirmed program o proof → Judges program params budget others failures proofs → Judges program params budget (o ∷ others) failures (proof ∷ proofs)
  failed : {o : Obligation} {f : Failure} {others : List Obligation} {failures : List Failure} {proofs : List Proof} → IsFailureOf program params budget o f → Judges program params budget others failures proofs → Judges program params budget (o ∷ others) (f ∷ failures) proofs

-- the outcome is the method's: its failures are those of its obligations, each once and in their order, that have no proof
pub record IsJudgedMethod (program : Program) (groups : List ℕ) (budget : Budget) (number : ℕ) (method : Method) (outcome : Outcome) (proofs : List Proof) : Type 0 where
  pub failures : List Failure
  pub judges : Judges program method.parameters budget (obligations_of_method program groups number method) failures proofs
  pub outcome_is : outcome ≡ record { name = method.declared.text; failures = failures }

-- an outcome for each method among declarations from a number on, and its proofs, in order
abbrev pub AreJudged : Program → List ℕ → Budget → ℕ → List Decl → List Outcome → List (List Proof) → Type 0
AreJudged program groups budget number [] [] [] = Unit {0}
AreJudged program groups budget number [] [] (of_method ∷ proofs) = ⊥
AreJudged program groups budget number [] (outcome ∷ outcomes) proofs = ⊥
AreJudged program groups budget number (NewtypeDecl newtype ∷ others) outcomes proofs = AreJudged program groups budget (suc number) others outcomes proofs
AreJudged program groups budget number (MethodDecl method ∷ others) [] proofs = ⊥
AreJudged program groups budget number (MethodDecl method ∷ others) (outcome ∷ outcomes) [] = ⊥
AreJudged program groups budget number (MethodDecl method ∷ others) (outcome ∷ outcomes) (of_method ∷ proofs) =
    IsJudgedMethod program groups budget number method outcome of_method × AreJudged program groups budget (suc number) others outcomes proofs

abbrev pub AreVerdicts : Program → List ℕ → Budget → List Outcome → List (List Proof) → Type 0
AreVerdicts program groups budget outcomes proofs = AreJudged program groups budget 0 program.decls outcomes proofs

-- the outcomes, with the proofs
abbrev pub IsJudged : Program → List ℕ → Budget → List Outcome → Type 0
IsJudged program groups budget outcomes = (proofs : List (List Proof)) × AreVerdicts program groups budget outcomes proofs

-- there is no failure
abbrev pub are_verified : List Outcome → Bool
are_verified outcomes = list_all is_verified outcomes
