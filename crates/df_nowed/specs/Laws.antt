-- What sequents of obligations mean.
use Rattle.std.specs.Prelude.{◌≡◌, ◌↔◌, ℕ, true, false, slice_get, Some}
use Rattle.std.specs.List.{AllByRecursion}
use Rattle.df_base.specs.declared.pos.Pos.{Pos}
use Rattle.df_lang.specs.Program.{Param, Method, Program}
use Rattle.df_form.specs.World.{of_program}
use Rattle.df_form.specs.declared.node.Free.{Free}
use Rattle.df_form.specs.Truth.{Assignment, truth}
use Rattle.df_form.specs.Sequent as form
use Rattle.df_nterm.specs.Meaning.{Interpretation}
use Rattle.df_nenc.specs.Tree.{tree_at, trees_at, sort_of}
use Rattle.df_meaning.specs.declared.kind.Kind.{Kind}
use Rattle.df_npass.specs.Methods.{Obligation, way_in}
use Rattle.df_npass.specs.Rules.{free_of}
use Rattle.df_npass.specs.Laws as trees

abbrev pub obligation_of : ℕ → Pos → Kind → form.Sequent → Obligation
obligation_of declaration pos kind s = record { declaration = declaration; pos = pos; kind = kind; hypotheses = trees_at s.nodes s.hypotheses; goal = tree_at s.nodes s.goal }

-- a sequent over a program is valid exactly where its obligation is
abbrev pub ValidSequentsAreValidObligations : Type 0
ValidSequentsAreValidObligations = (program : Program) (declaration : ℕ) (pos : Pos) (kind : Kind) (s : form.Sequent) → s.world ≡ of_program program
    → (form.IsValid s ↔ trees.IsValid program (obligation_of declaration pos kind s))

-- the interpretation gives each free term the value that the assignment gives it
abbrev pub GivesAs : Interpretation → Assignment → Type 0
GivesAs i assignment = (free : Free) → i.value (record { number = free.number; sort = sort_of free.sort }) ≡ assignment.value free

-- and where an assignment refutes the sequent, an interpretation over the program that gives the same values refutes the obligation
abbrev pub RefutedSequentsAreRefutedObligations : Type 0
RefutedSequentsAreRefutedObligations = (program : Program) (declaration : ℕ) (pos : Pos) (kind : Kind) (s : form.Sequent) (depth : ℕ) (assignment : Assignment) → s.world ≡ of_program program
    → AllByRecursion (λ h. truth depth s.world assignment s.nodes h ≡ true) s.hypotheses → truth depth s.world assignment s.nodes s.goal ≡ false
    → (refuted : trees.IsRefuted program (obligation_of declaration pos kind s)) × GivesAs refuted.interpretation assignment

-- the parameters of a method are the free terms 0, 1, .. in order, of the sorts of their types
abbrev pub ParametersAreFreeTerms : Type 0
ParametersAreFreeTerms = (method : Method) (place : ℕ) (param : Param) → slice_get method.parameters place ≡ Some param → (way_in method).env place ≡ free_of place param.ty
