-- What checking parts answers, step by step.
use Rattle.std.specs.Prelude.{◌≡◌, ◌≤◌, ℕ, List, ◌++◌, length, take, Option, None, Some}
use Rattle.df_lang.specs.Program.{Program}
use Rattle.df_form.specs.Log.{Step}
use Rattle.df_logtext.specs.BadLog.{IsText, IsBad}
use Rattle.df_npass.specs.Methods.{Obligation}
use Rattle.df_nproof.specs.declared.fault.CheckFault.{CheckFault}
use Rattle.df_nproof.specs.declared.fault.CheckFault.TheVariants as faults
use Rattle.df_nproof.specs.Names.{names_in}
use Rattle.df_nproof.specs.Derived.{IsDerived, AreDerived}
use Rattle.df_nproof.specs.Refused.{IsBroken, IsBadPart, IsBadAt, IsRefusedAt, AreRefused}

-- ---- one part

-- why the part of an obligation, which has this number, is not taken
abbrev pub IsBrokenBy : Program → Obligation → List Step → ℕ → CheckFault → Type 0
IsBrokenBy program o log number (faults.NotALog line) = ⊥
IsBrokenBy program o log number (faults.Refused obligation step) = (obligation ≡ number) × IsBroken program o log step
IsBrokenBy program o log number faults.Memory = Unit {0}

-- the next part is there, and derives the obligation
abbrev pub IsNext : Program → Obligation → Option (List Step) → Type 0
IsNext program o None = ⊥
IsNext program o (Some log) = IsDerived program o log

-- why the next part, if it is there, is not taken for the obligation of this number
abbrev pub IsBadBy : Program → Obligation → Option (List Step) → ℕ → CheckFault → Type 0
IsBadBy program o part number (faults.NotALog line) = ⊥
IsBadBy program o part number (faults.Refused obligation step) = (obligation ≡ number) × IsBadPart program o part step
IsBadBy program o part number faults.Memory = Unit {0}

-- ---- parts one after another

-- so many parts are taken: each derives its obligation, in order
pub record AreTaken (program : Program) (os : List Obligation) (parts : List (List Step)) (taken : ℕ) : Type 0 where
  pub within : taken ≤ length parts
  pub derived : AreDerived program os (take taken parts)

-- the parts of these obligations are taken as well
abbrev pub Takes : Program → List Obligation → List (List Step) → ℕ → ℕ → Type 0
Takes program os parts taken now = (before : List Obligation) → AreTaken program before parts taken → AreTaken program (before ++ os) parts now

-- why they are not, whatever obligations come after them
abbrev pub Fails : Program → List Obligation → List (List Step) → ℕ → CheckFault → Type 0
Fails program os parts taken (faults.NotALog line) = ⊥
Fails program os parts taken (faults.Refused number step) = (before after : List Obligation) → AreTaken program before parts taken → IsBadAt program (before ++ os ++ after) parts number step
Fails program os parts taken faults.Memory = Unit {0}

-- the same from the first part on
abbrev pub FailsAt : Program → List Obligation → List (List Step) → CheckFault → Type 0
FailsAt program os parts (faults.NotALog line) = ⊥
FailsAt program os parts (faults.Refused number step) = IsBadAt program os parts number step
FailsAt program os parts faults.Memory = Unit {0}

-- why parts are not those of the obligations
abbrev pub IsRefusedBy : Program → List Obligation → List (List Step) → CheckFault → Type 0
IsRefusedBy program os parts (faults.NotALog line) = ⊥
IsRefusedBy program os parts (faults.Refused number step) = IsRefusedAt program os parts number step
IsRefusedBy program os parts faults.Memory = Unit {0}

-- ---- bytes

-- why bytes hold no parts
abbrev pub IsUnread : Program → List ℕ → CheckFault → Type 0
IsUnread program bytes (faults.NotALog line) = IsBad (names_in program) bytes line
IsUnread program bytes (faults.Refused number step) = ⊥
IsUnread program bytes faults.Memory = Unit {0}

-- The bytes are the text of parts that are refused there.
pub record HasBadPart (program : Program) (bytes : List ℕ) (number step : ℕ) : Type 0 where
  pub parts : List (List Step)
  pub is_text : IsText (names_in program) parts bytes
  pub refused : AreRefused program parts number step

-- why bytes are no log of the program: they are the text of no logs, or a part is refused
abbrev pub IsNoLog : Program → List ℕ → CheckFault → Type 0
IsNoLog program bytes (faults.NotALog line) = IsBad (names_in program) bytes line
IsNoLog program bytes (faults.Refused number step) = HasBadPart program bytes number step
IsNoLog program bytes faults.Memory = Unit {0}
