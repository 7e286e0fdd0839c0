-- What a source is told to break: the least of all that it breaks, by the stage, then by where the text of the node ends,
-- then the inner node first, then the lower rule. Of two nodes with one end that which begins later is the inner one.
use Rattle.std.specs.Prelude.{◌≡◌, ℕ, ◌==◌, nat_lt, ◌&&◌, ◌||◌, Bool, false, List, Contains, Some}
use Rattle.df_base.specs.declared.refusal.Refusal.{Refusal}
use Rattle.df_ntyping.specs.Rule.{Rule, stage_of, code_of, code_number, rule_number, detail_of}
use Rattle.df_ntyping.specs.Node.{Occurrence, node_pos, node_name}
use Rattle.df_ntyping.specs.Breaks.{Breaks}

-- It is among what is broken, and nothing that is comes before it.
pub record IsLeast {A : Type 0} (IsBroken : A → Type 0) (comes_before : A → A → Bool) (told : A) : Type 0 where
  pub broken : IsBroken told
  pub least : (other : A) → IsBroken other → comes_before other told ≡ false

-- a node, and a rule that is broken there
pub record Fault : Type 0 where
  pub at : Occurrence
  pub rule : Rule

-- the first numbers decide, or where they are equal the rest does
abbrev pub by_number : ℕ → ℕ → Bool → Bool
by_number one other rest = nat_lt one other || ((one == other) && rest)

abbrev pub comes_before : Fault → Fault → Bool
comes_before one other =
    by_number (stage_of one.rule) (stage_of other.rule)
    (by_number one.at.after other.at.after
    (by_number other.at.start one.at.start
    (by_number (code_number one.rule) (code_number other.rule)
    (nat_lt (rule_number one.rule) (rule_number other.rule)))))

abbrev pub IsFault : List Occurrence → Fault → Type 0
IsFault nodes fault = Contains nodes fault.at × Breaks fault.at.env fault.at.node fault.rule

abbrev pub IsLeastBroken : List Occurrence → Fault → Type 0
IsLeastBroken nodes fault = IsLeast (IsFault nodes) comes_before fault

-- the refusal tells the fault
pub record Tells (fault : Fault) (refusal : Refusal) : Type 0 where
  pub code : refusal.code ≡ code_of fault.rule
  pub pos : node_pos fault.at.node ≡ Some refusal.pos
  pub detail : detail_of fault.rule (node_name fault.at.node) ≡ Some refusal.detail

-- the refusal tells the least that these nodes break
pub record IsTold (nodes : List Occurrence) (refusal : Refusal) : Type 0 where
  pub fault : Fault
  pub least : IsLeastBroken nodes fault
  pub tells : Tells fault refusal

-- and it is of the stage
abbrev pub IsToldIn : ℕ → List Occurrence → Refusal → Type 0
IsToldIn stage nodes refusal = (told : IsTold nodes refusal) × (stage_of told.fault.rule ≡ stage)

-- ---- one stage

abbrev pub IsFaultIn : ℕ → List Occurrence → Fault → Type 0
IsFaultIn stage nodes fault = IsFault nodes fault × (stage_of fault.rule ≡ stage)

-- no rule of the stage is broken
abbrev pub BreaksNoneIn : ℕ → List Occurrence → Type 0
BreaksNoneIn stage nodes = (fault : Fault) → IsFaultIn stage nodes fault → ⊥
