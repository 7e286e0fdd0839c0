-- What definite assignment gives: runs count, and a local has a value wherever the flow says so.
use Rattle.std.specs.Prelude.{◌≡◌, ◌≤◌, ◌<◌, ◌+◌, ℕ, Bool, true, List, [], length, is_some, Some}
use Rattle.df_base.specs.declared.pos.Pos.{Pos}
use Rattle.df_lang.specs.Stmt.{Stmt}
use Rattle.df_lang.specs.Program.{Method, Program, method_at, types_of}
use Rattle.df_lang.specs.Typing.{Setting, is_stmt, is_well_typed}
use Rattle.df_lang.specs.Assignment.{Assigned, Unreached, Reached, Flowing, flow, IsDefinitelyAssigned}
pub use Rattle.df_lang.specs.Flow.{AreDeclared}
use Rattle.df_meaning.specs.Value.{Value}
use Rattle.df_meaning.specs.Types.{have_types}
use Rattle.df_meaning.specs.Outcome.{Outcome, Gives, Wrong, TooDeep, NoChoice, Dismissed}
use Rattle.df_meaning.specs.State.{Store, State, value_at}
use Rattle.df_meaning.specs.Meaning.{Flow, Returned}
use Rattle.df_meaning.specs.Meaning as flows
use Rattle.df_meaning.specs.Execution.{execute}
use Rattle.df_meaning.specs.Whole.{run_method, whole}

-- The run counts: it is not dismissed and lacks no choice, and what it gives is so.
abbrev pub Counts : {A : Type 0} → (A → Type 0) → Outcome A → Type 0
Counts P (Gives a) = P a
Counts P (Wrong pos kind) = Unit {0}
Counts P TooDeep = Unit {0}
Counts P NoChoice = ⊥
Counts P Dismissed = ⊥

abbrev pub HasValue : State → ℕ → Type 0
HasValue s local = is_some (value_at s local) ≡ true

-- A run may come here, and each local of which the flow says so has a value.
abbrev pub AreAssigned : Assigned → State → Type 0
AreAssigned Unreached s = ⊥
AreAssigned (Reached set) s = (local : ℕ) → set local ≡ true → HasValue s local

abbrev pub HaveResults : Method → State → Type 0
HaveResults m s = (local : ℕ) → length m.parameters ≤ local → local < length m.parameters + length m.results → HasValue s local

-- However a run goes on, the flow tells which locals have values there. A `break` stands in a loop.
abbrev pub AreFlowing : Method → Bool → Flowing → Flow → Type 0
AreFlowing m in_loop flowing (flows.Next t) = AreAssigned flowing.behind t
AreFlowing m in_loop flowing (flows.Return t) = HaveResults m t
AreFlowing m in_loop flowing (flows.Break t) = (in_loop ≡ true) × AreAssigned flowing.breaks t

-- In a well-typed program that obeys definite assignment a whole run of a well-typed statement counts, where its flow misses nothing.
abbrev pub StatementsCount : Type 0
StatementsCount = (setting : Setting) (depth : ℕ) (before : Assigned) (s : State) (stmt : Stmt) → is_well_typed setting.program ≡ true → IsDefinitelyAssigned setting.program
    → is_stmt setting stmt ≡ true → AreDeclared (length setting.locals) before → (flow setting.method before stmt).missing ≡ [] → AreAssigned before s
    → Counts (AreFlowing setting.method setting.in_loop (flow setting.method before stmt)) (execute (whole setting.program depth) s stmt)

-- And so does one of a method, on arguments of the types of its parameters.
abbrev pub MethodsCount : Type 0
MethodsCount = (program : Program) (depth number : ℕ) (pos : Pos) (method : Method) (arguments : List Value) (store : Store)
    → is_well_typed program ≡ true → IsDefinitelyAssigned program → method_at program number ≡ Some method → have_types program (types_of method.parameters) arguments ≡ true
    → Counts (λ (returned : Returned). length returned.values ≡ length method.results) (run_method (whole program depth) pos method arguments store)
