-- That a value depends on nothing but what is read for it.
use Rattle.std.specs.Prelude.{◌≡◌, ℕ, true, List, [], ◌∷◌, Option}
use Rattle.std.specs.List.{AllByRecursion}
use Rattle.df_base.specs.declared.pos.Pos.{Pos}
use Rattle.df_types.specs.Ty.{Tys}
use Rattle.df_types.specs.Expr.{Expr, Local, Bound, Apply, Junction, Chain, If, Let, Call, Quantify, Old}
use Rattle.df_types.specs.Program.{Program}
use Rattle.df_types.specs.Gathering.{gather}
use Rattle.df_meaning2.specs.Value.{Value}
use Rattle.df_meaning2.specs.Heap.{Heap, object_at, may_read}
use Rattle.df_meaning2.specs.Outcome.{Outcome, Gives, Wrong, TooDeep, NoChoice, Dismissed}
use Rattle.df_meaning2.specs.State.{State}
use Rattle.df_meaning2.specs.Meaning.{Meaning, evaluate}
use Rattle.df_meaning2.specs.Whole.{whole}

abbrev pub local_of : Expr → List ℕ
local_of (Local local name at) = local ∷ []
local_of (Bound index name at) = []
local_of (Apply op at es) = []
local_of (Junction connective first rest) = []
local_of (Chain ty first rest) = []
local_of (If ty arms otherwise) = []
local_of (Let variable is_ghost value body) = []
local_of (Call callee types at es) = []
local_of (Quantify site at quantifier variable extent triggers body) = []
local_of (Old at e) = []

-- the locals that an expression reads
abbrev pub locals_read : Expr → List ℕ
locals_read e = gather local_of e

-- ---- states that agree on all that is read

pub record AgreesOn (read : List ℕ) (s t : State) : Type 0 where
  pub types : s.types ≡ t.types
  pub locals : AllByRecursion (λ n. s.locals n ≡ t.locals n) read
  pub bound : s.bound ≡ t.bound
  pub heap : s.store.heap ≡ t.store.heap
  pub entry : s.entry ≡ t.entry
  pub readable : s.readable ≡ t.readable

-- functions see the heap and what may be read of it
abbrev pub CallsAgree : Meaning → Type 0
CallsAgree m = (at : Pos) (callee : ℕ) (types : Tys) (vs : List Value) (s t : State) → s.store.heap ≡ t.store.heap → s.readable ≡ t.readable
    → m.apply at callee types vs s ≡ m.apply at callee types vs t

-- An expression comes to the same in states that agree on what it reads.
abbrev pub ExpressionsAgree : Type 0
ExpressionsAgree = (m : Meaning) → CallsAgree m → (s t : State) (e : Expr) → AgreesOn (locals_read e) s t → evaluate m s e ≡ evaluate m t e

abbrev pub WholesAgree : Type 0
WholesAgree = (p : Program) (depth : ℕ) → CallsAgree (whole p depth)

-- ---- heaps that agree on what may be read

-- where the one gives something, the other gives it
infix 20 ◌⊴◌
abbrev pub ◌⊴◌ : {A : Type 0} → Outcome A → Outcome A → Type 0
(Gives a) ⊴ o = o ≡ Gives a
(Wrong at kind) ⊴ o = Unit {0}
TooDeep ⊴ o = Unit {0}
NoChoice ⊴ o = Unit {0}
Dismissed ⊴ o = Unit {0}

-- the objects that may be read are the same in both
pub record AreSameInside (readable : Option Value) (heap other : Heap) : Type 0 where
  pub objects : (v : Value) → may_read readable v 0 ≡ true → object_at heap v ≡ object_at other v

pub record MayReadMore (readable wider : Option Value) : Type 0 where
  pub objects : (v : Value) (slot : ℕ) → may_read readable v slot ≡ true → may_read wider v slot ≡ true

-- the second agrees with the first on what may be read in the first, and there at least that may be read
pub record AgreesInside (read : List ℕ) (s t : State) : Type 0 where
  pub types : s.types ≡ t.types
  pub locals : AllByRecursion (λ n. s.locals n ≡ t.locals n) read
  pub bound : s.bound ≡ t.bound
  pub heap : AreSameInside s.readable s.store.heap t.store.heap
  pub entry : AreSameInside s.readable s.entry t.entry
  pub readable : MayReadMore s.readable t.readable

abbrev pub CallsReadInside : Meaning → Type 0
CallsReadInside m = (at : Pos) (callee : ℕ) (types : Tys) (vs : List Value) (s t : State) → AreSameInside s.readable s.store.heap t.store.heap → MayReadMore s.readable t.readable
    → m.apply at callee types vs s ⊴ m.apply at callee types vs t

-- What an expression gives, reading inside a set, it gives in each heap that has the same objects there.
abbrev pub ExpressionsReadInside : Type 0
ExpressionsReadInside = (m : Meaning) → CallsReadInside m → (s t : State) (e : Expr) → AgreesInside (locals_read e) s t → evaluate m s e ⊴ evaluate m t e

abbrev pub WholesReadInside : Type 0
WholesReadInside = (p : Program) (depth : ℕ) → CallsReadInside (whole p depth)
