-- Evaluation of expressions, over what functions mean.
use Rattle.std.specs.Prelude.{ℕ, zero, suc, ℤ, pos, ◌+ℤ◌, ◌-ℤ◌, Bool, true, false, not, ◌&&◌, ◌||◌, List, [], ◌∷◌, filter, slice_get, Option, None, Some, if◌then◌else◌}
use Rattle.df_base.specs.declared.pos.Pos.{Pos}
use Rattle.df_types.specs.declared.kind.Kind.{Kind}
use Rattle.df_types.specs.declared.expr.Connective.{Connective}
use Rattle.df_types.specs.declared.expr.Connective.TheVariants.{And, Or, Implies, Explies}
use Rattle.df_types.specs.declared.expr.Quantifier.{Quantifier}
use Rattle.df_types.specs.declared.expr.Quantifier.TheVariants.{Forall, Exists}
use Rattle.df_types.specs.Ty.{Ty, Tys, instances_of}
use Rattle.df_types.specs.Expr.{Expr, Local, Bound, Apply, Junction, Chain, If, Let, Call, Quantify, Old, Exprs, no_expr, expr, Links, no_link, link, Arms, no_arm, arm, Extent, Between, Among}
use Rattle.df_types.specs.Stmt.{Demand, Typed}
use Rattle.df_types.specs.Program.{Program}
use Rattle.df_meaning2.specs.Value.{Value, Truth, truth_of, number_of, items_of, nat_of}
use Rattle.df_meaning2.specs.Outcome.{Outcome, Gives, Wrong, Dismissed, after}
use Rattle.df_meaning2.specs.Types.{is_of}
use Rattle.df_meaning2.specs.Answer.{Answer, Is, Asks, View, answer, compare, number_in}
use Rattle.df_meaning2.specs.State.{State, with_bound, with_heap}

-- What a function gives on arguments at types, called in a state; and which value of a quantifier's range is looked at first: no value
-- depends on it, only which of several wrong ones tells.
pub record Meaning : Type 0 where
  pub program : Program
  pub first : (site : ℕ) → ℕ
  pub apply : Pos → ℕ → Tys → List Value → State → Outcome Value

abbrev pub view_of : Meaning → State → View
view_of m s = record { program = m.program; types = s.types; heap = s.store.heap; entry = s.entry; readable = s.readable; changeable = s.changeable }

abbrev pub answered : Pos → Answer → Outcome Value
answered at (Is v) = Gives v
answered at (Asks kind is_met rest) = if is_met then answered at rest else Wrong at kind

-- a local without a value has none to give: definite assignment keeps runs from reading it
abbrev pub there : Option Value → Outcome Value
there None = Dismissed
there (Some v) = Gives v

-- ---- lazy forms

-- whether a member ends the junction, and its value then
abbrev pub ends : Connective → Bool → Bool
ends And b = not b
ends Or b = b
ends Implies b = not b
ends Explies b = not b

abbrev pub ended : Connective → Bool
ended And = false
ended Or = true
ended Implies = true
ended Explies = true

-- ---- quantifiers

abbrev pub joined : Quantifier → Bool → Bool → Bool
joined Forall a b = a && b
joined Exists a b = a || b

abbrev pub neutral : Quantifier → Bool
neutral Forall = true
neutral Exists = false

-- on the whole range, also where the first value decides it
abbrev pub each : Quantifier → (Value → Outcome Value) → List Value → Outcome Value
each q go [] = Gives (Truth (neutral q))
each q go (v ∷ vs) = after (go v) (λ a. after (each q go vs) (λ b. Gives (Truth (joined q (truth_of a) (truth_of b)))))

abbrev pub led_by : Option Value → List Value → List Value
led_by None vs = vs
led_by (Some v) vs = v ∷ vs

-- one of them is looked at before all
abbrev pub led : ℕ → List Value → List Value
led n vs = led_by (slice_get vs n) vs

abbrev pub counted : Ty → ℤ → ℕ → List Value
counted t n zero = []
counted t n (suc k) = number_in t n ∷ counted t (n +ℤ pos 1) k

abbrev pub strictly : Bool → ℤ → ℤ
strictly is_strict n = if is_strict then n +ℤ pos 1 else n

-- the numbers or characters between two ends
abbrev pub between : Ty → Value → Bool → Value → Bool → List Value
between t a low b high = counted t (strictly low (number_of a)) (nat_of (strictly (not high) (number_of b) -ℤ strictly low (number_of a)))

-- the members of a range that are of the variable's type
abbrev pub of_type : Meaning → State → Ty → List Value → List Value
of_type m s t vs = filter (is_of m.program s.types t) vs

-- ---- expressions

-- the heap parts are read at entry; locals keep their present values
abbrev pub at_entry : State → State
at_entry s = with_heap s s.entry

abbrev mutual
  pub evaluate : Meaning → State → Expr → Outcome Value
  evaluate m s (Local local name at) = there (s.locals local)
  evaluate m s (Bound index name at) = there (slice_get s.bound index)
  evaluate m s (Apply op at es) = after (evaluate_all m s es) (λ vs. answered at (answer (view_of m s) op vs))
  evaluate m s (Junction connective first rest) = after (evaluate m s first) (λ v. evaluate_lazily m s connective v rest)
  evaluate m s (Chain t first rest) = after (evaluate m s first) (λ v. evaluate_links m s v rest)
  evaluate m s (If t arms otherwise) = evaluate_arms m s arms (evaluate m s otherwise)
  evaluate m s (Let variable is_ghost value body) = after (evaluate m s value) (λ v. evaluate m (with_bound s v) body)
  evaluate m s (Call callee types at es) = after (evaluate_all m s es) (λ vs. m.apply at callee (instances_of s.types types) vs s)
  evaluate m s (Quantify site at q variable extent triggers body) =
      after (evaluate_range m s extent) (λ vs. each q (λ v. evaluate m (with_bound s v) body) (led (m.first site) (of_type m s variable.ty vs)))
  evaluate m s (Old at e) = evaluate m (at_entry s) e

  pub evaluate_all : Meaning → State → Exprs → Outcome (List Value)
  evaluate_all m s no_expr = Gives []
  evaluate_all m s (expr e others) = after (evaluate m s e) (λ v. after (evaluate_all m s others) (λ vs. Gives (v ∷ vs)))

  -- the first member that decides it is the last one that is evaluated
  pub evaluate_lazily : Meaning → State → Connective → Value → Exprs → Outcome Value
  evaluate_lazily m s connective v no_expr = Gives v
  evaluate_lazily m s connective v (expr e others) =
      if ends connective (truth_of v) then Gives (Truth (ended connective)) else after (evaluate m s e) (λ w. evaluate_lazily m s connective w others)

  -- each member is evaluated once, and the first false neighbours end the chain
  pub evaluate_links : Meaning → State → Value → Links → Outcome Value
  evaluate_links m s v no_link = Gives (Truth true)
  evaluate_links m s v (link comparison at e others) = after (evaluate m s e) (λ w. if compare comparison v w then evaluate_links m s w others else Gives (Truth false))

  pub evaluate_arms : Meaning → State → Arms → Outcome Value → Outcome Value
  evaluate_arms m s no_arm otherwise = otherwise
  evaluate_arms m s (arm guard value rest) otherwise = after (evaluate m s guard) (λ v. if truth_of v then evaluate m s value else evaluate_arms m s rest otherwise)

  pub evaluate_range : Meaning → State → Extent → Outcome (List Value)
  evaluate_range m s (Between t low low_strict high high_strict) = after (evaluate m s low) (λ a. after (evaluate m s high) (λ b. Gives (between t a low_strict b high_strict)))
  evaluate_range m s (Among t container) = after (evaluate m s container) (λ v. Gives (items_of v))

-- ---- demands

abbrev pub check : Meaning → State → Demand → Outcome State
check m s d = after (evaluate m s d.condition) (λ v. if truth_of v then Gives s else Wrong d.pos d.kind)

abbrev pub check_all : Meaning → State → List Demand → Outcome State
check_all m s [] = Gives s
check_all m s (d ∷ others) = after (check m s d) (λ t. check_all m t others)

abbrev pub as_kind : Kind → Demand → Demand
as_kind kind d = record { kind = kind; pos = d.pos; condition = d.condition }

-- at the place of a call
abbrev pub asked_at : Pos → Kind → Demand → Demand
asked_at at kind d = record { kind = kind; pos = at; condition = d.condition }

-- the run counts only where they are true
abbrev pub assume_all : Meaning → State → List Expr → Outcome State
assume_all m s [] = Gives s
assume_all m s (e ∷ others) = after (evaluate m s e) (λ v. if truth_of v then assume_all m s others else Dismissed)

-- ---- measures

-- a value of a measure; those whose type is a type parameter are only equal or not
pub record Measured : Type 0 where
  pub ty : Ty
  pub value : Value

abbrev pub measured : Meaning → State → List Typed → Outcome (List Measured)
measured m s [] = Gives []
measured m s (x ∷ others) = after (evaluate m s x.value) (λ v. after (measured m s others) (λ vs. Gives (record { ty = x.ty; value = v } ∷ vs)))
