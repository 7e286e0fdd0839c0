-- What expressions break of the ghost rules and of definite assignment, in the order of the text.
use Rattle.df_base.specs.declared.pos.Pos.{Pos}
use Rattle.std.specs.Prelude.{ℕ, Bool, true, false, not, ◌&&◌, ◌||◌, List, [], ◌∷◌, ◌++◌, map, slice_index_or, Option, None, Some, if◌then◌else◌}
use Rattle.std.specs.Option.{option_map_or}
use Rattle.std.specs.List.{list_any}
use Rattle.df_types.specs.declared.expr.Connective.{Connective}
use Rattle.df_types.specs.declared.expr.Connective.TheVariants.{And, Or, Implies, Explies}
use Rattle.df_types.specs.Ty.{Ty}
use Rattle.df_types.specs.Expr.{Expr, Local, Bound, Apply, Junction, Chain, If, Let, Call, Quantify, Old, Exprs, no_expr, expr, Links, no_link, link, Arms, no_arm, arm, Extent, Between, Among}
use Rattle.df_types.specs.Program.{Program, Param, Head, TypeParameter, head_at}
use Rattle.df_types.specs.Rows.{ghost_operands, is_ghost_op, equated, equated_by}
use Rattle.df_types.specs.Equality.{may_equate}

-- ---- faults

pub data Rule : Type 0 where
  -- a ghost rule of this number is broken, since a ghost is mentioned
  Mentions : (number : ℕ) → Rule
  -- a ghost rule of this number is broken otherwise
  Breaks : (number : ℕ) → Rule
  -- the local of this name has no value
  Unassigned : (name : ℕ) → Rule

pub record Fault : Type 0 where
  pub rule : Rule
  pub pos : Pos

abbrev pub fault : Pos → Rule → List Fault
fault at rule = record { rule = rule; pos = at } ∷ []

abbrev pub fault_if : Bool → Pos → Rule → List Fault
fault_if is_broken at rule = if is_broken then fault at rule else []

-- ---- what is known where an expression stands

-- which locals have a value: behind a `return` or a `break` all, since no run comes there
pub data Assigned : Type 0 where
  Unreached : Assigned
  Reached : (set : ℕ → Bool) → Assigned

abbrev pub has_value : Assigned → ℕ → Bool
has_value Unreached local = true
has_value (Reached set) local = set local

pub record Watch : Type 0 where
  pub program : Program
  pub type_parameters : List TypeParameter
  -- which locals and which bound values are ghosts
  pub locals : List Bool
  pub bound : List Bool
  -- in ghost code
  pub is_ghost : Bool
  pub assigned : Assigned

abbrev pub ghostly : Watch → Bool → Watch
ghostly w is_ghost = record w { is_ghost = w.is_ghost || is_ghost }

abbrev pub with_mark : Watch → Bool → Watch
with_mark w is_ghost = record w { bound = is_ghost ∷ w.bound }

abbrev pub with_assigned : Watch → Assigned → Watch
with_assigned w assigned = record w { assigned = assigned }

abbrev pub is_ghost_at : List Bool → ℕ → Bool
is_ghost_at marks n = slice_index_or marks n false

-- ---- what a call is of

abbrev pub param_marks : List Param → List Bool
param_marks params = map (λ (x : Param). x.is_ghost) params

abbrev pub call_marks : Program → ℕ → List Bool
call_marks p callee = option_map_or (λ (h : Head). param_marks h.parameters) (head_at p callee) []

abbrev pub is_ghost_callee : Program → ℕ → Bool
is_ghost_callee p callee = option_map_or (λ (h : Head). h.is_ghost) (head_at p callee) false

-- ---- expressions

-- in compiled code equality is tested only of types that have it
abbrev pub unequatable : Watch → Pos → Option Ty → List Fault
unequatable w at None = []
unequatable w at (Some t) = fault_if (not w.is_ghost && not (may_equate w.program w.type_parameters t)) at (Breaks 7)

-- members of `<==` stand in the text from the last to the first
abbrev pub in_order : {A : Type 0} → Connective → List A → List A → List A
in_order And first rest = first ++ rest
in_order Or first rest = first ++ rest
in_order Implies first rest = first ++ rest
in_order Explies first rest = rest ++ first

abbrev pub head_mark : List Bool → Bool
head_mark [] = false
head_mark (b ∷ bs) = b

abbrev pub tail_marks : List Bool → List Bool
tail_marks [] = []
tail_marks (b ∷ bs) = bs

-- The arguments of ghost parameters and parts are ghost code, and so is the value of a ghost variable. The range of a quantifier
-- stands in its body too.
abbrev mutual
  pub faults_in : Watch → Expr → List Fault
  faults_in w (Local local name at) = fault_if (not w.is_ghost && is_ghost_at w.locals local) at (Mentions 1) ++ fault_if (not (has_value w.assigned local)) at (Unassigned name)
  faults_in w (Bound index name at) = fault_if (not w.is_ghost && is_ghost_at w.bound index) at (Mentions 1)
  faults_in w (Apply op at es) = faults_in_all w (ghost_operands w.program op) es ++ (fault_if (not w.is_ghost && is_ghost_op w.program op) at (Mentions 1) ++ unequatable w at (equated_by op))
  faults_in w (Junction connective first rest) = in_order connective (faults_in w first) (faults_in_members w connective rest)
  faults_in w (Chain ty first rest) = faults_in w first ++ faults_in_links w ty rest
  faults_in w (If ty arms otherwise) = faults_in_arms w arms ++ faults_in w otherwise
  faults_in w (Let variable is_ghost value body) = faults_in (ghostly w is_ghost) value ++ faults_in (with_mark w is_ghost) body
  faults_in w (Call callee types at es) = faults_in_all w (call_marks w.program callee) es ++ fault_if (not w.is_ghost && is_ghost_callee w.program callee) at (Mentions 2)
  faults_in w (Quantify site at quantifier variable extent triggers body) = faults_in (with_mark w false) body ++ faults_in_extent w extent
  faults_in w (Old at e) = faults_in w e ++ fault_if (not w.is_ghost) at (Breaks 2)

  pub faults_in_all : Watch → List Bool → Exprs → List Fault
  faults_in_all w marks no_expr = []
  faults_in_all w marks (expr e es) = faults_in (ghostly w (head_mark marks)) e ++ faults_in_all w (tail_marks marks) es

  pub faults_in_members : Watch → Connective → Exprs → List Fault
  faults_in_members w connective no_expr = []
  faults_in_members w connective (expr e es) = in_order connective (faults_in w e) (faults_in_members w connective es)

  pub faults_in_links : Watch → Ty → Links → List Fault
  faults_in_links w ty no_link = []
  faults_in_links w ty (link comparison at e rest) = faults_in w e ++ (unequatable w at (equated comparison ty) ++ faults_in_links w ty rest)

  pub faults_in_arms : Watch → Arms → List Fault
  faults_in_arms w no_arm = []
  faults_in_arms w (arm guard value rest) = faults_in w guard ++ (faults_in w value ++ faults_in_arms w rest)

  pub faults_in_extent : Watch → Extent → List Fault
  faults_in_extent w (Between ty low low_strict high high_strict) = faults_in w low ++ faults_in w high
  faults_in_extent w (Among ty container) = faults_in w container

-- ---- mentioned ghosts

abbrev pub is_mention : Fault → Bool
is_mention x = elim x.rule [
  | Mentions number ↦ true
  | Breaks number ↦ false
  | Unassigned name ↦ false
]

-- As compiled code it would mention a ghost: a variable, a parameter, a part, a function; `old` is none.
abbrev pub mentions_ghost : Watch → Expr → Bool
mentions_ghost w e = list_any is_mention (faults_in (record w { is_ghost = false; assigned = Unreached }) e)
