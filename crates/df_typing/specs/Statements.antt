-- What statements mean: each node by the word of its form, over what its expressions and its inner statements mean.
use Rattle.std.specs.Prelude.{ℕ, zero, suc, ◌-◌, ◌==◌, Bool, true, false, if◌then◌else◌, length, List, [], ◌∷◌, ◌++◌, drop, Option, Some, None}
use Rattle.df_base.specs.declared.pos.Pos.{Pos}
use Rattle.df_tok.specs.declared.sign.Sign.{Sign}
use Rattle.df_tok.specs.declared.sign.Sign.TheVariants as signs
use Rattle.df_types.specs.declared.kind.Kind.{Kind}
use Rattle.df_types.specs.declared.kind.Kind.TheVariants as kinds
use Rattle.df_types.specs.declared.expr.Connective.TheVariants as connectives
use Rattle.df_types.specs.declared.op.Comparison.{Comparison}
use Rattle.df_types.specs.declared.op.Comparison.TheVariants as comparisons
use Rattle.df_types.specs.Op.{Op}
use Rattle.df_types.specs.Ty.{no_ty}
use Rattle.df_types.specs.Expr.{Expr, Apply, Junction, Exprs, no_expr, expr}
use Rattle.df_types.specs.Stmt.{Demand, Typed, Target, Nowhere, LocalAt, CallOf, Source, Single, Results, Update, Aim, Declare, Assign, Branch, While, Break, Return, Check, Prove, Print, Stmts, done, next, Branches, no_branch, branch}
use Rattle.df_typing.specs.declared.form.Means.TheVariants as meanings
use Rattle.df_typing.specs.declared.form.Naming.TheVariants as namings
use Rattle.df_typing.specs.declared.table.Kind.TheVariants as callables
use Rattle.df_typing.specs.Tree.{Label, Span, Named, name_in, signs_in}
use Rattle.df_typing.specs.Types.{Ty, Boolean, common, first, others}
use Rattle.df_typing.specs.Form.{form_of, Means, Naming}
use Rattle.df_typing.specs.Table.{Callable, Signature, Entry, TheNewtype, TheCallable}
use Rattle.df_typing.specs.Scope.{Meaning, Unknown, TheKnown, TheGlobal, Facts, type_at}
use Rattle.df_typing.specs.Sights.{Notes, NoNote, Note}
use Rattle.df_typing.specs.Here.{Enclosing, Text, Here, here_of}
use Rattle.df_typing.specs.Asks.{operators, sign_or, inner_texts, is_measure}
use Rattle.df_typing.specs.declared.rule.Operator.{Operator}
use Rattle.df_typing.specs.declared.rule.Operator.TheVariants as operator
use Rattle.df_typing.specs.Rules.{operator_of}
use Rattle.df_typing.specs.Expressions.{pos_at, known, conversion, converted, head_expr, nothing, inner}

-- a result of the declaration: a local by its number
pub record Output : Type 0 where
  pub local : ℕ
  pub name : ℕ
  pub ty : Ty

-- what is known of the file and of the declaration around
pub record Setting : Type 0 where
  pub positions : List Pos
  pub table : List Entry
  pub around : Enclosing
  pub outputs : List Output

abbrev pub parts_of : Setting → Here → Exprs
parts_of g here = inner g.positions g.table g.around here

abbrev pub start_of : Setting → Here → Pos
start_of g here = pos_at g.positions here.text.span.start

-- Places where something is handed in have the number of their token, counted from the beginning of the declaration.
abbrev pub site_at : Facts → ℕ → ℕ
site_at facts token = token - facts.around.start

-- ---- left sides

abbrev pub target_by : Setting → Span → Meaning → Target
target_by g span Unknown = Nowhere (known None)
target_by g span (TheKnown one ty) = LocalAt one.number one.name (pos_at g.positions span.start) (known (type_at g.around.types one.index))
target_by g span (TheGlobal entry) = Nowhere (known None)

abbrev pub declared_target : Setting → Facts → Option Named → Target
declared_target g facts None = Nowhere (known None)
declared_target g facts (Some named) = LocalAt facts.local named.name (pos_at g.positions named.place) (known (type_at g.around.types facts.index))

-- a local that is declared, or a name that is assigned
abbrev pub target_of : Setting → Naming → Span → Facts → Target
target_of g namings.Declared span facts = declared_target g facts (name_in facts.marks)
target_of g namings.Value span facts = target_by g span facts.meaning
target_of g namings.Nameless span facts = Nowhere (known None)
target_of g namings.Type span facts = Nowhere (known None)

abbrev pub targets : Setting → ℕ → Notes → List Target
targets g zero notes = []
targets g (suc n) NoNote = []
targets g (suc n) (Note label span facts parts inside rest) = target_of g (form_of label).naming span facts ∷ targets g n rest

abbrev pub output_targets : Pos → List Output → List Target
output_targets at [] = []
output_targets at (one ∷ rest) = LocalAt one.local one.name at one.ty ∷ output_targets at rest

-- ---- right sides

abbrev pub is_expression : Callable → Bool
is_expression callables.Function = true
is_expression callables.Method = false
is_expression callables.Lemma = false

-- what is called, where it is no function
abbrev pub called_by : (is_call : Bool) → Meaning → Option (Entry × Signature)
called_by true (TheGlobal entry) = elim entry.is [
  | TheNewtype ↦ None
  | TheCallable signature ↦ if is_expression signature.kind then None else Some (entry, signature)
]
called_by is_call meaning = None

abbrev pub conversions : (results places : List (Option Ty)) → List Op
conversions [] places = []
conversions (result ∷ results) [] = conversion (known result) (known result) ∷ conversions results []
conversions (result ∷ results) (place ∷ places) = conversion (known result) (known place) ∷ conversions results places

abbrev pub call_of : Setting → Here → Entry → CallOf
call_of g here entry = record { site = site_at here.facts here.text.span.start; callee = entry.decl; types = no_ty; pos = start_of g here; arguments = parts_of g here }

abbrev pub source_by : Setting → Here → (places : List (Option Ty)) → Expr → Option (Entry × Signature) → Source
source_by g here places value None = Single (known (first places)) value
source_by g here places value (Some callee) = Results (call_of g here callee.0) (conversions callee.1.results places)

-- one right side gives its values to all places, of several each gives one to its own
abbrev pub first_places : Bool → List (Option Ty) → List (Option Ty)
first_places true places = places
first_places false places = first places ∷ []

abbrev pub sources : Setting → (is_single : Bool) → (places : List (Option Ty)) → Exprs → Notes → List Source
sources g is_single places es NoNote = []
sources g is_single places no_expr (Note label span facts parts inside rest) = []
sources g is_single places (expr e es) (Note label span facts parts inside rest) =
    source_by g (here_of g.around label span facts parts None inside) (first_places is_single places) e (called_by (form_of label).is_call facts.meaning)
    ∷ sources g is_single (others places) es rest

abbrev pub notes_behind : ℕ → Notes → Notes
notes_behind zero notes = notes
notes_behind (suc n) NoNote = NoNote
notes_behind (suc n) (Note label span facts parts inside rest) = notes_behind n rest

abbrev pub exprs_behind : ℕ → Exprs → Exprs
exprs_behind zero es = es
exprs_behind (suc n) no_expr = no_expr
exprs_behind (suc n) (expr e es) = exprs_behind n es

abbrev pub right_sides : Setting → Here → List Source
right_sides g here = sources g (length (drop here.facts.before here.parts) == 1) (drop here.facts.before here.places) (exprs_behind here.facts.before (parts_of g here)) (notes_behind here.facts.before here.inside)

-- an assignment, where there are right sides
abbrev pub assigned : List Target → List Source → Option Update
assigned targets [] = None
assigned targets (source ∷ sources) = Some (record { targets = targets; sources = source ∷ sources })

abbrev pub assign : Option Update → Stmts → Stmts
assign None behind = behind
assign (Some update) behind = next (Assign update) behind

-- results that are dropped
abbrev pub dropped : List (Option Ty) → List Target
dropped [] = []
dropped (ty ∷ types) = Nowhere (known ty) ∷ dropped types

abbrev pub effect : Setting → Notes → Stmts → Stmts
effect g NoNote behind = behind
effect g (Note label span facts parts inside rest) behind = by (called_by (form_of label).is_call facts.meaning) where
  by : Option (Entry × Signature) → Stmts
  by None = behind
  by (Some callee) =
      next (Assign (record {
        targets = dropped callee.1.results;
        sources = source_by g (here_of g.around label span facts parts None inside) callee.1.results nothing (Some callee) ∷ [];
      })) behind

-- ---- clauses

abbrev pub demand : Kind → Pos → Expr → Demand
demand kind at condition = record { kind = kind; pos = at; condition = condition }

abbrev pub is_one : (Means → Bool) → Label → Bool
is_one test label = test (form_of label).means

abbrev pub is_precondition : Means → Bool
is_precondition meanings.Precondition = true
is_precondition means = false

abbrev pub is_postcondition : Means → Bool
is_postcondition meanings.Postcondition = true
is_postcondition means = false

abbrev pub is_invariant : Means → Bool
is_invariant meanings.Invariant = true
is_invariant means = false

abbrev pub first_text : Text → Notes → Text
first_text whole NoNote = whole
first_text whole (Note label span facts parts inside rest) = record { span = span; place = span.start }

-- the clauses of a kind among these nodes; each stands where its condition begins
abbrev pub demands : Setting → (Means → Bool) → Kind → Notes → List Demand
demands g test kind NoNote = []
demands g test kind (Note label span facts parts inside rest) =
    let here = here_of g.around label span facts parts None inside in
    (if is_one test label then demand kind (pos_at g.positions (first_text here.text inside).span.start) (head_expr (parts_of g here)) ∷ [] else [])
    ++ demands g test kind rest

abbrev pub typed_each : List (Option Ty) → Exprs → List Typed
typed_each types no_expr = []
typed_each types (expr e es) = record { ty = known (first types); value = e } ∷ typed_each (others types) es

abbrev pub measures : Setting → Notes → List Typed
measures g NoNote = []
measures g (Note label span facts parts inside rest) =
    let here = here_of g.around label span facts parts None inside in
    (if is_one is_measure label then typed_each here.types (parts_of g here) else []) ++ measures g rest

abbrev pub if_any : List Typed → Option (List Typed)
if_any [] = None
if_any (x ∷ xs) = Some (x ∷ xs)

abbrev pub decreases : Setting → Notes → Option (List Typed)
decreases g notes = if_any (measures g notes)

-- ---- proofs

abbrev pub aim : Demand → Aim
aim claim = record { ranges = []; given = None; claims = claim ∷ [] }

abbrev pub compared : Comparison → Pos → (ty left right : Option Ty) → Expr → Expr → Expr
compared comparison at ty left right a b = Apply (Op.Compare comparison (known ty)) at (expr (converted at left ty a) (expr (converted at right ty b) no_expr))

-- two lines by an operator, at the type that they have in common
abbrev pub relation : Operator → Pos → (left right : Option Ty) → Expr → Expr → Expr
relation operator.Equivalence at left right a b = Apply (Op.Compare comparisons.Equal Boolean) at (expr a (expr b no_expr))
relation operator.Logic at left right a b = Junction connectives.Implies a (expr b no_expr)
relation (operator.Order comparison) at left right a b = compared comparison at (common (left ∷ right ∷ [])) left right a b
relation (operator.Equality comparison) at left right a b = compared comparison at (common (left ∷ right ∷ [])) left right a b
relation (operator.Arithmetic operation) at left right a b = nothing
relation operator.Nothing at left right a b = nothing

-- ---- statements

abbrev pub numbers_from : ℕ → ℕ → List ℕ
numbers_from from zero = []
numbers_from from (suc n) = from ∷ numbers_from (suc from) n

abbrev pub in_front : Stmts → Stmts → Stmts
in_front done behind = behind
in_front (next stmt others) behind = next stmt (in_front others behind)

abbrev pub arms_with : Means → Exprs → Stmts → Branches → Branches
arms_with meanings.Arm es body rest = branch (head_expr es) body rest
arms_with means es body rest = rest

abbrev pub assertion : Setting → Here → Expr → Stmts → Stmts → Stmts
assertion g here condition body behind =
    let claim = demand kinds.Assert (start_of g here) condition in
    if length here.parts == 1 then next (Check claim) behind else next (Prove (site_at here.facts here.text.span.start) (start_of g here) (aim claim) body) behind

-- A step between two lines stands where the first of them begins; its number is that of the second.
abbrev pub step : Setting → Facts → Sign → (one other : Text) → (left right : Option Ty) → Expr → Expr → Stmts → Stmts → Stmts
step g facts sign one other left right a b hints behind =
    let at = pos_at g.positions one.span.start in
    next (Prove (site_at facts other.span.start) at (aim (demand kinds.Calc at (relation (operator_of sign) at left right a b))) hints) behind

-- each line with the one behind it, under the hints between them
abbrev pub steps : Setting → Facts → List Sign → List Text → List (Option Ty) → Exprs → (hints : List Stmts) → Stmts → Stmts
steps g facts (sign ∷ all) (one ∷ other ∷ texts) (left ∷ right ∷ types) (expr a (expr b es)) (body ∷ hints) behind =
    step g facts sign one other left right a b body (steps g facts all (other ∷ texts) (right ∷ types) (expr b es) hints behind)
steps g facts all texts types es hints behind = behind

-- what the statements inside a node mean: in a row, as what guards guard, and each by itself
pub record Inside : Type 0 where
  pub body : Stmts
  pub arms : Branches
  pub each : List Stmts

-- what a node means, in front of what stands behind it
abbrev pub statement : Setting → Here → Inside → Stmts → Means → Stmts
statement g here inside behind meanings.Sequence = in_front inside.body behind
statement g here inside behind meanings.Declaration =
    next (Declare (numbers_from here.facts.local here.facts.before)) (assign (assigned (targets g here.facts.before here.inside) (right_sides g here)) behind)
statement g here inside behind meanings.Assignment = assign (assigned (targets g here.facts.before here.inside) (right_sides g here)) behind
statement g here inside behind meanings.Effect = effect g here.inside behind
statement g here inside behind meanings.Branch = next (Branch inside.arms inside.body) behind
statement g here inside behind meanings.Loop =
    next (While (site_at here.facts here.text.span.start) (start_of g here) (head_expr (parts_of g here)) (demands g is_invariant kinds.Entry here.inside) (decreases g here.inside) inside.body) behind
statement g here inside behind meanings.Return = next (Return (start_of g here) (assigned (output_targets (start_of g here) g.outputs) (right_sides g here))) behind
statement g here inside behind meanings.Break = next (Break (start_of g here)) behind
statement g here inside behind meanings.Assertion = assertion g here (head_expr (parts_of g here)) inside.body behind
statement g here inside behind meanings.Output = next (Print (start_of g here) (typed_each here.types (parts_of g here))) behind
statement g here inside behind meanings.Calculation =
    steps g here.facts (operators (sign_or signs.Equal (signs_in here.facts.marks)) here.inside) (inner_texts here.inside) here.types (parts_of g here) inside.each behind
statement g here inside behind meanings.Nothing = behind
statement g here inside behind meanings.Precondition = behind
statement g here inside behind meanings.Postcondition = behind
statement g here inside behind meanings.Invariant = behind
statement g here inside behind meanings.Measure = behind
statement g here inside behind meanings.Local = behind
statement g here inside behind meanings.Arm = behind
statement g here inside behind meanings.Step = behind
statement g here inside behind meanings.Number = behind
statement g here inside behind meanings.Character = behind
statement g here inside behind meanings.Truth = behind
statement g here inside behind meanings.Text = behind
statement g here inside behind meanings.Variable = behind
statement g here inside behind meanings.Inside = behind
statement g here inside behind meanings.Negation = behind
statement g here inside behind meanings.Denial = behind
statement g here inside behind meanings.Arithmetic = behind
statement g here inside behind meanings.Comparison = behind
statement g here inside behind meanings.Equivalence = behind
statement g here inside behind meanings.Conjunction = behind
statement g here inside behind meanings.Disjunction = behind
statement g here inside behind meanings.Implication = behind
statement g here inside behind meanings.Explication = behind
statement g here inside behind meanings.Conversion = behind
statement g here inside behind meanings.Call = behind
statement g here inside behind meanings.Choice = behind
statement g here inside behind meanings.Binding = behind

abbrev mutual
  pub statements : Setting → Notes → Stmts → Stmts
  statements g NoNote behind = behind
  statements g (Note label span facts parts inside rest) behind =
      statement g (here_of g.around label span facts parts None inside)
      (record { body = statements g inside done; arms = arms g inside; each = each g inside })
      (statements g rest behind) (form_of label).means

  pub arms : Setting → Notes → Branches
  arms g NoNote = no_branch
  arms g (Note label span facts parts inside rest) =
      arms_with (form_of label).means (parts_of g (here_of g.around label span facts parts None inside)) (statements g inside done) (arms g rest)

  pub each : Setting → Notes → List Stmts
  each g NoNote = []
  each g (Note label span facts parts inside rest) = statements g inside done ∷ each g rest
