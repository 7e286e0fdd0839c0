-- What expressions mean: each node by the word of its form, over what its parts mean. A value that goes to a place of another type is
-- converted there.
use Rattle.std.specs.Prelude.{ℕ, ℤ, suc, pos as positive, neg_ℤ, ◌-◌, Bool, true, false, if◌then◌else◌, List, [], ◌∷◌, Option, Some, None, slice_index_or}
use Rattle.std.specs.Option.{option_or}
use Rattle.df_base.specs.declared.pos.Pos.{Pos}
use Rattle.df_tok.specs.declared.sign.Sign.{Sign}
use Rattle.df_types.specs.declared.op.Comparison.{Comparison}
use Rattle.df_types.specs.declared.op.Comparison.TheVariants as comparisons
use Rattle.df_types.specs.declared.expr.Connective.{Connective}
use Rattle.df_types.specs.declared.expr.Connective.TheVariants as connectives
use Rattle.df_types.specs.Op.{Op}
use Rattle.df_types.specs.Ty.{no_ty}
use Rattle.df_types.specs.Expr.{Binder, Expr, Local, Bound, Apply, Junction, Chain, If, Let, Call, Exprs, no_expr, expr, Links, no_link, link, no_arm, arm}
use Rattle.df_typing.specs.declared.form.Demand.TheVariants as demands
use Rattle.df_typing.specs.declared.form.Means.TheVariants as meanings
use Rattle.df_typing.specs.declared.form.Naming.TheVariants as namings
use Rattle.df_typing.specs.declared.rule.Operation.{Operation}
use Rattle.df_typing.specs.declared.rule.Operation.TheVariants as operations
use Rattle.df_typing.specs.declared.rule.Operator.{Operator}
use Rattle.df_typing.specs.declared.rule.Operator.TheVariants as operators
use Rattle.df_typing.specs.Rules.{operator_of}
use Rattle.df_typing.specs.Tree.{Named, Signed, name_in, signs_in, number_in, character_in, truth_in, text_in}
use Rattle.df_typing.specs.Types.{Ty, Int, Boolean, same_type, fits, common, first, others}
use Rattle.df_typing.specs.Form.{form_of, Demand, Means, Naming}
use Rattle.df_typing.specs.Table.{Entry}
use Rattle.df_typing.specs.Scope.{Meaning, Unknown, TheKnown, TheGlobal, Facts, is_bound}
use Rattle.df_typing.specs.Sights.{Sight, each_expects, settled, sight_of, is_truth, sight_at, Notes, NoNote, Note}
use Rattle.df_typing.specs.Here.{Enclosing, Here, here_of, demands_at, nothing_before}

-- where the tokens of a text stand
abbrev pub nowhere : Pos
nowhere = record { line = 1; col = 1 }

abbrev pub pos_at : List Pos → ℕ → Pos
pos_at positions token = slice_index_or positions token nowhere

-- a type that is not known is of no program
abbrev pub known : Option Ty → Ty
known None = Int
known (Some ty) = ty

-- ---- conversions

abbrev pub conversion : Ty → Ty → Op
conversion source target = if fits source target then Op.Fit source target else Op.Narrow source target

-- a value of the one type at a place of the other
abbrev pub converted : (at : Pos) → (source target : Option Ty) → Expr → Expr
converted at (Some source) (Some target) e = if same_type source target then e else Apply (conversion source target) at (expr e no_expr)
converted at source target e = e

-- the types that the parts go to: operands to that which they have in common, branches too, others to their places
abbrev pub goes_to : Demand → (own : Option Ty) → (types places : List (Option Ty)) → List Sight → List (Option Ty)
goes_to demands.Nothing own types places parts = []
goes_to demands.Neighbours own types places parts = each_expects own parts
goes_to (demands.Branches k) own types places parts = nothing_before k (each_expects own parts)
goes_to (demands.Passed k) own types places parts = []
goes_to demands.Given own types places parts = places

-- ---- words

-- of a sign that compares
abbrev pub comparison_by : Operator → Comparison
comparison_by (operators.Order comparison) = comparison
comparison_by (operators.Equality comparison) = comparison
comparison_by (operators.Arithmetic operation) = comparisons.Equal
comparison_by operators.Equivalence = comparisons.Equal
comparison_by operators.Logic = comparisons.Equal
comparison_by operators.Nothing = comparisons.Equal

abbrev pub comparison_of : Sign → Comparison
comparison_of sign = comparison_by (operator_of sign)

abbrev pub arithmetic_op : Operation → Ty → Op
arithmetic_op operations.Add ty = Op.Add ty
arithmetic_op operations.Subtract ty = Op.Subtract ty
arithmetic_op operations.Multiply ty = Op.Multiply ty
arithmetic_op operations.Divide ty = Op.Divide ty
arithmetic_op operations.Modulo ty = Op.Modulo ty

abbrev pub nothing : Expr
nothing = Apply (Op.TruthOf true) nowhere no_expr

abbrev pub head_expr : Exprs → Expr
head_expr no_expr = nothing
head_expr (expr e es) = e

abbrev pub tail_exprs : Exprs → Exprs
tail_exprs no_expr = no_expr
tail_exprs (expr e es) = es

abbrev pub last_expr : Expr → Exprs → Expr
last_expr e no_expr = e
last_expr e (expr next es) = last_expr next es

abbrev pub operated : Ty → Operator → Pos → Expr → Expr → Expr
operated ty (operators.Arithmetic operation) at left right = Apply (arithmetic_op operation ty) at (expr left (expr right no_expr))
operated ty (operators.Order comparison) at left right = left
operated ty (operators.Equality comparison) at left right = left
operated ty operators.Equivalence at left right = left
operated ty operators.Logic at left right = left
operated ty operators.Nothing at left right = left

-- from the left
abbrev pub operate : List Pos → Ty → Expr → List Signed → Exprs → Expr
operate positions ty left [] es = left
operate positions ty left (one ∷ rest) no_expr = left
operate positions ty left (one ∷ rest) (expr right es) =
    operate positions ty (operated ty (operator_of one.sign) (pos_at positions one.place) left right) rest es

-- equality of truths, from the left
abbrev pub equate : List Pos → Expr → List Signed → Exprs → Expr
equate positions left [] es = left
equate positions left (one ∷ rest) no_expr = left
equate positions left (one ∷ rest) (expr right es) =
    equate positions (Apply (Op.Compare comparisons.Equal Boolean) (pos_at positions one.place) (expr left (expr right no_expr))) rest es

abbrev pub links : List Pos → List Signed → Exprs → Links
links positions [] es = no_link
links positions (one ∷ rest) no_expr = no_link
links positions (one ∷ rest) (expr e es) = link (comparison_of one.sign) (pos_at positions one.place) e (links positions rest es)

-- two members are one operation
abbrev pub compare : List Pos → Ty → List Signed → Exprs → Expr
compare positions ty (one ∷ []) (expr a (expr b no_expr)) = Apply (Op.Compare (comparison_of one.sign) ty) (pos_at positions one.place) (expr a (expr b no_expr))
compare positions ty all (expr a es) = Chain ty a (links positions all es)
compare positions ty all no_expr = nothing

-- from type to type
abbrev pub cast : Pos → Expr → (source : Ty) → (targets : List (Option Ty)) → Expr
cast at e source [] = e
cast at e source (target ∷ targets) = cast at (Apply (Op.As source (known target)) at (expr e no_expr)) (known target) targets

-- there may be one alone
abbrev pub junction : Connective → Exprs → Expr
junction connective no_expr = nothing
junction connective (expr e es) = Junction connective e es

abbrev pub reversed : Exprs → Exprs → Exprs
reversed no_expr behind = behind
reversed (expr e es) behind = reversed es (expr e behind)

abbrev pub signed : Bool → ℕ → ℤ
signed true n = neg_ℤ (positive n)
signed false n = positive n

-- a local, or a bound variable counted from the innermost
abbrev pub variable : Facts → Pos → Meaning → Expr
variable facts at Unknown = nothing
variable facts at (TheGlobal entry) = nothing
variable facts at (TheKnown known ty) = if is_bound known.role then Bound (facts.depth - suc known.number) known.name at else Local known.number known.name at

abbrev pub calling : Pos → Exprs → Meaning → Expr
calling at es Unknown = nothing
calling at es (TheKnown known ty) = nothing
calling at es (TheGlobal entry) = Call entry.decl no_ty at es

-- ---- what is declared inside, first

abbrev pub declared_name : Naming → Facts → Option Named
declared_name namings.Declared facts = name_in facts.marks
declared_name naming facts = None

abbrev pub first_declared : Notes → Option Named
first_declared NoNote = None
first_declared (Note label span facts parts inside rest) =
    option_or (declared_name (form_of label).naming facts) (option_or (first_declared inside) (first_declared rest))

abbrev pub binder : List Pos → Option Named → Ty → Binder
binder positions None ty = record { name = 0; pos = nowhere; ty = ty; is_written = true }
binder positions (Some named) ty = record { name = named.name; pos = pos_at positions named.place; ty = ty; is_written = true }

-- ---- one node: its own type, the types of its parts, and what they mean where they go to

abbrev pub branch : Ty → Exprs → Expr
branch ty (expr guard (expr one (expr other es))) = If ty (arm guard one no_arm) other
branch ty es = nothing

abbrev pub binding : List Pos → Here → Exprs → Expr
binding positions here (expr value (expr body es)) = Let (binder positions (first_declared here.inside) (known (first here.types))) false value body
binding positions here es = nothing

-- a sign belongs to a literal directly behind it
abbrev pub negation : Pos → Ty → Bool → ℕ → Exprs → Expr
negation at ty true n es = Apply (Op.NumberOf ty (signed true n)) at no_expr
negation at ty false n es = Apply (Op.Negate ty) at es

-- the value of a literal that is the first part
abbrev pub first_number : Notes → ℕ
first_number NoNote = 0
first_number (Note label span facts parts inside rest) = number_in facts.marks

abbrev pub meaning : List Pos → Here → (own : Option Ty) → Exprs → Expr
meaning positions here own es = by (form_of here.label).means where
  at : Pos
  at = pos_at positions here.text.place

  all : List Signed
  all = signs_in here.facts.marks

  by : Means → Expr
  by meanings.Nothing = nothing
  by meanings.Precondition = head_expr es
  by meanings.Postcondition = head_expr es
  by meanings.Invariant = head_expr es
  by meanings.Measure = head_expr es
  by meanings.Local = nothing
  by meanings.Arm = head_expr es
  by meanings.Step = head_expr es
  by meanings.Number = Apply (Op.NumberOf (known own) (signed false (number_in here.facts.marks))) at no_expr
  by meanings.Character = Apply (Op.CharacterOf (character_in here.facts.marks)) at no_expr
  by meanings.Truth = Apply (Op.TruthOf (truth_in here.facts.marks)) at no_expr
  by meanings.Text = Apply (Op.TextOf (text_in here.facts.marks)) at no_expr
  by meanings.Variable = variable here.facts at here.facts.meaning
  by meanings.Inside = head_expr es
  by meanings.Negation = negation at (known own) (sight_at 0 here.parts).is_digits (first_number here.inside) es
  by meanings.Denial = Apply Op.Not at es
  by meanings.Arithmetic = operate positions (known own) (head_expr es) all (tail_exprs es)
  by meanings.Comparison = compare positions (known (common here.types)) all es
  by meanings.Equivalence = equate positions (head_expr es) all (tail_exprs es)
  by meanings.Conjunction = junction connectives.And es
  by meanings.Disjunction = junction connectives.Or es
  by meanings.Implication = junction connectives.Implies es
  by meanings.Explication = junction connectives.Explies (reversed es no_expr)
  by meanings.Conversion = cast at (head_expr es) (known (first here.types)) (others here.types)
  by meanings.Call = calling at es here.facts.meaning
  by meanings.Choice = branch (known own) es
  by meanings.Binding = binding positions here es
  -- the value of what is bound
  by meanings.Declaration = last_expr nothing es
  by meanings.Sequence = nothing
  by meanings.Assignment = nothing
  by meanings.Effect = nothing
  by meanings.Branch = nothing
  by meanings.Loop = nothing
  by meanings.Return = nothing
  by meanings.Break = nothing
  by meanings.Assertion = nothing
  by meanings.Output = nothing
  by meanings.Calculation = nothing

-- operands go to the type of what is compared, or made
abbrev pub operand_type : Bool → (own : Option Ty) → List (Option Ty) → Option Ty
operand_type true own types = common types
operand_type false own types = own

abbrev pub places_at : Here → (own : Option Ty) → List (Option Ty)
places_at here own = goes_to (form_of here.label).demand (operand_type (is_truth (form_of here.label).own) own here.types) here.types here.places here.parts

-- the type of a node where one is expected
abbrev pub own_at : List Entry → Here → (expected : Option Ty) → Option Ty
own_at table here expected = settled (sight_of (form_of here.label).own table here.facts (form_of here.label).is_call here.parts) expected

-- what the nodes mean, of which these types are expected, and which go to these places
abbrev pub expressions : List Pos → List Entry → Enclosing → (expected places : List (Option Ty)) → Notes → Exprs
expressions positions table around expected places NoNote = no_expr
expressions positions table around expected places (Note label span facts parts inside rest) =
    let here = here_of around label span facts parts (first expected) inside in
    let own = own_at table here (first expected) in
    expr
    (converted (pos_at positions here.text.place) own (first places)
    (meaning positions here own (expressions positions table around (demands_at around label facts parts (first expected) inside) (places_at here own) inside)))
    (expressions positions table around (others expected) (others places) rest)

-- what the parts of a node mean
abbrev pub inner : List Pos → List Entry → Enclosing → Here → Exprs
inner positions table around here =
    expressions positions table around (demands_at around here.label here.facts here.parts None here.inside) (places_at here None) here.inside

abbrev pub guard_of : List Entry → Enclosing → Here → Expr
guard_of table around here = head_expr (inner [] table around here)
