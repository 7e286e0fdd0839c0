-- All that is asked in trees, top down: each rule, and the text of which it is told.
use Rattle.std.specs.Prelude.{ℕ, suc, ◌==◌, Bool, true, false, not, ◌&&◌, ◌||◌, if◌then◌else◌, length, List, [], ◌∷◌, ◌++◌, map, drop, Option, Some, None, slice_get, is_some}
use Rattle.std.specs.Option.{option_map_or}
use Rattle.std.specs.List.{list_all}
use Rattle.df_tok.specs.declared.sign.Sign.{Sign}
use Rattle.df_tok.specs.declared.sign.Sign.TheVariants as signs
use Rattle.df_types.specs.Measures.{guard_measure}
use Rattle.df_typing.specs.declared.form.Naming.TheVariants as namings
use Rattle.df_typing.specs.declared.form.Role.TheVariants as roles
use Rattle.df_typing.specs.declared.form.Owner.TheVariants as owners
use Rattle.df_typing.specs.declared.form.Test.TheVariants as tests
use Rattle.df_typing.specs.declared.form.Means.TheVariants as meanings
use Rattle.df_typing.specs.declared.table.Kind.TheVariants as callables
use Rattle.df_typing.specs.declared.scope.Use.TheVariants as used
use Rattle.df_typing.specs.Tree.{Named, Signed, name_in, signs_in}
use Rattle.df_typing.specs.Types.{Ty, Boolean, arithmetic, first, others, at_place}
use Rattle.df_typing.specs.Form.{Form, form_of, Naming, Role, Owner, Test, Means}
use Rattle.df_typing.specs.Table.{Callable, Signature, Global, TheNewtype, TheCallable, Entry}
use Rattle.df_typing.specs.Scope as scope
use Rattle.df_typing.specs.Scope.{Inferred, Known, Use, Meaning, Unknown, TheKnown, TheGlobal, Facts, type_at}
use Rattle.df_typing.specs.Sights.{Values, One, Results, NotKnown, Sight, each_value, Notes, NoNote, Note, types_of_values}
use Rattle.df_typing.specs.Here.{Text, text_of, texts, Here, signature_in, Enclosing, here_of, demands_at}
use Rattle.df_typing.specs.Expressions.{nowhere, guard_of}
use Rattle.df_typing.specs.declared.rule.Operator.{Operator}
use Rattle.df_typing.specs.declared.rule.Operator.TheVariants as operator
use Rattle.df_typing.specs.Rules.{Ask, Known as KnownName, New, InRange, Inferred as InferredType, Fits, Operands, Truths, Directed, Counted, Called, Alike, Cast, Assigned, Returned, Leaves, Belongs, Measured, Mixed, Printed, operator_of, of_operator, keep_direction}

-- ---- where it is told

pub record Placed : Type 0 where
  pub text : Text
  pub name : ℕ
  pub ask : Ask

-- of the first part of each part
abbrev pub inner_texts : Notes → List Text
inner_texts NoNote = []
inner_texts (Note label span facts parts inside rest) = first_text (text_of label span facts) (texts inside) ∷ inner_texts rest where
  first_text : Text → List Text → Text
  first_text otherwise [] = otherwise
  first_text otherwise (text ∷ more) = text

abbrev pub form_at : Here → Form
form_at here = form_of here.label

abbrev pub text_at : Text → ℕ → List Text → Text
text_at whole k parts = elim (slice_get parts k) [
  | Some text ↦ text
  | None ↦ whole
]

abbrev pub asked : Text → Ask → Placed
asked text ask = record { text = text; name = 0; ask = ask }

abbrev pub asked_of_part : Here → ℕ → Ask → Placed
asked_of_part here k ask = asked (text_at here.text k (texts here.inside)) ask

-- ---- names

abbrev pub at_token : ℕ → Text
at_token place = record { span = record { start = place; after = suc place }; place = place }

abbrev pub is_known : Meaning → Bool
is_known Unknown = false
is_known (TheKnown known ty) = true
is_known (TheGlobal entry) = true

abbrev pub asked_of_name : Naming → Facts → Option Named → List Placed
asked_of_name namings.Declared facts (Some named) = record { text = at_token named.place; name = named.name; ask = New (not facts.is_twice) } ∷ []
asked_of_name namings.Value facts (Some named) = record { text = at_token named.place; name = named.name; ask = KnownName (is_known facts.meaning) } ∷ []
asked_of_name namings.Type facts (Some named) = record { text = at_token named.place; name = named.name; ask = KnownName (is_known facts.meaning) } ∷ []
asked_of_name naming facts named = []

-- ---- what is asked of a part by its use

abbrev pub keeps_value : Role → Bool
keeps_value roles.Parameter = true
keeps_value roles.Bound = true
keeps_value roles.Result = false
keeps_value roles.Variable = false

abbrev pub may_be_assigned : Bool → Meaning → Bool
may_be_assigned is_place Unknown = false
may_be_assigned is_place (TheKnown known ty) = is_place && not (keeps_value known.role)
may_be_assigned is_place (TheGlobal entry) = false

abbrev pub asked_of_use : Use → Here → List Placed
asked_of_use used.Target here = asked here.text (Assigned (may_be_assigned (form_at here).is_place here.facts.meaning)) ∷ []
asked_of_use used.Statement here = asked here.text (Called (form_at here).is_call) ∷ []
asked_of_use used.Value here = []
asked_of_use used.Source here = []

-- ---- calls

abbrev pub may_stand : Callable → Use → Bool
may_stand callables.Function used.Statement = false
may_stand callables.Function usage = true
may_stand callables.Method used.Source = true
may_stand callables.Method used.Statement = true
may_stand callables.Method usage = false
may_stand callables.Lemma used.Source = true
may_stand callables.Lemma used.Statement = true
may_stand callables.Lemma usage = false

abbrev pub is_called_well : (is_call : Bool) → Use → Global → Bool
is_called_well true usage TheNewtype = false
is_called_well true usage (TheCallable signature) = may_stand signature.kind usage
is_called_well false usage global = false

abbrev pub is_target : Use → Bool
is_target used.Target = true
is_target used.Value = false
is_target used.Source = false
is_target used.Statement = false

-- What can be called is called; a name on a left side is asked for as such.
abbrev pub may_be_called : (is_call : Bool) → Use → Meaning → Bool
may_be_called is_call usage Unknown = not is_call
may_be_called is_call usage (TheKnown known ty) = not is_call
may_be_called is_call usage (TheGlobal entry) = is_called_well is_call usage entry.is || (is_target usage && not is_call)

abbrev pub each_fits : Here → ℕ → (values places : List (Option Ty)) → List Placed
each_fits here k [] places = []
each_fits here k (value ∷ values) [] = []
each_fits here k (value ∷ values) (place ∷ places) = asked_of_part here k (Fits value place) ∷ each_fits here (suc k) values places

-- ---- right sides

-- the right sides, and the places that they go to
abbrev pub sources : Here → List Sight
sources here = drop here.facts.before here.parts

abbrev pub first_source : Here → ℕ
first_source here = here.facts.before

-- all values of one right side are told there
abbrev pub all_fit : Here → ℕ → (values places : List (Option Ty)) → List Placed
all_fit here k [] places = []
all_fit here k (value ∷ values) [] = []
all_fit here k (value ∷ values) (place ∷ places) = asked_of_part here k (Fits value place) ∷ all_fit here k values places

abbrev pub sources_fit : Here → ℕ → List Sight → (types places : List (Option Ty)) → List Placed
sources_fit here k (sight ∷ []) types places = all_fit here k (types_of_values sight.values (first types)) places
sources_fit here k sights types places = each_fits here k (each_value sights types) places

abbrev pub gives : ℕ → Values → Bool
gives wanted One = wanted == 1
gives wanted (Results types) = length types == wanted
gives wanted NotKnown = true

-- as many values as places: one right side gives all, of several each gives one
abbrev pub are_enough : ℕ → List Sight → Bool
are_enough places (sight ∷ []) = gives places sight.values
are_enough places sights = (length sights == places) && list_all (λ (sight : Sight). gives 1 sight.values) sights

abbrev pub none_or_enough : ℕ → List Sight → Bool
none_or_enough places [] = true
none_or_enough places (sight ∷ sights) = are_enough places (sight ∷ sights)

-- ---- signs

abbrev pub through : Text → Text → ℕ → Text
through whole part place = record { span = record { start = whole.span.start; after = part.span.after }; place = place }

abbrev pub from : Text → Text → ℕ → Text
from whole part place = record { span = record { start = part.span.start; after = whole.span.after }; place = place }

-- what stands on the left of the next sign: the sum or the product so far, the last member of a chain, or a truth
abbrev pub left_of_next : Operator → Option Ty → Option Ty → Option Ty
left_of_next (operator.Arithmetic operation) left right = arithmetic left right
left_of_next (operator.Order comparison) left right = right
left_of_next (operator.Equality comparison) left right = right
left_of_next operator.Equivalence left right = Some Boolean
left_of_next operator.Logic left right = Some Boolean
left_of_next operator.Nothing left right = None

-- A sign that holds to the left is told from the beginning to behind its operand.
abbrev pub each_sign : Here → ℕ → Option Ty → List Signed → List (Option Ty) → List Placed
each_sign here k left [] types = []
each_sign here k left (one ∷ rest) [] = []
each_sign here k left (one ∷ rest) (right ∷ types) =
    asked (through here.text (text_at here.text k (texts here.inside)) one.place) (of_operator (operator_of one.sign) left right)
    ∷ each_sign here (suc k) (left_of_next (operator_of one.sign) left right) rest types

-- where a sign stands before the first member too, nothing stands on its left
abbrev pub all_signs : Here → List Signed → List (Option Ty) → List Placed
all_signs here all types =
    if length all == length types then each_sign here 0 (Some Boolean) all types else each_sign here 1 (first types) all (others types)

-- One that holds to the right is told from its left operand to the end.
abbrev pub each_right : Here → ℕ → List Signed → List (Option Ty) → List Placed
each_right here k (one ∷ []) (left ∷ right ∷ types) = asked (from here.text (text_at here.text k (texts here.inside)) one.place) (Truths (left ∷ right ∷ [])) ∷ []
each_right here k (one ∷ other ∷ rest) (left ∷ types) =
    asked (from here.text (text_at here.text k (texts here.inside)) one.place) (Truths (left ∷ Some Boolean ∷ [])) ∷ each_right here (suc k) (other ∷ rest) types
each_right here k all types = []

-- ---- lines of a calculation

abbrev pub sign_or : Sign → List Signed → Sign
sign_or otherwise [] = otherwise
sign_or otherwise (one ∷ rest) = one.sign

-- the operator behind each line
abbrev pub operators : Sign → Notes → List Sign
operators otherwise NoNote = []
operators otherwise (Note label span facts parts inside rest) = sign_or otherwise (signs_in facts.marks) ∷ operators otherwise rest

abbrev pub is_equal : Sign → Bool
is_equal signs.Equal = true
is_equal sign = false

abbrev pub same_step : Sign → Sign → Bool
same_step signs.Less signs.Less = true
same_step signs.AtMost signs.AtMost = true
same_step signs.Implies signs.Implies = true
same_step signs.Iff signs.Iff = true
same_step one other = false

-- with the steps so far, of which one may be by another operator
abbrev pub mixes : Option Sign → Sign → Bool
mixes None sign = true
mixes (Some other) sign = is_equal sign || same_step other sign

abbrev pub other_step : Option Sign → Sign → Option Sign
other_step None sign = if is_equal sign then None else Some sign
other_step (Some other) sign = Some other

-- a step is told of its second line
abbrev pub each_step : List Text → Option Sign → List Sign → List (Option Ty) → List Placed
each_step (text ∷ second ∷ texts) other (sign ∷ all) (left ∷ right ∷ types) =
    asked second (of_operator (operator_of sign) left right)
    ∷ asked second (Mixed (mixes other sign))
    ∷ each_step (second ∷ texts) (other_step other sign) all (right ∷ types)
each_step texts other all types = []

-- ---- tests

abbrev pub same_owner : Owner → Owner → Bool
same_owner owners.Loop owners.Loop = true
same_owner owners.Declaration owners.Declaration = true
same_owner one other = false

abbrev pub is_settled : Inferred → Bool
is_settled scope.Open = false
is_settled scope.Used = false
is_settled (scope.Fixed ty) = true

abbrev pub is_settled_at : List Inferred → ℕ → Bool
is_settled_at types index = option_map_or is_settled (slice_get types index) true

-- there is a clause of it
abbrev pub is_measure : Means → Bool
is_measure meanings.Measure = true
is_measure means = false

abbrev pub has_measure : Notes → Bool
has_measure NoNote = false
has_measure (Note label span facts parts inside rest) = is_measure (form_of label).means || has_measure rest

abbrev pub signs_of : List Signed → List Sign
signs_of all = map (λ (one : Signed). one.sign) all

abbrev pub both_alike : Here → List (Option Ty) → List Placed
both_alike here (one ∷ other ∷ []) = asked here.text (Alike one other) ∷ []
both_alike here types = []

-- from type to type, each told from the beginning to behind that type
abbrev pub each_cast : Here → ℕ → (source : Option Ty) → (targets : List (Option Ty)) → List Placed
each_cast here k source [] = []
each_cast here k source (target ∷ targets) =
    asked (through here.text (text_at here.text k (texts here.inside)) here.text.place) (Cast source target) ∷ each_cast here (suc k) target targets

abbrev pub each_printed : Here → ℕ → List (Option Ty) → List Placed
each_printed here k [] = []
each_printed here k (ty ∷ types) = asked_of_part here k (Printed ty) ∷ each_printed here (suc k) types

abbrev pub asks_of : List Entry → Enclosing → Here → Test → List Placed
asks_of table around here tests.IsInferred = record { text = here.text; name = 0; ask = InferredType (is_settled_at around.types here.facts.index) } ∷ []
asks_of table around here tests.IsRange = asked (option_map_or (λ (named : Named). record { span = here.text.span; place = named.place }) (name_in here.facts.marks) here.text) (InRange (is_some here.facts.bounds)) ∷ []
asks_of table around here tests.PartsFit = each_fits here 0 here.types here.places
asks_of table around here tests.SourcesFit = sources_fit here (first_source here) (sources here) (drop here.facts.before here.types) (drop here.facts.before here.places)
asks_of table around here tests.Signs = all_signs here (signs_in here.facts.marks) here.types
asks_of table around here tests.RightSigns = each_right here 0 (signs_in here.facts.marks) here.types
asks_of table around here tests.OperandIsNumber = asked here.text (Operands (first here.types) (first here.types)) ∷ []
asks_of table around here tests.OneDirection = asked here.text (Directed (keep_direction (signs_of (signs_in here.facts.marks)))) ∷ []
asks_of table around here (tests.IsTruth k) = asked_of_part here k (Truths (at_place k here.types ∷ [])) ∷ []
asks_of table around here tests.OperandIsTruth = asked here.text (Truths (first here.types ∷ [])) ∷ []
asks_of table around here tests.ArgumentCount = option_map_or (λ (signature : Signature). asked here.text (Counted (length here.types) (length signature.parameters)) ∷ []) (signature_in here.facts.meaning) []
asks_of table around here tests.IsCalled = asked here.text (Called (may_be_called (form_at here).is_call here.facts.used here.facts.meaning)) ∷ []
asks_of table around here tests.IsNoCallee = asked here.text (Called false) ∷ []
asks_of table around here (tests.BranchesAlike k) = both_alike here (drop k here.types)
asks_of table around here tests.IsCast = each_cast here 1 (first here.types) (others here.types)
asks_of table around here tests.IsEnough = (if length (sources here) == 0 then [] else asked here.text (Assigned (are_enough here.facts.before (sources here))) ∷ [])
asks_of table around here tests.IsReturn = asked here.text (Returned (none_or_enough (length around.results) (sources here))) ∷ []
asks_of table around here tests.IsInLoop = asked here.text (Leaves here.facts.around.is_loop) ∷ []
asks_of table around here (tests.BelongsTo owner) = asked here.text (Belongs (same_owner owner here.facts.around.owner)) ∷ []
asks_of table around here tests.IsMeasured = asked here.text (Measured (has_measure here.inside || is_some (guard_measure nowhere (guard_of table around here)))) ∷ []
asks_of table around here tests.Steps = each_step (inner_texts here.inside) None (operators (sign_or signs.Equal (signs_in here.facts.marks)) here.inside) here.types
asks_of table around here tests.IsPrinted = each_printed here 0 here.types

abbrev pub all_asks : List Entry → Enclosing → Here → List Test → List Placed
all_asks table around here [] = []
all_asks table around here (test ∷ rest) = asks_of table around here test ++ all_asks table around here rest

-- in a newtype nothing but the meaning of names is asked
abbrev pub asked_at : List Entry → Enclosing → Here → List Placed
asked_at table around here =
    asked_of_name (form_at here).naming here.facts (name_in here.facts.marks)
    ++ (if here.facts.around.is_names then [] else asked_of_use here.facts.used here ++ all_asks table around here (form_at here).tests)

-- ---- trees

abbrev pub asked_in : List Entry → Enclosing → (demands : List (Option Ty)) → Notes → List Placed
asked_in table around demands NoNote = []
asked_in table around demands (Note label span facts parts inside rest) =
    asked_in table around (demands_at around label facts parts (first demands) inside) inside
    ++ asked_at table around (here_of around label span facts parts (first demands) inside)
    ++ asked_in table around (others demands) rest
