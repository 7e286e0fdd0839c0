-- What each construct is: one row. The rest of names and typing are folds that read its fields.
use Rattle.std.specs.Prelude.{ℕ, Bool, List, map, slice_index_or}
use Rattle.std.specs.Borrow.{Bor}
use Rattle.df_tree.specs.declared.label.Label.{Label}
use Rattle.df_tree.specs.declared.label.Label.TheVariants as labels
use Rattle.df_typing.specs.declared.form.Form as declared
use Rattle.df_typing.specs.declared.form.TheConstants.{FORMS, NOTHING}
pub use Rattle.df_typing.specs.declared.form.Role.{Role}
pub use Rattle.df_typing.specs.declared.form.Within.{Within}
pub use Rattle.df_typing.specs.declared.form.Naming.{Naming}
pub use Rattle.df_typing.specs.declared.form.Uses.{Uses}
pub use Rattle.df_typing.specs.declared.form.Demand.{Demand}
pub use Rattle.df_typing.specs.declared.form.Places.{Places}
pub use Rattle.df_typing.specs.declared.form.Own.{Own}
pub use Rattle.df_typing.specs.declared.form.Head.{Head}
pub use Rattle.df_typing.specs.declared.form.Owner.{Owner}
pub use Rattle.df_typing.specs.declared.form.Test.{Test}
pub use Rattle.df_typing.specs.declared.form.Means.{Means}
pub use Rattle.df_typing.specs.declared.form.Declares.{Declares}

pub record Form : Type 0 where
  pub declares : Declares
  -- names that are declared inside are unknown behind it
  pub is_scope : Bool
  -- they are known only behind it
  pub hides : Bool
  pub within : Within
  pub naming : Naming
  pub uses : Uses
  pub demand : Demand
  pub places : Places
  pub own : Own
  pub head : Head
  pub is_place : Bool
  pub is_call : Bool
  pub tests : List Test
  pub means : Means

-- a row of the code, of which this is the list of tests
abbrev pub row_by : {T : Type 0} → (T → List Test) → declared.Form T → Form
row_by tests r = record {
  declares = r.declares;
  is_scope = r.is_scope;
  hides = r.hides;
  within = r.within;
  naming = r.naming;
  uses = r.uses;
  demand = r.demand;
  places = r.places;
  own = r.own;
  head = r.head;
  is_place = r.is_place;
  is_call = r.is_call;
  tests = tests r.tests;
  means = r.means;
}

-- a constant
abbrev pub row : declared.Form (record { now : List Test }) → Form
row r = row_by (λ l. l.now) r

-- where its list is borrowed
abbrev pub row_of : declared.Form (Bor (List Test)) → Form
row_of r = row_by (λ l. l.now) r

-- the rows, in the order of the labels
unfoldable pub forms : List Form
forms = map row FORMS.now

abbrev pub number_of : Label → ℕ
number_of labels.File = 0
number_of labels.Newtype = 1
number_of labels.Binder = 2
number_of labels.Witness = 3
number_of labels.Method = 4
number_of labels.Lemma = 5
number_of labels.Function = 6
number_of labels.Predicate = 7
number_of labels.Result = 8
number_of labels.Parameters = 9
number_of labels.Parameter = 10
number_of labels.Results = 11
number_of labels.Requires = 12
number_of labels.Ensures = 13
number_of labels.Invariant = 14
number_of labels.Decreases = 15
number_of labels.BasicType = 16
number_of labels.NamedType = 17
number_of labels.Block = 18
number_of labels.Var = 19
number_of labels.Local = 20
number_of labels.ExpressionStatement = 21
number_of labels.Assign = 22
number_of labels.If = 23
number_of labels.Guarded = 24
number_of labels.While = 25
number_of labels.Return = 26
number_of labels.Break = 27
number_of labels.Assert = 28
number_of labels.Print = 29
number_of labels.Text = 30
number_of labels.Calc = 31
number_of labels.Line = 32
number_of labels.Equivalence = 33
number_of labels.Implication = 34
number_of labels.Explication = 35
number_of labels.Conjunction = 36
number_of labels.Disjunction = 37
number_of labels.Chain = 38
number_of labels.Sum = 39
number_of labels.Product = 40
number_of labels.As = 41
number_of labels.Negate = 42
number_of labels.Not = 43
number_of labels.Apply = 44
number_of labels.Name = 45
number_of labels.Call = 46
number_of labels.Number = 47
number_of labels.Character = 48
number_of labels.Truth = 49
number_of labels.Parentheses = 50
number_of labels.Conditional = 51
number_of labels.Let = 52
number_of labels.Wildcard = 53
number_of labels.NamePattern = 54
number_of labels.ConstructorPattern = 55

unfoldable pub form_of : Label → Form
form_of label = slice_index_or forms (number_of label) (row NOTHING)
