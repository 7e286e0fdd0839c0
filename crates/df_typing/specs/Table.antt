-- What a file declares: its newtypes, and what can be called. A declaration's number is its place in the source; of two of one name
-- the first counts.
use Rattle.std.specs.Prelude.{ℕ, suc, ◌==◌, Bool, true, false, if◌then◌else◌, List, [], ◌∷◌, ◌++◌, Option, Some, None, is_some}
use Rattle.std.specs.Option.{option_map}
use Rattle.df_tok.specs.declared.token.Kind.{Kind}
use Rattle.df_tok.specs.declared.token.Kind.TheVariants as kinds
use Rattle.df_tok.specs.declared.word.Word.{Word}
use Rattle.df_tok.specs.declared.word.Word.TheVariants as words
use Rattle.df_typing.specs.declared.form.Role.TheVariants as roles
use Rattle.df_typing.specs.declared.form.Within.TheVariants as withins
use Rattle.df_typing.specs.declared.form.Naming.TheVariants as namings
use Rattle.df_typing.specs.declared.form.Declares.TheVariants as declares
use Rattle.df_typing.specs.Tree.{Asts, Kept, Made, Nil, Next, Mark, Named, marks, name_in}
use Rattle.df_typing.specs.Types.{Ty, Newtype, Int, Nat, Boolean, Char}
use Rattle.df_typing.specs.Form.{form_of, Within, Naming, Declares}
pub use Rattle.df_typing.specs.declared.table.Kind.{Kind as Callable}
use Rattle.df_typing.specs.declared.table.Kind.TheVariants as callables

-- what can be called: the types of the parameters and of the results, where they are known
pub record Signature : Type 0 where
  pub kind : Callable
  pub parameters : List (Option Ty)
  pub results : List (Option Ty)

pub data Global : Type 0 where
  TheNewtype : Global
  TheCallable : Signature → Global

pub record Entry : Type 0 where
  pub name : ℕ
  pub decl : ℕ
  pub is : Global

-- the first one of the name
abbrev pub entry_of : List Entry → ℕ → Option Entry
entry_of [] name = None
entry_of (entry ∷ rest) name = if entry.name == name then Some entry else entry_of rest name

-- ---- types

abbrev pub newtype_of : Option Entry → Option Ty
newtype_of None = None
newtype_of (Some entry) = by entry.is where
  by : Global → Option Ty
  by TheNewtype = Some (Newtype entry.decl)
  by (TheCallable signature) = None

abbrev pub type_of_word : Word → Option Ty
type_of_word words.Array = None
type_of_word words.ArrayOrNull = None
type_of_word words.As = None
type_of_word words.Assert = None
type_of_word words.Bool = Some Boolean
type_of_word words.Break = None
type_of_word words.By = None
type_of_word words.Calc = None
type_of_word words.Case = None
type_of_word words.Char = Some Char
type_of_word words.Class = None
type_of_word words.Constructor = None
type_of_word words.Datatype = None
type_of_word words.Decreases = None
type_of_word words.Else = None
type_of_word words.Ensures = None
type_of_word words.Exists = None
type_of_word words.False = None
type_of_word words.Forall = None
type_of_word words.Fresh = None
type_of_word words.Function = None
type_of_word words.Ghost = None
type_of_word words.If = None
type_of_word words.Import = None
type_of_word words.In = None
type_of_word words.Int = Some Int
type_of_word words.Invariant = None
type_of_word words.Lemma = None
type_of_word words.Match = None
type_of_word words.Method = None
type_of_word words.Modifies = None
type_of_word words.Module = None
type_of_word words.Nat = Some Nat
type_of_word words.New = None
type_of_word words.Newtype = None
type_of_word words.Null = None
type_of_word words.Object = None
type_of_word words.ObjectOrNull = None
type_of_word words.Old = None
type_of_word words.Opened = None
type_of_word words.Predicate = None
type_of_word words.Print = None
type_of_word words.Reads = None
type_of_word words.Requires = None
type_of_word words.Return = None
type_of_word words.Returns = None
type_of_word words.Seq = None
type_of_word words.Set = None
type_of_word words.String = None
type_of_word words.Then = None
type_of_word words.This = None
type_of_word words.True = None
type_of_word words.Var = None
type_of_word words.While = None
type_of_word words.Witness = None

-- the type that is written by these tokens; names of locals are not looked at
abbrev pub type_by : List Entry → List Mark → Option Ty
type_by table [] = None
type_by table (x ∷ xs) = by x.kind (type_by table xs) where
  by : Kind → Option Ty → Option Ty
  by (kinds.Name name) others = newtype_of (entry_of table name)
  by (kinds.Word word) others = type_of_word word
  by kind others = others

abbrev pub type_if : Naming → List Entry → List Mark → List (Option Ty)
type_if namings.Type table tokens = type_by table tokens ∷ []
type_if namings.Nameless table tokens = []
type_if namings.Declared table tokens = []
type_if namings.Value table tokens = []

-- The types that are written in trees, in order: one for each node, since no type stands in another one yet.
abbrev pub types_in : List Entry → Asts → List (Option Ty)
types_in table Nil = []
types_in table (Next (Kept x) rest) = types_in table rest
types_in table (Next (Made label span inside) rest) = type_if (form_of label).naming table (marks inside) ++ types_in table inside ++ types_in table rest

-- ---- signatures

abbrev pub declares_parameters : Within → Bool
declares_parameters (withins.Declaring roles.Parameter) = true
declares_parameters within = false

abbrev pub declares_results : Within → Bool
declares_results (withins.Declaring roles.Result) = true
declares_results within = false

-- the types in those parts that declare such
abbrev pub types_where : (Within → Bool) → List Entry → Asts → List (Option Ty)
types_where test table Nil = []
types_where test table (Next (Kept x) rest) = types_where test table rest
types_where test table (Next (Made label span inside) rest) = (if test (form_of label).within then types_in table inside else []) ++ types_where test table rest

abbrev pub signature_by : Callable → List Entry → Asts → Signature
signature_by kind table inside = record { kind = kind; parameters = types_where declares_parameters table inside; results = types_where declares_results table inside }

-- a predicate gives a truth
abbrev pub signature_of : Declares → List Entry → Asts → Option Signature
signature_of declares.Nothing table inside = None
signature_of declares.Newtype table inside = None
signature_of declares.Function table inside = Some (signature_by callables.Function table inside)
signature_of declares.Predicate table inside = Some (record (signature_by callables.Function table inside) { results = Some Boolean ∷ [] })
signature_of declares.Method table inside = Some (signature_by callables.Method table inside)
signature_of declares.Lemma table inside = Some (signature_by callables.Lemma table inside)

-- ---- the table of declarations

-- one more, if its name is new
abbrev pub with_entry : List Entry → Option Named → ℕ → Option Global → List Entry
with_entry before (Some named) decl (Some global) =
    if is_some (entry_of before named.name) then before else before ++ record { name = named.name; decl = decl; is = global } ∷ []
with_entry before named decl global = before

abbrev pub global_of : Declares → List Entry → Asts → Option Global
global_of declares.Newtype types inside = Some TheNewtype
global_of declared types inside = option_map TheCallable (signature_of declared types inside)

-- behind these, of declarations that are counted from this number, over a table that knows the types
abbrev pub entries_behind : (before types : List Entry) → ℕ → Asts → List Entry
entries_behind before types decl Nil = before
entries_behind before types decl (Next (Kept x) rest) = entries_behind before types decl rest
entries_behind before types decl (Next (Made label span inside) rest) =
    entries_behind (with_entry before (name_in (marks inside)) decl (global_of (form_of label).declares types inside)) types (suc decl) rest

-- the declarations of a file
abbrev pub declarations : Asts → Asts
declarations Nil = Nil
declarations (Next (Kept x) rest) = declarations rest
declarations (Next (Made label span inside) rest) = inside

-- which names are types is known by the declarations alone
abbrev pub types_of : Asts → List Entry
types_of file = entries_behind [] [] 0 (declarations file)

abbrev pub table_of : Asts → List Entry
table_of file = entries_behind [] (types_of file) 0 (declarations file)
