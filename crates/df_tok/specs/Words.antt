-- All words.
use Rattle.std.specs.Prelude.{List, [], ◌∷◌}
use Rattle.df_tok.specs.declared.word.Word.{Word}
use Rattle.df_tok.specs.declared.word.Word.TheVariants.{Array, ArrayOrNull, As, Assert, Bool, Break, By, Calc, Case, Char, Class, Constructor, Datatype, Decreases, Else, Ensures, Exists, False, Forall, Fresh, Function, Ghost, If, Import, In, Int, Invariant, Lemma, Match, Method, Modifies, Module, Nat, New, Newtype, Null, Object, ObjectOrNull, Old, Opened, Predicate, Print, Reads, Requires, Return, Returns, Seq, Set, String, Then, This, True, Var, While, Witness}

abbrev pub words : List Word
words =
    Array ∷ ArrayOrNull ∷ As ∷ Assert ∷ Bool ∷ Break ∷ By ∷ Calc ∷ Case ∷ Char ∷ Class ∷ Constructor
    ∷ Datatype ∷ Decreases ∷ Else ∷ Ensures ∷ Exists ∷ False ∷ Forall ∷ Fresh ∷ Function ∷ Ghost ∷ If ∷ Import
    ∷ In ∷ Int ∷ Invariant ∷ Lemma ∷ Match ∷ Method ∷ Modifies ∷ Module ∷ Nat ∷ New ∷ Newtype ∷ Null
    ∷ Object ∷ ObjectOrNull ∷ Old ∷ Opened ∷ Predicate ∷ Print ∷ Reads ∷ Requires ∷ Return ∷ Returns ∷ Seq ∷ Set
    ∷ String ∷ Then ∷ This ∷ True ∷ Var ∷ While ∷ Witness ∷ []
