-- Strict operations as contracts see them: each is one row of each table.
use Rattle.std.specs.Prelude.{ℕ, ℤ, Bool, List}
use Rattle.df_types.specs.declared.op.Comparison.{Comparison}
use Rattle.df_types.specs.Ty.{Ty, Tys}

pub data Op : Type 0 where
  -- literals
  NumberOf : (ty : Ty) (value : ℤ) → Op
  TruthOf : (value : Bool) → Op
  CharacterOf : (code : ℕ) → Op
  TextOf : (characters : List ℕ) → Op
  NullOf : (ty : Ty) → Op
  -- numbers of the type
  Negate : (ty : Ty) → Op
  Add : (ty : Ty) → Op
  Subtract : (ty : Ty) → Op
  Multiply : (ty : Ty) → Op
  Divide : (ty : Ty) → Op
  Modulo : (ty : Ty) → Op
  -- truths
  Not : Op
  Compare : (comparison : Comparison) (ty : Ty) → Op
  -- from type to type
  As : (source target : Ty) → Op
  Fit : (source target : Ty) → Op
  Narrow : (source target : Ty) → Op
  -- sequences and sets, by the types of their elements
  SequenceOf : (element : Ty) (size : ℕ) → Op
  SetOf : (element : Ty) (size : ℕ) → Op
  SequenceSize : (element : Ty) → Op
  SetSize : (element : Ty) → Op
  InSequence : (element : Ty) → Op
  InSet : (element : Ty) → Op
  Item : (element : Ty) → Op
  -- datatypes: constructors and their parts by their numbers
  Construct : (ty : Ty) (constructor : ℕ) → Op
  HasConstructor : (ty : Ty) (constructor : ℕ) → Op
  Part : (ty result : Ty) (parts : List (ℕ × ℕ)) → Op
  -- the objects of a frame, whose members are objects and sets of them
  ObjectsOf : (types : Tys) → Op
  -- the end of a `match` that nothing fits
  NoneFits : (ty : Ty) → Op
