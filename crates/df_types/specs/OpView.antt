-- The code's operations, without where they lie in memory.
use Rattle.std.specs.Prelude.{ℕ, map}
use Rattle.df_types.specs.declared.op.Op as declared
use Rattle.df_types.specs.declared.op.Op.TheVariants as ops
use Rattle.df_types.specs.declared.op.PartOf as declared_part
use Rattle.df_types.specs.Ty.{tys_of}
use Rattle.df_types.specs.TyView.{ty_of}
use Rattle.df_types.specs.Op.{Op}

abbrev pub part_of : declared_part.PartOf → ℕ × ℕ
part_of x = (x.constructor, x.part)

abbrev pub op_of : declared.Op → Op
op_of (ops.Number ty value) = Op.NumberOf (ty_of ty) value
op_of (ops.Truth value) = Op.TruthOf value
op_of (ops.Character code) = Op.CharacterOf code
op_of (ops.Text characters) = Op.TextOf characters.items
op_of (ops.Null ty) = Op.NullOf (ty_of ty)
op_of (ops.Negate ty) = Op.Negate (ty_of ty)
op_of (ops.Add ty) = Op.Add (ty_of ty)
op_of (ops.Subtract ty) = Op.Subtract (ty_of ty)
op_of (ops.Multiply ty) = Op.Multiply (ty_of ty)
op_of (ops.Divide ty) = Op.Divide (ty_of ty)
op_of (ops.Modulo ty) = Op.Modulo (ty_of ty)
op_of ops.Not = Op.Not
op_of (ops.Compare comparison ty) = Op.Compare comparison (ty_of ty)
op_of (ops.As source target) = Op.As (ty_of source) (ty_of target)
op_of (ops.Fit source target) = Op.Fit (ty_of source) (ty_of target)
op_of (ops.Narrow source target) = Op.Narrow (ty_of source) (ty_of target)
op_of (ops.Sequence element size) = Op.SequenceOf (ty_of element) size
op_of (ops.Set element size) = Op.SetOf (ty_of element) size
op_of (ops.SequenceSize element) = Op.SequenceSize (ty_of element)
op_of (ops.SetSize element) = Op.SetSize (ty_of element)
op_of (ops.InSequence element) = Op.InSequence (ty_of element)
op_of (ops.InSet element) = Op.InSet (ty_of element)
op_of (ops.Item element) = Op.Item (ty_of element)
op_of (ops.Construct ty constructor) = Op.Construct (ty_of ty) constructor
op_of (ops.HasConstructor ty constructor) = Op.HasConstructor (ty_of ty) constructor
op_of (ops.Part ty target parts) = Op.Part (ty_of ty) (ty_of target) (map part_of parts.items)
op_of (ops.Objects types) = Op.ObjectsOf (tys_of (map ty_of types.items))
op_of (ops.NoneFits ty) = Op.NoneFits (ty_of ty)
