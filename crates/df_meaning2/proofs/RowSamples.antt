-- Each operation with a value and with each of its faults, by computation.
use Rattle.std.proofs.Common.{◌≡◌, ℕ, pos, negsuc, true, false, List, [], ◌∷◌, map, None, codes, refl}
use Rattle.df_base.specs.declared.pos.Pos.{Pos}
use Rattle.df_types.specs.declared.kind.Kind.{Kind}
use Rattle.df_types.specs.declared.kind.Kind.TheVariants.{Index, Null, Divisor, Range, Match}
use Rattle.df_types.specs.declared.op.Comparison.TheVariants.{Equal, NotEqual, Less, AtMost, Greater, AtLeast}
use Rattle.df_types.specs.Ty.{Ty, Newtype, Int, Nat, Char, AnyObject, Class, Seq, Set, Data, no_ty, and_ty}
use Rattle.df_types.specs.Op.{Op}
use Rattle.df_types.specs.Program.{Declared, Variable, Program, NewtypeDecl, DatatypeDecl, ClassDecl}
use Rattle.df_meaning2.specs.Value.{Value, NullReference, Truth, Character, Number, Reference, Made, Sequence, Collection, values_of, no_object}
use Rattle.df_meaning2.specs.Outcome.{Outcome, Gives, Wrong}
use Rattle.df_meaning2.specs.Answer.{View, answer}
use Rattle.df_meaning2.specs.Meaning.{answered}

abbrev at : Pos
at = record { line = 1; col = 1 }

abbrev named : List ℕ → Declared
named text = record { name = 0; text = text; pos = at }

abbrev part : Ty → Variable
part t = record { declared = named (codes "p"); ty = t; is_ghost = false; is_written = true }

-- newtype small = x: int | -3 <= x <= 1; datatype list = Nil | Cons(int, list); class Cell
abbrev program : Program
program = record {
  decls =
      NewtypeDecl (record { declared = named (codes "small"); low = negsuc 2; high = pos 1; default = pos 0 })
      ∷ DatatypeDecl (record {
        declared = named (codes "list");
        type_parameters = [];
        constructors = record { declared = named (codes "list.Nil"); parts = [] } ∷ record { declared = named (codes "list.Cons"); parts = part Int ∷ part (Data 1 no_ty) ∷ [] } ∷ [];
      })
      ∷ ClassDecl (record { declared = named (codes "Cell"); fields = part Int ∷ [] }) ∷ [];
}

abbrev view : View
view = record { program = program; types = no_ty; heap = no_object; entry = no_object; readable = None; changeable = Collection (values_of []) }

abbrev small : Ty
small = Newtype 0

abbrev list : Ty
list = Data 1 no_ty

abbrev nil : Value
nil = Made 0 (values_of [])

abbrev cons : ℕ → Value → Value
cons n rest = Made 1 (values_of (Number (pos n) ∷ rest ∷ []))

abbrev num : ℕ → Value
num n = Number (pos n)

-- minus one more than the number
abbrev below : ℕ → Value
below n = Number (negsuc n)

abbrev seq : List Value → Value
seq vs = Sequence (values_of vs)

abbrev set : List Value → Value
set vs = Collection (values_of vs)

abbrev bad : Kind → Outcome Value
bad kind = Wrong at kind

pub record Row : Type 0 where
  pub op : Op
  pub operands : List Value
  pub comes : Outcome Value

abbrev row : Op → List Value → Outcome Value → Row
row op operands comes = record { op = op; operands = operands; comes = comes }

abbrev rows : List Row
rows =
    row (Op.NumberOf small (pos 1)) [] (Gives (num 1))
    ∷ row (Op.NumberOf small (pos 2)) [] (bad Range)
    ∷ row (Op.TruthOf true) [] (Gives (Truth true))
    ∷ row (Op.CharacterOf 65) [] (Gives (Character 65))
    ∷ row (Op.TextOf (codes "Hi")) [] (Gives (seq (Character 72 ∷ Character 105 ∷ [])))
    ∷ row (Op.NullOf (Class true 2)) [] (Gives NullReference)
    ∷ row (Op.Negate Int) (num 5 ∷ []) (Gives (below 4))
    ∷ row (Op.Negate small) (below 2 ∷ []) (bad Range)
    ∷ row (Op.Add Int) (num 5 ∷ num 2 ∷ []) (Gives (num 7))
    ∷ row (Op.Add small) (num 1 ∷ num 1 ∷ []) (bad Range)
    ∷ row (Op.Subtract Int) (num 2 ∷ num 5 ∷ []) (Gives (below 2))
    ∷ row (Op.Subtract small) (below 2 ∷ num 1 ∷ []) (bad Range)
    ∷ row (Op.Multiply Int) (num 3 ∷ below 1 ∷ []) (Gives (below 5))
    ∷ row (Op.Multiply small) (below 1 ∷ below 0 ∷ []) (bad Range)
    ∷ row (Op.Divide Int) (num 7 ∷ num 2 ∷ []) (Gives (num 3))
    ∷ row (Op.Divide Int) (below 6 ∷ num 2 ∷ []) (Gives (below 3))
    ∷ row (Op.Divide Int) (below 6 ∷ below 1 ∷ []) (Gives (num 4))
    ∷ row (Op.Divide Int) (num 7 ∷ num 0 ∷ []) (bad Divisor)
    ∷ row (Op.Divide small) (below 1 ∷ below 0 ∷ []) (bad Range)
    ∷ row (Op.Modulo Int) (num 7 ∷ num 2 ∷ []) (Gives (num 1))
    ∷ row (Op.Modulo Int) (below 6 ∷ num 2 ∷ []) (Gives (num 1))
    ∷ row (Op.Modulo Int) (num 7 ∷ num 0 ∷ []) (bad Divisor)
    ∷ row (Op.Modulo small) (below 0 ∷ below 2 ∷ []) (bad Range)
    ∷ row Op.Not (Truth true ∷ []) (Gives (Truth false))
    ∷ row (Op.Compare Equal (Seq Int)) (seq (num 1 ∷ []) ∷ seq (num 1 ∷ []) ∷ []) (Gives (Truth true))
    ∷ row (Op.Compare NotEqual list) (nil ∷ cons 1 nil ∷ []) (Gives (Truth true))
    ∷ row (Op.Compare Less Int) (num 1 ∷ num 1 ∷ []) (Gives (Truth false))
    ∷ row (Op.Compare AtMost Char) (Character 1 ∷ Character 1 ∷ []) (Gives (Truth true))
    ∷ row (Op.Compare AtMost (Set Int)) (set (num 1 ∷ []) ∷ set (num 1 ∷ num 2 ∷ []) ∷ []) (Gives (Truth true))
    ∷ row (Op.Compare Greater Int) (num 1 ∷ below 0 ∷ []) (Gives (Truth true))
    ∷ row (Op.Compare AtLeast (Set Int)) (set (num 1 ∷ []) ∷ set (num 1 ∷ num 2 ∷ []) ∷ []) (Gives (Truth false))
    ∷ row (Op.As Int small) (num 1 ∷ []) (Gives (num 1))
    ∷ row (Op.As Int small) (num 2 ∷ []) (bad Range)
    ∷ row (Op.As Int Nat) (below 0 ∷ []) (bad Range)
    ∷ row (Op.As Int Char) (num 65 ∷ []) (Gives (Character 65))
    ∷ row (Op.As Int Char) (num 128 ∷ []) (bad Range)
    ∷ row (Op.As Int Char) (below 0 ∷ []) (bad Range)
    ∷ row (Op.As Char Int) (Character 65 ∷ []) (Gives (num 65))
    ∷ row (Op.Fit Nat Int) (num 3 ∷ []) (Gives (num 3))
    ∷ row (Op.Narrow Int Nat) (num 3 ∷ []) (Gives (num 3))
    ∷ row (Op.Narrow Int Nat) (below 0 ∷ []) (bad Range)
    ∷ row (Op.Narrow (Class true 2) (Class false 2)) (Reference 4 ∷ []) (Gives (Reference 4))
    ∷ row (Op.Narrow (Class true 2) (Class false 2)) (NullReference ∷ []) (bad Null)
    ∷ row (Op.SequenceOf Int 2) (num 2 ∷ num 1 ∷ []) (Gives (seq (num 2 ∷ num 1 ∷ [])))
    ∷ row (Op.SetOf Int 3) (num 2 ∷ num 1 ∷ num 2 ∷ []) (Gives (set (num 1 ∷ num 2 ∷ [])))
    ∷ row (Op.SequenceSize Int) (seq (num 1 ∷ num 1 ∷ []) ∷ []) (Gives (num 2))
    ∷ row (Op.SetSize Int) (set (num 1 ∷ num 2 ∷ []) ∷ []) (Gives (num 2))
    ∷ row (Op.InSequence Int) (num 2 ∷ seq (num 1 ∷ []) ∷ []) (Gives (Truth false))
    ∷ row (Op.InSet Int) (num 1 ∷ set (num 1 ∷ []) ∷ []) (Gives (Truth true))
    ∷ row (Op.Item Int) (seq (num 1 ∷ num 8 ∷ []) ∷ num 1 ∷ []) (Gives (num 8))
    ∷ row (Op.Item Int) (seq (num 1 ∷ num 8 ∷ []) ∷ num 2 ∷ []) (bad Index)
    ∷ row (Op.Item Int) (seq (num 1 ∷ num 8 ∷ []) ∷ below 0 ∷ []) (bad Index)
    ∷ row (Op.Construct list 1) (num 4 ∷ nil ∷ []) (Gives (cons 4 nil))
    ∷ row (Op.HasConstructor list 1) (nil ∷ []) (Gives (Truth false))
    ∷ row (Op.Part list Int ((1, 0) ∷ [])) (cons 4 nil ∷ []) (Gives (num 4))
    ∷ row (Op.Part list Int ((1, 0) ∷ [])) (nil ∷ []) (bad Match)
    ∷ row (Op.ObjectsOf (and_ty (AnyObject true) (and_ty (Set (Class true 2)) (and_ty (AnyObject true) no_ty)))) (Reference 3 ∷ set (NullReference ∷ Reference 1 ∷ []) ∷ NullReference ∷ []) (Gives (set (Reference 1 ∷ Reference 3 ∷ [])))
    ∷ row (Op.NoneFits Int) [] (bad Match)
    ∷ []

rows_come : map (λ (x : Row). answered at (answer view x.op x.operands)) rows ≡ map (λ (x : Row). x.comes) rows
rows_come = refl
