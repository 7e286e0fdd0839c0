-- The columns of the table of strict operations that typing, ghost rules and native rules read.
use Rattle.std.specs.Prelude.{ℕ, zero, suc, Bool, true, false, not, nat_lt, List, [], ◌∷◌, map, slice_get, slice_index_or, Option, None, Some}
use Rattle.std.specs.List.{list_all, list_any}
use Rattle.std.specs.Option.{option_map_or, option_and_then}
use Rattle.df_types.specs.declared.op.Comparison.{Comparison}
use Rattle.df_types.specs.declared.op.Comparison.TheVariants.{Equal, NotEqual, Less, AtMost, Greater, AtLeast}
use Rattle.df_types.specs.Ty.{Ty, Newtype, Int, Nat, Boolean, Char, AnyObject, Class, Array, Seq, Set, Data, Parameter, list_of_tys, same_type}
use Rattle.df_types.specs.Op.{Op}
use Rattle.df_types.specs.Program.{Program, Variable, parts_at, parts_of}
use Rattle.df_types.specs.Types.{is_number, is_arithmetic, is_ordered, is_ranked, is_nullable, is_framed, fits, narrows, casts, has_constructor}

-- ---- types

abbrev pub repeated_type : ℕ → Ty → List Ty
repeated_type zero t = []
repeated_type (suc n) t = t ∷ repeated_type n t

abbrev pub operands : Program → Op → List Ty
operands p (Op.NumberOf t n) = []
operands p (Op.TruthOf b) = []
operands p (Op.CharacterOf code) = []
operands p (Op.TextOf characters) = []
operands p (Op.NullOf t) = []
operands p (Op.Negate t) = t ∷ []
operands p (Op.Add t) = t ∷ t ∷ []
operands p (Op.Subtract t) = t ∷ t ∷ []
operands p (Op.Multiply t) = t ∷ t ∷ []
operands p (Op.Divide t) = t ∷ t ∷ []
operands p (Op.Modulo t) = t ∷ t ∷ []
operands p Op.Not = Boolean ∷ []
operands p (Op.Compare comparison t) = t ∷ t ∷ []
operands p (Op.As source target) = source ∷ []
operands p (Op.Fit source target) = source ∷ []
operands p (Op.Narrow source target) = source ∷ []
operands p (Op.SequenceOf element size) = repeated_type size element
operands p (Op.SetOf element size) = repeated_type size element
operands p (Op.SequenceSize element) = Seq element ∷ []
operands p (Op.SetSize element) = Set element ∷ []
operands p (Op.InSequence element) = element ∷ Seq element ∷ []
operands p (Op.InSet element) = element ∷ Set element ∷ []
operands p (Op.Item element) = Seq element ∷ Int ∷ []
operands p (Op.Construct t c) = parts_of p t c
operands p (Op.HasConstructor t c) = t ∷ []
operands p (Op.Part t target parts) = t ∷ []
operands p (Op.ObjectsOf types) = list_of_tys types
operands p (Op.NoneFits t) = []

abbrev pub result : Op → Ty
result (Op.NumberOf t n) = t
result (Op.TruthOf b) = Boolean
result (Op.CharacterOf code) = Char
result (Op.TextOf characters) = Seq Char
result (Op.NullOf t) = t
result (Op.Negate t) = t
result (Op.Add t) = t
result (Op.Subtract t) = t
result (Op.Multiply t) = t
result (Op.Divide t) = t
result (Op.Modulo t) = t
result Op.Not = Boolean
result (Op.Compare comparison t) = Boolean
result (Op.As source target) = target
result (Op.Fit source target) = target
result (Op.Narrow source target) = target
result (Op.SequenceOf element size) = Seq element
result (Op.SetOf element size) = Set element
result (Op.SequenceSize element) = Int
result (Op.SetSize element) = Int
result (Op.InSequence element) = Boolean
result (Op.InSet element) = Boolean
result (Op.Item element) = element
result (Op.Construct t c) = t
result (Op.HasConstructor t c) = Boolean
result (Op.Part t target parts) = target
result (Op.ObjectsOf types) = Set (AnyObject false)
result (Op.NoneFits t) = t

abbrev pub compares : Comparison → Ty → Bool
compares Equal t = true
compares NotEqual t = true
compares Less t = is_ordered t
compares AtMost t = is_ranked t
compares Greater t = is_ordered t
compares AtLeast t = is_ordered t

-- the part is there, and of the type
abbrev pub is_part : Program → Ty → Ty → ℕ × ℕ → Bool
is_part p t target part = option_map_or (same_type target) (slice_get (parts_of p t part.0) part.1) false

-- what is asked beside the types of the operands
abbrev pub allowed : Program → Op → Bool
allowed p (Op.NumberOf t n) = is_number t
allowed p (Op.TruthOf b) = true
allowed p (Op.CharacterOf code) = nat_lt code 128
allowed p (Op.TextOf characters) = list_all (λ c. nat_lt c 128) characters
allowed p (Op.NullOf t) = is_nullable t
allowed p (Op.Negate t) = is_arithmetic t
allowed p (Op.Add t) = is_arithmetic t
allowed p (Op.Subtract t) = is_arithmetic t
allowed p (Op.Multiply t) = is_arithmetic t
allowed p (Op.Divide t) = is_arithmetic t
allowed p (Op.Modulo t) = is_arithmetic t
allowed p Op.Not = true
allowed p (Op.Compare comparison t) = compares comparison t
allowed p (Op.As source target) = casts source target
allowed p (Op.Fit source target) = fits source target
allowed p (Op.Narrow source target) = narrows source target
allowed p (Op.SequenceOf element size) = true
allowed p (Op.SetOf element size) = true
allowed p (Op.SequenceSize element) = true
allowed p (Op.SetSize element) = true
allowed p (Op.InSequence element) = true
allowed p (Op.InSet element) = true
allowed p (Op.Item element) = true
allowed p (Op.Construct t c) = has_constructor p t c
allowed p (Op.HasConstructor t c) = has_constructor p t c
allowed p (Op.Part t target parts) = list_all (is_part p t target) parts
allowed p (Op.ObjectsOf types) = list_all is_framed (list_of_tys types)
allowed p (Op.NoneFits t) = true

-- ---- ghosts

abbrev pub marks_of : List Variable → List Bool
marks_of variables = map (λ (x : Variable). x.is_ghost) variables

abbrev pub constructor_marks : Program → Ty → ℕ → List Bool
constructor_marks p (Newtype d) c = []
constructor_marks p Int c = []
constructor_marks p Nat c = []
constructor_marks p Boolean c = []
constructor_marks p Char c = []
constructor_marks p (AnyObject nullable) c = []
constructor_marks p (Class nullable d) c = []
constructor_marks p (Array nullable t) c = []
constructor_marks p (Seq t) c = []
constructor_marks p (Set t) c = []
constructor_marks p (Data d ts) c = marks_of (parts_at p d c)
constructor_marks p (Parameter n) c = []

-- which operands are not compiled: those of ghost parts; none where the list ends
abbrev pub ghost_operands : Program → Op → List Bool
ghost_operands p (Op.NumberOf t n) = []
ghost_operands p (Op.TruthOf b) = []
ghost_operands p (Op.CharacterOf code) = []
ghost_operands p (Op.TextOf characters) = []
ghost_operands p (Op.NullOf t) = []
ghost_operands p (Op.Negate t) = []
ghost_operands p (Op.Add t) = []
ghost_operands p (Op.Subtract t) = []
ghost_operands p (Op.Multiply t) = []
ghost_operands p (Op.Divide t) = []
ghost_operands p (Op.Modulo t) = []
ghost_operands p Op.Not = []
ghost_operands p (Op.Compare comparison t) = []
ghost_operands p (Op.As source target) = []
ghost_operands p (Op.Fit source target) = []
ghost_operands p (Op.Narrow source target) = []
ghost_operands p (Op.SequenceOf element size) = []
ghost_operands p (Op.SetOf element size) = []
ghost_operands p (Op.SequenceSize element) = []
ghost_operands p (Op.SetSize element) = []
ghost_operands p (Op.InSequence element) = []
ghost_operands p (Op.InSet element) = []
ghost_operands p (Op.Item element) = []
ghost_operands p (Op.Construct t c) = constructor_marks p t c
ghost_operands p (Op.HasConstructor t c) = []
ghost_operands p (Op.Part t target parts) = []
ghost_operands p (Op.ObjectsOf types) = []
ghost_operands p (Op.NoneFits t) = []

-- the part of a ghost destructor
abbrev pub is_ghost_part : Program → Ty → ℕ × ℕ → Bool
is_ghost_part p t part = slice_index_or (constructor_marks p t part.0) part.1 false

-- it mentions a ghost itself
abbrev pub is_ghost_op : Program → Op → Bool
is_ghost_op p (Op.NumberOf t n) = false
is_ghost_op p (Op.TruthOf b) = false
is_ghost_op p (Op.CharacterOf code) = false
is_ghost_op p (Op.TextOf characters) = false
is_ghost_op p (Op.NullOf t) = false
is_ghost_op p (Op.Negate t) = false
is_ghost_op p (Op.Add t) = false
is_ghost_op p (Op.Subtract t) = false
is_ghost_op p (Op.Multiply t) = false
is_ghost_op p (Op.Divide t) = false
is_ghost_op p (Op.Modulo t) = false
is_ghost_op p Op.Not = false
is_ghost_op p (Op.Compare comparison t) = false
is_ghost_op p (Op.As source target) = false
is_ghost_op p (Op.Fit source target) = false
is_ghost_op p (Op.Narrow source target) = false
is_ghost_op p (Op.SequenceOf element size) = false
is_ghost_op p (Op.SetOf element size) = false
is_ghost_op p (Op.SequenceSize element) = false
is_ghost_op p (Op.SetSize element) = false
is_ghost_op p (Op.InSequence element) = false
is_ghost_op p (Op.InSet element) = false
is_ghost_op p (Op.Item element) = false
is_ghost_op p (Op.Construct t c) = false
is_ghost_op p (Op.HasConstructor t c) = false
is_ghost_op p (Op.Part t target parts) = list_any (is_ghost_part p t) parts
is_ghost_op p (Op.ObjectsOf types) = false
is_ghost_op p (Op.NoneFits t) = false

-- how it compares two values, and their type
abbrev pub compared_by : Op → Option (Comparison × Ty)
compared_by (Op.NumberOf t n) = None
compared_by (Op.TruthOf b) = None
compared_by (Op.CharacterOf code) = None
compared_by (Op.TextOf characters) = None
compared_by (Op.NullOf t) = None
compared_by (Op.Negate t) = None
compared_by (Op.Add t) = None
compared_by (Op.Subtract t) = None
compared_by (Op.Multiply t) = None
compared_by (Op.Divide t) = None
compared_by (Op.Modulo t) = None
compared_by Op.Not = None
compared_by (Op.Compare comparison t) = Some (comparison, t)
compared_by (Op.As source target) = None
compared_by (Op.Fit source target) = None
compared_by (Op.Narrow source target) = None
compared_by (Op.SequenceOf element size) = None
compared_by (Op.SetOf element size) = None
compared_by (Op.SequenceSize element) = None
compared_by (Op.SetSize element) = None
compared_by (Op.InSequence element) = None
compared_by (Op.InSet element) = None
compared_by (Op.Item element) = None
compared_by (Op.Construct t c) = None
compared_by (Op.HasConstructor t c) = None
compared_by (Op.Part t target parts) = None
compared_by (Op.ObjectsOf types) = None
compared_by (Op.NoneFits t) = None

-- the type of values that are compared for equality
abbrev pub equated : Comparison → Ty → Option Ty
equated Equal t = Some t
equated NotEqual t = Some t
equated Less t = None
equated AtMost t = None
equated Greater t = None
equated AtLeast t = None

abbrev pub equated_by : Op → Option Ty
equated_by op = option_and_then (λ (x : Comparison × Ty). equated x.0 x.1) (compared_by op)

-- ---- native code

abbrev pub is_nat : Ty → Bool
is_nat (Newtype d) = false
is_nat Int = false
is_nat Nat = true
is_nat Boolean = false
is_nat Char = false
is_nat (AnyObject nullable) = false
is_nat (Class nullable d) = false
is_nat (Array nullable t) = false
is_nat (Seq t) = false
is_nat (Set t) = false
is_nat (Data d ts) = false
is_nat (Parameter n) = false

-- it may stand in compiled code: no sets, no test of membership, no `as nat`
abbrev pub is_compiled : Op → Bool
is_compiled (Op.NumberOf t n) = true
is_compiled (Op.TruthOf b) = true
is_compiled (Op.CharacterOf code) = true
is_compiled (Op.TextOf characters) = true
is_compiled (Op.NullOf t) = true
is_compiled (Op.Negate t) = true
is_compiled (Op.Add t) = true
is_compiled (Op.Subtract t) = true
is_compiled (Op.Multiply t) = true
is_compiled (Op.Divide t) = true
is_compiled (Op.Modulo t) = true
is_compiled Op.Not = true
is_compiled (Op.Compare comparison t) = true
is_compiled (Op.As source target) = not (is_nat target)
is_compiled (Op.Fit source target) = true
is_compiled (Op.Narrow source target) = true
is_compiled (Op.SequenceOf element size) = true
is_compiled (Op.SetOf element size) = false
is_compiled (Op.SequenceSize element) = true
is_compiled (Op.SetSize element) = false
is_compiled (Op.InSequence element) = false
is_compiled (Op.InSet element) = false
is_compiled (Op.Item element) = true
is_compiled (Op.Construct t c) = true
is_compiled (Op.HasConstructor t c) = true
is_compiled (Op.Part t target parts) = true
is_compiled (Op.ObjectsOf types) = false
is_compiled (Op.NoneFits t) = true

-- of type `int` it may stand in compiled code, in places for it: literals, sizes, `as int`
abbrev pub may_be_int : Op → Bool
may_be_int (Op.NumberOf t n) = true
may_be_int (Op.TruthOf b) = false
may_be_int (Op.CharacterOf code) = false
may_be_int (Op.TextOf characters) = false
may_be_int (Op.NullOf t) = false
may_be_int (Op.Negate t) = false
may_be_int (Op.Add t) = false
may_be_int (Op.Subtract t) = false
may_be_int (Op.Multiply t) = false
may_be_int (Op.Divide t) = false
may_be_int (Op.Modulo t) = false
may_be_int Op.Not = false
may_be_int (Op.Compare comparison t) = false
may_be_int (Op.As source target) = true
may_be_int (Op.Fit source target) = false
may_be_int (Op.Narrow source target) = false
may_be_int (Op.SequenceOf element size) = false
may_be_int (Op.SetOf element size) = false
may_be_int (Op.SequenceSize element) = true
may_be_int (Op.SetSize element) = true
may_be_int (Op.InSequence element) = false
may_be_int (Op.InSet element) = false
may_be_int (Op.Item element) = false
may_be_int (Op.Construct t c) = false
may_be_int (Op.HasConstructor t c) = false
may_be_int (Op.Part t target parts) = false
may_be_int (Op.ObjectsOf types) = false
may_be_int (Op.NoneFits t) = false

-- which operands are such places: those of comparisons and `as`, and an index
abbrev pub int_operands : Op → List Bool
int_operands (Op.NumberOf t n) = []
int_operands (Op.TruthOf b) = []
int_operands (Op.CharacterOf code) = []
int_operands (Op.TextOf characters) = []
int_operands (Op.NullOf t) = []
int_operands (Op.Negate t) = []
int_operands (Op.Add t) = []
int_operands (Op.Subtract t) = []
int_operands (Op.Multiply t) = []
int_operands (Op.Divide t) = []
int_operands (Op.Modulo t) = []
int_operands Op.Not = []
int_operands (Op.Compare comparison t) = true ∷ true ∷ []
int_operands (Op.As source target) = true ∷ []
int_operands (Op.Fit source target) = []
int_operands (Op.Narrow source target) = []
int_operands (Op.SequenceOf element size) = []
int_operands (Op.SetOf element size) = []
int_operands (Op.SequenceSize element) = []
int_operands (Op.SetSize element) = []
int_operands (Op.InSequence element) = []
int_operands (Op.InSet element) = []
int_operands (Op.Item element) = false ∷ true ∷ []
int_operands (Op.Construct t c) = []
int_operands (Op.HasConstructor t c) = []
int_operands (Op.Part t target parts) = []
int_operands (Op.ObjectsOf types) = []
int_operands (Op.NoneFits t) = []

-- a conversion is no node of the text: what is said of its operand is said of it
abbrev pub is_conversion : Op → Bool
is_conversion (Op.NumberOf t n) = false
is_conversion (Op.TruthOf b) = false
is_conversion (Op.CharacterOf code) = false
is_conversion (Op.TextOf characters) = false
is_conversion (Op.NullOf t) = false
is_conversion (Op.Negate t) = false
is_conversion (Op.Add t) = false
is_conversion (Op.Subtract t) = false
is_conversion (Op.Multiply t) = false
is_conversion (Op.Divide t) = false
is_conversion (Op.Modulo t) = false
is_conversion Op.Not = false
is_conversion (Op.Compare comparison t) = false
is_conversion (Op.As source target) = false
is_conversion (Op.Fit source target) = true
is_conversion (Op.Narrow source target) = true
is_conversion (Op.SequenceOf element size) = false
is_conversion (Op.SetOf element size) = false
is_conversion (Op.SequenceSize element) = false
is_conversion (Op.SetSize element) = false
is_conversion (Op.InSequence element) = false
is_conversion (Op.InSet element) = false
is_conversion (Op.Item element) = false
is_conversion (Op.Construct t c) = false
is_conversion (Op.HasConstructor t c) = false
is_conversion (Op.Part t target parts) = false
is_conversion (Op.ObjectsOf types) = false
is_conversion (Op.NoneFits t) = false
