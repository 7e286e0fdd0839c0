-- What elaborates is well typed.
use Rattle.std.proofs.Common.{◌≡◌, ℕ, Bool, true, false, ◌||◌, ◌==◌, List, [], ◌∷◌, ◌++◌, Option, Some, None, refl, ap, subst}
use Rattle.std.specs.Prelude.{if◌then◌else◌, unwrap_or, is_some, option_map}
use Rattle.std.proofs.lemmas.Bool.{eqb-true}
use Rattle.df_lang.specs.declared.ty.Ty.{Ty}
use Rattle.df_lang.specs.declared.ty.Ty.TheVariants as types
use Rattle.df_lang.specs.Typing as lang
use Rattle.df_lang.specs.Newtype.{same_type}
use Rattle.df_lang.specs.Typing.{is_type, is_expr, converts}
use Rattle.df_lang.specs.Program.{Program, newtype_at}
use Rattle.df_lang.specs.Expr as typed
use Rattle.df_ntree.specs.declared.expr.UnaryOperator.TheVariants as unary
use Rattle.df_ntree.specs.declared.expr.Group.{Group}
use Rattle.df_ntree.specs.declared.expr.BasicType.TheVariants as basics
use Rattle.df_ntree.specs.declared.expr.TreeType.{TreeType}
use Rattle.df_ntree.specs.declared.expr.TreeType.TheVariants as trees
use Rattle.df_ntree.specs.Expr.{Expr, Number, Character, Truth, Name, Parentheses, Call, Unary, Cast, Operations, Leading, Members, end, more}
use Rattle.df_ntree.specs.ExprSpelling.{first_group}
use Rattle.df_ntyping.specs.Table.{newtype_of, type_of}
use Rattle.df_ntyping.specs.Environment.{Environment}
use Rattle.df_ntyping.specs.Meaning.{Meaning, TheLocal, TheMethod, meaning_of}
use Rattle.df_ntyping.specs.ExprTypes.{is_arithmetic, is_open, arithmetic_all, common_type, last_type, type_of_meaning, own_type, own_types, counted_of, first_or, wanted_first, wanted_behind, expected_inside}
use Rattle.df_ntyping.specs.ExprElaboration.{Part, Elaborates, AreOperands}
use Rattle.df_ntyping.specs.Laws.{NewtypesHold, LocalsHold, IsExpected}
use Rattle.df_lemmas.proofs.Numbers.{equal_self}
use Rattle.df_ntyping.specs.Types.{counted, is_integer, casts, fits_or_narrows, are_one_integer, arithmetic}

-- ---- types

pub or_false : (b : Bool) → (b || false) ≡ true → b ≡ true
or_false true p = refl
or_false false p = p

pub same_equal : (a b : Ty) → same_type a b ≡ true → a ≡ b
same_equal (types.Newtype a) (types.Newtype b) p = ap types.Newtype (eqb-true a b p)
same_equal (types.Newtype a) types.Int p = absurd cc
same_equal (types.Newtype a) types.Nat p = absurd cc
same_equal (types.Newtype a) types.Bool p = absurd cc
same_equal (types.Newtype a) types.Char p = absurd cc
same_equal types.Int types.Int p = refl
same_equal types.Int (types.Newtype b) p = absurd cc
same_equal types.Int types.Nat p = absurd cc
same_equal types.Int types.Bool p = absurd cc
same_equal types.Int types.Char p = absurd cc
same_equal types.Nat types.Nat p = refl
same_equal types.Nat (types.Newtype b) p = absurd cc
same_equal types.Nat types.Int p = absurd cc
same_equal types.Nat types.Bool p = absurd cc
same_equal types.Nat types.Char p = absurd cc
same_equal types.Bool types.Bool p = refl
same_equal types.Bool (types.Newtype b) p = absurd cc
same_equal types.Bool types.Int p = absurd cc
same_equal types.Bool types.Nat p = absurd cc
same_equal types.Bool types.Char p = absurd cc
same_equal types.Char types.Char p = refl
same_equal types.Char (types.Newtype b) p = absurd cc
same_equal types.Char types.Int p = absurd cc
same_equal types.Char types.Nat p = absurd cc
same_equal types.Char types.Bool p = absurd cc

-- an integer type of the program
pub integer_of : (program : Program) (ty : Ty) → is_type program ty ≡ true → is_integer ty ≡ true → lang.is_integer program ty ≡ true
integer_of program (types.Newtype id) p q = p
integer_of program types.Int p q = refl
integer_of program types.Nat p q = refl
integer_of program types.Bool p q = absurd cc
integer_of program types.Char p q = absurd cc

pub counted_type : (program : Program) (ty : Ty) → is_type program ty ≡ true → is_type program (counted ty) ≡ true
counted_type program (types.Newtype id) p = p
counted_type program types.Int p = refl
counted_type program types.Nat p = refl
counted_type program types.Bool p = refl
counted_type program types.Char p = refl

-- sums are of no `nat`
pub arithmetic_of : (program : Program) (source : Ty) → is_type program source ≡ true → is_integer (counted source) ≡ true → lang.is_arithmetic program (counted source) ≡ true
arithmetic_of program (types.Newtype id) p q = p
arithmetic_of program types.Int p q = refl
arithmetic_of program types.Nat p q = refl
arithmetic_of program types.Bool p q = absurd cc
arithmetic_of program types.Char p q = absurd cc

-- an operand's type and that which it counts as
pub counted_converts : (source : Ty) → same_type source (counted source) ≡ false → converts source (counted source) ≡ true
counted_converts (types.Newtype id) p = equal_self id
counted_converts types.Int p = refl
counted_converts types.Nat p = refl
counted_converts types.Bool p = refl
counted_converts types.Char p = refl

pub place_converts : (source place : Ty) → fits_or_narrows source place ≡ true → converts source place ≡ true
place_converts (types.Newtype a) (types.Newtype b) p = or_false (a == b) p
place_converts (types.Newtype a) types.Int p = p
place_converts (types.Newtype a) types.Nat p = p
place_converts (types.Newtype a) types.Bool p = p
place_converts (types.Newtype a) types.Char p = p
place_converts types.Int (types.Newtype b) p = p
place_converts types.Int types.Int p = refl
place_converts types.Int types.Nat p = refl
place_converts types.Int types.Bool p = p
place_converts types.Int types.Char p = p
place_converts types.Nat (types.Newtype b) p = p
place_converts types.Nat types.Int p = refl
place_converts types.Nat types.Nat p = refl
place_converts types.Nat types.Bool p = p
place_converts types.Nat types.Char p = p
place_converts types.Bool (types.Newtype b) p = p
place_converts types.Bool types.Int p = p
place_converts types.Bool types.Nat p = p
place_converts types.Bool types.Bool p = refl
place_converts types.Bool types.Char p = p
place_converts types.Char (types.Newtype b) p = p
place_converts types.Char types.Int p = p
place_converts types.Char types.Nat p = p
place_converts types.Char types.Bool p = p
place_converts types.Char types.Char p = refl

pub casts_of : (program : Program) (source target : Ty) → is_type program source ≡ true → is_type program target ≡ true → casts source target ≡ true → lang.casts program source target ≡ true
casts_of program types.Char target p q r = integer_of program target q r
casts_of program (types.Newtype a) types.Char p q r = p
casts_of program (types.Newtype a) (types.Newtype b) p q r = rw (p, q) refl
casts_of program (types.Newtype a) types.Int p q r = rw p refl
casts_of program (types.Newtype a) types.Nat p q r = rw p refl
casts_of program (types.Newtype a) types.Bool p q r = absurd cc
casts_of program types.Int types.Char p q r = refl
casts_of program types.Int (types.Newtype b) p q r = q
casts_of program types.Int types.Int p q r = refl
casts_of program types.Int types.Nat p q r = refl
casts_of program types.Int types.Bool p q r = absurd cc
casts_of program types.Nat types.Char p q r = refl
casts_of program types.Nat (types.Newtype b) p q r = q
casts_of program types.Nat types.Int p q r = refl
casts_of program types.Nat types.Nat p q r = refl
casts_of program types.Nat types.Bool p q r = absurd cc
casts_of program types.Bool types.Char p q r = absurd cc
casts_of program types.Bool (types.Newtype b) p q r = absurd cc
casts_of program types.Bool types.Int p q r = absurd cc
casts_of program types.Bool types.Nat p q r = absurd cc
casts_of program types.Bool types.Bool p q r = absurd cc

-- ---- types that are known are the program's

unfoldable pub Valid : Program → Option Ty → Type 0
Valid program own = (ty : Ty) → own ≡ Some ty → is_type program ty ≡ true

unfoldable pub AllValid : Program → List (Option Ty) → Type 0
AllValid program [] = Unit {0}
AllValid program (own ∷ others) = Valid program own × AllValid program others

some_of : {A : Type 0} {a b : A} → Some a ≡ Some b → a ≡ b
some_of {A} {a} p = ap (λ (o : Option A). unwrap_or o a) p

pub some_valid : (program : Program) (ty : Ty) → is_type program ty ≡ true → Valid program (Some ty)
unfolding Valid
some_valid program ty h other p = subst (λ (t : Ty). is_type program t ≡ true) (some_of p) h

pub none_valid : (program : Program) → Valid program None
unfolding Valid
none_valid program other p = absurd cc

pub if_valid : (program : Program) (b : Bool) (one other : Option Ty) → Valid program one → Valid program other → Valid program (if b then one else other)
if_valid program true one other h k = h
if_valid program false one other h k = k

pub counted_valid : (program : Program) (own : Option Ty) → Valid program own → Valid program (counted_of own)
unfolding Valid
counted_valid program None h = λ ty p. absurd cc
counted_valid program (Some ty) h = some_valid program (counted ty) (counted_type program ty (h ty refl))

pub arithmetic_valid : (program : Program) (left right : Option Ty) → Valid program left → Valid program (arithmetic left right)
unfolding Valid
arithmetic_valid program None right h = none_valid program
arithmetic_valid program (Some left) None h = none_valid program
arithmetic_valid program (Some left) (Some right) h =
    if_valid program (are_one_integer left right) (Some (counted left)) None (some_valid program (counted left) (counted_type program left (h left refl))) (none_valid program)

pub arithmetic_all_valid : (program : Program) (left : Option Ty) (others : List (Option Ty)) → Valid program left → Valid program (arithmetic_all left others)
arithmetic_all_valid program left [] h = h
arithmetic_all_valid program left (right ∷ others) h = arithmetic_all_valid program (arithmetic left right) others (arithmetic_valid program left right h)

pub common_valid : (program : Program) (own : List (Option Ty)) → AllValid program own → Valid program (common_type own)
unfolding AllValid
common_valid program [] h = none_valid program
common_valid program (first ∷ others) h = arithmetic_all_valid program (arithmetic first first) others (arithmetic_valid program first first h.0)

first_valid : (program : Program) (otherwise : Option Ty) (own : List (Option Ty)) → Valid program otherwise → AllValid program own → Valid program (first_or otherwise own)
unfolding AllValid
first_valid program otherwise [] h k = h
first_valid program otherwise (ty ∷ others) h k = counted_valid program ty k.0

named_valid : (program : Program) (found : Option ℕ) → ((id : ℕ) → found ≡ Some id → is_some (newtype_at program id) ≡ true) → Valid program (option_map types.Newtype found)
named_valid program None h = none_valid program
named_valid program (Some id) h = some_valid program (types.Newtype id) (h id refl)

pub type_valid : (program : Program) (env : Environment) (tree : TreeType) → NewtypesHold program env → Valid program (type_of env.table.newtypes tree)
type_valid program env (trees.Basic basics.Int pos) h = some_valid program types.Int refl
type_valid program env (trees.Basic basics.Nat pos) h = some_valid program types.Nat refl
type_valid program env (trees.Basic basics.Bool pos) h = some_valid program types.Bool refl
type_valid program env (trees.Basic basics.Char pos) h = some_valid program types.Char refl
type_valid program env (trees.Named ident) h = named_valid program (newtype_of env.table.newtypes ident.name) (λ id p. h ident.name id p)

pub last_valid : (program : Program) (env : Environment) (all : List TreeType) → NewtypesHold program env → Valid program (last_type env all)
last_valid program env [] h = none_valid program
last_valid program env (tree ∷ []) h = type_valid program env tree h
last_valid program env (tree ∷ next ∷ others) h = last_valid program env (next ∷ others) h

meaning_valid : (program : Program) (env : Environment) (locals : List Ty) (name : ℕ) (meaning : Option Meaning) → LocalsHold program env locals → meaning_of env name ≡ meaning → Valid program (type_of_meaning env meaning)
unfolding Valid
meaning_valid program env locals name None h p = none_valid program
meaning_valid program env locals name (Some (TheMethod id signature)) h p = none_valid program
meaning_valid program env locals name (Some (TheLocal local)) h p = λ ty q. (h name local ty p q).1

pub part_valid : (program : Program) (b : Bool) (own : Option Ty) (others : List (Option Ty)) → Valid program own → AllValid program others → AllValid program ((if b then [] else own ∷ []) ++ others)
unfolding AllValid
part_valid program true own others h k = k
part_valid program false own others h k = (h, k)

-- of what elaborates, so without calls
mutual
  unfolding AllValid

  pub own_valid : (program : Program) (env : Environment) (locals : List Ty) → NewtypesHold program env → LocalsHold program env locals → (expected : Option Ty) (e : Expr) (ty : Ty) (t : typed.Expr)
      → Elaborates env expected e ty t → Valid program (own_type env e)
  own_valid program env locals n l expected (Number literal) ty t h = none_valid program
  own_valid program env locals n l expected (Character code at) ty t h = some_valid program types.Char refl
  own_valid program env locals n l expected (Truth value at) ty t h = some_valid program types.Bool refl
  own_valid program env locals n l expected (Name ident) ty t h = meaning_valid program env locals ident.name (meaning_of env ident.name) l refl
  own_valid program env locals n l expected (Parentheses at inner) ty t h = own_valid program env locals n l expected inner ty t h
  own_valid program env locals n l expected (Call callee arguments) ty t h = absurd h
  own_valid program env locals n l expected (Unary unary.Negate at operand) ty t (source, inner, one, h, integer, conversion, p, q) =
      arithmetic_valid program (own_type env operand) (own_type env operand) (own_valid program env locals n l (counted_of expected) operand source inner h)
  own_valid program env locals n l expected (Unary unary.Not at operand) ty t h = some_valid program types.Bool refl
  own_valid program env locals n l expected (Cast operand all) ty t h = last_valid program env all n
  own_valid program env locals n l expected (Operations first rest) ty t (of, source, inner, one, parts, h, counts, conversion, operands, run) =
      let wanted = wanted_first env (expected_inside (first_group rest) expected) first rest in
      if_valid program (is_arithmetic (first_group rest)) (common_type ((if is_open first then [] else own_type env first ∷ []) ++ own_types env rest)) (Some types.Bool)
      (common_valid program ((if is_open first then [] else own_type env first ∷ []) ++ own_types env rest)
      (part_valid program (is_open first) (own_type env first) (own_types env rest) (own_valid program env locals n l wanted first source inner h) (owns_valid program env locals n l (wanted_behind env wanted first) of rest parts operands)))
      (some_valid program types.Bool refl)
  own_valid program env locals n l expected (Leading operations) ty t h = some_valid program types.Bool refl

  pub owns_valid : (program : Program) (env : Environment) (locals : List Ty) → NewtypesHold program env → LocalsHold program env locals → (wanted : Option Ty) (of : Ty) (rest : Members) (parts : List Part)
      → AreOperands env wanted of rest parts → AllValid program (own_types env rest)
  owns_valid program env locals n l wanted of end parts h = tt
  owns_valid program env locals n l wanted of (more operator at operand rest) parts (source, inner, one, others, h, counts, conversion, operands, q) =
      part_valid program (is_open operand) (own_type env operand) (own_types env rest) (own_valid program env locals n l wanted operand source inner h) (owns_valid program env locals n l (wanted_behind env wanted operand) of rest others operands)

pub inside_valid : (program : Program) (group : Option Group) (expected : Option Ty) → Valid program expected → Valid program (expected_inside group expected)
inside_valid program group expected h = if_valid program (is_arithmetic group) expected None h (none_valid program)

pub wanted_valid : (program : Program) (env : Environment) (expected : Option Ty) (first : Expr) (rest : Members) → Valid program expected → Valid program (own_type env first) → AllValid program (own_types env rest)
    → Valid program (wanted_first env expected first rest)
wanted_valid program env expected first rest h own owns =
    if_valid program (is_open first) (first_or (counted_of expected) (own_types env rest)) (counted_of (own_type env first))
    (first_valid program (counted_of expected) (own_types env rest) (counted_valid program expected h) owns)
    (counted_valid program (own_type env first) own)

pub behind_valid : (program : Program) (env : Environment) (wanted : Option Ty) (operand : Expr) → Valid program wanted → Valid program (own_type env operand) → Valid program (wanted_behind env wanted operand)
behind_valid program env wanted operand h own = if_valid program (is_open operand) wanted (counted_of (own_type env operand)) h (counted_valid program (own_type env operand) own)

pub valid_at : (program : Program) (ty : Ty) → Valid program (Some ty) → is_type program ty ≡ true
unfolding Valid
valid_at program ty h = h ty refl

pub known_valid : (program : Program) (ty : Ty) (own : Option Ty) → Valid program own → own ≡ Some ty → is_type program ty ≡ true
unfolding Valid
known_valid program ty own h p = h ty p

pub expected_valid : (program : Program) (expected : Option Ty) → IsExpected program expected → Valid program expected
expected_valid program None h = none_valid program
expected_valid program (Some ty) h = some_valid program ty h
