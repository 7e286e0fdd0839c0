-- The type of what elaborates is that which rules look at.
use Rattle.std.proofs.Common.{◌≡◌, ◌≢◌, Bool, true, false, ◌&&◌, List, [], ◌∷◌, ◌++◌, Option, Some, None, refl, sym, ap, ◌∙◌}
use Rattle.std.specs.Prelude.{if◌then◌else◌, unwrap_or}
use Rattle.std.proofs.lemmas.Bool.{and_parts}
use Rattle.df_base.specs.declared.pos.Pos.{Pos}
use Rattle.df_lang.specs.declared.ty.Ty.{Ty}
use Rattle.df_lang.specs.declared.ty.Ty.TheVariants as types
use Rattle.df_lang.specs.Expr as typed
use Rattle.df_ntree.specs.declared.expr.UnaryOperator.TheVariants as unary
use Rattle.df_ntree.specs.declared.expr.Group.{Group}
use Rattle.df_ntree.specs.declared.expr.Group.TheVariants as groups
use Rattle.df_ntree.specs.declared.expr.TreeType.{TreeType}
use Rattle.df_ntree.specs.Expr.{Expr, Number, Character, Truth, Name, Parentheses, Call, Unary, Cast, Operations, Leading, Members, end, more}
use Rattle.df_ntree.specs.ExprSpelling.{first_group, IsExpr, AreOf}
use Rattle.df_ntyping.specs.Types.{counted, is_integer, are_one_integer, arithmetic, literal_type}
use Rattle.df_ntyping.specs.Environment.{Environment}
use Rattle.df_ntyping.specs.ExprTypes.{is_arithmetic, is_open, are_open, open_type, own_type, own_types, common_type, arithmetic_all, last_type, type_in, counted_of, wanted_first, wanted_behind, expected_inside}
use Rattle.df_ntyping.specs.ExprElaboration.{Part, AreCasts, IsRun, Elaborates, AreOperands}
use Rattle.df_ntyping.specs.Laws.{OneType}
use Rattle.df_ntyping.proofs.Complete.{same_self}

-- ---- types

pub counted_twice : (ty : Ty) → counted (counted ty) ≡ counted ty
counted_twice (types.Newtype a) = refl
counted_twice types.Int = refl
counted_twice types.Nat = refl
counted_twice types.Bool = refl
counted_twice types.Char = refl

pub counted_integer : (ty : Ty) → is_integer (counted ty) ≡ is_integer ty
counted_integer (types.Newtype a) = refl
counted_integer types.Int = refl
counted_integer types.Nat = refl
counted_integer types.Bool = refl
counted_integer types.Char = refl

literal_counted : (expected : Option Ty) → counted (literal_type (counted_of expected)) ≡ counted (literal_type expected)
literal_counted None = refl
literal_counted (Some (types.Newtype a)) = refl
literal_counted (Some types.Int) = refl
literal_counted (Some types.Nat) = refl
literal_counted (Some types.Bool) = refl
literal_counted (Some types.Char) = refl

-- what operators make of literals
open_counted : (expected : Option Ty) (e : Expr) → counted (open_type (counted_of expected) e) ≡ counted (literal_type expected)
open_counted expected (Number literal) = literal_counted expected
open_counted expected (Parentheses at inner) = open_counted expected inner
open_counted expected e = counted_twice (literal_type (counted_of expected)) ∙ literal_counted expected

-- ---- options and truths

pub value_of : {A : Type 0} {a b : A} → Some a ≡ Some b → a ≡ b
value_of {A} {a} p = ap (λ (o : Option A). unwrap_or o a) p

-- ---- operands that are not open

-- each of a type that counts as this one
AllCount : Ty → List (Option Ty) → Type 0
AllCount of [] = Unit {0}
AllCount of (own ∷ others) = ((source : Ty) × (own ≡ Some source) × (counted source ≡ of)) × AllCount of others

pub one_integer : (left right : Ty) → is_integer left ≡ true → is_integer right ≡ true → counted left ≡ counted right → are_one_integer left right ≡ true
one_integer left right p q r = rw (p, q, r) (same_self (counted right))

sum_of_two : (of source : Ty) → counted of ≡ of → is_integer of ≡ true → counted source ≡ of → arithmetic (Some of) (Some source) ≡ Some of
sum_of_two of source twice integer counts =
    let right : is_integer source ≡ true = sym (counted_integer source) ∙ ap is_integer counts ∙ integer in
    rw (one_integer of source integer right (twice ∙ sym counts), twice) refl

all_in_one : (of : Ty) (others : List (Option Ty)) → counted of ≡ of → is_integer of ≡ true → AllCount of others → arithmetic_all (Some of) others ≡ Some of
unfolding AllCount
all_in_one of [] twice integer all = refl
all_in_one of (own ∷ others) twice integer ((source, known, counts), all) = rw (known, sum_of_two of source twice integer counts) (all_in_one of others twice integer all)

common : (of : Ty) (own : List (Option Ty)) → own ≢ [] → is_integer of ≡ true → AllCount of own → common_type own ≡ Some of
unfolding AllCount
common of [] some integer all = absurd (some refl)
common of (own ∷ others) some integer ((source, known, counts), all) =
    let twice : counted of ≡ of = sym (ap counted counts) ∙ counted_twice source ∙ counts in
    let right : is_integer source ≡ true = sym (counted_integer source) ∙ ap is_integer counts ∙ integer in
    rw (known, one_integer source source right right refl, counts) (all_in_one of others twice integer all)

not_empty : {A : Type 0} (x : A) (xs : List A) → x ∷ xs ≢ []
not_empty x xs e = cc

-- ---- runs

not_open : (b : Bool) (open_one own ty : Option Ty) → (if b then open_one else own) ≡ ty → b ≡ false → own ≡ ty
not_open true open_one own ty h p = absurd cc
not_open false open_one own ty h p = h

of_part : (b : Bool) (of : Ty) (own : Option Ty) (others : List (Option Ty)) → (b ≡ false → (source : Ty) × (own ≡ Some source) × (counted source ≡ of)) → AllCount of others
    → AllCount of ((if b then [] else own ∷ []) ++ others)
unfolding AllCount
of_part true of own others one all = all
of_part false of own others one all = (one refl, all)

pub none_open : (env : Environment) (rest : Members) → are_open rest ≡ true → own_types env rest ≡ []
none_open env end p = refl
none_open env (more operator pos operand rest) p =
    let parts = and_parts (is_open operand) (are_open rest) p in
    rw (parts.0) (none_open env rest parts.1)

some_own : (b : Bool) (own : Option Ty) (others : List (Option Ty)) → (b ≡ true → others ≢ []) → ((if b then [] else own ∷ []) ++ others) ≢ []
some_own true own others one = one refl
some_own false own others one = not_empty own others

and_false : (b c : Bool) → (b && c) ≡ false → b ≡ true → c ≡ false
and_false true c h p = h
and_false false c h p = absurd cc

pub not_all_open : (env : Environment) (rest : Members) → are_open rest ≡ false → own_types env rest ≢ []
not_all_open env end p = absurd cc
not_all_open env (more operator pos operand rest) p =
    some_own (is_open operand) (own_type env operand) (own_types env rest) (λ q. not_all_open env rest (and_false (is_open operand) (are_open rest) p q))

-- the type of a sum or a product
SumType : Environment → Option Ty → Expr → Members → Bool → Bool → Ty → Type 0
SumType env expected first rest b c of =
    (if b && c then Some (counted (literal_type expected)) else common_type ((if b then [] else own_type env first ∷ []) ++ own_types env rest)) ≡ Some of

sum_type : (env : Environment) (expected : Option Ty) (first : Expr) (rest : Members) (of source : Ty) (b c : Bool) → is_open first ≡ b → are_open rest ≡ c
    → type_in env (wanted_first env expected first rest) first ≡ Some source → counted source ≡ of → is_integer of ≡ true → AllCount of (own_types env rest)
    → SumType env expected first rest b c of
unfolding SumType AllCount
sum_type env expected first rest of source true true p q h counts integer all =
    let opened : Some (open_type (counted_of expected) first) ≡ Some source = rw (p, none_open env rest q) at h in
    ap Some (sym (open_counted expected first) ∙ ap counted (value_of opened) ∙ counts)
sum_type env expected first rest of source true false p q h counts integer all = common of (own_types env rest) (not_all_open env rest q) integer all
sum_type env expected first rest of source false c p q h counts integer all =
    common of (own_type env first ∷ own_types env rest) (not_empty (own_type env first) (own_types env rest)) integer
    ((source, not_open (is_open first) (Some (open_type (wanted_first env expected first rest) first)) (own_type env first) (Some source) h p, counts), all)

RunType : Environment → Option Ty → Expr → Members → Option Group → Ty → Type 0
RunType env expected first rest group ty =
    (if is_arithmetic group && is_open first && are_open rest then Some (counted (literal_type expected))
    else (if is_arithmetic group then common_type ((if is_open first then [] else own_type env first ∷ []) ++ own_types env rest) else Some types.Bool)) ≡ Some ty

run_type : (env : Environment) (expected : Option Ty) (first : Expr) (rest : Members) (group : Option Group) (of source : Ty) (one : typed.Expr) (parts : List Part) (ty : Ty) (t : typed.Expr)
    → type_in env (wanted_first env (expected_inside group expected) first rest) first ≡ Some source → counted source ≡ of → AllCount of (own_types env rest)
    → IsRun group rest of one parts ty t → RunType env expected first rest group ty
unfolding RunType SumType
run_type env expected first rest None of source one parts ty t h counts all run = absurd run
run_type env expected first rest (Some groups.Sum) of source one parts ty t h counts all (integer, p, q) = rw p (sum_type env expected first rest of source (is_open first) (are_open rest) refl refl h counts integer all)
run_type env expected first rest (Some groups.Product) of source one parts ty t h counts all (integer, p, q) = rw p (sum_type env expected first rest of source (is_open first) (are_open rest) refl refl h counts integer all)
run_type env expected first rest (Some groups.Comparison) of source one parts ty t h counts all (a, b, p, q) = rw p refl
run_type env expected first rest (Some groups.Conjunction) of source one parts ty t h counts all (a, p, q) = rw p refl
run_type env expected first rest (Some groups.Disjunction) of source one parts ty t h counts all (a, p, q) = rw p refl
run_type env expected first rest (Some groups.Implication) of source one parts ty t h counts all (a, p, q) = rw p refl
run_type env expected first rest (Some groups.Explication) of source one parts ty t h counts all (a, p, q) = rw p refl
run_type env expected first rest (Some groups.Equivalence) of source one parts ty t h counts all (a, p, q) = rw p refl

-- ---- minus, `as`

minus_type : (env : Environment) (expected : Option Ty) (operand : Expr) (source : Ty) (b : Bool) → is_open operand ≡ b → type_in env (counted_of expected) operand ≡ Some source → is_integer source ≡ true
    → (if b then Some (counted (literal_type expected)) else arithmetic (own_type env operand) (own_type env operand)) ≡ Some (counted source)
minus_type env expected operand source true p h integer =
    let opened : Some (open_type (counted_of expected) operand) ≡ Some source = rw p at h in
    ap Some (sym (open_counted expected operand) ∙ ap counted (value_of opened))
minus_type env expected operand source false p h integer =
    rw (not_open (is_open operand) (Some (open_type (counted_of expected) operand)) (own_type env operand) (Some source) h p, one_integer source source integer integer refl) refl

casts_type : (env : Environment) (at : Pos) (source : Ty) (inner : typed.Expr) (all : List TreeType) (ty : Ty) (t : typed.Expr) → all ≢ [] → AreCasts env at source inner all ty t → last_type env all ≡ Some ty
casts_type env at source inner [] ty t some h = absurd (some refl)
casts_type env at source inner (tree ∷ []) ty t some (target, known, c, (p, q)) = rw p known
casts_type env at source inner (tree ∷ next ∷ others) ty t some (target, known, c, h) = casts_type env at target (typed.As source target at inner) (next ∷ others) ty t (not_empty next others) h

-- ---- expressions

mutual
  unfolding AllCount RunType

  one_type_of : (env : Environment) (expected : Option Ty) (e : Expr) (ty : Ty) (t : typed.Expr) → IsExpr e → Elaborates env expected e ty t → type_in env expected e ≡ Some ty
  one_type_of env expected (Number literal) ty t g (p, q) = rw p refl
  one_type_of env expected (Character code pos) ty t g (p, q) = rw p refl
  one_type_of env expected (Truth value pos) ty t g (p, q) = rw p refl
  one_type_of env expected (Name ident) ty t g (local, means, known, q) = rw means known
  one_type_of env expected (Parentheses pos inner) ty t g h = one_type_of env expected inner ty t g h
  one_type_of env expected (Call callee arguments) ty t g h = absurd h
  one_type_of env expected (Unary unary.Negate pos operand) ty t g (source, inner, one, h, integer, conversion, p, q) =
      rw p (minus_type env expected operand source (is_open operand) refl (one_type_of env (counted_of expected) operand source inner g.0 h) integer)
  one_type_of env expected (Unary unary.Not pos operand) ty t g (inner, h, p, q) = rw p refl
  one_type_of env expected (Cast operand all) ty t g (source, inner, at, h, begins, cast) = casts_type env at source inner all ty t g.2.0 cast
  one_type_of env expected (Operations first rest) ty t g (of, source, inner, one, parts, h, counts, conversion, operands, run) =
      let wanted = wanted_first env (expected_inside (first_group rest) expected) first rest in
      run_type env expected first rest (first_group rest) of source one parts ty t (one_type_of env wanted first source inner g.2 h) counts
      (types_count env (wanted_behind env wanted first) of rest parts g.0 g.4 operands) run
  one_type_of env expected (Leading end) ty t g h = absurd h
  one_type_of env expected (Leading (more operator pos operand rest)) ty t g (one, parts, h, operands, p, leading) = rw p refl

  types_count : (env : Environment) (wanted : Option Ty) (of : Ty) (rest : Members) (parts : List Part) (group : Group) → AreOf rest group → AreOperands env wanted of rest parts → AllCount of (own_types env rest)
  types_count env wanted of end parts group g h = tt
  types_count env wanted of (more operator pos operand rest) parts group g (source, inner, one, others, h, counts, conversion, operands, q) =
      of_part (is_open operand) of (own_type env operand) (own_types env rest)
      (λ closed. (source, not_open (is_open operand) (Some (open_type wanted operand)) (own_type env operand) (Some source) (one_type_of env wanted operand source inner g.1 h) closed, counts))
      (types_count env (wanted_behind env wanted operand) of rest others group g.3 operands)

pub one_type : OneType
one_type env expected e ty t g h = one_type_of env expected e ty t g h
