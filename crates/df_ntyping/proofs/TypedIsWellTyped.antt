-- What an expression elaborates to is well typed.
use Rattle.std.proofs.Common.{◌≡◌, Bool, true, false, ◌||◌, List, [], ◌∷◌, ◌++◌, Option, Some, None, refl, sym, ◌∙◌, subst}
use Rattle.std.specs.Prelude.{nat_lt}
use Rattle.std.specs.List.{list_all}
use Rattle.std.proofs.lemmas.Bool.{and_parts}
use Rattle.df_base.specs.declared.pos.Pos.{Pos}
use Rattle.df_lang.specs.declared.ty.Ty.{Ty}
use Rattle.df_lang.specs.declared.ty.Ty.TheVariants as types
use Rattle.df_lang.specs.Typing as lang
use Rattle.df_lang.specs.Newtype.{same_type}
use Rattle.df_lang.specs.Typing.{is_type, is_expr, are_addends, are_factors, are_members, are_links, converts}
use Rattle.df_lang.specs.Expr as typed
use Rattle.df_lang.specs.Program.{Program}
use Rattle.df_ntree.specs.declared.expr.BinaryOperator.{BinaryOperator}
use Rattle.df_ntree.specs.declared.expr.BinaryOperator.TheVariants as binary
use Rattle.df_ntree.specs.declared.expr.UnaryOperator.TheVariants as unary
use Rattle.df_ntree.specs.declared.expr.Group.{Group}
use Rattle.df_ntree.specs.declared.expr.Group.TheVariants as groups
use Rattle.df_ntree.specs.declared.expr.TreeType.{TreeType}
use Rattle.df_ntree.specs.Spelling.{Piece}
use Rattle.df_ntree.specs.Expr.{Expr, Number, Character, Truth, Name, Parentheses, Call, Unary, Cast, Operations, Leading, Members, end, more}
use Rattle.df_ntree.specs.ExprSpelling.{first_group, spell, spell_members}
use Rattle.df_ntyping.specs.Types.{counted, is_integer, literal_type, all_of}
use Rattle.df_ntyping.specs.Table.{type_of}
use Rattle.df_ntyping.specs.Environment.{Environment}
use Rattle.df_ntyping.specs.ExprTypes.{counted_of, wanted_first, wanted_behind, expected_inside}
use Rattle.df_ntyping.specs.Literals.{is_in_range, AreInRange}
use Rattle.df_ntyping.specs.ExprElaboration.{Part, ConvertsBy, Converts, AreCasts, addends_of, factors_of, members_of, links_of, comparison_of, turned, compares, IsRun, IsLeading, Elaborates, AreOperands}
use Rattle.df_ntyping.specs.Laws.{NewtypesHold, LocalsHold, TypedIsWellTyped}
use Rattle.df_ntyping.proofs.Complete.{same_self}
use Rattle.df_ntyping.proofs.Types.{counted_integer}
use Rattle.df_ntyping.proofs.WellTyped.{Valid, own_valid, owns_valid, valid_at, known_valid, expected_valid, same_equal, counted_type, arithmetic_of, counted_converts, casts_of, none_valid, counted_valid, type_valid, inside_valid, wanted_valid, behind_valid}

-- ---- ranges

pub all_left : (xs ys : List Piece) → AreInRange (xs ++ ys) → AreInRange xs
all_left [] ys h = refl
all_left (x ∷ xs) ys h = let parts = and_parts (is_in_range x) (list_all is_in_range (xs ++ ys)) h in rw (parts.0) (all_left xs ys parts.1)

pub all_right : (xs ys : List Piece) → AreInRange (xs ++ ys) → AreInRange ys
all_right [] ys h = h
all_right (x ∷ xs) ys h = let parts = and_parts (is_in_range x) (list_all is_in_range (xs ++ ys)) h in all_right xs ys parts.1

-- ---- conversions

converted_by : (program : Program) (locals : List Ty) (b : Bool) (source target : Ty) (e : Expr) (inner t : typed.Expr) → same_type source target ≡ b → ConvertsBy b source target e inner t
    → is_expr program locals source inner ≡ true → (same_type source target ≡ false → converts source target ≡ true) → is_expr program locals target t ≡ true
converted_by program locals true source target e inner t p h good c = rw h (subst (λ (ty : Ty). is_expr program locals ty inner ≡ true) (same_equal source target p) good)
converted_by program locals false source target e inner t p (at, found, q) good c = rw (q, same_self target, c p, good) refl

pub converted : (program : Program) (locals : List Ty) (source target : Ty) (e : Expr) (inner t : typed.Expr) → Converts source target e inner t
    → is_expr program locals source inner ≡ true → (same_type source target ≡ false → converts source target ≡ true) → is_expr program locals target t ≡ true
converted program locals source target e inner t h good c = converted_by program locals (same_type source target) source target e inner t refl h good c

-- an operand of the type that it counts as
operand_good : (program : Program) (locals : List Ty) (source of : Ty) (e : Expr) (inner t : typed.Expr) → counted source ≡ of → Converts source of e inner t → is_expr program locals source inner ≡ true → is_expr program locals of t ≡ true
operand_good program locals source of e inner t p h good =
    converted program locals source of e inner t h good (λ q. subst (λ (ty : Ty). converts source ty ≡ true) p (counted_converts source (subst (λ (ty : Ty). same_type source ty ≡ false) (sym p) q)))

-- ---- runs

AllParts : Program → List Ty → Ty → List Part → Type 0
AllParts program locals of [] = Unit {0}
AllParts program locals of (part ∷ parts) = (is_expr program locals of part.operand ≡ true) × AllParts program locals of parts

-- the operators are those of the source
Operators : Members → List Part → Type 0
Operators end parts = parts ≡ []
Operators (more operator pos operand rest) [] = ⊥
Operators (more operator pos operand rest) (part ∷ parts) = (part.operator ≡ operator) × Operators rest parts

addends_good : (program : Program) (locals : List Ty) (of : Ty) (parts : List Part) → AllParts program locals of parts → are_addends program locals of (addends_of parts) ≡ true
unfolding AllParts
addends_good program locals of [] h = refl
addends_good program locals of (part ∷ parts) h = rw (h.0, addends_good program locals of parts h.1) refl

factors_good : (program : Program) (locals : List Ty) (of : Ty) (parts : List Part) → AllParts program locals of parts → are_factors program locals of (factors_of parts) ≡ true
unfolding AllParts
factors_good program locals of [] h = refl
factors_good program locals of (part ∷ parts) h = rw (h.0, factors_good program locals of parts h.1) refl

members_good : (program : Program) (locals : List Ty) (parts : List Part) → AllParts program locals types.Bool parts → are_members program locals (members_of parts) ≡ true
unfolding AllParts
members_good program locals [] h = refl
members_good program locals (part ∷ parts) h = rw (h.0, members_good program locals parts h.1) refl

ordered_good : (program : Program) (of : Ty) → is_type program of ≡ true → (is_integer of || same_type of types.Char) ≡ true → (of ≡ types.Char → ⊥) → lang.is_integer program of ≡ true
ordered_good program (types.Newtype id) p q r = p
ordered_good program types.Int p q r = refl
ordered_good program types.Nat p q r = refl
ordered_good program types.Bool p q r = absurd cc
ordered_good program types.Char p q r = absurd (r refl)

compares_good : (program : Program) (of : Ty) (operator : BinaryOperator) → is_type program of ≡ true → compares of operator ≡ true → lang.compares program of (comparison_of operator) ≡ true
compares_good program types.Char binary.Less p q = refl
compares_good program (types.Newtype id) binary.Less p q = p
compares_good program types.Int binary.Less p q = refl
compares_good program types.Nat binary.Less p q = refl
compares_good program types.Bool binary.Less p q = absurd cc
compares_good program types.Char binary.AtMost p q = refl
compares_good program (types.Newtype id) binary.AtMost p q = p
compares_good program types.Int binary.AtMost p q = refl
compares_good program types.Nat binary.AtMost p q = refl
compares_good program types.Bool binary.AtMost p q = absurd cc
compares_good program types.Char binary.Greater p q = refl
compares_good program (types.Newtype id) binary.Greater p q = p
compares_good program types.Int binary.Greater p q = refl
compares_good program types.Nat binary.Greater p q = refl
compares_good program types.Bool binary.Greater p q = absurd cc
compares_good program types.Char binary.AtLeast p q = refl
compares_good program (types.Newtype id) binary.AtLeast p q = p
compares_good program types.Int binary.AtLeast p q = refl
compares_good program types.Nat binary.AtLeast p q = refl
compares_good program types.Bool binary.AtLeast p q = absurd cc
compares_good program (types.Newtype id) operator p q = p
compares_good program types.Int operator p q = refl
compares_good program types.Nat operator p q = refl
compares_good program types.Bool operator p q = refl
compares_good program types.Char operator p q = refl

links_good : (program : Program) (locals : List Ty) (of : Ty) (rest : Members) (parts : List Part) → is_type program of ≡ true → all_of (compares of) rest ≡ true → Operators rest parts → AllParts program locals of parts
    → are_links program locals of (links_of parts) ≡ true
unfolding AllParts Operators
links_good program locals of end [] v c o h = refl
links_good program locals of end (part ∷ parts) v c o h = absurd cc
links_good program locals of (more operator pos operand rest) [] v c o h = absurd o
links_good program locals of (more operator pos operand rest) (part ∷ parts) v c o h =
    let both = and_parts (compares of operator) (all_of (compares of) rest) c in
    rw (o.0, compares_good program of operator v both.0, h.0, links_good program locals of rest parts v both.1 o.1 h.1) refl

turned_good : (program : Program) (locals : List Ty) (first : typed.Expr) (done : typed.Members) (parts : List Part) → is_expr program locals types.Bool first ≡ true → are_members program locals done ≡ true → AllParts program locals types.Bool parts
    → is_expr program locals types.Bool (turned first done parts) ≡ true
unfolding AllParts
turned_good program locals first done [] f d h = rw (f, d) refl
turned_good program locals first done (part ∷ parts) f d h = turned_good program locals part.operand (typed.member part.pos first done) parts h.0 (rw (f, d) refl) h.1

Good : Program → List Ty → Ty → typed.Expr → Type 0
Good program locals ty t = (is_expr program locals ty t ≡ true) × (is_type program ty ≡ true)

truths : (program : Program) (locals : List Ty) (of : Ty) (first : typed.Expr) (parts : List Part) → of ≡ types.Bool → is_expr program locals of first ≡ true → AllParts program locals of parts
    → (is_expr program locals types.Bool first ≡ true) × AllParts program locals types.Bool parts
truths program locals of first parts p f h = (subst (λ (ty : Ty). is_expr program locals ty first ≡ true) p f, subst (λ (ty : Ty). AllParts program locals ty parts) p h)

run_good : (program : Program) (locals : List Ty) (group : Option Group) (rest : Members) (source of : Ty) (first : typed.Expr) (parts : List Part) (ty : Ty) (t : typed.Expr)
    → counted source ≡ of → is_type program source ≡ true → is_expr program locals of first ≡ true → AllParts program locals of parts → Operators rest parts → IsRun group rest of first parts ty t → Good program locals ty t
unfolding Good
run_good program locals None rest source of first parts ty t c v f h o run = absurd run
run_good program locals (Some groups.Sum) rest source of first parts ty t c v f h o (integer, p, q) =
    let sum = subst (λ (u : Ty). lang.is_arithmetic program u ≡ true) c (arithmetic_of program source v (subst (λ (u : Ty). is_integer u ≡ true) (sym c) integer)) in
    (rw (q, p, same_self of, sum, f, addends_good program locals of parts h) refl, rw p (subst (λ (u : Ty). is_type program u ≡ true) c (counted_type program source v)))
run_good program locals (Some groups.Product) rest source of first parts ty t c v f h o (integer, p, q) =
    let sum = subst (λ (u : Ty). lang.is_arithmetic program u ≡ true) c (arithmetic_of program source v (subst (λ (u : Ty). is_integer u ≡ true) (sym c) integer)) in
    (rw (q, p, same_self of, sum, f, factors_good program locals of parts h) refl, rw p (subst (λ (u : Ty). is_type program u ≡ true) c (counted_type program source v)))
run_good program locals (Some groups.Comparison) rest source of first parts ty t c v f h o (all, d, p, q) =
    let valid = subst (λ (u : Ty). is_type program u ≡ true) c (counted_type program source v) in
    (rw (q, p, f, links_good program locals of rest parts valid all o h) refl, rw p refl)
run_good program locals (Some groups.Conjunction) rest source of first parts ty t c v f h o (b, p, q) =
    let both = truths program locals of first parts b f h in (rw (q, p, both.0, members_good program locals parts both.1) refl, rw p refl)
run_good program locals (Some groups.Disjunction) rest source of first parts ty t c v f h o (b, p, q) =
    let both = truths program locals of first parts b f h in (rw (q, p, both.0, members_good program locals parts both.1) refl, rw p refl)
run_good program locals (Some groups.Implication) rest source of first parts ty t c v f h o (b, p, q) =
    let both = truths program locals of first parts b f h in (rw (q, p, both.0, members_good program locals parts both.1) refl, rw p refl)
run_good program locals (Some groups.Explication) rest source of first parts ty t c v f h o (b, p, q) =
    let both = truths program locals of first parts b f h in (rw (q, p) (turned_good program locals first typed.no_member parts both.0 refl both.1), rw p refl)
run_good program locals (Some groups.Equivalence) rest source of first parts ty t c v f h o (b, p, q) =
    let both = truths program locals of first parts b f h in (rw (q, p, both.0, members_good program locals parts both.1) refl, rw p refl)

leading_good : (program : Program) (locals : List Ty) (group : Option Group) (first : typed.Expr) (parts : List Part) (ty : Ty) (t : typed.Expr)
    → ty ≡ types.Bool → is_expr program locals types.Bool first ≡ true → AllParts program locals types.Bool parts → IsLeading group first parts t → Good program locals ty t
unfolding Good
leading_good program locals None first parts ty t p f h run = absurd run
leading_good program locals (Some groups.Conjunction) first parts ty t p f h run = (rw (run, p, f, members_good program locals parts h) refl, rw p refl)
leading_good program locals (Some groups.Disjunction) first parts ty t p f h run = (rw (run, p, f, members_good program locals parts h) refl, rw p refl)
leading_good program locals (Some group) first parts ty t p f h run = absurd run

-- ---- literals, `as`

integer_valid : (program : Program) (ty : Ty) → lang.is_integer program ty ≡ true → is_type program ty ≡ true
integer_valid program (types.Newtype id) p = p
integer_valid program types.Int p = refl
integer_valid program types.Nat p = refl
integer_valid program types.Bool p = absurd cc
integer_valid program types.Char p = absurd cc

expected_good : (program : Program) (ty : Ty) → is_type program ty ≡ true → lang.is_integer program (literal_type (Some ty)) ≡ true
expected_good program (types.Newtype id) p = p
expected_good program types.Int p = refl
expected_good program types.Nat p = refl
expected_good program types.Bool p = refl
expected_good program types.Char p = refl

literal_good : (program : Program) (expected : Option Ty) → Valid program expected → lang.is_integer program (literal_type expected) ≡ true
literal_good program None h = refl
literal_good program (Some ty) h = expected_good program ty (valid_at program ty h)

casts_good : (program : Program) (env : Environment) (locals : List Ty) (at : Pos) (source : Ty) (inner : typed.Expr) (all : List TreeType) (ty : Ty) (t : typed.Expr) → NewtypesHold program env
    → is_expr program locals source inner ≡ true → is_type program source ≡ true → AreCasts env at source inner all ty t → Good program locals ty t
unfolding Good
casts_good program env locals at source inner [] ty t n h v (p, q) = (rw (q, p) h, rw p v)
casts_good program env locals at source inner (tree ∷ others) ty t n h v (target, known, c, rest) =
    let valid = known_valid program target (type_of env.table.newtypes tree) (type_valid program env tree n) known in
    casts_good program env locals at target (typed.As source target at inner) others ty t n (rw (same_self target, casts_of program source target v valid c, h) refl) valid rest

-- ---- expressions

mutual
  unfolding Good AllParts Operators

  typed_good : (program : Program) (env : Environment) (locals : List Ty) → NewtypesHold program env → LocalsHold program env locals → (expected : Option Ty) (e : Expr) (ty : Ty) (t : typed.Expr)
      → Valid program expected → AreInRange (spell e) → Elaborates env expected e ty t → Good program locals ty t
  typed_good program env locals n l expected (Number literal) ty t v r (p, q) =
      let good = literal_good program expected v in
      (rw (q, p, same_self (literal_type expected), good) refl, rw p (integer_valid program (literal_type expected) good))
  typed_good program env locals n l expected (Character code pos) ty t v r (p, q) = (rw (q, p, (and_parts (nat_lt code 128) true r).0) refl, rw p refl)
  typed_good program env locals n l expected (Truth value pos) ty t v r (p, q) = (rw (q, p) refl, rw p refl)
  typed_good program env locals n l expected (Name ident) ty t v r (local, means, known, q) =
      let found = l ident.name local ty means known in
      (rw (q, found.0, same_self ty) refl, found.1)
  typed_good program env locals n l expected (Parentheses pos inner) ty t v r h = typed_good program env locals n l expected inner ty t v (all_left (spell inner) _ r) h
  typed_good program env locals n l expected (Call callee arguments) ty t v r h = absurd h
  typed_good program env locals n l expected (Unary unary.Negate pos operand) ty t v r (source, inner, one, h, integer, conversion, p, q) =
      let good = typed_good program env locals n l (counted_of expected) operand source inner (counted_valid program expected v) r h in (
        rw (q, p, same_self (counted source), arithmetic_of program source good.1 (counted_integer source ∙ integer), operand_good program locals source (counted source) operand inner one refl conversion good.0) refl,
        rw p (counted_type program source good.1),
      )
  typed_good program env locals n l expected (Unary unary.Not pos operand) ty t v r (inner, h, p, q) =
      let good = typed_good program env locals n l None operand types.Bool inner (none_valid program) r h in (rw (q, p, good.0) refl, rw p refl)
  typed_good program env locals n l expected (Cast operand all) ty t v r (source, inner, at, h, begins, cast) =
      let good = typed_good program env locals n l None operand source inner (none_valid program) (all_left (spell operand) _ r) h in
      casts_good program env locals at source inner all ty t n good.0 good.1 cast
  typed_good program env locals n l expected (Operations first rest) ty t v r (of, source, inner, one, parts, h, counts, conversion, operands, run) =
      let inside = inside_valid program (first_group rest) expected v in
      let own = own_valid program env locals n l (wanted_first env (expected_inside (first_group rest) expected) first rest) first source inner h in
      let owns = owns_valid program env locals n l (wanted_behind env (wanted_first env (expected_inside (first_group rest) expected) first rest) first) of rest parts operands in
      let wanted = wanted_valid program env (expected_inside (first_group rest) expected) first rest inside own owns in
      let good = typed_good program env locals n l (wanted_first env (expected_inside (first_group rest) expected) first rest) first source inner wanted (all_left (spell first) (spell_members rest) r) h in
      let others = parts_good program env locals n l (wanted_behind env (wanted_first env (expected_inside (first_group rest) expected) first rest) first) of rest parts
      (behind_valid program env (wanted_first env (expected_inside (first_group rest) expected) first rest) first wanted own) (all_right (spell first) (spell_members rest) r) operands in
      run_good program locals (first_group rest) rest source of one parts ty t counts good.1 (operand_good program locals source of first inner one counts conversion good.0) others.0 others.1 run
  typed_good program env locals n l expected (Leading end) ty t v r h = absurd h
  typed_good program env locals n l expected (Leading (more operator pos operand rest)) ty t v r (one, parts, h, operands, p, leading) =
      let good = typed_good program env locals n l None operand types.Bool one (none_valid program) (all_left (spell operand) (spell_members rest) r) h in
      let others = parts_good program env locals n l None types.Bool rest parts (none_valid program) (all_right (spell operand) (spell_members rest) r) operands in
      leading_good program locals (first_group (more operator pos operand rest)) one parts ty t p good.0 others.0 leading

  parts_good : (program : Program) (env : Environment) (locals : List Ty) → NewtypesHold program env → LocalsHold program env locals → (wanted : Option Ty) (of : Ty) (rest : Members) (parts : List Part)
      → Valid program wanted → AreInRange (spell_members rest) → AreOperands env wanted of rest parts → AllParts program locals of parts × Operators rest parts
  parts_good program env locals n l wanted of end parts v r h = (subst (λ (xs : List Part). AllParts program locals of xs) (sym h) tt, h)
  parts_good program env locals n l wanted of (more operator pos operand rest) parts v r (source, inner, one, others, h, counts, conversion, operands, q) =
      let good = typed_good program env locals n l wanted operand source inner v (all_left (spell operand) (spell_members rest) r) h in
      let more_good = parts_good program env locals n l (wanted_behind env wanted operand) of rest others (behind_valid program env wanted operand v (own_valid program env locals n l wanted operand source inner h)) (all_right (spell operand) (spell_members rest) r) operands in
      let all : List Part = record { operator = operator; pos = pos; operand = one } ∷ others in
      let this : AllParts program locals of all × Operators (more operator pos operand rest) all = ((operand_good program locals source of operand inner one counts conversion good.0, more_good.0), (refl, more_good.1)) in
      subst (λ (xs : List Part). AllParts program locals of xs × Operators (more operator pos operand rest) xs) (sym q) this

pub typed_is_well_typed : TypedIsWellTyped
unfolding Good
typed_is_well_typed program env locals expected e ty t n l v r h = (typed_good program env locals n l expected e ty t (expected_valid program expected v) r h).0
