-- Two environments with the same scopes over the same table: names mean the same, and an expression has one type in both
-- where its locals have.
use Rattle.std.proofs.Common.{◌≡◌, ℕ, suc, ◌+◌, Bool, true, false, List, [], ◌∷◌, ◌++◌, Option, Some, refl, ap, arith}
use Rattle.std.specs.Prelude.{if◌then◌else◌, Contains}
use Rattle.std.proofs.lemmas.List.Elements.{Contains-append_left, Contains-append_right}
use Rattle.df_lang.specs.declared.ty.Ty.{Ty}
use Rattle.df_lang.specs.declared.ty.Ty.TheVariants as types
use Rattle.df_ntree.specs.declared.expr.UnaryOperator.TheVariants as unary
use Rattle.df_ntree.specs.declared.expr.TreeType.{TreeType}
use Rattle.df_ntree.specs.declared.file.Local as declared_local
use Rattle.df_ntree.specs.Expr.{Expr, Number, Character, Truth, Name, Parentheses, Call, Unary, Cast, Operations, Leading, Members, end, more}
use Rattle.df_ntree.specs.ExprSpelling.{first_group}
use Rattle.df_ntree.specs.File.{Statement, Nested, Var, Assign, Expression, If, While, Return, Break, Assert, Print}
use Rattle.df_ntyping.specs.Types.{arithmetic}
use Rattle.df_ntyping.specs.Table.{Table, type_of}
use Rattle.df_ntyping.specs.Environment.{Role, Variable_role, Local, Environment, enter, past, declare, declare_variables, behind, locals_in}
use Rattle.df_ntyping.specs.Meaning.{Meaning, meaning_of, called_signature}
use Rattle.df_ntyping.specs.LocalTypes.{names_in, names_in_members}
use Rattle.df_ntyping.specs.ExprTypes.{is_arithmetic, is_open, common_type, type_of_meaning, type_of_call, last_type, own_type, own_types, type_in}

pub record AreLike (one other : Environment) : Type 0 where
  pub table : one.table ≡ other.table
  pub outer : one.outer ≡ other.outer
  pub inner : one.inner ≡ other.inner
  pub next : one.next ≡ other.next

pub enter_like : {one other : Environment} → AreLike one other → AreLike (enter one) (enter other)
enter_like h = record { table = h.table; outer = λ i. h.outer i ++ h.inner i; inner = refl; next = h.next }

pub past_like : {one other : Environment} (count : ℕ) → AreLike one other → AreLike (past one count) (past other count)
past_like count h = record { table = h.table; outer = h.outer; inner = h.inner; next = λ i. h.next i + count }

declare_like : {one other : Environment} (role : Role) (name : ℕ) → AreLike one other → AreLike (declare one role name) (declare other role name)
declare_like role name h = record {
  table = h.table;
  outer = h.outer;
  inner = λ i. h.inner i ++ record { name = name; number = h.next i; role = role } ∷ [];
  next = λ i. suc (h.next i);
}

variables_like : (one other : Environment) (locals : List declared_local.Local) → AreLike one other → AreLike (declare_variables one locals) (declare_variables other locals)
variables_like one other [] h = h
variables_like one other (local ∷ others) h = variables_like (declare one Variable_role local.name.name) (declare other Variable_role local.name.name) others (declare_like Variable_role local.name.name h)

pub behind_like : (one other : Environment) (s : Statement) → AreLike one other → AreLike (behind one s) (behind other s)
behind_like one other (Var pos locals values) h = variables_like one other locals h
behind_like one other (Nested pos body) h = past_like (locals_in (Nested pos body)) h
behind_like one other (Assign targets values) h = past_like 0 h
behind_like one other (Expression value) h = past_like 0 h
behind_like one other (If pos guard opens body others last) h = past_like (locals_in (If pos guard opens body others last)) h
behind_like one other (While pos guard clauses opens body) h = past_like (locals_in (While pos guard clauses opens body)) h
behind_like one other (Return pos values) h = past_like 0 h
behind_like one other (Break pos) h = past_like 0 h
behind_like one other (Assert pos condition) h = past_like 0 h
behind_like one other (Print pos operands) h = past_like 0 h

-- ---- meanings

abbrev meaning_in : List Local → List Local → Table → ℕ → Option Meaning
meaning_in outer inner table name = meaning_of (record { table = table; outer = outer; inner = inner; next = 0; types = []; results = []; in_loop = false }) name

pub same_meaning : (one other : Environment) (name : ℕ) → AreLike one other → meaning_of one name ≡ meaning_of other name
same_meaning one other name h = λ i. meaning_in (h.outer i) (h.inner i) (h.table i) name

pub same_called : (one other : Environment) (callee : Expr) → AreLike one other → called_signature one callee ≡ called_signature other callee
same_called one other (Name ident) h = rw (same_meaning one other ident.name h) refl
same_called one other callee h = refl

-- ---- types

-- a name that means a local has one type in both
abbrev pub HasOneType : Environment → Environment → ℕ → Type 0
HasOneType one other name = type_of_meaning one (meaning_of one name) ≡ type_of_meaning other (meaning_of other name)

abbrev pub HaveOneType : Environment → Environment → List ℕ → Type 0
HaveOneType one other names = (name : ℕ) → Contains names name → HasOneType one other name

pub left_names : (one other : Environment) (xs ys : List ℕ) → HaveOneType one other (xs ++ ys) → HaveOneType one other xs
left_names one other xs ys h name c = h name (Contains-append_left xs ys name c)

pub right_names : (one other : Environment) (xs ys : List ℕ) → HaveOneType one other (xs ++ ys) → HaveOneType one other ys
right_names one other xs ys h name c = h name (Contains-append_right xs ys name c)

same_last : (one other : Environment) (all : List TreeType) → one.table ≡ other.table → last_type one all ≡ last_type other all
same_last one other [] p = refl
same_last one other (ty ∷ []) p = λ i. type_of (p i).newtypes ty
same_last one other (ty ∷ another ∷ others) p = same_last one other (another ∷ others) p

mutual
  own_same : (one other : Environment) (e : Expr) → AreLike one other → HaveOneType one other (names_in e) → own_type one e ≡ own_type other e
  own_same one other (Number literal) h n = refl
  own_same one other (Character code at) h n = refl
  own_same one other (Truth value at) h n = refl
  own_same one other (Name ident) h n = n ident.name (0, omega arith, refl)
  own_same one other (Parentheses at inner) h n = own_same one other inner h n
  own_same one other (Call callee arguments) h n = ap type_of_call (same_called one other callee h)
  own_same one other (Unary unary.Negate at operand) h n = ap (λ (own : Option Ty). arithmetic own own) (own_same one other operand h n)
  own_same one other (Unary unary.Not at operand) h n = refl
  own_same one other (Cast operand all) h n = same_last one other all h.table
  own_same one other (Operations first rest) h n =
      let p = own_same one other first h (left_names one other (names_in first) (names_in_members rest) n) in
      let q = owns_same one other rest h (right_names one other (names_in first) (names_in_members rest) n) in
      λ i. if is_arithmetic (first_group rest) then common_type ((if is_open first then [] else p i ∷ []) ++ q i) else Some types.Bool
  own_same one other (Leading operations) h n = refl

  owns_same : (one other : Environment) (rest : Members) → AreLike one other → HaveOneType one other (names_in_members rest) → own_types one rest ≡ own_types other rest
  owns_same one other end h n = refl
  owns_same one other (more operator at operand rest) h n =
      let p = own_same one other operand h (left_names one other (names_in operand) (names_in_members rest) n) in
      let q = owns_same one other rest h (right_names one other (names_in operand) (names_in_members rest) n) in
      λ i. (if is_open operand then [] else p i ∷ []) ++ q i

pub type_same : (one other : Environment) (expected : Option Ty) (e : Expr) → AreLike one other → HaveOneType one other (names_in e) → type_in one expected e ≡ type_in other expected e
type_same one other expected e h n = by_open (is_open e) refl where
  by_open : (b : Bool) → is_open e ≡ b → type_in one expected e ≡ type_in other expected e
  by_open true p = rw p refl
  by_open false p = rw p (own_same one other e h n)
