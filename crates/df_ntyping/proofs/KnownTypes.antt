-- The types that an environment knows are the program's, where those of its table and of its locals are.
use Rattle.std.proofs.Common.{◌≡◌, ℕ, zero, suc, true, List, [], ◌∷◌, ◌++◌, length, Option, Some, None, refl, sym, ap, subst}
use Rattle.std.proofs.lemmas.List.{length-map}
use Rattle.std.specs.Prelude.{if◌then◌else◌, map, slice_get, is_some, option_map}
use Rattle.std.specs.List.{AllByRecursion, list_all}
use Rattle.std.proofs.lemmas.Bool.{and_parts}
use Rattle.std.proofs.lemmas.Option.{same_Some}
use Rattle.df_lang.specs.declared.ty.Ty.{Ty}
use Rattle.df_lang.specs.declared.ty.Ty.TheVariants as types
use Rattle.df_lang.specs.Typing.{is_type}
use Rattle.df_lang.specs.Program.{Method, Program, newtype_at, method_at, types_of}
use Rattle.df_ntree.specs.declared.expr.UnaryOperator.TheVariants as unary
use Rattle.df_ntree.specs.Expr.{Expr, Number, Character, Truth, Name, Parentheses, Call, Unary, Cast, Operations, Leading, Members, end, more}
use Rattle.df_ntree.specs.ExprSpelling.{first_group}
use Rattle.df_ntyping.specs.Table.{Signature, NamedMethod, Table, newtype_of, method_of}
use Rattle.df_ntyping.specs.Environment.{Local, Inferred, Environment, locals_of, fixed_type}
use Rattle.df_ntyping.specs.Meaning.{Meaning, TheLocal, TheMethod, last_local, method_meaning, meaning_of, as_method, called_signature}
use Rattle.df_ntyping.specs.ExprTypes.{is_arithmetic, is_open, open_type, type_of_meaning, type_of_call, common_type, own_type, own_types, type_in}
use Rattle.df_ntyping.proofs.WellTyped.{Valid, AllValid, some_valid, none_valid, if_valid, arithmetic_valid, common_valid, last_valid, part_valid}

abbrev pub known : List Ty → List (Option Ty)
known all = map (λ (ty : Ty). Some ty) all

pub known_count : (all : List Ty) → length (known all) ≡ length all
known_count all = length-map all (λ (ty : Ty). Some ty)

-- the signature is that of the method, and its types are the program's
pub record IsSignatureOf (program : Program) (method : Method) (signature : Signature) : Type 0 where
  pub parameters : signature.parameters ≡ known (types_of method.parameters)
  pub results : signature.results ≡ known (types_of method.results)
  pub valid_parameters : list_all (is_type program) (types_of method.parameters) ≡ true
  pub valid_results : list_all (is_type program) (types_of method.results) ≡ true

-- what the table names stands in the program
pub record TableHolds (program : Program) (table : Table) : Type 0 where
  pub newtypes : (name id : ℕ) → newtype_of table.newtypes name ≡ Some id → is_some (newtype_at program id) ≡ true
  pub methods : (name : ℕ) (named : NamedMethod) → method_of table.methods name ≡ Some named → (method : Method) × (method_at program named.id ≡ Some method) × IsSignatureOf program method named.signature

-- the types that are fixed are the program's
abbrev pub IsKnown : Program → Inferred → Type 0
IsKnown program inferred = Valid program (fixed_type (Some inferred))

pub record AllKnown (program : Program) (all : List Inferred) : Type 0 where
  pub each : AllByRecursion (IsKnown program) all

pub known_at : (program : Program) (all : List Inferred) → AllKnown program all → (k : ℕ) → Valid program (fixed_type (slice_get all k))
known_at program [] h k = none_valid program
known_at program (x ∷ xs) h zero = h.each.0
known_at program (x ∷ xs) h (suc k) = known_at program xs (record { each = h.each.1 }) k

pub all_valid : (program : Program) (all : List Ty) → list_all (is_type program) all ≡ true → AllValid program (known all)
unfolding AllValid
all_valid program [] h = tt
all_valid program (ty ∷ others) h = let parts = and_parts (is_type program ty) (list_all (is_type program) others) h in (some_valid program ty parts.0, all_valid program others parts.1)

-- ---- methods that are called

abbrev pub Meant : Environment → ℕ → ℕ → Signature → Type 0
Meant env name id signature = (named : NamedMethod) × (method_of env.table.methods name ≡ Some named) × (named.id ≡ id) × (named.signature ≡ signature)

id_or : ℕ → Option Meaning → ℕ
id_or n (Some (TheMethod id signature)) = id
id_or n meaning = n

signature_or : Signature → Option Meaning → Signature
signature_or s (Some (TheMethod id signature)) = signature
signature_or s meaning = s

-- a method's name is in the table
pub meant : (env : Environment) (name id : ℕ) (signature : Signature) → meaning_of env name ≡ Some (TheMethod id signature) → Meant env name id signature
unfolding id_or signature_or
meant env name id signature h = by_local (last_local (locals_of env) name) refl where
  by_method : (o : Option NamedMethod) → method_of env.table.methods name ≡ o → method_meaning o ≡ Some (TheMethod id signature) → Meant env name id signature
  by_method (Some named) p q = (named, p, ap (id_or id) q, ap (signature_or signature) q)
  by_method None p q = absurd cc

  by_local : (o : Option Local) → last_local (locals_of env) name ≡ o → Meant env name id signature
  by_local (Some local) p = absurd (let q : Some (TheLocal local) ≡ Some (TheMethod id signature) = rw (p, meaning_of) at h in cc)
  by_local None p = by_method (method_of env.table.methods name) refl (rw (p, meaning_of) at h)

-- and its signature is that of a method of the program
pub called_method : (program : Program) (env : Environment) (name id : ℕ) (signature : Signature) → TableHolds program env.table → meaning_of env name ≡ Some (TheMethod id signature)
    → (method : Method) × (method_at program id ≡ Some method) × IsSignatureOf program method signature
called_method program env name id signature t h =
    let (named, p, q, r) = meant env name id signature h in
    let (method, found, same) = t.methods name named p in
    (method, subst (λ (n : ℕ). method_at program n ≡ Some method) q found, subst (λ (s : Signature). IsSignatureOf program method s) r same)

results_valid : (program : Program) (method : Method) (signature : Signature) → IsSignatureOf program method signature → AllValid program signature.results
results_valid program method signature h = subst (λ (all : List (Option Ty)). AllValid program all) (sym h.results) (all_valid program (types_of method.results) h.valid_results)

pub called_valid : (program : Program) (env : Environment) (callee : Expr) (signature : Signature) → TableHolds program env.table → called_signature env callee ≡ Some signature → AllValid program signature.results
called_valid program env (Name ident) signature t h = by_meaning (meaning_of env ident.name) refl h where
  by_meaning : (o : Option Meaning) → meaning_of env ident.name ≡ o → option_map (λ (callee : ℕ × Signature). callee.1) (as_method o) ≡ Some signature → AllValid program signature.results
  by_meaning (Some (TheMethod id other)) p q =
      let (method, found, same) = called_method program env ident.name id other t p in
      subst (λ (s : Signature). AllValid program s.results) (same_Some other signature q) (results_valid program method other same)
  by_meaning (Some (TheLocal local)) p q = absurd cc
  by_meaning None p q = absurd cc
called_valid program env callee signature t h = absurd cc

-- ---- types of expressions

meaning_known : (program : Program) (env : Environment) → AllKnown program env.types → (meaning : Option Meaning) → Valid program (type_of_meaning env meaning)
meaning_known program env k None = none_valid program
meaning_known program env k (Some (TheMethod id signature)) = none_valid program
meaning_known program env k (Some (TheLocal local)) = known_at program env.types k local.number

call_known : (program : Program) (called : Option Signature) → ((signature : Signature) → called ≡ Some signature → AllValid program signature.results) → Valid program (type_of_call called)
unfolding AllValid
call_known program None h = none_valid program
call_known program (Some signature) h = only_known signature.results (h signature refl) where
  only_known : (results : List (Option Ty)) → AllValid program results → Valid program (type_of_call (Some (record { parameters = signature.parameters; results = results })))
  only_known [] all = none_valid program
  only_known (ty ∷ []) all = all.0
  only_known (ty ∷ other ∷ others) all = none_valid program

mutual
  unfolding AllValid

  own_known : (program : Program) (env : Environment) → TableHolds program env.table → AllKnown program env.types → (e : Expr) → Valid program (own_type env e)
  own_known program env t k (Number literal) = none_valid program
  own_known program env t k (Character code at) = some_valid program types.Char refl
  own_known program env t k (Truth value at) = some_valid program types.Bool refl
  own_known program env t k (Name ident) = meaning_known program env k (meaning_of env ident.name)
  own_known program env t k (Parentheses at inner) = own_known program env t k inner
  own_known program env t k (Call callee arguments) = call_known program (called_signature env callee) (λ signature p. called_valid program env callee signature t p)
  own_known program env t k (Unary unary.Negate at operand) = arithmetic_valid program (own_type env operand) (own_type env operand) (own_known program env t k operand)
  own_known program env t k (Unary unary.Not at operand) = some_valid program types.Bool refl
  own_known program env t k (Cast operand all) = last_valid program env all t.newtypes
  own_known program env t k (Operations first rest) =
      if_valid program (is_arithmetic (first_group rest)) (common_type ((if is_open first then [] else own_type env first ∷ []) ++ own_types env rest)) (Some types.Bool)
      (common_valid program ((if is_open first then [] else own_type env first ∷ []) ++ own_types env rest)
      (part_valid program (is_open first) (own_type env first) (own_types env rest) (own_known program env t k first) (owns_known program env t k rest)))
      (some_valid program types.Bool refl)
  own_known program env t k (Leading operations) = some_valid program types.Bool refl

  owns_known : (program : Program) (env : Environment) → TableHolds program env.table → AllKnown program env.types → (rest : Members) → AllValid program (own_types env rest)
  owns_known program env t k end = tt
  owns_known program env t k (more operator at operand rest) =
      part_valid program (is_open operand) (own_type env operand) (own_types env rest) (own_known program env t k operand) (owns_known program env t k rest)

-- where nothing is expected literals are of `int`
open_known : (program : Program) (e : Expr) → is_type program (open_type None e) ≡ true
open_known program (Number literal) = refl
open_known program (Parentheses at inner) = open_known program inner
open_known program e = refl

pub type_known : (program : Program) (env : Environment) (e : Expr) → TableHolds program env.table → AllKnown program env.types → Valid program (type_in env None e)
type_known program env e t k = if_valid program (is_open e) (Some (open_type None e)) (own_type env e) (some_valid program (open_type None e) (open_known program e)) (own_known program env t k e)
