-- What fixes the types of locals: where no type is missing, names that are used leave none missing, and a name that was
-- used is open no more.
use Rattle.std.proofs.Common.{◌≡◌, ℕ, zero, suc, List, [], ◌∷◌, ◌++◌, length, Option, Some, None, refl, ap, ◌∙◌, arith, ◌⊎◌, inl, inr}
use Rattle.std.specs.Prelude.{Contains, slice_get}
use Rattle.std.specs.List.{AllByRecursion}
use Rattle.std.proofs.lemmas.Option.{same_Some}
use Rattle.std.proofs.lemmas.List.Elements.{Contains-append_cases}
use Rattle.df_lemmas.proofs.Alls.{all_joined}
use Rattle.df_lang.specs.declared.ty.Ty.{Ty}
use Rattle.df_ntree.specs.Expr.{Expr, Name}
use Rattle.df_ntyping.specs.Environment.{Local, Inferred, Open, Used, Fixed, Environment}
use Rattle.df_ntyping.specs.Meaning.{Meaning, TheLocal, TheMethod, meaning_of}
use Rattle.df_ntyping.specs.LocalTypes.{if_open, at_number, fix_meaning, used_names, next_type, other_types, taken, taken_all}
use Rattle.df_ntyping.proofs.KnownTypes.{known}
use Rattle.df_ntyping.proofs.KeptTypes.{names_kept}

-- a type that is fixed is known
abbrev pub IsWhole : Inferred → Type 0
IsWhole Open = Unit {0}
IsWhole Used = Unit {0}
IsWhole (Fixed (Some ty)) = Unit {0}
IsWhole (Fixed None) = ⊥

pub record AreWhole (all : List Inferred) : Type 0 where
  pub each : AllByRecursion IsWhole all

pub no_type : AreWhole []
no_type = record { each = tt }

pub one_type : {one : Inferred} {others : List Inferred} → IsWhole one → AreWhole others → AreWhole (one ∷ others)
one_type h k = record { each = (h, k.each) }

pub whole_joined : {xs ys : List Inferred} → AreWhole xs → AreWhole ys → AreWhole (xs ++ ys)
whole_joined {xs} {ys} h k = record { each = all_joined IsWhole xs ys h.each k.each }

pub whole_at : (all : List Inferred) (k : ℕ) (one : Inferred) → AreWhole all → slice_get all k ≡ Some one → IsWhole one
whole_at [] k one h p = absurd cc
whole_at (x ∷ xs) zero one h p = let same : x ≡ one = same_Some x one p in rw (← same) h.each.0
whole_at (x ∷ xs) (suc k) one h p = whole_at xs k one (record { each = h.each.1 }) p

open_whole : (one fixing : Inferred) → IsWhole one → IsWhole fixing → IsWhole (if_open (Some one) fixing)
open_whole Open fixing h k = k
open_whole Used fixing h k = h
open_whole (Fixed ty) fixing h k = h

number_whole : (number : ℕ) (fixing : Inferred) (all : List Inferred) → IsWhole fixing → AreWhole all → AreWhole (at_number number fixing all)
number_whole number fixing [] h k = k
number_whole zero fixing (one ∷ others) h k = one_type (open_whole one fixing k.each.0 h) (record { each = k.each.1 })
number_whole (suc number) fixing (one ∷ others) h k = one_type k.each.0 (number_whole number fixing others h (record { each = k.each.1 }))

meaning_whole : (meaning : Option Meaning) (fixing : Inferred) (all : List Inferred) → IsWhole fixing → AreWhole all → AreWhole (fix_meaning meaning fixing all)
meaning_whole (Some (TheLocal local)) fixing all h k = number_whole local.number fixing all h k
meaning_whole (Some (TheMethod id signature)) fixing all h k = k
meaning_whole None fixing all h k = k

pub names_whole : (env : Environment) (names : List ℕ) (all : List Inferred) → AreWhole all → AreWhole (used_names env names all)
names_whole env [] all k = k
names_whole env (name ∷ others) all k = names_whole env others (fix_meaning (meaning_of env name) Used all) (meaning_whole (meaning_of env name) Used all tt k)

taken_whole : (env : Environment) (e : Expr) (ty : Ty) (all : List Inferred) → AreWhole all → AreWhole (taken env e (Some ty) all)
taken_whole env (Name ident) ty all k = meaning_whole (meaning_of env ident.name) (Fixed (Some ty)) all tt k
taken_whole env e ty all k = k

pub takens_whole : (env : Environment) (targets : List Expr) (tys : List Ty) (all : List Inferred) → length tys ≡ length targets → AreWhole all → AreWhole (taken_all env targets (known tys) all)
takens_whole env [] tys all p k = k
takens_whole env (target ∷ others) [] all p k = absurd (omega (arith, p))
takens_whole env (target ∷ others) (ty ∷ tys) all p k = takens_whole env others tys (taken env target (Some ty) all) (omega (arith, p)) (taken_whole env target ty all k)

-- ---- lengths

number_length : (number : ℕ) (fixing : Inferred) (all : List Inferred) → length (at_number number fixing all) ≡ length all
number_length number fixing [] = refl
number_length zero fixing (one ∷ others) = refl
number_length (suc number) fixing (one ∷ others) = ap suc (number_length number fixing others)

meaning_length : (meaning : Option Meaning) (fixing : Inferred) (all : List Inferred) → length (fix_meaning meaning fixing all) ≡ length all
meaning_length (Some (TheLocal local)) fixing all = number_length local.number fixing all
meaning_length (Some (TheMethod id signature)) fixing all = refl
meaning_length None fixing all = refl

pub names_length : (env : Environment) (names : List ℕ) (all : List Inferred) → length (used_names env names all) ≡ length all
names_length env [] all = refl
names_length env (name ∷ others) all = names_length env others (fix_meaning (meaning_of env name) Used all) ∙ meaning_length (meaning_of env name) Used all

taken_length : (env : Environment) (e : Expr) (ty : Option Ty) (all : List Inferred) → length (taken env e ty all) ≡ length all
taken_length env (Name ident) ty all = meaning_length (meaning_of env ident.name) (Fixed ty) all
taken_length env e ty all = refl

pub takens_length : (env : Environment) (targets : List Expr) (values : List (Option Ty)) (all : List Inferred) → length (taken_all env targets values all) ≡ length all
takens_length env [] values all = refl
takens_length env (target ∷ others) values all = takens_length env others (other_types values) (taken env target (next_type values) all) ∙ taken_length env target (next_type values) all

-- ---- a name that is used

if_open_used : (one : Inferred) → one ≡ Open → if_open (Some one) Used ≡ Used
if_open_used Open p = refl
if_open_used Used p = refl
if_open_used (Fixed ty) p = absurd cc

-- an open local is marked
number_used : (number : ℕ) (all : List Inferred) → slice_get all number ≡ Some Open → slice_get (at_number number Used all) number ≡ Some Used
number_used number [] p = absurd cc
number_used zero (one ∷ others) p = ap (λ (x : Inferred). Some x) (if_open_used one (same_Some one Open p))
number_used (suc number) (one ∷ others) p = number_used number others p

is_used : Inferred → ℕ
is_used Used = 1
is_used one = 0

pub used_is_not_open : Used ≡ Open → ⊥
unfolding is_used
used_is_not_open p = let q : 1 ≡ 0 = ap is_used p in omega (arith, q)

-- another mark leaves it open, or marks it
number_marks : (number k : ℕ) (all : List Inferred) → slice_get all k ≡ Some Open → (slice_get (at_number number Used all) k ≡ Some Open) ⊎ (slice_get (at_number number Used all) k ≡ Some Used)
number_marks number k [] p = absurd cc
number_marks zero zero (one ∷ others) p = inr (ap (λ (x : Inferred). Some x) (if_open_used one (same_Some one Open p)))
number_marks zero (suc k) (one ∷ others) p = inl p
number_marks (suc number) zero (one ∷ others) p = inl p
number_marks (suc number) (suc k) (one ∷ others) p = number_marks number k others p

meaning_marks : (meaning : Option Meaning) (k : ℕ) (all : List Inferred) → slice_get all k ≡ Some Open → (slice_get (fix_meaning meaning Used all) k ≡ Some Open) ⊎ (slice_get (fix_meaning meaning Used all) k ≡ Some Used)
meaning_marks (Some (TheLocal local)) k all p = number_marks local.number k all p
meaning_marks (Some (TheMethod id signature)) k all p = inl p
meaning_marks None k all p = inl p

-- a name that is used is marked where it was open
pub marked : (env : Environment) (names : List ℕ) (all : List Inferred) (name : ℕ) (local : Local) → Contains names name → meaning_of env name ≡ Some (TheLocal local) → slice_get all local.number ≡ Some Open
    → slice_get (used_names env names all) local.number ≡ Some Used
marked env [] all name local (k, p, q) means is_open = absurd (omega arith)
marked env (first ∷ others) all name local c means is_open =
    by_place (Contains-append_cases (first ∷ []) others name c) (λ d still. marked env others (fix_meaning (meaning_of env first) Used all) name local d means still) where
      later : slice_get (fix_meaning (meaning_of env first) Used all) local.number ≡ Some Used → slice_get (used_names env others (fix_meaning (meaning_of env first) Used all)) local.number ≡ Some Used
      later p = (names_kept env others (fix_meaning (meaning_of env first) Used all)).keeps local.number Used p used_is_not_open

      only : Contains (first ∷ []) name → first ≡ name
      only (zero, p, q) = q
      only (suc k, p, q) = absurd (omega arith)

      by_mark : (slice_get (fix_meaning (meaning_of env first) Used all) local.number ≡ Some Open) ⊎ (slice_get (fix_meaning (meaning_of env first) Used all) local.number ≡ Some Used)
          → (slice_get (fix_meaning (meaning_of env first) Used all) local.number ≡ Some Open → slice_get (used_names env others (fix_meaning (meaning_of env first) Used all)) local.number ≡ Some Used)
          → slice_get (used_names env others (fix_meaning (meaning_of env first) Used all)) local.number ≡ Some Used
      by_mark (inl p) rest = rest p
      by_mark (inr p) rest = later p

      by_place : Contains (first ∷ []) name ⊎ Contains others name
          → (Contains others name → slice_get (fix_meaning (meaning_of env first) Used all) local.number ≡ Some Open → slice_get (used_names env others (fix_meaning (meaning_of env first) Used all)) local.number ≡ Some Used)
          → slice_get (used_names env others (fix_meaning (meaning_of env first) Used all)) local.number ≡ Some Used
      by_place (inl d) rest = later (rw (only d, means) (number_used local.number all is_open))
      by_place (inr d) rest = by_mark (meaning_marks (meaning_of env first) local.number all is_open) (rest d)
