-- The first method that is not definite.
use Rattle.std.proofs.Common.{◌≡◌, ◌≤◌, ◌<◌, ◌+◌, ℕ, zero, suc, ◌⊎◌, inl, inr, Bool, true, false, List, [], ◌∷◌, ◌++◌, map, length, drop, slice_get, get_or, Option, Some, None, Contains, refl, sym, ap, subst, ◌∙◌, arith}
use Rattle.std.specs.Option.{option_and_then, option_map}
use Rattle.std.specs.List.{list_all}
use Rattle.std.proofs.lemmas.Bool.{and_parts}
use Rattle.std.proofs.lemmas.Option.{none-some, same_Some, slice_get_within, slice_get-map, slice_get_read}
use Rattle.std.proofs.lemmas.List.{length-map}
use Rattle.df_base.specs.declared.refusal.Refusal.{Refusal}
use Rattle.df_base.specs.declared.refusal.Stop.{Stop}
use Rattle.df_base.specs.declared.refusal.Stop.TheVariants as stops
use Rattle.df_base.specs.Refusing.{IfRefused}
use Rattle.df_lang.specs.Program.{Method, Decl, NewtypeDecl, MethodDecl, Program, as_method, method_at}
use Rattle.df_lang.specs.declared.decl.Newtype as declared_newtype
use Rattle.df_lang.specs.declared.decl.Method as declared_method
use Rattle.df_lang.specs.declared.decl.Decl as declared_decl
use Rattle.df_lang.specs.declared.decl.Decl.TheVariants as decls
use Rattle.df_lang.specs.declared.program.Program as declared_program
use Rattle.df_lang.specs.DeclView.{method_of, decl_of}
use Rattle.df_lang.specs.View.{program_of}
use Rattle.df_lang.specs.Typing.{is_decl, is_method, is_well_typed}
use Rattle.df_lang.specs.Marks.{has_no_ghost}
use Rattle.df_lang.specs.Assignment.{unassigned_in, IsDefinitelyAssigned}
use Rattle.df_ntyping.specs.Laws.{AssignedOrTold}
use Rattle.df_ntyping.specs.Unassigned.{Missing, uses_missing, IsMissing, comes_before, IsToldMissing, end_number}
use Rattle.df_ntyping.specs.Least.{by_number}
use Rattle.df_ntyping.proofs.LeastExists.{three, by_self, by_greater}
use Rattle.df_nghost.specs.mirror.Uses.{precedes, shown}
use Rattle.df_nghost.specs.mirror.Refusals.{IsTyped, TellsOf}
use Rattle.df_nghost.proofs.Firsts.{none_contained}
use Rattle.df_nghost.proofs.Methods.{method_told}

-- the methods before a number are definite
abbrev pub AreDefinite : Program → ℕ → Type 0
AreDefinite p n = (number : ℕ) (m : Method) → number < n → method_at p number ≡ Some m → unassigned_in m ≡ []

front_none : {A : Type 0} (xs ys : List A) → xs ++ ys ≡ [] → xs ≡ []
front_none [] ys e = refl
front_none (x ∷ xs) ys e = absurd cc

back_none : {A : Type 0} (xs ys : List A) → xs ++ ys ≡ [] → ys ≡ []
back_none [] ys e = e
back_none (x ∷ xs) ys e = absurd cc

uses_none : (m : Method) (end : Bool) → unassigned_in m ≡ [] → uses_missing m end ≡ []
uses_none m false e = front_none (uses_missing m false) (uses_missing m true) e
uses_none m true e = back_none (uses_missing m false) (uses_missing m true) e

-- a method tells of its first use, and those before it of none
pub told_at : (p : Program) (n : ℕ) (m : Method) (refusal : Refusal) → method_at p n ≡ Some m → AreDefinite p n → TellsOf m refusal → IsToldMissing p refusal
told_at p n m refusal at definite tells = record {
  missing = record { method = n; at_end = tells.at_end; of = tells.of };
  least = record { broken = (m, at, tells.there); least = each };
  code = tells.code;
  pos = tells.pos;
  detail = tells.detail;
}
  where
    by_order : (other : Missing) → IsMissing p other → (other.method < n) ⊎ ((other.method ≡ n) ⊎ (n < other.method))
        → by_number other.method n (by_number (end_number other.at_end) (end_number tells.at_end) (precedes (shown other.of) (shown tells.of))) ≡ false
    by_order other (m', there, c) (inl less) = absurd (none_contained (uses_missing m' other.at_end) other.of (uses_none m' other.at_end (definite other.method m' less there)) c)
    by_order other (m', there, c) (inr (inl same)) =
        let one : m' ≡ m = same_Some m' m (sym there ∙ ap (method_at p) same ∙ at) in
        ap (λ (k : ℕ). by_number k n (by_number (end_number other.at_end) (end_number tells.at_end) (precedes (shown other.of) (shown tells.of)))) same
        ∙ by_self n (by_number (end_number other.at_end) (end_number tells.at_end) (precedes (shown other.of) (shown tells.of)))
        ∙ tells.least other.at_end other.of (subst (λ (k : Method). Contains (uses_missing k other.at_end) other.of) one c)
    by_order other (m', there, c) (inr (inr more)) = by_greater other.method n _ more

    each : (other : Missing) → IsMissing p other → comes_before other (record { method = n; at_end = tells.at_end; of = tells.of }) ≡ false
    each other c = by_order other c (three other.method n)

-- ---- one method more

by_order_one : (p : Program) (n : ℕ) → ((m : Method) → method_at p n ≡ Some m → unassigned_in m ≡ []) → AreDefinite p n → AreDefinite p (suc n)
by_order_one p n one all number m less at = by_cases (three number n)
  where
    by_cases : (number < n) ⊎ ((number ≡ n) ⊎ (n < number)) → unassigned_in m ≡ []
    by_cases (inl before) = all number m before at
    by_cases (inr (inl same)) = one m (ap (method_at p) (sym same) ∙ at)
    by_cases (inr (inr more)) = absurd (omega (arith, less, more))

pub one_more : (p : Program) (n : ℕ) (m : Method) → method_at p n ≡ Some m → unassigned_in m ≡ [] → AreDefinite p n → AreDefinite p (suc n)
one_more p n m at none all = by_order_one p n (λ other is. ap unassigned_in (same_Some other m (sym is ∙ at)) ∙ none) all

pub no_method : (p : Program) (n : ℕ) → method_at p n ≡ None → AreDefinite p n → AreDefinite p (suc n)
no_method p n none all = by_order_one p n (λ m is. absurd (none-some m (sym none ∙ is))) all

method_within : (p : Program) (number : ℕ) (m : Method) (o : Option Decl) → slice_get p.decls number ≡ o → option_and_then as_method o ≡ Some m → number < length p.decls
method_within p number m None there e = absurd (none-some m e)
method_within p number m (Some decl) there e = slice_get_within p.decls number decl there

-- behind all declarations
pub all_definite : (p : Program) (n : ℕ) → length p.decls ≤ n → AreDefinite p n → IsDefinitelyAssigned p
all_definite p n long all number m at = all number m (let less = method_within p number m (slice_get p.decls number) refl at in omega (arith, less, long)) at

-- ---- the law

get_here : {A : Type 0} (xs : List A) (n : ℕ) (x : A) (rest : List A) → drop n xs ≡ x ∷ rest → (slice_get xs n ≡ Some x) × (drop (suc n) xs ≡ rest)
get_here [] zero x rest e = absurd cc
get_here [] (suc n) x rest e = absurd cc
get_here (y ∷ xs) zero x rest e = (ap (λ ys. slice_get ys 0) e, ap (λ ys. drop 1 ys) e)
get_here (y ∷ xs) (suc n) x rest e = get_here xs n x rest e

none_here : {A : Type 0} (xs : List A) (n : ℕ) → drop n xs ≡ [] → length xs ≤ n
none_here [] n e = omega arith
none_here (x ∷ xs) zero e = absurd cc
none_here (x ∷ xs) (suc n) e = let le = none_here xs n e in omega (arith, le)

from : (p : Program) (n : ℕ) (rest : List Decl) → drop n p.decls ≡ rest → AreDefinite p n → IsDefinitelyAssigned p ⊎ ((refusal : Refusal) × IsToldMissing p refusal)
from p n [] e all = inl (all_definite p n (none_here p.decls n e) all)
from p n (NewtypeDecl newtype ∷ rest) e all =
    let here = get_here p.decls n (NewtypeDecl newtype) rest e in
    from p (suc n) rest here.1 (no_method p n (ap (option_and_then as_method) here.0) all)
from p n (MethodDecl m ∷ rest) e all = by_method (method_told m) (from p (suc n) rest (get_here p.decls n (MethodDecl m) rest e).1)
  where
    by_method : (unassigned_in m ≡ []) ⊎ ((refusal : Refusal) × TellsOf m refusal) → (AreDefinite p (suc n) → IsDefinitelyAssigned p ⊎ ((refusal : Refusal) × IsToldMissing p refusal))
        → IsDefinitelyAssigned p ⊎ ((refusal : Refusal) × IsToldMissing p refusal)
    by_method (inl none) others = others (one_more p n m (ap (option_and_then as_method) (get_here p.decls n (MethodDecl m) rest e).0) none all)
    by_method (inr (refusal, tells)) others = inr (refusal, told_at p n m refusal (ap (option_and_then as_method) (get_here p.decls n (MethodDecl m) rest e).0) all tells)

pub assigned_or_told : AssignedOrTold
assigned_or_told p = from p 0 p.decls refl (λ number m less at. absurd (omega (arith, less)))

-- ---- the declarations of the code

typed_in : {A B : Type 0} (test : B → Bool) (view : A → B) (items : List A) (i : ℕ) (x : A) → list_all test (map view items) ≡ true → i < length items → x ≡ get_or items i x → test (view x) ≡ true
typed_in test view [] i x all less is = absurd (omega arith)
typed_in test view (y ∷ items) zero x all less is = ap (λ z. test (view z)) is ∙ (and_parts (test (view y)) (list_all test (map view items)) all).0
typed_in test view (y ∷ items) (suc i) x all less is = typed_in test view items i x (and_parts (test (view y)) (list_all test (map view items)) all).1 (omega arith) is

-- a method of the code is well typed
pub typed_at : (p : declared_program.Program) (i : ℕ) (x : declared_decl.Decl) (m : declared_method.Method) → is_well_typed (program_of p) ≡ true → i < length p.decls.items → x ≡ get_or p.decls.items i x → x ≡ decls.Method m
    → IsTyped (method_of m)
typed_at p i x m all less is here = (
  program_of p,
  (and_parts (is_method (program_of p) (method_of m)) (has_no_ghost (method_of m))
      (ap (λ (y : declared_decl.Decl). is_decl (program_of p) (decl_of y)) (sym here) ∙ typed_in (is_decl (program_of p)) decl_of p.decls.items i x all less is)).0,
)

get_there : {A B : Type 0} (view : A → B) (items : List A) (i : ℕ) (x : A) → i < length items → x ≡ get_or items i x → slice_get (map view items) i ≡ Some (view x)
get_there view items i x less is = slice_get-map view items i ∙ ap (option_map view) (slice_get_read items (length items) i x refl less is)

-- what stands at a place of the code
pub method_here : (p : declared_program.Program) (i : ℕ) (x : declared_decl.Decl) (m : declared_method.Method) → i < length p.decls.items → x ≡ get_or p.decls.items i x → x ≡ decls.Method m → method_at (program_of p) i ≡ Some (method_of m)
method_here p i x m less is here =
    ap (option_and_then as_method) (get_there decl_of p.decls.items i x less is) ∙ ap (λ (y : declared_decl.Decl). as_method (decl_of y)) here

pub newtype_here : (p : declared_program.Program) (i : ℕ) (x : declared_decl.Decl) (n : declared_newtype.Newtype) → i < length p.decls.items → x ≡ get_or p.decls.items i x → x ≡ decls.Newtype n → method_at (program_of p) i ≡ None
newtype_here p i x n less is here =
    ap (option_and_then as_method) (get_there decl_of p.decls.items i x less is) ∙ ap (λ (y : declared_decl.Decl). as_method (decl_of y)) here

-- ---- the methods of the code, one after another

pub counted_on : (p : Program) (n : ℕ) → AreDefinite p (suc n) → AreDefinite p (n + 1)
counted_on p n all = λ number m less at. all number m (omega (arith, less)) at

-- behind all declarations of the code
pub all_followed : (p : declared_program.Program) (i : ℕ) → length p.decls.items ≤ i → AreDefinite (program_of p) i → IsDefinitelyAssigned (program_of p)
all_followed p i long all = all_definite (program_of p) i (omega (arith, long, length-map p.decls.items decl_of)) all

-- what is told of a method is told of the program
pub told_of : (p : Program) (n : ℕ) (m : Method) (stop : Stop) → method_at p n ≡ Some m → AreDefinite p n → IfRefused (TellsOf m) stop → IfRefused (IsToldMissing p) stop
told_of p n m stops.Memory at all tells = tt
told_of p n m (stops.Refused refusal) at all tells = told_at p n m refusal at all tells
