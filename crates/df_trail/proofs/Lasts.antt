-- The last decision of a trail.
use Rattle.std.proofs.Common.{◌≡◌, ℕ, zero, suc, ◌+◌, ◌-◌, Bool, true, false, not, true≢false, List, [], ◌∷◌, ◌++◌, Vec, take, length, Option, None, Some, slice_get, refl, sym, ap, ◌∙◌, arith}
use Rattle.std.specs.Option.{is_some}
use Rattle.std.specs.declared.alloc.Global.{Global}
use Rattle.std.proofs.lemmas.List.{take_at, length_push}
use Rattle.std.proofs.lemmas.Option.{none-some, same_Some}
use Rattle.df_lemmas.proofs.Lists.{get_below}
use Rattle.df_form.specs.declared.log.Lit.{Lit}
use Rattle.df_trail.specs.declared.decision.Conflict.{Conflict}
use Rattle.df_trail.specs.declared.decision.Decision.{Decision}
use Rattle.df_trail.specs.declared.trail.Trail.{Trail}
use Rattle.df_trail.specs.Trail.{literal_of, literals_of, branch_of, decided, none_there, last_turned, IsKept, IsFresh, TellsFresh, TellsBefore}
use Rattle.df_logbuild.proofs.Added.{mapped_append}

ends_at : {A : Type 0} (i : ℕ) (xs : List A) (x : A) → i + 1 ≡ length xs → slice_get xs i ≡ Some x → (kept : List A) × (xs ≡ kept ++ x ∷ [])
ends_at i [] x e at = absurd (none-some x at)
ends_at zero (y ∷ []) x e at = ([], ap (λ z. z ∷ []) (same_Some y x at))
ends_at zero (y ∷ z ∷ zs) x e at = absurd (omega arith)
ends_at (suc i) (y ∷ []) x e at = absurd (none-some x at)
ends_at (suc i) (y ∷ z ∷ zs) x e at = let rest = ends_at i (z ∷ zs) x (omega arith) at in (y ∷ rest.0, ap (λ l. y ∷ l) rest.1)

-- a list with a last element ends with it
ends_with : {A : Type 0} (xs : List A) (x : A) → slice_get xs (length xs - 1) ≡ Some x → (kept : List A) × (xs ≡ kept ++ x ∷ [])
ends_with [] x at = absurd (none-some x at)
ends_with (y ∷ ys) x at = ends_at (length (y ∷ ys) - 1) (y ∷ ys) x (omega arith) at

-- and one without has none
has_none : {A : Type 0} (xs : List A) → slice_get xs (length xs - 1) ≡ None → xs ≡ []
has_none [] e = refl
has_none (y ∷ ys) e = let there = get_below (y ∷ ys) (length (y ∷ ys) - 1) (omega arith) in absurd (none-some there.0 (sym e ∙ there.1))

pub told_of_last : (t : Trail) (d : Decision) → slice_get t.decisions.items (length t.decisions.items - 1) ≡ Some d → (b : Bool) → is_some d.closed ≡ not b → TellsFresh t b
told_of_last t d at = by d.closed refl
  where
    there : (kept : List Decision) × (t.decisions.items ≡ kept ++ d ∷ [])
    there = ends_with t.decisions.items d at

    by : (closed : Option Conflict) → d.closed ≡ closed → (b : Bool) → is_some closed ≡ not b → TellsFresh t b
    by None e true tells = record { kept = there.0; literal = d.literal; is = there.1 ∙ ap (λ (x : Decision). there.0 ++ x ∷ []) (λ i. record { literal = d.literal; closed = e i }) }
    by None e false tells = absurd (true≢false (sym tells))
    by (Some conflict) e true tells = absurd (true≢false tells)
    by (Some conflict) e false tells = last_turned there.0 d there.1 (λ none. none-some conflict (sym none ∙ e))

pub none_last : (t : Trail) → slice_get t.decisions.items (length t.decisions.items - 1) ≡ None → IsKept t
none_last t e = none_there (has_none t.decisions.items e)

-- a list without its last element
pub front_is : {A : Type 0} (xs : List A) (x : A) → take (length (xs ++ x ∷ []) - 1) (xs ++ x ∷ []) ≡ xs
front_is xs x =
    let less : length (xs ++ x ∷ []) - 1 ≡ length xs = omega (arith, length_push xs x) in
    ap (λ (n : ℕ). take n (xs ++ x ∷ [])) less ∙ take_at xs (x ∷ []) (length xs) refl

pub front_where : {A : Type 0} (all front kept : List A) (x : A) → front ≡ take (length all - 1) all → all ≡ kept ++ x ∷ [] → front ≡ kept
front_where all front kept x taken is = taken ∙ ap (λ l. take (length l - 1) l) is ∙ front_is kept x

-- the literals of the decisions before the last one
pub told_before : (t : Trail) (fresh : IsFresh t) (literals before : Vec Lit Global) → literals.items ≡ branch_of t → before.items ≡ take (length literals.items - 1) literals.items → TellsBefore t (Some before)
told_before t fresh literals before are taken =
    (fresh, front_where literals.items before.items (literals_of fresh.kept) fresh.literal taken (are ∙ ap literals_of fresh.is ∙ mapped_append literal_of fresh.kept (decided fresh.literal)))
