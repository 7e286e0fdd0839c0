-- Programs that are correct by the law: a method that prints, returns 1, and owes that; and one that calls it.
use Rattle.std.proofs.Common.{◌≡◌, ◌<◌, ◌≤◌, ℕ, zero, suc, ℤ, pos, Bool, true, false, ◌&&◌, if◌then◌else◌, List, [], ◌∷◌, Contains, Some, None, refl, sym, ap, subst, ◌∙◌, arith}
use Rattle.std.specs.Ordering.{int_eq}
use Rattle.df_base.specs.declared.pos.Pos.{Pos}
use Rattle.df_lang.specs.declared.expr.Comparison.TheVariants as comparisons
use Rattle.df_lang.specs.Stmt.{Results, Assign, Assert, done, next}
use Rattle.df_lang.specs.Program.{Method, MethodDecl, Program, method_at}
use Rattle.df_lang.specs.Typing.{is_well_typed}
use Rattle.df_lang.specs.Assignment.{unassigned_in, IsDefinitelyAssigned}
use Rattle.df_lang.specs.Groups.{callees_at, Reaches, by_none, by_call, group_at, AreGroups}
use Rattle.df_lang.proofs.Samples.{at, N, small, param_of, num, loc, compared, target_at, called, keep, method_with, alone, owing}
use Rattle.df_meaning.specs.declared.kind.Kind.{Kind}
use Rattle.df_meaning.specs.declared.kind.Kind.TheVariants as kinds
use Rattle.df_meaning.specs.Value.{Value, Truth, Character, Number, Text}
use Rattle.df_meaning.specs.Types.{has_type, have_types}
use Rattle.df_meaning.specs.Outcome.{Outcome, Gives, Wrong, TooDeep, NoChoice, Dismissed, after}
use Rattle.df_meaning.specs.State.{Handed, Given, Turned, Store, State, store_with, begin}
use Rattle.df_meaning.specs.Meaning.{Returned}
use Rattle.df_meaning.specs.Whole.{run_body}
use Rattle.df_meaning.specs.Modular.{handed_results, assume_returned, modular_run, IsModularlyWrong, AreModularlySafe}
use Rattle.df_meaning.specs.Correct.{AreCorrect}
use Rattle.df_hoare.proofs.Methods.{safe_is_correct}

abbrev method_owing : Method
method_owing = owing (num (pos 1))

abbrev program : Program
program = alone method_owing

abbrev groups : List ℕ
groups = 0 ∷ 1 ∷ []

well : is_well_typed program ≡ true
well = refl

-- it is the only method
only : (P : ℕ → Method → Type 0) → P 1 method_owing → (number : ℕ) (method : Method) → method_at program number ≡ Some method → P number method
only P here zero method there = absurd (let f : None ≡ Some method = there in cc)
only P here (suc zero) method there = let same : method_owing ≡ method = let f : Some method_owing ≡ Some method = there in cc in subst (λ (m : Method). P 1 m) same here
only P here (suc (suc number)) method there = absurd (let f : None ≡ Some method = there in cc)

definite : IsDefinitelyAssigned program
definite number method there = only (λ n m. unassigned_in m ≡ []) refl number method there

-- ---- groups

no_callees : (number : ℕ) → callees_at program number ≡ []
no_callees zero = refl
no_callees (suc zero) = refl
no_callees (suc (suc number)) = refl

no_call : (caller callee : ℕ) → Contains (callees_at program caller) callee → ⊥
no_call caller callee c = let h : Contains [] callee = subst (λ (cs : List ℕ). Contains cs callee) (no_callees caller) c in omega (arith, h.1)

reaches_itself : (one other : ℕ) → Reaches program one other → one ≡ other
reaches_itself one other by_none = refl
reaches_itself one other (by_call {callee = callee} c rest) = absurd (no_call one callee c)

same_group : (one other : ℕ) → one < 2 → other < 2 → group_at groups one ≡ group_at groups other → one ≡ other
same_group zero zero a b e = refl
same_group zero (suc zero) a b e = e
same_group (suc zero) zero a b e = e
same_group (suc zero) (suc zero) a b e = refl
same_group zero (suc (suc other)) a b e = absurd (omega (arith, b))
same_group (suc zero) (suc (suc other)) a b e = absurd (omega (arith, b))
same_group (suc (suc one)) other a b e = absurd (omega (arith, a))

are_groups : AreGroups program groups
are_groups = record {
  each = refl;
  ordered = λ caller callee c. absurd (no_call caller callee c);
  together = λ one other a b r back. ap (group_at groups) (reaches_itself one other r);
  apart = λ one other a b e. subst (λ (n : ℕ). Reaches program one n) (same_group one other a b e) by_none;
}

-- ---- no modular run is wrong

abbrev is_given : {A : Type 0} → Outcome A → Bool
is_given (Gives a) = true
is_given (Wrong from kind) = false
is_given TooDeep = false
is_given NoChoice = false
is_given Dismissed = false

always_given : (depth : ℕ) (arguments : List Value) (store : Store) → is_given (modular_run program groups depth 1 method_owing arguments store) ≡ true
always_given zero arguments store = refl
always_given (suc depth) arguments store = refl

never_wrong : (from : Pos) (kind : Kind) → IsModularlyWrong program groups 1 method_owing from kind → ⊥
never_wrong from kind w = let clash : true ≡ false = sym (always_given w.depth w.arguments w.store) ∙ ap is_given w.wrong in cc

safe : AreModularlySafe program groups
safe number method there = only (λ n m. (from : Pos) (kind : Kind) → IsModularlyWrong program groups n m from kind → ⊥) never_wrong number method there

correct : AreCorrect program
correct = safe_is_correct program well definite (record { groups = groups; are_groups = are_groups; methods = safe })

-- where it gives 2, a modular run of it is wrong
abbrev other : Method
other = owing (num (pos 2))

not_safe : IsModularlyWrong (alone other) groups 1 other (at 7) kinds.Ensures
not_safe = record { depth = 0; arguments = []; store = record { text = []; handed = [] }; typed = refl; wrong = refl }

-- ---- a program with a call: of what the method gives the caller knows what it owes, and asserts that

abbrev asserting : ℤ → Method
asserting z = method_with [] (param_of N ∷ []) [] [] None
    (next (Assign (at 9) (record { targets = target_at 0 N ∷ []; sources = Results (called 1 []) (keep N ∷ []) ∷ [] }))
    (next (Assert (at 15) (compared (loc 0) comparisons.Equal (num z))) done))

abbrev caller : Method
caller = asserting (pos 1)

abbrev calling : Program
calling = record { decls = small ∷ MethodDecl method_owing ∷ MethodDecl caller ∷ [] }

abbrev each_its_own : List ℕ
each_its_own = 0 ∷ 1 ∷ 2 ∷ []

calling_is_well_typed : is_well_typed calling ≡ true
calling_is_well_typed = refl

of_both : (P : ℕ → Method → Type 0) → P 1 method_owing → P 2 caller → (number : ℕ) (method : Method) → method_at calling number ≡ Some method → P number method
of_both P one other zero method there = absurd (let f : None ≡ Some method = there in cc)
of_both P one other (suc zero) method there = let same : method_owing ≡ method = let f : Some method_owing ≡ Some method = there in cc in subst (λ (m : Method). P 1 m) same one
of_both P one other (suc (suc zero)) method there = let same : caller ≡ method = let f : Some caller ≡ Some method = there in cc in subst (λ (m : Method). P 2 m) same other
of_both P one other (suc (suc (suc number))) method there = absurd (let f : None ≡ Some method = there in cc)

calling_is_definite : IsDefinitelyAssigned calling
calling_is_definite number method there = of_both (λ n m. unassigned_in m ≡ []) refl refl number method there

-- ---- its groups: calls go down

goes_down : (from to : ℕ) → Contains (callees_at calling from) to → to < from × from < 3
goes_down zero to c = let h : Contains [] to = c in absurd (omega (arith, h.1))
goes_down (suc zero) to c = let h : Contains [] to = c in absurd (omega (arith, h.1))
goes_down (suc (suc zero)) to c = only_one c
  where
    only_one : Contains (1 ∷ []) to → to < 2 × 2 < 3
    only_one (zero, a, e) = (omega (arith, e), omega (arith, a))
    only_one (suc i, a, e) = absurd (omega (arith, a))
goes_down (suc (suc (suc from))) to c = let h : Contains [] to = c in absurd (omega (arith, h.1))

reaches_down : (one other : ℕ) → Reaches calling one other → other ≤ one
reaches_down one other by_none = omega arith
reaches_down one other (by_call {callee = callee} c rest) = omega (arith, (goes_down one callee c).0, reaches_down callee other rest)

own_group : (n : ℕ) → n < 3 → group_at each_its_own n ≡ n
own_group zero a = refl
own_group (suc zero) a = refl
own_group (suc (suc zero)) a = refl
own_group (suc (suc (suc n))) a = absurd (omega (arith, a))

calling_has_groups : AreGroups calling each_its_own
calling_has_groups = record {
  each = refl;
  ordered = λ from to c. let d = goes_down from to c in omega (arith, d.0, d.1, own_group from d.1, own_group to (omega (arith, d.0, d.1)));
  together = λ one other a b r back. ap (group_at each_its_own) (let e : one ≡ other = omega (arith, reaches_down one other r, reaches_down other one back) in e);
  apart = λ one other a b e. subst (λ (n : ℕ). Reaches calling one n) (let f : one ≡ other = omega (arith, e, own_group one a, own_group other b) in f) by_none;
}

-- ---- no modular run of either is wrong

abbrev is_wrong : {A : Type 0} → Outcome A → Bool
is_wrong (Gives a) = false
is_wrong (Wrong from kind) = true
is_wrong TooDeep = false
is_wrong NoChoice = false
is_wrong Dismissed = false

owing_is_right : (depth : ℕ) (arguments : List Value) (store : Store) → is_wrong (modular_run calling each_its_own depth 1 method_owing arguments store) ≡ false
owing_is_right zero arguments store = refl
owing_is_right (suc depth) arguments store = refl

-- the run of the caller on what is handed in for the call
abbrev taking : List Value → Store → Outcome Returned → Outcome State
taking arguments store given = run_body (record { program = calling; call = λ pos callee of_callee s. after given (assume_returned calling method_owing of_callee); turns = λ loop s. TooDeep }) caller (begin arguments store)

taking_a_number : (arguments : List Value) (store behind : Store) (z : ℤ) (b : Bool) → int_eq z (pos 1) ≡ b → is_wrong (taking arguments store (Gives (record { values = Number z ∷ []; store = behind }))) ≡ false
taking_a_number arguments store behind z true e = rw e (rw e refl)
taking_a_number arguments store behind z false e = rw e refl

taking_one : (arguments : List Value) (store behind : Store) (z : ℤ) (b : Bool)
    → is_wrong (taking arguments store (if b && true then Gives (record { values = Number z ∷ []; store = behind }) else Dismissed)) ≡ false
taking_one arguments store behind z true = taking_a_number arguments store behind z (int_eq z (pos 1)) refl
taking_one arguments store behind z false = refl

taking_more : (arguments : List Value) (store : Store) (r : Returned) (b : Bool) → is_wrong (taking arguments store (if b && false then Gives r else Dismissed)) ≡ false
taking_more arguments store r true = refl
taking_more arguments store r false = refl

taking_values : (arguments : List Value) (store behind : Store) (values : List Value)
    → is_wrong (taking arguments store (if have_types calling (N ∷ []) values then Gives (record { values = values; store = behind }) else Dismissed)) ≡ false
taking_values arguments store behind [] = refl
taking_values arguments store behind (Truth b ∷ []) = refl
taking_values arguments store behind (Character c ∷ []) = refl
taking_values arguments store behind (Text text ∷ []) = refl
taking_values arguments store behind (Number z ∷ []) = taking_one arguments store behind z (has_type calling N (Number z))
taking_values arguments store behind (v ∷ w ∷ others) = taking_more arguments store (record { values = v ∷ w ∷ others; store = behind }) (has_type calling N v)

taking_handed : (arguments : List Value) (store : Store) (handed : List Handed) → is_wrong (taking arguments store (handed_results calling method_owing handed)) ≡ false
taking_handed arguments store [] = refl
taking_handed arguments store (Turned locals text ∷ rest) = refl
taking_handed arguments store (Given values text ∷ rest) = taking_values arguments store (store_with text rest) values

caller_is_right : (depth : ℕ) (arguments : List Value) (store : Store) → is_wrong (modular_run calling each_its_own depth 2 caller arguments store) ≡ false
caller_is_right zero arguments store = taking_handed arguments store store.handed
caller_is_right (suc depth) arguments store = taking_handed arguments store store.handed

right_is_safe : (number : ℕ) (method : Method) → ((depth : ℕ) (arguments : List Value) (store : Store) → is_wrong (modular_run calling each_its_own depth number method arguments store) ≡ false)
    → (from : Pos) (kind : Kind) → IsModularlyWrong calling each_its_own number method from kind → ⊥
right_is_safe number method right from kind w = let clash : false ≡ true = sym (right w.depth w.arguments w.store) ∙ ap is_wrong w.wrong in cc

calling_is_safe : AreModularlySafe calling each_its_own
calling_is_safe number method there =
    of_both (λ n m. (from : Pos) (kind : Kind) → IsModularlyWrong calling each_its_own n m from kind → ⊥) (right_is_safe 1 method_owing owing_is_right) (right_is_safe 2 caller caller_is_right) number method there

calls_are_correct : AreCorrect calling
calls_are_correct = safe_is_correct calling calling_is_well_typed calling_is_definite (record { groups = each_its_own; are_groups = calling_has_groups; methods = calling_is_safe })

-- of what isn't owed to it the caller knows nothing
abbrev mistaken : Program
mistaken = record { decls = small ∷ MethodDecl method_owing ∷ MethodDecl (asserting (pos 2)) ∷ [] }

not_owed : IsModularlyWrong mistaken each_its_own 2 (asserting (pos 2)) (at 15) kinds.Assert
not_owed = record { depth = 0; arguments = []; store = store_with [] (Given (Number (pos 1) ∷ []) [] ∷ []); typed = refl; wrong = refl }
