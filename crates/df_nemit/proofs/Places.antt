-- Values that go to their places.
use Rattle.std.proofs.Common.{◌≡◌, ◌≢◌, ℕ, zero, suc, ◌+◌, ◌<◌, ◌&&◌, ◌||◌, ◌==◌, Bool, true, false, cond, not, List, [], ◌∷◌, ◌++◌, length, Some, refl, sym, ap, ◌∙◌, subst, ◌⊎◌, inl, inr, arith, length-append}
use Rattle.std.specs.Prelude.{slice_get, slice_set}
use Rattle.std.specs.List.{list_all}
use Rattle.std.proofs.lemmas.Bool.{cases_eq}
use Rattle.std.proofs.lemmas.Bool.Decides.{nat_tests}
use Rattle.std.proofs.lemmas.Int.{ints}
use Rattle.std.proofs.lemmas.List.{length-set}
use Rattle.df_meaning.specs.Value.{Value, same_truth, same_value}
use Rattle.df_meaning.specs.Value as values
use Rattle.df_meaning.specs.Execution.{Taken, is_distinct}
use Rattle.df_nplain.specs.Outcome.{Outcome, Wrong, TooDeep, Stuck}
use Rattle.df_nplain.specs.Outcome as outcomes
use Rattle.df_nplain.specs.State.{State, with_local}
use Rattle.df_nplain.specs.Execution.{give_all}
use Rattle.df_nmach.specs.declared.instruction.Instruction.TheVariants as i
use Rattle.df_nmach.specs.Value as mach
use Rattle.df_nmach.specs.Step.{Goes, demand}
use Rattle.df_nemit.specs.Code.{slot, sets_code}
use Rattle.df_nemit.specs.Correct.{is_simple}
use Rattle.df_nemit.specs.Ending.{machine_value}
use Rattle.df_nemit.proofs.Reach.{HasAt, has_front, has_back, World, instructions, point, frame, Leads, leads_none, leads_on, leads_silent, Covers, Simple}
use Rattle.df_nemit.proofs.OperatorRuns.{below}
use Rattle.df_nemit.proofs.ExpressionRuns.{both, get_set_same, get_set_other, slot_same}

-- values on top of operands, the last one on top
abbrev pub pushed : List Value → List mach.Value → List mach.Value
pushed [] o = o
pushed (v ∷ vs) o = pushed vs (machine_value v ∷ o)

-- the locals of a frame with these values at these places: the first of two at one place counts
abbrev pub placed : World → List mach.Value → List ℕ → List Value → List mach.Value
placed w l [] vs = l
placed w l (t ∷ ts) [] = l
placed w l (t ∷ ts) (v ∷ vs) = slice_set (placed w l ts vs) (slot w.scratch t) (machine_value v)

placed_long : (w : World) (l : List mach.Value) (ts : List ℕ) (vs : List Value) → length (placed w l ts vs) ≡ length l
placed_long w l [] vs = refl
placed_long w l (t ∷ ts) [] = refl
placed_long w l (t ∷ ts) (v ∷ vs) = length-set (placed w l ts vs) (slot w.scratch t) (machine_value v) ∙ placed_long w l ts vs

-- the instructions place them
pub sets_run : (w : World) (ts : List ℕ) (vs : List Value) (p : ℕ) (l o : List mach.Value) (t : List ℕ) → length l ≡ w.long → length ts ≡ length vs → HasAt (instructions w) p (sets_code w.scratch ts)
    → Leads w (point p l (pushed vs o) t) (point (p + length (sets_code w.scratch ts)) (placed w l ts vs) o t)
sets_run w [] [] p l o t long same has = let e : p ≡ p + 0 = omega arith in subst (λ (n : ℕ). Leads w (point p l o t) (point n l o t)) e (leads_none w (point p l o t))
sets_run w [] (v ∷ vs) p l o t long same has = absurd (omega (arith, same))
sets_run w (x ∷ ts) [] p l o t long same has = absurd (omega (arith, same))
sets_run w (x ∷ ts) (v ∷ vs) p l o t long same has =
    let code = sets_code w.scratch ts in
    let k = slot w.scratch x in
    let q = p + length code in
    let l1 = placed w l ts vs in
    let set = (has_back (instructions w) p code (i.Set k ∷ []) has).0 in
    let lt : k < length l1 = omega (arith, placed_long w l ts vs, long, w.sets q k set) in
    let far : q + 1 ≡ p + length (code ++ i.Set k ∷ []) = omega (arith, length-append code (i.Set k ∷ [])) in
    subst (λ (n : ℕ). Leads w (point p l (pushed vs (machine_value v ∷ o)) t) (point n (slice_set l1 k (machine_value v)) o t)) far
    (leads_on w (point p l (pushed vs (machine_value v ∷ o)) t) (point q l1 (machine_value v ∷ o) t) (point (q + 1) (slice_set l1 k (machine_value v)) o t)
    (sets_run w ts vs p l (machine_value v ∷ o) t long (omega (arith, same)) (has_front (instructions w) p code (i.Set k ∷ []) has))
    (leads_silent w q (q + 1) l1 (slice_set l1 k (machine_value v)) (machine_value v ∷ o) o t (i.Set k) set (ap (λ (b : Bool). demand b (Goes w.heap (frame w (q + 1) (slice_set l1 k (machine_value v)) o) [])) (below k (length l1) lt))))

-- ---- places that coincide

abbrev IsIn : ℕ → Value → List Taken → Type 0
IsIn t v [] = ⊥
IsIn t v (k ∷ ks) = ((k.local ≡ t) × (k.value ≡ v)) ⊎ IsIn t v ks

truths_are : (a b : Bool) → same_truth a b ≡ true → a ≡ b
truths_are true b e = sym e
truths_are false true e = absurd (let f : false ≡ true = e in cc)
truths_are false false e = refl

values_are : (v u : Value) → same_value v u ≡ true → v ≡ u
values_are (values.Truth a) (values.Truth b) e = ap values.Truth (truths_are a b e)
values_are (values.Character a) (values.Character b) e = let f : a ≡ b = grind (arith, nat_tests) in ap values.Character f
values_are (values.Number a) (values.Number b) e = let f : a ≡ b = grind (arith, ints) in ap values.Number f
values_are v u e = absurd (let f : false ≡ true = e in cc)

neither : (a b : Bool) → (a || b) ≡ false → (a ≡ false) × (b ≡ false)
neither true b e = absurd (let f : true ≡ false = e in cc)
neither false b e = (refl, e)

same_local : (m n : ℕ) → m ≡ n → (m == n) ≡ true
same_local m n e = grind (arith, nat_tests)

other_local : (m n : ℕ) → m ≢ n → (m == n) ≡ false
other_local m n e = grind (arith, nat_tests)

not_distinct : (a b : Bool) → a ≡ true → (a && not b) ≡ false → b ≡ true
not_distinct true true e f = refl
not_distinct true false e f = absurd (let g : true ≡ false = f in cc)
not_distinct false b e f = absurd (let g : false ≡ true = e in cc)

-- a value that is given again is the same
is_same : (ks : List Taken) (t : ℕ) (v u : Value) → IsIn t v ks → is_distinct ks t u ≡ false → v ≡ u
is_same [] t v u e f = absurd e
is_same (k ∷ ks) t v u (inl e) f =
    let first = neither (k.local == t && not (same_value k.value u)) (is_distinct ks t u) f in
    sym e.1 ∙ values_are k.value u (not_distinct (k.local == t) (same_value k.value u) (same_local k.local t e.0) first.0)
is_same (k ∷ ks) t v u (inr e) f = is_same ks t v u e (neither (k.local == t && not (same_value k.value u)) (is_distinct ks t u) f).1

some_same : {A : Type 0} (x y : A) → Some x ≡ Some y → x ≡ y
some_same x y e = cc

set_here : (s : State) (t : ℕ) (v : Value) → (with_local s t v).locals t ≡ Some v
set_here s t v = ap (λ (b : Bool). cond b (Some v) (s.locals t)) (same_local t t refl)

set_there : (s : State) (t n : ℕ) (v : Value) → n ≢ t → (with_local s t v).locals n ≡ s.locals n
set_there s t n v other = ap (λ (b : Bool). cond b (Some v) (s.locals n)) (other_local n t other)

was_given : (b : Bool) (r : Outcome State) (u : State) → cond b (Wrong outcomes.Distinct) r ≡ outcomes.Gives u → (b ≡ false) × (r ≡ outcomes.Gives u)
was_given true r u e = absurd (let f : Wrong outcomes.Distinct ≡ outcomes.Gives u = e in cc)
was_given false r u e = (refl, e)

given_same : (a b : State) → outcomes.Gives a ≡ outcomes.Gives b → a ≡ b
given_same a b e = cc

-- what was given stays
keeps : (ts : List ℕ) (vs : List Value) (s u : State) (ks : List Taken) (t : ℕ) (v : Value) → IsIn t v ks → s.locals t ≡ Some v → give_all s ks ts vs ≡ outcomes.Gives u → u.locals t ≡ Some v
keeps [] vs s u ks t v in_ks e g = ap (λ (x : State). x.locals t) (sym (given_same s u g)) ∙ e
keeps (x ∷ ts) [] s u ks t v in_ks e g = ap (λ (x : State). x.locals t) (sym (given_same s u g)) ∙ e
keeps (x ∷ ts) (y ∷ vs) s u ks t v in_ks e g =
    let was = was_given (is_distinct ks x y) (give_all (with_local s x y) (record { local = x; value = y } ∷ ks) ts vs) u g in
    keeps ts vs (with_local s x y) u (record { local = x; value = y } ∷ ks) t v (inr in_ks) (by_cases was.0 (cases_eq t x)) was.1
  where
    by_cases : is_distinct ks x y ≡ false → (t ≡ x) ⊎ (t ≢ x) → (with_local s x y).locals t ≡ Some v
    by_cases f (inl same) =
        ap (λ (n : ℕ). (with_local s x y).locals n) same ∙ set_here s x y
        ∙ ap (λ (z : Value). Some z) (sym (is_same ks x v y (subst (λ (n : ℕ). IsIn n v ks) same in_ks) f))
    by_cases f (inr other) = set_there s x t y other ∙ e

-- the same place of two lists that are as long
get_set_both : {A : Type 0} (l1 l2 : List A) (n : ℕ) (x : A) → length l1 ≡ length l2 → slice_get (slice_set l1 n x) n ≡ slice_get (slice_set l2 n x) n
get_set_both [] [] n x e = refl
get_set_both [] (b ∷ l2) n x e = absurd (omega (arith, e))
get_set_both (a ∷ l1) [] n x e = absurd (omega (arith, e))
get_set_both (a ∷ l1) (b ∷ l2) zero x e = refl
get_set_both (a ∷ l1) (b ∷ l2) (suc n) x e = get_set_both l1 l2 n x (omega (arith, e))

-- a change elsewhere makes no difference
placed_step : (l1 l2 : List mach.Value) (k b : ℕ) (x : mach.Value) → length l1 ≡ length l2 → slice_get l1 b ≡ slice_get l2 b → (b ≡ k) ⊎ (b ≢ k) → slice_get (slice_set l1 k x) b ≡ slice_get (slice_set l2 k x) b
placed_step l1 l2 k b x long rest (inl same) = subst (λ (n : ℕ). slice_get (slice_set l1 n x) b ≡ slice_get (slice_set l2 n x) b) same (get_set_both l1 l2 b x long)
placed_step l1 l2 k b x long rest (inr differs) = get_set_other l1 k b x differs ∙ rest ∙ sym (get_set_other l2 k b x differs)

placed_other : (w : World) (ts : List ℕ) (vs : List Value) (l : List mach.Value) (a b : ℕ) (x : mach.Value) → b ≢ a → slice_get (placed w (slice_set l a x) ts vs) b ≡ slice_get (placed w l ts vs) b
placed_other w [] vs l a b x other = get_set_other l a b x other
placed_other w (t ∷ ts) [] l a b x other = get_set_other l a b x other
placed_other w (t ∷ ts) (v ∷ vs) l a b x other =
    let long = placed_long w (slice_set l a x) ts vs ∙ length-set l a x ∙ sym (placed_long w l ts vs) in
    placed_step (placed w (slice_set l a x) ts vs) (placed w l ts vs) (slot w.scratch t) b (machine_value v) long (placed_other w ts vs l a b x other) (cases_eq b (slot w.scratch t))

covers_local : (w : World) (s : State) (l : List mach.Value) (t : ℕ) (v : Value) → slot w.scratch t < length l → Covers w s l → Covers w (with_local s t v) (slice_set l (slot w.scratch t) (machine_value v))
covers_local w s l t v lt c = record {
  each = λ n x e. by_cases n x e (cases_eq n t);
  long = length-set l (slot w.scratch t) (machine_value v) ∙ c.long;
}
  where
    by_cases : (n : ℕ) (x : Value) → (with_local s t v).locals n ≡ Some x → (n ≡ t) ⊎ (n ≢ t) → slice_get (slice_set l (slot w.scratch t) (machine_value v)) (slot w.scratch n) ≡ Some (machine_value x)
    by_cases n x e (inl same) =
        let is : v ≡ x = some_same v x (sym (set_here s t v) ∙ ap (λ (k : ℕ). (with_local s t v).locals k) (sym same) ∙ e) in
        ap (λ (k : ℕ). slice_get (slice_set l (slot w.scratch t) (machine_value v)) (slot w.scratch k)) same
        ∙ get_set_same l (slot w.scratch t) (machine_value v) lt
        ∙ ap (λ (y : Value). Some (machine_value y)) is
    by_cases n x e (inr other) =
        get_set_other l (slot w.scratch t) (slot w.scratch n) (machine_value v) (λ same. other (slot_same w.scratch n t same))
        ∙ c.each n x (sym (set_there s t n v other) ∙ e)

abbrev pub IsPlace : ℕ → List ℕ → Type 0
IsPlace n [] = ⊥
IsPlace n (t ∷ ts) = (n ≡ t) ⊎ IsPlace n ts

-- each slot of a place is in the frame
pub record Fits (w : World) (ts : List ℕ) : Type 0 where
  pub all : (n : ℕ) → IsPlace n ts → slot w.scratch n < w.long

pub gives_covers : (w : World) (ts : List ℕ) (vs : List Value) (s u : State) (ks : List Taken) (l : List mach.Value) → Fits w ts → Covers w s l → give_all s ks ts vs ≡ outcomes.Gives u → Covers w u (placed w l ts vs)
gives_covers w [] vs s u ks l fits c g = subst (λ (x : State). Covers w x l) (given_same s u g) c
gives_covers w (t ∷ ts) [] s u ks l fits c g = subst (λ (x : State). Covers w x l) (given_same s u g) c
gives_covers w (t ∷ ts) (v ∷ vs) s u ks l fits c g =
    let was = was_given (is_distinct ks t v) (give_all (with_local s t v) (record { local = t; value = v } ∷ ks) ts vs) u g in
    let lt : slot w.scratch t < length l = omega (arith, fits.all t (inl refl), c.long) in
    let c1 = covers_local w s l t v lt c in
    let rest = gives_covers w ts vs (with_local s t v) u (record { local = t; value = v } ∷ ks) (slice_set l (slot w.scratch t) (machine_value v)) (record { all = λ n h. fits.all n (inr h) }) c1 was.1 in
    let stays = keeps ts vs (with_local s t v) u (record { local = t; value = v } ∷ ks) t v (inl (refl, refl)) (set_here s t v) was.1 in
    record {
      each = λ n x e. by_cases rest stays n x e (cases_eq n t);
      long = placed_long w l (t ∷ ts) (v ∷ vs) ∙ c.long;
    }
  where
    by_cases : Covers w u (placed w (slice_set l (slot w.scratch t) (machine_value v)) ts vs) → u.locals t ≡ Some v → (n : ℕ) (x : Value) → u.locals n ≡ Some x → (n ≡ t) ⊎ (n ≢ t)
        → slice_get (slice_set (placed w l ts vs) (slot w.scratch t) (machine_value v)) (slot w.scratch n) ≡ Some (machine_value x)
    by_cases rest stays n x e (inl same) =
        let is : v ≡ x = some_same v x (sym stays ∙ ap (λ (k : ℕ). u.locals k) (sym same) ∙ e) in
        let lt : slot w.scratch t < length (placed w l ts vs) = omega (arith, fits.all t (inl refl), c.long, placed_long w l ts vs) in
        ap (λ (k : ℕ). slice_get (slice_set (placed w l ts vs) (slot w.scratch t) (machine_value v)) (slot w.scratch k)) same
        ∙ get_set_same (placed w l ts vs) (slot w.scratch t) (machine_value v) lt
        ∙ ap (λ (y : Value). Some (machine_value y)) is
    by_cases rest stays n x e (inr other) =
        let apart : slot w.scratch n ≢ slot w.scratch t = λ same. other (slot_same w.scratch n t same) in
        get_set_other (placed w l ts vs) (slot w.scratch t) (slot w.scratch n) (machine_value v) apart
        ∙ sym (placed_other w ts vs l (slot w.scratch t) (slot w.scratch n) (machine_value v) apart)
        ∙ rest.each n x e

-- places that the code pops into are in the frame
pub sets_fit : (w : World) (ts : List ℕ) (p : ℕ) → HasAt (instructions w) p (sets_code w.scratch ts) → Fits w ts
sets_fit w [] p has = record { all = λ n h. absurd h }
sets_fit w (t ∷ ts) p has =
    let code = sets_code w.scratch ts in
    let k = slot w.scratch t in
    let set = (has_back (instructions w) p code (i.Set k ∷ []) has).0 in
    let rest = sets_fit w ts p (has_front (instructions w) p code (i.Set k ∷ []) has) in
    record { all = λ n h. by_cases set rest n h }
  where
    by_cases : slice_get (instructions w) (p + length (sets_code w.scratch ts)) ≡ Some (i.Set (slot w.scratch t)) → Fits w ts → (n : ℕ) → IsPlace n (t ∷ ts) → slot w.scratch n < w.long
    by_cases set rest n (inl same) = let lt = w.sets (p + length (sets_code w.scratch ts)) (slot w.scratch t) set in subst (λ (k : ℕ). slot w.scratch k < w.long) (sym same) lt
    by_cases set rest n (inr h) = rest.all n h

-- no local becomes a text
simple_local : (s : State) (t : ℕ) (v : Value) → is_simple v ≡ true → Simple s → Simple (with_local s t v)
simple_local s t v sv simple = record { each = λ n x e. by_cases n x e (cases_eq n t) }
  where
    by_cases : (n : ℕ) (x : Value) → (with_local s t v).locals n ≡ Some x → (n ≡ t) ⊎ (n ≢ t) → is_simple x ≡ true
    by_cases n x e (inl same) = subst (λ (y : Value). is_simple y ≡ true) (some_same v x (sym (set_here s t v) ∙ ap (λ (k : ℕ). (with_local s t v).locals k) (sym same) ∙ e)) sv
    by_cases n x e (inr other) = simple.each n x (sym (set_there s t n v other) ∙ e)

pub gives_simple : (ts : List ℕ) (vs : List Value) (s u : State) (ks : List Taken) → list_all is_simple vs ≡ true → Simple s → give_all s ks ts vs ≡ outcomes.Gives u → Simple u
gives_simple [] vs s u ks all simple g = subst (λ (x : State). Simple x) (given_same s u g) simple
gives_simple (t ∷ ts) [] s u ks all simple g = subst (λ (x : State). Simple x) (given_same s u g) simple
gives_simple (t ∷ ts) (v ∷ vs) s u ks all simple g =
    let was = was_given (is_distinct ks t v) (give_all (with_local s t v) (record { local = t; value = v } ∷ ks) ts vs) u g in
    let k = both (is_simple v) (list_all is_simple vs) all in
    gives_simple ts vs (with_local s t v) u (record { local = t; value = v } ∷ ks) k.1 (simple_local s t v k.0 simple) was.1

-- the text stays
pub gives_text : (ts : List ℕ) (vs : List Value) (s u : State) (ks : List Taken) → give_all s ks ts vs ≡ outcomes.Gives u → u.text ≡ s.text
gives_text [] vs s u ks g = ap (λ (x : State). x.text) (sym (given_same s u g))
gives_text (t ∷ ts) [] s u ks g = ap (λ (x : State). x.text) (sym (given_same s u g))
gives_text (t ∷ ts) (v ∷ vs) s u ks g =
    let was = was_given (is_distinct ks t v) (give_all (with_local s t v) (record { local = t; value = v } ∷ ks) ts vs) u g in
    gives_text ts vs (with_local s t v) u (record { local = t; value = v } ∷ ks) was.1
