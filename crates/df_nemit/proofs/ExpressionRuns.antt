-- The machine follows expressions.
use Rattle.std.proofs.Common.{◌≡◌, ◌≢◌, ℕ, zero, suc, ◌+◌, ◌<◌, ◌&&◌, Bool, true, false, cond, not, List, [], ◌∷◌, ◌++◌, length, Option, Some, None, refl, sym, ap, ◌∙◌, subst, arith, length-append}
use Rattle.std.specs.Prelude.{slice_get, slice_set}
use Rattle.std.proofs.lemmas.Bool.Decides.{nat_tests}
use Rattle.std.proofs.lemmas.List.{length-set}
use Rattle.df_lang.specs.declared.expr.Junction.{Junction as JunctionKind}
use Rattle.df_lang.specs.declared.expr.Junction.TheVariants as junctions
use Rattle.df_lang.specs.declared.expr.Comparison.{Comparison}
use Rattle.df_meaning.specs.Value.{Value}
use Rattle.df_meaning.specs.Value as values
use Rattle.df_meaning.specs.Evaluation.{decides}
use Rattle.df_nplain.specs.Kind.{Range}
use Rattle.df_nplain.specs.Expr.{Expr, Number, Truth, Character, Local, Negate, Not, Sum, Product, Junction, Implies, Iff, Chain, As, Addends, no_addend, addend, Factors, no_factor, factor, Members, no_member, member, Links, no_link, link}
use Rattle.df_nplain.specs.Bounded.{is_bounded, are_bounded_addends, are_bounded_factors, are_bounded_members, are_bounded_links}
use Rattle.df_nplain.specs.Outcome.{Outcome, Wrong, TooDeep, Stuck, after}
use Rattle.df_nplain.specs.Outcome as outcomes
use Rattle.df_nplain.specs.State.{State}
use Rattle.df_nplain.specs.Meaning.{Meaning}
use Rattle.df_nplain.specs.Evaluation.{truth_in, as_kind, added, multiplied, equivalent, compared, value_of_local, evaluate, evaluate_addends, evaluate_factors, evaluate_junction, evaluate_implications, evaluate_equivalences, evaluate_links}
use Rattle.df_nmach.specs.declared.instruction.UnaryOperator.TheVariants as unaries
use Rattle.df_nmach.specs.declared.instruction.BinaryOperator.TheVariants as binaries
use Rattle.df_nmach.specs.declared.instruction.Instruction.TheVariants as i
use Rattle.df_nmach.specs.Value as mach
use Rattle.df_nmach.specs.Step.{Goes, given, demand, leaves}
use Rattle.df_nemit.specs.Code.{Exits, Fixed, unknown, with_behind, fixed, slot, range_of, adds, multiplies, decide, decide_unless, between, compare, keep, opening, from_kind, to_kind, run_code, expr_code, addends_code, factors_code, junction_marks, implication_marks, equivalences_code, links_marks}
use Rattle.df_nemit.specs.Correct.{is_simple}
use Rattle.df_nemit.specs.Ending.{machine_value}
use Rattle.df_nemit.proofs.Fills.{instructions_of, instructions_long, fixed_long}
use Rattle.df_nemit.proofs.Reach.{HasAt, has_front, has_back, has_moved, HasMarks, marks_front, marks_back, marks_fixed, World, instructions, point, frame, Leads, leads_on, leads_silent, Still, still_none, still_on, still_one, Covers, Simple, Carries, still_carries, Gives, gives_after, gives_bind, gives_to, gives_from, Tells}
use Rattle.df_nemit.proofs.OperatorRuns.{below, unary_gives, negate_same, not_same, added_same, multiplied_same, equivalent_same, from_kind_runs, to_kind_runs, turns, compare_tells}

pub both : (a b : Bool) → (a && b) ≡ true → (a ≡ true) × (b ≡ true)
both true b e = (refl, e)
both false b e = absurd (let f : false ≡ true = e in cc)

pub three : (a b c : Bool) → (a && b && c) ≡ true → (a ≡ true) × (b ≡ true) × (c ≡ true)
three true b c e = let rest = both b c e in (refl, rest.0, rest.1)
three false b c e = absurd (let f : false ≡ true = e in cc)

-- the exits of a run that ends at the place
abbrev pub leading : ℕ → Exits
leading to = with_behind to unknown

-- ---- leaving a run

-- a truth on top that is true leaves the run with the decided truth
decides_run : (w : World) (q to : ℕ) (b : Bool) (o : List mach.Value) → HasMarks (instructions w) q (leading to) (decide q b) → q + 3 < length (instructions w) → to < length (instructions w)
    → Still w q (mach.Truth true ∷ o) to (mach.Truth b ∷ o)
decides_run w q to b o has inside there =
    still_on w q (q + 1) to _ o _
    (still_one w q (q + 1) (mach.Truth true ∷ o) o (i.Unless (q + 3)) has.0 (λ l. ap (λ (x : Bool). demand x (Goes w.heap (frame w (q + 1) l o) [])) (below (q + 3) _ inside)))
    (still_on w (q + 1) (q + 1 + 1) to _ (mach.Truth b ∷ o) _
    (still_one w (q + 1) (q + 1 + 1) o (mach.Truth b ∷ o) (i.Truth b) has.1.0 (λ l. refl))
    (still_one w (q + 1 + 1) to (mach.Truth b ∷ o) (mach.Truth b ∷ o) (i.Jump to) has.1.1.0 (λ l. ap (λ (x : Bool). demand x (Goes w.heap (frame w to l (mach.Truth b ∷ o)) [])) (below to _ there))))

-- one that is false stays in it
passes : (w : World) (q to : ℕ) (b : Bool) (o : List mach.Value) → HasMarks (instructions w) q (leading to) (decide q b) → q + 3 < length (instructions w) → Still w q (mach.Truth false ∷ o) (q + 3) o
passes w q to b o has inside =
    still_one w q (q + 3) (mach.Truth false ∷ o) o (i.Unless (q + 3)) has.0 (λ l. ap (λ (x : Bool). demand x (Goes w.heap (frame w (q + 3) l o) [])) (below (q + 3) _ inside))

-- a truth that has to be true to stay in the run
unless_run : (w : World) (p to : ℕ) (s : State) (b d : Bool) (o : List mach.Value) (go : Outcome Value) → HasMarks (instructions w) p (leading to) (decide_unless p d)
    → p + 4 < length (instructions w) → to < length (instructions w) → Gives w (p + 4) s o to o go → Gives w p s (mach.Truth b ∷ o) to o (cond b go (outcomes.Gives (values.Truth d)))
unless_run w p to s true d o go has inside there g =
    let e : p + 4 ≡ p + 1 + 3 = omega arith in
    gives_after w p (p + 1 + 3) to s _ o o go
    (still_carries w p s _ (p + 1 + 3) o (still_on w p (p + 1) (p + 1 + 3) _ _ _ (turns w p true o has.0) (passes w (p + 1) to d o has.1 (omega arith))))
    (gives_from w (p + 4) (p + 1 + 3) to s o o go e g)
unless_run w p to s false d o go has inside there g =
    (refl, still_carries w p s _ to (mach.Truth d ∷ o) (still_on w p (p + 1) to _ _ _ (turns w p false o has.0) (decides_run w (p + 1) to d o has.1 (omega arith) there)))

-- one that has to be false
if_run : (w : World) (p to : ℕ) (s : State) (b : Bool) (o : List mach.Value) (go : Outcome Value) → HasMarks (instructions w) p (leading to) (decide p true)
    → p + 3 < length (instructions w) → to < length (instructions w) → Gives w (p + 3) s o to o go → Gives w p s (mach.Truth b ∷ o) to o (cond b (outcomes.Gives (values.Truth b)) go)
if_run w p to s true o go has inside there g = (refl, still_carries w p s _ to (mach.Truth true ∷ o) (decides_run w p to true o has inside there))
if_run w p to s false o go has inside there g = gives_after w p (p + 3) to s _ o o go (still_carries w p s _ (p + 3) o (passes w p to true o has inside)) g

and_turned : (b : Bool) (go : Outcome Value) → cond b go (outcomes.Gives (values.Truth false)) ≡ cond (not b) (outcomes.Gives (values.Truth b)) go
and_turned true go = refl
and_turned false go = refl

between_runs : (w : World) (junction : JunctionKind) (p to : ℕ) (s : State) (v : Value) (o : List mach.Value) (go : Outcome Value) → HasMarks (instructions w) p (leading to) (between junction p)
    → p + length (between junction p) < length (instructions w) → to < length (instructions w) → Gives w (p + length (between junction p)) s o to o go
    → Gives w p s (machine_value v ∷ o) to o (after (truth_in v) (λ b. cond (decides junction b) (outcomes.Gives v) go))
between_runs w junctions.And p to s (values.Truth b) o go has inside there g =
    subst (λ (r : Outcome Value). Gives w p s (mach.Truth b ∷ o) to o r) (and_turned b go) (unless_run w p to s b false o go has inside there g)
between_runs w junctions.Or p to s (values.Truth b) o go has inside there g = if_run w p to s b o go has inside there g
between_runs w junction p to s v o go has inside there g = tt

implies_runs : (w : World) (p to : ℕ) (s : State) (v : Value) (o : List mach.Value) (go : Outcome Value) → HasMarks (instructions w) p (leading to) (decide_unless p true)
    → p + 4 < length (instructions w) → to < length (instructions w) → Gives w (p + 4) s o to o go
    → Gives w p s (machine_value v ∷ o) to o (after (truth_in v) (λ b. cond b go (outcomes.Gives (values.Truth true))))
implies_runs w p to s (values.Truth b) o go has inside there g = unless_run w p to s b true o go has inside there g
implies_runs w p to s v o go has inside there g = tt

-- ---- locals

pub get_set_same : {A : Type 0} (l : List A) (s : ℕ) (x : A) → s < length l → slice_get (slice_set l s x) s ≡ Some x
get_set_same [] s x lt = absurd (omega arith)
get_set_same (y ∷ l) zero x lt = refl
get_set_same (y ∷ l) (suc s) x lt = get_set_same l s x (omega arith)

pub get_set_other : {A : Type 0} (l : List A) (s n : ℕ) (x : A) → n ≢ s → slice_get (slice_set l s x) n ≡ slice_get l n
get_set_other [] s n x other = refl
get_set_other (y ∷ l) zero zero x other = absurd (other refl)
get_set_other (y ∷ l) zero (suc n) x other = refl
get_set_other (y ∷ l) (suc s) zero x other = refl
get_set_other (y ∷ l) (suc s) (suc n) x other = get_set_other l s n x (λ e. other (ap suc e))

-- the scratch local is no slot
pub slot_other : (s n : ℕ) → slot s n ≢ s
slot_other s n = grind (arith, nat_tests)

pub slot_same : (s m n : ℕ) → slot s m ≡ slot s n → m ≡ n
slot_same s m n e = grind (arith, nat_tests)

covers_scratch : (w : World) (s : State) (l : List mach.Value) (x : mach.Value) → Covers w s l → Covers w s (slice_set l w.scratch x)
covers_scratch w s l x c = record {
  each = λ n v e. get_set_other l w.scratch (slot w.scratch n) x (slot_other w.scratch n) ∙ c.each n v e;
  long = length-set l w.scratch x ∙ c.long;
}

local_gives : (w : World) (p n : ℕ) (s : State) (o : List mach.Value) (r : Option Value) → Simple s → slice_get (instructions w) p ≡ Some (i.Get (slot w.scratch n)) → s.locals n ≡ r → Gives w p s o (p + 1) o (value_of_local r)
local_gives w p n s o None simple h e = tt
local_gives w p n s o (Some v) simple h e = (
  simple.each n v e,
  record {
    by = λ l c. record {
      locals = l;
      covers = c;
      leads = leads_silent w p (p + 1) l l o (machine_value v ∷ o) s.text (i.Get (slot w.scratch n)) h (ap (λ (y : Option mach.Value). given y (λ x. leaves w.heap (frame w p l o) (x ∷ o))) (c.each n v e));
    };
  },
)

-- ---- links

-- pops the right operand into the scratch local and pushes it again
saves : (w : World) (q p' : ℕ) (s : State) (x : mach.Value) (o o' : List mach.Value) → slice_get (instructions w) q ≡ Some (i.Set w.scratch) → slice_get (instructions w) (q + 1) ≡ Some (i.Get w.scratch)
    → ((l : List mach.Value) (t : List ℕ) → slice_get l w.scratch ≡ Some x → Leads w (point (q + 1 + 1) l (x ∷ o) t) (point p' l o' t)) → Carries w q s (x ∷ o) p' s o'
saves w q p' s x o o' set get rest = record {
  by = λ l c.
      let t = s.text in
      let l1 = slice_set l w.scratch x in
      let inside = w.sets q w.scratch set in
      let lt : w.scratch < length l = omega (arith, c.long, inside) in
      let held = get_set_same l w.scratch x lt in
      record {
        locals = l1;
        covers = covers_scratch w s l x c;
        leads =
            leads_on w (point q l (x ∷ o) t) (point (q + 1) l1 o t) (point p' l1 o' t)
            (leads_silent w q (q + 1) l l1 (x ∷ o) o t (i.Set w.scratch) set (ap (λ (b : Bool). demand b (Goes w.heap (frame w (q + 1) l1 o) [])) (below w.scratch (length l) lt)))
            (leads_on w (point (q + 1) l1 o t) (point (q + 1 + 1) l1 (x ∷ o) t) (point p' l1 o' t) (gets w (q + 1) l1 x o t get held) (rest l1 t held));
      };
}
  where
    gets : (w : World) (q : ℕ) (l : List mach.Value) (x : mach.Value) (o : List mach.Value) (t : List ℕ) → slice_get (instructions w) q ≡ Some (i.Get w.scratch) → slice_get l w.scratch ≡ Some x → Leads w (point q l o t) (point (q + 1) l (x ∷ o) t)
    gets w q l x o t h e = leads_silent w q (q + 1) l l o (x ∷ o) t (i.Get w.scratch) h (ap (λ (y : Option mach.Value). given y (λ v. leaves w.heap (frame w q l o) (v ∷ o))) e)

keep_long : (s p : ℕ) (c : Comparison) → length (keep s p c) ≡ length (compare c) + 7
keep_long s p c =
    let tail = decide_unless (p + (2 + length (compare c))) false ++ Fixed (i.Get s) ∷ [] in
    omega (arith, length-append (fixed (compare c)) tail, fixed_long (compare c))

-- goes on with the right operand where a comparison is true
kept_by : (w : World) (q to q4 : ℕ) (s : State) (x y : mach.Value) (o : List mach.Value) (b : Bool) (go : Outcome Value) → slice_get (instructions w) q ≡ Some (i.Set w.scratch) → slice_get (instructions w) (q + 1) ≡ Some (i.Get w.scratch)
    → Still w (q + 1 + 1) (x ∷ y ∷ o) q4 (mach.Truth b ∷ o) → HasMarks (instructions w) q4 (leading to) (decide_unless q4 false) → slice_get (instructions w) (q4 + 4) ≡ Some (i.Get w.scratch)
    → q4 + 4 < length (instructions w) → to < length (instructions w) → Gives w (q4 + 4 + 1) s (x ∷ o) to o go
    → Gives w q s (x ∷ y ∷ o) to o (cond b go (outcomes.Gives (values.Truth false)))
kept_by w q to q4 s x y o true go set get told deciding getting room there g =
    let place : q4 + 1 + 3 ≡ q4 + 4 = omega arith in
    let passed : Still w (q4 + 1) (mach.Truth false ∷ o) (q4 + 4) o = subst (λ (n : ℕ). Still w (q4 + 1) (mach.Truth false ∷ o) n o) place (passes w (q4 + 1) to false o deciding.1 (omega (arith, room))) in
    gives_after w q (q4 + 4 + 1) to s (x ∷ y ∷ o) (x ∷ o) o go
    (saves w q (q4 + 4 + 1) s x (y ∷ o) (x ∷ o) set get (λ l t held.
    leads_on w (point (q + 1 + 1) l (x ∷ y ∷ o) t) (point (q4 + 4) l o t) (point (q4 + 4 + 1) l (x ∷ o) t)
    ((still_on w (q + 1 + 1) q4 (q4 + 4) _ (mach.Truth true ∷ o) o told (still_on w q4 (q4 + 1) (q4 + 4) _ (mach.Truth false ∷ o) o (turns w q4 true o deciding.0) passed)).by l t)
    (leads_silent w (q4 + 4) (q4 + 4 + 1) l l o (x ∷ o) t (i.Get w.scratch) getting (ap (λ (z : Option mach.Value). given z (λ v. leaves w.heap (frame w (q4 + 4) l o) (v ∷ o))) held))))
    g
kept_by w q to q4 s x y o false go set get told deciding getting room there g = (
  refl,
  saves w q to s x (y ∷ o) (mach.Truth false ∷ o) set get (λ l t held.
      (still_on w (q + 1 + 1) q4 to _ (mach.Truth false ∷ o) (mach.Truth false ∷ o) told
      (still_on w q4 (q4 + 1) to _ (mach.Truth true ∷ o) (mach.Truth false ∷ o) (turns w q4 false o deciding.0) (decides_run w (q4 + 1) to false o deciding.1 (omega (arith, room)) there))).by l t),
)

kept_runs : (w : World) (q to : ℕ) (s : State) (c : Comparison) (x y : mach.Value) (o : List mach.Value) (b : Bool) (go : Outcome Value) → HasMarks (instructions w) q (leading to) (keep w.scratch q c)
    → q + length (keep w.scratch q c) < length (instructions w) → to < length (instructions w)
    → Still w (q + 1 + 1) (x ∷ y ∷ o) (q + 1 + 1 + length (compare c)) (mach.Truth b ∷ o)
    → Gives w (q + length (keep w.scratch q c)) s (x ∷ o) to o go
    → Gives w q s (x ∷ y ∷ o) to o (cond b go (outcomes.Gives (values.Truth false)))
kept_runs w q to s c x y o b go has close there told g =
    let size = keep_long w.scratch q c in
    let q4 = q + (2 + length (compare c)) in
    let place : q + 1 + 1 + length (compare c) ≡ q4 = omega arith in
    let last = Fixed (i.Get w.scratch) ∷ [] in
    let tail = decide_unless q4 false ++ last in
    let behind = marks_back (instructions w) (q + 1 + 1) (leading to) (fixed (compare c)) tail has.1.1 in
    let at_tail = has_moved (instructions w) (q + 1 + 1 + length (fixed (compare c))) q4 (instructions_of (leading to) tail) (ap (λ (n : ℕ). q + 1 + 1 + n) (fixed_long (compare c)) ∙ place) behind in
    let deciding = marks_front (instructions w) q4 (leading to) (decide_unless q4 false) last at_tail in
    let getting = (marks_back (instructions w) q4 (leading to) (decide_unless q4 false) last at_tail).0 in
    let room : q4 + 4 < length (instructions w) = omega (arith, size, close) in
    let ends : q + length (keep w.scratch q c) ≡ q4 + 4 + 1 = omega (arith, size) in
    kept_by w q to q4 s x y o b go has.0 has.1.0 (subst (λ (n : ℕ). Still w (q + 1 + 1) (x ∷ y ∷ o) n (mach.Truth b ∷ o)) place told) deciding getting room there
    (gives_from w (q + length (keep w.scratch q c)) (q4 + 4 + 1) to s (x ∷ o) o go ends g)

-- goes on by what a comparison tells
tells_then : (w : World) (q to : ℕ) (s : State) (c : Comparison) (x y : mach.Value) (o : List mach.Value) (r : Outcome Bool) (go : Outcome Value) → HasMarks (instructions w) q (leading to) (keep w.scratch q c)
    → q + length (keep w.scratch q c) < length (instructions w) → to < length (instructions w)
    → Tells w (q + 1 + 1) (x ∷ y ∷ o) (q + 1 + 1 + length (compare c)) o r
    → Gives w (q + length (keep w.scratch q c)) s (x ∷ o) to o go
    → Gives w q s (x ∷ y ∷ o) to o (after r (λ b. cond b go (outcomes.Gives (values.Truth false))))
tells_then w q to s c x y o (outcomes.Gives b) go has close there told g = kept_runs w q to s c x y o b go has close there told g
tells_then w q to s c x y o (Wrong fault) go has close there told g = tt
tells_then w q to s c x y o TooDeep go has close there told g = tt
tells_then w q to s c x y o Stuck go has close there told g = tt

-- what the last comparison tells is the chain's value
tells_last : (w : World) (q to : ℕ) (s : State) (o1 o : List mach.Value) (r : Outcome Bool) → Tells w q o1 to o r
    → Gives w q s o1 to o (after r (λ b. cond b (outcomes.Gives (values.Truth true)) (outcomes.Gives (values.Truth false))))
tells_last w q to s o1 o (outcomes.Gives true) told = (refl, still_carries w q s o1 to (mach.Truth true ∷ o) told)
tells_last w q to s o1 o (outcomes.Gives false) told = (refl, still_carries w q s o1 to (mach.Truth false ∷ o) told)
tells_last w q to s o1 o (Wrong fault) told = tt
tells_last w q to s o1 o TooDeep told = tt
tells_last w q to s o1 o Stuck told = tt

here : (w : World) (p to : ℕ) (s : State) (v : Value) (o : List mach.Value) → is_simple v ≡ true → p ≡ to → Gives w p s (machine_value v ∷ o) to o (outcomes.Gives v)
here w p to s v o simple e = gives_to w p p to s (machine_value v ∷ o) o (outcomes.Gives v) e (simple, still_carries w p s (machine_value v ∷ o) p (machine_value v ∷ o) (still_none w p (machine_value v ∷ o)))

-- ---- expressions

mutual
  pub expr_runs : (w : World) (m : Meaning) (s : State) → Simple s → (e : Expr) → is_bounded e ≡ true → (p : ℕ) (o : List mach.Value) → HasAt (instructions w) p (expr_code w.scratch p e)
      → p + length (expr_code w.scratch p e) < length (instructions w) → Gives w p s o (p + length (expr_code w.scratch p e)) o (evaluate m s e)
  expr_runs w m s simple (Number n) bounded p o has inside = (refl, still_carries w p s o (p + 1) (mach.Number n ∷ o) (still_one w p (p + 1) o (mach.Number n ∷ o) (i.Number n) has.0 (λ l. refl)))
  expr_runs w m s simple (Truth b) bounded p o has inside = (refl, still_carries w p s o (p + 1) (mach.Truth b ∷ o) (still_one w p (p + 1) o (mach.Truth b ∷ o) (i.Truth b) has.0 (λ l. refl)))
  expr_runs w m s simple (Character c) bounded p o has inside = (refl, still_carries w p s o (p + 1) (mach.Char c ∷ o) (still_one w p (p + 1) o (mach.Char c ∷ o) (i.Char c) has.0 (λ l. refl)))
  expr_runs w m s simple (Local n) bounded p o has inside = local_gives w p n s o (s.locals n) simple has.0 refl
  expr_runs w m s simple (Negate range operand) bounded p o has inside =
      let k = both _ _ bounded in
      let a = expr_code w.scratch p operand in
      let instruction = i.Unary (unaries.Negate (range_of range)) in
      let q = p + length a in
      let far : q + 1 ≡ p + length (a ++ instruction ∷ []) = omega (arith, length-append a (instruction ∷ [])) in
      gives_to w p (q + 1) (p + length (a ++ instruction ∷ [])) s o o _ far
      (gives_bind w p q (q + 1) s o o o (evaluate m s operand) _ (expr_runs w m s simple operand k.1 p o (has_front (instructions w) p a _ has) (omega (arith, far, inside)))
      (λ v sv. unary_gives w q s (machine_value v) o (unaries.Negate (range_of range)) _ (has_back (instructions w) p a _ has).0 (negate_same range k.0 v)))
  expr_runs w m s simple (Not operand) bounded p o has inside =
      let a = expr_code w.scratch p operand in
      let instruction = i.Unary unaries.Not in
      let q = p + length a in
      let far : q + 1 ≡ p + length (a ++ instruction ∷ []) = omega (arith, length-append a (instruction ∷ [])) in
      gives_to w p (q + 1) (p + length (a ++ instruction ∷ [])) s o o _ far
      (gives_bind w p q (q + 1) s o o o (evaluate m s operand) _ (expr_runs w m s simple operand bounded p o (has_front (instructions w) p a _ has) (omega (arith, far, inside)))
      (λ v sv. unary_gives w q s (machine_value v) o unaries.Not _ (has_back (instructions w) p a _ has).0 (not_same v)))
  expr_runs w m s simple (Sum range first rest) bounded p o has inside =
      let k = both _ _ bounded in
      let a = expr_code w.scratch p first in
      let q = p + length a in
      let b = addends_code w.scratch q range rest in
      let whole : q + length b ≡ p + length (a ++ b) = omega (arith, length-append a b) in
      gives_to w p (q + length b) (p + length (a ++ b)) s o o _ whole
      (gives_bind w p q (q + length b) s o o o (evaluate m s first) _ (expr_runs w m s simple first k.0 p o (has_front (instructions w) p a b has) (omega (arith, whole, inside)))
      (λ v sv. addends_run w m s simple range rest k.1 q v sv o (has_back (instructions w) p a b has) (omega (arith, whole, inside))))
  expr_runs w m s simple (Product range first rest) bounded p o has inside =
      let k = both _ _ bounded in
      let a = expr_code w.scratch p first in
      let q = p + length a in
      let b = factors_code w.scratch q range rest in
      let whole : q + length b ≡ p + length (a ++ b) = omega (arith, length-append a b) in
      gives_to w p (q + length b) (p + length (a ++ b)) s o o _ whole
      (gives_bind w p q (q + length b) s o o o (evaluate m s first) _ (expr_runs w m s simple first k.0 p o (has_front (instructions w) p a b has) (omega (arith, whole, inside)))
      (λ v sv. factors_run w m s simple range rest k.1 q v sv o (has_back (instructions w) p a b has) (omega (arith, whole, inside))))
  expr_runs w m s simple (Iff first rest) bounded p o has inside =
      let k = both _ _ bounded in
      let a = expr_code w.scratch p first in
      let q = p + length a in
      let b = equivalences_code w.scratch q rest in
      let whole : q + length b ≡ p + length (a ++ b) = omega (arith, length-append a b) in
      gives_to w p (q + length b) (p + length (a ++ b)) s o o _ whole
      (gives_bind w p q (q + length b) s o o o (evaluate m s first) _ (expr_runs w m s simple first k.0 p o (has_front (instructions w) p a b has) (omega (arith, whole, inside)))
      (λ v sv. equivalences_run w m s simple rest k.1 q v sv o (has_back (instructions w) p a b has) (omega (arith, whole, inside))))
  expr_runs w m s simple (Junction junction first rest) bounded p o has inside =
      let k = both _ _ bounded in
      let a = expr_code w.scratch p first in
      let q = p + length a in
      let ms = junction_marks w.scratch q junction rest in
      let to = q + length ms in
      let b = run_code q ms in
      let whole : to ≡ p + length (a ++ b) = omega (arith, length-append a b, instructions_long (leading to) ms) in
      gives_to w p to (p + length (a ++ b)) s o o _ whole
      (gives_bind w p q to s o o o (evaluate m s first) _ (expr_runs w m s simple first k.0 p o (has_front (instructions w) p a b has) (omega (arith, whole, inside)))
      (λ v sv. junction_run w m s simple junction rest k.1 q to v sv o (has_back (instructions w) p a b has) refl (omega (arith, whole, inside))))
  expr_runs w m s simple (Implies first rest) bounded p o has inside =
      let k = both _ _ bounded in
      let a = expr_code w.scratch p first in
      let q = p + length a in
      let ms = implication_marks w.scratch q rest in
      let to = q + length ms in
      let b = run_code q ms in
      let whole : to ≡ p + length (a ++ b) = omega (arith, length-append a b, instructions_long (leading to) ms) in
      gives_to w p to (p + length (a ++ b)) s o o _ whole
      (gives_bind w p q to s o o o (evaluate m s first) _ (expr_runs w m s simple first k.0 p o (has_front (instructions w) p a b has) (omega (arith, whole, inside)))
      (λ v sv. implications_run w m s simple rest k.1 q to v sv o (has_back (instructions w) p a b has) refl (omega (arith, whole, inside))))
  expr_runs w m s simple (Chain first rest) bounded p o has inside =
      let k = both _ _ bounded in
      let a = expr_code w.scratch p first in
      let q = p + length a in
      let front = opening rest in
      let z = q + length front in
      let others = links_marks w.scratch z rest in
      let ms = front ++ others in
      let to = q + length ms in
      let b = run_code q ms in
      let whole : to ≡ p + length (a ++ b) = omega (arith, length-append a b, instructions_long (leading to) ms) in
      let ends : z + length others ≡ to = omega (arith, length-append front others) in
      let at_run = has_back (instructions w) p a b has in
      gives_to w p to (p + length (a ++ b)) s o o _ whole
      (gives_bind w p q to s o o o (evaluate m s first) _ (expr_runs w m s simple first k.0 p o (has_front (instructions w) p a b has) (omega (arith, whole, inside)))
      (λ v sv. links_run w m s simple rest k.1 q z to v sv o refl (marks_front (instructions w) q (leading to) front others at_run) (marks_back (instructions w) q (leading to) front others at_run) ends (omega (arith, whole, inside))))
  expr_runs w m s simple (As source target operand) bounded p o has inside =
      let a = expr_code w.scratch p operand in
      let b = from_kind source in
      let c = to_kind target in
      let q = p + length a in
      let whole : q + length b + length c ≡ p + length (a ++ (b ++ c)) = omega (arith, length-append a (b ++ c), length-append b c) in
      let behind = has_back (instructions w) p a (b ++ c) has in
      gives_to w p (q + length b + length c) (p + length (a ++ (b ++ c))) s o o _ whole
      (gives_bind w p q (q + length b + length c) s o o o (evaluate m s operand) _ (expr_runs w m s simple operand bounded p o (has_front (instructions w) p a (b ++ c) has) (omega (arith, whole, inside)))
      (λ v sv. from_kind_runs w source q (q + length b + length c) s v o (as_kind target) (has_front (instructions w) q b c behind)
      (λ n. to_kind_runs w target (q + length b) s n o (has_back (instructions w) q b c behind))))

  addends_run : (w : World) (m : Meaning) (s : State) → Simple s → (range : Range) (rest : Addends) → are_bounded_addends range rest ≡ true → (p : ℕ) (v : Value) → is_simple v ≡ true → (o : List mach.Value)
      → HasAt (instructions w) p (addends_code w.scratch p range rest) → p + length (addends_code w.scratch p range rest) < length (instructions w)
      → Gives w p s (machine_value v ∷ o) (p + length (addends_code w.scratch p range rest)) o (evaluate_addends m s range v rest)
  addends_run w m s simple range no_addend bounded p v sv o has inside = here w p (p + 0) s v o sv (omega arith)
  addends_run w m s simple range (addend operator operand rest) bounded p v sv o has inside =
      let k = three _ _ _ bounded in
      let value = expr_code w.scratch p operand in
      let q = p + length value in
      let others = addends_code w.scratch (q + 1) range rest in
      let whole : q + 1 + length others ≡ p + length (value ++ (adds operator range ∷ others)) = omega (arith, length-append value (adds operator range ∷ others)) in
      let behind = has_back (instructions w) p value (adds operator range ∷ others) has in
      gives_to w p (q + 1 + length others) _ s (machine_value v ∷ o) o _ whole
      (gives_bind w p q (q + 1 + length others) s (machine_value v ∷ o) (machine_value v ∷ o) o (evaluate m s operand) _
      (expr_runs w m s simple operand k.1 p (machine_value v ∷ o) (has_front (instructions w) p value _ has) (omega (arith, whole, inside)))
      (λ u su. gives_bind w q (q + 1) (q + 1 + length others) s (machine_value u ∷ machine_value v ∷ o) o o (added operator range v u) (λ x. evaluate_addends m s range x rest)
      (added_same operator range k.0 w q s v u o behind.0)
      (λ x sx. addends_run w m s simple range rest k.2 (q + 1) x sx o behind.1 (omega (arith, whole, inside)))))

  factors_run : (w : World) (m : Meaning) (s : State) → Simple s → (range : Range) (rest : Factors) → are_bounded_factors range rest ≡ true → (p : ℕ) (v : Value) → is_simple v ≡ true → (o : List mach.Value)
      → HasAt (instructions w) p (factors_code w.scratch p range rest) → p + length (factors_code w.scratch p range rest) < length (instructions w)
      → Gives w p s (machine_value v ∷ o) (p + length (factors_code w.scratch p range rest)) o (evaluate_factors m s range v rest)
  factors_run w m s simple range no_factor bounded p v sv o has inside = here w p (p + 0) s v o sv (omega arith)
  factors_run w m s simple range (factor operator operand rest) bounded p v sv o has inside =
      let k = three _ _ _ bounded in
      let value = expr_code w.scratch p operand in
      let q = p + length value in
      let others = factors_code w.scratch (q + 1) range rest in
      let whole : q + 1 + length others ≡ p + length (value ++ (multiplies operator range ∷ others)) = omega (arith, length-append value (multiplies operator range ∷ others)) in
      let behind = has_back (instructions w) p value (multiplies operator range ∷ others) has in
      gives_to w p (q + 1 + length others) _ s (machine_value v ∷ o) o _ whole
      (gives_bind w p q (q + 1 + length others) s (machine_value v ∷ o) (machine_value v ∷ o) o (evaluate m s operand) _
      (expr_runs w m s simple operand k.1 p (machine_value v ∷ o) (has_front (instructions w) p value _ has) (omega (arith, whole, inside)))
      (λ u su. gives_bind w q (q + 1) (q + 1 + length others) s (machine_value u ∷ machine_value v ∷ o) o o (multiplied operator range v u) (λ x. evaluate_factors m s range x rest)
      (multiplied_same operator range k.0 w q s v u o behind.0)
      (λ x sx. factors_run w m s simple range rest k.2 (q + 1) x sx o behind.1 (omega (arith, whole, inside)))))

  equivalences_run : (w : World) (m : Meaning) (s : State) → Simple s → (rest : Members) → are_bounded_members rest ≡ true → (p : ℕ) (v : Value) → is_simple v ≡ true → (o : List mach.Value)
      → HasAt (instructions w) p (equivalences_code w.scratch p rest) → p + length (equivalences_code w.scratch p rest) < length (instructions w)
      → Gives w p s (machine_value v ∷ o) (p + length (equivalences_code w.scratch p rest)) o (evaluate_equivalences m s v rest)
  equivalences_run w m s simple no_member bounded p v sv o has inside = here w p (p + 0) s v o sv (omega arith)
  equivalences_run w m s simple (member operand rest) bounded p v sv o has inside =
      let k = both _ _ bounded in
      let value = expr_code w.scratch p operand in
      let q = p + length value in
      let others = equivalences_code w.scratch (q + 1) rest in
      let whole : q + 1 + length others ≡ p + length (value ++ (i.Binary binaries.Same ∷ others)) = omega (arith, length-append value (i.Binary binaries.Same ∷ others)) in
      let behind = has_back (instructions w) p value (i.Binary binaries.Same ∷ others) has in
      gives_to w p (q + 1 + length others) _ s (machine_value v ∷ o) o _ whole
      (gives_bind w p q (q + 1 + length others) s (machine_value v ∷ o) (machine_value v ∷ o) o (evaluate m s operand) _
      (expr_runs w m s simple operand k.0 p (machine_value v ∷ o) (has_front (instructions w) p value _ has) (omega (arith, whole, inside)))
      (λ u su. gives_bind w q (q + 1) (q + 1 + length others) s (machine_value u ∷ machine_value v ∷ o) o o (equivalent v u) (λ x. evaluate_equivalences m s x rest)
      (equivalent_same w q s v u o behind.0)
      (λ x sx. equivalences_run w m s simple rest k.1 (q + 1) x sx o behind.1 (omega (arith, whole, inside)))))

  junction_run : (w : World) (m : Meaning) (s : State) → Simple s → (junction : JunctionKind) (rest : Members) → are_bounded_members rest ≡ true → (p to : ℕ) (v : Value) → is_simple v ≡ true → (o : List mach.Value)
      → HasMarks (instructions w) p (leading to) (junction_marks w.scratch p junction rest) → p + length (junction_marks w.scratch p junction rest) ≡ to → to < length (instructions w)
      → Gives w p s (machine_value v ∷ o) to o (evaluate_junction m s junction v rest)
  junction_run w m s simple junction no_member bounded p to v sv o has ends there = here w p to s v o sv (omega (arith, ends))
  junction_run w m s simple junction (member operand rest) bounded p to v sv o has ends there =
      let k = both _ _ bounded in
      let front = between junction p in
      let q = p + length front in
      let value = expr_code w.scratch q operand in
      let z = q + length value in
      let others = junction_marks w.scratch z junction rest in
      let size1 = length-append front (fixed value ++ others) in
      let size2 = length-append (fixed value) others in
      let whole : z + length others ≡ to = omega (arith, ends, size1, size2, fixed_long value) in
      let behind = marks_back (instructions w) p (leading to) front (fixed value ++ others) has in
      let at_value = marks_fixed (instructions w) q (leading to) value (marks_front (instructions w) q (leading to) (fixed value) others behind) in
      let at_others = has_moved (instructions w) (q + length (fixed value)) z (instructions_of (leading to) others) (ap (λ (n : ℕ). q + n) (fixed_long value)) (marks_back (instructions w) q (leading to) (fixed value) others behind) in
      between_runs w junction p to s v o (after (evaluate m s operand) (λ u. evaluate_junction m s junction u rest)) (marks_front (instructions w) p (leading to) front (fixed value ++ others) has) (omega (arith, whole, there)) there
      (gives_bind w q z to s o o o (evaluate m s operand) (λ u. evaluate_junction m s junction u rest) (expr_runs w m s simple operand k.0 q o at_value (omega (arith, whole, there)))
      (λ u su. junction_run w m s simple junction rest k.1 z to u su o at_others whole there))

  implications_run : (w : World) (m : Meaning) (s : State) → Simple s → (rest : Members) → are_bounded_members rest ≡ true → (p to : ℕ) (v : Value) → is_simple v ≡ true → (o : List mach.Value)
      → HasMarks (instructions w) p (leading to) (implication_marks w.scratch p rest) → p + length (implication_marks w.scratch p rest) ≡ to → to < length (instructions w)
      → Gives w p s (machine_value v ∷ o) to o (evaluate_implications m s v rest)
  implications_run w m s simple no_member bounded p to v sv o has ends there = here w p to s v o sv (omega (arith, ends))
  implications_run w m s simple (member operand rest) bounded p to v sv o has ends there =
      let k = both _ _ bounded in
      let front = decide_unless p true in
      let q = p + 4 in
      let value = expr_code w.scratch q operand in
      let z = q + length value in
      let others = implication_marks w.scratch z rest in
      let size1 = length-append front (fixed value ++ others) in
      let size2 = length-append (fixed value) others in
      let whole : z + length others ≡ to = omega (arith, ends, size1, size2, fixed_long value) in
      let behind = marks_back (instructions w) p (leading to) front (fixed value ++ others) has in
      let at_value = marks_fixed (instructions w) q (leading to) value (marks_front (instructions w) q (leading to) (fixed value) others behind) in
      let at_others = has_moved (instructions w) (q + length (fixed value)) z (instructions_of (leading to) others) (ap (λ (n : ℕ). q + n) (fixed_long value)) (marks_back (instructions w) q (leading to) (fixed value) others behind) in
      implies_runs w p to s v o (after (evaluate m s operand) (λ u. evaluate_implications m s u rest)) (marks_front (instructions w) p (leading to) front (fixed value ++ others) has) (omega (arith, whole, there)) there
      (gives_bind w q z to s o o o (evaluate m s operand) (λ u. evaluate_implications m s u rest) (expr_runs w m s simple operand k.0 q o at_value (omega (arith, whole, there)))
      (λ u su. implications_run w m s simple rest k.1 z to u su o at_others whole there))

  links_run : (w : World) (m : Meaning) (s : State) → Simple s → (rest : Links) → are_bounded_links rest ≡ true → (p z to : ℕ) (v : Value) → is_simple v ≡ true → (o : List mach.Value) → p + length (opening rest) ≡ z
      → HasMarks (instructions w) p (leading to) (opening rest) → HasMarks (instructions w) z (leading to) (links_marks w.scratch z rest) → z + length (links_marks w.scratch z rest) ≡ to → to < length (instructions w)
      → Gives w p s (machine_value v ∷ o) to o (evaluate_links m s v rest)
  links_run w m s simple no_link bounded p z to v sv o at begin has ends there =
      let far : p + 1 + 1 ≡ to = omega (arith, at, ends) in
      gives_to w p (p + 1 + 1) to s (machine_value v ∷ o) o (outcomes.Gives (values.Truth true)) far (
        refl,
        still_carries w p s (machine_value v ∷ o) (p + 1 + 1) (mach.Truth true ∷ o)
            (still_on w p (p + 1) (p + 1 + 1) (machine_value v ∷ o) o (mach.Truth true ∷ o)
            (still_one w p (p + 1) (machine_value v ∷ o) o i.Drop begin.0 (λ l. refl)) (still_one w (p + 1) (p + 1 + 1) o (mach.Truth true ∷ o) (i.Truth true) begin.1.0 (λ l. refl))),
      )
  links_run w m s simple (link c operand no_link) bounded p z to v sv o at begin has ends there =
      let k = both _ _ bounded in
      let start : p ≡ z = omega (arith, at) in
      let value = expr_code w.scratch z operand in
      let q = z + length value in
      let test = fixed (compare c) in
      let behind = marks_back (instructions w) z (leading to) (fixed value) (test ++ []) has in
      let at_test = has_moved (instructions w) (z + length (fixed value)) q (instructions_of (leading to) (test ++ [])) (ap (λ (n : ℕ). z + n) (fixed_long value)) behind in
      let comparing = marks_fixed (instructions w) q (leading to) (compare c) (marks_front (instructions w) q (leading to) test [] at_test) in
      let far : q + length (compare c) ≡ to = omega (arith, ends, length-append (fixed value) (test ++ []), length-append test [], fixed_long value, fixed_long (compare c)) in
      gives_from w z p to s (machine_value v ∷ o) o _ (sym start)
      (gives_to w z (q + length (compare c)) to s (machine_value v ∷ o) o _ far
      (gives_bind w z q (q + length (compare c)) s (machine_value v ∷ o) (machine_value v ∷ o) o (evaluate m s operand) _
      (expr_runs w m s simple operand k.0 z (machine_value v ∷ o) (marks_fixed (instructions w) z (leading to) value (marks_front (instructions w) z (leading to) (fixed value) (test ++ []) has)) (omega (arith, far, there)))
      (λ u su. tells_last w q (q + length (compare c)) s _ o (compared c v u) (compare_tells w c q v u o sv su comparing))))
  links_run w m s simple (link c operand (link second other rest)) bounded p z to v sv o at begin has ends there =
      let k = both _ _ bounded in
      let start : p ≡ z = omega (arith, at) in
      let value = expr_code w.scratch z operand in
      let q = z + length value in
      let test = keep w.scratch q c in
      let y = q + length test in
      let others = links_marks w.scratch y (link second other rest) in
      let behind = marks_back (instructions w) z (leading to) (fixed value) (test ++ others) has in
      let at_test = has_moved (instructions w) (z + length (fixed value)) q (instructions_of (leading to) (test ++ others)) (ap (λ (n : ℕ). z + n) (fixed_long value)) behind in
      let keeping = marks_front (instructions w) q (leading to) test others at_test in
      let at_others = marks_back (instructions w) q (leading to) test others at_test in
      let whole : y + length others ≡ to = omega (arith, ends, length-append (fixed value) (test ++ others), length-append test others, fixed_long value) in
      let zero : y + 0 ≡ y = omega arith in
      let tail = decide_unless (q + (2 + length (compare c))) false ++ Fixed (i.Get w.scratch) ∷ [] in
      let comparing = marks_fixed (instructions w) (q + 1 + 1) (leading to) (compare c) (marks_front (instructions w) (q + 1 + 1) (leading to) (fixed (compare c)) tail keeping.1.1) in
      gives_from w z p to s (machine_value v ∷ o) o _ (sym start)
      (gives_bind w z q to s (machine_value v ∷ o) (machine_value v ∷ o) o (evaluate m s operand) _
      (expr_runs w m s simple operand k.0 z (machine_value v ∷ o) (marks_fixed (instructions w) z (leading to) value (marks_front (instructions w) z (leading to) (fixed value) (test ++ others) has)) (omega (arith, whole, there)))
      (λ u su. tells_then w q to s c (machine_value u) (machine_value v) o (compared c v u) (evaluate_links m s u (link second other rest)) keeping (omega (arith, whole, there)) there
      (compare_tells w c (q + 1 + 1) v u o sv su comparing)
      (links_run w m s simple (link second other rest) k.1 y y to u su o zero tt at_others whole there)))
