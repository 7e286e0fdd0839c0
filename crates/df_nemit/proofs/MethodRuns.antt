-- The machine follows methods, and calls of any depth.
use Rattle.std.proofs.Common.{◌≡◌, ℕ, zero, suc, pos, ◌+◌, ◌-◌, ◌<◌, ◌≤◌, ◌&&◌, Bool, true, cond, List, [], ◌∷◌, ◌++◌, length, map, max, reverse, replicate, take, Option, Some, None, refl, sym, ap, ◌∙◌, subst, arith, append_assoc, length-append}
use Rattle.std.specs.Prelude.{slice_get, nat_eq}
use Rattle.std.specs.List.{list_all}
use Rattle.std.specs.Option.{option_map_or}
use Rattle.std.proofs.lemmas.Bool.Decides.{nat_tests}
use Rattle.std.proofs.lemmas.List.{length-map, length-reverse, length-replicate, reverse-reverse, take_at}
use Rattle.df_meaning.specs.Value.{Value}
use Rattle.df_nplain.specs.Expr.{Expr}
use Rattle.df_nplain.specs.Stmt.{Stmts, While}
use Rattle.df_nplain.specs.Plain as plain
use Rattle.df_nplain.specs.Bounded.{is_bounded, is_bounded_kind, are_bounded_stmts, is_bounded_method, is_bounded_program}
use Rattle.df_nplain.specs.Counts.{are_stmts, has_counts}
use Rattle.df_nplain.specs.Short.{are_short_stmts, has_short_texts}
use Rattle.df_nplain.specs.Outcome.{Outcome, Wrong, TooDeep, Stuck, after}
use Rattle.df_nplain.specs.Outcome as outcomes
use Rattle.df_nplain.specs.State.{State, begin}
use Rattle.df_nplain.specs.Meaning.{Meaning, Flow, Returned, Loop}
use Rattle.df_nplain.specs.Meaning as flows
use Rattle.df_nplain.specs.Evaluation.{truth_in, evaluate}
use Rattle.df_nplain.specs.Execution.{execute_all}
use Rattle.df_nplain.specs.Whole.{values_from, results_of, end_of, run_method, behind_turn, turn_by, turns_with, call_by, whole}
use Rattle.df_nmach.specs.declared.instruction.Instruction.{Instruction}
use Rattle.df_nmach.specs.declared.instruction.Instruction.TheVariants as i
use Rattle.df_nmach.specs.Value as mach
use Rattle.df_nmach.specs.State.{Method, Code, Heap, Frame, Final}
use Rattle.df_nmach.specs.State as machine
use Rattle.df_nmach.specs.Step.{Effect, Goes, Returns, given, demand, leaves, effect, stepped, Stepped, On, Ended, beginning}
use Rattle.df_nmach.specs.Step as step
use Rattle.df_nmach.specs.Run.{and_then, machine_run, begun, start_of, NeverFaults}
use Rattle.df_nmach.proofs.Runs.{run_add, ends_for_good}
use Rattle.df_nemit.specs.Code.{Exits, Fixed, unknown, with_outside, with_ending, leaving_at, fixed, slot, expr_code, stmt_marks, stmts_marks, gets, scratch_of, body_code, highest, method_code, plain_code}
use Rattle.df_nemit.specs.Correct.{is_simple, called, returned, Reaches, DoesWhat}
use Rattle.df_nemit.specs.Ending.{machine_value}
use Rattle.df_nemit.proofs.Fills.{instructions_of, instructions_long, fixed_long, leaving_long, leaving_filled}
use Rattle.df_nemit.proofs.StatementsEmitted.{highest_least}
use Rattle.df_nemit.proofs.Reach.{HasAt, has_front, has_back, has_moved, HasMarks, marks_front, marks_back, marks_fixed, World, instructions, Point, point, frame, at, Leads, leads_silent, leads_none, next_is, Covers, Simple, Carries, still_carries, carries_on}
use Rattle.df_nemit.proofs.ExpressionRuns.{both, three, expr_runs}
use Rattle.df_nemit.proofs.Places.{pushed}
use Rattle.df_nemit.proofs.Lifts.{Flows, flows_to, flows_after, flows_value, Answers, Calls}
use Rattle.df_nemit.proofs.UpdateRuns.{Of, at_most, pushed_is, method_there}
use Rattle.df_nemit.proofs.StatementRuns.{Inside, Turns, jumps, guard_takes, stmts_run}

-- ---- results

-- where the results have values, they are pushed
abbrev Results : World → ℕ → State → List mach.Value → ℕ → ℕ → Outcome (List Value) → Type 0
Results w p s o n count (outcomes.Gives vs) = (list_all is_simple vs ≡ true) × (length vs ≡ count) × Carries w p s o n s (pushed vs o)
Results w p s o n count (Wrong fault) = Unit {0}
Results w p s o n count TooDeep = Unit {0}
Results w p s o n count Stuck = Unit {0}

results_more : (w : World) (p p1 n : ℕ) (s : State) (o : List mach.Value) (v : Value) (count : ℕ) (r : Outcome (List Value)) → is_simple v ≡ true → Carries w p s o p1 s (machine_value v ∷ o) → Results w p1 s (machine_value v ∷ o) n count r
    → Results w p s o n (suc count) (after r (λ vs. outcomes.Gives (v ∷ vs)))
results_more w p p1 n s o v count (outcomes.Gives vs) sv a b = (ap (λ (x : Bool). x && list_all is_simple vs) sv ∙ b.0, ap suc b.1, carries_on w p p1 n s s s o (machine_value v ∷ o) (pushed vs (machine_value v ∷ o)) a b.2)
results_more w p p1 n s o v count (Wrong fault) sv a b = tt
results_more w p p1 n s o v count TooDeep sv a b = tt
results_more w p p1 n s o v count Stuck sv a b = tt

early_slot : (s n : ℕ) → n < s → slot s n ≡ n
early_slot s n lt = grind (arith, nat_tests)

get_carries : (w : World) (p n : ℕ) (s : State) (o : List mach.Value) (v : Value) → n < w.scratch → slice_get (instructions w) p ≡ Some (i.Get n) → s.locals n ≡ Some v → Carries w p s o (p + 1) s (machine_value v ∷ o)
get_carries w p n s o v lt h e = record {
  by = λ l c. record {
    locals = l;
    covers = c;
    leads = leads_silent w p (p + 1) l l o (machine_value v ∷ o) s.text (i.Get n) h (ap (λ (y : Option mach.Value). given y (λ x. leaves w.heap (frame w p l o) (x ∷ o))) (ap (λ (k : ℕ). slice_get l k) (sym (early_slot w.scratch n lt)) ∙ c.each n v e));
  };
}

results_run : (w : World) (s : State) → Simple s → (count from p : ℕ) (o : List mach.Value) → from + count ≤ w.scratch → HasAt (instructions w) p (gets from count) → Results w p s o (p + count) count (values_from s from count)
results_run w s simple zero from p o le has = (refl, refl, record { by = λ l c. record { locals = l; covers = c; leads = subst (λ (n : ℕ). Leads w (point p l o s.text) (point n l o s.text)) (let e : p ≡ p + 0 = omega arith in e) (leads_none w (point p l o s.text)) } })
results_run w s simple (suc count) from p o le has =
    by_value (s.locals from) refl (λ v. results_run w s simple count (suc from) (p + 1) (machine_value v ∷ o) (omega (arith, le)) has.1)
  where
    by_value : (x : Option Value) → s.locals from ≡ x → ((v : Value) → Results w (p + 1) s (machine_value v ∷ o) (p + 1 + count) count (values_from s (suc from) count))
        → Results w p s o (p + suc count) (suc count) (option_map_or (λ v. after (values_from s (suc from) count) (λ vs. outcomes.Gives (v ∷ vs))) x Stuck)
    by_value None e rest = tt
    by_value (Some v) e rest =
        let far : p + 1 + count ≡ p + suc count = omega arith in
        let lt : from < w.scratch = omega (arith, le) in
        subst (λ (n : ℕ). Results w p s o n (suc count) (after (values_from s (suc from) count) (λ vs. outcomes.Gives (v ∷ vs)))) far
        (results_more w p (p + 1) (p + 1 + count) s o v count (values_from s (suc from) count) (simple.each from v e) (get_carries w p from s o v lt has.0 e) (rest v))

-- returns them to what waits
returns : (w : World) (vs : List Value) (l : List mach.Value) (q n : ℕ) (t : List ℕ) → length vs ≡ n → slice_get (instructions w) q ≡ Some (i.Return n)
    → machine_run w.code 1 (at w (point q l (pushed vs []) t)) ≡ returned (map machine_value vs) w.heap w.waiting t
returns w vs l q n t long h =
    let xs = map machine_value vs in
    let all = pushed vs [] in
    let is : all ≡ reverse xs ++ [] = pushed_is vs [] in
    let turned : length (reverse xs) ≡ n = length-reverse xs ∙ length-map vs machine_value ∙ long in
    let enough : n ≤ length all = omega (arith, ap length is, length-append (reverse xs) [], turned) in
    let taken : take n all ≡ reverse xs = ap (λ (z : List mach.Value). take n z) is ∙ take_at (reverse xs) [] n turned in
    let does : effect w.code w.method w.heap (frame w q l all) (i.Return n) all ≡ Returns (reverse xs) =
    ap (λ (b : Bool). demand b (Returns (take n all))) (at_most n (length all) enough) ∙ ap (λ (x : List mach.Value). Returns x) taken in
    ap (λ (x : Effect). and_then (stepped w.heap t w.waiting x) (machine_run w.code 0)) (next_is w q l all (i.Return n) h ∙ does)
    ∙ onto w.waiting
  where
    onto : (waiting : List Frame) → and_then (stepped w.heap t waiting (Returns (reverse (map machine_value vs)))) (machine_run w.code 0) ≡ returned (map machine_value vs) w.heap waiting t
    onto [] = ap (λ (x : List mach.Value). Ended (record { results = x; heap = w.heap; text = t })) (reverse-reverse (map machine_value vs))
    onto (f ∷ waiting) = refl

-- ---- the frame of a method

highest_set : (code : List Instruction) (n p k : ℕ) → slice_get code p ≡ Some (i.Set k) → k ≤ highest n code
highest_set [] n p k e = absurd (let f : None ≡ Some (i.Set k) = e in cc)
highest_set (i.Set m ∷ code) n zero k e = let f : m ≡ k = cc in let least = highest_least code (max n m) in omega (arith, f, least)
highest_set (i.Set m ∷ code) n (suc p) k e = highest_set code (max n m) p k e
highest_set (i.Number x ∷ code) n (suc p) k e = highest_set code n p k e
highest_set (i.Truth x ∷ code) n (suc p) k e = highest_set code n p k e
highest_set (i.Char x ∷ code) n (suc p) k e = highest_set code n p k e
highest_set (i.Get x ∷ code) n (suc p) k e = highest_set code n p k e
highest_set (i.Drop ∷ code) n (suc p) k e = highest_set code n p k e
highest_set (i.Unary x ∷ code) n (suc p) k e = highest_set code n p k e
highest_set (i.Binary x ∷ code) n (suc p) k e = highest_set code n p k e
highest_set (i.Jump x ∷ code) n (suc p) k e = highest_set code n p k e
highest_set (i.Unless x ∷ code) n (suc p) k e = highest_set code n p k e
highest_set (i.Call x ∷ code) n (suc p) k e = highest_set code n p k e
highest_set (i.Return x ∷ code) n (suc p) k e = highest_set code n p k e
highest_set (i.Sequence x ∷ code) n (suc p) k e = highest_set code n p k e
highest_set (i.Print x ∷ code) n (suc p) k e = highest_set code n p k e
highest_set (instruction ∷ code) n zero k e = absurd (let f : Some instruction ≡ Some (i.Set k) = e in cc)

abbrev world_of : (program : plain.Plain) (number : ℕ) (method : plain.Method) → plain.method_at program number ≡ Some method → Heap → List Frame → World
world_of program number method e heap waiting = record {
  code = plain_code program;
  number = number;
  method = method_code program method;
  there = method_there program number method e;
  shapes = refl;
  heap = heap;
  waiting = waiting;
  scratch = scratch_of method;
  long = suc (highest (scratch_of method) (body_code program method));
  sets = λ p k h. let le = highest_set (body_code program method) (scratch_of method) p k h in omega (arith, le);
}

get_front : (a b : List mach.Value) (vs : List Value) (n : ℕ) (v : Value) → a ≡ map machine_value vs → slice_get vs n ≡ Some v → slice_get (a ++ b) n ≡ Some (machine_value v)
get_front a b vs n v is e = ap (λ (x : List mach.Value). slice_get (x ++ b) n) is ∙ in_front vs n e
  where
    in_front : (vs : List Value) (n : ℕ) → slice_get vs n ≡ Some v → slice_get (map machine_value vs ++ b) n ≡ Some (machine_value v)
    in_front [] n e = absurd (let f : None ≡ Some v = e in cc)
    in_front (x ∷ vs) zero e = let f : x ≡ v = cc in ap (λ (y : Value). Some (machine_value y)) f
    in_front (x ∷ vs) (suc n) e = in_front vs n e

get_within : {A : Type 0} (l : List A) (n : ℕ) (x : A) → slice_get l n ≡ Some x → n < length l
get_within [] n x e = absurd (let f : None ≡ Some x = e in cc)
get_within (y ∷ l) zero x e = omega arith
get_within (y ∷ l) (suc n) x e = let lt : n < length l = get_within l n x e in omega (arith, lt)

get_all : (vs : List Value) (n : ℕ) (v : Value) → list_all is_simple vs ≡ true → slice_get vs n ≡ Some v → is_simple v ≡ true
get_all [] n v all e = absurd (let f : None ≡ Some v = e in cc)
get_all (x ∷ vs) zero v all e = let f : x ≡ v = cc in subst (λ (y : Value). is_simple y ≡ true) f (both (is_simple x) (list_all is_simple vs) all).0
get_all (x ∷ vs) (suc n) v all e = get_all vs n v (both (is_simple x) (list_all is_simple vs) all).1 e

-- ---- methods

-- the code of a method stands in it
has_all : (is pre : List Instruction) → HasAt (pre ++ is) (length pre) is
has_all [] pre = tt
has_all (i ∷ is) pre =
    let n : length (pre ++ i ∷ []) ≡ length pre + 1 = omega (arith, length-append pre (i ∷ [])) in
    let rest = subst (λ l. HasAt l (length (pre ++ i ∷ [])) is) (append_assoc pre (i ∷ []) is) (has_all is (pre ++ i ∷ [])) in
    (at_seam pre i is, subst (λ m. HasAt (pre ++ i ∷ is) m is) n rest)
  where
    at_seam : (a : List Instruction) (r : Instruction) (b : List Instruction) → slice_get (a ++ r ∷ b) (length a) ≡ Some r
    at_seam [] r b = refl
    at_seam (x ∷ a) r b = at_seam a r b

-- the state in which a method begins
covers_begin : (program : plain.Plain) (number : ℕ) (method : plain.Method) (e : plain.method_at program number ≡ Some method) (heap : Heap) (waiting : List Frame) (arguments : List Value) (text : List ℕ) → length arguments ≡ length method.parameters
    → Covers (world_of program number method e heap waiting) (begin arguments text) (map machine_value arguments ++ replicate (method_code program method).locals (mach.Number (pos 0)))
covers_begin program number method e heap waiting arguments text same =
    let xs = map machine_value arguments in
    let s = scratch_of method in
    let h = highest s (body_code program method) in
    let least = highest_least (body_code program method) s in
    let k = suc h - length method.parameters in
    record {
      each = λ n v f.
          let lt = get_within arguments n v f in
          let early : n < s = omega (arith, lt, same) in
          ap (λ (m : ℕ). slice_get (xs ++ replicate k (mach.Number (pos 0))) m) (early_slot s n early) ∙ get_front xs (replicate k (mach.Number (pos 0))) arguments n v refl f;
      long = length-append xs (replicate k (mach.Number (pos 0))) ∙ (omega (arith, length-map arguments machine_value, length-replicate k (mach.Number (pos 0)), same, least));
    }

-- some steps lead from the point to this
record Ending (w : World) (a : Point) (end : Stepped) : Type 0 where
  steps : ℕ
  runs : machine_run w.code steps (at w a) ≡ end

-- where a run has ended, the machine has returned its results
abbrev Finished : World → Point → ℕ → Outcome Returned → Type 0
Finished w a count (outcomes.Gives r) = (list_all is_simple r.values ≡ true) × (length r.values ≡ count) × Ending w a (returned (map machine_value r.values) w.heap w.waiting r.text)
Finished w a count (Wrong fault) = Unit {0}
Finished w a count TooDeep = Unit {0}
Finished w a count Stuck = Unit {0}

-- the results are returned
results_end : (w : World) (a : Point) (l : List mach.Value) (q n : ℕ) (s t : State) (p : ℕ) → a ≡ point p l [] s.text → Covers w s l → slice_get (instructions w) (q + n) ≡ Some (i.Return n) → Carries w p s [] q t []
    → (r : Outcome (List Value)) → Results w q t [] (q + n) n r → Finished w a n (after r (λ values. outcomes.Gives (record { values = values; text = t.text })))
results_end w a l q n s t p is c h before (outcomes.Gives vs) rs =
    let x = (carries_on w p q (q + n) s t t [] [] (pushed vs []) before rs.2).by l c in
    let last = returns w vs x.locals (q + n) n t.text rs.1 h in (
      rs.0,
      rs.1,
      record {
        steps = x.leads.steps + 1;
        runs =
            ap (λ (y : Point). machine_run w.code (x.leads.steps + 1) (at w y)) is
            ∙ run_add w.code x.leads.steps 1 (at w (point p l [] s.text))
            ∙ ap (λ y. and_then y (machine_run w.code 1)) x.leads.runs
            ∙ last;
      },
    )
results_end w a l q n s t p is c h before (Wrong fault) rs = tt
results_end w a l q n s t p is c h before TooDeep rs = tt
results_end w a l q n s t p is c h before Stuck rs = tt

gets_long : (from count : ℕ) → length (gets from count) ≡ count
gets_long from zero = refl
gets_long from (suc count) = ap suc (gets_long (suc from) count)

ends_state : (w : World) (method : plain.Method) (l : List mach.Value) (p r : ℕ) (s t : State) → w.scratch ≡ scratch_of method → Covers w s l
    → HasAt (instructions w) r (gets (length method.parameters) (length method.results) ++ i.Return (length method.results) ∷ []) → Simple t → Carries w p s [] r t []
    → Finished w (point p l [] s.text) (length method.results) (after (results_of method t) (λ values. outcomes.Gives (record { values = values; text = t.text })))
ends_state w method l p r s t is c has simple before =
    let m = length method.parameters in
    let n = length method.results in
    let code = gets m n in
    let le : m + n ≤ w.scratch = omega (arith, is) in
    let last = has_moved (instructions w) (r + length code) (r + n) (i.Return n ∷ []) (ap (λ (k : ℕ). r + k) (gets_long m n)) (has_back (instructions w) r code (i.Return n ∷ []) has) in
    results_end w (point p l [] s.text) l r n s t p refl c last.0 before (results_of method t) (results_run w t simple n m r [] le (has_front (instructions w) r code (i.Return n ∷ []) has))

-- where the body has ended, the results are returned
ends_run : (w : World) (method : plain.Method) (l : List mach.Value) (p r : ℕ) (s : State) (x : Exits) → w.scratch ≡ scratch_of method → x.ending ≡ r → Covers w s l
    → HasAt (instructions w) r (gets (length method.parameters) (length method.results) ++ i.Return (length method.results) ∷ [])
    → (flow : Outcome Flow) → Flows w p s x r flow → Finished w (point p l [] s.text) (length method.results) (after flow (λ f. after (end_of f) (λ t. after (results_of method t) (λ values. outcomes.Gives (record { values = values; text = t.text })))))
ends_run w method l p r s x is at c has (outcomes.Gives (flows.Next t)) a = ends_state w method l p r s t is c has a.0 a.1
ends_run w method l p r s x is at c has (outcomes.Gives (flows.Return t)) a = ends_state w method l p r s t is c has a.0 (subst (λ (n : ℕ). Carries w p s [] n t []) at a.1)
ends_run w method l p r s x is at c has (outcomes.Gives (flows.Break t)) a = tt
ends_run w method l p r s x is at c has (Wrong fault) a = tt
ends_run w method l p r s x is at c has TooDeep a = tt
ends_run w method l p r s x is at c has Stuck a = tt

answered : (program : plain.Plain) (number : ℕ) (method : plain.Method) (e : plain.method_at program number ≡ Some method) (arguments : List Value) (text : List ℕ) (heap : Heap) (waiting : List Frame) (r : Outcome Returned)
    → Finished (world_of program number method e heap waiting) (point 0 (map machine_value arguments ++ replicate (method_code program method).locals (mach.Number (pos 0))) [] text) (length method.results) r
    → Answers (plain_code program) number (method_code program method) arguments (length method.results) heap waiting text r
answered program number method e arguments text heap waiting (outcomes.Gives r) a = (a.0, a.1, record { steps = a.2.steps; runs = a.2.runs })
answered program number method e arguments text heap waiting (Wrong fault) a = tt
answered program number method e arguments text heap waiting TooDeep a = tt
answered program number method e arguments text heap waiting Stuck a = tt

method_runs : (program : plain.Plain) (number : ℕ) (method : plain.Method) → plain.method_at program number ≡ Some method → are_bounded_stmts method.body ≡ true → are_stmts program method.body ≡ true → are_short_stmts method.body ≡ true
    → (m : Meaning) → Calls program m → Turns program m → (arguments : List Value) (text : List ℕ) → length arguments ≡ length method.parameters → list_all is_simple arguments ≡ true → (heap : Heap) (waiting : List Frame)
    → Answers (plain_code program) number (method_code program method) arguments (length method.results) heap waiting text (run_method m method arguments text)
method_runs program number method e bounded counted short m calls turns arguments text same all heap waiting =
    let w = world_of program number method e heap waiting in
    let sc = scratch_of method in
    let marks = stmts_marks program sc 0 method.body in
    let r = length marks in
    let x = with_ending r (with_outside r unknown) in
    let tail = gets (length method.parameters) (length method.results) ++ i.Return (length method.results) ∷ [] in
    let front = instructions_of x marks in
    let size : length front ≡ r = instructions_long x marks in
    let whole : HasAt (instructions w) 0 (front ++ tail) = has_all (front ++ tail) [] in
    let at_tail = has_moved (instructions w) (0 + length front) r tail (omega (arith, size)) (has_back (instructions w) 0 front tail whole) in
    let room : r < length (instructions w) = omega (arith, size, length-append front tail, length-append (gets (length method.parameters) (length method.results)) (i.Return (length method.results) ∷ [])) in
    let s = begin arguments text in
    let l = map machine_value arguments ++ replicate (method_code program method).locals (mach.Number (pos 0)) in
    let simple : Simple s = record { each = λ n v f. get_all arguments n v all f } in
    let zero : 0 + r ≡ r = omega arith in
    let runs = flows_to w 0 (0 + r) r s x (execute_all m s method.body) zero
    (stmts_run program w (record { code = refl }) m calls turns method.body bounded counted short s simple 0 x (record { outside = room; ending = room }) (has_front (instructions w) 0 front tail whole) (omega (arith, room))) in
    answered program number method e arguments text heap waiting (run_method m method arguments text)
    (ends_run w method l 0 r s x refl refl (covers_begin program number method e heap waiting arguments text same) at_tail (execute_all m s method.body) runs)

-- ---- calls and turns of any depth

whole_program : (program : plain.Plain) (depth : ℕ) → (whole program depth).program ≡ program
whole_program program zero = refl
whole_program program (suc depth) = refl

get_bounded : (ms : List plain.Method) (n : ℕ) (m : plain.Method) → list_all is_bounded_method ms ≡ true → slice_get ms n ≡ Some m → are_bounded_stmts m.body ≡ true
get_bounded [] n m all e = absurd (let f : None ≡ Some m = e in cc)
get_bounded (x ∷ ms) zero m all e =
    let f : x ≡ m = cc in
    subst (λ (y : plain.Method). are_bounded_stmts y.body ≡ true) f (three (list_all is_bounded_kind x.parameters) (list_all is_bounded_kind x.results) (are_bounded_stmts x.body) (both (is_bounded_method x) (list_all is_bounded_method ms) all).0).2
get_bounded (x ∷ ms) (suc n) m all e = get_bounded ms n m (both (is_bounded_method x) (list_all is_bounded_method ms) all).1 e

get_counted : (program : plain.Plain) (ms : List plain.Method) (n : ℕ) (m : plain.Method) → list_all (λ (y : plain.Method). are_stmts program y.body) ms ≡ true → slice_get ms n ≡ Some m → are_stmts program m.body ≡ true
get_counted program [] n m all e = absurd (let f : None ≡ Some m = e in cc)
get_counted program (x ∷ ms) zero m all e = let f : x ≡ m = cc in subst (λ (y : plain.Method). are_stmts program y.body ≡ true) f (both (are_stmts program x.body) (list_all (λ (y : plain.Method). are_stmts program y.body) ms) all).0
get_counted program (x ∷ ms) (suc n) m all e = get_counted program ms n m (both (are_stmts program x.body) (list_all (λ (y : plain.Method). are_stmts program y.body) ms) all).1 e

get_short : (ms : List plain.Method) (n : ℕ) (m : plain.Method) → list_all (λ (y : plain.Method). are_short_stmts y.body) ms ≡ true → slice_get ms n ≡ Some m → are_short_stmts m.body ≡ true
get_short [] n m all e = absurd (let f : None ≡ Some m = e in cc)
get_short (x ∷ ms) zero m all e = let f : x ≡ m = cc in subst (λ (y : plain.Method). are_short_stmts y.body ≡ true) f (both (are_short_stmts x.body) (list_all (λ (y : plain.Method). are_short_stmts y.body) ms) all).0
get_short (x ∷ ms) (suc n) m all e = get_short ms n m (both (are_short_stmts x.body) (list_all (λ (y : plain.Method). are_short_stmts y.body) ms) all).1 e

-- a loop's guard is evaluated, and where it is true there is a turn
loop_runs : (program : plain.Plain) (w : World) → Of program w → (n : Meaning) (guard : Expr) (body : Stmts) → is_bounded guard ≡ true → (s : State) → Simple s → (p : ℕ) (x : Exits) → Inside w x
    → HasMarks (instructions w) p x (stmt_marks program w.scratch p (While guard body)) → p + length (stmt_marks program w.scratch p (While guard body)) < length (instructions w) → (turn : Outcome Flow)
    → Flows w (p + length (expr_code w.scratch p guard) + 1) s x (p + length (stmt_marks program w.scratch p (While guard body))) turn
    → Flows w p s x (p + length (stmt_marks program w.scratch p (While guard body))) (turns_with (evaluate n s guard) s turn)
loop_runs program w of n guard body bounded s simple p x inside has room turn runs =
    let test = expr_code w.scratch p guard in
    let z = p + length test in
    let inner = stmts_marks program w.scratch (z + 1) body in
    let past = z + 1 + length inner + 1 in
    let front = test ++ i.Unless past ∷ [] in
    let tail = map (leaving_at past) inner ++ Fixed (i.Jump p) ∷ [] in
    let end = p + length (fixed front ++ tail) in
    let ends : end ≡ past = omega (arith, length-append (fixed front) tail, fixed_long front, length-append test (i.Unless past ∷ []), length-append (map (leaving_at past) inner) (Fixed (i.Jump p) ∷ []), leaving_long past inner) in
    let there : past < length (instructions w) = omega (arith, ends, room) in
    let at_front = marks_fixed (instructions w) p x front (marks_front (instructions w) p x (fixed front) tail has) in
    let unless = (has_back (instructions w) p test (i.Unless past ∷ []) at_front).0 in
    let over : Flows w past s x end (outcomes.Gives (flows.Next s)) = subst (λ (k : ℕ). Flows w k s x end (outcomes.Gives (flows.Next s))) ends (simple, record { by = λ l c. record { locals = l; covers = c; leads = leads_none w (point end l [] s.text) } }) in
    flows_value w p z end s x (evaluate n s guard) (λ v. after (truth_in v) (λ b. cond b turn (outcomes.Gives (flows.Next s))))
    (expr_runs w n s simple guard bounded p [] (has_front (instructions w) p test (i.Unless past ∷ []) at_front) (omega (arith, there)))
    (guard_takes w z past end s x turn (outcomes.Gives (flows.Next s)) unless there runs over)

-- behind a turn the loop goes on
behind_runs : (program : plain.Plain) (w : World) (m : Meaning) (guard : Expr) (body : Stmts) (q e p past : ℕ) (s : State) (x : Exits) → slice_get (instructions w) e ≡ Some (i.Jump p) → p < length (instructions w)
    → ((t : State) → Simple t → Flows w p t x past (m.turns (record { guard = guard; body = body }) t))
    → (flow : Outcome Flow) → Flows w q s (with_outside past x) e flow → Flows w q s x past (after flow (behind_turn m (record { guard = guard; body = body })))
behind_runs program w m guard body q e p past s x jump there again (outcomes.Gives (flows.Next t)) a =
    flows_after w q p past s t x (m.turns (record { guard = guard; body = body }) t) (carries_on w q e p s t t [] [] [] a.1 (still_carries w e t [] p [] (jumps w e p [] jump there))) (again t a.0)
behind_runs program w m guard body q e p past s x jump there again (outcomes.Gives (flows.Return t)) a = a
behind_runs program w m guard body q e p past s x jump there again (outcomes.Gives (flows.Break t)) a = a
behind_runs program w m guard body q e p past s x jump there again (Wrong fault) a = tt
behind_runs program w m guard body q e p past s x jump there again TooDeep a = tt
behind_runs program w m guard body q e p past s x jump there again Stuck a = tt

turns_more : (program : plain.Plain) (depth : ℕ) → Calls program (whole program depth) → Turns program (whole program depth) → Turns program (whole program (suc depth))
turns_more program depth calls turns = record {
  by = λ w of guard body bounded bodies counted short s simple p x inside has room.
      let m = whole program depth in
      let test = expr_code w.scratch p guard in
      let z = p + length test in
      let inner = stmts_marks program w.scratch (z + 1) body in
      let e = z + 1 + length inner in
      let past = e + 1 in
      let front = test ++ i.Unless past ∷ [] in
      let rest = map (leaving_at past) inner in
      let tail = rest ++ Fixed (i.Jump p) ∷ [] in
      let end = p + length (fixed front ++ tail) in
      let many : p + length (fixed front) ≡ z + 1 = omega (arith, fixed_long front, length-append test (i.Unless past ∷ [])) in
      let ends : end ≡ past = omega (arith, length-append (fixed front) tail, many, length-append rest (Fixed (i.Jump p) ∷ []), leaving_long past inner) in
      let there : past < length (instructions w) = omega (arith, ends, room) in
      let y = with_outside past x in
      let at_tail = has_moved (instructions w) (p + length (fixed front)) (z + 1) (instructions_of x tail) many (marks_back (instructions w) p x (fixed front) tail has) in
      let at_inner : HasMarks (instructions w) (z + 1) y inner = subst (λ (l : List Instruction). HasAt (instructions w) (z + 1) l) (sym (leaving_filled past x inner)) (marks_front (instructions w) (z + 1) x rest (Fixed (i.Jump p) ∷ []) at_tail) in
      let jump = (has_moved (instructions w) (z + 1 + length rest) e (i.Jump p ∷ []) (ap (λ (k : ℕ). z + 1 + k) (leaving_long past inner)) (marks_back (instructions w) (z + 1) x rest (Fixed (i.Jump p) ∷ []) at_tail)).0 in
      let runs = stmts_run program w of m calls turns body bodies counted short s simple (z + 1) y (record { outside = there; ending = inside.ending }) at_inner (omega (arith, there)) in
      let again = λ (t : State) (st : Simple t). subst (λ (k : ℕ). Flows w p t x k (m.turns (record { guard = guard; body = body }) t)) ends (turns.by w of guard body bounded bodies counted short t st p x inside has room) in
      let turned = behind_runs program w m guard body (z + 1) e p past s x jump (omega (arith, there)) again (execute_all m s body) runs in
      loop_runs program w of (record { program = program; call = call_by m; turns = λ other t. TooDeep }) guard body bounded s simple p x inside has room (turn_by m (record { guard = guard; body = body }) s)
      (flows_to w (z + 1) past end s x (turn_by m (record { guard = guard; body = body }) s) (sym ends) turned);
}

calls_more : (program : plain.Plain) → is_bounded_program program ≡ true → has_counts program ≡ true → has_short_texts program ≡ true → (depth : ℕ) → Calls program (whole program depth) → Turns program (whole program depth) → Calls program (whole program (suc depth))
calls_more program bounded counted short depth calls turns = record {
  by = λ number method arguments text e same all heap waiting.
      let m = whole program depth in
      let there : plain.method_at m.program number ≡ Some method = ap (λ (p : plain.Plain). plain.method_at p number) (whole_program program depth) ∙ e in
      subst (λ (o : Option plain.Method). Answers (plain_code program) number (method_code program method) arguments (length method.results) heap waiting text (option_map_or (λ (y : plain.Method). run_method m y arguments text) o Stuck)) (sym there)
      (method_runs program number method e (get_bounded program.methods number method bounded e) (get_counted program program.methods number method counted e) (get_short program.methods number method short e) m calls turns arguments text same all heap waiting);
}

calls_none : (program : plain.Plain) → Calls program (whole program zero)
calls_none program = record { by = λ number method arguments text e same all heap waiting. tt }

turns_none : (program : plain.Plain) → Turns program (whole program zero)
turns_none program = record {
  by = λ w of guard body bounded bodies counted short s simple p x inside has room.
      loop_runs program w of (record { program = program; call = λ callee arguments text. TooDeep; turns = λ other t. TooDeep }) guard body bounded s simple p x inside has room TooDeep tt;
}

record Both (program : plain.Plain) (m : Meaning) : Type 0 where
  calls : Calls program m
  turns : Turns program m

wholes_run : (program : plain.Plain) → is_bounded_program program ≡ true → has_counts program ≡ true → has_short_texts program ≡ true → (depth : ℕ) → Both program (whole program depth)
wholes_run program bounded counted short zero = record { calls = calls_none program; turns = turns_none program }
wholes_run program bounded counted short (suc depth) =
    let less = wholes_run program bounded counted short depth in
    record { calls = calls_more program bounded counted short depth less.calls less.turns; turns = turns_more program depth less.calls less.turns }

-- ---- the program

-- what one call comes to, of any depth
run_answers : (program : plain.Plain) → is_bounded_program program ≡ true → has_counts program ≡ true → has_short_texts program ≡ true → (depth number : ℕ) (method : plain.Method) (arguments : List Value) (text : List ℕ) → plain.method_at program number ≡ Some method
    → length arguments ≡ length method.parameters → list_all is_simple arguments ≡ true → (heap : Heap) (waiting : List Frame)
    → Answers (plain_code program) number (method_code program method) arguments (length method.results) heap waiting text (run_method (whole program depth) method arguments text)
run_answers program bounded counted short depth number method arguments text e same all heap waiting =
    let both = wholes_run program bounded counted short depth in
    method_runs program number method e (get_bounded program.methods number method bounded e) (get_counted program program.methods number method counted e) (get_short program.methods number method short e) (whole program depth) both.calls both.turns arguments text same all heap waiting

answer_of : (code : Code) (number : ℕ) (m : Method) (arguments : List Value) (count : ℕ) (heap : Heap) (waiting : List Frame) (text : List ℕ) (o : Outcome Returned) (r : Returned) → o ≡ outcomes.Gives r → Answers code number m arguments count heap waiting text o
    → Reaches code (called number m (map machine_value arguments) heap waiting text) (returned (map machine_value r.values) heap waiting r.text)
answer_of code number m arguments count heap waiting text o r e a = (subst (λ (y : Outcome Returned). Answers code number m arguments count heap waiting text y) e a).2

-- what ends never faults
ends_never_faults : (code : Code) (s : machine.State) (n : ℕ) (x : Final) → machine_run code n s ≡ Ended x → NeverFaults code (On s)
ends_never_faults code s n x e = record {
  never = λ k faults.
      let is : machine_run code (k + n) s ≡ Ended x = ends_for_good code n (k + n) s x e (omega arith) in
      let faulted : machine_run code (k + n) s ≡ step.Fault = run_add code k n s ∙ ap (λ o. and_then o (machine_run code n)) faults in
      cc;
}

same_numbers : (m n : ℕ) → m ≡ n → nat_eq m n ≡ true
same_numbers m n e = grind (arith, nat_tests)

-- a run of the machine begins with a call that nothing waits for
starts : (program : plain.Plain) (number : ℕ) (method : plain.Method) (arguments : List Value) (heap : Heap) → plain.method_at program number ≡ Some method → length arguments ≡ length method.parameters
    → start_of (plain_code program) number heap (map machine_value arguments) ≡ On (called number (method_code program method) (map machine_value arguments) heap [] [])
starts program number method arguments heap e same =
    let xs = map machine_value arguments in
    let count : length xs ≡ length method.parameters = length-map arguments machine_value ∙ same in
    let state = called number (method_code program method) xs heap [] [] in
    ap (λ (o : Option Method). begun number heap xs o) (method_there program number method e)
    ∙ ap (λ (b : Bool). cond b (On state) step.Fault) (same_numbers (length xs) (length method.parameters) count)

pub does_what : (program : plain.Plain) → is_bounded_program program ≡ true → has_counts program ≡ true → has_short_texts program ≡ true → DoesWhat program (plain_code program)
does_what program bounded counted short = record {
  calls = λ depth number method arguments text result e same all runs heap waiting. record {
    method = method_code program method;
    there = method_there program number method e;
    reaches =
        answer_of (plain_code program) number (method_code program method) arguments (length method.results) heap waiting text (run_method (whole program depth) method arguments text) result runs
        (run_answers program bounded counted short depth number method arguments text e same all heap waiting);
  };
  begins = λ depth number method arguments result e same all runs heap.
      let xs = map machine_value arguments in
      let start = called number (method_code program method) xs heap [] [] in
      let begins = starts program number method arguments heap e same in
      let reaches = answer_of (plain_code program) number (method_code program method) arguments (length method.results) heap [] [] (run_method (whole program depth) method arguments []) result runs
      (run_answers program bounded counted short depth number method arguments [] e same all heap []) in
      record {
        start = start;
        begins = begins;
        never_faults = subst (λ (y : Stepped). NeverFaults (plain_code program) y) (sym begins)
            (ends_never_faults (plain_code program) start reaches.steps (record { results = map machine_value result.values; heap = heap; text = result.text }) reaches.runs);
        steps = reaches.steps;
        ends = reaches.runs;
      };
}
