-- A safe program's functions: by groups, and inside a group by measures.
use Rattle.std.proofs.Common.{◌≡◌, ◌≤◌, ◌<◌, ◌==◌, ◌&&◌, ℕ, zero, suc, max, Bool, true, false, if◌then◌else◌, List, [], ◌∷◌, map, length, slice_get, None, Some, refl, sym, ap, subst, ◌∙◌, arith, eqb-true}
use mathlib.Core.WellFounded.{Acc}
use Rattle.std.specs.List.{list_all}
use Rattle.std.proofs.lemmas.Bool.{leb-true, eqb-false}
use Rattle.df_base.specs.declared.pos.Pos.{Pos}
use Rattle.df_types.specs.declared.kind.Kind.TheVariants as kinds
use Rattle.df_types.specs.Ty.{Tys}
use Rattle.df_types.specs.Stmt.{Typed}
use Rattle.df_types.specs.Program.{Function, Decl, NewtypeDecl, DatatypeDecl, ClassDecl, FunctionDecl, MethodDecl, Program, function_at, types_of, result_type}
use Rattle.df_types.specs.Measures.{function_measure, method_measure}
use Rattle.df_types.specs.Typing.{is_program, entry_scope, exit_scope}
use Rattle.df_types.specs.Calls.{group_at}
use Rattle.df_meaning2.specs.Value.{Value, items_of}
use Rattle.df_meaning2.specs.Heap.{Heap, may_read, lies_in_readable}
use Rattle.df_meaning2.specs.Outcome.{Gives, Wrong, Each}
use Rattle.df_meaning2.specs.State.{State, reading_inside}
use Rattle.df_meaning2.specs.Meaning.{Meaning, Measured, evaluate, measured}
use Rattle.df_meaning2.specs.Execution.{conditions}
use Rattle.df_meaning2.specs.Order.{are_below}
use Rattle.df_meaning2.specs.Whole.{whole}
use Rattle.df_meaning2.specs.Modular.{Running, running, check_decrease, falls_from, in_group, leaving, itself, resulting, resulting_demand, blank}
use Rattle.df_meaning2.specs.Correct.{beginning, IsMet, HasValue, IsSafe}
use Rattle.df_meaning2.specs.Typed.{IsOf, AreOf}
use Rattle.df_meaning2.proofs.ExprTypes.{any_after, after_each}
use Rattle.df_meaning2.proofs.Evaluating.{assume_all_grows}
use Rattle.df_meaning2.proofs.Deepening.{deeper}
use Rattle.df_hoare2.specs.Law.{FunctionsAreCorrect}
use Rattle.df_hoare2.proofs.Depths.{From, IsWrong, Meets, fails, comes, deeper_by_one, one_answer, stays, stays_wrong}
use Rattle.df_hoare2.proofs.Judging.{judge, assume_true, check_false, check_wrong, judged, resulting_conditions}
use Rattle.df_hoare2.proofs.Reading.{is_there}
use Rattle.df_hoare2.proofs.TypeArguments.{Closed}
use Rattle.df_hoare2.proofs.WholeTypes.{whole_typed}
use Rattle.df_hoare2.proofs.Meeting.{CallsMeet, meets, value_is, judge_meets}
use Rattle.df_hoare2.proofs.Dismissing.{Applying}
use Rattle.df_hoare2.proofs.Entering.{Enters, whole_gives}
use Rattle.df_hoare2.proofs.Answering.{calls_in, Right, Answered, refused, right, Known, not_required, not_falling, falling, Knows, calls_meet}
use Rattle.df_hoare2.proofs.Resulting.{own_stand, judged_same}
use Rattle.df_hoare2.proofs.Results.{resulting_sound}
use Rattle.df_hoare2.proofs.Locals.{result_typed, result_looked, left_stands, left_looked}
use Rattle.df_hoare2.proofs.Functions.{no_later, FunctionSound, function_sound, inside_stands}
use Rattle.df_hoare2.proofs.Heads.{found_function}
use Rattle.df_hoare2.proofs.Starting.{O, Started, Start, unmet, starts, start, body_not_wrong, owed_not_wrong}
use Rattle.df_hoare2.proofs.Ranks.{FallsBelow, measures_end}

-- ---- the longest measure of a program

abbrev pub measure_length : Decl → ℕ
measure_length (NewtypeDecl x) = 0
measure_length (DatatypeDecl x) = 0
measure_length (ClassDecl x) = 0
measure_length (FunctionDecl f) = length (function_measure f.head)
measure_length (MethodDecl m) = length (method_measure m.head)

abbrev pub longest : List Decl → ℕ
longest [] = 0
longest (d ∷ ds) = max (measure_length d) (longest ds)

pub no_longer : (ds : List Decl) (n : ℕ) (d : Decl) → slice_get ds n ≡ Some d → measure_length d ≤ longest ds
no_longer [] n d e = cc
no_longer (x ∷ ds) zero d e =
    let same : x ≡ d = let k : Some x ≡ Some d = e in cc in
    subst (λ (y : Decl). measure_length y ≤ max (measure_length x) (longest ds)) same (omega arith)
no_longer (x ∷ ds) (suc n) d e = let le = no_longer ds n d e in omega arith

as_long : (m : Meaning) (s : State) (xs : List Typed) → Each (λ vs. length vs ≡ length xs) (measured m s xs)
as_long m s [] = refl
as_long m s (x ∷ xs) = any_after _ (evaluate m s x.value) _ (λ v. after_each (λ vs. length vs ≡ length xs) _ (measured m s xs) _ (as_long m s xs) (λ vs h. ap suc h))

pub measure_is_short : (m : Meaning) (s : State) (xs : List Typed) (vs : List Measured) → measured m s xs ≡ Gives vs → length vs ≡ length xs
measure_is_short m s xs vs e = subst (Each (λ (us : List Measured). length us ≡ length xs)) e (as_long m s xs)

module _ (p : Program) (well : is_program p ≡ true) (safe : IsSafe p) where
  abbrev W : ℕ → Meaning
  W n = whole p n

  abbrev group : ℕ → ℕ
  group number = group_at safe.groups number

  sound : (number : ℕ) (f : Function) → function_at p number ≡ Some f → FunctionSound p safe.groups number f
  sound number f e = function_sound p well safe.groups safe.are_groups number f e

  abbrev pub Earlier : ℕ → Type 0
  Earlier bound = (number : ℕ) (f : Function) (types : Tys) (arguments : List Value) (heap : Heap) → function_at p number ≡ Some f → Closed p f.head.type_parameters types → AreOf p types (types_of f.head.parameters) arguments → group number < bound
      → Answered p number f types arguments heap

  -- ---- where nothing is below

  apart_known : (run : Running) (callee : ℕ) (f : Function) (types : Tys) (arguments : List Value) (heap : Heap) → in_group run callee ≡ false → Answered p callee f types arguments heap → Known p run callee f types arguments heap
  apart_known run callee f types arguments heap apart (refused h) = not_required h
  apart_known run callee f types arguments heap apart (right r) = falling r (λ at. ([], ap (λ b. if b then falls_from at (Gives r.entry) run.entry else Gives []) apart))

  is_earlier : (number callee : ℕ) → no_later safe.groups number callee ≡ true → (group number == group callee) ≡ false → group callee < group number
  is_earlier number callee m e =
      let le : group callee ≤ group number = leb-true (group callee) (group number) m in
      let differ : group number ≡ group callee → ⊥ = eqb-false (group number) (group callee) e in
      omega (arith, le, differ)

  without_entry : (b : Bool) → (b && true) ≡ false → b ≡ false
  without_entry true h = cc
  without_entry false h = refl

  top_knows : (number : ℕ) → Earlier (group number) → Knows p (running safe.groups number None) (no_later safe.groups number)
  top_knows number earlier callee f types arguments heap e m c k never =
      let apart = without_entry (group number == group callee) never in
      apart_known (running safe.groups number None) callee f types arguments heap apart (earlier callee f types arguments heap e c k (is_earlier number callee m apart))

  start_of : (number : ℕ) (f : Function) (types : Tys) (arguments : List Value) (heap : Heap) (e : function_at p number ≡ Some f) (c : Closed p f.head.type_parameters types) (k : AreOf p types (types_of f.head.parameters) arguments) → Earlier (group number)
      → Start p safe number f e (sound number f e) types arguments heap c k
  start_of number f types arguments heap e c k earlier =
      start p safe number f e (sound number f e) types arguments heap c k well (calls_meet p (running safe.groups number None) (no_later safe.groups number) (top_knows number earlier))

  -- ---- the body, where calls in it are known

  module _ (number : ℕ) (f : Function) (types : Tys) (arguments : List Value) (heap : Heap) (e : function_at p number ≡ Some f) (c : Closed p f.head.type_parameters types) (k : AreOf p types (types_of f.head.parameters) arguments)
      (st : Started p safe number f e (sound number f e) types arguments heap c k) (knows : Knows p (running safe.groups number (Some st.entry)) (no_later safe.groups number)) where
    abbrev begun : State
    begun = beginning f.head types arguments heap

    abbrev s : FunctionSound p safe.groups number f
    s = sound number f e

    abbrev may : ℕ → Bool
    may = no_later safe.groups number

    abbrev A : ℕ → Applying
    A = calls_in p (running safe.groups number (Some st.entry))

    calls : CallsMeet p may A
    calls = calls_meet p (running safe.groups number (Some st.entry)) may knows

    body_meets : Meets (λ n. evaluate (W n) (reading_inside begun st.frame) f.value) (λ n. evaluate (O p safe number f e s types arguments heap c k st.entry n) (reading_inside begun st.frame) f.value)
    body_meets = meets p may (is_there (entry_scope f.head)) A (whole_typed p well) calls f.value (entry_scope f.head) (reading_inside begun st.frame) (result_type f.head.results) (inside_stands p f.head s.is.head types arguments heap c k st.frame) s.is.value s.value

    abbrev left : Value → State
    left v = leaving f.head.results (v ∷ []) begun

    typed_value : (v : Value) → From (λ n. evaluate (W n) (reading_inside begun st.frame) f.value ≡ Gives v) → IsOf p types (result_type f.head.results) v
    typed_value v w = value_is p may (is_there (entry_scope f.head)) A (whole_typed p well) calls (reading_inside begun st.frame) (entry_scope f.head) (result_type f.head.results) f.value v (inside_stands p f.head s.is.head types arguments heap c k st.frame) s.is.value
        (record { depth = w.depth; gives = w.holds w.depth (omega arith) })

    results_of : (v : Value) → IsOf p types (result_type f.head.results) v → AreOf p types (types_of f.head.results) (v ∷ [])
    results_of v t = record { by = result_typed p types f.head.results v s.is.one_result t }

    owed_meets : (v : Value) → IsOf p types (result_type f.head.results) v
        → Meets (λ n. judge (W n) (left v) (map (resulting (itself number f.head)) (conditions f.head.postconditions))) (λ n. judge (O p safe number f e s types arguments heap c k st.entry n) (left v) (map (resulting (itself number f.head)) (conditions f.head.postconditions)))
    owed_meets v t = judge_meets p may (is_there (exit_scope f.head)) A (whole_typed p well) calls (map (resulting (itself number f.head)) (conditions f.head.postconditions)) (exit_scope f.head) (left v)
        (left_stands p f.head s.is.head types arguments heap c k (v ∷ []) (results_of v t)) (resulting_sound p may number f e s.is (conditions f.head.postconditions) s.contract.postconditions)

    -- whole calls have the value of the body
    gives_at : (v : Value) (n : ℕ) → Enters (W n) f.head types arguments heap st.frame → evaluate (W n) (reading_inside begun st.frame) f.value ≡ Gives v
        → (at : Pos) (t : State) → t.store.heap ≡ heap → lies_in_readable t.readable st.frame ≡ true → (W (suc n)).apply at number types arguments t ≡ Gives v
    gives_at v n en w at t same may_be = subst
        (λ h. Enters (W n) f.head types arguments h st.frame → evaluate (W n) (reading_inside (beginning f.head types arguments h) st.frame) f.value ≡ Gives v → (W (suc n)).apply at number types arguments t ≡ Gives v)
        same (λ en w. whole_gives p n number f types arguments st.frame v at t e en w may_be) en w

    gives : (v : Value) → From (λ n. evaluate (W n) (reading_inside begun st.frame) f.value ≡ Gives v)
        → From (λ n. (at : Pos) (t : State) → t.store.heap ≡ heap → lies_in_readable t.readable st.frame ≡ true → (W n).apply at number types arguments t ≡ Gives v)
    gives v w = deeper_by_one (λ n. Enters (W n) f.head types arguments heap st.frame × (evaluate (W n) (reading_inside begun st.frame) f.value ≡ Gives v)) _ (λ n h. gives_at v n h.0 h.1)
        (record { depth = max st.enters.depth w.depth; holds = λ n le. (st.enters.holds n (omega (arith, le)), w.holds n (omega (arith, le))) })

    all_read : (vs : List Value) → list_all (λ v. may_read None v 0) vs ≡ true
    all_read [] = refl
    all_read (v ∷ vs) = all_read vs

    ensures_same : (v : Value) (n : ℕ) → ((at : Pos) (t : State) → t.store.heap ≡ heap → lies_in_readable t.readable st.frame ≡ true → (W n).apply at number types arguments t ≡ Gives v)
        → judge (W n) (left v) (conditions f.head.postconditions) ≡ judge (W n) (left v) (map (resulting (itself number f.head)) (conditions f.head.postconditions))
    ensures_same v n g = judged_same (W n) (itself number f.head) types arguments v heap (own_stand p f.head.type_parameters types c.marked)
        (λ at t same free. g at t same (ap (λ r. lies_in_readable r st.frame) free ∙ all_read (items_of st.frame))) (conditions f.head.postconditions) (left v) (record {
          types_are = refl;
          looked = left_looked p f.head s.is.head types arguments heap c k (v ∷ []);
          result_is = result_looked f.head.results v begun.locals s.is.one_result;
          heap_is = refl;
          entry_is = refl;
          readable_is = refl;
        })

    completed : Right p number f types arguments heap
    completed = by_body body_meets
      where
        by_owed : (v : Value) → From (λ n. evaluate (W n) (reading_inside begun st.frame) f.value ≡ Gives v) → From (λ n. evaluate (O p safe number f e s types arguments heap c k st.entry n) (reading_inside begun st.frame) f.value ≡ Gives v)
            → Meets (λ n. judge (W n) (left v) (map (resulting (itself number f.head)) (conditions f.head.postconditions))) (λ n. judge (O p safe number f e s types arguments heap c k st.entry n) (left v) (map (resulting (itself number f.head)) (conditions f.head.postconditions)))
            → Right p number f types arguments heap
        by_owed v w o (fails h) =
            let n = max st.passes.depth (max o.depth h.depth) in
            absurd (owed_not_wrong p safe number f e s types arguments heap c k n st.frame st.again st.entry v (st.passes.holds n (omega arith)) (o.holds n (omega arith))
            (check_wrong _ (left v) (map (resulting_demand (itself number f.head)) f.head.postconditions) (subst (λ es. IsWrong (judge (O p safe number f e s types arguments heap c k st.entry n) (left v) es)) (sym (resulting_conditions (itself number f.head) f.head.postconditions)) (h.holds n (omega arith)))))
        by_owed v w o (comes false a b) =
            let n = max st.passes.depth (max o.depth b.depth) in
            absurd (owed_not_wrong p safe number f e s types arguments heap c k n st.frame st.again st.entry v (st.passes.holds n (omega arith)) (o.holds n (omega arith))
            (check_false _ (left v) (map (resulting_demand (itself number f.head)) f.head.postconditions) (ap (judge (O p safe number f e s types arguments heap c k st.entry n) (left v)) (resulting_conditions (itself number f.head) f.head.postconditions) ∙ b.holds n (omega arith))))
        by_owed v w o (comes true a b) =
            let g = gives v w in
            record {
              frame = st.frame;
              value = v;
              entry = st.entry;
              enters = st.enters;
              falls = st.falls;
              gives = g;
              ensured = record { depth = max g.depth a.depth; holds = λ n le. ensures_same v n (g.holds n (omega (arith, le))) ∙ a.holds n (omega (arith, le)) };
            }

        by_body : Meets (λ n. evaluate (W n) (reading_inside begun st.frame) f.value) (λ n. evaluate (O p safe number f e s types arguments heap c k st.entry n) (reading_inside begun st.frame) f.value) → Right p number f types arguments heap
        by_body (fails h) =
            let n = max st.passes.depth h.depth in
            absurd (body_not_wrong p safe number f e s types arguments heap c k n st.frame st.again st.entry (st.passes.holds n (omega arith)) (h.holds n (omega arith)))
        by_body (comes v w o) = by_owed v w o (owed_meets v (typed_value v w))

  -- ---- by measures

  -- functions of the group whose measure is below
  abbrev Smaller : ℕ → List Measured → Type 0
  Smaller own before = (callee : ℕ) (f : Function) (types : Tys) (arguments : List Value) (heap : Heap) (e : function_at p callee ≡ Some f) (c : Closed p f.head.type_parameters types) (k : AreOf p types (types_of f.head.parameters) arguments) → group callee ≡ own
      → (st : Started p safe callee f e (sound callee f e) types arguments heap c k) → are_below st.entry before ≡ true → Right p callee f types arguments heap

  same_entry : (callee : ℕ) (f : Function) (types : Tys) (arguments : List Value) (heap : Heap) (e : function_at p callee ≡ Some f) (c : Closed p f.head.type_parameters types) (k : AreOf p types (types_of f.head.parameters) arguments)
      (st : Started p safe callee f e (sound callee f e) types arguments heap c k) (r : Right p callee f types arguments heap) → r.entry ≡ st.entry
  same_entry callee f types arguments heap e c k st r =
      let n = max st.falls.depth r.falls.depth in
      one_answer (measured (W n) (beginning f.head types arguments heap) (function_measure f.head)) r.entry st.entry (r.falls.holds n (omega arith)) (st.falls.holds n (omega arith))

  body_knows : (own number : ℕ) → group number ≡ own → (before : List Measured) → Earlier own → Smaller own before → Knows p (running safe.groups number (Some before)) (no_later safe.groups number)
  body_knows own number same before earlier smaller callee f types arguments heap e m c k never = by_group (group number == group callee) refl
    where
      decrease : (at : Pos) (now : List Measured) → (group number == group callee) ≡ true → check_decrease (running safe.groups number (Some before)) at callee (Gives now) ≡ (if are_below now before then Gives now else Wrong at kinds.Decreases)
      decrease at now g = ap (λ b. if b then falls_from at (Gives now) (Some before) else Gives []) g

      by_start : (group number == group callee) ≡ true → Start p safe callee f e (sound callee f e) types arguments heap c k → Known p (running safe.groups number (Some before)) callee f types arguments heap
      by_start g (unmet h) = not_required h
      by_start g (starts st) = by_test (are_below st.entry before) refl
        where
          by_test : (b : Bool) → are_below st.entry before ≡ b → Known p (running safe.groups number (Some before)) callee f types arguments heap
          by_test true t =
              let r = smaller callee f types arguments heap e c k (sym (eqb-true (group number) (group callee) g) ∙ same) st t in
              falling r (λ at. (r.entry, decrease at r.entry g ∙ ap (λ b. if b then Gives r.entry else Wrong at kinds.Decreases) (ap (λ x. are_below x before) (same_entry callee f types arguments heap e c k st r) ∙ t)))
          by_test false t = not_falling st.frame st.entry st.enters st.falls (λ at. subst IsWrong (sym (decrease at st.entry g ∙ ap (λ b. if b then Gives st.entry else Wrong at kinds.Decreases) t)) tt)

      by_group : (b : Bool) → (group number == group callee) ≡ b → Known p (running safe.groups number (Some before)) callee f types arguments heap
      by_group true g = by_start g (start_of callee f types arguments heap e c k (subst Earlier (sym (sym (eqb-true (group number) (group callee) g) ∙ same)) earlier))
      by_group false g = apart_known (running safe.groups number (Some before)) callee f types arguments heap g (earlier callee f types arguments heap e c k (subst (λ x. group callee < x) same (is_earlier number callee m g)))

  by_measure : (own : ℕ) → Earlier own → (before : List Measured) → Acc (FallsBelow (longest p.decls)) before
      → (number : ℕ) (f : Function) (types : Tys) (arguments : List Value) (heap : Heap) (e : function_at p number ≡ Some f) (c : Closed p f.head.type_parameters types) (k : AreOf p types (types_of f.head.parameters) arguments) → group number ≡ own
      → (st : Started p safe number f e (sound number f e) types arguments heap c k) → st.entry ≡ before → Right p number f types arguments heap
  by_measure own earlier before (Acc.intro here falls) number f types arguments heap e c k same st is =
      completed number f types arguments heap e c k st (body_knows own number same st.entry earlier
      (λ callee g others args cells there closed typed one s below. by_measure own earlier s.entry (falls s.entry (record { short = short callee g others args cells there closed typed s; below = subst (λ x. are_below s.entry x ≡ true) is below }))
      callee g others args cells there closed typed one s refl))
    where
      short : (callee : ℕ) (g : Function) (others : Tys) (args : List Value) (cells : Heap) (there : function_at p callee ≡ Some g) (closed : Closed p g.head.type_parameters others) (typed : AreOf p others (types_of g.head.parameters) args)
          (s : Started p safe callee g there (sound callee g there) others args cells closed typed) → length s.entry ≤ longest p.decls
      short callee g others args cells there closed typed s =
          let long : length s.entry ≡ length (function_measure g.head) = measure_is_short (W s.falls.depth) (beginning g.head others args cells) (function_measure g.head) s.entry (s.falls.holds s.falls.depth (omega arith)) in
          let le : length (function_measure g.head) ≤ longest p.decls = no_longer p.decls callee (FunctionDecl g) (found_function (slice_get p.decls callee) g there) in
          omega arith

  in_own_group : (number : ℕ) (f : Function) (types : Tys) (arguments : List Value) (heap : Heap) (e : function_at p number ≡ Some f) (c : Closed p f.head.type_parameters types) (k : AreOf p types (types_of f.head.parameters) arguments) → Earlier (group number)
      → Answered p number f types arguments heap
  in_own_group number f types arguments heap e c k earlier = by_start (start_of number f types arguments heap e c k earlier)
    where
      by_start : Start p safe number f e (sound number f e) types arguments heap c k → Answered p number f types arguments heap
      by_start (unmet h) = refused h
      by_start (starts st) =
          let long : length st.entry ≡ length (function_measure f.head) = measure_is_short (W st.falls.depth) (beginning f.head types arguments heap) (function_measure f.head) st.entry (st.falls.holds st.falls.depth (omega arith)) in
          let le : length (function_measure f.head) ≤ longest p.decls = no_longer p.decls number (FunctionDecl f) (found_function (slice_get p.decls number) f e) in
          right (by_measure (group number) earlier st.entry (measures_end (longest p.decls) st.entry (omega arith)) number f types arguments heap e c k refl st refl)

  by_group : (bound : ℕ) → Earlier bound
  by_group zero number f types arguments heap e c k less = absurd (omega (arith, less))
  by_group (suc bound) number f types arguments heap e c k less =
      in_own_group number f types arguments heap e c k (λ other g others args cells there closed typed before. by_group bound other g others args cells there closed typed (omega (arith, less, before)))

  pub answered : (number : ℕ) (f : Function) (types : Tys) (arguments : List Value) (heap : Heap) → function_at p number ≡ Some f → Closed p f.head.type_parameters types → AreOf p types (types_of f.head.parameters) arguments → Answered p number f types arguments heap
  answered number f types arguments heap e c k = by_group (suc (group number)) number f types arguments heap e c k (omega arith)

  -- ---- correctness

  read_everywhere : (frame : Value) → lies_in_readable None frame ≡ true
  read_everywhere frame = all (items_of frame)
    where
      all : (vs : List Value) → list_all (λ v. may_read None v 0) vs ≡ true
      all [] = refl
      all (v ∷ vs) = all vs

  is_right : (number : ℕ) (f : Function) (types : Tys) (arguments : List Value) (heap : Heap) → IsMet p f.head types arguments heap → Answered p number f types arguments heap → Right p number f types arguments heap
  is_right number f types arguments heap met (right r) = r
  is_right number f types arguments heap met (refused h) =
      let n = max met.depth h.depth in
      let begun = beginning f.head types arguments heap in
      let kept = stays _ _ begun (assume_all_grows (W met.depth) (W n) (deeper p met.depth n (omega arith)).meaning begun (conditions f.head.preconditions)) met.met in
      let yes : judge (W n) begun (conditions f.head.preconditions) ≡ Gives true = judged (W n) begun (conditions f.head.preconditions) kept in
      let no : judge (W n) begun (conditions f.head.preconditions) ≡ Gives false = h.holds n (omega arith) in
      let clash : Gives true ≡ Gives false = sym yes ∙ no in cc

  correct : (number : ℕ) (f : Function) (types : Tys) (arguments : List Value) (heap : Heap) → Right p number f types arguments heap → HasValue p number f types arguments heap
  correct number f types arguments heap r =
      let n : ℕ = max r.gives.depth r.ensured.depth in
      record {
        depth = n;
        value = r.value;
        gives = λ at. r.gives.holds n (omega arith) at (blank types heap) refl (read_everywhere r.frame);
        ensured = assume_true (W n) (leaving f.head.results (r.value ∷ []) (beginning f.head types arguments heap)) (conditions f.head.postconditions) (r.ensured.holds n (omega arith));
        never_wrong = λ deep at place kind e.
            let m = max deep r.gives.depth in
            let wrong = stays_wrong _ ((W m).apply at number types arguments (blank types heap)) place kind ((deeper p deep m (omega arith)).meaning.apply at number types arguments (blank types heap)) e in
            let good : (W m).apply at number types arguments (blank types heap) ≡ Gives r.value = r.gives.holds m (omega arith) at (blank types heap) refl (read_everywhere r.frame) in
            let clash : Gives r.value ≡ Wrong place kind = sym good ∙ wrong in cc;
      }

pub functions_are_correct : FunctionsAreCorrect
functions_are_correct p well safe number f e types arguments heap given met =
    correct p well safe number f types arguments heap
    (is_right p well safe number f types arguments heap met (answered p well safe number f types arguments heap e (record { marked = given.marked; closed = given.closed }) (record { by = given.typed })))
