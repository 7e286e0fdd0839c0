-- Where what a function requires comes to an answer, and where it is true, so do its frame and its measure.
use Rattle.std.proofs.Common.{◌≡◌, ℕ, max, Bool, true, false, List, [], ◌∷◌, map, slice_get, None, Some, refl, sym, ap, subst, ◌∙◌, arith}
use Rattle.std.specs.Option.{unwrap_or}
use Rattle.df_types.specs.declared.kind.Kind.TheVariants as kinds
use Rattle.df_types.specs.Ty.{Set, AnyObject, Tys}
use Rattle.df_types.specs.Program.{Function, FunctionDecl, Program, function_at, types_of}
use Rattle.df_types.specs.Measures.{frame_objects, function_measure}
use Rattle.df_types.specs.Typing.{is_program, entry_scope}
use Rattle.df_meaning2.specs.Value.{Value, NullReference}
use Rattle.df_meaning2.specs.Heap.{Heap}
use Rattle.df_meaning2.specs.Outcome.{Outcome, Gives, after}
use Rattle.df_meaning2.specs.State.{State, reading_inside}
use Rattle.df_meaning2.specs.Meaning.{Meaning, Measured, evaluate, check_all, as_kind, assume_all, measured}
use Rattle.df_meaning2.specs.Execution.{conditions}
use Rattle.df_meaning2.specs.Whole.{meaning_with, whole}
use Rattle.df_meaning2.specs.Modular.{Oracle, running, handed, leaving, itself, resulting_demand, run_function, run}
use Rattle.df_meaning2.specs.Correct.{beginning, IsSafe}
use Rattle.df_meaning2.specs.Typed.{AreOf}
use Rattle.df_hoare2.proofs.Depths.{From, IsWrong, Meets, fails, comes, wrong_after, then_wrong, then_gives, not_wrong}
use Rattle.df_hoare2.proofs.Judging.{judge, assume_true, assume_wrong, check_true, check_false, check_wrong, kind_conditions}
use Rattle.df_hoare2.proofs.Reading.{is_there}
use Rattle.df_hoare2.proofs.TypeArguments.{Closed}
use Rattle.df_hoare2.proofs.Heads.{found_function}
use Rattle.df_hoare2.proofs.WholeTypes.{whole_typed}
use Rattle.df_hoare2.proofs.Meeting.{Stands, CallsMeet, meets, judge_meets, measured_meets}
use Rattle.df_hoare2.proofs.Locals.{distinct_front, given_looked, handed_is}
use Rattle.df_hoare2.proofs.Entering.{Enters}
use Rattle.df_hoare2.proofs.Answering.{plain, calls_in, Refused}
use Rattle.df_hoare2.proofs.Functions.{no_later, FunctionSound, begun_stands, inside_stands}

-- ---- the run of a function

module _ (p : Program) (safe : IsSafe p) (number : ℕ) (f : Function) (there : function_at p number ≡ Some f) (sound : FunctionSound p safe.groups number f) (types : Tys) (arguments : List Value) (heap : Heap)
    (closed : Closed p f.head.type_parameters types) (typed : AreOf p types (types_of f.head.parameters) arguments) where
  abbrev pub begun : State
  begun = beginning f.head types arguments heap

  abbrev pub R : ℕ → Outcome State
  R n = run_function (whole p n) plain safe.groups number f begun

  -- the arguments and the heap are handed in
  abbrev oracle : Oracle
  oracle = record { free = λ site part. unwrap_or (begun.locals part) NullReference; heap = λ site. heap; inside = λ site. false; first = λ site. 0 }

  handed_in : (n : ℕ) → run (whole p n) oracle safe.groups number types (FunctionDecl f) ≡ R n
  handed_in n = then_gives (handed p types (λ k. unwrap_or (begun.locals k) NullReference) f.head.parameters) _ arguments (R n)
      (handed_is p types f.head.parameters arguments begun.locals (given_looked p types f.head.parameters arguments (λ k. None) (distinct_front f.head.parameters f.head.results sound.is.head.distinct) typed.by) typed.by) refl

  pub never_wrong : (n : ℕ) → IsWrong (R n) → ⊥
  never_wrong n = not_wrong (R n) (λ at kind e. safe.declarations number (FunctionDecl f) (found_function (slice_get p.decls number) f there) at kind (record {
    depth = n;
    oracle = oracle;
    types = types;
    marked = closed.marked;
    closed = closed.closed;
    wrong = handed_in n ∙ e;
  }))

  -- in what it requires and reads, and in its measure, nothing is below
  abbrev pub T : ℕ → Meaning
  T n = meaning_with p (calls_in p (running safe.groups number None) n)

  abbrev pub O : List Measured → ℕ → Meaning
  O entry n = meaning_with p (calls_in p (running safe.groups number (Some entry)) n)

  abbrev pub inside : Value → State
  inside frame = reading_inside begun frame

  -- so far the run goes on
  pub record Passed (n : ℕ) (frame again : Value) (entry : List Measured) : Type 0 where
    pub needs : judge (T n) begun (conditions f.head.preconditions) ≡ Gives true
    pub named : evaluate (T n) begun (frame_objects f.head) ≡ Gives frame
    pub needs_inside : judge (T n) (inside frame) (conditions f.head.preconditions) ≡ Gives true
    pub named_inside : evaluate (T n) (inside frame) (frame_objects f.head) ≡ Gives again
    pub measured_is : measured (T n) begun (function_measure f.head) ≡ Gives entry

  first_wrong : (n : ℕ) → IsWrong (judge (T n) begun (conditions f.head.preconditions)) → IsWrong (R n)
  first_wrong n h = wrong_after (assume_all (T n) begun (conditions f.head.preconditions)) _ (assume_wrong (T n) begun (conditions f.head.preconditions) h)

  second_wrong : (n : ℕ) → judge (T n) begun (conditions f.head.preconditions) ≡ Gives true → IsWrong (evaluate (T n) begun (frame_objects f.head)) → IsWrong (R n)
  second_wrong n a h = then_wrong (assume_all (T n) begun (conditions f.head.preconditions)) _ begun (assume_true (T n) begun (conditions f.head.preconditions) a) (wrong_after (evaluate (T n) begun (frame_objects f.head)) _ h)

  abbrev again_needed : ℕ → Value → Outcome State
  again_needed n frame = check_all (T n) (inside frame) (map (as_kind kinds.Requires) f.head.preconditions)

  third_wrong : (n : ℕ) (frame : Value) → judge (T n) begun (conditions f.head.preconditions) ≡ Gives true → evaluate (T n) begun (frame_objects f.head) ≡ Gives frame → IsWrong (again_needed n frame) → IsWrong (R n)
  third_wrong n frame a b h = then_wrong (assume_all (T n) begun (conditions f.head.preconditions)) _ begun (assume_true (T n) begun (conditions f.head.preconditions) a)
      (then_wrong (evaluate (T n) begun (frame_objects f.head)) _ frame b (wrong_after (again_needed n frame) _ h))

  needed_again : (n : ℕ) (frame : Value) → judge (T n) (inside frame) (conditions f.head.preconditions) ≡ Gives true → again_needed n frame ≡ Gives (inside frame)
  needed_again n frame h = check_true (T n) (inside frame) (map (as_kind kinds.Requires) f.head.preconditions) (ap (judge (T n) (inside frame)) (kind_conditions kinds.Requires f.head.preconditions) ∙ h)

  fourth_wrong : (n : ℕ) (frame : Value) → judge (T n) begun (conditions f.head.preconditions) ≡ Gives true → evaluate (T n) begun (frame_objects f.head) ≡ Gives frame → judge (T n) (inside frame) (conditions f.head.preconditions) ≡ Gives true
      → IsWrong (evaluate (T n) (inside frame) (frame_objects f.head)) → IsWrong (R n)
  fourth_wrong n frame a b c h = then_wrong (assume_all (T n) begun (conditions f.head.preconditions)) _ begun (assume_true (T n) begun (conditions f.head.preconditions) a)
      (then_wrong (evaluate (T n) begun (frame_objects f.head)) _ frame b (then_wrong (again_needed n frame) _ (inside frame) (needed_again n frame c) (wrong_after (evaluate (T n) (inside frame) (frame_objects f.head)) _ h)))

  fifth_wrong : (n : ℕ) (frame again : Value) → judge (T n) begun (conditions f.head.preconditions) ≡ Gives true → evaluate (T n) begun (frame_objects f.head) ≡ Gives frame → judge (T n) (inside frame) (conditions f.head.preconditions) ≡ Gives true
      → evaluate (T n) (inside frame) (frame_objects f.head) ≡ Gives again → IsWrong (measured (T n) begun (function_measure f.head)) → IsWrong (R n)
  fifth_wrong n frame again a b c d h = then_wrong (assume_all (T n) begun (conditions f.head.preconditions)) _ begun (assume_true (T n) begun (conditions f.head.preconditions) a)
      (then_wrong (evaluate (T n) begun (frame_objects f.head)) _ frame b (then_wrong (again_needed n frame) _ (inside frame) (needed_again n frame c)
      (then_wrong (evaluate (T n) (inside frame) (frame_objects f.head)) _ again d (wrong_after (measured (T n) begun (function_measure f.head)) _ h))))

  -- the body, and what is owed behind it
  abbrev pub owed : List Measured → ℕ → Value → Outcome State
  owed entry n v = check_all (O entry n) (leaving f.head.results (v ∷ []) begun) (map (resulting_demand (itself number f.head)) f.head.postconditions)

  last_wrong : (n : ℕ) (frame again : Value) (entry : List Measured) → Passed n frame again entry → IsWrong (after (evaluate (O entry n) (inside frame) f.value) (owed entry n)) → IsWrong (R n)
  last_wrong n frame again entry h w = then_wrong (assume_all (T n) begun (conditions f.head.preconditions)) _ begun (assume_true (T n) begun (conditions f.head.preconditions) h.needs)
      (then_wrong (evaluate (T n) begun (frame_objects f.head)) _ frame h.named (then_wrong (again_needed n frame) _ (inside frame) (needed_again n frame h.needs_inside)
      (then_wrong (evaluate (T n) (inside frame) (frame_objects f.head)) _ again h.named_inside (then_wrong (measured (T n) begun (function_measure f.head)) _ entry h.measured_is w))))

  pub body_not_wrong : (n : ℕ) (frame again : Value) (entry : List Measured) → Passed n frame again entry → IsWrong (evaluate (O entry n) (inside frame) f.value) → ⊥
  body_not_wrong n frame again entry h w = never_wrong n (last_wrong n frame again entry h (wrong_after (evaluate (O entry n) (inside frame) f.value) (owed entry n) w))

  pub owed_not_wrong : (n : ℕ) (frame again : Value) (entry : List Measured) (v : Value) → Passed n frame again entry → evaluate (O entry n) (inside frame) f.value ≡ Gives v → IsWrong (owed entry n v) → ⊥
  owed_not_wrong n frame again entry v h e w = never_wrong n (last_wrong n frame again entry h (then_wrong (evaluate (O entry n) (inside frame) f.value) (owed entry n) v e w))

  -- ---- it starts

  pub record Started : Type 0 where
    pub frame : Value
    pub again : Value
    pub entry : List Measured
    pub enters : From (λ n. Enters (whole p n) f.head types arguments heap frame)
    pub falls : From (λ n. measured (whole p n) begun (function_measure f.head) ≡ Gives entry)
    pub passes : From (λ n. Passed n frame again entry)

  pub data Start : Type 0 where
    unmet : Refused p f types arguments heap → Start
    starts : Started → Start

  module _ (well : is_program p ≡ true) (calls : CallsMeet p (no_later safe.groups number) (calls_in p (running safe.groups number None))) where
    abbrev W : ℕ → Meaning
    W n = whole p n

    abbrev may : ℕ → Bool
    may = no_later safe.groups number

    judged_at : (s : State) → Stands p (is_there (entry_scope f.head)) (entry_scope f.head) s → Meets (λ n. judge (W n) s (conditions f.head.preconditions)) (λ n. judge (T n) s (conditions f.head.preconditions))
    judged_at s h = judge_meets p may (is_there (entry_scope f.head)) (calls_in p (running safe.groups number None)) (whole_typed p well) calls (conditions f.head.preconditions) (entry_scope f.head) s h sound.contract.preconditions

    pub start : Start
    start = by_needs (judged_at begun (begun_stands p f.head sound.is.head types arguments heap closed typed))
      where
        by_measure : (frame again : Value) → From (λ n. judge (W n) begun (conditions f.head.preconditions) ≡ Gives true) → From (λ n. judge (T n) begun (conditions f.head.preconditions) ≡ Gives true)
            → From (λ n. evaluate (W n) begun (frame_objects f.head) ≡ Gives frame) → From (λ n. evaluate (T n) begun (frame_objects f.head) ≡ Gives frame)
            → From (λ n. judge (W n) (inside frame) (conditions f.head.preconditions) ≡ Gives true) → From (λ n. judge (T n) (inside frame) (conditions f.head.preconditions) ≡ Gives true)
            → From (λ n. evaluate (W n) (inside frame) (frame_objects f.head) ≡ Gives again) → From (λ n. evaluate (T n) (inside frame) (frame_objects f.head) ≡ Gives again)
            → Meets (λ n. measured (W n) begun (function_measure f.head)) (λ n. measured (T n) begun (function_measure f.head)) → Start
        by_measure frame again a x b y c z d w (fails h) =
            let n = max (max (max x.depth y.depth) (max z.depth w.depth)) h.depth in
            absurd (never_wrong n (fifth_wrong n frame again (x.holds n (omega arith)) (y.holds n (omega arith)) (z.holds n (omega arith)) (w.holds n (omega arith)) (h.holds n (omega arith))))
        by_measure frame again a x b y c z d w (comes entry e h) = starts (record {
          frame = frame;
          again = again;
          entry = entry;
          enters = record {
            depth = max (max a.depth b.depth) (max c.depth d.depth);
            holds = λ n le. record { needs = a.holds n (omega (arith, le)); named = b.holds n (omega (arith, le)); needs_inside = c.holds n (omega (arith, le)); again = again; named_inside = d.holds n (omega (arith, le)) };
          };
          falls = e;
          passes = record {
            depth = max (max (max x.depth y.depth) (max z.depth w.depth)) h.depth;
            holds = λ n le. record { needs = x.holds n (omega (arith, le)); named = y.holds n (omega (arith, le)); needs_inside = z.holds n (omega (arith, le)); named_inside = w.holds n (omega (arith, le)); measured_is = h.holds n (omega (arith, le)) };
          };
        })

        by_inside : (frame : Value) → From (λ n. judge (W n) begun (conditions f.head.preconditions) ≡ Gives true) → From (λ n. judge (T n) begun (conditions f.head.preconditions) ≡ Gives true)
            → From (λ n. evaluate (W n) begun (frame_objects f.head) ≡ Gives frame) → From (λ n. evaluate (T n) begun (frame_objects f.head) ≡ Gives frame)
            → From (λ n. judge (W n) (inside frame) (conditions f.head.preconditions) ≡ Gives true) → From (λ n. judge (T n) (inside frame) (conditions f.head.preconditions) ≡ Gives true)
            → Meets (λ n. evaluate (W n) (inside frame) (frame_objects f.head)) (λ n. evaluate (T n) (inside frame) (frame_objects f.head)) → Start
        by_inside frame a x b y c z (fails h) =
            let n = max (max x.depth y.depth) (max z.depth h.depth) in
            absurd (never_wrong n (fourth_wrong n frame (x.holds n (omega arith)) (y.holds n (omega arith)) (z.holds n (omega arith)) (h.holds n (omega arith))))
        by_inside frame a x b y c z (comes again d w) = by_measure frame again a x b y c z d w
            (measured_meets p may (is_there (entry_scope f.head)) (calls_in p (running safe.groups number None)) (whole_typed p well) calls (function_measure f.head) (entry_scope f.head) begun (begun_stands p f.head sound.is.head types arguments heap closed typed) sound.contract.function_measure)

        by_again : (frame : Value) → From (λ n. judge (W n) begun (conditions f.head.preconditions) ≡ Gives true) → From (λ n. judge (T n) begun (conditions f.head.preconditions) ≡ Gives true)
            → From (λ n. evaluate (W n) begun (frame_objects f.head) ≡ Gives frame) → From (λ n. evaluate (T n) begun (frame_objects f.head) ≡ Gives frame)
            → Meets (λ n. judge (W n) (inside frame) (conditions f.head.preconditions)) (λ n. judge (T n) (inside frame) (conditions f.head.preconditions)) → Start
        by_again frame a x b y (fails h) =
            let n = max (max x.depth y.depth) h.depth in
            absurd (never_wrong n (third_wrong n frame (x.holds n (omega arith)) (y.holds n (omega arith))
            (check_wrong (T n) (inside frame) (map (as_kind kinds.Requires) f.head.preconditions) (subst (λ es. IsWrong (judge (T n) (inside frame) es)) (sym (kind_conditions kinds.Requires f.head.preconditions)) (h.holds n (omega arith))))))
        by_again frame a x b y (comes false c z) =
            let n = max (max x.depth y.depth) z.depth in
            absurd (never_wrong n (third_wrong n frame (x.holds n (omega arith)) (y.holds n (omega arith))
            (check_false (T n) (inside frame) (map (as_kind kinds.Requires) f.head.preconditions) (ap (judge (T n) (inside frame)) (kind_conditions kinds.Requires f.head.preconditions) ∙ z.holds n (omega arith)))))
        by_again frame a x b y (comes true c z) = by_inside frame a x b y c z
            (meets p may (is_there (entry_scope f.head)) (calls_in p (running safe.groups number None)) (whole_typed p well) calls (frame_objects f.head) (entry_scope f.head) (inside frame) (Set (AnyObject false)) (inside_stands p f.head sound.is.head types arguments heap closed typed frame) sound.contract.frame.0 sound.contract.frame.1)

        by_names : From (λ n. judge (W n) begun (conditions f.head.preconditions) ≡ Gives true) → From (λ n. judge (T n) begun (conditions f.head.preconditions) ≡ Gives true)
            → Meets (λ n. evaluate (W n) begun (frame_objects f.head)) (λ n. evaluate (T n) begun (frame_objects f.head)) → Start
        by_names a x (fails h) =
            let n = max x.depth h.depth in
            absurd (never_wrong n (second_wrong n (x.holds n (omega arith)) (h.holds n (omega arith))))
        by_names a x (comes frame b y) = by_again frame a x b y (judged_at (inside frame) (inside_stands p f.head sound.is.head types arguments heap closed typed frame))

        by_needs : Meets (λ n. judge (W n) begun (conditions f.head.preconditions)) (λ n. judge (T n) begun (conditions f.head.preconditions)) → Start
        by_needs (fails h) = absurd (never_wrong h.depth (first_wrong h.depth (h.holds h.depth (omega arith))))
        by_needs (comes false a x) = unmet a
        by_needs (comes true a x) = by_names a x
            (meets p may (is_there (entry_scope f.head)) (calls_in p (running safe.groups number None)) (whole_typed p well) calls (frame_objects f.head) (entry_scope f.head) begun (Set (AnyObject false)) (begun_stands p f.head sound.is.head types arguments heap closed typed) sound.contract.frame.0 sound.contract.frame.1)
