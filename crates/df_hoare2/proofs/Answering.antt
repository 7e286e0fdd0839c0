-- What is known of functions on arguments, and what it says of their calls in modular runs.
use Rattle.std.proofs.Common.{◌≡◌, ℕ, max, Bool, true, false, if◌then◌else◌, List, [], ◌∷◌, Some, refl, sym, ap, subst, ◌∙◌, arith}
use Rattle.std.specs.Option.{option_map_or}
use Rattle.df_base.specs.declared.pos.Pos.{Pos}
use Rattle.df_types.specs.declared.kind.Kind.TheVariants as kinds
use Rattle.df_types.specs.Ty.{Tys}
use Rattle.df_types.specs.Program.{Function, Program, function_at, types_of}
use Rattle.df_types.specs.Measures.{frame_objects, function_measure}
use Rattle.df_meaning2.specs.Value.{Value, NullReference, no_object}
use Rattle.df_meaning2.specs.Heap.{Heap, lies_in_readable}
use Rattle.df_meaning2.specs.Outcome.{Outcome, Gives, Wrong, Dismissed, after}
use Rattle.df_meaning2.specs.State.{State, reading_all, reading_inside, entering}
use Rattle.df_meaning2.specs.Meaning.{Meaning, Measured, assume_all, measured}
use Rattle.df_meaning2.specs.Execution.{conditions}
use Rattle.df_meaning2.specs.Whole.{entered, apply_at, meaning_with, whole}
use Rattle.df_meaning2.specs.Modular.{Oracle, Running, or_dismissed, check_decrease, leaving, is_never_below, apply_head, demanding}
use Rattle.df_meaning2.specs.Correct.{beginning}
use Rattle.df_meaning2.specs.Typed.{AreOf}
use Rattle.df_hoare2.proofs.Depths.{From, IsWrong, Meets, fails, comes, wrong_after, then_gives}
use Rattle.df_hoare2.proofs.Judging.{judge, assume_true}
use Rattle.df_hoare2.proofs.Agreeing.{Respects, whole_respects}
use Rattle.df_hoare2.proofs.Dismissing.{Applying, dismissed_by, dismissing_respects, keeps_value, keeps_judgement, keeps_measure}
use Rattle.df_hoare2.proofs.Entering.{Enters, enters_here, refused_here, measured_free, judge_leaving}
use Rattle.df_hoare2.proofs.TypeArguments.{Closed}
use Rattle.df_hoare2.proofs.Meeting.{CallsMeet}

-- an oracle that looks first at the first value, as whole runs do
abbrev pub plain : Oracle
plain = record { free = λ site part. NullReference; heap = λ site. no_object; inside = λ site. false; first = λ site. 0 }

-- calls of functions in a run
abbrev pub calls_in : Program → Running → ℕ → Applying
calls_in p run n = (demanding (whole p n) plain run).apply

-- ---- what is known of a function on arguments

-- from some depth on what it requires is true, it has this value, and what it ensures is true
pub record Right (p : Program) (number : ℕ) (f : Function) (types : Tys) (arguments : List Value) (heap : Heap) : Type 0 where
  pub frame : Value
  pub value : Value
  pub entry : List Measured
  pub enters : From (λ n. Enters (whole p n) f.head types arguments heap frame)
  pub falls : From (λ n. measured (whole p n) (beginning f.head types arguments heap) (function_measure f.head) ≡ Gives entry)
  pub gives : From (λ n. (at : Pos) (s : State) → s.store.heap ≡ heap → lies_in_readable s.readable frame ≡ true → (whole p n).apply at number types arguments s ≡ Gives value)
  pub ensured : From (λ n. judge (whole p n) (leaving f.head.results (value ∷ []) (beginning f.head types arguments heap)) (conditions f.head.postconditions) ≡ Gives true)

abbrev pub Refused : Program → Function → Tys → List Value → Heap → Type 0
Refused p f types arguments heap = From (λ n. judge (whole p n) (beginning f.head types arguments heap) (conditions f.head.preconditions) ≡ Gives false)

-- whether its arguments meet what it requires comes to an answer, and where they do, it is right
pub data Answered (p : Program) (number : ℕ) (f : Function) (types : Tys) (arguments : List Value) (heap : Heap) : Type 0 where
  refused : Refused p f types arguments heap → Answered p number f types arguments heap
  right : Right p number f types arguments heap → Answered p number f types arguments heap

-- what is known of a call in a run
pub data Known (p : Program) (run : Running) (number : ℕ) (f : Function) (types : Tys) (arguments : List Value) (heap : Heap) : Type 0 where
  not_required : Refused p f types arguments heap → Known p run number f types arguments heap
  not_falling : (frame : Value) (entry : List Measured) → From (λ n. Enters (whole p n) f.head types arguments heap frame)
      → From (λ n. measured (whole p n) (beginning f.head types arguments heap) (function_measure f.head) ≡ Gives entry) → ((at : Pos) → IsWrong (check_decrease run at number (Gives entry))) → Known p run number f types arguments heap
  falling : (r : Right p number f types arguments heap) → ((at : Pos) → (now : List Measured) × (check_decrease run at number (Gives r.entry) ≡ Gives now)) → Known p run number f types arguments heap

abbrev pub Knows : Program → Running → (ℕ → Bool) → Type 0
Knows p run may = (callee : ℕ) (f : Function) (types : Tys) (arguments : List Value) (heap : Heap) → function_at p callee ≡ Some f → may callee ≡ true → Closed p f.head.type_parameters types → AreOf p types (types_of f.head.parameters) arguments
    → is_never_below run callee ≡ false → Known p run callee f types arguments heap

-- ---- one call in a modular run

module _ (p : Program) (run : Running) (number : ℕ) (f : Function) (types : Tys) (arguments : List Value) (there : function_at p number ≡ Some f) (at : Pos) (s : State) where
  abbrev W : ℕ → Meaning
  W n = whole p n

  abbrev D : ℕ → Meaning
  D n = meaning_with p (dismissed_by (apply_at p n))

  abbrev M : ℕ → Outcome Value
  M n = calls_in p run n at number types arguments s

  abbrev go : ℕ → State → Outcome Value
  go n t =
      after (check_decrease run at number (measured (D n) (reading_all t) (function_measure f.head))) (λ now.
      after (or_dismissed ((W n).apply at number types arguments s)) (λ v.
      after (or_dismissed (assume_all (D n) (leaving f.head.results (v ∷ []) (reading_all t)) (conditions f.head.postconditions))) (λ u. Gives v)))

  abbrev free : State
  free = entering types f.head.parameters arguments s

  dismissing_enters : (n : ℕ) (frame : Value) → Enters (W n) f.head types arguments s.store.heap frame → Enters (D n) f.head types arguments s.store.heap frame
  dismissing_enters n frame en = record {
    needs = keeps_judgement p (apply_at p n) (beginning f.head types arguments s.store.heap) (conditions f.head.preconditions) true en.needs;
    named = keeps_value p (apply_at p n) (beginning f.head types arguments s.store.heap) (frame_objects f.head) frame en.named;
    needs_inside = keeps_judgement p (apply_at p n) (reading_inside (beginning f.head types arguments s.store.heap) frame) (conditions f.head.preconditions) true en.needs_inside;
    again = en.again;
    named_inside = keeps_value p (apply_at p n) (reading_inside (beginning f.head types arguments s.store.heap) frame) (frame_objects f.head) en.again en.named_inside;
  }

  found : (n : ℕ) → M n ≡ apply_head (W n) plain run at number types arguments s f
  found n = ap (λ o. option_map_or (apply_head (W n) plain run at number types arguments s) o Dismissed) there

  -- where the call may be below
  opened : (n : ℕ) → is_never_below run number ≡ false → M n ≡ entered (D n) at types f.head arguments s (go n)
  opened n never = found n ∙ ap (λ b. if b then Wrong at kinds.Decreases else entered (D n) at types f.head arguments s (go n)) never

  respects : (n : ℕ) → Respects (D n)
  respects n = dismissing_respects p (apply_at p n) (whole_respects p n)

  pub never_below : (n : ℕ) → is_never_below run number ≡ true → IsWrong (M n)
  never_below n never = subst IsWrong (sym (found n ∙ ap (λ b. if b then Wrong at kinds.Decreases else entered (D n) at types f.head arguments s (go n)) never)) tt

  pub refused_wrong : (n : ℕ) → is_never_below run number ≡ false → judge (W n) (beginning f.head types arguments s.store.heap) (conditions f.head.preconditions) ≡ Gives false → IsWrong (M n)
  refused_wrong n never h = subst IsWrong (sym (opened n never))
      (refused_here (D n) (respects n) f.head types arguments s (keeps_judgement p (apply_at p n) (beginning f.head types arguments s.store.heap) (conditions f.head.preconditions) false h) at (go n))

  -- behind what it requires and reads
  behind : (n : ℕ) (frame : Value) → is_never_below run number ≡ false → Enters (W n) f.head types arguments s.store.heap frame → M n ≡ (if lies_in_readable s.readable frame then go n (reading_inside free frame) else Wrong at kinds.Reads)
  behind n frame never en = opened n never ∙ enters_here (D n) (respects n) f.head types arguments s frame (dismissing_enters n frame en) at (go n)

  pub unreadable_wrong : (n : ℕ) (frame : Value) → is_never_below run number ≡ false → Enters (W n) f.head types arguments s.store.heap frame → lies_in_readable s.readable frame ≡ false → IsWrong (M n)
  unreadable_wrong n frame never en not =
      subst IsWrong (sym (behind n frame never en ∙ ap (λ b. if b then go n (reading_inside free frame) else Wrong at kinds.Reads) not)) tt

  inside : (n : ℕ) (frame : Value) → is_never_below run number ≡ false → Enters (W n) f.head types arguments s.store.heap frame → lies_in_readable s.readable frame ≡ true → M n ≡ go n (reading_inside free frame)
  inside n frame never en may = behind n frame never en ∙ ap (λ b. if b then go n (reading_inside free frame) else Wrong at kinds.Reads) may

  now_measured : (n : ℕ) (entry : List Measured) → measured (W n) (beginning f.head types arguments s.store.heap) (function_measure f.head) ≡ Gives entry → measured (D n) free (function_measure f.head) ≡ Gives entry
  now_measured n entry m = measured_free (D n) (respects n) f.head types arguments s (function_measure f.head) ∙ keeps_measure p (apply_at p n) (beginning f.head types arguments s.store.heap) (function_measure f.head) entry m

  pub not_falling_wrong : (n : ℕ) (frame : Value) (entry : List Measured) → is_never_below run number ≡ false → Enters (W n) f.head types arguments s.store.heap frame → lies_in_readable s.readable frame ≡ true
      → measured (W n) (beginning f.head types arguments s.store.heap) (function_measure f.head) ≡ Gives entry → IsWrong (check_decrease run at number (Gives entry)) → IsWrong (M n)
  not_falling_wrong n frame entry never en may m wrong =
      subst IsWrong (sym (inside n frame never en may)) (wrong_after (check_decrease run at number (measured (D n) free (function_measure f.head))) _ (subst (λ o. IsWrong (check_decrease run at number o)) (sym (now_measured n entry m)) wrong))

  pub gives_value : (n : ℕ) (frame v : Value) (entry now : List Measured) → is_never_below run number ≡ false → Enters (W n) f.head types arguments s.store.heap frame → lies_in_readable s.readable frame ≡ true
      → measured (W n) (beginning f.head types arguments s.store.heap) (function_measure f.head) ≡ Gives entry → check_decrease run at number (Gives entry) ≡ Gives now
      → (W n).apply at number types arguments s ≡ Gives v
      → judge (W n) (leaving f.head.results (v ∷ []) (beginning f.head types arguments s.store.heap)) (conditions f.head.postconditions) ≡ Gives true → M n ≡ Gives v
  gives_value n frame v entry now never en may m falls value good =
      let ensured : judge (D n) (leaving f.head.results (v ∷ []) free) (conditions f.head.postconditions) ≡ Gives true =
      judge_leaving (D n) (respects n) f.head types arguments s v (conditions f.head.postconditions)
      ∙ keeps_judgement p (apply_at p n) (leaving f.head.results (v ∷ []) (beginning f.head types arguments s.store.heap)) (conditions f.head.postconditions) true good
      in
      inside n frame never en may
      ∙ then_gives (check_decrease run at number (measured (D n) free (function_measure f.head))) _ now (Gives v) (ap (check_decrease run at number) (now_measured n entry m) ∙ falls)
      (then_gives (or_dismissed ((W n).apply at number types arguments s)) _ v (Gives v) (ap or_dismissed value)
      (then_gives (or_dismissed (assume_all (D n) (leaving f.head.results (v ∷ []) free) (conditions f.head.postconditions))) _ (leaving f.head.results (v ∷ []) free) (Gives v)
      (ap or_dismissed (assume_true (D n) (leaving f.head.results (v ∷ []) free) (conditions f.head.postconditions) ensured)) refl))

-- ---- all calls

abbrev Goal : Program → Running → Pos → ℕ → Tys → List Value → State → Type 0
Goal p run at callee types vs s = Meets (λ n. (whole p n).apply at callee types vs s) (λ n. calls_in p run n at callee types vs s)

pub calls_meet : (p : Program) (run : Running) (may : ℕ → Bool) → Knows p run may → CallsMeet p may (calls_in p run)
calls_meet p run may knows at callee f types vs s e m c k = by_never (is_never_below run callee) refl
  where
    by_reads : is_never_below run callee ≡ false → (frame : Value) → From (λ n. Enters (whole p n) f.head types vs s.store.heap frame) → (lies_in_readable s.readable frame ≡ true → Goal p run at callee types vs s) → (b : Bool) → lies_in_readable s.readable frame ≡ b → Goal p run at callee types vs s
    by_reads never frame en h true t = h t
    by_reads never frame en h false t = fails (record { depth = en.depth; holds = λ n le. unreadable_wrong p run callee f types vs e at s n frame never (en.holds n le) t })

    by_known : is_never_below run callee ≡ false → Known p run callee f types vs s.store.heap → Goal p run at callee types vs s
    by_known never (not_required h) = fails (record { depth = h.depth; holds = λ n le. refused_wrong p run callee f types vs e at s n never (h.holds n le) })
    by_known never (not_falling frame entry en ms wrong) = by_reads never frame en (λ may. fails (record {
      depth = max en.depth ms.depth;
      holds = λ n le. not_falling_wrong p run callee f types vs e at s n frame entry never (en.holds n (omega (arith, le))) may (ms.holds n (omega (arith, le))) (wrong at);
    })) (lies_in_readable s.readable frame) refl
    by_known never (falling r falls) = by_reads never r.frame r.enters (λ may. comes r.value
        (record { depth = r.gives.depth; holds = λ n le. r.gives.holds n le at s refl may })
        (record {
          depth = max (max r.enters.depth r.falls.depth) (max r.gives.depth r.ensured.depth);
          holds = λ n le. gives_value p run callee f types vs e at s n r.frame r.value r.entry (falls at).0 never (r.enters.holds n (omega (arith, le))) may (r.falls.holds n (omega (arith, le))) (falls at).1
              (r.gives.holds n (omega (arith, le)) at s refl may) (r.ensured.holds n (omega (arith, le)));
        })) (lies_in_readable s.readable r.frame) refl

    by_never : (b : Bool) → is_never_below run callee ≡ b → Goal p run at callee types vs s
    by_never true never = fails (record { depth = 0; holds = λ n le. never_below p run callee f types vs e at s n never })
    by_never false never = by_known never (knows callee f types vs s.store.heap e m c k never)
