-- The machine follows calls and updates.
use Rattle.std.proofs.Common.{◌≡◌, ℕ, zero, suc, ◌+◌, ◌<◌, ◌≤◌, ◌&&◌, ◌==◌, Bool, true, false, List, [], ◌∷◌, ◌++◌, length, map, reverse, replicate, take, drop, Option, Some, None, refl, sym, ap, ◌∙◌, subst, arith, append_assoc, length-append}
use Rattle.std.specs.Prelude.{slice_get, nat_le}
use Rattle.std.specs.List.{list_all}
use Rattle.std.specs.Option.{option_map_or}
use Rattle.std.proofs.lemmas.Bool.Decides.{nat_tests}
use Rattle.std.proofs.lemmas.List.{length-map, length-reverse, take_at, drop_at, reverse-append, reverse-reverse}
use Rattle.df_meaning.specs.Value.{Value}
use Rattle.df_nplain.specs.Expr.{Expr}
use Rattle.df_nplain.specs.Stmt.{Call, Source, Single, Results, Update}
use Rattle.df_nplain.specs.Plain as plain
use Rattle.df_nplain.specs.Bounded.{is_bounded, is_bounded_source, is_bounded_call, is_bounded_update}
use Rattle.df_nplain.specs.Plain.{results_at}
use Rattle.df_nplain.specs.Counts.{is_call, is_source, count_of, is_update}
use Rattle.df_nplain.specs.Outcome.{Outcome, Wrong, TooDeep, Stuck, after}
use Rattle.df_nplain.specs.Outcome as outcomes
use Rattle.df_nplain.specs.State.{State, with_text}
use Rattle.df_nplain.specs.Meaning.{Meaning, Returned}
use Rattle.df_nplain.specs.Evaluation.{evaluate}
use Rattle.df_nplain.specs.Execution.{Values, evaluate_all, execute_call, execute_source, execute_sources, give_all, execute_update, execute_optional}
use Rattle.df_nmach.specs.declared.instruction.Instruction.TheVariants as i
use Rattle.df_nmach.specs.Value as mach
use Rattle.df_nmach.specs.State.{Method, Code, Heap, Frame}
use Rattle.df_nmach.specs.Step.{Effect, Calls as EffectCalls, given, demand, next_effect, stepped, On, beginning}
use Rattle.df_nmach.specs.Run.{and_then, machine_run}
use Rattle.df_nmach.proofs.Runs.{run_add}
use Rattle.df_nemit.specs.Code.{exprs_code, expr_code, call_code, source_code, sources_code, sets_code, update_code, optional_code, method_code, plain_code}
use Rattle.df_nemit.specs.Correct.{is_simple, called, returned}
use Rattle.df_nemit.specs.Ending.{machine_value}
use Rattle.df_nemit.proofs.Reach.{HasAt, has_front, has_back, World, instructions, point, frame, at, Leads, next_is, Still, still_none, still_on, still_one, Simple, Carries, still_carries, carries_on, carries_to, Gives}
use Rattle.df_nemit.proofs.ExpressionRuns.{both, expr_runs}
use Rattle.df_nemit.proofs.Places.{pushed, placed, sets_run, sets_fit, gives_covers, gives_simple, gives_text}
use Rattle.df_nemit.proofs.Lifts.{Comes, comes_after, comes_to, Brings, Answers, Calls}

pub at_most : (m n : ℕ) → m ≤ n → nat_le m n ≡ true
at_most m n le = grind (arith, nat_tests)

pub same_number : (m n : ℕ) → (m == n) ≡ true → m ≡ n
same_number m n e = grind (arith, nat_tests)

-- pushed values are in reverse
pub pushed_is : (vs : List Value) (o : List mach.Value) → pushed vs o ≡ reverse (map machine_value vs) ++ o
pushed_is [] o = refl
pushed_is (v ∷ vs) o =
    pushed_is vs (machine_value v ∷ o)
    ∙ sym (append_assoc (reverse (map machine_value vs)) (machine_value v ∷ []) o)
    ∙ ap (λ (l : List mach.Value). l ++ o) (sym (reverse-append (machine_value v ∷ []) (map machine_value vs)))

pub pushed_append : (a b : List Value) (o : List mach.Value) → pushed b (pushed a o) ≡ pushed (a ++ b) o
pushed_append [] b o = refl
pushed_append (v ∷ a) b o = pushed_append a b (machine_value v ∷ o)

pub all_append : (a b : List Value) → list_all is_simple a ≡ true → list_all is_simple b ≡ true → list_all is_simple (a ++ b) ≡ true
all_append [] b e f = f
all_append (v ∷ a) b e f = let k = both (is_simple v) (list_all is_simple a) e in ap (λ (x : Bool). x && list_all is_simple (a ++ b)) k.0 ∙ all_append a b k.1 f

-- ---- expressions in order

-- where an outcome is values, none is a text, and they come on top
abbrev pub Lists : World → ℕ → State → List mach.Value → ℕ → ℕ → Outcome (List Value) → Type 0
Lists w p s o n count (outcomes.Gives vs) = (list_all is_simple vs ≡ true) × (length vs ≡ count) × Carries w p s o n s (pushed vs o)
Lists w p s o n count (Wrong fault) = Unit {0}
Lists w p s o n count TooDeep = Unit {0}
Lists w p s o n count Stuck = Unit {0}

lists_more : (w : World) (p p1 n : ℕ) (s : State) (o : List mach.Value) (v : Value) (count : ℕ) (r : Outcome (List Value)) → is_simple v ≡ true → Carries w p s o p1 s (machine_value v ∷ o) → Lists w p1 s (machine_value v ∷ o) n count r
    → Lists w p s o n (suc count) (after r (λ vs. outcomes.Gives (v ∷ vs)))
lists_more w p p1 n s o v count (outcomes.Gives vs) sv a b = (ap (λ (x : Bool). x && list_all is_simple vs) sv ∙ b.0, ap suc b.1, carries_on w p p1 n s s s o (machine_value v ∷ o) (pushed vs (machine_value v ∷ o)) a b.2)
lists_more w p p1 n s o v count (Wrong fault) sv a b = tt
lists_more w p p1 n s o v count TooDeep sv a b = tt
lists_more w p p1 n s o v count Stuck sv a b = tt

lists_bind : (w : World) (p p1 n : ℕ) (s : State) (o : List mach.Value) (count : ℕ) (r : Outcome Value) (more : Outcome (List Value)) → Gives w p s o p1 o r → ((v : Value) → Lists w p1 s (machine_value v ∷ o) n count more)
    → Lists w p s o n (suc count) (after r (λ v. after more (λ vs. outcomes.Gives (v ∷ vs))))
lists_bind w p p1 n s o count (outcomes.Gives v) more a b = lists_more w p p1 n s o v count more a.0 a.1 (b v)
lists_bind w p p1 n s o count (Wrong fault) more a b = tt
lists_bind w p p1 n s o count TooDeep more a b = tt
lists_bind w p p1 n s o count Stuck more a b = tt

lists_to : (w : World) (p n k : ℕ) (s : State) (o : List mach.Value) (count : ℕ) (r : Outcome (List Value)) → n ≡ k → Lists w p s o n count r → Lists w p s o k count r
lists_to w p n k s o count r e a = subst (λ (x : ℕ). Lists w p s o x count r) e a

pub exprs_run : (w : World) (m : Meaning) (s : State) → Simple s → (es : List Expr) → list_all is_bounded es ≡ true → (p : ℕ) (o : List mach.Value) → HasAt (instructions w) p (exprs_code w.scratch p es)
    → p + length (exprs_code w.scratch p es) < length (instructions w) → Lists w p s o (p + length (exprs_code w.scratch p es)) (length es) (evaluate_all m s es)
exprs_run w m s simple [] bounded p o has inside = (refl, refl, carries_to w p p (p + 0) s s o o (omega arith) (still_carries w p s o p o (still_none w p o)))
exprs_run w m s simple (e ∷ es) bounded p o has inside =
    let k = both (is_bounded e) (list_all is_bounded es) bounded in
    let head = expr_code w.scratch p e in
    let q = p + length head in
    let rest = exprs_code w.scratch q es in
    let whole : q + length rest ≡ p + length (head ++ rest) = omega (arith, length-append head rest) in
    lists_to w p (q + length rest) (p + length (head ++ rest)) s o (suc (length es)) _ whole
    (lists_bind w p q (q + length rest) s o (length es) (evaluate m s e) (evaluate_all m s es) (expr_runs w m s simple e k.0 p o (has_front (instructions w) p head rest has) (omega (arith, whole, inside)))
    (λ v. exprs_run w m s simple es k.1 q (machine_value v ∷ o) (has_back (instructions w) p head rest has) (omega (arith, whole, inside))))

-- ---- calls

-- the world of a method of the program
pub record Of (program : plain.Plain) (w : World) : Type 0 where
  pub code : w.code ≡ plain_code program

get_map : {A B : Type 0} (f : A → B) (l : List A) (n : ℕ) (x : A) → slice_get l n ≡ Some x → slice_get (map f l) n ≡ Some (f x)
get_map f [] n x e = absurd cc
get_map f (y ∷ l) zero x e = let is : y ≡ x = cc in ap (λ z. Some (f z)) is
get_map f (y ∷ l) (suc n) x e = get_map f l n x e

pub method_there : (program : plain.Plain) (number : ℕ) (method : plain.Method) → plain.method_at program number ≡ Some method → slice_get (plain_code program).methods number ≡ Some (method_code program method)
method_there program number method e = get_map (method_code program) program.methods number method e

-- one call of a method that is there
call_step : (program : plain.Plain) (w : World) → Of program w → (p number : ℕ) (method : plain.Method) (arguments : List Value) (l o : List mach.Value) (t : List ℕ) → slice_get (instructions w) p ≡ Some (i.Call number)
    → plain.method_at program number ≡ Some method → length arguments ≡ length method.parameters
    → machine_run w.code 1 (at w (point p l (pushed arguments o) t)) ≡ On (called number (method_code program method) (map machine_value arguments) w.heap (frame w (p + 1) l o ∷ w.waiting) t)
call_step program w of p number method arguments l o t h e same =
    let mc = method_code program method in
    let xs = map machine_value arguments in
    let n = length method.parameters in
    let long : length (reverse xs) ≡ n = length-reverse xs ∙ length-map arguments machine_value ∙ same in
    let all = pushed arguments o in
    let is = pushed_is arguments o in
    let enough : n ≤ length all = omega (arith, ap length is, length-append (reverse xs) o, long) in
    let taken : reverse (take n all) ≡ xs = ap (λ (z : List mach.Value). reverse (take n z)) is ∙ ap reverse (take_at (reverse xs) o n long) ∙ reverse-reverse xs in
    let left : drop n all ≡ o = ap (λ (z : List mach.Value). drop n z) is ∙ drop_at (reverse xs) o n long in
    let f = frame w p l all in
    let found : slice_get w.code.methods number ≡ Some mc = ap (λ (c : Code). slice_get c.methods number) of.code ∙ method_there program number method e in
    let goes : next_effect w.code w.heap f ≡ EffectCalls (frame w (p + 1) l o) (beginning number mc xs) =
    next_is w p l all (i.Call number) h
    ∙ ap (λ (x : Option Method). given x (λ m. demand (nat_le m.parameters (length all)) (EffectCalls (frame w (p + 1) l (drop m.parameters all)) (beginning number m (reverse (take m.parameters all)))))) found
    ∙ ap (λ (b : Bool). demand b (EffectCalls (frame w (p + 1) l (drop n all)) (beginning number mc (reverse (take n all))))) (at_most n (length all) enough)
    ∙ ap (λ (z : List mach.Value). EffectCalls (frame w (p + 1) l z) (beginning number mc (reverse (take n all)))) left
    ∙ ap (λ (z : List mach.Value). EffectCalls (frame w (p + 1) l o) (beginning number mc z)) taken in
    ap (λ (x : Effect). and_then (stepped w.heap t w.waiting x) (machine_run w.code 0)) goes

-- where a call comes to results, they come on top
abbrev Back : World → ℕ → State → List mach.Value → ℕ → ℕ → List mach.Value → Outcome Returned → Type 0
Back w p s o1 n count o (outcomes.Gives r) = (list_all is_simple r.values ≡ true) × (length r.values ≡ count) × Simple (with_text s r.text) × Carries w p s o1 n (with_text s r.text) (pushed r.values o)
Back w p s o1 n count o (Wrong fault) = Unit {0}
Back w p s o1 n count o TooDeep = Unit {0}
Back w p s o1 n count o Stuck = Unit {0}

-- what a call comes to, with its arguments on top
returns_run : (program : plain.Plain) (w : World) → Of program w → (p number : ℕ) (method : plain.Method) (arguments : List Value) (s : State) (o : List mach.Value) → Simple s → slice_get (instructions w) p ≡ Some (i.Call number)
    → plain.method_at program number ≡ Some method → length arguments ≡ length method.parameters → (r : Outcome Returned)
    → ((heap : Heap) (waiting : List Frame) → Answers (plain_code program) number (method_code program method) arguments (length method.results) heap waiting s.text r)
    → Back w p s (pushed arguments o) (p + 1) (length method.results) o r
returns_run program w of p number method arguments s o simple h e same (outcomes.Gives r) answers =
    let any = answers w.heap [] in (
      any.0,
      any.1,
      record { each = simple.each },
      record {
        by = λ l c.
            let f = frame w (p + 1) l o in
            let a = (answers w.heap (f ∷ w.waiting)).2 in
            let code : Code = w.code in
            let first = call_step program w of p number method arguments l o s.text h e same in
            let second : machine_run w.code a.steps (called number (method_code program method) (map machine_value arguments) w.heap (f ∷ w.waiting) s.text) ≡ returned (map machine_value r.values) w.heap (f ∷ w.waiting) r.text =
            ap (λ (x : Code). machine_run x a.steps (called number (method_code program method) (map machine_value arguments) w.heap (f ∷ w.waiting) s.text)) of.code ∙ a.runs in
            let onto : returned (map machine_value r.values) w.heap (f ∷ w.waiting) r.text ≡ On (at w (point (p + 1) l (pushed r.values o) r.text)) =
            ap (λ (z : List mach.Value). On (at w (point (p + 1) l z r.text))) (sym (pushed_is r.values o)) in
            record {
              locals = l;
              covers = record { each = c.each; long = c.long };
              leads = record {
                steps = 1 + a.steps;
                runs = run_add w.code 1 a.steps (at w (point p l (pushed arguments o) s.text)) ∙ ap (λ x. and_then x (machine_run w.code a.steps)) first ∙ second ∙ onto;
              };
            };
      },
    )
returns_run program w of p number method arguments s o simple h e same (Wrong fault) answers = tt
returns_run program w of p number method arguments s o simple h e same TooDeep answers = tt
returns_run program w of p number method arguments s o simple h e same Stuck answers = tt

back_brings : (w : World) (p p1 n : ℕ) (s : State) (o1 o : List mach.Value) (count : ℕ) (r : Outcome Returned) → Carries w p s o p1 s o1 → Back w p1 s o1 n count o r
    → Brings w p s o n count (after r (λ returned. outcomes.Gives (record { values = returned.values; state = with_text s returned.text })))
back_brings w p p1 n s o1 o count (outcomes.Gives r) a b = (b.0, b.1, b.2, carries_on w p p1 n s s (with_text s r.text) o o1 (pushed r.values o) a b.3)
back_brings w p p1 n s o1 o count (Wrong fault) a b = tt
back_brings w p p1 n s o1 o count TooDeep a b = tt
back_brings w p p1 n s o1 o count Stuck a b = tt

brings_list : (w : World) (p p1 n : ℕ) (s : State) (o : List mach.Value) (many count : ℕ) (r : Outcome (List Value)) (f : List Value → Outcome Returned) → Lists w p s o p1 many r
    → ((vs : List Value) → list_all is_simple vs ≡ true → length vs ≡ many → Back w p1 s (pushed vs o) n count o (f vs))
    → Brings w p s o n count (after r (λ vs. after (f vs) (λ returned. outcomes.Gives (record { values = returned.values; state = with_text s returned.text }))))
brings_list w p p1 n s o many count (outcomes.Gives vs) f a b = back_brings w p p1 n s (pushed vs o) o count (f vs) a.2 (b vs a.0 a.1)
brings_list w p p1 n s o many count (Wrong fault) f a b = tt
brings_list w p p1 n s o many count TooDeep f a b = tt
brings_list w p p1 n s o many count Stuck f a b = tt

pub brings_to : (w : World) (p n k : ℕ) (s : State) (o : List mach.Value) (count : ℕ) (r : Outcome Values) → n ≡ k → Brings w p s o n count r → Brings w p s o k count r
brings_to w p n k s o count r e a = subst (λ (x : ℕ). Brings w p s o x count r) e a

-- the method that is called, on as many arguments as it has parameters
record Found (program : plain.Plain) (call : Call) : Type 0 where
  pub method : plain.Method
  pub there : plain.method_at program call.callee ≡ Some method
  pub count : length call.arguments ≡ length method.parameters

found : (program : plain.Plain) (call : Call) (o : Option plain.Method) → plain.method_at program call.callee ≡ o → option_map_or (λ (m : plain.Method). length call.arguments == length m.parameters) o false ≡ true
    → Found program call
found program call None e f = absurd (let g : false ≡ true = f in cc)
found program call (Some method) e f = record { method = method; there = e; count = same_number _ _ f }

pub call_runs : (program : plain.Plain) (w : World) → Of program w → (m : Meaning) → Calls program m → (s : State) → Simple s → (call : Call) → is_bounded_call call ≡ true → is_call program call ≡ true → (p : ℕ) (o : List mach.Value)
    → HasAt (instructions w) p (call_code w.scratch p call) → p + length (call_code w.scratch p call) < length (instructions w)
    → Brings w p s o (p + length (call_code w.scratch p call)) (results_at program call.callee) (execute_call m s call)
call_runs program w of m calls s simple call bounded counted p o has inside =
    let which = found program call (plain.method_at program call.callee) refl counted in
    let args = exprs_code w.scratch p call.arguments in
    let q = p + length args in
    let whole : q + 1 ≡ p + length (args ++ i.Call call.callee ∷ []) = omega (arith, length-append args (i.Call call.callee ∷ [])) in
    let many : length which.method.results ≡ results_at program call.callee = ap (λ (x : Option plain.Method). option_map_or (λ (y : plain.Method). length y.results) x 0) (sym which.there) in
    let here = (has_back (instructions w) p args (i.Call call.callee ∷ []) has).0 in
    brings_to w p (q + 1) (p + length (args ++ i.Call call.callee ∷ [])) s o (results_at program call.callee) _ whole
    (subst (λ (k : ℕ). Brings w p s o (q + 1) k (execute_call m s call)) many
    (brings_list w p q (q + 1) s o (length call.arguments) (length which.method.results) (evaluate_all m s call.arguments) (λ vs. m.call call.callee vs s.text)
    (exprs_run w m s simple call.arguments bounded p o (has_front (instructions w) p args (i.Call call.callee ∷ []) has) (omega (arith, whole, inside)))
    (λ vs all long.
    returns_run program w of q call.callee which.method vs s o simple here which.there (long ∙ which.count) (m.call call.callee vs s.text)
    (λ heap waiting. calls.by call.callee which.method vs s.text which.there (long ∙ which.count) all heap waiting))))

-- ---- right sides

brings_one : (w : World) (p n : ℕ) (s : State) (o : List mach.Value) (r : Outcome Value) → Simple s → Gives w p s o n o r → Brings w p s o n 1 (after r (λ v. outcomes.Gives (record { values = v ∷ []; state = s })))
brings_one w p n s o (outcomes.Gives v) simple a = (ap (λ (x : Bool). x && true) a.0, refl, simple, a.1)
brings_one w p n s o (Wrong fault) simple a = tt
brings_one w p n s o TooDeep simple a = tt
brings_one w p n s o Stuck simple a = tt

brings_both : (w : World) (p p1 n : ℕ) (s : State) (o : List mach.Value) (a b : ℕ) (g : Values) (r : Outcome Values) → Brings w p s o p1 a (outcomes.Gives g) → Brings w p1 g.state (pushed g.values o) n b r
    → Brings w p s o n (a + b) (after r (λ more. outcomes.Gives (record { values = g.values ++ more.values; state = more.state })))
brings_both w p p1 n s o a b g (outcomes.Gives h) x y = (
  all_append g.values h.values x.0 y.0,
  length-append g.values h.values ∙ (omega (arith, x.1, y.1)),
  y.2,
  subst (λ (z : List mach.Value). Carries w p s o n h.state z) (pushed_append g.values h.values o) (carries_on w p p1 n s g.state h.state o (pushed g.values o) (pushed h.values (pushed g.values o)) x.3 y.3),
)
brings_both w p p1 n s o a b g (Wrong fault) x y = tt
brings_both w p p1 n s o a b g TooDeep x y = tt
brings_both w p p1 n s o a b g Stuck x y = tt

brings_bind : (w : World) (p p1 n : ℕ) (s : State) (o : List mach.Value) (a b : ℕ) (r : Outcome Values) (go : State → Outcome Values) → Brings w p s o p1 a r
    → ((t : State) → Simple t → (o1 : List mach.Value) → Brings w p1 t o1 n b (go t))
    → Brings w p s o n (a + b) (after r (λ g. after (go g.state) (λ more. outcomes.Gives (record { values = g.values ++ more.values; state = more.state }))))
brings_bind w p p1 n s o a b (outcomes.Gives g) go x y = brings_both w p p1 n s o a b g (go g.state) x (y g.state x.2 (pushed g.values o))
brings_bind w p p1 n s o a b (Wrong fault) go x y = tt
brings_bind w p p1 n s o a b TooDeep go x y = tt
brings_bind w p p1 n s o a b Stuck go x y = tt

abbrev pub values_of : plain.Plain → Source → ℕ
values_of program (Single value) = 1
values_of program (Results call) = results_at program call.callee

source_runs : (program : plain.Plain) (w : World) → Of program w → (m : Meaning) → Calls program m → (s : State) → Simple s → (source : Source) → is_bounded_source source ≡ true → is_source program source ≡ true → (p : ℕ) (o : List mach.Value)
    → HasAt (instructions w) p (source_code w.scratch p source) → p + length (source_code w.scratch p source) < length (instructions w)
    → Brings w p s o (p + length (source_code w.scratch p source)) (values_of program source) (execute_source m s source)
source_runs program w of m calls s simple (Single value) bounded counted p o has inside = brings_one w p _ s o (evaluate m s value) simple (expr_runs w m s simple value bounded p o has inside)
source_runs program w of m calls s simple (Results call) bounded counted p o has inside = call_runs program w of m calls s simple call bounded counted p o has inside

count_more : (program : plain.Plain) (source : Source) (sources : List Source) → values_of program source + count_of program sources ≡ count_of program (source ∷ sources)
count_more program (Single value) sources = refl
count_more program (Results call) sources = refl

sources_run : (program : plain.Plain) (w : World) → Of program w → (m : Meaning) → Calls program m → (sources : List Source) → list_all is_bounded_source sources ≡ true → list_all (is_source program) sources ≡ true → (s : State) → Simple s → (p : ℕ) (o : List mach.Value)
    → HasAt (instructions w) p (sources_code w.scratch p sources) → p + length (sources_code w.scratch p sources) < length (instructions w)
    → Brings w p s o (p + length (sources_code w.scratch p sources)) (count_of program sources) (execute_sources m s sources)
sources_run program w of m calls [] bounded counted s simple p o has inside = (refl, refl, simple, carries_to w p p (p + 0) s s o o (omega arith) (still_carries w p s o p o (still_none w p o)))
sources_run program w of m calls (source ∷ sources) bounded counted s simple p o has inside =
    let k = both (is_bounded_source source) (list_all is_bounded_source sources) bounded in
    let c = both (is_source program source) (list_all (is_source program) sources) counted in
    let head = source_code w.scratch p source in
    let q = p + length head in
    let rest = sources_code w.scratch q sources in
    let whole : q + length rest ≡ p + length (head ++ rest) = omega (arith, length-append head rest) in
    brings_to w p (q + length rest) (p + length (head ++ rest)) s o _ _ whole
    (subst (λ (n : ℕ). Brings w p s o (q + length rest) n (execute_sources m s (source ∷ sources))) (count_more program source sources)
    (brings_bind w p q (q + length rest) s o (values_of program source) (count_of program sources) (execute_source m s source) (λ t. execute_sources m t sources)
    (source_runs program w of m calls s simple source k.0 c.0 p o (has_front (instructions w) p head rest has) (omega (arith, whole, inside)))
    (λ t st o1. sources_run program w of m calls sources k.1 c.1 t st q o1 (has_back (instructions w) p head rest has) (omega (arith, whole, inside)))))

-- ---- updates

given_comes : (w : World) (q : ℕ) (targets : List ℕ) (g : Values) (o : List mach.Value) → HasAt (instructions w) q (sets_code w.scratch targets) → length targets ≡ length g.values → list_all is_simple g.values ≡ true → Simple g.state
    → (r : Outcome State) → give_all g.state [] targets g.values ≡ r → Comes w q g.state (pushed g.values o) (q + length (sets_code w.scratch targets)) o r
given_comes w q targets g o has same all simple (outcomes.Gives u) e = (
  gives_simple targets g.values g.state u [] all simple e,
  record {
    by = λ l c. record {
      locals = placed w l targets g.values;
      covers = gives_covers w targets g.values g.state u [] l (sets_fit w targets q has) c e;
      leads = subst (λ (t : List ℕ). Leads w (point q l (pushed g.values o) g.state.text) (point (q + length (sets_code w.scratch targets)) (placed w l targets g.values) o t)) (sym (gives_text targets g.values g.state u [] e)) (sets_run w targets g.values q l o g.state.text c.long same has);
    };
  },
)
given_comes w q targets g o has same all simple (Wrong fault) e = tt
given_comes w q targets g o has same all simple TooDeep e = tt
given_comes w q targets g o has same all simple Stuck e = tt

comes_bind : (w : World) (p q n : ℕ) (s : State) (o : List mach.Value) (count : ℕ) (r : Outcome Values) (f : Values → Outcome State) → Brings w p s o q count r
    → ((g : Values) → list_all is_simple g.values ≡ true → length g.values ≡ count → Simple g.state → Comes w q g.state (pushed g.values o) n o (f g)) → Comes w p s o n o (after r f)
comes_bind w p q n s o count (outcomes.Gives g) f a b = comes_after w p q n s g.state o (pushed g.values o) o (f g) a.3 (b g a.0 a.1 a.2)
comes_bind w p q n s o count (Wrong fault) f a b = tt
comes_bind w p q n s o count TooDeep f a b = tt
comes_bind w p q n s o count Stuck f a b = tt

pub update_runs : (program : plain.Plain) (w : World) → Of program w → (m : Meaning) → Calls program m → (update : Update) → is_bounded_update (Some update) ≡ true → is_update program (Some update) ≡ true → (s : State) → Simple s → (p : ℕ) (o : List mach.Value)
    → HasAt (instructions w) p (update_code w.scratch p update) → p + length (update_code w.scratch p update) < length (instructions w)
    → Comes w p s o (p + length (update_code w.scratch p update)) o (execute_update m s update)
update_runs program w of m calls update bounded counted s simple p o has inside =
    let c = both (list_all (is_source program) update.sources) (count_of program update.sources == length update.targets) counted in
    let many : count_of program update.sources ≡ length update.targets = same_number _ _ c.1 in
    let front = sources_code w.scratch p update.sources in
    let q = p + length front in
    let sets = sets_code w.scratch update.targets in
    let whole : q + length sets ≡ p + length (front ++ sets) = omega (arith, length-append front sets) in
    comes_to w p (q + length sets) (p + length (front ++ sets)) s o o _ whole
    (comes_bind w p q (q + length sets) s o (count_of program update.sources) (execute_sources m s update.sources) (λ given. give_all given.state [] update.targets given.values)
    (sources_run program w of m calls update.sources bounded c.0 s simple p o (has_front (instructions w) p front sets has) (omega (arith, whole, inside)))
    (λ g all long sg. given_comes w q update.targets g o (has_back (instructions w) p front sets has) (sym many ∙ sym long) all sg (give_all g.state [] update.targets g.values) refl))

pub optional_runs : (program : plain.Plain) (w : World) → Of program w → (m : Meaning) → Calls program m → (update : Option Update) → is_bounded_update update ≡ true → is_update program update ≡ true → (s : State) → Simple s → (p : ℕ) (o : List mach.Value)
    → HasAt (instructions w) p (optional_code w.scratch p update) → p + length (optional_code w.scratch p update) < length (instructions w)
    → Comes w p s o (p + length (optional_code w.scratch p update)) o (execute_optional m s update)
optional_runs program w of m calls None bounded counted s simple p o has inside = (simple, carries_to w p p (p + 0) s s o o (omega arith) (still_carries w p s o p o (still_none w p o)))
optional_runs program w of m calls (Some update) bounded counted s simple p o has inside = update_runs program w of m calls update bounded counted s simple p o has inside

-- ---- results that are dropped

drops_all : (w : World) (n : ℕ) (xs : List mach.Value) (p : ℕ) (o : List mach.Value) → length xs ≡ n → HasAt (instructions w) p (replicate n i.Drop) → Still w p (xs ++ o) (p + n) o
drops_all w zero [] p o long has = let e : p ≡ p + 0 = omega arith in subst (λ (k : ℕ). Still w p o k o) e (still_none w p o)
drops_all w zero (x ∷ xs) p o long has = absurd (omega (arith, long))
drops_all w (suc n) [] p o long has = absurd (omega (arith, long))
drops_all w (suc n) (x ∷ xs) p o long has =
    let e : p + 1 + n ≡ p + suc n = omega arith in
    subst (λ (k : ℕ). Still w p (x ∷ (xs ++ o)) k o) e
    (still_on w p (p + 1) (p + 1 + n) (x ∷ (xs ++ o)) (xs ++ o) o (still_one w p (p + 1) (x ∷ (xs ++ o)) (xs ++ o) i.Drop has.0 (λ l. refl)) (drops_all w n xs (p + 1) o (omega (arith, long)) has.1))

drops_run : (w : World) (vs : List Value) (p n : ℕ) (o : List mach.Value) → length vs ≡ n → HasAt (instructions w) p (replicate n i.Drop) → Still w p (reverse (map machine_value vs) ++ o) (p + n) o
drops_run w vs p n o long has = drops_all w n (reverse (map machine_value vs)) p o (length-reverse (map machine_value vs) ∙ length-map vs machine_value ∙ long) has

pub dropped_runs : (w : World) (p n : ℕ) (g : Values) (o : List mach.Value) → length g.values ≡ n → HasAt (instructions w) p (replicate n i.Drop) → Carries w p g.state (pushed g.values o) (p + n) g.state o
dropped_runs w p n g o long has =
    subst (λ (z : List mach.Value). Carries w p g.state z (p + n) g.state o) (sym (pushed_is g.values o)) (still_carries w p g.state (reverse (map machine_value g.values) ++ o) (p + n) o (drops_run w g.values p n o long has))
