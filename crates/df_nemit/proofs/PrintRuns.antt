-- The machine follows what is printed.
use Rattle.std.proofs.Common.{◌≡◌, ℕ, ◌+◌, ◌<◌, ◌≤◌, ◌^◌, Bool, true, false, cond, List, [], ◌∷◌, ◌++◌, length, map, reverse, take, drop, Option, Some, refl, sym, ap, ◌∙◌, subst, arith, append_assoc, length-append}
use Rattle.std.specs.Prelude.{slice_get, nat_lt, option_map}
use Rattle.std.specs.List.{list_all}
use Rattle.std.proofs.lemmas.Bool.Decides.{nat_tests}
use Rattle.std.proofs.lemmas.List.{append-nil, length-map, length-reverse, take_at, drop_at, reverse-append, reverse-reverse}
use Rattle.df_meaning.specs.Value.{Value, text_of}
use Rattle.df_meaning.specs.Value as values
use Rattle.df_nplain.specs.Kind.{Kind}
use Rattle.df_nplain.specs.Kind as kinds
use Rattle.df_nplain.specs.Stmt.{Operand, Text}
use Rattle.df_nplain.specs.Stmt as stmts
use Rattle.df_nplain.specs.Bounded.{is_bounded, is_bounded_operand}
use Rattle.df_nplain.specs.Short.{is_short_operand}
use Rattle.df_nplain.specs.Outcome.{Outcome, Wrong, TooDeep, Stuck, after}
use Rattle.df_nplain.specs.Outcome as outcomes
use Rattle.df_nplain.specs.State.{State, printed}
use Rattle.df_nplain.specs.Meaning.{Meaning}
use Rattle.df_nplain.specs.Evaluation.{of_kind, evaluate}
use Rattle.df_nplain.specs.Execution.{print_all}
use Rattle.df_nmach.specs.declared.instruction.Instruction.TheVariants as i
use Rattle.df_nmach.specs.declared.code.Shape.{Shape}
use Rattle.df_nmach.specs.declared.code.Shape.TheVariants as shapes
use Rattle.df_nmach.specs.Value as mach
use Rattle.df_nmach.specs.Step.{Effect, Goes, TooLong, given, demand, leaves, characters, sequence, effect}
use Rattle.df_nmach.specs.Step as step
use Rattle.df_nemit.specs.Code.{expr_code, shape_of, text_code, operands_code}
use Rattle.df_nemit.specs.Ending.{machine_value}
use Rattle.df_nemit.proofs.Reach.{HasAt, has_front, has_back, has_moved, World, instructions, point, frame, Leads, leads_one, Still, still_none, still_on, still_one, Simple, Carries, still_carries, carries_on, carries_to, Gives}
use Rattle.df_nemit.proofs.OperatorRuns.{below}
use Rattle.df_nemit.proofs.ExpressionRuns.{both, expr_runs}
use Rattle.df_nemit.proofs.UpdateRuns.{at_most}
use Rattle.df_nemit.proofs.Lifts.{Comes, comes_after, comes_to}

-- prints the value on top
print_one : (w : World) (q n : ℕ) (s : State) (v : Value) (shape : Shape) → slice_get (instructions w) q ≡ Some (i.Print n) → slice_get (shapes.Number ∷ shapes.Truth ∷ shapes.Char ∷ shapes.Text ∷ []) n ≡ Some shape
    → mach.text_of shape (machine_value v) ≡ Some (text_of v) → Carries w q s (machine_value v ∷ []) (q + 1) (printed s v) []
print_one w q n s v shape h there says = record {
  by = λ l c.
      let x = machine_value v in
      let f = frame w q l (x ∷ []) in
      record {
        locals = l;
        covers = record { each = c.each; long = c.long };
        leads = leads_one w q (q + 1) l l (x ∷ []) [] s.text (text_of v) (i.Print n) h
            (ap (λ (all : List Shape). given (slice_get all n) (λ y. given (mach.text_of y x) (λ z. Goes w.heap (step.after f []) z))) w.shapes
            ∙ ap (λ (o : Option Shape). given o (λ y. given (mach.text_of y x) (λ z. Goes w.heap (step.after f []) z))) there
            ∙ ap (λ (o : Option (List ℕ)). given o (λ z. Goes w.heap (step.after f []) z)) says);
      };
}

truths_say : (b : Bool) → mach.text_of shapes.Truth (mach.Truth b) ≡ Some (text_of (values.Truth b))
truths_say true = refl
truths_say false = refl

simple_printed : (s : State) (v : Value) → Simple s → Simple (printed s v)
simple_printed s v simple = record { each = simple.each }

-- a value of the kind
kind_prints : (w : World) (kind : Kind) (q : ℕ) (s : State) (v : Value) (go : State → Outcome State) (n : ℕ) → slice_get (instructions w) q ≡ Some (i.Print (shape_of kind)) → ((u : Value) → Comes w (q + 1) (printed s u) [] n [] (go (printed s u)))
    → Comes w q s (machine_value v ∷ []) n [] (after (of_kind kind v) (λ u. go (printed s u)))
kind_prints w (kinds.Number range) q s (values.Number k) go n h g = comes_after w q (q + 1) n s (printed s (values.Number k)) _ [] [] _ (print_one w q 0 s (values.Number k) shapes.Number h refl refl) (g (values.Number k))
kind_prints w kinds.Truth q s (values.Truth b) go n h g = comes_after w q (q + 1) n s (printed s (values.Truth b)) _ [] [] _ (print_one w q 1 s (values.Truth b) shapes.Truth h refl (truths_say b)) (g (values.Truth b))
kind_prints w kinds.Character q s (values.Character c) go n h g = comes_after w q (q + 1) n s (printed s (values.Character c)) _ [] [] _ (print_one w q 2 s (values.Character c) shapes.Char h refl refl) (g (values.Character c))
kind_prints w kind q s v go n h g = tt

-- ---- texts

-- pushes characters
chars_pushed : (w : World) (cs : List ℕ) (p : ℕ) (o : List mach.Value) → HasAt (instructions w) p (map i.Char cs) → Still w p o (p + length cs) (reverse (map mach.Char cs) ++ o)
chars_pushed w [] p o has = let e : p ≡ p + 0 = omega arith in subst (λ (n : ℕ). Still w p o n o) e (still_none w p o)
chars_pushed w (c ∷ cs) p o has =
    let far : p + 1 + length cs ≡ p + length (c ∷ cs) = omega arith in
    let turned : reverse (map mach.Char cs) ++ mach.Char c ∷ o ≡ reverse (map mach.Char (c ∷ cs)) ++ o =
    sym (append_assoc (reverse (map mach.Char cs)) (mach.Char c ∷ []) o) ∙ ap (λ (l : List mach.Value). l ++ o) (sym (reverse-append (mach.Char c ∷ []) (map mach.Char cs))) in
    subst (λ (n : ℕ). Still w p o n (reverse (map mach.Char (c ∷ cs)) ++ o)) far
    (subst (λ (l : List mach.Value). Still w p o (p + 1 + length cs) l) turned
    (still_on w p (p + 1) (p + 1 + length cs) o (mach.Char c ∷ o) (reverse (map mach.Char cs) ++ mach.Char c ∷ o)
    (still_one w p (p + 1) o (mach.Char c ∷ o) (i.Char c) has.0 (λ l. refl))
    (chars_pushed w cs (p + 1) (mach.Char c ∷ o) has.1)))

chars_read : (cs : List ℕ) → characters (map mach.Char cs) ≡ Some cs
chars_read [] = refl
chars_read (c ∷ cs) = ap (λ (o : Option (List ℕ)). option_map (λ ds. c ∷ ds) o) (chars_read cs)

-- makes the text of them
gathers : (w : World) (cs : List ℕ) (q n : ℕ) (o : List mach.Value) → length cs ≡ n → n < 2 ^ 63 → slice_get (instructions w) q ≡ Some (i.Sequence n) → Still w q (reverse (map mach.Char cs) ++ o) (q + 1) (mach.Text cs ∷ o)
gathers w cs q n o long fits h =
    let xs = map mach.Char cs in
    let turned : length (reverse xs) ≡ n = length-reverse xs ∙ length-map cs mach.Char ∙ long in
    let all = reverse xs ++ o in
    let enough : n ≤ length all = omega (arith, length-append (reverse xs) o, turned) in
    let taken : characters (reverse (take n all)) ≡ Some cs = ap (λ (z : List mach.Value). characters (reverse z)) (take_at (reverse xs) o n turned) ∙ ap characters (reverse-reverse xs) ∙ chars_read cs in
    let left : drop n all ≡ o = drop_at (reverse xs) o n turned in
    still_one w q (q + 1) all (mach.Text cs ∷ o) (i.Sequence n) h (λ l.
    ap (λ (b : Bool). demand b (sequence w.heap (frame w q l all) n all)) (at_most n (length all) enough)
    ∙ ap (λ (x : Option (List ℕ)). given x (λ text. cond (nat_lt n (2 ^ 63)) (leaves w.heap (frame w q l all) (mach.Text text ∷ drop n all)) TooLong)) taken
    ∙ ap (λ (b : Bool). cond b (leaves w.heap (frame w q l all) (mach.Text cs ∷ drop n all)) TooLong) (below n (2 ^ 63) fits)
    ∙ ap (λ (z : List mach.Value). leaves w.heap (frame w q l all) (mach.Text cs ∷ z)) left)

fits_in : (m n : ℕ) → nat_lt m n ≡ true → m < n
fits_in m n e = grind (arith, nat_tests)

text_runs : (w : World) (cs : List ℕ) (p : ℕ) (s : State) → nat_lt (length cs) (2 ^ 63) ≡ true → HasAt (instructions w) p (text_code cs) → Carries w p s [] (p + length (text_code cs)) (printed s (values.Text cs)) []
text_runs w [] p s fits has =
    let same : s.text ++ [] ≡ s.text = append-nil s.text in
    record {
      by = λ l c. record {
        locals = l;
        covers = record { each = c.each; long = c.long };
        leads = subst (λ (n : ℕ). Leads w (point p l [] s.text) (point n l [] (s.text ++ []))) (let e : p ≡ p + 0 = omega arith in e) (subst (λ (t : List ℕ). Leads w (point p l [] s.text) (point p l [] t)) (sym same) (record { steps = 0; runs = refl }));
      };
    }
text_runs w (c ∷ cs) p s fits has =
    let all = c ∷ cs in
    let front = map i.Char all in
    let n = length all in
    let tail = i.Sequence n ∷ i.Print 3 ∷ [] in
    let q = p + n in
    let count : length front ≡ n = length-map all i.Char in
    let behind = has_moved (instructions w) (p + length front) q tail (ap (λ (k : ℕ). p + k) count) (has_back (instructions w) p front tail has) in
    let far : q + 1 + 1 ≡ p + length (front ++ tail) = omega (arith, length-append front tail, count) in
    let pushing : Still w p [] q (reverse (map mach.Char all) ++ []) = chars_pushed w all p [] (has_front (instructions w) p front tail has) in
    carries_to w p (q + 1 + 1) (p + length (front ++ tail)) s (printed s (values.Text all)) [] [] far
    (carries_on w p (q + 1) (q + 1 + 1) s s (printed s (values.Text all)) [] (mach.Text all ∷ []) []
    (still_carries w p s [] (q + 1) (mach.Text all ∷ []) (still_on w p q (q + 1) [] (reverse (map mach.Char all) ++ []) (mach.Text all ∷ []) pushing (gathers w all q n [] refl (fits_in n (2 ^ 63) fits) behind.0)))
    (print_one w (q + 1) 3 s (values.Text all) shapes.Text behind.1.0 refl refl))

-- ---- operands

value_prints : (w : World) (p q n : ℕ) (s : State) (r : Outcome Value) (f : Value → Outcome State) → Gives w p s [] q [] r → ((v : Value) → Comes w q s (machine_value v ∷ []) n [] (f v)) → Comes w p s [] n [] (after r f)
value_prints w p q n s (outcomes.Gives v) f a b = comes_after w p q n s s [] (machine_value v ∷ []) [] (f v) a.1 (b v)
value_prints w p q n s (Wrong fault) f a b = tt
value_prints w p q n s TooDeep f a b = tt
value_prints w p q n s Stuck f a b = tt

after_after : {A B C : Type 0} (r : Outcome A) (f : A → Outcome B) (g : B → Outcome C) → after (after r f) g ≡ after r (λ a. after (f a) g)
after_after (outcomes.Gives a) f g = refl
after_after (Wrong fault) f g = refl
after_after TooDeep f g = refl
after_after Stuck f g = refl

pub operands_run : (w : World) (m : Meaning) (operands : List Operand) → list_all is_bounded_operand operands ≡ true → list_all is_short_operand operands ≡ true → (s : State) → Simple s → (p : ℕ) → HasAt (instructions w) p (operands_code w.scratch p operands)
    → p + length (operands_code w.scratch p operands) < length (instructions w) → Comes w p s [] (p + length (operands_code w.scratch p operands)) [] (print_all m s operands)
operands_run w m [] bounded short s simple p has inside = (simple, carries_to w p p (p + 0) s s [] [] (omega arith) (still_carries w p s [] p [] (still_none w p [])))
operands_run w m (Text cs ∷ operands) bounded short s simple p has inside =
    let c = both (is_short_operand (Text cs)) (list_all is_short_operand operands) short in
    let head = text_code cs in
    let q = p + length head in
    let rest = operands_code w.scratch q operands in
    let whole : q + length rest ≡ p + length (head ++ rest) = omega (arith, length-append head rest) in
    comes_to w p (q + length rest) (p + length (head ++ rest)) s [] [] _ whole
    (comes_after w p q (q + length rest) s (printed s (values.Text cs)) [] [] [] (print_all m (printed s (values.Text cs)) operands)
    (text_runs w cs p s c.0 (has_front (instructions w) p head rest has))
    (operands_run w m operands bounded c.1 (printed s (values.Text cs)) (simple_printed s (values.Text cs) simple) q (has_back (instructions w) p head rest has) (omega (arith, whole, inside))))
operands_run w m (stmts.Value kind value ∷ operands) bounded short s simple p has inside =
    let k = both (is_bounded value) (list_all is_bounded_operand operands) bounded in
    let code = expr_code w.scratch p value in
    let head = code ++ i.Print (shape_of kind) ∷ [] in
    let z = p + length code in
    let q = p + length head in
    let place : q ≡ z + 1 = omega (arith, length-append code (i.Print (shape_of kind) ∷ [])) in
    let rest = operands_code w.scratch q operands in
    let whole : q + length rest ≡ p + length (head ++ rest) = omega (arith, length-append head rest) in
    let at_head = has_front (instructions w) p head rest has in
    comes_to w p (q + length rest) (p + length (head ++ rest)) s [] [] _ whole
    (subst (λ (r : Outcome State). Comes w p s [] (q + length rest) [] r) (sym (after_after (evaluate m s value) (of_kind kind) (λ v. print_all m (printed s v) operands)))
    (value_prints w p z (q + length rest) s (evaluate m s value) (λ v. after (of_kind kind v) (λ u. print_all m (printed s u) operands))
    (expr_runs w m s simple value k.0 p [] (has_front (instructions w) p code (i.Print (shape_of kind) ∷ []) at_head) (omega (arith, whole, inside, place)))
    (λ v. kind_prints w kind z s v (λ t. print_all m t operands) (q + length rest) (has_back (instructions w) p code (i.Print (shape_of kind) ∷ []) at_head).0
    (λ u. subst (λ (n : ℕ). Comes w n (printed s u) [] (q + length rest) [] (print_all m (printed s u) operands)) place
    (operands_run w m operands k.1 short (printed s u) (simple_printed s u simple) q (has_back (instructions w) p head rest has) (omega (arith, whole, inside)))))))
