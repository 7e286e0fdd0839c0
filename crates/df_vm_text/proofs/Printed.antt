-- What was put and what is left make the whole text.
use Rattle.std.proofs.Common.{◌≡◌, ℕ, zero, suc, ◌+◌, ◌-◌, ◌*◌, ◌<◌, ◌≤◌, true, false, nat_eq, List, [], ◌∷◌, ◌++◌, take, drop, length, Option, Some, None, slice_get, refl, sym, ap, subst, ◌∙◌, arith, append_assoc, length-take, length-drop, Result, Ok, Err}
use Rattle.std.specs.Prelude.{codes, option_map, IfSome, ◌^◌}
use Rattle.std.specs.Option.{option_and_then}
use Rattle.std.proofs.lemmas.Option.{same_Some, slice_get-map}
use Rattle.df_mach2.specs.Value.{Value, Char, values_of}
use Rattle.df_mach2.specs.Shape.{Shape}
use Rattle.df_mach2.specs.Text.{then_text, given_text, number_text, truth_text, char_text, character_of, characters, All, Each, end_text, with_next, separator, between, sequence_text, in_parentheses, data_text, text_of, texts}
use Rattle.df_vm_store.specs.declared.word.Word.{Word}
use Rattle.df_vm_store.specs.declared.word.Word.TheVariants as words
use Rattle.df_vm_store.specs.declared.halt.Halt.{Halt}
use Rattle.df_vm_store.specs.declared.halt.Halt.TheVariants as halts
use Rattle.df_vm_store.specs.Meaning.{value_in, meanings, are_founded}
use Rattle.df_vm_store.specs.Equal.{weight, weights}
use Rattle.df_vm_store.proofs.Meanings.{cells_stand}
use Rattle.df_vm_store.proofs.Same.{cell_means, piece_front}
use Rattle.df_vm_text.specs.declared.tasks.Members.{Members}
use Rattle.df_vm_text.specs.declared.tasks.Arguments.{Arguments}
use Rattle.df_vm_text.specs.declared.tasks.Task.{Task}
use Rattle.df_vm_text.specs.declared.tasks.Task.TheVariants as tasks
use Rattle.df_vm_text.specs.Tasks.{piece, char_in, Begins, HasNone, parts_at, members_text, arguments_text, task_text, tasks_text, piece_work, task_work, tasks_work}
use Rattle.df_vm_text.specs.Prints.{Puts, Prints}

-- ---- texts behind one another

append_nil : (xs : List ℕ) → xs ++ [] ≡ xs
append_nil [] = refl
append_nil (x ∷ xs) = ap (λ r. x ∷ r) (append_nil xs)

pub then_assoc : (a b c : Option (List ℕ)) → then_text (then_text a b) c ≡ then_text a (then_text b c)
then_assoc None b c = refl
then_assoc (Some a) None c = refl
then_assoc (Some a) (Some b) None = refl
then_assoc (Some a) (Some b) (Some c) = ap (λ (l : List ℕ). Some l) (append_assoc a b c)

pub then_nothing : (a : Option (List ℕ)) → then_text a (Some []) ≡ a
then_nothing None = refl
then_nothing (Some a) = ap (λ (l : List ℕ). Some l) (append_nil a)

pub nothing_then : (a : Option (List ℕ)) → then_text (Some []) a ≡ a
nothing_then None = refl
nothing_then (Some a) = refl

pushed_at : (t : List Shape) (vs : List Value) (xs : List Task) (x : Task) → tasks_text t vs (xs ++ x ∷ []) ≡ then_text (task_text t vs x) (tasks_text t vs xs)
unfolding tasks_text
pushed_at t vs [] x = nothing_then (task_text t vs x) ∙ sym (then_nothing (task_text t vs x))
pushed_at t vs (y ∷ xs) x = ap (λ o. then_text o (task_text t vs y)) (pushed_at t vs xs x) ∙ then_assoc (task_text t vs x) (tasks_text t vs xs) (task_text t vs y)

pub pushed : (t : List Shape) (vs : List Value) (xs all : List Task) (x : Task) → all ≡ xs ++ x ∷ [] → tasks_text t vs all ≡ then_text (task_text t vs x) (tasks_text t vs xs)
pushed t vs xs all x e = ap (tasks_text t vs) e ∙ pushed_at t vs xs x

-- ---- cells

pub cell_missing : (cells : List Word) (i : ℕ) → are_founded 0 cells ≡ true → None ≡ slice_get cells i → slice_get (meanings cells) i ≡ None
cell_missing cells i founded e =
    ap (λ (vs : List Value). slice_get vs i) (sym (cells_stand cells founded)) ∙ slice_get-map (value_in (meanings cells)) cells i ∙ ap (option_map (value_in (meanings cells))) (sym e)

pub cell_there : (cells : List Word) (i : ℕ) (w : Word) → are_founded 0 cells ≡ true → Some w ≡ slice_get cells i → slice_get (meanings cells) i ≡ Some (value_in (meanings cells) w)
cell_there cells i w founded e = cell_means cells i w founded (sym e)

take_at : {A : Type 0} → (n i : ℕ) (xs : List A) → i < n → slice_get (take n xs) i ≡ slice_get xs i
take_at zero i xs lt = absurd (omega arith)
take_at (suc n) i [] lt = refl
take_at (suc n) zero (x ∷ xs) lt = refl
take_at (suc n) (suc i) (x ∷ xs) lt = take_at n i xs (omega arith)

drop_at : {A : Type 0} → (n i : ℕ) (xs : List A) → slice_get (drop n xs) i ≡ slice_get xs (n + i)
drop_at zero i xs = let e : i ≡ 0 + i = omega arith in ap (slice_get xs) e
drop_at (suc n) i [] = let e : suc n + i ≡ suc (n + i) = omega arith in sym (ap (slice_get []) e)
drop_at (suc n) i (x ∷ xs) = let e : suc n + i ≡ suc (n + i) = omega arith in drop_at n i xs ∙ sym (ap (slice_get (x ∷ xs)) e)

-- a value of a piece
pub piece_at : (vs : List Value) (from count i : ℕ) → i < count → slice_get (piece vs from count) i ≡ slice_get vs (from + i)
piece_at vs from count i lt = take_at count i (drop from vs) lt ∙ drop_at from i vs

dropped_front : {A : Type 0} → (xs : List A) (i : ℕ) (x : A) → slice_get xs i ≡ Some x → drop i xs ≡ x ∷ drop (suc i) xs
dropped_front [] i x e = absurd cc
dropped_front (y ∷ xs) zero x e = ap (λ z. z ∷ xs) (same_Some y x e)
dropped_front (y ∷ xs) (suc i) x e = dropped_front xs i x e

dropped_none : {A : Type 0} → (xs : List A) (i : ℕ) → slice_get xs i ≡ None → drop i xs ≡ []
dropped_none [] zero e = refl
dropped_none [] (suc i) e = refl
dropped_none (y ∷ xs) zero e = absurd cc
dropped_none (y ∷ xs) (suc i) e = dropped_none xs i e

taken_none : (n : ℕ) → take {A = Value} n [] ≡ []
taken_none zero = refl
taken_none (suc n) = refl

pub piece_none : (vs : List Value) (from count : ℕ) → slice_get vs from ≡ None → piece vs from count ≡ []
piece_none vs from count e = ap (take count) (dropped_none vs from e) ∙ taken_none count

pub piece_some : (vs : List Value) (from count : ℕ) (v : Value) → slice_get vs from ≡ Some v → 0 < count → piece vs from count ≡ v ∷ piece vs (from + 1) (count - 1)
piece_some vs from count v e lt =
    let whole : count ≡ suc (count - 1) = omega arith in
    let at : suc from ≡ from + 1 = omega arith in
    ap (λ n. take n (drop from vs)) whole ∙ piece_front vs from (count - 1) v e ∙ ap (λ n. v ∷ take (count - 1) (drop n vs)) at

-- ---- characters

chars_front : (us : List Value) (i : ℕ) (v : Value) → slice_get us i ≡ Some v → characters (values_of (drop i us)) ≡ then_text (character_of v) (characters (values_of (drop (suc i) us)))
chars_front us i v e = ap (λ (l : List Value). characters (values_of l)) (dropped_front us i v e)

char_of : (v : Value) (c : ℕ) → char_in v ≡ Some c → character_of v ≡ Some (c ∷ [])
char_of (Char k) c e = ap (λ n. Some (n ∷ [])) (same_Some k c e)
char_of v c e = absurd cc

no_char : (v : Value) → char_in v ≡ None → character_of v ≡ None
no_char (Char k) e = absurd cc
no_char v e = refl

there : (vs : List Value) (i : ℕ) → i < length vs → (v : Value) × (slice_get vs i ≡ Some v)
there [] i lt = absurd (omega arith)
there (v ∷ vs) zero lt = (v, refl)
there (v ∷ vs) (suc i) lt = there vs i (omega arith)

pub next_char : (vs : List Value) (from count i c : ℕ) → i < count → from + count ≤ length vs → Some c ≡ option_and_then char_in (slice_get vs (from + i))
    → characters (values_of (drop i (piece vs from count))) ≡ then_text (Some (c ∷ [])) (characters (values_of (drop (i + 1) (piece vs from count))))
next_char vs from count i c lt le e =
    let (v, at) = there vs (from + i) (omega arith) in
    let next : suc i ≡ i + 1 = omega arith in
    chars_front (piece vs from count) i v (piece_at vs from count i lt ∙ at)
    ∙ ap (λ x. then_text x (characters (values_of (drop (suc i) (piece vs from count))))) (char_of v c (sym (e ∙ ap (option_and_then char_in) at)))
    ∙ ap (λ n. then_text (Some (c ∷ [])) (characters (values_of (drop n (piece vs from count))))) next

pub no_next_char : (vs : List Value) (from count i : ℕ) → i < count → from + count ≤ length vs → None ≡ option_and_then char_in (slice_get vs (from + i)) → characters (values_of (drop i (piece vs from count))) ≡ None
no_next_char vs from count i lt le e =
    let (v, at) = there vs (from + i) (omega arith) in
    chars_front (piece vs from count) i v (piece_at vs from count i lt ∙ at)
    ∙ ap (λ x. then_text x (characters (values_of (drop (suc i) (piece vs from count))))) (no_char v (sym (e ∙ ap (option_and_then char_in) at)))

whole_none : (o : List ℕ) (a : Option (List ℕ)) → then_text (Some o) a ≡ None → a ≡ None
whole_none o None e = refl
whole_none o (Some a) e = absurd cc

-- what is left has no text, so the whole has none
pub left_none : (now first : List ℕ) (rest whole : Option (List ℕ)) → then_text (Some now) rest ≡ then_text (Some first) whole → rest ≡ None → whole ≡ None
left_none now first rest whole e none = whole_none first whole (sym e ∙ ap (then_text (Some now)) none)

-- one more was put
pub left_less : (now next first put : List ℕ) (rest others whole : Option (List ℕ)) → then_text (Some now) rest ≡ then_text (Some first) whole → next ≡ now ++ put → rest ≡ then_text (Some put) others → then_text (Some next) others ≡ then_text (Some first) whole
left_less now next first put rest others whole e is split =
    ap (λ (l : List ℕ). then_text (Some l) others) is ∙ then_assoc (Some now) (Some put) others ∙ ap (then_text (Some now)) (sym split) ∙ e

pub piece_end : (vs : List Value) (from count i : ℕ) → count ≤ i → characters (values_of (drop i (piece vs from count))) ≡ Some []
piece_end vs from count i le = ap (λ (l : List Value). characters (values_of l)) (past count i (drop from vs) le)
  where
    past : (n k : ℕ) (xs : List Value) → n ≤ k → drop k (take n xs) ≡ []
    past zero zero xs h = refl
    past zero (suc k) xs h = refl
    past (suc n) zero xs h = absurd (omega arith)
    past (suc n) (suc k) [] h = refl
    past (suc n) (suc k) (x ∷ xs) h = past n k xs (omega arith)

pub nothing_left : (now first : List ℕ) (rest whole : Option (List ℕ)) → then_text (Some now) rest ≡ then_text (Some first) whole → rest ≡ Some [] → Some now ≡ then_text (Some first) whole
nothing_left now first rest whole e none = sym (then_nothing (Some now)) ∙ sym (ap (then_text (Some now)) none) ∙ e

-- the character of a cell
pub char_there : (cells : List Word) (i : ℕ) (w : Word) (o : Option ℕ) → are_founded 0 cells ≡ true → Some w ≡ slice_get cells i → o ≡ char_in (value_in (meanings cells) w) → o ≡ option_and_then char_in (slice_get (meanings cells) i)
char_there cells i w o founded e is = is ∙ sym (ap (option_and_then char_in) (cell_there cells i w founded e))

pub char_missing : (cells : List Word) (i : ℕ) → are_founded 0 cells ≡ true → None ≡ slice_get cells i → None ≡ option_and_then char_in (slice_get (meanings cells) i)
char_missing cells i founded e = sym (ap (option_and_then char_in) (cell_missing cells i founded e))

pub other_word : (vs : List Value) (w : Word) → ((c : ℕ) → w ≡ words.Char c → ⊥) → None ≡ char_in (value_in vs w)
other_word vs (words.Number n) apart = refl
other_word vs (words.Truth b) apart = refl
other_word vs (words.Char c) apart = absurd (apart c refl)
other_word vs words.Null apart = refl
other_word vs (words.Reference r) apart = refl
other_word vs (words.Data tag from count) apart = refl
other_word vs (words.Sequence from count) apart = refl

-- ---- what is put at once

pub put_then : (result : Result (Unit {0}) Halt) (text before : Option (List ℕ)) (old new : List ℕ) → Puts result text old new → Prints result text old before new before
put_then (Ok u) text before old new e = ap (λ o. then_text o before) e ∙ then_assoc (Some old) text before
put_then (Err halts.Broken) text before old new e = e
put_then (Err halts.Memory) text before old new e = tt

pub name_then : (result : Result (Unit {0}) Halt) (name : List ℕ) (text before now : Option (List ℕ)) (old mid new : List ℕ) → mid ≡ old ++ name → Prints result text mid before new now → Prints result (then_text (Some name) text) old before new now
name_then (Ok u) name text before now old mid new is e =
    e ∙ ap (λ (l : List ℕ). then_text (Some l) (then_text text before)) is ∙ then_assoc (Some old) (Some name) (then_text text before) ∙ ap (then_text (Some old)) (sym (then_assoc (Some name) text before))
name_then (Err halts.Broken) name text before now old mid new is e = ap (then_text (Some name)) e
name_then (Err halts.Memory) name text before now old mid new is e = tt

pub opened : (t : List Shape) (vs : List Value) (pending mid last : List Task) (o c : ℕ) (inner : Task) (old new : List ℕ) → new ≡ old ++ o ∷ [] → mid ≡ pending ++ tasks.Close c ∷ [] → last ≡ mid ++ inner ∷ []
    → then_text (Some new) (tasks_text t vs last) ≡ then_text (Some old) (then_text (between (o ∷ []) (task_text t vs inner) (c ∷ [])) (tasks_text t vs pending))
opened t vs pending mid last o c inner old new e f g =
    let text : Option (List ℕ) = task_text t vs inner in
    let left : Option (List ℕ) = tasks_text t vs pending in
    let waits : tasks_text t vs last ≡ then_text text (then_text (Some (c ∷ [])) left) =
    pushed t vs mid last inner g ∙ ap (then_text text) (pushed t vs pending mid (tasks.Close c) f) in
    ap (λ (l : List ℕ). then_text (Some l) (tasks_text t vs last)) e
    ∙ ap (then_text (Some (old ++ o ∷ []))) waits
    ∙ then_assoc (Some old) (Some (o ∷ [])) (then_text text (then_text (Some (c ∷ [])) left))
    ∙ ap (then_text (Some old)) (ap (then_text (Some (o ∷ []))) (sym (then_assoc text (Some (c ∷ [])) left)) ∙ sym (then_assoc (Some (o ∷ [])) (then_text text (Some (c ∷ []))) left))

-- ---- work

work_pushed_at : (vs : List Value) (xs : List Task) (x : Task) → tasks_work vs (xs ++ x ∷ []) ≡ tasks_work vs xs + task_work vs x
unfolding tasks_work
work_pushed_at vs [] x = omega arith
work_pushed_at vs (y ∷ xs) x = let h = work_pushed_at vs xs x in omega (arith, h)

pub work_pushed : (vs : List Value) (xs all : List Task) (x : Task) → all ≡ xs ++ x ∷ [] → tasks_work vs all ≡ tasks_work vs xs + task_work vs x
work_pushed vs xs all x e = ap (tasks_work vs) e ∙ work_pushed_at vs xs x

pub work_opened : (vs : List Value) (pending mid last : List Task) (c : ℕ) (inner : Task) → mid ≡ pending ++ tasks.Close c ∷ [] → last ≡ mid ++ inner ∷ [] → tasks_work vs last ≤ tasks_work vs pending + (1 + task_work vs inner)
work_opened vs pending mid last c inner f g = let a = work_pushed vs pending mid (tasks.Close c) f in let b = work_pushed vs mid last inner g in omega (arith, a, b)

-- ---- arguments

pub no_arguments : (result : Result (Unit {0}) Halt) (t : List Shape) (vs us : List Value) (old : List ℕ) (left : Option (List ℕ)) → us ≡ [] → Prints (Ok tt) (in_parentheses [] (texts t (values_of us) (Each []) true)) old left old left
no_arguments result t vs us old left e = ap (then_text (Some old)) (sym (nothing_then left)) ∙ ap (λ (l : List Value). then_text (Some old) (then_text (texts t (values_of l) (Each []) true) left)) (sym e)

pub too_many : (t : List Shape) (us : List Value) → 0 < length us → texts t (values_of us) (Each []) true ≡ None
too_many t [] lt = absurd (omega arith)
too_many t (v ∷ us) lt = refl

pub in_some : (ss : List ℕ) (text : Option (List ℕ)) → 0 < length ss → in_parentheses ss text ≡ between (codes "(") text (codes ")")
in_some [] text lt = absurd (omega arith)
in_some (s ∷ ss) text lt = refl

pub first_arguments : (t : List Shape) (vs : List Value) (a : Arguments) (ss : List ℕ) → parts_at t a.shape a.tag ≡ ss → a.place ≡ 0 → arguments_text t vs a ≡ texts t (values_of (piece vs a.from a.count)) (Each ss) true
first_arguments t vs a ss e at =
    ap (λ n. texts t (values_of (piece vs a.from a.count)) (Each (drop n (parts_at t a.shape a.tag))) (nat_eq n 0)) at
    ∙ ap (λ l. texts t (values_of (piece vs a.from a.count)) (Each l) true) e

-- ---- the first of members and arguments

pub members_none : (t : List Shape) (vs : List Value) (m : Members) → piece vs m.from m.count ≡ [] → members_text t vs m ≡ Some []
members_none t vs m e = ap (λ (l : List Value). texts t (values_of l) (All m.shape) m.is_first) e

pub members_front : (t : List Shape) (vs : List Value) (m n : Members) (v : Value) → piece vs m.from m.count ≡ v ∷ piece vs n.from n.count → n.shape ≡ m.shape → n.is_first ≡ false
    → members_text t vs m ≡ then_text (Some (separator m.is_first)) (then_text (text_of t v m.shape) (members_text t vs n))
members_front t vs m n v e shape first =
    ap (λ (l : List Value). texts t (values_of l) (All m.shape) m.is_first) e
    ∙ ap (λ o. then_text (Some (separator m.is_first)) (then_text (text_of t v m.shape) o))
    (ap (λ s. texts t (values_of (piece vs n.from n.count)) (All s) false) (sym shape) ∙ ap (λ b. texts t (values_of (piece vs n.from n.count)) (All n.shape) b) (sym first))

pub arguments_none : (t : List Shape) (vs : List Value) (a : Arguments) → piece vs a.from a.count ≡ [] → None ≡ slice_get (parts_at t a.shape a.tag) a.place → arguments_text t vs a ≡ Some []
arguments_none t vs a e at =
    ap (λ (l : List Value). texts t (values_of l) (Each (drop a.place (parts_at t a.shape a.tag))) (nat_eq a.place 0)) e
    ∙ ap (λ l. end_text (Each l)) (dropped_none (parts_at t a.shape a.tag) a.place (sym at))

pub arguments_few : (t : List Shape) (vs : List Value) (a : Arguments) (s : ℕ) → piece vs a.from a.count ≡ [] → Some s ≡ slice_get (parts_at t a.shape a.tag) a.place → arguments_text t vs a ≡ None
arguments_few t vs a s e at =
    ap (λ (l : List Value). texts t (values_of l) (Each (drop a.place (parts_at t a.shape a.tag))) (nat_eq a.place 0)) e
    ∙ ap (λ l. end_text (Each l)) (dropped_front (parts_at t a.shape a.tag) a.place s (sym at))

pub arguments_many : (t : List Shape) (vs : List Value) (a : Arguments) (v : Value) (us : List Value) → piece vs a.from a.count ≡ v ∷ us → None ≡ slice_get (parts_at t a.shape a.tag) a.place → arguments_text t vs a ≡ None
arguments_many t vs a v us e at =
    ap (λ (l : List Value). texts t (values_of l) (Each (drop a.place (parts_at t a.shape a.tag))) (nat_eq a.place 0)) e
    ∙ ap (λ l. with_next (Each l) (λ s others. then_text (Some (separator (nat_eq a.place 0))) (then_text (text_of t v s) (texts t (values_of us) others false)))) (dropped_none (parts_at t a.shape a.tag) a.place (sym at))

not_first : (n : ℕ) → nat_eq (suc n) 0 ≡ false
not_first n = grind arith

pub arguments_front : (t : List Shape) (vs : List Value) (a b : Arguments) (v : Value) (s : ℕ) → piece vs a.from a.count ≡ v ∷ piece vs b.from b.count → Some s ≡ slice_get (parts_at t a.shape a.tag) a.place → b.shape ≡ a.shape → b.tag ≡ a.tag → b.place ≡ suc a.place
    → arguments_text t vs a ≡ then_text (Some (separator (nat_eq a.place 0))) (then_text (text_of t v s) (arguments_text t vs b))
arguments_front t vs a b v s e at shape tag place =
    let parts : List ℕ = parts_at t a.shape a.tag in
    let others : List Value = piece vs b.from b.count in
    let same : parts ≡ parts_at t b.shape b.tag = ap (λ n. parts_at t n a.tag) (sym shape) ∙ ap (λ n. parts_at t b.shape n) (sym tag) in
    let left : texts t (values_of others) (Each (drop (suc a.place) parts)) false ≡ arguments_text t vs b =
    ap (λ l. texts t (values_of others) (Each (drop (suc a.place) l)) false) same
    ∙ ap (λ n. texts t (values_of others) (Each (drop n (parts_at t b.shape b.tag))) false) (sym place)
    ∙ ap (λ x. texts t (values_of others) (Each (drop b.place (parts_at t b.shape b.tag))) x) (sym (ap (λ n. nat_eq n 0) place ∙ not_first a.place)) in
    ap (λ (l : List Value). texts t (values_of l) (Each (drop a.place parts)) (nat_eq a.place 0)) e
    ∙ ap (λ l. with_next (Each l) (λ k more. then_text (Some (separator (nat_eq a.place 0))) (then_text (text_of t v k) (texts t (values_of others) more false)))) (dropped_front parts a.place s (sym at))
    ∙ ap (λ o. then_text (Some (separator (nat_eq a.place 0))) (then_text (text_of t v s) o)) left

-- a separator was put, the others are left, and the first is printed
pub front_printed : (result : Result (Unit {0}) Halt) (t : List Shape) (vs : List Value) (x : Task) (whole first : Option (List ℕ)) (put old mid new : List ℕ) (pending more : List Task) (now : Option (List ℕ)) → whole ≡ then_text (Some put) (then_text first (task_text t vs x))
    → mid ≡ old ++ put → more ≡ pending ++ x ∷ [] → Prints result first mid (tasks_text t vs more) new now → Prints result whole old (tasks_text t vs pending) new now
front_printed (Ok u) t vs x whole first put old mid new pending more now split e f is =
    let others : Option (List ℕ) = task_text t vs x in
    let left : Option (List ℕ) = tasks_text t vs pending in
    is ∙ ap (λ (l : List ℕ). then_text (Some l) (then_text first (tasks_text t vs more))) e
    ∙ ap (λ o. then_text (Some (old ++ put)) (then_text first o)) (pushed t vs pending more x f)
    ∙ then_assoc (Some old) (Some put) (then_text first (then_text others left))
    ∙ ap (then_text (Some old)) (ap (then_text (Some put)) (sym (then_assoc first others left)) ∙ sym (then_assoc (Some put) (then_text first others) left))
    ∙ ap (λ o. then_text (Some old) (then_text o left)) (sym split)
front_printed (Err halts.Broken) t vs x whole first put old mid new pending more now split e f is = split ∙ ap (λ o. then_text (Some put) (then_text o (task_text t vs x))) is
front_printed (Err halts.Memory) t vs x whole first put old mid new pending more now split e f is = tt

pub nothing_printed : (whole left : Option (List ℕ)) (old : List ℕ) → whole ≡ Some [] → Prints (Ok tt) whole old left old left
nothing_printed whole left old e = ap (then_text (Some old)) (sym (nothing_then left)) ∙ ap (λ o. then_text (Some old) (then_text o left)) (sym e)

pub prints_same : (result : Result (Unit {0}) Halt) (a b before now : Option (List ℕ)) (old new : List ℕ) → a ≡ b → Prints result b old before new now → Prints result a old before new now
prints_same result a b before now old new e h = subst (λ x. Prints result x old before new now) (sym e) h

-- the first of so many words
pub begins_with : (cells : List Word) (from count : ℕ) (o : Option Word) → are_founded 0 cells ≡ true → o ≡ slice_get cells from → 0 < count → IfSome o (λ w. from < 2 ^ 63) → Begins o (meanings cells) from count
begins_with cells from count None founded e lt small = piece_none (meanings cells) from count (cell_missing cells from founded e)
begins_with cells from count (Some w) founded e lt small = (piece_some (meanings cells) from count (value_in (meanings cells) w) (cell_there cells from w founded e) lt, lt, small)

pub piece_work_front : (vs : List Value) (from count next less : ℕ) (v : Value) → piece vs from count ≡ v ∷ piece vs next less → piece_work vs from count ≡ suc (3 * (weight v + weights (values_of (piece vs next less))))
piece_work_front vs from count next less v e = ap (λ (l : List Value). suc (3 * weights (values_of l))) e

pub less_front : (vs : List Value) (pending more new : List Task) (x : Task) (from count next less : ℕ) (v : Value) → piece vs from count ≡ v ∷ piece vs next less → task_work vs x ≡ piece_work vs next less → more ≡ pending ++ x ∷ []
    → tasks_work vs new < tasks_work vs more + 3 * weight v → tasks_work vs new < tasks_work vs pending + piece_work vs from count
less_front vs pending more new x from count next less v e is put h = omega (arith, h, work_pushed vs pending more x put, is, piece_work_front vs from count next less v e)

pub no_shape : (t : List Shape) (vs : List Value) (w : Word) (s : ℕ) → slice_get t s ≡ None → text_of t (value_in vs w) s ≡ None
no_shape t vs (words.Number n) s at = ap (λ o. given_text o (number_text n)) at
no_shape t vs (words.Truth b) s at = ap (λ o. given_text o (truth_text b)) at
no_shape t vs (words.Char c) s at = ap (λ o. given_text o (char_text c)) at
no_shape t vs words.Null s at = refl
no_shape t vs (words.Reference r) s at = refl
no_shape t vs (words.Data tag from count) s at = ap (λ o. given_text o (data_text tag (λ ss. texts t (values_of (piece vs from count)) (Each ss) true))) at
no_shape t vs (words.Sequence from count) s at = ap (λ o. given_text o (sequence_text (characters (values_of (piece vs from count))) (λ m. texts t (values_of (piece vs from count)) (All m) true))) at

-- no arguments, as the code finds it
pub ended : (result : Result (Unit {0}) Halt) (t : List Shape) (vs : List Value) (ss : List ℕ) (from count : ℕ) (old : List ℕ) (left : Option (List ℕ)) → from + count ≤ length vs → length ss ≡ 0 → HasNone result count
    → Prints result (in_parentheses ss (texts t (values_of (piece vs from count)) (Each ss) true)) old left old left
ended (Ok u) t vs [] from count old left le none has =
    let empty : piece vs from count ≡ [] = ap (λ n. take n (drop from vs)) has in
    nothing_printed _ left old (ap (λ (l : List Value). texts t (values_of l) (Each []) true) empty)
ended (Err halts.Broken) t vs [] from count old left le none has =
    too_many t (piece vs from count) (omega (arith, has, le, length-take count (drop from vs), length-drop from vs))
ended (Err halts.Memory) t vs [] from count old left le none has = absurd has
ended result t vs (s ∷ ss) from count old left le none has = absurd (omega (arith, none))

-- ---- all that is left

pub none_pending : (t : List Shape) (vs : List Value) (pending : List Task) → length pending ≡ 0 → tasks_text t vs pending ≡ Some []
unfolding tasks_text
none_pending t vs [] e = refl
none_pending t vs (x ∷ xs) e = absurd (omega (arith, e))

pub nothing_pending : (t : List Shape) (vs : List Value) → tasks_text t vs [] ≡ Some []
unfolding tasks_text
nothing_pending t vs = refl

pub finished : (t : List Shape) (vs : List Value) (pending : List Task) (first now : List ℕ) (whole : Option (List ℕ)) → then_text (Some now) (tasks_text t vs pending) ≡ then_text (Some first) whole → length pending ≡ 0 → Some now ≡ then_text (Some first) whole
finished t vs pending first now whole e none = sym (then_nothing (Some now)) ∙ sym (ap (then_text (Some now)) (none_pending t vs pending none)) ∙ e

-- a task is done: what was put and is left makes the same text
pub task_done : (t : List Shape) (vs : List Value) (task : Task) (all others new : List Task) (old mid first : List ℕ) (whole : Option (List ℕ)) → then_text (Some old) (tasks_text t vs all) ≡ then_text (Some first) whole → all ≡ others ++ task ∷ []
    → then_text (Some mid) (tasks_text t vs new) ≡ then_text (Some old) (then_text (task_text t vs task) (tasks_text t vs others)) → then_text (Some mid) (tasks_text t vs new) ≡ then_text (Some first) whole
task_done t vs task all others new old mid first whole e is done = done ∙ sym (ap (then_text (Some old)) (pushed t vs others all task is)) ∙ e

-- a task has no text, so the whole has none
some_none : (o : List ℕ) (a b : Option (List ℕ)) → a ≡ None → then_text (Some o) (then_text a b) ≡ None
some_none o a b e = ap (λ x. then_text (Some o) (then_text x b)) e

pub task_broken : (t : List Shape) (vs : List Value) (task : Task) (all others : List Task) (old first : List ℕ) (whole : Option (List ℕ)) → then_text (Some old) (tasks_text t vs all) ≡ then_text (Some first) whole → all ≡ others ++ task ∷ []
    → task_text t vs task ≡ None → whole ≡ None
task_broken t vs task all others old first whole e is none =
    whole_none first whole (sym e ∙ ap (then_text (Some old)) (pushed t vs others all task is) ∙ some_none old (task_text t vs task) (tasks_text t vs others) none)

-- a word was put, and then what was left of it
pub word_finished : (result : Result (Unit {0}) Halt) (text before : Option (List ℕ)) (old mid new : List ℕ) (now : Option (List ℕ)) → before ≡ Some [] → then_text (Some mid) now ≡ then_text (Some old) (then_text text before) → Puts result now mid new → Puts result text old new
word_finished (Ok u) text before old mid new now none e h = h ∙ e ∙ ap (λ o. then_text (Some old) (then_text text o)) none ∙ ap (then_text (Some old)) (then_nothing text)
word_finished (Err halts.Broken) text before old mid new now none e h =
    whole_none old text (sym (e ∙ ap (λ o. then_text (Some old) (then_text text o)) none ∙ ap (then_text (Some old)) (then_nothing text)) ∙ ap (then_text (Some mid)) h)
word_finished (Err halts.Memory) text before old mid new now none e h = tt

pub task_halted : (halt : Halt) (t : List Shape) (vs : List Value) (task : Task) (all others : List Task) (old first new : List ℕ) (now whole : Option (List ℕ)) → then_text (Some old) (tasks_text t vs all) ≡ then_text (Some first) whole → all ≡ others ++ task ∷ []
    → Prints (Err halt) (task_text t vs task) old (tasks_text t vs others) new now → Puts (Err halt) whole first new
task_halted halts.Broken t vs task all others old first new now whole e is none = task_broken t vs task all others old first whole e is none
task_halted halts.Memory t vs task all others old first new now whole e is none = tt
