-- Marks with their jumps filled in.
use Rattle.std.proofs.Common.{◌≡◌, ℕ, ◌+◌, Bool, true, false, cond, List, [], ◌∷◌, ◌++◌, length, map, refl, sym, ap, ◌∙◌, arith, append_assoc, length-append}
use Rattle.std.specs.Prelude.{slice_set}
use Rattle.std.proofs.lemmas.List.{length-map}
use Rattle.std.proofs.Math.Seq.{set-append_seam}
use Rattle.df_nmach.specs.declared.instruction.Instruction.{Instruction}
use Rattle.df_nmach.specs.declared.instruction.Instruction.TheVariants as i
use Rattle.df_nemit.specs.Code.{Exit, Behind, Outside, Ending, Mark, Fixed, To, Exits, instruction_of, with_behind, with_outside, with_ending, ending_at, leaving_at, fixed}
use Rattle.df_nemit.specs.mirror.Emitting.{fill}

-- ---- where the jumps to an exit stand

abbrev pub same_exit : Exit → Exit → Bool
same_exit Behind Behind = true
same_exit Outside Outside = true
same_exit Ending Ending = true
same_exit a b = false

-- the places of the jumps to the exit, the first mark standing at the place
abbrev pub places : Exit → ℕ → List Mark → List ℕ
places exit p [] = []
places exit p (Fixed instruction ∷ ms) = places exit (p + 1) ms
places exit p (To other ∷ ms) = cond (same_exit exit other) (p ∷ places exit (p + 1) ms) (places exit (p + 1) ms)

-- the exit at this place
abbrev pub placed : Exit → ℕ → Exits → Exits
placed Behind place x = with_behind place x
placed Outside place x = with_outside place x
placed Ending place x = with_ending place x

-- the instructions of marks, with the exits at their places
abbrev pub instructions_of : Exits → List Mark → List Instruction
instructions_of x ms = map (instruction_of x) ms

pub instructions_long : (x : Exits) (ms : List Mark) → length (instructions_of x ms) ≡ length ms
instructions_long x ms = length-map ms (instruction_of x)

fills_next : (e : Exit) (x : Exits) (t : ℕ) (ms : List Mark) (pre : List Instruction) (p : ℕ) (next : Instruction) → length pre ≡ p
    → ((pre' : List Instruction) → length pre' ≡ p + 1 → fill (i.Jump t) (places e (p + 1) ms) (pre' ++ instructions_of x ms) ≡ pre' ++ instructions_of (placed e t x) ms)
    → fill (i.Jump t) (places e (p + 1) ms) (pre ++ next ∷ instructions_of x ms) ≡ pre ++ next ∷ instructions_of (placed e t x) ms
fills_next e x t ms pre p next long rest =
    let far : length (pre ++ next ∷ []) ≡ p + 1 = omega (arith, length-append pre (next ∷ [])) in
    ap (λ (l : List Instruction). fill (i.Jump t) (places e (p + 1) ms) l) (sym (append_assoc pre (next ∷ []) (instructions_of x ms)))
    ∙ rest (pre ++ next ∷ []) far
    ∙ append_assoc pre (next ∷ []) (instructions_of (placed e t x) ms)

fills_here : (e : Exit) (x : Exits) (t : ℕ) (ms : List Mark) (pre : List Instruction) (p : ℕ) (next : Instruction) → length pre ≡ p
    → ((pre' : List Instruction) → length pre' ≡ p + 1 → fill (i.Jump t) (places e (p + 1) ms) (pre' ++ instructions_of x ms) ≡ pre' ++ instructions_of (placed e t x) ms)
    → fill (i.Jump t) (p ∷ places e (p + 1) ms) (pre ++ next ∷ instructions_of x ms) ≡ pre ++ i.Jump t ∷ instructions_of (placed e t x) ms
fills_here e x t ms pre p next long rest =
    ap (λ (n : ℕ). fill (i.Jump t) (places e (p + 1) ms) (slice_set (pre ++ next ∷ instructions_of x ms) n (i.Jump t))) (sym long)
    ∙ ap (λ (l : List Instruction). fill (i.Jump t) (places e (p + 1) ms) l) (set-append_seam pre next (instructions_of x ms) (i.Jump t))
    ∙ fills_next e x t ms pre p (i.Jump t) long rest

-- the jumps to an exit filled in
pub fills : (e : Exit) (x : Exits) (t : ℕ) (ms : List Mark) (pre : List Instruction) (p : ℕ) → length pre ≡ p
    → fill (i.Jump t) (places e p ms) (pre ++ instructions_of x ms) ≡ pre ++ instructions_of (placed e t x) ms
fills e x t [] pre p long = refl
fills e x t (Fixed instruction ∷ ms) pre p long = fills_next e x t ms pre p instruction long (λ pre' far. fills e x t ms pre' (p + 1) far)
fills Behind x t (To Behind ∷ ms) pre p long = fills_here Behind x t ms pre p _ long (λ pre' far. fills Behind x t ms pre' (p + 1) far)
fills Behind x t (To Outside ∷ ms) pre p long = fills_next Behind x t ms pre p _ long (λ pre' far. fills Behind x t ms pre' (p + 1) far)
fills Behind x t (To Ending ∷ ms) pre p long = fills_next Behind x t ms pre p _ long (λ pre' far. fills Behind x t ms pre' (p + 1) far)
fills Outside x t (To Behind ∷ ms) pre p long = fills_next Outside x t ms pre p _ long (λ pre' far. fills Outside x t ms pre' (p + 1) far)
fills Outside x t (To Outside ∷ ms) pre p long = fills_here Outside x t ms pre p _ long (λ pre' far. fills Outside x t ms pre' (p + 1) far)
fills Outside x t (To Ending ∷ ms) pre p long = fills_next Outside x t ms pre p _ long (λ pre' far. fills Outside x t ms pre' (p + 1) far)
fills Ending x t (To Behind ∷ ms) pre p long = fills_next Ending x t ms pre p _ long (λ pre' far. fills Ending x t ms pre' (p + 1) far)
fills Ending x t (To Outside ∷ ms) pre p long = fills_next Ending x t ms pre p _ long (λ pre' far. fills Ending x t ms pre' (p + 1) far)
fills Ending x t (To Ending ∷ ms) pre p long = fills_here Ending x t ms pre p _ long (λ pre' far. fills Ending x t ms pre' (p + 1) far)

-- ---- places of parts

cond_append : (b : Bool) (p : ℕ) (xs ys : List ℕ) → cond b (p ∷ (xs ++ ys)) (xs ++ ys) ≡ cond b (p ∷ xs) xs ++ ys
cond_append true p xs ys = refl
cond_append false p xs ys = refl

pub places_append : (e : Exit) (a b : List Mark) (p : ℕ) → places e p (a ++ b) ≡ places e p a ++ places e (p + length a) b
places_append e [] b p = let far : p ≡ p + 0 = omega arith in ap (λ (n : ℕ). places e n b) far
places_append e (Fixed instruction ∷ a) b p =
    let far : p + 1 + length a ≡ p + length (Fixed instruction ∷ a) = omega arith in
    places_append e a b (p + 1) ∙ ap (λ (n : ℕ). places e (p + 1) a ++ places e n b) far
places_append e (To other ∷ a) b p =
    let far : p + 1 + length a ≡ p + length (To other ∷ a) = omega arith in
    ap (λ (l : List ℕ). cond (same_exit e other) (p ∷ l) l) (places_append e a b (p + 1) ∙ ap (λ (n : ℕ). places e (p + 1) a ++ places e n b) far)
    ∙ cond_append (same_exit e other) p (places e (p + 1) a) (places e (p + length (To other ∷ a)) b)

pub places_fixed : (e : Exit) (code : List Instruction) (p : ℕ) → places e p (fixed code) ≡ []
places_fixed e [] p = refl
places_fixed e (instruction ∷ code) p = places_fixed e code (p + 1)

pub instructions_fixed : (x : Exits) (code : List Instruction) → instructions_of x (fixed code) ≡ code
instructions_fixed x [] = refl
instructions_fixed x (instruction ∷ code) = ap (λ (l : List Instruction). instruction ∷ l) (instructions_fixed x code)

pub fixed_long : (code : List Instruction) → length (fixed code) ≡ length code
fixed_long code = length-map code Fixed

-- ---- a choice that ends at a place

pub ending_long : (t : ℕ) (ms : List Mark) → length (map (ending_at t) ms) ≡ length ms
ending_long t ms = length-map ms (ending_at t)

pub ending_behind : (t : ℕ) (ms : List Mark) (p : ℕ) → places Behind p (map (ending_at t) ms) ≡ []
ending_behind t [] p = refl
ending_behind t (Fixed instruction ∷ ms) p = ending_behind t ms (p + 1)
ending_behind t (To Behind ∷ ms) p = ending_behind t ms (p + 1)
ending_behind t (To Outside ∷ ms) p = ending_behind t ms (p + 1)
ending_behind t (To Ending ∷ ms) p = ending_behind t ms (p + 1)

pub ending_outside : (t : ℕ) (ms : List Mark) (p : ℕ) → places Outside p (map (ending_at t) ms) ≡ places Outside p ms
ending_outside t [] p = refl
ending_outside t (Fixed instruction ∷ ms) p = ending_outside t ms (p + 1)
ending_outside t (To Behind ∷ ms) p = ending_outside t ms (p + 1)
ending_outside t (To Outside ∷ ms) p = ap (λ (l : List ℕ). p ∷ l) (ending_outside t ms (p + 1))
ending_outside t (To Ending ∷ ms) p = ending_outside t ms (p + 1)

pub ending_ending : (t : ℕ) (ms : List Mark) (p : ℕ) → places Ending p (map (ending_at t) ms) ≡ places Ending p ms
ending_ending t [] p = refl
ending_ending t (Fixed instruction ∷ ms) p = ending_ending t ms (p + 1)
ending_ending t (To Behind ∷ ms) p = ending_ending t ms (p + 1)
ending_ending t (To Outside ∷ ms) p = ending_ending t ms (p + 1)
ending_ending t (To Ending ∷ ms) p = ap (λ (l : List ℕ). p ∷ l) (ending_ending t ms (p + 1))

pub ending_filled : (t : ℕ) (x : Exits) (ms : List Mark) → instructions_of (with_behind t x) ms ≡ instructions_of x (map (ending_at t) ms)
ending_filled t x [] = refl
ending_filled t x (Fixed instruction ∷ ms) = ap (λ (l : List Instruction). instruction ∷ l) (ending_filled t x ms)
ending_filled t x (To Behind ∷ ms) = ap (λ (l : List Instruction). i.Jump t ∷ l) (ending_filled t x ms)
ending_filled t x (To Outside ∷ ms) = ap (λ (l : List Instruction). i.Jump x.outside ∷ l) (ending_filled t x ms)
ending_filled t x (To Ending ∷ ms) = ap (λ (l : List Instruction). i.Jump x.ending ∷ l) (ending_filled t x ms)

-- ---- a loop that ends at a place

pub leaving_long : (t : ℕ) (ms : List Mark) → length (map (leaving_at t) ms) ≡ length ms
leaving_long t ms = length-map ms (leaving_at t)

pub leaving_behind : (t : ℕ) (ms : List Mark) (p : ℕ) → places Behind p (map (leaving_at t) ms) ≡ places Behind p ms
leaving_behind t [] p = refl
leaving_behind t (Fixed instruction ∷ ms) p = leaving_behind t ms (p + 1)
leaving_behind t (To Behind ∷ ms) p = ap (λ (l : List ℕ). p ∷ l) (leaving_behind t ms (p + 1))
leaving_behind t (To Outside ∷ ms) p = leaving_behind t ms (p + 1)
leaving_behind t (To Ending ∷ ms) p = leaving_behind t ms (p + 1)

pub leaving_outside : (t : ℕ) (ms : List Mark) (p : ℕ) → places Outside p (map (leaving_at t) ms) ≡ []
leaving_outside t [] p = refl
leaving_outside t (Fixed instruction ∷ ms) p = leaving_outside t ms (p + 1)
leaving_outside t (To Behind ∷ ms) p = leaving_outside t ms (p + 1)
leaving_outside t (To Outside ∷ ms) p = leaving_outside t ms (p + 1)
leaving_outside t (To Ending ∷ ms) p = leaving_outside t ms (p + 1)

pub leaving_ending : (t : ℕ) (ms : List Mark) (p : ℕ) → places Ending p (map (leaving_at t) ms) ≡ places Ending p ms
leaving_ending t [] p = refl
leaving_ending t (Fixed instruction ∷ ms) p = leaving_ending t ms (p + 1)
leaving_ending t (To Behind ∷ ms) p = leaving_ending t ms (p + 1)
leaving_ending t (To Outside ∷ ms) p = leaving_ending t ms (p + 1)
leaving_ending t (To Ending ∷ ms) p = ap (λ (l : List ℕ). p ∷ l) (leaving_ending t ms (p + 1))

pub leaving_filled : (t : ℕ) (x : Exits) (ms : List Mark) → instructions_of (with_outside t x) ms ≡ instructions_of x (map (leaving_at t) ms)
leaving_filled t x [] = refl
leaving_filled t x (Fixed instruction ∷ ms) = ap (λ (l : List Instruction). instruction ∷ l) (leaving_filled t x ms)
leaving_filled t x (To Behind ∷ ms) = ap (λ (l : List Instruction). i.Jump x.behind ∷ l) (leaving_filled t x ms)
leaving_filled t x (To Outside ∷ ms) = ap (λ (l : List Instruction). i.Jump t ∷ l) (leaving_filled t x ms)
leaving_filled t x (To Ending ∷ ms) = ap (λ (l : List Instruction). i.Jump x.ending ∷ l) (leaving_filled t x ms)
