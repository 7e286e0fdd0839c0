-- The frames of a machine fill its stack.
use Rattle.std.proofs.Common.{◌≡◌, ℕ, suc, ◌+◌, ◌-◌, ◌≤◌, true, nat_le, List, [], ◌∷◌, take, drop, reverse, length, vec_len, vec_capacity, refl, sym, ap, ◌∙◌, arith, rules, length-drop, Result, Ok, Err, OnOk}
use Rattle.std.proofs.lemmas.List.{length-reverse, length-take-le}
use Rattle.std.proofs.lemmas.Bool.{and_parts, eqb-true}
use Rattle.df_nmach.specs.Value.{Value}
use Rattle.df_nmach.specs.View.{value_of, values_of}
use Rattle.df_nvm.specs.declared.machine.Waiting.{Waiting}
use Rattle.df_nvm.specs.declared.machine.Machine.{Machine}
use Rattle.df_nvm.specs.Frames.{frames_at, state_of}
use Rattle.df_nvm.specs.Room.{words_in_frames}
use Rattle.df_nvm.specs.Stack.{below_of, room_of, words_of}
use Rattle.df_nvm.specs.mirror.Standing.{stands}
use Rattle.df_nvm.proofs.Lists.{length-map_of}

-- the locals and operands of a frame that begins at b and has l locals, above as many values
one_frame : (b l below : ℕ) (values : List Value) → b + l ≤ length values → below ≡ b
    → length (take l (drop b values)) + length (reverse (drop (b + l) values)) + below ≡ length values
one_frame b l below values le e =
    let past : length (drop b values) ≡ length values - b = length-drop b values in
    let locals : length (take l (drop b values)) ≡ l = length-take-le l (drop b values) (omega (arith, past)) in
    let operands : length (reverse (drop (b + l) values)) ≡ length values - (b + l) = length-reverse (drop (b + l) values) ∙ length-drop (b + l) values in
    omega (arith, locals, operands, e)

fills : (ws : List Waiting) (values : List Value) → stands ws (length values) ≡ true → words_in_frames (frames_at ws values) ≡ length values
fills [] values e = sym (eqb-true (length values) 0 e)
fills (w ∷ ws) values e =
    let both = and_parts (nat_le (w.base + w.locals) (length values)) (stands ws w.base) e in
    let le : w.base + w.locals ≤ length values = grind (arith, both.0) in
    let short : length (take w.base values) ≡ w.base = length-take-le w.base values (omega arith) in
    one_frame w.base w.locals _ values le (fills ws (take w.base values) (ap (λ n. stands ws n) short ∙ both.1) ∙ short)

pub counted : (ws : List Waiting) (values : List Value) → length (frames_at ws values) ≡ length ws
counted [] values = refl
counted (w ∷ ws) values = ap (λ n. suc n) (counted ws (take w.base values))

pub all_words : (m : Machine) → words_in_frames (state_of m).frames ≡ vec_len m.stack.values
all_words m =
    let s = m.stack in
    let all : List Value = values_of s.values.items in
    let long : length all ≡ length s.values.items = length-map_of value_of s.values.items in
    let counted_values : length s.values.items ≡ vec_len s.values = search rules in
    let short : length (take s.base all) ≡ s.base = length-take-le s.base all (omega (arith, long, s.stands)) in
    one_frame s.base s.locals _ all (omega (arith, long, s.stands)) (fills (reverse m.waiting.items) (below_of s) m.standing ∙ short) ∙ long ∙ counted_values

pub all_frames : (m : Machine) → length (state_of m).frames ≡ suc (vec_len m.waiting)
all_frames m =
    let counted_frames : length m.waiting.items ≡ vec_len m.waiting = search rules in
    ap (λ n. suc n) (counted (reverse m.waiting.items) (below_of m.stack) ∙ length-reverse m.waiting.items ∙ counted_frames)

pub room_left : (m : Machine) → words_of m.stack - words_in_frames (state_of m).frames ≡ room_of m.stack
room_left m = ap (λ n. words_of m.stack - n) (all_words m)

pub frames_left : (m : Machine) → suc (vec_capacity m.waiting) - length (state_of m).frames ≡ vec_capacity m.waiting - vec_len m.waiting
frames_left m = omega (arith, all_frames m)

pub on_ok : {X E : Type 0} (r : Result X E) (P Q : Type 0) → (P → Q) → OnOk r P → OnOk r Q
on_ok (Ok x) P Q f h = f h
on_ok (Err e) P Q f h = h

pub fits_words : (m : Machine) (words : ℕ) → words ≤ room_of m.stack → words_in_frames (state_of m).frames + words ≤ words_of m.stack
fits_words m words le =
    let some : vec_len m.stack.values ≤ words_of m.stack = search rules in
    omega (arith, all_words m, le, some)
