-- Frames that wait, after a call and after a return.
use Rattle.std.proofs.Common.{◌≡◌, ℕ, ◌+◌, ◌≤◌, pos, true, nat_le, List, [], ◌∷◌, ◌++◌, take, drop, reverse, replicate, length, sym, ap, ◌∙◌, arith, append_assoc}
use Rattle.std.proofs.lemmas.List.{reverse-append, reverse-reverse, length-append}
use Rattle.std.proofs.Math.Seq.{take-append_seam, drop-append_seam}
use Rattle.df_nmach.specs.Value.{Value, Number}
use Rattle.df_nmach.specs.State.{Method, Frame}
use Rattle.df_nmach.specs.Step.{Calls, demand, after, beginning, calls}
use Rattle.df_nvm.specs.declared.machine.Waiting.{Waiting}
use Rattle.df_nvm.specs.Frames.{frame_at, frames_at}

-- the frame that waits on top of what is below it
waits : (w : Waiting) (below locals rest : List Value) → w.base ≡ length below → w.locals ≡ length locals
    → frame_at w (below ++ locals ++ rest) ≡ record { method = w.method; next = w.next; locals = locals; operands = reverse rest }
waits w below locals rest base count =
    let whole : List Value = below ++ locals ++ rest in
    let apart : whole ≡ below ++ (locals ++ rest) = append_assoc below locals rest in
    let here : take w.locals (drop w.base whole) ≡ locals =
    ap (λ n. take w.locals (drop n whole)) base ∙ ap (λ (l : List Value). take w.locals (drop (length below) l)) apart
    ∙ ap (take w.locals) (drop-append_seam below (locals ++ rest)) ∙ ap (λ n. take n (locals ++ rest)) count ∙ take-append_seam locals rest in
    let long : w.base + w.locals ≡ length (below ++ locals) = omega (arith, base, count, length-append below locals) in
    let past : reverse (drop (w.base + w.locals) whole) ≡ reverse rest = ap reverse (ap (λ n. drop n whole) long ∙ drop-append_seam (below ++ locals) rest) in
    λ i. record { method = w.method; next = w.next; locals = here i; operands = past i }

below_waits : (below locals rest : List Value) (n : ℕ) → n ≡ length below → take n (below ++ locals ++ rest) ≡ below
below_waits below locals rest n e =
    ap (λ k. take k (below ++ locals ++ rest)) e ∙ ap (take (length below)) (append_assoc below locals rest) ∙ take-append_seam below (locals ++ rest)

-- one more frame waits
pub one_more_waits : (w : Waiting) (ws news : List Waiting) (below locals operands values : List Value) → w.base ≡ length below → w.locals ≡ length locals
    → news ≡ ws ++ w ∷ [] → values ≡ below ++ locals ++ reverse operands
    → frames_at (reverse news) values ≡ record { method = w.method; next = w.next; locals = locals; operands = operands } ∷ frames_at (reverse ws) below
one_more_waits w ws news below locals operands values base count grows is =
    let rest : List Value = reverse operands in
    let top : reverse news ≡ w ∷ reverse ws = ap reverse grows ∙ reverse-append ws (w ∷ []) in
    ap (λ (l : List Waiting). frames_at l values) top ∙ ap (λ (v : List Value). frame_at w v ∷ frames_at (reverse ws) (take w.base v)) is
    ∙ ap (λ (f : Frame). f ∷ frames_at (reverse ws) (take w.base (below ++ locals ++ rest))) (waits w below locals rest base count)
    ∙ ap (λ (v : List Value). record { method = w.method; next = w.next; locals = locals; operands = reverse rest } ∷ frames_at (reverse ws) v) (below_waits below locals rest w.base base)
    ∙ ap (λ (o : List Value). record { method = w.method; next = w.next; locals = locals; operands = o } ∷ frames_at (reverse ws) below) (reverse-reverse operands)

-- the frame that waited on top runs again
pub runs_again : (w : Waiting) (ws old : List Waiting) (below values : List Value) → old ≡ ws ++ w ∷ [] → values ≡ take w.base below
    → frames_at (reverse old) below ≡ frame_at w below ∷ frames_at (reverse ws) values
runs_again w ws old below values pops is =
    ap (λ (l : List Waiting). frames_at l below) (ap reverse pops ∙ reverse-append ws (w ∷ []))
    ∙ ap (λ (v : List Value). frame_at w below ∷ frames_at (reverse ws) v) (sym is)

-- the effect of a call
pub call_effect : (f : Frame) (number : ℕ) (m : Method) (locals operands : List Value) → m.parameters ≤ length f.operands
    → locals ≡ reverse (take m.parameters f.operands) ++ replicate m.locals (Number (pos 0)) → operands ≡ []
    → calls f f.operands number m ≡ Calls (after f (drop m.parameters f.operands)) (record { method = number; next = 0; locals = locals; operands = operands })
call_effect f number m locals operands le l o =
    let test : nat_le m.parameters (length f.operands) ≡ true = grind (arith) in
    ap (λ b. demand b (Calls (after f (drop m.parameters f.operands)) (beginning number m (reverse (take m.parameters f.operands))))) test
    ∙ (λ i. Calls (after f (drop m.parameters f.operands)) (record { method = number; next = 0; locals = sym l i; operands = sym o i }))
