-- Steps and runs, joined.
use Rattle.std.proofs.Common.{◌≡◌, ℕ, ◌+◌, ◌<◌, List, [], ◌++◌, take, Option, Some, None, Result, Ok, Err, refl, sym, ap, subst, ◌∙◌, append_assoc, append-nil, arith}
use Rattle.df_base.specs.Outside.{Appends}
use Rattle.df_nmach.specs.Value.{Value}
use Rattle.df_nmach.specs.State.{Code, Heap, Frame, State}
use Rattle.df_nmach.specs.Step as table
use Rattle.df_nmach.specs.Step.{Effect, Broken, On, Ended, Fault, stepped, next_effect, machine_step}
use Rattle.df_nmach.specs.Run.{and_then, machine_run, NeverFaults}
use Rattle.df_nmach.specs.Front.{with_front, all_with_front}
use Rattle.df_nmach.proofs.Runs.{run_add, step_front, run_front, ends_for_good, next_never}
use Rattle.df_nvm.specs.declared.halt.Halt.{Halt}
use Rattle.df_nvm.specs.declared.halt.Halt.TheVariants as halts
use Rattle.df_nvm.specs.declared.halt.Turn.{Turn}
use Rattle.df_nvm.specs.declared.halt.Turn.TheVariants as turns
use Rattle.df_nvm.specs.mirror.Turns.{Turns}
use Rattle.df_nvm.proofs.Landing.{state}
use Rattle.df_nvm.specs.Runs.{GoesOn, IsCut, Ends, HasRun, IsCutAfter}

-- a text in front does not make a fault
behind_front : (code : Code) (t : List ℕ) (s : State) → NeverFaults code (On (with_front t s)) → NeverFaults code (On s)
behind_front code t s never = record { never = λ k e. never.never k (run_front code k t s ∙ ap (all_with_front t) e) }

pub never_broken : (code : Code) (heap : Heap) (f : Frame) (ws : List Frame) → NeverFaults code (On (state heap f ws)) → next_effect code heap f ≡ Broken → ⊥
never_broken code heap f ws never e = never.never 1 (ap (λ x. and_then (stepped heap [] ws x) (machine_run code 0)) e)

same : (code : Code) (old new : State) → new ≡ old → NeverFaults code (On old) → NeverFaults code (On new)
same code old new e never = subst (λ (s : State). NeverFaults code (On s)) (sym e) never

-- a state that turned never faults
pub keeps : (r : Result Turn Halt) (code : Code) (heap : Heap) (f : Frame) (ws : List Frame) (new : State) (operands : List Value) (before now : Option (List ℕ))
    → NeverFaults code (On (state heap f ws)) → Turns r (state heap f ws) new operands before now (next_effect code heap f) → NeverFaults code (On new)
keeps (Ok turns.On) code heap f ws new operands before now never went =
    behind_front code went.text new (next_never code (state heap f ws) (with_front went.text new) never went.lands_on)
keeps (Ok (turns.Returned k)) code heap f ws new operands before now never gave = same code (state heap f ws) new gave.2 never
keeps (Err halts.Broken) code heap f ws new operands before now never broken = absurd (never_broken code heap f ws never broken)
keeps (Err halts.Write) code heap f ws new operands before now never cut = same code (state heap f ws) new cut.1 never
keeps (Err halts.Memory) code heap f ws new operands before now never none = same code (state heap f ws) new none.0 never

-- So many steps from a start lead to a state, which before had printed nothing, and their text is put.
pub record Reached (code : Code) (start : State) (steps : ℕ) (reached : State) (before now : Option (List ℕ)) : Type 0 where
  pub text : List ℕ
  pub runs : machine_run code steps start ≡ On (with_front text reached)
  pub puts : Appends before now text

pub Appends-more : (old mid new : Option (List ℕ)) (t u : List ℕ) → Appends old mid t → Appends mid new u → Appends old new (t ++ u)
Appends-more None mid new t u a b = let P : Option (List ℕ) → Type 0 = λ m. Appends m new u in subst P a b
Appends-more (Some x) mid new t u a b =
    let P : Option (List ℕ) → Type 0 = λ m. Appends m new u in
    subst P a b ∙ ap Some (append_assoc x t u)

-- nothing yet
pub reached_none : (code : Code) (heap : Heap) (f : Frame) (ws : List Frame) (before : Option (List ℕ)) → Reached code (state heap f ws) 0 (state heap f ws) before before
reached_none code heap f ws before = record { text = []; runs = refl; puts = none before }
  where
    none : (o : Option (List ℕ)) → Appends o o []
    none None = refl
    none (Some x) = ap Some (sym (append-nil x))

one_step : (code : Code) (s : State) (o : table.Stepped) → machine_step code s ≡ o → machine_run code 1 s ≡ and_then o (machine_run code 0)
one_step code s o e = ap (λ x. and_then x (machine_run code 0)) e

-- a step after those that were made
next_run : (code : Code) (start : State) (k : ℕ) (s : State) (t : List ℕ) (o : table.Stepped) → machine_run code k start ≡ On (with_front t s) → machine_step code s ≡ o
    → machine_run code (k + 1) start ≡ all_with_front t (and_then o (machine_run code 0))
next_run code start k s t o runs e =
    run_add code k 1 start ∙ ap (λ x. and_then x (machine_run code 1)) runs ∙ run_front code 1 t s ∙ ap (all_with_front t) (one_step code s o e)

pub reached_more : (code : Code) (start : State) (k : ℕ) (s next : State) (before mid now : Option (List ℕ)) → Reached code start k s before mid → GoesOn code s next mid now
    → Reached code start (k + 1) next before now
reached_more code start k s next before mid now so_far on = record {
  text = so_far.text ++ on.text;
  runs =
      next_run code start k s so_far.text (On (with_front on.text next)) so_far.runs on.steps
      ∙ ap (λ (x : List ℕ). let w : State = record { heap = next.heap; frames = next.frames; text = x } in On w) (sym (append_assoc so_far.text on.text next.text));
  puts = Appends-more before mid now so_far.text on.text so_far.puts on.puts;
}

-- the end
pub reached_end : (code : Code) (start : State) (k fuel : ℕ) (s : State) (before mid now : Option (List ℕ)) (results : List Value) (heap : Heap) → Reached code start k s before mid → k < fuel → now ≡ mid
    → machine_step code s ≡ Ended (record { results = results; heap = heap; text = [] })
    → Ends code start fuel results heap before now
reached_end code start k fuel s before mid now results heap so_far lt same e = record {
  text = so_far.text ++ [];
  runs = ends_for_good code (k + 1) fuel start (record { results = results; heap = heap; text = so_far.text ++ [] }) (next_run code start k s so_far.text (Ended (record { results = results; heap = heap; text = [] })) so_far.runs e) (omega arith);
  puts = subst (λ (o : Option (List ℕ)). Appends before o (so_far.text ++ [])) (sym same) (subst (λ (x : List ℕ). Appends before mid x) (sym (append-nil so_far.text)) so_far.puts);
}

-- so many steps and no end
pub reached_run : (code : Code) (start : State) (k : ℕ) (heap : Heap) (f : Frame) (ws : List Frame) (before mid now : Option (List ℕ)) → Reached code start k (state heap f ws) before mid → now ≡ mid → HasRun code start k before now
reached_run code start k heap f ws before mid now so_far same = record {
  state = with_front so_far.text (state heap f ws);
  runs = so_far.runs;
  puts = subst (λ (o : Option (List ℕ)). Appends before o (so_far.text ++ [])) (sym same) (subst (λ (x : List ℕ). Appends before mid x) (sym (append-nil so_far.text)) so_far.puts);
}

-- a step that is cut off
pub reached_cut : (code : Code) (start : State) (k : ℕ) (heap : Heap) (f : Frame) (ws : List Frame) (before mid now : Option (List ℕ)) → Reached code start k (state heap f ws) before mid → IsCut code (state heap f ws) mid now → IsCutAfter code start k before now
reached_cut code start k heap f ws before mid now so_far cut = record {
  state = with_front so_far.text (state heap f ws);
  next = with_front so_far.text cut.next;
  text = cut.next.text;
  count = cut.puts.0;
  runs = so_far.runs;
  goes_on = step_front code so_far.text (state heap f ws) ∙ ap (all_with_front so_far.text) cut.steps;
  prints = ap (λ (t : List ℕ). t ++ cut.next.text) (sym (append-nil so_far.text));
  some = cut.prints;
  puts = subst (λ (t : List ℕ). Appends before now (t ++ take cut.puts.0 cut.next.text)) (sym (append-nil so_far.text)) (Appends-more before mid now so_far.text (take cut.puts.0 cut.next.text) so_far.puts cut.puts.1);
}
