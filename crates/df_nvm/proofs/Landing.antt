-- Where instructions lead a state.
use Rattle.std.proofs.Common.{◌≡◌, ℕ, ◌<◌, ◌≤◌, true, false, nat_le, List, [], ◌∷◌, ◌++◌, take, reverse, length, Option, Some, None, Result, Ok, Err, refl, sym, ap, subst, ◌∙◌, append-nil, arith}
use Rattle.df_base.specs.Outside.{Appends}
use Rattle.df_nmach.specs.Value.{Value}
use Rattle.df_nmach.specs.State.{Heap, Frame, State}
use Rattle.df_nmach.specs.Step.{Effect, Returns, Broken, On, Ended, demand, at, stepped}
use Rattle.df_nvm.specs.declared.halt.Halt.{Halt}
use Rattle.df_nvm.specs.declared.halt.Halt.TheVariants as halts
use Rattle.df_nvm.specs.declared.halt.Turn.{Turn}
use Rattle.df_nvm.specs.declared.halt.Turn.TheVariants as turns
use Rattle.df_nvm.specs.mirror.Turns.{Works, Enters, Gives, Puts, Turns, lands}

-- a state of these frames that has printed nothing
abbrev pub state : Heap → Frame → List Frame → State
state heap f waiting = record { heap = heap; frames = f ∷ waiting; text = [] }

nothing : (o : Option (List ℕ)) → Appends o o []
nothing None = refl
nothing (Some x) = ap Some (sym (append-nil x))

still : (before now : Option (List ℕ)) → now ≡ before → Appends before now []
still before now e = subst (λ (o : Option (List ℕ)). Appends before o []) (sym e) (nothing before)

same_state : (heap heap' : Heap) (f g : Frame) (ws vs : List Frame) → heap' ≡ heap → g ≡ f → vs ≡ ws → state heap' g vs ≡ state heap f ws
same_state heap heap' f g ws vs h e w = λ i. record { heap = h i; frames = e i ∷ w i; text = [] }

-- an instruction that goes on in its frame
pub worked : (r : Result Turn Halt) (heap heap' : Heap) (f g : Frame) (ws vs : List Frame) (operands : List Value) (before now : Option (List ℕ)) (effect : Effect)
    → heap' ≡ heap → vs ≡ ws → now ≡ before → Works r heap f g effect
    → Turns r (state heap f ws) (state heap' g vs) operands before now effect
worked (Ok turns.On) heap heap' f g ws vs operands before now effect h w same works = record {
  text = [];
  lands_on = ap (λ (e : Effect). lands (state heap f ws) e) works ∙ ap On (sym (same_state heap heap' g g ws vs h refl w));
  puts = still before now same;
}
worked (Ok (turns.Returned k)) heap heap' f g ws vs operands before now effect h w same works = absurd works
worked (Err halts.Broken) heap heap' f g ws vs operands before now effect h w same works = works
worked (Err halts.Write) heap heap' f g ws vs operands before now effect h w same works = absurd works
worked (Err halts.Memory) heap heap' f g ws vs operands before now effect h w same works = (same_state heap heap' f g ws vs h works w, same)

-- a call
pub entered : (r : Result Turn Halt) (heap heap' : Heap) (f g : Frame) (ws vs : List Frame) (operands : List Value) (before now : Option (List ℕ)) (effect : Effect)
    → heap' ≡ heap → now ≡ before → Enters r f g ws vs effect
    → Turns r (state heap f ws) (state heap' g vs) operands before now effect
entered (Ok turns.On) heap heap' f g ws vs operands before now effect h same enters = record {
  text = [];
  lands_on = ap (λ (e : Effect). lands (state heap f ws) e) enters.1 ∙ ap On (sym (same_state heap heap' g g (enters.0 ∷ ws) vs h refl enters.2));
  puts = still before now same;
}
entered (Ok (turns.Returned k)) heap heap' f g ws vs operands before now effect h same enters = absurd enters
entered (Err halts.Broken) heap heap' f g ws vs operands before now effect h same enters = enters
entered (Err halts.Write) heap heap' f g ws vs operands before now effect h same enters = absurd enters
entered (Err halts.Memory) heap heap' f g ws vs operands before now effect h same enters = (same_state heap heap' f g ws vs h enters.0 enters.1, same)

-- a return
abbrev returned : Frame → ℕ → Effect
returned f k = demand (nat_le k (length f.operands)) (Returns (take k f.operands))

gives_enough : (f : Frame) (k : ℕ) → k ≤ length f.operands → returned f k ≡ Returns (take k f.operands)
gives_enough f k le =
    let test : nat_le k (length f.operands) ≡ true = grind (arith) in
    ap (λ b. demand b (Returns (take k f.operands))) test

too_few : (f : Frame) (k : ℕ) → length f.operands < k → returned f k ≡ Broken
too_few f k lt =
    let test : nat_le k (length f.operands) ≡ false = grind (arith) in
    ap (λ b. demand b (Returns (take k f.operands))) test

pub given_back : (r : Result Turn Halt) (heap heap' : Heap) (f g : Frame) (ws vs : List Frame) (before now : Option (List ℕ)) (k : ℕ)
    → heap' ≡ heap → now ≡ before → Gives r f g ws vs k
    → Turns r (state heap f ws) (state heap' g vs) g.operands before now (returned f k)
given_back (Ok turns.On) heap heap' f g ws vs before now k h same gives =
    let w : Frame = gives.1 in
    record {
      text = [];
      lands_on =
          ap (λ (e : Effect). lands (state heap f ws) e) (gives_enough f k gives.0)
          ∙ ap (λ (l : List Frame). stepped heap [] l (Returns (take k f.operands))) gives.2
          ∙ ap On (sym (same_state heap heap' (at w w.next (take k f.operands ++ w.operands)) g vs vs h gives.3 refl));
      puts = still before now same;
    }
given_back (Ok (turns.Returned j)) heap heap' f g ws vs before now k h same gives =
    let enough : k ≤ length f.operands = gives.1 in
    let alone : ws ≡ [] = gives.2 in
    let stays : g ≡ f = gives.3 in
    let count : k ≡ j = sym gives.0 in (
      ap (λ (e : Effect). lands (state heap f ws) e) (gives_enough f k enough)
          ∙ ap (λ (l : List Frame). stepped heap [] l (Returns (take k f.operands))) alone
          ∙ (λ i. Ended (record { results = reverse (take (count i) (sym stays i).operands); heap = heap; text = [] })),
      subst (λ (x : Frame). j ≤ length x.operands) (sym stays) (subst (λ n. n ≤ length f.operands) count enough),
      same_state heap heap' f g ws vs h stays gives.4,
      same,
    )
given_back (Err halts.Broken) heap heap' f g ws vs before now k h same gives = too_few f k gives
given_back (Err halts.Write) heap heap' f g ws vs before now k h same gives = absurd gives
given_back (Err halts.Memory) heap heap' f g ws vs before now k h same gives = absurd gives

-- an instruction that prints
pub printed : (r : Result Turn Halt) (heap heap' : Heap) (f g : Frame) (ws vs : List Frame) (operands : List Value) (before now : Option (List ℕ)) (effect : Effect)
    → heap' ≡ heap → vs ≡ ws → Puts r heap f g before now effect
    → Turns r (state heap f ws) (state heap' g vs) operands before now effect
printed (Ok turns.On) heap heap' f g ws vs operands before now effect h w puts = record {
  text = puts.text;
  lands_on = ap (λ (e : Effect). lands (state heap f ws) e) puts.goes ∙ (λ i. On (record { heap = sym h i; frames = g ∷ sym w i; text = sym (append-nil puts.text) i }));
  puts = puts.puts;
}
printed (Ok (turns.Returned k)) heap heap' f g ws vs operands before now effect h w puts = absurd puts
printed (Err halts.Broken) heap heap' f g ws vs operands before now effect h w puts = puts
printed (Err halts.Write) heap heap' f g ws vs operands before now effect h w puts = (
  record { next = record { heap = heap; frames = puts.0.next ∷ ws; text = puts.0.text }; lands_on = ap (λ (e : Effect). lands (state heap f ws) e) puts.0.goes; prints = puts.0.prints; puts = puts.0.puts },
  same_state heap heap' f g ws vs h puts.1 w,
)
printed (Err halts.Memory) heap heap' f g ws vs operands before now effect h w puts = (same_state heap heap' f g ws vs h puts.0 w, puts.1)
