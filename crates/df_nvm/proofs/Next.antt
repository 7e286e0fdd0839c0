-- The method and the instruction that are next, looked up.
use Rattle.std.proofs.Common.{◌≡◌, ℕ, ◌<◌, ◌≤◌, Bool, true, List, map, length, get_or, Option, None, slice_get, refl, ap, ◌∙◌}
use Rattle.std.specs.Prelude.{option_map}
use Rattle.std.specs.Option.{option_map_or}
use Rattle.std.proofs.lemmas.Option.{slice_get-map, slice_get_past, slice_get_read}
use Rattle.df_nmach.specs.declared.instruction.Instruction.{Instruction}
use Rattle.df_nmach.specs.declared.code.Method.{Method}
use Rattle.df_nmach.specs.State as state
use Rattle.df_nmach.specs.State.{Code, Heap, Frame}
use Rattle.df_nmach.specs.Step.{Effect, Broken, given, effect, next_effect}
use Rattle.df_nmach.specs.View.{method_of}
use Rattle.df_nvm.specs.Room.{needs_no_more, next_needs_no_more}
use Rattle.df_nvm.proofs.Begins.{method_at}

pub no_method : (ms : List Method) (n : ℕ) → length ms ≤ n → slice_get (map method_of ms) n ≡ None
no_method ms n le = slice_get-map method_of ms n ∙ ap (option_map method_of) (slice_get_past ms n le)

-- the effect of the next instruction of what was found
abbrev in_method : Code → Heap → Frame → Option state.Method → Effect
in_method code heap f found = given found (λ m. given (slice_get m.instructions f.next) (λ instruction. effect code m heap f instruction f.operands))

abbrev in_instruction : Code → state.Method → Heap → Frame → Option Instruction → Effect
in_instruction code m heap f found = given found (λ instruction. effect code m heap f instruction f.operands)

abbrev needs_in : ℕ → ℕ → Code → Frame → Option state.Method → Bool
needs_in words frames code f found = option_map_or (λ (m : state.Method). option_map_or (needs_no_more words frames code f) (slice_get m.instructions f.next) true) found true

abbrev needs_at : ℕ → ℕ → Code → Frame → Option Instruction → Bool
needs_at words frames code f found = option_map_or (needs_no_more words frames code f) found true

pub past_methods : (code : Code) (ms : List Method) (heap : Heap) (f : Frame) → code.methods ≡ map method_of ms → length ms ≤ f.method → next_effect code heap f ≡ Broken
past_methods code ms heap f all le =
    ap (λ (l : List state.Method). in_method code heap f (slice_get l f.method)) all ∙ ap (in_method code heap f) (no_method ms f.method le)

module _ (code : Code) (ms : List Method) (f : Frame) (m : Method) (all : code.methods ≡ map method_of ms) (lt : f.method < length ms) (is : m ≡ get_or ms f.method m) where
  in_this : (heap : Heap) → next_effect code heap f ≡ in_instruction code (method_of m) heap f (slice_get m.instructions.items f.next)
  in_this heap = ap (λ (l : List state.Method). in_method code heap f (slice_get l f.method)) all ∙ ap (in_method code heap f) (method_at ms f.method m lt is)

  pub past_instructions : (heap : Heap) → length m.instructions.items ≤ f.next → next_effect code heap f ≡ Broken
  past_instructions heap le = in_this heap ∙ ap (in_instruction code (method_of m) heap f) (slice_get_past m.instructions.items f.next le)

  -- the effect of the instruction that is found
  pub next_is : (heap : Heap) (i : Instruction) → f.next < length m.instructions.items → i ≡ get_or m.instructions.items f.next i → next_effect code heap f ≡ effect code (method_of m) heap f i f.operands
  next_is heap i below at = in_this heap ∙ ap (in_instruction code (method_of m) heap f) (slice_get_read m.instructions.items (length m.instructions.items) f.next i refl below at)

  pub next_needs : (words frames : ℕ) (i : Instruction) → f.next < length m.instructions.items → i ≡ get_or m.instructions.items f.next i → next_needs_no_more words frames code f ≡ needs_no_more words frames code f i
  next_needs words frames i below at =
      ap (λ (l : List state.Method). needs_in words frames code f (slice_get l f.method)) all
      ∙ ap (needs_in words frames code f) (method_at ms f.method m lt is)
      ∙ ap (needs_at words frames code f) (slice_get_read m.instructions.items (length m.instructions.items) f.next i refl below at)
