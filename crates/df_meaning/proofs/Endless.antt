-- Endless loops and methods are too deep at every depth.
use Rattle.std.proofs.Common.{◌≡◌, zero, suc, Bool, true, Option, Some, refl, sym, ap, subst, ◌∙◌}
use Rattle.std.specs.Option.{option_map_or}
use Rattle.df_lang.specs.Program.{Method, Program, method_at}
use Rattle.df_meaning.specs.Value.{Value, Truth}
use Rattle.df_meaning.specs.Outcome.{Outcome, Gives, TooDeep, Dismissed, after}
use Rattle.df_meaning.specs.State.{State}
use Rattle.df_meaning.specs.Meaning.{Meaning, Flow, Loop}
use Rattle.df_meaning.specs.Whole.{behind_turn, turn_by, turns_with, run_method, whole}
use Rattle.df_meaning.specs.Endless.{GoesOn, LoopsNeverEnd, MethodsNeverEnd}
use Rattle.df_meaning.proofs.Wholes.{program_of_whole}

-- where the guard is true it is the turn that counts
guarded : (o : Outcome Value) (s : State) (turn : Outcome Flow) → o ≡ Gives (Truth true) → turn ≡ TooDeep → turns_with o s turn ≡ TooDeep
guarded o s turn e f = ap (λ x. turns_with x s turn) e ∙ f

goes_on_deep : (m : Meaning) (loop : Loop) (kind : State → Bool) (s : State) (g : GoesOn m loop kind s) → m.turns loop g.state ≡ TooDeep → turn_by m loop s ≡ TooDeep
goes_on_deep m loop kind s g e = ap (λ o. after o (behind_turn m loop)) g.turn ∙ ap (λ o. after o (λ u. m.turns loop u)) g.checked ∙ e

pub loops_never_end : LoopsNeverEnd
loops_never_end program loop kind endless zero s is = guarded _ s TooDeep (endless.guard _ s refl is) refl
loops_never_end program loop kind endless (suc depth) s is =
    let m : Meaning = whole program depth in
    let g : GoesOn m loop kind s = endless.turn m s (program_of_whole program depth) is in
    guarded _ s (turn_by m loop s) (endless.guard _ s refl is) (goes_on_deep m loop kind s g (loops_never_end program loop kind endless depth g.state g.again))

pub methods_never_end : MethodsNeverEnd
methods_never_end program number method kind endless zero pos arguments store is = endless.calls (whole program zero) refl (λ at vs given h. refl) pos arguments store is
methods_never_end program number method kind endless (suc depth) pos arguments store is =
    let m : Meaning = whole program depth in
    endless.calls (whole program (suc depth)) refl (λ at vs given h.
    subst (λ (o : Option Method). option_map_or (λ x. run_method m at x vs given) o Dismissed ≡ TooDeep) (sym (subst (λ (p : Program). method_at p number ≡ Some method) (sym (program_of_whole program depth)) endless.declared))
    (methods_never_end program number method kind endless depth at vs given h)) pos arguments store is
