-- A loop that stands still, one whose guard is always true, and a method that calls itself: too deep at every depth.
use Rattle.std.proofs.Common.{◌≡◌, ℕ, Bool, true, List, [], ◌∷◌, Some, refl, sym, ◌∙◌}
use Rattle.df_base.specs.declared.pos.Pos.{Pos}
use Rattle.df_lang.specs.Stmt.{done}
use Rattle.df_lang.specs.declared.ty.Ty.TheVariants as types
use Rattle.df_lang.proofs.Samples.{at, alone, truth_expr, measured, calling}
use Rattle.df_meaning.specs.Value as values
use Rattle.df_meaning.specs.Outcome.{Gives, TooDeep}
use Rattle.df_meaning.specs.State.{Store, State, begin}
use Rattle.df_meaning.specs.Meaning.{Loop}
use Rattle.df_meaning.specs.Whole.{run_method, whole}
use Rattle.df_meaning.specs.Correct.{Completes}
use Rattle.df_meaning.specs.Endless.{IsEndlessLoop, IsEndlessMethod}
use Rattle.df_meaning.proofs.Endless.{loops_never_end, methods_never_end}

-- ---- while true

abbrev forever : Loop
forever = record { pos = at 14; guard = truth_expr true; invariants = []; decreases = Some (record { ty = types.Bool; value = truth_expr true } ∷ []); body = done }

abbrev always : State → Bool
always s = true

forever_is_endless : IsEndlessLoop (alone measured) forever always
forever_is_endless = record { guard = λ m s e is. refl; turn = λ m s e is. record { state = s; turn = refl; checked = refl; again = refl } }

loops_forever : (depth : ℕ) (arguments : List values.Value) (store : Store) → run_method (whole (alone measured) depth) (at 1) measured arguments store ≡ TooDeep
loops_forever depth arguments store = rw (loops_never_end (alone measured) forever always forever_is_endless depth (begin arguments store) refl) refl

-- ---- a method that calls itself

abbrev any_arguments : List values.Value → Bool
any_arguments arguments = true

calling_is_endless : IsEndlessMethod (alone calling) 1 calling any_arguments
calling_is_endless = record {
  declared = refl;
  calls = λ m e deep from arguments store is. rw (deep (at 11) [] store refl) refl;
}

calls_forever : (depth : ℕ) (at_call : Pos) (arguments : List values.Value) (store : Store) → run_method (whole (alone calling) depth) at_call calling arguments store ≡ TooDeep
calls_forever depth at_call arguments store = methods_never_end (alone calling) 1 calling any_arguments calling_is_endless depth at_call arguments store refl

-- so it does not complete
never_completes : (arguments : List values.Value) (store : Store) → Completes (alone calling) calling arguments store → ⊥
never_completes arguments store c = let clash : TooDeep ≡ Gives c.returned = sym (calls_forever c.depth calling.declared.pos arguments store) ∙ c.ends in cc
