-- The row of an instruction that prints.
use Rattle.std.proofs.Common.{◌≡◌, ℕ, ◌+◌, true, false, List, [], ◌∷◌, Option, Some, None, slice_get, refl, sym, ap, ◌∙◌, Err, IfSome}
use Rattle.std.proofs.lemmas.Bool.{false≢true}
use Rattle.std.specs.Prelude.{IfNone}
use Rattle.df_base.specs.Outside.{Appends}
use Rattle.df_nmach.specs.declared.code.Shape.{Shape}
use Rattle.df_nmach.specs.declared.value.Value.{Value}
use Rattle.df_nmach.specs.Value as pure
use Rattle.df_nmach.specs.Value.{text_of}
use Rattle.df_nmach.specs.State.{Heap, Frame}
use Rattle.df_nmach.specs.Step.{Effect, Goes, given, after}
use Rattle.df_nmach.specs.View.{value_of}
use Rattle.df_nvm.specs.declared.halt.Halt.{Halt}
use Rattle.df_nvm.specs.declared.halt.Halt.TheVariants as halts
use Rattle.df_nvm.specs.mirror.Quiet.{prints, is_quiet}
use Rattle.df_nvm.specs.mirror.Rows.{popped, print_row}
use Rattle.df_nvm.specs.mirror.Turns.{Went, Puts, Prints}

same_top : (operands rest left : List pure.Value) (v w : pure.Value) → operands ≡ v ∷ rest → operands ≡ w ∷ left → operands ≡ v ∷ left
same_top operands rest left v w top here = cc

not_empty : (operands rest : List pure.Value) (v : pure.Value) → operands ≡ v ∷ rest → operands ≡ [] → ⊥
not_empty operands rest v top none = cc

-- what is left once the value that was seen on top is popped
under : (operands rest left : List pure.Value) (v : pure.Value) (taken : Option Value) → operands ≡ v ∷ rest → IfSome taken (λ w. operands ≡ value_of w ∷ left) → IfNone taken (operands ≡ []) → operands ≡ v ∷ left
under operands rest left v (Some w) top some none = same_top operands rest left v (value_of w) top some
under operands rest left v None top some none = absurd (not_empty operands rest v top none)

-- the frame goes on with a text, where there is one
abbrev told : Heap → Frame → List pure.Value → Option (List ℕ) → Effect
told heap f rest found = given found (λ text. Goes heap (after f rest) text)

module _ (shapes : List Shape) (s : ℕ) (shape : Shape) (heap : Heap) (f : Frame) (v : pure.Value) (there : slice_get shapes s ≡ Some shape) where
  tells : (rest : List pure.Value) → f.operands ≡ v ∷ rest → print_row shapes heap f s ≡ told heap f rest (text_of shape v)
  tells rest top =
      ap (λ (l : List pure.Value). popped l (λ w below. given (slice_get shapes s) (λ found. told heap f below (text_of found w)))) top
      ∙ ap (λ (o : Option Shape). given o (λ found. told heap f rest (text_of found v))) there

  pub went : (rest left locals : List pure.Value) (taken : Option Value) (before now : Option (List ℕ)) → f.operands ≡ v ∷ rest → IfSome taken (λ w. f.operands ≡ value_of w ∷ left) → IfNone taken (f.operands ≡ []) → locals ≡ f.locals
      → (text : List ℕ) × (text_of shape v ≡ Some text) × Appends before now text
      → Went heap (record { method = f.method; next = f.next + 1; locals = locals; operands = left }) before now (print_row shapes heap f s)
  went rest left locals taken before now top some none same put = record {
    text = put.0;
    goes = tells left (under f.operands rest left v taken top some none) ∙ ap (told heap f left) put.1
        ∙ (λ i. Goes heap (record { method = f.method; next = f.next + 1; locals = sym same i; operands = left }) put.0);
    puts = put.2;
  }

  pub failed : (fault : Halt) (rest : List pure.Value) (before now : Option (List ℕ)) → f.operands ≡ v ∷ rest → Prints (Err fault) before now (text_of shape v) → Puts (Err fault) heap f f before now (print_row shapes heap f s)
  failed halts.Broken rest before now top none = tells rest top ∙ ap (told heap f rest) none
  failed halts.Write rest before now top cut = (record { next = after f rest; text = cut.0; goes = tells rest top ∙ ap (told heap f rest) cut.1; prints = cut.2; puts = cut.3 }, refl)
  failed halts.Memory rest before now top same = (refl, same)

  -- where the row prints nothing the value has no text, or an empty one
  pub silent : (rest : List pure.Value) → f.operands ≡ v ∷ rest → is_quiet (print_row shapes heap f s) ≡ true → prints (text_of shape v) ≡ false
  silent rest top quiet = by (text_of shape v) (ap is_quiet (sym (tells rest top)) ∙ quiet)
    where
      by : (found : Option (List ℕ)) → is_quiet (told heap f rest found) ≡ true → prints found ≡ false
      by None e = refl
      by (Some []) e = refl
      by (Some (b ∷ bs)) e = absurd (false≢true e)
