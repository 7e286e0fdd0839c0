-- The schemas of characters are sound.
use Rattle.std.proofs.Common.{◌≡◌, ℕ, pos, true, List, [], ◌∷◌, sym, ap, ◌∙◌}
use Rattle.df_lemmas.proofs.Numbers.{equal_self}
use Rattle.df_form.specs.World.{World}
use Rattle.df_meaning.specs.Value.{Value, Truth, Character, Number, number_of, truth_of, same_value}
use Rattle.df_form.specs.Truth.{Assignment, value_at, number_at, code_in}
use Rattle.df_axiom.specs.declared.table.TheConstants.{CODE_AT_LEAST, CODE_AT_MOST, CHARACTER_OF_CODE, CODE_OF_CHARACTER}
use Rattle.df_axiom.specs.Template.{entry}
use Rattle.df_form.proofs.Tested.{of_character, of_number}
use Rattle.df_axiom.proofs.Facts.{IsSound}
use Rattle.df_axiom.proofs.Products.{code_from_zero, code_at_most, code_again, code_of_number}
use Rattle.df_axiom.proofs.Numbers.{yes_one, no_no_yes, equal_truth, at_most_truth, same_numbers}
use Rattle.df_axiom.proofs.Types.{one_number, one_character}

module _ (depth : ℕ) (world : World) (assignment : Assignment) where
  -- code(c) is place 0, and c is 1
  code_number : (v : Value) (vs : List Value) (c : ℕ) → v ≡ Number (number_at vs 0) → vs ≡ Character c ∷ [] → v ≡ Number (pos c)
  code_number v vs c e is = e ∙ ap (λ (us : List Value). Number (number_at us 0)) is

  characters_same : (v l r : Value) (c : ℕ) → v ≡ Truth (same_value l r) → l ≡ Character c → r ≡ Character c → truth_of v ≡ true
  characters_same v l r c e p q = ap truth_of e ∙ (λ i. same_value (p i) (q i)) ∙ equal_self c

  pub at_least_sound : IsSound depth world assignment (entry CODE_AT_LEAST).template
  at_least_sound w ps ss pieces same needed =
      let x = one_character (ss 0) (ps 0) (of_character (ss 0) pieces.1.1) pieces.1.2 in
      let here = code_number (w 0) (ps 0) x.c pieces.1.0 x.is in
      let w3 = at_most_truth (w 3) (w 2) (w 0) (pos 0) (pos x.c) needed.1.0 needed.0 here in
      yes_one (truth_of (w 3)) (w3 ∙ code_from_zero x.c)

  pub at_most_sound : IsSound depth world assignment (entry CODE_AT_MOST).template
  at_most_sound w ps ss pieces same needed =
      let x = one_character (ss 0) (ps 0) (of_character (ss 0) pieces.1.1) pieces.1.2 in
      let here = code_number (w 0) (ps 0) x.c pieces.1.0 x.is in
      let w3 = at_most_truth (w 3) (w 0) (w 2) (pos x.c) (pos 127) needed.1.0 here needed.0 in
      yes_one (truth_of (w 3)) (w3 ∙ code_at_most x.c x.small)

  pub again_sound : IsSound depth world assignment (entry CHARACTER_OF_CODE).template
  again_sound w ps ss pieces same needed =
      let x = one_character (ss 0) (ps 0) (of_character (ss 0) pieces.1.1) pieces.1.2 in
      let here = code_number (w 0) (ps 0) x.c pieces.1.0 x.is in
      let part : w 1 ≡ Character x.c = pieces.2.0 ∙ ap (λ (us : List Value). value_at us 0) x.is in
      let w2 : w 2 ≡ Character x.c = needed.0 ∙ ap (λ (v : Value). Character (code_in (number_of v))) here ∙ ap (λ (c : ℕ). Character c) (code_again x.c x.small) in
      yes_one (truth_of (w 3)) (characters_same (w 3) (w 2) (w 1) x.c needed.1.0 w2 part)

  -- chr(x) is place 0, and x is 1
  pub character_sound : IsSound depth world assignment (entry CODE_OF_CHARACTER).template
  character_sound w ps ss pieces same needed =
      let x = one_number (ss 0) (ps 0) (of_number (ss 0) pieces.1.1) pieces.1.2 in
      let part = pieces.2.0 ∙ ap (λ (us : List Value). value_at us 0) x.is in
      let here : w 0 ≡ Character (code_in x.n) = pieces.1.0 ∙ ap (λ (us : List Value). Character (code_in (number_at us 0))) x.is in
      let w3 = at_most_truth (w 3) (w 2) (w 1) (pos 0) x.n needed.1.0 needed.0 part in
      let w5 = at_most_truth (w 5) (w 1) (w 4) x.n (pos 127) needed.1.1.1.0 part needed.1.1.0 in
      let w6 : w 6 ≡ Number (pos (code_in x.n)) = needed.1.1.1.1.0 ∙ ap (λ (v : Value). Number (number_of v)) here in
      let w7 = equal_truth (w 7) (w 6) (w 1) (pos (code_in x.n)) x.n needed.1.1.1.1.1.0 w6 part in
      no_no_yes (truth_of (w 3)) (truth_of (w 5)) (truth_of (w 7)) (λ low high. w7 ∙ same_numbers (pos (code_in x.n)) x.n (code_of_number x.n (sym w3 ∙ low) (sym w5 ∙ high)))
