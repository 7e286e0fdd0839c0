-- What a text is read as, it is the text of.
use Rattle.std.proofs.Common.{◌≡◌, ℕ, ◌+◌, true, cond, List, [], ◌∷◌, ◌++◌, map, take, drop, length, Some, None, Option, refl, sym, ap, subst, ◌∙◌, append_assoc, inl, inr, codes, arith}
use Rattle.std.specs.Prelude.{nat_eq, ◌≢◌}
use Rattle.std.specs.Option.{option_map}
use Rattle.std.specs.List.{AllByRecursion, starts_with}
use Rattle.std.specs.Fmt.{decimal}
use Rattle.std.proofs.lemmas.Grind.{flat_map-append}
use Rattle.std.proofs.lemmas.List.{append-nil, take-append-drop, map-append}
use Rattle.std.proofs.lemmas.Bool.{eqb-true, and_parts}
use Rattle.std.proofs.lemmas.Option.{same_Some}
use Rattle.df_lemmas.proofs.Options.{map_some, test_some}
use Rattle.df_lemmas.proofs.Truths.{choice}
use Rattle.df_lemmas.proofs.Alls.{all_joined}
use Rattle.df_base.specs.Names.{same_text}
use Rattle.df_base.proofs.NamesLemmas.{same_text-equal}
use Rattle.df_form.specs.Log.{Step}
use Rattle.df_logtext.specs.LogText.{first_line, part_line, dot_line, last_line, part_lines, parts_lines, log_lines, ended, text_of_lines}
use Rattle.df_logtext.specs.StepText.{step_line}
use Rattle.df_logtext.specs.HasText.{HasLine, HaveText}
use Rattle.df_logtext.specs.BadLog.{IsText, AreWithin}
use Rattle.df_logtext.specs.Arguments.{read_step}
use Rattle.df_logtext.specs.Words.{found_or}
use Rattle.df_logtext.specs.Reading.{State, is_part_line, after_first, after_between, with_step, after_within, after_at, after_line, Read, Bad, outcome_at_end, read_from, read_text}
use Rattle.df_logtext.specs.declared.reader.Stage.{Stage}
use Rattle.df_logtext.specs.declared.reader.Stage.TheVariants as stages
use Rattle.std.specs.Prelude.{Result, Ok, Err, Vec, IfOk}
use Rattle.std.specs.declared.alloc.Global.{Global}
use Rattle.df_form.specs.declared.log.Step as declared
use Rattle.df_logtext.specs.declared.fault.LogFault.{LogFault}
use Rattle.df_logtext.specs.ReaderView.{Answers}
use Rattle.df_logtext.specs.View.{logs_of}
use Rattle.df_logtext.proofs.Parts.{parts-more}
use Rattle.df_logtext.proofs.LinesRead.{line_read}

-- the lines so far
abbrev pub lines_at : Stage → List (List ℕ) → List (List Step) → List Step → List (List ℕ)
lines_at stages.Before names logs steps = []
lines_at stages.Between names logs steps = first_line ∷ parts_lines names 1 logs
lines_at stages.Within names logs steps = first_line ∷ (parts_lines names 1 logs ++ part_line (length logs + 1) ∷ map (step_line names) steps)
lines_at stages.After names logs steps = log_lines names logs

-- at the beginning there is no log
abbrev pub IsFresh : Stage → List (List Step) → Type 0
IsFresh stages.Before logs = logs ≡ []
IsFresh stage logs = Unit {0}

-- the state is that of lines
pub record IsSoFar (names : List (List ℕ)) (s : State) (lines : List (List ℕ)) : Type 0 where
  pub list : lines ≡ lines_at s.stage names s.logs s.steps
  pub logs_have : HaveText names s.logs
  pub steps_have : AllByRecursion (HasLine names) s.steps
  pub fresh : IsFresh s.stage s.logs

-- a line more, on plain parts of states
abbrev so_far : List (List ℕ) → Stage → List (List Step) → List Step → List (List ℕ) → Type 0
so_far names stage logs steps lines = IsSoFar names (record { stage = stage; logs = logs; steps = steps }) lines

begins_part : (line : List ℕ) (n : ℕ) → is_part_line n line ≡ true → line ≡ part_line n
begins_part line n e =
    let parts = and_parts (starts_with nat_eq line (codes "o ")) (same_text (drop 2 line) (decimal n)) e in
    sym (take-append-drop 2 line) ∙ ap (λ x. x ++ drop 2 line) (sym (same_text-equal (codes "o ") (take 2 line) parts.0)) ∙ ap (λ x. codes "o " ++ x) (same_text-equal (drop 2 line) (decimal n) parts.1)

module _ (names : List (List ℕ)) (logs : List (List Step)) (steps : List Step) (lines : List (List ℕ)) (line : List ℕ) (next : State) where
  first_more : so_far names stages.Before logs steps lines → after_first (record { stage = stages.Before; logs = logs; steps = steps }) line ≡ Some next → IsSoFar names next (lines ++ line ∷ [])
  first_more s e =
      let t = test_some (same_text line first_line) (Some (record { stage = stages.Between; logs = logs; steps = steps })) next e in
      let is = same_text-equal line first_line t.0 in
      let P : State → Type 0 = λ n. IsSoFar names n (lines ++ line ∷ []) in
      subst P (same_Some _ next t.1) (record {
        list = ap (λ ls. ls ++ line ∷ []) s.list ∙ ap (λ l. l ∷ []) is ∙ ap (λ ls. first_line ∷ parts_lines names 1 ls) (sym s.fresh);
        logs_have = s.logs_have;
        steps_have = s.steps_have;
        fresh = tt;
      })

  between_more : so_far names stages.Between logs steps lines → after_between (record { stage = stages.Between; logs = logs; steps = steps }) line ≡ Some next → IsSoFar names next (lines ++ line ∷ [])
  between_more s e =
      let P : State → Type 0 = λ n. IsSoFar names n (lines ++ line ∷ []) in
      elim (choice (same_text line last_line) (Some (record { stage = stages.After; logs = logs; steps = steps })) (cond (is_part_line (length logs + 1) line) (Some (record { stage = stages.Within; logs = logs; steps = [] })) None) (Some next) e) [
        | inl p ↦ subst P (same_Some _ next p.1) (record {
          list = ap (λ ls. ls ++ line ∷ []) s.list ∙ ap (λ l. first_line ∷ (parts_lines names 1 logs ++ l ∷ [])) (same_text-equal line last_line p.0);
          logs_have = s.logs_have;
          steps_have = s.steps_have;
          fresh = tt;
        })
        | inr p ↦
            let t = test_some (is_part_line (length logs + 1) line) (Some (record { stage = stages.Within; logs = logs; steps = [] })) next p.1 in
            subst P (same_Some _ next t.1) (record {
              list = ap (λ ls. ls ++ line ∷ []) s.list ∙ ap (λ l. first_line ∷ (parts_lines names 1 logs ++ l ∷ [])) (begins_part line (length logs + 1) t.0);
              logs_have = s.logs_have;
              steps_have = tt;
              fresh = tt;
            })
      ]

  pub dot_list : line ≡ dot_line → (first_line ∷ (parts_lines names 1 logs ++ part_line (length logs + 1) ∷ map (step_line names) steps)) ++ line ∷ [] ≡ first_line ∷ parts_lines names 1 (logs ++ steps ∷ [])
  dot_list is =
      let n : 1 + length logs ≡ length logs + 1 = omega arith in
      ap (λ l. (first_line ∷ (parts_lines names 1 logs ++ part_line (length logs + 1) ∷ map (step_line names) steps)) ++ l ∷ []) is
      ∙ ap (λ ls. first_line ∷ ls) (append_assoc (parts_lines names 1 logs) (part_line (length logs + 1) ∷ map (step_line names) steps) (dot_line ∷ []))
      ∙ ap (λ m. first_line ∷ (parts_lines names 1 logs ++ part_lines names m steps)) (sym n) ∙ ap (λ ls. first_line ∷ ls) (sym (parts-more names 1 logs steps))

  step_list : (step : Step) → line ≡ step_line names step → (first_line ∷ (parts_lines names 1 logs ++ part_line (length logs + 1) ∷ map (step_line names) steps)) ++ line ∷ [] ≡ first_line ∷ (parts_lines names 1 logs ++ part_line (length logs + 1) ∷ map (step_line names) (steps ++ step ∷ []))
  step_list step is =
      ap (λ l. (first_line ∷ (parts_lines names 1 logs ++ part_line (length logs + 1) ∷ map (step_line names) steps)) ++ l ∷ []) is
      ∙ ap (λ ls. first_line ∷ ls) (append_assoc (parts_lines names 1 logs) (part_line (length logs + 1) ∷ map (step_line names) steps) (step_line names step ∷ []))
      ∙ ap (λ ls. first_line ∷ (parts_lines names 1 logs ++ part_line (length logs + 1) ∷ ls)) (sym (map-append (step_line names) steps (step ∷ [])))

  within_more : AreWithin line → so_far names stages.Within logs steps lines → after_within names (record { stage = stages.Within; logs = logs; steps = steps }) line ≡ Some next → IsSoFar names next (lines ++ line ∷ [])
  within_more within s e =
      let P : State → Type 0 = λ n. IsSoFar names n (lines ++ line ∷ []) in
      let before : State = record { stage = stages.Within; logs = logs; steps = steps } in
      elim (choice (same_text line dot_line) (Some (record { stage = stages.Between; logs = logs ++ steps ∷ []; steps = [] })) (option_map (with_step before) (read_step names line)) (Some next) e) [
        | inl p ↦ subst P (same_Some _ next p.1) (record {
          list = ap (λ ls. ls ++ line ∷ []) s.list ∙ dot_list (same_text-equal line dot_line p.0);
          logs_have = all_joined _ logs (steps ∷ []) s.logs_have (s.steps_have, tt);
          steps_have = tt;
          fresh = tt;
        })
        | inr p ↦
            let t = map_some (with_step before) (read_step names line) next p.1 in
            let r = line_read names line t.0 within t.1 in
            subst P t.2 (record {
              list = ap (λ ls. ls ++ line ∷ []) s.list ∙ step_list t.0 r.0;
              logs_have = s.logs_have;
              steps_have = all_joined (HasLine names) steps (t.0 ∷ []) s.steps_have (r.1, tt);
              fresh = tt;
            })
      ]

at_more : (names : List (List ℕ)) (stage : Stage) (logs : List (List Step)) (steps : List Step) (lines : List (List ℕ)) (line : List ℕ) (next : State) → AreWithin line → so_far names stage logs steps lines
    → after_at stage names (record { stage = stage; logs = logs; steps = steps }) line ≡ Some next → IsSoFar names next (lines ++ line ∷ [])
at_more names stages.Before logs steps lines line next within s e = first_more names logs steps lines line next s e
at_more names stages.Between logs steps lines line next within s e = between_more names logs steps lines line next s e
at_more names stages.Within logs steps lines line next within s e = within_more names logs steps lines line next within s e
at_more names stages.After logs steps lines line next within s e = absurd cc

-- a line more
pub line_more : (names : List (List ℕ)) (s : State) (lines : List (List ℕ)) (line : List ℕ) (next : State) → AreWithin line → IsSoFar names s lines → after_line names s line ≡ Some next → IsSoFar names next (lines ++ line ∷ [])
line_more names s lines line next within so e = at_more names s.stage s.logs s.steps lines line next within so e

-- the end
end_read : (names : List (List ℕ)) (stage : Stage) (logs : List (List Step)) (steps : List Step) (number : ℕ) (lines : List (List ℕ)) (line : List ℕ) (found : List (List Step)) → so_far names stage logs steps lines
    → outcome_at_end stage logs number line ≡ Read found → IsText names found (text_of_lines lines ++ line)
end_read names stages.After logs steps number lines [] found s e =
    let is : logs ≡ found = cc in
    let P : List (List Step) → Type 0 = λ ls. IsText names ls (text_of_lines lines ++ []) in
    subst P is (record { have = s.logs_have; text = append-nil (text_of_lines lines) ∙ ap text_of_lines s.list })
end_read names stages.After logs steps number lines (b ∷ bs) found s e = absurd cc
end_read names stages.Before logs steps number lines line found s e = absurd cc
end_read names stages.Between logs steps number lines line found s e = absurd cc
end_read names stages.Within logs steps number lines line found s e = absurd cc

-- a line that ends is one more
pub line_joins : (lines : List (List ℕ)) (line bytes : List ℕ) → text_of_lines (lines ++ line ∷ []) ++ bytes ≡ text_of_lines lines ++ (line ++ 10 ∷ bytes)
line_joins lines line bytes =
    ap (λ t. t ++ bytes) (flat_map-append ended lines (line ∷ []) ∙ ap (λ t. text_of_lines lines ++ t) (append-nil (ended line)))
    ∙ append_assoc (text_of_lines lines) (ended line) bytes ∙ ap (λ t. text_of_lines lines ++ t) (append_assoc line (10 ∷ []) bytes)

abbrev Goes : List (List ℕ) → List ℕ → List (List Step) → Type 0
Goes names bytes found = (s : State) (number : ℕ) (lines : List (List ℕ)) (line : List ℕ) → AreWithin line → IsSoFar names s lines → read_from names s number line bytes ≡ Read found → IsText names found (text_of_lines lines ++ (line ++ bytes))

after_end : (names : List (List ℕ)) (s : State) (number : ℕ) (lines : List (List ℕ)) (line : List ℕ) (b : ℕ) (bytes : List ℕ) (found : List (List Step)) → Goes names bytes found → AreWithin line → IsSoFar names s lines → b ≡ 10
    → (answer : Option State) → after_line names s line ≡ answer → found_or answer (λ next. read_from names next (number + 1) [] bytes) (Bad number) ≡ Read found → IsText names found (text_of_lines lines ++ (line ++ b ∷ bytes))
after_end names s number lines line b bytes found goes within so is None a e = absurd cc
after_end names s number lines line b bytes found goes within so is (Some next) a e =
    let r = goes next (number + 1) (lines ++ line ∷ []) [] tt (line_more names s lines line next within so a) e in
    let P : List ℕ → Type 0 = λ t. IsText names found t in
    subst P (line_joins lines line bytes ∙ ap (λ x. text_of_lines lines ++ (line ++ x ∷ bytes)) (sym is)) r

by_byte : (names : List (List ℕ)) (s : State) (number : ℕ) (lines : List (List ℕ)) (line : List ℕ) (b : ℕ) (bytes : List ℕ) (found : List (List Step)) → Goes names bytes found → AreWithin line → IsSoFar names s lines → read_from names s number line (b ∷ bytes) ≡ Read found → IsText names found (text_of_lines lines ++ (line ++ b ∷ bytes))
by_byte names s number lines line b bytes found goes within so e =
    elim (choice (nat_eq b 10) (found_or (after_line names s line) (λ next. read_from names next (number + 1) [] bytes) (Bad number)) (read_from names s number (line ++ b ∷ []) bytes) (Read found) e) [
      | inl p ↦ after_end names s number lines line b bytes found goes within so (eqb-true b 10 p.0) (after_line names s line) refl p.1
      | inr p ↦
          let apart : b ≢ 10 = grind (arith, p.0) in
          let r = goes s number lines (line ++ b ∷ []) (all_joined _ line (b ∷ []) within (apart, tt)) so p.1 in
          let P : List ℕ → Type 0 = λ t. IsText names found (text_of_lines lines ++ t) in
          subst P (append_assoc line (b ∷ []) bytes) r
    ]

bytes_read : (names : List (List ℕ)) (bytes : List ℕ) (found : List (List Step)) → Goes names bytes found
bytes_read names [] found s number lines line within so e =
    let P : List ℕ → Type 0 = λ t. IsText names found (text_of_lines lines ++ t) in
    subst P (sym (append-nil line)) (end_read names s.stage s.logs s.steps number lines line found so e)
bytes_read names (b ∷ bs) found s number lines line within so e = by_byte names s number lines line b bs found (bytes_read names bs found) within so e

-- what the whole is read as
pub text_read : (names : List (List ℕ)) (bytes : List ℕ) (found : List (List Step)) → read_text names bytes ≡ Read found → IsText names found bytes
text_read names bytes found e = bytes_read names bytes found (record { stage = stages.Before; logs = []; steps = [] }) 1 [] [] tt (record { list = refl; logs_have = tt; steps_have = tt; fresh = refl }) e

-- and the code's answer
pub logs_read : (names : List (List ℕ)) (bytes : List ℕ) (result : Result (Vec (Vec declared.Step Global) Global) LogFault) → Answers (read_text names bytes) result → IfOk result (λ logs. IsText names (logs_of logs.items) bytes)
logs_read names bytes (Ok logs) a = text_read names bytes (logs_of logs.items) a
logs_read names bytes (Err e) a = tt
