-- Texts that are written are read, and a line that is not taken begins no text.
use Rattle.std.proofs.Common.{◌≡◌, ℕ, zero, suc, ◌+◌, ◌/◌, ◌%◌, Bool, true, false, not, cond, List, [], ◌∷◌, ◌++◌, map, length, Some, None, Option, refl, sym, ap, subst, ◌∙◌, append_assoc, length-append, inl, inr, codes, arith}
use Rattle.std.specs.Prelude.{nat_eq, nat_lt, ◌≢◌, ◌==◌, Result, Ok, Err, Vec}
use Rattle.std.specs.declared.alloc.Global.{Global}
use Rattle.std.specs.Option.{option_and_then, option_map}
use Rattle.std.specs.List.{AllByRecursion, list_all}
use Rattle.std.specs.Fmt.{decimal, digits, digits_onto}
use Rattle.std.proofs.lemmas.Grind.{flat_map-append}
use Rattle.std.proofs.lemmas.List.{append-nil}
use Rattle.std.proofs.lemmas.Bool.{eqb-true, and_parts, lt-ltb}
use Rattle.std.proofs.lemmas.Option.{same_Some}
use Rattle.df_lemmas.proofs.Options.{then_some}
use Rattle.df_lemmas.proofs.Truths.{choice}
use Rattle.df_lemmas.proofs.Alls.{all_joined}
use Rattle.df_base.specs.Names.{same_text}
use Rattle.df_base.proofs.NamesLemmas.{same_text-refl}
use Rattle.df_form.specs.declared.log.Step as declared
use Rattle.df_form.specs.Log.{Step, Hypothesis, Goal, Connective, Schema, Propagation, Congruence, Linear, Split, Make}
use Rattle.df_logtext.specs.LogText.{first_line, part_line, dot_line, last_line, part_lines, parts_lines, log_lines, ended, text_of_lines, log_text}
use Rattle.df_logtext.specs.StepText.{step_line}
use Rattle.df_logtext.specs.HasText.{HasLine, HaveText}
use Rattle.df_logtext.specs.BadLog.{IsText, Begins, AreWithin, line, end, IsBad, Reads}
use Rattle.df_logtext.specs.Arguments.{read_step}
use Rattle.df_logtext.specs.Words.{found_or}
use Rattle.df_logtext.specs.Reading.{State, begin, with_step, after_line, Read, Bad, outcome_at_end, read_from, read_text}
use Rattle.df_logtext.specs.ReaderView.{Answers}
use Rattle.df_logtext.specs.View.{logs_of}
use Rattle.df_logtext.specs.declared.fault.LogFault.{LogFault}
use Rattle.df_logtext.specs.declared.fault.LogFault.TheVariants.{BadLog, Memory}
use Rattle.df_logtext.specs.declared.reader.Stage.{Stage}
use Rattle.df_logtext.specs.declared.reader.Stage.TheVariants as stages
use Rattle.df_logtext.proofs.StepsWritten.{line_written, line_within}
use Rattle.df_logtext.proofs.TextRead.{IsSoFar, line_more, line_joins, dot_list, text_read}

-- ---- the states after lines

abbrev pub after_lines : List (List ℕ) → State → List (List ℕ) → Option State
after_lines names s [] = Some s
after_lines names s (l ∷ ls) = option_and_then (λ next. after_lines names next ls) (after_line names s l)

at_line : (names : List (List ℕ)) (ls b : List (List ℕ)) (answer : Option State) → ((next : State) → after_lines names next (ls ++ b) ≡ option_and_then (λ n. after_lines names n b) (after_lines names next ls))
    → option_and_then (λ next. after_lines names next (ls ++ b)) answer ≡ option_and_then (λ n. after_lines names n b) (option_and_then (λ next. after_lines names next ls) answer)
at_line names ls b None go = refl
at_line names ls b (Some next) go = go next

lines_joined : (names : List (List ℕ)) (s : State) (a b : List (List ℕ)) → after_lines names s (a ++ b) ≡ option_and_then (λ next. after_lines names next b) (after_lines names s a)
lines_joined names s [] b = refl
lines_joined names s (l ∷ ls) b = at_line names ls b (after_line names s l) (λ next. lines_joined names next ls b)

byte_walk : (names : List (List ℕ)) (s : State) (number : ℕ) (before xs rest : List ℕ) → AreWithin xs → read_from names s number before (xs ++ rest) ≡ read_from names s number (before ++ xs) rest
byte_walk names s number before [] rest within = ap (λ x. read_from names s number x rest) (sym (append-nil before))
byte_walk names s number before (b ∷ bs) rest within =
    let apart : b ≢ 10 = within.0 in
    let e : nat_eq b 10 ≡ false = grind (arith, apart) in
    ap (λ t. cond t (found_or (after_line names s before) (λ next. read_from names next (number + 1) [] (bs ++ rest)) (Bad number)) (read_from names s number (before ++ b ∷ []) (bs ++ rest))) e
    ∙ byte_walk names s number (before ++ b ∷ []) bs rest within.1 ∙ ap (λ x. read_from names s number x rest) (append_assoc before (b ∷ []) bs)

-- a line that ends
end_walk : (names : List (List ℕ)) (s : State) (number : ℕ) (l rest : List ℕ) → AreWithin l → read_from names s number [] (l ++ 10 ∷ rest) ≡ found_or (after_line names s l) (λ next. read_from names next (number + 1) [] rest) (Bad number)
end_walk names s number l rest within = byte_walk names s number [] l (10 ∷ rest) within

first_shape : (l : List ℕ) (ls : List (List ℕ)) (rest : List ℕ) → text_of_lines (l ∷ ls) ++ rest ≡ l ++ 10 ∷ (text_of_lines ls ++ rest)
first_shape l ls rest = append_assoc (ended l) (text_of_lines ls) rest ∙ append_assoc l (10 ∷ []) (text_of_lines ls ++ rest)

lines_walk : (names : List (List ℕ)) (lines : List (List ℕ)) (s t : State) (number : ℕ) (rest : List ℕ) → AllByRecursion AreWithin lines → after_lines names s lines ≡ Some t → read_from names s number [] (text_of_lines lines ++ rest) ≡ read_from names t (number + length lines) [] rest
lines_walk names [] s t number rest within e =
    let n : number ≡ number + 0 = omega arith in
    ap (λ x. read_from names x number [] rest) (same_Some s t e) ∙ ap (λ m. read_from names t m [] rest) n
lines_walk names (l ∷ ls) s t number rest within e =
    let u = then_some (λ next. after_lines names next ls) (after_line names s l) t e in
    let n : (number + 1) + length ls ≡ number + suc (length ls) = omega arith in
    ap (read_from names s number []) (first_shape l ls rest) ∙ end_walk names s number l (text_of_lines ls ++ rest) within.0
    ∙ ap (λ o. found_or o (λ next. read_from names next (number + 1) [] (text_of_lines ls ++ rest)) (Bad number)) u.1
    ∙ lines_walk names ls u.0 t (number + 1) rest within.1 u.2 ∙ ap (λ m. read_from names t m [] rest) n

-- ---- the lines of logs are taken

abbrev between : List (List Step) → State
between logs = record { stage = stages.Between; logs = logs; steps = [] }

abbrev within : List (List Step) → List Step → State
within logs steps = record { stage = stages.Within; logs = logs; steps = steps }

abbrev past : List (List Step) → State
past logs = record { stage = stages.After; logs = logs; steps = [] }

no_dot : (names : List (List ℕ)) (step : Step) → same_text (step_line names step) dot_line ≡ false
no_dot names (Hypothesis n) = refl
no_dot names Goal = refl
no_dot names (Connective n k) = refl
no_dot names (Schema s k ts) = refl
no_dot names (Propagation cs ls) = refl
no_dot names (Congruence ls ps) = refl
no_dot names (Linear ls cs) = refl
no_dot names (Split n z) = refl
no_dot names (Make node) = refl

step_taken : (names : List (List ℕ)) (logs : List (List Step)) (steps : List Step) (step : Step) → HasLine names step → after_line names (within logs steps) (step_line names step) ≡ Some (within logs (steps ++ step ∷ []))
step_taken names logs steps step has =
    ap (λ t. cond t (Some (between (logs ++ steps ∷ []))) (option_map (with_step (within logs steps)) (read_step names (step_line names step)))) (no_dot names step) ∙ ap (option_map (with_step (within logs steps))) (line_written names step has)

steps_taken : (names : List (List ℕ)) (logs : List (List Step)) (steps more : List Step) (rest : List (List ℕ)) → AllByRecursion (HasLine names) more → after_lines names (within logs steps) (map (step_line names) more ++ rest) ≡ after_lines names (within logs (steps ++ more)) rest
steps_taken names logs steps [] rest has = ap (λ x. after_lines names (within logs x) rest) (sym (append-nil steps))
steps_taken names logs steps (step ∷ more) rest has =
    ap (option_and_then (λ next. after_lines names next (map (step_line names) more ++ rest))) (step_taken names logs steps step has.0)
    ∙ steps_taken names logs (steps ++ step ∷ []) more rest has.1 ∙ ap (λ x. after_lines names (within logs x) rest) (append_assoc steps (step ∷ []) more)

part_taken : (names : List (List ℕ)) (logs : List (List Step)) → after_line names (between logs) (part_line (length logs + 1)) ≡ Some (within logs [])
part_taken names logs = ap (λ t. cond t (Some (within logs [])) None) (same_text-refl (decimal (length logs + 1)))

-- the lines of a log and those behind it
part_shape : (names : List (List ℕ)) (number : ℕ) (log : List Step) (rest : List (List ℕ)) → part_lines names number log ++ rest ≡ part_line number ∷ (map (step_line names) log ++ dot_line ∷ rest)
part_shape names number log rest = ap (λ ls. part_line number ∷ ls) (append_assoc (map (step_line names) log) (dot_line ∷ []) rest)

parts_taken : (names : List (List ℕ)) (logs more : List (List Step)) → HaveText names more → after_lines names (between logs) (parts_lines names (length logs + 1) more ++ last_line ∷ []) ≡ Some (past (logs ++ more))
parts_taken names logs [] has = ap (λ x. Some (past x)) (sym (append-nil logs))
parts_taken names logs (log ∷ more) has =
    let rest : List (List ℕ) = parts_lines names (suc (length logs + 1)) more ++ last_line ∷ [] in
    let n : suc (length logs + 1) ≡ length (logs ++ log ∷ []) + 1 = omega (arith, length-append logs (log ∷ [])) in
    ap (after_lines names (between logs)) (append_assoc (part_lines names (length logs + 1) log) (parts_lines names (suc (length logs + 1)) more) (last_line ∷ []) ∙ part_shape names (length logs + 1) log rest)
    ∙ ap (option_and_then (λ next. after_lines names next (map (step_line names) log ++ dot_line ∷ rest))) (part_taken names logs)
    ∙ steps_taken names logs [] log (dot_line ∷ rest) has.0
    ∙ ap (λ m. after_lines names (between (logs ++ log ∷ [])) (parts_lines names m more ++ last_line ∷ [])) n
    ∙ parts_taken names (logs ++ log ∷ []) more has.1 ∙ ap (λ x. Some (past x)) (append_assoc logs (log ∷ []) more)

logs_taken : (names : List (List ℕ)) (logs : List (List Step)) → HaveText names logs → after_lines names begin (log_lines names logs) ≡ Some (past logs)
logs_taken names logs has = parts_taken names [] logs has

-- ---- no line feed in a line

onto_digits : (k n : ℕ) (acc : List ℕ) → AreWithin acc → AreWithin (digits_onto k 10 false n acc)
onto_digits zero n acc all = all
onto_digits (suc k) n acc all =
    let small : nat_lt (n % 10) 10 ≡ true = lt-ltb (n % 10) 10 (omega arith) in
    let glyph : ℕ → Type 0 = λ g. g ≢ 10 in
    let G : Bool → Type 0 = λ t. cond t (48 + n % 10) (87 + n % 10) ≢ 10 in
    let one : cond (nat_lt (n % 10) 10) (48 + n % 10) (87 + n % 10) ≢ 10 = subst G (sym small) (λ e. omega arith) in
    elim (nat_eq (n / 10) 0) as (λ t. AreWithin (cond t (cond (nat_lt (n % 10) 10) (48 + n % 10) (87 + n % 10) ∷ acc) (digits_onto k 10 false (n / 10) (cond (nat_lt (n % 10) 10) (48 + n % 10) (87 + n % 10) ∷ acc)))) [
      | true ↦ (one, all)
      | false ↦ onto_digits k (n / 10) (cond (nat_lt (n % 10) 10) (48 + n % 10) (87 + n % 10) ∷ acc) (one, all)
    ]

decimal_within : (n : ℕ) → AreWithin (decimal n)
unfolding digits
decimal_within n = onto_digits 64 n [] tt

tested : (l : List ℕ) → list_all (λ b. not (b == 10)) l ≡ true → AreWithin l
tested [] e = tt
tested (b ∷ bs) e = let t = and_parts (not (b == 10)) (list_all (λ c. not (c == 10)) bs) e in (grind (arith, t.0), tested bs t.1)

steps_within : (names : List (List ℕ)) (steps : List Step) → AllByRecursion (HasLine names) steps → AllByRecursion AreWithin (map (step_line names) steps)
steps_within names [] has = tt
steps_within names (s ∷ ss) has = (line_within names s has.0, steps_within names ss has.1)

parts_within : (names : List (List ℕ)) (number : ℕ) (logs : List (List Step)) → HaveText names logs → AllByRecursion AreWithin (parts_lines names number logs)
parts_within names number [] has = tt
parts_within names number (log ∷ logs) has =
    all_joined AreWithin (part_lines names number log) (parts_lines names (suc number) logs)
    (all_joined (λ b. b ≢ 10) (codes "o ") (decimal number) (tested (codes "o ") refl) (decimal_within number), all_joined AreWithin (map (step_line names) log) (dot_line ∷ []) (steps_within names log has.0) (tested dot_line refl, tt))
    (parts_within names (suc number) logs has.1)

logs_within : (names : List (List ℕ)) (logs : List (List Step)) → HaveText names logs → AllByRecursion AreWithin (log_lines names logs)
logs_within names logs has = (tested first_line refl, all_joined AreWithin (parts_lines names 1 logs) (last_line ∷ []) (parts_within names 1 logs has) (tested last_line refl, tt))

-- a text is read as its logs
pub text_written : (names : List (List ℕ)) (logs : List (List Step)) (bytes : List ℕ) → IsText names logs bytes → read_text names bytes ≡ Read logs
text_written names logs bytes t =
    ap (read_text names) (t.text ∙ sym (append-nil (log_text names logs))) ∙ lines_walk names (log_lines names logs) begin (past logs) 1 [] (logs_within names logs t.have) (logs_taken names logs t.have)

-- ---- what lines so far begin

begun_by : (names : List (List ℕ)) (lines more : List (List ℕ)) (logs : List (List Step)) → HaveText names logs → lines ++ more ≡ log_lines names logs → Begins names (text_of_lines lines)
begun_by names lines more logs has e = record { logs = logs; others = text_of_lines more; whole = record { have = has; text = sym (flat_map-append ended lines more) ∙ ap text_of_lines e } }

begun_at : (names : List (List ℕ)) (stage : Stage) (logs : List (List Step)) (steps : List Step) (lines : List (List ℕ)) → IsSoFar names (record { stage = stage; logs = logs; steps = steps }) lines → Begins names (text_of_lines lines)
begun_at names stages.Before logs steps lines s = begun_by names lines (log_lines names []) [] tt (ap (λ ls. ls ++ log_lines names []) s.list)
begun_at names stages.Between logs steps lines s = begun_by names lines (last_line ∷ []) logs s.logs_have (ap (λ ls. ls ++ last_line ∷ []) s.list)
begun_at names stages.Within logs steps lines s =
    begun_by names lines (dot_line ∷ last_line ∷ []) (logs ++ steps ∷ []) (all_joined _ logs (steps ∷ []) s.logs_have (s.steps_have, tt))
    (sym (append_assoc lines (dot_line ∷ []) (last_line ∷ [])) ∙ ap (λ ls. (ls ++ dot_line ∷ []) ++ last_line ∷ []) s.list ∙ ap (λ ls. ls ++ last_line ∷ []) (dot_list names logs steps lines dot_line begin refl))
begun_at names stages.After logs steps lines s = begun_by names lines [] logs s.logs_have (append-nil lines ∙ s.list)

begun : (names : List (List ℕ)) (s : State) (lines : List (List ℕ)) → IsSoFar names s lines → Begins names (text_of_lines lines)
begun names s lines so = begun_at names s.stage s.logs s.steps lines so

-- ---- the first bad line

-- lines that were taken, and the bytes of the next one
record IsReached (names : List (List ℕ)) (s : State) (number : ℕ) (lines : List (List ℕ)) (part : List ℕ) : Type 0 where
  so : IsSoFar names s lines
  taken : after_lines names begin lines ≡ Some s
  within_lines : AllByRecursion AreWithin lines
  count : number ≡ length lines + 1
  within_part : AreWithin part

-- from here on all is read so
reach : (names : List (List ℕ)) (s : State) (number : ℕ) (lines : List (List ℕ)) (part rest : List ℕ) → IsReached names s number lines part → read_text names (text_of_lines lines ++ rest) ≡ read_from names s number [] rest
reach names s number lines part rest r =
    let n : 1 + length lines ≡ number = omega (arith, r.count) in
    lines_walk names lines begin s 1 rest r.within_lines r.taken ∙ ap (λ m. read_from names s m [] rest) n

end_number : (stage : Stage) (logs : List (List Step)) (number n : ℕ) (part : List ℕ) → outcome_at_end stage logs number part ≡ Bad n → number ≡ n
end_number stages.Before logs number n part e = cc
end_number stages.Between logs number n part e = cc
end_number stages.Within logs number n part e = cc
end_number stages.After logs number n [] e = absurd cc
end_number stages.After logs number n (b ∷ bs) e = cc

bad_end : (names : List (List ℕ)) (s : State) (number n : ℕ) (lines : List (List ℕ)) (part : List ℕ) → IsReached names s number lines part → outcome_at_end s.stage s.logs number part ≡ Bad n → IsBad names (text_of_lines lines ++ (part ++ [])) n
bad_end names s number n lines part r e = record {
  lines = lines;
  rest = part;
  whole = ap (λ x. text_of_lines lines ++ x) (append-nil part);
  within = r.within_lines;
  count = sym (end_number s.stage s.logs number n part e) ∙ r.count;
  begins = begun names s lines r.so;
  wrong = end r.within_part (λ logs t.
      let read = text_written names logs (text_of_lines lines ++ part) t in
      let walk = reach names s number lines part part r ∙ ap (read_from names s number []) (sym (append-nil part)) ∙ byte_walk names s number [] part [] r.within_part in
      let same : Bad n ≡ Read logs = sym e ∙ sym walk ∙ read in
      cc);
}

bad_line : (names : List (List ℕ)) (s : State) (number n : ℕ) (lines : List (List ℕ)) (part bytes : List ℕ) → IsReached names s number lines part → after_line names s part ≡ None → number ≡ n → IsBad names (text_of_lines lines ++ (part ++ 10 ∷ bytes)) n
bad_line names s number n lines part bytes r none same = record {
  lines = lines;
  rest = part ++ 10 ∷ bytes;
  whole = refl;
  within = r.within_lines;
  count = sym same ∙ r.count;
  begins = begun names s lines r.so;
  wrong = line part bytes (sym (append_assoc part (10 ∷ []) bytes)) r.within_part (λ b.
      let shape = append_assoc (text_of_lines lines) (ended part) b.others ∙ ap (λ x. text_of_lines lines ++ x) (append_assoc part (10 ∷ []) b.others) in
      let read = text_written names b.logs ((text_of_lines lines ++ ended part) ++ b.others) b.whole in
      let walk = ap (read_text names) shape ∙ reach names s number lines part (part ++ 10 ∷ b.others) r ∙ end_walk names s number part b.others r.within_part ∙ ap (λ o. found_or o (λ next. read_from names next (number + 1) [] b.others) (Bad number)) none in
      let same : Bad number ≡ Read b.logs = sym walk ∙ read in
      cc);
}

abbrev GoesBad : List (List ℕ) → List ℕ → ℕ → Type 0
GoesBad names bytes n = (s : State) (number : ℕ) (lines : List (List ℕ)) (part : List ℕ) → IsReached names s number lines part → read_from names s number part bytes ≡ Bad n → IsBad names (text_of_lines lines ++ (part ++ bytes)) n

reached_next : (names : List (List ℕ)) (s next : State) (number : ℕ) (lines : List (List ℕ)) (part : List ℕ) → IsReached names s number lines part → after_line names s part ≡ Some next → IsReached names next (number + 1) (lines ++ part ∷ []) []
reached_next names s next number lines part r e = record {
  so = line_more names s lines part next r.within_part r.so e;
  taken = lines_joined names begin lines (part ∷ []) ∙ ap (option_and_then (λ x. after_lines names x (part ∷ []))) r.taken ∙ ap (option_and_then (λ x. Some x)) e;
  within_lines = all_joined AreWithin lines (part ∷ []) r.within_lines (r.within_part, tt);
  count = omega (arith, r.count, length-append lines (part ∷ []));
  within_part = tt;
}

bad_after : (names : List (List ℕ)) (s : State) (number n : ℕ) (lines : List (List ℕ)) (part : List ℕ) (b : ℕ) (bytes : List ℕ) → GoesBad names bytes n → IsReached names s number lines part → b ≡ 10
    → (answer : Option State) → after_line names s part ≡ answer → found_or answer (λ next. read_from names next (number + 1) [] bytes) (Bad number) ≡ Bad n → IsBad names (text_of_lines lines ++ (part ++ b ∷ bytes)) n
bad_after names s number n lines part b bytes goes r is None a e =
    let same : number ≡ n = cc in
    let P : List ℕ → Type 0 = λ t. IsBad names t n in
    subst P (ap (λ x. text_of_lines lines ++ (part ++ x ∷ bytes)) (sym is)) (bad_line names s number n lines part bytes r a same)
bad_after names s number n lines part b bytes goes r is (Some next) a e =
    let P : List ℕ → Type 0 = λ t. IsBad names t n in
    subst P (line_joins lines part bytes ∙ ap (λ x. text_of_lines lines ++ (part ++ x ∷ bytes)) (sym is)) (goes next (number + 1) (lines ++ part ∷ []) [] (reached_next names s next number lines part r a) e)

bad_by_byte : (names : List (List ℕ)) (s : State) (number n : ℕ) (lines : List (List ℕ)) (part : List ℕ) (b : ℕ) (bytes : List ℕ) → GoesBad names bytes n → IsReached names s number lines part → read_from names s number part (b ∷ bytes) ≡ Bad n → IsBad names (text_of_lines lines ++ (part ++ b ∷ bytes)) n
bad_by_byte names s number n lines part b bytes goes r e =
    elim (choice (nat_eq b 10) (found_or (after_line names s part) (λ next. read_from names next (number + 1) [] bytes) (Bad number)) (read_from names s number (part ++ b ∷ []) bytes) (Bad n) e) [
      | inl p ↦ bad_after names s number n lines part b bytes goes r (eqb-true b 10 p.0) (after_line names s part) refl p.1
      | inr p ↦
          let apart : b ≢ 10 = grind (arith, p.0) in
          let more : IsReached names s number lines (part ++ b ∷ []) = record { so = r.so; taken = r.taken; within_lines = r.within_lines; count = r.count; within_part = all_joined _ part (b ∷ []) r.within_part (apart, tt) } in
          let P : List ℕ → Type 0 = λ t. IsBad names (text_of_lines lines ++ t) n in
          subst P (append_assoc part (b ∷ []) bytes) (goes s number lines (part ++ b ∷ []) more p.1)
    ]

bytes_bad : (names : List (List ℕ)) (bytes : List ℕ) (n : ℕ) → GoesBad names bytes n
bytes_bad names [] n s number lines part r e = bad_end names s number n lines part r e
bytes_bad names (b ∷ bs) n s number lines part r e = bad_by_byte names s number n lines part b bs (bytes_bad names bs n) r e

pub text_bad : (names : List (List ℕ)) (bytes : List ℕ) (n : ℕ) → read_text names bytes ≡ Bad n → IsBad names bytes n
text_bad names bytes n e = bytes_bad names bytes n begin 1 [] [] (record { so = record { list = refl; logs_have = tt; steps_have = tt; fresh = refl }; taken = refl; within_lines = tt; count = refl; within_part = tt }) e

-- the code's answer
pub answer_reads : (names : List (List ℕ)) (bytes : List ℕ) (result : Result (Vec (Vec declared.Step Global) Global) LogFault) → Answers (read_text names bytes) result → Reads names bytes result
answer_reads names bytes (Ok logs) a = text_read names bytes (logs_of logs.items) a
answer_reads names bytes (Err (BadLog n)) a = text_bad names bytes n a
answer_reads names bytes (Err Memory) a = tt
