-- What the machine answers, told of Main.
use Rattle.std.proofs.Common.{◌≡◌, ℕ, ◌+◌, ◌<◌, List, [], ◌++◌, take, drop, Option, refl, sym, ap, subst, ◌∙◌, append_assoc, take-append-drop}
use Rattle.df_base.specs.Outside.{Appends, AppendsPrefix}
use Rattle.df_lang.specs.Program.{Method, Program}
use Rattle.df_meaning.specs.Correct.{IsCorrect, AreCorrect, IsEntry}
use Rattle.df_nmach.specs.Value.{Value}
use Rattle.df_nmach.specs.State.{Code, Heap, State, Final}
use Rattle.df_nmach.specs.Step.{Stepped, On, Ended}
use Rattle.df_nmach.specs.Run.{and_then, machine_run, start_of, NeverFaults}
use Rattle.df_nvm.specs.Runs.{Ends, HasRun, IsCutAfter}
use Rattle.df_nerase.specs.Erasing.{method_number}
use Rattle.df_nback.specs.Run.{IsCompiled, RunsAsEntry}
use Rattle.df_ntop.specs.Entry.{IsEntryAt}
use Rattle.df_ntop.specs.Run.{IsRunOf, IsCutOff, IsStopped}
use Rattle.df_ntop.specs.Call.{HasEnded, IsUnended}
use Rattle.df_ntop.proofs.Steps.{text_so_far, one_end, one_more}
use Rattle.df_ntop.proofs.Texts.{part_of_whole, part_of_part}

module _ (runs : (program : Program) (code : Code) (number : ℕ) (method : Method) → IsCompiled program code → IsEntry program number method → IsCorrect program method → RunsAsEntry program code number method) where
  -- Main of a correct program
  abbrev main_run : (program : Program) (code : Code) (number : ℕ) → AreCorrect program → IsCompiled program code → (main : IsEntryAt program number) → RunsAsEntry program code number main.method
  main_run program code number correct compiled main = runs program code number main.method compiled main.entry (correct number main.method main.entry.declared)

  -- no number of steps from the beginning of Main breaks a demand
  pub never_faults : (program : Program) (code : Code) (number method : ℕ) (heap : Heap) (arguments : List Value)
      → AreCorrect program → IsCompiled program code → IsEntryAt program number → method ≡ method_number program number → heap ≡ [] → arguments ≡ []
      → NeverFaults code (start_of code method heap arguments)
  never_faults program code number method heap arguments correct compiled main same none empty =
      let run = main_run program code number correct compiled main in
      subst (λ (m : ℕ). NeverFaults code (start_of code m heap arguments)) (sym same)
      (subst (λ (h : Heap). NeverFaults code (start_of code (method_number program number) h arguments)) (sym none)
      (subst (λ (vs : List Value). NeverFaults code (start_of code (method_number program number) [] vs)) (sym empty) (run.on_machine []).never_faults))

  -- a machine of the code that stands at the beginning of Main
  pub record Stands (program : Program) (number : ℕ) (code own : Code) (start : State) : Type 0 where
    pub text : List ℕ
    pub run : IsRunOf program number code text
    pub own_is : own ≡ code
    pub starts : start_of code (method_number program number) [] [] ≡ On start
    pub steps : ℕ
    pub ends : machine_run code steps start ≡ Ended (record { results = []; heap = []; text = text })

  pub stands_at : (program : Program) (code own : Code) (number method : ℕ) (heap : Heap) (arguments : List Value) (start : State)
      → AreCorrect program → IsCompiled program code → IsEntryAt program number → method ≡ method_number program number → heap ≡ [] → arguments ≡ []
      → start_of code method heap arguments ≡ On start → own ≡ code → Stands program number code own start
  stands_at program code own number method heap arguments start correct compiled main same none empty begins is =
      let run = main_run program code number correct compiled main in
      let ends = run.on_machine [] in
      let starts : start_of code (method_number program number) [] [] ≡ On start =
      ap (λ (m : ℕ). start_of code m [] []) (sym same) ∙ ap (λ (h : Heap). start_of code method h []) (sym none) ∙ ap (λ (vs : List Value). start_of code method heap vs) (sym empty) ∙ begins in
      record {
        text = run.returned.store.text;
        run = record { method = main.method; entry = main.entry; compiled = compiled; runs = run; prints = refl };
        own_is = is;
        starts = starts;
        steps = ends.steps;
        ends = ap (λ (o : Stepped). and_then o (machine_run code ends.steps)) (sym starts ∙ ends.begins) ∙ ends.ends;
      }

  module _ (program : Program) (number : ℕ) (code own : Code) (start : State) (stands : Stands program number code own start) where
    -- so many steps of the machine are so many from the beginning
    from_start : (k : ℕ) (o : Stepped) → machine_run own k start ≡ o → and_then (start_of code (method_number program number) [] []) (machine_run code k) ≡ o
    from_start k o e = ap (λ (x : Stepped). and_then x (machine_run code k)) stands.starts ∙ ap (λ (c : Code). machine_run c k start) (sym stands.own_is) ∙ e

    end_from_start : and_then (start_of code (method_number program number) [] []) (machine_run code stands.steps) ≡ Ended (record { results = []; heap = []; text = stands.text })
    end_from_start = ap (λ (x : Stepped). and_then x (machine_run code stands.steps)) stands.starts ∙ stands.ends

    -- what is printed after so many steps, in front of the rest
    front_of : (k : ℕ) (s : State) → machine_run own k start ≡ On s → (more : List ℕ) × (stands.text ≡ s.text ++ more)
    front_of k s e = text_so_far code _ k stands.steps s _ (from_start k (On s) e) end_from_start

    pub tells_end : (fuel : ℕ) (results : List Value) (heap : Heap) (before now : Option (List ℕ)) → Ends own start fuel results heap before now
        → (t : List ℕ) × IsRunOf program number code t × HasEnded code (method_number program number) fuel t × Appends before now t
    tells_end fuel results heap before now ends =
        let final : Final = record { results = results; heap = heap; text = ends.text } in
        let there = from_start fuel (Ended final) ends.runs in
        let same : final ≡ record { results = []; heap = []; text = stands.text } = one_end code _ fuel stands.steps _ _ there end_from_start in
        (stands.text, stands.run, record { within = there ∙ ap Ended same }, subst (λ (x : List ℕ). Appends before now x) (ap (λ (f : Final). f.text) same) ends.puts)

    unended : (k : ℕ) (s : State) → machine_run own k start ≡ On s → IsUnended code (method_number program number) k stands.text s.text
    unended k s e =
        let front = front_of k s e in
        record { state = s; on = from_start k (On s) e; so_far = refl; more = front.0; is_part = front.1 }

    pub tells_fuel_spent : (fuel : ℕ) (before now : Option (List ℕ)) → HasRun own start fuel before now
        → (whole t : List ℕ) × IsRunOf program number code whole × IsUnended code (method_number program number) fuel whole t × Appends before now t
    tells_fuel_spent fuel before now has = (stands.text, has.state.text, stands.run, unended fuel has.state has.runs, has.puts)

    -- a prefix of a text after another one is one of both
    two_parts : (before now : Option (List ℕ)) (text next : List ℕ) (count : ℕ) → Appends before now (text ++ take count next) → AppendsPrefix before now (text ++ next)
    two_parts before now text next count put =
        part_of_whole before now (text ++ next) (text ++ take count next) (drop count next)
        (ap (λ (x : List ℕ). text ++ x) (sym (take-append-drop count next)) ∙ sym (append_assoc text (take count next) (drop count next))) put

    pub tells_write : (fuel : ℕ) (before now : Option (List ℕ)) → (k : ℕ) × (k < fuel) × IsCutAfter own start k before now → IsCutOff program code number before now
    tells_write fuel before now has =
        let cut = has.2 in
        let front = front_of (has.0 + 1) cut.next (one_more own has.0 start cut.state cut.next cut.runs cut.goes_on) in
        record {
          whole = stands.text;
          run = stands.run;
          puts = part_of_part before now stands.text cut.next.text front.0 front.1
              (subst (AppendsPrefix before now) (sym cut.prints) (two_parts before now cut.state.text cut.text cut.count cut.puts));
        }

    pub tells_memory : (fuel : ℕ) (before now : Option (List ℕ)) → (k : ℕ) × (k < fuel) × HasRun own start k before now → IsStopped program code number fuel before now
    tells_memory fuel before now has =
        let run = has.2 in
        record {
          whole = stands.text;
          run = stands.run;
          steps = has.0;
          few = has.1;
          text = run.state.text;
          unended = unended has.0 run.state run.runs;
          puts = run.puts;
        }
