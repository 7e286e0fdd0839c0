-- Correct methods run on the machine as they run with their ghosts.
use Rattle.std.proofs.Common.{◌≡◌, true, List, map, Option, Some, ap, subst}
use Rattle.std.specs.Option.{option_map}
use Rattle.df_lang.specs.Program.{Program}
use Rattle.df_lang.specs.Typing.{is_well_typed}
use Rattle.df_lang.specs.Native.{IsNative}
use Rattle.df_meaning.specs.Value.{Value}
use Rattle.df_nplain.specs.Values.{have_kinds}
use Rattle.df_nerase.specs.Erasing.{method_number, kinds_of, erase_method, erased}
use Rattle.df_nerase.specs.Running.{ArgumentsAreLowered, MethodsAreFound, CorrectMethodsRunAlike}
use Rattle.df_nmach.specs.Value as machine
use Rattle.df_nmach.specs.State.{Code}
use Rattle.df_nmach.specs.Run.{start_of, NeverFaults}
use Rattle.df_nemit.specs.Correct.{DoesWhat}
use Rattle.df_nemit.specs.Ending.{machine_value}
use Rattle.df_nback.specs.Run.{nothing_yet, IsCompiled, NeverFaultsWhereCorrect, code_for}
use Rattle.df_nback.proofs.KindsOfValues.{kinds_simple, kinds_long}

one_some : {A : Type 0} (o : Option A) (x y : A) → o ≡ Some x → o ≡ Some y → x ≡ y
one_some o x y e f = cc

pub is_compiled : (program : Program) (code : Code) → ArgumentsAreLowered → MethodsAreFound → CorrectMethodsRunAlike → is_well_typed program ≡ true → IsNative program → code ≡ code_for program → DoesWhat (erased program) code → IsCompiled program code
is_compiled program code lowered found alike well native is does = record {
  is = is;
  runs = λ number method there correct arguments have met.
      let run = alike program well native number method there correct arguments nothing_yet have met in
      let args = lowered program well native number method there arguments have in
      let are_of_kinds = subst (λ (vs : List Value). have_kinds (kinds_of program method.parameters) vs ≡ true) (one_some _ args.kept run.given args.lowered run.begins_lowered) args.are_of_kinds in
      record {
        depth = run.depth;
        returned = run.returned;
        ends = run.ends;
        given = map machine_value run.given;
        begins_lowered = ap (option_map (map machine_value)) run.begins_lowered;
        left = map machine_value run.left;
        ends_lowered = ap (option_map (map machine_value)) run.ends_lowered;
        on_machine = λ heap.
            does.begins run.depth (method_number program number) (erase_method program method) run.given (record { values = run.left; text = run.returned.store.text }) (found program number method there)
            (kinds_long (kinds_of program method.parameters) run.given are_of_kinds) (kinds_simple (kinds_of program method.parameters) run.given are_of_kinds) run.ends_alike heap;
      };
}

pub never_faults : (program : Program) (code : Code) → IsCompiled program code → NeverFaultsWhereCorrect program code
never_faults program code compiled number method there correct arguments have met given lowered heap =
    let run = compiled.runs number method there correct arguments have met in
    subst (λ (vs : List machine.Value). NeverFaults code (start_of code (method_number program number) heap vs)) (one_some _ run.given given run.begins_lowered lowered) (run.on_machine heap).never_faults
