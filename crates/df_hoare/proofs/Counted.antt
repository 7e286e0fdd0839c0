-- Measured runs of methods count: definite assignment gives that also their measures read no local without a value.
use Rattle.std.proofs.Common.{◌≡◌, ℕ, true, List, [], length, Option, Some, sym, subst, ◌∙◌}
use Rattle.std.specs.Option.{option_map_or}
use Rattle.df_base.specs.declared.pos.Pos.{Pos}
use Rattle.df_lang.specs.Program.{Method, Program, method_at, types_of}
use Rattle.df_lang.specs.Measures.{loop_measure, method_measure}
use Rattle.df_lang.specs.Typing.{is_method, is_well_typed}
use Rattle.df_lang.specs.Assignment.{Assigned, unassigned_in, IsDefinitelyAssigned}
use Rattle.df_meaning.specs.Value.{Value}
use Rattle.df_meaning.specs.Types.{have_types}
use Rattle.df_meaning.specs.Outcome.{Dismissed}
use Rattle.df_meaning.specs.State.{Store, State, begin}
use Rattle.df_meaning.specs.Meaning.{Meaning, Loop}
use Rattle.df_meaning.specs.Whole.{check_call}
use Rattle.df_meaning.specs.Modular.{measure_values}
use Rattle.df_meaning.specs.Definite.{Counts, AreAssigned}
use Rattle.df_meaning.proofs.Wholes.{method_typed, types_length}
use Rattle.df_meaning.proofs.Kept.{KeepsTurns}
use Rattle.df_meaning.proofs.Counting.{AreValues, after_counts, owed_counts, measures_count, loop_measure_counts}
use Rattle.df_meaning.proofs.Definite.{AreLeft, AreResults, IsLoopAssigned, MeaningCounts, types_have, turn_counts}
use Rattle.df_meaning.proofs.DefiniteRuns.{first_locals, begun_assigned, preconditions_read, measure_reads, method_counts, by_depth_counts}
use Rattle.df_hoare.proofs.Measured.{measured_method, measured_call, measured_turn, measured}
use Rattle.df_hoare.proofs.Measuring.{measureds_keep}

method_counted : (program : Program) (m : Meaning) → MeaningCounts program m → KeepsTurns m → (method : Method) → is_method program method ≡ true → unassigned_in method ≡ [] → (at : Pos) (arguments : List Value) (store : Store)
    → length arguments ≡ length method.parameters → Counts (AreResults method) (measured_method m at method arguments store)
method_counted program m counts keeps method is definite at arguments store many =
    let few : ℕ = length method.parameters in
    let begun : AreAssigned (first_locals few) (begin arguments store) = begun_assigned arguments store few many in
    after_counts (λ (t : State). t ≡ begin arguments store) (AreResults method) (check_call m (begin arguments store) at method.preconditions) _
    (owed_counts m (first_locals few) (begin arguments store) begun at method.preconditions (preconditions_read program m counts keeps method is definite)) (λ s e.
    after_counts AreValues (AreResults method) (measure_values m s (method_measure method)) _
    (measures_count m (first_locals few) s (subst (λ (x : State). AreAssigned (first_locals few) x) (sym e) begun) (method_measure method) (measure_reads program m counts keeps method is definite)) (λ entry u.
    method_counts program m counts keeps method is definite at arguments store many))

call_counted : (program : Program) → is_well_typed program ≡ true → IsDefinitelyAssigned program → (m : Meaning) → m.program ≡ program → MeaningCounts program m → KeepsTurns m → (at : Pos) (callee : ℕ) (method : Method) (arguments : List Value)
    (store : Store) → method_at program callee ≡ Some method → length arguments ≡ length method.parameters → Counts (AreResults method) (measured_call m at callee arguments store)
call_counted program well definite m e counts keeps at callee method arguments store there many =
    subst (λ (o : Option Method). Counts (AreResults method) (option_map_or (λ x. measured_method m at x arguments store) o Dismissed)) (sym (subst (λ (p : Program). method_at p callee ≡ Some method) (sym e) there))
    (method_counted program m counts keeps method (method_typed program callee method well there) (definite callee method there) at arguments store many)

turn_counted : (program : Program) (m : Meaning) → MeaningCounts program m → (own : Method) (before : Assigned) (loop : Loop) (s : State) → IsLoopAssigned program own before loop → AreAssigned before s
    → Counts (AreLeft own before loop) (measured_turn m loop s)
turn_counted program m counts own before loop s is assigned =
    after_counts AreValues (AreLeft own before loop) (measure_values m s (loop_measure loop.guard loop.decreases)) _
    (loop_measure_counts m before s assigned loop.guard loop.decreases is.guard is.decreases) (λ vs u. turn_counts program m counts own before loop s is assigned)

measureds_count : (program : Program) → is_well_typed program ≡ true → IsDefinitelyAssigned program → (depth : ℕ) → MeaningCounts program (measured program depth)
measureds_count program well definite depth = by_depth_counts measured_call measured_turn program (call_counted program well definite) (turn_counted program) (measureds_keep program) depth

-- each run of a method counts
abbrev pub EachCounts : Program → Type 0
EachCounts program = (number : ℕ) (method : Method) (arguments : List Value) (store : Store) (depth : ℕ) → method_at program number ≡ Some method → have_types program (types_of method.parameters) arguments ≡ true
    → Counts (AreResults method) (measured_method (measured program depth) method.declared.pos method arguments store)

pub each_counts : (program : Program) → is_well_typed program ≡ true → IsDefinitelyAssigned program → EachCounts program
each_counts program well definite number method arguments store depth there typed =
    method_counted program (measured program depth) (measureds_count program well definite depth) (measureds_keep program depth) method (method_typed program number method well there) (definite number method there)
    method.declared.pos arguments store (types_have program (types_of method.parameters) arguments typed ∙ types_length method.parameters)
