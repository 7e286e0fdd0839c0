-- The run of the entry.
use Rattle.std.proofs.Common.{◌≡◌, ℕ, true, List, [], ◌∷◌, Some, refl, sym, subst}
use Rattle.df_lang.specs.Stmt.{Clause}
use Rattle.df_lang.specs.Program.{Param, Method, Program, types_of}
use Rattle.df_meaning.specs.Value.{Value}
use Rattle.df_meaning.specs.Types.{have_types}
use Rattle.df_meaning.specs.Outcome.{Gives}
use Rattle.df_meaning.specs.State.{begin}
use Rattle.df_meaning.specs.Whole.{whole, check_call}
use Rattle.df_meaning.specs.Correct.{IsCorrect, IsEntry}
use Rattle.df_nerase.specs.Erasing.{method_number}
use Rattle.df_nmach.specs.Value as machine
use Rattle.df_nmach.specs.State.{Code}
use Rattle.df_nemit.specs.Ending.{EndsWith}
use Rattle.df_nback.specs.Run.{nothing_yet, IsCompiled, RunsAsEntry, lower}

-- no places have no values
no_places : (vs : List Value) (lowered : List machine.Value) → lower [] vs ≡ Some lowered → lowered ≡ []
no_places [] lowered e = let f : Some [] ≡ Some lowered = e in cc
no_places (v ∷ vs) lowered e = cc

none_lowered : (params : List Param) (vs : List Value) (lowered : List machine.Value) → params ≡ [] → lower params vs ≡ Some lowered → lowered ≡ []
none_lowered params vs lowered none e = no_places vs lowered (subst (λ (ps : List Param). lower ps vs ≡ Some lowered) none e)

pub entry_runs : (program : Program) (code : Code) (number : ℕ) (method : Method) → IsCompiled program code → IsEntry program number method → IsCorrect program method → RunsAsEntry program code number method
entry_runs program code number method compiled entry correct =
    let have = subst (λ (ps : List Param). have_types program (types_of ps) [] ≡ true) (sym entry.parameters) refl in
    let met = subst (λ (clauses : List Clause). check_call (whole program 0) (begin [] nothing_yet) method.declared.pos clauses ≡ Gives (begin [] nothing_yet)) (sym entry.preconditions) refl in
    let run = compiled.runs number method entry.declared correct [] have (record { depth = 0; met = met }) in
    let given = none_lowered method.parameters [] run.given entry.parameters run.begins_lowered in
    let left = none_lowered method.results run.returned.values run.left entry.results run.ends_lowered in
    record {
      depth = run.depth;
      returned = run.returned;
      ends = run.ends;
      on_machine = λ heap.
          subst (λ (vs : List machine.Value). EndsWith code (method_number program number) heap vs [] run.returned.store.text) given
          (subst (λ (vs : List machine.Value). EndsWith code (method_number program number) heap run.given vs run.returned.store.text) left (run.on_machine heap));
    }
