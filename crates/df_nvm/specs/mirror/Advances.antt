-- What a step of the runner answers, which tells the number of results as well.
use Rattle.std.specs.Prelude.{◌≡◌, ℕ, ◌≤◌, List, [], length, take, reverse, Option}
use Rattle.df_nmach.specs.Value.{Value}
use Rattle.df_nmach.specs.State.{Code, State}
use Rattle.df_nmach.specs.Step as table
use Rattle.df_nmach.specs.Step.{machine_step}
use Rattle.df_nvm.specs.Runs.{GoesOn, IsCut}
use Rattle.df_nvm.specs.declared.vm.Advanced.{Advanced}
use Rattle.df_nvm.specs.declared.vm.Advanced.TheVariants as advances

-- A step from a state that has printed nothing. At the end the results are so many operands on top; where it
-- does not go on, the machine stands as before.
abbrev pub Advances : Advanced → Code → State → State → List Value → Option (List ℕ) → Option (List ℕ) → Type 0
Advances advances.On code old new operands before now = GoesOn code old new before now
Advances (advances.Ended k) code old new operands before now =
    (machine_step code old ≡ table.Ended (record { results = reverse (take k operands); heap = old.heap; text = [] })) × (k ≤ length operands) × (now ≡ before) × (new ≡ old)
Advances advances.Write code old new operands before now = IsCut code old before now × (new ≡ old)
Advances advances.Memory code old new operands before now = (now ≡ before) × (new ≡ old)
