-- What is safe declaration by declaration is correct as a whole.
use Rattle.std.specs.Prelude.{◌≡◌, true}
use Rattle.df_lang.specs.Program.{Program}
use Rattle.df_lang.specs.Typing.{is_well_typed}
use Rattle.df_lang.specs.Assignment.{IsDefinitelyAssigned}
use Rattle.df_meaning.specs.Modular.{IsSafe}
use Rattle.df_meaning.specs.Correct.{AreCorrect}

-- In a well-typed program that obeys definite assignment, modular safety of all methods gives total correctness of each.
abbrev pub SafeIsCorrect : Type 0
SafeIsCorrect = (program : Program) → is_well_typed program ≡ true → IsDefinitelyAssigned program → IsSafe program → AreCorrect program
