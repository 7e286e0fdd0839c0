-- An assignment is there.
use Rattle.std.proofs.Common.{◌≡◌, pos, true, false, refl}
use Rattle.df_meaning.specs.Value.{Value, Truth, Character, Number}
use Rattle.df_form.specs.declared.node.Sort.{Sort}
use Rattle.df_form.specs.declared.node.Sort.TheVariants as sorts
use Rattle.df_form.specs.Truth.{Assignment, has_sort}

abbrev some_value : Sort → Value
some_value sorts.Number = Number (pos 0)
some_value sorts.Truth = Truth false
some_value sorts.Character = Character 0

pub some_assignment : Assignment
some_assignment = record { value = λ free. some_value free.sort; sorted = λ free. by free.sort }
  where
    by : (sort : Sort) → has_sort sort (some_value sort) ≡ true
    by sorts.Number = refl
    by sorts.Truth = refl
    by sorts.Character = refl
