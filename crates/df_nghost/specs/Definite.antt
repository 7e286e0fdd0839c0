-- That a program is definitely assigned has one proof.
use Rattle.std.specs.Prelude.{ℕ, refl, []}
use Rattle.std.specs.Coded.{Coded, Coded-set, code_by, coded×, coded_ℕ, coded_list}
use Rattle.df_lang.specs.Program.{Program}
use Rattle.df_lang.specs.Assignment.{Use, unassigned_in, IsDefinitelyAssigned}

use_code : Coded Use
use_code = code_by (ℕ × (ℕ × (ℕ × ℕ))) (coded× coded_ℕ (coded× coded_ℕ (coded× coded_ℕ coded_ℕ))) (λ u. (u.local, (u.name, (u.pos.line, u.pos.col))))
    (λ p. record { local = p.0; name = p.1.0; pos = record { line = p.1.1.0; col = p.1.1.1 } }) (λ _. refl)

pub IsDefinitelyAssigned-prop : (p : Program) → IsProp (IsDefinitelyAssigned p)
IsDefinitelyAssigned-prop p = λ f g i number method is. Coded-set (coded_list use_code) (unassigned_in method) [] (f number method is) (g number method is) i
