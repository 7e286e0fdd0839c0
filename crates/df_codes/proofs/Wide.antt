-- A call of a method of any number of locals.
use Rattle.std.proofs.Common.{◌≡◌, ℕ, [], codes, refl}
use Rattle.std.specs.Fmt.{digits}
use Rattle.df_nmach.specs.Step.{Ended}
use Rattle.df_nmach.specs.Run.{and_then, machine_run, start_of, NeverFaults}
use Rattle.df_codes.specs.Refusing.{refusing}
use Rattle.df_codes.proofs.Running.{ends_never_faults}

refusing_ends : (locals : ℕ) → and_then (start_of (refusing locals) 0 [] []) (machine_run (refusing locals) 7) ≡ Ended (record { results = []; heap = []; text = codes "12" })
unfolding digits
refusing_ends locals = refl

pub refusing_never : (locals : ℕ) → NeverFaults (refusing locals) (start_of (refusing locals) 0 [] [])
refusing_never locals = ends_never_faults (refusing locals) (start_of (refusing locals) 0 [] []) 7 _ (refusing_ends locals)
