-- Codes whose runs are computed to their ends.
use Rattle.std.proofs.Common.{◌≡◌, pos, List, [], ◌∷◌, codes, refl}
use Rattle.std.specs.Fmt.{digits}
use Rattle.df_nmach.specs.Value.{Value, Number}
use Rattle.df_nmach.specs.Step.{Ended}
use Rattle.df_nmach.specs.Run.{and_then, machine_run, start_of, NeverFaults}
use Rattle.df_codes.specs.Edges.{edges}
use Rattle.df_codes.specs.Numbers.{quotients, numbers}
use Rattle.df_codes.specs.Programs.{programs}
use Rattle.df_codes.proofs.Running.{ends_never_faults}

abbrev pub edge_arguments : List Value
edge_arguments = Number (pos 5) ∷ Number (pos 7) ∷ []

edges_end : and_then (start_of edges 0 [] edge_arguments) (machine_run edges 128) ≡ Ended (record { results = Number (pos 5) ∷ Number (pos 7) ∷ []; heap = []; text = codes "57true!hi65127A0127truefalsetruefalsetruefalsetruefalsefalsetruetruetruefalsetruetruefalse02138" })
unfolding digits
edges_end = refl

pub edges_never : NeverFaults edges (start_of edges 0 [] edge_arguments)
edges_never = ends_never_faults edges (start_of edges 0 [] edge_arguments) 128 _ edges_end

quotients_end : and_then (start_of quotients 0 [] []) (machine_run quotients 89) ≡ Ended (record { results = []; heap = []; text = codes "31-31-414185070591730234615865843651857942052863-85070591730234615865843651857942052864-170141183460469231731687303715884105728-170141183460469231731687303715884105727-21-100170141183460469231731687303715884105727170141183460469231731687303715884105726170141183460469231731687303715884105726-99" })
unfolding digits
quotients_end = refl

pub quotients_never : NeverFaults quotients (start_of quotients 0 [] [])
quotients_never = ends_never_faults quotients (start_of quotients 0 [] []) 89 _ quotients_end

numbers_end : and_then (start_of numbers 0 [] []) (machine_run numbers 70) ≡ Ended (record { results = []; heap = []; text = codes "170141183460469231731687303715884105727-170141183460469231731687303715884105728-170141183460469231731687303715884105727-1170141183460469231731687303715884105727170141183460469231731687303715884105727-170141183460469231731687303715884105728-999-99-99-170141183460469231731687303715884105727-99-170141183460469231731687303715884105728170141183460469231731687303715884105727" })
unfolding digits
numbers_end = refl

pub numbers_never : NeverFaults numbers (start_of numbers 0 [] [])
numbers_never = ends_never_faults numbers (start_of numbers 0 [] []) 70 _ numbers_end

seven_ends : and_then (start_of programs 2 [] []) (machine_run programs 95) ≡ Ended (record { results = []; heap = []; text = codes "false\n" })
seven_ends = refl

pub seven_never : NeverFaults programs (start_of programs 2 [] [])
seven_never = ends_never_faults programs (start_of programs 2 [] []) 95 _ seven_ends

loop_ends : and_then (start_of programs 3 [] []) (machine_run programs 40) ≡ Ended (record { results = []; heap = []; text = codes "012" })
unfolding digits
loop_ends = refl

pub loop_never : NeverFaults programs (start_of programs 3 [] [])
loop_never = ends_never_faults programs (start_of programs 3 [] []) 40 _ loop_ends

nest_ends : and_then (start_of programs 4 [] []) (machine_run programs 193) ≡ Ended (record { results = []; heap = []; text = codes "000010100110" })
unfolding digits
nest_ends = refl

pub nest_never : NeverFaults programs (start_of programs 4 [] [])
nest_never = ends_never_faults programs (start_of programs 4 [] []) 193 _ nest_ends
