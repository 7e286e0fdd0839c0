-- Each line that shows the table, computed.
use Rattle.std.proofs.Common.{refl, [], ◌∷◌, codes, Some, None}
use Rattle.std.specs.Fmt.{digits}
use Rattle.clap.proofs.OnLiterals.{clap_on_literals}
use Rattle.df_ncmd.specs.Line.{Bulk, Build, Check, Prove, Run, Verify}
use Rattle.df_ncmd.specs.Shown.{Asks, IsUsage, Lines, Numbers, Usages, usual}

verify-row : Asks (codes "verify" ∷ codes "p" ∷ []) (Verify (codes "p") usual)
unfolding clap_on_literals digits
verify-row = refl

prove-row : Asks (codes "prove" ∷ codes "p" ∷ []) (Prove (codes "p") usual)
unfolding clap_on_literals digits
prove-row = refl

check-row : Asks (codes "check" ∷ codes "p" ∷ codes "l" ∷ []) (Check (codes "p") (codes "l"))
unfolding clap_on_literals digits
check-row = refl

build-row : Asks (codes "build" ∷ codes "p" ∷ []) (Build (codes "p") None usual)
unfolding clap_on_literals digits
build-row = refl

build_by_log-row : Asks (codes "build" ∷ codes "--proof" ∷ codes "l" ∷ codes "p" ∷ []) (Build (codes "p") (Some (codes "l")) usual)
unfolding clap_on_literals digits
build_by_log-row = refl

run-row : Asks (codes "run" ∷ codes "p" ∷ []) (Run (codes "p") None usual 9223372036854775807)
unfolding clap_on_literals digits
run-row = refl

run_by_log-row : Asks (codes "run" ∷ codes "p" ∷ codes "--proof=l" ∷ []) (Run (codes "p") (Some (codes "l")) usual 9223372036854775807)
unfolding clap_on_literals digits
run_by_log-row = refl

in_any_order-row : Asks (codes "run" ∷ codes "--rounds" ∷ codes "0" ∷ codes "--proof" ∷ codes "l" ∷ codes "p" ∷ codes "--fuel=5" ∷ codes "--steps" ∷ codes "1" ∷ []) (Run (codes "p") (Some (codes "l")) (record { steps = 1; rounds = 0 }) 5)
unfolding clap_on_literals digits
in_any_order-row = refl

bulk-row : Asks (codes "bulk" ∷ codes "0" ∷ codes "200" ∷ []) (Bulk 0 200)
unfolding clap_on_literals digits
bulk-row = refl

minus_alone-row : Asks (codes "verify" ∷ codes "-" ∷ []) (Verify (codes "-") usual)
unfolding clap_on_literals digits
minus_alone-row = refl

after_minuses-row : Asks (codes "verify" ∷ codes "--" ∷ codes "--steps" ∷ []) (Verify (codes "--steps") usual)
unfolding clap_on_literals digits
after_minuses-row = refl

minuses_after_minuses-row : Asks (codes "check" ∷ codes "--" ∷ codes "--" ∷ codes "p" ∷ []) (Check (codes "--") (codes "p"))
unfolding clap_on_literals digits
minuses_after_minuses-row = refl

file_of_a_name-row : Asks (codes "verify" ∷ codes "help" ∷ []) (Verify (codes "help") usual)
unfolding clap_on_literals digits
file_of_a_name-row = refl

empty_log-row : Asks (codes "build" ∷ codes "p" ∷ codes "--proof=" ∷ []) (Build (codes "p") (Some []) usual)
unfolding clap_on_literals digits
empty_log-row = refl

most_steps-row : Asks (codes "verify" ∷ codes "p" ∷ codes "--steps" ∷ codes "10000000" ∷ []) (Verify (codes "p") (record { steps = 10000000; rounds = 4 }))
unfolding clap_on_literals digits
most_steps-row = refl

most_rounds-row : Asks (codes "verify" ∷ codes "p" ∷ codes "--rounds" ∷ codes "8" ∷ []) (Verify (codes "p") (record { steps = 20000; rounds = 8 }))
unfolding clap_on_literals digits
most_rounds-row = refl

no_fuel-row : Asks (codes "run" ∷ codes "p" ∷ codes "--fuel" ∷ codes "0" ∷ []) (Run (codes "p") None usual 0)
unfolding clap_on_literals digits
no_fuel-row = refl

most_fuel-row : Asks (codes "run" ∷ codes "p" ∷ codes "--fuel" ∷ codes "9223372036854775807" ∷ []) (Run (codes "p") None usual 9223372036854775807)
unfolding clap_on_literals digits
most_fuel-row = refl

greatest_seed-row : Asks (codes "bulk" ∷ codes "9223372036854775807" ∷ codes "1" ∷ []) (Bulk 9223372036854775807 1)
unfolding clap_on_literals digits
greatest_seed-row = refl

no_words-row : IsUsage ([])
unfolding clap_on_literals digits
no_words-row = refl

no_command-row : IsUsage (codes "p" ∷ [])
unfolding clap_on_literals digits
no_command-row = refl

no_file-row : IsUsage (codes "verify" ∷ [])
unfolding clap_on_literals digits
no_file-row = refl

two_files-row : IsUsage (codes "verify" ∷ codes "p" ∷ codes "q" ∷ [])
unfolding clap_on_literals digits
two_files-row = refl

no_log-row : IsUsage (codes "check" ∷ codes "p" ∷ [])
unfolding clap_on_literals digits
no_log-row = refl

option_before_command-row : IsUsage (codes "--steps" ∷ codes "5" ∷ codes "verify" ∷ codes "p" ∷ [])
unfolding clap_on_literals digits
option_before_command-row = refl

command_after_minuses-row : IsUsage (codes "--" ∷ codes "verify" ∷ codes "p" ∷ [])
unfolding clap_on_literals digits
command_after_minuses-row = refl

no_steps-row : IsUsage (codes "verify" ∷ codes "p" ∷ codes "--steps" ∷ codes "0" ∷ [])
unfolding clap_on_literals digits
no_steps-row = refl

steps_past-row : IsUsage (codes "verify" ∷ codes "p" ∷ codes "--steps=10000001" ∷ [])
unfolding clap_on_literals digits
steps_past-row = refl

rounds_past-row : IsUsage (codes "verify" ∷ codes "p" ∷ codes "--rounds" ∷ codes "9" ∷ [])
unfolding clap_on_literals digits
rounds_past-row = refl

fuel_past-row : IsUsage (codes "run" ∷ codes "p" ∷ codes "--fuel=9223372036854775808" ∷ [])
unfolding clap_on_literals digits
fuel_past-row = refl

seed_past-row : IsUsage (codes "bulk" ∷ codes "9223372036854775808" ∷ codes "1" ∷ [])
unfolding clap_on_literals digits
seed_past-row = refl

no_methods-row : IsUsage (codes "bulk" ∷ codes "0" ∷ codes "0" ∷ [])
unfolding clap_on_literals digits
no_methods-row = refl

methods_past-row : IsUsage (codes "bulk" ∷ codes "0" ∷ codes "201" ∷ [])
unfolding clap_on_literals digits
methods_past-row = refl

doubled-row : IsUsage (codes "verify" ∷ codes "--steps" ∷ codes "5" ∷ codes "p" ∷ codes "--steps=5" ∷ [])
unfolding clap_on_literals digits
doubled-row = refl

log_doubled-row : IsUsage (codes "build" ∷ codes "--proof" ∷ codes "l" ∷ codes "p" ∷ codes "--proof=l" ∷ [])
unfolding clap_on_literals digits
log_doubled-row = refl

no_number-row : IsUsage (codes "verify" ∷ codes "p" ∷ codes "--steps" ∷ [])
unfolding clap_on_literals digits
no_number-row = refl

empty_number-row : IsUsage (codes "verify" ∷ codes "p" ∷ codes "--rounds=" ∷ [])
unfolding clap_on_literals digits
empty_number-row = refl

zeros_in_front-row : IsUsage (codes "verify" ∷ codes "p" ∷ codes "--steps" ∷ codes "007" ∷ [])
unfolding clap_on_literals digits
zeros_in_front-row = refl

plus_in_front-row : IsUsage (codes "verify" ∷ codes "p" ∷ codes "--steps=+5" ∷ [])
unfolding clap_on_literals digits
plus_in_front-row = refl

zero_in_front_of_seed-row : IsUsage (codes "bulk" ∷ codes "00" ∷ codes "1" ∷ [])
unfolding clap_on_literals digits
zero_in_front_of_seed-row = refl

plus_in_front_of_count-row : IsUsage (codes "bulk" ∷ codes "0" ∷ codes "+1" ∷ [])
unfolding clap_on_literals digits
plus_in_front_of_count-row = refl

minus_in_front-row : IsUsage (codes "verify" ∷ codes "p" ∷ codes "--steps" ∷ codes "-5" ∷ [])
unfolding clap_on_literals digits
minus_in_front-row = refl

minus_behind_sign-row : IsUsage (codes "verify" ∷ codes "p" ∷ codes "--steps=-5" ∷ [])
unfolding clap_on_literals digits
minus_behind_sign-row = refl

no_digits-row : IsUsage (codes "verify" ∷ codes "p" ∷ codes "--steps" ∷ codes "5x" ∷ [])
unfolding clap_on_literals digits
no_digits-row = refl

verify_with_fuel-row : IsUsage (codes "verify" ∷ codes "p" ∷ codes "--fuel" ∷ codes "5" ∷ [])
unfolding clap_on_literals digits
verify_with_fuel-row = refl

verify_by_log-row : IsUsage (codes "verify" ∷ codes "p" ∷ codes "--proof" ∷ codes "l" ∷ [])
unfolding clap_on_literals digits
verify_by_log-row = refl

build_with_fuel-row : IsUsage (codes "build" ∷ codes "p" ∷ codes "--fuel" ∷ codes "5" ∷ [])
unfolding clap_on_literals digits
build_with_fuel-row = refl

check_with_steps-row : IsUsage (codes "check" ∷ codes "p" ∷ codes "l" ∷ codes "--steps" ∷ codes "5" ∷ [])
unfolding clap_on_literals digits
check_with_steps-row = refl

bulk_with_steps-row : IsUsage (codes "bulk" ∷ codes "0" ∷ codes "1" ∷ codes "--steps" ∷ codes "5" ∷ [])
unfolding clap_on_literals digits
bulk_with_steps-row = refl

other_option-row : IsUsage (codes "verify" ∷ codes "p" ∷ codes "--step" ∷ codes "5" ∷ [])
unfolding clap_on_literals digits
other_option-row = refl

other_flag-row : IsUsage (codes "verify" ∷ codes "p" ∷ codes "-s" ∷ [])
unfolding clap_on_literals digits
other_flag-row = refl

help-row : IsUsage (codes "help" ∷ [])
unfolding clap_on_literals digits
help-row = refl

help_of_a_command-row : IsUsage (codes "help" ∷ codes "run" ∷ [])
unfolding clap_on_literals digits
help_of_a_command-row = refl

help_flag-row : IsUsage (codes "--help" ∷ [])
unfolding clap_on_literals digits
help_flag-row = refl

help_behind_command-row : IsUsage (codes "verify" ∷ codes "p" ∷ codes "--help" ∷ [])
unfolding clap_on_literals digits
help_behind_command-row = refl

short_help-row : IsUsage (codes "verify" ∷ codes "-h" ∷ [])
unfolding clap_on_literals digits
short_help-row = refl

version-row : IsUsage (codes "--version" ∷ [])
unfolding clap_on_literals digits
version-row = refl

pub all_lines : Lines
all_lines = record {
  verify = verify-row;
  prove = prove-row;
  check = check-row;
  build = build-row;
  build_by_log = build_by_log-row;
  run = run-row;
  run_by_log = run_by_log-row;
  in_any_order = in_any_order-row;
  bulk = bulk-row;
  minus_alone = minus_alone-row;
  after_minuses = after_minuses-row;
  minuses_after_minuses = minuses_after_minuses-row;
  file_of_a_name = file_of_a_name-row;
  empty_log = empty_log-row;
}

pub all_numbers : Numbers
all_numbers = record {
  most_steps = most_steps-row;
  most_rounds = most_rounds-row;
  no_fuel = no_fuel-row;
  most_fuel = most_fuel-row;
  greatest_seed = greatest_seed-row;
}

pub all_usages : Usages
all_usages = record {
  no_words = no_words-row;
  no_command = no_command-row;
  no_file = no_file-row;
  two_files = two_files-row;
  no_log = no_log-row;
  option_before_command = option_before_command-row;
  command_after_minuses = command_after_minuses-row;
  no_steps = no_steps-row;
  steps_past = steps_past-row;
  rounds_past = rounds_past-row;
  fuel_past = fuel_past-row;
  seed_past = seed_past-row;
  no_methods = no_methods-row;
  methods_past = methods_past-row;
  doubled = doubled-row;
  log_doubled = log_doubled-row;
  no_number = no_number-row;
  empty_number = empty_number-row;
  zeros_in_front = zeros_in_front-row;
  plus_in_front = plus_in_front-row;
  zero_in_front_of_seed = zero_in_front_of_seed-row;
  plus_in_front_of_count = plus_in_front_of_count-row;
  minus_in_front = minus_in_front-row;
  minus_behind_sign = minus_behind_sign-row;
  no_digits = no_digits-row;
  verify_with_fuel = verify_with_fuel-row;
  verify_by_log = verify_by_log-row;
  build_with_fuel = build_with_fuel-row;
  check_with_steps = check_with_steps-row;
  bulk_with_steps = bulk_with_steps-row;
  other_option = other_option-row;
  other_flag = other_flag-row;
  help = help-row;
  help_of_a_command = help_of_a_command-row;
  help_flag = help_flag-row;
  help_behind_command = help_behind_command-row;
  short_help = short_help-row;
  version = version-row;
}
