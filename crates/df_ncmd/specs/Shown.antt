-- Lines that show the table.
use Rattle.std.specs.Prelude.{◌≡◌, List, [], ◌∷◌, codes, Some, None}
use Rattle.clap.specs.Words.{Text}
use Rattle.df_ncmd.specs.Line.{Bulk, Budget, Build, Check, Command, Prove, Run, Verify, line_of}

abbrev pub Asks : List Text → Command → Type 0
Asks words command = line_of words ≡ Some command

abbrev pub IsUsage : List Text → Type 0
IsUsage words = line_of words ≡ None

abbrev pub usual : Budget
usual = record { steps = 20000; rounds = 4 }

-- each command with its options, and files that look like options
pub record Lines : Type 0 where
  pub verify : Asks (codes "verify" ∷ codes "p" ∷ []) (Verify (codes "p") usual)
  pub prove : Asks (codes "prove" ∷ codes "p" ∷ []) (Prove (codes "p") usual)
  pub check : Asks (codes "check" ∷ codes "p" ∷ codes "l" ∷ []) (Check (codes "p") (codes "l"))
  pub build : Asks (codes "build" ∷ codes "p" ∷ []) (Build (codes "p") None usual)
  pub build_by_log : Asks (codes "build" ∷ codes "--proof" ∷ codes "l" ∷ codes "p" ∷ []) (Build (codes "p") (Some (codes "l")) usual)
  pub run : Asks (codes "run" ∷ codes "p" ∷ []) (Run (codes "p") None usual 9223372036854775807)
  pub run_by_log : Asks (codes "run" ∷ codes "p" ∷ codes "--proof=l" ∷ []) (Run (codes "p") (Some (codes "l")) usual 9223372036854775807)
  pub in_any_order : Asks (codes "run" ∷ codes "--rounds" ∷ codes "0" ∷ codes "--proof" ∷ codes "l" ∷ codes "p" ∷ codes "--fuel=5" ∷ codes "--steps" ∷ codes "1" ∷ []) (Run (codes "p") (Some (codes "l")) (record { steps = 1; rounds = 0 }) 5)
  pub bulk : Asks (codes "bulk" ∷ codes "0" ∷ codes "200" ∷ []) (Bulk 0 200)
  pub minus_alone : Asks (codes "verify" ∷ codes "-" ∷ []) (Verify (codes "-") usual)
  pub after_minuses : Asks (codes "verify" ∷ codes "--" ∷ codes "--steps" ∷ []) (Verify (codes "--steps") usual)
  pub minuses_after_minuses : Asks (codes "check" ∷ codes "--" ∷ codes "--" ∷ codes "p" ∷ []) (Check (codes "--") (codes "p"))
  pub file_of_a_name : Asks (codes "verify" ∷ codes "help" ∷ []) (Verify (codes "help") usual)
  pub empty_log : Asks (codes "build" ∷ codes "p" ∷ codes "--proof=" ∷ []) (Build (codes "p") (Some []) usual)

-- the ends of ranges
pub record Numbers : Type 0 where
  pub most_steps : Asks (codes "verify" ∷ codes "p" ∷ codes "--steps" ∷ codes "10000000" ∷ []) (Verify (codes "p") (record { steps = 10000000; rounds = 4 }))
  pub most_rounds : Asks (codes "verify" ∷ codes "p" ∷ codes "--rounds" ∷ codes "8" ∷ []) (Verify (codes "p") (record { steps = 20000; rounds = 8 }))
  pub no_fuel : Asks (codes "run" ∷ codes "p" ∷ codes "--fuel" ∷ codes "0" ∷ []) (Run (codes "p") None usual 0)
  pub most_fuel : Asks (codes "run" ∷ codes "p" ∷ codes "--fuel" ∷ codes "9223372036854775807" ∷ []) (Run (codes "p") None usual 9223372036854775807)
  pub greatest_seed : Asks (codes "bulk" ∷ codes "9223372036854775807" ∷ codes "1" ∷ []) (Bulk 9223372036854775807 1)

-- what is missing, past a range, doubled, no decimal, of another command, no option, or a call for help
pub record Usages : Type 0 where
  pub no_words : IsUsage ([])
  pub no_command : IsUsage (codes "p" ∷ [])
  pub no_file : IsUsage (codes "verify" ∷ [])
  pub two_files : IsUsage (codes "verify" ∷ codes "p" ∷ codes "q" ∷ [])
  pub no_log : IsUsage (codes "check" ∷ codes "p" ∷ [])
  pub option_before_command : IsUsage (codes "--steps" ∷ codes "5" ∷ codes "verify" ∷ codes "p" ∷ [])
  pub command_after_minuses : IsUsage (codes "--" ∷ codes "verify" ∷ codes "p" ∷ [])
  pub no_steps : IsUsage (codes "verify" ∷ codes "p" ∷ codes "--steps" ∷ codes "0" ∷ [])
  pub steps_past : IsUsage (codes "verify" ∷ codes "p" ∷ codes "--steps=10000001" ∷ [])
  pub rounds_past : IsUsage (codes "verify" ∷ codes "p" ∷ codes "--rounds" ∷ codes "9" ∷ [])
  pub fuel_past : IsUsage (codes "run" ∷ codes "p" ∷ codes "--fuel=9223372036854775808" ∷ [])
  pub seed_past : IsUsage (codes "bulk" ∷ codes "9223372036854775808" ∷ codes "1" ∷ [])
  pub no_methods : IsUsage (codes "bulk" ∷ codes "0" ∷ codes "0" ∷ [])
  pub methods_past : IsUsage (codes "bulk" ∷ codes "0" ∷ codes "201" ∷ [])
  pub doubled : IsUsage (codes "verify" ∷ codes "--steps" ∷ codes "5" ∷ codes "p" ∷ codes "--steps=5" ∷ [])
  pub log_doubled : IsUsage (codes "build" ∷ codes "--proof" ∷ codes "l" ∷ codes "p" ∷ codes "--proof=l" ∷ [])
  pub no_number : IsUsage (codes "verify" ∷ codes "p" ∷ codes "--steps" ∷ [])
  pub empty_number : IsUsage (codes "verify" ∷ codes "p" ∷ codes "--rounds=" ∷ [])
  pub zeros_in_front : IsUsage (codes "verify" ∷ codes "p" ∷ codes "--steps" ∷ codes "007" ∷ [])
  pub plus_in_front : IsUsage (codes "verify" ∷ codes "p" ∷ codes "--steps=+5" ∷ [])
  pub zero_in_front_of_seed : IsUsage (codes "bulk" ∷ codes "00" ∷ codes "1" ∷ [])
  pub plus_in_front_of_count : IsUsage (codes "bulk" ∷ codes "0" ∷ codes "+1" ∷ [])
  pub minus_in_front : IsUsage (codes "verify" ∷ codes "p" ∷ codes "--steps" ∷ codes "-5" ∷ [])
  pub minus_behind_sign : IsUsage (codes "verify" ∷ codes "p" ∷ codes "--steps=-5" ∷ [])
  pub no_digits : IsUsage (codes "verify" ∷ codes "p" ∷ codes "--steps" ∷ codes "5x" ∷ [])
  pub verify_with_fuel : IsUsage (codes "verify" ∷ codes "p" ∷ codes "--fuel" ∷ codes "5" ∷ [])
  pub verify_by_log : IsUsage (codes "verify" ∷ codes "p" ∷ codes "--proof" ∷ codes "l" ∷ [])
  pub build_with_fuel : IsUsage (codes "build" ∷ codes "p" ∷ codes "--fuel" ∷ codes "5" ∷ [])
  pub check_with_steps : IsUsage (codes "check" ∷ codes "p" ∷ codes "l" ∷ codes "--steps" ∷ codes "5" ∷ [])
  pub bulk_with_steps : IsUsage (codes "bulk" ∷ codes "0" ∷ codes "1" ∷ codes "--steps" ∷ codes "5" ∷ [])
  pub other_option : IsUsage (codes "verify" ∷ codes "p" ∷ codes "--step" ∷ codes "5" ∷ [])
  pub other_flag : IsUsage (codes "verify" ∷ codes "p" ∷ codes "-s" ∷ [])
  pub help : IsUsage (codes "help" ∷ [])
  pub help_of_a_command : IsUsage (codes "help" ∷ codes "run" ∷ [])
  pub help_flag : IsUsage (codes "--help" ∷ [])
  pub help_behind_command : IsUsage (codes "verify" ∷ codes "p" ∷ codes "--help" ∷ [])
  pub short_help : IsUsage (codes "verify" ∷ codes "-h" ∷ [])
  pub version : IsUsage (codes "--version" ∷ [])
