-- The numbers of a command lie within their limits.
use Rattle.std.proofs.Common.{◌≡◌, ap, refl, subst, ℕ, Bool, true, false, List, [], ◌∷◌, codes, Option, Some, None}
use Rattle.std.specs.Prelude.{◌≤◌, ◌&&◌, if◌then◌else◌, unwrap_or}
use Rattle.std.specs.Option.{option_and_then, option_map}
use Rattle.df_base.specs.Names.{same_text}
use Rattle.clap.specs.Words.{Kinds, Row, Text, fault_of, first_of, subcommand_of}
use Rattle.clap.specs.ValueTests.{is_unsigned_in}
use Rattle.clap.specs.declared.builder.value_parser.ValueParser.TheVariants as parsers
use Rattle.clap.proofs.ValueTestLemmas.{accepts-Accepts}
use Rattle.df_ncmd.specs.Line.{Budget, Build, Bulk, Check, Command, IsBudget, IsInLimits, Prove, Run, Verify, budget_in, is_decimal, line_of, named, number_in, number_of, of_build, of_bulk, of_check, of_named, of_numbers, of_prove, of_run, of_verify, unless_faulty, value_of}
use Rattle.df_ncmd.specs.Table.{table}
use Rattle.df_ncmd.specs.Limits.{step_limit, round_limit, fuel_limit, method_limit, seed_limit}

text_in_limits : (least greatest : ℕ) (text : Text) (n : ℕ) → number_in least greatest text ≡ Some n → (least ≤ n) × (n ≤ greatest)
text_in_limits least greatest text n is = go (is_unsigned_in least greatest text) refl (is_decimal text) is
  where
    go : (b : Bool) → is_unsigned_in least greatest text ≡ b → (d : Bool)
        → (if b && d then Some (value_of text) else None) ≡ Some n → (least ≤ n) × (n ≤ greatest)
    go true passed true is =
        let accepted = accepts-Accepts false (parsers.Unsigned least greatest) text passed in
        let same : value_of text ≡ n = ap (λ (o : Option ℕ). unwrap_or o n) is in
        subst (λ k. (least ≤ k) × (k ≤ greatest)) same (accepted.2, accepted.3)
    go true passed false is = cc
    go false refused d is = cc

number_in_limits : (id : Text) (least greatest : ℕ) (rows : List Row) (n : ℕ) → number_of id least greatest rows ≡ Some n → (least ≤ n) × (n ≤ greatest)
number_in_limits id least greatest rows n is = go (first_of id rows) is
  where
    go : (o : Option Text) → option_and_then (number_in least greatest) o ≡ Some n → (least ≤ n) × (n ≤ greatest)
    go None is = cc
    go (Some text) is = text_in_limits least greatest text n is

budget_in_limits : (rows : List Row) (b : Budget) → budget_in rows ≡ Some b → IsBudget b
budget_in_limits rows b is = go (number_of (codes "steps") 1 step_limit rows) (number_of (codes "rounds") 0 round_limit rows) refl refl is
  where
    go : (s r : Option ℕ) → number_of (codes "steps") 1 step_limit rows ≡ s → number_of (codes "rounds") 0 round_limit rows ≡ r
        → option_and_then (λ n. option_map (of_numbers n) r) s ≡ Some b → IsBudget b
    go None r steps rounds is = cc
    go (Some s) None steps rounds is = cc
    go (Some s) (Some r) steps rounds is =
        let same : of_numbers s r ≡ b = ap (λ (o : Option Budget). unwrap_or o b) is in
        let low = number_in_limits (codes "steps") 1 step_limit rows s steps in
        let high = number_in_limits (codes "rounds") 0 round_limit rows r rounds in
        subst IsBudget same (low.0, low.1, high.1)

module _ (command : Command) where
  after : {A : Type 0} (f : A → Option Command) (o : Option A) → ((x : A) → o ≡ Some x → f x ≡ Some command → IsInLimits command)
      → option_and_then f o ≡ Some command → IsInLimits command
  after f None limits is = cc
  after f (Some x) limits is = limits x refl is

  mapped : {A : Type 0} (f : A → Command) (o : Option A) → ((x : A) → o ≡ Some x → IsInLimits (f x))
      → option_map f o ≡ Some command → IsInLimits command
  mapped f None limits is = cc
  mapped f (Some x) limits is = subst IsInLimits (ap (λ (c : Option Command). unwrap_or c command) is) (limits x refl)

  either : (b : Bool) (x y : Option Command) → (x ≡ Some command → IsInLimits command) → (y ≡ Some command → IsInLimits command)
      → (if b then x else y) ≡ Some command → IsInLimits command
  either true x y first second is = first is
  either false x y first second is = second is

  verify_in_limits : (rows : List Row) → of_verify rows ≡ Some command → IsInLimits command
  verify_in_limits rows is = after (λ file. option_map (Verify file) (budget_in rows)) (first_of (codes "file") rows)
      (λ file found e. mapped (Verify file) (budget_in rows) (budget_in_limits rows) e) is

  prove_in_limits : (rows : List Row) → of_prove rows ≡ Some command → IsInLimits command
  prove_in_limits rows is = after (λ file. option_map (Prove file) (budget_in rows)) (first_of (codes "file") rows)
      (λ file found e. mapped (Prove file) (budget_in rows) (budget_in_limits rows) e) is

  check_in_limits : (rows : List Row) → of_check rows ≡ Some command → IsInLimits command
  check_in_limits rows is = after (λ file. option_map (Check file) (first_of (codes "log") rows)) (first_of (codes "file") rows)
      (λ file found e. mapped (Check file) (first_of (codes "log") rows) (λ log has. tt) e) is

  build_in_limits : (rows : List Row) → of_build rows ≡ Some command → IsInLimits command
  build_in_limits rows is =
      let proof = first_of (codes "proof") rows in
      after (λ file. option_map (Build file proof) (budget_in rows)) (first_of (codes "file") rows)
      (λ file found e. mapped (Build file proof) (budget_in rows) (budget_in_limits rows) e) is

  run_in_limits : (rows : List Row) → of_run rows ≡ Some command → IsInLimits command
  run_in_limits rows is =
      let proof = first_of (codes "proof") rows in
      let fuel = number_of (codes "fuel") 0 fuel_limit rows in
      after (λ file. option_and_then (λ budget. option_map (Run file proof budget) fuel) (budget_in rows)) (first_of (codes "file") rows)
      (λ file found e. after (λ budget. option_map (Run file proof budget) fuel) (budget_in rows)
      (λ budget has d. mapped (Run file proof budget) fuel
      (λ n given. (budget_in_limits rows budget has, (number_in_limits (codes "fuel") 0 fuel_limit rows n given).1)) d) e) is

  bulk_in_limits : (rows : List Row) → of_bulk rows ≡ Some command → IsInLimits command
  bulk_in_limits rows is =
      let count = number_of (codes "count") 1 method_limit rows in
      after (λ seed. option_map (Bulk seed) count) (number_of (codes "seed") 0 seed_limit rows)
      (λ seed has e. mapped (Bulk seed) count
      (λ n given.
      let low = number_in_limits (codes "seed") 0 seed_limit rows seed has in
      let high = number_in_limits (codes "count") 1 method_limit rows n given in
      (low.1, high.0, high.1)) e) is

  named_in_limits : (name : Text) (rows : List Row) → named name rows ≡ Some command → IsInLimits command
  named_in_limits name rows is =
      let none : Option Command = None in
      let last : Option Command = if same_text (codes "bulk") name then of_bulk rows else none in
      let fifth : Option Command = if same_text (codes "run") name then of_run rows else last in
      let fourth : Option Command = if same_text (codes "build") name then of_build rows else fifth in
      let third : Option Command = if same_text (codes "check") name then of_check rows else fourth in
      let second : Option Command = if same_text (codes "prove") name then of_prove rows else third in
      either (same_text (codes "verify") name) (of_verify rows) second (verify_in_limits rows)
      (either (same_text (codes "prove") name) (of_prove rows) third (prove_in_limits rows)
      (either (same_text (codes "check") name) (of_check rows) fourth (check_in_limits rows)
      (either (same_text (codes "build") name) (of_build rows) fifth (build_in_limits rows)
      (either (same_text (codes "run") name) (of_run rows) last (run_in_limits rows)
      (either (same_text (codes "bulk") name) (of_bulk rows) none (bulk_in_limits rows) (λ e. cc)))))) is

  found_in_limits : (ks : Kinds) (o : Option (Text × List Row)) → unless_faulty ks (option_and_then of_named o) ≡ Some command → IsInLimits command
  found_in_limits [] o is = after of_named o (λ p found is. named_in_limits p.0 p.1 is) is
  found_in_limits (k ∷ ks) o is = cc

-- the command of a line has its numbers within their limits
pub in_limits : (words : List Text) (command : Command) → line_of words ≡ Some command → IsInLimits command
in_limits words command is = found_in_limits command (fault_of table words) (subcommand_of table words) is
