-- What the getters of `clap` find.
use Rattle.std.proofs.Common.{◌≡◌, ◌∙◌, ap, ap₂, sym, refl, [], ℕ, Bool, true, false, List, Option, Some, None, Result, Ok, Err, arith}
use Rattle.std.specs.Box.{box_value}
use Rattle.std.specs.Prelude.{unwrap_or, nat_le, ◌≤◌, nat_lt, ◌<◌, ◌^◌, ◌&&◌, if◌then◌else◌}
use Rattle.std.specs.Option.{option_and_then, option_map}
use Rattle.std.specs.Result.{result_ok}
use Rattle.std.specs.Borrow.{Bor}
use Rattle.std.specs.Str.Parse.{IsNumeral, ParsesUnsigned, digits_value, without_leading_plus}
use Rattle.std.proofs.Math.Bool.{and-true}
use Rattle.clap.specs.Words.{Row, Text, first_of, first_value, found_of, rows_of, subcommand_name_of, subcommand_rows_of}
use Rattle.clap.specs.ValueTests.{is_numeral, is_unsigned_in}
use Rattle.clap.specs.declared.builder.value_parser.ValueParser.TheVariants as parsers
use Rattle.clap.specs.declared.parser.matches.ArgMatches.{ArgMatches}
use Rattle.clap.specs.declared.parser.matches.ArgMatches.TheViews.{out-ArgMatches, out-SubCommand}
use Rattle.clap.proofs.ValueTestLemmas.{Accepts-accepts, accepts-Accepts}
use Rattle.clap.proofs.WalkLemmas.{both, first_value-rows}
use Rattle.df_ncmd.specs.Line.{is_decimal, named, number_in, of_named, value_of, within}
use Rattle.df_ncmd.specs.View.{rows_in}

-- the text that `get_str` finds
pub text_found : (m : ArgMatches) (id : Text) (r : Option (Bor Text)) → option_map (λ s. s.now) r ≡ first_value (found_of m) id
    → option_map (λ s. s.now) r ≡ first_of id (rows_in m)
text_found m id r found = found ∙ first_value-rows (found_of m) id

-- the parts of a text that passes the test, as tests
passes : (text : Text) → IsNumeral 10 (without_leading_plus text) → digits_value 10 (without_leading_plus text) < 2 ^ 64
    → (is_numeral (without_leading_plus text) ≡ true) × (nat_lt (digits_value 10 (without_leading_plus text)) (2 ^ 64) ≡ true)
passes text numeral small =
    let n = digits_value 10 (without_leading_plus text) in
    let low : 0 ≤ n = omega arith in
    let high : n ≤ n = omega arith in
    let all = both _ _ (Accepts-accepts false (parsers.Unsigned 0 n) text (numeral, small, low, high)) in
    (all.0, (both _ _ all.1).0)

module _ {E : Type 0} (text : Text) (r : Result ℕ E) (parsed : ParsesUnsigned 64 10 text r) where
  -- a text that `parse` refuses is out of all limits
  pub unread : result_ok r ≡ None → (least greatest : ℕ) → number_in least greatest text ≡ None
  unread none least greatest = go r parsed none (is_unsigned_in least greatest text) refl
    where
      go : (s : Result ℕ E) → ParsesUnsigned 64 10 text s → result_ok s ≡ None
          → (b : Bool) → is_unsigned_in least greatest text ≡ b → number_in least greatest text ≡ None
      go (Ok n) reads none b test = absurd cc
      go (Err e) refused none true passed =
          let accepted = accepts-Accepts false (parsers.Unsigned least greatest) text passed in
          absurd (refused (accepted.0, accepted.1))
      go (Err e) refused none false test = rw test refl

  -- what `parse` reads
  pub read : (n : ℕ) → result_ok r ≡ Some n → (IsNumeral 10 (without_leading_plus text) × (value_of text < 2 ^ 64)) × (n ≡ value_of text)
  read n some = go r parsed some
    where
      go : (s : Result ℕ E) → ParsesUnsigned 64 10 text s → result_ok s ≡ Some n
          → (IsNumeral 10 (without_leading_plus text) × (value_of text < 2 ^ 64)) × (n ≡ value_of text)
      go (Ok m) reads some = (reads.0, ap (λ (o : Option ℕ). unwrap_or o n) (sym some) ∙ reads.1)
      go (Err e) refused some = absurd cc

  -- the number, where the text is its decimal
  pub written : (n : ℕ) → result_ok r ≡ Some n → is_decimal text ≡ true
      → (least greatest : ℕ) → option_and_then (within least greatest) (Some n) ≡ number_in least greatest text
  written n some decimal least greatest =
      let found = read n some in
      let tests = passes text found.0.0 found.0.1 in
      let within_both = nat_le least (value_of text) && nat_le (value_of text) greatest in
      rw (found.1, tests.0, tests.1, decimal) (ap (λ (b : Bool). if b then Some (value_of text) else None) (sym (and-true within_both)))

-- two ways to find a pair, part by part
paired : {X : Type 0} (name : X → Text) (rows : X → List Row) (s : Option X) (r : Option (Bor Text × Bor ArgMatches))
    → option_map (λ p. p.0.now) r ≡ option_map name s
    → option_map (λ p. rows_in p.1.now) r ≡ option_map (λ (q : Text × List Row). q.1) (option_map (λ x. (name x, rows x)) s)
    → option_and_then of_named (option_map (λ x. (name x, rows x)) s) ≡ option_and_then (λ p. named p.0.now (rows_in p.1.now)) r
paired name rows None None is are = refl
paired name rows None (Some p) is are = cc
paired name rows (Some x) None is are = cc
paired name rows (Some x) (Some p) is are =
    let same : p.0.now ≡ name x = ap (λ (o : Option Text). unwrap_or o p.0.now) is in
    let all : rows_in p.1.now ≡ rows x = ap (λ (o : Option (List Row)). unwrap_or o []) are in
    sym (ap₂ named same all)

-- the command of the subcommand that `subcommand` finds
pub subcommand_found : (m : ArgMatches) (r : Option (Bor Text × Bor ArgMatches))
    → option_map (λ p. p.0.now) r ≡ subcommand_name_of m
    → option_map (λ p. rows_of (found_of p.1.now)) r ≡ option_map (λ p. p.1) (subcommand_rows_of m)
    → option_and_then of_named (subcommand_rows_of m) ≡ option_and_then (λ p. named p.0.now (rows_in p.1.now)) r
subcommand_found m r name rows =
    paired (λ b. (out-SubCommand (box_value b)).name.now) (λ b. rows_of (found_of (out-SubCommand (box_value b)).matches))
    (out-ArgMatches m).subcommand r name rows
