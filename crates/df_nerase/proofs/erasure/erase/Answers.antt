use Rattle.std.proofs.Common.{◌≡◌, ◌∙◌, ℕ, true, List, Err, sym, ap, subst}
use Rattle.std.specs.Option.{option_map}
use Rattle.std.specs.List.{list_all}
use Rattle.df_base.specs.declared.pos.Pos.{Pos}
use Rattle.df_lang.specs.View.{program_of}
use Rattle.df_nplain.specs.Plain.{Method}
use Rattle.df_nplain.specs.Bounded.{is_bounded_method}
use Rattle.df_nplain.specs.Counts.{has_counts}
use Rattle.df_nerase.specs.First.{number_of, IsFirst}
use Rattle.df_nerase.specs.mirror.Finding.{rule_of, breach_of}
use Rattle.df_nerase.specs.declared.fault.EraseFault.TheVariants as faults
use Rattle.df_nerase.proofs.First.{none_is_native, first_is_told, nothing_told, told_is, broken_is_not_native}
use Rattle.df_nerase.proofs.Bounded.{native_programs_are_bounded}
use Rattle.df_nerase.proofs.Counts.{counts_are_kept}
use Rattle.df_nerase.proofs.erasure.erase.Goals as goal

pub returns-clause-native : goal.returns-clause-native
returns-clause-native c = none_is_native (program_of c.args.program.now) (sym c.first_broken.ensures ∙ ap (option_map breach_of) c.in_default.is)

pub returns-in-Some-clause-first : goal.returns-in-Some-clause-first
returns-in-Some-clause-first c = λ pos rule e.
    let program = program_of c.args.program.now in
    let told : IsFirst program c.in-Some.broken.pos (number_of (rule_of c.in-Some.broken.rule)) =
    first_is_told program (rule_of c.in-Some.broken.rule) c.in-Some.broken.pos (sym c.first_broken.ensures ∙ ap (option_map breach_of) c.in-Some.is) in
    let same : c.in-Some.broken.pos ≡ pos = cc in
    let told_number : c.number.result ≡ rule = cc in
    let number : number_of (rule_of c.in-Some.broken.rule) ≡ rule = sym c.number.ensures ∙ told_number in
    subst (λ (p : Pos). IsFirst program p rule) same (subst (λ (n : ℕ). IsFirst program c.in-Some.broken.pos n) number told)

pub returns-in-Some-clause-told : goal.returns-in-Some-clause-told
returns-in-Some-clause-told c = λ pos rule first.
    let program = program_of c.args.program.now in
    let is = told_is program (breach_of c.in-Some.broken) pos rule first (sym (ap (option_map breach_of) c.in-Some.is) ∙ c.first_broken.ensures) in
    ap (λ (p : Pos). Err (faults.NotNative p c.number.result)) is.0 ∙ ap (λ (n : ℕ). Err (faults.NotNative pos n)) (c.number.ensures ∙ is.1)

pub returns-in-Some-clause-compiles : goal.returns-in-Some-clause-compiles
returns-in-Some-clause-compiles c = λ native.
    let program = program_of c.args.program.now in
    let told : IsFirst program c.in-Some.broken.pos (number_of (rule_of c.in-Some.broken.rule)) =
    first_is_told program (rule_of c.in-Some.broken.rule) c.in-Some.broken.pos (sym c.first_broken.ensures ∙ ap (option_map breach_of) c.in-Some.is) in
    absurd (broken_is_not_native program c.in-Some.broken.pos (number_of (rule_of c.in-Some.broken.rule)) told native)

pub returns-in_err-count-clause-told : goal.returns-in_err-count-clause-told
returns-in_err-count-clause-told c = λ pos rule first.
    absurd (nothing_told (program_of c.args.program.now) pos rule (sym c.first_broken.ensures ∙ ap (option_map breach_of) c.in_default.is) first)

pub returns-in_err-methods-clause-told : goal.returns-in_err-methods-clause-told
returns-in_err-methods-clause-told c = λ pos rule first.
    absurd (nothing_told (program_of c.args.program.now) pos rule (sym c.first_broken.ensures ∙ ap (option_map breach_of) c.in_default.is) first)

pub returns-clause-told : goal.returns-clause-told
returns-clause-told c = λ pos rule first.
    absurd (nothing_told (program_of c.args.program.now) pos rule (sym c.first_broken.ensures ∙ ap (option_map breach_of) c.in_default.is) first)

pub new-requires-clause-bounded : goal.new-requires-clause-bounded
new-requires-clause-bounded c =
    let program = program_of c.args.program.now in
    let native = none_is_native program (sym c.first_broken.ensures ∙ ap (option_map breach_of) c.in_default.is) in
    subst (λ (methods : List Method). list_all is_bounded_method methods ≡ true) (sym c.in_ok-methods.ensures) (native_programs_are_bounded program c.args.program.now.is_well_typed native)

pub new-requires-clause-counted : goal.new-requires-clause-counted
new-requires-clause-counted c =
    let program = program_of c.args.program.now in
    subst (λ (methods : List Method). has_counts (record { methods = methods }) ≡ true) (sym c.in_ok-methods.ensures) (counts_are_kept program c.args.program.now.is_well_typed)
