-- What a fault of `clap` says of the words.
use Rattle.std.proofs.Common.{◌≡◌, ◌⊎◌, refl, List, [], ◌∷◌, inl, inr, Option, None, Result, Ok, Err, sym, ap, subst, ◌∙◌, true}
use Rattle.std.specs.Borrow.{Bor}
use Rattle.std.specs.Option.{option_and_then, option_map}
use Rattle.std.specs.Result.{IsErr, IsErrAnd}
use Rattle.std.proofs.lemmas.Result.{err_from_is_err_and}
use Rattle.clap.specs.Words.{App, FailsBy, HasMatchesOf, IsAmong, Kinds, Text, fault_of, found_of, is_simple_and_free, kind_of, rows_of, subcommand_name_of, subcommand_of, subcommand_rows_of}
use Rattle.clap.specs.declared.error.Error.{Error}
use Rattle.clap.specs.declared.error.kind.ErrorKind.{ErrorKind}
use Rattle.clap.specs.declared.error.kind.ErrorKind.TheVariants.{OutOfMemory}
use Rattle.clap.specs.declared.parser.matches.ArgMatches.{ArgMatches}
use Rattle.df_ncmd.specs.declared.command.Command as declared
use Rattle.df_ncmd.specs.declared.command.LineFault.{LineFault}
use Rattle.df_ncmd.specs.declared.command.LineFault.TheVariants as faults
use Rattle.df_ncmd.specs.Fault.{fault_for}
use Rattle.df_ncmd.specs.Line.{Command, line_of, named, of_named, unless_faulty}
use Rattle.df_ncmd.specs.Table.{table}
use Rattle.df_ncmd.specs.View.{Gives, ReadsLine, command_of, rows_in}
use Rattle.df_ncmd.proofs.Found.{subcommand_found}

pub other_kind : (kind : ErrorKind) → (kind ≡ OutOfMemory → ⊥) → fault_for kind ≡ faults.Usage
other_kind OutOfMemory differs = absurd (differs refl)
other_kind _ differs = refl

-- where a step fails, nothing is read
faulty : (kind : ErrorKind) (ks : Kinds) (found : Option Command) → IsAmong kind ks → unless_faulty ks found ≡ None
faulty kind [] found h = absurd h
faulty kind (k ∷ ks) found h = refl

refused_by : (kind : ErrorKind) (words : List Text) → IsAmong kind (fault_of table words) → line_of words ≡ None
refused_by kind words h = faulty kind (fault_of table words) (option_and_then of_named (subcommand_of table words)) h

by_kind : (kind : ErrorKind) (words : List Text) → (kind ≡ OutOfMemory) ⊎ IsAmong kind (fault_of table words)
    → ReadsLine words (Err (fault_for kind))
by_kind OutOfMemory words h = tt
by_kind kind words (inr among) = usage (fault_for kind) (refused_by kind words among)
  where
    usage : (fault : LineFault) → line_of words ≡ None → ReadsLine words (Err fault)
    usage faults.Usage none = none
    usage faults.Memory none = tt
by_kind kind words (inl memory) = subst (λ k. ReadsLine words (Err (fault_for k))) (sym memory) tt

-- the words are refused by a fault other than want of memory
pub refused : (words : List Text) (a : App) (e : Error) (r : Result ArgMatches Error) → a ≡ table → r ≡ Err e
    → (is_simple_and_free a ≡ true → FailsBy (fault_of a words) r)
    → ReadsLine words (Err (fault_for (kind_of e)))
refused words a e r same is fails =
    let of_table : is_simple_and_free table ≡ true → FailsBy {T = ArgMatches} (fault_of table words) (Err e) =
    subst (λ (b : App). is_simple_and_free b ≡ true → FailsBy {T = ArgMatches} (fault_of b words) (Err e)) same
    (subst (λ (x : Result ArgMatches Error). is_simple_and_free a ≡ true → FailsBy (fault_of a words) x) is fails) in
    by_kind (kind_of e) words (of_table refl)

-- the words are taken, and what is read is the table's command of them
pub taken : (words : List Text) (a : App) (m : ArgMatches) (r : Result ArgMatches Error) (result : Result declared.Command LineFault)
    → a ≡ table → r ≡ Ok m → (is_simple_and_free a ≡ true → FailsBy (fault_of a words) r) → HasMatchesOf a words m
    → Gives command_of result (option_and_then of_named (subcommand_rows_of m)) → ReadsLine words result
taken words a m r result same is fails matches given =
    let of_table : is_simple_and_free table ≡ true → fault_of table words ≡ [] =
    subst (λ (b : App). is_simple_and_free b ≡ true → fault_of b words ≡ []) same
    (subst (λ (x : Result ArgMatches Error). is_simple_and_free a ≡ true → FailsBy (fault_of a words) x) is fails) in
    let rows : subcommand_rows_of m ≡ subcommand_of table words =
    (subst (λ (b : App). HasMatchesOf b words m) same matches refl).1 in
    let read : option_and_then of_named (subcommand_rows_of m) ≡ line_of words =
    ap (option_and_then of_named) rows
    ∙ sym (ap (λ (ks : Kinds). unless_faulty ks (option_and_then of_named (subcommand_of table words))) (of_table refl)) in
    subst (λ (found : Option Command). Gives command_of result found) read given

-- the same, of what is answered
pub refused_at : (words : List Text) (a : App) (e : Error) (r : Result ArgMatches Error) (result : Result declared.Command LineFault)
    → a ≡ table → r ≡ Err e → (is_simple_and_free a ≡ true → FailsBy (fault_of a words) r)
    → IsErr result × IsErrAnd result (λ fault. fault ≡ fault_for (kind_of e)) → ReadsLine words result
refused_at words a e r result same is fails came =
    let found = err_from_is_err_and result came.1 in
    subst (λ (x : Result declared.Command LineFault). ReadsLine words x) (sym found.1)
    (subst (λ (f : LineFault). ReadsLine words (Err f)) (sym found.2) (refused words a e r same is fails))

-- the command of the subcommand that was met
pub met : (m : ArgMatches) (r : Option (Bor Text × Bor ArgMatches)) (result : Result declared.Command LineFault)
    → option_map (λ p. p.0.now) r ≡ subcommand_name_of m
    → option_map (λ p. rows_of (found_of p.1.now)) r ≡ option_map (λ p. p.1) (subcommand_rows_of m)
    → Gives command_of result (option_and_then (λ p. named p.0.now (rows_in p.1.now)) r)
    → Gives command_of result (option_and_then of_named (subcommand_rows_of m))
met m r result name rows given =
    subst (λ (found : Option Command). Gives command_of result found) (sym (subcommand_found m r name rows)) given
