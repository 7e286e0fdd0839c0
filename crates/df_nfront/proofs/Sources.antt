-- A source is lawful for one program at most, and for none where it is refused.
use Rattle.std.proofs.Common.{◌≡◌, ℕ, ◌≤◌, Bool, true, false, List, [], length, Contains, ap, subst, length-append, arith}
use Rattle.df_base.specs.declared.refusal.Refusal.{Refusal}
use Rattle.df_lang.specs.Program.{Method, Program}
use Rattle.df_lang.specs.Assignment.{Use, unassigned_in, IsDefinitelyAssigned}
use Rattle.df_tok.specs.Token.{Token}
use Rattle.df_tok.specs.Division.{Divides}
use Rattle.df_tok.specs.Fault.{IsFault}
use Rattle.df_ntree.specs.File.{File}
use Rattle.df_ntree.specs.FileSpelling.{SpellsFile}
use Rattle.df_ntyping.specs.FileElaboration.{ElaboratesFile}
use Rattle.df_ntyping.specs.Laws.{OneProgram, ElaboratedIsFaultless}
use Rattle.df_ntyping.specs.Stages.{IsRefusedFile, rules, values}
use Rattle.df_ntyping.specs.Unassigned.{uses_missing, IsToldMissing}
use Rattle.df_nfront.specs.Source.{IsDivided, IsRead, IsLawful, IsUnlawful}
use Rattle.df_nfront.specs.Refused.{IsRefused, bytes, tokens, file}
use Rattle.df_tok.specs.Limits.{byte_limit, token_limit}

abbrev pub OneDivision : Type 0
OneDivision = (before : List (List ℕ)) (source : List ℕ) (all others : List Token) (after last : List (List ℕ)) → Divides before source all after → Divides before source others last → (all ≡ others) × (after ≡ last)

abbrev pub OneFile : Type 0
OneFile = (all : List Token) (one other : File) → SpellsFile one all → SpellsFile other all → one ≡ other

abbrev pub NoDivision : Type 0
NoDivision = (before : List (List ℕ)) (source : List ℕ) (r : Refusal) (all : List Token) (after : List (List ℕ)) → IsFault before source r → Divides before source all after → length source ≤ byte_limit → length all ≤ token_limit → ⊥

-- ---- definite programs

-- a method of whose locals each use has a value misses none
none_missing : (m : Method) (at_end : Bool) (one : Use) → unassigned_in m ≡ [] → Contains (uses_missing m at_end) one → ⊥
none_missing m false one none there =
    let less = there.1 in
    let whole = ap length none in
    let sum = length-append (uses_missing m false) (uses_missing m true) in
    omega (arith, less, whole, sum)
none_missing m true one none there =
    let less = there.1 in
    let whole = ap length none in
    let sum = length-append (uses_missing m false) (uses_missing m true) in
    omega (arith, less, whole, sum)

definite_is_not_refused : (program : Program) (r : Refusal) → IsDefinitelyAssigned program → IsToldMissing program r → ⊥
definite_is_not_refused program r definite told =
    let broken = told.least.broken in
    none_missing broken.0 told.missing.at_end told.missing.of (definite told.missing.method broken.0 broken.1) broken.2

-- ---- one program

module _ (one_division : OneDivision) (one_file : OneFile) where
  pub same_read : (source : List ℕ) (names others : List (List ℕ)) (one other : File) → IsRead source names one → IsRead source others other → (names ≡ others) × (one ≡ other)
  same_read source names others one other read its =
      let same = one_division [] source read.tokens its.tokens names others read.divided.divided its.divided.divided in
      (same.1, one_file its.tokens one other (subst (SpellsFile one) same.0 read.spelled) its.spelled)

  same_elaborates : (names others : List (List ℕ)) (one other : File) (program : Program) → names ≡ others → one ≡ other → ElaboratesFile names one program → ElaboratesFile others other program
  same_elaborates names others one other program same_names same_file elaborates =
      subst (λ (f : File). ElaboratesFile others f program) same_file (subst (λ (ns : List (List ℕ)). ElaboratesFile ns one program) same_names elaborates)

  -- the file of a lawful source elaborates
  its_file : (source : List ℕ) (names : List (List ℕ)) (one : File) (program : Program) → IsRead source names one → IsLawful source program → ElaboratesFile names one program
  its_file source names one program read lawful =
      let same = same_read source lawful.names names lawful.file one lawful.read read in
      same_elaborates lawful.names names lawful.file one program same.0 same.1 lawful.elaborates

  module _ (one_elaborated : OneProgram) where
    pub one_program : (source : List ℕ) (program other : Program) → IsLawful source program → IsLawful source other → program ≡ other
    one_program source program other lawful its =
        one_elaborated its.names its.file program other (its_file source its.names its.file program its.read lawful) its.elaborates

    module _ (no_division : NoDivision) (faultless : ElaboratedIsFaultless) where
      undivided : (source : List ℕ) (r : Refusal) → IsFault [] source r → IsUnlawful source
      undivided source r fault program lawful =
          let divided = lawful.read.divided in
          no_division [] source r lawful.read.tokens lawful.names fault divided.divided divided.short divided.few

      unspelled : (source : List ℕ) (names : List (List ℕ)) (all : List Token) → IsDivided source names all → ((one : File) → SpellsFile one all → ⊥) → IsUnlawful source
      unspelled source names all divided none program lawful =
          let same = one_division [] source lawful.read.tokens all lawful.names names lawful.read.divided.divided divided.divided in
          none lawful.file (subst (SpellsFile lawful.file) same.0 lawful.read.spelled)

      refused_file : (source : List ℕ) (names : List (List ℕ)) (one : File) (r : Refusal) → IsRead source names one → IsRefusedFile names one r → IsUnlawful source
      refused_file source names one r read (rules told) program lawful =
          faultless names one program (its_file source names one program read lawful) told.fault told.least.broken
      refused_file source names one r read (values other elaborates missing) program lawful =
          let same : program ≡ other = one_elaborated names one program other (its_file source names one program read lawful) elaborates in
          definite_is_not_refused other r (subst IsDefinitelyAssigned same lawful.definite) missing

      pub unlawful : (source : List ℕ) (names : List (List ℕ)) (r : Refusal) → IsRefused source names r → IsUnlawful source
      unlawful source names r (bytes fault) program lawful = undivided source r fault program lawful
      unlawful source names r (tokens all divided none which) program lawful = unspelled source names all divided none program lawful
      unlawful source names r (file one read is) program lawful = refused_file source names one r read is program lawful
