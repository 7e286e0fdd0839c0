-- What erasure tells is told of what is made of it.
use Rattle.std.proofs.Common.{◌≡◌, ◌∙◌, Result, Ok, Err, ap}
use Rattle.df_lang.specs.Program.{Program}
use Rattle.df_nerase.specs.declared.fault.EraseFault.{EraseFault}
use Rattle.df_nerase.specs.declared.fault.EraseFault.TheVariants as faults
use Rattle.df_nerase.specs.Refusals.{IsTold}

-- a refusal is handed on
pub told_on : (A B : Type 0) (program : Program) (fault : EraseFault) (q : Result B EraseFault) → q ≡ Err fault → IsTold {A = A} program (Err fault) → IsTold program q
told_on A B program fault q e told pos rule is =
    let f = told pos rule is in
    let h : fault ≡ faults.NotNative pos rule = cc in e ∙ ap (λ (x : EraseFault). Err x) h

-- of what is erased nothing is told
pub told_none : (A B : Type 0) (program : Program) (a : A) (q : Result B EraseFault) → IsTold {A = A} program (Ok a) → IsTold program q
told_none A B program a q told pos rule is = let f = told pos rule is in absurd (cc)
